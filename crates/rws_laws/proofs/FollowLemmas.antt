-- What of a session's statements, of their ids on links and of its history lasts from one step to the next.
use Rattle.std.proofs.Common.{◌≡◌, ◌≢◌, ℕ, suc, ◌+◌, ◌-◌, Bool, true, false, List, [], ◌∷◌, ◌++◌, filter, length, get_or, refl, sym, ap, subst, ◌∙◌, arith, inl, inr, Option, Some, None}
use Rattle.std.specs.Prelude.{◌⊎◌, is_some, take, slice_get, unwrap_or, Result, Ok, Err, if◌then◌else◌}
use Rattle.std.proofs.lemmas.Bool.{cases_eq}
use Rattle.std.proofs.lemmas.List.{get_or-set_other}
use Rattle.rws_msgs.specs.declared.prepare_ok.PrepareOk.{PrepareOk}
use Rattle.rws_reply.specs.declared.kind.Outcome.{Outcome}
use Rattle.rws_reply.specs.declared.kind.Outcome.TheVariants.{Done, Failed}
use Rattle.rws_handles.specs.declared.fault.ExecuteFault.{ExecuteFault}
use Rattle.rws_handles.specs.LinkIds.{Ids}
use Rattle.rws_handles.specs.Links.{left_all, left_on}
use Rattle.rws_handles.specs.PlainForm.{Plain, handle_in}
use Rattle.rws_handles.specs.Prepared.{LongData, Prepared, closed_later, executed, prepared, with_long_data, without_long_data}
use Rattle.rws_handles.specs.Slots.{Slots, closed_from, closed_numbers, is_closed, is_crowded, next_number, statement_at, updated, with_opened, with_opened_by, without_all, without_statement}
use Rattle.rws_handles.specs.Table.{Table, changed, closed, execute_of, left, named, open_at, swept}
use Rattle.rws_handles.proofs.SlotLemmas.{changes_end, changes_out, changes_set, found_within, none_at, not_there, set_in, some_number, taken_out, value_at}
use Rattle.rws_commands.specs.declared.history.HistoryEntry.{HistoryEntry}
use Rattle.rws_commands.specs.declared.history.PreparedAs.{PreparedAs}
use Rattle.rws_commands.specs.declared.judged.Judged.{Judged}
use Rattle.rws_commands.specs.declared.judged.Judged.TheVariants.{Leaves, IsOwn, IsRefused, IsSilent, HasTooMuch, Serves}
use Rattle.rws_commands.specs.declared.request.Request.{Request}
use Rattle.rws_commands.specs.declared.request.Request.TheVariants as requests
use Rattle.rws_commands.specs.Statements.{Statements, adding, closing, executing, failed_if, is_prepare, opened_on, piece_in, prepared_by, resetting, stands, swept_if, taken, taken_for, with_table}
use Rattle.rws_laws.proofs.HandleLemmas.{Bounded, next_some}
use Rattle.rws_laws.proofs.LinkIdLemmas.{HasOn, given_on, left_keeps, still_on}

-- the statement of this number is in the table
abbrev pub Alive : ℕ → Slots → Type 0
Alive number slots = is_some (statement_at slots number) ≡ true

-- the entry stands in a list
abbrev pub In : HistoryEntry → List HistoryEntry → Type 0
In entry [] = ⊥
In entry (first ∷ others) = (first ≡ entry) ⊎ In entry others

pub in_front : (entry : HistoryEntry) (list more : List HistoryEntry) → In entry list → In entry (list ++ more)
in_front entry [] more has = absurd has
in_front entry (first ∷ others) more (inl same) = inl same
in_front entry (first ∷ others) more (inr has) = inr (in_front entry others more has)

pub in_end : (entry : HistoryEntry) (list : List HistoryEntry) → In entry (list ++ entry ∷ [])
in_end entry [] = inl refl
in_end entry (first ∷ others) = inr (in_end entry others)

pub in_either : (entry last : HistoryEntry) (list : List HistoryEntry) → In entry (list ++ last ∷ []) → In entry list ⊎ (last ≡ entry)
in_either entry last [] (inl same) = inr same
in_either entry last [] (inr has) = absurd has
in_either entry last (first ∷ others) (inl same) = inl (inl same)
in_either entry last (first ∷ others) (inr has) = elim (in_either entry last others has) [
  | inl before ↦ inl (inr before)
  | inr same ↦ inr same
]

in_filtered : (keeps : HistoryEntry → Bool) (entry : HistoryEntry) (list : List HistoryEntry) → keeps entry ≡ true → In entry list → In entry (filter keeps list)
in_filtered keeps entry [] k has = absurd has
in_filtered keeps entry (first ∷ others) k (inl same) =
    let k : keeps first ≡ true = ap keeps same ∙ k in rw k (inl same)
in_filtered keeps entry (first ∷ others) k (inr has) = by_test (keeps first) (in_filtered keeps entry others k has)
  where
    by_test : (test : Bool) → In entry (filter keeps others) → In entry (if test then first ∷ filter keeps others else filter keeps others)
    by_test true rest = inr rest
    by_test false rest = rest

filtered_in : (keeps : HistoryEntry → Bool) (entry : HistoryEntry) (list : List HistoryEntry) → In entry (filter keeps list) → In entry list
filtered_in keeps entry [] has = absurd has
filtered_in keeps entry (first ∷ others) has = by_test (keeps first) has (filtered_in keeps entry others)
  where
    by_test : (test : Bool) → In entry (if test then first ∷ filter keeps others else filter keeps others) → (In entry (filter keeps others) → In entry others)
        → (first ≡ entry) ⊎ In entry others
    by_test true (inl same) rest = inl same
    by_test true (inr has) rest = inr (rest has)
    by_test false has rest = inr (rest has)

-- Tables

-- no statement comes, and those that stay keep their ids
pub record Lasts (old new : Table) : Type 0 where
  pub alive : (number : ℕ) → Alive number new.statements → Alive number old.statements
  pub ids : (link number : ℕ) → Alive number new.statements → HasOn link number old.links → HasOn link number new.links

same_lasts : (old new : Table) → new.statements ≡ old.statements → new.links ≡ old.links → Lasts old new
same_lasts old new s l = record {
  alive = λ number a. subst (λ (slots : Slots). Alive number slots) s a;
  ids = λ link number a has. subst (λ (links : List Ids). HasOn link number links) (sym l) has;
}

updated_alive : (change : Prepared → Prepared) (at number : ℕ) (slots : Slots) → Alive number (updated change at slots) → Alive number slots
updated_alive change at number slots a = by_found (statement_at slots at) refl
  where
    by_found : (found : Option Prepared) → statement_at slots at ≡ found → Alive number slots
    by_found None f = let a : Alive number slots = rw f at a in a
    by_found (Some statement) f =
        let changes = changes_set slots at (Some (change statement)) slots.freed (some_number at slots statement f) (found_within at slots statement f) in
        elim (cases_eq number at) [
          | inl same ↦ subst (λ (n : ℕ). Alive n slots) (sym same) (ap is_some f)
          | inr apart ↦
              let same = changes.others number apart in
              let a : Alive number (record slots { entries = _ }) = rw f at a in
              ap is_some (sym same) ∙ a
        ]

changed_lasts : (change : Prepared → Prepared) (table : Table) (handle : ℕ) → Lasts table (changed change table handle)
changed_lasts change table handle = record {
  alive = λ number a. updated_alive change (named table.last handle) number table.statements a;
  ids = λ link number a has. has;
}

-- one that leaves
one_left : (at number : ℕ) (slots : Slots) → Alive number (without_statement at slots) → Alive number slots × (number ≢ at)
one_left at number slots a = by_found (statement_at slots at) refl
  where
    by_found : (found : Option Prepared) → statement_at slots at ≡ found → Alive number slots × (number ≢ at)
    by_found None f =
        let a : Alive number slots = subst (λ (s : Slots). Alive number s) (not_there at slots f) a in
        (a, (λ same. let clash : false ≡ true = sym (ap is_some f) ∙ ap (λ (n : ℕ). is_some (statement_at slots n)) (sym same) ∙ a in cc))
    by_found (Some was) f =
        let changes = changes_out at slots was f in
        let a = subst (λ (s : Slots). Alive number s) (taken_out at slots was f) a in
        let apart : number ≢ at = λ same. (let clash : false ≡ true = sym (ap is_some (ap (statement_at (set_in slots at None (slots.freed ++ at ∷ []))) same ∙ changes.here)) ∙ a in cc) in
        (ap is_some (sym (changes.others number apart)) ∙ a, apart)

all_left : (numbers : List ℕ) (slots : Slots) (links : List Ids) (number : ℕ) → Alive number (without_all numbers slots)
    → Alive number slots × ((link : ℕ) → HasOn link number links → HasOn link number (left_all numbers links))
all_left [] slots links number a = (a, (λ link has. has))
all_left (first ∷ others) slots links number a =
    let rest = all_left others (without_statement first slots) (left_on first links) number a in
    let one = one_left first number slots rest.0 in
    (one.0, (λ link has. rest.1 link (left_keeps first link number links one.1 has)))

left_lasts : (number : ℕ) (table : Table) → Lasts table (left number table)
left_lasts number table = record {
  alive = λ n a. (one_left number n table.statements a).0;
  ids = λ link n a has. left_keeps number link n table.links (one_left number n table.statements a).1 has;
}

swept_lasts : (table : Table) → Lasts table (swept table)
swept_lasts table = record {
  alive = λ n a. (all_left (closed_numbers table.statements) table.statements table.links n a).0;
  ids = λ link n a has. (all_left (closed_numbers table.statements) table.statements table.links n a).1 link has;
}

closed_lasts : (later : Bool) (table : Table) (handle : ℕ) → Lasts table (closed later table handle)
closed_lasts true table handle = changed_lasts closed_later table handle
closed_lasts false table handle = left_lasts (named table.last handle) table

-- a statement that isn't closed stays where the others are swept

abbrev NotIn : ℕ → List ℕ → Type 0
NotIn number [] = Unit {0}
NotIn number (first ∷ others) = (number ≢ first) × NotIn number others

one_stays : (at number : ℕ) (slots : Slots) → number ≢ at → statement_at (without_statement at slots) number ≡ statement_at slots number
one_stays at number slots apart = by_found (statement_at slots at) refl
  where
    by_found : (found : Option Prepared) → statement_at slots at ≡ found → statement_at (without_statement at slots) number ≡ statement_at slots number
    by_found None f = ap (λ (s : Slots). statement_at s number) (not_there at slots f)
    by_found (Some was) f = ap (λ (s : Slots). statement_at s number) (taken_out at slots was f) ∙ (changes_out at slots was f).others number apart

all_stay : (numbers : List ℕ) (slots : Slots) (number : ℕ) → NotIn number numbers → statement_at (without_all numbers slots) number ≡ statement_at slots number
all_stay [] slots number none = refl
all_stay (first ∷ others) slots number none =
    all_stay others (without_statement first slots) number none.1 ∙ one_stays first number slots none.0

not_closed : (at number : ℕ) (entries : List (Option Prepared)) → ((i : ℕ) → at + i ≡ number → is_closed (get_or entries i None) ≡ false)
    → NotIn number (closed_from at entries)
not_closed at number [] open_ = tt
not_closed at number (entry ∷ entries) open_ =
    by_test (is_closed entry) refl (not_closed (at + 1) number entries (λ i e. open_ (suc i) (omega (arith, e))))
  where
    by_test : (test : Bool) → is_closed entry ≡ test → NotIn number (closed_from (at + 1) entries)
        → NotIn number (if test then at ∷ closed_from (at + 1) entries else closed_from (at + 1) entries)
    by_test true t rest =
        ((λ same. let here : is_closed entry ≡ false = open_ 0 (omega (arith, same)) in let clash : true ≡ false = sym t ∙ here in cc), rest)
    by_test false t rest = rest

pub open_stays : (slots : Slots) (number : ℕ) (statement : Prepared) → statement_at slots number ≡ Some statement → statement.closed ≡ false
    → statement_at (without_all (closed_numbers slots) slots) number ≡ Some statement
open_stays slots number statement f c =
    let some = some_number number slots statement f in
    let at = sym (value_at slots number some) ∙ f in
    all_stay (closed_numbers slots) slots number
    (not_closed 1 number slots.entries (λ i e.
    let same : i ≡ number - 1 = omega (arith, e) in
    ap (λ (k : ℕ). is_closed (get_or slots.entries k None)) same ∙ ap is_closed at ∙ c))
    ∙ f

-- Statements

pub record Follows (s now : Statements) : Type 0 where
  pub table : Lasts s.table now.table
  pub stays : (entry : HistoryEntry) (how : PreparedAs) → entry.statement ≡ Some how → Alive how.number now.table.statements → In entry s.history
      → In entry now.history
  pub was : (entry : HistoryEntry) → In entry now.history → In entry s.history

pub same_follows : (s now : Statements) → now.table.statements ≡ s.table.statements → now.table.links ≡ s.table.links → now.history ≡ s.history
    → Follows s now
same_follows s now t l h = record {
  table = same_lasts s.table now.table t l;
  stays = λ entry how e a has. subst (In entry) (sym h) has;
  was = λ entry has. subst (In entry) h has;
}

pub table_follows : (s : Statements) (table : Table) → Lasts s.table table → Follows s (record s { table = table })
table_follows s table lasts = record { table = lasts; stays = λ entry how e a has. has; was = λ entry has. has }

with_table_follows : (s : Statements) (table : Table) → Lasts s.table table → Follows s (with_table table s)
with_table_follows s table lasts = record {
  table = lasts;
  stays = λ entry how e a has.
      in_filtered (λ x. stands table.statements x.statement) entry s.history (ap (stands table.statements) e ∙ a) has;
  was = λ entry has. filtered_in (λ x. stands table.statements x.statement) entry s.history has;
}

if_lasts : (test : Bool) (old now before : Table) → Lasts old now → Lasts old before → Lasts old (if test then now else before)
if_lasts true old now before its others = its
if_lasts false old now before its others = others

executing_lasts : (found : Result Plain ExecuteFault) (handle : ℕ) (table : Table) → Lasts table (executing found handle table)
executing_lasts (Ok plain) handle table = changed_lasts (executed plain.types) table handle
executing_lasts (Err fault) handle table = same_lasts table table refl refl

adding_lasts : (found : Option (ℕ × LongData)) (table : Table) → Lasts table (adding found table)
adding_lasts (Some (handle, piece)) table =
    if_lasts (is_some (open_at table handle)) table (changed (λ statement. with_long_data statement piece) table handle) table
    (changed_lasts (λ statement. with_long_data statement piece) table handle) (same_lasts table table refl refl)
adding_lasts None table = same_lasts table table refl refl

resetting_lasts : (found : Option ℕ) (table : Table) → Lasts table (resetting found table)
resetting_lasts (Some handle) table =
    if_lasts (is_some (open_at table handle)) table (changed without_long_data table handle) table
    (changed_lasts without_long_data table handle) (same_lasts table table refl refl)
resetting_lasts None table = same_lasts table table refl refl

closing_follows : (later : Bool) (handle : Option ℕ) (s : Statements) → Follows s (closing later handle s)
closing_follows later None s = same_follows s s refl refl refl
closing_follows later (Some handle) s = by_test (is_some (open_at s.table handle)) refl
  where
    by_test : (test : Bool) → is_some (open_at s.table handle) ≡ test → Follows s (closing later (Some handle) s)
    by_test true t = rw t (with_table_follows s (closed later s.table handle) (closed_lasts later s.table handle))
    by_test false t = rw t (same_follows s s refl refl refl)

taken_follows : (request : Request) (in_transaction : Bool) (payload : List ℕ) (s : Statements) → Follows s (taken request in_transaction payload s)
taken_follows requests.CloseStatement in_transaction payload s = closing_follows in_transaction (handle_in payload) s
taken_follows requests.Execute in_transaction payload s =
    table_follows s _ (executing_lasts (execute_of s.table payload) (unwrap_or (handle_in payload) 0) s.table)
taken_follows requests.SendLongData in_transaction payload s = table_follows s _ (adding_lasts (piece_in payload) s.table)
taken_follows requests.ResetStatement in_transaction payload s = table_follows s _ (resetting_lasts (handle_in payload) s.table)
taken_follows requests.Prepare in_transaction payload s = same_follows s s refl refl refl
taken_follows requests.Quit in_transaction payload s = same_follows s s refl refl refl
taken_follows requests.Ping in_transaction payload s = same_follows s s refl refl refl
taken_follows requests.Query in_transaction payload s = same_follows s s refl refl refl
taken_follows requests.FieldList in_transaction payload s = same_follows s s refl refl refl
taken_follows requests.InitDb in_transaction payload s = same_follows s s refl refl refl
taken_follows requests.Unsupported in_transaction payload s = same_follows s s refl refl refl
taken_follows requests.Unknown in_transaction payload s = same_follows s s refl refl refl

pub failed_follows : (prepares : Bool) (s : Statements) → Follows s (failed_if prepares s)
failed_follows true s = same_follows s (failed_if true s) refl refl refl
failed_follows false s = same_follows s s refl refl refl

pub taken_for_follows : (judged : Judged) (request : Request) (in_transaction : Bool) (payload : List ℕ) (s : Statements)
    → Follows s (taken_for judged request in_transaction payload s)
taken_for_follows (IsRefused error) request in_transaction payload s = failed_follows (is_prepare request) s
taken_for_follows (HasTooMuch bytes) request in_transaction payload s = same_follows s s refl refl refl
taken_for_follows Leaves request in_transaction payload s = taken_follows request in_transaction payload s
taken_for_follows IsOwn request in_transaction payload s = taken_follows request in_transaction payload s
taken_for_follows IsSilent request in_transaction payload s = taken_follows request in_transaction payload s
taken_for_follows (Serves command) request in_transaction payload s = taken_follows request in_transaction payload s

pub swept_follows : (ends : Bool) (s : Statements) → Follows s (swept_if ends s)
swept_follows true s = with_table_follows s (swept s.table) (swept_lasts s.table)
swept_follows false s = same_follows s s refl refl refl

-- A statement comes

-- on this link, under the next number, if the reply told of one
pub record Comes (link : ℕ) (outcome : Outcome) (named : Option PrepareOk) (old new : Table) : Type 0 where
  pub alive : (number : ℕ) → Alive number new.statements
      → ((number ≡ next_number old.statements) × HasOn link number new.links × ((status : ℕ) × (outcome ≡ Done status)) × ((ok : PrepareOk) × (named ≡ Some ok)))
      ⊎ Alive number old.statements
  pub ids : (at number : ℕ) → HasOn at number old.links → HasOn at number new.links

no_comes : (link : ℕ) (outcome : Outcome) (named : Option PrepareOk) (old new : Table) → new.statements ≡ old.statements → new.links ≡ old.links
    → Comes link outcome named old new
no_comes link outcome named old new s l = record {
  alive = λ number a. inr (subst (λ (slots : Slots). Alive number slots) s a);
  ids = λ at number has. subst (λ (links : List Ids). HasOn at number links) (sym l) has;
}

others_set : (slots : Slots) (number : ℕ) (entry : Option Prepared) (given : List ℕ) → number ≢ 0 → (other : ℕ) → other ≢ number
    → statement_at (set_in slots number entry given) other ≡ statement_at slots other
others_set slots number entry given some other apart = elim (cases_eq other 0) [
  | inl none ↦ none_at (set_in slots number entry given) other none ∙ sym (none_at slots other none)
  | inr any ↦
      let places : other - 1 ≢ number - 1 = λ (same : other - 1 ≡ number - 1). apart (omega arith) in
      value_at (set_in slots number entry given) other any ∙ get_or-set_other slots.entries (number - 1) (other - 1) entry None places
      ∙ sym (value_at slots other any)
]

opened_others : (slots : Slots) (statement : Prepared) (number : ℕ) → Bounded slots → number ≢ next_number slots → Alive number (with_opened statement slots)
    → Alive number slots
opened_others slots statement number bounded apart a = by_freed slots.freed refl a
  where
    by_freed : (freed : List ℕ) → slots.freed ≡ freed → Alive number (with_opened_by freed statement slots) → Alive number slots
    by_freed [] f a =
        let next : next_number slots ≡ length slots.entries + 1 =
        ap (λ (list : List ℕ). unwrap_or (slice_get list (length list - 1)) (length slots.entries + 1)) f in
        let changes = changes_end slots (Some statement) [] in
        ap is_some (sym (changes.others number (λ same. apart (same ∙ sym next)))) ∙ a
    by_freed (first ∷ rest) f a =
        ap is_some (sym (others_set slots (next_number slots) (Some statement) (take (length slots.freed - 1) slots.freed)
        (λ none. let some = next_some slots bounded in absurd (omega (arith, none))) number apart)) ∙ a

pub prepared_comes : (link : ℕ) (text : List ℕ) (outcome : Outcome) (named : Option PrepareOk) (table : Table) → Bounded table.statements
    → Comes link outcome named table (prepared_by link text outcome named table)
prepared_comes link text (Done status) (Some ok) table bounded = by_test (is_crowded table.statements) refl
  where
    by_test : (test : Bool) → is_crowded table.statements ≡ test → Comes link (Done status) (Some ok) table (prepared_by link text (Done status) (Some ok) table)
    by_test true t = rw t (no_comes link (Done status) (Some ok) table (record table { last = None }) refl refl)
    by_test false t = rw t (record {
      alive = λ number a. elim (cases_eq number (next_number table.statements)) [
        | inl same ↦ inl (
          same,
          subst (λ (n : ℕ). HasOn link n (opened_on link text ok table).links) (sym same) (given_on link (next_number table.statements) ok.id table.links),
          (status, refl),
          (ok, refl),
        )
        | inr apart ↦ inr (opened_others table.statements (prepared (next_number table.statements) text ok.columns ok.parameters) number bounded apart a)
      ];
      ids = λ at number has. still_on link at number ok.id (next_number table.statements) table.links has;
    })
prepared_comes link text (Done status) None table bounded = no_comes link (Done status) None table (record table { last = None }) refl refl
prepared_comes link text (Failed code) named table bounded = no_comes link (Failed code) named table (record table { last = None }) refl refl
