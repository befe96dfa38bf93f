-- A state that is read from left to right, with the last GTID so far.
use Rattle.std.proofs.Common.{◌≡◌, ℕ, zero, suc, ◌-◌, ◌<◌, ◌≤◌, Bool, true, false, List, [], ◌∷◌, ◌++◌, length, take, drop, refl, sym, ap, ◌∙◌, subst, arith, Option, Some, None, get_or}
use Rattle.std.proofs.lemmas.Bool.Decides.{nat_tests}
use Rattle.std.proofs.lemmas.List.{take_rest}
use Rattle.std.specs.Prelude.{◌==◌, Result, Ok, Err, OnErr, IfOk}
use Rattle.std.specs.Option.{option_or}
use Rattle.std.specs.Result.{result_unwrap_or}
use Rattle.rws_msgs.specs.declared.fault.MsgFault.{MsgFault}
use Rattle.rws_msgs.specs.Fields.{text_at}
use Rattle.rws_msgs.proofs.FieldLemmas.{ok_is, text_at_nothing}
use Rattle.rws_track.specs.declared.state.BrokenOff.{BrokenOff}
use Rattle.rws_gtid.specs.declared.Gtid.{Gtid}
use Rattle.rws_track.specs.State as state
use Rattle.rws_track.specs.State.{Variable, AreVariables, EntryShows, Shows, gtid_in, last_gtid}

-- ---- the last of two lists

or-assoc : (c b a : Option Gtid) → option_or c (option_or b a) ≡ option_or (option_or c b) a
or-assoc None b a = refl
or-assoc (Some g) b a = refl

none_first : (o : Option Gtid) → option_or o None ≡ o
none_first None = refl
none_first (Some g) = refl

pub last_gtid-append : (domain : ℕ) (xs ys : List Variable) → last_gtid domain (xs ++ ys) ≡ option_or (last_gtid domain ys) (last_gtid domain xs)
last_gtid-append domain [] ys = sym (none_first (last_gtid domain ys))
last_gtid-append domain (x ∷ xs) ys = ap (λ (o : Option Gtid). option_or o (gtid_in domain x)) (last_gtid-append domain xs ys) ∙ sym (or-assoc (last_gtid domain ys) (last_gtid domain xs) (gtid_in domain x))

-- ---- variables

same_text : (a b c d : List ℕ) (bytes : List ℕ) → text_at bytes ≡ Ok (a, b) → text_at bytes ≡ Ok (c, d) → (a ≡ c) × (b ≡ d)
same_text a b c d bytes e f = let both = ok_is (a, b) (c, d) (sym e ∙ f) in (ap (λ (p : List ℕ × List ℕ). p.0) both, ap (λ (p : List ℕ × List ℕ). p.1) both)

no_text : (bytes a b : List ℕ) {fault : MsgFault} → text_at bytes ≡ Err fault → text_at bytes ≡ Ok (a, b) → ⊥
no_text bytes a b e f = absurd cc

-- the variables behind the first
variables_behind : {bytes : List ℕ} {shown : List Variable} → AreVariables bytes shown → (name behind value rest : List ℕ) → text_at bytes ≡ Ok (name, behind) → text_at behind ≡ Ok (value, rest) → (others : List Variable) × AreVariables rest others
variables_behind state.none name behind value rest e f = absurd (no_text [] name behind text_at_nothing e)
variables_behind (state.more bytes name behind value rest {variables = others} g h are) name' behind' value' rest' e f =
    let first = same_text name behind name' behind' bytes g e in
    let second = same_text value rest value' rest' behind h (rw first.1 f) in
    (others, subst (λ (left : List ℕ). AreVariables left others) second.1 are)

-- what is left of the data gives what the whole gives, with the GTID found so far
pub record VariablesLeft (domain : ℕ) (found : Option Gtid) (whole rest : List ℕ) (last : Option Gtid) : Type 0 where
  pub on : (shown : List Variable) → AreVariables rest shown → (all : List Variable) × AreVariables whole all × (option_or (last_gtid domain shown) last ≡ option_or (last_gtid domain all) found)
  pub back : (all : List Variable) → AreVariables whole all → (shown : List Variable) × AreVariables rest shown

pub all_variables_left : (domain : ℕ) (found : Option Gtid) (whole : List ℕ) → VariablesLeft domain found whole whole found
all_variables_left domain found whole = record { on = λ shown are. (shown, are, refl); back = λ all are. (all, are) }

module _ (domain : ℕ) (found : Option Gtid) (whole bytes : List ℕ) (last : Option Gtid) (left : VariablesLeft domain found whole bytes last) where
  pub one_variable : (name behind value rest : List ℕ) → text_at bytes ≡ Ok (name, behind) → text_at behind ≡ Ok (value, rest) → VariablesLeft domain found whole rest (option_or (gtid_in domain (name, value)) last)
  one_variable name behind value rest e f = record {
    on = λ shown are.
        let one = left.on ((name, value) ∷ shown) (state.more bytes name behind value rest e f are) in
        (one.0, one.1, or-assoc (last_gtid domain shown) (gtid_in domain (name, value)) last ∙ one.2);
    back = λ all are. let shown = left.back all are in variables_behind shown.1 name behind value rest e f;
  }

  no_variables : {bytes : List ℕ} {shown : List Variable} {fault : MsgFault} → AreVariables bytes shown → 0 < length bytes → text_at bytes ≡ Err fault → ⊥
  no_variables state.none some_ e = absurd (omega arith)
  no_variables (state.more bytes name behind value rest g h are) some_ e = no_text bytes name behind e g

  pub name_broken : {fault : MsgFault} → 0 < length bytes → text_at bytes ≡ Err fault → (all : List Variable) → AreVariables whole all → ⊥
  name_broken some_ e all are = no_variables (left.back all are).1 some_ e

  no_value : {bytes : List ℕ} {shown : List Variable} {fault : MsgFault} → AreVariables bytes shown → 0 < length bytes → (name behind : List ℕ) → text_at bytes ≡ Ok (name, behind) → text_at behind ≡ Err fault → ⊥
  no_value state.none some_ name behind e f = absurd (omega arith)
  no_value (state.more bytes name' behind' value rest g h are) some_ name behind e f =
      let first = same_text name' behind' name behind bytes g e in no_text behind value rest f (rw (← first.1) h)

  pub value_broken : {fault : MsgFault} → 0 < length bytes → (name behind : List ℕ) → text_at bytes ≡ Ok (name, behind) → text_at behind ≡ Err fault → (all : List Variable) → AreVariables whole all → ⊥
  value_broken some_ name behind e f all are = no_value (left.back all are).1 some_ name behind e f

  pub variables_end : length bytes ≡ 0 → (all : List Variable) × AreVariables whole all × (last ≡ option_or (last_gtid domain all) found)
  variables_end e = ends bytes e left
    where
      ends : (bytes : List ℕ) → length bytes ≡ 0 → VariablesLeft domain found whole bytes last → (all : List Variable) × AreVariables whole all × (last ≡ option_or (last_gtid domain all) found)
      ends [] e left = left.on [] state.none
      ends (b ∷ bs) e left = absurd (omega arith)

-- ---- entries

-- the entries behind the first
entries_behind : {bytes : List ℕ} {shown : List Variable} → Shows bytes shown → (kind : ℕ) (body inner rest : List ℕ) → bytes ≡ kind ∷ body → text_at body ≡ Ok (inner, rest) → (first others : List Variable) × EntryShows kind inner first × Shows rest others
entries_behind state.none kind body inner rest same e = absurd cc
entries_behind (state.entry kind' body' inner' rest' first {others} g entry are) kind body inner rest same e =
    let kinds : kind' ≡ kind = cc in
    let bodies : body' ≡ body = cc in
    let parts = same_text inner' rest' inner rest body (rw (← bodies) g) e in
    (first, others, subst (λ (k : ℕ). EntryShows k inner first) kinds (subst (λ (i : List ℕ). EntryShows kind' i first) parts.0 entry), subst (λ (r : List ℕ). Shows r others) parts.1 are)

-- what is left of the state gives what the whole gives, with the GTID found so far
pub record EntriesLeft (domain : ℕ) (whole rest : List ℕ) (last : Option Gtid) : Type 0 where
  pub on : (shown : List Variable) → Shows rest shown → (all : List Variable) × Shows whole all × (option_or (last_gtid domain shown) last ≡ last_gtid domain all)
  pub back : (all : List Variable) → Shows whole all → (shown : List Variable) × Shows rest shown

pub all_entries_left : (domain : ℕ) (whole : List ℕ) → EntriesLeft domain whole whole None
all_entries_left domain whole = record { on = λ shown are. (shown, are, none_first (last_gtid domain shown)); back = λ all are. (all, are) }

module _ (domain : ℕ) (whole bytes : List ℕ) (last : Option Gtid) (left : EntriesLeft domain whole bytes last) (kind : ℕ) (body : List ℕ) (same : bytes ≡ kind ∷ body) where
  pub one_entry : (inner rest : List ℕ) (first : List Variable) → text_at body ≡ Ok (inner, rest) → EntryShows kind inner first → EntriesLeft domain whole rest (option_or (last_gtid domain first) last)
  one_entry inner rest first e entry = record {
    on = λ shown are.
        let one = left.on (first ++ shown) (subst (λ (b : List ℕ). Shows b (first ++ shown)) (sym same) (state.entry kind body inner rest first e entry are)) in
        (one.0, one.1, or-assoc (last_gtid domain shown) (last_gtid domain first) last ∙ ap (λ (o : Option Gtid). option_or o last) (sym (last_gtid-append domain first shown)) ∙ one.2);
    back = λ all are. let shown = left.back all are in let behind = entries_behind shown.1 kind body inner rest same e in (behind.1, behind.3);
  }

  no_entry : {bytes : List ℕ} {shown : List Variable} {fault : MsgFault} → Shows bytes shown → bytes ≡ kind ∷ body → text_at body ≡ Err fault → ⊥
  no_entry state.none same e = absurd cc
  no_entry (state.entry kind' body' inner' rest' first g entry are) same e =
      let bodies : body' ≡ body = cc in no_text body inner' rest' e (rw (← bodies) g)

  pub entry_broken : {fault : MsgFault} → text_at body ≡ Err fault → (all : List Variable) → Shows whole all → ⊥
  entry_broken e all are = no_entry (left.back all are).1 same e

  pub inner_broken : (inner rest : List ℕ) → text_at body ≡ Ok (inner, rest) → ((first : List Variable) → EntryShows kind inner first → ⊥) → (all : List Variable) → Shows whole all → ⊥
  inner_broken inner rest e broken all are =
      let behind = entries_behind (left.back all are).1 kind body inner rest same e in broken behind.0 behind.2

pub entries_end : (domain : ℕ) (whole : List ℕ) (last : Option Gtid) → EntriesLeft domain whole [] last → (all : List Variable) × Shows whole all × (last ≡ last_gtid domain all)
entries_end domain whole last left = left.on [] state.none

-- ---- one state shows one list of variables

variables_once : {bytes : List ℕ} {a : List Variable} → AreVariables bytes a → (b : List Variable) → AreVariables bytes b → a ≡ b
variables_once state.none b are = none_only are refl
  where
    none_only : {bytes : List ℕ} {b : List Variable} → AreVariables bytes b → bytes ≡ [] → [] ≡ b
    none_only state.none same = refl
    none_only (state.more bytes name behind value rest g h are) same = absurd (no_text bytes name behind (ap text_at same ∙ text_at_nothing) g)
variables_once (state.more bytes name behind value rest {variables = others} g h others_are) b are = more_only are g h (λ c these. variables_once others_are c these)
  where
    more_only : {whole : List ℕ} {b : List Variable} → AreVariables whole b → text_at whole ≡ Ok (name, behind) → text_at behind ≡ Ok (value, rest) → ((c : List Variable) → AreVariables rest c → others ≡ c) → (name, value) ∷ others ≡ b
    more_only state.none g h same = absurd (no_text [] name behind text_at_nothing g)
    more_only (state.more whole name' behind' value' rest' {variables = others'} g' h' are') g h same =
        let first = same_text name behind name' behind' whole g g' in
        let second = same_text value rest value' rest' behind h (rw first.1 h') in
        let left = same others' (subst (λ (r : List ℕ). AreVariables r others') (sym second.1) are') in
        ap (λ (v : Variable). v ∷ others) (ap (λ (n : List ℕ). (n, value)) first.0 ∙ ap (λ (v : List ℕ). (name', v)) second.0) ∙ ap (λ (vs : List Variable). (name', value') ∷ vs) left

entry_once : (kind : ℕ) (inner : List ℕ) (a b : List Variable) → EntryShows kind inner a → EntryShows kind inner b → a ≡ b
entry_once zero inner a b p q = variables_once p b q
entry_once (suc kind) inner a b p q = p ∙ sym q

pub shown_once : {bytes : List ℕ} {a : List Variable} → Shows bytes a → (b : List Variable) → Shows bytes b → a ≡ b
shown_once state.none b are = none_only are refl
  where
    none_only : {bytes : List ℕ} {b : List Variable} → Shows bytes b → bytes ≡ [] → [] ≡ b
    none_only state.none same = refl
    none_only (state.entry kind body inner rest first g entry are) same = absurd cc
shown_once (state.entry kind body inner rest first {others} g entry others_are) b are = entry_only are refl (λ c these. shown_once others_are c these)
  where
    entry_only : {whole : List ℕ} {b : List Variable} → Shows whole b → whole ≡ kind ∷ body → ((c : List Variable) → Shows rest c → others ≡ c) → first ++ others ≡ b
    entry_only state.none whole_is same = absurd cc
    entry_only (state.entry kind' body' inner' rest' first' {others = others'} g' entry' are') whole_is same =
        let kinds : kind' ≡ kind = cc in
        let bodies : body' ≡ body = cc in
        let parts = same_text inner' rest' inner rest body (rw (← bodies) g') g in
        let firsts = entry_once kind inner first first' entry (subst (λ (k : ℕ). EntryShows k inner first') kinds (subst (λ (i : List ℕ). EntryShows kind' i first') parts.0 entry')) in
        let lefts = same others' (subst (λ (r : List ℕ). Shows r others') parts.1 are') in
        ap (λ (f : List Variable). f ++ others) firsts ∙ ap (λ (o : List Variable). first' ++ o) lefts

pub on_err : {T E : Type 0} (r : Result T E) (P : Type 0) → P → OnErr r P
on_err (Ok x) P fact = tt
on_err (Err e) P fact = fact

pub is_longer : (n : ℕ) (test : Bool) → test ≡ (n == 0) → test ≡ false → 0 < n
is_longer n test e f = grind (arith, nat_tests)

pub is_none : (n : ℕ) (test : Bool) → test ≡ (n == 0) → test ≡ true → n ≡ 0
is_none n test e f = grind (arith, nat_tests)

pub is_cons : (xs : List ℕ) → 1 ≤ length xs → xs ≡ get_or xs 0 0 ∷ take (length xs - 1) (drop 1 xs)
is_cons [] some_ = absurd (omega arith)
is_cons (x ∷ xs) some_ = rw take_rest refl

pub no_bytes : (domain : ℕ) (whole bytes : List ℕ) (last : Option Gtid) → length bytes < 1 → EntriesLeft domain whole bytes last → (all : List Variable) × Shows whole all × (last ≡ last_gtid domain all)
no_bytes domain whole [] last none left = entries_end domain whole last left
no_bytes domain whole (b ∷ bs) last none left = absurd (omega arith)

-- what a reading of the state says of every reading of it
pub named_by : (bytes : List ℕ) (domain : ℕ) (r : Result (Option Gtid) BrokenOff) → IfOk r (λ last. (shown : List Variable) × Shows bytes shown × (last ≡ last_gtid domain shown)) → OnErr r ((shown : List Variable) → Shows bytes shown → ⊥) → (shown : List Variable) → Shows bytes shown → result_unwrap_or r None ≡ last_gtid domain shown
named_by bytes domain (Ok last) read broken shown are = read.2 ∙ ap (λ (vs : List Variable). last_gtid domain vs) (shown_once read.1 shown are)
named_by bytes domain (Err e) read broken shown are = absurd (broken shown are)
