-- A link that has played the whole history has an id for each statement that may be executed there.
use Rattle.std.proofs.Common.{◌≡◌, ◌≢◌, ℕ, ◌+◌, ◌<◌, ◌≤◌, Bool, true, false, List, [], ◌∷◌, ◌++◌, refl, sym, ap, subst, ◌∙◌, arith, inl, inr, Option, Some, None}
use Rattle.std.specs.Prelude.{◌⊎◌, ◌==◌, ◌||◌, is_some, if◌then◌else◌}
use Rattle.std.proofs.lemmas.Bool.{cases_lt, eq-eqb, eqb-true}
use Rattle.rws_msgs.specs.declared.prepare_ok.PrepareOk.{PrepareOk}
use Rattle.rws_reply.specs.declared.kind.Kind.{Kind}
use Rattle.rws_reply.specs.declared.kind.Kind.TheVariants as kinds
use Rattle.rws_reply.specs.declared.kind.Outcome.{Outcome}
use Rattle.rws_reply.specs.declared.kind.Outcome.TheVariants.{Done, Failed}
use Rattle.rws_reply.specs.declared.kind.Progress.TheVariants.{More, Whole as Ends}
use Rattle.rws_link.specs.Stepping.{Awaits, Exchange}
use Rattle.rws_link.specs.declared.step.LinkStep.{LinkStep}
use Rattle.rws_link.specs.declared.step.LinkStep.TheVariants as steps
use Rattle.rws_config.specs.declared.config.Config.{Config}
use Rattle.rws_handles.specs.PlainForm.{number_in}
use Rattle.rws_handles.specs.Prepared.{Prepared}
use Rattle.rws_handles.specs.Slots.{next_number, statement_at}
use Rattle.rws_commands.specs.declared.command.Body.TheVariants.{Run}
use Rattle.rws_commands.specs.declared.command.Command.{Command}
use Rattle.rws_commands.specs.declared.command.Execution.{Execution}
use Rattle.rws_commands.specs.declared.history.HistoryEntry.{HistoryEntry}
use Rattle.rws_commands.specs.declared.history.PreparedAs.{PreparedAs}
use Rattle.rws_commands.specs.Statements.{Statements, answered_by, has_serial, is_prepared, played, swept_if}
use Rattle.rws_record.specs.Item.{Ending, Item, Purpose, Recording}
use Rattle.rws_record.specs.Item.Purpose.{Prepares, Asks, Plays, Waits, Probes}
use Rattle.rws_record.specs.Values.{answered_in, ends_transaction, heard_on, named_in, named_on, awaited, contains, cursor, kept_on, links, pending, statements}
use Rattle.rws_record.specs.Record.{IsRecord}
use Rattle.rws_laws.proofs.FollowLemmas.{Alive, Follows, In, Lasts, open_stays, same_follows, swept_follows, table_follows}
use Rattle.rws_laws.proofs.HandleLemmas.{Holds, bounded}
use Rattle.rws_laws.proofs.IdLemmas.{Sets}
use Rattle.rws_laws.proofs.LinkIdLemmas.{HasOn, given_on, still_on, stale_keeps}
use Rattle.rws_record.specs.Item.Item.{Comes, Puts}
use Rattle.rws_record.specs.Item.Put.{Tells}
use Rattle.rws_record.specs.Item.Recording.{Accepts}
use Rattle.rws_record.specs.Item.Tell.{Passes}
use Rattle.rws_commands.specs.Statements.{named_ids}
use Rattle.rws_commands.specs.Commands.{payload_of}
use Rattle.rws_commands.specs.Requests.{arguments_of}
use Rattle.rws_reply.specs.declared.role.Role.{Role}
use Rattle.rws_reply.specs.declared.kind.Progress.{Progress}
use Rattle.rws_reply.specs.Tracking.{progress, role}
use Rattle.rws_link.specs.Stepping.{LinkState}
use Rattle.rws_record.specs.Values.{asked_on, linked, played_by, exchange, kind_of, serial_for, serials}
use Rattle.rws_record.proofs.LinkedLemmas.{Says, awaits_asked}
use Rattle.rws_record.proofs.LinkedLemmas.Says.{answers as says_answers, enters, hurries, fails, breaks, part, garbled, wrong, again}
use Rattle.rws_laws.specs.History.{Rises, entry_led, led_as, set_on}
use Rattle.rws_laws.proofs.FollowLemmas.{failed_follows, in_either, in_end, in_front, prepared_comes, taken_for_follows}
use Rattle.rws_laws.proofs.FollowLemmas as follow
use Rattle.rws_laws.proofs.NamedLemmas.{legal_named, named_now}
use Rattle.rws_laws.proofs.PlacedLemmas.{Among, From, Placed}
use Rattle.rws_laws.proofs.PlacedLemmas.Among.{none as no_entry, stays as stays_among, left as left_among}
use Rattle.rws_laws.proofs.SharedLemmas.{legal_shared}
use Rattle.rws_laws.proofs.Sound.{same_some}
use Rattle.rws_record.specs.Values.{sent_on}
use Rattle.rws_laws.proofs.SharedLemmas.{added_is}

-- how a link stands to a statement: it has an id for it, it is to play its prepare, or the session is kept on another link
pub data Covers (s : Statements) (cursor : ℕ) (kept : Option ℕ) (link number : ℕ) : Type 0 where
  has_id : HasOn link number s.table.links → Covers s cursor kept link number
  later : (entry : HistoryEntry) (how : PreparedAs) → In entry s.history → entry.statement ≡ Some how → how.number ≡ number → cursor ≤ entry.serial
      → Covers s cursor kept link number
  elsewhere : (at : ℕ) → kept ≡ Some at → at ≢ link → Covers s cursor kept link number

-- and a link that isn't there yet
pub data Stays (s : Statements) (kept : Option ℕ) (number : ℕ) : Type 0 where
  in_history : (entry : HistoryEntry) (how : PreparedAs) → In entry s.history → entry.statement ≡ Some how → how.number ≡ number → Stays s kept number
  is_kept : (at : ℕ) → kept ≡ Some at → Stays s kept number

-- entries that prepare are answered as prepares
abbrev pub OfKind : HistoryEntry → Type 0
OfKind entry = (how : PreparedAs) → entry.statement ≡ Some how → entry.kind ≡ kinds.Prepare

-- an execute is of an open statement
abbrev pub RunsOpen : Statements → Execution → Type 0
RunsOpen s execution =
    (statement : Prepared) × (statement_at s.table.statements (number_in execution.commands) ≡ Some statement) × (statement.closed ≡ false)
    × (execution.commands ≢ [])

abbrev pub Runs : Statements → Option Command → Type 0
Runs s pending = (command : Command) (execution : Execution) → pending ≡ Some command → command.body ≡ Run execution → RunsOpen s execution

-- What is true of each step

module _ {s now : Statements} (follows : Follows s now) where
  pub covers_follows : {cursor : ℕ} {kept then_kept : Option ℕ} {link number : ℕ} → ((at : ℕ) → kept ≡ Some at → then_kept ≡ Some at)
      → Alive number now.table.statements → Covers s cursor kept link number → Covers now cursor then_kept link number
  covers_follows {link = link} {number = number} k alive (has_id has) = has_id (follows.table.ids link number alive has)
  covers_follows k alive (later entry how has e n c) =
      later entry how (follows.stays entry how e (subst (λ (m : ℕ). Alive m now.table.statements) (sym n) alive) has) e n c
  covers_follows k alive (elsewhere at e apart) = elsewhere at (k at e) apart

  pub stays_follows : {kept then_kept : Option ℕ} {number : ℕ} → ((at : ℕ) → kept ≡ Some at → then_kept ≡ Some at) → Alive number now.table.statements
      → Stays s kept number → Stays now then_kept number
  stays_follows k alive (in_history entry how has e n) =
      in_history entry how (follows.stays entry how e (subst (λ (m : ℕ). Alive m now.table.statements) (sym n) alive) has) e n
  stays_follows k alive (is_kept at e) = is_kept at (k at e)

-- A link hears something

has_its : (entry : HistoryEntry) (list : List HistoryEntry) → In entry list → has_serial entry.serial list ≡ true
has_its entry [] has = absurd has
has_its entry (first ∷ others) (inl same) =
    let itself : (first.serial == entry.serial) ≡ true = eq-eqb first.serial entry.serial (ap (λ (x : HistoryEntry). x.serial) same) in rw itself refl
has_its entry (first ∷ others) (inr has) = by_test (first.serial == entry.serial) (has_its entry others has)
  where
    by_test : (test : Bool) → has_serial entry.serial others ≡ true → (test || has_serial entry.serial others) ≡ true
    by_test true rest = refl
    by_test false rest = rest

in_among : {list set : List HistoryEntry} (entry : HistoryEntry) → Among list set → In entry list → In entry set
in_among entry no_entry has = absurd has
in_among entry (stays_among among) (inl same) = inl same
in_among entry (stays_among among) (inr has) = inr (in_among entry among has)
in_among entry (left_among prepared among) has = inr (in_among entry among has)

in_below : (least count : ℕ) (set : List HistoryEntry) (entry : HistoryEntry) → Rises least count set → In entry set → entry.serial < count
in_below least count [] entry rises has = absurd has
in_below least count (first ∷ others) entry rises (inl same) =
    subst (λ (x : HistoryEntry). x.serial < count) same rises.1
in_below least count (first ∷ others) entry rises (inr has) = in_below (first.serial + 1) count others entry rises.2 has

in_from : (least : ℕ) (list : List HistoryEntry) (entry : HistoryEntry) → From least list → In entry list → least ≤ entry.serial
in_from least [] entry from has = absurd has
in_from least (first ∷ others) entry from (inl same) = subst (λ (x : HistoryEntry). least ≤ x.serial) same from.0
in_from least (first ∷ others) entry from (inr has) = in_from least others entry from.1 has

in_parts : (entry : HistoryEntry) (lower upper : List HistoryEntry) → In entry (lower ++ upper) → In entry lower ⊎ In entry upper
in_parts entry [] upper has = inr has
in_parts entry (first ∷ lower) upper (inl same) = inl (inl same)
in_parts entry (first ∷ lower) upper (inr has) = elim (in_parts entry lower upper has) [
  | inl before ↦ inl (inr before)
  | inr behind ↦ inr behind
]

-- an entry that stood behind a link's cursor, and doesn't when another was played, is that one
is_played : (history set : List HistoryEntry) (count : ℕ) (entry other : HistoryEntry) → Placed history (set ++ entry ∷ []) (entry.serial + 1)
    → Rises 0 count set → In other history → count ≤ other.serial → other.serial < entry.serial + 1 → entry ≡ other
is_played history set count entry other placed rises has above below =
    elim (in_parts other placed.lower placed.upper (subst (In other) placed.is has)) [
      | inl lower ↦ elim (in_either other entry set (in_among other placed.among lower)) [
        | inl before ↦ absurd (let less = in_below 0 count set other rises before in omega arith)
        | inr same ↦ same
      ]
      | inr upper ↦ absurd (let more = in_from (entry.serial + 1) placed.upper other placed.above upper in omega arith)
    ]

-- what a link says that says a payload
record IsPart (state : LinkState) (payload : List ℕ) (its : Role) (far : Progress) : Type 0 where
  e : Exchange
  bytes : List ℕ
  is : state ≡ Awaits e bytes
  in_role : role e.kind e.sofar payload ≡ Some its
  brings : progress e.kind e.sofar payload ≡ Some far

part_is : (state : LinkState) (said : LinkStep) (payload : List ℕ) (its : Role) (far : Progress) (number : ℕ) (behind : Bool) → Says state said
    → said ≡ steps.Part payload its far number behind → IsPart state payload its far
part_is state said payload its far number behind (part {e = e} {unread = unread} {payload = other} {rest = rest} {number = n} {its = other_role} {far = way} f r p) is =
    let payload_is : other ≡ payload = cc in
    let role_is : other_role ≡ its = cc in
    let far_is : way ≡ far = cc in
    record {
      e = e;
      bytes = unread;
      is = refl;
      in_role = ap (λ (x : List ℕ). role e.kind e.sofar x) (sym payload_is) ∙ r ∙ ap (λ (x : Role). Some x) role_is;
      brings = ap (λ (x : List ℕ). progress e.kind e.sofar x) (sym payload_is) ∙ p ∙ ap (λ (x : Progress). Some x) far_is;
    }
part_is state said payload its far number behind (says_answers f r) is = absurd cc
part_is state said payload its far number behind (enters f r) is = absurd cc
part_is state said payload its far number behind (hurries f r) is = absurd cc
part_is state said payload its far number behind (fails f r) is = absurd cc
part_is state said payload its far number behind (breaks f) is = absurd cc
part_is state said payload its far number behind (garbled f) is = absurd cc
part_is state said payload its far number behind (wrong f p) is = absurd cc
part_is state said payload its far number behind again is = absurd cc

played_follows : (link serial : ℕ) (how : Option PreparedAs) (named : Option PrepareOk) (s : Statements) → Follows s (played link serial how named s)
played_follows link serial None named s = same_follows s s refl refl refl
played_follows link serial (Some how) None s = same_follows s s refl refl refl
played_follows link serial (Some how) (Some ok) s = record {
  table = record {
    alive = λ number a. a;
    ids = λ at number a has. by_test (has_serial serial s.history) at number has;
  };
  stays = λ entry its e a has. has;
  was = λ entry has. has;
}
  where
    by_test : (test : Bool) (at number : ℕ) → HasOn at number s.table.links → HasOn at number (named_ids test link how ok s.table.links)
    by_test true at number has = still_on link at number ok.id how.number s.table.links has
    by_test false at number has = stale_keeps link at number ok.id s.table.links has

heard_follows : (link : ℕ) (said : LinkStep) (asked : Option Purpose) (ends : Outcome → Bool) (named : Option PrepareOk) (s : Statements)
    → Follows s (heard_on link said asked ends named s)
heard_follows link (steps.Part payload role (Ends outcome) next behind) (Some (Asks command id)) ends named s = swept_follows (ends outcome) s
heard_follows link (steps.Part payload role (Ends (Done status)) next behind) (Some (Plays entry)) ends named s =
    played_follows link entry.serial entry.statement (named_in role payload named) s
heard_follows link (steps.Part payload role (Ends (Failed code)) next behind) (Some (Plays entry)) ends named s = same_follows s s refl refl refl
heard_follows link (steps.Part payload role (Ends outcome) next behind) (Some Prepares) ends named s = same_follows s s refl refl refl
heard_follows link (steps.Part payload role (Ends outcome) next behind) (Some (Waits gtid seconds)) ends named s = same_follows s s refl refl refl
heard_follows link (steps.Part payload role (Ends outcome) next behind) (Some (Probes gtid)) ends named s = same_follows s s refl refl refl
heard_follows link (steps.Part payload role (Ends outcome) next behind) None ends named s = same_follows s s refl refl refl
heard_follows link (steps.Part payload role More next behind) asked ends named s = same_follows s s refl refl refl
heard_follows link (steps.Lost cause) asked ends named s = same_follows s s refl refl refl
heard_follows link (steps.Send packets) asked ends named s = same_follows s s refl refl refl
heard_follows link steps.LoggedIn asked ends named s = same_follows s s refl refl refl
heard_follows link steps.Idle asked ends named s = same_follows s s refl refl refl

-- an open statement stays
abbrev pub OpenStays : Statements → Statements → Type 0
OpenStays s now =
    (number : ℕ) (statement : Prepared) → statement_at s.table.statements number ≡ Some statement → statement.closed ≡ false
    → statement_at now.table.statements number ≡ Some statement

swept_open : (ends : Bool) (s : Statements) → OpenStays s (swept_if ends s)
swept_open true s = λ number statement f c. open_stays s.table.statements number statement f c
swept_open false s = λ number statement f c. f

played_open : (link serial : ℕ) (how : Option PreparedAs) (named : Option PrepareOk) (s : Statements) → OpenStays s (played link serial how named s)
played_open link serial None named s = λ number statement f c. f
played_open link serial (Some how) None s = λ number statement f c. f
played_open link serial (Some how) (Some ok) s = λ number statement f c. f

heard_open : (link : ℕ) (said : LinkStep) (asked : Option Purpose) (ends : Outcome → Bool) (named : Option PrepareOk) (s : Statements)
    → OpenStays s (heard_on link said asked ends named s)
heard_open link (steps.Part payload role (Ends outcome) next behind) (Some (Asks command id)) ends named s = swept_open (ends outcome) s
heard_open link (steps.Part payload role (Ends (Done status)) next behind) (Some (Plays entry)) ends named s =
    played_open link entry.serial entry.statement (named_in role payload named) s
heard_open link (steps.Part payload role (Ends (Failed code)) next behind) (Some (Plays entry)) ends named s = λ number statement f c. f
heard_open link (steps.Part payload role (Ends outcome) next behind) (Some Prepares) ends named s = λ number statement f c. f
heard_open link (steps.Part payload role (Ends outcome) next behind) (Some (Waits gtid seconds)) ends named s = λ number statement f c. f
heard_open link (steps.Part payload role (Ends outcome) next behind) (Some (Probes gtid)) ends named s = λ number statement f c. f
heard_open link (steps.Part payload role (Ends outcome) next behind) None ends named s = λ number statement f c. f
heard_open link (steps.Part payload role More next behind) asked ends named s = λ number statement f c. f
heard_open link (steps.Lost cause) asked ends named s = λ number statement f c. f
heard_open link (steps.Send packets) asked ends named s = λ number statement f c. f
heard_open link steps.LoggedIn asked ends named s = λ number statement f c. f
heard_open link steps.Idle asked ends named s = λ number statement f c. f

-- In a legal record

pub record Known (config : Config) (past : List Item) : Type 0 where
  pub covers : (link number : ℕ) → contains link (links past) ≡ true → Alive number (statements config past).table.statements
      → Covers (statements config past) (cursor link past) (kept_on past) link number
  pub stays : (number : ℕ) → Alive number (statements config past).table.statements → Stays (statements config past) (kept_on past) number
  pub kinds : (entry : HistoryEntry) → In entry (statements config past).history → OfKind entry
  pub plays : (link : ℕ) (entry : HistoryEntry) → asked_on link past ≡ Some (Plays entry) → OfKind entry
  pub runs : Runs (statements config past) (pending past)
  pub sets : (command : Command) → pending past ≡ Some command → Sets command

runs_still : (s now : Statements) {before pending : Option Command} → OpenStays s now → ((command : Command) → pending ≡ Some command → before ≡ Some command)
    → Runs s before → Runs now pending
runs_still s now open_ w runs = λ command execution p b.
    let its = runs command execution (w command p) b in (its.0, open_ (number_in execution.commands) its.0 its.1 its.2, its.2, its.3)

module _ (config : Config) (past : List Item) (item : Item) (known : Known config past)
    (f : Follows (statements config past) (statements config (item ∷ past)))
    (l : (link : ℕ) → contains link (links (item ∷ past)) ≡ true → contains link (links past) ≡ true)
    (k : (at : ℕ) → kept_on past ≡ Some at → kept_on (item ∷ past) ≡ Some at)
    (a : (link : ℕ) (entry : HistoryEntry) → asked_on link (item ∷ past) ≡ Some (Plays entry) → (asked_on link past ≡ Some (Plays entry)) ⊎ OfKind entry)
    (w : (command : Command) → pending (item ∷ past) ≡ Some command → pending past ≡ Some command)
    (o : OpenStays (statements config past) (statements config (item ∷ past))) where
  -- where this is known of the links
  pub with_covers : ((link number : ℕ) → contains link (links (item ∷ past)) ≡ true → Alive number (statements config (item ∷ past)).table.statements
      → Covers (statements config (item ∷ past)) (cursor link (item ∷ past)) (kept_on (item ∷ past)) link number) → Known config (item ∷ past)
  with_covers covers = record {
    covers = covers;
    stays = λ number alive. stays_follows f k alive (known.stays number (f.table.alive number alive));
    kinds = λ entry has. known.kinds entry (f.was entry has);
    plays = λ link entry q. elim (a link entry q) [
      | inl before ↦ known.plays link entry before
      | inr its ↦ its
    ];
    runs = runs_still (statements config past) (statements config (item ∷ past)) o w known.runs;
    sets = λ command p. known.sets command (w command p);
  }

  -- and where the cursors stay
  pub known_still : ((link : ℕ) → cursor link (item ∷ past) ≡ cursor link past) → Known config (item ∷ past)
  known_still c = with_covers (λ link number has alive.
      subst (λ (n : ℕ). Covers (statements config (item ∷ past)) n (kept_on (item ∷ past)) link number) (sym (c link))
      (covers_follows f k alive (known.covers link number (l link has) (f.table.alive number alive))))

-- an item that changes nothing of it
pub quiet : {config : Config} {past : List Item} (item : Item) → statements config (item ∷ past) ≡ statements config past
    → ((link : ℕ) → contains link (links (item ∷ past)) ≡ true → contains link (links past) ≡ true)
    → kept_on (item ∷ past) ≡ kept_on past → ((link : ℕ) → asked_on link (item ∷ past) ≡ asked_on link past)
    → ((command : Command) → pending (item ∷ past) ≡ Some command → pending past ≡ Some command)
    → ((link : ℕ) → cursor link (item ∷ past) ≡ cursor link past) → Known config past → Known config (item ∷ past)
quiet {config} {past} item s l k a w c known =
    known_still config past item known
    (same_follows (statements config past) (statements config (item ∷ past)) (ap (λ (x : Statements). x.table.statements) s)
    (ap (λ (x : Statements). x.table.links) s) (ap (λ (x : Statements). x.history) s))
    l (λ at e. k ∙ e) (λ link entry q. inl (sym (a link) ∙ q)) w
    (λ number statement found open_. subst (λ (x : Statements). statement_at x.table.statements number ≡ Some statement) (sym s) found) c

-- What a link says

module _ (config : Config) (past : List Item) (legal : IsRecord config past) (known : Known config past) (from : ℕ) (said : LinkStep) where
  abbrev now : Statements
  now = statements config (Comes from said ∷ past)

  came_follows : Follows (statements config past) now
  came_follows =
      heard_follows from said (asked_on from past) (λ outcome. ends_transaction config from outcome past) (named_on from past) (statements config past)

  -- the entry that was played covers its statement
  played_id : (link number : ℕ) (entry : HistoryEntry) (how : PreparedAs) (named : Option PrepareOk) (s : Statements) → entry.statement ≡ Some how
      → is_some named ≡ true → In entry s.history → how.number ≡ number
      → HasOn link number (played link entry.serial entry.statement named s).table.links
  played_id link number entry how None s e n has same = absurd cc
  played_id link number entry how (Some ok) s e n has same =
      let stands = has_its entry s.history has in
      subst (λ (m : ℕ). HasOn link m (played link entry.serial entry.statement (Some ok) s).table.links) same
      (rw e (rw stands (given_on link how.number ok.id s.table.links)))

  module _ (payload : List ℕ) (its : Role) (status number : ℕ) (behind : Bool) (entry : HistoryEntry) (link : ℕ)
      (q : asked_on link past ≡ Some (Plays entry))
      (it : Says (linked link past) (steps.Part payload its (Ends (Done status)) number behind)) where
    abbrev after : Statements
    after = played link entry.serial entry.statement (named_in its payload (named_on link past)) (statements config past)

    said_part : IsPart (linked link past) payload its (Ends (Done status))
    said_part = part_is (linked link past) (steps.Part payload its (Ends (Done status)) number behind) payload its (Ends (Done status)) number behind it refl

    owes : exchange link past ≡ Some said_part.e
    owes = ap awaited said_part.is

    told_of : (how : PreparedAs) → entry.statement ≡ Some how → is_some (named_in its payload (named_on link past)) ≡ true
    told_of how e =
        let was = awaits_asked link past said_part.e said_part.bytes said_part.is in
        let same : was.purpose ≡ Plays entry = same_some was.purpose (Plays entry) (sym was.is ∙ q) in
        let kind : said_part.e.kind ≡ kinds.Prepare = sym was.answered ∙ ap kind_of same ∙ known.plays link entry q how e in
        named_now said_part.e.kind said_part.e.sofar payload its (Ends (Done status)) (named_on link past) kind
        (legal_named legal link said_part.e owes kind) said_part.in_role said_part.brings (λ code e. absurd cc)

    played_covers : (n : ℕ) → Alive n after.table.statements → Covers (statements config past) (cursor link past) (kept_on past) link n
        → Covers after (entry.serial + 1) (kept_on past) link n
    played_covers n alive (has_id has) = has_id ((played_follows link entry.serial entry.statement (named_in its payload (named_on link past)) (statements config past)).table.ids link n alive has)
    played_covers n alive (elsewhere at e apart) = elsewhere at e apart
    played_covers n alive (later other how has e same above) =
        elim (cases_lt other.serial (entry.serial + 1)) [
          | inl below ↦
              let stands = legal_shared legal link in
              let placed = (stands.plays said_part.e entry owes q).0 in
              let is = is_played (statements config past).history (set_on config link past) (cursor link past) entry other placed stands.placed.rises has above below in
              let e : entry.statement ≡ Some how = ap (λ (x : HistoryEntry). x.statement) is ∙ e in
              has_id (played_id link n entry how (named_in its payload (named_on link past)) (statements config past) e (told_of how e)
              (subst (λ (x : HistoryEntry). In x (statements config past).history) (sym is) has) same)
          | inr behind ↦
              later other how ((played_follows link entry.serial entry.statement (named_in its payload (named_on link past)) (statements config past)).stays other how e
              (subst (λ (m : ℕ). Alive m after.table.statements) (sym same) alive) has) e same behind
        ]

  -- of the link, and of the others
  module _ (link n : ℕ) (has : contains link (links past) ≡ true) (alive : Alive n now.table.statements) where
    before : Covers (statements config past) (cursor link past) (kept_on past) link n
    before = known.covers link n has (came_follows.table.alive n alive)

    by_asked : from ≡ link → (its_said : LinkStep) (asked : Option Purpose) → said ≡ its_said → asked_on from past ≡ asked
        → Says (linked link past) its_said
        → Covers (heard_on from its_said asked (λ outcome. ends_transaction config from outcome past) (named_on from past) (statements config past))
        (cursor link past) (kept_on past) link n
        → Alive n (heard_on from its_said asked (λ outcome. ends_transaction config from outcome past) (named_on from past) (statements config past)).table.statements
        → Covers (heard_on from its_said asked (λ outcome. ends_transaction config from outcome past) (named_on from past) (statements config past))
        (played_by its_said asked (cursor link past)) (kept_on past) link n
    by_asked same (steps.Part payload its (Ends (Done status)) number behind) (Some (Plays entry)) s q it covers a =
        let q : asked_on link past ≡ Some (Plays entry) = ap (λ (x : ℕ). asked_on x past) (sym same) ∙ q in
        let its_covers = played_covers payload its status number behind entry link q it n
        (subst (λ (x : ℕ). Alive n (played x entry.serial entry.statement (named_in its payload (named_on x past)) (statements config past)).table.statements) same a) before in
        subst (λ (x : ℕ). Covers (played x entry.serial entry.statement (named_in its payload (named_on x past)) (statements config past)) (entry.serial + 1) (kept_on past) link n) (sym same) its_covers
    by_asked same (steps.Part payload its (Ends (Failed code)) number behind) (Some (Plays entry)) s q it covers a = covers
    by_asked same (steps.Part payload its (Ends outcome) number behind) (Some (Asks command id)) s q it covers a = still_so outcome covers
      where
        still_so : (its_outcome : Outcome) → Covers (heard_on from (steps.Part payload its (Ends its_outcome) number behind) (Some (Asks command id)) (λ outcome. ends_transaction config from outcome past) (named_on from past) (statements config past)) (cursor link past) (kept_on past) link n
            → Covers (heard_on from (steps.Part payload its (Ends its_outcome) number behind) (Some (Asks command id)) (λ outcome. ends_transaction config from outcome past) (named_on from past) (statements config past)) (played_by (steps.Part payload its (Ends its_outcome) number behind) (Some (Asks command id)) (cursor link past)) (kept_on past) link n
        still_so (Done status) c = c
        still_so (Failed code) c = c
    by_asked same (steps.Part payload its (Ends (Done status)) number behind) (Some Prepares) s q it covers a = covers
    by_asked same (steps.Part payload its (Ends (Failed code)) number behind) (Some Prepares) s q it covers a = covers
    by_asked same (steps.Part payload its (Ends (Done status)) number behind) (Some (Waits gtid seconds)) s q it covers a = covers
    by_asked same (steps.Part payload its (Ends (Failed code)) number behind) (Some (Waits gtid seconds)) s q it covers a = covers
    by_asked same (steps.Part payload its (Ends (Done status)) number behind) (Some (Probes gtid)) s q it covers a = covers
    by_asked same (steps.Part payload its (Ends (Failed code)) number behind) (Some (Probes gtid)) s q it covers a = covers
    by_asked same (steps.Part payload its (Ends (Done status)) number behind) None s q it covers a = covers
    by_asked same (steps.Part payload its (Ends (Failed code)) number behind) None s q it covers a = covers
    by_asked same (steps.Part payload its More number behind) asked s q it covers a = covers
    by_asked same (steps.Lost cause) asked s q it covers a = covers
    by_asked same (steps.Send packets) asked s q it covers a = covers
    by_asked same steps.LoggedIn asked s q it covers a = covers
    by_asked same steps.Idle asked s q it covers a = covers

    still_covers : Covers now (cursor link past) (kept_on past) link n
    still_covers = covers_follows came_follows (λ at e. e) alive before

    came_covers : Says (linked from past) said → (test : Bool) → (from == link) ≡ test
        → Covers now (if test then played_by said (asked_on link past) (cursor link past) else cursor link past) (kept_on past) link n
    came_covers it false t = still_covers
    came_covers it true t =
        let same = eqb-true from link t in
        subst (λ (x : ℕ). Covers now (played_by said (asked_on x past) (cursor link past)) (kept_on past) link n) same
        (by_asked same said (asked_on from past) refl refl (subst (λ (x : ℕ). Says (linked x past) said) same it) still_covers alive)

  pub came_known : Says (linked from past) said → Known config (Comes from said ∷ past)
  came_known it =
      with_covers config past (Comes from said) known came_follows (λ link h. h) (λ at e. e) (λ link entry q. inl q) (λ command p. p)
      (heard_open from said (asked_on from past) (λ outcome. ends_transaction config from outcome past) (named_on from past) (statements config past))
      (λ link n has alive. came_covers link n has alive it (from == link) refl)

-- A reply ends

-- the statement that it told of came into the table, on this link
pub record Opened (link : ℕ) (command : Command) (its : Ending) (s now : Statements) (number : ℕ) : Type 0 where
  pub is_next : number ≡ next_number s.table.statements
  pub on_link : HasOn link number now.table.links
  pub status : ℕ
  pub done : its.outcome ≡ Done status
  pub ok : PrepareOk
  pub told : its.named ≡ Some ok
  pub kind : is_prepared command.kind ≡ true

record Answers (link : ℕ) (command : Command) (its : Ending) (s now : Statements) : Type 0 where
  alive : (number : ℕ) → Alive number now.table.statements → Opened link command its s now number ⊎ Alive number s.table.statements
  ids : (at number : ℕ) → HasOn at number s.table.links → HasOn at number now.table.links

answers_so : (link : ℕ) (command : Command) (its : Ending) (serial : Option ℕ) (s : Statements) → Holds s
    → Answers link command its s (answered_by (is_prepared command.kind) link command its.outcome its.named serial s)
answers_so link command its serial s holds = by_kind (is_prepared command.kind) refl serial
  where
    of_table : (now : Statements) → is_prepared command.kind ≡ true → follow.Comes link its.outcome its.named s.table now.table → Answers link command its s now
    of_table now k its_comes = record {
      alive = λ number a. elim (its_comes.alive number a) [
        | inl new ↦ inl (record { is_next = new.0; on_link = new.1; status = new.2.0; done = new.2.1; ok = new.3.0; told = new.3.1; kind = k })
        | inr old ↦ inr old
      ];
      ids = its_comes.ids;
    }

    by_kind : (prepares : Bool) → is_prepared command.kind ≡ prepares → (serial : Option ℕ)
        → Answers link command its s (answered_by prepares link command its.outcome its.named serial s)
    by_kind true k (Some serial) = of_table _ k (prepared_comes link (arguments_of (payload_of command.body)) its.outcome its.named s.table holds)
    by_kind true k None = of_table _ k (prepared_comes link (arguments_of (payload_of command.body)) its.outcome its.named s.table holds)
    by_kind false k (Some serial) = record { alive = λ number a. inr a; ids = λ at number has. has }
    by_kind false k None = record { alive = λ number a. inr a; ids = λ at number has. has }

kind_is : (kind : Kind) → is_prepared kind ≡ true → kind ≡ kinds.Prepare
kind_is kinds.Prepare k = refl
kind_is kinds.Simple k = absurd cc
kind_is kinds.Query k = absurd cc
kind_is kinds.FieldList k = absurd cc

unrecorded_is : (link : ℕ) (command : Command) (its : Ending) (s : Statements)
    → (answered_by (is_prepared command.kind) link command its.outcome its.named None s).history ≡ s.history
unrecorded_is link command its s = by_kind (is_prepared command.kind)
  where
    by_kind : (prepares : Bool) → (answered_by prepares link command its.outcome its.named None s).history ≡ s.history
    by_kind true = refl
    by_kind false = refl

module _ (config : Config) (past : List Item) (legal : IsRecord config past) (known : Known config past) (number link : ℕ) (command : Command)
    (payload : List ℕ) (its : Ending) (p : pending past ≡ Some command) where
  abbrev s : Statements
  s = statements config past

  answers_now : (serial : Option ℕ) → Answers link command its s (answered_in link (pending past) its serial s)
  answers_now serial =
      subst (λ (found : Option Command). Answers link command its s (answered_in link found its serial s)) (sym p)
      (answers_so link command its serial s (bounded config past))

  -- its command is added
  module _ (sent : sent_on past ≡ Some link) where
    abbrev added : Statements
    added = answered_in link (pending past) its (Some (serials past)) s

    abbrev entry : HistoryEntry
    entry = entry_led config command its past

    history_is : added.history ≡ s.history ++ entry ∷ []
    history_is = added_is config past link command its p

    opened_as : {n : ℕ} → Opened link command its s added n → (how : PreparedAs) × (entry.statement ≡ Some how) × (how.number ≡ n)
    opened_as o = (
      record { number = next_number s.table.statements; columns = o.ok.columns; parameters = o.ok.parameters },
      rw (o.kind, o.told) refl,
      sym o.is_next,
    )

    last_in : In entry added.history
    last_in = subst (In entry) (sym history_is) (in_end entry s.history)

    old_in : (other : HistoryEntry) → In other s.history → In other added.history
    old_in other has = subst (In other) (sym history_is) (in_front other s.history (entry ∷ []) has)

    added_covers : (l n : ℕ) → contains l (links past) ≡ true → Alive n added.table.statements → (test : Bool) → (link == l) ≡ test
        → Covers added (if test then serials past + 1 else cursor l past) (kept_on past) l n
    added_covers l n has alive test t = by_alive ((answers_now (Some (serials past))).alive n alive) test t
      where
        by_old : Covers s (cursor l past) (kept_on past) l n → (test : Bool) → (link == l) ≡ test
            → Covers added (if test then serials past + 1 else cursor l past) (kept_on past) l n
        by_old (has_id id) test t = has_id ((answers_now (Some (serials past))).ids l n id)
        by_old (elsewhere at e apart) test t = elsewhere at e apart
        by_old (later other how has e same above) false t = later other how (old_in other has) e same above
        by_old (later other how has e same above) true t =
            let stands = legal_shared legal l in
            let all = (stands.leads (sent ∙ ap Some (eqb-true link l t))).1 in
            let below = in_below 0 (cursor l past) (set_on config l past) other stands.placed.rises (in_among other all has) in
            absurd (omega arith)

        by_new : Opened link command its s added n → (test : Bool) → (link == l) ≡ test
            → Covers added (if test then serials past + 1 else cursor l past) (kept_on past) l n
        by_new o true t = has_id (subst (λ (x : ℕ). HasOn x n added.table.links) (eqb-true link l t) o.on_link)
        by_new o false t =
            let how = opened_as o in later entry how.0 last_in how.1 how.2 (legal_shared legal l).within

        by_alive : Opened link command its s added n ⊎ Alive n s.table.statements → (test : Bool) → (link == l) ≡ test
            → Covers added (if test then serials past + 1 else cursor l past) (kept_on past) l n
        by_alive (inl o) test t = by_new o test t
        by_alive (inr old) test t = by_old (known.covers l n has old) test t

    added_stays : (n : ℕ) → Alive n added.table.statements → Stays added (kept_on past) n
    added_stays n alive = elim ((answers_now (Some (serials past))).alive n alive) [
      | inl o ↦ (let how = opened_as o in in_history entry how.0 last_in how.1 how.2)
      | inr old ↦ by_old (known.stays n old)
    ]
      where
        by_old : Stays s (kept_on past) n → Stays added (kept_on past) n
        by_old (in_history other how has e same) = in_history other how (old_in other has) e same
        by_old (is_kept at e) = is_kept at e

    entry_kind : OfKind entry
    entry_kind = λ how e. by_kind (is_prepared command.kind) refl how e
      where
        by_kind : (prepares : Bool) → is_prepared command.kind ≡ prepares → (how : PreparedAs)
            → led_as prepares (next_number s.table.statements) its ≡ Some how → command.kind ≡ kinds.Prepare
        by_kind true k how e = kind_is command.kind k
        by_kind false k how e = absurd cc

    pub added_known : Known config (Puts (Tells number (Passes link command payload (Some its) Accepts)) ∷ past)
    added_known = record {
      covers = λ l n has alive. added_covers l n has alive (link == l) refl;
      stays = λ n alive. added_stays n alive;
      kinds = λ other has. elim (in_either other entry s.history (subst (In other) history_is has)) [
        | inl before ↦ known.kinds other before
        | inr same ↦ subst OfKind same entry_kind
      ];
      plays = known.plays;
      runs = λ other execution e b. absurd cc;
      sets = λ other e. absurd cc;
    }

  -- or isn't, and the session is kept then where a statement came
  module _ (recording : Recording) (none : serial_for recording (serials past) ≡ None)
      (c : (l : ℕ) → cursor l (Puts (Tells number (Passes link command payload (Some its) recording)) ∷ past) ≡ cursor l past)
      (k : (at : ℕ) → kept_on past ≡ Some at → kept_on (Puts (Tells number (Passes link command payload (Some its) recording)) ∷ past) ≡ Some at)
      (o_k : (n : ℕ) (now : Statements) → Opened link command its s now n
      → kept_on (Puts (Tells number (Passes link command payload (Some its) recording)) ∷ past) ≡ Some link) where
    abbrev behind_it : List Item
    behind_it = Puts (Tells number (Passes link command payload (Some its) recording)) ∷ past

    answers_then : Answers link command its s (statements config behind_it)
    answers_then = answers_now (serial_for recording (serials past))

    same_history : (statements config behind_it).history ≡ s.history
    same_history =
        ap (λ (serial : Option ℕ). (answered_in link (pending past) its serial s).history) none
        ∙ ap (λ (found : Option Command). (answered_in link found its None s).history) p
        ∙ unrecorded_is link command its s

    old_covers : (l n : ℕ) → Covers s (cursor l past) (kept_on past) l n → Covers (statements config behind_it) (cursor l past) (kept_on behind_it) l n
    old_covers l n (has_id id) = has_id (answers_then.ids l n id)
    old_covers l n (later other how has e same above) = later other how (subst (In other) (sym same_history) has) e same above
    old_covers l n (elsewhere at e apart) = elsewhere at (k at e) apart

    new_covers : (l n : ℕ) → Opened link command its s (statements config behind_it) n → (test : Bool) → (link == l) ≡ test
        → Covers (statements config behind_it) (cursor l past) (kept_on behind_it) l n
    new_covers l n o true t = has_id (subst (λ (x : ℕ). HasOn x n (statements config behind_it).table.links) (eqb-true link l t) o.on_link)
    new_covers l n o false t =
        elsewhere link (o_k n (statements config behind_it) o)
        (λ same. let yes : (link == l) ≡ true = eq-eqb link l same in let clash : true ≡ false = sym yes ∙ t in cc)

    old_stays : (n : ℕ) → Stays s (kept_on past) n → Stays (statements config behind_it) (kept_on behind_it) n
    old_stays n (in_history other how has e same) = in_history other how (subst (In other) (sym same_history) has) e same
    old_stays n (is_kept at e) = is_kept at (k at e)

    pub kept_known : Known config behind_it
    kept_known = record {
      covers = λ l n has alive.
          subst (λ (count : ℕ). Covers (statements config behind_it) count (kept_on behind_it) l n) (sym (c l))
          (elim (answers_then.alive n alive) [
            | inl o ↦ new_covers l n o (link == l) refl
            | inr old ↦ old_covers l n (known.covers l n has old)
          ]);
      stays = λ n alive. elim (answers_then.alive n alive) [
        | inl o ↦ is_kept link (o_k n (statements config behind_it) o)
        | inr old ↦ old_stays n (known.stays n old)
      ];
      kinds = λ other has. known.kinds other (subst (In other) same_history has);
      plays = known.plays;
      runs = λ other execution e b. absurd cc;
      sets = λ other e. absurd cc;
    }
