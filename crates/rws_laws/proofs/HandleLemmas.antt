-- A handle that a client is told fits into its four bytes: there are never more than 65,536 places for statements.
use Rattle.std.proofs.Common.{◌≡◌, ℕ, zero, suc, ◌+◌, ◌-◌, ◌^◌, ◌<◌, ◌≤◌, Bool, true, false, List, [], ◌∷◌, ◌++◌, length, refl, sym, ap, ◌∙◌, arith, inl, inr, Option, Some, None}
use Rattle.std.specs.Prelude.{◌==◌, ◌&&◌, nat_lt, not, is_some, take, slice_get, slice_set, slice_index_or, unwrap_or, Result, Ok, Err, if◌then◌else◌}
use Rattle.std.proofs.lemmas.Bool.{cases_lt, le-ltb}
use Rattle.std.proofs.lemmas.List.{length-append}
use Rattle.rws_msgs.specs.declared.prepare_ok.PrepareOk.{PrepareOk}
use Rattle.rws_reply.specs.declared.kind.Outcome.{Outcome}
use Rattle.rws_reply.specs.declared.kind.Outcome.TheVariants.{Done, Failed}
use Rattle.rws_reply.specs.declared.kind.Progress.TheVariants.{More, Whole as Ends}
use Rattle.rws_trx.specs.Transactions.{is_open}
use Rattle.rws_front.specs.Connection.{step_of}
use Rattle.rws_link.specs.declared.step.LinkStep.{LinkStep}
use Rattle.rws_link.specs.declared.step.LinkStep.TheVariants as steps
use Rattle.rws_config.specs.declared.config.Config.{Config}
use Rattle.rws_handles.specs.declared.fault.ExecuteFault.{ExecuteFault}
use Rattle.rws_handles.specs.PlainForm.{Plain, handle_in}
use Rattle.rws_handles.specs.Prepared.{LongData, Prepared, closed_later, executed, with_long_data, without_long_data}
use Rattle.rws_handles.specs.Slots.{Slots, closed_numbers, is_crowded, next_number, statement_at, updated, with_opened, with_opened_by, without_all, without_statement}
use Rattle.rws_handles.specs.Table.{Table, changed, closed, execute_of, named, open_at}
use Rattle.rws_commands.specs.declared.command.Command.{Command}
use Rattle.rws_commands.specs.declared.history.PreparedAs.{PreparedAs}
use Rattle.rws_commands.specs.declared.judged.Judged.{Judged}
use Rattle.rws_commands.specs.declared.judged.Judged.TheVariants.{Leaves, IsOwn, IsRefused, IsSilent, HasTooMuch, Serves}
use Rattle.rws_commands.specs.declared.proxy_error.ProxyError.{ProxyError}
use Rattle.rws_commands.specs.declared.proxy_error.ProxyError.TheVariants as errors
use Rattle.rws_commands.specs.declared.request.Request.{Request}
use Rattle.rws_commands.specs.declared.request.Request.TheVariants as requests
use Rattle.rws_commands.specs.Commands.{payload_of}
use Rattle.rws_commands.specs.Requests.{arguments_of, request_of}
use Rattle.rws_commands.specs.Statements.{Statements, adding, answered_by, closing, executing, failed_if, is_prepare, is_prepared, next_handle, piece_in, played, prepared_by, resetting, swept_if, taken, taken_for}
use Rattle.rws_record.specs.Item.{Ending, Item, Purpose}
use Rattle.rws_record.specs.Item.Item.{Accepted, TurnsAway, Began, ClientBytes, LinkReady, LinkBytes, ClientGone, LinkLost, Ticks, Routed, Comes, Connects, Takes, Floods, Puts, Starves}
use Rattle.rws_record.specs.Item.Purpose.{Prepares, Asks, Plays, Waits, Probes}
use Rattle.rws_record.specs.Item.Put.{Hands, Tells, Records, Routes, Opens, LogsInto, Sends, Forgets, Drops, Closes}
use Rattle.rws_record.specs.Item.Tell.{Passes, Owns, Refuses}
use Rattle.rws_record.specs.Values.{answered_in, asked_on, command_in, ends_transaction, fronted, heard_on, named_in, named_on, pending, prepares, serial_for, serials, statements, transaction}

small : 65538 ≤ 2 ^ 32
small = omega arith

abbrev AtMost : ℕ → List ℕ → Type 0
AtMost most [] = Unit {0}
AtMost most (number ∷ numbers) = ((0 < number) × (number ≤ most)) × AtMost most numbers

-- there are at most 65,536 places, and no number was given back that is greater, or 0
abbrev pub Bounded : Slots → Type 0
Bounded slots = (length slots.entries ≤ 65536) × AtMost 65536 slots.freed

at_most_end : (most number : ℕ) (numbers : List ℕ) → (0 < number) × (number ≤ most) → AtMost most numbers → AtMost most (numbers ++ number ∷ [])
at_most_end most number [] less all = (less, tt)
at_most_end most number (first ∷ others) less all = (all.0, at_most_end most number others less all.1)

at_most_front : (most n : ℕ) (numbers : List ℕ) → AtMost most numbers → AtMost most (take n numbers)
at_most_front most zero numbers all = tt
at_most_front most (suc n) [] all = tt
at_most_front most (suc n) (first ∷ others) all = (all.0, at_most_front most n others all.1)

at_most_at : (most : ℕ) (numbers : List ℕ) (k other : ℕ) → AtMost most numbers → other ≤ most + 1 → unwrap_or (slice_get numbers k) other ≤ most + 1
at_most_at most [] k other all less = less
at_most_at most (first ∷ others) zero other all less = let its = all.0.1 in omega arith
at_most_at most (first ∷ others) (suc k) other all less = at_most_at most others k other all.1 less

bounded_next : (slots : Slots) → Bounded slots → next_number slots ≤ 65537
bounded_next slots bounded =
    let most = bounded.0 in
    at_most_at 65536 slots.freed (length slots.freed - 1) (length slots.entries + 1) bounded.1 (omega arith)

set_length : (entries : List (Option Prepared)) (k : ℕ) (entry : Option Prepared) → length (slice_set entries k entry) ≡ length entries
set_length [] k entry = refl
set_length (first ∷ others) zero entry = refl
set_length (first ∷ others) (suc k) entry = ap suc (set_length others k entry)

some_at : (most : ℕ) (numbers : List ℕ) (k other : ℕ) → AtMost most numbers → 0 < other → 0 < unwrap_or (slice_get numbers k) other
some_at most [] k other all some = some
some_at most (first ∷ others) zero other all some = all.0.0
some_at most (first ∷ others) (suc k) other all some = some_at most others k other all.1 some

pub next_some : (slots : Slots) → Bounded slots → 0 < next_number slots
next_some slots bounded = some_at 65536 slots.freed (length slots.freed - 1) (length slots.entries + 1) bounded.1 (omega arith)

bounded_set : (slots : Slots) (k : ℕ) (entry : Option Prepared) → Bounded slots → Bounded (record slots { entries = slice_set slots.entries k entry })
bounded_set slots k entry bounded =
    let same = set_length slots.entries k entry in let most = bounded.0 in (omega arith, bounded.1)

bounded_updated : (change : Prepared → Prepared) (number : ℕ) (slots : Slots) → Bounded slots → Bounded (updated change number slots)
bounded_updated change number slots bounded = by_found (statement_at slots number) refl
  where
    by_found : (found : Option Prepared) → statement_at slots number ≡ found → Bounded (updated change number slots)
    by_found None f = rw f bounded
    by_found (Some statement) f = rw f (bounded_set slots (number - 1) (Some (change statement)) bounded)

-- a number that names a statement is no greater than there are places
within : (entries : List (Option Prepared)) (k : ℕ) → is_some (slice_index_or entries k None) ≡ true → k < length entries
within [] k e = absurd cc
within (first ∷ others) zero e = omega arith
within (first ∷ others) (suc k) e = let less = within others k e in omega arith

bounded_without : (number : ℕ) (slots : Slots) → Bounded slots → Bounded (without_statement number slots)
bounded_without number slots bounded = by_test (is_some (statement_at slots number)) refl
  where
    some_number : (n : ℕ) → (n == 0) ≡ false → 0 < n
    some_number zero z = absurd cc
    some_number (suc n) z = omega arith

    by_number : (zeroth : Bool) → (number == 0) ≡ zeroth
        → is_some (if zeroth then None else slice_index_or slots.entries (number - 1) None) ≡ true → (0 < number) × (number ≤ 65536)
    by_number true z e = absurd cc
    by_number false z e =
        let less = within slots.entries (number - 1) e in let most = bounded.0 in (some_number number z, omega arith)

    by_test : (test : Bool) → is_some (statement_at slots number) ≡ test
        → Bounded (if test then record { entries = slice_set slots.entries (number - 1) None; freed = slots.freed ++ number ∷ [] } else slots)
    by_test true t =
        ((bounded_set slots (number - 1) None bounded).0, at_most_end 65536 number slots.freed (by_number (number == 0) refl t) bounded.1)
    by_test false t = bounded

bounded_without_all : (numbers : List ℕ) (slots : Slots) → Bounded slots → Bounded (without_all numbers slots)
bounded_without_all [] slots bounded = bounded
bounded_without_all (number ∷ numbers) slots bounded =
    bounded_without_all numbers (without_statement number slots) (bounded_without number slots bounded)

bounded_opened : (statement : Prepared) (slots : Slots) → is_crowded slots ≡ false → Bounded slots → Bounded (with_opened statement slots)
bounded_opened statement slots room bounded = by_freed slots.freed refl
  where
    by_freed : (freed : List ℕ) → slots.freed ≡ freed → Bounded (with_opened_by freed statement slots)
    by_freed (first ∷ others) f =
        ((bounded_set slots (next_number slots - 1) (Some statement) bounded).0, at_most_front 65536 (length slots.freed - 1) slots.freed bounded.1)
    by_freed [] f =
        elim (cases_lt (length slots.entries) 65536) [
          | inl below ↦
              let one : length (slots.entries ++ Some statement ∷ []) ≡ length slots.entries + 1 = length-append slots.entries (Some statement ∷ []) in
              (omega arith, tt)
          | inr full ↦
              let none : not (nat_lt (length slots.entries) 65536) ≡ true = ap not (le-ltb (length slots.entries) 65536 full) in
              let room : false ≡ true = sym room ∙ ap (λ (freed : List ℕ). (length freed == 0) && not (nat_lt (length slots.entries) 65536)) f ∙ none in absurd cc
        ]

-- a number that names a statement fits into a handle's four bytes
pub alive_fits : (slots : Slots) (number : ℕ) → Bounded slots → is_some (statement_at slots number) ≡ true → number < 2 ^ 32
alive_fits slots number bounded e = by_number (number == 0) refl e
  where
    by_number : (zeroth : Bool) → (number == 0) ≡ zeroth
        → is_some (if zeroth then None else slice_index_or slots.entries (number - 1) None) ≡ true → number < 2 ^ 32
    by_number true z e = absurd cc
    by_number false z e =
        let less = within slots.entries (number - 1) e in let most = bounded.0 in let fits = small in omega arith

-- Steps of the statements

abbrev pub Holds : Statements → Type 0
Holds s = Bounded s.table.statements

if_holds : (test : Bool) (now before : Table) → Bounded now.statements → Bounded before.statements
    → Bounded (if test then now else before).statements
if_holds true now before its others = its
if_holds false now before its others = others

changed_holds : (change : Prepared → Prepared) (table : Table) (handle : ℕ) → Bounded table.statements → Bounded (changed change table handle).statements
changed_holds change table handle bounded = bounded_updated change (named table.last handle) table.statements bounded

executing_holds : (found : Result Plain ExecuteFault) (handle : ℕ) (table : Table) → Bounded table.statements → Bounded (executing found handle table).statements
executing_holds (Ok plain) handle table bounded = changed_holds (executed plain.types) table handle bounded
executing_holds (Err fault) handle table bounded = bounded

adding_holds : (found : Option (ℕ × LongData)) (table : Table) → Bounded table.statements → Bounded (adding found table).statements
adding_holds (Some (handle, piece)) table bounded =
    if_holds (is_some (open_at table handle)) (changed (λ statement. with_long_data statement piece) table handle) table
    (changed_holds (λ statement. with_long_data statement piece) table handle bounded) bounded
adding_holds None table bounded = bounded

resetting_holds : (found : Option ℕ) (table : Table) → Bounded table.statements → Bounded (resetting found table).statements
resetting_holds (Some handle) table bounded =
    if_holds (is_some (open_at table handle)) (changed without_long_data table handle) table (changed_holds without_long_data table handle bounded) bounded
resetting_holds None table bounded = bounded

closed_holds : (later : Bool) (table : Table) (handle : ℕ) → Bounded table.statements → Bounded (closed later table handle).statements
closed_holds true table handle bounded = changed_holds closed_later table handle bounded
closed_holds false table handle bounded = bounded_without (named table.last handle) table.statements bounded

closing_holds : (later : Bool) (handle : Option ℕ) (s : Statements) → Holds s → Holds (closing later handle s)
closing_holds later None s holds = holds
closing_holds later (Some handle) s holds = by_test (is_some (open_at s.table handle)) refl
  where
    by_test : (test : Bool) → is_some (open_at s.table handle) ≡ test → Holds (closing later (Some handle) s)
    by_test true t = rw t (closed_holds later s.table handle holds)
    by_test false t = rw t holds

taken_holds : (request : Request) (in_transaction : Bool) (payload : List ℕ) (s : Statements) → Holds s → Holds (taken request in_transaction payload s)
taken_holds requests.CloseStatement in_transaction payload s holds = closing_holds in_transaction (handle_in payload) s holds
taken_holds requests.Execute in_transaction payload s holds =
    executing_holds (execute_of s.table payload) (unwrap_or (handle_in payload) 0) s.table holds
taken_holds requests.SendLongData in_transaction payload s holds = adding_holds (piece_in payload) s.table holds
taken_holds requests.ResetStatement in_transaction payload s holds = resetting_holds (handle_in payload) s.table holds
taken_holds requests.Prepare in_transaction payload s holds = holds
taken_holds requests.Quit in_transaction payload s holds = holds
taken_holds requests.Ping in_transaction payload s holds = holds
taken_holds requests.Query in_transaction payload s holds = holds
taken_holds requests.FieldList in_transaction payload s holds = holds
taken_holds requests.InitDb in_transaction payload s holds = holds
taken_holds requests.Unsupported in_transaction payload s holds = holds
taken_holds requests.Unknown in_transaction payload s holds = holds

failed_holds : (prepares : Bool) (s : Statements) → Holds s → Holds (failed_if prepares s)
failed_holds true s holds = holds
failed_holds false s holds = holds

taken_for_holds : (judged : Judged) (request : Request) (in_transaction : Bool) (payload : List ℕ) (s : Statements) → Holds s
    → Holds (taken_for judged request in_transaction payload s)
taken_for_holds (IsRefused error) request in_transaction payload s holds = failed_holds (is_prepare request) s holds
taken_for_holds (HasTooMuch bytes) request in_transaction payload s holds = holds
taken_for_holds Leaves request in_transaction payload s holds = taken_holds request in_transaction payload s holds
taken_for_holds IsOwn request in_transaction payload s holds = taken_holds request in_transaction payload s holds
taken_for_holds IsSilent request in_transaction payload s holds = taken_holds request in_transaction payload s holds
taken_for_holds (Serves command) request in_transaction payload s holds = taken_holds request in_transaction payload s holds

swept_holds : (ends : Bool) (s : Statements) → Holds s → Holds (swept_if ends s)
swept_holds true s holds = bounded_without_all (closed_numbers s.table.statements) s.table.statements holds
swept_holds false s holds = holds

played_holds : (link serial : ℕ) (how : Option PreparedAs) (named : Option PrepareOk) (s : Statements) → Holds s → Holds (played link serial how named s)
played_holds link serial (Some how) (Some ok) s holds = holds
played_holds link serial (Some how) None s holds = holds
played_holds link serial None named s holds = holds

heard_holds : (link : ℕ) (said : LinkStep) (asked : Option Purpose) (ends : Outcome → Bool) (named : Option PrepareOk) (s : Statements) → Holds s
    → Holds (heard_on link said asked ends named s)
heard_holds link (steps.Part payload role (Ends outcome) next behind) (Some (Asks command id)) ends named s holds = swept_holds (ends outcome) s holds
heard_holds link (steps.Part payload role (Ends (Done status)) next behind) (Some (Plays entry)) ends named s holds =
    played_holds link entry.serial entry.statement (named_in role payload named) s holds
heard_holds link (steps.Part payload role (Ends (Failed code)) next behind) (Some (Plays entry)) ends named s holds = holds
heard_holds link (steps.Part payload role (Ends outcome) next behind) (Some Prepares) ends named s holds = holds
heard_holds link (steps.Part payload role (Ends outcome) next behind) (Some (Waits gtid seconds)) ends named s holds = holds
heard_holds link (steps.Part payload role (Ends outcome) next behind) (Some (Probes gtid)) ends named s holds = holds
heard_holds link (steps.Part payload role (Ends outcome) next behind) None ends named s holds = holds
heard_holds link (steps.Part payload role More next behind) asked ends named s holds = holds
heard_holds link (steps.Lost cause) asked ends named s holds = holds
heard_holds link (steps.Send packets) asked ends named s holds = holds
heard_holds link steps.LoggedIn asked ends named s holds = holds
heard_holds link steps.Idle asked ends named s holds = holds

prepared_holds : (link : ℕ) (text : List ℕ) (outcome : Outcome) (named : Option PrepareOk) (table : Table) → Bounded table.statements
    → Bounded (prepared_by link text outcome named table).statements
prepared_holds link text (Done status) (Some ok) table holds = by_test (is_crowded table.statements) refl
  where
    by_test : (test : Bool) → is_crowded table.statements ≡ test → Bounded (prepared_by link text (Done status) (Some ok) table).statements
    by_test true t = rw t holds
    by_test false t = rw t (bounded_opened _ table.statements t holds)
prepared_holds link text (Done status) None table holds = holds
prepared_holds link text (Failed code) named table holds = holds

answered_holds : (link : ℕ) (command : Option Command) (its : Ending) (serial : Option ℕ) (s : Statements) → Holds s
    → Holds (answered_in link command its serial s)
answered_holds link None its serial s holds = holds
answered_holds link (Some command) its serial s holds = by_kind (is_prepared command.kind) serial
  where
    by_kind : (prepares : Bool) (serial : Option ℕ) → Holds (answered_by prepares link command its.outcome its.named serial s)
    by_kind true (Some serial) = prepared_holds link (arguments_of (payload_of command.body)) its.outcome its.named s.table holds
    by_kind true None = prepared_holds link (arguments_of (payload_of command.body)) its.outcome its.named s.table holds
    by_kind false (Some serial) = holds
    by_kind false None = holds

refused_holds : (config : Config) (past : List Item) (number : ℕ) (error : ProxyError) → Holds (statements config past)
    → Holds (statements config (Puts (Tells number (Refuses error)) ∷ past))
refused_holds config past number errors.NoPrimary holds = failed_holds (prepares (pending past)) (statements config past) holds
refused_holds config past number (errors.PrimaryBehind wanted found) holds = failed_holds (prepares (pending past)) (statements config past) holds
refused_holds config past number errors.UnknownCommand holds = holds
refused_holds config past number errors.NotSupported holds = holds
refused_holds config past number errors.UnknownStatement holds = holds
refused_holds config past number errors.BadExecute holds = holds
refused_holds config past number errors.TooManyStatements holds = holds
refused_holds config past number errors.NotInReadOnly holds = holds
refused_holds config past number errors.TooManyConnections holds = holds
refused_holds config past number errors.CommandTooLarge holds = holds
refused_holds config past number errors.OutOfMemory holds = holds

pub bounded : (config : Config) (past : List Item) → Holds (statements config past)
bounded config [] = (omega arith, tt)
bounded config (Takes judged number ∷ past) =
    taken_for_holds judged (request_of (command_in (step_of config.accounts (fronted config past)).0)) (is_open (transaction config past).state)
    (command_in (step_of config.accounts (fronted config past)).0) (statements config past) (bounded config past)
bounded config (Comes link said ∷ past) =
    heard_holds link said (asked_on link past) (λ outcome. ends_transaction config link outcome past) (named_on link past) (statements config past) (bounded config past)
bounded config (Puts (Tells number (Passes link command payload (Some its) recording)) ∷ past) =
    answered_holds link (pending past) its (serial_for recording (serials past)) (statements config past) (bounded config past)
bounded config (Puts (Tells number (Passes link command payload None recording)) ∷ past) = bounded config past
bounded config (Puts (Tells number (Owns status)) ∷ past) = bounded config past
bounded config (Puts (Tells number (Refuses error)) ∷ past) = refused_holds config past number error (bounded config past)
bounded config (Puts (Hands packets) ∷ past) = bounded config past
bounded config (Puts (Records server gtid) ∷ past) = bounded config past
bounded config (Puts Routes ∷ past) = bounded config past
bounded config (Puts (Opens link server login) ∷ past) = bounded config past
bounded config (Puts (LogsInto link packets) ∷ past) = bounded config past
bounded config (Puts (Sends link purpose) ∷ past) = bounded config past
bounded config (Puts (Forgets link id) ∷ past) = bounded config past
bounded config (Puts (Drops link cause) ∷ past) = bounded config past
bounded config (Puts (Closes reason) ∷ past) = bounded config past
bounded config (Accepted session scramble reading ∷ past) = bounded config past
bounded config (TurnsAway told ∷ past) = bounded config past
bounded config (Began link server reading ∷ past) = bounded config past
bounded config (ClientBytes bytes ∷ past) = bounded config past
bounded config (LinkReady link ∷ past) = bounded config past
bounded config (LinkBytes link bytes ∷ past) = bounded config past
bounded config (ClientGone ∷ past) = bounded config past
bounded config (LinkLost link ∷ past) = bounded config past
bounded config (Ticks reading ∷ past) = bounded config past
bounded config (Routed words loads next found ∷ past) = bounded config past
bounded config (Connects said ∷ past) = bounded config past
bounded config (Floods bytes ∷ past) = bounded config past
bounded config (Starves made number ∷ past) = bounded config past

pub next_fits : (config : Config) (past : List Item) → next_handle (statements config past) < 2 ^ 32
next_fits config past =
    let most = bounded_next (statements config past).table.statements (bounded config past) in let fits = small in omega arith
