-- Where the client's command goes on a link, something is sent: an execute is of a statement for which the link's server has an id.
use Rattle.std.proofs.Common.{◌≡◌, ℕ, ◌<◌, Bool, true, false, List, [], ◌∷◌, ◌++◌, map, refl, sym, ap, subst, ◌∙◌, arith, inl, inr, Option, Some, None}
use Rattle.std.specs.Prelude.{◌⊎◌, ◌==◌, nat_lt, is_some, if◌then◌else◌}
use Rattle.std.proofs.lemmas.Bool.{cases_lt, eq-eqb, eqb-true, lt-ltb, le-ltb}
use Rattle.rws_wire.specs.declared.drop_cause.DropCause.{DropCause}
use Rattle.rws_wire.specs.declared.payload.Payload.{Payload}
use Rattle.rws_reply.specs.declared.kind.Outcome.TheVariants.{Done}
use Rattle.rws_front.specs.Connection.{step_of}
use Rattle.rws_front.specs.declared.step.FrontStep.TheVariants as fronts
use Rattle.rws_trx.specs.Transactions.{is_open}
use Rattle.rws_native.specs.declared.login.Login.{Login}
use Rattle.rws_link.specs.Stepping.{Exchange}
use Rattle.rws_config.specs.declared.config.Config.{Config}
use Rattle.rws_handles.specs.PlainForm.{number_in, renumbered, run_bytes, long_data_bytes}
use Rattle.rws_handles.specs.Prepared.{Prepared}
use Rattle.rws_handles.specs.Slots.{no_slots, statement_at}
use Rattle.rws_handles.specs.Table.{number_of_execute}
use Rattle.rws_handles.proofs.RunLemmas.{number_kept}
use Rattle.rws_commands.specs.declared.command.Body.{Body}
use Rattle.rws_commands.specs.declared.command.Body.TheVariants.{Payload as Whole, Run}
use Rattle.rws_commands.specs.declared.command.Command.{Command}
use Rattle.rws_commands.specs.declared.command.Execution.{Execution}
use Rattle.rws_commands.specs.declared.history.HistoryEntry.{HistoryEntry}
use Rattle.rws_commands.specs.declared.judged.Judged.{Judged}
use Rattle.rws_commands.specs.declared.judged.Judged.TheVariants.{Leaves, IsOwn, IsRefused, IsSilent, HasTooMuch, Serves}
use Rattle.rws_commands.specs.declared.proxy_error.ProxyError.{ProxyError}
use Rattle.rws_commands.specs.declared.proxy_error.ProxyError.TheVariants as errors
use Rattle.rws_commands.specs.Commands.{asked_under, class_of_command, id_for}
use Rattle.rws_commands.specs.Judging.{judged}
use Rattle.rws_commands.specs.Requests.{request_of}
use Rattle.rws_commands.specs.Statements.{Statements, entry_from, failed_if, taken_for, unplayed}
use Rattle.rws_record.specs.Item.{Ending, Item, Purpose, Put, Recording}
use Rattle.rws_record.specs.Item.Item.{Accepted, TurnsAway, Began, ClientBytes, LinkReady, LinkBytes, ClientGone, LinkLost, Ticks, Routed, Connects, Takes, Puts, Starves}
use Rattle.rws_record.specs.Item.Put.{Hands, Tells, Records, Routes, Opens, LogsInto, Sends, Forgets, Drops, Closes}
use Rattle.rws_record.specs.Item.Purpose.{Prepares, Asks, Plays, Waits, Probes}
use Rattle.rws_record.specs.Item.Recording.{Nothing, Accepts, Keeps}
use Rattle.rws_record.specs.Item.Tell.{Passes, Owns, Refuses}
use Rattle.rws_record.specs.Values.{asked_on, awaited, command_in, contains, cursor, fronted, goes_on, kept_by, kept_on, links, or_link, pending, pinned, prepares, routing, sent_all, statements, transaction, without}
use Rattle.rws_record.specs.Rules.{situation}
use Rattle.rws_record.specs.Record.{IsBeginning, IsInput, IsRecord}
use Rattle.rws_record.specs.Record.IsRecord.{begins, steps as goes, answers as answered, hears, starves}
use Rattle.rws_record.proofs.StepLemmas.{Due, Step, of_next}
use Rattle.rws_record.proofs.StepLemmas.Due.{comes, connects, takes}
use Rattle.rws_record.proofs.StepLemmas.Step.{pays, asks, prepares as prepares_it, forgets, plays as plays_it, sends, waits_first, probes_first, floods, reads}
use Rattle.rws_record.proofs.WithoutLemmas.{without_has_less}
use Rattle.rws_laws.specs.Causes.{AreCaused, IsCaused, IsOpening, SetsSession}
use Rattle.rws_laws.proofs.CausesLemmas.{causes}
use Rattle.rws_laws.proofs.FollowLemmas.{Alive, Follows, In, failed_follows, same_follows, taken_for_follows}
use Rattle.rws_laws.proofs.HandleLemmas.{alive_fits, bounded}
use Rattle.rws_laws.proofs.IdLemmas.{IsRunBy, IsServed, Sets, judged_served, renumbered_some, run_open, run_some, sent_some, still_open}
use Rattle.rws_laws.proofs.KnownLemmas.{Covers, Known, Runs, RunsOpen, Stays, OfKind, added_known, came_known, covers_follows, kept_known, known_still, quiet, stays_follows}
use Rattle.rws_laws.proofs.KnownLemmas.Covers.{has_id, later, elsewhere}
use Rattle.rws_laws.proofs.KnownLemmas.Stays.{in_history, is_kept}
use Rattle.rws_laws.proofs.LinkIdLemmas.{HasOn, forgotten_keeps, without_keeps}
use Rattle.rws_laws.proofs.ListLemmas.{had_before, stays_other}
use Rattle.rws_laws.proofs.PinnedLemmas.{asked_nowhere, goes_pinned, neither_link, pinned_nowhere, sent_goes}
use Rattle.rws_laws.proofs.Sound.{same_some}

-- what is found from a serial on stands there; and nothing stands behind where none is found
found_in : (count : ℕ) (list : List HistoryEntry) (entry : HistoryEntry) → entry_from count list ≡ Some entry → In entry list
found_in count [] entry e = absurd cc
found_in count (first ∷ others) entry e = by_test (nat_lt first.serial count) e (found_in count others entry)
  where
    by_test : (test : Bool) → (if test then entry_from count others else Some first) ≡ Some entry → (entry_from count others ≡ Some entry → In entry others)
        → (first ≡ entry) ⊎ In entry others
    by_test true e rest = inr (rest e)
    by_test false e rest = inl (let same : first ≡ entry = cc in same)

none_behind : (count : ℕ) (list : List HistoryEntry) (entry : HistoryEntry) → entry_from count list ≡ None → In entry list → entry.serial < count
none_behind count [] entry e has = absurd has
none_behind count (first ∷ others) entry e has =
    elim (cases_lt first.serial count) [
      | inl below ↦
          let rest : entry_from count others ≡ None = rw (lt-ltb first.serial count below) at e in
          by_place below (none_behind count others entry rest) has
      | inr above ↦ let clash : Some first ≡ None = rw (le-ltb first.serial count above) at e in absurd cc
    ]
  where
    by_place : first.serial < count → (In entry others → entry.serial < count) → (first ≡ entry) ⊎ In entry others → entry.serial < count
    by_place below rest (inl same) = subst (λ (x : HistoryEntry). x.serial < count) same below
    by_place below rest (inr has) = rest has

-- what is asked for the client keeps the session where it was kept
kept_still : (command : Command) (link : ℕ) (kept : Option ℕ) (at : ℕ) → kept ≡ Some at → kept_by (class_of_command command) link kept ≡ Some at
kept_still command link kept at k = rw k refl

module _ (config : Config) (past : List Item) (known : Known config past) where
  -- something is sent on a link
  sent_known : (to : ℕ) (purpose : Purpose) → ((at : ℕ) → kept_on past ≡ Some at → kept_on (Puts (Sends to purpose) ∷ past) ≡ Some at)
      → ((entry : HistoryEntry) → Some purpose ≡ Some (Plays entry) → OfKind entry) → Known config (Puts (Sends to purpose) ∷ past)
  sent_known to purpose k its =
      known_still config past (Puts (Sends to purpose)) known (same_follows (statements config past) (statements config past) refl refl refl) (λ link h. h) k
      (λ link entry q. by_test (to == link) link entry q) (λ command p. p) (λ number statement f c. f) (λ link. refl)
    where
      by_test : (test : Bool) (link : ℕ) (entry : HistoryEntry) → (if test then Some purpose else asked_on link past) ≡ Some (Plays entry)
          → (asked_on link past ≡ Some (Plays entry)) ⊎ OfKind entry
      by_test true link entry q = inr (its entry q)
      by_test false link entry q = inl q

  forget_known : (to id : ℕ) → Known config (Puts (Forgets to id) ∷ past)
  forget_known to id =
      known_still config past (Puts (Forgets to id)) known
      (record {
        table = record { alive = λ number a. a; ids = λ link number a has. forgotten_keeps to link number (statements config past).table.links has };
        stays = λ entry how e a has. has;
        was = λ entry has. has;
      })
      (λ link h. h) (λ at e. e) (λ link entry q. inl q) (λ command p. p) (λ number statement f c. f) (λ link. refl)

  -- a link is opened in a session that isn't kept
  open_known : (opened server : ℕ) (login : Login) → kept_on past ≡ None → Known config (Puts (Opens opened server login) ∷ past)
  open_known opened server login free = record {
    covers = λ link n has alive. by_test link n (opened == link) refl has alive;
    stays = known.stays;
    kinds = known.kinds;
    plays = λ link entry q. asked_test link entry (opened == link) q;
    runs = known.runs;
    sets = known.sets;
  }
    where
      new_covers : (link n : ℕ) → Stays (statements config past) (kept_on past) n → Covers (statements config past) 0 (kept_on past) link n
      new_covers link n (in_history entry how has e same) = later entry how has e same (omega arith)
      new_covers link n (is_kept at e) = absurd (let clash : None ≡ Some at = sym free ∙ e in cc)

      by_test : (link n : ℕ) (test : Bool) → (opened == link) ≡ test → contains link (without opened (links past) ++ opened ∷ []) ≡ true
          → Alive n (statements config past).table.statements
          → Covers (statements config past) (if test then 0 else cursor link past) (kept_on past) link n
      by_test link n true t has alive = new_covers link n (known.stays n alive)
      by_test link n false t has alive = known.covers link n (had_before link opened (links past) t has) alive

      asked_test : (link : ℕ) (entry : HistoryEntry) (test : Bool) → (if test then None else asked_on link past) ≡ Some (Plays entry) → OfKind entry
      asked_test link entry true q = absurd cc
      asked_test link entry false q = known.plays link entry q

  -- one is gone
  gone_covers : (gone link n : ℕ) → contains link (without gone (links past)) ≡ true → Alive n (statements config past).table.statements
      → Covers (statements config (LinkLost gone ∷ past)) (cursor link past) (kept_on past) link n
  gone_covers gone link n has alive =
      by_covers (known.covers link n (without_has_less gone link (links past) has) alive)
    where
      apart : (test : Bool) → (gone == link) ≡ test → (gone == link) ≡ false
      apart true t =
          let same : (link == gone) ≡ true = eq-eqb link gone (sym (eqb-true gone link t)) in
          let clash : true ≡ false = sym same ∙ stays_other gone link (links past) has in absurd cc
      apart false t = t

      by_covers : Covers (statements config past) (cursor link past) (kept_on past) link n
          → Covers (statements config (LinkLost gone ∷ past)) (cursor link past) (kept_on past) link n
      by_covers (has_id id) = has_id (without_keeps gone link n (statements config past).table.links (apart (gone == link) refl) id)
      by_covers (later entry how has e same above) = later entry how has e same above
      by_covers (elsewhere at e other) = elsewhere at e other

  gone_stays : (gone n : ℕ) → Stays (statements config past) (kept_on past) n → Stays (statements config (LinkLost gone ∷ past)) (kept_on past) n
  gone_stays gone n (in_history entry how has e same) = in_history entry how has e same
  gone_stays gone n (is_kept at e) = is_kept at e

  lost_known : (gone : ℕ) → Known config (LinkLost gone ∷ past)
  lost_known gone = record {
    covers = gone_covers gone;
    stays = λ n alive. gone_stays gone n (known.stays n alive);
    kinds = known.kinds;
    plays = known.plays;
    runs = known.runs;
    sets = known.sets;
  }

  drop_known : (gone : ℕ) (cause : DropCause) → Known config (Puts (Drops gone cause) ∷ past)
  drop_known gone cause = let its = lost_known gone in record {
    covers = its.covers;
    stays = its.stays;
    kinds = its.kinds;
    plays = its.plays;
    runs = its.runs;
    sets = its.sets;
  }

  -- a command is taken up
  module _ (payload : Payload) (p : pending past ≡ None) (f : (step_of config.accounts (fronted config past)).0 ≡ fronts.Command payload) where
    abbrev its : Judged
    its = judged (situation config past) (statements config past) payload.bytes payload.next

    abbrev in_transaction : Bool
    in_transaction = is_open (transaction config past).state

    none : {A : Type 0} {command : Command} → pending past ≡ Some command → A
    none {command = command} e = absurd (let clash : None ≡ Some command = sym p ∙ e in cc)

    run_now : (execution : Execution) (command : Command) → IsRunBy (statements config past).table payload.bytes execution
        → RunsOpen (taken_for (Serves command) (request_of payload.bytes) in_transaction payload.bytes (statements config past)) execution
    run_now execution command run =
        let open_ = run_open (statements config past) payload.bytes run.0 run.1 in
        let still = still_open (statements config past) payload.bytes run.0 run.1 in_transaction in
        let number = number_of_execute (statements config past).table payload.bytes in
        let fits = alive_fits (statements config past).table.statements number (bounded config past) (ap is_some open_.1) in
        let same : number_in execution.commands ≡ number = number_kept execution.commands number run.0 fits run.2 in (
          still.0,
          rw (same, run.3) still.1,
          still.2,
          (λ empty. run_some (map (long_data_bytes number) run.0.long_data) (run_bytes number run.0) (sym run.2 ∙ empty)),
        )

    -- what it is known to be
    taken_so : (it : Judged) → IsServed (statements config past).table payload.bytes it
        → Runs (taken_for it (request_of payload.bytes) in_transaction payload.bytes (statements config past)) (pending (Takes it payload.next ∷ past))
        × ((command : Command) → pending (Takes it payload.next ∷ past) ≡ Some command → Sets command)
    taken_so (Serves command) served = (
      (λ other execution e b.
          let same : command ≡ other = same_some command other e in
          run_now execution command (served.1 execution (ap (λ (x : Command). x.body) same ∙ b))),
      (λ other e. subst Sets (same_some command other e) served.0),
    )
    taken_so Leaves served = ((λ other execution e b. none e), (λ other e. none e))
    taken_so IsOwn served = ((λ other execution e b. none e), (λ other e. none e))
    taken_so (IsRefused error) served = ((λ other execution e b. none e), (λ other e. none e))
    taken_so IsSilent served = ((λ other execution e b. none e), (λ other e. none e))
    taken_so (HasTooMuch bytes) served = ((λ other execution e b. none e), (λ other e. none e))

    taken_known : Known config (Takes its payload.next ∷ past)
    taken_known =
        let bytes : command_in (step_of config.accounts (fronted config past)).0 ≡ payload.bytes = ap command_in f in
        let so = taken_so its (judged_served (situation config past) (statements config past) payload.bytes payload.next) in
        let follows : Follows (statements config past) (statements config (Takes its payload.next ∷ past)) =
        taken_for_follows its (request_of (command_in (step_of config.accounts (fronted config past)).0)) in_transaction
        (command_in (step_of config.accounts (fronted config past)).0) (statements config past) in
        record {
          covers = λ link n has alive. covers_follows follows (λ at e. e) alive (known.covers link n has (follows.table.alive n alive));
          stays = λ n alive. stays_follows follows (λ at e. e) alive (known.stays n (follows.table.alive n alive));
          kinds = λ entry has. known.kinds entry (follows.was entry has);
          plays = known.plays;
          runs = subst (λ (list : List ℕ). Runs (taken_for its (request_of list) in_transaction list (statements config past)) (pending (Takes its payload.next ∷ past))) (sym bytes) so.0;
          sets = so.1;
        }

  -- an error of the proxy's own
  refused_known : (number : ℕ) (error : ProxyError) → Known config (Puts (Tells number (Refuses error)) ∷ past)
  refused_known number errors.NoPrimary =
      known_still config past (Puts (Tells number (Refuses errors.NoPrimary))) known (failed_follows (prepares (pending past)) (statements config past))
      (λ link h. h) (λ at e. e) (λ link entry q. inl q) (λ command e. absurd cc) (failed_open (prepares (pending past)) (statements config past)) (λ link. refl)
    where
      failed_open : (prepares : Bool) (s : Statements) (n : ℕ) (statement : Prepared) → statement_at s.table.statements n ≡ Some statement
          → statement.closed ≡ false → statement_at (failed_if prepares s).table.statements n ≡ Some statement
      failed_open true s n statement found open_ = found
      failed_open false s n statement found open_ = found
  refused_known number (errors.PrimaryBehind wanted found) =
      known_still config past (Puts (Tells number (Refuses (errors.PrimaryBehind wanted found)))) known (failed_follows (prepares (pending past)) (statements config past))
      (λ link h. h) (λ at e. e) (λ link entry q. inl q) (λ command e. absurd cc) (failed_open (prepares (pending past)) (statements config past)) (λ link. refl)
    where
      failed_open : (prepares : Bool) (s : Statements) (n : ℕ) (statement : Prepared) → statement_at s.table.statements n ≡ Some statement
          → statement.closed ≡ false → statement_at (failed_if prepares s).table.statements n ≡ Some statement
      failed_open true s n statement found open_ = found
      failed_open false s n statement found open_ = found
  refused_known number errors.UnknownCommand = quiet (Puts (Tells number (Refuses errors.UnknownCommand))) refl (λ link h. h) refl (λ link. refl) (λ command p. p) (λ link. refl) known
  refused_known number errors.NotSupported = quiet (Puts (Tells number (Refuses errors.NotSupported))) refl (λ link h. h) refl (λ link. refl) (λ command p. p) (λ link. refl) known
  refused_known number errors.UnknownStatement = quiet (Puts (Tells number (Refuses errors.UnknownStatement))) refl (λ link h. h) refl (λ link. refl) (λ command p. p) (λ link. refl) known
  refused_known number errors.BadExecute = quiet (Puts (Tells number (Refuses errors.BadExecute))) refl (λ link h. h) refl (λ link. refl) (λ command p. p) (λ link. refl) known
  refused_known number errors.TooManyStatements = quiet (Puts (Tells number (Refuses errors.TooManyStatements))) refl (λ link h. h) refl (λ link. refl) (λ command p. p) (λ link. refl) known
  refused_known number errors.NotInReadOnly = quiet (Puts (Tells number (Refuses errors.NotInReadOnly))) refl (λ link h. h) refl (λ link. refl) (λ command p. p) (λ link. refl) known
  refused_known number errors.TooManyConnections = quiet (Puts (Tells number (Refuses errors.TooManyConnections))) refl (λ link h. h) refl (λ link. refl) (λ command p. p) (λ link. refl) known
  refused_known number errors.CommandTooLarge = quiet (Puts (Tells number (Refuses errors.CommandTooLarge))) refl (λ link h. h) refl (λ link. refl) (λ command p. p) (λ link. refl) known
  refused_known number errors.OutOfMemory = quiet (Puts (Tells number (Refuses errors.OutOfMemory))) refl (λ link h. h) refl (λ link. refl) (λ command p. p) (λ link. refl) known

  -- What is given out

  module _ (legal : IsRecord config past) (caused : AreCaused config past) where
    pass_known : (number link : ℕ) (command : Command) (payload : List ℕ) (its : Ending) (recording : Recording)
        → IsCaused config (Tells number (Passes link command payload (Some its) recording)) past
        → Known config (Puts (Tells number (Passes link command payload (Some its) recording)) ∷ past)
    pass_known number link command payload its Accepts cause =
        added_known config past legal known number link command payload its cause.0.of_reply.pending.waits cause.0.of_reply.sent
    pass_known number link command payload its Keeps cause =
        kept_known config past legal known number link command payload its cause.0.of_reply.pending.waits Keeps refl (λ l. refl)
        (λ at e. absurd (let clash : None ≡ Some at = sym cause.3.0.free ∙ e in cc)) (λ n now o. refl)
    pass_known number link command payload its Nothing cause =
        kept_known config past legal known number link command payload its cause.0.of_reply.pending.waits Nothing refl (λ l. refl)
        (λ at e. e) (λ n now o. by_kept (known.sets command cause.0.of_reply.pending.waits o.kind) o.status o.done (kept_on past) refl)
      where
        by_kept : SetsSession (class_of_command command) → (status : ℕ) → its.outcome ≡ Done status → (kept : Option ℕ) → kept_on past ≡ kept
            → kept_on past ≡ Some link
        by_kept set status done None k = absurd (cause.3 (record { class = set; status = status; done = done; free = k }))
        by_kept set status done (Some at) k =
            let goes = sent_goes config past caused link cause.0.of_reply.sent in
            let same : at ≡ link =
            goes_pinned (pinned config past) (routing config past).assigned at link
            (ap (λ (on : Option ℕ). or_link on (transaction config past).link) k) goes in
            k ∙ ap Some same

    free_so : (link server : ℕ) → IsOpening config link server past → kept_on past ≡ None
    free_so link server its =
        let routed : AreCaused config (Routed its.words its.loads link its.found ∷ its.below) = subst (AreCaused config) its.answered caused in
        let none : goes_on config its.below ≡ None = asked_nowhere config its.below routed.1.0 routed.1.1 routed.2 in
        let free = pinned_nowhere (pinned config its.below) (routing config its.below).assigned none in
        ap kept_on its.answered ∙ (neither_link (kept_on its.below) (transaction config its.below).link free).0

    put_known : (put : Put) → IsCaused config put past → Known config (Puts put ∷ past)
    put_known (Tells number (Passes link command payload (Some its) recording)) cause = pass_known number link command payload its recording cause
    put_known (Tells number (Passes link command payload None recording)) cause =
        quiet (Puts (Tells number (Passes link command payload None recording))) refl (λ link h. h) refl (λ link. refl) (λ command p. p) (λ link. refl) known
    put_known (Tells number (Owns status)) cause =
        quiet (Puts (Tells number (Owns status))) refl (λ link h. h) refl (λ link. refl) (λ command p. p) (λ link. refl) known
    put_known (Tells number (Refuses error)) cause = refused_known number error
    put_known (Hands packets) cause = quiet (Puts (Hands packets)) refl (λ link h. h) refl (λ link. refl) (λ command p. p) (λ link. refl) known
    put_known (Records server gtid) cause = quiet (Puts (Records server gtid)) refl (λ link h. h) refl (λ link. refl) (λ command p. p) (λ link. refl) known
    put_known Routes cause = quiet (Puts Routes) refl (λ link h. h) refl (λ link. refl) (λ command p. p) (λ link. refl) known
    put_known (Opens opened server login) cause = open_known opened server login (free_so opened server cause.0)
    put_known (LogsInto link packets) cause = quiet (Puts (LogsInto link packets)) refl (λ link h. h) refl (λ link. refl) (λ command p. p) (λ link. refl) known
    put_known (Sends to Prepares) cause = sent_known to Prepares (λ at e. e) (λ entry q. absurd cc)
    put_known (Sends to (Waits gtid seconds)) cause = sent_known to (Waits gtid seconds) (λ at e. e) (λ entry q. absurd cc)
    put_known (Sends to (Probes gtid)) cause = sent_known to (Probes gtid) (λ at e. e) (λ entry q. absurd cc)
    put_known (Sends to (Plays entry)) cause =
        sent_known to (Plays entry) (λ at e. e)
        (λ other q. let same : entry ≡ other = cc in
        subst OfKind same (known.kinds entry (found_in (cursor to past) (statements config past).history entry cause.4)))
    put_known (Sends to (Asks command id)) cause =
        sent_known to (Asks command id) (λ at e. kept_still command to (kept_on past) at e) (λ entry q. absurd cc)
    put_known (Forgets to id) cause = forget_known to id
    put_known (Drops gone cause) its = drop_known gone cause
    put_known (Closes reason) cause = quiet (Puts (Closes reason)) refl (λ link h. h) refl (λ link. refl) (λ command p. p) (λ link. refl) known

  input_known : (item : Item) → IsInput item past → Known config (item ∷ past)
  input_known (ClientBytes bytes) input = quiet (ClientBytes bytes) refl (λ link h. h) refl (λ link. refl) (λ command p. p) (λ link. refl) known
  input_known (LinkReady ready) input = quiet (LinkReady ready) refl (λ link h. h) refl (λ link. refl) (λ command p. p) (λ link. refl) known
  input_known (LinkBytes from bytes) input = quiet (LinkBytes from bytes) refl (λ link h. h) refl (λ link. refl) (λ command p. p) (λ link. refl) known
  input_known ClientGone input = quiet ClientGone refl (λ link h. h) refl (λ link. refl) (λ command p. p) (λ link. refl) known
  input_known (LinkLost gone) input = lost_known gone
  input_known (Ticks reading) input = quiet (Ticks reading) refl (λ link h. h) refl (λ link. refl) (λ command p. p) (λ link. refl) known
  input_known _ input = absurd input

-- Each step

due_known : {config : Config} {past : List Item} {item : Item} → Due config past item → IsRecord config past → Known config past → Known config (item ∷ past)
due_known {config} {past} (comes {link = from} {said = said} has a it) legal known = came_known config past legal known from said it
due_known {past = past} (connects {said = said} p f c) legal known =
    quiet (Connects said) refl (λ link h. h) refl (λ link. refl) (λ command p. p) (λ link. refl) known
due_known {config} {past} (takes {payload = payload} p f) legal known = taken_known config past known payload p f

step_known : {config : Config} {past : List Item} {item : Item} → Step config past item → IsRecord config past → AreCaused config past
    → ((put : Put) → item ≡ Puts put → IsCaused config put past) → Known config past → Known config (item ∷ past)
step_known {config} {past} (pays {put = put} o) legal caused cause known = put_known config past known legal caused put (cause put refl)
step_known {config} {past} (asks o n p g w) legal caused cause known = put_known config past known legal caused Routes (cause _ refl)
step_known {config} {past} (prepares_it {link = to} o n has f) legal caused cause known =
    put_known config past known legal caused (Sends to Prepares) (cause _ refl)
step_known {config} {past} (forgets {link = to} {id = id} o n has f t) legal caused cause known =
    put_known config past known legal caused (Forgets to id) (cause _ refl)
step_known {config} {past} (plays_it {link = to} {entry = entry} o n has f t s) legal caused cause known =
    put_known config past known legal caused (Sends to (Plays entry)) (cause _ refl)
step_known {config} {past} (sends {link = to} {command = command} {id = id} o n p s g f t d i v) legal caused cause known =
    put_known config past known legal caused (Sends to (Asks command id)) (cause _ refl)
step_known {config} {past} (waits_first {link = to} {gtid = gtid} o n p s g f t d v) legal caused cause known =
    put_known config past known legal caused (Sends to (Waits gtid _)) (cause _ refl)
step_known {config} {past} (probes_first {link = to} {gtid = gtid} o n p s g f t d v) legal caused cause known =
    put_known config past known legal caused (Sends to (Probes gtid)) (cause _ refl)
step_known {item = item} (floods o n p above) legal caused cause known =
    quiet item refl (λ link h. h) refl (λ link. refl) (λ command p. p) (λ link. refl) known
step_known (reads o n due) legal caused cause known = due_known due legal known

no_statement : {A : Type 0} (n : ℕ) → Alive n no_slots → A
no_statement n alive = by_test (n == 0) alive
  where
    by_test : {A : Type 0} (test : Bool) → is_some {T = Prepared} (if test then None else None) ≡ true → A
    by_test true e = absurd cc
    by_test false e = absurd cc

nothing_known : (config : Config) → Known config []
nothing_known config = record {
  covers = λ link n has alive. no_statement n alive;
  stays = λ n alive. no_statement n alive;
  kinds = λ entry has. absurd has;
  plays = λ link entry q. absurd cc;
  runs = λ command execution p b. absurd cc;
  sets = λ command p. absurd cc;
}

begins_known : (config : Config) (item : Item) → IsBeginning item → Known config (item ∷ [])
begins_known config (Accepted session scramble reading) its =
    quiet (Accepted session scramble reading) refl (λ link h. h) refl (λ link. refl) (λ command p. p) (λ link. refl) (nothing_known config)
begins_known config (TurnsAway told) its =
    quiet (TurnsAway told) refl (λ link h. h) refl (λ link. refl) (λ command p. p) (λ link. refl) (nothing_known config)
begins_known config (Began link server reading) its = record {
  covers = λ link n has alive. no_statement n alive;
  stays = λ n alive. no_statement n alive;
  kinds = λ entry has. absurd has;
  plays = λ link entry q. absurd cc;
  runs = λ command execution p b. absurd cc;
  sets = λ command p. absurd cc;
}
begins_known config _ its = absurd its

legal_known : {config : Config} {past : List Item} → IsRecord config past → Known config past
legal_known {config} (begins {item = item} its) = begins_known config item its
legal_known {config} (goes {past = past} {item = item} legal e) =
    step_known (of_next config past item e) legal (causes config past legal)
    (λ put is. (subst (λ (i : Item). AreCaused config (i ∷ past)) is (causes config (item ∷ past) (goes legal e))).0) (legal_known legal)
legal_known (answered legal asked) = quiet (Routed _ _ _ _) refl (λ link h. h) refl (λ link. refl) (λ command p. p) (λ link. refl) (legal_known legal)
legal_known {config} (hears {past = past} {item = item} legal rests none n input) = input_known config past (legal_known legal) item input
legal_known (starves {made = made} {number = number} legal once can its) =
    quiet (Starves made number) refl (λ link h. h) refl (λ link. refl) (λ command p. p) (λ link. refl) (legal_known legal)

-- What goes on a link

module _ (config : Config) (past : List Item) (link : ℕ) (command : Command) (legal : IsRecord config past) (p : pending past ≡ Some command)
    (g : goes_on config past ≡ Some link) (has : contains link (links past) ≡ true) (d : unplayed (cursor link past) (statements config past) ≡ None) where
  -- there is an id for the statement of an execute
  pub knows_id : (execution : Execution) → command.body ≡ Run execution → HasOn link (number_in execution.commands) (statements config past).table.links
  knows_id execution b = by_covers (known.covers link (number_in execution.commands) has (ap is_some run.1))
    where
      known : Known config past
      known = legal_known legal

      run : RunsOpen (statements config past) execution
      run = known.runs command execution p b

      by_covers : Covers (statements config past) (cursor link past) (kept_on past) link (number_in execution.commands)
          → HasOn link (number_in execution.commands) (statements config past).table.links
      by_covers (has_id id) = id
      by_covers (later entry how there e same above) =
          absurd (let below = none_behind (cursor link past) (statements config past).history entry d there in omega arith)
      by_covers (elsewhere at k apart) =
          absurd (apart (goes_pinned (pinned config past) (routing config past).assigned at link
          (ap (λ (on : Option ℕ). or_link on (transaction config past).link) k) g))

  pub sends_something : (id : Option ℕ) → id_for link command.body (statements config past).table.links ≡ id
      → (e : Exchange) × (awaited (sent_all (asked_under id command.body) command.kind) ≡ Some e)
  sends_something id i = by_body command.body refl id i
    where
      by_id : (execution : Execution) → command.body ≡ Run execution → (id : Option ℕ) → id_for link (Run execution) (statements config past).table.links ≡ id
          → (e : Exchange) × (awaited (sent_all (asked_under id (Run execution)) command.kind) ≡ Some e)
      by_id execution b None i = absurd (let clash : false ≡ true = sym (ap is_some i) ∙ knows_id execution b in cc)
      by_id execution b (Some id) i =
          let run = (legal_known legal).runs command execution p b in
          sent_some (map (renumbered id) execution.commands) command.kind (renumbered_some id execution.commands run.3)

      by_body : (body : Body) → command.body ≡ body → (id : Option ℕ) → id_for link body (statements config past).table.links ≡ id
          → (e : Exchange) × (awaited (sent_all (asked_under id body) command.kind) ≡ Some e)
      by_body (Whole payload) b id i = sent_some (payload ∷ []) command.kind (λ e. absurd cc)
      by_body (Run execution) b id i = by_id execution b id i
