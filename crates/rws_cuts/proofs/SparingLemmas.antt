-- Nothing that is owed begins anything on a link, but for the direct answer to the worker's, which opens one.
use Rattle.std.proofs.Common.{◌≡◌, ℕ, Bool, true, false, List, [], ◌∷◌, ◌++◌, drop, map, Option, Some, None}
use Rattle.std.specs.Prelude.{◌==◌, if◌then◌else◌}
use Rattle.rws_wire.specs.declared.close_reason.CloseReason.{CloseReason}
use Rattle.rws_wire.specs.declared.drop_cause.DropCause.{DropCause}
use Rattle.rws_wire.specs.declared.drop_cause.DropCause.TheVariants.{End, Kept}
use Rattle.rws_msgs.specs.declared.prepare_ok.PrepareOk.{PrepareOk}
use Rattle.rws_native.specs.declared.login.Login.{Login}
use Rattle.rws_gtid.specs.declared.Gtid.{Gtid}
use Rattle.rws_causal.specs.declared.causal.Causal.{Causal}
use Rattle.rws_causal.specs.declared.causal.Causal.TheVariants as causals
use Rattle.rws_reply.specs.declared.kind.Outcome.{Outcome}
use Rattle.rws_reply.specs.declared.kind.Outcome.TheVariants.{Done, Failed}
use Rattle.rws_reply.specs.declared.kind.Progress.{Progress}
use Rattle.rws_reply.specs.declared.kind.Progress.TheVariants.{More, Whole as Ends}
use Rattle.rws_front.specs.declared.step.FrontStep.{FrontStep}
use Rattle.rws_front.specs.declared.step.FrontStep.TheVariants as fronts
use Rattle.rws_link.specs.declared.step.LinkStep.{LinkStep}
use Rattle.rws_link.specs.declared.step.LinkStep.TheVariants as steps
use Rattle.rws_route.specs.declared.destination.Target.{Target}
use Rattle.rws_route.specs.declared.destination.Target.TheVariants.{Primary, Replica, NoPrimary as Nowhere}
use Rattle.rws_trx.specs.OnLinks.{status_of}
use Rattle.rws_config.specs.declared.config.Config.{Config}
use Rattle.rws_commands.specs.declared.command.Command.{Command}
use Rattle.rws_commands.specs.declared.history.HistoryEntry.{HistoryEntry}
use Rattle.rws_commands.specs.declared.judged.Judged.{Judged}
use Rattle.rws_commands.specs.declared.judged.Judged.TheVariants.{Leaves, IsOwn, IsRefused, IsSilent, HasTooMuch, Serves}
use Rattle.rws_commands.specs.Commands.{class_of_command, keeps}
use Rattle.rws_commands.specs.Judging.{judged}
use Rattle.rws_commands.specs.Statements.{is_otherwise, next_handle}
use Rattle.rws_record.specs.Item.{Item, Purpose, Put, Recording, Tell}
use Rattle.rws_record.specs.Item.Item.{ClientBytes, ClientGone, LinkReady, LinkBytes, LinkLost, Ticks, Puts}
use Rattle.rws_record.specs.Item.Purpose.{Prepares, Asks, Plays, Waits, Probes}
use Rattle.rws_record.specs.Item.Put.{Hands, Tells, Records, Routes, Opens, LogsInto, Sends, Forgets, Drops, Closes}
use Rattle.rws_record.specs.Item.Recording.{Nothing, Accepts, Keeps}
use Rattle.rws_record.specs.Item.Tell.{Passes, Owns, Refuses}
use Rattle.rws_record.specs.Record.{IsInput}
use Rattle.rws_record.specs.Values.{asked_on, checked_on, kept_on, links, named_in, named_on, reply_number, server_of, statements, transaction, without}
use Rattle.rws_record.specs.Rules.{Loss, CutsReply, HidesOutcome, TakesState, EndsTransaction, StartsReplay, SendsElsewhere, IsForgotten, after_answer, after_check, after_coming, after_command, after_connecting, after_keeping, after_loss, after_loss_by, after_part, after_played, after_preparing, after_route, commit_by, differing, ending, follow, form_of, is_loss, loss_of, opening, owed, recording_commit, recording_of, refusing, situation, unasked}
use Rattle.rws_record.proofs.StepLemmas.{Due, Step}
use Rattle.rws_record.proofs.StepLemmas.Due.{comes, connects, takes}
use Rattle.rws_record.proofs.StepLemmas.Step.{pays, asks, prepares, forgets, plays, sends, waits_first, probes_first, floods, reads}

-- the link isn't opened, and nothing is sent on any
abbrev pub Spares : ℕ → List Put → Type 0
Spares link [] = Unit {0}
Spares link (Opens opened server login ∷ others) = ((opened == link) ≡ false) × Spares link others
Spares link (Sends to purpose ∷ others) = ⊥
Spares link (_ ∷ others) = Spares link others

module _ (link : ℕ) where
  spares_append : (first others : List Put) → Spares link first → Spares link others → Spares link (first ++ others)
  spares_append [] others f o = o
  spares_append (Hands packets ∷ rest) others f o = spares_append rest others f o
  spares_append (Tells number tell ∷ rest) others f o = spares_append rest others f o
  spares_append (Routes ∷ rest) others f o = spares_append rest others f o
  spares_append (Records server gtid ∷ rest) others f o = spares_append rest others f o
  spares_append (Opens opened server login ∷ rest) others f o = (f.0, spares_append rest others f.1 o)
  spares_append (LogsInto on packets ∷ rest) others f o = spares_append rest others f o
  spares_append (Sends to purpose ∷ rest) others f o = absurd f
  spares_append (Forgets on id ∷ rest) others f o = spares_append rest others f o
  spares_append (Drops on cause ∷ rest) others f o = spares_append rest others f o
  spares_append (Closes reason ∷ rest) others f o = spares_append rest others f o

  spares_behind : (list : List Put) → Spares link list → Spares link (drop 1 list)
  spares_behind [] s = tt
  spares_behind (Hands packets ∷ rest) s = s
  spares_behind (Tells number tell ∷ rest) s = s
  spares_behind (Routes ∷ rest) s = s
  spares_behind (Records server gtid ∷ rest) s = s
  spares_behind (Opens opened server login ∷ rest) s = s.1
  spares_behind (LogsInto on packets ∷ rest) s = s
  spares_behind (Sends to purpose ∷ rest) s = absurd s
  spares_behind (Forgets on id ∷ rest) s = s
  spares_behind (Drops on cause ∷ rest) s = s
  spares_behind (Closes reason ∷ rest) s = s

  drops_spare : (cause : DropCause) (list : List ℕ) → Spares link (map (λ other. Drops other cause) list)
  drops_spare cause [] = tt
  drops_spare cause (other ∷ others) = drops_spare cause others

  loss_spares : (loss : Loss) (ends : CloseReason) → Spares link (after_loss_by loss ends)
  loss_spares CutsReply ends = tt
  loss_spares HidesOutcome ends = tt
  loss_spares TakesState ends = tt
  loss_spares EndsTransaction ends = tt
  loss_spares StartsReplay ends = tt
  loss_spares SendsElsewhere ends = tt
  loss_spares IsForgotten ends = tt

  if_spares : (test : Bool) (list : List Put) → Spares link list → Spares link (if test then list else [])
  if_spares true list s = s
  if_spares false list s = tt

  keeping_spares : (keeping : Bool) (on : ℕ) (kept : Option ℕ) (list : List ℕ) → Spares link (after_keeping keeping on kept list)
  keeping_spares true on None list = drops_spare Kept (without on list)
  keeping_spares true on (Some kept) list = tt
  keeping_spares false on kept list = tt

  telling_spares : (config : Config) (number : ℕ) (tell : Tell) (past : List Item) → Spares link (follow config (Tells number tell) past)
  telling_spares config number (Passes on command payload (Some ending) Keeps) past = keeping_spares true on (kept_on past) (links past)
  telling_spares config number (Passes on command payload (Some ending) Accepts) past = tt
  telling_spares config number (Passes on command payload (Some ending) Nothing) past = tt
  telling_spares config number (Passes on command payload None recording) past = tt
  telling_spares config number (Owns status) past = tt
  telling_spares config number (Refuses error) past = tt

  follow_spares : (config : Config) (put : Put) (past : List Item) → Spares link (follow config put past)
  follow_spares config (Hands packets) past = tt
  follow_spares config (Tells number tell) past = telling_spares config number tell past
  follow_spares config Routes past = tt
  follow_spares config (Records server gtid) past = tt
  follow_spares config (Opens opened server login) past = tt
  follow_spares config (LogsInto on packets) past = tt
  follow_spares config (Sends on Prepares) past = tt
  follow_spares config (Sends on (Plays entry)) past = tt
  follow_spares config (Sends on (Waits gtid seconds)) past = tt
  follow_spares config (Sends on (Probes gtid)) past = tt
  follow_spares config (Sends on (Asks command id)) past = keeping_spares (keeps (class_of_command command)) on (kept_on past) (links past)
  follow_spares config (Forgets on id) past = tt
  follow_spares config (Drops on cause) past =
      if_spares (is_loss cause) (after_loss config on past) (loss_spares (loss_of config on past) (ending config past))
  follow_spares config (Closes reason) past = tt

  unasked_spares : (on : ℕ) (behind : Bool) → Spares link (unasked on behind)
  unasked_spares on true = tt
  unasked_spares on false = tt

  answer_spares : (on : ℕ) (command : Command) (form : List ℕ) (named : Option PrepareOk) (far : Progress) (behind : Bool) (number : ℕ)
      (recording : Outcome → Recording) → Spares link (after_answer on command form named far behind number recording)
  answer_spares on command form named More behind number recording = tt
  answer_spares on command form named (Ends outcome) behind number recording = unasked_spares on behind

  differing_spares : (on : ℕ) (otherwise behind : Bool) → Spares link (differing on otherwise behind)
  differing_spares on true behind = tt
  differing_spares on false behind = unasked_spares on behind

  played_spares : (on : ℕ) (entry : HistoryEntry) (named : Option PrepareOk) (far : Progress) (behind : Bool)
      → Spares link (after_played on entry named far behind)
  played_spares on entry named More behind = tt
  played_spares on entry named (Ends (Done status)) behind = differing_spares on (is_otherwise entry.statement named) behind
  played_spares on entry named (Ends (Failed code)) behind = tt

  preparing_spares : (on : ℕ) (far : Progress) (behind : Bool) → Spares link (after_preparing on far behind)
  preparing_spares on More behind = tt
  preparing_spares on (Ends (Done status)) behind = unasked_spares on behind
  preparing_spares on (Ends (Failed code)) behind = tt

  check_spares : (on : ℕ) (checked : Option Causal) (behind : Bool) (number : ℕ) → Spares link (after_check on checked behind number)
  check_spares on (Some (causals.Stale wanted found)) behind number = unasked_spares on behind
  check_spares on (Some causals.Unreadable) behind number = tt
  check_spares on (Some causals.Go) behind number = unasked_spares on behind
  check_spares on (Some causals.TryPrimary) behind number = unasked_spares on behind
  check_spares on (Some (causals.Wait gtid)) behind number = unasked_spares on behind
  check_spares on (Some (causals.Probe gtid)) behind number = unasked_spares on behind
  check_spares on None behind number = tt

  part_spares : (config : Config) (on : ℕ) (purpose : Option Purpose) (form : List ℕ) (named : Option PrepareOk) (checked : Option Causal)
      (far : Progress) (behind : Bool) (number : ℕ) (past : List Item)
      → Spares link (after_part config on purpose form named checked far behind number past)
  part_spares config on (Some (Asks command id)) form named checked far behind number past =
      answer_spares on command form named far behind number (λ outcome. recording_of config on past outcome)
  part_spares config on (Some (Plays entry)) form named checked far behind number past = played_spares on entry named far behind
  part_spares config on (Some Prepares) form named checked far behind number past = preparing_spares on far behind
  part_spares config on (Some (Waits gtid seconds)) form named checked far behind number past = check_spares on checked behind number
  part_spares config on (Some (Probes gtid)) form named checked far behind number past = check_spares on checked behind number
  part_spares config on None form named checked far behind number past = tt

  commit_spares : (server : ℕ) (commit : Option Gtid) (others : List Put) → Spares link others → Spares link (recording_commit server commit ++ others)
  commit_spares server (Some gtid) others s = s
  commit_spares server None others s = s

  coming_spares : (config : Config) (on : ℕ) (said : LinkStep) (purpose : Option Purpose) (number : ℕ) (past : List Item)
      → Spares link (after_coming config on said purpose number past)
  coming_spares config on (steps.Part payload role progress next behind) purpose number past =
      commit_spares (server_of on past) (commit_by config.gtid_domain role payload purpose)
      (after_part config on purpose (form_of (next_handle (statements config past)) role payload) (named_in role payload (named_on on past))
      (checked_on on (steps.Part payload role progress next behind) past) progress behind number past)
      (part_spares config on purpose (form_of (next_handle (statements config past)) role payload) (named_in role payload (named_on on past))
      (checked_on on (steps.Part payload role progress next behind) past) progress behind number past)
  coming_spares config on (steps.Lost cause) purpose number past = tt
  coming_spares config on (steps.Send packets) purpose number past = tt
  coming_spares config on steps.LoggedIn purpose number past = tt
  coming_spares config on steps.Idle purpose number past = tt

  connecting_spares : (said : FrontStep) → Spares link (after_connecting said)
  connecting_spares (fronts.Send packets) = tt
  connecting_spares (fronts.LoggedIn login) = tt
  connecting_spares (fronts.End packets reason) = tt
  connecting_spares (fronts.Command payload) = tt
  connecting_spares fronts.Idle = tt

  command_spares : (its : Judged) (number status : ℕ) → Spares link (after_command its number status)
  command_spares Leaves number status = tt
  command_spares IsOwn number status = tt
  command_spares (IsRefused error) number status = tt
  command_spares IsSilent number status = tt
  command_spares (HasTooMuch bytes) number status = tt
  command_spares (Serves command) number status = tt

  opening_spares : (there : Option ℕ) (next server : ℕ) (login : Option Login) → (next == link) ≡ false → Spares link (opening there next server login)
  opening_spares None next server (Some login) apart = (apart, tt)
  opening_spares None next server None apart = tt
  opening_spares (Some there) next server login apart = tt

  refusing_spares : (late : Bool) (number : ℕ) → Spares link (refusing late number)
  refusing_spares true number = tt
  refusing_spares false number = tt

  -- the worker's answer, which gives another number
  pub route_spares : (found : Target) (there : Option ℕ) (next : ℕ) (login : Option Login) (late : Bool) (number : ℕ) → (next == link) ≡ false
      → Spares link (after_route found there next login late number)
  route_spares Nowhere there next login late number apart = refusing_spares late number
  route_spares (Primary server) there next login late number apart = opening_spares there next server login apart
  route_spares (Replica server) there next login late number apart = opening_spares there next server login apart

  -- what is owed once something was given out
  put_spares : (config : Config) (put : Put) (past : List Item) → Spares link (owed config past) → Spares link (owed config (Puts put ∷ past))
  put_spares config (Closes reason) past s = drops_spare End (links past)
  put_spares config (Hands packets) past s = spares_behind (owed config past) s
  put_spares config (Tells number tell) past s =
      spares_append (follow config (Tells number tell) past) (drop 1 (owed config past)) (telling_spares config number tell past) (spares_behind (owed config past) s)
  put_spares config Routes past s = spares_behind (owed config past) s
  put_spares config (Records server gtid) past s = spares_behind (owed config past) s
  put_spares config (Opens opened server login) past s = spares_behind (owed config past) s
  put_spares config (LogsInto on packets) past s = spares_behind (owed config past) s
  put_spares config (Sends on purpose) past s =
      spares_append (follow config (Sends on purpose) past) (drop 1 (owed config past)) (follow_spares config (Sends on purpose) past) (spares_behind (owed config past) s)
  put_spares config (Forgets on id) past s = spares_behind (owed config past) s
  put_spares config (Drops on cause) past s =
      spares_append (follow config (Drops on cause) past) (drop 1 (owed config past)) (follow_spares config (Drops on cause) past) (spares_behind (owed config past) s)

  due_spares : {config : Config} {past : List Item} {item : Item} → Due config past item → Spares link (owed config (item ∷ past))
  due_spares {config} {past = past} (comes {link = on} {said = said} has a it) = coming_spares config on said (asked_on on past) (reply_number past) past
  due_spares (connects {said = said} p f c) = connecting_spares said
  due_spares {config} {past = past} (takes {payload = payload} p f) =
      command_spares (judged (situation config past) (statements config past) payload.bytes payload.next) payload.next (status_of (transaction config past).state)

  -- it stays so by each step of the session's own
  pub step_spares : {config : Config} {past : List Item} {item : Item} → Step config past item → Spares link (owed config past)
      → Spares link (owed config (item ∷ past))
  step_spares {config} {past = past} (pays {put = put} o) s = put_spares config put past s
  step_spares {config} {past = past} (asks o n p g w) s = put_spares config Routes past s
  step_spares {config} {past = past} (prepares {link = to} o n has f) s = put_spares config (Sends to Prepares) past s
  step_spares {config} {past = past} (forgets {link = to} {id = id} o n has f t) s = put_spares config (Forgets to id) past s
  step_spares {config} {past = past} (plays {link = to} {entry = entry} o n has f t u) s = put_spares config (Sends to (Plays entry)) past s
  step_spares {config} {past = past} (sends {link = to} {command = command} {id = id} o n p w g f t d i v) s = put_spares config (Sends to (Asks command id)) past s
  step_spares {config} {past = past} (waits_first {link = to} {gtid = gtid} o n p w g f t d v) s =
      put_spares config (Sends to (Waits gtid config.causal_timeout_s)) past s
  step_spares {config} {past = past} (probes_first {link = to} {gtid = gtid} o n p w g f t d v) s = put_spares config (Sends to (Probes gtid)) past s
  step_spares (floods o n p above) s = tt
  step_spares (reads o n due) s = due_spares due

  -- and it is so behind an input
  pub input_spares : (config : Config) (input : Item) (past : List Item) → IsInput input past → Spares link (owed config (input ∷ past))
  input_spares config (ClientBytes bytes) past is = tt
  input_spares config ClientGone past is = drops_spare End (links past)
  input_spares config (LinkReady on) past is = tt
  input_spares config (LinkBytes on bytes) past is = tt
  input_spares config (LinkLost on) past is = loss_spares (loss_of config on past) (ending config past)
  input_spares config (Ticks reading) past is = tt
  input_spares config _ past is = absurd is
