-- How the steps of a session change what it keeps.
use Rattle.std.specs.Prelude.{◌≡◌, ◌&&◌, ℕ, ◌+◌, Bool, true, false, List, [], ◌∷◌, ◌++◌, map, not, Option, Some, None, is_some, is_none, if◌then◌else◌}
use Rattle.rws_wire.specs.Packets.{spelling, number_behind}
use Rattle.rws_wire.specs.declared.close_reason.CloseReason.{CloseReason}
use Rattle.rws_wire.specs.declared.drop_cause.DropCause.{DropCause}
use Rattle.rws_wire.specs.declared.drop_cause.DropCause.TheVariants.{End, Kept as IsKept, SessionDiffers}
use Rattle.rws_msgs.specs.ErrLayout.{err_bytes}
use Rattle.rws_gtid.specs.declared.Gtid.{Gtid}
use Rattle.rws_causal.specs.declared.causal.Causal.{Causal}
use Rattle.rws_causal.specs.Commits.{commit_in}
use Rattle.rws_native.specs.declared.login.Login.{Login}
use Rattle.rws_front.specs.declared.step.FrontStep.{FrontStep}
use Rattle.rws_front.specs.declared.step.FrontStep.TheVariants as fronts
use Rattle.rws_front.specs.Connection.{error_number}
use Rattle.rws_front.specs.Fronting.{Fronting}
use Rattle.rws_reply.specs.declared.kind.Outcome.{Outcome}
use Rattle.rws_reply.specs.declared.kind.Outcome.TheVariants.{Done, Failed}
use Rattle.rws_reply.specs.declared.kind.Progress.{Progress}
use Rattle.rws_reply.specs.declared.kind.Progress.TheVariants.{More, Whole}
use Rattle.rws_reply.specs.declared.role.Role.{Role}
use Rattle.rws_reply.specs.declared.role.Role.TheVariants.{Ok as OkRole}
use Rattle.rws_link.specs.declared.step.LinkStep.{LinkStep}
use Rattle.rws_link.specs.declared.step.LinkStep.TheVariants as steps
use Rattle.rws_pool.specs.declared.words.PoolWords.{PoolWords}
use Rattle.rws_board.specs.declared.action.Action.TheVariants as actions
use Rattle.rws_route.specs.declared.destination.Target.{Target}
use Rattle.rws_routing.specs.declared.routing.Check.{Check}
use Rattle.rws_routing.specs.declared.routing.Check.TheVariants.{Wait, Probe}
use Rattle.rws_routing.specs.Routings.{finds_late, lost, new_routing, routed, server_in, stopped, ticked}
use Rattle.rws_trx.specs.declared.transaction.Transaction.{Transaction}
use Rattle.rws_trx.specs.OnLinks.{added, no_transaction, status_of}
use Rattle.rws_config.specs.declared.config.Config.{Config}
use Rattle.rws_commands.specs.declared.command.Command.{Command}
use Rattle.rws_commands.specs.declared.proxy_error.ProxyError.{ProxyError}
use Rattle.rws_commands.specs.declared.proxy_error.ProxyError.TheVariants.{NoPrimary, PrimaryBehind}
use Rattle.rws_commands.specs.declared.judged.Judged.{Judged}
use Rattle.rws_record.specs.declared.output.Output.{Output}
use Rattle.rws_record.specs.declared.output.Output.TheVariants.{Act, Record}
use Rattle.rws_record.specs.Item.{Ending, Item, Purpose, Put}
use Rattle.rws_record.specs.Item.Item.{Puts}
use Rattle.rws_commands.specs.declared.judged.Judged.TheVariants.{Serves}
use Rattle.rws_record.specs.Item.Put.{Drops, Opens}
use Rattle.rws_record.specs.Item.Purpose.{Waits, Probes}
use Rattle.rws_record.specs.Rules.{after_check, after_command, after_connecting, after_loss_by, after_preparing, after_route, again_by, differing, drop_cause, form_of, goes_if, is_link, is_loss, is_read_only, is_replayable, Loss, loss_by, next, not_replayable, recording_by, recording_commit, unasked}
use Rattle.rws_record.specs.Record.{GoesOn}
use Rattle.rws_commands.specs.Errors.{error_of}
use Rattle.rws_commands.specs.declared.history.HistoryEntry.{HistoryEntry}
use Rattle.rws_commands.specs.declared.history.PreparedAs.{PreparedAs}
use Rattle.rws_commands.specs.declared.judged.Situation.{Situation}
use Rattle.rws_commands.specs.Judging.{judged}
use Rattle.rws_commands.specs.Statements.{Statements, failed_if, is_full, is_otherwise, last_serial, next_handle, no_statements, played, swept_if, taken_as, unlinked}
use Rattle.rws_msgs.specs.declared.prepare_ok.PrepareOk.{PrepareOk}
use Rattle.rws_trx.specs.Transactions.{is_open}
use Rattle.rws_record.specs.Outputs.{close_bytes, outputs_of, own_ok, outs_of}
use Rattle.rws_commands.specs.Commands.{asked_under, class_of_command, id_for, is_session, keeps}
use Rattle.rws_record.specs.Values.{answered_by, answered_in, check_for, class_by_pending, ends_by, heard_check, later_of, length_by, login_by, or_link, prepares as prepares_one, probe_command, unless_link, wait_command}
use Rattle.rws_links.specs.declared.coming.Coming.{Coming}
use Rattle.rws_links.specs.declared.history.Recording.{Recording}
use Rattle.rws_links.specs.declared.history.Recording.TheVariants as recordings
use Rattle.rws_links.specs.declared.numbered.Asked.{Asked}
use Rattle.rws_links.specs.declared.numbered.Asked.TheVariants.{Preamble, Entry as AnEntry, Command as ACommand, Wait as AWait, Probe as AProbe}
use Rattle.rws_links.specs.declared.numbered.NumberedLink.{NumberedLink}
use Rattle.rws_links.specs.declared.finding.Due.{Due}
use Rattle.rws_links.specs.Finding.{first_due, first_to}
use Rattle.rws_links.specs.Links.{new_link}
use Rattle.rws_session.specs.declared.owing.Out.{Out}
use Rattle.rws_session.specs.declared.owing.Out.TheVariants as outs
use Rattle.rws_session.specs.State.{State, erased, farewell_packet, state_of}
use Rattle.rws_links.specs.History.{recorded}
use Rattle.rws_links.specs.Table.{bans, led, without_number}
use Rattle.rws_session.specs.Kept.{Is, Kept, StandsOr, lasting, lasting_of}

-- a session with this client's side, this login and these links, and nothing else as yet
abbrev pub fresh : ℕ → Fronting → Option Login → List NumberedLink → (reading : ℕ) → Kept
fresh number front login links reading = record {
  number = number;
  outs = [];
  state = record {
    front = front;
    login = login;
    links = links;
    kept_on = None;
    statements = no_statements;
    serials = 0;
    banned = 0;
    pending = None;
    sent_on = None;
    told_from = None;
    reply_number = 0;
    routing = new_routing;
    own = None;
    transaction = no_transaction;
    now_ms = reading;
    asking = false;
    over = false;
    owed = [];
    farewell = farewell_packet;
    want_number = error_number front;
  };
}

-- What is given out

-- this is owed before what was owed already
abbrev pub owes : List Put → State → State
owes puts s = record s { owed = map erased puts ++ s.owed }

-- what is given out for something that was owed
abbrev pub output_of : ℕ → Out → Output
output_of session (outs.Pass number link payload ending recording) = Act (actions.ToClient session (spelling number payload))
output_of session (outs.Hand packets) = Act (actions.ToClient session packets)
output_of session (outs.LogIn link packets) = Act (actions.ToLink link packets)
output_of session (outs.Own number status) = Act (actions.ToClient session (spelling number (own_ok status)))
output_of session (outs.Refuse number error) = Act (actions.ToClient session (spelling number (err_bytes (error_of error))))
output_of session (outs.Record server gtid) = Record server gtid
output_of session (outs.Drop link cause) = Act (actions.Drop link cause)
output_of session (outs.Close reason) = Act (actions.Close session reason)

-- the session's other links are given up
abbrev pub others_dropped : (keeping : Bool) → ℕ → List NumberedLink → List (Option Out)
others_dropped true link links = map (λ other. Some (outs.Drop other.number IsKept)) (without_number link links)
others_dropped false link links = []

-- What the end of a reply means for the history is noted: the link led one more entry, or the session is to be kept on the link.
abbrev pub notes : ℕ → Recording → State → State
notes link recordings.Nothing s = s
notes link recordings.Accepts s = record s { links = map (led link s.serials) s.links; serials = s.serials + 1 }
notes link recordings.Keeps s = record s { owed = others_dropped (is_none s.kept_on) link s.links ++ s.owed }

-- the serial under which a command is added to the history
abbrev pub serial_in : Recording → ℕ → Option ℕ
serial_in recordings.Accepts serial = Some serial
serial_in _ serial = None

-- the client's statements and the history behind the end of the pending command's reply
abbrev pub statements_behind : ℕ → Ending → Recording → State → Statements
statements_behind link ending recording s = answered_in link s.pending ending (serial_in recording s.serials) s.statements

abbrev pub kept_behind : ℕ → Recording → Option ℕ → Option ℕ
kept_behind link recordings.Keeps kept = Some link
kept_behind link _ kept = kept

-- the reply ended, and the transaction and the statements are these
abbrev pub ends_reply : (next link : ℕ) → Transaction → Statements → Recording → State → State
ends_reply next link t statements recording s = record s {
  kept_on = kept_behind link recording s.kept_on;
  statements = statements;
  pending = None;
  sent_on = None;
  told_from = None;
  reply_number = next;
  transaction = t;
}

-- the transaction behind a reply that ended so on a link
abbrev pub transaction_behind : ℕ → Outcome → State → Transaction
transaction_behind link outcome s = answered_by s.kept_on s.pending link outcome s.routing s.transaction

-- a payload of the pending command's reply went to the client, from a link: the last one with the reply's end
abbrev pub passed : (number link : ℕ) → List ℕ → Option Ending → Recording → State → State
passed number link payload (Some ending) recording s =
    ends_reply (number_behind number payload) link (transaction_behind link ending.outcome s) (statements_behind link ending recording s) recording
    (notes link recording s)
passed number link payload None recording s = record s { told_from = Some link; reply_number = number_behind number payload }

-- the pending command was answered by an error of the proxy's own
abbrev pub ends_unsent : State → State
ends_unsent s = record s { pending = None; routing = stopped s.routing; statements = failed_if (prepares_one s.pending) s.statements }

-- an error of the proxy's own went to the client: where there was no primary, or that is behind, it is the pending command's answer
abbrev pub refused : ProxyError → State → State
refused NoPrimary s = ends_unsent s
refused (PrimaryBehind wanted found) s = ends_unsent s
refused _ s = s

-- the words are told of a commit, which is the last one that the session itself saw, if it is later
abbrev pub notes_commit : Gtid → State → State
notes_commit gtid s = record s { own = Some (later_of gtid s.own) }

-- the link that the pending command is to go on
abbrev pub going : State → Option ℕ
going s = or_link (or_link s.kept_on s.transaction.link) s.routing.assigned

-- what the loss of a link means, by what the link is to the session
abbrev pub loss_in : ℕ → State → Loss
loss_in link s =
    loss_by (is_link link s.told_from) (is_link link s.sent_on) (again_by s.pending s.transaction.state) (is_link link s.kept_on)
    (is_link link s.transaction.link) is_replayable (is_link link (goes_if s.pending (going s)))

-- why its transaction can't be replayed
abbrev pub ending_in : State → CloseReason
ending_in s = not_replayable (added s.transaction.bytes (length_by s.pending)) s.transaction.state

-- the pending command isn't on this link any more, and isn't to go on it
abbrev pub leaves : ℕ → State → State
leaves link s = record s { sent_on = unless_link link s.sent_on; routing = lost link s.routing }

-- a link is taken away, and what it was for the pending command is forgotten, and its ids
abbrev pub forgets : ℕ → State → State
forgets link s = leaves link (record s { links = without_number link s.links; statements = unlinked link s.statements })

-- a link is lost, and what this means is owed
abbrev pub loses : ℕ → State → State
loses link s = record (forgets link s) { owed = map erased (after_loss_by (loss_in link s) (ending_in s)) ++ s.owed }

-- a link is given up
abbrev pub gives_up : ℕ → DropCause → State → State
gives_up link cause s = if is_loss cause then loses link s else forgets link s

-- the session is over, and is to give up its links
abbrev pub ends : State → State
ends s = record s { over = true; owed = map (λ link. Some (outs.Drop link.number End)) s.links }

abbrev pub after_out : Out → State → State
after_out (outs.Hand packets) s = s
after_out (outs.LogIn link packets) s = s
after_out (outs.Pass number link payload ending recording) s = passed number link payload ending recording s
after_out (outs.Own number status) s = s
after_out (outs.Refuse number error) s = refused error s
after_out (outs.Record server gtid) s = notes_commit gtid s
after_out (outs.Drop link cause) s = gives_up link cause s
after_out (outs.Close reason) s = ends s

-- something goes out
abbrev pub gives : Out → Kept → Kept
gives out k = record k { outs = k.outs ++ output_of k.number out ∷ []; state = after_out out k.state }

-- what the clock shows is heard
abbrev pub ticks : (wait reading : ℕ) → State → State
ticks wait reading s = record s { now_ms = reading; routing = ticked wait reading s.routing }

-- The worker is asked, and answers

-- it isn't known where the pending command goes, and it doesn't wait
abbrev pub is_unrouted : State → Bool
is_unrouted s = is_some s.pending && (is_none (going s) && not s.routing.waits)

-- what the server of a target is asked before the pending command, by these words
abbrev pub first_check : Config → Target → PoolWords → State → Option Check
first_check config found words s = check_for config.causal_reads (class_by_pending s.pending) s.own found words

-- the command's target was found; `link` is the session's link to its server, which is asked `check` first
abbrev pub routes_in : Target → Option Check → (link : Option ℕ) → (next : ℕ) → State → State
routes_in found check link next s = record s { asking = false; routing = routed found check link next s.now_ms s.routing }

abbrev pub routes : Target → Option Check → (link : Option ℕ) → (next : ℕ) → Kept → Kept
routes found check link next k = record k { state = routes_in found check link next k.state }

-- what is to be given out for it
abbrev pub puts_for : Config → Target → (next : ℕ) → State → List Put
puts_for config found next s =
    after_route found (first_to (server_in found) s.links) next s.login (finds_late config.primary_wait_ms s.now_ms s.routing) s.reply_number

-- a link is opened
abbrev pub opens_in : (link server : ℕ) → Login → State → State
opens_in link server login s = record s { links = without_number link s.links ++ new_link link server login ∷ [] }

abbrev pub opens : (link server : ℕ) → Login → Kept → Kept
opens link server login k =
    record k { outs = k.outs ++ Act (actions.Open link server k.number) ∷ []; state = opens_in link server login k.state }

-- where the client's login is known
abbrev pub OpensLink : (link server : ℕ) → Option Login → Kept → Kept → (opened : Bool) → Type 0
OpensLink link server (Some login) old new true = new ≡ opens link server login old
OpensLink link server None old new false = new ≡ old
OpensLink link server login old new opened = ⊥

-- that is what is given out
pub record OpensFor (puts : List Put) (link : ℕ) (old new : Kept) : Type 0 where
  pub server : ℕ
  pub login : Login
  pub are : puts ≡ Opens link server login ∷ []
  pub now : new ≡ opens link server login old

abbrev pub opens_none : List Put → Bool
opens_none (Opens link server login ∷ others) = false
opens_none _ = true

-- a link was opened at once; anything else is owed
abbrev pub TakesRoute : List Put → (next : ℕ) → Kept → Kept → (opened : Bool) → Type 0
TakesRoute puts next old new true = OpensFor puts next old new
TakesRoute puts next old new false = (opens_none puts ≡ true) × (new ≡ record old { state = owes puts old.state })

-- Something is sent

-- the link that the pending command is to go on, where it isn't sent yet
abbrev pub unsent : State → Option ℕ
unsent s = if (is_some s.pending && is_none s.sent_on) then going s else None

-- what is due first on the links
abbrev pub found_due : State → Option Due
found_due s = first_due (unsent s) (last_serial s.statements.history) s.links

-- something goes out on a link; these are the links then
abbrev pub sends_on : ℕ → List ℕ → List NumberedLink → Kept → Kept
sends_on link payload links k = record k {
  outs = k.outs ++ Act (actions.ToLink link (spelling 0 payload)) ∷ [];
  state = record k.state { links = links };
}

-- a statement of the proxy's own goes out, or nothing does
abbrev pub SendsOwn : ℕ → (payload : List ℕ) → Bool → Kept → Kept → Type 0
SendsOwn link payload true old new = new ≡ sends_on link payload new.state.links old
SendsOwn link payload false old new = new ≡ record old { state = record old.state { links = new.state.links } }

-- that by which the link's server is asked before a read
abbrev pub check_payload : (seconds : ℕ) → Check → List ℕ
check_payload seconds (Wait gtid) = wait_command gtid seconds
check_payload seconds (Probe gtid) = probe_command

abbrev pub check_purpose : (seconds : ℕ) → Check → Purpose
check_purpose seconds (Wait gtid) = Waits gtid seconds
check_purpose seconds (Probe gtid) = Probes gtid

-- an entry of the history goes out, or nothing does
abbrev pub SendsEntry : ℕ → Option HistoryEntry → Bool → Kept → Kept → Type 0
SendsEntry link (Some entry) true old new = new ≡ sends_on link entry.payload new.state.links old
SendsEntry link (Some entry) false old new = new ≡ record old { state = record old.state { links = new.state.links } }
SendsEntry link None true old new = ⊥
SendsEntry link None false old new = new ≡ old

-- a server is told to close the statement that it has under this id, or nothing goes out
abbrev pub SendsClose : (link id : ℕ) → Bool → Kept → Kept → Type 0
SendsClose link id true old new = new ≡ sends_on link (close_bytes id) new.state.links old
SendsClose link id false old new = new ≡ record old { state = record old.state { links = new.state.links } }

-- this command keeps the session on the link that it is sent on, and it wasn't kept before
abbrev pub is_keeping : Command → (kept : Option ℕ) → Bool
is_keeping command kept = keeps (class_of_command command) && is_none kept

-- a command goes out on a link; these are the links then
abbrev pub sends_in : ℕ → Command → List NumberedLink → State → State
sends_in link command links s = record s {
  links = links;
  sent_on = Some link;
  kept_on = if is_keeping command s.kept_on then Some link else s.kept_on;
  owed = others_dropped (is_keeping command s.kept_on) link links ++ s.owed;
}

-- the id that the link's server has for its statement
abbrev pub id_in : ℕ → Command → State → Option ℕ
id_in link command s = id_for link command.body s.statements.table.links

abbrev pub sends : ℕ → Command → List NumberedLink → Kept → Kept
sends link command links k = record k {
  outs = k.outs ++ map (λ payload. Act (actions.ToLink link (spelling 0 payload))) (asked_under (id_in link command k.state) command.body);
  state = sends_in link command links k.state;
}

-- the pending command went out on a link, or nothing did
abbrev pub SendsPending : ℕ → Option Command → Bool → Kept → Kept → Type 0
SendsPending link (Some command) true old new = new ≡ sends link command new.state.links old
SendsPending link (Some command) false old new = new ≡ record old { state = record old.state { links = new.state.links } }
SendsPending link None true old new = ⊥
SendsPending link None false old new = new ≡ old

-- What is read and taken up

abbrev pub pending_by : Judged → Option Command → Option Command
pending_by (Serves command) before = Some command
pending_by _ before = before

-- a command that was taken for this waits for a server, or its answer is owed
abbrev pub answers : Judged → ℕ → State → State
answers judgement number s = record s {
  pending = pending_by judgement s.pending;
  owed = map erased (after_command judgement number (status_of s.transaction.state)) ++ s.owed;
}

-- a new command isn't routed yet, and the client is told nothing of its reply, which begins with this number
abbrev pub begins_reply : ℕ → State → State
begins_reply number s = record s { sent_on = None; told_from = None; reply_number = number; routing = new_routing }

-- it is taken up
abbrev pub takes : Judged → (payload : List ℕ) → ℕ → State → State
takes judgement payload number s = answers judgement number (record (begins_reply number s) {
  statements = taken_as judgement (is_open s.transaction.state) payload s.statements;
})

-- the client's side said something; this is where it stands then
abbrev pub stands_at : Fronting → State → State
stands_at front s = record s { front = front; want_number = error_number front }

-- the number of an error for want of memory is that of the client's side as it stands
abbrev pub recounted : Kept → Kept
recounted k = record k { state = record k.state { want_number = error_number k.state.front } }

-- something of the client but a command came
abbrev pub connects : FrontStep → State → State
connects said s = record s { login = login_by said s.login; owed = map erased (after_connecting said) ++ s.owed }

-- what came of the client was taken up, or nothing came
abbrev pub TakesSaid : Situation → Statements → FrontStep → Bool → Kept → Kept → Type 0
TakesSaid now statements fronts.Idle false old new = new ≡ old
TakesSaid now statements fronts.Idle true old new = ⊥
TakesSaid now statements said false old new = ⊥
TakesSaid now statements (fronts.Command payload) true old new =
    new ≡ record old { state = takes (judged now statements payload.bytes payload.next) payload.bytes payload.next old.state }
TakesSaid now statements said true old new = new ≡ record old { state = connects said old.state }

-- how the session stands where a command comes now
abbrev pub situation_in : Config → State → Situation
situation_in config s = record {
  in_transaction = is_open s.transaction.state;
  read_only = is_read_only s.transaction.state.opened;
  history_limit = config.history_limit;
  room = config.command_bytes;
}

-- what the end of the pending command's reply means for the history, which has these entries then
abbrev pub recording_in : (limit : ℕ) → State → Outcome → Recording
recording_in limit s outcome =
    recorded (recording_by (is_session (class_by_pending s.pending)) (is_some s.kept_on) (is_full limit s.statements) outcome)

-- what follows on a payload of the pending command's reply, which is this in the client's form
abbrev pub owes_reply : ℕ → (form : List ℕ) → (named : Option PrepareOk) → Progress → (behind : Bool) → (number : ℕ) → (Outcome → Recording) → List (Option Out)
owes_reply link form named More behind number recording = Some (outs.Pass number link form None recordings.Nothing) ∷ []
owes_reply link form named (Whole outcome) behind number recording =
    Some (outs.Pass number link form (Some (record { outcome = outcome; named = named })) (recording outcome)) ∷ map erased (unasked link behind)

-- what follows on a payload of the reply to an entry that prepares this
abbrev pub owes_played : ℕ → Option PreparedAs → (named : Option PrepareOk) → Progress → (behind : Bool) → List Put
owes_played link statement named More behind = []
owes_played link statement named (Whole (Done status)) behind = differing link (is_otherwise statement named) behind
owes_played link statement named (Whole (Failed code)) behind = Drops link SessionDiffers ∷ []

-- what follows on a payload of a reply, by what was asked; `checked` is what comes next of a read, where the reply says that
abbrev pub owes_part : ℕ → Option Asked → (form : List ℕ) → (named : Option PrepareOk) → (checked : Option Causal) → Progress → (behind : Bool) → (number : ℕ) → (Outcome → Recording) → List (Option Out)
owes_part link (Some ACommand) form named checked progress behind number recording = owes_reply link form named progress behind number recording
owes_part link (Some (AnEntry serial statement)) form named checked progress behind number recording = map erased (owes_played link statement named progress behind)
owes_part link (Some Preamble) form named checked progress behind number recording = map erased (after_preparing link progress behind)
owes_part link (Some AWait) form named checked progress behind number recording = map erased (after_check link checked behind number)
owes_part link (Some (AProbe gtid)) form named checked progress behind number recording = map erased (after_check link checked behind number)
owes_part link None form named checked progress behind number recording = []

-- what follows on what a link says, where the next statement's handle is this
abbrev pub owes_for : (handle : ℕ) → ℕ → LinkStep → Option Asked → (named : Option PrepareOk) → (checked : Option Causal) → (number : ℕ) → (Outcome → Recording) → List (Option Out)
owes_for handle link (steps.Part payload role progress next behind) asked named checked number recording =
    owes_part link asked (form_of handle role payload) named checked progress behind number recording
owes_for handle link (steps.Lost cause) asked named checked number recording = Some (outs.Drop link (drop_cause cause)) ∷ []
owes_for handle link (steps.Send packets) asked named checked number recording = Some (outs.LogIn link packets) ∷ []
owes_for handle link steps.LoggedIn asked named checked number recording = []
owes_for handle link steps.Idle asked named checked number recording = []

-- the commit that an OK names, by what was asked: that to the preamble says nothing of a command
abbrev pub commit_asked : (domain : ℕ) → Option Asked → List ℕ → Option Gtid
commit_asked domain None payload = None
commit_asked domain (Some Preamble) payload = None
commit_asked domain (Some asked) payload = commit_in domain payload

abbrev pub commit_as : (domain : ℕ) → Role → List ℕ → Option Asked → Option Gtid
commit_as domain OkRole payload asked = commit_asked domain asked payload
commit_as domain _ payload asked = None

-- and that what a link says tells of
abbrev pub commit_said : (domain : ℕ) → LinkStep → Option Asked → Option Gtid
commit_said domain (steps.Part payload role progress next behind) asked = commit_as domain role payload asked
commit_said domain _ asked = None

-- the transaction that was open ends with a reply that ended so on a link
abbrev pub ends_in : ℕ → State → Outcome → Bool
ends_in link s outcome = ends_by s.kept_on s.pending link outcome s.routing s.transaction

-- how the reply ended that is whole with what a link says
abbrev pub outcome_of : LinkStep → Option Outcome
outcome_of (steps.Part payload role (Whole outcome) next behind) = Some outcome
outcome_of _ = None

-- an entry was played, or refused
abbrev pub played_if : (link serial : ℕ) → Option PreparedAs → (named : Option PrepareOk) → Outcome → Statements → Statements
played_if link serial statement named (Done status) s = played link serial statement named s
played_if link serial statement named (Failed code) s = s

-- the statements behind the end of a reply on a link, by what was asked there
abbrev pub ended_in : ℕ → Outcome → Option Asked → (ends : Outcome → Bool) → (named : Option PrepareOk) → Statements → Statements
ended_in link outcome (Some ACommand) ends named s = swept_if (ends outcome) s
ended_in link outcome (Some (AnEntry serial statement)) ends named s = played_if link serial statement named outcome s
ended_in link outcome (Some Preamble) ends named s = s
ended_in link outcome (Some AWait) ends named s = s
ended_in link outcome (Some (AProbe gtid)) ends named s = s
ended_in link outcome None ends named s = s

abbrev pub heard_in_by : ℕ → Option Outcome → Option Asked → (ends : Outcome → Bool) → (named : Option PrepareOk) → Statements → Statements
heard_in_by link (Some outcome) asked ends named s = ended_in link outcome asked ends named s
heard_in_by link None asked ends named s = s

-- and behind what a link says
abbrev pub heard_in : ℕ → LinkStep → Option Asked → (ends : Outcome → Bool) → (named : Option PrepareOk) → Statements → Statements
heard_in link said asked ends named s = heard_in_by link (outcome_of said) asked ends named s

-- it is heard: the server may be banned, statements may have an id there or leave, and the command go on or back to the primary
abbrev pub hears_coming : Coming → State → State
hears_coming coming s = record s {
  banned = bans coming.said coming.asked coming.named coming.server s.banned;
  statements = heard_in coming.link coming.said coming.asked (ends_in coming.link s) coming.named s.statements;
  routing = heard_check coming.checked s.routing;
}

-- and what follows on it is owed; the history has room for so many entries
abbrev pub owes_coming : (limit handle : ℕ) → Coming → State → State
owes_coming limit handle coming s = record s {
  owed = owes_for handle coming.link coming.said coming.asked coming.named coming.checked s.reply_number (recording_in limit s) ++ s.owed;
}

-- a commit of a server is told of before all else
abbrev pub owes_commit : (server : ℕ) → Option Gtid → State → State
owes_commit server commit s = owes (recording_commit server commit) s

abbrev pub takes_coming : Config → Coming → State → State
takes_coming config coming s =
    owes_commit coming.server (commit_said config.gtid_domain coming.said coming.asked)
    (owes_coming config.history_limit (next_handle s.statements) coming (hears_coming coming s))

-- Tries

-- an item was made: what it gives out is there, and the state is that behind it
pub record Makes (config : Config) (past : List Item) (old new : Kept) (item : Item) : Type 0 where
  pub number : new.number ≡ old.number
  pub outs : new.outs ≡ old.outs ++ outs_of old.number item past
  pub state : new.state ≡ state_of config (item ∷ past)

-- one kind of step was tried: it went where it was due, and else all is as it was
pub record Went (config : Config) (due : Option Item) (past : List Item) (old new : Kept) : Type 0 where
  pub item : Item
  pub is_due : due ≡ Some item
  pub made : Makes config past old new item

abbrev pub Tries : Config → Option Item → List Item → Bool → Kept → Kept → Type 0
Tries config due past true old new = Went config due past old new
Tries config due past false old new = (due ≡ None) × (new ≡ old)

-- what is owed first
abbrev pub due_put : List Put → Option Item
due_put [] = None
due_put (put ∷ others) = Some (Puts put)

-- A whole turn

-- an input was heard: it is the record's newest item, and nothing went out
abbrev pub Hears : Config → Option Item → List Item → Bool → Kept → Kept → Type 0
Hears config (Some item) past true old new = (new.number ≡ old.number) × (new.outs ≡ old.outs) × Is config new (item ∷ past)
Hears config None past false old new = new ≡ old
Hears config item past went old new = ⊥

-- memory was wanting for an input: what lasts is that of the record in which it was heard
abbrev pub HearsInPart : Config → Option Item → List Item → Kept → Kept → Type 0
HearsInPart config (Some item) past old new = lasting new ≡ lasting_of config old.number old.outs (item ∷ past)
HearsInPart config None past old new = ⊥

-- the session went on from a record by steps of its own, and what they gave out is there
pub record Goes (config : Config) (past : List Item) (old new : Kept) : Type 0 where
  pub reached : List Item
  pub went_on : GoesOn config past reached
  pub is : Is config new reached
  pub number : new.number ≡ old.number
  pub more : List Output
  pub given : outputs_of old.number reached ≡ outputs_of old.number past ++ more
  pub waits : new.outs ≡ old.outs ++ more

-- and now it rests, or asks the worker
pub record Rests (config : Config) (past : List Item) (old new : Kept) (asks : Bool) : Type 0 where
  pub goes : Goes config past old new
  pub stands : StandsOr asks config new goes.reached

-- or memory was wanting for a further step, and what lasts is there
pub record Stops (config : Config) (past : List Item) (old new : Kept) : Type 0 where
  pub reached : List Item
  pub went_on : GoesOn config past reached
  pub more : List Output
  pub given : outputs_of old.number reached ≡ outputs_of old.number past ++ more
  pub lasts : lasting new ≡ lasting_of config old.number (old.outs ++ more) reached
