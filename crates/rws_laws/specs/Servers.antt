-- What came of a server on a link: in the link's login, of the replies that it owes, and unasked.
use Rattle.std.specs.Prelude.{◌≡◌, ◌≢◌, ◌⊎◌, ℕ, Bool, true, false, List, [], ◌∷◌, ◌++◌, ◌==◌, nat_eq, Option, Some, None, Ok, Err, Contains, if◌then◌else◌}
use Rattle.std.specs.Cmp.Lexicographic.{pointwise}
use Rattle.rws_wire.specs.Packets.{spelling}
use Rattle.rws_wire.specs.Payloads.{first_payload}
use Rattle.rws_wire.specs.Payloads.Beginning.{Whole, Faulty}
use Rattle.rws_wire.specs.declared.fault.WireFault.{WireFault}
use Rattle.rws_wire.specs.declared.drop_cause.DropCause.{DropCause}
use Rattle.rws_wire.specs.declared.drop_cause.DropCause.TheVariants as causes
use Rattle.rws_msgs.specs.declared.fault.MsgFault.{MsgFault}
use Rattle.rws_msgs.specs.declared.greeting.Greeting.{Greeting}
use Rattle.rws_msgs.specs.declared.switch.Switch.{Switch}
use Rattle.rws_msgs.specs.GreetingLayout.{greeting_at}
use Rattle.rws_msgs.specs.ResponseLayout.{response_bytes}
use Rattle.rws_msgs.specs.OkLayout.{ok_status}
use Rattle.rws_msgs.specs.ErrLayout.{err_code}
use Rattle.rws_msgs.specs.SwitchLayout.{plugin_asked, switch_at}
use Rattle.rws_gtid.specs.declared.Gtid.{Gtid}
use Rattle.rws_gtid.specs.declared.GtidFault.{GtidFault}
use Rattle.rws_gtid.specs.Parsing.{position_in}
use Rattle.rws_native.specs.declared.login.Login.{Login}
use Rattle.rws_reply.specs.declared.kind.Kind.{Kind}
use Rattle.rws_reply.specs.declared.kind.Kind.TheVariants.{Query as QueryReply}
use Rattle.rws_reply.specs.declared.kind.Outcome.{Outcome}
use Rattle.rws_reply.specs.declared.kind.Outcome.TheVariants.{Done, Failed}
use Rattle.rws_reply.specs.declared.kind.Progress.{Progress}
use Rattle.rws_reply.specs.declared.role.Role.TheVariants as Role
use Rattle.rws_reply.specs.Replies.{Payload, IsReply, Begins}
use Rattle.rws_result.specs.OneValues.{only_value}
use Rattle.rws_result.specs.ResultSets.{result_set}
use Rattle.rws_causal.specs.Commits.{commit_in}
use Rattle.rws_routing.specs.declared.routing.Check.{Check}
use Rattle.rws_routing.specs.declared.routing.Check.TheVariants.{Wait, Probe}
use Rattle.rws_link.specs.declared.handshake.Handshake.{Handshake}
use Rattle.rws_link.specs.declared.handshake.Handshake.TheVariants.{Greeting as AwaitsGreeting, Answered}
use Rattle.rws_link.specs.declared.step.LinkCause.{LinkCause}
use Rattle.rws_link.specs.declared.step.LinkCause.TheVariants as losses
use Rattle.rws_link.specs.declared.step.LinkStep.{LinkStep}
use Rattle.rws_link.specs.declared.step.LinkStep.TheVariants as steps
use Rattle.rws_link.specs.Handshake.{due, is_served, native_plugin, proof_over, response_of}
use Rattle.rws_link.specs.Stepping.{Exchange, LogsIn, Rests}
use Rattle.rws_config.specs.declared.limits.TheConstants.{SERVER_PAYLOAD}
use Rattle.rws_msgs.specs.declared.prepare_ok.PrepareOk.{PrepareOk}
use Rattle.rws_commands.specs.declared.history.HistoryEntry.{HistoryEntry}
use Rattle.rws_commands.specs.declared.history.PreparedAs.{PreparedAs}
use Rattle.rws_record.specs.Item.{Item, Purpose}
use Rattle.rws_record.specs.Item.Item.{Began, LinkReady, LinkBytes, LinkLost, Comes, Puts}
use Rattle.rws_record.specs.Item.Put.{Records, Sends, Drops}
use Rattle.rws_record.specs.Item.Purpose.{Prepares, Plays, Waits, Probes}
use Rattle.rws_record.specs.Values.{asked_on, links, linked, named_on, exchange, link_held, server_of}

-- Its payloads

-- payloads with the one that a link said, if that was one
abbrev pub with_said : LinkStep → List Payload → List Payload
with_said (steps.Part payload role progress next behind) so_far = so_far ++ payload ∷ []
with_said _ so_far = so_far

-- the payloads that came on a link since something was last sent on it, as the server sent them
abbrev pub came_on : ℕ → List Item → List Payload
came_on link [] = []
came_on link (Puts (Sends to purpose) ∷ past) = if to == link then [] else came_on link past
came_on link (Comes from said ∷ past) = if from == link then with_said said (came_on link past) else came_on link past
came_on link (_ ∷ past) = came_on link past

abbrev pub replied_by : ℕ → LinkStep → Option ℕ
replied_by link (steps.Part payload role progress next behind) = Some link
replied_by link _ = None

-- the link on which a payload of a reply came last; the commit that it names may have been told of since
abbrev pub replied : List Item → Option ℕ
replied (Comes link said ∷ past) = replied_by link said
replied (Puts (Records server gtid) ∷ past) = replied past
replied _ = None

-- The newest item is an OK that names this commit: a server sent it in a reply, which isn't that to the preamble.
pub data NamesCommit (domain server : ℕ) (gtid : Gtid) : List Item → Type 0 where
  names : {past : List Item} {link next : ℕ} {payload : Payload} {far : Progress} {behind : Bool} {purpose : Purpose}
      → Contains (links past) link → server_of link past ≡ server → asked_on link past ≡ Some purpose → purpose ≢ Prepares
      → commit_in domain payload ≡ Some gtid
      → NamesCommit domain server gtid (Comes link (steps.Part payload Role.Ok far next behind) ∷ past)

-- what a server is asked for this purpose before a read, if it is that
abbrev pub asks_first : Option Purpose → Option Check
asks_first (Some (Waits gtid seconds)) = Some (Wait gtid)
asks_first (Some (Probes gtid)) = Some (Probe gtid)
asks_first _ = None

-- the one value of the result set that came on the link since something was sent there
abbrev pub value_came : ℕ → List Item → Option (List ℕ)
value_came link past = only_value (result_set (came_on link past))

-- A probe of the primary was answered just now, by a whole reply.
pub record Probed (link : ℕ) (gtid : Gtid) (past : List Item) : Type 0 where
  pub came : replied past ≡ Some link
  pub asked : asked_on link past ≡ Some (Probes gtid)
  pub outcome : Outcome
  pub whole : IsReply QueryReply (came_on link past) outcome
  pub left : exchange link past ≡ None

-- a value is no position of a server
abbrev pub IsNoPosition : (domain : ℕ) → Option (List ℕ) → Type 0
IsNoPosition domain (Some list) = (fault : GtidFault) × (position_in domain list ≡ Err fault)
IsNoPosition domain None = Unit {0}

-- so the server told no position
pub record TellsNoPosition (link : ℕ) (past : List Item) : Type 0 where
  pub gtid : Gtid
  pub probed : Probed link gtid past
  pub none : IsNoPosition gtid.domain (value_came link past)

-- Its side of the login

-- the link logs in and stands so, and its bytes begin with this payload; an answer to it has this number
pub record LoginCame (link : ℕ) (handshake : Handshake) (payload : List ℕ) (number : ℕ) (rest : List ℕ) (past : List Item) : Type 0 where
  pub state : linked link past ≡ LogsIn handshake (link_held link past)
  pub begins : first_payload SERVER_PAYLOAD (due handshake) (link_held link past) ≡ Whole payload number rest

-- What a link sends for it: the client's login over the greeting's scramble, to a server that has what a link stands on; or the proof
-- over another scramble, where the native plugin is asked for.
pub data LoginAnswer (payload : List ℕ) (number : ℕ) : Handshake → (packets : List ℕ) → Type 0 where
  logs_in : {login : Login} {greeting : Greeting} → greeting_at payload ≡ Ok greeting → is_served greeting.capabilities ≡ true
      → LoginAnswer payload number (AwaitsGreeting login) (spelling number (response_bytes (response_of login greeting.scramble)))
  proves : {stage1 : Option (List ℕ)} {next : ℕ} {plugin : List ℕ} {switch : Switch} → plugin_asked payload ≡ Some plugin
      → pointwise nat_eq plugin native_plugin ≡ true → switch_at payload ≡ Ok switch
      → LoginAnswer payload number (Answered stage1 next) (spelling number (proof_over stage1 switch.scramble))

-- the server took the login: it answers by an OK
pub data LoginTaken (payload : List ℕ) : Handshake → Type 0 where
  ok_came : {stage1 : Option (List ℕ)} {next status : ℕ} → err_code payload ≡ None → ok_status true payload ≡ Some status
      → LoginTaken payload (Answered stage1 next)

-- the login failed at this payload
pub data LoginFailed (payload : List ℕ) : Handshake → LinkCause → Type 0 where
  -- in place of the greeting: it is none, or that of a server that lacks what a link stands on
  no_greeting : {login : Login} {fault : MsgFault} → greeting_at payload ≡ Err fault
      → LoginFailed payload (AwaitsGreeting login) losses.Greeting
  not_served : {login : Login} {greeting : Greeting} → greeting_at payload ≡ Ok greeting
      → is_served greeting.capabilities ≡ false → LoginFailed payload (AwaitsGreeting login) losses.Greeting
  -- in place of the OK: an error with this code, the question for another plugin, or none of the three
  error_came : {stage1 : Option (List ℕ)} {next code : ℕ} → err_code payload ≡ Some code
      → LoginFailed payload (Answered stage1 next) (losses.Login code)
  other_plugin : {stage1 : Option (List ℕ)} {next : ℕ} {plugin : List ℕ} → plugin_asked payload ≡ Some plugin
      → pointwise nat_eq plugin native_plugin ≡ false → LoginFailed payload (Answered stage1 next) losses.Plugin
  no_answer : {stage1 : Option (List ℕ)} {next : ℕ} → err_code payload ≡ None → ok_status true payload ≡ None
      → plugin_asked payload ≡ None → LoginFailed payload (Answered stage1 next) losses.BadReply
  bad_question : {stage1 : Option (List ℕ)} {next : ℕ} {fault : MsgFault} → err_code payload ≡ None
      → ok_status true payload ≡ None → switch_at payload ≡ Err fault
      → LoginFailed payload (Answered stage1 next) losses.BadReply

-- the newest item says that packets of the login are to be sent on the link
pub data LogsOn (link : ℕ) (packets : List ℕ) : List Item → Type 0 where
  logs_on : {past : List Item} {handshake : Handshake} {payload rest : List ℕ} {number : ℕ}
      → LoginCame link handshake payload number rest past → LoginAnswer payload number handshake packets
      → LogsOn link packets (Comes link (steps.Send packets) ∷ past)

-- or that it is logged in: the server took the login, and nothing stands behind its word
pub data Entered (link : ℕ) : List Item → Type 0 where
  entered : {past : List Item} {handshake : Handshake} {payload : List ℕ} {number : ℕ}
      → LoginCame link handshake payload number [] past → LoginTaken payload handshake
      → Entered link (Comes link steps.LoggedIn ∷ past)

-- or that it is lost, since the login failed
pub data NotEntered (link : ℕ) (cause : LinkCause) : List Item → Type 0 where
  not_entered : {past : List Item} {handshake : Handshake} {payload rest : List ℕ} {number : ℕ}
      → LoginCame link handshake payload number rest past → LoginFailed payload handshake cause
      → NotEntered link cause (Comes link (steps.Lost cause) ∷ past)

-- What is no reply, and what nobody asked for

-- The link is lost by the newest item, since its packets are out of order or a payload too long: the bytes that came of the
-- login, or of the reply that it owed, begin with this fault.
pub data IsGarbled (link : ℕ) (fault : WireFault) : List Item → Type 0 where
  garbled_login : {past : List Item} {handshake : Handshake} → linked link past ≡ LogsIn handshake (link_held link past)
      → first_payload SERVER_PAYLOAD (due handshake) (link_held link past) ≡ Faulty fault
      → IsGarbled link fault (Comes link (steps.Lost losses.BadWire) ∷ past)
  garbled : {past : List Item} {e : Exchange} → exchange link past ≡ Some e
      → first_payload SERVER_PAYLOAD e.next (link_held link past) ≡ Faulty fault
      → IsGarbled link fault (Comes link (steps.Lost losses.BadWire) ∷ past)

-- The link is lost by the newest item, since this payload came in place of what the reply that it owed lacked.
pub data IsWrong (link : ℕ) (payload : Payload) : List Item → Type 0 where
  wrong : {past : List Item} {e : Exchange} {rest : List ℕ} {number : ℕ} → exchange link past ≡ Some e
      → first_payload SERVER_PAYLOAD e.next (link_held link past) ≡ Whole payload number rest
      → (¬ Begins e.kind (e.sofar ++ payload ∷ [])) → ((outcome : Outcome) → ¬ IsReply e.kind (e.sofar ++ payload ∷ []) outcome)
      → IsWrong link payload (Comes link (steps.Lost losses.BadReply) ∷ past)

-- so what came since the link was last asked neither is a reply of this kind nor begins one
pub record IsNoReply (kind : Kind) (link : ℕ) (payload : Payload) (past : List Item) : Type 0 where
  pub came : IsWrong link payload past
  pub no_beginning : ¬ Begins kind (came_on link past ++ payload ∷ [])
  pub no_whole : (outcome : Outcome) → ¬ IsReply kind (came_on link past ++ payload ∷ []) outcome

-- A byte came on the link at some place while its server was asked nothing: where it rested, behind the OK of its login, or
-- behind a whole reply.
pub data WasUnasked (link : ℕ) : List Item → Type 0 where
  resting : {past : List Item} {byte : ℕ} {rest : List ℕ} → linked link past ≡ Rests
      → WasUnasked link (LinkBytes link (byte ∷ rest) ∷ past)
  behind_login : {past : List Item} {handshake : Handshake} {payload rest : List ℕ} {byte number : ℕ} {said : LinkStep}
      → LoginCame link handshake payload number (byte ∷ rest) past → LoginTaken payload handshake
      → WasUnasked link (Comes link said ∷ past)
  behind_reply : {past : List Item} {e : Exchange} {payload rest : List ℕ} {byte number : ℕ} {said : LinkStep} (outcome : Outcome)
      → exchange link past ≡ Some e
      → first_payload SERVER_PAYLOAD e.next (link_held link past) ≡ Whole payload number (byte ∷ rest)
      → IsReply e.kind (e.sofar ++ payload ∷ []) outcome → WasUnasked link (Comes link said ∷ past)
  earlier : {item : Item} {past : List Item} → WasUnasked link past → WasUnasked link (item ∷ past)

-- a byte came that nobody awaited, and nothing is awaited still
abbrev pub IsUnasked : ℕ → List Item → Type 0
IsUnasked link past = WasUnasked link past × (exchange link past ≡ None)

-- why the newest item says that the link is lost
abbrev pub IsLostFor : ℕ → LinkCause → List Item → Type 0
IsLostFor link losses.BadWire past = (fault : WireFault) × IsGarbled link fault past
IsLostFor link losses.BadReply past = ((payload : Payload) × IsWrong link payload past) ⊎ NotEntered link losses.BadReply past
IsLostFor link losses.Unasked past = IsUnasked link past
IsLostFor link losses.Greeting past = NotEntered link losses.Greeting past
IsLostFor link losses.Plugin past = NotEntered link losses.Plugin past
IsLostFor link (losses.Login code) past = NotEntered link (losses.Login code) past

-- the preamble was answered by an error with this code, whole now
pub record IsUnprepared (link code : ℕ) (past : List Item) : Type 0 where
  pub came : replied past ≡ Some link
  pub asked : asked_on link past ≡ Some Prepares
  pub failed : IsReply QueryReply (came_on link past) (Failed code)

-- the reply to an entry of the history differs from the one that the client was answered by: it is an error; or it tells of a statement
-- with another number of columns or parameters
pub data IsOther (entry : HistoryEntry) (payloads : List Payload) (named : Option PrepareOk) : Type 0 where
  fails : (code : ℕ) → IsReply entry.kind payloads (Failed code) → IsOther entry payloads named
  counts : (how : PreparedAs) (ok : PrepareOk) (status : ℕ) → entry.statement ≡ Some how → named ≡ Some ok
      → IsReply entry.kind payloads (Done status) → ¬ ((how.columns ≡ ok.columns) × (how.parameters ≡ ok.parameters))
      → IsOther entry payloads named

-- an entry of the history was answered otherwise, whole now
pub record Differs (link : ℕ) (past : List Item) : Type 0 where
  pub came : replied past ≡ Some link
  pub entry : HistoryEntry
  pub asked : asked_on link past ≡ Some (Plays entry)
  pub other : IsOther entry (came_on link past) (named_on link past)

-- The link was prepared at some place: its session began with it, it counted as ready, or its server's whole reply to the
-- preamble came, which is no error.
pub data WasPrepared (link : ℕ) : List Item → Type 0 where
  with_session : {server reading : ℕ} {past : List Item} → WasPrepared link (Began link server reading ∷ past)
  as_ready : {past : List Item} → WasPrepared link (LinkReady link ∷ past)
  by_reply : {past : List Item} {said : LinkStep} {status : ℕ} → replied (Comes link said ∷ past) ≡ Some link
      → asked_on link past ≡ Some Prepares → IsReply QueryReply (came_on link (Comes link said ∷ past)) (Done status)
      → WasPrepared link (Comes link said ∷ past)
  since : {item : Item} {past : List Item} → WasPrepared link past → WasPrepared link (item ∷ past)

-- The loss of a link

-- to give a link up is to lose it, but where the session doesn't need it any more
abbrev pub lost_by : ℕ → DropCause → Option ℕ
lost_by link causes.End = None
lost_by link causes.Kept = None
lost_by link causes.Replay = None
lost_by link _ = Some link

-- the newest item loses the link, where this stands below it: its server closed it, or it was given up for a fault
pub data Lost (link : ℕ) (below : List Item) : List Item → Type 0 where
  closed : Lost link below (LinkLost link ∷ below)
  given_up : {cause : DropCause} → lost_by link cause ≡ Some link → Lost link below (Puts (Drops link cause) ∷ below)
