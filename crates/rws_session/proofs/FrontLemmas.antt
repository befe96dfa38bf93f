-- What the client's side of a session says, and holds.
use Rattle.std.proofs.Common.{◌≡◌, ℕ, ◌<◌, Bool, true, false, List, [], ◌∷◌, length, refl, ◌∙◌, Option, Some, None}
use Rattle.std.specs.Prelude.{if◌then◌else◌}
use Rattle.rws_wire.specs.Deframing.{Deframing, next_of, unless_stopped}
use Rattle.rws_wire.specs.Packets.{next_number, spelled_length, spelling}
use Rattle.rws_wire.specs.Payloads.{Beginning, first_payload}
use Rattle.rws_wire.specs.Payloads.Beginning.{Nothing, Whole, Faulty}
use Rattle.rws_wire.specs.declared.fault.WireFault.{WireFault}
use Rattle.rws_wire.proofs.LengthLemmas.{unread_is_bounded}
use Rattle.rws_msgs.specs.declared.response.Response.{Response}
use Rattle.rws_msgs.specs.SwitchLayout.{switch_bytes}
use Rattle.rws_config.specs.declared.account.Account.{Account}
use Rattle.rws_config.specs.declared.config.Config.{Config}
use Rattle.rws_front.specs.declared.access.Access.{Access}
use Rattle.rws_front.specs.declared.access.Access.TheVariants.{Denied, Granted}
use Rattle.rws_front.specs.declared.phase.Phase.{Phase}
use Rattle.rws_front.specs.declared.phase.Phase.TheVariants.{Greets, AwaitsResponse, AwaitsAnswer, LogsIn as PhaseLogsIn, Commands, Ended}
use Rattle.rws_front.specs.declared.step.FrontStep.{FrontStep}
use Rattle.rws_front.specs.declared.step.FrontStep.TheVariants as fronts
use Rattle.rws_front.specs.Accesses.{access_of}
use Rattle.rws_front.specs.Connection.{fault_number, heard, is_native, responded, response_in, settled, step_in, step_of}
use Rattle.rws_front.specs.Fronting.{Fronting}
use Rattle.rws_front.specs.Messages.{switch_of}
use Rattle.rws_record.specs.Item.{Item}
use Rattle.rws_record.specs.Item.Item.{Accepted, TurnsAway, Began, ClientBytes, LinkReady, LinkBytes, ClientGone, LinkLost, Ticks, Routed, Comes, Connects, Takes, Floods, Puts, Starves}
use Rattle.rws_record.specs.Values.{fronted}

-- where it says nothing, its bytes begin with no whole payload and no fault
heard_few : (front : Fronting) (reply : List ℕ → ℕ → FrontStep × Phase) (number : WireFault → ℕ) (found : Beginning)
    → ((payload : List ℕ) (behind : ℕ) → (reply payload behind).0 ≡ fronts.Idle → ⊥)
    → (heard front reply number found).0 ≡ fronts.Idle → found ≡ Nothing
heard_few front reply number Nothing speaks a = refl
heard_few front reply number (Whole payload behind rest) speaks a = absurd (speaks payload behind a)
heard_few front reply number (Faulty fault) speaks a = absurd cc

settled_speaks : (access : Access) (response : Response) (number : ℕ) → (settled access response number).0 ≡ fronts.Idle → ⊥
settled_speaks Denied response number a = cc
settled_speaks (Granted stage1) response number a = cc

responded_speaks : (accounts : List Account) (scramble : List ℕ) (response : Option Response) (number : ℕ)
    → (responded accounts scramble response number).0 ≡ fronts.Idle → ⊥
responded_speaks accounts scramble None number a = cc
responded_speaks accounts scramble (Some response) number a = by_plugin (is_native response.plugin) a
  where
    by_plugin : (native : Bool)
        → (if native then settled (access_of accounts response.user scramble response.answer) response number
        else (fronts.Send (spelling number (switch_bytes (switch_of scramble))), AwaitsAnswer response number)).0 ≡ fronts.Idle → ⊥
    by_plugin true a = settled_speaks (access_of accounts response.user scramble response.answer) response number a
    by_plugin false a = cc

unstopped_few : (d : Deframing) (first : ℕ) → next_of d first ≡ Nothing → length d.held < spelled_length d.limit
unstopped_few d first n = by_fault d.stopped n
  where
    by_fault : (stopped : Option WireFault) → unless_stopped stopped (first_payload d.limit first d.held) ≡ Nothing
        → length d.held < spelled_length d.limit
    by_fault (Some fault) n = absurd cc
    by_fault None n = unread_is_bounded d.limit first d.held n

pub idle_few : (accounts : List Account) (front : Fronting) → (step_of accounts front).0 ≡ fronts.Idle
    → length front.stream.held < spelled_length front.stream.limit
idle_few accounts front a = by_phase front.phase a
  where
    by_phase : (phase : Phase) → (step_in accounts front phase).0 ≡ fronts.Idle → length front.stream.held < spelled_length front.stream.limit
    by_phase Greets a = absurd cc
    by_phase AwaitsResponse a =
        unstopped_few front.stream 1
        (heard_few front _ _ (next_of front.stream 1) (λ payload behind. responded_speaks accounts front.scramble (response_in payload) behind) a)
    by_phase (AwaitsAnswer response asked) a =
        unstopped_few front.stream (next_number asked)
        (heard_few front _ _ (next_of front.stream (next_number asked))
        (λ payload behind. settled_speaks (access_of accounts response.user front.scramble payload) response behind) a)
    by_phase (PhaseLogsIn login) a = absurd cc
    by_phase Commands a =
        unstopped_few front.stream 0 (heard_few front _ _ (next_of front.stream 0) (λ payload behind said. cc) a)
    by_phase (Ended reason) a = absurd cc

-- the limit of a command never changes
heard_limit : (front : Fronting) (reply : List ℕ → ℕ → FrontStep × Phase) (number : WireFault → ℕ) (found : Beginning)
    → (heard front reply number found).1.stream.limit ≡ front.stream.limit
heard_limit front reply number Nothing = refl
heard_limit front reply number (Whole payload behind rest) = refl
heard_limit front reply number (Faulty fault) = refl

step_limit : (accounts : List Account) (front : Fronting) → (step_of accounts front).1.stream.limit ≡ front.stream.limit
step_limit accounts front = by_phase front.phase
  where
    by_phase : (phase : Phase) → (step_in accounts front phase).1.stream.limit ≡ front.stream.limit
    by_phase Greets = refl
    by_phase AwaitsResponse = heard_limit front _ _ (next_of front.stream 1)
    by_phase (AwaitsAnswer response asked) = heard_limit front _ _ (next_of front.stream (next_number asked))
    by_phase (PhaseLogsIn login) = refl
    by_phase Commands = heard_limit front _ _ (next_of front.stream 0)
    by_phase (Ended reason) = refl

pub limit_is : (config : Config) (past : List Item) → (fronted config past).stream.limit ≡ config.command_bytes
limit_is config [] = refl
limit_is config (Accepted session scramble reading ∷ past) = refl
limit_is config (Began link server reading ∷ past) = refl
limit_is config (ClientBytes bytes ∷ past) = limit_is config past
limit_is config (Connects said ∷ past) = step_limit config.accounts (fronted config past) ∙ limit_is config past
limit_is config (Takes judged number ∷ past) = step_limit config.accounts (fronted config past) ∙ limit_is config past
limit_is config (TurnsAway told ∷ past) = limit_is config past
limit_is config (LinkReady link ∷ past) = limit_is config past
limit_is config (LinkBytes link bytes ∷ past) = limit_is config past
limit_is config (ClientGone ∷ past) = limit_is config past
limit_is config (LinkLost link ∷ past) = limit_is config past
limit_is config (Ticks reading ∷ past) = limit_is config past
limit_is config (Routed words loads next found ∷ past) = limit_is config past
limit_is config (Comes link said ∷ past) = limit_is config past
limit_is config (Floods bytes ∷ past) = limit_is config past
limit_is config (Puts put ∷ past) = limit_is config past
limit_is config (Starves made number ∷ past) = limit_is config past

-- where it says nothing it stays as it is
heard_stays : (front : Fronting) (reply : List ℕ → ℕ → FrontStep × Phase) (number : WireFault → ℕ) (found : Beginning)
    → found ≡ Nothing → (heard front reply number found).1 ≡ front
heard_stays front reply number found e = rw e refl

pub idle_stays : (accounts : List Account) (front : Fronting) → (step_of accounts front).0 ≡ fronts.Idle
    → (step_of accounts front).1 ≡ front
idle_stays accounts front a = by_phase front.phase a
  where
    by_phase : (phase : Phase) → (step_in accounts front phase).0 ≡ fronts.Idle → (step_in accounts front phase).1 ≡ front
    by_phase Greets a = absurd cc
    by_phase AwaitsResponse a =
        heard_stays front (λ payload behind. responded accounts front.scramble (response_in payload) behind) (fault_number 1 1) (next_of front.stream 1)
        (heard_few front _ _ (next_of front.stream 1) (λ payload behind. responded_speaks accounts front.scramble (response_in payload) behind) a)
    by_phase (AwaitsAnswer response asked) a =
        heard_stays front (λ payload behind. settled (access_of accounts response.user front.scramble payload) response behind)
        (fault_number asked (next_number asked)) (next_of front.stream (next_number asked))
        (heard_few front _ _ (next_of front.stream (next_number asked))
        (λ payload behind. settled_speaks (access_of accounts response.user front.scramble payload) response behind) a)
    by_phase (PhaseLogsIn login) a = absurd cc
    by_phase Commands a =
        heard_stays front (λ payload behind. (fronts.Command (record { bytes = payload; next = behind }), Commands)) (λ fault. 1) (next_of front.stream 0)
        (heard_few front _ _ (next_of front.stream 0) (λ payload behind said. cc) a)
    by_phase (Ended reason) a = absurd cc
