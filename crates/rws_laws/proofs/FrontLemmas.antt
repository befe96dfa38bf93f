-- What a client's front says, and where it stands in a record.
use Rattle.std.proofs.Common.{◌≡◌, ℕ, Bool, true, false, List, [], ◌∷◌, length, ◌==◌, refl, subst, ◌∙◌, Option, Some, None}
use Rattle.rws_wire.specs.declared.close_reason.CloseReason.{CloseReason}
use Rattle.rws_wire.specs.declared.fault.WireFault.{WireFault}
use Rattle.rws_wire.specs.declared.fault.WireFault.TheVariants as faults
use Rattle.rws_wire.specs.declared.payload.Payload.{Payload}
use Rattle.rws_wire.specs.Deframing.{Deframing, next_of}
use Rattle.rws_wire.specs.Packets.{next_number}
use Rattle.rws_wire.specs.Payloads.{Beginning, first_payload}
use Rattle.rws_wire.specs.Payloads.Beginning.{Nothing, Whole, Faulty}
use Rattle.rws_msgs.specs.declared.response.Response.{Response}
use Rattle.rws_config.specs.declared.account.Account.{Account}
use Rattle.rws_config.specs.declared.config.Config.{Config}
use Rattle.rws_native.specs.declared.login.Login.{Login}
use Rattle.rws_front.specs.declared.phase.Phase.{Phase}
use Rattle.rws_front.specs.declared.phase.Phase.TheVariants.{Greets, AwaitsResponse, AwaitsAnswer, LogsIn, Commands, Ended}
use Rattle.rws_front.specs.declared.step.FrontStep.{FrontStep}
use Rattle.rws_front.specs.declared.step.FrontStep.TheVariants as fronts
use Rattle.rws_front.specs.Accesses.{account_of, granted, granted_by, is_answer}
use Rattle.rws_front.specs.Fronting.{Fronting}
use Rattle.rws_front.specs.Connection.{fault_number, heard, is_native, responded, response_in, settled, step_of}
use Rattle.rws_front.specs.Laws.{ForLogin, IsProved}
use Rattle.rws_front.proofs.LoginLemmas.{logins_are_proved}
use Rattle.rws_record.specs.Item.{Item}
use Rattle.rws_record.specs.Item.Item.{Accepted, TurnsAway, Began, ClientBytes, LinkReady, LinkBytes, ClientGone, LinkLost, Ticks, Routed, Comes, Connects, Takes, Floods, Puts, Starves}
use Rattle.rws_record.specs.Values.{fronted}
use Rattle.rws_record.proofs.StepLemmas.{IsConnecting}
use Rattle.rws_record.proofs.StepLemmas.IsConnecting.{sends_back, lets_in, ends_it}
use Rattle.rws_laws.specs.Client.{begins_with, Responded, Proved, Sent, Broken, Refused, IsSaid, IsAwaited}
use Rattle.rws_laws.specs.Client.Proved.{at_once, when_asked}
use Rattle.rws_laws.specs.Client.Sent.{greeting, question, ok}
use Rattle.rws_laws.specs.Client.Broken.{in_response, in_answer, in_commands}
use Rattle.rws_laws.specs.Client.Refused.{not_spoken, denied, out_of_order, too_large}
use Rattle.rws_laws.specs.Client.IsAwaited.{for_response, for_answer, for_command}

abbrev pub is_ended : Phase → Bool
is_ended Greets = false
is_ended AwaitsResponse = false
is_ended (AwaitsAnswer response asked) = false
is_ended (LogsIn login) = false
is_ended Commands = false
is_ended (Ended reason) = true

-- a front that goes on, by its fields
abbrev pub standing : Config → ℕ → List ℕ → Phase → List ℕ → Fronting
standing config session scramble phase held = record {
  session = session;
  scramble = scramble;
  phase = phase;
  stream = record { limit = config.command_bytes; held = held; stopped = None };
}

-- what a front says that goes on
pub data Says (config : Config) (front : Fronting) : FrontStep → Type 0 where
  waits : IsAwaited config front → Says config front fronts.Idle
  sends : {packets : List ℕ} → Sent config front packets → Says config front (fronts.Send packets)
  enters : {login : Login} → front.phase ≡ LogsIn login → Says config front (fronts.LoggedIn login)
  commands : {payload rest : List ℕ} {number : ℕ} → front.phase ≡ Commands → begins_with config front 0 ≡ Whole payload number rest
      → Says config front (fronts.Command (record { bytes = payload; next = number }))
  ends : {packets : List ℕ} {reason : CloseReason} → Refused config front packets reason → Says config front (fronts.End packets reason)

-- a login is granted or denied
module _ (config : Config) (front : Fronting) (response : Response) (answer : List ℕ) (number : ℕ) (proved : Proved config front response answer number) where
  by_holder : (holder : Option Account) → account_of config.accounts response.user ≡ holder
      → Says config front (settled (granted_by holder front.scramble answer) response number).0
  by_holder None h = ends (denied proved (rw h refl))
  by_holder (Some account) h = by_stored account.stored refl
    where
      by_answer : (stored : List ℕ) (test : Bool) → is_answer stored front.scramble answer ≡ test → account.stored ≡ Some stored
          → Says config front (settled (granted (Some stored) front.scramble answer) response number).0
      by_answer stored true t s = rw t (sends (ok proved (rw h (rw s t))))
      by_answer stored false t s = rw t (ends (denied proved (rw h (rw s t))))

      empty : (test : Bool) → (length answer == 0) ≡ test → account.stored ≡ None
          → Says config front (settled (granted None front.scramble answer) response number).0
      empty true t s = rw t (sends (ok proved (rw h (rw s t))))
      empty false t s = rw t (ends (denied proved (rw h (rw s t))))

      by_stored : (stored : Option (List ℕ)) → account.stored ≡ stored
          → Says config front (settled (granted stored front.scramble answer) response number).0
      by_stored None s = empty (length answer == 0) refl s
      by_stored (Some stored) s = by_answer stored (is_answer stored front.scramble answer) refl s

  pub settles : Says config front (settled (granted_by (account_of config.accounts response.user) front.scramble answer) response number).0
  settles = by_holder (account_of config.accounts response.user) refl

-- the fault of a front's packets ends it
faulty_says : (config : Config) (front : Fronting) (number : WireFault → ℕ) (fault : WireFault) → Broken config front fault (number fault)
    → Says config front (heard front (λ payload next. (fronts.Idle, Commands)) number (Faulty fault)).0
faulty_says config front number (faults.OutOfOrder want got) broken = ends (out_of_order broken)
faulty_says config front number (faults.TooLarge length) broken = ends (too_large broken)

-- each phase
module _ (config : Config) (session : ℕ) (scramble held : List ℕ) where
  response_says : (found : Beginning) → first_payload config.command_bytes 1 held ≡ found
      → let front = standing config session scramble AwaitsResponse held in
      Says config front (heard front (λ payload next. responded config.accounts scramble (response_in payload) next) (fault_number 1 1) found).0
  response_says Nothing f = waits (for_response refl f)
  response_says (Faulty fault) f = faulty_says config _ (fault_number 1 1) fault (in_response refl f)
  response_says (Whole payload number rest) f = by_response (response_in payload) refl
    where
      its : Responded config (standing config session scramble AwaitsResponse held) payload number
      its = record { awaited = refl; rest = rest; came = f }

      by_plugin : (response : Response) (native : Bool) → response_in payload ≡ Some response → is_native response.plugin ≡ native
          → Says config (standing config session scramble AwaitsResponse held) (responded config.accounts scramble (Some response) number).0
      by_plugin response true r n =
          rw n (settles config (standing config session scramble AwaitsResponse held) response response.answer number (at_once its r n refl))
      by_plugin response false r n = rw n (sends (question its r n))

      by_response : (response : Option Response) → response_in payload ≡ response
          → Says config (standing config session scramble AwaitsResponse held) (responded config.accounts scramble response number).0
      by_response None r = ends (not_spoken its r)
      by_response (Some response) r = by_plugin response (is_native response.plugin) r refl

  answer_says : (response : Response) (asked : ℕ) (found : Beginning) → first_payload config.command_bytes (next_number asked) held ≡ found
      → let front = standing config session scramble (AwaitsAnswer response asked) held in
      Says config front (heard front (λ payload next. settled (granted_by (account_of config.accounts response.user) scramble payload) response next)
      (fault_number asked (next_number asked)) found).0
  answer_says response asked Nothing f = waits (for_answer refl f)
  answer_says response asked (Faulty fault) f =
      faulty_says config _ (fault_number asked (next_number asked)) fault (in_answer refl f)
  answer_says response asked (Whole payload number rest) f =
      settles config (standing config session scramble (AwaitsAnswer response asked) held) response payload number (when_asked refl f)

  command_says : (found : Beginning) → first_payload config.command_bytes 0 held ≡ found
      → let front = standing config session scramble Commands held in
      Says config front (heard front (λ payload next. (fronts.Command (record { bytes = payload; next = next }), Commands)) (λ fault. 1) found).0
  command_says Nothing f = waits (for_command refl f)
  command_says (Faulty fault) f = faulty_says config _ (λ fault. 1) fault (in_commands refl f)
  command_says (Whole payload number rest) f = commands refl f

  by_phase : (phase : Phase) → is_ended phase ≡ false
      → let front = standing config session scramble phase held in Says config front (step_of config.accounts front).0
  by_phase Greets goes = sends (greeting refl)
  by_phase AwaitsResponse goes = response_says (first_payload config.command_bytes 1 held) refl
  by_phase (AwaitsAnswer response asked) goes = answer_says response asked (first_payload config.command_bytes (next_number asked) held) refl
  by_phase (LogsIn login) goes = enters refl
  by_phase Commands goes = command_says (first_payload config.command_bytes 0 held) refl
  by_phase (Ended reason) goes = absurd cc

-- Where a client's front stands in a record

-- its limit is that of the settings, its packets had no fault while it goes on, and a login that it hands out is proved
pub record Steady (config : Config) (front : Fronting) : Type 0 where
  pub limit : front.stream.limit ≡ config.command_bytes
  pub goes : is_ended front.phase ≡ false → front.stream.stopped ≡ None
  pub proved : ForLogin front.phase (λ login. IsProved config.accounts login.user login.stage1)

stands : (config : Config) (session : ℕ) (scramble held : List ℕ) (phase : Phase) (limit : ℕ) (stopped : Option WireFault)
    → limit ≡ config.command_bytes → stopped ≡ None
    → standing config session scramble phase held
    ≡ record { session = session; scramble = scramble; phase = phase; stream = record { limit = limit; held = held; stopped = stopped } }
stands config session scramble held phase limit stopped l s = rw (l, s) refl

pub front_says : (config : Config) (front : Fronting) → Steady config front → is_ended front.phase ≡ false
    → Says config front (step_of config.accounts front).0
front_says config front steady goes =
    subst (λ (its : Fronting). Says config its (step_of config.accounts its).0)
    (stands config front.session front.scramble front.stream.held front.phase front.stream.limit front.stream.stopped steady.limit (steady.goes goes))
    (by_phase config front.session front.scramble front.stream.held front.phase goes)

-- a step keeps it so

module _ (config : Config) (front : Fronting) where
  heard_limit : (reply : List ℕ → ℕ → FrontStep × Phase) (number : WireFault → ℕ) (found : Beginning)
      → (heard front reply number found).1.stream.limit ≡ front.stream.limit
  heard_limit reply number Nothing = refl
  heard_limit reply number (Whole payload next rest) = refl
  heard_limit reply number (Faulty fault) = refl

  heard_goes : (reply : List ℕ → ℕ → FrontStep × Phase) (number : WireFault → ℕ) (found : Beginning) → front.stream.stopped ≡ None
      → is_ended (heard front reply number found).1.phase ≡ false → (heard front reply number found).1.stream.stopped ≡ None
  heard_goes reply number Nothing s goes = s
  heard_goes reply number (Whole payload next rest) s goes = s
  heard_goes reply number (Faulty fault) s goes = absurd cc

abbrev front_of : ℕ → List ℕ → Deframing → Phase → Fronting
front_of session scramble stream phase = record { session = session; scramble = scramble; phase = phase; stream = stream }

module _ (config : Config) (session : ℕ) (scramble : List ℕ) (stream : Deframing) where
  step_limit : (phase : Phase) → (step_of config.accounts (front_of session scramble stream phase)).1.stream.limit ≡ stream.limit
  step_limit Greets = refl
  step_limit AwaitsResponse =
      heard_limit config (front_of session scramble stream AwaitsResponse)
      (λ payload next. responded config.accounts scramble (response_in payload) next) (fault_number 1 1) (next_of stream 1)
  step_limit (AwaitsAnswer response asked) =
      heard_limit config (front_of session scramble stream (AwaitsAnswer response asked))
      (λ payload next. settled (granted_by (account_of config.accounts response.user) scramble payload) response next)
      (fault_number asked (next_number asked)) (next_of stream (next_number asked))
  step_limit (LogsIn login) = refl
  step_limit Commands =
      heard_limit config (front_of session scramble stream Commands)
      (λ payload next. (fronts.Command (record { bytes = payload; next = next }), Commands)) (λ fault. 1) (next_of stream 0)
  step_limit (Ended reason) = refl

  step_goes : (phase : Phase) → (is_ended phase ≡ false → stream.stopped ≡ None)
      → is_ended (step_of config.accounts (front_of session scramble stream phase)).1.phase ≡ false
      → (step_of config.accounts (front_of session scramble stream phase)).1.stream.stopped ≡ None
  step_goes Greets before = λ goes. before refl
  step_goes AwaitsResponse before =
      heard_goes config (front_of session scramble stream AwaitsResponse)
      (λ payload next. responded config.accounts scramble (response_in payload) next) (fault_number 1 1) (next_of stream 1) (before refl)
  step_goes (AwaitsAnswer response asked) before =
      heard_goes config (front_of session scramble stream (AwaitsAnswer response asked))
      (λ payload next. settled (granted_by (account_of config.accounts response.user) scramble payload) response next)
      (fault_number asked (next_number asked)) (next_of stream (next_number asked)) (before refl)
  step_goes (LogsIn login) before = λ goes. before refl
  step_goes Commands before =
      heard_goes config (front_of session scramble stream Commands)
      (λ payload next. (fronts.Command (record { bytes = payload; next = next }), Commands)) (λ fault. 1) (next_of stream 0) (before refl)
  step_goes (Ended reason) before = λ goes. absurd cc

step_steady : (config : Config) (front : Fronting) → Steady config front → Steady config (step_of config.accounts front).1
step_steady config front steady = record {
  limit = step_limit config front.session front.scramble front.stream front.phase ∙ steady.limit;
  goes = step_goes config front.session front.scramble front.stream front.phase steady.goes;
  proved = logins_are_proved config.accounts front;
}

pub steady : (config : Config) (past : List Item) → Steady config (fronted config past)
steady config [] = record { limit = refl; goes = λ goes. refl; proved = tt }
steady config (Accepted session scramble reading ∷ past) = record { limit = refl; goes = λ goes. refl; proved = tt }
steady config (Began link server reading ∷ past) = record { limit = refl; goes = λ goes. refl; proved = tt }
steady config (ClientBytes bytes ∷ past) =
    let below = steady config past in record { limit = below.limit; goes = below.goes; proved = below.proved }
steady config (Connects said ∷ past) = step_steady config (fronted config past) (steady config past)
steady config (Takes judged number ∷ past) = step_steady config (fronted config past) (steady config past)
steady config (TurnsAway told ∷ past) = steady config past
steady config (LinkReady link ∷ past) = steady config past
steady config (LinkBytes link bytes ∷ past) = steady config past
steady config (ClientGone ∷ past) = steady config past
steady config (LinkLost link ∷ past) = steady config past
steady config (Ticks reading ∷ past) = steady config past
steady config (Routed words loads next found ∷ past) = steady config past
steady config (Comes link said ∷ past) = steady config past
steady config (Floods bytes ∷ past) = steady config past
steady config (Puts put ∷ past) = steady config past
steady config (Starves made number ∷ past) = steady config past

-- What comes of the client in a record

pub said_so : (config : Config) (past : List Item) (said : FrontStep) → (step_of config.accounts (fronted config past)).0 ≡ said → IsConnecting said
    → Says config (fronted config past) (step_of config.accounts (fronted config past)).0 → IsSaid config (fronted config past) said
said_so config past said f c its = by_said said c (subst (Says config (fronted config past)) f its)
  where
    by_proof : (login : Login) (phase : Phase) → phase ≡ LogsIn login → ForLogin phase (λ login. IsProved config.accounts login.user login.stage1)
        → IsProved config.accounts login.user login.stage1
    by_proof login phase is proved =
        subst (λ (p : Phase). ForLogin p (λ login. IsProved config.accounts login.user login.stage1)) is proved

    by_said : (said : FrontStep) → IsConnecting said → Says config (fronted config past) said → IsSaid config (fronted config past) said
    by_said said sends_back (sends its) = its
    by_said said lets_in (enters {login = login} is) = (is, by_proof login (fronted config past).phase is (steady config past).proved)
    by_said said ends_it (ends its) = its

pub taken_so : (config : Config) (past : List Item) (payload : Payload) → (step_of config.accounts (fronted config past)).0 ≡ fronts.Command payload
    → Says config (fronted config past) (step_of config.accounts (fronted config past)).0
    → ((fronted config past).phase ≡ Commands) × (rest : List ℕ) × (begins_with config (fronted config past) 0 ≡ Whole payload.bytes payload.next rest)
taken_so config past payload f its = by_said payload (subst (Says config (fronted config past)) f its)
  where
    by_said : (payload : Payload) → Says config (fronted config past) (fronts.Command payload)
        → ((fronted config past).phase ≡ Commands) × (rest : List ℕ) × (begins_with config (fronted config past) 0 ≡ Whole payload.bytes payload.next rest)
    by_said payload (commands {rest = rest} is f) = (is, rest, f)

pub idles_so : (config : Config) (past : List Item) → (step_of config.accounts (fronted config past)).0 ≡ fronts.Idle
    → Says config (fronted config past) (step_of config.accounts (fronted config past)).0 → IsAwaited config (fronted config past)
idles_so config past f its = by_said (subst (Says config (fronted config past)) f its)
  where
    by_said : Says config (fronted config past) fronts.Idle → IsAwaited config (fronted config past)
    by_said (waits its) = its
