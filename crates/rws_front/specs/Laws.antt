-- What all steps of a front have in common.
use Rattle.std.specs.Prelude.{◌≡◌, ℕ, zero, suc, ◌*◌, ◌<◌, List, [], length, Contains, Option, Some, None}
use Rattle.sha1.specs.Sha1.{sha1}
use Rattle.rws_wire.specs.declared.close_reason.CloseReason.{CloseReason}
use Rattle.rws_wire.specs.declared.fault.WireFault.{WireFault}
use Rattle.rws_wire.specs.declared.payload.Payload.{Payload}
use Rattle.rws_wire.specs.Packets.{full_packet}
use Rattle.rws_wire.specs.Payloads.{Beginning, Faulty}
use Rattle.rws_wire.specs.Beginnings.{due, Begins, whole, other_number, too_large, short_header, short_packet}
use Rattle.rws_msgs.specs.declared.response.Response.{Response}
use Rattle.rws_native.specs.declared.login.Login.{Login}
use Rattle.rws_config.specs.declared.account.Account.{Account}
use Rattle.rws_native.specs.Native.{answer_of}
use Rattle.rws_front.specs.declared.access.Access.TheVariants.{Granted}
use Rattle.rws_front.specs.declared.phase.Phase.{Phase}
use Rattle.rws_front.specs.declared.phase.Phase.TheVariants.{Greets, AwaitsResponse, AwaitsAnswer, LogsIn, Commands, Ended}
use Rattle.rws_front.specs.declared.step.FrontStep.{FrontStep}
use Rattle.rws_front.specs.declared.step.FrontStep.TheVariants.{Idle, Send, LoggedIn, Command, End}
use Rattle.rws_front.specs.Accesses.{account_of, access_of}
use Rattle.rws_front.specs.Fronting.{Fronting, fed}
use Rattle.rws_front.specs.Connection.{fault_number, step_of}

-- ---- the order of steps

-- bytes of the client are awaited
abbrev pub IsHearing : Phase → Type 0
IsHearing Greets = ⊥
IsHearing AwaitsResponse = Unit {0}
IsHearing (AwaitsAnswer response asked) = Unit {0}
IsHearing (LogsIn login) = ⊥
IsHearing Commands = Unit {0}
IsHearing (Ended reason) = ⊥

-- The steps that there are, each between two phases: a front greets once, asks for another answer at most once, says OK and
-- hands out the login once, one directly after the other, and then hands out commands. It ends where it hears bytes, and then says nothing new.
pub data Moves : Phase → FrontStep → Phase → Type 0 where
  greets : (greeting : List ℕ) → Moves Greets (Send greeting) AwaitsResponse
  asks : (switch : List ℕ) (response : Response) (asked : ℕ) → Moves AwaitsResponse (Send switch) (AwaitsAnswer response asked)
  accepts : (ok : List ℕ) (login : Login) → Moves AwaitsResponse (Send ok) (LogsIn login)
  accepts_answer : (response : Response) (asked : ℕ) (ok : List ℕ) (login : Login)
      → Moves (AwaitsAnswer response asked) (Send ok) (LogsIn login)
  logs_in : (login : Login) → Moves (LogsIn login) (LoggedIn login) Commands
  commands : (command : Payload) → Moves Commands (Command command) Commands
  idles : (phase : Phase) → IsHearing phase → Moves phase Idle phase
  ends : (phase : Phase) (error : List ℕ) (reason : CloseReason) → IsHearing phase → Moves phase (End error reason) (Ended reason)
  has_ended : (reason : CloseReason) → Moves (Ended reason) (End [] reason) (Ended reason)

abbrev pub StepsAreMoves : Type 0
StepsAreMoves = (accounts : List Account) (front : Fronting)
    → Moves front.phase (step_of accounts front).0 (step_of accounts front).1.phase

-- ---- who logs in

-- What is kept of a login proves the password whose stored value this is: of an empty one, for which nothing is stored, there is
-- nothing, and of any other the first stage, whose digest is stored.
abbrev pub Proves : Option (List ℕ) → Option (List ℕ) → Type 0
Proves None None = Unit {0}
Proves None (Some stage1) = ⊥
Proves (Some stored) None = ⊥
Proves (Some stored) (Some stage1) = sha1 stage1 ≡ stored

-- an account of the user is there, and its password was proved
pub record IsProved (accounts : List Account) (name : List ℕ) (proof : Option (List ℕ)) : Type 0 where
  pub account : Account
  pub listed : Contains accounts account
  pub user : account.user ≡ name
  pub stage1 : Proves account.stored proof

-- of a login that is to be handed out
abbrev pub ForLogin : Phase → (Login → Type 0) → Type 0
ForLogin Greets P = Unit {0}
ForLogin AwaitsResponse P = Unit {0}
ForLogin (AwaitsAnswer response asked) P = Unit {0}
ForLogin (LogsIn login) P = P login
ForLogin Commands P = Unit {0}
ForLogin (Ended reason) P = Unit {0}

abbrev pub LoginsAreProved : Type 0
LoginsAreProved = (accounts : List Account) (front : Fronting)
    → ForLogin (step_of accounts front).1.phase (λ login. IsProved accounts login.user login.stage1)

-- Who knows the first stage of the password of the user's account, 20 bytes, is granted the login by the answer that the plugin makes
-- of it.
abbrev pub AnswersAreGranted : Type 0
AnswersAreGranted =
    (accounts : List Account) (account : Account) (user stage1 scramble : List ℕ) → length stage1 ≡ 20
    → account_of accounts user ≡ Some account → account.stored ≡ Some (sha1 stage1)
    → access_of accounts user scramble (answer_of stage1 scramble) ≡ Granted (Some stage1)

-- ---- pieces

-- A step and the one in its place when more bytes come: they are the same, and the new bytes are held behind those that were.
-- Of a front that waits for bytes nothing is said.
abbrev pub IsSame : List ℕ → FrontStep × Fronting → FrontStep × Fronting → Type 0
IsSame more (Idle, new) then = Unit {0}
IsSame more (step, new) then = then ≡ (step, fed new more)

abbrev pub StepsAreKept : Type 0
StepsAreKept = (accounts : List Account) (front : Fronting) (more : List ℕ)
    → IsSame more (step_of accounts front) (step_of accounts (fed front more))

-- ---- the numbers of errors

-- how many full packets stand whole and in order in front of what bytes begin with there
abbrev pub full_before : {limit first : ℕ} {bytes : List ℕ} {beginning : Beginning} → Begins limit first bytes beginning → ℕ
full_before (whole payload rest spelled within) = 0
full_before (other_number full announced got rest leads other) = full
full_before (too_large full announced rest leads low large) = full
full_before (short_header full rest leads short) = full
full_before (short_packet full announced rest leads low within short) = full

-- the number behind the last packet that came, which was the last of so many full ones, or one before them
abbrev pub behind_full : ℕ → ℕ → ℕ → ℕ
behind_full behind first zero = behind
behind_full behind first (suc full) = due first (suc full)

abbrev pub ErrorsAreNumbered : Type 0
ErrorsAreNumbered =
    (limit behind first : ℕ) (bytes : List ℕ) (fault : WireFault) → limit < 256 * full_packet → first < 256
    → (begins : Begins limit first bytes (Faulty fault)) → fault_number behind first fault ≡ behind_full behind first (full_before begins)
