-- What holds of every login and of every link.
use Rattle.std.specs.Prelude.{◌≡◌, ◌≢◌, ℕ, ◌<◌, ◌^◌, false, List, ◌++◌, IfSome, Ok}
use Rattle.rws_msgs.specs.Fields.{HasNoZero}
use Rattle.rws_msgs.specs.ResponseLayout.{response_at, response_bytes}
use Rattle.rws_native.specs.declared.login.Login.{Login}
use Rattle.rws_link.specs.Handshake.{response_of}
use Rattle.rws_link.specs.declared.step.LinkStep.{LinkStep}
use Rattle.rws_link.specs.declared.step.LinkStep.TheVariants.{Idle, LoggedIn, Part}
use Rattle.rws_link.specs.Stepping.{LinkState, fed, step}

-- a login that can be spelled
pub record IsLogin (login : Login) : Type 0 where
  pub user : HasNoZero login.user
  pub database : IfSome login.database HasNoZero
  pub flags : login.flags < 2 ^ 32

-- the response that is sent is read as the one that was meant
abbrev pub LoginsAreRead : Type 0
LoginsAreRead =
    (login : Login) (scramble : List ℕ) → IsLogin login
    → response_at (response_bytes (response_of login scramble)) ≡ Ok (response_of login scramble)

-- pieces that are fed one behind the other leave a link as one piece does
abbrev pub PiecesAreJoined : Type 0
PiecesAreJoined = (link : LinkState) (piece more : List ℕ) → fed more (fed piece link) ≡ fed (piece ++ more) link

-- an answer, but for what is said of bytes behind a part
abbrev pub without_behind : LinkStep → LinkStep
without_behind (Part payload role progress next behind) = Part payload role progress next false
without_behind answer = answer

-- A step that is to come is the same where more bytes come before it is taken. A login alone is none where they are bytes
-- that nobody asked for.
pub record LaterBytesChangeNothing (link : LinkState) (more : List ℕ) : Type 0 where
  pub after : (step link).answer ≢ Idle → (step (fed more link)).after ≡ fed more (step link).after
  pub told : (step link).answer ≢ Idle → (step link).answer ≢ LoggedIn
      → without_behind (step (fed more link)).answer ≡ without_behind (step link).answer
