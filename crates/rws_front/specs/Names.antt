-- The names of a login, its user and its database, have no zero byte: so they can be sent on in a response of one's own.
use Rattle.std.specs.Prelude.{ℕ, List, Option, Some, None, IfSome}
use Rattle.rws_msgs.specs.Fields.{HasNoZero}
use Rattle.rws_msgs.specs.declared.response.Response.{Response}
use Rattle.rws_front.specs.declared.phase.Phase.{Phase}
use Rattle.rws_front.specs.declared.phase.Phase.TheVariants.{Greets, AwaitsResponse, AwaitsAnswer, LogsIn, Commands, Ended}
use Rattle.rws_front.specs.declared.step.FrontStep.{FrontStep}
use Rattle.rws_front.specs.declared.step.FrontStep.TheVariants.{Idle, Send, LoggedIn, Command, End}

abbrev pub AreNames : List ℕ → Option (List ℕ) → Type 0
AreNames user database = HasNoZero user × IfSome database HasNoZero

-- of a response, if there is one
abbrev pub IsNamedResponse : Option Response → Type 0
IsNamedResponse None = Unit {0}
IsNamedResponse (Some response) = AreNames response.user response.database

-- of the response that a phase keeps, or the login
abbrev pub IsNamedPhase : Phase → Type 0
IsNamedPhase Greets = Unit {0}
IsNamedPhase AwaitsResponse = Unit {0}
IsNamedPhase (AwaitsAnswer response asked) = AreNames response.user response.database
IsNamedPhase (LogsIn login) = AreNames login.user login.database
IsNamedPhase Commands = Unit {0}
IsNamedPhase (Ended reason) = Unit {0}

-- of the login that a step hands out
abbrev pub IsNamed : FrontStep → Type 0
IsNamed Idle = Unit {0}
IsNamed (Send bytes) = Unit {0}
IsNamed (LoggedIn login) = AreNames login.user login.database
IsNamed (Command payload) = Unit {0}
IsNamed (End bytes reason) = Unit {0}
