-- What is said of a reply payload by payload, as functions of the payloads that came. `law.rt` says of them, in the terms of
-- the grammar, when each answer comes.
use Rattle.std.specs.Prelude.{List, [], ◌∷◌, ◌++◌, Option, Some, None}
use Rattle.rws_reply.specs.declared.kind.Kind.{Kind}
use Rattle.rws_reply.specs.declared.kind.Progress.{Progress}
use Rattle.rws_reply.specs.declared.kind.Progress.TheVariants.{More, Whole}
use Rattle.rws_reply.specs.declared.awaits.Awaits.{Awaits}
use Rattle.rws_reply.specs.declared.role.Role.{Role}
use Rattle.rws_reply.specs.Replies.{Payload}
use Rattle.rws_reply.specs.Machine.{Standing, Ended, Waits, Stuck, run, first, role_in}

abbrev pub progress_of : Standing → Option Progress
progress_of (Waits awaits) = Some More
progress_of (Ended out) = Some (Whole out)
progress_of Stuck = None

-- how far a reply of this kind has come with this payload behind these; None where they begin no reply
unfoldable pub progress : Kind → List Payload → Payload → Option Progress
progress kind payloads payload = progress_of (run (payloads ++ payload ∷ []) (first kind))

-- what a tracker is to those who hold one; they need not look inside
abbrev pub Tracked : Type 0
Tracked = Option Awaits

abbrev pub waiting : Standing → Tracked
waiting (Waits awaits) = Some awaits
waiting (Ended out) = None
waiting Stuck = None

-- a tracker for a reply of this kind that has taken these payloads
unfoldable pub tracked : Kind → List Payload → Tracked
tracked kind payloads = waiting (run payloads (first kind))

-- what this payload is behind these; None where they begin no reply
unfoldable pub role : Kind → List Payload → Payload → Option Role
role kind payloads payload = role_in (waiting (run payloads (first kind))) payload
