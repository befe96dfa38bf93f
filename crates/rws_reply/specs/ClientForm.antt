-- The form of a reply for the proxy's client, which doesn't track the session's state and knows a prepared statement by a
-- number of its own, the handle.
use Rattle.std.specs.Prelude.{◌≡◌, ℕ, ◌<◌, ◌^◌, Bool, false, true, List, [], ◌∷◌, ◌++◌, Option, Some, None, Result, Ok, Err, bit_and}
use Rattle.std.specs.List.{AllByRecursion}
use Rattle.rws_wire.specs.Numbers.{AreBytes}
use Rattle.rws_msgs.specs.declared.fault.MsgFault.{MsgFault}
use Rattle.rws_msgs.specs.OkLayout.{ok_at, ok_bytes}
use Rattle.rws_msgs.specs.PrepareOkLayout.{prepare_ok_at, prepare_ok_bytes}
use Rattle.rws_track.specs.Client as track
use Rattle.rws_reply.specs.declared.kind.Kind.{Kind}
use Rattle.rws_reply.specs.declared.kind.Outcome.{Outcome}
use Rattle.rws_reply.specs.declared.kind.Outcome.TheVariants.{Done, Failed}
use Rattle.rws_reply.specs.declared.role.Role.{Role}
use Rattle.rws_reply.specs.declared.role.Role.TheVariants as roles
use Rattle.rws_reply.specs.Replies.{Payload, IsReply}
use Rattle.rws_reply.specs.Tracking.{role}

-- the message that was read, written anew; a payload that isn't one stays
abbrev pub rewritten : {A : Type 0} → Payload → (A → Payload) → Result A MsgFault → Payload
rewritten payload write (Ok message) = write message
rewritten payload write (Err fault) = payload

-- an OK without the session's state
unfoldable pub client_ok : Payload → Payload
client_ok payload = rewritten payload (λ ok. ok_bytes false (track.client_form ok)) (ok_at true payload)

-- a prepared statement under its handle
unfoldable pub client_prepared : ℕ → Payload → Payload
client_prepared handle payload = rewritten payload (λ ok. prepare_ok_bytes (record ok { id = handle })) (prepare_ok_at payload)

-- every other payload stays as it is
unfoldable pub client_form : Role → ℕ → Payload → Payload
client_form roles.Ok handle payload = client_ok payload
client_form roles.Prepared handle payload = client_prepared handle payload
client_form roles.Err handle payload = payload
client_form roles.Count handle payload = payload
client_form roles.Definition handle payload = payload
client_form roles.Eof handle payload = payload
client_form roles.Row handle payload = payload

-- what has such a role is written anew
abbrev pub is_rewritten : Role → Bool
is_rewritten roles.Ok = true
is_rewritten roles.Prepared = true
is_rewritten roles.Err = false
is_rewritten roles.Count = false
is_rewritten roles.Definition = false
is_rewritten roles.Eof = false
is_rewritten roles.Row = false

abbrev pub in_role : Option Role → ℕ → Payload → Payload
in_role (Some role) handle payload = client_form role handle payload
in_role None handle payload = payload

-- payloads that follow these of a reply
abbrev pub client_forms : Kind → ℕ → List Payload → List Payload → List Payload
client_forms kind handle [] before = []
client_forms kind handle (payload ∷ others) before =
    in_role (role kind before payload) handle payload ∷ client_forms kind handle others (before ++ payload ∷ [])

-- the payloads of a reply, each in its form for the client
unfoldable pub client_reply : Kind → ℕ → List Payload → List Payload
client_reply kind handle payloads = client_forms kind handle payloads []

-- how a reply ended, but for 0x4000 of the status
abbrev pub without_state : Outcome → Outcome
without_state (Done status) = Done (bit_and status 0xBFFF)
without_state (Failed code) = Failed code

-- the client's form of a whole reply is a whole reply of its kind that ended so, but for 0x4000
abbrev pub ClientRepliesAreReplies : Type 0
ClientRepliesAreReplies =
    (kind : Kind) (handle : ℕ) (payloads : List Payload) (out : Outcome) → handle < 2 ^ 32 → AllByRecursion AreBytes payloads
    → IsReply kind payloads out
    → (seen : Outcome) × IsReply kind (client_reply kind handle payloads) seen × (without_state seen ≡ without_state out)

-- payload by payload
abbrev pub ClientRepliesGrow : Type 0
ClientRepliesGrow =
    (kind : Kind) (handle : ℕ) (payloads : List Payload) (payload : Payload)
    → client_reply kind handle (payloads ++ payload ∷ []) ≡ client_reply kind handle payloads ++ in_role (role kind payloads payload) handle payload ∷ []
