-- What `progress` and `role` mean in the terms of the grammar.
use Rattle.std.specs.Prelude.{◌≡◌, ◌≢◌, ◌↔◌, List, [], ◌∷◌, ◌++◌, length, Some, None, slice_get}
use Rattle.rws_reply.specs.declared.kind.Kind.{Kind}
use Rattle.rws_reply.specs.declared.kind.Outcome.{Outcome}
use Rattle.rws_reply.specs.declared.kind.Progress.TheVariants.{More, Whole}
use Rattle.rws_reply.specs.Replies.{Payload, IsReply, Begins}
use Rattle.rws_reply.specs.Roles.{roles_of}
use Rattle.rws_reply.specs.Tracking.{progress, role}

-- what is said at a payload, of all that came up to it
pub record ProgressIsExact (kind : Kind) (payloads : List Payload) (payload : Payload) : Type 0 where
  -- they are a whole reply that ended so
  pub whole : (out : Outcome) → (progress kind payloads payload ≡ Some (Whole out))
      ↔ IsReply kind (payloads ++ payload ∷ []) out
  -- they begin a reply and more of it comes
  pub more : (progress kind payloads payload ≡ Some More) ↔ Begins kind (payloads ++ payload ∷ [])
  -- neither
  pub bad : progress kind payloads payload ≡ None
      → ¬ Begins kind (payloads ++ payload ∷ []) × ((out : Outcome) → ¬ IsReply kind (payloads ++ payload ∷ []) out)
  -- nothing comes behind a whole reply or a bad one
  pub last : progress kind payloads payload ≢ Some More → (next : Payload) → progress kind (payloads ++ payload ∷ []) next ≡ None

-- what a payload of a reply is said to be
pub record RoleIsExact (kind : Kind) (payloads : List Payload) (payload : Payload) : Type 0 where
  -- the role of its place, in each whole reply that it is a part of
  pub told : (behind : List Payload) (out : Outcome) (reply : IsReply kind (payloads ++ payload ∷ behind) out)
      → role kind payloads payload ≡ slice_get (roles_of kind (payloads ++ payload ∷ behind) out reply) (length payloads)
  -- nothing where it is part of none
  pub bad : (role kind payloads payload ≡ None) ↔ (progress kind payloads payload ≡ None)
