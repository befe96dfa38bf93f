-- Bytes that come behind a step change nothing of it.
use Rattle.std.proofs.Common.{◌≡◌, ◌≢◌, ℕ, List, [], ◌∷◌, ◌++◌, Option, Some, None, refl}
use Rattle.rws_wire.specs.Payloads.{Beginning, Nothing, Whole, Faulty, first_payload}
use Rattle.rws_wire.proofs.PayloadLemmas.{first_payload-Whole-append, first_payload-Faulty-append}
use Rattle.rws_config.specs.declared.limits.TheConstants.{SERVER_PAYLOAD}
use Rattle.rws_reply.specs.declared.kind.Progress.{Progress}
use Rattle.rws_reply.specs.declared.kind.Progress.TheVariants.{More, Whole as Ends}
use Rattle.rws_reply.specs.declared.role.Role.{Role}
use Rattle.rws_reply.specs.Tracking.{progress, role}
use Rattle.rws_link.specs.declared.handshake.Reaction.{Reaction}
use Rattle.rws_link.specs.declared.handshake.Reaction.TheVariants.{Answers, Accepted, Loses}
use Rattle.rws_link.specs.declared.step.LinkStep.TheVariants.{Idle, LoggedIn}
use Rattle.rws_link.specs.Handshake.{due, reaction}
use Rattle.rws_link.specs.Stepping.{Exchange, LinkState, LogsIn, Rests, Awaits, IsLost, Step, fed, logged_in, reacted, read_by, replied, replied_by, settled, step}
use Rattle.rws_link.specs.Laws.{LaterBytesChangeNothing, without_behind}

-- a step, and the one that is taken where more bytes came
record Same (more : List ℕ) (before now : Step) : Type 0 where
  pub after : before.answer ≢ Idle → now.after ≡ fed more before.after
  pub told : before.answer ≢ Idle → before.answer ≢ LoggedIn → without_behind now.answer ≡ without_behind before.answer

settled-append : (rest more : List ℕ) → settled (rest ++ more) ≡ fed more (settled rest)
settled-append [] [] = refl
settled-append [] (byte ∷ bytes) = refl
settled-append (byte ∷ bytes) more = refl

logged_same : (rest more : List ℕ) → Same more (logged_in rest) (logged_in (rest ++ more))
logged_same [] [] = record { after = λ _. refl; told = λ _ _. refl }
logged_same [] (byte ∷ bytes) = record { after = λ _. refl; told = λ _ other. absurd (other refl) }
logged_same (byte ∷ bytes) more = record { after = λ _. refl; told = λ _ _. refl }

reacted_same : (reaction : Reaction) (rest more : List ℕ) → Same more (reacted rest reaction) (reacted (rest ++ more) reaction)
reacted_same (Answers bytes stage1 next) rest more = record { after = λ _. refl; told = λ _ _. refl }
reacted_same Accepted rest more = logged_same rest more
reacted_same (Loses cause) rest more = record { after = λ _. refl; told = λ _ _. refl }

replied_same : (e : Exchange) (payload : List ℕ) (next : ℕ) (rest more : List ℕ) (role : Option Role) (progress : Option Progress)
    → Same more (replied_by e payload next rest role progress) (replied_by e payload next (rest ++ more) role progress)
replied_same e payload next rest more (Some role) (Some More) = record { after = λ _. refl; told = λ _ _. refl }
replied_same e payload next rest more (Some role) (Some (Ends outcome)) =
    record { after = λ _. settled-append rest more; told = λ _ _. refl }
replied_same e payload next rest more (Some role) None = record { after = λ _. refl; told = λ _ _. refl }
replied_same e payload next rest more None (Some progress) = record { after = λ _. refl; told = λ _ _. refl }
replied_same e payload next rest more None None = record { after = λ _. refl; told = λ _ _. refl }

-- what bytes begin with, they begin with where more come
read_same : (link longer : LinkState) (on_payload : List ℕ → ℕ → List ℕ → Step) (first : ℕ) (bytes more : List ℕ) (begun : Beginning)
    → first_payload SERVER_PAYLOAD first bytes ≡ begun
    → ((payload : List ℕ) (next : ℕ) (rest : List ℕ) → Same more (on_payload payload next rest) (on_payload payload next (rest ++ more)))
    → Same more (read_by link on_payload begun) (read_by longer on_payload (first_payload SERVER_PAYLOAD first (bytes ++ more)))
read_same link longer on_payload first bytes more Nothing begins same =
    record { after = λ other. absurd (other refl); told = λ other _. absurd (other refl) }
read_same link longer on_payload first bytes more (Whole payload next rest) begins same =
    rw (first_payload-Whole-append SERVER_PAYLOAD first bytes more payload next rest begins) (same payload next rest)
read_same link longer on_payload first bytes more (Faulty fault) begins same =
    rw (first_payload-Faulty-append SERVER_PAYLOAD first bytes more fault begins) (record { after = λ _. refl; told = λ _ _. refl })

step_same : (link : LinkState) (more : List ℕ) → Same more (step link) (step (fed more link))
step_same (LogsIn handshake unread) more =
    read_same (LogsIn handshake unread) (LogsIn handshake (unread ++ more)) (λ payload next rest. reacted rest (reaction handshake payload next))
    (due handshake) unread more (first_payload SERVER_PAYLOAD (due handshake) unread) refl
    (λ payload next rest. reacted_same (reaction handshake payload next) rest more)
step_same Rests more = record { after = λ other. absurd (other refl); told = λ other _. absurd (other refl) }
step_same (Awaits e unread) more =
    read_same (Awaits e unread) (Awaits e (unread ++ more)) (replied e) e.next unread more (first_payload SERVER_PAYLOAD e.next unread) refl
    (λ payload next rest. replied_same e payload next rest more (role e.kind e.sofar payload) (progress e.kind e.sofar payload))
step_same (IsLost cause) more = record { after = λ _. refl; told = λ _ _. refl }

pub later_bytes : (link : LinkState) (more : List ℕ) → LaterBytesChangeNothing link more
later_bytes link more = let same = step_same link more in record { after = same.after; told = same.told }
