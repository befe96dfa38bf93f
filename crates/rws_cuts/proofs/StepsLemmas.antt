-- A link that goes on waiting, or is lost: what its steps leave of it, and that more bytes change nothing of them.
use Rattle.std.proofs.Common.{◌≡◌, ℕ, Bool, true, false, List, refl, sym, ap, ◌∙◌, inl, inr, Option, Some, None}
use Rattle.std.specs.Prelude.{◌≢◌, ◌⊎◌}
use Rattle.rws_reply.specs.declared.kind.Progress.{Progress}
use Rattle.rws_reply.specs.declared.kind.Progress.TheVariants.{More}
use Rattle.rws_reply.specs.declared.role.Role.{Role}
use Rattle.rws_reply.specs.Tracking.{role}
use Rattle.rws_link.specs.declared.step.LinkCause.{LinkCause}
use Rattle.rws_link.specs.declared.step.LinkCause.TheVariants.{BadReply}
use Rattle.rws_link.specs.declared.step.LinkStep.{LinkStep}
use Rattle.rws_link.specs.declared.step.LinkStep.TheVariants as steps
use Rattle.rws_link.specs.Stepping.{Exchange, LinkState, LogsIn, Rests, Awaits, IsLost, fed, replied_by, step}
use Rattle.rws_link.specs.Laws.{without_behind}
use Rattle.rws_link.proofs.LaterLemmas.{later_bytes}
use Rattle.rws_record.specs.Rules.{is_ready}
use Rattle.rws_record.proofs.LinkedLemmas.{Says, says}
use Rattle.rws_record.proofs.LinkedLemmas.Says.{answers, hurries, fails, breaks, part, garbled, wrong, again}

-- it logs in, or awaits a reply
abbrev pub is_lively : LinkState → Bool
is_lively (LogsIn handshake unread) = true
is_lively Rests = false
is_lively (Awaits e unread) = true
is_lively (IsLost cause) = false

pub lively_not_ready : (link : LinkState) → is_lively link ≡ true → is_ready link ≡ false
lively_not_ready (LogsIn handshake unread) l = refl
lively_not_ready Rests l = absurd cc
lively_not_ready (Awaits e unread) l = refl
lively_not_ready (IsLost cause) l = absurd cc

pub lively_fed : (more : List ℕ) (link : LinkState) → is_lively link ≡ true → is_lively (fed more link) ≡ true
lively_fed more (LogsIn handshake unread) l = refl
lively_fed more Rests l = absurd cc
lively_fed more (Awaits e unread) l = refl
lively_fed more (IsLost cause) l = absurd cc

-- What a step leaves

by_send : {link : LinkState} {packets : List ℕ} → Says link (steps.Send packets) → is_lively (step link).after ≡ true
by_send (answers f r) = rw (f, r) refl

by_part : {link : LinkState} {payload : List ℕ} {its : Role} {next : ℕ} {behind : Bool} → Says link (steps.Part payload its More next behind)
    → is_lively (step link).after ≡ true
by_part (part f r p) = rw (f, r, p) refl

by_role : (e : Exchange) (payload rest : List ℕ) (number : ℕ) (its : Option Role) → (replied_by e payload number rest its None).after ≡ IsLost BadReply
by_role e payload rest number None = refl
by_role e payload rest number (Some its) = refl

by_lost : {link : LinkState} {cause : LinkCause} → Says link (steps.Lost cause) → (step link).after ≡ IsLost cause
by_lost (hurries f r) = rw (f, r) refl
by_lost (fails f r) = rw (f, r) refl
by_lost (breaks f) = rw f refl
by_lost (garbled f) = rw f refl
by_lost (wrong {e = e} {payload = payload} {rest = rest} {number = number} f p) =
    rw (f, p) (by_role e payload rest number (role e.kind e.sofar payload))
by_lost again = refl

says_it : (link : LinkState) (said : LinkStep) → said ≢ steps.Idle → (said ≡ steps.Idle) ⊎ Says link said → Says link said
says_it link said some (inl idle) = absurd (some idle)
says_it link said some (inr it) = it

-- What comes where more bytes came

-- the same, but for the bytes behind a part
pub send_later : (link : LinkState) (more packets : List ℕ) → (step link).answer ≡ steps.Send packets → (step (fed more link)).answer ≡ steps.Send packets
send_later link more packets a =
    by_answer (step (fed more link)).answer
    ((later_bytes link more).told (λ idle. let clash : steps.Send packets ≡ steps.Idle = sym a ∙ idle in absurd cc)
    (λ entered. let clash : steps.Send packets ≡ steps.LoggedIn = sym a ∙ entered in absurd cc) ∙ ap without_behind a)
  where
    by_answer : (said : LinkStep) → without_behind said ≡ steps.Send packets → said ≡ steps.Send packets
    by_answer steps.Idle e = e
    by_answer (steps.Send other) e = e
    by_answer steps.LoggedIn e = e
    by_answer (steps.Part payload its progress next behind) e = absurd cc
    by_answer (steps.Lost cause) e = e

pub lost_later : (link : LinkState) (more : List ℕ) (cause : LinkCause) → (step link).answer ≡ steps.Lost cause
    → (step (fed more link)).answer ≡ steps.Lost cause
lost_later link more cause a =
    by_answer (step (fed more link)).answer
    ((later_bytes link more).told (λ idle. let clash : steps.Lost cause ≡ steps.Idle = sym a ∙ idle in absurd cc)
    (λ entered. let clash : steps.Lost cause ≡ steps.LoggedIn = sym a ∙ entered in absurd cc) ∙ ap without_behind a)
  where
    by_answer : (said : LinkStep) → without_behind said ≡ steps.Lost cause → said ≡ steps.Lost cause
    by_answer steps.Idle e = e
    by_answer (steps.Send other) e = e
    by_answer steps.LoggedIn e = e
    by_answer (steps.Part payload its progress next behind) e = absurd cc
    by_answer (steps.Lost other) e = e

abbrev with_behind : Bool → LinkStep → LinkStep
with_behind behind (steps.Part payload its progress next other) = steps.Part payload its progress next behind
with_behind behind said = said

-- a part, with bytes behind it or none
pub part_later : (link : LinkState) (more payload : List ℕ) (its : Role) (progress : Progress) (next : ℕ) (behind : Bool)
    → (step link).answer ≡ steps.Part payload its progress next behind
    → (then : Bool) × ((step (fed more link)).answer ≡ steps.Part payload its progress next then)
part_later link more payload its progress next behind a =
    by_answer (step (fed more link)).answer
    ((later_bytes link more).told (λ idle. let clash : steps.Part payload its progress next behind ≡ steps.Idle = sym a ∙ idle in absurd cc)
    (λ entered. let clash : steps.Part payload its progress next behind ≡ steps.LoggedIn = sym a ∙ entered in absurd cc) ∙ ap without_behind a)
  where
    by_answer : (said : LinkStep) → without_behind said ≡ steps.Part payload its progress next false
        → (then : Bool) × (said ≡ steps.Part payload its progress next then)
    by_answer steps.Idle e = absurd cc
    by_answer (steps.Send other) e = absurd cc
    by_answer steps.LoggedIn e = absurd cc
    by_answer (steps.Part also part_role far number then) e = (then, ap (with_behind then) e)
    by_answer (steps.Lost other) e = absurd cc

-- and it leaves the link as the step does without them, with the bytes behind

pub after_later : (link : LinkState) (more : List ℕ) (said : LinkStep) → (step link).answer ≡ said → said ≢ steps.Idle
    → (step (fed more link)).after ≡ fed more (step link).after
after_later link more said a some = (later_bytes link more).after (λ idle. some (sym a ∙ idle))

pub send_lively : (link : LinkState) (packets : List ℕ) → (step link).answer ≡ steps.Send packets → is_lively (step link).after ≡ true
send_lively link packets a = by_send (says_it link (steps.Send packets) (λ e. absurd cc) (says link (steps.Send packets) a))

pub part_lively : (link : LinkState) (payload : List ℕ) (its : Role) (next : ℕ) (behind : Bool) → (step link).answer ≡ steps.Part payload its More next behind
    → is_lively (step link).after ≡ true
part_lively link payload its next behind a =
    by_part (says_it link (steps.Part payload its More next behind) (λ e. absurd cc) (says link (steps.Part payload its More next behind) a))

pub lost_so : (link : LinkState) (cause : LinkCause) → (step link).answer ≡ steps.Lost cause → (step link).after ≡ IsLost cause
lost_so link cause a = by_lost (says_it link (steps.Lost cause) (λ e. absurd cc) (says link (steps.Lost cause) a))
