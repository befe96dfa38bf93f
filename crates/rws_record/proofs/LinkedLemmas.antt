-- What a link of a session says, and what it was asked.
use Rattle.std.proofs.Common.{◌≡◌, ℕ, Bool, true, false, List, [], ◌∷◌, refl, sym, ap, subst, ◌∙◌, inl, inr, Option, Some, None}
use Rattle.std.specs.Prelude.{◌⊎◌, ◌==◌, if◌then◌else◌}
use Rattle.rws_wire.specs.declared.fault.WireFault.{WireFault}
use Rattle.rws_wire.specs.Payloads.{Beginning, first_payload}
use Rattle.rws_wire.specs.Payloads.Beginning.{Nothing, Whole, Faulty}
use Rattle.rws_reply.specs.declared.kind.Kind.{Kind}
use Rattle.rws_reply.specs.declared.kind.Progress.{Progress}
use Rattle.rws_reply.specs.declared.kind.Progress.TheVariants.{More, Whole as Ends}
use Rattle.rws_reply.specs.declared.role.Role.{Role}
use Rattle.rws_reply.specs.Tracking.{role, progress}
use Rattle.rws_reply.proofs.RoleLemmas.{role_is_exact}
use Rattle.rws_config.specs.declared.limits.TheConstants.{SERVER_PAYLOAD}
use Rattle.rws_link.specs.declared.step.LinkCause.{LinkCause}
use Rattle.rws_link.specs.declared.step.LinkCause.TheVariants.{BadWire, BadReply, Unasked}
use Rattle.rws_link.specs.declared.step.LinkStep.{LinkStep}
use Rattle.rws_link.specs.declared.step.LinkStep.TheVariants as steps
use Rattle.rws_native.specs.declared.login.Login.{Login}
use Rattle.rws_link.specs.declared.handshake.Handshake.{Handshake}
use Rattle.rws_link.specs.declared.handshake.Reaction.{Reaction}
use Rattle.rws_link.specs.declared.handshake.Reaction.TheVariants.{Answers, Accepted, Loses}
use Rattle.rws_link.specs.Handshake.{due, reaction}
use Rattle.rws_link.specs.Stepping.{LinkState, LogsIn, Rests, Awaits, IsLost, Exchange, Step, fed, is_new, logged_in, opened as opening, reacted, step, settled, behind_part, with_part, replied, replied_by, read_by, is_some_byte}
use Rattle.rws_record.specs.Item.{Item, Purpose}
use Rattle.rws_record.specs.Item.Item.{Accepted, TurnsAway, Began, ClientBytes, LinkReady, LinkBytes, ClientGone, LinkLost, Ticks, Routed, Comes, Connects, Takes, Floods, Puts, Starves}
use Rattle.rws_record.specs.Item.Put.{Hands, Tells, Records, Routes, Opens, LogsInto, Sends, Forgets, Drops, Closes}
use Rattle.rws_record.specs.Values.{asked_on, linked, sent_all, sent_for, kind_of}

-- what a link says that says something
pub data Says : LinkState → LinkStep → Type 0 where
  -- in its login
  answers : {handshake : Handshake} {unread payload rest bytes : List ℕ} {number next : ℕ} {stage1 : Option (List ℕ)}
      → first_payload SERVER_PAYLOAD (due handshake) unread ≡ Whole payload number rest
      → reaction handshake payload number ≡ Answers bytes stage1 next → Says (LogsIn handshake unread) (steps.Send bytes)
  enters : {handshake : Handshake} {unread payload : List ℕ} {number : ℕ}
      → first_payload SERVER_PAYLOAD (due handshake) unread ≡ Whole payload number []
      → reaction handshake payload number ≡ Accepted → Says (LogsIn handshake unread) steps.LoggedIn
  hurries : {handshake : Handshake} {unread payload rest : List ℕ} {byte number : ℕ}
      → first_payload SERVER_PAYLOAD (due handshake) unread ≡ Whole payload number (byte ∷ rest)
      → reaction handshake payload number ≡ Accepted → Says (LogsIn handshake unread) (steps.Lost Unasked)
  fails : {handshake : Handshake} {unread payload rest : List ℕ} {number : ℕ} {cause : LinkCause}
      → first_payload SERVER_PAYLOAD (due handshake) unread ≡ Whole payload number rest
      → reaction handshake payload number ≡ Loses cause → Says (LogsIn handshake unread) (steps.Lost cause)
  breaks : {handshake : Handshake} {unread : List ℕ} {fault : WireFault}
      → first_payload SERVER_PAYLOAD (due handshake) unread ≡ Faulty fault → Says (LogsIn handshake unread) (steps.Lost BadWire)
  -- behind it
  part : {e : Exchange} {unread payload rest : List ℕ} {number : ℕ} {its : Role} {far : Progress}
      → first_payload SERVER_PAYLOAD e.next unread ≡ Whole payload number rest
      → role e.kind e.sofar payload ≡ Some its → progress e.kind e.sofar payload ≡ Some far
      → Says (Awaits e unread) (steps.Part payload its far number (is_some_byte rest))
  garbled : {e : Exchange} {unread : List ℕ} {fault : WireFault} → first_payload SERVER_PAYLOAD e.next unread ≡ Faulty fault
      → Says (Awaits e unread) (steps.Lost BadWire)
  wrong : {e : Exchange} {unread payload rest : List ℕ} {number : ℕ}
      → first_payload SERVER_PAYLOAD e.next unread ≡ Whole payload number rest → progress e.kind e.sofar payload ≡ None
      → Says (Awaits e unread) (steps.Lost BadReply)
  again : {cause : LinkCause} → Says (IsLost cause) (steps.Lost cause)

-- a payload has a role exactly where it brings the reply on
progress_too : (e : Exchange) (payload : List ℕ) → role e.kind e.sofar payload ≡ None → progress e.kind e.sofar payload ≡ None
progress_too e payload none = (role_is_exact e.kind e.sofar payload).bad.0 none

-- a link that awaits a payload: the first of its bytes make it say something, or nothing yet
module _ (e : Exchange) (unread : List ℕ) where
  by_reply : (payload rest : List ℕ) (number : ℕ) (its : Option Role) (far : Option Progress) (said : LinkStep)
      → first_payload SERVER_PAYLOAD e.next unread ≡ Whole payload number rest → role e.kind e.sofar payload ≡ its
      → progress e.kind e.sofar payload ≡ far → (replied_by e payload number rest its far).answer ≡ said
      → Says (Awaits e unread) said
  by_reply payload rest number (Some its) (Some far) said f r p a = subst (Says (Awaits e unread)) a (part f r p)
  by_reply payload rest number (Some its) None said f r p a = subst (Says (Awaits e unread)) a (wrong f p)
  by_reply payload rest number None far said f r p a =
      subst (Says (Awaits e unread)) (by_far far a) (wrong f (progress_too e payload r))
    where
      by_far : (far : Option Progress) → (replied_by e payload number rest None far).answer ≡ said → steps.Lost BadReply ≡ said
      by_far (Some far) a = a
      by_far None a = a

  by_beginning : (found : Beginning) (said : LinkStep) → first_payload SERVER_PAYLOAD e.next unread ≡ found
      → (read_by (Awaits e unread) (replied e) found).answer ≡ said → (said ≡ steps.Idle) ⊎ Says (Awaits e unread) said
  by_beginning Nothing said f a = inl (sym a)
  by_beginning (Whole payload number rest) said f a =
      inr (by_reply payload rest number (role e.kind e.sofar payload) (progress e.kind e.sofar payload) said f refl refl a)
  by_beginning (Faulty fault) said f a = inr (subst (Says (Awaits e unread)) a (garbled f))

-- a link that logs in
module _ (handshake : Handshake) (unread : List ℕ) where
  by_end : (payload rest : List ℕ) (number : ℕ) (said : LinkStep)
      → first_payload SERVER_PAYLOAD (due handshake) unread ≡ Whole payload number rest → reaction handshake payload number ≡ Accepted
      → (logged_in rest).answer ≡ said → Says (LogsIn handshake unread) said
  by_end payload [] number said f r a = subst (Says (LogsIn handshake unread)) a (enters f r)
  by_end payload (byte ∷ rest) number said f r a = subst (Says (LogsIn handshake unread)) a (hurries f r)

  by_reaction : (payload rest : List ℕ) (number : ℕ) (its : Reaction) (said : LinkStep)
      → first_payload SERVER_PAYLOAD (due handshake) unread ≡ Whole payload number rest → reaction handshake payload number ≡ its
      → (reacted rest its).answer ≡ said → Says (LogsIn handshake unread) said
  by_reaction payload rest number (Answers bytes stage1 next) said f r a = subst (Says (LogsIn handshake unread)) a (answers f r)
  by_reaction payload rest number Accepted said f r a = by_end payload rest number said f r a
  by_reaction payload rest number (Loses cause) said f r a = subst (Says (LogsIn handshake unread)) a (fails f r)

  by_greeting : (found : Beginning) (said : LinkStep) → first_payload SERVER_PAYLOAD (due handshake) unread ≡ found
      → (read_by (LogsIn handshake unread) (λ payload next rest. reacted rest (reaction handshake payload next)) found).answer ≡ said
      → (said ≡ steps.Idle) ⊎ Says (LogsIn handshake unread) said
  by_greeting Nothing said f a = inl (sym a)
  by_greeting (Whole payload number rest) said f a =
      inr (by_reaction payload rest number (reaction handshake payload number) said f refl a)
  by_greeting (Faulty fault) said f a = inr (subst (Says (LogsIn handshake unread)) a (breaks f))

pub says : (link : LinkState) (said : LinkStep) → (step link).answer ≡ said → (said ≡ steps.Idle) ⊎ Says link said
says (LogsIn handshake unread) said a =
    by_greeting handshake unread (first_payload SERVER_PAYLOAD (due handshake) unread) said refl a
says Rests said a = inl (sym a)
says (Awaits e unread) said a = by_beginning e unread (first_payload SERVER_PAYLOAD e.next unread) said refl a
says (IsLost cause) said a = inr (subst (Says (IsLost cause)) a again)

-- what a link that says a payload, or that it is lost, is then

pub after_part_is : (e : Exchange) (unread payload rest : List ℕ) (number : ℕ) (its : Role) (far : Progress)
    → first_payload SERVER_PAYLOAD e.next unread ≡ Whole payload number rest → role e.kind e.sofar payload ≡ Some its
    → progress e.kind e.sofar payload ≡ Some far
    → (step (Awaits e unread)).after ≡ behind_part (with_part payload number e) rest far
after_part_is e unread payload rest number its far f r p = rw (f, r, p) refl

wrong_is : (e : Exchange) (payload rest : List ℕ) (number : ℕ) (its : Option Role) (far : Option Progress) → far ≡ None
    → (replied_by e payload number rest its far).after ≡ IsLost BadReply
wrong_is e payload rest number (Some its) None none = refl
wrong_is e payload rest number None None none = refl
wrong_is e payload rest number its (Some far) none = absurd cc

pub after_loss_is : (link : LinkState) (said : LinkStep) (cause : LinkCause) → Says link said → said ≡ steps.Lost cause
    → (step link).after ≡ IsLost cause
after_loss_is link said cause (answers f r) is = absurd cc
after_loss_is link said cause (enters f r) is = absurd cc
after_loss_is link said cause (hurries f r) is = let same : Unasked ≡ cause = cc in rw f (rw r (ap IsLost same))
after_loss_is link said cause (fails {cause = its} f r) is = let same : its ≡ cause = cc in rw f (rw r (ap IsLost same))
after_loss_is link said cause (breaks f) is = let same : BadWire ≡ cause = cc in rw f (ap IsLost same)
after_loss_is link said cause (part f r p) is = absurd cc
after_loss_is link said cause (garbled f) is = let same : BadWire ≡ cause = cc in rw f (ap IsLost same)
after_loss_is link said cause (wrong {e = e} {payload = payload} {rest = rest} {number = number} f p) is =
    let same : BadReply ≡ cause = cc in
    rw f (wrong_is e payload rest number (role e.kind e.sofar payload) (progress e.kind e.sofar payload) p ∙ ap IsLost same)
after_loss_is link said cause again is = let same : steps.Lost _ ≡ steps.Lost cause = is in cc

-- a link that says nothing stays as it is
replied_idle : (e : Exchange) (payload rest : List ℕ) (number : ℕ) (its : Option Role) (far : Option Progress)
    → (replied_by e payload number rest its far).answer ≡ steps.Idle → ⊥
replied_idle e payload rest number (Some its) (Some far) a = cc
replied_idle e payload rest number (Some its) None a = cc
replied_idle e payload rest number None (Some far) a = cc
replied_idle e payload rest number None None a = cc

read_idle : (link : LinkState) (on_payload : List ℕ → ℕ → List ℕ → Step) (found : Beginning)
    → ((payload : List ℕ) (number : ℕ) (rest : List ℕ) → (on_payload payload number rest).answer ≡ steps.Idle → ⊥)
    → (read_by link on_payload found).answer ≡ steps.Idle → (read_by link on_payload found).after ≡ link
read_idle link on_payload Nothing not_idle a = refl
read_idle link on_payload (Whole payload number rest) not_idle a = absurd (not_idle payload number rest a)
read_idle link on_payload (Faulty fault) not_idle a = absurd cc

ended_idle : (rest : List ℕ) → (logged_in rest).answer ≡ steps.Idle → ⊥
ended_idle [] a = cc
ended_idle (byte ∷ rest) a = cc

reacted_idle : (rest : List ℕ) (its : Reaction) → (reacted rest its).answer ≡ steps.Idle → ⊥
reacted_idle rest (Answers bytes stage1 next) a = cc
reacted_idle rest Accepted a = ended_idle rest a
reacted_idle rest (Loses cause) a = cc

pub idle_stays : (link : LinkState) → (step link).answer ≡ steps.Idle → (step link).after ≡ link
idle_stays (LogsIn handshake unread) a =
    read_idle (LogsIn handshake unread) (λ payload next rest. reacted rest (reaction handshake payload next))
    (first_payload SERVER_PAYLOAD (due handshake) unread) (λ payload number rest. reacted_idle rest (reaction handshake payload number)) a
idle_stays Rests a = refl
idle_stays (Awaits e unread) a =
    read_idle (Awaits e unread) (replied e) (first_payload SERVER_PAYLOAD e.next unread)
    (λ payload number rest. replied_idle e payload rest number (role e.kind e.sofar payload) (progress e.kind e.sofar payload)) a
idle_stays (IsLost cause) a = absurd cc

-- A link that awaits a reply was asked for it

abbrev kind_awaited : LinkState → Option Kind
kind_awaited (LogsIn handshake unread) = None
kind_awaited Rests = None
kind_awaited (Awaits e unread) = Some e.kind
kind_awaited (IsLost cause) = None

-- what was asked is answered by this kind of reply
pub record WasAsked (kind : Kind) (asked : Option Purpose) : Type 0 where
  pub purpose : Purpose
  pub is : asked ≡ Some purpose
  pub answered : kind_of purpose ≡ kind

-- a link in this state was asked for what it awaits
abbrev IsAsked : LinkState → Option Purpose → Type 0
IsAsked link asked = (kind : Kind) → kind_awaited link ≡ Some kind → WasAsked kind asked

settled_asked : (rest : List ℕ) (asked : Option Purpose) → IsAsked (settled rest) asked
settled_asked [] asked = λ kind e. absurd cc
settled_asked (byte ∷ rest) asked = λ kind e. absurd cc

behind_asked : (e x : Exchange) (rest unread : List ℕ) (far : Progress) (asked : Option Purpose) → x.kind ≡ e.kind
    → IsAsked (Awaits e unread) asked → IsAsked (behind_part x rest far) asked
behind_asked e x rest unread More asked same is = λ kind k. is kind (ap Some (sym same) ∙ k)
behind_asked e x rest unread (Ends outcome) asked same is = λ kind k. settled_asked rest asked kind k

replied_asked : (e : Exchange) (payload rest unread : List ℕ) (number : ℕ) (its : Option Role) (far : Option Progress) (asked : Option Purpose)
    → IsAsked (Awaits e unread) asked → IsAsked (replied_by e payload number rest its far).after asked
replied_asked e payload rest unread number (Some its) (Some far) asked is =
    behind_asked e (with_part payload number e) rest unread far asked refl is
replied_asked e payload rest unread number (Some its) None asked is = λ kind k. absurd cc
replied_asked e payload rest unread number None (Some far) asked is = λ kind k. absurd cc
replied_asked e payload rest unread number None None asked is = λ kind k. absurd cc

read_asked : (e : Exchange) (unread : List ℕ) (found : Beginning) (asked : Option Purpose) → IsAsked (Awaits e unread) asked
    → IsAsked (read_by (Awaits e unread) (replied e) found).after asked
read_asked e unread Nothing asked is = is
read_asked e unread (Whole payload number rest) asked is =
    replied_asked e payload rest unread number (role e.kind e.sofar payload) (progress e.kind e.sofar payload) asked is
read_asked e unread (Faulty fault) asked is = λ kind k. absurd cc

ended_asked : (rest : List ℕ) (asked : Option Purpose) → IsAsked (logged_in rest).after asked
ended_asked [] asked = λ kind k. absurd cc
ended_asked (byte ∷ rest) asked = λ kind k. absurd cc

reacted_asked : (rest : List ℕ) (its : Reaction) (asked : Option Purpose) → IsAsked (reacted rest its).after asked
reacted_asked rest (Answers bytes stage1 next) asked = λ kind k. absurd cc
reacted_asked rest Accepted asked = ended_asked rest asked
reacted_asked rest (Loses cause) asked = λ kind k. absurd cc

greeted_asked : (handshake : Handshake) (unread : List ℕ) (found : Beginning) (asked : Option Purpose)
    → IsAsked (read_by (LogsIn handshake unread) (λ payload next rest. reacted rest (reaction handshake payload next)) found).after asked
greeted_asked handshake unread Nothing asked = λ kind k. absurd cc
greeted_asked handshake unread (Whole payload number rest) asked = reacted_asked rest (reaction handshake payload number) asked
greeted_asked handshake unread (Faulty fault) asked = λ kind k. absurd cc

step_asked : (link : LinkState) (asked : Option Purpose) → IsAsked link asked → IsAsked (step link).after asked
step_asked (LogsIn handshake unread) asked is =
    greeted_asked handshake unread (first_payload SERVER_PAYLOAD (due handshake) unread) asked
step_asked Rests asked is = is
step_asked (Awaits e unread) asked is = read_asked e unread (first_payload SERVER_PAYLOAD e.next unread) asked is
step_asked (IsLost cause) asked is = is

-- a link that counts as ready
readied_asked : (link : LinkState) (test : Bool) (asked : Option Purpose) → IsAsked link asked
    → IsAsked (if test then Rests else link) asked
readied_asked link true asked is = λ kind k. absurd cc
readied_asked link false asked is = is

fed_asked : (piece : List ℕ) (link : LinkState) (asked : Option Purpose) → IsAsked link asked → IsAsked (fed piece link) asked
fed_asked piece (LogsIn handshake unread) asked is = is
fed_asked [] Rests asked is = is
fed_asked (byte ∷ bytes) Rests asked is = λ kind k. absurd cc
fed_asked piece (Awaits e unread) asked is = is
fed_asked piece (IsLost cause) asked is = is

-- a link that an item may change, but not what it was asked
changed_asked : (test : Bool) (changed link : LinkState) (asked : Option Purpose) → IsAsked changed asked → IsAsked link asked
    → IsAsked (if test then changed else link) asked
changed_asked true changed link asked c l = c
changed_asked false changed link asked c l = l

-- the reply that a link awaits which was sent payloads is of their kind
sent_kind : (payloads : List (List ℕ)) (kind k : Kind) → kind_awaited (sent_all payloads kind) ≡ Some k → kind ≡ k
sent_kind [] kind k e = absurd cc
sent_kind (payload ∷ []) kind k e = cc
sent_kind (payload ∷ second ∷ others) kind k e = sent_kind (second ∷ others) kind k e

sent_asked : (test : Bool) (purpose : Purpose) (link : LinkState) (asked : Option Purpose) → IsAsked link asked
    → IsAsked (if test then sent_all (sent_for purpose) (kind_of purpose) else link) (if test then Some purpose else asked)
sent_asked true purpose link asked l =
    λ kind k. record { purpose = purpose; is = refl; answered = sent_kind (sent_for purpose) (kind_of purpose) kind k }
sent_asked false purpose link asked l = l

opened_asked : (test : Bool) (login : Login) (link : LinkState) (asked : Option Purpose) → IsAsked link asked
    → IsAsked (if test then opening login else link) (if test then None else asked)
opened_asked true login link asked l = λ kind k. absurd cc
opened_asked false login link asked l = l

was_asked : (link : ℕ) (past : List Item) → IsAsked (linked link past) (asked_on link past)
was_asked link [] = λ kind e. absurd cc
was_asked link (Began opened server reading ∷ past) =
    changed_asked (opened == link) Rests _ (asked_on link past) (λ kind e. absurd cc) (was_asked link past)
was_asked link (LinkBytes from bytes ∷ past) =
    let below = was_asked link past in
    changed_asked (from == link) _ _ (asked_on link past) (fed_asked bytes (linked link past) (asked_on link past) below) below
was_asked link (Comes from said ∷ past) =
    let below = was_asked link past in
    changed_asked (from == link) _ _ (asked_on link past)
    (step_asked (linked link past) (asked_on link past) below) below
was_asked link (LinkReady ready ∷ past) =
    let below = was_asked link past in
    changed_asked (ready == link) _ _ (asked_on link past)
    (readied_asked (linked link past) (is_new (linked link past)) (asked_on link past) below) below
was_asked link (Puts (Opens opened server login) ∷ past) = opened_asked (opened == link) login _ (asked_on link past) (was_asked link past)
was_asked link (Puts (Sends to purpose) ∷ past) = sent_asked (to == link) purpose _ (asked_on link past) (was_asked link past)
was_asked link (Accepted session scramble reading ∷ past) = was_asked link past
was_asked link (TurnsAway told ∷ past) = was_asked link past
was_asked link (ClientBytes bytes ∷ past) = was_asked link past
was_asked link (ClientGone ∷ past) = was_asked link past
was_asked link (LinkLost lost ∷ past) = was_asked link past
was_asked link (Takes judged number ∷ past) = was_asked link past
was_asked link (Ticks reading ∷ past) = was_asked link past
was_asked link (Routed words loads next found ∷ past) = was_asked link past
was_asked link (Connects said ∷ past) = was_asked link past
was_asked link (Floods bytes ∷ past) = was_asked link past
was_asked link (Starves made number ∷ past) = was_asked link past
was_asked link (Puts (Hands packets) ∷ past) = was_asked link past
was_asked link (Puts Routes ∷ past) = was_asked link past
was_asked link (Puts (Records server gtid) ∷ past) = was_asked link past
was_asked link (Puts (LogsInto to packets) ∷ past) = was_asked link past
was_asked link (Puts (Tells number tell) ∷ past) = was_asked link past
was_asked link (Puts (Forgets to id) ∷ past) = was_asked link past
was_asked link (Puts (Drops given cause) ∷ past) = was_asked link past
was_asked link (Puts (Closes reason) ∷ past) = was_asked link past

pub awaits_asked : (link : ℕ) (past : List Item) (e : Exchange) (unread : List ℕ) → linked link past ≡ Awaits e unread
    → WasAsked e.kind (asked_on link past)
awaits_asked link past e unread is = was_asked link past e.kind (ap kind_awaited is)
