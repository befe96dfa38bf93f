-- A link that is prepared doesn't log in.
use Rattle.std.proofs.Common.{◌≡◌, ℕ, Bool, true, false, List, [], ◌∷◌, refl, ap, subst, ◌∙◌, eqb-true, Option}
use Rattle.std.specs.Prelude.{◌==◌, if◌then◌else◌}
use Rattle.rws_config.specs.declared.config.Config.{Config}
use Rattle.rws_reply.specs.declared.kind.Progress.{Progress}
use Rattle.rws_reply.specs.declared.kind.Progress.TheVariants.{More, Whole as Ends}
use Rattle.rws_link.specs.declared.step.LinkStep.{LinkStep}
use Rattle.rws_link.specs.Stepping.{LinkState, LogsIn, Rests, Awaits, IsLost, Exchange, behind_part, fed, is_new, opened as opening, readied, settled, step, with_part}
use Rattle.rws_record.specs.Item.{Item, Purpose, Put}
use Rattle.rws_record.specs.Item.Item.{Accepted, TurnsAway, Began, ClientBytes, LinkReady, LinkBytes, ClientGone, LinkLost, Ticks, Comes, Puts}
use Rattle.rws_record.specs.Item.Put.{Hands, Tells, Records, Routes, Opens, LogsInto, Sends, Forgets, Drops, Closes}
use Rattle.rws_record.specs.Item.Purpose.{Prepares, Asks, Plays, Waits, Probes}
use Rattle.rws_record.specs.Values.{asked_on, is_up, kind_of, linked, prepared_by, sent_all, sent_for}
use Rattle.rws_record.specs.Record.{IsBeginning, IsInput, IsRecord}
use Rattle.rws_record.specs.Record.IsRecord.{begins, steps as goes, answers as answered, hears, starves}
use Rattle.rws_record.proofs.LinkedLemmas.{Says, after_loss_is, after_part_is}
use Rattle.rws_record.proofs.LinkedLemmas.Says.{answers, enters, hurries, fails, breaks, part, garbled, wrong, again}
use Rattle.rws_record.proofs.StepLemmas.{Due, Step, of_next}
use Rattle.rws_record.proofs.StepLemmas.Due.{comes, connects, takes}
use Rattle.rws_record.proofs.StepLemmas.Step.{pays, asks, prepares, forgets, plays, sends, waits_first, probes_first, floods, reads}
use Rattle.rws_laws.proofs.CameLemmas.{by_sent}

abbrev pub logs_in : LinkState → Bool
logs_in (LogsIn handshake bytes) = true
logs_in Rests = false
logs_in (Awaits e bytes) = false
logs_in (IsLost cause) = false

abbrev pub Up : List Item → Type 0
Up past = (link : ℕ) → is_up link past ≡ true → logs_in (linked link past) ≡ false

fed_up : (bytes : List ℕ) (link : LinkState) → logs_in link ≡ false → logs_in (fed bytes link) ≡ false
fed_up bytes (LogsIn handshake unread) e = absurd cc
fed_up [] Rests e = refl
fed_up (byte ∷ bytes) Rests e = refl
fed_up bytes (Awaits x unread) e = refl
fed_up bytes (IsLost cause) e = refl

new_up : (link : LinkState) → is_new link ≡ true → logs_in (readied link) ≡ false
new_up (LogsIn handshake bytes) new = rw new refl
new_up Rests new = refl
new_up (Awaits e bytes) new = refl
new_up (IsLost cause) new = refl

settled_up : (rest : List ℕ) → logs_in (settled rest) ≡ false
settled_up [] = refl
settled_up (byte ∷ rest) = refl

part_up : (e : Exchange) (rest : List ℕ) (far : Progress) → logs_in (behind_part e rest far) ≡ false
part_up e rest More = refl
part_up e rest (Ends outcome) = settled_up rest

said_up : (state : LinkState) (said : LinkStep) (asked : Option Purpose) (up : Bool) → Says state said → (up ≡ true → logs_in state ≡ false)
    → prepared_by said asked up ≡ true → logs_in (step state).after ≡ false
said_up state said asked up (answers f r) below u = absurd (let e : true ≡ false = below u in cc)
said_up state said asked up (enters f r) below u = absurd (let e : true ≡ false = below u in cc)
said_up state said asked up (hurries f r) below u = ap logs_in (after_loss_is state said _ (hurries f r) refl)
said_up state said asked up (fails f r) below u = ap logs_in (after_loss_is state said _ (fails f r) refl)
said_up state said asked up (breaks f) below u = ap logs_in (after_loss_is state said _ (breaks f) refl)
said_up state said asked up (part {e = e} {unread = bytes} {payload = payload} {rest = rest} {number = number} {its = its} {far = far} f r p) below u =
    ap logs_in (after_part_is e bytes payload rest number its far f r p) ∙ part_up (with_part payload number e) rest far
said_up state said asked up (garbled f) below u = ap logs_in (after_loss_is state said _ (garbled f) refl)
said_up state said asked up (wrong f p) below u = ap logs_in (after_loss_is state said _ (wrong f p) refl)
said_up state said asked up again below u = refl

coming_up : (past : List Item) (from : ℕ) (said : LinkStep) → Says (linked from past) said → Up past → Up (Comes from said ∷ past)
coming_up past from said it up = λ link u. by_test link (from == link) refl u
  where
    by_test : (link : ℕ) (test : Bool) → (from == link) ≡ test
        → (if test then prepared_by said (asked_on link past) (is_up link past) else is_up link past) ≡ true
        → logs_in (if test then (step (linked link past)).after else linked link past) ≡ false
    by_test link true t u =
        let same : from ≡ link = eqb-true from link t in
        said_up (linked link past) said (asked_on link past) (is_up link past) (subst (λ (l : ℕ). Says (linked l past) said) same it) (up link) u
    by_test link false t u = up link u

sending_up : (past : List Item) (to : ℕ) (purpose : Purpose) → Up past → Up (Puts (Sends to purpose) ∷ past)
sending_up past to purpose up = λ link u. by_test link (to == link) u
  where
    by_test : (link : ℕ) (test : Bool) → is_up link past ≡ true
        → logs_in (if test then sent_all (sent_for purpose) (kind_of purpose) else linked link past) ≡ false
    by_test link true u = by_sent (λ (state : LinkState). logs_in state ≡ false) refl (λ e. refl) (sent_for purpose) (kind_of purpose)
    by_test link false u = up link u

put_up : (past : List Item) (put : Put) → Up past → Up (Puts put ∷ past)
put_up past (Sends to purpose) up = sending_up past to purpose up
put_up past (Opens opened server login) up = λ link u. by_test link (opened == link) u
  where
    by_test : (link : ℕ) (test : Bool) → (if test then false else is_up link past) ≡ true
        → logs_in (if test then opening login else linked link past) ≡ false
    by_test link true u = absurd cc
    by_test link false u = up link u
put_up past (Hands packets) up = up
put_up past (Records server gtid) up = up
put_up past (Tells number tell) up = up
put_up past Routes up = up
put_up past (Forgets to id) up = up
put_up past (LogsInto to packets) up = up
put_up past (Drops link cause) up = up
put_up past (Closes reason) up = up

due_up : {config : Config} {past : List Item} {item : Item} → Due config past item → Up past → Up (item ∷ past)
due_up {past = past} (comes {link = from} {said = said} has a it) up = coming_up past from said it up
due_up (connects p f c) up = up
due_up (takes p f) up = up

step_up : {config : Config} {past : List Item} {item : Item} → Step config past item → Up past → Up (item ∷ past)
step_up {past = past} (pays {put = put} o) up = put_up past put up
step_up (asks o n p k l) up = up
step_up {past = past} (prepares {link = to} o n k c) up = sending_up past to Prepares up
step_up {past = past} (plays {link = to} {entry = entry} o n k c t s) up = sending_up past to (Plays entry) up
step_up {past = past} (sends {link = to} {command = command} {id = id} o n p s k c t d i v) up = sending_up past to (Asks command id) up
step_up {past = past} (waits_first {link = to} {gtid = gtid} o n p s g f t d v) up = sending_up past to (Waits gtid _) up
step_up {past = past} (probes_first {link = to} {gtid = gtid} o n p s g f t d v) up = sending_up past to (Probes gtid) up
step_up (forgets o n has f t) up = up
step_up (floods o n p above) up = up
step_up (reads o n due) up = due_up due up

input_up : (past : List Item) (item : Item) → IsInput item past → Up past → Up (item ∷ past)
input_up past (ClientBytes bytes) input up = up
input_up past (LinkReady ready) input up = λ link u. by_test link (ready == link) refl u
  where
    by_test : (link : ℕ) (test : Bool) → (ready == link) ≡ test → (if test then true else is_up link past) ≡ true
        → logs_in (if test then readied (linked link past) else linked link past) ≡ false
    by_test link true t u =
        new_up (linked link past) (subst (λ (l : ℕ). is_new (linked l past) ≡ true) (eqb-true ready link t) input.1)
    by_test link false t u = up link u
input_up past (LinkBytes from bytes) input up = λ link u. by_test link (from == link) u
  where
    by_test : (link : ℕ) (test : Bool) → is_up link past ≡ true
        → logs_in (if test then fed bytes (linked link past) else linked link past) ≡ false
    by_test link true u = fed_up bytes (linked link past) (up link u)
    by_test link false u = up link u
input_up past ClientGone input up = up
input_up past (LinkLost link) input up = up
input_up past (Ticks reading) input up = up
input_up past _ input up = absurd input

begins_up : (item : Item) → IsBeginning item → Up (item ∷ [])
begins_up (Accepted session scramble reading) its = λ link u. absurd cc
begins_up (TurnsAway told) its = λ link u. absurd cc
begins_up (Began first server reading) its = λ link u. by_test (first == link)
  where
    by_test : (test : Bool) → logs_in (if test then Rests else Rests) ≡ false
    by_test true = refl
    by_test false = refl
begins_up _ its = absurd its

pub legal_up : {config : Config} {past : List Item} → IsRecord config past → Up past
legal_up (begins {item = item} its) = begins_up item its
legal_up {config} (goes {past = past} {item = item} legal next) = step_up (of_next config past item next) (legal_up legal)
legal_up (answered legal asked) = legal_up legal
legal_up (hears {past = past} {item = item} legal rests none n input) = input_up past item input (legal_up legal)
legal_up (starves legal once can its) = legal_up legal
