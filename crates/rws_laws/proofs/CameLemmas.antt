-- What came of a reply is what the link that owes it has so far.
use Rattle.std.proofs.Common.{◌≡◌, ℕ, Bool, true, false, List, [], ◌∷◌, ◌++◌, refl, sym, ap, subst, ◌∙◌, Option, Some, None, eqb-true}
use Rattle.std.specs.Prelude.{◌==◌, if◌then◌else◌}
use Rattle.rws_reply.specs.declared.kind.Kind.{Kind}
use Rattle.rws_reply.specs.declared.kind.Progress.{Progress}
use Rattle.rws_reply.specs.declared.kind.Progress.TheVariants.{More, Whole as Ends}
use Rattle.rws_config.specs.declared.limits.TheConstants.{SERVER_PAYLOAD}
use Rattle.rws_reply.specs.Replies.{Payload}
use Rattle.rws_reply.specs.ClientForm.{client_reply}
use Rattle.rws_wire.specs.Packets.{number_behind}
use Rattle.rws_wire.specs.Payloads.{first_payload}
use Rattle.rws_wire.specs.Payloads.Beginning.{Whole}
use Rattle.rws_native.specs.declared.login.Login.{Login}
use Rattle.rws_link.specs.declared.handshake.Handshake.{Handshake}
use Rattle.rws_link.specs.declared.handshake.Handshake.TheVariants.{Answered}
use Rattle.rws_link.specs.declared.handshake.Reaction.TheVariants.{Answers, Accepted}
use Rattle.rws_link.specs.Handshake.{due, reaction}
use Rattle.rws_link.specs.declared.step.LinkCause.{LinkCause}
use Rattle.rws_link.specs.declared.step.LinkStep.{LinkStep}
use Rattle.rws_link.specs.declared.step.LinkStep.TheVariants as steps
use Rattle.rws_link.specs.Stepping.{LinkState, LogsIn, Rests, Awaits, IsLost, Exchange, behind_part, fed, is_new, opened as opening, readied, settled, step, with_part}
use Rattle.rws_config.specs.declared.config.Config.{Config}
use Rattle.rws_record.specs.Item.{Item, Purpose, Put}
use Rattle.rws_record.specs.Item.Item.{Accepted, TurnsAway, Began, ClientBytes, LinkReady, LinkBytes, ClientGone, LinkLost, Ticks, Comes, Puts}
use Rattle.rws_record.specs.Item.Purpose.{Prepares, Asks, Plays, Waits, Probes}
use Rattle.rws_record.specs.Item.Put.{Hands, Tells, Records, Routes, Opens, LogsInto, Sends, Forgets, Drops, Closes}
use Rattle.rws_record.specs.Values.{awaited, exchange, kind_of, linked, sent_all, sent_for}
use Rattle.rws_record.specs.Record.{IsBeginning, IsRecord, IsInput}
use Rattle.rws_record.specs.Record.IsRecord.{begins, steps as goes, answers as answered, hears, starves}
use Rattle.rws_record.proofs.LinkedLemmas.{Says, after_loss_is, after_part_is}
use Rattle.rws_record.proofs.LinkedLemmas.Says.{answers, enters, hurries, fails, breaks, part, garbled, wrong, again}
use Rattle.rws_record.proofs.StepLemmas.{Due, Step, of_next}
use Rattle.rws_record.proofs.StepLemmas.Due.{comes, connects, takes}
use Rattle.rws_record.proofs.StepLemmas.Step.{pays, asks, prepares, forgets, plays, sends, waits_first, probes_first, floods, reads}
use Rattle.rws_laws.specs.Servers.{came_on, with_said}

-- nothing came yet
pub no_form : (kind : Kind) (handle : ℕ) → client_reply kind handle [] ≡ []
unfolding client_reply
no_form kind handle = refl

-- a link that was sent payloads awaits a reply of their kind
pub sent_awaits : (payloads : List (List ℕ)) (kind : Kind) (e : Exchange) → awaited (sent_all payloads kind) ≡ Some e
    → (e.kind ≡ kind) × (e.sofar ≡ [])
sent_awaits [] kind e a = absurd cc
sent_awaits (payload ∷ []) kind e a =
    let is = some_is (record { kind = kind; next = number_behind 0 payload; sofar = [] }) e a in
    (sym (ap (λ (x : Exchange). x.kind) is), sym (ap (λ (x : Exchange). x.sofar) is))
  where
    some_is : (one other : Exchange) → Some one ≡ Some other → one ≡ other
    some_is one other same = cc
sent_awaits (payload ∷ second ∷ others) kind e a = sent_awaits (second ∷ others) kind e a

-- what is true of a link that rests, and of one that awaits a reply of which nothing came, is true of one that was sent payloads
pub by_sent : (Holds : LinkState → Type 0) → Holds Rests → ((e : Exchange) → Holds (Awaits e [])) → (payloads : List (List ℕ)) (kind : Kind)
    → Holds (sent_all payloads kind)
by_sent Holds rests awaits [] kind = rests
by_sent Holds rests awaits (payload ∷ []) kind = awaits (record { kind = kind; next = number_behind 0 payload; sofar = [] })
by_sent Holds rests awaits (payload ∷ second ∷ others) kind = by_sent Holds rests awaits (second ∷ others) kind

-- bytes bring no reply on by themselves
fed_awaits : (piece : List ℕ) (link : LinkState) → awaited (fed piece link) ≡ awaited link
fed_awaits piece (LogsIn handshake unread) = refl
fed_awaits [] Rests = refl
fed_awaits (byte ∷ bytes) Rests = refl
fed_awaits piece (Awaits e unread) = refl
fed_awaits piece (IsLost cause) = refl

pub bytes_keep : (past : List Item) (from : ℕ) (bytes : List ℕ) (link : ℕ) → exchange link (LinkBytes from bytes ∷ past) ≡ exchange link past
bytes_keep past from bytes link = by_test (from == link)
  where
    by_test : (test : Bool) → awaited (if test then fed bytes (linked link past) else linked link past) ≡ awaited (linked link past)
    by_test true = fed_awaits bytes (linked link past)
    by_test false = refl

-- what a payload leaves of the reply
abbrev pub left_by : Progress → Exchange → Option Exchange
left_by More e = Some e
left_by (Ends outcome) e = None

settled_awaits : (rest : List ℕ) → awaited (settled rest) ≡ None
settled_awaits [] = refl
settled_awaits (byte ∷ rest) = refl

pub part_leaves : (e : Exchange) (rest : List ℕ) (far : Progress) → awaited (behind_part e rest far) ≡ left_by far e
part_leaves e rest More = refl
part_leaves e rest (Ends outcome) = settled_awaits rest

-- a link that was lost owes no reply
pub loss_leaves : (link : LinkState) (said : LinkStep) (cause : LinkCause) → Says link said → said ≡ steps.Lost cause
    → awaited (step link).after ≡ None
loss_leaves link said cause it is = ap awaited (after_loss_is link said cause it is)

-- one that logs in, or has just logged in, owes none
pub after_answer_is : (handshake : Handshake) (bytes : List ℕ) {payload rest packets : List ℕ} {number next : ℕ} {stage1 : Option (List ℕ)}
    → first_payload SERVER_PAYLOAD (due handshake) bytes ≡ Whole payload number rest
    → reaction handshake payload number ≡ Answers packets stage1 next
    → (step (LogsIn handshake bytes)).after ≡ LogsIn (Answered stage1 next) rest
after_answer_is handshake bytes f r = rw f (rw r refl)

pub after_entering_is : (handshake : Handshake) (bytes : List ℕ) {payload : List ℕ} {number : ℕ}
    → first_payload SERVER_PAYLOAD (due handshake) bytes ≡ Whole payload number []
    → reaction handshake payload number ≡ Accepted → (step (LogsIn handshake bytes)).after ≡ Rests
after_entering_is handshake bytes f r = rw f (rw r refl)

-- one that counts as ready awaits what it did
readied_awaits : (link : LinkState) → awaited (readied link) ≡ awaited link
readied_awaits (LogsIn handshake unread) = by_test (is_new (LogsIn handshake unread))
  where
    by_test : (test : Bool) → awaited (if test then Rests else LogsIn handshake unread) ≡ None
    by_test true = refl
    by_test false = refl
readied_awaits Rests = refl
readied_awaits (Awaits e unread) = refl
readied_awaits (IsLost cause) = refl

pub ready_keeps : (past : List Item) (ready link : ℕ) → exchange link (LinkReady ready ∷ past) ≡ exchange link past
ready_keeps past ready link = by_test (ready == link)
  where
    by_test : (test : Bool) → awaited (if test then readied (linked link past) else linked link past) ≡ awaited (linked link past)
    by_test true = readied_awaits (linked link past)
    by_test false = refl

-- a link that is opened owes no reply
pub opening_leaves : (past : List Item) (link server : ℕ) (login : Login) (other : ℕ) (e : Exchange)
    → exchange other (Puts (Opens link server login) ∷ past) ≡ Some e → exchange other past ≡ Some e
opening_leaves past link server login other e a = by_test (link == other) a
  where
    by_test : (test : Bool) → awaited (if test then opening login else linked other past) ≡ Some e → awaited (linked other past) ≡ Some e
    by_test true a = absurd cc
    by_test false a = a

abbrev pub Came : List Item → Type 0
Came past = (link : ℕ) (e : Exchange) → exchange link past ≡ Some e → e.sofar ≡ came_on link past

no_reply : {P : Type 0} (e : Exchange) → None ≡ Some e → P
no_reply e clash = absurd cc

said_came : (past : List Item) (link : ℕ) (state : LinkState) (said : LinkStep) (e : Exchange) → linked link past ≡ state
    → Says state said → Came past → awaited (step state).after ≡ Some e → e.sofar ≡ with_said said (came_on link past)
said_came past link state said e is (part {e = x} {unread = unread} {payload = payload} {rest = rest} {number = number} {its = its} {far = far} f r p) came a =
    by_far far (sym (part_leaves (with_part payload number x) rest far) ∙ sym (ap awaited (after_part_is x unread payload rest number its far f r p)) ∙ a)
  where
    by_far : (far : Progress) → left_by far (with_part payload number x) ≡ Some e → e.sofar ≡ came_on link past ++ payload ∷ []
    by_far More a =
        let same : with_part payload number x ≡ e = cc in
        sym (ap (λ (y : Exchange). y.sofar) same) ∙ ap (λ (list : List Payload). list ++ payload ∷ []) (came link x (ap awaited is))
    by_far (Ends outcome) a = no_reply e a
said_came past link state said e is (answers {handshake = handshake} {unread = bytes} f r) came a =
    no_reply e (sym (ap awaited (after_answer_is handshake bytes f r)) ∙ a)
said_came past link state said e is (enters {handshake = handshake} {unread = bytes} f r) came a =
    no_reply e (sym (ap awaited (after_entering_is handshake bytes f r)) ∙ a)
said_came past link state said e is (hurries f r) came a = no_reply e (sym (loss_leaves state said _ (hurries f r) refl) ∙ a)
said_came past link state said e is (fails f r) came a = no_reply e (sym (loss_leaves state said _ (fails f r) refl) ∙ a)
said_came past link state said e is (breaks f) came a = no_reply e (sym (loss_leaves state said _ (breaks f) refl) ∙ a)
said_came past link state said e is (garbled f) came a = no_reply e (sym (loss_leaves state said _ (garbled f) refl) ∙ a)
said_came past link state said e is (wrong f p) came a = no_reply e (sym (loss_leaves state said _ (wrong f p) refl) ∙ a)
said_came past link state said e is again came a = no_reply e a

coming_came : (past : List Item) (from : ℕ) (said : LinkStep) → Says (linked from past) said → Came past → Came (Comes from said ∷ past)
coming_came past from said it came = λ link e a. by_test link e (from == link) refl a
  where
    by_test : (link : ℕ) (e : Exchange) (test : Bool) → (from == link) ≡ test
        → awaited (if test then (step (linked link past)).after else linked link past) ≡ Some e
        → e.sofar ≡ (if test then with_said said (came_on link past) else came_on link past)
    by_test link e true t a =
        let same : from ≡ link = eqb-true from link t in
        said_came past link (linked link past) said e refl (subst (λ (l : ℕ). Says (linked l past) said) same it) came a
    by_test link e false t a = came link e a

sending_came : (past : List Item) (to : ℕ) (purpose : Purpose) → Came past → Came (Puts (Sends to purpose) ∷ past)
sending_came past to purpose came = λ link e a. by_test link e (to == link) a
  where
    by_test : (link : ℕ) (e : Exchange) (test : Bool)
        → awaited (if test then sent_all (sent_for purpose) (kind_of purpose) else linked link past) ≡ Some e
        → e.sofar ≡ (if test then [] else came_on link past)
    by_test link e true a = (sent_awaits (sent_for purpose) (kind_of purpose) e a).1
    by_test link e false a = came link e a

due_came : {config : Config} {past : List Item} {item : Item} → Due config past item → Came past → Came (item ∷ past)
due_came {past = past} (comes {link = from} {said = said} has a it) came = coming_came past from said it came
due_came (connects p f c) came = came
due_came (takes p f) came = came

put_came : (past : List Item) (put : Put) → Came past → Came (Puts put ∷ past)
put_came past (Hands packets) came = came
put_came past (Records server gtid) came = came
put_came past (Tells number tell) came = came
put_came past Routes came = came
put_came past (Opens link server login) came = λ other e a. came other e (opening_leaves past link server login other e a)
put_came past (Forgets link id) came = came
put_came past (LogsInto link packets) came = came
put_came past (Sends to purpose) came = sending_came past to purpose came
put_came past (Drops given cause) came = came
put_came past (Closes reason) came = came

step_came : {config : Config} {past : List Item} {item : Item} → Step config past item → Came past → Came (item ∷ past)
step_came {past = past} (pays {put = put} o) came = put_came past put came
step_came (asks o n p k l) came = came
step_came {past = past} (prepares {link = to} o n k c) came = sending_came past to Prepares came
step_came {past = past} (plays {link = to} {entry = entry} o n k c t s) came = sending_came past to (Plays entry) came
step_came {past = past} (sends {link = to} {command = command} {id = id} o n p s k c t d i v) came = sending_came past to (Asks command id) came
step_came {past = past} (waits_first {link = to} {gtid = gtid} o n p s g f t d v) came = sending_came past to (Waits gtid _) came
step_came {past = past} (probes_first {link = to} {gtid = gtid} o n p s g f t d v) came = sending_came past to (Probes gtid) came
step_came (forgets o n has f t) came = came
step_came (floods o n p above) came = came
step_came (reads o n due) came = due_came due came

input_came : (past : List Item) (item : Item) → IsInput item past → Came past → Came (item ∷ past)
input_came past (ClientBytes bytes) input came = came
input_came past (LinkBytes from bytes) input came = λ link e a. came link e (sym (bytes_keep past from bytes link) ∙ a)
input_came past (LinkReady ready) input came = λ link e a. came link e (sym (ready_keeps past ready link) ∙ a)
input_came past ClientGone input came = came
input_came past (LinkLost gone) input came = came
input_came past (Ticks reading) input came = came
input_came past _ input came = absurd input

begun_came : (link server reading : ℕ) → Came (Began link server reading ∷ [])
begun_came link server reading = λ other e a. by_test other e (link == other) a
  where
    by_test : (other : ℕ) (e : Exchange) (test : Bool) → awaited (if test then Rests else Rests) ≡ Some e → e.sofar ≡ []
    by_test other e true a = no_reply e a
    by_test other e false a = no_reply e a

begins_came : (item : Item) → IsBeginning item → Came (item ∷ [])
begins_came (Accepted session scramble reading) its = λ other e a. no_reply e a
begins_came (TurnsAway told) its = λ other e a. no_reply e a
begins_came (Began link server reading) its = begun_came link server reading
begins_came _ its = absurd its

-- what a link has of the reply that it owes is what came on it since it was asked
pub legal_came : {config : Config} {past : List Item} → IsRecord config past → Came past
legal_came (begins {item = item} its) = begins_came item its
legal_came {config} (goes {past = past} {item = item} legal next) = step_came (of_next config past item next) (legal_came legal)
legal_came (answered legal asked) = legal_came legal
legal_came (hears {past = past} {item = item} legal rests none n input) = input_came past item input (legal_came legal)
legal_came (starves legal once can its) = legal_came legal
