-- A reply to a prepare that isn't an error tells of a statement.
use Rattle.std.proofs.Common.{◌≡◌, ℕ, Bool, true, false, cond, List, [], ◌∷◌, refl, sym, ap, subst, ◌∙◌, Option, Some, None}
use Rattle.std.specs.Prelude.{◌≢◌, ◌==◌, is_some, find, Result, Ok, Err, if◌then◌else◌}
use Rattle.std.specs.Option.{option_map}
use Rattle.std.specs.Result.{result_ok}
use Rattle.std.proofs.lemmas.Bool.{eqb-true}
use Rattle.rws_msgs.specs.declared.fault.MsgFault.{MsgFault}
use Rattle.rws_msgs.specs.declared.prepare_ok.PrepareOk.{PrepareOk}
use Rattle.rws_msgs.specs.ErrLayout.{err_code}
use Rattle.rws_msgs.specs.PrepareOkLayout.{prepare_ok_at}
use Rattle.rws_native.specs.declared.login.Login.{Login}
use Rattle.rws_reply.specs.declared.awaits.Awaits.{Awaits as Tracked}
use Rattle.rws_reply.specs.declared.awaits.Step.{Step as TrackStep}
use Rattle.rws_reply.specs.declared.awaits.Step.TheVariants.{Ends as EndsTracking, Wrong}
use Rattle.rws_reply.specs.declared.kind.Kind.{Kind}
use Rattle.rws_reply.specs.declared.kind.Kind.TheVariants.{Prepare as PrepareReply}
use Rattle.rws_reply.specs.declared.kind.Outcome.TheVariants.{Failed}
use Rattle.rws_reply.specs.declared.kind.Progress.{Progress}
use Rattle.rws_reply.specs.declared.kind.Progress.TheVariants.{More, Whole as Ends}
use Rattle.rws_reply.specs.declared.role.Role.{Role}
use Rattle.rws_reply.specs.declared.role.Role.TheVariants as roles
use Rattle.rws_reply.specs.Machine.{expected, first, given, proceed, role_in, run, to_parameters}
use Rattle.rws_reply.specs.Payloads.{prepared_counts}
use Rattle.rws_reply.specs.Replies.{Payload}
use Rattle.rws_reply.specs.Roles.{reads_as}
use Rattle.rws_reply.specs.Tracking.{progress, progress_of, role, waiting}
use Rattle.rws_link.specs.declared.step.LinkStep.{LinkStep}
use Rattle.rws_link.specs.Stepping.{LinkState, Exchange, Rests, opened as opening, step, with_part}
use Rattle.rws_config.specs.declared.config.Config.{Config}
use Rattle.rws_record.specs.Item.{Item, Purpose, Put}
use Rattle.rws_record.specs.Item.Item.{Accepted, TurnsAway, Began, ClientBytes, LinkReady, LinkBytes, ClientGone, LinkLost, Ticks, Comes, Puts}
use Rattle.rws_record.specs.Item.Purpose.{Prepares, Asks, Plays, Waits, Probes}
use Rattle.rws_record.specs.Item.Put.{Hands, Tells, Records, Routes, Opens, LogsInto, Sends, Forgets, Drops, Closes}
use Rattle.rws_record.specs.Values.{awaited, exchange, kind_of, linked, named_by, named_in, named_on, prepared_in, sent_all, sent_for}
use Rattle.rws_record.specs.Record.{IsBeginning, IsRecord, IsInput}
use Rattle.rws_record.specs.Record.IsRecord.{begins, steps as goes, answers as answered, hears, starves}
use Rattle.rws_record.proofs.LinkedLemmas.{Says, after_part_is}
use Rattle.rws_record.proofs.LinkedLemmas.Says.{answers, enters, hurries, fails, breaks, part, garbled, wrong, again}
use Rattle.rws_record.proofs.StepLemmas.{Due, Step, of_next}
use Rattle.rws_record.proofs.StepLemmas.Due.{comes, connects, takes}
use Rattle.rws_record.proofs.StepLemmas.Step.{pays, asks, prepares, forgets, plays, sends, waits_first, probes_first, floods, reads}
use Rattle.rws_laws.proofs.CameLemmas.{after_answer_is, after_entering_is, bytes_keep, left_by, loss_leaves, part_leaves, ready_keeps, sent_awaits}

-- What a payload of such a reply tells

counts_named : (found : Result PrepareOk MsgFault) → is_some {T = ℕ × ℕ} (option_map (λ (ok : PrepareOk). (ok.columns, ok.parameters)) (result_ok found)) ≡ true
    → is_some (prepared_in found) ≡ true
counts_named (Ok ok) e = refl
counts_named (Err fault) e = absurd cc

read_named : (payload : Payload) → is_some (prepared_counts payload) ≡ true → is_some (prepared_in (prepare_ok_at payload)) ≡ true
unfolding prepared_counts
read_named payload e = counts_named (prepare_ok_at payload) e

found_reads : (test : Role → Bool) (list : List Role) (its : Role) → find test list ≡ Some its → test its ≡ true
found_reads test [] its e = absurd cc
found_reads test (first ∷ others) its e = by_test (test first) refl e (found_reads test others its)
  where
    by_test : (found : Bool) → test first ≡ found → cond found (Some first) (find test others) ≡ Some its → (find test others ≡ Some its → test its ≡ true)
        → test its ≡ true
    by_test true t e later = let same : first ≡ its = cc in ap test (sym same) ∙ t
    by_test false t e later = later e

tracked_named : (waits : Option Tracked) (payload : Payload) → role_in waits payload ≡ Some roles.Prepared → is_some (prepared_counts payload) ≡ true
tracked_named (Some awaits) payload e = found_reads (λ its. reads_as its payload) (expected awaits) roles.Prepared e
tracked_named None payload e = absurd cc

role_named : (kind : Kind) (sofar : List Payload) (payload : Payload) → role kind sofar payload ≡ Some roles.Prepared
    → is_some (prepared_counts payload) ≡ true
unfolding role
role_named kind sofar payload e = tracked_named (waiting (run sofar (first kind))) payload e

module _ (payload : Payload) (its : Role) (far : Progress) (no : (code : ℕ) → far ≢ Ends (Failed code)) where
  by_counts : (test : Bool) → cond test (Some roles.Prepared) None ≡ Some its → its ≡ roles.Prepared
  by_counts true e = let same : roles.Prepared ≡ its = cc in sym same
  by_counts false e = absurd cc

  by_error : (code : Option ℕ) (others : TrackStep) → cond (is_some code) (Some roles.Err) (cond (is_some (prepared_counts payload)) (Some roles.Prepared) None) ≡ Some its
      → progress_of (proceed (given code (λ c. EndsTracking (Failed c)) others) [] (run [])) ≡ Some far → its ≡ roles.Prepared
  by_error None others r p = by_counts (is_some (prepared_counts payload)) r
  by_error (Some code) others r p = let same : Ends (Failed code) ≡ far = cc in absurd (no code (sym same))

  first_prepared : role PrepareReply [] payload ≡ Some its → progress PrepareReply [] payload ≡ Some far → its ≡ roles.Prepared
  unfolding role progress
  first_prepared r p = by_error (err_code payload) (given (prepared_counts payload) to_parameters Wrong) r p

-- with it the reply has told of one
still_named : (its : Role) (payload : Payload) (before : Option PrepareOk) → (its ≡ roles.Prepared → is_some (prepared_in (prepare_ok_at payload)) ≡ true)
    → is_some before ≡ true → is_some (named_in its payload before) ≡ true
still_named roles.Prepared payload before read b = read refl
still_named roles.Ok payload before read b = b
still_named roles.Err payload before read b = b
still_named roles.Count payload before read b = b
still_named roles.Definition payload before read b = b
still_named roles.Eof payload before read b = b
still_named roles.Row payload before read b = b

pub named_now : (kind : Kind) (sofar : List Payload) (payload : Payload) (its : Role) (far : Progress) (before : Option PrepareOk)
    → kind ≡ PrepareReply → (sofar ≢ [] → is_some before ≡ true) → role kind sofar payload ≡ Some its → progress kind sofar payload ≡ Some far
    → ((code : ℕ) → far ≢ Ends (Failed code)) → is_some (named_in its payload before) ≡ true
named_now kind [] payload its far before k b r p none =
    let r : role PrepareReply [] payload ≡ Some its = rw k at r in
    let p : progress PrepareReply [] payload ≡ Some far = rw k at p in
    let is = first_prepared payload its far none r p in
    let r : role PrepareReply [] payload ≡ Some roles.Prepared = r ∙ ap (λ (x : Role). Some x) is in
    subst (λ (x : Role). is_some (named_in x payload before) ≡ true) (sym is) (read_named payload (role_named PrepareReply [] payload r))
named_now kind (first ∷ others) payload its far before k b r p none =
    still_named its payload before
    (λ is. read_named payload (role_named kind (first ∷ others) payload (r ∙ ap (λ (x : Role). Some x) is)))
    (b (λ e. absurd cc))

-- In a legal record

abbrev Named : List Item → Type 0
Named past = (link : ℕ) (e : Exchange) → exchange link past ≡ Some e → e.kind ≡ PrepareReply → e.sofar ≢ [] → is_some (named_on link past) ≡ true

no_reply : {P : Type 0} (e : Exchange) → None ≡ Some e → P
no_reply e clash = absurd cc

said_named : (past : List Item) (link : ℕ) (state : LinkState) (said : LinkStep) (e : Exchange) → linked link past ≡ state
    → Says state said → Named past → awaited (step state).after ≡ Some e → e.kind ≡ PrepareReply → e.sofar ≢ []
    → is_some (named_by said (named_on link past)) ≡ true
said_named past link state said e is (part {e = x} {unread = unread} {payload = payload} {rest = rest} {number = number} {its = its} {far = far} f r p) named a k s =
    by_far far (sym (part_leaves (with_part payload number x) rest far) ∙ sym (ap awaited (after_part_is x unread payload rest number its far f r p)) ∙ a) p
  where
    by_far : (far : Progress) → left_by far (with_part payload number x) ≡ Some e → progress x.kind x.sofar payload ≡ Some far
        → is_some (named_in its payload (named_on link past)) ≡ true
    by_far More a p =
        let same : with_part payload number x ≡ e = cc in
        let kind : x.kind ≡ PrepareReply = ap (λ (y : Exchange). y.kind) same ∙ k in
        named_now x.kind x.sofar payload its More (named_on link past) kind (named link x (ap awaited is) kind) r p (λ code e. absurd cc)
    by_far (Ends outcome) a p = no_reply e a
said_named past link state said e is (answers {handshake = handshake} {unread = bytes} f r) named a k s =
    no_reply e (sym (ap awaited (after_answer_is handshake bytes f r)) ∙ a)
said_named past link state said e is (enters {handshake = handshake} {unread = bytes} f r) named a k s =
    no_reply e (sym (ap awaited (after_entering_is handshake bytes f r)) ∙ a)
said_named past link state said e is (hurries f r) named a k s = no_reply e (sym (loss_leaves state said _ (hurries f r) refl) ∙ a)
said_named past link state said e is (fails f r) named a k s = no_reply e (sym (loss_leaves state said _ (fails f r) refl) ∙ a)
said_named past link state said e is (breaks f) named a k s = no_reply e (sym (loss_leaves state said _ (breaks f) refl) ∙ a)
said_named past link state said e is (garbled f) named a k s = no_reply e (sym (loss_leaves state said _ (garbled f) refl) ∙ a)
said_named past link state said e is (wrong f p) named a k s = no_reply e (sym (loss_leaves state said _ (wrong f p) refl) ∙ a)
said_named past link state said e is again named a k s = no_reply e a

coming_named : (past : List Item) (from : ℕ) (said : LinkStep) → Says (linked from past) said → Named past → Named (Comes from said ∷ past)
coming_named past from said it named = λ link e a k s. by_test link e (from == link) refl a k s
  where
    by_test : (link : ℕ) (e : Exchange) (test : Bool) → (from == link) ≡ test
        → awaited (if test then (step (linked link past)).after else linked link past) ≡ Some e → e.kind ≡ PrepareReply → e.sofar ≢ []
        → is_some (if test then named_by said (named_on link past) else named_on link past) ≡ true
    by_test link e true t a k s =
        said_named past link (linked link past) said e refl (subst (λ (l : ℕ). Says (linked l past) said) (eqb-true from link t) it) named a k s
    by_test link e false t a k s = named link e a k s

sending_named : (past : List Item) (to : ℕ) (purpose : Purpose) → Named past → Named (Puts (Sends to purpose) ∷ past)
sending_named past to purpose named = λ link e a k s. by_test link e (to == link) a k s
  where
    by_test : (link : ℕ) (e : Exchange) (test : Bool)
        → awaited (if test then sent_all (sent_for purpose) (kind_of purpose) else linked link past) ≡ Some e → e.kind ≡ PrepareReply → e.sofar ≢ []
        → is_some (if test then None else named_on link past) ≡ true
    by_test link e true a k s = absurd (s (sent_awaits (sent_for purpose) (kind_of purpose) e a).1)
    by_test link e false a k s = named link e a k s

opening_named : (past : List Item) (opened server : ℕ) (login : Login) → Named past → Named (Puts (Opens opened server login) ∷ past)
opening_named past opened server login named = λ link e a k s. by_test link e (opened == link) a k s
  where
    by_test : (link : ℕ) (e : Exchange) (test : Bool) → awaited (if test then opening login else linked link past) ≡ Some e → e.kind ≡ PrepareReply
        → e.sofar ≢ [] → is_some (if test then None else named_on link past) ≡ true
    by_test link e true a k s = absurd cc
    by_test link e false a k s = named link e a k s

put_named : (past : List Item) (put : Put) → Named past → Named (Puts put ∷ past)
put_named past (Hands packets) named = named
put_named past (Records server gtid) named = named
put_named past (Tells number tell) named = named
put_named past Routes named = named
put_named past (Opens opened server login) named = opening_named past opened server login named
put_named past (LogsInto link packets) named = named
put_named past (Sends to purpose) named = sending_named past to purpose named
put_named past (Forgets link id) named = named
put_named past (Drops given cause) named = named
put_named past (Closes reason) named = named

due_named : {config : Config} {past : List Item} {item : Item} → Due config past item → Named past → Named (item ∷ past)
due_named {past = past} (comes {link = from} {said = said} has a it) named = coming_named past from said it named
due_named (connects p f c) named = named
due_named (takes p f) named = named

step_named : {config : Config} {past : List Item} {item : Item} → Step config past item → Named past → Named (item ∷ past)
step_named {past = past} (pays {put = put} o) named = put_named past put named
step_named (asks o n p k l) named = named
step_named {past = past} (prepares {link = to} o n has f) named = sending_named past to Prepares named
step_named (forgets o n has f t) named = named
step_named {past = past} (plays {link = to} {entry = entry} o n has f t s) named = sending_named past to (Plays entry) named
step_named {past = past} (sends {link = to} {command = command} {id = id} o n p s g f t d i v) named = sending_named past to (Asks command id) named
step_named {past = past} (waits_first {link = to} {gtid = gtid} o n p s g f t d v) named = sending_named past to (Waits gtid _) named
step_named {past = past} (probes_first {link = to} {gtid = gtid} o n p s g f t d v) named = sending_named past to (Probes gtid) named
step_named (floods o n p above) named = named
step_named (reads o n due) named = due_named due named

input_named : (past : List Item) (item : Item) → IsInput item past → Named past → Named (item ∷ past)
input_named past (ClientBytes bytes) input named = named
input_named past (LinkBytes from bytes) input named = λ link e a k s. named link e (sym (bytes_keep past from bytes link) ∙ a) k s
input_named past (LinkReady ready) input named = λ link e a k s. named link e (sym (ready_keeps past ready link) ∙ a) k s
input_named past ClientGone input named = named
input_named past (LinkLost gone) input named = named
input_named past (Ticks reading) input named = named
input_named past _ input named = absurd input

begins_named : (item : Item) → IsBeginning item → Named (item ∷ [])
begins_named (Accepted session scramble reading) its = λ other e a k s. no_reply e a
begins_named (TurnsAway told) its = λ other e a k s. no_reply e a
begins_named (Began link server reading) its = λ other e a k s. by_test other e (link == other) a
  where
    by_test : (other : ℕ) (e : Exchange) (test : Bool) → awaited (if test then Rests else Rests) ≡ Some e → is_some (named_on other (Began link server reading ∷ [])) ≡ true
    by_test other e true a = no_reply e a
    by_test other e false a = no_reply e a
begins_named _ its = absurd its

pub legal_named : {config : Config} {past : List Item} → IsRecord config past → Named past
legal_named (begins {item = item} its) = begins_named item its
legal_named {config} (goes {past = past} {item = item} legal next) = step_named (of_next config past item next) (legal_named legal)
legal_named (answered legal asked) = legal_named legal
legal_named (hears {past = past} {item = item} legal rests none n input) = input_named past item input (legal_named legal)
legal_named (starves legal once can its) = legal_named legal
