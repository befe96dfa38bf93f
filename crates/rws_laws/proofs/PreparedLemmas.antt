-- A link that counts as prepared was prepared.
use Rattle.std.proofs.Common.{◌≡◌, ℕ, Bool, true, false, List, [], ◌∷◌, ◌++◌, refl, sym, ap, subst, ◌∙◌, eqb-true, Option, Some, None}
use Rattle.std.specs.Prelude.{◌==◌, if◌then◌else◌}
use Rattle.std.proofs.lemmas.Bool.{eq-eqb}
use Rattle.rws_config.specs.declared.config.Config.{Config}
use Rattle.rws_reply.specs.declared.kind.Kind.TheVariants.{Query as QueryReply}
use Rattle.rws_reply.specs.declared.kind.Outcome.TheVariants.{Done, Failed}
use Rattle.rws_reply.specs.declared.kind.Progress.{Progress}
use Rattle.rws_reply.specs.declared.kind.Progress.TheVariants.{More, Whole as Ends}
use Rattle.rws_reply.specs.declared.role.Role.{Role}
use Rattle.rws_reply.specs.Replies.{Payload, IsReply}
use Rattle.rws_reply.specs.Tracking.{progress}
use Rattle.rws_reply.proofs.ProgressLemmas.{progress_is_exact}
use Rattle.rws_link.specs.declared.step.LinkStep.{LinkStep}
use Rattle.rws_link.specs.declared.step.LinkStep.TheVariants as steps
use Rattle.rws_link.specs.Stepping.{LinkState, Awaits, Exchange}
use Rattle.rws_record.specs.Item.{Item, Purpose, Put}
use Rattle.rws_record.specs.Item.Item.{Accepted, TurnsAway, Began, ClientBytes, LinkReady, LinkBytes, ClientGone, LinkLost, Ticks, Comes, Puts}
use Rattle.rws_record.specs.Item.Put.{Hands, Tells, Records, Routes, Opens, LogsInto, Sends, Forgets, Drops, Closes}
use Rattle.rws_record.specs.Item.Purpose.{Prepares, Asks, Plays, Waits, Probes}
use Rattle.rws_record.specs.Values.{asked_on, awaited, is_up, kind_of, linked, prepared_by}
use Rattle.rws_record.specs.Record.{IsBeginning, IsInput, IsRecord}
use Rattle.rws_record.specs.Record.IsRecord.{begins, steps as goes, answers as answered, hears, starves}
use Rattle.rws_record.proofs.LinkedLemmas.{Says, awaits_asked}
use Rattle.rws_record.proofs.LinkedLemmas.Says.{answers, enters, hurries, fails, breaks, part, garbled, wrong, again}
use Rattle.rws_record.proofs.StepLemmas.{Due, Step, of_next}
use Rattle.rws_record.proofs.StepLemmas.Due.{comes, connects, takes}
use Rattle.rws_record.proofs.StepLemmas.Step.{pays, asks, prepares, forgets, plays, sends, waits_first, probes_first, floods, reads}
use Rattle.rws_laws.specs.Servers.{WasPrepared, came_on}
use Rattle.rws_laws.specs.Servers.WasPrepared.{with_session, as_ready, by_reply, since}
use Rattle.rws_laws.proofs.CameLemmas.{Came, legal_came}
use Rattle.rws_laws.proofs.Sound.{same_some}

abbrev pub ArePrepared : List Item → Type 0
ArePrepared past = (link : ℕ) → is_up link past ≡ true → WasPrepared link past

module _ (past : List Item) (from : ℕ) (came : Came past) (before : ArePrepared past) where
  -- a payload of a reply
  module _ (e : Exchange) (bytes payload : Payload) (its : Role) (number : ℕ) (behind : Bool) (is : linked from past ≡ Awaits e bytes) where
    abbrev said : Progress → LinkStep
    said far = steps.Part payload its far number behind

    whole_now : (status : ℕ) → progress e.kind e.sofar payload ≡ Some (Ends (Done status)) → asked_on from past ≡ Some Prepares
        → WasPrepared from (Comes from (said (Ends (Done status))) ∷ past)
    whole_now status p a =
        let was = awaits_asked from past e bytes is in
        let same : was.purpose ≡ Prepares = same_some was.purpose Prepares (sym was.is ∙ a) in
        let kind : e.kind ≡ QueryReply = sym was.answered ∙ ap kind_of same in
        let reply : IsReply e.kind (e.sofar ++ payload ∷ []) (Done status) = ((progress_is_exact e.kind e.sofar payload).whole (Done status)).0 p in
        let reply : IsReply QueryReply (e.sofar ++ payload ∷ []) (Done status) = rw kind at reply in
        let itself : (from == from) ≡ true = eq-eqb from from refl in
        let with_it : came_on from (Comes from (said (Ends (Done status))) ∷ past) ≡ e.sofar ++ payload ∷ [] =
        rw itself (ap (λ (list : List Payload). list ++ payload ∷ []) (sym (came from e (ap awaited is)))) in
        by_reply {status = status} refl a (subst (λ (list : List Payload). IsReply QueryReply list (Done status)) (sym with_it) reply)

    part_now : (far : Progress) (asked : Option Purpose) → progress e.kind e.sofar payload ≡ Some far → asked_on from past ≡ asked
        → prepared_by (said far) asked (is_up from past) ≡ true → WasPrepared from (Comes from (said far) ∷ past)
    part_now More asked p a u = since (before from u)
    part_now (Ends (Failed code)) asked p a u = since (before from u)
    part_now (Ends (Done status)) None p a u = since (before from u)
    part_now (Ends (Done status)) (Some (Asks command id)) p a u = since (before from u)
    part_now (Ends (Done status)) (Some (Plays command)) p a u = since (before from u)
    part_now (Ends (Done status)) (Some (Waits gtid seconds)) p a u = since (before from u)
    part_now (Ends (Done status)) (Some (Probes gtid)) p a u = since (before from u)
    part_now (Ends (Done status)) (Some Prepares) p a u = whole_now status p a

  said_now : (state : LinkState) (said : LinkStep) → linked from past ≡ state → Says state said
      → prepared_by said (asked_on from past) (is_up from past) ≡ true → WasPrepared from (Comes from said ∷ past)
  said_now state said is (part {e = e} {unread = bytes} {payload = payload} {rest = rest} {number = number} {its = its} {far = far} f r p) u =
      part_now e bytes payload its number _ is far (asked_on from past) p refl u
  said_now state said is (answers f r) u = since (before from u)
  said_now state said is (enters f r) u = since (before from u)
  said_now state said is (hurries f r) u = since (before from u)
  said_now state said is (fails f r) u = since (before from u)
  said_now state said is (breaks f) u = since (before from u)
  said_now state said is (garbled f) u = since (before from u)
  said_now state said is (wrong f p) u = since (before from u)
  said_now state said is again u = since (before from u)

  coming_prepared : (said : LinkStep) → Says (linked from past) said → ArePrepared (Comes from said ∷ past)
  coming_prepared said it = λ link u. by_test link (from == link) refl u
    where
      by_test : (link : ℕ) (test : Bool) → (from == link) ≡ test
          → (if test then prepared_by said (asked_on link past) (is_up link past) else is_up link past) ≡ true
          → WasPrepared link (Comes from said ∷ past)
      by_test link true t u =
          let same : from ≡ link = eqb-true from link t in
          subst (λ (l : ℕ). WasPrepared l (Comes from said ∷ past)) same
          (said_now (linked from past) said refl it
          (subst (λ (l : ℕ). prepared_by said (asked_on l past) (is_up l past) ≡ true) (sym same) u))
      by_test link false t u = since (before link u)

put_prepared : (past : List Item) (put : Put) → ArePrepared past → ArePrepared (Puts put ∷ past)
put_prepared past (Opens opened server login) before = λ link u. by_test link (opened == link) u
  where
    by_test : (link : ℕ) (test : Bool) → (if test then false else is_up link past) ≡ true
        → WasPrepared link (Puts (Opens opened server login) ∷ past)
    by_test link true u = absurd cc
    by_test link false u = since (before link u)
put_prepared past (Hands packets) before = λ link u. since (before link u)
put_prepared past (Records server gtid) before = λ link u. since (before link u)
put_prepared past (Tells number tell) before = λ link u. since (before link u)
put_prepared past Routes before = λ link u. since (before link u)
put_prepared past (Forgets to id) before = λ link u. since (before link u)
put_prepared past (LogsInto to packets) before = λ link u. since (before link u)
put_prepared past (Sends to purpose) before = λ link u. since (before link u)
put_prepared past (Drops gone cause) before = λ link u. since (before link u)
put_prepared past (Closes reason) before = λ link u. since (before link u)

due_prepared : {config : Config} {past : List Item} {item : Item} → Due config past item → Came past → ArePrepared past
    → ArePrepared (item ∷ past)
due_prepared {past = past} (comes {link = from} {said = said} has a it) came before = coming_prepared past from came before said it
due_prepared (connects p f c) came before = λ link u. since (before link u)
due_prepared (takes p f) came before = λ link u. since (before link u)

step_prepared : {config : Config} {past : List Item} {item : Item} → Step config past item → Came past → ArePrepared past
    → ArePrepared (item ∷ past)
step_prepared {past = past} (pays {put = put} o) came before = put_prepared past put before
step_prepared {past = past} (asks o n p k l) came before = put_prepared past Routes before
step_prepared {past = past} (prepares {link = to} o n k c) came before = put_prepared past (Sends to Prepares) before
step_prepared {past = past} (plays {link = to} {entry = entry} o n k c t s) came before = put_prepared past (Sends to (Plays entry)) before
step_prepared {past = past} (sends {link = to} {command = command} {id = id} o n p s k c t d i v) came before = put_prepared past (Sends to (Asks command id)) before
step_prepared {past = past} (waits_first {link = to} {gtid = gtid} o n p s g f t d v) came before = put_prepared past (Sends to (Waits gtid _)) before
step_prepared {past = past} (probes_first {link = to} {gtid = gtid} o n p s g f t d v) came before = put_prepared past (Sends to (Probes gtid)) before
step_prepared (forgets o n has f t) came before = λ link u. since (before link u)
step_prepared (floods o n p above) came before = λ link u. since (before link u)
step_prepared (reads o n due) came before = due_prepared due came before

input_prepared : (past : List Item) (item : Item) → IsInput item past → ArePrepared past → ArePrepared (item ∷ past)
input_prepared past (LinkReady ready) input before = λ link u. by_test link (ready == link) refl u
  where
    by_test : (link : ℕ) (test : Bool) → (ready == link) ≡ test → (if test then true else is_up link past) ≡ true
        → WasPrepared link (LinkReady ready ∷ past)
    by_test link true t u = subst (λ (l : ℕ). WasPrepared l (LinkReady ready ∷ past)) (eqb-true ready link t) as_ready
    by_test link false t u = since (before link u)
input_prepared past (ClientBytes bytes) input before = λ link u. since (before link u)
input_prepared past (LinkBytes from bytes) input before = λ link u. since (before link u)
input_prepared past ClientGone input before = λ link u. since (before link u)
input_prepared past (LinkLost gone) input before = λ link u. since (before link u)
input_prepared past (Ticks reading) input before = λ link u. since (before link u)
input_prepared past _ input before = absurd input

begins_prepared : (item : Item) → IsBeginning item → ArePrepared (item ∷ [])
begins_prepared (Accepted session scramble reading) its = λ link u. absurd cc
begins_prepared (TurnsAway told) its = λ link u. absurd cc
begins_prepared (Began first server reading) its = λ link u. by_test link (first == link) refl u
  where
    by_test : (link : ℕ) (test : Bool) → (first == link) ≡ test → (if test then true else false) ≡ true → WasPrepared link (Began first server reading ∷ [])
    by_test link true t u = subst (λ (l : ℕ). WasPrepared l (Began first server reading ∷ [])) (eqb-true first link t) with_session
    by_test link false t u = absurd cc
begins_prepared _ its = absurd its

pub legal_prepared : {config : Config} {past : List Item} → IsRecord config past → ArePrepared past
legal_prepared (begins {item = item} its) = begins_prepared item its
legal_prepared {config} (goes {past = past} {item = item} legal next) =
    step_prepared (of_next config past item next) (legal_came legal) (legal_prepared legal)
legal_prepared (answered legal asked) = λ link u. since (legal_prepared legal link u)
legal_prepared (hears {past = past} {item = item} legal rests none n input) = input_prepared past item input (legal_prepared legal)
legal_prepared (starves legal once can its) = λ link u. since (legal_prepared legal link u)
