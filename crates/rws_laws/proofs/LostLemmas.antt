-- Why a link is lost: of a session that goes on and owes nothing it is since a byte came that nobody awaited.
use Rattle.std.proofs.Common.{◌≡◌, ℕ, Bool, true, false, List, [], ◌∷◌, refl, sym, ap, subst, ◌∙◌, inl, inr, Option, Some, None, eqb-true}
use Rattle.std.specs.Prelude.{◌⊎◌, ◌==◌, if◌then◌else◌}
use Rattle.rws_wire.specs.Payloads.{Beginning, first_payload}
use Rattle.rws_wire.specs.Payloads.Beginning.{Nothing, Whole, Faulty}
use Rattle.rws_reply.specs.declared.kind.Outcome.{Outcome}
use Rattle.rws_reply.specs.declared.kind.Progress.{Progress}
use Rattle.rws_reply.specs.declared.kind.Progress.TheVariants.{More, Whole as Ends}
use Rattle.rws_reply.specs.declared.role.Role.{Role}
use Rattle.rws_reply.specs.Tracking.{progress, role}
use Rattle.rws_reply.proofs.ProgressLemmas.{progress_is_exact}
use Rattle.rws_wire.specs.declared.drop_cause.DropCause.{DropCause}
use Rattle.rws_config.specs.declared.config.Config.{Config}
use Rattle.rws_config.specs.declared.limits.TheConstants.{SERVER_PAYLOAD}
use Rattle.rws_native.specs.declared.login.Login.{Login}
use Rattle.rws_link.specs.declared.handshake.Handshake.{Handshake}
use Rattle.rws_link.specs.declared.handshake.Reaction.{Reaction}
use Rattle.rws_link.specs.declared.handshake.Reaction.TheVariants.{Answers, Accepted, Loses}
use Rattle.rws_link.specs.Handshake.{due, reaction}
use Rattle.rws_link.specs.declared.step.LinkCause.{LinkCause}
use Rattle.rws_link.specs.declared.step.LinkCause.TheVariants.{Unasked}
use Rattle.rws_link.specs.declared.step.LinkStep.{LinkStep}
use Rattle.rws_link.specs.declared.step.LinkStep.TheVariants as steps
use Rattle.rws_link.specs.Stepping.{LinkState, LogsIn, Rests, Awaits, IsLost, Exchange, behind_part, fed, is_new, logged_in, opened as opening, reacted, readied, read_by, replied, replied_by, settled, step, with_part}
use Rattle.rws_record.specs.Item.{Item, Purpose, Put}
use Rattle.rws_record.specs.Item.Item.{Accepted, TurnsAway, Began, ClientBytes, LinkReady, LinkBytes, ClientGone, LinkLost, Ticks, Routed, Comes, Connects, Takes, Floods, Puts, Starves}
use Rattle.rws_record.specs.Item.Put.{Hands, Tells, Records, Routes, Opens, LogsInto, Sends, Forgets, Drops, Closes}
use Rattle.rws_record.specs.Item.Purpose.{Prepares, Asks, Plays, Waits, Probes}
use Rattle.rws_record.specs.Values.{awaited, contains, is_starved, kind_of, link_held, linked, links, sent_all, sent_for, unread, without}
use Rattle.rws_record.specs.Rules.{drop_cause, owed}
use Rattle.rws_record.specs.Record.{IsBeginning, IsRecord, IsInput}
use Rattle.rws_record.specs.Record.IsRecord.{begins, steps as goes, answers as answered, hears, starves}
use Rattle.rws_record.proofs.LinkedLemmas.{Says, after_loss_is, after_part_is}
use Rattle.rws_record.proofs.LinkedLemmas.Says.{answers, enters, hurries, fails, breaks, part, garbled, wrong, again}
use Rattle.rws_record.proofs.StepLemmas.{Due, Step, of_next, rests_owing_nothing}
use Rattle.rws_record.proofs.StepLemmas.Due.{comes, connects, takes}
use Rattle.rws_record.proofs.StepLemmas.Step.{pays, asks, prepares, forgets, plays, sends, waits_first, probes_first, floods, reads}
use Rattle.rws_record.proofs.WantLemmas.{input_starved, step_starved}
use Rattle.rws_record.proofs.WithoutLemmas.{without_has_not, without_keeps_out}
use Rattle.rws_laws.specs.Servers.{LoginCame, LoginFailed, WasUnasked}
use Rattle.rws_laws.specs.Servers.LoginFailed.{no_greeting, not_served, error_came, other_plugin, no_answer, bad_question}
use Rattle.rws_laws.specs.Servers.WasUnasked.{resting, behind_login, behind_reply, earlier}
use Rattle.rws_laws.proofs.ListLemmas.{no_more}
use Rattle.rws_laws.proofs.CameLemmas.{by_sent, after_answer_is, after_entering_is}
use Rattle.rws_laws.proofs.HandshakeLemmas.{fails_so, takes_so}
use Rattle.rws_record.proofs.OpeningLemmas.{asks_owing_nothing}

-- A byte that nobody awaited

fed_unasked : (past : List Item) (link : ℕ) (bytes : List ℕ) (state : LinkState) → linked link past ≡ state
    → fed bytes state ≡ IsLost Unasked → (linked link past ≡ IsLost Unasked → WasUnasked link past)
    → WasUnasked link (LinkBytes link bytes ∷ past)
fed_unasked past link bytes (LogsIn handshake unread) is now below = absurd cc
fed_unasked past link [] Rests is now below = absurd cc
fed_unasked past link (byte ∷ rest) Rests is now below = resting is
fed_unasked past link bytes (Awaits e unread) is now below = absurd cc
fed_unasked past link bytes (IsLost cause) is now below = earlier (below (is ∙ now))

module _ (past : List Item) (link : ℕ) (said : LinkStep) (e : Exchange) (bytes : List ℕ) (is : linked link past ≡ Awaits e bytes) where
  settled_unasked : (payload rest : List ℕ) (number : ℕ) (outcome : Outcome) → first_payload SERVER_PAYLOAD e.next bytes ≡ Whole payload number rest
      → progress e.kind e.sofar payload ≡ Some (Ends outcome) → settled rest ≡ IsLost Unasked → WasUnasked link (Comes link said ∷ past)
  settled_unasked payload [] number outcome f p now = absurd cc
  settled_unasked payload (byte ∷ rest) number outcome f p now =
      behind_reply {e = e} {payload = payload} {rest = rest} {byte = byte} {number = number} outcome (ap awaited is)
      (ap (λ (s : LinkState). first_payload SERVER_PAYLOAD e.next (unread s)) is ∙ f)
      (((progress_is_exact e.kind e.sofar payload).whole outcome).0 p)

  part_unasked : (payload rest : List ℕ) (number : ℕ) (far : Progress) → first_payload SERVER_PAYLOAD e.next bytes ≡ Whole payload number rest
      → progress e.kind e.sofar payload ≡ Some far → behind_part (with_part payload number e) rest far ≡ IsLost Unasked
      → WasUnasked link (Comes link said ∷ past)
  part_unasked payload rest number More f p now = absurd cc
  part_unasked payload rest number (Ends outcome) f p now = settled_unasked payload rest number outcome f p now

  replied_unasked : (payload rest : List ℕ) (number : ℕ) (its : Option Role) (far : Option Progress)
      → first_payload SERVER_PAYLOAD e.next bytes ≡ Whole payload number rest → progress e.kind e.sofar payload ≡ far
      → (replied_by e payload number rest its far).after ≡ IsLost Unasked → WasUnasked link (Comes link said ∷ past)
  replied_unasked payload rest number (Some its) (Some far) f p now = part_unasked payload rest number far f p now
  replied_unasked payload rest number (Some its) None f p now = absurd cc
  replied_unasked payload rest number None (Some far) f p now = absurd cc
  replied_unasked payload rest number None None f p now = absurd cc

  read_unasked : (found : Beginning) → first_payload SERVER_PAYLOAD e.next bytes ≡ found
      → (read_by (Awaits e bytes) (replied e) found).after ≡ IsLost Unasked → WasUnasked link (Comes link said ∷ past)
  read_unasked Nothing f now = absurd cc
  read_unasked (Whole payload number rest) f now =
      replied_unasked payload rest number (role e.kind e.sofar payload) (progress e.kind e.sofar payload) f refl now
  read_unasked (Faulty fault) f now = absurd cc

-- a login fails for no such byte
not_unasked : {A : Type 0} {payload : List ℕ} {handshake : Handshake} {cause : LinkCause} → LoginFailed payload handshake cause
    → cause ≡ Unasked → A
not_unasked (no_greeting g) is = absurd cc
not_unasked (not_served g s) is = absurd cc
not_unasked (error_came e) is = absurd cc
not_unasked (other_plugin p n) is = absurd cc
not_unasked (no_answer e o p) is = absurd cc
not_unasked (bad_question e o s) is = absurd cc

module _ (past : List Item) (link : ℕ) (said : LinkStep) (handshake : Handshake) (bytes : List ℕ) (is : linked link past ≡ LogsIn handshake bytes) where
  pub its_login : {payload rest : List ℕ} {number : ℕ} → first_payload SERVER_PAYLOAD (due handshake) bytes ≡ Whole payload number rest
      → LoginCame link handshake payload number rest past
  its_login f = let held : link_held link past ≡ bytes = ap unread is in record { state = rw held is; begins = rw held f }

  entered_unasked : (payload rest : List ℕ) (number : ℕ) → first_payload SERVER_PAYLOAD (due handshake) bytes ≡ Whole payload number rest
      → reaction handshake payload number ≡ Accepted → (logged_in rest).after ≡ IsLost Unasked → WasUnasked link (Comes link said ∷ past)
  entered_unasked payload [] number f r now = absurd cc
  entered_unasked payload (byte ∷ rest) number f r now = behind_login (its_login f) (takes_so handshake payload number r)

  reacted_unasked : (payload rest : List ℕ) (number : ℕ) (its : Reaction) → first_payload SERVER_PAYLOAD (due handshake) bytes ≡ Whole payload number rest
      → reaction handshake payload number ≡ its → (reacted rest its).after ≡ IsLost Unasked → WasUnasked link (Comes link said ∷ past)
  reacted_unasked payload rest number (Answers packets stage1 next) f r now = absurd cc
  reacted_unasked payload rest number Accepted f r now = entered_unasked payload rest number f r now
  reacted_unasked payload rest number (Loses cause) f r now =
      let same : cause ≡ Unasked = cc in not_unasked (fails_so handshake payload number cause r) same

  greeted_unasked : (found : Beginning) → first_payload SERVER_PAYLOAD (due handshake) bytes ≡ found
      → (read_by (LogsIn handshake bytes) (λ payload next rest. reacted rest (reaction handshake payload next)) found).after ≡ IsLost Unasked
      → WasUnasked link (Comes link said ∷ past)
  greeted_unasked Nothing f now = absurd cc
  greeted_unasked (Whole payload number rest) f now = reacted_unasked payload rest number (reaction handshake payload number) f refl now
  greeted_unasked (Faulty fault) f now = absurd cc

step_unasked : (past : List Item) (link : ℕ) (said : LinkStep) (state : LinkState) → linked link past ≡ state
    → (step state).after ≡ IsLost Unasked → (linked link past ≡ IsLost Unasked → WasUnasked link past)
    → WasUnasked link (Comes link said ∷ past)
step_unasked past link said (LogsIn handshake bytes) is now below =
    greeted_unasked past link said handshake bytes is (first_payload SERVER_PAYLOAD (due handshake) bytes) refl now
step_unasked past link said Rests is now below = absurd cc
step_unasked past link said (Awaits e bytes) is now below =
    read_unasked past link said e bytes is (first_payload SERVER_PAYLOAD e.next bytes) refl now
step_unasked past link said (IsLost cause) is now below = earlier (below (is ∙ now))

-- one that counts as ready was lost before
readied_lost : (link : LinkState) (cause : LinkCause) → readied link ≡ IsLost cause → link ≡ IsLost cause
readied_lost (LogsIn handshake bytes) cause now = by_test (is_new (LogsIn handshake bytes)) now
  where
    by_test : (test : Bool) → (if test then Rests else LogsIn handshake bytes) ≡ IsLost cause → LogsIn handshake bytes ≡ IsLost cause
    by_test true now = absurd cc
    by_test false now = now
readied_lost Rests cause now = now
readied_lost (Awaits e bytes) cause now = now
readied_lost (IsLost other) cause now = now

pub was_unasked : (link : ℕ) (past : List Item) → linked link past ≡ IsLost Unasked → WasUnasked link past
was_unasked link [] now = absurd cc
was_unasked link (Began opened server reading ∷ past) now = by_test (opened == link) now (was_unasked link past)
  where
    by_test : (test : Bool) → (if test then Rests else linked link past) ≡ IsLost Unasked
        → (linked link past ≡ IsLost Unasked → WasUnasked link past) → WasUnasked link (Began opened server reading ∷ past)
    by_test true now below = absurd cc
    by_test false now below = earlier (below now)
was_unasked link (LinkBytes from bytes ∷ past) now = by_test (from == link) refl now (was_unasked link past)
  where
    by_test : (test : Bool) → (from == link) ≡ test → (if test then fed bytes (linked link past) else linked link past) ≡ IsLost Unasked
        → (linked link past ≡ IsLost Unasked → WasUnasked link past) → WasUnasked link (LinkBytes from bytes ∷ past)
    by_test true t now below =
        subst (λ (l : ℕ). WasUnasked link (LinkBytes l bytes ∷ past)) (sym (eqb-true from link t))
        (fed_unasked past link bytes (linked link past) refl now below)
    by_test false t now below = earlier (below now)
was_unasked link (Comes from said ∷ past) now = by_test (from == link) refl now (was_unasked link past)
  where
    by_test : (test : Bool) → (from == link) ≡ test → (if test then (step (linked link past)).after else linked link past) ≡ IsLost Unasked
        → (linked link past ≡ IsLost Unasked → WasUnasked link past) → WasUnasked link (Comes from said ∷ past)
    by_test true t now below =
        subst (λ (l : ℕ). WasUnasked link (Comes l said ∷ past)) (sym (eqb-true from link t))
        (step_unasked past link said (linked link past) refl now below)
    by_test false t now below = earlier (below now)
was_unasked link (Puts (Sends to purpose) ∷ past) now = by_test (to == link) now (was_unasked link past)
  where
    by_test : (test : Bool)
        → (if test then sent_all (sent_for purpose) (kind_of purpose) else linked link past) ≡ IsLost Unasked
        → (linked link past ≡ IsLost Unasked → WasUnasked link past) → WasUnasked link (Puts (Sends to purpose) ∷ past)
    by_test true now below =
        absurd (by_sent (λ (state : LinkState). state ≡ IsLost Unasked → ⊥) (λ e. cc) (λ x e. cc) (sent_for purpose) (kind_of purpose) now)
    by_test false now below = earlier (below now)
was_unasked link (LinkReady ready ∷ past) now = by_test (ready == link) now (was_unasked link past)
  where
    by_test : (test : Bool) → (if test then readied (linked link past) else linked link past) ≡ IsLost Unasked
        → (linked link past ≡ IsLost Unasked → WasUnasked link past) → WasUnasked link (LinkReady ready ∷ past)
    by_test true now below = earlier (below (readied_lost (linked link past) Unasked now))
    by_test false now below = earlier (below now)
was_unasked link (Puts (Opens opened server login) ∷ past) now = by_test (opened == link) now (was_unasked link past)
  where
    by_test : (test : Bool) → (if test then opening login else linked link past) ≡ IsLost Unasked
        → (linked link past ≡ IsLost Unasked → WasUnasked link past) → WasUnasked link (Puts (Opens opened server login) ∷ past)
    by_test true now below = absurd cc
    by_test false now below = earlier (below now)
was_unasked link (Accepted session scramble reading ∷ past) now = earlier (was_unasked link past now)
was_unasked link (TurnsAway told ∷ past) now = earlier (was_unasked link past now)
was_unasked link (Routed words loads next found ∷ past) now = earlier (was_unasked link past now)
was_unasked link (Connects said ∷ past) now = earlier (was_unasked link past now)
was_unasked link (Puts (Hands packets) ∷ past) now = earlier (was_unasked link past now)
was_unasked link (Puts (Records server gtid) ∷ past) now = earlier (was_unasked link past now)
was_unasked link (Puts Routes ∷ past) now = earlier (was_unasked link past now)
was_unasked link (Puts (Forgets to id) ∷ past) now = earlier (was_unasked link past now)
was_unasked link (Puts (LogsInto to packets) ∷ past) now = earlier (was_unasked link past now)
was_unasked link (ClientBytes bytes ∷ past) now = earlier (was_unasked link past now)
was_unasked link (ClientGone ∷ past) now = earlier (was_unasked link past now)
was_unasked link (LinkLost gone ∷ past) now = earlier (was_unasked link past now)
was_unasked link (Ticks reading ∷ past) now = earlier (was_unasked link past now)
was_unasked link (Takes judged number ∷ past) now = earlier (was_unasked link past now)
was_unasked link (Floods bytes ∷ past) now = earlier (was_unasked link past now)
was_unasked link (Starves made number ∷ past) now = earlier (was_unasked link past now)
was_unasked link (Puts (Tells number tell) ∷ past) now = earlier (was_unasked link past now)
was_unasked link (Puts (Drops given cause) ∷ past) now = earlier (was_unasked link past now)
was_unasked link (Puts (Closes reason) ∷ past) now = earlier (was_unasked link past now)

-- Whoever fails otherwise is given up at once

-- a link is lost for this: for a byte that nobody awaited, or the session has it no more, or is about to give it up
data Losing (config : Config) (link : ℕ) (cause : LinkCause) (past : List Item) : Type 0 where
  unasked : cause ≡ Unasked → Losing config link cause past
  gone : contains link (links past) ≡ false → Losing config link cause past
  soon : owed config past ≡ Drops link (drop_cause cause) ∷ [] → Losing config link cause past

abbrev AllLosing : Config → List Item → Type 0
AllLosing config past = (link : ℕ) (cause : LinkCause) → linked link past ≡ IsLost cause → Losing config link cause past

-- an item that leaves the link as it was, where nothing was owed
still : {config : Config} {past : List Item} {item : Item} {link : ℕ} {cause : LinkCause} → owed config past ≡ []
    → (contains link (links past) ≡ false → contains link (links (item ∷ past)) ≡ false) → Losing config link cause past
    → Losing config link cause (item ∷ past)
still o less (unasked is) = unasked is
still o less (gone is) = gone (less is)
still o less (soon is) = absurd cc

-- what a link says that is lost by it

settled_lost : (rest : List ℕ) (cause : LinkCause) → settled rest ≡ IsLost cause → cause ≡ Unasked
settled_lost [] cause now = absurd cc
settled_lost (byte ∷ rest) cause now = cc

part_lost : (e : Exchange) (rest : List ℕ) (far : Progress) (cause : LinkCause) → behind_part e rest far ≡ IsLost cause → cause ≡ Unasked
part_lost e rest More cause now = absurd cc
part_lost e rest (Ends outcome) cause now = settled_lost rest cause now

said_lost : (state : LinkState) (said : LinkStep) (cause : LinkCause) → Says state said → (step state).after ≡ IsLost cause
    → (cause ≡ Unasked) ⊎ (said ≡ steps.Lost cause)
said_lost state said cause (part {e = e} {unread = bytes} {payload = payload} {rest = rest} {number = number} {its = its} {far = far} f r p) now =
    inl (part_lost (with_part payload number e) rest far cause (sym (after_part_is e bytes payload rest number its far f r p) ∙ now))
said_lost state said cause (answers {handshake = handshake} {unread = bytes} f r) now =
    absurd (let clash : LogsIn _ _ ≡ IsLost cause = sym (after_answer_is handshake bytes f r) ∙ now in cc)
said_lost state said cause (enters {handshake = handshake} {unread = bytes} f r) now =
    absurd (let clash : Rests ≡ IsLost cause = sym (after_entering_is handshake bytes f r) ∙ now in cc)
said_lost state said cause (hurries f r) now =
    let same : IsLost _ ≡ IsLost cause = sym (after_loss_is state said _ (hurries f r) refl) ∙ now in inr (cc)
said_lost state said cause (fails f r) now =
    let same : IsLost _ ≡ IsLost cause = sym (after_loss_is state said _ (fails f r) refl) ∙ now in inr (cc)
said_lost state said cause (breaks f) now =
    let same : IsLost _ ≡ IsLost cause = sym (after_loss_is state said _ (breaks f) refl) ∙ now in inr (cc)
said_lost state said cause (garbled f) now =
    let same : IsLost _ ≡ IsLost cause = sym (after_loss_is state said _ (garbled f) refl) ∙ now in inr (cc)
said_lost state said cause (wrong f p) now =
    let same : IsLost _ ≡ IsLost cause = sym (after_loss_is state said _ (wrong f p) refl) ∙ now in inr (cc)
said_lost state said cause again now = inr (cc)

coming_loses : (config : Config) (past : List Item) (from : ℕ) (said : LinkStep) → owed config past ≡ [] → Says (linked from past) said → AllLosing config past
    → AllLosing config (Comes from said ∷ past)
coming_loses config past from said o it all = λ link cause now. by_test link cause (from == link) refl now
  where
    by_said : (link : ℕ) (cause : LinkCause) → from ≡ link → (cause ≡ Unasked) ⊎ (said ≡ steps.Lost cause)
        → Losing config link cause (Comes from said ∷ past)
    by_said link cause same (inl is) = unasked is
    by_said link cause same (inr is) = soon (rw is (ap (λ (l : ℕ). Drops l (drop_cause cause) ∷ []) same))

    by_test : (link : ℕ) (cause : LinkCause) (test : Bool) → (from == link) ≡ test
        → (if test then (step (linked link past)).after else linked link past) ≡ IsLost cause → Losing config link cause (Comes from said ∷ past)
    by_test link cause true t now =
        let same : from ≡ link = eqb-true from link t in
        by_said link cause same (said_lost (linked link past) said cause (subst (λ (l : ℕ). Says (linked l past) said) same it) now)
    by_test link cause false t now = still o (λ less. less) (all link cause now)

fed_loses : (past : List Item) (link : ℕ) (bytes : List ℕ) (cause : LinkCause) (state : LinkState) → linked link past ≡ state
    → fed bytes state ≡ IsLost cause → (cause ≡ Unasked) ⊎ (linked link past ≡ IsLost cause)
fed_loses past link bytes cause (LogsIn handshake unread) is now = absurd cc
fed_loses past link [] cause Rests is now = absurd cc
fed_loses past link (byte ∷ rest) cause Rests is now = inl (cc)
fed_loses past link bytes cause (Awaits e unread) is now = absurd cc
fed_loses past link bytes cause (IsLost other) is now = inr (is ∙ now)

bytes_lose : (config : Config) (past : List Item) (from : ℕ) (bytes : List ℕ) → owed config past ≡ [] → AllLosing config past → AllLosing config (LinkBytes from bytes ∷ past)
bytes_lose config past from bytes o all = λ link cause now. by_test link cause (from == link) now
  where
    by_cause : (link : ℕ) (cause : LinkCause) → (cause ≡ Unasked) ⊎ (linked link past ≡ IsLost cause)
        → Losing config link cause (LinkBytes from bytes ∷ past)
    by_cause link cause (inl is) = unasked is
    by_cause link cause (inr is) = still o (λ less. less) (all link cause is)

    by_test : (link : ℕ) (cause : LinkCause) (test : Bool)
        → (if test then fed bytes (linked link past) else linked link past) ≡ IsLost cause
        → Losing config link cause (LinkBytes from bytes ∷ past)
    by_test link cause true now = by_cause link cause (fed_loses past link bytes cause (linked link past) refl now)
    by_test link cause false now = by_cause link cause (inr now)

ready_loses : (config : Config) (past : List Item) (ready : ℕ) → owed config past ≡ [] → AllLosing config past → AllLosing config (LinkReady ready ∷ past)
ready_loses config past ready o all = λ link cause now. by_test link cause (ready == link) now
  where
    by_test : (link : ℕ) (cause : LinkCause) (test : Bool) → (if test then readied (linked link past) else linked link past) ≡ IsLost cause
        → Losing config link cause (LinkReady ready ∷ past)
    by_test link cause true now = still o (λ less. less) (all link cause (readied_lost (linked link past) cause now))
    by_test link cause false now = still o (λ less. less) (all link cause now)

sending_loses : (config : Config) (past : List Item) (to : ℕ) (purpose : Purpose)
    → ((link : ℕ) (cause : LinkCause) → linked link past ≡ IsLost cause → Losing config link cause (Puts (Sends to purpose) ∷ past))
    → AllLosing config (Puts (Sends to purpose) ∷ past)
sending_loses config past to purpose all = λ link cause now. by_test link cause (to == link) now
  where
    by_test : (link : ℕ) (cause : LinkCause) (test : Bool)
        → (if test then sent_all (sent_for purpose) (kind_of purpose) else linked link past) ≡ IsLost cause
        → Losing config link cause (Puts (Sends to purpose) ∷ past)
    by_test link cause true now =
        absurd (by_sent (λ (state : LinkState). state ≡ IsLost cause → ⊥) (λ e. cc) (λ x e. cc) (sent_for purpose) (kind_of purpose) now)
    by_test link cause false now = all link cause now

-- something is given out, but no link given up
stays : (config : Config) (past : List Item) (put : Put) (link : ℕ) (cause : LinkCause) → (owed config past ≡ Drops link (drop_cause cause) ∷ [] → ⊥)
    → links (Puts put ∷ past) ≡ links past → Losing config link cause past → Losing config link cause (Puts put ∷ past)
stays config past put link cause other same (unasked is) = unasked is
stays config past put link cause other same (gone is) = gone (rw same is)
stays config past put link cause other same (soon is) = absurd (other is)

given_up : (config : Config) (past : List Item) (other : ℕ) (why : DropCause) (others : List Put) (link : ℕ) (cause : LinkCause)
    → owed config past ≡ Drops other why ∷ others → Losing config link cause past → Losing config link cause (Puts (Drops other why) ∷ past)
given_up config past other why others link cause o (unasked is) = unasked is
given_up config past other why others link cause o (gone is) = gone (without_keeps_out other link (links past) is)
given_up config past other why others link cause o (soon is) =
    let same : other ≡ link = cc in gone (rw same (without_has_not link (links past)))

opening_loses : (config : Config) (past : List Item) (opened server : ℕ) (login : Login) (others : List Put) → owed config past ≡ Opens opened server login ∷ others
    → AllLosing config past → AllLosing config (Puts (Opens opened server login) ∷ past)
opening_loses config past opened server login others o all = λ link cause now. by_test link cause (opened == link) refl now
  where
    by_losing : (link : ℕ) (cause : LinkCause) → (opened == link) ≡ false → Losing config link cause past
        → Losing config link cause (Puts (Opens opened server login) ∷ past)
    by_losing link cause t (unasked is) = unasked is
    by_losing link cause t (gone is) = gone (no_more link opened (without opened (links past)) (without_keeps_out opened link (links past) is) t)
    by_losing link cause t (soon is) =
        absurd (let clash : Opens opened server login ∷ others ≡ Drops link (drop_cause cause) ∷ [] = sym o ∙ is in cc)

    by_test : (link : ℕ) (cause : LinkCause) (test : Bool) → (opened == link) ≡ test
        → (if test then opening login else linked link past) ≡ IsLost cause → Losing config link cause (Puts (Opens opened server login) ∷ past)
    by_test link cause true t now = absurd cc
    by_test link cause false t now = by_losing link cause t (all link cause now)

put_loses : (config : Config) (past : List Item) (put : Put) (others : List Put) → owed config past ≡ put ∷ others → AllLosing config past → AllLosing config (Puts put ∷ past)
put_loses config past (Hands packets) others o all = λ link cause now.
    stays config past (Hands packets) link cause (λ is. let clash : Hands packets ∷ others ≡ Drops link (drop_cause cause) ∷ [] = sym o ∙ is in cc)
    refl (all link cause now)
put_loses config past (Records server gtid) others o all = λ link cause now.
    stays config past (Records server gtid) link cause (λ is. let clash : Records server gtid ∷ others ≡ Drops link (drop_cause cause) ∷ [] = sym o ∙ is in cc)
    refl (all link cause now)
put_loses config past Routes others o all = λ link cause now.
    stays config past Routes link cause (λ is. let clash : Routes ∷ others ≡ Drops link (drop_cause cause) ∷ [] = sym o ∙ is in cc)
    refl (all link cause now)
put_loses config past (LogsInto to packets) others o all = λ link cause now.
    stays config past (LogsInto to packets) link cause (λ is. let clash : LogsInto to packets ∷ others ≡ Drops link (drop_cause cause) ∷ [] = sym o ∙ is in cc)
    refl (all link cause now)
put_loses config past (Forgets to id) others o all = λ link cause now.
    stays config past (Forgets to id) link cause (λ is. let clash : Forgets to id ∷ others ≡ Drops link (drop_cause cause) ∷ [] = sym o ∙ is in cc)
    refl (all link cause now)
put_loses config past (Opens opened server login) others o all = opening_loses config past opened server login others o all
put_loses config past (Tells number tell) others o all = λ link cause now.
    stays config past (Tells number tell) link cause (λ is. let clash : Tells number tell ∷ others ≡ Drops link (drop_cause cause) ∷ [] = sym o ∙ is in cc)
    refl (all link cause now)
put_loses config past (Sends to purpose) others o all =
    sending_loses config past to purpose (λ link cause now.
    stays config past (Sends to purpose) link cause (λ is. let clash : Sends to purpose ∷ others ≡ Drops link (drop_cause cause) ∷ [] = sym o ∙ is in cc)
    refl (all link cause now))
put_loses config past (Drops other why) others o all = λ link cause now. given_up config past other why others link cause o (all link cause now)
put_loses config past (Closes reason) others o all = λ link cause now.
    stays config past (Closes reason) link cause (λ is. let clash : Closes reason ∷ others ≡ Drops link (drop_cause cause) ∷ [] = sym o ∙ is in cc)
    refl (all link cause now)

due_loses : {config : Config} {past : List Item} {item : Item} → owed config past ≡ [] → Due config past item → AllLosing config past
    → AllLosing config (item ∷ past)
due_loses {config} {past} o (comes {link = from} {said = said} has a it) all = coming_loses config past from said o it all
due_loses o (takes p f) all = λ link cause now. still o (λ less. less) (all link cause now)
due_loses o (connects p f c) all = λ link cause now. still o (λ less. less) (all link cause now)

step_loses : {config : Config} {past : List Item} {item : Item} → Step config past item → AllLosing config past → AllLosing config (item ∷ past)
step_loses {config} {past} (pays {put = put} {others = others} o) all = put_loses config past put others o all
step_loses (asks o n p k l) all = λ link cause now. still o (λ less. less) (all link cause now)
step_loses {config} {past} (prepares {link = to} o n k c) all =
    sending_loses config past to Prepares (λ link cause now. still o (λ less. less) (all link cause now))
step_loses {config} {past} (plays {link = to} {entry = entry} o n k c t s) all =
    sending_loses config past to (Plays entry) (λ link cause now. still o (λ less. less) (all link cause now))
step_loses {config} {past} (sends {link = to} {command = command} {id = id} o n p s k c t d i v) all =
    sending_loses config past to (Asks command id) (λ link cause now. still o (λ less. less) (all link cause now))
step_loses {config} {past} (waits_first {link = to} {gtid = gtid} o n p s g f t d v) all =
    sending_loses config past to (Waits gtid _) (λ link cause now. still o (λ less. less) (all link cause now))
step_loses {config} {past} (probes_first {link = to} {gtid = gtid} o n p s g f t d v) all =
    sending_loses config past to (Probes gtid) (λ link cause now. still o (λ less. less) (all link cause now))
step_loses (forgets o n has f t) all = λ link cause now. still o (λ less. less) (all link cause now)
step_loses (floods o n p above) all = λ link cause now. still o (λ less. less) (all link cause now)
step_loses (reads o n due) all = due_loses o due all

input_loses : (config : Config) (past : List Item) (item : Item) → owed config past ≡ [] → IsInput item past → AllLosing config past → AllLosing config (item ∷ past)
input_loses config past (ClientBytes bytes) o input all = λ link cause now. still o (λ less. less) (all link cause now)
input_loses config past (LinkReady ready) o input all = ready_loses config past ready o all
input_loses config past (LinkBytes from bytes) o input all = bytes_lose config past from bytes o all
input_loses config past ClientGone o input all = λ link cause now. still o (λ less. less) (all link cause now)
input_loses config past (LinkLost lost) o input all = λ link cause now.
    still o (λ less. without_keeps_out lost link (links past) less) (all link cause now)
input_loses config past (Ticks reading) o input all = λ link cause now. still o (λ less. less) (all link cause now)
input_loses config past _ o input all = absurd input

begun_loses : (config : Config) (link server reading : ℕ) → AllLosing config (Began link server reading ∷ [])
begun_loses config link server reading = λ other cause now. by_test other cause (link == other) now
  where
    by_test : (other : ℕ) (cause : LinkCause) (test : Bool) → (if test then Rests else Rests) ≡ IsLost cause
        → Losing config other cause (Began link server reading ∷ [])
    by_test other cause true now = absurd cc
    by_test other cause false now = absurd cc

begins_loses : (config : Config) (item : Item) → IsBeginning item → AllLosing config (item ∷ [])
begins_loses config (Accepted session scramble reading) its = λ other cause now. absurd cc
begins_loses config (TurnsAway told) its = λ other cause now. absurd cc
begins_loses config (Began link server reading) its = begun_loses config link server reading
begins_loses config _ its = absurd its

legal_losing : {config : Config} {past : List Item} → IsRecord config past → is_starved past ≡ false → AllLosing config past
legal_losing {config} (begins {item = item} its) fed = begins_loses config item its
legal_losing {config} (goes {past = past} {item = item} legal next) fed =
    let step = of_next config past item next in step_loses step (legal_losing legal (sym (step_starved step) ∙ fed))
legal_losing (answered legal asked) fed = λ link cause now.
    still (asks_owing_nothing legal asked) (λ less. less) (legal_losing legal fed link cause now)
legal_losing {config} (hears {past = past} {item = item} legal rests none n input) fed =
    input_loses config past item (rests_owing_nothing config past rests none) input (legal_losing legal (sym (input_starved past item input) ∙ fed))
legal_losing (starves legal once can its) fed = absurd cc

-- of a session that owes nothing, a link that it has is lost for nothing else
abbrev pub AreUnasked : List Item → Type 0
AreUnasked past = (link : ℕ) (cause : LinkCause) → contains link (links past) ≡ true → linked link past ≡ IsLost cause → cause ≡ Unasked

pub legal_unasked : {config : Config} {past : List Item} → IsRecord config past → is_starved past ≡ false → owed config past ≡ [] → AreUnasked past
legal_unasked {config} {past} legal fed o = λ link cause has now. by_losing link cause has (legal_losing legal fed link cause now)
  where
    by_losing : (link : ℕ) (cause : LinkCause) → contains link (links past) ≡ true → Losing config link cause past → cause ≡ Unasked
    by_losing link cause has (unasked is) = is
    by_losing link cause has (gone is) = absurd cc
    by_losing link cause has (soon is) = absurd cc
