-- Links that have nothing to say, and that stay so where nothing comes of them.
use Rattle.std.proofs.Common.{◌≡◌, ℕ, zero, suc, ◌<◌, Bool, true, false, List, [], ◌∷◌, ◌++◌, length, refl, ap, subst, ◌∙◌, arith, None}
use Rattle.std.specs.Prelude.{◌==◌, Contains, slice_index_or, if◌then◌else◌}
use Rattle.std.proofs.lemmas.Bool.{eq-eqb}
use Rattle.rws_wire.specs.Payloads.{first_payload, payload_behind}
use Rattle.rws_wire.specs.Payloads.Beginning.{Nothing}
use Rattle.rws_native.specs.declared.login.Login.{Login}
use Rattle.rws_reply.specs.declared.kind.Kind.{Kind}
use Rattle.rws_link.specs.declared.step.LinkStep.{LinkStep}
use Rattle.rws_link.specs.declared.step.LinkStep.TheVariants as steps
use Rattle.rws_link.specs.Stepping.{LinkState, opened as opening, step}
use Rattle.rws_config.specs.declared.config.Config.{Config}
use Rattle.rws_record.specs.Item.{Item, Put}
use Rattle.rws_record.specs.Item.Item.{Puts}
use Rattle.rws_record.specs.Item.Put.{Hands, Tells, Records, Routes, Opens, LogsInto, Sends, Forgets, Drops, Closes}
use Rattle.rws_record.specs.Values.{kind_of, linked, links, sent_all, sent_for, without}
use Rattle.rws_record.specs.Rules.{coming, due_arrival, due_flood, due_route, due_sends, due_take, next, ◌or◌}
use Rattle.rws_record.specs.Values.{asking, is_over}
use Rattle.rws_record.proofs.LinkedLemmas.{Says}
use Rattle.rws_record.proofs.LinkedLemmas.Says.{answers, enters, hurries, fails, breaks, part, garbled, wrong, again}
use Rattle.rws_record.proofs.StepLemmas.{neither, rests_with_nothing_due}
use Rattle.rws_cuts.proofs.State.{arrival_in}

abbrev pub IsIdle : LinkState → Type 0
IsIdle link = (step link).answer ≡ steps.Idle

abbrev pub AreIdle : List ℕ → (ℕ → LinkState) → Type 0
AreIdle [] linked = Unit {0}
AreIdle (link ∷ others) linked = IsIdle (linked link) × AreIdle others linked

-- none of the session's links has anything to say
abbrev pub Hushed : List Item → Type 0
Hushed past = AreIdle (links past) (λ link. linked link past)

-- It is so where none is read

pub no_coming : (link : ℕ) (said : LinkStep) → coming link said ≡ None → said ≡ steps.Idle
no_coming link steps.Idle e = refl
no_coming link (steps.Send bytes) e = absurd cc
no_coming link steps.LoggedIn e = absurd cc
no_coming link (steps.Part payload role progress next behind) e = absurd cc
no_coming link (steps.Lost cause) e = absurd cc

idle_of : (past : List Item) (some : List ℕ) → due_arrival some past ≡ None → AreIdle some (λ link. linked link past)
idle_of past [] e = tt
idle_of past (link ∷ others) e =
    let first = neither (coming link (step (linked link past)).answer) (due_arrival others past) e in
    (no_coming link (step (linked link past)).answer first.0, idle_of past others first.1)

-- where a session rests
pub rests_hushed : (config : Config) (past : List Item) → next config past ≡ None → asking past ≡ false → is_over past ≡ false → Hushed past
rests_hushed config past e a n =
    let route = neither (due_route config past) (due_sends config (links past) past or (due_flood config past or (due_arrival (links past) past or due_take config past)))
    (rests_with_nothing_due config past e a n) in
    let all = neither (due_sends config (links past) past) (due_flood config past or (due_arrival (links past) past or due_take config past)) route.1 in
    let later = neither (due_flood config past) (due_arrival (links past) past or due_take config past) all.1 in
    idle_of past (links past) (neither (due_arrival (links past) past) (due_take config past) later.1).0

pub none_arrives : (some : List ℕ) (linked : ℕ → LinkState) → AreIdle some linked → arrival_in some linked ≡ None
none_arrives [] linked idle = refl
none_arrives (link ∷ others) linked idle =
    ap (λ (said : LinkStep). coming link said or arrival_in others linked) idle.0 ∙ none_arrives others linked idle.1

-- It stays so

nothing_came : (limit number : ℕ) → first_payload limit number [] ≡ Nothing
unfolding first_payload payload_behind
nothing_came limit number = refl

opened_idle : (login : Login) → IsIdle (opening login)
opened_idle login = rw nothing_came refl

sent_idle : (payloads : List (List ℕ)) (kind : Kind) → IsIdle (sent_all payloads kind)
sent_idle [] kind = refl
sent_idle (payload ∷ []) kind = rw nothing_came refl
sent_idle (payload ∷ other ∷ others) kind = sent_idle (other ∷ others) kind

-- one of two
if_idle : (test : Bool) (one other : LinkState) → IsIdle one → IsIdle other → IsIdle (if test then one else other)
if_idle true one other first second = first
if_idle false one other first second = second

-- each link that is idle is so in another state
pub still_idle : (some : List ℕ) (one other : ℕ → LinkState) → ((link : ℕ) → IsIdle (one link) → IsIdle (other link)) → AreIdle some one → AreIdle some other
still_idle [] one other keeps idle = tt
still_idle (link ∷ others) one other keeps idle = (keeps link idle.0, still_idle others one other keeps idle.1)

without_idle : (gone : ℕ) (some : List ℕ) (linked : ℕ → LinkState) → AreIdle some linked → AreIdle (without gone some) linked
without_idle gone [] linked idle = tt
without_idle gone (link ∷ others) linked idle = by_test (link == gone) refl (without_idle gone others linked idle.1)
  where
    by_test : (test : Bool) → (link == gone) ≡ test → AreIdle (without gone others) linked → AreIdle (without gone (link ∷ others)) linked
    by_test true t behind = rw t behind
    by_test false t behind = rw t (idle.0, behind)

with_idle : (some : List ℕ) (link : ℕ) (linked : ℕ → LinkState) → AreIdle some linked → IsIdle (linked link) → AreIdle (some ++ link ∷ []) linked
with_idle [] link linked idle its = (its, tt)
with_idle (first ∷ others) link linked idle its = (idle.0, with_idle others link linked idle.1 its)

opened_here : (link : ℕ) (login : Login) (before : LinkState) → IsIdle (if link == link then opening login else before)
opened_here link login before = rw (eq-eqb link link refl) (opened_idle login)

pub put_hushed : (put : Put) (past : List Item) → Hushed past → Hushed (Puts put ∷ past)
put_hushed (Hands packets) past idle = idle
put_hushed (Tells number tell) past idle = idle
put_hushed (Records server gtid) past idle = idle
put_hushed Routes past idle = idle
put_hushed (Opens opened server login) past idle =
    let now : ℕ → LinkState = λ link. if opened == link then opening login else linked link past in
    with_idle (without opened (links past)) opened now
    (still_idle (without opened (links past)) (λ link. linked link past) now
    (λ link its. if_idle (opened == link) (opening login) (linked link past) (opened_idle login) its)
    (without_idle opened (links past) (λ link. linked link past) idle))
    (opened_here opened login (linked opened past))
put_hushed (LogsInto link packets) past idle = idle
put_hushed (Sends to purpose) past idle =
    still_idle (links past) (λ link. linked link past) (λ link. if to == link then sent_all (sent_for purpose) (kind_of purpose) else linked link past)
    (λ link its. if_idle (to == link) (sent_all (sent_for purpose) (kind_of purpose)) (linked link past) (sent_idle (sent_for purpose) (kind_of purpose)) its)
    idle
put_hushed (Forgets link id) past idle = idle
put_hushed (Drops gone cause) past idle = without_idle gone (links past) (λ link. linked link past) idle
put_hushed (Closes reason) past idle = idle

-- No link says anything

idle_at : (linked : ℕ → LinkState) (some : List ℕ) (link k : ℕ) → k < length some → slice_index_or some k link ≡ link → AreIdle some linked → IsIdle (linked link)
idle_at linked [] link k below is idle = absurd (omega arith)
idle_at linked (first ∷ others) link zero below is idle = subst (λ (l : ℕ). IsIdle (linked l)) is idle.0
idle_at linked (first ∷ others) link (suc k) below is idle = idle_at linked others link k (omega arith) is idle.1

pub has_idle : (past : List Item) (link : ℕ) → Hushed past → Contains (links past) link → IsIdle (linked link past)
has_idle past link idle has = idle_at (λ other. linked other past) (links past) link has.0 has.1 has.2 idle

pub says_something : {A : Type 0} {link : LinkState} {said : LinkStep} → Says link said → said ≡ steps.Idle → A
says_something (answers f r) e = absurd cc
says_something (enters f r) e = absurd cc
says_something (hurries f r) e = absurd cc
says_something (fails f r) e = absurd cc
says_something (breaks f) e = absurd cc
says_something (part f r p) e = absurd cc
says_something (garbled f) e = absurd cc
says_something (wrong f p) e = absurd cc
says_something again e = absurd cc
