-- A session while one link of it goes on with a reply, or its login: nothing is due but what comes of that link.
use Rattle.std.proofs.Common.{◌≡◌, ℕ, Bool, true, false, List, [], ◌∷◌, refl, sym, ap, subst, ◌∙◌, inl, inr, Option, Some, None}
use Rattle.std.specs.Prelude.{◌≢◌, ◌⊎◌, ◌==◌, if◌then◌else◌}
use Rattle.std.proofs.lemmas.Bool.{eqb-true}
use Rattle.rws_front.specs.declared.step.FrontStep.{FrontStep}
use Rattle.rws_link.specs.declared.step.LinkStep.{LinkStep}
use Rattle.rws_link.specs.declared.step.LinkStep.TheVariants as steps
use Rattle.rws_link.specs.Stepping.{LinkState, fed, step}
use Rattle.rws_config.specs.declared.config.Config.{Config}
use Rattle.rws_record.specs.Item.{Item, Put}
use Rattle.rws_record.specs.Item.Item.{Comes, Puts}
use Rattle.rws_record.specs.Item.Put.{Tells, Records, LogsInto}
use Rattle.rws_record.specs.Item.Tell.{Passes}
use Rattle.rws_record.specs.Rules.{coming, is_ready, next_by, unless_asking, ◌or◌}
use Rattle.rws_cuts.proofs.State.{State, arrival_in, due_in, flood_in, next_in, route_in, sends_in, take_in}
use Rattle.rws_cuts.proofs.HushLemmas.{AreIdle, IsIdle}
use Rattle.rws_cuts.proofs.StepsLemmas.{is_lively, lively_fed, lively_not_ready}

-- what is owed of a reply that goes on, or of a login
abbrev pub is_calm : List Put → Bool
is_calm [] = true
is_calm (LogsInto link packets ∷ others) = is_calm others
is_calm (Records server gtid ∷ others) = is_calm others
is_calm (Tells number (Passes link command payload None recording) ∷ others) = is_calm others
is_calm _ = false

-- no other link has anything to say
abbrev pub OthersIdle : ℕ → List ℕ → (ℕ → LinkState) → Type 0
OthersIdle link [] linked = Unit {0}
OthersIdle link (first ∷ others) linked = ((link == first) ≡ false → IsIdle (linked first)) × OthersIdle link others linked

-- `said` is what comes of the client's bytes, of which so many are held
pub record Live (config : Config) (link held : ℕ) (said : FrontStep) (s : State) : Type 0 where
  pub unasking : s.asking ≡ false
  pub goes_on : s.is_over ≡ false
  pub route : route_in s ≡ None
  pub sends : sends_in config s.links s ≡ None
  pub flood : flood_in config held s ≡ None
  pub take : take_in config said s ≡ None
  pub others : OthersIdle link s.links s.linked
  pub lively : is_lively (s.linked link) ≡ true
  pub calm : is_calm s.owed ≡ true

-- What is sent

pub sends_same : (config : Config) (some : List ℕ) (one other : State) → ((link : ℕ) → due_in config link one ≡ due_in config link other)
    → sends_in config some one ≡ sends_in config some other
sends_same config [] one other same = refl
sends_same config (link ∷ others) one other same =
    ap (λ (item : Option Item). item or sends_in config others one) (same link)
    ∙ ap (λ (item : Option Item). due_in config link other or item) (sends_same config others one other same)

-- a link with other bytes, that is as ready as it was
abbrev pub relinked : (ℕ → LinkState) → State → State
relinked linked s = record s { linked = linked }

pub ready_due : (config : Config) (s : State) (linked : ℕ → LinkState) (link : ℕ) → is_ready (linked link) ≡ is_ready (s.linked link)
    → due_in config link (relinked linked s) ≡ due_in config link s
ready_due config s linked link e = rw e refl

-- more bytes on a link
abbrev pub fed_in : ℕ → List ℕ → State → State
fed_in link more s = relinked (λ other. if link == other then fed more (s.linked other) else s.linked other) s

pub at_link : (link other : ℕ) (P : ℕ → Type 0) → P link → (link == other) ≡ true → P other
at_link link other P its t = subst P (eqb-true link other t) its

fed_ready : (link : ℕ) (more : List ℕ) (linked : ℕ → LinkState) (other : ℕ) → is_lively (linked link) ≡ true
    → is_ready (if link == other then fed more (linked other) else linked other) ≡ is_ready (linked other)
fed_ready link more linked other lively = by_test (link == other) refl
  where
    by_test : (test : Bool) → (link == other) ≡ test
        → is_ready (if test then fed more (linked other) else linked other) ≡ is_ready (linked other)
    by_test true t =
        let its : is_lively (linked other) ≡ true = at_link link other (λ l. is_lively (linked l) ≡ true) lively t in
        lively_not_ready (fed more (linked other)) (lively_fed more (linked other) its) ∙ sym (lively_not_ready (linked other) its)
    by_test false t = refl

pub fed_sends : (config : Config) (link : ℕ) (more : List ℕ) (s : State) → is_lively (s.linked link) ≡ true
    → sends_in config s.links (fed_in link more s) ≡ sends_in config s.links s
fed_sends config link more s lively =
    sends_same config s.links (fed_in link more s) s
    (λ other. ready_due config s (λ l. if link == l then fed more (s.linked l) else s.linked l) other (fed_ready link more s.linked other lively))

-- Other links

pub others_of : (link : ℕ) (some : List ℕ) (linked : ℕ → LinkState) → AreIdle some linked → OthersIdle link some linked
others_of link [] linked idle = tt
others_of link (first ∷ others) linked idle = (λ t. idle.0, others_of link others linked idle.1)

-- whatever becomes of this one
pub others_still : (link : ℕ) (some : List ℕ) (linked moved : ℕ → LinkState) → OthersIdle link some linked
    → OthersIdle link some (λ other. if link == other then moved other else linked other)
others_still link [] linked moved idle = tt
others_still link (first ∷ others) linked moved idle = (
  λ t. let e : (if link == first then moved first else linked first) ≡ linked first = rw t refl in
      ap (λ (l : LinkState). (step l).answer) e ∙ idle.0 t,
  others_still link others linked moved idle.1,
)

-- What comes

-- what comes comes of this link, and comes of it in any state in which the others are idle too
pub record Arrives (link : ℕ) (some : List ℕ) (linked : ℕ → LinkState) (item : Item) : Type 0 where
  pub is : item ≡ Comes link (step (linked link)).answer
  pub speaks : (step (linked link)).answer ≢ steps.Idle
  pub also : (other : ℕ → LinkState) → OthersIdle link some other → (said : LinkStep) → (step (other link)).answer ≡ said → said ≢ steps.Idle
      → arrival_in some other ≡ Some (Comes link said)

coming_some : (link : ℕ) (said : LinkStep) → said ≢ steps.Idle → (behind : Option Item) → (coming link said or behind) ≡ Some (Comes link said)
coming_some link steps.Idle some behind = absurd (some refl)
coming_some link (steps.Send packets) some behind = refl
coming_some link steps.LoggedIn some behind = refl
coming_some link (steps.Part payload role progress next others) some behind = refl
coming_some link (steps.Lost cause) some behind = refl

idle_or_not : (said : LinkStep) → (said ≡ steps.Idle) ⊎ (said ≢ steps.Idle)
idle_or_not steps.Idle = inl refl
idle_or_not (steps.Send packets) = inr (λ e. absurd cc)
idle_or_not steps.LoggedIn = inr (λ e. absurd cc)
idle_or_not (steps.Part payload role progress next others) = inr (λ e. absurd cc)
idle_or_not (steps.Lost cause) = inr (λ e. absurd cc)

-- past a link that is idle
pass : (link : ℕ) (others : List ℕ) (linked : ℕ → LinkState) → IsIdle (linked link) → arrival_in (link ∷ others) linked ≡ arrival_in others linked
pass link others linked idle = ap (λ (said : LinkStep). coming link said or arrival_in others linked) idle

module _ (link : ℕ) where
  -- it stands first
  here : (others : List ℕ) (linked : ℕ → LinkState) (item : Item) → (step (linked link)).answer ≢ steps.Idle
      → arrival_in (link ∷ others) linked ≡ Some item → Arrives link (link ∷ others) linked item
  here others linked item speaks e =
      let its : Some (Comes link (step (linked link)).answer) ≡ Some item =
      sym (coming_some link (step (linked link)).answer speaks (arrival_in others linked)) ∙ e in
      record {
        is = cc;
        speaks = speaks;
        also = λ other idle said a some.
            ap (λ (word : LinkStep). coming link word or arrival_in others other) a ∙ coming_some link said some (arrival_in others other);
      }

  -- it stands further behind, where no link in front of it has anything to say, or where it says nothing itself in front
  arrives : (some : List ℕ) (linked : ℕ → LinkState) (item : Item) → OthersIdle link some linked → arrival_in some linked ≡ Some item
      → Arrives link some linked item
  arrives [] linked item idle e = absurd cc
  arrives (first ∷ others) linked item idle e = by_test (link == first) refl (λ e. arrives others linked item idle.1 e)
    where
      by_test : (test : Bool) → (link == first) ≡ test → (arrival_in others linked ≡ Some item → Arrives link others linked item)
          → Arrives link (first ∷ others) linked item
      by_test false t go =
          let behind = go (sym (pass first others linked (idle.0 t)) ∙ e) in
          record {
            is = behind.is;
            speaks = behind.speaks;
            also = λ other its said a some. pass first others other (its.0 t) ∙ behind.also other its.1 said a some;
          }
      by_test true t go =
          let same : link ≡ first = eqb-true link first t in
          elim (idle_or_not (step (linked first)).answer) [
            | inl idle ↦
                let behind = go (sym (pass first others linked idle) ∙ e) in
                absurd (behind.speaks (ap (λ (l : ℕ). (step (linked l)).answer) same ∙ idle))
            | inr speaks ↦
                subst (λ (l : ℕ). Arrives link (l ∷ others) linked item) same
                (here others linked item (λ idle. speaks (sym (ap (λ (l : ℕ). (step (linked l)).answer) same) ∙ idle))
                (subst (λ (l : ℕ). arrival_in (l ∷ others) linked ≡ Some item) (sym same) e))
          ]

-- What is next

-- something that is owed, or what comes of the link
pub data Goes (link : ℕ) (s : State) (item : Item) : Type 0 where
  owes : {put : Put} {others : List Put} → s.owed ≡ put ∷ others → item ≡ Puts put → Goes link s item
  comes : s.owed ≡ [] → Arrives link s.links s.linked item → Goes link s item

next_owing : (config : Config) (held : ℕ) (said : FrontStep) (s : State) (put : Put) (others : List Put) → s.asking ≡ false → s.owed ≡ put ∷ others
    → next_in config held said s ≡ Some (Puts put)
next_owing config held said s put others a o = rw (a, o) refl

plainly : (asks : Bool) (owed : List Put) (over : Bool) (route sends flood behind : Option Item) → asks ≡ false → owed ≡ [] → over ≡ false
    → route ≡ None → sends ≡ None → flood ≡ None
    → unless_asking asks (next_by owed over (route or (sends or (flood or behind)))) ≡ behind
plainly asks owed over route sends flood behind a o n r s f = rw (a, o, n, r, s, f) refl

next_coming : (config : Config) (held : ℕ) (said : FrontStep) (s : State) → s.asking ≡ false → s.owed ≡ [] → s.is_over ≡ false
    → route_in s ≡ None → sends_in config s.links s ≡ None → flood_in config held s ≡ None
    → next_in config held said s ≡ (arrival_in s.links s.linked or take_in config said s)
next_coming config held said s a o n route sends flood =
    plainly s.asking s.owed s.is_over (route_in s) (sends_in config s.links s) (flood_in config held s)
    (arrival_in s.links s.linked or take_in config said s) a o n route sends flood

or_none : (item other : Option Item) → other ≡ None → (item or other) ≡ item
or_none None other e = e
or_none (Some item) other e = refl

pub live_goes : (config : Config) (link held : ℕ) (said : FrontStep) (s : State) (item : Item) → Live config link held said s
    → next_in config held said s ≡ Some item → Goes link s item
live_goes config link held said s item live e = by_owed s.owed refl
  where
    by_owed : (list : List Put) → s.owed ≡ list → Goes link s item
    by_owed [] o =
        comes o (arrives link s.links s.linked item live.others
        (sym (or_none (arrival_in s.links s.linked) (take_in config said s) live.take)
        ∙ sym (next_coming config held said s live.unasking o live.goes_on live.route live.sends live.flood) ∙ e))
    by_owed (put ∷ others) o =
        let its : Some (Puts put) ≡ Some item = sym (next_owing config held said s put others live.unasking o) ∙ e in
        owes o cc

-- where more bytes came on the link

pub owes_too : (config : Config) (link held : ℕ) (said : FrontStep) (s : State) (more : List ℕ) (put : Put) (others : List Put)
    → Live config link held said s → s.owed ≡ put ∷ others → next_in config held said (fed_in link more s) ≡ Some (Puts put)
owes_too config link held said s more put others live o = next_owing config held said (fed_in link more s) put others live.unasking o

pub comes_too : (config : Config) (link held : ℕ) (said : FrontStep) (s : State) (more : List ℕ) (item : Item) (word : LinkStep)
    → Live config link held said s → s.owed ≡ [] → Arrives link s.links s.linked item
    → (step ((fed_in link more s).linked link)).answer ≡ word → word ≢ steps.Idle
    → next_in config held said (fed_in link more s) ≡ Some (Comes link word)
comes_too config link held said s more item word live o arrives a some =
    next_coming config held said (fed_in link more s) live.unasking o live.goes_on live.route
    (fed_sends config link more s live.lively ∙ live.sends) live.flood
    ∙ or_none (arrival_in s.links (fed_in link more s).linked) (take_in config said s) live.take
    ∙ arrives.also (fed_in link more s).linked (others_still link s.links s.linked (λ other. fed more (s.linked other)) live.others) word a some
