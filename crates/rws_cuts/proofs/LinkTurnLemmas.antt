-- A turn on a piece of a server's bytes, beside that on the piece with what comes next.
use Rattle.std.proofs.Common.{◌≡◌, ℕ, ◌+◌, ◌≤◌, Bool, true, false, List, [], ◌∷◌, ◌++◌, length, refl, sym, ap, subst, ◌∙◌, arith, append-nil, Some, None}
use Rattle.std.specs.Prelude.{◌≢◌, ◌==◌, if◌then◌else◌}
use Rattle.std.proofs.lemmas.Bool.{eq-eqb}
use Rattle.rws_reply.specs.declared.kind.Progress.TheVariants.{More, Whole as Ends}
use Rattle.rws_link.specs.declared.step.LinkCause.{LinkCause}
use Rattle.rws_link.specs.declared.step.LinkCause.TheVariants.{Unasked}
use Rattle.rws_link.specs.declared.step.LinkStep.{LinkStep}
use Rattle.rws_link.specs.declared.step.LinkStep.TheVariants as steps
use Rattle.rws_link.specs.Stepping.{LinkState, LogsIn, Rests, Awaits, IsLost, fed, step}
use Rattle.rws_link.proofs.LinkLemmas.{pieces_join}
use Rattle.rws_config.specs.declared.config.Config.{Config}
use Rattle.rws_record.specs.Item.{Item, Put}
use Rattle.rws_record.specs.Item.Item.{Comes, LinkBytes, Puts}
use Rattle.rws_record.specs.Values.{asking, held, is_over, linked, links}
use Rattle.rws_record.specs.Rules.{due_arrival, due_flood, due_route, due_sends, due_take, next, owed, ◌or◌}
use Rattle.rws_record.specs.Outputs.{outputs_of}
use Rattle.rws_record.proofs.StepLemmas.{neither, rests_owing_nothing, rests_with_nothing_due}
use Rattle.rws_cuts.specs.Turns.{Answer, Turns, answered}
use Rattle.rws_cuts.specs.Turns.Turns.{rests, goes_on, hears}
use Rattle.rws_cuts.specs.Exchanges.{changes, changes_on, is_whole}
use Rattle.rws_cuts.specs.Laws.{IsAlike, LinkPiecesJoin, LinkPiecesLost}
use Rattle.rws_cuts.proofs.State.{State, state_of}
use Rattle.rws_cuts.proofs.MirrorLemmas.{heard, moves, next_is, sends_are}
use Rattle.rws_cuts.proofs.AgreementLemmas.{agrees, next_same}
use Rattle.rws_cuts.proofs.HushLemmas.{rests_hushed}
use Rattle.rws_cuts.proofs.TurnLemmas.{alike_then, answered_alike, carried, ends_resting}
use Rattle.rws_cuts.proofs.StepsLemmas.{after_later, is_lively, lively_fed, lost_later, lost_so, part_later, part_lively, send_later, send_lively}
use Rattle.rws_cuts.proofs.LiveLemmas.{Arrives, Goes, Live, at_link, comes_too, fed_in, fed_sends, live_goes, others_of, others_still, owes_too, sends_same}
use Rattle.rws_cuts.proofs.LiveLemmas.Goes.{owes, comes}
use Rattle.rws_cuts.proofs.PartLemmas.{calm_fed, lost_fed, part_fed, part_live, put_live, send_fed, send_live}
use Rattle.rws_cuts.proofs.ServerLemmas.{MoreOn, Onward, Stands, gone_alike, gone_on, gone_onward, item_on, lost_fed_same, next_long}
use Rattle.rws_cuts.proofs.ServerLemmas.Stands.{live, gone, still}

-- The link goes on

module _ (config : Config) (link : ℕ) (more : List ℕ) (short long : List Item) (m : MoreOn config link more short long)
    (alive : Live config link (length (held config short)) (heard config short) (state_of config short)) where
  abbrev s : State
  s = state_of config short

  abbrev count : ℕ
  count = length (held config short)

  put_onward : (put : Put) (others : List Put) → owed config short ≡ put ∷ others → Onward config link more short long (Puts put)
  put_onward put others o = record {
    also = Puts put;
    next = next_long config link more short long m ∙ owes_too config link count (heard config short) s more put others alive o;
    more_on = item_on config link more short long m (Puts put) (Puts put) (calm_fed config link more s put others o alive.calm)
        (λ front. refl) (λ session. refl);
    stands = live (subst (λ (now : State). Live config link count (heard config short) now) (sym (moves config (Puts put) short))
        (put_live config link count (heard config short) s alive put others o));
  }

  fed_here : (said : LinkStep) → (step (fed more (linked link short))).answer ≡ said → (step ((fed_in link more s).linked link)).answer ≡ said
  fed_here said a =
      let its : (if link == link then fed more (linked link short) else linked link short) ≡ fed more (linked link short) = rw (eq-eqb link link refl) refl in
      ap (λ (l : LinkState). (step l).answer) its ∙ a

  next_here : (item : Item) (said : LinkStep) → owed config short ≡ [] → Arrives link s.links s.linked item
      → (step (fed more (linked link short))).answer ≡ said → said ≢ steps.Idle → next config long ≡ Some (Comes link said)
  next_here item said o arrives a some =
      next_long config link more short long m
      ∙ comes_too config link count (heard config short) s more item said alive o arrives (fed_here said a) some

  lost_here : (cause : LinkCause) → (step (linked link short)).answer ≡ steps.Lost cause → linked link (Comes link (steps.Lost cause) ∷ short) ≡ IsLost cause
  lost_here cause a = rw (eq-eqb link link refl) (lost_so (linked link short) cause a)

  -- what came doesn't end the reply
  word_onward : (item : Item) (said : LinkStep) → owed config short ≡ [] → Arrives link s.links s.linked item → (step (linked link short)).answer ≡ said
      → said ≢ steps.Idle → is_whole said ≡ false → Onward config link more short long (Comes link said)
  word_onward item steps.Idle o arrives a some w = absurd (some refl)
  word_onward item steps.LoggedIn o arrives a some w = absurd cc
  word_onward item (steps.Part payload its (Ends outcome) next behind) o arrives a some w = absurd cc
  word_onward item (steps.Send packets) o arrives a some w = record {
    also = Comes link (steps.Send packets);
    next = next_here item (steps.Send packets) o arrives (send_later (linked link short) more packets a) some;
    more_on = item_on config link more short long m (Comes link (steps.Send packets)) (Comes link (steps.Send packets))
        (send_fed config link more (heard config short) s (after_later (linked link short) more (steps.Send packets) a some) packets)
        (λ front. refl) (λ session. refl);
    stands = live (subst (λ (now : State). Live config link count (heard config short) now) (sym (moves config (Comes link (steps.Send packets)) short))
        (send_live config link count (heard config short) s alive (send_lively (linked link short) packets a) packets));
  }
  word_onward item (steps.Lost cause) o arrives a some w = record {
    also = Comes link (steps.Lost cause);
    next = next_here item (steps.Lost cause) o arrives (lost_later (linked link short) more cause a) some;
    more_on = item_on config link more short long m (Comes link (steps.Lost cause)) (Comes link (steps.Lost cause))
        (lost_fed config link more (heard config short) s (after_later (linked link short) more (steps.Lost cause) a some) cause)
        (λ front. refl) (λ session. refl);
    stands = gone (lost_here cause a);
  }
  word_onward item (steps.Part payload its More next behind) o arrives a some w =
      let later = part_later (linked link short) more payload its More next behind a in
      let now : LinkStep = steps.Part payload its More next later.0 in
      record {
        also = Comes link now;
        next = next_here item now o arrives later.1 (λ idle. absurd (let clash : now ≡ steps.Idle = idle in cc));
        more_on = item_on config link more short long m (Comes link (steps.Part payload its More next behind)) (Comes link now)
            (part_fed config link more (heard config short) s
            (after_later (linked link short) more (steps.Part payload its More next behind) a some) payload its next behind later.0)
            (λ front. refl) (λ session. refl);
        stands = live (subst (λ (now : State). Live config link count (heard config short) now)
            (sym (moves config (Comes link (steps.Part payload its More next behind)) short))
            (part_live config link count (heard config short) s alive (part_lively (linked link short) payload its next behind a) payload its next behind));
      }

  here_whole : (said : LinkStep) → changes_on link (Comes link said) ≡ false → is_whole said ≡ false
  here_whole said c = let its : is_whole said ≡ false = rw (eq-eqb link link refl) at c in its

  by_goes : (item : Item) → Goes link s item → changes_on link item ≡ false → Onward config link more short long item
  by_goes item (owes {put = put} {others = others} o is) c =
      subst (λ (x : Item). Onward config link more short long x) (sym is) (put_onward put others o)
  by_goes item (comes o arrives) c =
      let said = (step (linked link short)).answer in
      subst (λ (x : Item). Onward config link more short long x) (sym arrives.is)
      (word_onward item said o arrives refl arrives.speaks (here_whole said (sym (ap (changes_on link) arrives.is) ∙ c)))

  live_onward : (item : Item) → next config short ≡ Some item → changes_on link item ≡ false → Onward config link more short long item
  live_onward item e c = by_goes item (live_goes config link count (heard config short) s item alive (sym (next_is config short) ∙ e)) c

module _ (config : Config) (link : ℕ) (more : List ℕ) where
  onward : (short long : List Item) (item : Item) → MoreOn config link more short long → Stands config link short → next config short ≡ Some item
      → changes_on link item ≡ false → Onward config link more short long item
  onward short long item m (live alive) e c = live_onward config link more short long m alive item e c
  onward short long item m (gone {cause = cause} lost) e c = gone_onward config link more short long item cause m lost e c
  onward short long item m (still none quiet) e c = absurd (let clash : None ≡ Some item = sym none ∙ e in cc)

  -- one that asks the worker has lost the link
  asks_gone : (short : List Item) → Stands config link short → asking short ≡ true → (cause : LinkCause) × (linked link short ≡ IsLost cause)
  asks_gone short (live alive) a = absurd (let clash : false ≡ true = sym alive.unasking ∙ a in cc)
  asks_gone short (gone {cause = cause} lost) a = (cause, lost)
  asks_gone short (still none quiet) a = absurd (let clash : false ≡ true = sym quiet ∙ a in cc)

  pub joins : (short long : List Item) → MoreOn config link more short long → next config short ≡ None → asking short ≡ false
      → IsAlike config (LinkBytes link more ∷ short) long
  joins short long m e a =
      let none : owed config short ≡ [] = rests_owing_nothing config short e a in
      let same : record (fed_in link more (state_of config short)) { owed = [] } ≡ fed_in link more (state_of config short) =
      ap (λ (list : List Put). record (fed_in link more (state_of config short)) { owed = list }) (sym none) in
      record {
        gave = λ session. append-nil (outputs_of session short) ∙ m.gave session;
        agrees = agrees config (LinkBytes link more ∷ short) long m.front (moves config (LinkBytes link more) short ∙ same ∙ sym m.state);
      }

  -- How often something changed on the link

  by_change : (test : Bool) (count : ℕ) → count ≤ (if test then count + 1 else count)
  by_change true count = omega arith
  by_change false count = omega arith

  unchanged : (test : Bool) (count : ℕ) → (if test then count + 1 else count) ≡ count → test ≡ false
  unchanged true count e = absurd (omega (arith, e))
  unchanged false count e = refl

  rises : (answers : List Answer) (past now : List Item) → Turns config answers past now → changes link past ≤ changes link now
  rises answers past now (rests e a) = omega arith
  rises answers past now (goes_on {item = item} e t) =
      let behind = rises answers (item ∷ past) now t in
      let first = by_change (changes_on link item) (changes link past) in omega (arith, behind, first)
  rises answers past now (hears {answer = answer} {answers = its} waits t) = rises its (answered config answer past ∷ past) now t

  runs : (first second : List Answer) (short between one : List Item) → Turns config first short between → changes link between ≡ changes link short
      → Turns config second (LinkBytes link more ∷ between) one → (long : List Item) → MoreOn config link more short long → Stands config link short
      → (other : List Item) × Turns config (first ++ second) long other × IsAlike config one other
  runs first second short between one (rests e a) same from long m stands =
      carried config second (LinkBytes link more ∷ short) one from long (joins short long m e a)
  runs first second short between one (goes_on {item = item} e t) same from long m stands =
      let on = by_change (changes_on link item) (changes link short) in
      let behind = rises first (item ∷ short) between t in
      let kept : changes link (item ∷ short) ≡ changes link short = omega (arith, on, behind, same) in
      let next = onward short long item m stands e (unchanged (changes_on link item) (changes link short) kept) in
      let run = runs first second (item ∷ short) between one t (same ∙ sym kept) from (next.also ∷ long) next.more_on next.stands in
      (run.0, goes_on {now = run.0} next.next run.1, run.2)
  runs first second short between one (hears {answer = answer} {answers = its} waits t) same from long m stands =
      let item = answered config answer short in
      let lost = asks_gone short stands waits in
      let alike = gone_alike config link more short long lost.0 m lost.1 in
      let run = runs its second (item ∷ short) between one t same from (answered config answer long ∷ long)
      (subst (λ (x : Item). MoreOn config link more (item ∷ short) (x ∷ long)) (answered_alike config short long answer alike.agrees)
      (gone_on config link more short long item lost.0 m lost.1 lost.1))
      (gone lost.1) in
      (run.0, hears (sym alike.agrees.asking ∙ waits) run.1, run.2)

-- at the beginning

both_fed : (link : ℕ) (a b : List ℕ) (s : State)
    → record (fed_in link (a ++ b) s) { owed = [] } ≡ fed_in link b (record (fed_in link a s) { owed = [] })
both_fed link a b s = λ i. record s { linked = λ other. by_test (link == other) (s.linked other) i; owed = [] }
  where
    by_test : (test : Bool) (its : LinkState) → (if test then fed (a ++ b) its else its)
        ≡ (if test then fed b (if test then fed a its else its) else (if test then fed a its else its))
    by_test true its = sym (pieces_join its a b)
    by_test false its = refl

begun : (config : Config) (link : ℕ) (past : List Item) (a b : List ℕ) → MoreOn config link b (LinkBytes link a ∷ past) (LinkBytes link (a ++ b) ∷ past)
begun config link past a b = record {
  state = moves config (LinkBytes link (a ++ b)) past
      ∙ both_fed link a b (state_of config past)
      ∙ ap (fed_in link b) (sym (moves config (LinkBytes link a) past));
  front = refl;
  gave = λ session. refl;
}

module _ (config : Config) (link : ℕ) (past : List Item) (a : List ℕ) (e : next config past ≡ None) (q : asking past ≡ false) (n : is_over past ≡ false) where
  first_live : is_lively (linked link past) ≡ true
      → Live config link (length (held config past)) (heard config past) (state_of config (LinkBytes link a ∷ past))
  first_live lively =
      let s : State = state_of config past in
      let now : State = state_of config (LinkBytes link a ∷ past) in
      let route = neither (due_route config past) (due_sends config (links past) past or (due_flood config past or (due_arrival (links past) past or due_take config past)))
      (rests_with_nothing_due config past e q n) in
      let all = neither (due_sends config (links past) past) (due_flood config past or (due_arrival (links past) past or due_take config past)) route.1 in
      let later = neither (due_flood config past) (due_arrival (links past) past or due_take config past) all.1 in
      record {
        unasking = q;
        goes_on = n;
        route = route.0;
        sends = sends_same config (links past) now (fed_in link a s) (λ other. refl)
            ∙ fed_sends config link a s lively
            ∙ sym (sends_are config past (links past))
            ∙ all.0;
        flood = later.0;
        take = (neither (due_arrival (links past) past) (due_take config past) later.1).1;
        others = others_still link (links past) (λ other. linked other past) (λ other. fed a (linked other past))
            (others_of link (links past) (λ other. linked other past) (rests_hushed config past e q n));
        lively = rw (eq-eqb link link refl) (lively_fed a (linked link past) lively);
        calm = refl;
      }

  fed_first : (its now : LinkState) → linked link past ≡ its → fed a its ≡ now → linked link (LinkBytes link a ∷ past) ≡ now
  fed_first its now is to = rw (eq-eqb link link refl) (ap (fed a) is ∙ to)

nothing_fed : (link : ℕ) (past : List Item) (other : ℕ) → linked link past ≡ Rests
    → (if link == other then fed [] (linked other past) else linked other past) ≡ linked other past
nothing_fed link past other is = by_test (link == other) refl
  where
    by_test : (test : Bool) → (link == other) ≡ test → (if test then fed [] (linked other past) else linked other past) ≡ linked other past
    by_test true t = let its : linked other past ≡ Rests = at_link link other (λ l. linked l past ≡ Rests) is t in ap (fed []) its ∙ sym its
    by_test false t = refl

-- no byte came on a link that rests
still_rests : (config : Config) (link : ℕ) (past : List Item) → next config past ≡ None → asking past ≡ false → linked link past ≡ Rests
    → next config (LinkBytes link [] ∷ past) ≡ None
still_rests config link past e q is =
    let none : owed config past ≡ [] = rests_owing_nothing config past e q in
    let same : record (fed_in link [] (state_of config past)) { owed = [] } ≡ state_of config past =
    λ i. record (state_of config past) { linked = λ other. nothing_fed link past other is i; owed = sym none i } in
    next_same config (LinkBytes link [] ∷ past) past (agrees config (LinkBytes link [] ∷ past) past refl (moves config (LinkBytes link []) past ∙ same))
    ∙ e

stands_first : (config : Config) (link : ℕ) (past : List Item) (a : List ℕ) → next config past ≡ None → asking past ≡ false → is_over past ≡ false
    → (its : LinkState) → linked link past ≡ its → Stands config link (LinkBytes link a ∷ past)
stands_first config link past a e q n (LogsIn handshake unread) is = live (first_live config link past a e q n (ap is_lively is))
stands_first config link past a e q n (Awaits exchange unread) is = live (first_live config link past a e q n (ap is_lively is))
stands_first config link past a e q n (IsLost cause) is = gone (fed_first config link past a e q n (IsLost cause) (IsLost cause) is refl)
stands_first config link past (byte ∷ bytes) e q n Rests is =
    gone (fed_first config link past (byte ∷ bytes) e q n Rests (IsLost Unasked) is refl)
stands_first config link past [] e q n Rests is = still (still_rests config link past e q is) q

pub link_pieces_join : LinkPiecesJoin
link_pieces_join config link first second a b past between one e q n t same from =
    runs config link b first second (LinkBytes link a ∷ past) between one t same from (LinkBytes link (a ++ b) ∷ past) (begun config link past a b)
    (stands_first config link past a e q n (linked link past) refl)

-- where the link is lost behind the first piece

lost_alike : (config : Config) (link : ℕ) (past : List Item) (bytes : List ℕ) (cause : LinkCause) → owed config past ≡ [] → linked link past ≡ IsLost cause
    → IsAlike config past (LinkBytes link bytes ∷ past)
lost_alike config link past bytes cause none lost =
    let same : record (fed_in link bytes (state_of config past)) { owed = [] } ≡ state_of config past =
    ap (λ (list : List Put). record (fed_in link bytes (state_of config past)) { owed = list }) (sym none)
    ∙ lost_fed_same link bytes (state_of config past) cause lost in
    record {
      gave = λ session. sym (append-nil (outputs_of session past));
      agrees = agrees config past (LinkBytes link bytes ∷ past) refl (sym (moves config (LinkBytes link bytes) past ∙ same));
    }

pub link_pieces_lost : LinkPiecesLost
link_pieces_lost config link answers a b past between cause e q n t same lost =
    let end = ends_resting config answers (LinkBytes link a ∷ past) between t in
    let alike = lost_alike config link between b cause (rests_owing_nothing config between end.0 end.1) lost in
    let both = link_pieces_join config link answers [] a b past between (LinkBytes link b ∷ between) e q n t same
    (rests (sym (next_same config between (LinkBytes link b ∷ between) alike.agrees) ∙ end.0) end.1) in (
      both.0,
      subst (λ (its : List Answer). Turns config its (LinkBytes link (a ++ b) ∷ past) both.0) (append-nil answers) both.1,
      alike_then config between (LinkBytes link b ∷ between) both.0 alike both.2,
    )
