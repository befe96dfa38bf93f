-- A session that heard a piece, and one that heard it with what comes next: they do the same, until the first rests.
use Rattle.std.proofs.Common.{◌≡◌, ℕ, ◌≤◌, true, false, List, [], ◌∷◌, ◌++◌, length, refl, sym, ap, subst, ◌∙◌, arith, append_assoc, append-nil, Some, None}
use Rattle.std.specs.Prelude.{◌≢◌}
use Rattle.std.proofs.lemmas.List.{length-append}
use Rattle.rws_front.specs.declared.step.FrontStep.{FrontStep}
use Rattle.rws_front.specs.declared.step.FrontStep.TheVariants as fronts
use Rattle.rws_front.specs.Fronting.{Fronting, fed as front_fed}
use Rattle.rws_front.specs.Connection.{step_of}
use Rattle.rws_config.specs.declared.config.Config.{Config}
use Rattle.rws_route.specs.declared.destination.Target.{Target}
use Rattle.rws_record.specs.Item.{Item, Put}
use Rattle.rws_record.specs.Item.Item.{ClientBytes, Routed}
use Rattle.rws_record.specs.Item.Put.{Sends}
use Rattle.rws_record.specs.Item.Purpose.{Prepares, Asks, Plays, Waits, Probes}
use Rattle.rws_record.specs.Values.{asking, fronted, held, is_over}
use Rattle.rws_record.specs.Rules.{next, owed}
use Rattle.rws_record.specs.Outputs.{outputs_of}
use Rattle.rws_record.proofs.StepLemmas.{Due, IsConnecting, Step, of_next, rests_owing_nothing}
use Rattle.rws_record.proofs.StepLemmas.Due.{comes, connects, takes}
use Rattle.rws_record.proofs.StepLemmas.IsConnecting.{sends_back, lets_in, ends_it}
use Rattle.rws_record.proofs.StepLemmas.Step.{pays, asks, prepares, forgets, plays, sends, waits_first, probes_first, floods, reads}
use Rattle.rws_cuts.specs.Turns.{Answer, Turns, answered}
use Rattle.rws_cuts.specs.Turns.Turns.{rests, goes_on, hears}
use Rattle.rws_cuts.specs.Laws.{ClientPiecesEnd, ClientPiecesJoin, IsAlike}
use Rattle.rws_cuts.proofs.State.{State, after, next_in, state_of, target_in}
use Rattle.rws_cuts.proofs.MirrorLemmas.{found_is, heard, moves, next_is}
use Rattle.rws_cuts.proofs.AgreementLemmas.{agrees}
use Rattle.rws_cuts.proofs.OutLemmas.{gave_more}
use Rattle.rws_cuts.proofs.TurnLemmas.{carried, ends_resting}
use Rattle.rws_cuts.proofs.HushLemmas.{Hushed, has_idle, none_arrives, put_hushed, rests_hushed, says_something}
use Rattle.rws_cuts.proofs.LaterLemmas.{later, next_later}

-- the second record is as the first, but that its client sent more
pub record More (config : Config) (more : List ℕ) (short long : List Item) : Type 0 where
  pub state : state_of config short ≡ state_of config long
  pub front : fronted config long ≡ front_fed (fronted config short) more
  pub gave : (session : ℕ) → outputs_of session short ≡ outputs_of session long
  pub hushed : Hushed short

-- How an item that is next moves the client's side: not at all, or by a step of it that says something.
pub data Motion (config : Config) (short : List Item) (item : Item) : Type 0 where
  stays : ((past : List Item) → fronted config (item ∷ past) ≡ fronted config past)
      → ((one other : FrontStep) (s : State) → after config one item s ≡ after config other item s) → Motion config short item
  goes : heard config short ≢ fronts.Idle → ((past : List Item) → fronted config (item ∷ past) ≡ (step_of config.accounts (fronted config past)).1)
      → Motion config short item

connecting_some : (said : FrontStep) → IsConnecting said → said ≢ fronts.Idle
connecting_some _ sends_back idle = absurd cc
connecting_some _ lets_in idle = absurd cc
connecting_some _ ends_it idle = absurd cc

motion_due : {config : Config} {past : List Item} {item : Item} → Due config past item → Motion config past item
motion_due (comes has a it) = stays (λ past. refl) (λ one other s. refl)
motion_due (connects {said = said} p f c) = goes (λ idle. connecting_some said c (sym f ∙ idle)) (λ past. refl)
motion_due (takes {payload = payload} p f) =
    goes (λ idle. let clash : fronts.Command payload ≡ fronts.Idle = sym f ∙ idle in absurd cc) (λ past. refl)

pub motion : {config : Config} {past : List Item} {item : Item} → Step config past item → Motion config past item
motion (pays o) = stays (λ past. refl) (λ one other s. refl)
motion (asks o n p g w) = stays (λ past. refl) (λ one other s. refl)
motion (prepares o n has f) = stays (λ past. refl) (λ one other s. refl)
motion (forgets o n has f t) = stays (λ past. refl) (λ one other s. refl)
motion (plays o n has f t s) = stays (λ past. refl) (λ one other s. refl)
motion (sends o n p s g f t d i c) = stays (λ past. refl) (λ one other s. refl)
motion (waits_first o n p s g f t d c) = stays (λ past. refl) (λ one other s. refl)
motion (probes_first o n p s g f t d c) = stays (λ past. refl) (λ one other s. refl)
motion (floods o n p above) = stays (λ past. refl) (λ one other s. refl)
motion (reads o n due) = motion_due due

-- no link has anything to say behind it
hushed_due : {config : Config} {past : List Item} {item : Item} → Hushed past → Due config past item → Hushed (item ∷ past)
hushed_due {past = past} idle (comes {link = link} {said = said} has a it) = says_something it (sym a ∙ has_idle past link idle has)
hushed_due idle (connects p f c) = idle
hushed_due idle (takes p f) = idle

pub hushed_on : {config : Config} {past : List Item} {item : Item} → Hushed past → Step config past item → Hushed (item ∷ past)
hushed_on {past = past} idle (pays {put = put} o) = put_hushed put past idle
hushed_on idle (asks o n p g w) = idle
hushed_on {past = past} idle (prepares {link = link} o n has f) = put_hushed (Sends link Prepares) past idle
hushed_on idle (forgets o n has f t) = idle
hushed_on {past = past} idle (plays {link = link} {entry = entry} o n has f t s) = put_hushed (Sends link (Plays entry)) past idle
hushed_on {past = past} idle (sends {link = link} {command = command} {id = id} o n p s g f t d i c) = put_hushed (Sends link (Asks command id)) past idle
hushed_on {config} {past = past} idle (waits_first {link = link} {gtid = gtid} o n p s g f t d c) =
    put_hushed (Sends link (Waits gtid config.causal_timeout_s)) past idle
hushed_on {config} {past = past} idle (probes_first {link = link} {gtid = gtid} o n p s g f t d c) =
    put_hushed (Sends link (Probes gtid)) past idle
hushed_on idle (floods o n p above) = idle
hushed_on idle (reads o n due) = hushed_due idle due

module _ (config : Config) (more : List ℕ) where
  -- what comes of the client that sent more
  heard_later : (short long : List Item) → More config more short long → heard config short ≢ fronts.Idle → heard config long ≡ heard config short
  heard_later short long m some =
      ap (λ (front : Fronting). (step_of config.accounts front).0) m.front ∙ (later config.accounts (fronted config short) more some).said

  longer : (short long : List Item) → More config more short long → length (held config short) ≤ length (held config long)
  longer short long m =
      let is : length (held config long) ≡ length (held config short ++ more) = ap (λ (front : Fronting). length front.stream.held) m.front in
      omega (arith, length-append (held config short) more)

  pub next_more : (short long : List Item) (item : Item) → More config more short long → next config short ≡ Some item → next config long ≡ Some item
  next_more short long item m e =
      next_is config long
      ∙ ap (next_in config (length (held config long)) (heard config long)) (sym m.state)
      ∙ next_later config (length (held config short)) (length (held config long)) (heard config short) (heard config long) (state_of config short) item
      (none_arrives _ _ m.hushed) (longer short long m) (heard_later short long m) (sym (next_is config short) ∙ e)

  state_more : (short long : List Item) (item : Item) → More config more short long → Motion config short item
      → state_of config (item ∷ short) ≡ state_of config (item ∷ long)
  state_more short long item m (stays front same) =
      moves config item short
      ∙ same (heard config short) (heard config long) (state_of config short)
      ∙ ap (after config (heard config long) item) m.state
      ∙ sym (moves config item long)
  state_more short long item m (goes some front) =
      moves config item short
      ∙ ap (λ (said : FrontStep). after config said item (state_of config short)) (sym (heard_later short long m some))
      ∙ ap (after config (heard config long) item) m.state
      ∙ sym (moves config item long)

  front_more : (short long : List Item) (item : Item) → More config more short long → Motion config short item
      → fronted config (item ∷ long) ≡ front_fed (fronted config (item ∷ short)) more
  front_more short long item m (stays front same) = front long ∙ m.front ∙ ap (λ (its : Fronting). front_fed its more) (sym (front short))
  front_more short long item m (goes some front) =
      front long
      ∙ ap (λ (its : Fronting). (step_of config.accounts its).1) m.front
      ∙ (later config.accounts (fronted config short) more some).left
      ∙ ap (λ (its : Fronting). front_fed its more) (sym (front short))

  pub item_more : (short long : List Item) (item : Item) → More config more short long → Motion config short item → Hushed (item ∷ short)
      → More config more (item ∷ short) (item ∷ long)
  item_more short long item m its hush = record {
    state = state_more short long item m its;
    front = front_more short long item m its;
    gave = λ session. gave_more session item short long (m.gave session);
    hushed = hush;
  }

  -- both are answered alike
  pub answered_more : (short long : List Item) (answer : Answer) → More config more short long → answered config answer short ≡ answered config answer long
  answered_more short long answer m =
      ap (λ (found : Target). Routed answer.words answer.loads answer.link found)
      (found_is config short answer.words answer.loads
      ∙ ap (target_in config answer.words answer.loads) m.state
      ∙ sym (found_is config long answer.words answer.loads))

  -- the first rests, and hears the rest
  pub joins : (short long : List Item) → More config more short long → next config short ≡ None → asking short ≡ false
      → IsAlike config (ClientBytes more ∷ short) long
  joins short long m e a =
      let none : owed config short ≡ [] = rests_owing_nothing config short e a in
      let same : record (state_of config short) { owed = [] } ≡ state_of config short =
      ap (λ (list : List Put). record (state_of config short) { owed = list }) (sym none) in
      record {
        gave = λ session. append_none session ∙ m.gave session;
        agrees = agrees config (ClientBytes more ∷ short) long (sym m.front) (moves config (ClientBytes more) short ∙ same ∙ m.state);
      }
    where
      append_none : (session : ℕ) → outputs_of session (ClientBytes more ∷ short) ≡ outputs_of session short
      append_none session = append-nil (outputs_of session short)

  pub runs : (first second : List Answer) (short between one : List Item) → Turns config first short between
      → Turns config second (ClientBytes more ∷ between) one → (long : List Item) → More config more short long
      → (other : List Item) × Turns config (first ++ second) long other × IsAlike config one other
  runs first second short between one (rests e a) then long m =
      carried config second (ClientBytes more ∷ short) one then long (joins short long m e a)
  runs first second short between one (goes_on {item = item} e t) then long m =
      let step = of_next config short item e in
      let behind = runs first second (item ∷ short) between one t then (item ∷ long)
      (item_more short long item m (motion step) (hushed_on m.hushed step)) in
      (behind.0, goes_on (next_more short long item m e) behind.1, behind.2)
  runs first second short between one (hears {answer = answer} {answers = its} waits t) then long m =
      let item = answered config answer short in
      let same = answered_more short long answer m in
      let behind = runs its second (item ∷ short) between one t then (answered config answer long ∷ long)
      (subst (λ (x : Item). More config more (item ∷ short) (x ∷ long)) same
      (item_more short long item m (stays (λ past. refl) (λ one other s. refl)) m.hushed)) in
      (behind.0, hears (sym (ap (λ (s : State). s.asking) m.state) ∙ waits) behind.1, behind.2)

-- at the beginning
pub begun : (config : Config) (past : List Item) (a b : List ℕ) → next config past ≡ None → asking past ≡ false → is_over past ≡ false
    → More config b (ClientBytes a ∷ past) (ClientBytes (a ++ b) ∷ past)
begun config past a b e q n = record {
  state = moves config (ClientBytes a) past ∙ sym (moves config (ClientBytes (a ++ b)) past);
  front = ap (λ (bytes : List ℕ). record (fronted config past) { stream = record (fronted config past).stream { held = bytes } })
      (sym (append_assoc (held config past) a b));
  gave = λ session. refl;
  hushed = rests_hushed config past e q n;
}

pub client_pieces_join : ClientPiecesJoin
client_pieces_join config first second a b past between one e q n t then =
    runs config b first second (ClientBytes a ∷ past) between one t then (ClientBytes (a ++ b) ∷ past) (begun config past a b e q n)

-- one that is over rests on whatever else it hears
over_rests : (config : Config) (past : List Item) (bytes : List ℕ) → asking past ≡ false → is_over past ≡ true → next config (ClientBytes bytes ∷ past) ≡ None
over_rests config past bytes a over = rw (a, over) refl

pub client_pieces_end : ClientPiecesEnd
client_pieces_end config answers a b past between e q n t over =
    let quiet = (ends_resting config answers (ClientBytes a ∷ past) between t).1 in
    let both = client_pieces_join config answers [] a b past between (ClientBytes b ∷ between) e q n t
    (rests (over_rests config between b quiet over) quiet) in (
      both.0,
      subst (λ (its : List Answer). Turns config its (ClientBytes (a ++ b) ∷ past) both.0) (append-nil answers) both.1,
      sym both.2.agrees.is_over ∙ over,
      λ session. sym (append-nil (outputs_of session between)) ∙ both.2.gave session,
    )
