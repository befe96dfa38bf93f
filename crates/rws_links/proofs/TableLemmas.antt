-- The table of links, as a list of links of a record.
use Rattle.std.proofs.Common.{◌≡◌, ℕ, Bool, true, false, List, [], ◌∷◌, ◌++◌, map, refl, sym, ap, subst, ◌∙◌, Option, Some, None, Result, IfOk, eq-eqb, ne_eqb, eqb-true}
use Rattle.std.proofs.lemmas.Result.{IfOk-weaker}
use Rattle.std.specs.Prelude.{◌==◌, ◌||◌, ◌&&◌, is_some, if◌then◌else◌}
use Rattle.std.specs.List.{list_any}
use Rattle.std.specs.Option.{option_map}
use Rattle.rws_native.specs.declared.login.Login.{Login}
use Rattle.rws_reply.specs.declared.kind.Outcome.TheVariants.{Done, Failed}
use Rattle.rws_reply.specs.declared.kind.Progress.TheVariants.{More, Whole as Ends}
use Rattle.rws_result.specs.declared.one_value.OneValue.{OneValue}
use Rattle.rws_link.specs.declared.step.LinkStep.{LinkStep}
use Rattle.rws_causal.specs.declared.causal.Causal.{Causal}
use Rattle.rws_link.specs.declared.step.LinkStep.TheVariants as steps
use Rattle.rws_link.specs.Stepping.{LinkState, LogsIn, Rests, Awaits, IsLost, step}
use Rattle.rws_link.specs.Linking.{Linking, Takes, is_awaiting, kept}
use Rattle.rws_commands.specs.declared.command.Command.{Command}
use Rattle.rws_msgs.specs.declared.prepare_ok.PrepareOk.{PrepareOk}
use Rattle.rws_commands.specs.Statements.{is_otherwise}
use Rattle.rws_routing.specs.Routings.{with_server}
use Rattle.rws_record.specs.Item.{Ending, Item, Purpose}
use Rattle.rws_record.specs.Item.Item.{LinkBytes, LinkReady, Comes, Puts}
use Rattle.rws_record.specs.Item.Put.{Opens, Sends, Tells}
use Rattle.rws_record.specs.Item.Purpose.{Prepares, Asks, Plays, Waits, Probes}
use Rattle.rws_record.specs.Item.Recording.{Accepts}
use Rattle.rws_record.specs.Item.Tell.{Passes}
use Rattle.rws_record.specs.Values.{asked_on, awaited, banned_by, banned_if, checked_by, checked_on, contains, cursor as played_on, exchange, is_up, linked, named_by, named_in, named_on, played_by, prepared_by, serials, server_of, value_on, valued_by, without}
use Rattle.rws_record.specs.Rules.{coming}
use Rattle.rws_record.proofs.LinkedLemmas.{idle_stays}
use Rattle.rws_links.specs.declared.coming.Coming.{Coming}
use Rattle.rws_links.specs.declared.numbered.NumberedLink.{NumberedLink}
use Rattle.rws_links.specs.Links.{asked_for, link_of, new_link}
use Rattle.rws_links.specs.Table.{AreDistinct, ReadsFirst, bans, checks, led, plays, prepares, values, without_number}
use Rattle.rws_links.proofs.NumberLemmas.{apart}

pub both : {A : Type 0} {x y : A} {xs ys : List A} → x ≡ y → xs ≡ ys → x ∷ xs ≡ y ∷ ys
both e f = cc

pub itself : (a : ℕ) → (a == a) ≡ true
itself a = eq-eqb a a refl

-- an item about one link leaves the others as they were
abbrev pub IsAbout : ℕ → Item → List Item → Type 0
IsAbout number item past = (link : ℕ) → (link == number) ≡ false → link_of (item ∷ past) link ≡ link_of past link

pub bytes_about : (past : List Item) (number : ℕ) (bytes : List ℕ) → IsAbout number (LinkBytes number bytes) past
bytes_about past number bytes link differ = rw (apart link number differ) refl

pub coming_about : (past : List Item) (number : ℕ) (said : LinkStep) → IsAbout number (Comes number said) past
coming_about past number said link differ = rw (apart link number differ) refl

pub readying_about : (past : List Item) (number : ℕ) → IsAbout number (LinkReady number) past
readying_about past number link differ = rw (apart link number differ) refl

pub sending_about : (past : List Item) (number : ℕ) (purpose : Purpose) → IsAbout number (Puts (Sends number purpose)) past
sending_about past number purpose link differ = rw (apart link number differ) refl

pub opening_about : (past : List Item) (number server : ℕ) (login : Login) → IsAbout number (Puts (Opens number server login)) past
opening_about past number server login link differ = rw (apart link number differ) refl

module _ (past : List Item) (item : Item) (number : ℕ) (about : IsAbout number item past) where
  -- links other than the one that changes
  pub others_same : (links : List ℕ) → contains number links ≡ false → map (link_of past) links ≡ map (link_of (item ∷ past)) links
  others_same [] none = refl
  others_same (link ∷ others) none = by_test (link == number) refl none (others_same others)
    where
      by_test : (test : Bool) → (link == number) ≡ test → (if test then true else contains number others) ≡ false
          → (contains number others ≡ false → map (link_of past) others ≡ map (link_of (item ∷ past)) others)
          → map (link_of past) (link ∷ others) ≡ map (link_of (item ∷ past)) (link ∷ others)
      by_test true t e behind = absurd cc
      by_test false t e behind = let here = about link t in let there = behind e in cc

  -- the first link is the one that changes
  pub changes_first : (rest : List ℕ) (new : NumberedLink) (others : List NumberedLink) → others ≡ map (link_of past) rest
      → contains number rest ≡ false → new ≡ link_of (item ∷ past) number → new ∷ others ≡ map (link_of (item ∷ past)) (number ∷ rest)
  changes_first rest new others are none is = both is (are ∙ others_same rest none)

  -- it is one behind the first
  pub changes_behind : (first : ℕ) (rest : List ℕ) (link : NumberedLink) (others : List NumberedLink) → link ≡ link_of past first
      → (first == number) ≡ false → others ≡ map (link_of (item ∷ past)) rest
      → link ∷ others ≡ map (link_of (item ∷ past)) (first ∷ rest)
  changes_behind first rest link others is differ are = both (is ∙ sym (about first differ)) are

-- The first link of a table

-- a table that isn't empty is that of a first link and others
pub record Split (past : List Item) (numbers : List ℕ) (link : NumberedLink) (others : List NumberedLink) : Type 0 where
  pub first : ℕ
  pub rest : List ℕ
  pub are : numbers ≡ first ∷ rest
  pub is : link ≡ link_of past first
  pub behind : others ≡ map (link_of past) rest
  pub apart_all : contains first rest ≡ false
  pub distinct : AreDistinct rest

pub split : (past : List Item) (numbers : List ℕ) (link : NumberedLink) (others : List NumberedLink)
    → link ∷ others ≡ map (link_of past) numbers → AreDistinct numbers → Split past numbers link others
split past [] link others are distinct = absurd cc
split past (first ∷ rest) link others are distinct =
    record { first = first; rest = rest; are = refl; is = cc; behind = cc; apart_all = distinct.0; distinct = distinct.1 }

-- A link is taken away

pub without_is : (past : List Item) (number : ℕ) (links : List ℕ)
    → without_number number (map (link_of past) links) ≡ map (link_of past) (without number links)
without_is past number [] = refl
without_is past number (link ∷ others) = by_test (link == number) refl (without_is past number others)
  where
    by_test : (test : Bool) → (link == number) ≡ test
        → without_number number (map (link_of past) others) ≡ map (link_of past) (without number others)
        → without_number number (map (link_of past) (link ∷ others)) ≡ map (link_of past) (without number (link ∷ others))
    by_test true t behind = rw t behind
    by_test false t behind = rw t (rw behind refl)

-- A link is opened, behind the others

pub opened_is : (past : List Item) (link server : ℕ) (login : Login) (links : List ℕ)
    → without_number link (map (link_of past) links) ++ new_link link server login ∷ []
    ≡ map (link_of (Puts (Opens link server login) ∷ past)) (without link links ++ link ∷ [])
opened_is past link server login [] = rw (itself link) refl
opened_is past link server login (first ∷ others) = by_test (first == link) refl (opened_is past link server login others)
  where
    now : List Item
    now = Puts (Opens link server login) ∷ past

    by_test : (test : Bool) → (first == link) ≡ test
        → without_number link (map (link_of past) others) ++ new_link link server login ∷ []
        ≡ map (link_of now) (without link others ++ link ∷ [])
        → without_number link (map (link_of past) (first ∷ others)) ++ new_link link server login ∷ []
        ≡ map (link_of now) (without link (first ∷ others) ++ link ∷ [])
    by_test true t behind = rw t behind
    by_test false t behind = rw t (both (sym (opening_about past link server login first t)) behind)

-- Links are asked

said_not_idle : (number : ℕ) (said : LinkStep) → (said ≡ steps.Idle → ⊥) → coming number said ≡ Some (Comes number said)
said_not_idle number steps.Idle n = absurd (n refl)
said_not_idle number (steps.Send bytes) n = refl
said_not_idle number steps.LoggedIn n = refl
said_not_idle number (steps.Part payload role progress next behind) n = refl
said_not_idle number (steps.Lost cause) n = refl

-- what is heard prepares a link as the record says
prepares_is : (said : LinkStep) (asked : Option Purpose) (before : Bool)
    → prepares said (option_map asked_for asked) before ≡ prepared_by said asked before
prepares_is steps.Idle asked before = refl
prepares_is (steps.Send bytes) asked before = refl
prepares_is steps.LoggedIn asked before = refl
prepares_is (steps.Part payload role More next behind) asked before = refl
prepares_is (steps.Part payload role (Ends (Done status)) next behind) None before = refl
prepares_is (steps.Part payload role (Ends (Done status)) next behind) (Some Prepares) before = refl
prepares_is (steps.Part payload role (Ends (Done status)) next behind) (Some (Asks command id)) before = refl
prepares_is (steps.Part payload role (Ends (Done status)) next behind) (Some (Waits gtid seconds)) before = refl
prepares_is (steps.Part payload role (Ends (Done status)) next behind) (Some (Probes gtid)) before = refl
prepares_is (steps.Part payload role (Ends (Done status)) next behind) (Some (Plays entry)) before = refl
prepares_is (steps.Part payload role (Ends (Failed code)) next behind) asked before = refl
prepares_is (steps.Lost cause) asked before = refl

-- it has played an entry
plays_is : (said : LinkStep) (asked : Option Purpose) (before : ℕ) → plays said (option_map asked_for asked) before ≡ played_by said asked before
plays_is steps.Idle asked before = refl
plays_is (steps.Send bytes) asked before = refl
plays_is steps.LoggedIn asked before = refl
plays_is (steps.Part payload role More next behind) asked before = refl
plays_is (steps.Part payload role (Ends (Done status)) next behind) None before = refl
plays_is (steps.Part payload role (Ends (Done status)) next behind) (Some Prepares) before = refl
plays_is (steps.Part payload role (Ends (Done status)) next behind) (Some (Asks command id)) before = refl
plays_is (steps.Part payload role (Ends (Done status)) next behind) (Some (Waits gtid seconds)) before = refl
plays_is (steps.Part payload role (Ends (Done status)) next behind) (Some (Probes gtid)) before = refl
plays_is (steps.Part payload role (Ends (Done status)) next behind) (Some (Plays entry)) before = refl
plays_is (steps.Part payload role (Ends (Failed code)) next behind) asked before = refl
plays_is (steps.Lost cause) asked before = refl

-- its server is banned
pub bans_is : (said : LinkStep) (asked : Option Purpose) (named : Option PrepareOk) (server before : ℕ)
    → bans said (option_map asked_for asked) (named_by said named) server before ≡ banned_by said asked named server before
bans_is steps.Idle asked named server before = refl
bans_is (steps.Send bytes) asked named server before = refl
bans_is steps.LoggedIn asked named server before = refl
bans_is (steps.Part payload role More next behind) asked named server before = refl
bans_is (steps.Part payload role (Ends (Done status)) next behind) None named server before = refl
bans_is (steps.Part payload role (Ends (Done status)) next behind) (Some Prepares) named server before = refl
bans_is (steps.Part payload role (Ends (Done status)) next behind) (Some (Asks command id)) named server before = refl
bans_is (steps.Part payload role (Ends (Done status)) next behind) (Some (Waits gtid seconds)) named server before = refl
bans_is (steps.Part payload role (Ends (Done status)) next behind) (Some (Probes gtid)) named server before = refl
bans_is (steps.Part payload role (Ends (Done status)) next behind) (Some (Plays entry)) named server before =
    by_test (is_otherwise entry.statement (named_in role payload named))
  where
    by_test : (test : Bool) → (if test then with_server server before else before) ≡ banned_if test server before
    by_test true = refl
    by_test false = refl
bans_is (steps.Part payload role (Ends (Failed code)) next behind) None named server before = refl
bans_is (steps.Part payload role (Ends (Failed code)) next behind) (Some Prepares) named server before = refl
bans_is (steps.Part payload role (Ends (Failed code)) next behind) (Some (Asks command id)) named server before = refl
bans_is (steps.Part payload role (Ends (Failed code)) next behind) (Some (Waits gtid seconds)) named server before = refl
bans_is (steps.Part payload role (Ends (Failed code)) next behind) (Some (Probes gtid)) named server before = refl
bans_is (steps.Part payload role (Ends (Failed code)) next behind) (Some (Plays entry)) named server before = refl
bans_is (steps.Lost cause) asked named server before = refl

-- a value is read as the record says
values_is : (said : LinkStep) (asked : Option Purpose) (before : OneValue) → values said (option_map asked_for asked) before ≡ valued_by said asked before
values_is steps.Idle asked before = refl
values_is (steps.Send bytes) asked before = refl
values_is steps.LoggedIn asked before = refl
values_is (steps.Part payload role progress next behind) None before = refl
values_is (steps.Part payload role progress next behind) (Some Prepares) before = refl
values_is (steps.Part payload role progress next behind) (Some (Asks command id)) before = refl
values_is (steps.Part payload role progress next behind) (Some (Plays entry)) before = refl
values_is (steps.Part payload role progress next behind) (Some (Waits gtid seconds)) before = refl
values_is (steps.Part payload role progress next behind) (Some (Probes gtid)) before = refl
values_is (steps.Lost cause) asked before = refl

-- and so is what it lets through
checks_is : (said : LinkStep) (asked : Option Purpose) (value : OneValue) → checks said (option_map asked_for asked) value ≡ checked_by said asked value
checks_is steps.Idle asked value = refl
checks_is (steps.Send bytes) asked value = refl
checks_is steps.LoggedIn asked value = refl
checks_is (steps.Part payload role More next behind) asked value = refl
checks_is (steps.Part payload role (Ends outcome) next behind) None value = refl
checks_is (steps.Part payload role (Ends outcome) next behind) (Some Prepares) value = refl
checks_is (steps.Part payload role (Ends outcome) next behind) (Some (Asks command id)) value = refl
checks_is (steps.Part payload role (Ends outcome) next behind) (Some (Plays entry)) value = refl
checks_is (steps.Part payload role (Ends outcome) next behind) (Some (Waits gtid seconds)) value = refl
checks_is (steps.Part payload role (Ends outcome) next behind) (Some (Probes gtid)) value = refl
checks_is (steps.Lost cause) asked value = refl

-- a link led an entry
pub led_is : (past : List Item) (number from : ℕ) (command : Command) (payload : List ℕ) (ending : Ending) (links : List ℕ)
    → map (led from (serials past)) (map (link_of past) links)
    ≡ map (link_of (Puts (Tells number (Passes from command payload (Some ending) Accepts)) ∷ past)) links
led_is past number from command payload ending [] = refl
led_is past number from command payload ending (link ∷ others) =
    both (by_test (link == from) refl) (led_is past number from command payload ending others)
  where
    by_test : (test : Bool) → (link == from) ≡ test → led from (serials past) (link_of past link)
        ≡ link_of (Puts (Tells number (Passes from command payload (Some ending) Accepts)) ∷ past) link
    by_test true t = let same : (from == link) ≡ true = eq-eqb from link (sym (eqb-true link from t)) in rw (t, same) refl
    by_test false t = rw (t, apart link from t) refl

whole_by : (l : NumberedLink) {up up' : Bool} {named : Option PrepareOk} {value value' : OneValue} {cursor cursor' : ℕ} {link link' : Linking}
    → up ≡ up' → value ≡ value' → cursor ≡ cursor' → link ≡ link'
    → record l { is_up = up; named = named; value = value; cursor = cursor; link = link }
    ≡ record l { is_up = up'; named = named; value = value'; cursor = cursor'; link = link' }
whole_by l u v c k = cc

-- the first link says something
pub read_here : (past : List Item) (numbers : List ℕ) (link new : NumberedLink) (others : List NumberedLink) (said : LinkStep) (found : Coming)
    (after : Linking) → link ∷ others ≡ map (link_of past) numbers → AreDistinct numbers → (said ≡ steps.Idle → ⊥)
    → found ≡ record {
      link = link.number;
      server = link.server;
      said = said;
      asked = link.asked;
      named = named_by said link.named;
      checked = checks said link.asked (values said link.asked link.value);
    }
    → new ≡ record link {
      is_up = prepares said link.asked link.is_up;
      named = named_by said link.named;
      value = values said link.asked link.value;
      cursor = plays said link.asked link.cursor;
      link = after;
    }
    → ((state : LinkState) → link.link ≡ kept state → Takes (step state) said after)
    → ReadsFirst past numbers (Some found) (new ∷ others)
read_here past numbers link new others said found after are distinct not_idle found_is new_is takes =
    let s = split past numbers link others are distinct in
    let t = takes (linked s.first past) (ap (λ (l : NumberedLink). l.link) s.is) in
    let whole : new ≡ record (link_of past s.first) {
      is_up = prepared_by said (asked_on s.first past) (is_up s.first past);
      named = named_by said (named_on s.first past);
      value = valued_by said (asked_on s.first past) (value_on s.first past);
      cursor = played_by said (asked_on s.first past) (played_on s.first past);
      link = kept (step (linked s.first past)).after;
    } =
    new_is ∙ ap (λ (l : NumberedLink). record l {
      is_up = prepares said l.asked l.is_up;
      named = named_by said l.named;
      value = values said l.asked l.value;
      cursor = plays said l.asked l.cursor;
      link = after;
    }) s.is
    ∙ whole_by (link_of past s.first) (prepares_is said (asked_on s.first past) (is_up s.first past))
    (values_is said (asked_on s.first past) (value_on s.first past)) (plays_is said (asked_on s.first past) (played_on s.first past)) t.1 in
    let is : found ≡ record {
      link = s.first;
      server = server_of s.first past;
      said = said;
      asked = option_map asked_for (asked_on s.first past);
      named = named_by said (named_on s.first past);
      checked = checked_on s.first said past;
    } =
    found_is ∙ ap (λ (l : NumberedLink). record {
      link = l.number;
      server = l.server;
      said = said;
      asked = l.asked;
      named = named_by said l.named;
      checked = checks said l.asked (values said l.asked l.value);
    }) s.is
    ∙ ap (λ (c : Option Causal). record {
      link = s.first;
      server = server_of s.first past;
      said = said;
      asked = option_map asked_for (asked_on s.first past);
      named = named_by said (named_on s.first past);
      checked = c;
    }) (ap (checks said (option_map asked_for (asked_on s.first past))) (values_is said (asked_on s.first past) (value_on s.first past))
    ∙ checks_is said (asked_on s.first past) (valued_by said (asked_on s.first past) (value_on s.first past))) in
    rw s.are (subst (λ (f : Coming). ReadsFirst past (s.first ∷ s.rest) (Some f) (new ∷ others)) (sym is) (
      rw (← t.0) (rw (said_not_idle s.first said not_idle) refl),
      rw (itself s.first) refl,
      refl,
      refl,
      refl,
      refl,
      changes_first past (Comes s.first said) s.first (coming_about past s.first said) s.rest new others s.behind s.apart_all
          (rw (itself s.first) whole),
    ))

-- it says nothing, and the links behind it are asked
pub read_behind : (past : List Item) (numbers : List ℕ) (link new : NumberedLink) (others behind : List NumberedLink)
    → link ∷ others ≡ map (link_of past) numbers → AreDistinct numbers → new ≡ record link { link = new.link }
    → ((state : LinkState) → link.link ≡ kept state → Takes (step state) steps.Idle new.link)
    → {E : Type 0} (result : Result (Option Coming) E)
    → ((rest : List ℕ) → others ≡ map (link_of past) rest → AreDistinct rest
    → IfOk result (λ found. ReadsFirst past rest found behind))
    → IfOk result (λ found. ReadsFirst past numbers found (new ∷ behind))
read_behind past numbers link new others behind are distinct stays_so takes result later =
    let s = split past numbers link others are distinct in
    let t = takes (linked s.first past) (ap (λ (l : NumberedLink). l.link) s.is) in
    let stays : new ≡ link_of past s.first =
    stays_so ∙ ap (λ (l : NumberedLink). record l { link = new.link }) s.is
    ∙ ap (λ (k : Linking). record (link_of past s.first) { link = k }) (t.1 ∙ ap kept (idle_stays (linked s.first past) (sym t.0))) in
    IfOk-weaker result (λ found. ReadsFirst past s.rest found behind) (λ found. ReadsFirst past numbers found (new ∷ behind))
    (λ found there. rw s.are (one s.first s.rest s.apart_all (sym t.0) stays found there)) (later s.rest s.behind s.distinct)
  where
    one : (first : ℕ) (rest : List ℕ) → contains first rest ≡ false → (step (linked first past)).answer ≡ steps.Idle
        → new ≡ link_of past first → (found : Option Coming) → ReadsFirst past rest found behind
        → ReadsFirst past (first ∷ rest) found (new ∷ behind)
    one first rest alone idle is None there = (rw idle there.0, both is there.1)
    one first rest alone idle is (Some found) there =
        let differ : (first == found.link) ≡ false = ne_eqb first found.link (λ same.
        let has : contains first rest ≡ true = rw (← same) at there.1 in absurd cc) in (
          rw idle there.0,
          rw differ there.1,
          there.2,
          there.3,
          there.4,
          there.5,
          changes_behind past (Comes found.link found.said) found.link (coming_about past found.link found.said) first rest new behind is differ
              there.6,
        )

-- a link of this number is there
pub has_is : (past : List Item) (number : ℕ) (links : List ℕ)
    → list_any (λ (link : NumberedLink). link.number == number) (map (link_of past) links) ≡ contains number links
has_is past number [] = refl
has_is past number (link ∷ others) = rw (has_is past number others) (by_test (link == number))
  where
    by_test : (test : Bool) → (test || contains number others) ≡ (if test then true else contains number others)
    by_test true = refl
    by_test false = refl

-- it is there, and a reply is awaited on it
pub awaits_is : (past : List Item) (number : ℕ) (links : List ℕ)
    → list_any (λ (link : NumberedLink). link.number == number && is_awaiting link.link) (map (link_of past) links)
    ≡ (contains number links && is_some (exchange number past))
awaits_is past number [] = refl
awaits_is past number (link ∷ others) = rw (awaits_is past number others) (by_test (link == number) refl)
  where
    awaits_too : (state : LinkState) → is_awaiting (kept state) ≡ is_some (awaited state)
    awaits_too (LogsIn handshake unread) = refl
    awaits_too Rests = refl
    awaits_too (Awaits e unread) = refl
    awaits_too (IsLost cause) = refl

    here : (is behind : Bool) → (is || (behind && is)) ≡ is
    here true behind = refl
    here false true = refl
    here false false = refl

    by_test : (test : Bool) → (link == number) ≡ test
        → ((test && is_awaiting (kept (linked link past))) || (contains number others && is_some (exchange number past)))
        ≡ ((if test then true else contains number others) && is_some (exchange number past))
    by_test true t =
        let e : link ≡ number = eqb-true link number t in
        rw (e, awaits_too (linked number past)) (here (is_some (exchange number past)) (contains number others))
    by_test false t = refl
