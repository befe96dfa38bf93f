-- Records that agree are of one state, with the client at one place: so what is next is the same, and they agree behind it.
use Rattle.std.proofs.Common.{◌≡◌, List, ◌∷◌, length, refl, sym, ap, ◌∙◌, Option}
use Rattle.rws_front.specs.Fronting.{Fronting, fed as front_fed}
use Rattle.rws_front.specs.Connection.{step_of}
use Rattle.rws_config.specs.declared.config.Config.{Config}
use Rattle.rws_record.specs.Item.{Item}
use Rattle.rws_record.specs.Item.Item.{Accepted, TurnsAway, Began, ClientBytes, LinkReady, LinkBytes, ClientGone, LinkLost, Ticks, Routed, Comes, Connects, Takes, Floods, Puts, Starves}
use Rattle.rws_record.specs.Values.{begun_front, fronted, new_front}
use Rattle.rws_record.specs.Rules.{next}
use Rattle.rws_cuts.specs.Agreement.{Agrees}
use Rattle.rws_cuts.specs.Laws.{AgreementLasts, FoundIsTheSame, NextIsTheSame}
use Rattle.rws_cuts.proofs.State.{State, after, next_in, state_of, target_in}
use Rattle.rws_cuts.proofs.MirrorLemmas.{found_is, moves, next_is}

-- Where the client stands behind an item

abbrev pub front_after : Config → Item → Fronting → Fronting
front_after config (Accepted session scramble reading) front = new_front config session scramble
front_after config (Began link server reading) front = begun_front config
front_after config (ClientBytes bytes) front = front_fed front bytes
front_after config (Connects said) front = (step_of config.accounts front).1
front_after config (Takes judged number) front = (step_of config.accounts front).1
front_after config _ front = front

pub front_moves : (config : Config) (item : Item) (past : List Item) → fronted config (item ∷ past) ≡ front_after config item (fronted config past)
front_moves config (Accepted session scramble reading) past = refl
front_moves config (TurnsAway told) past = refl
front_moves config (Began link server reading) past = refl
front_moves config (ClientBytes bytes) past = refl
front_moves config (LinkReady link) past = refl
front_moves config (LinkBytes link bytes) past = refl
front_moves config ClientGone past = refl
front_moves config (LinkLost link) past = refl
front_moves config (Ticks reading) past = refl
front_moves config (Routed words loads next found) past = refl
front_moves config (Comes link said) past = refl
front_moves config (Connects said) past = refl
front_moves config (Takes judged number) past = refl
front_moves config (Floods held) past = refl
front_moves config (Puts put) past = refl
front_moves config (Starves made number) past = refl

-- Agreement is equality of both

pub state_same : {config : Config} {one other : List Item} → Agrees config one other → state_of config one ≡ state_of config other
state_same a = λ i. record {
  links = a.links i;
  server_of = λ link. a.server_of link i;
  linked = λ link. a.linked link i;
  asked_on = λ link. a.asked_on link i;
  named_on = λ link. a.named_on link i;
  value_on = λ link. a.value_on link i;
  is_up = λ link. a.is_up link i;
  cursor = λ link. a.cursor link i;
  login = a.login_of i;
  pending = a.pending i;
  sent_on = a.sent_on i;
  told_from = a.told_from i;
  reply_number = a.reply_number i;
  routing = a.routing i;
  kept_on = a.kept_on i;
  serials = a.serials i;
  banned = a.banned i;
  clock = a.now i;
  own = a.own i;
  transaction = a.transaction i;
  statements = a.statements i;
  asking = a.asking i;
  is_over = a.is_over i;
  owed = a.owed i;
}

pub agrees : (config : Config) (one other : List Item) → fronted config one ≡ fronted config other → state_of config one ≡ state_of config other
    → Agrees config one other
agrees config one other front s = record {
  fronted = front;
  login_of = ap (λ (x : State). x.login) s;
  links = ap (λ (x : State). x.links) s;
  server_of = λ link. ap (λ (x : State). x.server_of link) s;
  linked = λ link. ap (λ (x : State). x.linked link) s;
  asked_on = λ link. ap (λ (x : State). x.asked_on link) s;
  named_on = λ link. ap (λ (x : State). x.named_on link) s;
  value_on = λ link. ap (λ (x : State). x.value_on link) s;
  is_up = λ link. ap (λ (x : State). x.is_up link) s;
  cursor = λ link. ap (λ (x : State). x.cursor link) s;
  pending = ap (λ (x : State). x.pending) s;
  sent_on = ap (λ (x : State). x.sent_on) s;
  told_from = ap (λ (x : State). x.told_from) s;
  reply_number = ap (λ (x : State). x.reply_number) s;
  routing = ap (λ (x : State). x.routing) s;
  kept_on = ap (λ (x : State). x.kept_on) s;
  serials = ap (λ (x : State). x.serials) s;
  banned = ap (λ (x : State). x.banned) s;
  now = ap (λ (x : State). x.clock) s;
  own = ap (λ (x : State). x.own) s;
  transaction = ap (λ (x : State). x.transaction) s;
  statements = ap (λ (x : State). x.statements) s;
  asking = ap (λ (x : State). x.asking) s;
  is_over = ap (λ (x : State). x.is_over) s;
  owed = ap (λ (x : State). x.owed) s;
}

-- The laws

abbrev next_at : Config → Fronting → State → Option Item
next_at config front s = next_in config (length front.stream.held) (step_of config.accounts front).0 s

pub next_same : NextIsTheSame
next_same config one other a =
    next_is config one
    ∙ ap (λ (front : Fronting). next_at config front (state_of config one)) a.fronted
    ∙ ap (next_at config (fronted config other)) (state_same a)
    ∙ sym (next_is config other)

pub found_same : FoundIsTheSame
found_same config one other words loads a =
    found_is config one words loads ∙ ap (target_in config words loads) (state_same a) ∙ sym (found_is config other words loads)

pub agreement_lasts : AgreementLasts
agreement_lasts config one other item a =
    agrees config (item ∷ one) (item ∷ other)
    (front_moves config item one ∙ ap (front_after config item) a.fronted ∙ sym (front_moves config item other))
    (moves config item one
    ∙ ap (λ (front : Fronting). after config (step_of config.accounts front).0 item (state_of config one)) a.fronted
    ∙ ap (after config (step_of config.accounts (fronted config other)).0 item) (state_same a)
    ∙ sym (moves config item other))
