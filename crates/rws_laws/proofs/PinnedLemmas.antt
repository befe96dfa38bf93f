-- A session that is pinned to a link sends the client's commands there, and takes no route.
use Rattle.std.proofs.Common.{◌≡◌, ℕ, Bool, true, false, List, [], ◌∷◌, refl, sym, ap, subst, ◌∙◌, inl, inr, Option, Some, None}
use Rattle.std.specs.Prelude.{◌⊎◌, if◌then◌else◌}
use Rattle.rws_class.specs.declared.class.Class.{Class}
use Rattle.rws_config.specs.declared.config.Config.{Config}
use Rattle.rws_config.specs.declared.limits.TheConstants.{SERVER_PAYLOAD}
use Rattle.rws_wire.specs.Payloads.{first_payload}
use Rattle.rws_link.specs.declared.step.LinkStep.{LinkStep}
use Rattle.rws_link.specs.declared.step.LinkStep.TheVariants as steps
use Rattle.rws_commands.specs.declared.judged.Judged.{Judged}
use Rattle.rws_reply.specs.declared.kind.Outcome.{Outcome}
use Rattle.rws_record.specs.Item.{Item}
use Rattle.rws_record.specs.Item.Item.{Accepted, TurnsAway, Began, ClientBytes, LinkReady, LinkBytes, ClientGone, LinkLost, Ticks, Routed, Comes, Connects, Takes, Floods, Puts, Starves}
use Rattle.rws_record.specs.Item.Put.{Hands, Tells, Records, Routes, Opens, LogsInto, Sends, Forgets, Drops, Closes}
use Rattle.rws_record.specs.Item.Purpose.{Prepares, Asks, Plays, Waits, Probes}
use Rattle.rws_record.specs.Item.Recording.{Nothing, Accepts, Keeps}
use Rattle.rws_record.specs.Item.Tell.{Passes, Owns, Refuses}
use Rattle.rws_commands.specs.Commands.{class_of_command, keeps}
use Rattle.rws_record.specs.Values.{answer_to, answered_by, class_by_pending, goes_on, kept_by, kept_on, linked, links, unread, or_link, pending, pinned, routing, sent_on, speaks, transaction}
use Rattle.rws_laws.specs.Client.{Took}
use Rattle.rws_laws.specs.Client.Took.{took}
use Rattle.rws_laws.specs.Causes.{AreCaused, IsRead}
use Rattle.rws_laws.specs.Laws.{PinnedTakesNoRoute, StaysOnItsLink}
use Rattle.rws_laws.proofs.CausesLemmas.{causes}
use Rattle.rws_laws.proofs.CheckLemmas.{Checking, Heard, awaits_so, checking_on, heard_goes, part_heard, put_keeps, unchecked}
use Rattle.rws_laws.proofs.CheckLemmas.Heard.{no_check}
use Rattle.rws_laws.proofs.GivenLemmas.{goes_then, refused_goes}
use Rattle.rws_laws.proofs.ListLemmas.{has_it}
use Rattle.rws_laws.proofs.ReplyLemmas.{goes_without, unless_before}
use Rattle.rws_laws.proofs.Sound.{same_some}
use Rattle.rws_laws.proofs.TransactionLemmas.{answered_there}

-- Where it goes

-- one that is pinned goes on there
pub goes_pinned : (pinned assigned : Option ℕ) (there link : ℕ) → pinned ≡ Some there → or_link pinned assigned ≡ Some link → there ≡ link
goes_pinned (Some other) assigned there link p g = same_some there link (sym p ∙ g)
goes_pinned None assigned there link p g = absurd cc

pub pinned_nowhere : (pinned assigned : Option ℕ) → or_link pinned assigned ≡ None → pinned ≡ None
pinned_nowhere (Some link) assigned g = absurd cc
pinned_nowhere None assigned g = refl

-- neither the one nor the other
pub neither_link : (one other : Option ℕ) → or_link one other ≡ None → (one ≡ None) × (other ≡ None)
neither_link (Some link) other e = absurd cc
neither_link None other e = (refl, e)

-- the worker was asked where the pending command was to go nowhere
pub asked_nowhere : (config : Config) (past below : List Item) → past ≡ Puts Routes ∷ below → AreCaused config past → goes_on config past ≡ None
asked_nowhere config past below is caused =
    let here : AreCaused config (Puts Routes ∷ below) = subst (AreCaused config) is caused in ap (goes_on config) is ∙ here.0.2

-- What goes before a read goes for the pending command

read_heard : (config : Config) (past : List Item) (link : ℕ) (said : LinkStep) → IsRead config (Comes link said) past → Heard link said past
read_heard config past link (steps.Part payload its far next more) read =
    let awaits = awaits_so (linked link past) read.0 read.3 in
    part_heard past link read.0 awaits.0 payload read.1 next its far more (has_it (links past) link read.2) awaits.1
    (ap (λ (bytes : List ℕ). first_payload SERVER_PAYLOAD read.0.next bytes) (sym (ap unread awaits.1)) ∙ read.4) read.5 read.6
read_heard config past link (steps.Lost cause) read = no_check refl
read_heard config past link (steps.Send packets) read = no_check refl
read_heard config past link steps.LoggedIn read = no_check refl
read_heard config past link steps.Idle read = no_check refl

taken_before : (config : Config) (past : List Item) (payload : List ℕ) (number : ℕ) {now : List Item} (it : Judged) → Took config payload number now
    → now ≡ Takes it number ∷ past → pending past ≡ None
taken_before config past payload number it (took {past = below} p f b) is = let same : below ≡ past = cc in ap pending (sym same) ∙ p

pub checks_so : (config : Config) (past : List Item) → AreCaused config past → Checking config past
checks_so config [] caused = λ link e check has a asked. absurd cc
checks_so config (Puts put ∷ past) caused = checking_on config past (Puts put) (put_keeps config past put caused.0) (checks_so config past caused.1)
checks_so config (Comes link said ∷ past) caused =
    checking_on config past (Comes link said) (read_heard config past link said caused.1) (checks_so config past caused.2)
checks_so config (Routed words loads next found ∷ past) caused =
    checking_on config past (Routed words loads next found) (asked_nowhere config past caused.1.0 caused.1.1 caused.2) (checks_so config past caused.2)
checks_so config (Takes it number ∷ past) caused =
    checking_on config past (Takes it number) (taken_before config past caused.1.0 number it caused.1.1 refl) (checks_so config past caused.2)
checks_so config (Starves made number ∷ past) caused = checking_on config past (Starves made number) tt (checks_so config past caused.3)
checks_so config (Accepted session scramble reading ∷ past) caused =
    checking_on config past (Accepted session scramble reading) tt (checks_so config past caused.2)
checks_so config (TurnsAway told ∷ past) caused = checking_on config past (TurnsAway told) tt (checks_so config past caused.2)
checks_so config (Began link server reading ∷ past) caused = checking_on config past (Began link server reading) tt (checks_so config past caused.2)
checks_so config (ClientBytes bytes ∷ past) caused = checking_on config past (ClientBytes bytes) tt (checks_so config past caused.2)
checks_so config (LinkReady link ∷ past) caused = checking_on config past (LinkReady link) tt (checks_so config past caused.2)
checks_so config (LinkBytes link bytes ∷ past) caused = checking_on config past (LinkBytes link bytes) tt (checks_so config past caused.2)
checks_so config (ClientGone ∷ past) caused = checking_on config past ClientGone tt (checks_so config past caused.2)
checks_so config (LinkLost gone ∷ past) caused = checking_on config past (LinkLost gone) tt (checks_so config past caused.2)
checks_so config (Ticks reading ∷ past) caused = checking_on config past (Ticks reading) tt (checks_so config past caused.2)
checks_so config (Connects said ∷ past) caused = checking_on config past (Connects said) tt (checks_so config past caused.2)
checks_so config (Floods bytes ∷ past) caused = checking_on config past (Floods bytes) tt (checks_so config past caused.2)

-- The pending command, where it was sent, is to go on the link on which it was sent

abbrev pub SentGoes : Config → List Item → Type 0
SentGoes config past = (link : ℕ) → sent_on past ≡ Some link → goes_on config past ≡ Some link

lost_goes : (config : Config) (past : List Item) (gone : ℕ) → SentGoes config past → SentGoes config (LinkLost gone ∷ past)
lost_goes config past gone below link s =
    let before = unless_before gone link (sent_on past) s in
    goes_without (pinned config past) (routing config past) gone link (below link before.0) before.1

routed_sent : (config : Config) (past : List Item) (link : ℕ) → goes_on config past ≡ None → SentGoes config past → sent_on past ≡ Some link → ⊥
routed_sent config past link none below s = let clash : None ≡ Some link = sym none ∙ below link s in cc

pub sent_goes : (config : Config) (past : List Item) → AreCaused config past → SentGoes config past
sent_goes config [] caused = λ link s. absurd cc
sent_goes config (LinkLost gone ∷ past) caused = lost_goes config past gone (sent_goes config past caused.2)
sent_goes config (Puts (Drops gone cause) ∷ past) caused = lost_goes config past gone (sent_goes config past caused.1)
sent_goes config (Routed words loads next found ∷ past) caused = λ link s.
    absurd (routed_sent config past link (asked_nowhere config past caused.1.0 caused.1.1 caused.2) (sent_goes config past caused.2) s)
sent_goes config (Takes it number ∷ past) caused = λ link s. absurd cc
sent_goes config (Puts (Sends to (Asks command id)) ∷ past) caused = λ link s.
    goes_then (class_of_command command) to (kept_on past) (transaction config past).link (routing config past).assigned caused.0.2 ∙ s
sent_goes config (Puts (Tells number (Passes from command payload (Some its) recording)) ∷ past) caused = λ link s. absurd cc
sent_goes config (Puts (Tells number (Passes from command payload None recording)) ∷ past) caused = sent_goes config past caused.1
sent_goes config (Puts (Tells number (Owns status)) ∷ past) caused = sent_goes config past caused.1
sent_goes config (Puts (Tells number (Refuses error)) ∷ past) caused = λ link s.
    refused_goes config past number error ∙ sent_goes config past caused.1 link s
sent_goes config (Accepted session scramble reading ∷ past) caused = sent_goes config past caused.2
sent_goes config (TurnsAway told ∷ past) caused = sent_goes config past caused.2
sent_goes config (Began link server reading ∷ past) caused = sent_goes config past caused.2
sent_goes config (ClientBytes bytes ∷ past) caused = sent_goes config past caused.2
sent_goes config (LinkReady link ∷ past) caused = sent_goes config past caused.2
sent_goes config (LinkBytes link bytes ∷ past) caused = sent_goes config past caused.2
sent_goes config (ClientGone ∷ past) caused = sent_goes config past caused.2
sent_goes config (Ticks reading ∷ past) caused = sent_goes config past caused.2
sent_goes config (Comes from said ∷ past) caused = λ link s.
    heard_goes config past from said None (unchecked (checks_so config past caused.2) (read_heard config past from said caused.1) link s)
    ∙ sent_goes config past caused.2 link s
sent_goes config (Connects said ∷ past) caused = sent_goes config past caused.2
sent_goes config (Floods bytes ∷ past) caused = sent_goes config past caused.2
sent_goes config (Starves made number ∷ past) caused = sent_goes config past caused.3
sent_goes config (Puts (Hands packets) ∷ past) caused = sent_goes config past caused.1
sent_goes config (Puts (Records server gtid) ∷ past) caused = sent_goes config past caused.1
sent_goes config (Puts Routes ∷ past) caused = sent_goes config past caused.1
sent_goes config (Puts (Opens link server login) ∷ past) caused = sent_goes config past caused.1
sent_goes config (Puts (Forgets link id) ∷ past) caused = sent_goes config past caused.1
sent_goes config (Puts (LogsInto link packets) ∷ past) caused = sent_goes config past caused.1
sent_goes config (Puts (Sends link Prepares) ∷ past) caused = sent_goes config past caused.1
sent_goes config (Puts (Sends link (Plays entry)) ∷ past) caused = sent_goes config past caused.1
sent_goes config (Puts (Sends link (Waits gtid seconds)) ∷ past) caused = sent_goes config past caused.1
sent_goes config (Puts (Sends link (Probes gtid)) ∷ past) caused = sent_goes config past caused.1
sent_goes config (Puts (Closes reason) ∷ past) caused = sent_goes config past caused.1

-- The link that the session is kept on and that of its transaction are one

abbrev pub Agree : Option ℕ → Option ℕ → Type 0
Agree kept home = (link there : ℕ) → kept ≡ Some link → home ≡ Some there → link ≡ there

-- a command goes on a link, and keeps the session there
sent_agree : (class : Class) (link : ℕ) (kept home assigned : Option ℕ) → or_link (or_link kept home) assigned ≡ Some link → Agree kept home
    → Agree (kept_by class link kept) home
sent_agree class link (Some other) home assigned g agree = agree
sent_agree class link None home assigned g agree = by_test (keeps class)
  where
    by_test : (test : Bool) → Agree (if test then Some link else None) home
    by_test true = λ at there k h. sym (goes_pinned home assigned there at h (g ∙ k))
    by_test false = λ at there k h. absurd cc

-- a reply ends that came on this link
module _ (config : Config) (past : List Item) (link : ℕ) (outcome : Outcome) (g : goes_on config past ≡ Some link)
    (agree : Agree (kept_on past) (transaction config past).link) where
  abbrev its : Bool
  its = speaks (or_link (kept_on past) (transaction config past).link) link (class_by_pending (pending past)) (routing config past)

  abbrev behind : Option ℕ
  behind = (answered_by (kept_on past) (pending past) link outcome (routing config past) (transaction config past)).link

  -- the session isn't kept, or is kept there already
  pub open_there : (there : ℕ) → behind ≡ Some there → link ≡ there
  open_there there e =
      elim (answered_there its (answer_to (pending past) link outcome (transaction config past).state) (transaction config past) there e) [
        | inl before ↦ by_kept before (kept_on past) refl
        | inr same ↦ same
      ]
    where
      by_kept : (transaction config past).link ≡ Some there → (kept : Option ℕ) → kept_on past ≡ kept → link ≡ there
      by_kept before (Some other) k =
          sym (goes_pinned (pinned config past) (routing config past).assigned other link (ap (λ (on : Option ℕ). or_link on (transaction config past).link) k) g)
          ∙ agree other there k before
      by_kept before None k =
          sym (goes_pinned (pinned config past) (routing config past).assigned there link
          (ap (λ (on : Option ℕ). or_link on (transaction config past).link) k ∙ before) g)

  kept_agree : Agree (kept_on past) behind
  kept_agree at there k e =
      goes_pinned (pinned config past) (routing config past).assigned at link (ap (λ (on : Option ℕ). or_link on (transaction config past).link) k) g
      ∙ open_there there e

  filled_agree : Agree (Some link) behind
  filled_agree at there k e = sym (same_some link at k) ∙ open_there there e

pub agree : (config : Config) (past : List Item) → AreCaused config past → Agree (kept_on past) (transaction config past).link
agree config [] caused = λ link there k h. absurd cc
agree config (Puts (Sends to (Asks command id)) ∷ past) caused =
    sent_agree (class_of_command command) to (kept_on past) (transaction config past).link (routing config past).assigned caused.0.2
    (agree config past caused.1)
agree config (Puts (Tells number (Passes from command payload (Some its) Keeps)) ∷ past) caused =
    filled_agree config past from its.outcome (sent_goes config past caused.1 from caused.0.0.of_reply.sent) (agree config past caused.1)
agree config (Puts (Tells number (Passes from command payload (Some its) Accepts)) ∷ past) caused =
    kept_agree config past from its.outcome (sent_goes config past caused.1 from caused.0.0.of_reply.sent) (agree config past caused.1)
agree config (Puts (Tells number (Passes from command payload (Some its) Nothing)) ∷ past) caused =
    kept_agree config past from its.outcome (sent_goes config past caused.1 from caused.0.0.of_reply.sent) (agree config past caused.1)
agree config (Puts (Tells number (Passes from command payload None recording)) ∷ past) caused = agree config past caused.1
agree config (Puts (Tells number (Owns status)) ∷ past) caused = agree config past caused.1
agree config (Puts (Tells number (Refuses error)) ∷ past) caused = agree config past caused.1
agree config (Accepted session scramble reading ∷ past) caused = agree config past caused.2
agree config (TurnsAway told ∷ past) caused = agree config past caused.2
agree config (Began link server reading ∷ past) caused = agree config past caused.2
agree config (ClientBytes bytes ∷ past) caused = agree config past caused.2
agree config (LinkReady link ∷ past) caused = agree config past caused.2
agree config (LinkBytes link bytes ∷ past) caused = agree config past caused.2
agree config (LinkLost gone ∷ past) caused = agree config past caused.2
agree config (ClientGone ∷ past) caused = agree config past caused.2
agree config (Ticks reading ∷ past) caused = agree config past caused.2
agree config (Routed words loads next found ∷ past) caused = agree config past caused.2
agree config (Comes link said ∷ past) caused = agree config past caused.2
agree config (Connects said ∷ past) caused = agree config past caused.2
agree config (Takes it number ∷ past) caused = agree config past caused.2
agree config (Floods bytes ∷ past) caused = agree config past caused.2
agree config (Starves made number ∷ past) caused = agree config past caused.3
agree config (Puts (Hands packets) ∷ past) caused = agree config past caused.1
agree config (Puts (Records server gtid) ∷ past) caused = agree config past caused.1
agree config (Puts Routes ∷ past) caused = agree config past caused.1
agree config (Puts (Opens link server login) ∷ past) caused = agree config past caused.1
agree config (Puts (Forgets link id) ∷ past) caused = agree config past caused.1
agree config (Puts (LogsInto link packets) ∷ past) caused = agree config past caused.1
agree config (Puts (Sends link Prepares) ∷ past) caused = agree config past caused.1
agree config (Puts (Sends link (Plays entry)) ∷ past) caused = agree config past caused.1
agree config (Puts (Sends link (Waits gtid seconds)) ∷ past) caused = agree config past caused.1
agree config (Puts (Sends link (Probes gtid)) ∷ past) caused = agree config past caused.1
agree config (Puts (Drops link cause) ∷ past) caused = agree config past caused.1
agree config (Puts (Closes reason) ∷ past) caused = agree config past caused.1

pub stays_on_its_link : StaysOnItsLink
stays_on_its_link config past link there command id legal its =
    let caused = causes config (Puts (Sends link (Asks command id)) ∷ past) legal in by_link caused.0.2 (agree config past caused.1) its
  where
    kept_there : goes_on config past ≡ Some link → (kept : ℕ) → kept_on past ≡ Some kept → kept ≡ link
    kept_there g kept k =
        goes_pinned (pinned config past) (routing config past).assigned kept link (ap (λ (on : Option ℕ). or_link on (transaction config past).link) k) g

    by_kept : goes_on config past ≡ Some link → Agree (kept_on past) (transaction config past).link → (transaction config past).link ≡ Some there
        → (kept : Option ℕ) → kept_on past ≡ kept → link ≡ there
    by_kept g agrees home (Some kept) k = sym (kept_there g kept k) ∙ agrees kept there k home
    by_kept g agrees home None k =
        sym (goes_pinned (pinned config past) (routing config past).assigned there link
        (ap (λ (on : Option ℕ). or_link on (transaction config past).link) k ∙ home) g)

    by_link : goes_on config past ≡ Some link → Agree (kept_on past) (transaction config past).link
        → ((transaction config past).link ≡ Some there) ⊎ (kept_on past ≡ Some there) → link ≡ there
    by_link g agrees (inl home) = by_kept g agrees home (kept_on past) refl
    by_link g agrees (inr k) = sym (kept_there g there k)

pub pinned_takes_no_route : PinnedTakesNoRoute
pinned_takes_no_route config past legal =
    let caused = causes config (Puts Routes ∷ past) legal in pinned_nowhere (pinned config past) (routing config past).assigned caused.0.2
