-- Why a link is given up, what its loss leads to, and that the links that aren't needed any more are given up one after the other.
use Rattle.std.proofs.Common.{◌≡◌, ℕ, Bool, true, false, List, [], ◌∷◌, ◌++◌, map, drop, refl, sym, ap, subst, ◌∙◌, Some, Option, None}
use Rattle.std.specs.Prelude.{◌≢◌, ◌==◌, Contains, if◌then◌else◌}
use Rattle.std.proofs.lemmas.Bool.{eq-eqb, eqb-true}
use Rattle.rws_wire.specs.declared.close_reason.CloseReason.{CloseReason}
use Rattle.rws_wire.specs.declared.drop_cause.DropCause.{DropCause}
use Rattle.rws_wire.specs.declared.drop_cause.DropCause.TheVariants.{BadWire, BadReply, Unasked, Greeting, Plugin, Login as LoginFails, End, Kept, SessionDiffers, Probe as NoAnswer}
use Rattle.rws_config.specs.declared.config.Config.{Config}
use Rattle.rws_record.specs.Item.{Item, Put}
use Rattle.rws_record.specs.Item.Item.{Puts}
use Rattle.rws_record.specs.Item.Put.{Drops}
use Rattle.rws_record.specs.Values.{contains, goes_on, kept_on, links, pending, sent_on, told_from, is_over, without, or_link, pinned, transaction}
use Rattle.rws_record.specs.Rules.{after_loss, after_loss_by, again_by, farewells, goes_if, loss_by, is_link, is_loss, owed, ending, is_replayable}
use Rattle.rws_record.proofs.WantLemmas.{closes_soon}
use Rattle.rws_record.proofs.WithoutLemmas.{without_has_less}
use Rattle.rws_record.proofs.RecordLemmas.{contained}
use Rattle.rws_laws.specs.Servers.{Lost}
use Rattle.rws_laws.specs.Servers.Lost.{given_up}
use Rattle.rws_laws.specs.Causes.{IsCaused, JustKept}
use Rattle.rws_laws.specs.Causes.JustKept.{gives_up}
use Rattle.rws_laws.proofs.ListLemmas.{Distinct, distinct_links, distinct_without, other_stays, stays_other, without_first}
use Rattle.rws_laws.proofs.Sound.{Caused}
use Rattle.rws_laws.proofs.Sound.Caused.{nothing, leaves}

-- A link is given up for a fault, or since the session is over, or since it is kept on another.
pub data Dropped (config : Config) (past : List Item) (link : ℕ) : DropCause → Type 0 where
  for_fault : {cause : DropCause} → is_loss cause ≡ true → Lost link past (Puts (Drops link cause) ∷ past) → Contains (links past) link
      → Dropped config past link cause
  at_end : is_over past ≡ true → Dropped config past link End
  since_kept : (kept : ℕ) → JustKept config kept past → kept ≢ link → Dropped config past link Kept

pub dropped : (config : Config) (past : List Item) (link : ℕ) (cause : DropCause) → IsCaused config (Drops link cause) past
    → Dropped config past link cause
dropped config past link BadWire caused = for_fault refl (given_up refl) caused.2
dropped config past link BadReply caused = for_fault refl (given_up refl) caused.1
dropped config past link Unasked caused = for_fault refl (given_up refl) caused.1
dropped config past link Greeting caused = for_fault refl (given_up refl) caused.1
dropped config past link Plugin caused = for_fault refl (given_up refl) caused.1
dropped config past link (LoginFails code) caused = for_fault refl (given_up refl) caused.1
dropped config past link SessionDiffers caused = for_fault refl (given_up refl) caused.1
dropped config past link NoAnswer caused = for_fault refl (given_up refl) caused.1
dropped config past link End caused = at_end caused.0
dropped config past link Kept caused = since_kept caused.0 caused.1 caused.2
dropped config past link _ caused = absurd caused

-- The loss of a link closes the session where a reply is cut, and where it is kept there

cut_by : (told sent again kept opened assigned : Bool) (ends : CloseReason) → told ≡ true
    → closes_soon (after_loss_by (loss_by told sent again kept opened is_replayable assigned) ends) ≡ true
cut_by true sent again kept opened assigned ends t = refl
cut_by false sent again kept opened assigned ends t = absurd cc

kept_by : (told sent again kept opened assigned : Bool) (ends : CloseReason) → kept ≡ true
    → closes_soon (after_loss_by (loss_by told sent again kept opened is_replayable assigned) ends) ≡ true
kept_by true sent again kept opened assigned ends k = refl
kept_by false true false kept opened assigned ends k = refl
kept_by false true true true opened assigned ends k = refl
kept_by false false again true opened assigned ends k = refl
kept_by false true true false opened assigned ends k = absurd cc
kept_by false false again false opened assigned ends k = absurd cc

opened_by : (told sent again kept opened assigned : Bool) (ends : CloseReason) → opened ≡ true
    → closes_soon (after_loss_by (loss_by told sent again kept opened is_replayable assigned) ends) ≡ true
opened_by true sent again kept opened assigned ends o = refl
opened_by false true false kept opened assigned ends o = refl
opened_by false true true true opened assigned ends o = refl
opened_by false false again true opened assigned ends o = refl
opened_by false true true false true assigned ends o = refl
opened_by false false again false true assigned ends o = refl
opened_by false true true false false assigned ends o = absurd cc
opened_by false false again false false assigned ends o = absurd cc

module _ (config : Config) (past : List Item) (link : ℕ) where
  pub cut_closes : told_from past ≡ Some link → closes_soon (after_loss config link past) ≡ true
  cut_closes from =
      cut_by (is_link link (told_from past)) (is_link link (sent_on past)) (again_by (pending past) (transaction config past).state)
      (is_link link (kept_on past)) (is_link link (transaction config past).link) (is_link link (goes_if (pending past) (goes_on config past)))
      (ending config past) (ap (is_link link) from ∙ eq-eqb link link refl)

  kept_closes : kept_on past ≡ Some link → closes_soon (after_loss config link past) ≡ true
  kept_closes kept =
      kept_by (is_link link (told_from past)) (is_link link (sent_on past)) (again_by (pending past) (transaction config past).state)
      (is_link link (kept_on past)) (is_link link (transaction config past).link) (is_link link (goes_if (pending past) (goes_on config past)))
      (ending config past) (ap (is_link link) kept ∙ eq-eqb link link refl)

  opened_closes : (transaction config past).link ≡ Some link → closes_soon (after_loss config link past) ≡ true
  opened_closes opened =
      opened_by (is_link link (told_from past)) (is_link link (sent_on past)) (again_by (pending past) (transaction config past).state)
      (is_link link (kept_on past)) (is_link link (transaction config past).link) (is_link link (goes_if (pending past) (goes_on config past)))
      (ending config past) (ap (is_link link) opened ∙ eq-eqb link link refl)

  -- so does that of the link that the session is pinned to
  pub pinned_closes : pinned config past ≡ Some link → closes_soon (after_loss config link past) ≡ true
  pinned_closes there = by_kept (kept_on past) refl there
    where
      by_kept : (kept : Option ℕ) → kept_on past ≡ kept → or_link kept (transaction config past).link ≡ Some link
          → closes_soon (after_loss config link past) ≡ true
      by_kept (Some other) k is = kept_closes (k ∙ is)
      by_kept None k is = opened_closes is

-- Links that are given up one after the other

has_first : (now : List Item) (link : ℕ) (others : List ℕ) → links now ≡ link ∷ others → Contains (links now) link
has_first now link others l =
    let itself : (link == link) ≡ true = eq-eqb link link refl in
    let first : contains link (link ∷ others) ≡ true = rw itself refl in contained link (links now) (ap (contains link) l ∙ first)

bye : (config : Config) (now : List Item) (list : List ℕ) → links now ≡ list → Distinct list → is_over now ≡ true
    → Caused config (map (λ link. Drops link End) list) now
bye config now [] l d over = nothing
bye config now (link ∷ others) l d over =
    leaves refl (over, has_first now link others l)
    (bye config (Puts (Drops link End) ∷ now) others (ap (without link) l ∙ without_first link others d.0) d.1 over)

-- a session that is over gives up those that it has
pub farewells_caused : (config : Config) (past now : List Item) → links now ≡ links past → is_over now ≡ true
    → Caused config (map (λ link. Drops link End) (links past)) now
farewells_caused config past now l over = bye config now (links past) l (distinct_links past) over

-- of such a session the first thing that is owed gives up a link, and what is owed then gives up those that are left
pub farewell_first : (config : Config) (past : List Item) (put : Put) (others : List Put) → owed config past ≡ put ∷ others
    → owed config past ≡ farewells past
    → (link : ℕ) × (put ≡ Drops link End) × Contains (links past) link × (owed config (Puts put ∷ past) ≡ farewells (Puts put ∷ past))
farewell_first config past put others o owes = by_links (links past) refl (distinct_links past)
  where
    by_links : (list : List ℕ) → links past ≡ list → Distinct list
        → (link : ℕ) × (put ≡ Drops link End) × Contains (links past) link × (owed config (Puts put ∷ past) ≡ farewells (Puts put ∷ past))
    by_links [] l d =
        let clash : put ∷ others ≡ [] = sym o ∙ owes ∙ ap (map (λ link. Drops link End)) l in absurd cc
    by_links (link ∷ rest) l d =
        let both : put ∷ others ≡ Drops link End ∷ map (λ other. Drops other End) rest =
        sym o ∙ owes ∙ ap (map (λ other. Drops other End)) l in
        let is : put ≡ Drops link End = cc in
        let behind : others ≡ map (λ other. Drops other End) rest = cc in (
          link,
          is,
          has_first past link rest l,
          subst (λ (p : Put). owed config (Puts p ∷ past) ≡ farewells (Puts p ∷ past)) (sym is)
              (ap (drop 1) o ∙ behind ∙ ap (map (λ other. Drops other End)) (sym (ap (without link) l ∙ without_first link rest d.0))),
        )

-- what is owed behind them has its cause also when one of them is given up
pub record StaysCaused (config : Config) (kept : ℕ) (more : List Put) (now : List Item) : Type 0 where
  pub stands : Caused config more now
  pub later : (other : ℕ) (past : List Item) → (kept == other) ≡ false → Caused config more past → Caused config more (Puts (Drops other Kept) ∷ past)

others_go : (config : Config) (kept : ℕ) (more : List Put) (now : List Item) (list : List ℕ) → Distinct list
    → ((link : ℕ) → contains link list ≡ true → (contains link (links now) ≡ true) × ((link == kept) ≡ false)) → JustKept config kept now
    → StaysCaused config kept more now → Caused config (map (λ link. Drops link Kept) list ++ more) now
others_go config kept more now [] d has just stays = stays.stands
others_go config kept more now (link ∷ others) d has just stays =
    let itself : (link == link) ≡ true = eq-eqb link link refl in
    let first : contains link (link ∷ others) ≡ true = rw itself refl in
    let there = has link first in
    leaves refl
    (kept, just, (λ same. let yes : (link == kept) ≡ true = eq-eqb link kept (sym same) in absurd cc), contained link (links now) there.0)
    (others_go config kept more (Puts (Drops link Kept) ∷ now) others d.1
    (λ other at.
    let all = has other (behind other (link == other) at) in
    (other_stays link other (links now) (apart other at) all.0, all.1)) (gives_up just)
    (record { stands = stays.later link now (elsewhere (kept == link) refl there.1) stays.stands; later = stays.later }))
  where
    elsewhere : (test : Bool) → (kept == link) ≡ test → (link == kept) ≡ false → (kept == link) ≡ false
    elsewhere true t n = let yes : (link == kept) ≡ true = eq-eqb link kept (sym (eqb-true kept link t)) in absurd cc
    elsewhere false t n = t

    behind : (other : ℕ) (test : Bool) → contains other others ≡ true → (if test then true else contains other others) ≡ true
    behind other true at = refl
    behind other false at = at

    apart : (other : ℕ) → contains other others ≡ true → (other == link) ≡ false
    apart other at = by_test (other == link) refl
      where
        by_test : (test : Bool) → (other == link) ≡ test → (other == link) ≡ false
        by_test true t =
            let none : contains other others ≡ false = ap (λ (l : ℕ). contains l others) (eqb-true other link t) ∙ d.0 in absurd cc
        by_test false t = t

-- one that is kept on a link gives up the others
pub others_caused : (config : Config) (past now : List Item) (link : ℕ) (more : List Put) → links now ≡ links past → JustKept config link now
    → StaysCaused config link more now → Caused config (map (λ other. Drops other Kept) (without link (links past)) ++ more) now
others_caused config past now link more l just stays =
    others_go config link more now (without link (links past)) (distinct_without link (links past) (distinct_links past))
    (λ other at. (ap (contains other) l ∙ without_has_less link other (links past) at, stays_other link other (links past) at)) just stays
