-- What the history holds of each pass, after a call, a split and a join.
use Rattle.std.proofs.Common.{◌≡◌, ◌⊎◌, ◌+◌, ◌<◌, ℕ, true, List, [], ◌∷◌, ◌++◌, refl, sym, ap, ◌∙◌, subst, inl, inr, ⊎_elim, arith}
use Rattle.rws_pool.specs.declared.events.PoolEvent.{PoolEvent}
use Rattle.rws_pool.specs.declared.events.Entry.{Entry}
use Rattle.rws_pool.specs.History.{entry, calls_by}
use Rattle.rws_pool.proofs.Histories.{calls_by-append, calls_by-own}
use Rattle.rws_cell.specs.declared.view.View.{View}
use Rattle.rws_cell.specs.Views.{StartsWith, AnyOwns, EachStands, own_part, parts, IsWhole, called, Joins, left_half, right_half, longer, both_views, first_view}
use Rattle.rws_cell.specs.Rule.{Claims, Fits, Learned}
use Rattle.rws_cell.proofs.Prefixes.{starts_itself, starts_with_none, starts_more, longer_of, longer_has}
use Rattle.rws_cell.proofs.Parts.{calls_by-others, stands_on, stands_append, apart_append, stands_between, quiet_parts}
use Rattle.rws_cell.proofs.Numbers.{owns_number, owned-append, left_owned, right_owned, right_apart}

-- the others made no call under a number that this pass or one joined into it owns
pub others_quiet : (v : View) (between : List Entry) → Fits (v.seen ++ between) v → (n : ℕ) → AnyOwns (parts v) n → calls_by n between ≡ []
others_quiet v between f = quiet_parts (parts v) v.seen between f.whole.stands f.stands

-- the pass that makes the call
pub caller_fits : (v : View) (between : List Entry) (event : PoolEvent) → Fits (v.seen ++ between) v
    → Fits ((v.seen ++ between) ++ entry v.number event ∷ []) (called v between event)
caller_fits v between event f =
    let own : calls_by v.number ((v.seen ++ between) ++ entry v.number event ∷ []) ≡ v.mine ++ event ∷ [] =
    calls_by-append v.number (v.seen ++ between) (entry v.number event ∷ [])
    ∙ ap (λ (c : List PoolEvent). c ++ calls_by v.number (entry v.number event ∷ [])) f.stands.0.0
    ∙ ap (λ (c : List PoolEvent). v.mine ++ c) (calls_by-own v.number event) in
    let stands : EachStands ((v.seen ++ between) ++ entry v.number event ∷ []) (parts (called v between event)) = (
      (own, λ n owns other. calls_by-others n v.number event (v.seen ++ between) (λ same. other (sym same)) ∙ f.stands.0.1 n owns other),
      stands_on v.number event v.joined (v.seen ++ between) (f.whole.apart.0 v.number (owns_number (own_part v))) f.stands.1,
    ) in
    record {
      whole = record { live = f.whole.live; stepped = f.whole.stepped; stands = stands; apart = f.whole.apart };
      begins = starts_itself ((v.seen ++ between) ++ entry v.number event ∷ []);
      told = starts_more (v.seen ++ between) v.told (entry v.number event ∷ []) (starts_more v.seen v.told between f.told);
      stands = stands;
    }

-- a pass that doesn't claim the caller's number
pub other_fits : (log : List Entry) (v : View) (n : ℕ) (event : PoolEvent) → ¬ Claims v n → Fits log v → Fits (log ++ entry n event ∷ []) v
other_fits log v n event apart f = record {
  whole = f.whole;
  begins = starts_more log v.seen (entry n event ∷ []) f.begins;
  told = f.told;
  stands = stands_on n event (parts v) log (λ o. apart (f.whole.live, o)) f.stands;
}

left_stands : (history : List Entry) (v : View) → EachStands history (parts v) → EachStands history (parts (left_half v))
left_stands history v s = ((s.0.0, λ n owns other. s.0.1 n (left_owned v n owns) other), s.1)

right_stands : (history : List Entry) (v : View) → 0 < v.step → EachStands history (parts v) → EachStands history (parts (right_half v))
right_stands history v stepped s =
    let new = owns_number (own_part (right_half v)) in (
      (
        s.0.1 (v.number + v.step) (right_owned v (v.number + v.step) new) (right_apart v (v.number + v.step) stepped new),
        λ n owns other. s.0.1 n (right_owned v n owns) (right_apart v n stepped owns),
      ),
      tt,
    )

pub left_whole : (v : View) → IsWhole v → IsWhole (left_half v)
left_whole v w = record {
  live = w.live;
  stepped = (let s = w.stepped in omega (arith, s));
  stands = left_stands v.seen v w.stands;
  apart = ((λ n owns. w.apart.0 n (left_owned v n owns)), w.apart.1);
}

pub right_whole : (v : View) → IsWhole v → IsWhole (right_half v)
right_whole v w = record {
  live = refl;
  stepped = (let s = w.stepped in omega (arith, s));
  stands = right_stands v.seen v w.stepped w.stands;
  apart = ((λ n owns none. none), tt);
}

pub left_fits : (log : List Entry) (v : View) → Fits log v → Fits log (left_half v)
left_fits log v f = record { whole = left_whole v f.whole; begins = f.begins; told = f.told; stands = left_stands log v f.stands }

pub right_fits : (log : List Entry) (v : View) → Fits log v → Fits log (right_half v)
right_fits log v f = record { whole = right_whole v f.whole; begins = f.begins; told = starts_with_none v.seen; stands = right_stands log v f.whole.stepped f.stands }

pub both_fit : (log : List Entry) (v w : View) → Fits log v → Fits log w → ((n : ℕ) → Claims v n → ¬ Claims w n) → Fits log (both_views v w)
both_fit log v w f g apart =
    let l = longer_of log v.seen w.seen f.begins g.begins in
    record {
      whole = record {
        live = f.whole.live;
        stepped = f.whole.stepped;
        stands = stands_append (longer v.seen w.seen) (parts v) (parts w)
            (stands_between (parts v) log (longer v.seen w.seen) v.seen l.begins l.this f.whole.stands f.stands)
            (stands_between (parts w) log (longer v.seen w.seen) w.seen l.begins l.that g.whole.stands g.stands);
        apart = apart_append (parts v) (parts w) f.whole.apart g.whole.apart (λ n o o'. apart n (f.whole.live, o) (g.whole.live, o'));
      };
      begins = l.begins;
      told = l.told;
      stands = stands_append log (parts v) (parts w) f.stands g.stands;
    }

pub both_claim : (v w : View) (n : ℕ) → v.live ≡ true → w.live ≡ true → Claims (both_views v w) n → Claims v n ⊎ Claims w n
both_claim v w n live live' c = ⊎_elim (λ o. inl (live, o)) (λ o. inr (live', o)) (owned-append (parts v) (parts w) n c.1)

pub first_whole : IsWhole first_view
first_whole = record { live = refl; stepped = (omega arith); stands = ((refl, λ n owns other. refl), tt); apart = ((λ n owns none. none), tt) }

pub first_fits : Fits [] first_view
first_fits = record { whole = first_whole; begins = ([], refl); told = ([], refl); stands = ((refl, λ n owns other. refl), tt) }

-- what the load behind a join tells
pub joined_by : (v other middle w : View) (words : List ℕ) → middle ≡ both_views v other → Learned middle words words w → Joins v other w
joined_by v other middle w words both l =
    let is : w ≡ both_views v other = l.same ∙ both in
    let has = longer_has v.seen other.seen (subst (λ (u : View). StartsWith u.seen u.told) both l.told) in
    record {
      is = is;
      this = subst (λ (u : View). StartsWith u.seen v.seen) (sym is) has.0;
      that = subst (λ (u : View). StartsWith u.seen other.seen) (sym is) has.1;
      whole = subst IsWhole (sym l.same) l.whole;
    }
