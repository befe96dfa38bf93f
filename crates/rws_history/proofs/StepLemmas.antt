-- A step of a history by place is one by serial number.
use Rattle.std.proofs.Common.{◌≡◌, ◌≢◌, ◌<◌, ℕ, ◌+◌, List, [], ◌∷◌, ◌++◌, length, remove, slice_get, Option, Some, None, refl, sym, ◌∙◌, ap, subst, arith, eq-eqb, ne_eqb, ⊎_elim, length-append}
use Rattle.std.specs.Option.{option_map}
use Rattle.std.proofs.lemmas.Bool.{cases_eq}
use Rattle.std.proofs.lemmas.List.Edits.{length-remove}
use Rattle.rws_history.specs.declared.entry.Entry.{Entry}
use Rattle.rws_history.specs.declared.cursor_list.LinkCursor.{LinkCursor}
use Rattle.rws_history.specs.Cursors.{cursor_of, placed, moved, without, lowered}
use Rattle.rws_history.specs.Histories.{HistoryView, pushed, removed, link_added, advanced, link_dropped, mark_set}
use Rattle.rws_history.specs.Serials.{place_of, PlacesFollow, updated, IsByPlace, AreUpTo, StepsAgree}
use Rattle.rws_history.proofs.LinkLemmas.{own-placed, other-placed, own-without, other-without, each-lowered}

-- a look-up behind a change of one link
one_link : (old new : List LinkCursor) (serials : List ℕ) (cursors : ℕ → Option ℕ) (link : ℕ) (at : Option ℕ)
    → ((other : ℕ) → cursor_of old other ≡ option_map (place_of serials) (cursors other))
    → cursor_of new link ≡ option_map (place_of serials) at → ((other : ℕ) → link ≢ other → cursor_of new other ≡ cursor_of old other)
    → (other : ℕ) → cursor_of new other ≡ option_map (place_of serials) (updated cursors link at other)
one_link old new serials cursors link at was own others other =
    ⊎_elim
    (λ same. rw (eq-eqb other link same) (ap (cursor_of new) same ∙ own))
    (λ ne. rw (ne_eqb other link ne) (others other (λ e. ne (sym e)) ∙ was other))
    (cases_eq other link)

-- a look-up behind a change of every place
each_place : (serials more : List ℕ) (place : ℕ → ℕ) (at : Option ℕ) → ((s : ℕ) → at ≡ Some s → place (place_of serials s) ≡ place_of more s)
    → option_map place (option_map (place_of serials) at) ≡ option_map (place_of more) at
each_place serials more place None same = refl
each_place serials more place (Some s) same = ap (λ n. Some n) (same s refl)

option_map-self : (at : Option ℕ) → option_map (λ (n : ℕ). n) at ≡ at
option_map-self None = refl
option_map-self (Some n) = refl

-- the entry that a link plays next moves its cursor to the next place
moves_on : (serials : List ℕ) (cursors : List LinkCursor) (link serial at : ℕ) (place : Option ℕ) → place ≡ Some (place_of serials at)
    → place_of serials (serial + 1) ≡ place_of serials at + 1
    → moved cursors link place ≡ placed cursors link (place_of serials (serial + 1))
moves_on serials cursors link serial at place is follows = rw is (ap (placed cursors link) (sym follows))

module _ (history : HistoryView) (serials : List ℕ) (next : ℕ) (cursors : ℕ → Option ℕ) (mark : ℕ) (follow : PlacesFollow serials next) (was : IsByPlace history serials cursors mark) where
  accepts : (entry : Entry) → AreUpTo next cursors mark → IsByPlace (pushed history entry) (serials ++ next ∷ []) cursors mark
  accepts entry up_to = record {
    kept = length-append history.entries (entry ∷ []) ∙ ap (λ n. n + 1) was.kept ∙ sym (length-append serials (next ∷ []));
    links = λ link. was.links link ∙ sym (option_map-self (option_map (place_of serials) (cursors link)))
        ∙ each_place serials (serials ++ next ∷ []) (λ n. n) (cursors link) (λ at is. sym (follow.accepts at (up_to.links link at is)));
    marked = was.marked ∙ sym (follow.accepts mark up_to.marked);
  }

  takes_out : (place : ℕ) → place < length serials → IsByPlace (removed history place) (remove serials place) cursors mark
  takes_out place inside = record {
    kept =
        let entries = length-remove history.entries place (omega (arith, inside, was.kept)) in
        let numbers = length-remove serials place inside in
        omega (arith, entries, numbers, was.kept);
    links = λ link. each-lowered place history.cursors link ∙ ap (option_map (lowered place)) (was.links link)
        ∙ each_place serials (remove serials place) (lowered place) (cursors link) (λ at is. sym (follow.takes_out place at inside));
    marked = ap (lowered place) was.marked ∙ sym (follow.takes_out place mark inside);
  }

  adds_link : (link : ℕ) → IsByPlace (link_added history link) serials (updated cursors link (Some 0)) mark
  adds_link link = record {
    kept = was.kept;
    links = one_link history.cursors (placed history.cursors link 0) serials cursors link (Some 0) was.links
        (own-placed history.cursors link 0 ∙ ap (λ n. Some n) (sym follow.begins)) (other-placed history.cursors link 0);
    marked = was.marked;
  }

  advances : (link at serial : ℕ) → cursors link ≡ Some at → slice_get serials (place_of serials at) ≡ Some serial
      → IsByPlace (advanced history link) serials (updated cursors link (Some (serial + 1))) mark
  advances link at serial is there =
      let place = place_of serials (serial + 1) in
      let here = was.links link ∙ ap (option_map (place_of serials)) is in
      let changed = moves_on serials history.cursors link serial at (cursor_of history.cursors link) here (follow.goes_on at serial there) in
      record {
        kept = was.kept;
        links = subst (λ (new : List LinkCursor). (other : ℕ) → cursor_of new other ≡ option_map (place_of serials) (updated cursors link (Some (serial + 1)) other)) (sym changed)
            (one_link history.cursors (placed history.cursors link place) serials cursors link (Some (serial + 1)) was.links
            (own-placed history.cursors link place) (other-placed history.cursors link place));
        marked = was.marked;
      }

  drops_link : (link : ℕ) → IsByPlace (link_dropped history link) serials (updated cursors link None) mark
  drops_link link = record {
    kept = was.kept;
    links = one_link history.cursors (without history.cursors link) serials cursors link None was.links (own-without history.cursors link) (other-without history.cursors link);
    marked = was.marked;
  }

  sets_mark : IsByPlace (mark_set history) serials cursors next
  sets_mark = record { kept = was.kept; links = was.links; marked = was.kept ∙ sym follow.ends }

  pub steps_agree : StepsAgree history serials next cursors mark
  steps_agree = record { accepts = accepts; takes_out = takes_out; adds_link = adds_link; advances = advances; drops_link = drops_link; sets_mark = sets_mark }
