-- A history by serial numbers. Each entry has a number that never changes; later entries have greater ones. A cursor and the
-- mark are numbers too: every entry with a smaller one lies before them. So nothing moves when an entry is taken out. The
-- place of such a number in the list is how many of the entries that stand have a smaller one.
use Rattle.std.specs.Prelude.{◌≡◌, ℕ, ◌+◌, ◌<◌, ◌≤◌, ◌==◌, nat_lt, List, [], ◌∷◌, ◌++◌, length, remove, slice_get, filter, Option, Some, None, if◌then◌else◌}
use Rattle.std.specs.Option.{option_map}
use Rattle.rws_history.specs.declared.entry.Entry.{Entry}
use Rattle.rws_history.specs.Cursors.{cursor_of, lowered}
use Rattle.rws_history.specs.Histories.{HistoryView, pushed, removed, link_added, advanced, link_dropped, mark_set}

abbrev pub place_of : List ℕ → ℕ → ℕ
place_of serials serial = length (filter (λ (one : ℕ). nat_lt one serial) serials)

-- the numbers rise from `first` on, and are below `next`
abbrev pub AreSerials : ℕ → List ℕ → ℕ → Type 0
AreSerials first [] next = first ≤ next
AreSerials first (serial ∷ serials) next = (first ≤ serial) × AreSerials (serial + 1) serials next

-- how the place of a number changes: with an entry more, with one less, past an entry, and at the end
pub record PlacesFollow (serials : List ℕ) (next : ℕ) : Type 0 where
  pub begins : place_of serials 0 ≡ 0
  pub accepts : (at : ℕ) → at ≤ next → place_of (serials ++ next ∷ []) at ≡ place_of serials at
  pub takes_out : (place at : ℕ) → place < length serials → place_of (remove serials place) at ≡ lowered place (place_of serials at)
  pub goes_on : (at serial : ℕ) → slice_get serials (place_of serials at) ≡ Some serial → place_of serials (serial + 1) ≡ place_of serials at + 1
  pub ends : place_of serials next ≡ length serials

-- this one link has this cursor, and each other link keeps its own
abbrev pub updated : (ℕ → Option ℕ) → ℕ → Option ℕ → ℕ → Option ℕ
updated cursors link at other = if other == link then at else cursors other

-- the history has the entries with these serials, and its places are those of these numbers
pub record IsByPlace (history : HistoryView) (serials : List ℕ) (cursors : ℕ → Option ℕ) (mark : ℕ) : Type 0 where
  pub kept : length history.entries ≡ length serials
  pub links : (link : ℕ) → cursor_of history.cursors link ≡ option_map (place_of serials) (cursors link)
  pub marked : history.mark ≡ place_of serials mark

-- the numbers up to which the cursors and the mark go
pub record AreUpTo (next : ℕ) (cursors : ℕ → Option ℕ) (mark : ℕ) : Type 0 where
  pub links : (link at : ℕ) → cursors link ≡ Some at → at ≤ next
  pub marked : mark ≤ next

-- each step of a history by place is one by serial number, in which nothing else changes
pub record StepsAgree (history : HistoryView) (serials : List ℕ) (next : ℕ) (cursors : ℕ → Option ℕ) (mark : ℕ) : Type 0 where
  pub accepts : (entry : Entry) → AreUpTo next cursors mark → IsByPlace (pushed history entry) (serials ++ next ∷ []) cursors mark
  pub takes_out : (place : ℕ) → place < length serials → IsByPlace (removed history place) (remove serials place) cursors mark
  pub adds_link : (link : ℕ) → IsByPlace (link_added history link) serials (updated cursors link (Some 0)) mark
  pub advances : (link at serial : ℕ) → cursors link ≡ Some at → slice_get serials (place_of serials at) ≡ Some serial
      → IsByPlace (advanced history link) serials (updated cursors link (Some (serial + 1))) mark
  pub drops_link : (link : ℕ) → IsByPlace (link_dropped history link) serials (updated cursors link None) mark
  pub sets_mark : IsByPlace (mark_set history) serials cursors next
