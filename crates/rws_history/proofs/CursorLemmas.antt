-- What the loops and look-ups of a list of cursors make of it.
use Rattle.std.proofs.Common.{◌≡◌, ◌<◌, ◌==◌, ℕ, zero, suc, ◌+◌, true, false, cond, List, [], ◌∷◌, ◌++◌, map, length, get_or, set, take, drop, Some, None, position, find, refl, sym, ap, ◌∙◌, arith, add-one}
use Rattle.std.specs.List.{position_from}
use Rattle.std.specs.Option.{option_map}
use Rattle.std.proofs.lemmas.List.Quantifiers.{position-Some}
use Rattle.std.proofs.lemmas.Iterator.Adapters.{position_from-zero}
use Rattle.rws_history.specs.declared.cursor_list.LinkCursor.{LinkCursor}
use Rattle.rws_history.specs.Cursors.{is_of, cursor_of, placed}

-- a loop that goes through a list and has changed its first items
pub map_one_more : {A : Type 0} (f : A → A) (xs ys : List A) (i : ℕ) (d : A) → i < length xs → ys ≡ map f (take i xs) ++ drop i xs
    → set ys i (f (get_or ys i d)) ≡ map f (take (i + 1) xs) ++ drop (i + 1) xs
map_one_more f [] ys i d inside is = absurd (omega arith)
map_one_more f (x ∷ xs) ys zero d inside is = rw is refl
map_one_more f (x ∷ xs) ys (suc i) d inside is = rw is (rw add-one (ap (λ zs. f x ∷ zs) (rw add-one at (map_one_more f xs (map f (take i xs) ++ drop i xs) i d (omega arith) refl))))

-- the first cursor of a link is at this place
placed_first : (link at : ℕ) (cursors : List LinkCursor) (i : ℕ) (d : LinkCursor) → i < length cursors → is_of link (get_or cursors i d) ≡ true
    → ((k : ℕ) → k < i → is_of link (get_or cursors k d) ≡ false) → set cursors i (record { link = link; at = at }) ≡ placed cursors link at
placed_first link at [] i d inside here before = absurd (omega arith)
placed_first link at (c ∷ cs) zero d inside here before = rw here refl
placed_first link at (c ∷ cs) (suc i) d inside here before =
    let apart : (c.link == link) ≡ false = before 0 (omega arith) in
    rw apart (ap (λ xs. c ∷ xs) (placed_first link at cs i d (omega arith) here (λ k below. before (suc k) (omega arith))))

found_first : (link : ℕ) (cursors : List LinkCursor) (i : ℕ) (d : LinkCursor) → i < length cursors → is_of link (get_or cursors i d) ≡ true
    → ((k : ℕ) → k < i → is_of link (get_or cursors k d) ≡ false) → cursor_of cursors link ≡ Some (get_or cursors i d).at
found_first link [] i d inside here before = absurd (omega arith)
found_first link (c ∷ cs) zero d inside here before = rw here refl
found_first link (c ∷ cs) (suc i) d inside here before =
    let apart : (c.link == link) ≡ false = before 0 (omega arith) in
    rw apart (found_first link cs i d (omega arith) here (λ k below. before (suc k) (omega arith)))

-- what stands at the place of a link's cursor, and what a write there makes
pub placed_at : (link at : ℕ) (items cursors : List LinkCursor) (i : ℕ) → items ≡ cursors → position (is_of link) cursors ≡ Some i
    → set items i (record { link = link; at = at }) ≡ placed cursors link at
placed_at link at items cursors i is found =
    let d : LinkCursor = record { link = link; at = at } in
    let first = position-Some (is_of link) cursors i d found in
    ap (λ (cs : List LinkCursor). set cs i d) is ∙ placed_first link at cursors i d first.0 first.1 first.2

pub found_at : (link : ℕ) (items cursors : List LinkCursor) (i : ℕ) (d : LinkCursor) → items ≡ cursors → d ≡ get_or items i d → position (is_of link) cursors ≡ Some i
    → cursor_of cursors link ≡ Some d.at
found_at link items cursors i d is read found =
    let first = position-Some (is_of link) cursors i d found in
    let there = read ∙ ap (λ (cs : List LinkCursor). get_or cs i d) is in
    found_first link cursors i d first.0 first.1 first.2 ∙ ap (λ (c : LinkCursor). Some c.at) (sym there)

-- a link that stands nowhere is put at the end, and has no place
placed_behind : (link at n : ℕ) (cursors : List LinkCursor) → position_from (is_of link) n cursors ≡ None → placed cursors link at ≡ cursors ++ record { link = link; at = at } ∷ []
placed_behind link at n [] none = refl
placed_behind link at n (c ∷ cs) none =
    elim (c.link == link) as (λ b. cond b (Some n) (position_from (is_of link) (n + 1) cs) ≡ None
    → cond b (record { link = link; at = at } ∷ cs) (c ∷ placed cs link at) ≡ c ∷ (cs ++ record { link = link; at = at } ∷ [])) [
      | true ↦ λ e. absurd (cc (e))
      | false ↦ λ e. ap (λ xs. c ∷ xs) (placed_behind link at (n + 1) cs e)
    ] none

found_nowhere : (link n : ℕ) (cursors : List LinkCursor) → position_from (is_of link) n cursors ≡ None → cursor_of cursors link ≡ None
found_nowhere link n [] none = refl
found_nowhere link n (c ∷ cs) none =
    elim (c.link == link) as (λ b. cond b (Some n) (position_from (is_of link) (n + 1) cs) ≡ None
    → option_map (λ (cursor : LinkCursor). cursor.at) (cond b (Some c) (find (is_of link) cs)) ≡ None) [
      | true ↦ λ e. absurd (cc (e))
      | false ↦ λ e. found_nowhere link (n + 1) cs e
    ] none

pub placed_at_end : (link at : ℕ) (items cursors : List LinkCursor) → items ≡ cursors → position (is_of link) cursors ≡ None
    → items ++ record { link = link; at = at } ∷ [] ≡ placed cursors link at
placed_at_end link at items cursors is none =
    ap (λ (cs : List LinkCursor). cs ++ record { link = link; at = at } ∷ []) is ∙ sym (placed_behind link at 0 cursors (sym (position_from-zero (is_of link) cursors) ∙ none))

pub not_found : (link : ℕ) (cursors : List LinkCursor) → position (is_of link) cursors ≡ None → cursor_of cursors link ≡ None
not_found link cursors none = found_nowhere link 0 cursors (sym (position_from-zero (is_of link) cursors) ∙ none)
