-- After each call the mark and the cursors are places in the list of entries or its end.
use Rattle.std.proofs.Common.{◌≡◌, ◌<◌, ◌≤◌, ◌==◌, ℕ, ◌+◌, ◌-◌, Bool, true, false, cond, nat_lt, List, [], ◌∷◌, All, Option, Some, None, Ok, Err, Result, find, refl, sym, subst, arith}
use Rattle.std.specs.Prelude.{IfSome, IsSomeAnd, OnOk, OnErr}
use Rattle.std.specs.Option.{option_map}
use Rattle.std.proofs.lemmas.List.Elements.{All-nil, All-cons, All-head, All-tail}
use Rattle.std.proofs.lemmas.Grind.{common_steps}
use Rattle.rws_history.specs.declared.cursor_list.LinkCursor.{LinkCursor}
use Rattle.rws_history.specs.Cursors.{is_of, cursor_of, placed, moved, lowered, all_lowered}

-- the cursor is one of the first n places, or behind them
abbrev pub IsUpTo : ℕ → LinkCursor → Type 0
IsUpTo n cursor = cursor.at ≤ n

pub placed_up_to : (n link at : ℕ) (cursors : List LinkCursor) → at ≤ n → All (IsUpTo n) cursors → All (IsUpTo n) (placed cursors link at)
placed_up_to n link at [] within all = All-cons (IsUpTo n) (record { link = link; at = at }) [] within (All-nil (IsUpTo n))
placed_up_to n link at (c ∷ cs) within all =
    let here = All-head (IsUpTo n) c cs all in
    let rest = All-tail (IsUpTo n) c cs all in
    elim (c.link == link) as (λ b. All (IsUpTo n) (cond b (record { link = link; at = at } ∷ cs) (c ∷ placed cs link at))) [
      | true ↦ All-cons (IsUpTo n) (record { link = link; at = at }) cs within rest
      | false ↦ All-cons (IsUpTo n) c (placed cs link at) here (placed_up_to n link at cs within rest)
    ]

pub moved_up_to : (n link : ℕ) (cursors : List LinkCursor) (place : Option ℕ) → IsSomeAnd place (λ at. at < n) → All (IsUpTo n) cursors → All (IsUpTo n) (moved cursors link place)
moved_up_to n link cursors None below all = all
moved_up_to n link cursors (Some at) below all = placed_up_to n link (at + 1) cursors (omega (arith, below)) all

lowered_up_to_by : (removed at n : ℕ) (b : Bool) → nat_lt removed at ≡ b → removed < n + 1 → at ≤ n + 1 → cond b (at - 1) at ≤ n
lowered_up_to_by removed at n true lower inside within = omega arith
lowered_up_to_by removed at n false lower inside within = let above : at ≤ removed = grind (arith, common_steps) in omega arith

pub lowered_up_to : (removed at n : ℕ) → removed < n + 1 → at ≤ n + 1 → lowered removed at ≤ n
lowered_up_to removed at n inside within = lowered_up_to_by removed at n (nat_lt removed at) refl inside within

pub all_lowered_up_to : (removed n : ℕ) (cursors : List LinkCursor) → removed < n + 1 → All (IsUpTo (n + 1)) cursors → All (IsUpTo n) (all_lowered removed cursors)
all_lowered_up_to removed n [] inside all = All-nil (IsUpTo n)
all_lowered_up_to removed n (c ∷ cs) inside all =
    All-cons (IsUpTo n) (record { link = c.link; at = lowered removed c.at }) (all_lowered removed cs)
    (lowered_up_to removed c.at n inside (All-head (IsUpTo (n + 1)) c cs all))
    (all_lowered_up_to removed n cs inside (All-tail (IsUpTo (n + 1)) c cs all))

pub cursor_up_to : (n link : ℕ) (cursors : List LinkCursor) → All (IsUpTo n) cursors → IfSome (cursor_of cursors link) (λ at. at ≤ n)
cursor_up_to n link [] all = tt
cursor_up_to n link (c ∷ cs) all =
    elim (c.link == link) as (λ b. IfSome (option_map (λ (cursor : LinkCursor). cursor.at) (cond b (Some c) (find (is_of link) cs))) (λ at. at ≤ n)) [
      | true ↦ All-head (IsUpTo n) c cs all
      | false ↦ cursor_up_to n link cs (All-tail (IsUpTo n) c cs all)
    ]

-- what holds of both outcomes of a call holds after it
pub after_either : {T E : Type 0} (result : Result T E) (P : List LinkCursor → Type 0) (old changed new : List LinkCursor)
    → OnOk result (new ≡ changed) → OnErr result (new ≡ old) → P changed → P old → P new
after_either (Ok t) P old changed new ok err then else_ = subst P (sym ok) then
after_either (Err e) P old changed new ok err then else_ = subst P (sym err) else_
