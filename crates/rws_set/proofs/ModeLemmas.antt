-- The search keeps enough of what it read.
use Rattle.std.proofs.Common.{◌≡◌, ℕ, ◌≤◌, Bool, true, false, ◌&&◌, ◌||◌, List, [], ◌∷◌, ◌++◌, length, take, drop, nat_le, refl, ap, sym, ◌∙◌, arith, append_assoc}
use Rattle.std.specs.List.{list_all}
use Rattle.std.proofs.lemmas.Bool.{leb-true}
use Rattle.std.proofs.lemmas.List.{take-append-le}
use Rattle.rws_token.specs.Lexeme.{same_word}
use Rattle.rws_set.specs.Modes.{begins_mode, holds_mode}

-- a word at the front stands anywhere
pub holds_mode-here : (names : List (List ℕ)) (bs : List ℕ) → 1 ≤ length bs → begins_mode names bs ≡ true → holds_mode names bs ≡ true
holds_mode-here names [] some begins = absurd (omega arith)
holds_mode-here names (b ∷ bs) some begins = ap (λ r. r || holds_mode names bs) begins

abbrev pub AreShort : List (List ℕ) → ℕ → Type 0
AreShort names bound = list_all (λ name. nat_le (length name) bound) names ≡ true

-- whether a word stands at the front is seen in as many bytes as the longest has
begins_mode-append : (names : List (List ℕ)) (xs ys : List ℕ) → AreShort names (length xs) → begins_mode names (xs ++ ys) ≡ begins_mode names xs
begins_mode-append [] xs ys short = refl
begins_mode-append (name ∷ names) xs ys short = go (nat_le (length name) (length xs)) refl short (begins_mode-append names xs ys)
  where
    go : (low : Bool) → nat_le (length name) (length xs) ≡ low → (low && list_all (λ n. nat_le (length n) (length xs)) names) ≡ true → (AreShort names (length xs) → begins_mode names (xs ++ ys) ≡ begins_mode names xs) → (same_word name (take (length name) (xs ++ ys)) || begins_mode names (xs ++ ys)) ≡ (same_word name (take (length name) xs) || begins_mode names xs)
    go true is_low all rest =
        let within = leb-true (length name) (length xs) is_low in
        ap (λ bs. same_word name bs || begins_mode names (xs ++ ys)) (take-append-le (length name) xs ys within) ∙ ap (λ r. same_word name (take (length name) xs) || r) (rest all)
    go false is_low all rest = cc

pub holds_mode-shift : (names : List (List ℕ)) (recent : List ℕ) (b : ℕ) (bs : List ℕ) → 1 ≤ length recent → AreShort names (length recent) → holds_mode names (recent ++ b ∷ bs) ≡ (begins_mode names recent || holds_mode names (drop 1 recent ++ b ∷ [] ++ bs))
holds_mode-shift names [] b bs some short = absurd (omega arith)
holds_mode-shift names (r ∷ rs) b bs some short =
    ap (λ t. t || holds_mode names (rs ++ b ∷ bs)) (begins_mode-append names (r ∷ rs) (b ∷ bs) short) ∙ ap (λ t. begins_mode names (r ∷ rs) || holds_mode names t) (sym (append_assoc rs (b ∷ []) bs))

pub or-assoc : (a b c : Bool) → ((a || b) || c) ≡ (a || (b || c))
or-assoc true b c = refl
or-assoc false b c = refl
