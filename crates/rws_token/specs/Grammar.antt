-- Strings and quoted names as a grammar, apart from the scan that finds their ends.
use Rattle.std.specs.Prelude.{◌≡◌, ◌≢◌, ◌↔◌, ℕ, ◌+◌, false, ◌&&◌, ◌==◌, Some, List, [], ◌∷◌, ◌++◌, length}
use Rattle.rws_token.specs.Ends.{begins_with, enclosed_end, comment_end}

-- What may stand between the quotes: nothing; a byte that is neither the quote nor, in a string, a
-- backslash; two quotes; in a string, a backslash with any byte.
pub data IsInside : ℕ → List ℕ → Type 0 where
  nothing : {quote : ℕ} → IsInside quote []
  plain : {quote b : ℕ} {bs : List ℕ} → b ≢ quote → (b ≡ 92 → quote ≡ 96) → IsInside quote bs → IsInside quote (b ∷ bs)
  doubled : {quote : ℕ} {bs : List ℕ} → IsInside quote bs → IsInside quote (quote ∷ quote ∷ bs)
  escaped : {quote b : ℕ} {bs : List ℕ} → quote ≢ 96 → IsInside quote bs → IsInside quote (92 ∷ b ∷ bs)

-- the bytes begin with an inside and the quote that ends it, which no second one follows
pub record Encloses (quote : ℕ) (bs : List ℕ) (n : ℕ) : Type 0 where
  pub inside : List ℕ
  pub rest : List ℕ
  pub whole : bs ≡ inside ++ quote ∷ rest
  pub is_inside : IsInside quote inside
  pub ends : begins_with quote rest ≡ false
  pub size : n ≡ length inside + 1

-- the scan ends a string or a quoted name exactly where the grammar does
abbrev pub EndsByGrammar : Type 0
EndsByGrammar =
    (quote : ℕ) (bs : List ℕ) (n : ℕ) → quote ≢ 92 → (enclosed_end quote false 0 bs ≡ Some n) ↔ Encloses quote bs n

-- a comment behind its opening: the first `*/` is its end
pub data IsComment : List ℕ → Type 0 where
  closing : IsComment (42 ∷ 47 ∷ [])
  further : {b : ℕ} {bs : List ℕ} → (b == 42 && begins_with 47 bs) ≡ false → IsComment bs → IsComment (b ∷ bs)

-- the bytes begin with a comment of this length
pub record Comments (bs : List ℕ) (n : ℕ) : Type 0 where
  pub comment : List ℕ
  pub rest : List ℕ
  pub whole : bs ≡ comment ++ rest
  pub is_comment : IsComment comment
  pub size : n ≡ length comment

-- the scan ends a comment exactly where the grammar does
abbrev pub CommentsEndByGrammar : Type 0
CommentsEndByGrammar = (bs : List ℕ) (n : ℕ) → (comment_end 0 bs ≡ Some n) ↔ Comments bs n
