-- Whole lines before others.
use Rattle.std.proofs.Common.{◌≡◌, ℕ, ◌==◌, inl, inr, Bool, true, false, cond, List, [], ◌∷◌, ◌++◌, refl, sym, ◌∙◌, ap, append_assoc, append-nil}
use Rattle.std.specs.List.{onto_first}
use Rattle.rws_trace.specs.Lines.{lines_of, IsWhole}

-- lines, one or more
record HasLine (lines : List (List ℕ)) : Type 0 where
  first : List ℕ
  others : List (List ℕ)
  parts : lines ≡ first ∷ others

line_before : (feed : Bool) (byte : ℕ) (lines : List (List ℕ)) → HasLine (cond feed ([] ∷ lines) (onto_first byte lines))
line_before true byte lines = record { first = []; others = lines; parts = refl }
line_before false byte [] = record { first = byte ∷ []; others = []; parts = refl }
line_before false byte (line ∷ lines) = record { first = byte ∷ line; others = lines; parts = refl }

has_line : (front : List ℕ) → HasLine (lines_of (front ++ 10 ∷ []))
has_line [] = record { first = []; others = []; parts = refl }
has_line (byte ∷ front) = line_before (byte == 10) byte (lines_of (front ++ 10 ∷ []))

onto_first-append : (byte : ℕ) (lines rest : List (List ℕ)) → HasLine lines → onto_first byte (lines ++ rest) ≡ onto_first byte lines ++ rest
onto_first-append byte lines rest some =
    ap (λ xs. onto_first byte (xs ++ rest)) some.parts ∙ sym (ap (λ xs. onto_first byte xs ++ rest) some.parts)

branch : (feed : Bool) (byte : ℕ) (both lines rest : List (List ℕ)) → both ≡ lines ++ rest → HasLine lines
    → cond feed ([] ∷ both) (onto_first byte both) ≡ cond feed ([] ∷ lines) (onto_first byte lines) ++ rest
branch true byte both lines rest same some = ap (λ xs. [] ∷ xs) same
branch false byte both lines rest same some = ap (onto_first byte) same ∙ onto_first-append byte lines rest some

lines_of-fed : (front rest : List ℕ) → lines_of ((front ++ 10 ∷ []) ++ rest) ≡ lines_of (front ++ 10 ∷ []) ++ lines_of rest
lines_of-fed [] rest = refl
lines_of-fed (byte ∷ front) rest =
    branch (byte == 10) byte _ (lines_of (front ++ 10 ∷ [])) (lines_of rest) (lines_of-fed front rest) (has_line front)

-- whole lines stay what they are, whatever comes behind them
pub lines_of-whole : (text rest : List ℕ) → IsWhole text → lines_of (text ++ rest) ≡ lines_of text ++ lines_of rest
lines_of-whole text rest (inl empty) = rw empty refl
lines_of-whole text rest (inr whole) = rw whole.1 (lines_of-fed whole.0 rest)

pub whole-append : (xs ys : List ℕ) → IsWhole xs → IsWhole ys → IsWhole (xs ++ ys)
whole-append xs ys first (inl empty) = rw (empty, append-nil xs) first
whole-append xs ys first (inr whole) = inr (xs ++ whole.0, ap (λ zs. xs ++ zs) whole.1 ∙ sym (append_assoc xs whole.0 (10 ∷ [])))
