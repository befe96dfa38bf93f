-- What is left behind a piece.
use Rattle.std.proofs.Common.{◌≡◌, ℕ, zero, suc, ◌+◌, ◌-◌, ◌≤◌, List, [], ◌∷◌, Some, length, drop, take, get_or, refl, ap, sym, ◌∙◌, arith, add-zero}
use Rattle.std.proofs.lemmas.List.{take_rest}
use Rattle.rws_token.specs.Lexed.{lexed_from, follow}
use Rattle.rws_token.specs.Piece.{piece_at, FitsIn}
use Rattle.rws_token.specs.declared.piece.Piece.TheVariants.{Gap, Whole, Endless}
use Rattle.rws_token.specs.declared.token.TokenKind.{TokenKind}

-- bytes that belong to a piece give nothing
pub lexed_from-taken : (n at : ℕ) (bs : List ℕ) → n ≤ length bs → lexed_from n at bs ≡ lexed_from 0 (at + n) (drop n bs)
lexed_from-taken zero at bs within = rw add-zero refl
lexed_from-taken (suc n) at [] within = absurd (omega arith)
lexed_from-taken (suc n) at (b ∷ bs) within =
    let same : at + 1 + n ≡ at + suc n = omega arith in
    lexed_from-taken n (at + 1) bs (omega arith) ∙ ap (λ k. lexed_from 0 k (drop n bs)) same

-- white space and comments give nothing
pub lexed_from-gap : (at n b : ℕ) (bs : List ℕ) → piece_at b bs ≡ Gap n → 1 ≤ n → n ≤ 1 + length bs → lexed_from 0 at (b ∷ bs) ≡ lexed_from 0 (at + n) (drop n (b ∷ bs))
lexed_from-gap at zero b bs is_gap some within = absurd (omega arith)
lexed_from-gap at (suc n) b bs is_gap some within =
    let same : at + 1 + n ≡ at + suc n = omega arith in
    let fewer : suc n - 1 ≡ n = omega arith in
    ap (λ p. follow at p (λ taken. lexed_from taken (at + 1) bs)) is_gap ∙ ap (λ k. lexed_from k (at + 1) bs) fewer ∙ lexed_from-taken n (at + 1) bs (omega arith) ∙ ap (λ k. lexed_from 0 k (drop n bs)) same

-- a token is given, and then what is left behind it
pub lexed_from-lexeme : (at n b : ℕ) (bs : List ℕ) (kind : TokenKind) → piece_at b bs ≡ Whole kind n → 1 ≤ n → n ≤ 1 + length bs → lexed_from 0 at (b ∷ bs) ≡ follow at (Whole kind n) (λ _. lexed_from 0 (at + n) (drop n (b ∷ bs)))
lexed_from-lexeme at zero b bs kind is_lexeme some within = absurd (omega arith)
lexed_from-lexeme at (suc n) b bs kind is_lexeme some within =
    let same : at + 1 + n ≡ at + suc n = omega arith in
    let fewer : suc n - 1 ≡ n = omega arith in
    ap (λ p. follow at p (λ taken. lexed_from taken (at + 1) bs)) is_lexeme ∙ ap (λ left. follow at (Whole kind (suc n)) (λ _. left)) (ap (λ k. lexed_from k (at + 1) bs) fewer ∙ lexed_from-taken n (at + 1) bs (omega arith) ∙ ap (λ k. lexed_from 0 k (drop n bs)) same)

-- the same laws where the text is a slice that has a first byte
pub lexed_from-gap_at : (at n : ℕ) (rest : List ℕ) → 1 ≤ length rest → Gap n ≡ piece_at (get_or rest 0 0) (take (length rest - 1) (drop 1 rest)) → FitsIn (Gap n) (1 + length (take (length rest - 1) (drop 1 rest))) → lexed_from 0 at rest ≡ lexed_from 0 (at + n) (drop n rest)
lexed_from-gap_at at n [] some is_gap within = absurd (omega arith)
lexed_from-gap_at at n (b ∷ bs) some is_gap within =
    let whole = take_rest (b ∷ bs) 1 in
    lexed_from-gap at n b bs (sym (is_gap ∙ ap (piece_at b) whole)) within.0 (omega (arith, ap length whole))

pub lexed_from-lexeme_at : (at n : ℕ) (rest : List ℕ) (kind : TokenKind) → 1 ≤ length rest → Whole kind n ≡ piece_at (get_or rest 0 0) (take (length rest - 1) (drop 1 rest)) → FitsIn (Whole kind n) (1 + length (take (length rest - 1) (drop 1 rest))) → lexed_from 0 at rest ≡ follow at (Whole kind n) (λ _. lexed_from 0 (at + n) (drop n rest))
lexed_from-lexeme_at at n [] kind some is_lexeme within = absurd (omega arith)
lexed_from-lexeme_at at n (b ∷ bs) kind some is_lexeme within =
    let whole = take_rest (b ∷ bs) 1 in
    lexed_from-lexeme at n b bs kind (sym (is_lexeme ∙ ap (piece_at b) whole)) within.0 (omega (arith, ap length whole))

pub lexed_from-endless_at : (at : ℕ) (rest : List ℕ) → 1 ≤ length rest → Endless ≡ piece_at (get_or rest 0 0) (take (length rest - 1) (drop 1 rest)) → lexed_from 0 at rest ≡ record { tokens = []; fault = Some at }
lexed_from-endless_at at [] some is_endless = absurd (omega arith)
lexed_from-endless_at at (b ∷ bs) some is_endless =
    ap (λ p. follow at p (λ taken. lexed_from taken (at + 1) bs)) (sym (is_endless ∙ ap (piece_at b) (take_rest (b ∷ bs) 1)))
