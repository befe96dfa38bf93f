-- The tokens of a whole text lie one behind the other, by the length of each piece.
use Rattle.std.proofs.Common.{◌≡◌, ℕ, zero, suc, ◌+◌, ◌-◌, ◌≤◌, ◌<◌, ◌==◌, Bool, true, false, ◌&&◌, ◌||◌, cond, Option, Some, None, List, [], ◌∷◌, length, subst, arith}
use Rattle.std.specs.Prelude.{IfSome}
use Rattle.std.specs.Char.{is_ascii_digit}
use Rattle.std.proofs.lemmas.List.Sums.{prefix_len-le-length}
use Rattle.rws_token.specs.Bytes.{is_white, is_word_start, is_word_byte}
use Rattle.rws_token.specs.Ends.{goes_on, run_len, escapes_next, enclosed_end, comment_end, begins_word, words_len}
use Rattle.rws_token.specs.Piece.{closed, dashes_end, behind_dash, is_executable, comment_piece, behind_slash, system_variable, is_quote, behind_at, behind_colon, behind_dot, piece_at, IsWithin, FitsIn}
use Rattle.rws_token.specs.Lexed.{Lexed, lexed_from, follow}
use Rattle.rws_token.specs.Spans.{Rise, SpansRise, FaultsLieBehind}
use Rattle.rws_token.specs.declared.end.Run.{Run}
use Rattle.rws_token.specs.declared.end.Run.TheVariants.{Line, Word as word_run, Number as number_run, Variable as variable_run}
use Rattle.rws_token.specs.declared.piece.Piece.{Piece}
use Rattle.rws_token.specs.declared.piece.Piece.TheVariants.{Gap, Whole, Endless}
use Rattle.rws_token.specs.declared.token.Token.{Token}
use Rattle.rws_token.specs.declared.token.TokenKind.{TokenKind}
use Rattle.rws_token.specs.declared.token.TokenKind.TheVariants.{Word, Number, Str, Quoted, UserVar, SysVar, Assign, Symbol}

-- an end within a bound, whichever way a test goes
end_if : (test : Bool) (found other : Option ℕ) (bound : ℕ) → IfSome found (λ n. n ≤ bound) → IfSome other (λ n. n ≤ bound) → IfSome (cond test found other) (λ n. n ≤ bound)
end_if true found other bound first second = first
end_if false found other bound first second = second

end_up : (end : Option ℕ) (bound more : ℕ) → bound ≤ more → IfSome end (λ n. n ≤ bound) → IfSome end (λ n. n ≤ more)
end_up (Some n) bound more up within = omega arith
end_up None bound more up within = tt

-- what has begun ends inside of the bytes behind its opening
enclosed_within : (quote : ℕ) (stays : Bool) (passed : ℕ) (bs : List ℕ) → IfSome (enclosed_end quote stays passed bs) (λ n. n ≤ passed + length bs)
enclosed_within quote stays passed [] = tt
enclosed_within quote stays passed (b ∷ bs) =
    let up : passed + 1 + length bs ≤ passed + suc (length bs) = omega arith in
    let pair = end_up (enclosed_end quote true (passed + 1) bs) _ _ up (enclosed_within quote true (passed + 1) bs) in
    let on = end_up (enclosed_end quote false (passed + 1) bs) _ _ up (enclosed_within quote false (passed + 1) bs) in
    end_if stays _ _ _ on (end_if (escapes_next quote b bs) _ _ _ pair (end_if (b == quote) (Some (passed + 1)) _ _ (omega arith) on))

comment_within : (passed : ℕ) (bs : List ℕ) → IfSome (comment_end passed bs) (λ n. n ≤ passed + length bs)
comment_within passed [] = tt
comment_within passed (b ∷ []) = last (b == 42)
  where
    last : (star : Bool) → IfSome (cond (star && false) (Some (passed + 2)) None) (λ n. n ≤ passed + 1)
    last true = tt
    last false = tt
comment_within passed (b ∷ c ∷ bs) =
    let up : passed + 1 + suc (length bs) ≤ passed + suc (suc (length bs)) = omega arith in
    end_if (b == 42 && c == 47) (Some (passed + 2)) _ _ (omega arith) (end_up (comment_end (passed + 1) (c ∷ bs)) _ _ up (comment_within (passed + 1) (c ∷ bs)))

words_within : (passed : ℕ) (bs : List ℕ) → words_len passed bs ≤ passed + length bs
words_within passed [] = omega arith
words_within passed (b ∷ bs) =
    by_test (is_word_byte b || (b == 46 && begins_word bs)) (words_len (passed + 1) bs) (omega (arith, words_within (passed + 1) bs))
  where
    by_test : (test : Bool) (further : ℕ) → further ≤ passed + suc (length bs) → cond test further passed ≤ passed + suc (length bs)
    by_test true further within = within
    by_test false further within = omega arith

-- a piece that fits, whichever way a test goes
fits_if : (test : Bool) (found other : Piece) (bound : ℕ) → FitsIn found bound → FitsIn other bound → FitsIn (cond test found other) bound
fits_if true found other bound first second = first
fits_if false found other bound first second = second

fits_closed : (kind : TokenKind) (opening : ℕ) (end : Option ℕ) (len bound : ℕ) → 1 ≤ opening → opening + len ≤ bound → IfSome end (λ n. n ≤ len) → FitsIn (closed kind opening end) bound
fits_closed kind opening None len bound some up within = tt
fits_closed kind opening (Some n) len bound some up within = (omega arith, omega arith)

fits_comment : (executable : Bool) (end : Option ℕ) (len bound : ℕ) → 2 + len ≤ bound → IfSome end (λ n. n ≤ len) → FitsIn (comment_piece executable end) bound
fits_comment executable None len bound up within = tt
fits_comment true (Some n) len bound up within = (omega arith, omega arith)
fits_comment false (Some n) len bound up within = (omega arith, omega arith)

run_fits : (run : Run) (bs : List ℕ) (opening bound : ℕ) → 1 ≤ opening → opening + length bs ≤ bound → IsWithin (opening + run_len run bs) bound
run_fits run bs opening bound some up = (omega arith, omega (arith, prefix_len-le-length (goes_on run) bs))

symbol_fits : (bs : List ℕ) → FitsIn (Whole Symbol 1) (1 + length bs)
symbol_fits bs = (omega arith, omega arith)

-- each piece has at least one byte, and those at hand
dash_fits : (bs : List ℕ) → FitsIn (behind_dash bs) (1 + length bs)
dash_fits [] = symbol_fits []
dash_fits (b ∷ bs) =
    fits_if (b == 45 && dashes_end bs) (Gap (2 + run_len Line bs)) _ _ (run_fits Line bs 2 _ (omega arith) (omega arith)) (symbol_fits (b ∷ bs))

slash_fits : (bs : List ℕ) → FitsIn (behind_slash bs) (1 + length bs)
slash_fits [] = symbol_fits []
slash_fits (b ∷ bs) =
    fits_if (b == 42) _ _ _ (fits_comment (is_executable bs) (comment_end 0 bs) _ _ (omega arith) (comment_within 0 bs)) (symbol_fits (b ∷ bs))

system_fits : (bs : List ℕ) → FitsIn (system_variable bs) (2 + length bs)
system_fits [] = tt
system_fits (b ∷ bs) =
    fits_if (is_word_start b) (Whole SysVar (3 + words_len 0 bs)) Endless _ (omega arith, omega (arith, words_within 0 bs)) tt

at_fits : (bs : List ℕ) → FitsIn (behind_at bs) (1 + length bs)
at_fits [] = symbol_fits []
at_fits (b ∷ bs) =
    let same : 2 + length bs ≡ 1 + suc (length bs) = omega arith in
    let bound = 1 + suc (length bs) in
    let system = subst (FitsIn (system_variable bs)) same (system_fits bs) in
    let named = fits_closed UserVar 2 (enclosed_end b false 0 bs) _ bound (omega arith) (omega arith) (enclosed_within b false 0 bs) in
    let variable = run_fits variable_run bs 2 bound (omega arith) (omega arith) in
    fits_if (b == 64) _ _ _ system (fits_if (is_quote b) _ _ _ named (fits_if (is_word_start b) (Whole UserVar (2 + run_len variable_run bs)) _ _ variable (symbol_fits (b ∷ bs))))

colon_fits : (bs : List ℕ) → FitsIn (behind_colon bs) (1 + length bs)
colon_fits [] = symbol_fits []
colon_fits (b ∷ bs) = fits_if (b == 61) (Whole Assign 2) _ _ (omega arith, omega arith) (symbol_fits (b ∷ bs))

dot_fits : (bs : List ℕ) → FitsIn (behind_dot bs) (1 + length bs)
dot_fits [] = symbol_fits []
dot_fits (b ∷ bs) =
    fits_if (is_ascii_digit b) (Whole Number (2 + run_len number_run bs)) _ _ (run_fits number_run bs 2 _ (omega arith) (omega arith)) (symbol_fits (b ∷ bs))

piece_fits : (b : ℕ) (bs : List ℕ) → FitsIn (piece_at b bs) (1 + length bs)
piece_fits b bs =
    let bound = 1 + length bs in
    let run = λ (run : Run). run_fits run bs 1 bound (omega arith) (omega arith) in
    let quoted = λ (kind : TokenKind). fits_closed kind 1 (enclosed_end b false 0 bs) _ bound (omega arith) (omega arith) (enclosed_within b false 0 bs) in
    fits_if (is_white b) (Gap 1) _ _ (omega arith, omega arith)
    (fits_if (is_word_start b) (Whole Word (1 + run_len word_run bs)) _ _ (run word_run)
    (fits_if (is_ascii_digit b) (Whole Number (1 + run_len number_run bs)) _ _ (run number_run)
    (fits_if (b == 39 || b == 34) _ _ _ (quoted Str)
    (fits_if (b == 96) _ _ _ (quoted Quoted)
    (fits_if (b == 35) (Gap (1 + run_len Line bs)) _ _ (run Line)
    (fits_if (b == 45) _ _ _ (dash_fits bs)
    (fits_if (b == 47) _ _ _ (slash_fits bs)
    (fits_if (b == 64) _ _ _ (at_fits bs)
    (fits_if (b == 58) _ _ _ (colon_fits bs)
    (fits_if (b == 46) _ _ _ (dot_fits bs) (symbol_fits bs)))))))))))

-- what lies ahead of a place, up to another: rising tokens, and behind them the fault, if there is one
abbrev Ahead : ℕ → Lexed → ℕ → Type 0
Ahead from lexed to =
    Rise from lexed.tokens to × ((at : ℕ) → lexed.fault ≡ Some at → Rise from lexed.tokens at × (at < to))

rise_from : (earlier from : ℕ) (tokens : List Token) (to : ℕ) → earlier ≤ from → Rise from tokens to → Rise earlier tokens to
rise_from earlier from [] to before rise = omega arith
rise_from earlier from (token ∷ tokens) to before rise = (omega (arith, rise.0), rise.1, rise.2)

ahead_follow : (from at to len : ℕ) (piece : Piece) (behind : ℕ → Lexed) → from ≤ at → to ≡ at + 1 + len → FitsIn piece (1 + len) → ((next taken : ℕ) → taken ≤ len → next ≡ at + 1 + taken → Ahead next (behind taken) to) → Ahead from (follow at piece behind) to
ahead_follow from at to len (Gap n) behind before is_to fits rest =
    let left = rest (at + n) (n - 1) (omega (arith, fits.1)) (omega (arith, fits.0)) in
    let up : from ≤ at + n = omega arith in (
      rise_from from (at + n) _ to up left.0,
      λ k is_fault. let fault = left.1 k is_fault in (rise_from from (at + n) _ k up fault.0, fault.1),
    )
ahead_follow from at to len (Whole kind n) behind before is_to fits rest =
    let left = rest (at + n) (n - 1) (omega (arith, fits.1)) (omega (arith, fits.0)) in
    let some : at < at + n = omega (arith, fits.0) in (
      (before, some, left.0),
      λ k is_fault. let fault = left.1 k is_fault in ((before, some, fault.0), fault.1),
    )
ahead_follow from at to len Endless behind before is_to fits rest = (
  omega arith,
  λ k is_fault. let same : at ≡ k = cc in (omega arith, omega arith),
)

ahead : (from taken at to : ℕ) (bs : List ℕ) → taken ≤ length bs → from ≡ at + taken → to ≡ at + length bs → Ahead from (lexed_from taken at bs) to
ahead from taken at to [] within is_from is_to = (omega arith, λ k none. absurd cc)
ahead from zero at to (b ∷ bs) within is_from is_to =
    ahead_follow from at to (length bs) (piece_at b bs) (λ taken. lexed_from taken (at + 1) bs) (omega arith) (omega arith) (piece_fits b bs) (λ next taken fewer is_next. ahead next taken (at + 1) to bs fewer is_next (omega arith))
ahead from (suc taken) at to (b ∷ bs) within is_from is_to =
    ahead from taken (at + 1) to bs (omega arith) (omega arith) (omega arith)

pub spans_rise : SpansRise
spans_rise text = (ahead 0 0 0 (length text) text (omega arith) (omega arith) (omega arith)).0

pub faults_lie_behind : FaultsLieBehind
faults_lie_behind text = (ahead 0 0 0 (length text) text (omega arith) (omega arith) (omega arith)).1
