-- What stands at the front of a text: the longest token, or white space, or a comment. A title in quotes
-- is that of a page of MariaDB's documentation.
use Rattle.std.specs.Prelude.{ℕ, ◌+◌, Bool, true, false, ◌&&◌, ◌||◌, ◌==◌, ◌≤◌, if◌then◌else◌, Option, Some, None, List, [], ◌∷◌}
use Rattle.std.specs.Char.{is_ascii_digit}
use Rattle.rws_token.specs.Bytes.{is_white, is_word_start, ends_dashes}
use Rattle.rws_token.specs.Ends.{run_len, begins_with, enclosed_end, comment_end, words_len}
use Rattle.rws_token.specs.declared.end.Run.TheVariants.{Line, Word as word_run, Number as number_run, Variable as variable_run}
use Rattle.rws_token.specs.declared.piece.Piece.{Piece}
use Rattle.rws_token.specs.declared.piece.Piece.TheVariants.{Gap, Whole, Endless}
use Rattle.rws_token.specs.declared.token.TokenKind.{TokenKind}
use Rattle.rws_token.specs.declared.token.TokenKind.TheVariants.{Word, Number, Str, Quoted, UserVar, SysVar, Assign, Symbol, Exec}

-- the token that ends so many bytes behind its opening
abbrev pub closed : TokenKind → ℕ → Option ℕ → Piece
closed kind opening None = Endless
closed kind opening (Some n) = Whole kind (opening + n)

-- two dashes begin a comment at the end of the text, and where a blank or a control character follows
-- ("Comment Syntax")
abbrev pub dashes_end : List ℕ → Bool
dashes_end [] = true
dashes_end (b ∷ bs) = ends_dashes b

abbrev pub behind_dash : List ℕ → Piece
behind_dash [] = Whole Symbol 1
behind_dash (b ∷ bs) = if b == 45 && dashes_end bs then Gap (2 + run_len Line bs) else Whole Symbol 1

-- a comment that a server executes begins with `!` or `M!` ("Comment Syntax")
abbrev pub is_executable : List ℕ → Bool
is_executable [] = false
is_executable (b ∷ bs) = b == 33 || (b == 77 && begins_with 33 bs)

abbrev pub comment_piece : Bool → Option ℕ → Piece
comment_piece executable None = Endless
comment_piece executable (Some n) = if executable then Whole Exec (2 + n) else Gap (2 + n)

abbrev pub behind_slash : List ℕ → Piece
behind_slash [] = Whole Symbol 1
behind_slash (b ∷ bs) = if b == 42 then comment_piece (is_executable bs) (comment_end 0 bs) else Whole Symbol 1

-- behind `@@`: its name, with its scope if one is written ("System Variables")
abbrev pub system_variable : List ℕ → Piece
system_variable [] = Endless
system_variable (b ∷ bs) = if is_word_start b then Whole SysVar (3 + words_len 0 bs) else Endless

abbrev pub is_quote : ℕ → Bool
is_quote b = b == 39 || (b == 34 || b == 96)

-- behind `@`: a second one, a name in quotes, or one without ("User-Defined Variables")
abbrev pub behind_at : List ℕ → Piece
behind_at [] = Whole Symbol 1
behind_at (b ∷ bs) =
    if b == 64 then system_variable bs
    else (if is_quote b then closed UserVar 2 (enclosed_end b false 0 bs)
    else (if is_word_start b then Whole UserVar (2 + run_len variable_run bs)
    else Whole Symbol 1))

abbrev pub behind_colon : List ℕ → Piece
behind_colon bs = if begins_with 61 bs then Whole Assign 2 else Whole Symbol 1

abbrev pub behind_dot : List ℕ → Piece
behind_dot [] = Whole Symbol 1
behind_dot (b ∷ bs) = if is_ascii_digit b then Whole Number (2 + run_len number_run bs) else Whole Symbol 1

-- By its first byte, and the bytes behind it: 39 and 34 are the quotes of a string ("String Literals"), 96 is
-- that of a name ("Identifier Names"), and 35 begins a comment ("Comment Syntax").
abbrev pub piece_at : ℕ → List ℕ → Piece
piece_at b bs =
    if is_white b then Gap 1
    else (if is_word_start b then Whole Word (1 + run_len word_run bs)
    else (if is_ascii_digit b then Whole Number (1 + run_len number_run bs)
    else (if b == 39 || b == 34 then closed Str 1 (enclosed_end b false 0 bs)
    else (if b == 96 then closed Quoted 1 (enclosed_end b false 0 bs)
    else (if b == 35 then Gap (1 + run_len Line bs)
    else (if b == 45 then behind_dash bs
    else (if b == 47 then behind_slash bs
    else (if b == 64 then behind_at bs
    else (if b == 58 then behind_colon bs
    else (if b == 46 then behind_dot bs
    else Whole Symbol 1))))))))))

-- so many bytes, at least one, of those at hand
abbrev pub IsWithin : ℕ → ℕ → Type 0
IsWithin n bound = (1 ≤ n) × (n ≤ bound)

abbrev pub FitsIn : Piece → ℕ → Type 0
FitsIn (Gap n) bound = IsWithin n bound
FitsIn (Whole kind n) bound = IsWithin n bound
FitsIn Endless bound = Unit {0}
