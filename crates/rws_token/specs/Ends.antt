-- Where what has begun ends: each function takes the bytes behind an opening, and gives how many of
-- them belong to it, or None where it never ends. `passed` counts the bytes read so far. A title in
-- quotes is that of a page of MariaDB's documentation.
use Rattle.std.specs.Prelude.{ℕ, ◌+◌, Bool, true, false, not, ◌&&◌, ◌||◌, ◌==◌, if◌then◌else◌, Option, Some, None, List, [], ◌∷◌}
use Rattle.std.specs.List.{prefix_len}
use Rattle.rws_token.specs.Bytes.{is_word_byte, is_word_start, is_number_byte, is_variable_byte}
use Rattle.rws_token.specs.declared.end.Run.{Run}
use Rattle.rws_token.specs.declared.end.Run.TheVariants.{Line, Word, Number, Variable}

-- what a run of bytes goes on with: a line, as of a comment, ends before its line feed
abbrev pub goes_on : Run → ℕ → Bool
goes_on Line b = not (b == 10)
goes_on Word b = is_word_byte b
goes_on Number b = is_number_byte b
goes_on Variable b = is_variable_byte b

-- the longest run
abbrev pub run_len : Run → List ℕ → ℕ
run_len run bs = prefix_len (goes_on run) bs

abbrev pub begins_with : ℕ → List ℕ → Bool
begins_with a [] = false
begins_with a (b ∷ bs) = b == a

-- Behind this byte the next one stays inside: a backslash in a string, or the first of two quotes ("String
-- Literals"). In a quoted name a backslash is a byte like others ("Identifier Names").
abbrev pub escapes_next : ℕ → ℕ → List ℕ → Bool
escapes_next quote b bs = (b == 92 && not (quote == 96)) || (b == quote && begins_with quote bs)

-- the first quote that doesn't stay inside ends a string or a quoted name
abbrev pub enclosed_end : ℕ → Bool → ℕ → List ℕ → Option ℕ
enclosed_end quote stays passed [] = None
enclosed_end quote stays passed (b ∷ bs) =
    if stays then enclosed_end quote false (passed + 1) bs
    else (if escapes_next quote b bs then enclosed_end quote true (passed + 1) bs
    else (if b == quote then Some (passed + 1) else enclosed_end quote false (passed + 1) bs))

-- the first `*/` ends a comment ("Comment Syntax")
abbrev pub comment_end : ℕ → List ℕ → Option ℕ
comment_end passed [] = None
comment_end passed (b ∷ bs) =
    if b == 42 && begins_with 47 bs then Some (passed + 2) else comment_end (passed + 1) bs

abbrev pub begins_word : List ℕ → Bool
begins_word [] = false
begins_word (b ∷ bs) = is_word_start b

-- words joined by dots, as a scope and a variable's name ("System Variables"); a dot that no word follows
-- stays outside
abbrev pub words_len : ℕ → List ℕ → ℕ
words_len passed [] = passed
words_len passed (b ∷ bs) =
    if is_word_byte b || (b == 46 && begins_word bs) then words_len (passed + 1) bs else passed
