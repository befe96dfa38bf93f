-- SQL modes under which a server cuts texts into tokens otherwise than the proxy does.
use Rattle.std.specs.Prelude.{ℕ, Bool, false, ◌||◌, List, [], ◌∷◌, codes, take, length}
use Rattle.std.specs.List.{list_any}
use Rattle.rws_token.specs.Lexeme.{same_word}
use Rattle.rws_words.specs.Words.{words}

-- parts of the names of such modes, and of modes that stand for them ("SQL_MODE")
unfoldable pub mode_words : List (List ℕ)
mode_words = words (codes "ANSI BACKSLASH DB2 MAXDB MSSQL ORACLE POSTGRESQL")

-- one of the words stands at the front of a text
abbrev pub begins_mode : List (List ℕ) → List ℕ → Bool
begins_mode names bs = list_any (λ name. same_word name (take (length name) bs)) names

-- one of the words stands anywhere in a text
abbrev pub holds_mode : List (List ℕ) → List ℕ → Bool
holds_mode names [] = false
holds_mode names (b ∷ bs) = begins_mode names (b ∷ bs) || holds_mode names bs
