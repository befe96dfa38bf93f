-- Session commands: what each sets, and which read what others set.
use Rattle.std.specs.Prelude.{ℕ, Bool, true, false, not, ◌&&◌, ◌||◌, ◌==◌, Option, Some, None, is_some, nat_le, List, [], ◌∷◌, ◌++◌, codes, map}
use Rattle.std.specs.List.{list_any, flat_map}
use Rattle.std.specs.Fmt.{decimal}
use Rattle.rws_words.specs.Words.{words}
use Rattle.rws_vars.specs.Assignments.{assignments_of, behind_words, statement_of}
use Rattle.rws_vars.specs.declared.setting.Setting.{Setting}

-- COM_QUERY with its text, COM_INIT_DB with the name of a database, COM_STMT_PREPARE with the client's handle and the
-- statement's text
pub data Command : Type 0 where
  Runs : List ℕ → Command
  Uses : List ℕ → Command
  Prepares : ℕ → List ℕ → Command

abbrev pub or_none : Option (List Setting) → List Setting
or_none None = []
or_none (Some settings) = settings

-- the name of a prepared statement
abbrev pub statement_name : ℕ → List ℕ
statement_name handle = codes "statement " ++ decimal handle

abbrev pub sets : Command → List Setting
sets (Runs text) = or_none (assignments_of text)
sets (Uses database) = record { name = codes "database"; literal = true; value = database } ∷ []
sets (Prepares handle text) = record { name = statement_name handle; literal = false; value = text } ∷ []

-- Reading ---------------------------------------------------------------------------------------------

-- a character set decides what these bytes mean
abbrev pub is_high : ℕ → Bool
is_high b = nat_le 128 b

abbrev pub begins_with : List ℕ → List ℕ → Bool
begins_with firsts [] = false
begins_with firsts (b ∷ bs) = list_any (λ first. b == first) firsts

-- A string that is given to a user variable is of the connection's character set and collation.
abbrev pub is_user_string : Setting → Bool
is_user_string setting =
    begins_with (codes "@") setting.name && (setting.literal && begins_with (codes "'\"") setting.value)

-- what the value is depends on other settings
abbrev pub reads_value : Setting → Bool
reads_value setting =
    not setting.literal || (list_any is_high setting.value || is_user_string setting)

-- SET CHARACTER SET takes the collation of the database.
abbrev pub takes_database : List ℕ → Bool
takes_database text = is_some (behind_words (words (codes "SET CHARACTER SET")) (statement_of text))

-- What a command does depends on the settings before it.
abbrev pub reads : Command → Bool
reads (Runs text) = list_any reads_value (sets (Runs text)) || takes_database text
reads (Uses database) = list_any reads_value (sets (Uses database))
reads (Prepares handle text) = true

abbrev pub is_prepare : Command → Bool
is_prepare (Prepares handle text) = true
is_prepare _ = false
