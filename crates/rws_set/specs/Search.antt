-- What a search through strings knows: whether a word was found, and the bytes in which one may have begun.
use Rattle.std.specs.Prelude.{ℕ, Bool, ◌||◌, List, ◌++◌}
use Rattle.rws_set.specs.Modes.{mode_words, holds_mode}
use Rattle.rws_set.specs.declared.mode.Search.{Search}

-- whether a word is found, if these bytes are left
abbrev pub found_in : Search → List ℕ → Bool
found_in search bs = search.found || holds_mode mode_words (search.recent ++ bs)
