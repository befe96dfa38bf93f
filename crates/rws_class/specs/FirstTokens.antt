-- The class of a statement of which some first tokens were kept, if these are left.
use Rattle.std.specs.Prelude.{List, ◌++◌, map, take}
use Rattle.rws_token.specs.Lexeme.{Lexeme, lexeme_of}
use Rattle.rws_class.specs.Forms.{form_class, forms}
use Rattle.rws_class.specs.declared.class.Class.{Class}
use Rattle.rws_class.specs.declared.first_tokens.FirstTokens.{FirstTokens}

abbrev pub kept : FirstTokens → List Lexeme
kept first_tokens = map lexeme_of (take first_tokens.len first_tokens.lexemes)

abbrev pub fixed_left : FirstTokens → List Lexeme → Class
fixed_left first_tokens ts = form_class forms (kept first_tokens ++ ts)
