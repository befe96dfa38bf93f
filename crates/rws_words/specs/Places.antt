-- Tokens with what stands beside them, and which of them are calls.
use Rattle.std.specs.Prelude.{ℕ, Bool, true, false, not, ◌&&◌, ◌||◌, if◌then◌else◌, Option, Some, None, List, [], ◌∷◌, map}
use Rattle.std.specs.Option.{option_map}
use Rattle.rws_token.specs.declared.token.TokenKind.TheVariants.{Word, Quoted}
use Rattle.rws_token.specs.declared.lexeme as declared
use Rattle.rws_token.specs.Lexeme.{Lexeme, lexeme_of, is_kind, is_symbol, unquoted}
use Rattle.rws_words.specs.Words.{is_on, is_one_of, key_words, pure_names, primary_names}
use Rattle.rws_words.specs.declared.call.Call.{Call}
use Rattle.rws_words.specs.declared.call.Call.TheVariants as calls

-- A token, whether a dot stands right before it, and the token behind it
pub record Place : Type 0 where
  pub after_dot : Bool
  pub this : Lexeme
  pub next : Option Lexeme

abbrev pub place_at : Bool → declared.Lexeme.Lexeme → Option declared.Lexeme.Lexeme → Place
place_at after_dot this next =
    record { after_dot = after_dot; this = lexeme_of this; next = option_map lexeme_of next }

abbrev pub places_from : Bool → Lexeme → List Lexeme → List Place
places_from after_dot t [] = record { after_dot = after_dot; this = t; next = None } ∷ []
places_from after_dot t (next ∷ ts) =
    record { after_dot = after_dot; this = t; next = Some next } ∷ places_from (is_symbol 46 t) next ts

-- the places of a text's tokens
abbrev pub places : List Lexeme → List Place
places [] = []
places (t ∷ ts) = places_from false t ts

-- the tokens of places
abbrev pub tokens_of : List Place → List Lexeme
tokens_of ps = map (λ p. p.this) ps

abbrev pub passes : (Lexeme → Bool) → Option Lexeme → Bool
passes test None = false
passes test (Some t) = test t

-- the token behind this one passes a test
abbrev pub is_next : (Lexeme → Bool) → Place → Bool
is_next test p = passes test p.next

abbrev pub is_name : Lexeme → Bool
is_name t = is_kind t.kind Word || is_kind t.kind Quoted

-- a word, or a quoted name, that reads as one of a list
abbrev pub is_named : List (List ℕ) → Lexeme → Bool
is_named names t = is_one_of names t || (is_kind t.kind Quoted && is_on names (unquoted t.bytes))

abbrev pub opens : Place → Bool
opens p = is_next (is_symbol 40) p

-- a word that is no part of a longer name
abbrev pub stands_bare : Place → Bool
stands_bare p = is_kind p.this.kind Word && not p.after_dot

-- what a word calls that is no part of a longer name and that a parenthesis follows
abbrev pub call_of_word : List ℕ → Call
call_of_word name =
    if is_on key_words name then calls.NoCall
    else (if is_on pure_names name then calls.Pure
    else (if is_on primary_names name then calls.Primary else calls.Foreign))

-- A name that a parenthesis follows is a call, but for the words of the language.
abbrev pub call_of : Place → Call
call_of p =
    if is_name p.this && opens p then (if stands_bare p then call_of_word p.this.bytes else calls.Foreign)
    else calls.NoCall

abbrev pub is_primary : Call → Bool
is_primary calls.Primary = true
is_primary _ = false

abbrev pub is_foreign : Call → Bool
is_foreign calls.Foreign = true
is_foreign _ = false

-- a call that only the primary's connection answers as the client expects it
abbrev pub is_primary_call : Place → Bool
is_primary_call p = is_primary (call_of p)

-- what a call of any other function does isn't known
abbrev pub is_foreign_call : Place → Bool
is_foreign_call p = is_foreign (call_of p)
