-- What one more token does to the class of what is left.
use Rattle.std.proofs.Common.{◌≡◌, ℕ, Bool, true, false, ◌||◌, cond, Option, Some, None, Ok, Err, is_some, List, [], ◌∷◌, refl, ap, sym, ◌∙◌}
use Rattle.std.specs.List.{list_any, filter}
use Rattle.std.specs.Option.{option_map}
use Rattle.rws_token.specs.declared.token.Unclosed.{Unclosed}
use Rattle.rws_token.specs.declared.lexeme as declared
use Rattle.rws_token.specs.declared.lexemes.Lexemes.{Lexemes}
use Rattle.rws_token.specs.Lexeme.{Lexeme, lexeme_of, is_symbol}
use Rattle.rws_token.specs.Lexed.{Progress, left_of}
use Rattle.rws_token.specs.Lexemes.{Ahead, ahead, ahead_in, before_lexeme}
use Rattle.rws_words.specs.Places.{Place, places_from}
use Rattle.rws_class.specs.Numbers.{is_unfit}
use Rattle.rws_class.specs.Classes.{class_of, tokens_class, statement_class, is_no_semicolon}
use Rattle.rws_class.specs.States.{reader_left, places_left, class_left}
use Rattle.rws_class.specs.declared.class.Class.TheVariants.{Other}
use Rattle.rws_class.specs.declared.statement.Reader.{Reader}

abbrev at : Bool → Lexeme → Option Lexeme → Place
at after_dot t next = record { after_dot = after_dot; this = t; next = next }

-- a reader that has read this place
abbrev pub HasRead : Reader → Place → Reader → Type 0
HasRead old p new = (ps : List Place) → reader_left new (filter is_no_semicolon ps) ≡ reader_left old (filter is_no_semicolon (p ∷ ps))

-- a place that is fit is read, whatever comes behind it
places_left-fit : (old new : Reader) (p : Place) (ps : List Place) → is_unfit p ≡ false → HasRead old p new → places_left old (p ∷ ps) ≡ places_left new ps
places_left-fit old new p ps fit has_read =
    ap (λ u. cond (u || list_any is_unfit ps) Other (reader_left old (filter is_no_semicolon (p ∷ ps)))) fit ∙ ap (λ c. cond (list_any is_unfit ps) Other c) (sym (has_read ps))

pub class_left-next : (old new : Reader) (after_dot : Bool) (t : Lexeme) (n : declared.Lexeme.Lexeme) (left : Ahead) → is_unfit (at after_dot t (Some (lexeme_of n))) ≡ false → HasRead old (at after_dot t (Some (lexeme_of n))) new → class_left old after_dot t (before_lexeme (Ok (Some n)) left) ≡ class_left new (is_symbol 46 t) (lexeme_of n) left
class_left-next old new after_dot t n left fit has_read =
    ap (λ c. cond (is_some left.fault) Other c) (places_left-fit old new (at after_dot t (Some (lexeme_of n))) (places_from (is_symbol 46 t) (lexeme_of n) left.lexemes) fit has_read)

pub class_left-last : (old new : Reader) (after_dot : Bool) (t : Lexeme) (left : Ahead) → is_unfit (at after_dot t None) ≡ false → HasRead old (at after_dot t None) new → class_left old after_dot t (before_lexeme (Ok None) left) ≡ reader_left new []
class_left-last old new after_dot t left fit has_read = places_left-fit old new (at after_dot t None) [] fit has_read

other_both : (b : Bool) → cond b Other Other ≡ Other
other_both true = refl
other_both false = refl

-- a place that isn't fit decides
pub class_left-unfit : (old : Reader) (after_dot : Bool) (t : Lexeme) (next : Option declared.Lexeme.Lexeme) (left : Ahead) → is_unfit (at after_dot t (option_map lexeme_of next)) ≡ true → class_left old after_dot t (before_lexeme (Ok next) left) ≡ Other
class_left-unfit old after_dot t None left unfit =
    ap (λ u. cond (u || false) Other (reader_left old (filter is_no_semicolon (at after_dot t None ∷ [])))) unfit
class_left-unfit old after_dot t (Some n) left unfit =
    ap (λ u. cond (is_some left.fault) Other (cond (u || list_any is_unfit (places_from (is_symbol 46 t) (lexeme_of n) left.lexemes)) Other (reader_left old (filter is_no_semicolon (at after_dot t (Some (lexeme_of n)) ∷ places_from (is_symbol 46 t) (lexeme_of n) left.lexemes))))) unfit ∙ other_both (is_some left.fault)

pub class_left-fault : (old : Reader) (after_dot : Bool) (t : Lexeme) (unclosed : Unclosed) (left : Ahead) → class_left old after_dot t (before_lexeme (Err unclosed) left) ≡ Other
class_left-fault old after_dot t unclosed left = refl

-- a reader that stands for Other, whatever comes, decides
pub class_left-decided : (old new : Reader) (after_dot : Bool) (t : Lexeme) (next : Option declared.Lexeme.Lexeme) (left : Ahead) → is_unfit (at after_dot t (option_map lexeme_of next)) ≡ false → HasRead old (at after_dot t (option_map lexeme_of next)) new → ((ps : List Place) → reader_left new ps ≡ Other) → class_left old after_dot t (before_lexeme (Ok next) left) ≡ Other
class_left-decided old new after_dot t None left fit has_read decided =
    class_left-last old new after_dot t left fit has_read ∙ decided []
class_left-decided old new after_dot t (Some n) left fit has_read decided =
    let ps = places_from (is_symbol 46 t) (lexeme_of n) left.lexemes in
    class_left-next old new after_dot t n left fit has_read ∙ ap (λ c. cond (is_some left.fault) Other (cond (list_any is_unfit ps) Other c)) (decided (filter is_no_semicolon ps)) ∙ ap (λ c. cond (is_some left.fault) Other c) (other_both (list_any is_unfit ps)) ∙ other_both (is_some left.fault)

pub tokens_class-first : (reader : Reader) (first : declared.Lexeme.Lexeme) (left : Ahead) → ((ps : List Place) → reader_left reader ps ≡ statement_class ps) → class_left reader false (lexeme_of first) left ≡ tokens_class (before_lexeme (Ok (Some first)) left)
tokens_class-first reader first left is_new =
    ap (λ c. cond (is_some left.fault) Other (cond (list_any is_unfit (places_from false (lexeme_of first) left.lexemes)) Other c)) (is_new (filter is_no_semicolon (places_from false (lexeme_of first) left.lexemes)))

abbrev ahead_at : List ℕ → Progress → Ahead
ahead_at text progress = ahead_in text (left_of progress)

-- a text that is read from its start
pub class_of-start : (text : List ℕ) (lexemes : Lexemes) → lexemes.text.now ≡ text → lexemes.tokens.at ≡ 0 → class_of text ≡ tokens_class (ahead lexemes)
unfolding class_of
class_of-start text lexemes same start =
    sym (λ i. tokens_class (ahead_at (same i) (record { text = (lexemes.same_text ∙ same) i; at = start i })))
