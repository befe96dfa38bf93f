use Rattle.std.proofs.Common.{◌≡◌, ◌≤◌, List, ◌∷◌, ◌++◌, take, refl, sym, ◌∙◌, arith, length-append}
use Rattle.std.proofs.lemmas.List.{length-map, length-take-le}
use Rattle.rws_token.specs.Lexeme.{Lexeme, lexeme_of}
use Rattle.rws_class.specs.Forms.{forms, form_class}
use Rattle.rws_class.specs.FirstTokens.{kept}
use Rattle.rws_class.specs.declared.class.Class.TheVariants.{Other}
use Rattle.rws_class.specs.declared.first_tokens.FirstTokens.{FirstTokens}
use Rattle.rws_class.proofs.FormLemmas.{form_class-long}
use Rattle.rws_class.proofs.first_tokens.FirstTokens.read.Goals as goal

-- where the room is full, the statement has no fixed form
full : (first_tokens : FirstTokens) (ts : List Lexeme) → 8 ≤ first_tokens.len → form_class forms (kept first_tokens ++ ts) ≡ Other
unfolding forms
full first_tokens ts is_full =
    let len = length-take-le first_tokens.len first_tokens.lexemes (omega (arith, first_tokens.in_range, first_tokens.whole)) in
    form_class-long 8 forms (kept first_tokens ++ ts) refl (omega (arith, length-append (kept first_tokens) ts, length-map (take first_tokens.len first_tokens.lexemes) lexeme_of, len))

pub returns-else-self-lt-CAPACITY : goal.returns-else-self-lt-CAPACITY
returns-else-self-lt-CAPACITY c = λ ts.
    full c.args.self.now ts c.if-self-lt-CAPACITY.false ∙ sym (full c.args.self.now (lexeme_of c.args.lexeme.now ∷ ts) c.if-self-lt-CAPACITY.false)
