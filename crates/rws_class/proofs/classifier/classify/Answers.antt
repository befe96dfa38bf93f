use Rattle.std.proofs.Common.{◌≡◌, true, false, Ok, List, length, sym, subst, ap, ◌∙◌, arith}
use Rattle.rws_token.specs.Lexeme.{lexeme_of}
use Rattle.rws_class.specs.Numbers.{is_unfit}
use Rattle.rws_token.specs.Lexemes.{ahead, before_lexeme}
use Rattle.rws_words.specs.Places.{Place, place_at}
use Rattle.rws_class.specs.Classes.{tokens_class}
use Rattle.rws_class.specs.States.{class_left}
use Rattle.rws_class.proofs.ClassLemmas.{HasRead, tokens_class-first, class_of-start, class_left-last, class_left-unfit, class_left-decided}
use Rattle.rws_class.proofs.classifier.classify.Goals as goal

pub returns-in-Ok-None : goal.returns-in-Ok-None
returns-in-Ok-None c =
    sym (class_of-start _ c.new-lexemes.result c.new-lexemes.ensures.text c.new-lexemes.ensures.start ∙ ap tokens_class c.in-Ok-None.ensures.lexemes ∙ ap (λ r. tokens_class (before_lexeme (Ok r) (ahead c.next.new.self))) c.in-Ok-None.field-0-is)

pub returns-in-Err : goal.returns-in-Err
returns-in-Err c =
    sym (class_of-start _ c.new-lexemes.result c.new-lexemes.ensures.text c.new-lexemes.ensures.start ∙ ap tokens_class c.in-Err.ensures.lexemes)

pub loop-next-init : goal.loop-next-init
loop-next-init c =
    let first = c.in-Ok-Some.first in
    let left = ahead c.next.new.self in
    let rises = rw c.in-Ok-Some.field-0-is at c.in-Ok-Some.ensures.rises in
    record {
      same_class = tokens_class-first c.new-reader.result first left c.new-reader.ensures.left ∙ ap (λ r. tokens_class (before_lexeme (Ok r) left)) (sym c.in-Ok-Some.field-0-is) ∙ ap tokens_class (sym c.in-Ok-Some.ensures.lexemes) ∙ sym (class_of-start _ c.new-lexemes.result c.new-lexemes.ensures.text c.new-lexemes.ensures.start);
      same_text = c.in-Ok-Some.ensures.text ∙ c.new-lexemes.ensures.text;
      depth = omega (arith, c.new-reader.ensures.depth);
      within = omega (arith, rises, ap length (c.in-Ok-Some.ensures.text ∙ c.new-lexemes.ensures.text));
    }

pub returns-then-is_unfit : goal.returns-then-is_unfit
returns-then-is_unfit c =
    let left = ahead c.next-in-loop-next.new.self in
    let old = c.loop-next.reader in
    let dot = c.loop-next.after_dot in
    let t = c.loop-next.this in
    let next = c.in-Ok.next in
    let unfit : is_unfit (place_at dot t next) ≡ true = ap is_unfit (sym c.new-window.ensures) ∙ sym c.is_unfit.ensures ∙ c.if-is_unfit.true in
    sym (class_left-unfit old dot (lexeme_of t) next left unfit) ∙ ap (class_left old dot (lexeme_of t)) (sym c.in-Ok.ensures.lexemes) ∙ c.loop-next.invariant.same_class

pub returns-then-is_other : goal.returns-then-is_other
returns-then-is_other c =
    let left = ahead c.next-in-loop-next.new.self in
    let old = c.loop-next.reader in
    let new = c.advance.new.self in
    let dot = c.loop-next.after_dot in
    let t = c.loop-next.this in
    let next = c.in-Ok.next in
    let fit : is_unfit (place_at dot t next) ≡ false = ap is_unfit (sym c.new-window.ensures) ∙ sym c.is_unfit.ensures ∙ c.if-is_unfit.false in
    let has_read = subst (λ (p : Place). HasRead old p new) c.new-window.ensures c.advance.ensures.left in
    let decided = λ (ps : List Place). c.is_other.ensures ps c.if-is_other.true in
    sym (class_left-decided old new dot (lexeme_of t) next left fit has_read decided) ∙ ap (class_left old dot (lexeme_of t)) (sym c.in-Ok.ensures.lexemes) ∙ c.loop-next.invariant.same_class

pub returns-in-None : goal.returns-in-None
returns-in-None c =
    let left = ahead c.next-in-loop-next.new.self in
    let old = c.loop-next.reader in
    let new = c.advance.new.self in
    let dot = c.loop-next.after_dot in
    let t = c.loop-next.this in
    let fit : is_unfit (place_at dot t c.in-Ok.next) ≡ false = ap is_unfit (sym c.new-window.ensures) ∙ sym c.is_unfit.ensures ∙ c.if-is_unfit.false in
    let has_read = subst (λ (p : Place). HasRead old p new) c.new-window.ensures c.advance.ensures.left in
    c.class.ensures ∙ sym (class_left-last old new dot (lexeme_of t) left (rw c.in-None.is at fit) (rw c.in-None.is at has_read)) ∙ ap (λ r. class_left old dot (lexeme_of t) (before_lexeme (Ok r) left)) (sym c.in-None.is) ∙ ap (class_left old dot (lexeme_of t)) (sym c.in-Ok.ensures.lexemes) ∙ c.loop-next.invariant.same_class
