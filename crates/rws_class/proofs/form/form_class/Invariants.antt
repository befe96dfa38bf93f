use Rattle.std.proofs.Common.{◌≡◌, map, length}
use Rattle.rws_token.specs.Lexeme.{lexeme_of}
use Rattle.rws_class.specs.Forms.{form_class}
use Rattle.rws_class.specs.Views.{forms_of}
use Rattle.rws_class.proofs.form.form_class.Given as goal

abbrev pub invariant-loop-rest : goal.invariant-loop-rest
invariant-loop-rest l =
    form_class (forms_of l.rest) (map lexeme_of l.lexemes) ≡ form_class (forms_of l.forms) (map lexeme_of l.lexemes)

abbrev pub decreases-loop-rest : goal.decreases-loop-rest
decreases-loop-rest l = length l.rest
