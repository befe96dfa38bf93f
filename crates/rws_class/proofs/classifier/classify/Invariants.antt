use Rattle.std.proofs.Common.{◌≡◌, ◌-◌, ◌≤◌, length}
use Rattle.rws_token.specs.Lexeme.{lexeme_of}
use Rattle.rws_class.specs.Classes.{class_of}
use Rattle.rws_token.specs.Lexemes.{ahead}
use Rattle.rws_class.specs.States.{class_left, reader_depth}
use Rattle.rws_class.proofs.classifier.classify.Given as goal

abbrev pub invariant-loop-next : goal.invariant-loop-next
invariant-loop-next l = record {
  same_class : class_left l.reader l.after_dot (lexeme_of l.this) (ahead l.lexemes) ≡ class_of l.text;
  same_text : l.lexemes.text.now ≡ l.text;
  depth : reader_depth l.reader ≤ l.lexemes.tokens.at;
  within : l.lexemes.tokens.at ≤ length l.text;
}

abbrev pub decreases-loop-next : goal.decreases-loop-next
decreases-loop-next l = length l.text - l.lexemes.tokens.at
