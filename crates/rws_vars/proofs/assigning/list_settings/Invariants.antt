use Rattle.std.proofs.Common.{◌≡◌, ◌≤◌, is_some, map, length}
use Rattle.rws_set.specs.Walks.{is_valued}
use Rattle.rws_vars.specs.Assignments.{alone, list_settings, statement_of}
use Rattle.rws_vars.specs.States.{tokens_left, collected_left}
use Rattle.rws_vars.proofs.assigning.list_settings.Given as goal

abbrev pub invariant-loop-lexeme : goal.invariant-loop-lexeme
invariant-loop-lexeme l = record {
  left : collected_left l.collector (map alone (tokens_left l.statement)) ≡ list_settings (statement_of l.text);
  same_text : l.statement.lexemes.text.now ≡ l.text;
  begun : is_valued l.collector.walk.step ≡ is_some l.collector.draft;
  depth : l.collector.walk.depth ≤ l.statement.lexemes.tokens.at;
  within : l.statement.lexemes.tokens.at ≤ length l.text;
}

abbrev pub decreases-loop-lexeme : goal.decreases-loop-lexeme
decreases-loop-lexeme l = length (tokens_left l.statement)
