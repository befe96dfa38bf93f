use Rattle.std.proofs.Common.{◌≡◌, ◌-◌, ◌≤◌, length}
use Rattle.rws_vars.specs.States.{tokens_left}
use Rattle.rws_vars.proofs.statement.Statement.next.Given as goal

abbrev pub invariant-loop-self : goal.invariant-loop-self
invariant-loop-self l = record {
  same_text : l.self.lexemes.text.now ≡ l.initial.self.lexemes.text.now;
  tokens : tokens_left l.initial.self ≡ tokens_left l.self;
  rises : l.initial.self.lexemes.tokens.at ≤ l.self.lexemes.tokens.at;
}

abbrev pub decreases-loop-self : goal.decreases-loop-self
decreases-loop-self l = length l.self.lexemes.text.now - l.self.lexemes.tokens.at
