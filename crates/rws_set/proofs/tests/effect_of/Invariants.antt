use Rattle.std.proofs.Common.{◌≡◌, ◌-◌, ◌≤◌, length}
use Rattle.rws_set.proofs.tests.effect_of.Given as goal

abbrev pub invariant-loop-next : goal.invariant-loop-next
invariant-loop-next l = record {
  same_text : l.lexemes.text.now ≡ l.text;
  depth : l.items.walk.depth ≤ l.lexemes.tokens.at;
  within : l.lexemes.tokens.at ≤ length l.text;
}

abbrev pub decreases-loop-next : goal.decreases-loop-next
decreases-loop-next l = length l.text - l.lexemes.tokens.at
