use Rattle.std.proofs.Common.{arith}
use Rattle.rws_msgs.proofs.execute_head.values_of.Goals as goal

pub returns-clause-are : goal.returns-clause-are
returns-clause-are c = record {
  bitmap_size = omega (arith, c.in_ok-bitmap.ensures.size, c.div_ceil.ensures);
  types_size = c.in_ok-types.ensures.size;
  no_types = λ none. absurd (c.if-parameters-eq0.false none);
  no_values = λ none. absurd (c.if-parameters-eq0.false none);
}
