use Rattle.std.proofs.Common.{length, ◌<◌, refl, arith}
use Rattle.std.proofs.lemmas.Bool.Decides.{nat_tests}
use Rattle.rws_trace.specs.Lines.Begins.{last}
use Rattle.rws_trace.proofs.line_reader.last_line.Goals as goal

pub returns-else-is_empty : goal.returns-else-is_empty
returns-else-is_empty c =
    let some : 0 < length c.args.line.now = grind (arith, nat_tests) in
    last c.requires.feedless some refl refl
