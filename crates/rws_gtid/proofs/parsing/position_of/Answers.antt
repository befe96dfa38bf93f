use Rattle.std.proofs.Common.{ap, ◌∙◌}
use Rattle.rws_gtid.specs.Parsing.{position_in}
use Rattle.rws_gtid.proofs.ListLemmas.{position_spelled, position_again}
use Rattle.rws_gtid.proofs.parsing.position_of.Goals as goal

pub returns-clause-spelled : goal.returns-clause-spelled
returns-clause-spelled c = position_spelled c.args.domain c.args.list.now c.first_of.result c.first_of.ensures

pub returns-clause-only : goal.returns-clause-only
returns-clause-only c = λ gtids fit same.
    c.first_of.ensures ∙ ap (position_in c.args.domain) same ∙ position_again c.args.domain gtids fit
