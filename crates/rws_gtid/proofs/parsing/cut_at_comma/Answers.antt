use Rattle.std.proofs.Common.{sym, ◌∙◌}
use Rattle.rws_gtid.proofs.CommaLemmas.{cuts, uncut}
use Rattle.rws_gtid.proofs.parsing.cut_at_comma.Goals as goal

pub returns-in-Some : goal.returns-in-Some
returns-in-Some c = cuts c.args.list.now c.in-Some.comma (sym c.first_comma.ensures ∙ c.in-Some.is)

pub returns-in-None : goal.returns-in-None
returns-in-None c = uncut c.args.list.now (sym c.first_comma.ensures ∙ c.in-None.is)
