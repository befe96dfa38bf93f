use Rattle.std.proofs.Common.{sym, subst}
use Rattle.crossbeam_utils.specs.Seq.{cell_view}
use Rattle.rws_cell.specs.Views.{IsWhole}
use Rattle.rws_cell.proofs.Standing.{left_whole}
use Rattle.rws_cell.proofs.cell.PoolCell.split.Goals as goal

pub invariant_of-pass : goal.invariant_of-pass
invariant_of-pass g c = subst IsWhole (sym c.split.ensures.left) (left_whole (cell_view c.pass.inside.seat) c.pass.invariant)

pub returns-clause-whole : goal.returns-clause-whole
returns-clause-whole g c = (invariant_of-pass g c, c.split.ensures.whole)
