use Rattle.std.proofs.Common.{rules}
use Rattle.rws_cell.proofs.Moves.{learns}
use Rattle.rws_cell.proofs.seat.learn.Goals as goal

pub load_as-requires : goal.load_as-requires
load_as-requires g c = (search rules, (search rules, (c.requires.cell, learns _ _ c.requires.live)))
