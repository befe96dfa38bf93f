use Rattle.std.proofs.Common.{rules}
use Rattle.rws_cell.proofs.Moves.{splits}
use Rattle.rws_cell.proofs.seat.split.Goals as goal

pub split_pass-new-requires : goal.split_pass-new-requires
split_pass-new-requires g c = (search rules, (search rules, (c.requires.cell, splits _ _ c.requires.live)))
