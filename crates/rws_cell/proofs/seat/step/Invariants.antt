use Rattle.std.proofs.Common.{◌≡◌, ◌<◌, ◌^◌}
use Rattle.std.specs.Prelude.{slice_index}
use Rattle.crossbeam_utils.specs.Seq.{cell_view, IsSamePass}
use Rattle.rws_cell.proofs.seat.step.Given as goal

abbrev pub invariant-loop : goal.invariant-loop
invariant-loop g l = IsSamePass l.initial.seat l.seat × (cell_view l.seat ≡ cell_view l.initial.seat) × (slice_index l.expected 0 < 2 ^ 32)
