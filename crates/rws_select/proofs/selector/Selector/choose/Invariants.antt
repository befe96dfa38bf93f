use Rattle.std.proofs.Common.{take}
use Rattle.rws_select.specs.Scored.{IsBest}
use Rattle.rws_select.proofs.selector.Selector.choose.Given as goal

abbrev pub invariant-loop-place : goal.invariant-loop-place
invariant-loop-place g l = IsBest (take l.place l.candidates) l.best
