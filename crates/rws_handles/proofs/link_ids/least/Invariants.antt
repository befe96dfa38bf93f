use Rattle.std.proofs.Common.{◌≡◌, drop}
use Rattle.rws_handles.specs.LinkIds.{min_or}
use Rattle.rws_handles.proofs.link_ids.least.Given as goal

-- the least so far and the least of the ids behind are the least of all
abbrev pub invariant-rest : goal.invariant-rest
invariant-rest l = min_or l.least (drop l.id-index l.rest) ≡ min_or l.initial.least l.rest
