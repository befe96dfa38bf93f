use Rattle.std.proofs.Common.{arith}
use Rattle.rws_session.proofs.MirrorLemmas.{farewells_wait}
use Rattle.rws_session.proofs.session.giving.farewells.Goals as goal

pub returns : goal.returns
returns c = farewells_wait c.args.links.now c.loop-link.link-index c.loop-link.owed.items c.loop-link.invariant (omega arith)
