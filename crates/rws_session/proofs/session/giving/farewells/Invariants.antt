use Rattle.std.proofs.Common.{◌≡◌, map, take}
use Rattle.rws_wire.specs.declared.drop_cause.DropCause.TheVariants.{End}
use Rattle.rws_links.specs.declared.numbered.NumberedLink.{NumberedLink}
use Rattle.rws_session.specs.declared.owing.Out.TheVariants as outs
use Rattle.rws_session.proofs.session.giving.farewells.Given as goal

abbrev pub invariant-loop-link : goal.invariant-loop-link
invariant-loop-link l = l.owed.items ≡ map (λ (link : NumberedLink). outs.Drop link.number End) (take l.link-index l.links)
