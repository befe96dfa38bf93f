use Rattle.std.proofs.Common.{rules}
use Rattle.rws_cell.proofs.Exchanges.{exchanges_as}
use Rattle.rws_cell.proofs.seat.exchange.Goals as goal

pub compare_exchange_as-requires : goal.compare_exchange_as-requires
compare_exchange_as-requires g c =
    (search rules, (search rules, (c.requires.cell, exchanges_as c.args.domain _ _ _ c.args.event.now _ c.args.expected c.args.new c.requires.picked.0 c.requires.picked.1 c.requires.live c.requires.steps c.requires.narrow)))
