use Rattle.rws_session.proofs.BeginLemmas.{turned_away}
use Rattle.rws_session.proofs.session.Session.turn_away.Goals as goal

pub returns : goal.returns
returns c =
    turned_away c.args.config.now c.args.told c.args.number c.in_commands-front.result c.in_ok-session.session c.owe_turning_away.new.self
    c.in_commands-front.ensures (rw c.new-links.ensures at c.in_ok-session.ensures) c.in_ok-owe_turning_away.ensures
