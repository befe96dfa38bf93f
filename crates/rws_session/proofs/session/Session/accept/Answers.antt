use Rattle.std.proofs.Common.{refl, None}
use Rattle.rws_record.specs.Item.Item.{Accepted}
use Rattle.rws_session.proofs.BeginLemmas.{made}
use Rattle.rws_session.proofs.session.Session.accept.Goals as goal

pub returns : goal.returns
returns c =
    made c.args.config.now (Accepted c.args.number c.args.scramble c.args.now_ms) c.args.number _ None _ c.args.now_ms c.with_front.result tt
    (rw (c.new-front.ensures, c.new-links.ensures) refl) c.with_front.ensures
