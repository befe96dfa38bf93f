use Rattle.std.proofs.Common.{refl}
use Rattle.rws_record.specs.Item.Item.{Began}
use Rattle.rws_session.proofs.BeginLemmas.{made}
use Rattle.rws_links.proofs.TableLemmas.{itself}
use Rattle.rws_session.proofs.session.Session.begin.Goals as goal

pub returns : goal.returns
returns c =
    made c.args.config.now (Began c.args.link c.args.server c.args.now_ms) c.args.number _ _ _ c.args.now_ms c.with_front.result tt
    (rw (c.in_commands-front.ensures, c.in_ok-login.ensures, c.in_ok-links.ensures, itself c.args.link) refl) c.with_front.ensures
