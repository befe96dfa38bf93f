use Rattle.std.proofs.Common.{ap, ◌∙◌}
use Rattle.std.specs.Prelude.{◌==◌, ◌&&◌}
use Rattle.std.specs.List.{list_any}
use Rattle.rws_link.specs.Linking.{is_awaiting}
use Rattle.rws_record.specs.Values.{links}
use Rattle.rws_links.specs.declared.numbered.NumberedLink.{NumberedLink}
use Rattle.rws_session.specs.State.{State}
use Rattle.rws_session.specs.Kept.{Kept}
use Rattle.rws_links.proofs.TableLemmas.{awaits_is}
use Rattle.rws_session.proofs.session.Session.awaits.Goals as goal

pub returns : goal.returns
returns c = λ config past stands.
    c.awaits.ensures
    ∙ ap (λ (k : Kept). list_any (λ (link : NumberedLink). link.number == c.args.link && is_awaiting link.link) k.state.links) c.self.view_is
    ∙ ap (λ (s : State). list_any (λ (link : NumberedLink). link.number == c.args.link && is_awaiting link.link) s.links) stands.is.mirrors
    ∙ awaits_is past c.args.link (links past)
