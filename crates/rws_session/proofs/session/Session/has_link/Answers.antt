use Rattle.std.proofs.Common.{ap, ◌∙◌}
use Rattle.std.specs.Prelude.{◌==◌}
use Rattle.std.specs.List.{list_any}
use Rattle.rws_record.specs.Values.{links}
use Rattle.rws_links.specs.declared.numbered.NumberedLink.{NumberedLink}
use Rattle.rws_session.specs.State.{State}
use Rattle.rws_session.specs.Kept.{Kept}
use Rattle.rws_links.proofs.TableLemmas.{has_is}
use Rattle.rws_session.proofs.session.Session.has_link.Goals as goal

pub returns-clause-links : goal.returns-clause-links
returns-clause-links c = λ config past is.
    c.has.ensures ∙ ap (λ (k : Kept). list_any (λ (link : NumberedLink). link.number == c.args.link) k.state.links) c.self.view_is
    ∙ ap (λ (s : State). list_any (λ (link : NumberedLink). link.number == c.args.link) s.links) is.mirrors
    ∙ has_is past c.args.link (links past)
