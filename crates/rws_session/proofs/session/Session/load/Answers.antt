use Rattle.std.proofs.Common.{ap, ◌∙◌}
use Rattle.std.specs.Prelude.{count_by}
use Rattle.rws_record.specs.Values.{links}
use Rattle.rws_links.specs.Finding.{leads_to, owes_to}
use Rattle.rws_links.proofs.FindLemmas.{links_are, pending_are}
use Rattle.rws_session.specs.State.{State}
use Rattle.rws_session.specs.Kept.{Kept}
use Rattle.rws_session.proofs.session.Session.load.Goals as goal

pub returns-clause-links : goal.returns-clause-links
returns-clause-links c = λ config past is.
    c.load.ensures.links ∙ ap (λ (k : Kept). count_by (leads_to c.args.server) k.state.links) c.self.view_is
    ∙ ap (λ (s : State). count_by (leads_to c.args.server) s.links) is.mirrors ∙ links_are past c.args.server (links past)

pub returns-clause-pending : goal.returns-clause-pending
returns-clause-pending c = λ config past is.
    c.load.ensures.pending ∙ ap (λ (k : Kept). count_by (owes_to c.args.server) k.state.links) c.self.view_is
    ∙ ap (λ (s : State). count_by (owes_to c.args.server) s.links) is.mirrors ∙ pending_are past c.args.server (links past)
