use Rattle.std.proofs.Common.{ap, ◌∙◌}
use Rattle.rws_session.specs.State.{State}
use Rattle.rws_session.specs.Kept.{Kept}
use Rattle.rws_session.proofs.session.Session.is_over.Goals as goal

pub returns-clause-stands : goal.returns-clause-stands
returns-clause-stands c = λ config past stands.
    ap (λ (k : Kept). k.state.over) c.self.view_is ∙ ap (λ (s : State). s.over) stands.is.mirrors
