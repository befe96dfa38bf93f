use Rattle.std.proofs.Common.{ap, ◌∙◌}
use Rattle.rws_session.specs.State.{State}
use Rattle.rws_session.specs.Kept.{Kept}
use Rattle.rws_session.proofs.session.Session.waits.Goals as goal

pub returns : goal.returns
returns c = λ config past stands.
    ap (λ (k : Kept). k.state.routing.waits) c.self.view_is ∙ ap (λ (s : State). s.routing.waits) stands.is.mirrors
