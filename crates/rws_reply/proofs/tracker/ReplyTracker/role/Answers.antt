use Rattle.std.proofs.Common.{◌∙◌}
use Rattle.rws_reply.proofs.RoleLemmas.{role_tracked}
use Rattle.rws_reply.proofs.tracker.ReplyTracker.role.Goals as goal

pub returns : goal.returns
returns c = λ kind payloads tracked.
    c.role_in.ensures ∙ role_tracked kind payloads c.args.payload.now c.self.inside.awaits (c.self.view_is ∙ tracked)
