use Rattle.std.proofs.Common.{◌∙◌}
use Rattle.rws_reply.specs.declared.awaits.Step.TheVariants.{Goes, Ends, Wrong}
use Rattle.rws_reply.proofs.ProgressLemmas.{tracks, tells, tracks_nothing, tells_nothing}
use Rattle.rws_reply.proofs.tracker.ReplyTracker.step.Goals as goal

pub returns-in_default-clause-tracks : goal.returns-in_default-clause-tracks
returns-in_default-clause-tracks c = λ kind payloads tracked.
    c.take.ensures.after ∙ tracks_nothing kind payloads c.args.payload.now (c.in_default.ensures.value ∙ c.self.view_is ∙ tracked)

pub returns-in_default-clause-tells : goal.returns-in_default-clause-tells
returns-in_default-clause-tells c = λ kind payloads tracked.
    tells_nothing kind payloads c.args.payload.now (c.in_default.ensures.value ∙ c.self.view_is ∙ tracked)

pub returns-in-Goes-clause-tracks : goal.returns-in-Goes-clause-tracks
returns-in-Goes-clause-tracks c = λ kind payloads tracked.
    tracks kind payloads c.args.payload.now c.in-Some.awaited (Goes c.in-Goes.awaits) (c.in-Some.ensures.value ∙ c.self.view_is ∙ tracked) c.in-Goes.ensures

pub returns-in-Goes-clause-tells : goal.returns-in-Goes-clause-tells
returns-in-Goes-clause-tells c = λ kind payloads tracked.
    tells kind payloads c.args.payload.now c.in-Some.awaited (Goes c.in-Goes.awaits) (c.in-Some.ensures.value ∙ c.self.view_is ∙ tracked) c.in-Goes.ensures

pub returns-in-Ends-clause-tracks : goal.returns-in-Ends-clause-tracks
returns-in-Ends-clause-tracks c = λ kind payloads tracked.
    c.take.ensures.after
    ∙ tracks kind payloads c.args.payload.now c.in-Some.awaited (Ends c.in-Ends.outcome) (c.in-Some.ensures.value ∙ c.self.view_is ∙ tracked) c.in-Ends.ensures

pub returns-in-Ends-clause-tells : goal.returns-in-Ends-clause-tells
returns-in-Ends-clause-tells c = λ kind payloads tracked.
    tells kind payloads c.args.payload.now c.in-Some.awaited (Ends c.in-Ends.outcome) (c.in-Some.ensures.value ∙ c.self.view_is ∙ tracked) c.in-Ends.ensures

pub returns-in-Wrong-clause-tracks : goal.returns-in-Wrong-clause-tracks
returns-in-Wrong-clause-tracks c = λ kind payloads tracked.
    c.take.ensures.after
    ∙ tracks kind payloads c.args.payload.now c.in-Some.awaited Wrong (c.in-Some.ensures.value ∙ c.self.view_is ∙ tracked) c.in-Wrong.ensures

pub returns-in-Wrong-clause-tells : goal.returns-in-Wrong-clause-tells
returns-in-Wrong-clause-tells c = λ kind payloads tracked.
    tells kind payloads c.args.payload.now c.in-Some.awaited Wrong (c.in-Some.ensures.value ∙ c.self.view_is ∙ tracked) c.in-Wrong.ensures
