use Rattle.std.proofs.Common.{List}
use Rattle.rws_record.specs.Item.{Item}
use Rattle.rws_session.specs.Kept.{Is}
use Rattle.rws_session.specs.Steps.{Goes}
use Rattle.rws_session.proofs.session.Session.settle.Given as goal

abbrev pub invariant-loop : goal.invariant-loop
invariant-loop l = (past : List Item) → Is l.config l.fn.self past → Goes l.config past l.fn.self l.self
