use Rattle.std.proofs.Common.{refl, ap, ◌∙◌}
use Rattle.rws_link.specs.declared.phase.Awaited.{Awaited}
use Rattle.rws_link.specs.Linking.{Awaiting}
use Rattle.rws_link.proofs.link.Link.read_reply.Goals as goal

pub returns-in-Ok-Some-clause-ok : goal.returns-in-Ok-Some-clause-ok
returns-in-Ok-Some-clause-ok c = λ held e is owes.
    let arrives = rw (c.in-Ok-Some.field-0-is, owes) at (c.in-Ok-Some.ensures.arrives held is) in
    rw arrives.1 (c.take_part.ensures _ e arrives.0 owes)

pub returns-in-Ok-None-clause-ok : goal.returns-in-Ok-None-clause-ok
returns-in-Ok-None-clause-ok c = λ held e is owes.
    let arrives = rw (c.in-Ok-None.field-0-is, owes) at (c.in-Ok-None.ensures.arrives held is) in
    rw arrives.0 (refl, c.await_reply.ensures _ arrives.1 ∙ ap (λ (a : Awaited). Awaiting a held) owes)

pub returns-in-Err-Fault-clause-ok : goal.returns-in-Err-Fault-clause-ok
returns-in-Err-Fault-clause-ok c = λ held e is owes.
    let arrives = rw (c.in-Err-Fault.field-0-is, owes) at (c.in-Err-Fault.ensures.arrives held is) in
    rw arrives c.lose.ensures

pub returns-in-Err-OutOfMemory-clause-err : goal.returns-in-Err-OutOfMemory-clause-err
returns-in-Err-OutOfMemory-clause-err c = λ held is.
    let arrives = rw c.in-Err-OutOfMemory.field-0-is at (c.in-Err-OutOfMemory.ensures.arrives held is) in
    c.await_reply-in-Err-OutOfMemory.ensures _ arrives
