use Rattle.std.proofs.Common.{refl}
use Rattle.rws_link.proofs.link.Link.log_in.Goals as goal

pub returns-in-Ok-Some-clause-ok : goal.returns-in-Ok-Some-clause-ok
returns-in-Ok-Some-clause-ok c = λ held is.
    let arrives = rw (c.in-Ok-Some.field-0-is, c.due.ensures) at (c.in-Ok-Some.ensures.arrives held is) in
    rw arrives.1 (c.answer.ensures.ok _ arrives.0)

pub returns-in-Ok-Some-clause-err : goal.returns-in-Ok-Some-clause-err
returns-in-Ok-Some-clause-err c = λ held is.
    let arrives = rw (c.in-Ok-Some.field-0-is, c.due.ensures) at (c.in-Ok-Some.ensures.arrives held is) in
    rw arrives.2 (c.answer.ensures.err _ arrives.0)

pub returns-in-Ok-None-clause-ok : goal.returns-in-Ok-None-clause-ok
returns-in-Ok-None-clause-ok c = λ held is.
    let arrives = rw (c.in-Ok-None.field-0-is, c.due.ensures) at (c.in-Ok-None.ensures.arrives held is) in
    rw arrives.0 (refl, c.await_login.ensures _ arrives.1)

pub returns-in-Err-Fault-clause-ok : goal.returns-in-Err-Fault-clause-ok
returns-in-Err-Fault-clause-ok c = λ held is.
    let arrives = rw (c.in-Err-Fault.field-0-is, c.due.ensures) at (c.in-Err-Fault.ensures.arrives held is) in
    rw arrives c.lose.ensures

pub returns-in-Err-OutOfMemory-clause-err : goal.returns-in-Err-OutOfMemory-clause-err
returns-in-Err-OutOfMemory-clause-err c = λ held is.
    let arrives = rw (c.in-Err-OutOfMemory.field-0-is, c.due.ensures) at (c.in-Err-OutOfMemory.ensures.arrives held is) in
    c.await_login-in-Err-OutOfMemory.ensures _ arrives
