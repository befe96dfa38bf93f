use Rattle.std.proofs.Common.{sym}
use Rattle.rws_trace.proofs.Feeds.{IsPart-append, feedless-all, feedless-front, gathers-line, gathers-long, gathers-long_all}
use Rattle.rws_trace.proofs.line_reader.gather.Goals as goal

pub returns-then-not-branch-clause-gathers : goal.returns-then-not-branch-clause-gathers
returns-then-not-branch-clause-gathers c =
    let some = rw c.as_slice.ensures at (sym c.in-Some.ensures) in
    let long = rw (c.if-not-branch.true, c.as_slice-in-Some.ensures) at c.in_ok-append-in-Some.ensures in
    gathers-long c.args.line.now.items c.args.piece.now c.in-Some.end some c.requires.part long.1

pub returns-then-not-branch-2-clause-gathers : goal.returns-then-not-branch-2-clause-gathers
returns-then-not-branch-2-clause-gathers c =
    let none = rw c.as_slice.ensures at (sym c.in-None.ensures) in
    let long = rw (c.if-not-branch-2.true, c.as_slice-in-None.ensures) at c.in_ok-append-in-None.ensures in
    gathers-long_all c.args.line.now.items c.args.piece.now none c.requires.part long.1

pub returns-else-not-branch-clause-gathers : goal.returns-else-not-branch-clause-gathers
returns-else-not-branch-clause-gathers c =
    let some = rw c.as_slice.ensures at (sym c.in-Some.ensures) in
    let short = rw (c.if-not-branch.false, c.as_slice-in-Some.ensures) at c.in_ok-append-in-Some.ensures in
    gathers-line c.args.line.now.items c.args.piece.now c.append.new.line.items c.skip.new.self c.in-Some.end some short.0 c.skip.ensures

pub returns-else-not-branch-clause-part : goal.returns-else-not-branch-clause-part
returns-else-not-branch-clause-part c =
    let some = rw c.as_slice.ensures at (sym c.in-Some.ensures) in
    let short = rw (c.if-not-branch.false, c.as_slice-in-Some.ensures) at c.in_ok-append-in-Some.ensures in
    rw short.0 (IsPart-append c.args.line.now.items _ c.requires.part (feedless-front c.args.piece.now c.in-Some.end some) short.1)

pub returns-else-not-branch-2-clause-part : goal.returns-else-not-branch-2-clause-part
returns-else-not-branch-2-clause-part c =
    let none = rw c.as_slice.ensures at (sym c.in-None.ensures) in
    let short = rw (c.if-not-branch-2.false, c.as_slice-in-None.ensures) at c.in_ok-append-in-None.ensures in
    rw short.0 (IsPart-append c.args.line.now.items _ c.requires.part (feedless-all c.args.piece.now none) short.1)
