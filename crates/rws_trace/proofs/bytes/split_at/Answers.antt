use Rattle.std.proofs.Common.{◌+◌, ◌==◌, sym}
use Rattle.std.proofs.lemmas.List.{take_rest}
use Rattle.rws_trace.proofs.Splits.{slice_split-none, slice_split-some}
use Rattle.rws_trace.proofs.bytes.split_at.Goals as goal

pub returns-in-None-clause-parts : goal.returns-in-None-clause-parts
returns-in-None-clause-parts c = slice_split-none (λ byte. byte == c.args.byte) c.args.text.now (sym c.in-None.ensures)

pub returns-in-Some-clause-parts : goal.returns-in-Some-clause-parts
returns-in-Some-clause-parts c =
    let rest = take_rest c.args.text.now (c.in-Some.end + 1) in
    rw rest (slice_split-some (λ byte. byte == c.args.byte) c.args.text.now c.in-Some.end (sym c.in-Some.ensures))
