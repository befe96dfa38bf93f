use Rattle.std.proofs.Common.{◌≡◌, ◌+◌, length, arith}
use Rattle.rws_handles.specs.Prepared.{LongData}
use Rattle.rws_handles.proofs.StatementLemmas.{holds_more, view_more}
use Rattle.rws_handles.proofs.statement.Statement.add_long_data.Goals as goal

pub invariant_of-self-2 : goal.invariant_of-self-2
invariant_of-self-2 c =
    let piece : LongData = record { parameter = c.args.parameter; bytes = c.args.bytes.now } in
    let sum : c.in-Some.total ≡ c.self.inside.long_bytes + length c.args.bytes.now = omega (arith, c.in-Some.ensures) in
    rw (c.in_ok-push.ensures.ok, c.in_ok-command.ensures) (record {
      types = c.self.invariant.types;
      no_types = c.self.invariant.no_types;
      pieces = holds_more _ _ c.in-Some.total _ piece c.self.invariant.pieces c.ranges.parameter.fits sum;
    })

pub returns-clause-ok : goal.returns-clause-ok
returns-clause-ok c =
    let piece : LongData = record { parameter = c.args.parameter; bytes = c.args.bytes.now } in
    rw (c.in_ok-push.ensures.ok, c.in_ok-command.ensures, ← c.self.view_is) (view_more c.self.inside piece c.in-Some.total c.ranges.parameter.fits)
