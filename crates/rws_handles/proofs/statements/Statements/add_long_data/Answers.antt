use Rattle.std.proofs.Common.{sym}
use Rattle.std.proofs.lemmas.Result.{on_ok_weaker}
use Rattle.rws_handles.specs.Prepared.{LongData, Prepared, with_long_data}
use Rattle.rws_handles.proofs.PlaceLemmas.{statements_kept, updated_is, updated_none}
use Rattle.rws_handles.proofs.statements.Statements.add_long_data.Goals as goal

pub invariant_of-self-2 : goal.invariant_of-self-2
invariant_of-self-2 c = statements_kept c.self.inside c.args.number c.in-Some.statement.now c.add_long_data.new.self c.self.invariant c.if-number-eq0.false (sym c.in-Some.ensures.value) c.add_long_data.ensures.kept

pub returns-in_default-clause-ok : goal.returns-in_default-clause-ok
returns-in_default-clause-ok c =
    let piece : LongData = record { parameter = c.args.parameter; bytes = c.args.bytes.now } in
    rw (← c.self.view_is) (updated_none c.self.inside.entries c.self.inside.freed.items c.args.number (λ (s : Prepared). with_long_data s piece) c.self.invariant.behind c.if-number-eq0.false (sym c.in_default.ensures.value))

pub returns-clause-ok : goal.returns-clause-ok
returns-clause-ok c =
    let piece : LongData = record { parameter = c.args.parameter; bytes = c.args.bytes.now } in
    rw (← c.self.view_is) (on_ok_weaker c.add_long_data.result (updated_is c.self.inside.entries c.self.inside.freed.items c.args.number c.in-Some.statement.now c.add_long_data.new.self (λ (s : Prepared). with_long_data s piece) c.self.invariant.behind c.if-number-eq0.false (sym c.in-Some.ensures.value)) c.add_long_data.ensures.ok)
