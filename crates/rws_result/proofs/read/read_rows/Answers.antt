use Rattle.std.proofs.Common.{◌≡◌, ◌∙◌, true, sym, ap, subst}
use Rattle.std.specs.Prelude.{is_some, Option}
use Rattle.rws_result.specs.declared.rows.Rows.{Rows}
use Rattle.rws_result.specs.Answers.{IsRead}
use Rattle.rws_result.specs.Found.{parts}
use Rattle.rws_result.specs.ResultSets.{parts_of, read_parts}
use Rattle.rws_result.proofs.PartLemmas.{in_parts, wanted, names_read, rows_read, read_as}
use Rattle.rws_result.proofs.read.read_rows.Goals as goal

pub returns-in_err-names : goal.returns-in_err-names
returns-in_err-names c =
    let found = parts c.in-Some.parts in
    let there : is_some (read_parts found) ≡ true = sym c.is_readable.ensures ∙ c.if-not-is_readable.false in
    subst (λ (read : Option Rows). IsRead c.from_residual.result read) (sym (in_parts _ found (sym (ap parts_of c.as_slice.ensures) ∙ c.in-Some.ensures)))
    (wanted c.from_residual.result c.in_err-names.field-0.0 (read_parts found) _ there (names_read found there) c.in_err-names.ensures c.from_residual.ensures.1)

pub returns-in_err-rows : goal.returns-in_err-rows
returns-in_err-rows c =
    let found = parts c.in-Some.parts in
    let there : is_some (read_parts found) ≡ true = sym c.is_readable.ensures ∙ c.if-not-is_readable.false in
    subst (λ (read : Option Rows). IsRead c.from_residual-in_err-rows.result read) (sym (in_parts _ found (sym (ap parts_of c.as_slice.ensures) ∙ c.in-Some.ensures)))
    (wanted c.from_residual-in_err-rows.result c.in_err-rows.field-0.0 (read_parts found) _ there (rows_read found there) c.in_err-rows.ensures c.from_residual-in_err-rows.ensures.1)

pub returns : goal.returns
returns c =
    let found = parts c.in-Some.parts in
    in_parts _ found (sym (ap parts_of c.as_slice.ensures) ∙ c.in-Some.ensures)
    ∙ read_as found c.in_ok-names.names c.in_ok-rows.rows c.in_ok-names.ensures c.in_ok-rows.ensures
