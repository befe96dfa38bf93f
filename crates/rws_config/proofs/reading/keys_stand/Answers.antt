use Rattle.rws_wire.specs.Reading.{◌>>=◌}
use Rattle.toml.specs.View.{table_view}
use Rattle.rws_config.specs.declared.flaws.Flaw.TheVariants as flaw
use Rattle.rws_config.specs.Settings.{no_key}
use Rattle.rws_config.proofs.GivesLemmas.{both_pass, first_refuses, second_refuses}
use Rattle.rws_config.proofs.reading.keys_stand.Goals as goal

pub returns-in_err-no_key : goal.returns-in_err-no_key
returns-in_err-no_key c =
    let file = table_view c.args.file.now in
    first_refuses c.from_residual.result c.in_err-no_key.field-0.0 (no_key flaw.Unknown file) (λ _. no_key flaw.Missing file >>= (λ _. no_key flaw.Bad file))
    c.from_residual.ensures.1 c.in_err-no_key.ensures

pub returns-in_err-no_key-2 : goal.returns-in_err-no_key-2
returns-in_err-no_key-2 c =
    let file = table_view c.args.file.now in
    second_refuses c.from_residual-in_err-no_key-2.result c.in_err-no_key-2.field-0.0 (no_key flaw.Unknown file) c.in_ok-no_key.field-0 (no_key flaw.Missing file) (no_key flaw.Bad file)
    c.in_ok-no_key.ensures c.from_residual-in_err-no_key-2.ensures.1 c.in_err-no_key-2.ensures

pub returns : goal.returns
returns c =
    let file = table_view c.args.file.now in
    both_pass c.no_key-3.result (no_key flaw.Unknown file) c.in_ok-no_key.field-0 (no_key flaw.Missing file) c.in_ok-no_key-2.field-0 (no_key flaw.Bad file)
    c.in_ok-no_key.ensures c.in_ok-no_key-2.ensures c.no_key-3.ensures
