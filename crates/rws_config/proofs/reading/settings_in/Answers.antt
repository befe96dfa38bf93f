use Rattle.toml.specs.View.{table_view}
use Rattle.std.proofs.Common.{Ok}
use Rattle.rws_config.proofs.AllowedLemmas.{settings_are_allowed}
use Rattle.rws_config.proofs.GivesLemmas.{keys_refuse, names_refuse, settings_read}
use Rattle.rws_config.proofs.reading.settings_in.Goals as goal

pub returns-in_err-keys_stand-clause-read : goal.returns-in_err-keys_stand-clause-read
returns-in_err-keys_stand-clause-read c = keys_refuse c.from_residual.result c.in_err-keys_stand.field-0.0 (table_view c.args.file.now) c.from_residual.ensures.1 c.in_err-keys_stand.ensures

pub returns-in_err-names_stand-clause-read : goal.returns-in_err-names_stand-clause-read
returns-in_err-names_stand-clause-read c =
    names_refuse c.from_residual-in_err-names_stand.result c.in_err-names_stand.field-0.0 (table_view c.args.file.now) c.in_ok-keys_stand.field-0 c.in_ok-config.config
    c.in_ok-keys_stand.ensures c.in_ok-config.ensures c.from_residual-in_err-names_stand.ensures.1 c.in_err-names_stand.ensures

pub returns-clause-read : goal.returns-clause-read
returns-clause-read c =
    settings_read (table_view c.args.file.now) c.in_ok-keys_stand.field-0 c.in_ok-config.config c.in_ok-names_stand.field-0
    c.in_ok-keys_stand.ensures c.in_ok-config.ensures c.in_ok-names_stand.ensures

pub returns-clause-allowed : goal.returns-clause-allowed
returns-clause-allowed c =
    settings_are_allowed (Ok c.in_ok-config.config) (table_view c.args.file.now)
    (settings_read (table_view c.args.file.now) c.in_ok-keys_stand.field-0 c.in_ok-config.config c.in_ok-names_stand.field-0
    c.in_ok-keys_stand.ensures c.in_ok-config.ensures c.in_ok-names_stand.ensures)
