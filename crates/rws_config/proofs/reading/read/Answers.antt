use Rattle.toml.specs.View.{table_view}
use Rattle.rws_config.proofs.GivesLemmas.{a_document, no_document}
use Rattle.rws_config.proofs.reading.read.Goals as goal

pub returns-in_err-file-clause-read : goal.returns-in_err-file-clause-read
returns-in_err-file-clause-read c = no_document c.from_residual.result c.in_err-file.field-0.0 c.args.text.now c.from_residual.ensures.1 c.in_err-file.ensures

pub returns-clause-read : goal.returns-clause-read
returns-clause-read c = a_document c.settings_in.result (table_view c.in_ok-file.file) c.args.text.now c.in_ok-file.ensures c.settings_in.ensures.read
