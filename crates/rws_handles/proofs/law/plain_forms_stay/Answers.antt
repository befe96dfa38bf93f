use Rattle.rws_handles.proofs.RunLemmas.{is_of_its_number, is_renumbered, runs_the_plain_form}
use Rattle.rws_handles.proofs.law.plain_forms_stay.Goals as goal

pub returns-clause-renumbered : goal.returns-clause-renumbered
returns-clause-renumbered c = is_renumbered

pub returns-clause-number : goal.returns-clause-number
returns-clause-number c = is_of_its_number

pub returns-clause-runs : goal.returns-clause-runs
returns-clause-runs c = runs_the_plain_form
