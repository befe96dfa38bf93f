use Rattle.rws_select.proofs.OneChoice.{one_choice, choice_is, choice_is_none}
use Rattle.rws_select.proofs.law.choices_are_one.Goals as goal

pub returns : goal.returns
returns c = record { one = one_choice; given = choice_is; nobody = choice_is_none }
