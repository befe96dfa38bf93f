use Rattle.rws_cuts.proofs.TurnLemmas as lemmas
use Rattle.rws_cuts.proofs.law.one_turn.Goals as goal

pub returns-clause-one : goal.returns-clause-one
returns-clause-one c = lemmas.one_turn

pub returns-clause-legal : goal.returns-clause-legal
returns-clause-legal c = lemmas.turns_are_legal
