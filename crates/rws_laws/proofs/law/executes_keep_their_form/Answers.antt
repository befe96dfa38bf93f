use Rattle.rws_laws.proofs.FormLemmas as lemmas
use Rattle.rws_laws.proofs.GivenIdLemmas as ids
use Rattle.rws_laws.proofs.law.executes_keep_their_form.Goals as goal

pub returns-clause-form : goal.returns-clause-form
returns-clause-form c = lemmas.executes_keep_their_form

pub returns-clause-own : goal.returns-clause-own
returns-clause-own c = ids.ids_are_of_the_link
