use Rattle.std.proofs.Common.{◌≡◌, true, false, ap, sym, ◌∙◌}
use Rattle.rws_worker.specs.Stepping.{is_awaiting}
use Rattle.rws_worker.proofs.worker.Worker.answer.Goals as goal

pub returns-in-Awaits-clause-advances : goal.returns-in-Awaits-clause-advances
returns-in-Awaits-clause-advances g c = λ run w waits known. c.answer_to.ensures.advances run w c.in-Awaits.is known

pub returns-in-Awaits-clause-none : goal.returns-in-Awaits-clause-none
returns-in-Awaits-clause-none g c = λ none. let clash : true ≡ false = sym (ap is_awaiting c.in-Awaits.is) ∙ none in absurd cc

pub returns-in-Asks-clause-advances : goal.returns-in-Asks-clause-advances
returns-in-Asks-clause-advances g c = λ run w waits known. let clash : false ≡ true = sym (ap is_awaiting c.in-Asks.is) ∙ waits in absurd cc

pub returns-in-Nobody-clause-advances : goal.returns-in-Nobody-clause-advances
returns-in-Nobody-clause-advances g c = λ run w waits known. let clash : false ≡ true = sym (ap is_awaiting c.in-Nobody.is) ∙ waits in absurd cc
