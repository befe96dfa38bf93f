use Rattle.std.proofs.Common.{sym, ◌∙◌, refl, rules}
use Rattle.rws_links.proofs.TableLemmas.{read_here, read_behind}
use Rattle.rws_links.proofs.coming.+read_first.Goals as goal

pub returns-in-Idle-clause-ok : goal.returns-in-Idle-clause-ok
returns-in-Idle-clause-ok t c = λ past numbers are distinct.
    read_behind past numbers c.in-Some.first.now (record c.in-Some.first.now { link = c.next.new.self }) c.in-Some.others.now _
    (sym c.in-Some.ensures.cases.0 ∙ are) distinct refl (rw c.in-Idle.is at c.in_ok-said-in-Some.ensures.ok) c.read_first.result
    (λ rest. c.read_first.ensures.ok past rest)

pub returns-in_ok-hear-in_default : goal.returns-in_ok-hear-in_default
returns-in_ok-hear-in_default t c = record {
  ok = λ past numbers are distinct.
      read_here past numbers c.in-Some.first.now c.hear.new.self c.in-Some.others.now c.in_ok-said-in-Some.said c.in_ok-hear-in_default.field-0
      c.next.new.self (sym c.in-Some.ensures.cases.0 ∙ are) distinct c.in_default.not-Idle c.in_ok-hear-in_default.ensures.coming
      c.in_ok-hear-in_default.ensures.heard c.in_ok-said-in-Some.ensures.ok;
  numbers = search rules;
}
