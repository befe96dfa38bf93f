use Rattle.std.proofs.Common.{◌≡◌, refl, ◌∙◌, sym, None, arith}
use Rattle.std.specs.BTreeMap.{get}
use Rattle.std.specs.Ordering.{nat_cmp}
use Rattle.rws_record.specs.Run.IsRun.{starts}
use Rattle.rws_worker.proofs.RecordLemmas.{none_some}
use Rattle.rws_worker.proofs.worker.Worker.new.Goals as goal

pub returns-clause-stands : goal.returns-clause-stands
returns-clause-stands c = λ config. record {
  legal = starts;
  steps_none = refl;
  answers_none = λ _. refl;
  asks = λ session e. absurd (none_some session e);
  awaits = λ e. absurd cc;
  told = refl;
  observed = refl;
  seats = λ session. rw c.new.ensures.empty refl;
  fetched = λ session kept e g.
      let none : get nat_cmp c.new.result session ≡ None = rw c.new.ensures.empty refl in absurd (none_some kept (sym none ∙ e));
  owned = λ link session e.
      let none : get nat_cmp c.new-2.result link ≡ None = rw c.new-2.ensures.empty refl in absurd (none_some session (sym none ∙ e));
  owns = λ link session o h. absurd (none_some session o);
  links = refl;
  numbers = omega arith;
  begun = refl;
  clock = refl;
  tallied = refl;
  unspent = refl;
}
