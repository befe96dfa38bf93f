use Rattle.std.proofs.Common.{◌≡◌, ℕ, sym, ap, ◌∙◌, Option, Some, None, []}
use Rattle.std.specs.BTreeMap.{get}
use Rattle.std.specs.Ordering.{nat_cmp}
use Rattle.rws_record.specs.Run.{owner, told_by, record_of}
use Rattle.rws_worker.specs.Standing.{holds, told_through}
use Rattle.rws_worker.proofs.RecordLemmas.{none_some}
use Rattle.rws_worker.proofs.TellLemmas.{nobody_hears, unheard, not_true}
use Rattle.rws_worker.proofs.worker.Worker.hear_on.Goals as goal

pub returns-in-Some : goal.returns-in-Some
returns-in-Some c = record {
  advances = λ run w event one told_so.
      let its : owner c.args.link run ≡ Some c.in-Some.session =
      w.owned c.args.link c.in-Some.session (sym c.get.ensures.value ∙ sym c.copied.ensures ∙ c.in-Some.is) in
      c.hear.ensures.advances run w event one (told_so ∙ ap (λ (o : Option ℕ). told_through o c.args.input run) its);
}

pub returns-in-None : goal.returns-in-None
returns-in-None c = record {
  advances = λ run w event one told_so.
      let none : get nat_cmp c.args.self.now.owners c.args.link ≡ None = sym c.get.ensures.value ∙ sym c.copied.ensures ∙ c.in-None.is in
      let nothing : told_by c.args.config.now event run ≡ [] =
      told_so ∙ unheard c.args.link c.args.input run c.requires.on (owner c.args.link run)
      (λ session its. not_true (holds c.args.link (record_of session run)) (λ has. none_some session (sym none ∙ w.owns c.args.link session its has))) in
      nobody_hears w c.requires.idle event one nothing;
}
