use Rattle.std.proofs.Common.{◌≡◌, ℕ, Bool, true, false, Some, None, sym, ap, ◌∙◌, refl, arith, length, if◌then◌else◌}
use Rattle.rws_board.specs.declared.event.Event.TheVariants as events
use Rattle.rws_pool.specs.declared.words.Round.{Round}
use Rattle.rws_record.specs.Run.{names_only, round_of}
use Rattle.rws_worker.proofs.EventLemmas.{takes_in}
use Rattle.rws_worker.proofs.TellLemmas.{nobody_begins}
use Rattle.rws_worker.proofs.worker.Worker.observe.Goals as goal

pub returns-then-names_only : goal.returns-then-names_only
returns-then-names_only c = record {
  advances = λ run w.
      let config = c.args.config.now in
      let round : Round = c.args.round in
      let fits : names_only (length config.servers) round ≡ true =
      ap (λ (n : ℕ). names_only n round) (sym c.len.ensures) ∙ sym c.names_only.ensures ∙ c.if-names_only.true in
      takes_in config c.args.self.now run round w (ap (λ (b : Bool). if b then Some round else None) fits) c.requires.idle;
}

pub returns-else-names_only : goal.returns-else-names_only
returns-else-names_only c = record {
  advances = λ run w.
      let config = c.args.config.now in
      let round : Round = c.args.round in
      let unfit : names_only (length config.servers) round ≡ false =
      ap (λ (n : ℕ). names_only n round) (sym c.len.ensures) ∙ sym c.names_only.ensures ∙ c.if-names_only.false in
      let none : round_of config (events.Observed round) ≡ None = ap (λ (b : Bool). if b then Some round else None) unfit in
      nobody_begins w c.requires.idle (events.Observed round) c.args.self.now.greatest (omega arith) none (λ before. refl) refl;
}
