use Rattle.std.proofs.Common.{ℕ, ◌+◌, sym, ap, subst, ◌∙◌, refl, Some, None, true, false}
use Rattle.rws_worker.specs.declared.ahead.Ahead.TheVariants.{Unmade}
use Rattle.rws_worker.specs.declared.worker.Worker.{Worker}
use Rattle.rws_worker.specs.Standing.{Gives}
use Rattle.rws_worker.proofs.BeginLemmas.{begins_on, unmade_on}
use Rattle.rws_worker.proofs.MapLemmas.{changes}
use Rattle.rws_worker.proofs.RecordLemmas.{some_same, none_some}
use Rattle.rws_worker.proofs.worker.Worker.begin_on.Goals as goal

pub returns-in-Ok : goal.returns-in-Ok
returns-in-Ok c = record {
  advances = λ run event b.
      let seated : Worker = c.seat.new.self in
      let seats = c.in-Ok.ensures.ok in
      begins_on b c.requires.numbers true seated.owners (Some c.args.session) seats.owns.here c.in-Ok.ensures.owners
      (λ number e. some_same c.args.session number e) (λ _. refl) refl seated c.start-end.new.self c.settle.new.self
      (record { kept = seats.placed.kept; starts = seats.placed.starts; sessions = seats.placed.sessions }) c.in-Ok.ensures.rest c.start-end.result
      (c.start-end.ensures.goes seats.placed.kept seats.placed.sessions.here) c.start-end.ensures.rest c.settle.ensures.finishes;
}

pub returns-in-Err : goal.returns-in-Err
returns-in-Err c = record {
  advances = λ run event b.
      let link : ℕ = c.args.self.now.last_link + 1 in
      let seat : Worker = c.seat.new.self in
      let removed = changes seat.owners c.remove.new.self link None c.remove.ensures.updates in
      subst (λ (v : Worker). Gives c.args.config.now run event v)
      (sym (c.fail.ensures
      ∙ ap (λ (v : Worker). record v {
        owners = c.remove.new.self;
        ahead = Unmade link;
        broken = Some c.args.session;
        closing = Some c.args.session;
      }) c.in-Err.ensures.rest))
      (unmade_on b c.requires.numbers false c.remove.new.self None removed.here (λ other apart. removed.apart other apart ∙ c.in-Err.ensures.owners other apart)
      (λ number e. absurd (none_some number e)) (λ e. absurd cc) seat.sessions c.in-Err.ensures.err);
}
