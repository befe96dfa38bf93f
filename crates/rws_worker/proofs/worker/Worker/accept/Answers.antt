use Rattle.std.proofs.Common.{◌≡◌, ℕ, ◌<◌, ◌≤◌, Bool, true, false, [], ◌∷◌, ap, ◌∙◌, sym, refl, arith}
use Rattle.std.proofs.lemmas.Bool.{le-ltb, lt-ltb}
use Rattle.rws_board.specs.declared.event.Event.TheVariants as events
use Rattle.rws_record.specs.Item.{Item}
use Rattle.rws_record.specs.Item.Item.{Accepted, TurnsAway}
use Rattle.rws_record.specs.Run.{beginning, greatest, has_room, if_so, last_clock, told_by}
use Rattle.rws_worker.proofs.BeginLemmas.{at_greatest, begins_so}
use Rattle.rws_worker.proofs.EventLemmas.{between}
use Rattle.rws_worker.proofs.TellLemmas.{nobody_begins}
use Rattle.rws_worker.proofs.worker.Worker.accept.Goals as goal

pub returns-then-session-self : goal.returns-then-session-self
returns-then-session-self c = record {
  advances = λ run w.
      let config = c.args.config.now in
      let session : ℕ = c.args.session in
      let low : session ≤ greatest run = let g = w.begun in let h = c.if-session-self.true in omega arith in
      let none : told_by config (events.Accept session c.args.scramble) run ≡ [] =
      ap (λ (b : Bool). if_so {A = ℕ × Item} b (session, beginning (has_room config run) (Accepted session c.args.scramble (last_clock run)) true)) (le-ltb (greatest run) session low) in
      nobody_begins w c.requires.idle (events.Accept session c.args.scramble) c.args.self.now.greatest
      (let h = c.if-session-self.true in omega arith) refl (λ before. refl) none;
}

pub returns-then-has_room : goal.returns-then-has_room
returns-then-has_room c = record {
  advances = λ run w.
      let config = c.args.config.now in
      let session : ℕ = c.args.session in
      let item : Item = Accepted session c.args.scramble c.args.self.now.now_ms in
      let high : greatest run < session = let g = w.begun in let h = c.if-session-self.false in omega arith in
      let room : has_room config run ≡ true = sym (c.has_room.ensures run (at_greatest session (between w c.requires.idle.bare))) ∙ c.if-has_room.true in
      let told : told_by config (events.Accept session c.args.scramble) run ≡ (session, item) ∷ [] =
      ap (λ (b : Bool). if_so {A = ℕ × Item} b (session, beginning (has_room config run) (Accepted session c.args.scramble (last_clock run)) true)) (lt-ltb (greatest run) session high)
      ∙ ap (λ (b : Bool). if_so {A = ℕ × Item} true (session, beginning b (Accepted session c.args.scramble (last_clock run)) true)) room
      ∙ ap (λ (n : ℕ). (session, Accepted session c.args.scramble n) ∷ []) (sym w.clock) in
      c.begin_without.ensures.advances run (events.Accept session c.args.scramble) item
      (begins_so config c.args.self.now run (events.Accept session c.args.scramble) session item w c.requires.idle
      (let h = c.if-session-self.false in omega arith) refl refl (λ before. refl) told)
      (tt, refl) c.accept-made.ensures;
}

pub returns-else-has_room : goal.returns-else-has_room
returns-else-has_room c = record {
  advances = λ run w.
      let config = c.args.config.now in
      let session : ℕ = c.args.session in
      let high : greatest run < session = let g = w.begun in let h = c.if-session-self.false in omega arith in
      let room : has_room config run ≡ false = sym (c.has_room.ensures run (at_greatest session (between w c.requires.idle.bare))) ∙ c.if-has_room.false in
      let told : told_by config (events.Accept session c.args.scramble) run ≡ (session, TurnsAway true) ∷ [] =
      ap (λ (b : Bool). if_so {A = ℕ × Item} b (session, beginning (has_room config run) (Accepted session c.args.scramble (last_clock run)) true)) (lt-ltb (greatest run) session high)
      ∙ ap (λ (b : Bool). if_so {A = ℕ × Item} true (session, beginning b (Accepted session c.args.scramble (last_clock run)) true)) room in
      c.turn_away.ensures.advances run (events.Accept session c.args.scramble)
      (begins_so config c.args.self.now run (events.Accept session c.args.scramble) session (TurnsAway true) w c.requires.idle
      (let h = c.if-session-self.false in omega arith) refl refl (λ before. refl) told);
}
