use Rattle.std.proofs.Common.{◌≡◌, ℕ, ◌+◌, ◌<◌, ◌≤◌, Bool, true, false, [], ◌∷◌, refl, sym, ap, ◌∙◌, arith, nat_lt, ◌&&◌, length}
use Rattle.std.proofs.lemmas.Bool.{le-ltb, lt-ltb, and_right}
use Rattle.rws_board.specs.declared.event.Event.TheVariants as events
use Rattle.rws_record.specs.Item.{Item}
use Rattle.rws_record.specs.Item.Item.{Began, TurnsAway}
use Rattle.rws_record.specs.Run.{beginning, greatest, has_room, last_clock, last_link, if_so, told_by}
use Rattle.rws_worker.proofs.BeginLemmas.{at_greatest, begins_so}
use Rattle.rws_worker.proofs.EventLemmas.{between}
use Rattle.rws_worker.proofs.TellLemmas.{nobody_begins}
use Rattle.rws_worker.proofs.worker.Worker.begin_numbered.Goals as goal

pub returns-then-session-self : goal.returns-then-session-self
returns-then-session-self c = record {
  advances = λ run w.
      let config = c.args.config.now in
      let low : c.args.session ≤ greatest run = let g = w.begun in let h = c.if-session-self.true in omega arith in
      let none : told_by config (events.Begin c.args.session c.args.server) run ≡ [] =
      ap (λ (b : Bool). if_so {A = ℕ × Item} (b && nat_lt c.args.server (length config.servers))
      (c.args.session, beginning (has_room config run) (Began (last_link run + 1) c.args.server (last_clock run)) false)) (le-ltb (greatest run) c.args.session low) in
      nobody_begins w c.requires.idle (events.Begin c.args.session c.args.server) c.args.self.now.greatest
      (let h = c.if-session-self.true in omega arith) refl (λ before. refl) none;
}

pub returns-then-from-len : goal.returns-then-from-len
returns-then-from-len c = record {
  advances = λ run w.
      let config = c.args.config.now in
      let none : told_by config (events.Begin c.args.session c.args.server) run ≡ [] =
      ap (λ (b : Bool). if_so {A = ℕ × Item} b (c.args.session, beginning (has_room config run) (Began (last_link run + 1) c.args.server (last_clock run)) false))
      (and_right (nat_lt (greatest run) c.args.session) _ (le-ltb c.args.server (length config.servers)
      (let h = c.if-from-len.true in let f = c.from.ensures in let l = c.len.ensures in omega arith))) in
      nobody_begins w c.requires.idle (events.Begin c.args.session c.args.server) c.args.session
      (let h = c.if-session-self.false in omega arith) refl (λ before. refl) none;
}

pub returns-then-has_room : goal.returns-then-has_room
returns-then-has_room c = record {
  advances = λ run w.
      let config = c.args.config.now in
      let session : ℕ = c.args.session in
      let item : Item = Began (last_link run + 1) c.args.server c.args.self.now.now_ms in
      let high : greatest run < session = let g = w.begun in let h = c.if-session-self.false in omega arith in
      let there : c.args.server < length config.servers = let h = c.if-from-len.false in let f = c.from.ensures in let l = c.len.ensures in omega arith in
      let room : has_room config run ≡ true = sym (c.has_room.ensures run (at_greatest session (between w c.requires.idle.bare))) ∙ c.if-has_room.true in
      let told : told_by config (events.Begin session c.args.server) run ≡ (session, item) ∷ [] =
      rw (lt-ltb (greatest run) session high, lt-ltb c.args.server (length config.servers) there, room, sym w.clock) refl in
      c.begin_on.ensures.advances run (events.Begin session c.args.server)
      (begins_so config c.args.self.now run (events.Begin session c.args.server) session item w c.requires.idle
      (let h = c.if-session-self.false in omega arith) refl refl (λ before. refl) told);
}

pub returns-else-has_room : goal.returns-else-has_room
returns-else-has_room c = record {
  advances = λ run w.
      let config = c.args.config.now in
      let session : ℕ = c.args.session in
      let high : greatest run < session = let g = w.begun in let h = c.if-session-self.false in omega arith in
      let there : c.args.server < length config.servers = let h = c.if-from-len.false in let f = c.from.ensures in let l = c.len.ensures in omega arith in
      let room : has_room config run ≡ false = sym (c.has_room.ensures run (at_greatest session (between w c.requires.idle.bare))) ∙ c.if-has_room.false in
      let told : told_by config (events.Begin session c.args.server) run ≡ (session, TurnsAway false) ∷ [] =
      rw (lt-ltb (greatest run) session high, lt-ltb c.args.server (length config.servers) there, room) refl in
      c.turn_away.ensures.advances run (events.Begin session c.args.server)
      (begins_so config c.args.self.now run (events.Begin session c.args.server) session (TurnsAway false) w c.requires.idle
      (let h = c.if-session-self.false in omega arith) refl refl (λ before. refl) told);
}
