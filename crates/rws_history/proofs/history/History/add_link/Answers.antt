use Rattle.std.proofs.Common.{length, All, arith}
use Rattle.rws_history.specs.Cursors.{placed}
use Rattle.rws_history.proofs.PlaceLemmas.{IsUpTo, placed_up_to, after_either}
use Rattle.rws_history.proofs.history.History.add_link.Goals as goal

pub invariant_of-self : goal.invariant_of-self
invariant_of-self c =
    let n = length c.self.inside.entries.items in
    let was = c.self.inside.cursors in
    record {
      bounded = c.self.invariant.bounded;
      mark = c.self.invariant.mark;
      cursors = after_either c.place.result (All (IsUpTo n)) was (placed was c.args.link 0) c.place.new.self c.place.ensures.ok c.place.ensures.err
          (placed_up_to n c.args.link 0 was (omega arith) c.self.invariant.cursors) c.self.invariant.cursors;
    }
