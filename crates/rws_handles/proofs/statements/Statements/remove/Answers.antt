use Rattle.std.proofs.Common.{sym, subst, arith}
use Rattle.rws_handles.specs.Slots.{Slots}
use Rattle.rws_handles.specs.StatementsView.{AreGivenOut, AreListed}
use Rattle.rws_handles.proofs.SlotLemmas.{given_out_of, listed_out}
use Rattle.rws_handles.proofs.statements.Statements.remove.Goals as goal

pub invariant_of-self : goal.invariant_of-self
invariant_of-self c = record {
  listed = subst (λ (s : Slots). AreListed s c.self.inside.closing.items) (sym c.remove_entry.ensures.slots) (listed_out c.args.number _ c.self.inside.closing.items c.self.invariant.listed (rw (← c.self.view_is) at c.requires));
  given = subst (λ (s : Slots). AreGivenOut s) (sym c.remove_entry.ensures.slots) (given_out_of c.args.number _ c.self.invariant.given);
  behind = c.remove_entry.ensures.behind;
  freed_room = c.remove_entry.ensures.room;
  closing_room = omega (arith, c.remove_entry.ensures.fewer, c.self.invariant.closing_room);
}
