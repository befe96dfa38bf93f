use Rattle.rws_handles.proofs.StatementLemmas.{holds_nothing, no_types_stay, types_stay}
use Rattle.rws_handles.proofs.statement.Statement.take.Goals as goal

pub invariant_of-self-2 : goal.invariant_of-self-2
invariant_of-self-2 c =
    rw (c.replace.ensures.after, c.new.ensures, c.store.ensures, c.in_ok-given.ensures) (record {
      types = types_stay _ _ _ (rw (← c.self.view_is) at c.in_ok-parts.ensures.is.types_size) c.self.invariant.types;
      no_types = no_types_stay _ _ _ (rw (← c.self.view_is) at c.in_ok-parts.ensures.is.no_types) c.self.invariant.no_types;
      pieces = holds_nothing _;
    })
