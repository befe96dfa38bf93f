use Rattle.std.proofs.Common.{refl, sym, ◌∙◌}
use Rattle.rws_commands.proofs.StaleLemmas.{same_where_none_stale}
use Rattle.rws_commands.proofs.statements.Statements.take_stale.Goals as goal

pub returns-clause-none : goal.returns-clause-none
returns-clause-none c = λ none.
    let same = same_where_none_stale c.args.link c.self.inside.handles.links (sym c.take_closed.ensures.result ∙ none) in
    rw (← c.self.view_is) (rw (c.take_closed.ensures.rest, same) refl)
