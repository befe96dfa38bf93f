use Rattle.std.proofs.Common.{sym, ◌∙◌}
use Rattle.rws_history.proofs.CursorLemmas.{placed_at, placed_at_end}
use Rattle.rws_history.proofs.cursor_list.CursorList.place.Goals as goal

pub returns-in-Some-clause-ok : goal.returns-in-Some-clause-ok
returns-in-Some-clause-ok c = placed_at c.args.link c.args.at _ _ c.in-Some.index c.self.view_is (sym c.index_of.ensures.index ∙ c.in-Some.is)

pub returns-in_ok-push-in-None-clause-ok : goal.returns-in_ok-push-in-None-clause-ok
returns-in_ok-push-in-None-clause-ok c = c.in_ok-push-in-None.ensures.items ∙ placed_at_end c.args.link c.args.at _ _ c.self.view_is (sym c.index_of.ensures.index ∙ c.in-None.is)
