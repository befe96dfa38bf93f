use Rattle.std.proofs.Common.{List, ◌∙◌, ap, rules}
use Rattle.std.proofs.lemmas.Fn.{filter_same}
use Rattle.rws_history.specs.declared.cursor_list.LinkCursor.{LinkCursor}
use Rattle.rws_history.specs.Cursors.{without}
use Rattle.rws_history.proofs.cursor_list.CursorList.forget.Goals as goal

pub returns : goal.returns
returns c =
    filter_same _ _ _ (λ x b f' k. search rules) _ _ c.retain.ensures.filtered
    ∙ ap (λ (cursors : List LinkCursor). without cursors c.args.link) c.self.view_is
