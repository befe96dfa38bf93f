use Rattle.std.specs.Prelude.{not, ◌==◌, ◌≡◌}
use Rattle.rws_links.specs.declared.numbered.NumberedLink.{NumberedLink}
use Rattle.rws_links.specs.Table.{without_number}
use Rattle.std.proofs.Common.{rules}
use Rattle.std.proofs.lemmas.Fn.{filter_same}
use Rattle.rws_links.proofs.table.LinkTable.open.Goals as goal

pub returns-clause-ok : goal.returns-clause-ok
returns-clause-ok c =
    let others : c.retain.new.self.items ≡ without_number c.args.number c.reserve.new.self.items =
    filter_same _ (λ (link : NumberedLink). not (link.number == c.args.number)) _ (λ x b f' k. search rules) _ _ c.retain.ensures.filtered in
    cc (others, c.in_ok-push.ensures.items, c.in_ok-link.ensures, c.in_ok-reserve.ensures.items, c.self.view_is)
