use Rattle.std.specs.Prelude.{not, ◌==◌}
use Rattle.rws_links.specs.declared.numbered.NumberedLink.{NumberedLink}
use Rattle.std.proofs.Common.{rules}
use Rattle.std.proofs.lemmas.Fn.{filter_same}
use Rattle.rws_links.proofs.table.LinkTable.remove.Goals as goal

pub returns : goal.returns
returns c = rw (← c.self.view_is) (filter_same _ (λ (link : NumberedLink). not (link.number == c.args.number)) _ (λ x b f' k. search rules) _ _ c.retain.ensures.filtered)
