use Rattle.std.proofs.Common.{sym, ◌∙◌}
use Rattle.rws_links.proofs.PlaceLemmas.{found_at, readied_at, readied_nowhere}
use Rattle.rws_links.proofs.table.LinkTable.ready.Goals as goal

pub returns-in-None : goal.returns-in-None
returns-in-None c = λ past links are distinct.
    readied_nowhere past c.args.number links c.args.self.now are (sym c.place.ensures.place ∙ c.in-None.is)

pub returns-in-Some : goal.returns-in-Some
returns-in-Some c = λ past links are distinct.
    readied_at past c.args.number links c.self.inside.links.items c.in-Some.at c.index_mut-link.result.now c.ready.new.self
    (found_at past c.args.number links c.self.inside.links.items c.args.self.now c.in-Some.at c.index_mut-link.result.now c.self.view_is are distinct
    (sym c.place.ensures.place ∙ c.in-Some.is) c.index_mut-link.ensures.value)
    c.ready.result c.ready.ensures.new c.ready.ensures.readied
