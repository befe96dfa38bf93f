use Rattle.std.proofs.Common.{sym, ◌∙◌, [], ◌∷◌}
use Rattle.rws_links.proofs.PlaceLemmas.{found_at, numbers_stay, sent_at, sent_nowhere}
use Rattle.rws_links.proofs.table.LinkTable.send_one.Goals as goal

pub returns-in-None-clause-ok : goal.returns-in-None-clause-ok
returns-in-None-clause-ok c = λ purpose past links sending are distinct.
    sent_nowhere past c.args.number links purpose c.args.self.now are (sym c.place.ensures.place ∙ c.in-None.is)

pub returns-in-Some-clause-ok : goal.returns-in-Some-clause-ok
returns-in-Some-clause-ok c = λ purpose past links sending are distinct.
    sent_at past c.args.number links c.self.inside.links.items c.in-Some.at c.args.asked (c.args.payload.now ∷ []) c.args.kind purpose
    c.index_mut-link.result.now c.send_one.new.self sending
    (found_at past c.args.number links c.self.inside.links.items c.args.self.now c.in-Some.at c.index_mut-link.result.now c.self.view_is are distinct
    (sym c.place.ensures.place ∙ c.in-Some.is) c.index_mut-link.ensures.value)
    c.send_one.result c.send_one.ensures.goes

pub returns-in-Some-clause-numbers : goal.returns-in-Some-clause-numbers
returns-in-Some-clause-numbers c =
    numbers_stay c.self.inside.links.items c.args.self.now c.in-Some.at c.index_mut-link.result.now c.send_one.new.self c.self.view_is
    c.index_mut-link.ensures.value c.send_one.ensures.number
