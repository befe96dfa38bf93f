use Rattle.std.proofs.Common.{sym, ◌∙◌}
use Rattle.rws_links.proofs.PlaceLemmas.{fed_at, fed_nowhere, found_at, numbers_stay_err}
use Rattle.rws_links.proofs.table.LinkTable.feed.Goals as goal

pub returns-in-None-clause-ok : goal.returns-in-None-clause-ok
returns-in-None-clause-ok c = λ past links are distinct.
    fed_nowhere past c.args.number links c.args.bytes.now c.args.self.now are (sym c.place.ensures.place ∙ c.in-None.is)

pub returns-in-Some-clause-ok : goal.returns-in-Some-clause-ok
returns-in-Some-clause-ok c = λ past links are distinct.
    fed_at past c.args.number links c.self.inside.links.items c.in-Some.at c.args.bytes.now c.index_mut-link.result.now c.feed.new.self
    (found_at past c.args.number links c.self.inside.links.items c.args.self.now c.in-Some.at c.index_mut-link.result.now c.self.view_is are distinct
    (sym c.place.ensures.place ∙ c.in-Some.is) c.index_mut-link.ensures.value)
    c.feed.ensures.rest c.feed.result c.feed.ensures.ok

pub returns-in-Some-clause-err : goal.returns-in-Some-clause-err
returns-in-Some-clause-err c =
    numbers_stay_err c.self.inside.links.items c.args.self.now c.in-Some.at c.index_mut-link.result.now c.feed.new.self c.self.view_is
    c.index_mut-link.ensures.value c.feed.ensures.rest c.feed.result
