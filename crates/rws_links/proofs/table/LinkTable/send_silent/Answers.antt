use Rattle.std.proofs.Common.{sym, ◌∙◌}
use Rattle.rws_links.proofs.PlaceLemmas.{found_at, told_at, told_nowhere}
use Rattle.rws_links.proofs.table.LinkTable.send_silent.Goals as goal
use Rattle.rws_links.proofs.table.LinkTable.send_silent.Goals.{in-None, in-Some}

pub returns-clause-ok : goal.returns-clause-ok
returns-clause-ok c = λ past links are distinct. elim c.match-place.branch [
  | in-None w ↦ rw w.result-is (told_nowhere past c.args.number links c.args.self.now are (sym c.place.ensures.place ∙ w.in-None.is))
  | in-Some w ↦ rw w.result-is (told_at past c.args.number links c.self.inside.links.items c.args.self.now w.in-Some.at w.index-link.result.now
      (found_at past c.args.number links c.self.inside.links.items c.args.self.now w.in-Some.at w.index-link.result.now c.self.view_is are distinct
      (sym c.place.ensures.place ∙ w.in-Some.is) w.index-link.ensures)
      w.tell.result w.tell.ensures.free)
]
