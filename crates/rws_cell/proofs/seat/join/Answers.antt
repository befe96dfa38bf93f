use Rattle.std.proofs.Common.{ap, ◌∙◌, rules}
use Rattle.rws_cell.specs.declared.view.View.{View}
use Rattle.rws_cell.proofs.Moves.{hands, joins}
use Rattle.rws_cell.proofs.Standing.{joined_by}
use Rattle.crossbeam_utils.specs.Seq.{cell_view}
use Rattle.rws_cell.specs.Views.{both_views}
use Rattle.rws_cell.proofs.seat.join.Goals as goal

pub split_pass-whole-requires : goal.split_pass-whole-requires
split_pass-whole-requires g c = (search rules, (search rules, (c.requires.cell.1 ∙ c.requires.cell.0, hands _ _ c.requires.live.1)))

pub join_pass-requires : goal.join_pass-requires
join_pass-requires g c =
    let given = c.split_pass-whole.ensures.given in
    (search rules, (search rules, ((c.requires.cell.0, given.0 ∙ c.requires.cell.1, given.2), joins _ _ _ _ c.requires.live.0 (ap (λ (v : View). v.live) given.1 ∙ c.requires.live.1))))

pub returns-clause-joined : goal.returns-clause-joined
returns-clause-joined g c =
    let given = c.split_pass-whole.ensures.given in
    joined_by (cell_view c.args.seat.now) (cell_view c.args.other) (cell_view c.join_pass.new.pass) (cell_view c.learn.new.seat) c.learn.result
    (c.join_pass.ensures.1 ∙ ap (λ (w : View). both_views (cell_view c.args.seat.now) w) given.1) c.learn.ensures.learned
