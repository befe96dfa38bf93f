use Rattle.std.proofs.Common.{rules, sym, subst, ap, ◌∙◌}
use Rattle.rws_pool.specs.Machine.{NotBelow}
use Rattle.rws_pool.specs.declared.words.PoolWords.{PoolWords}
use Rattle.rws_pool.specs.declared.events.PoolEvent.TheVariants.{Route}
use Rattle.rws_cell.proofs.Histories.{extends_keeps}
use Rattle.crossbeam_utils.specs.Seq.{cell_view}
use Rattle.rws_pool.specs.History.{words_after}
use Rattle.rws_pool.proofs.Histories.{words_after-domain}
use Rattle.rws_cell.proofs.Moves.{routes}
use Rattle.rws_cell.proofs.seat.route.Goals as goal

pub load_as-packed-requires : goal.load_as-packed-requires
load_as-packed-requires g c = (search rules, (search rules, (c.requires.cell, routes _ _ c.requires.live)))

pub returns-clause-words : goal.returns-clause-words
returns-clause-words g c =
    let seen = (cell_view c.load_as-packed.new.pass).seen in
    c.unpack.ensures.words (words_after c.args.domain (cell_view c.load_as-packed.new.pass).seen) (words_after-domain c.args.domain (cell_view c.load_as-packed.new.pass).seen) (c.load_as-packed.ensures.rule.words_are c.args.domain)

pub returns-clause-keeps : goal.returns-clause-keeps
returns-clause-keeps g c =
    let words = returns-clause-words g c in
    subst (NotBelow (words_after c.args.domain (cell_view c.args.seat.now).seen)) (sym words) (extends_keeps c.args.domain (cell_view c.args.seat.now) (cell_view c.load_as-packed.new.pass) Route c.load_as-packed.ensures.rule.extended)

pub returns-clause-domain : goal.returns-clause-domain
returns-clause-domain g c =
    let seen = (cell_view c.load_as-packed.new.pass).seen in
    ap (λ (words : PoolWords). words.last.domain) (returns-clause-words g c) ∙ words_after-domain c.args.domain seen
