use Rattle.std.proofs.Common.{◌≡◌, true, List, ◌∷◌, refl, ap, sym, ◌∙◌, subst}
use Rattle.std.proofs.lemmas.Result.{on_ok_weaker}
use Rattle.rws_token.specs.Lexeme.{lexeme_of}
use Rattle.rws_words.specs.Places.{Place}
use Rattle.rws_set.specs.Items.{Item}
use Rattle.rws_set.specs.Walks.{is_valued, walk_left, value_on}
use Rattle.rws_set.specs.declared.walk.Walk.{Walk}
use Rattle.rws_vars.specs.Assignments.{alone}
use Rattle.rws_vars.specs.States.{collected_left, ValueGoesOn}
use Rattle.rws_vars.specs.declared.collector.Collector.{Collector}
use Rattle.rws_vars.specs.declared.setting.Setting.{Setting}
use Rattle.rws_vars.proofs.CollectorLemmas.{settings_of, value_read}
use Rattle.rws_vars.proofs.collector.Collector.read.Goals as goal

pub returns-in-Value-clause-left : goal.returns-in-Value-clause-left
returns-in-Value-clause-left c =
    let old : Collector = c.args.self.now in
    let new : Collector = c.push.new.self in
    let walk : Walk = c.read.new.self in
    let p = alone (lexeme_of c.args.lexeme.now) in
    let valued = c.in-Value.ensures.reads.0 in
    let walks = subst (λ (q : Place). (ps : List Place) → walk_left old.walk (q ∷ ps) ≡ value_on q (walk_left walk ps)) c.new.ensures c.in-Value.ensures.reads.2 in
    on_ok_weaker {Q = (ps : List Place) → collected_left new ps ≡ collected_left old (p ∷ ps)} _ (λ goes ps.
    ap (λ (w : Walk). settings_of new.done new.draft (walk_left w ps)) goes.walk
    ∙ ap (λ (done : List Setting). settings_of done new.draft (walk_left walk ps)) goes.done
    ∙ value_read old.done old.draft new.draft old.walk walk p (ap is_valued c.in-Value.ensures.reads.1 ∙ valued) (λ item. goes.left p item (sym c.requires.begun ∙ valued) refl) walks ps) c.push.ensures
