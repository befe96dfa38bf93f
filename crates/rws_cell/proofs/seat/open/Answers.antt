use Rattle.std.proofs.Common.{List, [], ◌∷◌, ℕ, rules, sym, subst, ap, ◌∙◌}
use Rattle.rws_cell.specs.Packing.{packed_words}
use Rattle.rws_cell.specs.Views.{first_view}
use Rattle.rws_cell.specs.Rule.{Kept}
use Rattle.rws_cell.proofs.Moves.{begins}
use Rattle.rws_cell.proofs.seat.open.Goals as goal

pub ruled-requires : goal.ruled-requires
ruled-requires c = (search rules, (search rules, subst (λ (ws : List ℕ). Kept ws (first_view ∷ [])) (sym (c.pack.ensures.words ∙ ap packed_words c.new.ensures)) (begins 0)))
