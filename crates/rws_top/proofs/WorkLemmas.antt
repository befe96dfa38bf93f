-- What a worker's work says of its board, in other words.
use Rattle.std.proofs.Common.{List}
use Rattle.rws_board.specs.Boards.{Standing}
use Rattle.rws_board.specs.declared.interaction.Interaction.{Interaction}
use Rattle.rws_config.specs.declared.config.Config.{Config}
use Rattle.rws_worker.specs.Working.{Works}
use Rattle.rws_worker.specs.Working.Works.{ended, unread, untaken, too_many, spent, starved_reading, starved_acting}
use Rattle.rws_worker.specs.declared.work.WorkEnd.{WorkEnd}

module _ {config : Config} {did : List Interaction → Standing → Type 0} where
  pub works_map : {did' : List Interaction → Standing → Type 0} {end : WorkEnd}
      → ((done : List Interaction) (standing : Standing) → did done standing → did' done standing) → Works config did end → Works config did' end
  works_map f (ended run resting d) = ended run resting (f _ _ d)
  works_map f (unread run resting d) = unread run resting (f _ _ d)
  works_map f (untaken done front d) = untaken done front (f _ _ d)
  works_map f (too_many run event resting full d) = too_many run event resting full (f _ _ d)
  works_map f (spent done front is_spent d) = spent done front is_spent (f _ _ d)
  works_map f (starved_reading run resting d) = starved_reading run resting (f _ _ d)
  works_map f (starved_acting done front d) = starved_acting done front (f _ _ d)

  -- what holds of all that a board may have done
  pub works_always : {A : Type 0} {end : WorkEnd} → ((done : List Interaction) (standing : Standing) → did done standing → A) → Works config did end → A
  works_always f (ended run resting d) = f _ _ d
  works_always f (unread run resting d) = f _ _ d
  works_always f (untaken done front d) = f _ _ d
  works_always f (too_many run event resting full d) = f _ _ d
  works_always f (spent done front is_spent d) = f _ _ d
  works_always f (starved_reading run resting d) = f _ _ d
  works_always f (starved_acting done front d) = f _ _ d
