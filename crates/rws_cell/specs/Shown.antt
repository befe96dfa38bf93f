-- What callers see of a cell and of a pass.
use Rattle.std.specs.Prelude.{ℕ}
use Rattle.atomic_table.specs.Seated.{TableId}
use Rattle.rws_cell.specs.declared.view.View.{View}

-- which cell it is, and the domain of its words
pub record ShownCell : Type 0 where
  pub domain : ℕ
  pub cell : TableId

-- which cell the pass is of, and its view of the history
pub record ShownPass : Type 0 where
  pub cell : TableId
  pub view : View
