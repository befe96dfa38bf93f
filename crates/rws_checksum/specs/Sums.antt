-- The payloads that a sum is of.
use Rattle.std.specs.Prelude.{ℕ, List}
use Rattle.sha1.specs.Sha1.{Holds}
use Rattle.rws_checksum.specs.declared.sum.Sum.{Sum}
use Rattle.rws_checksum.specs.Layout.{layout}

-- the hasher has taken these payloads in the layout, in order, and nothing else
pub record Sums (sum : Sum) (payloads : List (List ℕ)) : Type 0 where
  pub taken : Holds sum.hasher (layout payloads)
