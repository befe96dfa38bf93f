use Rattle.std.proofs.Common.{◌<◌, ℕ, None, get_or, set, length, add-one, ap, ◌∙◌, arith}
use Rattle.rws_pool.specs.declared.words.Seen.{Seen}
use Rattle.std.specs.Prelude.{List}
use Rattle.rws_pool.specs.Machine.{observed, down}
use Rattle.rws_pool.proofs.Rounds.{each_observed-more}
use Rattle.rws_pool.proofs.words.PoolWords.observe.Goals as goal

pub loop-place-preserved : goal.loop-place-preserved
loop-place-preserved c =
    let k : ℕ = c.loop-place.place in
    let servers : List Seen = c.args.self.now.servers in
    let round = c.args.round.now.seen in
    let inside : c.loop-place.place < length c.args.self.now.servers = omega arith in
    let named : c.loop-place.place < length c.args.round.now.seen = omega arith in
    let is = c.loop-place.invariant.1 in (
      c.loop-place.invariant.0,
      rw add-one (ap (λ (xs : List Seen). set xs c.loop-place.place c.observed.result) is
          ∙ each_observed-more servers c.args.round.now.seen c.loop-place.place c.observed.result down None inside named (c.observed.ensures ∙ ap (λ (xs : List Seen). observed (get_or xs c.loop-place.place down) (get_or c.args.round.now.seen c.loop-place.place None)) is)),
    )
