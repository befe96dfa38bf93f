use Rattle.std.proofs.Common.{◌≡◌, [], ◌∷◌, length, get_or, map, sym, ◌∙◌, arith}
use Rattle.std.specs.List.{range_with_len}
use Rattle.rws_cell.proofs.Packs.{written_out, unpacks, ReadsAll}
use Rattle.rws_cell.proofs.packing.unpack.Goals as goal

pub returns-clause-words : goal.returns-clause-words
returns-clause-words c = λ words same is.
    let wide : length c.args.packed.now ≡ 16 = omega arith in
    let reads : ReadsAll (c.seen.result ∷ c.seen-2.result ∷ c.seen-3.result ∷ c.seen-4.result ∷ c.seen-5.result ∷ c.seen-6.result ∷ c.seen-7.result ∷ []) (map (λ k. get_or c.args.packed.now k 0) (range_with_len 2 14)) = ((c.seen.ensures.state, c.seen.ensures.position), ((c.seen-2.ensures.state, c.seen-2.ensures.position), ((c.seen-3.ensures.state, c.seen-3.ensures.position), ((c.seen-4.ensures.state, c.seen-4.ensures.position), ((c.seen-5.ensures.state, c.seen-5.ensures.position), ((c.seen-6.ensures.state, c.seen-6.ensures.position), ((c.seen-7.ensures.state, c.seen-7.ensures.position), tt))))))) in
    unpacks c.args.domain (get_or c.args.packed.now 0 0) (get_or c.args.packed.now 1 0) (map (λ k. get_or c.args.packed.now k 0) (range_with_len 2 14)) (c.seen.result ∷ c.seen-2.result ∷ c.seen-3.result ∷ c.seen-4.result ∷ c.seen-5.result ∷ c.seen-6.result ∷ c.seen-7.result ∷ []) words same reads (sym (written_out c.args.packed.now 16 0 wide) ∙ is)
