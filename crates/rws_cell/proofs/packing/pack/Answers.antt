use Rattle.std.proofs.Common.{◌≡◌, ◌∷◌, List, length, ap, sym, arith}
use Rattle.rws_pool.specs.declared.words.Seen.{Seen}
use Rattle.rws_pool.specs.Machine.{down}
use Rattle.rws_cell.specs.Packing.{packed_servers}
use Rattle.rws_cell.proofs.Packs.{written_out}
use Rattle.rws_cell.proofs.packing.pack.Goals as goal

pub returns-clause-words : goal.returns-clause-words
returns-clause-words c =
    let wide : length c.args.words.now.servers ≡ 7 = omega arith in
    rw (c.from.ensures, c.code_of.ensures, c.code_of-2.ensures, c.code_of-3.ensures, c.code_of-4.ensures, c.code_of-5.ensures, c.code_of-6.ensures, c.code_of-7.ensures)
    (ap (λ (ss : List Seen). c.args.words.now.last.server ∷ c.args.words.now.last.sequence ∷ packed_servers ss) (sym (written_out c.args.words.now.servers 7 down wide)))
