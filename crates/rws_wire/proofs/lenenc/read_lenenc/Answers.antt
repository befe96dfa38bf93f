use Rattle.std.proofs.Common.{refl, arith}
use Rattle.std.proofs.lemmas.List.{drop_all}
use Rattle.rws_wire.specs.Lenenc.{lenenc}
use Rattle.rws_wire.proofs.lenenc.read_lenenc.Goals as goal

pub returns-then-at-bytes : goal.returns-then-at-bytes
unfolding lenenc
returns-then-at-bytes c = rw (drop_all c.args.at c.args.bytes.now (omega arith)) refl
