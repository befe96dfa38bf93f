use Rattle.rws_wire.proofs.LenencLemmas.{lenenc-lenenc_bytes, shortest}
use Rattle.rws_wire.proofs.lenenc.put_lenenc.Goals as goal

pub returns-clause-read_back : goal.returns-clause-read_back
returns-clause-read_back c = λ rest. lenenc-lenenc_bytes c.args.value rest c.ranges.value.fits

pub returns-clause-shortest : goal.returns-clause-shortest
returns-clause-shortest c = shortest c.args.value
