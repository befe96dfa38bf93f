use Rattle.std.proofs.Common.{◌≡◌, ◌∷◌, ◌++◌, rules, append_assoc}
use Rattle.rws_wire.specs.Lenenc.{lenenc_bytes}
use Rattle.rws_wire.specs.Numbers.{bytes_of}
use Rattle.rws_msgs.proofs.WritingLemmas.{still_on_err}
use Rattle.rws_msgs.proofs.ok_msg.OkMsg.put.Goals as goal

pub returns-clause-err : goal.returns-clause-err
returns-clause-err c =
    let m = c.args.self.now in
    let more = 0 ∷ (lenenc_bytes m.affected ++ (lenenc_bytes m.insert_id ++ (bytes_of 2 m.status ++ bytes_of 2 m.warnings))) in
    let e : c.put_u16-2.new.out.items ≡ c.args.out.now.items ++ more = search (rules, append_assoc) in
    still_on_err c.put_texts.result c.args.out.now.items c.put_u16-2.new.out.items c.put_texts.new.out.items more e c.put_texts.ensures.err
