use Rattle.std.proofs.Common.{◌≡◌, ◌++◌, rules, append_assoc}
use Rattle.rws_msgs.specs.ResponseLayout.{answer_bytes, front_bytes, with_lenenc}
use Rattle.rws_msgs.proofs.WritingLemmas.{still_on_err}
use Rattle.rws_msgs.proofs.response.Response.put.Goals as goal

pub returns-clause-err : goal.returns-clause-err
returns-clause-err c =
    let response = c.args.self.now in
    let more = front_bytes response ++ answer_bytes (with_lenenc response.flags) response.answer in
    let e : c.put_answer.new.out.items ≡ c.args.out.now.items ++ more = search (rules, append_assoc) in
    still_on_err c.put_names.result c.args.out.now.items c.put_answer.new.out.items c.put_names.new.out.items more e c.put_names.ensures.err
