use Rattle.std.proofs.Common.{◌≡◌, map, subst, sym, true, Option, Some}
use Rattle.rws_wire.specs.Packets.{spelling}
use Rattle.rws_commands.specs.declared.command.Command.{Command}
use Rattle.rws_commands.specs.Commands.{asked_under}
use Rattle.rws_session.specs.Steps.{SendsPending, id_in, is_keeping}
use Rattle.rws_session.proofs.TryLemmas.{pending_gone}
use Rattle.rws_session.proofs.session.Session.send_pending.Goals as goal

pub returns-clause-sends : goal.returns-clause-sends
returns-clause-sends c =
    let pending : c.args.self.now.state.pending ≡ Some c.in-Some.command = rw (← c.self.view_is) c.in-Some.is in
    let packets : c.send_asked.new.out ≡ map (spelling 0) (asked_under (id_in c.args.link c.in-Some.command c.args.self.now.state) c.in-Some.command.body) =
    rw (pending, c.new-packets.ensures, c.if-not-branch.false) at c.in_ok-send_asked.ensures.sends in
    let keeping : c.is_keeping-keeping.result ≡ is_keeping c.in-Some.command c.args.self.now.state.kept_on = rw (← c.self.view_is) c.is_keeping-keeping.ensures in
    subst (λ (command : Option Command). SendsPending c.args.link command true c.args.self.now c.note_sent.new.self) (sym pending)
    (pending_gone c.args.self.now c.send_asked.new.self c.owe_keeping.new.self c.put_out.new.self c.note_sent.new.self c.args.link
    c.in-Some.command c.is_keeping-keeping.result c.send_asked.new.out c.in_ok-send_asked.ensures.rest keeping c.in_ok-owe_keeping.ensures.ok
    c.in_ok-put_out.ensures.ok packets c.note_sent.ensures)
