-- A client that is passed a reply's end has a whole reply to its command.
use Rattle.std.proofs.Common.{List, sym, subst}
use Rattle.rws_reply.specs.Replies.{Payload, IsReply}
use Rattle.rws_reply.proofs.ClientLemmas.{client_replies_are_replies}
use Rattle.rws_commands.specs.Statements.{next_handle}
use Rattle.rws_record.specs.Values.{statements}
use Rattle.rws_laws.specs.Causes.{beneath}
use Rattle.rws_laws.specs.Servers.{came_on}
use Rattle.rws_laws.specs.Laws.{WholeReplies}
use Rattle.rws_laws.proofs.BytesLemmas.{came_fits}
use Rattle.rws_laws.proofs.CausesLemmas.{causes}
use Rattle.rws_laws.proofs.HandleLemmas.{next_fits}

pub whole_replies : WholeReplies
whole_replies config past number link command payload ending recording legal heard =
    let all = causes config _ legal in
    let cause = all.0 in
    let bytes = came_fits config link past all.1 heard in
    let handle = next_handle (statements config (beneath past)) in
    let seen = client_replies_are_replies command.kind handle (came_on link past) ending.outcome (next_fits config (beneath past)) bytes cause.1 in
    (seen.0, subst (λ (list : List Payload). IsReply command.kind list seen.0) (sym cause.0.in_form) seen.1, seen.2)
