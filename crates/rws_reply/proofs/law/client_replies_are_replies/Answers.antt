use Rattle.rws_reply.proofs.ClientLemmas.{client_replies_are_replies, client_replies_grow}
use Rattle.rws_reply.proofs.law.client_replies_are_replies.Goals as goal

pub returns-clause-whole : goal.returns-clause-whole
returns-clause-whole c = client_replies_are_replies

pub returns-clause-grow : goal.returns-clause-grow
returns-clause-grow c = client_replies_grow
