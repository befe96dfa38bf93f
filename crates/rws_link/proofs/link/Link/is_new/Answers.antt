use Rattle.std.proofs.Common.{◌≡◌, ℕ, true, List, ◌++◌, ◌∙◌}
use Rattle.rws_link.specs.Handshake.{awaits_greeting, due}
use Rattle.rws_link.specs.Linking.{Opening, taken}
use Rattle.rws_link.proofs.LinkLemmas.{new_by}
use Rattle.rws_link.proofs.link.Link.is_new.Goals as goal

pub returns-then-awaits_greeting : goal.returns-then-awaits_greeting
returns-then-awaits_greeting c = λ link is.
    let held : List ℕ = c.self.inside.stream.held in
    let view : Opening c.in-Opening.handshake (taken (due c.in-Opening.handshake) c.in-Opening.came ++ held) ≡ c.args.self.now =
    rw c.in-Opening.is at c.self.view_is
    in
    let awaits : awaits_greeting c.in-Opening.handshake ≡ true = cc (c.if-awaits_greeting.ensures) in
    let known = new_by _ _ c.in-Opening.came held link awaits (view ∙ is) in
    rw (c.nothing_came.ensures, c.held.ensures) known
