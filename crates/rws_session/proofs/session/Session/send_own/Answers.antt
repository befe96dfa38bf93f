use Rattle.std.proofs.Common.{◌≡◌, List, map, ap, subst, sym, true}
use Rattle.rws_links.specs.declared.numbered.NumberedLink.{NumberedLink}
use Rattle.rws_links.specs.Links.{link_of}
use Rattle.rws_links.specs.Table.{SendsOn}
use Rattle.rws_session.specs.Kept.{Kept}
use Rattle.rws_session.proofs.session.Session.send_own.Goals as goal

pub returns-then-not-branch-clause-links : goal.returns-then-not-branch-clause-links
returns-then-not-branch-clause-links c = λ purpose past numbers sending are distinct.
    let its = subst (λ (k : Kept). k.state.links ≡ map (link_of past) numbers) (sym c.self.view_is) are in
    rw c.if-not-branch.true at (c.in_ok-send_one.ensures.ok purpose past numbers sending its distinct)

pub returns-clause-links : goal.returns-clause-links
returns-clause-links c = λ purpose past numbers sending are distinct.
    let its = subst (λ (k : Kept). k.state.links ≡ map (link_of past) numbers) (sym c.self.view_is) are in
    let sent : SendsOn c.args.link purpose past numbers true c.send_one.new.self =
    rw c.if-not-branch.false at (c.in_ok-send_one.ensures.ok purpose past numbers sending its distinct) in
    subst (λ (links : List NumberedLink). SendsOn c.args.link purpose past numbers true links)
    (sym (ap (λ (k : Kept). k.state.links) c.in_ok-act.ensures.ok)) sent
