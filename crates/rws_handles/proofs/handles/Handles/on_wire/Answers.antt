use Rattle.std.proofs.Common.{◌≡◌, Some, sym, ◌∙◌}
use Rattle.rws_handles.specs.Links.{id_on}
use Rattle.rws_handles.proofs.RunLemmas.{number_kept, puts_plain}
use Rattle.rws_handles.proofs.handles.Handles.on_wire.Goals as goal

pub returns-clause-plain : goal.returns-clause-plain
returns-clause-plain c = λ number plain fits is.
    let mine = c.number_in.ensures ∙ number_kept c.args.kept.now number plain fits is in
    let found : id_on c.self.inside.links c.args.link number ≡ Some c.in-Some.id = rw mine at (sym c.id.ensures ∙ c.in-Some.is) in
    rw (← c.self.view_is) (c.in-Some.id, found, puts_plain number c.in-Some.id plain c.args.kept.now c.args.out.now c.put_renumbered.new.out is c.in_ok-put_renumbered.ensures.ok)
