use Rattle.std.proofs.Common.{sym, ◌∙◌}
use Rattle.rws_handles.proofs.PlaceLemmas.{removed, removed_none}
use Rattle.rws_handles.proofs.statements.remove_entry.Goals as goal

pub returns-then-is_some-clause-slots : goal.returns-then-is_some-clause-slots
returns-then-is_some-clause-slots c =
    rw c.push_reserved.ensures.items (removed c.args.entries.now c.try_remove.new.self c.args.freed.now.items c.args.number c.try_remove.result c.requires.behind c.if-number-eq0.false c.try_remove.ensures.value (sym c.is_some.ensures ∙ c.if-is_some.true) c.try_remove.ensures.updates c.try_remove.ensures.len)

pub returns-else-is_some-clause-slots : goal.returns-else-is_some-clause-slots
returns-else-is_some-clause-slots c =
    removed_none c.args.entries.now c.try_remove.new.self c.args.freed.now.items c.args.number c.try_remove.result c.requires.behind c.if-number-eq0.false c.try_remove.ensures.value (sym c.is_some.ensures ∙ c.if-is_some.false) c.try_remove.ensures.absent
