use Rattle.std.proofs.Common.{◌≡◌, ◌++◌, map, take}
use Rattle.rws_handles.specs.PlainForm.{renumbered}
use Rattle.rws_handles.proofs.command.put_each.Given as goal

-- the commands so far stand there
abbrev pub invariant-commands : goal.invariant-commands
invariant-commands l = l.out ≡ l.initial.out ++ map (renumbered l.id) (take l.command-index l.commands)
