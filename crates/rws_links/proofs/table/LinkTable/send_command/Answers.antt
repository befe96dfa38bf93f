use Rattle.std.proofs.Common.{refl, sym}
use Rattle.rws_record.specs.Item.Purpose.{Asks}
use Rattle.rws_links.proofs.table.LinkTable.send_command.Goals as goal

pub returns-clause-ok : goal.returns-clause-ok
returns-clause-ok c = λ past links are distinct.
    c.send.ensures.ok (Asks c.args.command.now c.args.id) past links (refl, sym c.requires, refl) are distinct
