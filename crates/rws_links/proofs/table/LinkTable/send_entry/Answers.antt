use Rattle.std.proofs.Common.{ℕ, List, [], ◌∷◌, ap, refl, sym}
use Rattle.rws_record.specs.Item.Purpose.{Plays}
use Rattle.rws_links.proofs.table.LinkTable.send_entry.Goals as goal

pub returns-clause-ok : goal.returns-clause-ok
returns-clause-ok c = λ past links are distinct.
    c.send_one.ensures.ok (Plays c.args.entry.now) past links (refl, ap (λ (p : List ℕ). p ∷ []) (sym c.as_slice-payload.ensures), refl) are distinct
