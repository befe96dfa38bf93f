use Rattle.std.proofs.Common.{List, ℕ, ◌++◌, ◌∙◌, subst, sym, ap, append_assoc}
use Rattle.sha1.specs.Sha1.{Holds}
use Rattle.rws_checksum.specs.Layout.{layout, prefixed}
use Rattle.rws_checksum.proofs.LayoutLemmas.{layout_grows}
use Rattle.rws_checksum.proofs.sum.Sum.add.Goals as goal

pub returns : goal.returns
unfolding prefixed
returns c = λ payloads sums. record {
  taken = subst (λ (message : List ℕ). Holds c.update-2.new.self message)
      (append_assoc (layout payloads) c.to_le_bytes.result c.args.payload.now
      ∙ (ap (λ (size : List ℕ). layout payloads ++ (size ++ c.args.payload.now)) c.to_le_bytes.ensures
      ∙ sym (layout_grows payloads c.args.payload.now)))
      (c.update-2.ensures _ (c.update.ensures _ sums.taken));
}
