use Rattle.rws_checksum.proofs.LayoutLemmas.{layout_same}
use Rattle.rws_checksum.proofs.law.layouts_differ.Goals as goal

pub returns : goal.returns
returns c = layout_same
