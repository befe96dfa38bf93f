use Rattle.std.proofs.Common.{ℕ, List, ap, ◌∙◌}
use Rattle.rws_gtid.specs.Parsing.{gtid_at}
use Rattle.rws_gtid.proofs.SpellingLemmas.{spelled_if_ok, gtid_again}
use Rattle.rws_gtid.proofs.parsing.parse.Goals as goal

pub returns-clause-spelled : goal.returns-clause-spelled
returns-clause-spelled c = spelled_if_ok c.args.text.now c.whole_gtid.result c.whole_gtid.ensures

pub returns-clause-only : goal.returns-clause-only
returns-clause-only c = λ gtid fits same.
    c.whole_gtid.ensures ∙ ap (λ (bytes : List ℕ). gtid_at (0, bytes)) same ∙ gtid_again 0 gtid fits
