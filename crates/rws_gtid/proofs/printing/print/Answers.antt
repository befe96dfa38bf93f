use Rattle.std.proofs.Common.{◌≡◌, ℕ, List, ap, ◌∙◌, arith, rules}
use Rattle.rws_gtid.specs.Parsing.{gtid_at}
use Rattle.rws_gtid.specs.Spelling.{IsInRange, gtid_text}
use Rattle.rws_gtid.proofs.SpellingLemmas.{gtid_again}
use Rattle.rws_gtid.proofs.printing.print.Goals as goal

pub returns-clause-again : goal.returns-clause-again
returns-clause-again c =
    let fits : IsInRange c.args.gtid = record { domain = omega arith; server = omega arith; sequence = omega arith } in
    let spelled : c.new.result ≡ gtid_text c.args.gtid = search rules in
    ap (λ (bytes : List ℕ). gtid_at (0, bytes)) spelled ∙ gtid_again 0 c.args.gtid fits
