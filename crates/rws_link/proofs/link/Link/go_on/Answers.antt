use Rattle.std.proofs.Common.{◌≡◌, true, false, refl, ap, ◌∙◌}
use Rattle.rws_link.specs.Stepping.{is_some_byte}
use Rattle.rws_link.specs.Linking.{Ready}
use Rattle.rws_link.proofs.LinkLemmas.{no_byte, logged_in-some}
use Rattle.rws_link.proofs.link.Link.go_on.Goals as goal

pub returns-then-holds_bytes : goal.returns-then-holds_bytes
returns-then-holds_bytes c = λ held is.
    let some : is_some_byte held ≡ true = cc (c.if-holds_bytes.ensures held is) in
    rw (c.in-Accepted.is, logged_in-some held some) c.lose.ensures

pub returns-else-holds_bytes : goal.returns-else-holds_bytes
returns-else-holds_bytes c = λ held is.
    let none : is_some_byte held ≡ false = cc (c.if-holds_bytes.ensures held is) in
    rw (c.in-Accepted.is, no_byte held none) (refl, is ∙ ap Ready (no_byte held none))
