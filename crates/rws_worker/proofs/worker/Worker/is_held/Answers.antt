use Rattle.std.proofs.Common.{◌≡◌, ℕ, Bool, sym, ap, subst, ◌∙◌, Option, Some}
use Rattle.std.proofs.lemmas.Bool.{and_parts}
use Rattle.std.specs.BTreeMap.{get}
use Rattle.std.specs.Ordering.{nat_cmp}
use Rattle.rws_record.specs.Run.{is_live, record_of}
use Rattle.rws_record.specs.Values.{contains, links}
use Rattle.rws_session.specs.Kept.{Kept}
use Rattle.rws_worker.specs.Standing.{IsSeated, SeatStands}
use Rattle.rws_worker.specs.Stepping.{is_asking}
use Rattle.rws_worker.proofs.EndLemmas.{is_of}
use Rattle.rws_worker.proofs.RecordLemmas.{some_same}
use Rattle.rws_worker.proofs.worker.Worker.is_held.Goals as goal

pub returns-in-Some-get : goal.returns-in-Some-get
returns-in-Some-get c = λ config run w session o h.
    let asks : Bool = is_asking session c.args.self.now.asker in
    let its : c.in-Some.session.now ≡ session =
    some_same c.in-Some.session.now session (c.in-Some.ensures.value ∙ w.owns c.args.link session o h) in
    let found : Some c.in-Some-get.session.now ≡ get nat_cmp c.args.self.now.sessions session =
    c.in-Some-get.ensures.value ∙ ap (λ (n : ℕ). get nat_cmp c.args.self.now.sessions n) its in
    let seat : IsSeated config session asks c.in-Some-get.session.now run =
    subst (λ (k : Option Kept). SeatStands config session asks k run) (sym found) (w.seats session) in
    c.has_link.ensures.links config (record_of session run) (is_of asks config c.in-Some-get.session.now (record_of session run) seat.stands)
    ∙ (and_parts (is_live (record_of session run)) (contains c.args.link (links (record_of session run))) h).1
