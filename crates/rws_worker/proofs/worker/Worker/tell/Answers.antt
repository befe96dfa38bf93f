use Rattle.std.proofs.Common.{◌≡◌, sym, ap, ◌∙◌, refl, None}
use Rattle.std.specs.Option.{option_copied_mut}
use Rattle.std.specs.BTreeMap.{get}
use Rattle.std.specs.Ordering.{nat_cmp}
use Rattle.rws_session.specs.Kept.{Kept}
use Rattle.rws_worker.specs.declared.worker.Worker.{Worker}
use Rattle.rws_worker.proofs.MapLemmas.{written}
use Rattle.rws_worker.proofs.TellLemmas.{tells_nobody, tells_one}
use Rattle.rws_worker.proofs.worker.Worker.tell.Goals as goal

pub returns-in_default-clause-advances : goal.returns-in_default-clause-advances
returns-in_default-clause-advances c = λ run b bare behind more tells told.
    let mid : Worker = c.count_out.new.self in
    let same = c.count_out.ensures.rest in
    let none : get nat_cmp mid.sessions c.args.session ≡ None = sym c.get_mut.ensures.value ∙ ap option_copied_mut c.in_default.is in
    tells_nobody b bare c.args.session c.args.input more tells told mid same c.count_out.ensures.counts none c.get_mut.follows.lender-at-none
    (λ n. rw c.get_mut.follows.holds-at-none refl)

pub returns-clause-advances : goal.returns-clause-advances
returns-clause-advances c = λ run b bare behind more tells told.
    let mid : Worker = c.count_out.new.self in
    let seat : Kept = c.in-Some.told.now in
    let after : Kept = c.turn-end.new.session in
    let sessions = c.get_mut.follows.lender after in
    tells_one b bare c.args.session c.args.input behind more tells told mid c.count_out.ensures.rest c.count_out.ensures.counts seat after
    (sym c.in-Some.ensures.value) sessions (written mid.sessions sessions c.args.session seat after c.in-Some.ensures.value (c.get_mut.follows.holds after))
    c.settle.new.self c.turn-end.result c.settle.ensures.finishes c.turn-end.ensures
