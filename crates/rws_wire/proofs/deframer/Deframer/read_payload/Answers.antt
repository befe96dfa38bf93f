use Rattle.std.proofs.Common.{◌≡◌, length, refl, ap, arith}
use Rattle.rws_wire.specs.Deframing.{Deframing}
use Rattle.rws_wire.specs.Packets.{spelling}
use Rattle.rws_wire.proofs.DeframerLemmas.{is_behind, next_unstopped, fault_of_look}
use Rattle.rws_wire.proofs.deframer.Deframer.read_payload.Goals as goal

pub overflow_sub-self : goal.overflow_sub-self
overflow_sub-self c =
    let d = c.self.inside in
    let p = c.in_ok-payload-in-Whole.payload in
    let h = rw c.deref.ensures.value at c.in_ok-payload-in-Whole.ensures.spelled in
    let t = is_behind d.start d.bytes.items (spelling c.args.first p.bytes) c.in_ok-payload-in-Whole.behind.now c.self.invariant h.0 in
    omega (arith, t.fits)

pub returns-in-Bad-clause-hands_out : goal.returns-in-Bad-clause-hands_out
returns-in-Bad-clause-hands_out c =
    let d = c.self.inside in
    let faulty = rw c.deref.ensures.value at (fault_of_look _ c.in-Bad.fault c.in-Bad.ensures) in
    let read = next_unstopped c.args.self.now c.args.first d.limit d.start d.bytes.items _ c.requires (ap (λ (v : Deframing). v.limit) c.self.view_is) (ap (λ (v : Deframing). v.held) c.self.view_is) faulty in
    (read, rw (← c.self.view_is) refl)

pub returns-in_ok-payload-in-Whole-clause-hands_out : goal.returns-in_ok-payload-in-Whole-clause-hands_out
returns-in_ok-payload-in-Whole-clause-hands_out c =
    let d = c.self.inside in
    let p = c.in_ok-payload-in-Whole.payload in
    let h = rw c.deref.ensures.value at c.in_ok-payload-in-Whole.ensures.spelled in
    let t = is_behind d.start d.bytes.items (spelling c.args.first p.bytes) c.in_ok-payload-in-Whole.behind.now c.self.invariant h.0 in
    let size : c.len.result ≡ length d.bytes.items = omega arith in
    let whole = rw c.deref.ensures.value at c.in_ok-payload-in-Whole.ensures.gathers in
    let read = next_unstopped c.args.self.now c.args.first d.limit d.start d.bytes.items _ c.requires (ap (λ (v : Deframing). v.limit) c.self.view_is) (ap (λ (v : Deframing). v.held) c.self.view_is) whole in
    (rw (c.give_back.ensures, size, t.left) read, rw (c.give_back.ensures, ← c.self.view_is) refl)

pub returns-in_ok-payload-in-Whole-clause-spelled : goal.returns-in_ok-payload-in-Whole-clause-spelled
returns-in_ok-payload-in-Whole-clause-spelled c =
    let d = c.self.inside in
    let p = c.in_ok-payload-in-Whole.payload in
    let h = rw c.deref.ensures.value at c.in_ok-payload-in-Whole.ensures.spelled in
    let t = is_behind d.start d.bytes.items (spelling c.args.first p.bytes) c.in_ok-payload-in-Whole.behind.now c.self.invariant h.0 in
    let size : c.len.result ≡ length d.bytes.items = omega arith in
    rw (c.give_back.ensures, size, ← c.self.view_is) (t.spelled, h.1, h.2)
