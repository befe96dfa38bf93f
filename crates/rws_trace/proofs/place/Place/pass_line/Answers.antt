use Rattle.std.proofs.Common.{◌≡◌, sym, refl, ◌∙◌, ◌+◌}
use Rattle.rws_trace.specs.Script.{in_order}
use Rattle.rws_trace.specs.EventLine.{meaning_of}
use Rattle.rws_board.specs.declared.event.Event.TheVariants.{End}
use Rattle.rws_trace.specs.declared.event_line.EventLine.TheVariants.{Says}
use Rattle.rws_trace.specs.declared.place.Place.{Place}
use Rattle.rws_trace.proofs.Passing.{event-not_end, next-event, count-event, meaning_at-in_order, script_at-says}
use Rattle.rws_trace.proofs.place.Place.pass_line.Goals as goal

pub returns-in-Says-clause-told : goal.returns-in-Says-clause-told
returns-in-Says-clause-told c lines =
    let place = c.args.self.now in
    let line = c.args.line.now in
    let event = c.in-Says.event in
    let says : Says event ≡ in_order place.order (meaning_of place.settings line) = sym c.in-Says.is ∙ c.in_ok-read_in_order.ensures in
    let meaning = meaning_at-in_order place.settings place.number place.order line c.requires.short c.if-self-eq-LAST_LINE.false ∙ sym says in
    let next : Place = record { settings = place.settings; number = place.number + 1; order = c.after-self.result; events = place.events + 1; bad_line = place.bad_line } in
    let told = script_at-says place next line lines event c.requires.going meaning c.requires.going refl c.after-self.ensures refl in
    next-event event _ _ _ (event-not_end place.settings place.order line event says) told c.requires.going

pub returns-in-Says-clause-events : goal.returns-in-Says-clause-events
returns-in-Says-clause-events c =
    let place = c.args.self.now in
    let line = c.args.line.now in
    let event = c.in-Says.event in
    let says : Says event ≡ in_order place.order (meaning_of place.settings line) = sym c.in-Says.is ∙ c.in_ok-read_in_order.ensures in
    rw (count-event event (event-not_end place.settings place.order line event says))

-- no line says the end
pub returns-in-Says-clause-end : goal.returns-in-Says-clause-end
returns-in-Says-clause-end c is going =
    let place = c.args.self.now in
    let line = c.args.line.now in
    let event = c.in-Says.event in
    let says : Says event ≡ in_order place.order (meaning_of place.settings line) = sym c.in-Says.is ∙ c.in_ok-read_in_order.ensures in
    let end : event ≡ End = cc in
    event-not_end place.settings place.order line event says end
