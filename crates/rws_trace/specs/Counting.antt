-- What holds of a place in a trace.
use Rattle.std.specs.Prelude.{◌≡◌, ◌<◌, ◌≤◌}
use Rattle.rws_trace.specs.declared.event_line.TheConstants.{LAST_LINE}
use Rattle.rws_trace.specs.declared.place.Place.{Place}

-- lines are counted up to the last, and each event has a line of its own
pub record IsCounted (place : Place) : Type 0 where
  pub line : place.number ≤ LAST_LINE
  pub events : place.events < place.number

-- lines were passed over that say nothing: only the number of the next line changed, and didn't fall
pub record PassesOver (old new : Place) : Type 0 where
  pub number : old.number ≤ new.number
  pub same : new ≡ record old { number = new.number }
