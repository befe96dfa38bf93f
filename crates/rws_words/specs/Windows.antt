-- The program's windows as places.
use Rattle.rws_words.specs.Places.{Place, place_at}
use Rattle.rws_words.specs.declared.window.Window.{Window}

abbrev pub place : Window → Place
place w = place_at w.after_dot w.this w.next
