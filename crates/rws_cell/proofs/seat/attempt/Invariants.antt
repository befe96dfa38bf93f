use Rattle.rws_cell.proofs.seat.attempt.Given as goal

abbrev pub ghosts-exchange : goal.ghosts-exchange
ghosts-exchange g a = record { event = a.event.now; before = a.expected }
