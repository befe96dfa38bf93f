use Rattle.std.proofs.Common.{◌≡◌, length, option_map}
use Rattle.rws_trace.specs.EventLine.{name_all, round_by, round_of, words_of}
use Rattle.rws_trace.proofs.naming.read_round.Given as goal

-- what is named so far, with the words that are left, makes the round
abbrev pub invariant-words : goal.invariant-words
invariant-words l = option_map round_by (name_all l.servers (words_of l.rest) l.naming) ≡ round_of l.servers (words_of l.words)

abbrev pub decreases-words : goal.decreases-words
decreases-words l = length l.rest
