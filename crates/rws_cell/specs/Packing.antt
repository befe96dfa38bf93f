-- The sixteen words of the cell: the server and the sequence of the last commit, then each server's state and position. The domain isn't among them.
use Rattle.std.specs.Prelude.{ℕ, List, [], ◌∷◌}
use Rattle.rws_pool.specs.declared.words.State.{State}
use Rattle.rws_pool.specs.declared.words.State.TheVariants.{Down, Running, Slave, Master, Maintenance}
use Rattle.rws_pool.specs.declared.words.Seen.{Seen}
use Rattle.rws_pool.specs.declared.words.PoolWords.{PoolWords}

abbrev pub code_of : State → ℕ
code_of Down = 0
code_of Running = 1
code_of Slave = 2
code_of Master = 3
code_of Maintenance = 4

abbrev pub packed_servers : List Seen → List ℕ
packed_servers [] = []
packed_servers (seen ∷ servers) = code_of seen.state ∷ seen.position ∷ packed_servers servers

abbrev pub packed_words : PoolWords → List ℕ
packed_words words = words.last.server ∷ words.last.sequence ∷ packed_servers words.servers
