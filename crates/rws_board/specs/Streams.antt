-- A source over a reader and a sink over a writer, with their counts of faults.
use Rattle.std.specs.Prelude.{ℕ}
use Rattle.rws_board.specs.declared.read_source.ReadSource.{ReadSource}
use Rattle.rws_board.specs.declared.write_sink.WriteSink.{WriteSink}

abbrev pub source_of : {R : Type 0} → R → ℕ → ReadSource R
source_of reader faults = record { reader = reader; faults = faults }

abbrev pub sink_of : {W : Type 0} → W → ℕ → WriteSink W
sink_of writer faults = record { writer = writer; faults = faults }
