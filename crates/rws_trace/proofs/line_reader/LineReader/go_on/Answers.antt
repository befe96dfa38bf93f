use Rattle.std.proofs.Common.{◌++◌}
use Rattle.rws_trace.specs.Reader.{IsFound}
use Rattle.rws_trace.specs.declared.found.Found.TheVariants.{Line, TooLong}
use Rattle.rws_trace.proofs.AheadLemmas.{ahead-filled}
use Rattle.rws_trace.proofs.Feeds.{found-line, found-long}
use Rattle.rws_trace.proofs.line_reader.LineReader.go_on.Goals as goal

pub returns-in-Line-clause-found : goal.returns-in-Line-clause-found
returns-in-Line-clause-found g c =
    let front = c.args.self.now.line.items in
    let line = c.gather.new.line.items in
    let gathers = rw c.in-Line.is at c.in_ok-gather.ensures.gathers in
    ahead-filled (λ before rest. IsFound Line line (front ++ before) rest) c.args.self.now.piece c.fill.new.self c.gather.new.piece _ _ c.in_ok-fill.ensures.ok.same
    (λ rest. found-line front c.fill.new.self rest line c.gather.new.piece c.in_ok-gather.ensures.part.feedless gathers)

pub returns-in-TooLong-clause-found : goal.returns-in-TooLong-clause-found
returns-in-TooLong-clause-found g c =
    let front = c.args.self.now.line.items in
    let line = c.gather.new.line.items in
    let gathers = rw c.in-TooLong.is at c.in_ok-gather.ensures.gathers in
    ahead-filled (λ before rest. IsFound TooLong line (front ++ before) rest) c.args.self.now.piece c.fill.new.self c.gather.new.piece _ _ c.in_ok-fill.ensures.ok.same
    (λ rest. found-long front c.fill.new.self rest line (c.gather.new.piece ++ rest) gathers)
