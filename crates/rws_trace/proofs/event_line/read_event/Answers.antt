use Rattle.std.proofs.Common.{rules, ◌≡◌, ℕ, ◌<◌, ◌==◌, true, List, [], ◌∷◌, length, option_map, codes, bytes_eq, sym, ◌∙◌, ap, subst, arith}
use Rattle.std.proofs.lemmas.List.Splits.{length-slice_split}
use Rattle.rws_board.specs.declared.event.Event.TheVariants.{Observed}
use Rattle.rws_trace.specs.EventLine.{words_of, event_of, round_of}
use Rattle.rws_trace.specs.declared.settings.TraceSettings.{TraceSettings}
use Rattle.rws_trace.proofs.event_line.read_event.Goals as goal

event_of-observe : (settings : TraceSettings) (keyword : List ℕ) (words : List (List ℕ)) → 0 < length words → bytes_eq keyword (codes "observe") ≡ true
    → event_of settings (keyword ∷ words) ≡ option_map Observed (round_of settings.servers words)
event_of-observe settings keyword [] some is = absurd (omega arith)
event_of-observe settings keyword (word ∷ words) some is = rw is

pub returns-then-eq : goal.returns-then-eq
returns-then-eq c =
    let rest = c.in-Some.rest.now in
    let count = length-slice_split (λ byte. byte == 32) rest in
    let is : bytes_eq c.in-Some.keyword.now (codes "observe") ≡ true = search (rules, c.eq.ensures, c.as_slice.ensures, c.if-eq.true) in
    rw c.in-Some.ensures.parts
    (c.read_observe.ensures ∙ sym (event_of-observe c.args.settings c.in-Some.keyword.now (words_of rest) (omega arith) is))
