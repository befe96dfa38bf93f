use Rattle.std.proofs.Common.{◌≡◌, ℕ, ◌<◌, ◌==◌, List, [], ◌∷◌, length, None, refl, sym, arith}
use Rattle.std.proofs.lemmas.List.Splits.{length-slice_split}
use Rattle.rws_trace.specs.EventLine.{words_of, event_of_few}
use Rattle.rws_trace.specs.declared.settings.TraceSettings.{TraceSettings}
use Rattle.rws_trace.proofs.event_line.read_few.Goals as goal

-- four words and more say no event
more_words : (settings : TraceSettings) (keyword number word : List ℕ) (words : List (List ℕ)) → 0 < length words → event_of_few settings keyword (number ∷ word ∷ words) ≡ None
more_words settings keyword number word [] some = absurd (omega arith)
more_words settings keyword number word (more ∷ words) some = refl

pub returns-in-Some-split_at : goal.returns-in-Some-split_at
returns-in-Some-split_at c =
    let last = c.in-Some-split_at.field-0.1.now in
    let count = length-slice_split (λ byte. byte == 32) last in
    rw (c.in-Some.ensures.parts, c.in-Some-split_at.ensures.parts)
    (sym (more_words c.args.settings c.args.keyword.now c.in-Some.number.now c.in-Some-split_at.field-0.0.now (words_of last) (omega arith)))
