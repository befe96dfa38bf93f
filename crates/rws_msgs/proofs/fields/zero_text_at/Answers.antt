use Rattle.std.proofs.Common.{◌≡◌, ℕ, ◌+◌, List, [], ◌∷◌, ◌++◌, get_or, take, drop, Ok, sym, ap, ◌∙◌}
use Rattle.std.proofs.lemmas.List.{drop_all, drop_more, take_all, take_more, take_rest}
use Rattle.rws_msgs.specs.Fields.{zero_text_at}
use Rattle.rws_msgs.proofs.FieldLemmas.{with_front, with_front_nil, zero_text_found, zero_text_goes_on, HasNoZero-append, HasNoZero-nil}
use Rattle.rws_msgs.proofs.fields.zero_text_at.Goals as goal

pub bytes-init : goal.bytes-init
bytes-init c = (with_front_nil (zero_text_at c.args.bytes.now), HasNoZero-nil)

pub returns-then-bytes-i-eq0-clause-reads : goal.returns-then-bytes-i-eq0-clause-reads
returns-then-bytes-i-eq0-clause-reads c =
    let bytes = c.args.bytes.now in
    let i = c.bytes.i in
    let e : drop i bytes ≡ 0 ∷ drop (i + 1) bytes = drop_more bytes i 0 c.bytes-test.true ∙ ap (λ (b : ℕ). b ∷ drop (i + 1) bytes) c.if-bytes-i-eq0.true in
    zero_text_found (take i bytes) (drop (i + 1) bytes) (zero_text_at bytes) (ap (λ (t : List ℕ). with_front (take i bytes) (zero_text_at t)) (sym e) ∙ c.bytes.invariant.0)
    ∙ ap (λ (t : List ℕ). Ok (take i bytes, t)) (sym (take_rest bytes (i + 1)))

pub bytes-preserved : goal.bytes-preserved
bytes-preserved c =
    let bytes = c.args.bytes.now in
    let i = c.bytes.i in
    let b : ℕ = get_or bytes i 0 in
    let more : take (i + 1) bytes ≡ take i bytes ++ b ∷ [] = take_more bytes i 0 c.bytes-test.true in
    let e : drop i bytes ≡ b ∷ drop (i + 1) bytes = drop_more bytes i 0 c.bytes-test.true in (
      rw more (zero_text_goes_on (take i bytes) (drop (i + 1) bytes) b (zero_text_at bytes) c.if-bytes-i-eq0.false
          (ap (λ (t : List ℕ). with_front (take i bytes) (zero_text_at t)) (sym e) ∙ c.bytes.invariant.0)),
      rw more (HasNoZero-append (take i bytes) b c.bytes.invariant.1 c.if-bytes-i-eq0.false),
    )

pub returns-clause-reads : goal.returns-clause-reads
unfolding zero_text_at
returns-clause-reads c =
    let bytes = c.args.bytes.now in
    sym c.bytes.invariant.0 ∙ ap (λ (t : List ℕ). with_front (take c.bytes.i bytes) (zero_text_at t)) (drop_all c.bytes.i bytes c.bytes-test.false)

pub returns-clause-all : goal.returns-clause-all
returns-clause-all c = rw (take_all c.bytes.i c.args.bytes.now c.bytes-test.false) at c.bytes.invariant.1
