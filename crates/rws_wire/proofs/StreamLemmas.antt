-- A stream's payloads, read one after the other.
use Rattle.std.proofs.Common.{◌≡◌, ℕ, List, [], ◌∷◌, ◌++◌, length, drop, refl, sym, ap, subst, ◌∙◌}
use Rattle.std.proofs.lemmas.List.{drop_at}
use Rattle.std.proofs.lemmas.List.Elements.{All-nil, All-cons, All-head, All-tail}
use Rattle.std.specs.Prelude.{All}
use Rattle.rws_wire.specs.Numbers.{AreBytes}
use Rattle.rws_wire.specs.Packets.{spelling, number_behind}
use Rattle.rws_wire.specs.Payloads.{first_payload}
use Rattle.rws_wire.specs.Streams.{stream_bytes, IsWithin, ReadsNone, SpellsNone, IsStream, ends, goes_on, StreamsAreRead, StreamsAreKept}
use Rattle.rws_wire.proofs.NumberLemmas.{AreBytes-drop}
use Rattle.rws_wire.proofs.PayloadLemmas.{first_payload-spelling, first_payload_spelled, first_payload-Whole-append}

behind_fit : (front bytes behind : List ℕ) → bytes ≡ front ++ behind → AreBytes bytes → AreBytes behind
behind_fit front bytes behind is fit =
    subst AreBytes (ap (drop (length front)) is ∙ drop_at front behind (length front) refl) (AreBytes-drop (length front) bytes fit)

-- what isn't read isn't spelled
none_spelled : (limit due : ℕ) (rest : List ℕ) → ReadsNone limit due rest → SpellsNone limit due rest
none_spelled limit due rest none payload more within is =
    none payload (number_behind due payload) more
    (ap (first_payload limit due) is ∙ first_payload-spelling limit due payload more within)

none_read : (limit due : ℕ) (rest : List ℕ) → AreBytes rest → SpellsNone limit due rest → ReadsNone limit due rest
none_read limit due rest fit none payload next more e =
    let read = first_payload_spelled limit due rest payload next more fit e in
    none payload more read.within read.spelled

-- what is read is spelled so
reads_spelled : (limit due : ℕ) (bytes : List ℕ) (payloads : List (ℕ × List ℕ)) (rest : List ℕ) → AreBytes bytes → IsStream limit due bytes payloads rest
    → (bytes ≡ stream_bytes payloads rest) × All (IsWithin limit) payloads × SpellsNone limit due rest
reads_spelled limit due bytes payloads rest fit (ends left none) = (refl, All-nil (IsWithin limit), none_spelled limit due left none)
reads_spelled limit due bytes payloads rest fit (goes_on first payload held behind others left e more) =
    let read = first_payload_spelled limit first held payload (number_behind first payload) behind fit e in
    let further = reads_spelled limit due behind others left (behind_fit (spelling first payload) held behind read.spelled fit) more in (
      read.spelled ∙ ap (λ (t : List ℕ). spelling first payload ++ t) further.0,
      All-cons (IsWithin limit) (first, payload) others read.within further.1,
      further.2,
    )

-- what is spelled is read so
spelled_reads : (limit due : ℕ) (payloads : List (ℕ × List ℕ)) (rest : List ℕ) → All (IsWithin limit) payloads → AreBytes (stream_bytes payloads rest)
    → SpellsNone limit due rest → IsStream limit due (stream_bytes payloads rest) payloads rest
spelled_reads limit due [] rest within fit none = ends rest (none_read limit due rest fit none)
spelled_reads limit due (one ∷ others) rest within fit none =
    let behind : List ℕ = stream_bytes others rest in
    goes_on one.0 one.1 (spelling one.0 one.1 ++ behind) behind others rest
    (first_payload-spelling limit one.0 one.1 behind (All-head (IsWithin limit) one others within))
    (spelled_reads limit due others rest (All-tail (IsWithin limit) one others within)
    (behind_fit (spelling one.0 one.1) (spelling one.0 one.1 ++ behind) behind refl fit) none)

pub streams_are_read : StreamsAreRead
streams_are_read limit due bytes payloads rest fit = (
  λ reads. reads_spelled limit due bytes payloads rest fit reads,
  λ is.
      subst (λ (t : List ℕ). IsStream limit due t payloads rest) (sym is.0)
      (spelled_reads limit due payloads rest is.1 (subst AreBytes is.0 fit) is.2),
)

pub streams_are_kept : StreamsAreKept
streams_are_kept limit due then bytes more payloads others rest left (ends end none) behind = behind
streams_are_kept limit due then bytes more payloads others rest left (goes_on first payload held behind later end e further) next =
    goes_on first payload (held ++ more) (behind ++ more) (later ++ others) left
    (first_payload-Whole-append limit first held more payload (number_behind first payload) behind e)
    (streams_are_kept limit due then behind more later others end left further next)
