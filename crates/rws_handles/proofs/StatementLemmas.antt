-- Long data that is kept as commands, and types that are stored.
use Rattle.std.proofs.Common.{◌≡◌, ℕ, ◌+◌, ◌^◌, ◌<◌, List, [], ◌∷◌, ◌++◌, length, map, Option, Some, None, refl, ap, ◌∙◌, arith}
use Rattle.std.specs.List.{AllByRecursion}
use Rattle.rws_wire.proofs.NumberLemmas.{number_of-bytes_of}
use Rattle.rws_msgs.specs.ExecuteLayout.{HaveSize}
use Rattle.rws_handles.specs.declared.statement.Statement.TheInside.{Inside}
use Rattle.rws_handles.specs.Prepared.{LongData, long_bytes, with_long_data}
use Rattle.rws_handles.specs.PlainForm.{long_data_bytes, or_last}
use Rattle.rws_handles.specs.StatementView.{HoldsPieces, piece_of, pieces_of, statement_view}

-- what a command says is what it was made of
pub piece_again : (number : ℕ) (piece : LongData) → piece.parameter < 2 ^ 16 → piece_of (long_data_bytes number piece) ≡ piece
unfolding piece_of long_data_bytes
piece_again number piece fits = ap (λ (n : ℕ). record { parameter = n; bytes = piece.bytes }) (number_of-bytes_of 2 piece.parameter fits)

-- one command more is one piece more
pub one_more : (number : ℕ) (payloads : List (List ℕ)) (piece : LongData) → piece.parameter < 2 ^ 16
    → pieces_of (payloads ++ long_data_bytes number piece ∷ []) ≡ pieces_of payloads ++ piece ∷ []
one_more number [] piece fits = ap (λ (p : LongData). p ∷ []) (piece_again number piece fits)
one_more number (payload ∷ payloads) piece fits = ap (λ (ps : List LongData). piece_of payload ∷ ps) (one_more number payloads piece fits)

commands-append : (number : ℕ) (pieces : List LongData) (piece : LongData) → map (long_data_bytes number) (pieces ++ piece ∷ []) ≡ map (long_data_bytes number) pieces ++ long_data_bytes number piece ∷ []
commands-append number [] piece = refl
commands-append number (first ∷ pieces) piece = ap (λ (ps : List (List ℕ)). long_data_bytes number first ∷ ps) (commands-append number pieces piece)

all-append : (P : LongData → Type 0) (pieces : List LongData) (piece : LongData) → AllByRecursion P pieces → P piece → AllByRecursion P (pieces ++ piece ∷ [])
all-append P [] piece all one = (one, tt)
all-append P (first ∷ pieces) piece all one = (all.0, all-append P pieces piece all.1 one)

bytes-append : (pieces : List LongData) (piece : LongData) → long_bytes (pieces ++ piece ∷ []) ≡ long_bytes pieces + length piece.bytes
bytes-append [] piece = omega arith
bytes-append (first ∷ pieces) piece = omega (arith, bytes-append pieces piece)

pub holds_more : (number bytes total : ℕ) (payloads : List (List ℕ)) (piece : LongData) → HoldsPieces number bytes payloads → piece.parameter < 2 ^ 16 → total ≡ bytes + length piece.bytes
    → HoldsPieces number total (payloads ++ long_data_bytes number piece ∷ [])
holds_more number bytes total payloads piece holds fits sum =
    let more = one_more number payloads piece fits in
    record {
      commands = rw (more, commands-append number (pieces_of payloads) piece) (ap (λ (ps : List (List ℕ)). ps ++ long_data_bytes number piece ∷ []) holds.commands);
      parameters = rw more (all-append (λ p. p.parameter < 2 ^ 16) (pieces_of payloads) piece holds.parameters fits);
      counted = rw (more, bytes-append (pieces_of payloads) piece) (sum ∙ ap (λ (n : ℕ). n + length piece.bytes) holds.counted);
    }

pub holds_nothing : (number : ℕ) → HoldsPieces number 0 []
holds_nothing number = record { commands = refl; parameters = tt; counted = refl }

-- the types that stay after an execute
pub types_stay : (parameters : ℕ) (given last : Option (List ℕ)) → HaveSize parameters given → HaveSize parameters last → HaveSize parameters (or_last given last)
types_stay parameters None last new old = old
types_stay parameters (Some types) last new old = new

pub no_types_stay : (parameters : ℕ) (given last : Option (List ℕ)) → (parameters ≡ 0 → given ≡ None) → (parameters ≡ 0 → last ≡ None) → parameters ≡ 0 → or_last given last ≡ None
no_types_stay parameters None last new old none = old none
no_types_stay parameters (Some types) last new old none = absurd (cc (new none))

pub view_more : (s : Inside) (piece : LongData) (total : ℕ) → piece.parameter < 2 ^ 16
    → statement_view (record s { long_data = s.long_data ++ long_data_bytes s.number piece ∷ []; long_bytes = total }) ≡ with_long_data (statement_view s) piece
view_more s piece total fits = ap (λ (pieces : List LongData). record (statement_view s) { long_data = pieces }) (one_more s.number s.long_data piece fits)
