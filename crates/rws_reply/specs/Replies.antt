-- The whole replies to a command of each kind, and how they end, as lists of payloads ("Result Set Packets", "COM_STMT_PREPARE" and
-- "COM_FIELD_LIST" of MariaDB's protocol documentation), on a link with CLIENT_PROTOCOL_41 and CLIENT_SESSION_TRACK and
-- without CLIENT_DEPRECATE_EOF. So an OK is read with tracking; for a status without 0x4000 its layout is the same without
-- CLIENT_SESSION_TRACK.
use Rattle.std.specs.Prelude.{◌≡◌, ℕ, ◌<◌, true, false, List, [], ◌∷◌, ◌++◌, length, Some}
use Rattle.std.specs.List.{AllByRecursion}
use Rattle.rws_msgs.specs.OkLayout.{ok_status}
use Rattle.rws_msgs.specs.ErrLayout.{err_code}
use Rattle.rws_reply.specs.declared.kind.Kind.{Kind}
use Rattle.rws_reply.specs.declared.kind.Kind.TheVariants.{Simple, Query, Prepare, FieldList}
use Rattle.rws_reply.specs.declared.kind.Outcome.{Outcome}
use Rattle.rws_reply.specs.declared.kind.Outcome.TheVariants.{Done, Failed}
use Rattle.rws_reply.specs.Payloads.{has_more_results, eof_status, column_count, is_definition, is_row, prepared_counts}

abbrev pub Payload : Type 0
Payload = List ℕ

abbrev pub AreDefinitions : List Payload → Type 0
AreDefinitions payloads = AllByRecursion (λ payload. is_definition payload ≡ true) payloads

abbrev pub AreRows : List Payload → Type 0
AreRows payloads = AllByRecursion (λ payload. is_row payload ≡ true) payloads

-- what stands before the rows of a result: the number of its columns, that many definitions, and an EOF
pub data IsHead : List Payload → Type 0 where
  head : (count : Payload) (definitions : List Payload) (eof : Payload) {status : ℕ}
      → column_count count ≡ Some (length definitions) → AreDefinitions definitions → eof_status eof ≡ Some status
      → IsHead (count ∷ (definitions ++ (eof ∷ [])))

-- one OK, or one ERR
pub data IsSimple : List Payload → Outcome → Type 0 where
  ok : {p : Payload} {status : ℕ} → ok_status true p ≡ Some status → IsSimple (p ∷ []) (Done status)
  err : {p : Payload} {code : ℕ} → err_code p ≡ Some code → IsSimple (p ∷ []) (Failed code)

-- OKs and results, each but the last with the bit of more results; an ERR may stand in place of the last, or end it
pub data IsQuery : List Payload → Outcome → Type 0 where
  ok : {p : Payload} {status : ℕ}
      → ok_status true p ≡ Some status → has_more_results status ≡ false
      → IsQuery (p ∷ []) (Done status)
  ok_more : {p : Payload} {status : ℕ} {others : List Payload} {out : Outcome}
      → ok_status true p ≡ Some status → has_more_results status ≡ true → IsQuery others out
      → IsQuery (p ∷ others) out
  err : {p : Payload} {code : ℕ} → err_code p ≡ Some code → IsQuery (p ∷ []) (Failed code)
  rows : (front rs : List Payload) (p : Payload) {status : ℕ}
      → IsHead front → AreRows rs → eof_status p ≡ Some status → has_more_results status ≡ false
      → IsQuery (front ++ (rs ++ (p ∷ []))) (Done status)
  rows_more : (front rs : List Payload) (p : Payload) (others : List Payload) {status : ℕ} {out : Outcome}
      → IsHead front → AreRows rs → eof_status p ≡ Some status → has_more_results status ≡ true → IsQuery others out
      → IsQuery (front ++ (rs ++ (p ∷ others))) out
  rows_err : (front rs : List Payload) (p : Payload) {code : ℕ}
      → IsHead front → AreRows rs → err_code p ≡ Some code
      → IsQuery (front ++ (rs ++ (p ∷ []))) (Failed code)

-- so many definitions and an EOF, or nothing where there are none; the status before and after them
pub data IsPart : ℕ → List Payload → ℕ → ℕ → Type 0 where
  none : {status : ℕ} → IsPart 0 [] status status
  some : (definitions : List Payload) (eof : Payload) {from to : ℕ}
      → 0 < length definitions → AreDefinitions definitions → eof_status eof ≡ Some to
      → IsPart (length definitions) (definitions ++ (eof ∷ [])) from to

-- the status SERVER_STATUS_AUTOCOMMIT alone
abbrev pub autocommit : ℕ
autocommit = 0x0002

-- an ERR, or a PrepareOk, the definitions of its parameters and those of its columns. No status is sent where there are
-- none of either: then it is that of autocommit.
pub data IsPrepare : List Payload → Outcome → Type 0 where
  err : {p : Payload} {code : ℕ} → err_code p ≡ Some code → IsPrepare (p ∷ []) (Failed code)
  prepared : (p : Payload) (parameters columns : List Payload) {counts : ℕ × ℕ} {between last : ℕ}
      → prepared_counts p ≡ Some counts
      → IsPart counts.1 parameters autocommit between → IsPart counts.0 columns between last
      → IsPrepare (p ∷ (parameters ++ columns)) (Done last)

-- an ERR, or definitions and an EOF
pub data IsFieldList : List Payload → Outcome → Type 0 where
  err : {p : Payload} {code : ℕ} → err_code p ≡ Some code → IsFieldList (p ∷ []) (Failed code)
  fields : (definitions : List Payload) (p : Payload) {status : ℕ}
      → AreDefinitions definitions → eof_status p ≡ Some status
      → IsFieldList (definitions ++ (p ∷ [])) (Done status)

abbrev pub IsReply : Kind → List Payload → Outcome → Type 0
IsReply Simple = IsSimple
IsReply Query = IsQuery
IsReply Prepare = IsPrepare
IsReply FieldList = IsFieldList

-- some whole reply begins with these payloads and has more
abbrev pub Begins : Kind → List Payload → Type 0
Begins kind payloads =
    (next : Payload) × (others : List Payload) × (out : Outcome) × IsReply kind (payloads ++ (next ∷ others)) out
