-- What a `Statement` stands for, and what is true of its fields.
use Rattle.std.specs.Prelude.{◌≡◌, ℕ, ◌^◌, ◌<◌, List, map, take, drop, None}
use Rattle.std.specs.List.{AllByRecursion}
use Rattle.rws_wire.specs.Numbers.{number_of}
use Rattle.rws_msgs.specs.ExecuteLayout.{HaveSize}
use Rattle.rws_handles.specs.declared.statement.Statement.TheInside.{Inside}
use Rattle.rws_handles.specs.Prepared.{LongData, Prepared, long_bytes}
use Rattle.rws_handles.specs.PlainForm.{long_data_bytes}

-- what a COM_STMT_SEND_LONG_DATA says, behind the statement's number
unfoldable pub piece_of : List ℕ → LongData
piece_of payload = record { parameter = number_of (take 2 (drop 5 payload)); bytes = drop 7 payload }

abbrev pub pieces_of : List (List ℕ) → List LongData
pieces_of payloads = map piece_of payloads

abbrev pub statement_view : Inside → Prepared
statement_view s = record {
  number = s.number;
  text = s.text;
  columns = s.columns;
  parameters = s.parameters;
  types = s.types;
  long_data = pieces_of s.long_data;
  closed = s.closed;
}

-- the long data stands as commands under the client's number, and is counted
pub record HoldsPieces (number bytes : ℕ) (payloads : List (List ℕ)) : Type 0 where
  pub commands : payloads ≡ map (long_data_bytes number) (pieces_of payloads)
  pub parameters : AllByRecursion (λ piece. piece.parameter < 2 ^ 16) (pieces_of payloads)
  pub counted : bytes ≡ long_bytes (pieces_of payloads)

pub record IsStatement (s : Inside) : Type 0 where
  pub types : HaveSize s.parameters s.types
  pub no_types : s.parameters ≡ 0 → s.types ≡ None
  pub pieces : HoldsPieces s.number s.long_bytes s.long_data
