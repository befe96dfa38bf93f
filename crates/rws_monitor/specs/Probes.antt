-- What a server is found to be by its replies to `SELECT @@server_id, @@gtid_current_pos` and `SHOW ALL SLAVES STATUS` ("SHOW REPLICA
-- STATUS", in MariaDB's documentation). Each reply is the list of its payloads.
use Rattle.std.specs.Prelude.{ℕ, ◌^◌, Bool, true, false, not, ◌&&◌, ◌||◌, List, [], ◌∷◌, length, codes, nat_lt, nat_eq, Option, Some, None, Result, Ok, Err, position, slice_get, if◌then◌else◌}
use Rattle.std.specs.Char.{is_ascii_digit}
use Rattle.std.specs.Cmp.Lexicographic.{pointwise}
use Rattle.std.specs.List.{list_all}
use Rattle.std.specs.Option.{option_and_then, option_map}
use Rattle.std.specs.Str.Parse.{digits_value}
use Rattle.rws_gtid.specs.declared.Gtid.{Gtid}
use Rattle.rws_gtid.specs.declared.GtidFault.{GtidFault}
use Rattle.rws_gtid.specs.Parsing.{position_in}
use Rattle.rws_msgs.specs.OkLayout.{ok_status}
use Rattle.rws_reply.specs.Payloads.{has_more_results}
use Rattle.rws_result.specs.declared.rows.Rows.{Rows}
use Rattle.rws_result.specs.Cells.{Payload, Cell}
use Rattle.rws_result.specs.ResultSets.{result_set}
use Rattle.rws_monitor.specs.declared.probe.Probe.{Probe}
use Rattle.rws_monitor.specs.declared.probe.Probe.TheVariants.{Down, Found}
use Rattle.rws_monitor.specs.declared.probe.Source.{Source}
use Rattle.rws_monitor.specs.declared.reading.Identity.{Identity}

-- a number below 2^32 in plain digits
abbrev pub number_of : List ℕ → Option ℕ
number_of text =
    if list_all is_ascii_digit text && (nat_lt 0 (length text) && nat_lt (digits_value 10 text) (2 ^ 32)) then Some (digits_value 10 text) else None

-- THE FIRST REPLY. The sequence of the domain in a list of GTIDs that can be read, 0 where the list lacks the domain
abbrev pub sequence_of : Result (Option Gtid) GtidFault → Option ℕ
sequence_of (Ok None) = Some 0
sequence_of (Ok (Some gtid)) = Some gtid.sequence
sequence_of (Err fault) = None

abbrev pub identity : Option ℕ → Option ℕ → Option Identity
identity (Some id) (Some sequence) = Some (record { server_id = id; position = sequence })
identity _ _ = None

-- one row of two columns: the server's id, and its position
abbrev pub identity_in : ℕ → List (List Cell) → Option Identity
identity_in domain ((Some id ∷ (Some list ∷ [])) ∷ []) = identity (number_of id) (sequence_of (position_in domain list))
identity_in domain _ = None

abbrev pub identity_told : ℕ → List Payload → Option Identity
identity_told domain reply = option_and_then (λ (read : Rows). identity_in domain read.rows) (result_set reply)

-- THE SECOND REPLY. The column of this name in a row; of several the first
abbrev pub column : List (List ℕ) → List Cell → List ℕ → Option Cell
column names row name = option_and_then (slice_get row) (position (λ other. pointwise nat_eq other name) names)

abbrev pub is_text : Cell → List ℕ → Bool
is_text None text = false
is_text (Some found) text = pointwise nat_eq found text

abbrev pub number_in : Cell → Option ℕ
number_in None = None
number_in (Some text) = number_of text

abbrev pub source_with : Option Cell → Option Cell → Option ℕ → Option Source
source_with (Some io) (Some sql) (Some id) = Some (record {
  io = is_text io (codes "Yes") || is_text io (codes "Connecting");
  sql = is_text sql (codes "Yes");
  primary_id = id;
})
source_with _ _ _ = None

-- a row without one of the three columns, or without a number as the source's id, can't be read
abbrev pub source_of : List (List ℕ) → List Cell → Option Source
source_of names row =
    source_with (column names row (codes "Slave_IO_Running")) (column names row (codes "Slave_SQL_Running"))
    (option_and_then number_in (column names row (codes "Master_Server_Id")))

-- the source that the first row tells, none where there is no row; nothing where the first row can't be read
abbrev pub source_in : List (List ℕ) → List (List Cell) → Option (Option Source)
source_in names [] = Some None
source_in names (row ∷ rows) = option_map (λ source. Some source) (source_of names row)

abbrev pub ends_reply : Option ℕ → Bool
ends_reply None = false
ends_reply (Some status) = not (has_more_results status)

-- one OK, behind which nothing is to come
abbrev pub is_lone_ok : List Payload → Bool
is_lone_ok (payload ∷ []) = ends_reply (ok_status true payload)
is_lone_ok _ = false

-- an OK has no rows
abbrev pub source_told : List Payload → Option (Option Source)
source_told reply =
    if is_lone_ok reply then Some None else option_and_then (λ (read : Rows). source_in read.names read.rows) (result_set reply)

-- BOTH. Down where one of them can't be read
abbrev pub found : Option Identity → Option (Option Source) → Probe
found (Some identity) (Some source) = Found identity.server_id identity.position source
found _ _ = Down

abbrev pub probe_of : ℕ → List Payload → List Payload → Probe
probe_of domain first second = found (identity_told domain first) (source_told second)
