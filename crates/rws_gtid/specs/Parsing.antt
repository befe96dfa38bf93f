-- What a text of a GTID, or of a list of them, is parsed as: from left to right, with the first fault that is met ("Global Transaction ID", in
-- MariaDB's documentation).
use Rattle.std.specs.Prelude.{◌≡◌, ℕ, ◌+◌, ◌^◌, ◌==◌, not, List, [], ◌∷◌, length, drop, Option, None, Result, Ok, Err, nat_le, Some, ◌-◌, if◌then◌else◌, find}
use Rattle.std.specs.List.{before_first, slice_split}
use Rattle.std.specs.Char.{is_ascii_digit}
use Rattle.std.specs.Str.Parse.{digits_value}
use Rattle.rws_wire.specs.Reading.{◌>>=◌}
use Rattle.rws_gtid.specs.declared.TheConstants.{ZERO, DASH, COMMA}
use Rattle.rws_gtid.specs.declared.Gtid.{Gtid}
use Rattle.rws_gtid.specs.declared.GtidFault.{GtidFault}
use Rattle.rws_gtid.specs.declared.GtidFault.TheVariants.{NotAGtid, TooBig}

-- the place in the whole text where the rest begins, and the rest
abbrev pub Rest : Type 0
Rest = ℕ × List ℕ

abbrev pub behind : ℕ → Rest → Rest
behind n rest = (rest.0 + n, drop n rest.1)

-- the digits of the number that stands at the front: no number begins with a 0 but 0 itself
abbrev pub digits_of : List ℕ → List ℕ
digits_of [] = []
digits_of (b ∷ bs) = if b == ZERO then b ∷ [] else before_first (λ c. not (is_ascii_digit c)) (b ∷ bs)

-- the number, where it is at most this
abbrev pub at_most : ℕ → ℕ → Option ℕ
at_most most n = if nat_le n most then Some n else None

-- the number at the front
unfoldable pub number_at : ℕ → Rest → Result (ℕ × Rest) GtidFault
number_at most rest =
    let digits = digits_of rest.1 in
    if length digits == 0 then Err (NotAGtid rest.0)
    else (if nat_le (digits_value 10 digits) most then Ok (digits_value 10 digits, behind (length digits) rest)
    else Err (TooBig rest.0))

-- the dash between two numbers
unfoldable pub dash_at : Rest → Result Rest GtidFault
dash_at (at, []) = Err (NotAGtid at)
dash_at (at, first ∷ bytes) = if first == DASH then Ok (at + 1, bytes) else Err (NotAGtid at)

-- the GTID that fills the text
unfoldable pub gtid_at : Rest → Result Gtid GtidFault
gtid_at text = do
  domain ← number_at (2 ^ 32 - 1) text
  first ← dash_at domain.1
  server ← number_at (2 ^ 32 - 1) first
  second ← dash_at server.1
  sequence ← number_at (2 ^ 64 - 1) second
  if length sequence.1.1 == 0
      then Ok (record { domain = domain.0; server = server.0; sequence = sequence.0 })
      else Err (NotAGtid sequence.1.0)

-- the first entry of a list is before its first comma, and the others are those of what is behind it
abbrev pub CutsAtComma : List ℕ → List ℕ → Option (List ℕ) → Type 0
CutsAtComma list entry None = slice_split (λ c. c == COMMA) list ≡ entry ∷ []
CutsAtComma list entry (Some others) = (slice_split (λ c. c == COMMA) list ≡ entry ∷ slice_split (λ c. c == COMMA) others) × (length list ≡ length entry + 1 + length others)

-- the GTIDs of the entries, each with a comma behind it but for the last
unfoldable pub entries_at : ℕ → List (List ℕ) → Result (List Gtid) GtidFault
entries_at at [] = Ok []
entries_at at (entry ∷ entries) = do
  gtid ← gtid_at (at, entry)
  others ← entries_at (at + length entry + 1) entries
  Ok (gtid ∷ others)

-- the GTIDs of a list; the empty text is the list without entries
unfoldable pub gtids_of : List ℕ → Result (List Gtid) GtidFault
gtids_of list = if length list == 0 then Ok [] else entries_at 0 (slice_split (λ c. c == COMMA) list)

-- the first entry of the domain
abbrev pub entry_of : ℕ → List Gtid → Option Gtid
entry_of domain gtids = find (λ gtid. gtid.domain == domain) gtids

-- the first entry of the domain in a list, all of which is to be read
unfoldable pub position_in : ℕ → List ℕ → Result (Option Gtid) GtidFault
position_in domain list = do
  gtids ← gtids_of list
  Ok (entry_of domain gtids)
