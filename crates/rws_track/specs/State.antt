-- The session state that an OK reports ("OK_Packet", session state information): entries of a type byte and
-- length-encoded data. The data of type 0 is system variables, each a length-encoded name and value.
use Rattle.std.specs.Prelude.{◌≡◌, ◌==◌, ℕ, zero, suc, List, [], ◌∷◌, ◌++◌, Option, Some, None, Ok, option_and_then, codes, nat_eq, if◌then◌else◌}
use Rattle.std.specs.Option.{option_or}
use Rattle.std.specs.Result.{result_ok}
use Rattle.std.specs.Cmp.Lexicographic.{pointwise}
use Rattle.rws_msgs.specs.Fields.{text_at}
use Rattle.rws_gtid.specs.declared.Gtid.{Gtid}
use Rattle.rws_gtid.specs.Parsing.{gtid_at}

-- a system variable: its name and its value
abbrev pub Variable : Type 0
Variable = List ℕ × List ℕ

-- the data of an entry is these variables
pub data AreVariables : List ℕ → List Variable → Type 0 where
  none : AreVariables [] []
  more : (bytes name behind value rest : List ℕ) {variables : List Variable} → text_at bytes ≡ Ok (name, behind) → text_at behind ≡ Ok (value, rest) → AreVariables rest variables → AreVariables bytes ((name, value) ∷ variables)

-- an entry of this type and with this data shows these variables; one of another type than 0 shows none
abbrev pub EntryShows : ℕ → List ℕ → List Variable → Type 0
EntryShows zero bytes shown = AreVariables bytes shown
EntryShows (suc _) bytes shown = shown ≡ []

-- a state shows these variables, in the order of its entries
pub data Shows : List ℕ → List Variable → Type 0 where
  none : Shows [] []
  entry : (kind : ℕ) (bytes inner rest : List ℕ) (shown : List Variable) {others : List Variable} → text_at bytes ≡ Ok (inner, rest) → EntryShows kind inner shown → Shows rest others → Shows (kind ∷ bytes) (shown ++ others)

-- the GTID of the domain that a variable names
abbrev pub gtid_in : ℕ → Variable → Option Gtid
gtid_in domain (name, value) = if pointwise nat_eq name (codes "last_gtid") then option_and_then (λ gtid. if gtid.domain == domain then Some gtid else None) (result_ok (gtid_at (0, value))) else None

-- the last GTID of the domain
abbrev pub last_gtid : ℕ → List Variable → Option Gtid
last_gtid domain [] = None
last_gtid domain (one ∷ others) = option_or (last_gtid domain others) (gtid_in domain one)
