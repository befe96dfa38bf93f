-- The texts of a GTID and of a list of GTIDs, as MariaDB writes them ("Global Transaction ID", in its documentation).
use Rattle.std.specs.Prelude.{ℕ, ◌<◌, ◌^◌, List, ◌∷◌, ◌++◌, map, codes}
use Rattle.std.specs.List.{AllByRecursion, join_with_byte}
use Rattle.std.specs.Fmt.{decimal}
use Rattle.rws_gtid.specs.declared.TheConstants.{DASH, COMMA}
use Rattle.rws_gtid.specs.declared.Gtid.{Gtid}

-- what the fields hold
pub record IsInRange (gtid : Gtid) : Type 0 where
  pub domain : gtid.domain < 2 ^ 32
  pub server : gtid.server < 2 ^ 32
  pub sequence : gtid.sequence < 2 ^ 64

-- three decimal numbers, parted by dashes
abbrev pub gtid_text : Gtid → List ℕ
gtid_text gtid = decimal gtid.domain ++ (DASH ∷ (decimal gtid.server ++ (DASH ∷ decimal gtid.sequence)))

-- the fields of each entry hold it
abbrev pub AreInRange : List Gtid → Type 0
AreInRange gtids = AllByRecursion IsInRange gtids

-- the texts of the entries, parted by commas
abbrev pub list_text : List Gtid → List ℕ
list_text gtids = join_with_byte COMMA (map gtid_text gtids)

-- the statement that waits until a server's position reaches the GTID, or that many seconds
abbrev pub wait_statement : Gtid → ℕ → List ℕ
wait_statement gtid seconds = codes "SELECT MASTER_GTID_WAIT('" ++ (gtid_text gtid ++ (codes "', " ++ (decimal seconds ++ codes ")")))
