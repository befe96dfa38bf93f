-- The table of targets: where a command is sent that isn't pinned to a link.
use Rattle.std.specs.Prelude.{◌≡◌, ℕ, ◌^◌, Bool, true, false, not, ◌&&◌, ◌==◌, List, map, Option, Some, None, position, bit_and, if◌then◌else◌, slice_index_or, MatchBool}
use Rattle.std.specs.List.{range_with_len}
use Rattle.rws_class.specs.declared.class.Class.{Class}
use Rattle.rws_class.specs.declared.class.Class.TheVariants.{Read, BeginReadOnly}
use Rattle.rws_pool.specs.declared.words.State.{State}
use Rattle.rws_pool.specs.declared.words.State.TheVariants.{Slave, Master}
use Rattle.rws_pool.specs.declared.words.Seen.{Seen}
use Rattle.rws_pool.specs.declared.words.PoolWords.{PoolWords}
use Rattle.rws_pool.specs.Machine.{down}
use Rattle.rws_select.specs.declared.selector.Load.{Load}
use Rattle.rws_select.specs.Choice.{HasNone, IsChoice, choice_of}
use Rattle.rws_route.specs.declared.destination.Target.{Target}
use Rattle.rws_route.specs.declared.destination.Target.TheVariants.{Primary, Replica, NoPrimary}

-- bit k of a set stands for the server at index k
abbrev pub is_in : ℕ → ℕ → Bool
is_in set place = not (bit_and set (2 ^ place) == 0)

abbrev pub is_slave : State → Bool
is_slave Slave = true
is_slave _ = false

abbrev pub is_master : State → Bool
is_master Master = true
is_master _ = false

abbrev pub only_reads : Class → Bool
only_reads Read = true
only_reads BeginReadOnly = true
only_reads _ = false

-- a read with autocommit on that no causal wait sent back
abbrev pub may_leave_primary : Class → Bool → Bool → Bool
may_leave_primary class autocommit sent_back = only_reads class && (autocommit && not sent_back)

abbrev pub idle : Load
idle = record { pending = 0; links = 0 }

-- the load of the server at this index, where it is a replica that is neither tried nor banned
abbrev pub candidate_at : List Seen → List Load → ℕ → ℕ → ℕ → Option Load
candidate_at servers loads tried banned place =
    if is_slave ((slice_index_or servers place down).state) && (not (is_in tried place) && not (is_in banned place)) then Some (slice_index_or loads place idle) else None

abbrev pub candidates_of : List Seen → List Load → ℕ → ℕ → List (Option Load)
candidates_of servers loads tried banned = map (candidate_at servers loads tried banned) (range_with_len 0 7)

-- the server of lowest index whose state is Master
abbrev pub primary_of : List Seen → Option ℕ
primary_of servers = position (λ (seen : Seen). is_master seen.state) servers

abbrev pub unless_tried : ℕ → Option ℕ → Target
unless_tried tried None = NoPrimary
unless_tried tried (Some place) = if is_in tried place then NoPrimary else Primary place

-- the row of the primary: there may be none, or it was tried
abbrev pub primary_target : List Seen → ℕ → Target
primary_target servers tried = unless_tried tried (primary_of servers)

-- the row of the replicas: the choice among the candidates; the primary where there is none
abbrev pub IsReadTarget : List (Option Load) → Target → Target → Type 0
IsReadTarget candidates instead (Replica place) = IsChoice candidates place
IsReadTarget candidates instead other = HasNone candidates × (other ≡ instead)

-- the table
abbrev pub IsTarget : Class → Bool → Bool → PoolWords → List Load → ℕ → ℕ → Target → Type 0
IsTarget class autocommit sent_back words loads tried banned target =
    MatchBool (may_leave_primary class autocommit sent_back)
    (IsReadTarget (candidates_of words.servers loads tried banned) (primary_target words.servers tried) target)
    (target ≡ primary_target words.servers tried)

-- the row of the replicas as a function
abbrev pub read_target : Option ℕ → Target → Target
read_target None instead = instead
read_target (Some place) instead = Replica place

-- the same table as a function
abbrev pub target_of : Class → Bool → Bool → PoolWords → List Load → ℕ → ℕ → Target
target_of class autocommit sent_back words loads tried banned =
    if may_leave_primary class autocommit sent_back
    then read_target (choice_of (candidates_of words.servers loads tried banned)) (primary_target words.servers tried)
    else primary_target words.servers tried
