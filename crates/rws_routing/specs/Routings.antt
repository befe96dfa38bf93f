-- How far a command has come on its way to a server, and the steps by which that moves.
use Rattle.std.specs.Prelude.{ℕ, ◌+◌, ◌^◌, nat_lt, Bool, true, false, not, ◌&&◌, ◌==◌, Option, Some, None, bit_or, if◌then◌else◌}
use Rattle.rws_route.specs.declared.destination.Target.{Target}
use Rattle.rws_route.specs.declared.destination.Target.TheVariants.{Primary, Replica, NoPrimary}
use Rattle.rws_routing.specs.declared.routing.Check.{Check}
use Rattle.rws_routing.specs.declared.routing.Routing.{Routing}

-- a command that was just taken up
abbrev pub new_routing : Routing
new_routing = record { target = None; check = None; assigned = None; sent_back = false; tried = 0; waits = false; waits_from = None; retries = false }

-- It is routed

abbrev pub or_number : Option ℕ → ℕ → Option ℕ
or_number (Some number) other = Some number
or_number None other = Some other

-- the link to what was found: one that the session has, or the next one
abbrev pub link_for : Target → (link : Option ℕ) → (next : ℕ) → Option ℕ
link_for (Primary server) link next = or_number link next
link_for (Replica server) link next = or_number link next
link_for NoPrimary link next = None

abbrev pub is_nowhere : Target → Bool
is_nowhere NoPrimary = true
is_nowhere _ = false

-- the clock's reading when no primary was found first
abbrev pub from_by : (nowhere : Bool) → (reading : ℕ) → Option ℕ → Option ℕ
from_by true reading before = or_number before reading
from_by false reading before = before

abbrev pub routed : (found : Target) → (check : Option Check) → (link : Option ℕ) → (next reading : ℕ) → Routing → Routing
routed found check link next reading r = record {
  target = Some found;
  check = check;
  assigned = link_for found link next;
  sent_back = r.sent_back;
  tried = r.tried;
  waits = is_nowhere found;
  waits_from = from_by (is_nowhere found) reading r.waits_from;
  retries = false;
}

-- The clock shows something

-- a reading is so far behind the one that was kept
abbrev pub is_late : (wait : ℕ) → Option ℕ → (reading : ℕ) → Bool
is_late wait (Some kept) reading = not (nat_lt reading (kept + wait))
is_late wait None reading = false

-- A command that waits is routed once more, and tries all servers again, unless it waited too long.
abbrev pub ticked : (wait reading : ℕ) → Routing → Routing
ticked wait reading r = record r {
  tried = if (r.waits && not (is_late wait r.waits_from reading)) then 0 else r.tried;
  waits = false;
  retries = r.waits;
}

-- it is routed once more at a reading that is late
abbrev pub finds_late : (wait reading : ℕ) → Routing → Bool
finds_late wait reading r = r.retries && is_late wait r.waits_from reading

-- it was answered by the proxy: there is no primary, or that is behind
abbrev pub stopped : Routing → Routing
stopped r = record r { waits = false; check = None }

-- Its server is asked first

-- it has what the command is to see
abbrev pub cleared : Routing → Routing
cleared r = record r { check = None }

-- it hasn't: the command goes back to the primary, by a new route
abbrev pub turned_back : Routing → Routing
turned_back r = record r { check = None; assigned = None; sent_back = true }

-- A link is lost

-- a set of servers with one more of the seven that settings may name: bit k stands for server k
abbrev pub with_server : ℕ → ℕ → ℕ
with_server server set = if nat_lt server 7 then bit_or set (2 ^ server) else set

abbrev pub tried_by : Option Target → ℕ → ℕ
tried_by (Some (Primary server)) set = with_server server set
tried_by (Some (Replica server)) set = with_server server set
tried_by (Some NoPrimary) set = set
tried_by None set = set

abbrev pub is_at : ℕ → Option ℕ → Bool
is_at link (Some other) = other == link
is_at link None = false

-- one on which the command was to go: it isn't to go there any more, and its server counts as tried
abbrev pub lost : ℕ → Routing → Routing
lost link r = if is_at link r.assigned then record r { assigned = None; tried = tried_by r.target r.tried } else r

-- The target

-- the server that was found; 0 where there is none
abbrev pub server_in : Target → ℕ
server_in (Primary server) = server
server_in (Replica server) = server
server_in NoPrimary = 0

abbrev pub is_primary : Option Target → Bool
is_primary (Some (Primary server)) = true
is_primary _ = false

abbrev pub goes_to_primary : Routing → Bool
goes_to_primary r = is_primary r.target
