-- What is found in a table of links.
use Rattle.std.specs.Prelude.{ℕ, Bool, true, false, ◌==◌, ◌&&◌, List, [], ◌∷◌, Option, Some, None, if◌then◌else◌}
use Rattle.rws_link.specs.Linking.{Linking, Ready, is_awaiting}
use Rattle.rws_routing.specs.Routings.{is_at}
use Rattle.rws_commands.specs.Statements.{is_behind}
use Rattle.rws_links.specs.declared.finding.Due.{Due}
use Rattle.rws_links.specs.declared.finding.DueKind.{DueKind}
use Rattle.rws_links.specs.declared.finding.DueKind.TheVariants.{Preamble, Entry as AnEntry, Command as ACommand}
use Rattle.rws_links.specs.declared.numbered.NumberedLink.{NumberedLink}

abbrev pub leads_to : ℕ → NumberedLink → Bool
leads_to server link = link.server == server

-- and a reply is awaited on it
abbrev pub owes_to : ℕ → NumberedLink → Bool
owes_to server link = leads_to server link && is_awaiting link.link

-- the number of the first link to a server
abbrev pub first_to : (server : ℕ) → List NumberedLink → Option ℕ
first_to server [] = None
first_to server (link ∷ others) = if leads_to server link then Some link.number else first_to server others

-- it is logged in, and owes no reply
abbrev pub is_open : Linking → Bool
is_open (Ready unread) = true
is_open _ = false

-- The preamble is due on an open link that isn't prepared; on one that is, the next entry of the history that it has to play, and
-- where it has played all a command that waits for it.
abbrev pub due_by : (is_open up plays goes : Bool) → Option DueKind
due_by true false plays goes = Some Preamble
due_by true true true goes = Some AnEntry
due_by true true false true = Some ACommand
due_by _ _ _ _ = None

-- `goes` is the link that a command waits for, and `last` the serial of the history's last entry
abbrev pub due_on : (goes last : Option ℕ) → NumberedLink → Option DueKind
due_on goes last link = due_by (is_open link.link) link.is_up (is_behind last link.cursor) (is_at link.number goes)

abbrev pub or_behind : Option DueKind → (link entry : ℕ) → Option Due → Option Due
or_behind (Some what) link entry behind = Some (record { link = link; what = what; entry = entry })
or_behind None link entry behind = behind

-- the first link on which something is due
abbrev pub first_due : (goes last : Option ℕ) → List NumberedLink → Option Due
first_due goes last [] = None
first_due goes last (link ∷ others) = or_behind (due_on goes last link) link.number link.cursor (first_due goes last others)
