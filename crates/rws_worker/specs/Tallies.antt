-- What a worker has open to each server, as sums over its sessions.
use Rattle.std.specs.Prelude.{ℕ, ◌+◌, ◌-◌, ◌<◌, ◌^◌, ◌==◌, List, [], ◌∷◌, length, map, if◌then◌else◌}
use Rattle.rws_record.specs.Item.{Item}
use Rattle.rws_record.specs.Run.{Entry, capped, begun, is_live, links_to, open_sessions, pending_to, record_of, sum}
use Rattle.rws_select.specs.declared.selector.Load.{Load}
use Rattle.rws_worker.specs.declared.tally.Tally.{Tally}

-- one for each server
abbrev pub seven : {A : Type 0} → (ℕ → A) → List A
seven f = f 0 ∷ f 1 ∷ f 2 ∷ f 3 ∷ f 4 ∷ f 5 ∷ f 6 ∷ []

abbrev pub plus : Tally → Tally → Tally
plus a b = record { pending = a.pending + b.pending; links = a.links + b.links }

abbrev pub minus : Tally → Tally → Tally
minus a b = record { pending = a.pending - b.pending; links = a.links - b.links }

-- both counts can be kept
pub record Fits (tally : Tally) : Type 0 where
  pub pending : tally.pending < 2 ^ 64
  pub links : tally.links < 2 ^ 64

abbrev pub load_by : Tally → Load
load_by tally = record { pending = capped tally.pending; links = capped tally.links }

-- what one session has to a server
abbrev pub pending_at : (server : ℕ) → List Item → ℕ
pending_at server past = length (pending_to server past)

abbrev pub links_at : (server : ℕ) → List Item → ℕ
links_at server past = length (links_to server past)

abbrev pub tally_in : List Item → (server : ℕ) → Tally
tally_in past server = record { pending = pending_at server past; links = links_at server past }

-- what all that are open have
abbrev pub summed : (List Item → ℕ) → List Entry → ℕ
summed count run = sum (map (λ session. count (record_of session run)) (open_sessions run))

abbrev pub tally_of : List Entry → (server : ℕ) → Tally
tally_of run server = record { pending = summed (pending_at server) run; links = summed (links_at server) run }

-- and without one of them: one that is over has nothing open
abbrev pub weight : (List Item → ℕ) → List Item → ℕ
weight count past = if is_live past then count past else 0

abbrev pub summed_but : (List Item → ℕ) → (session : ℕ) → List ℕ → List Entry → ℕ
summed_but count session [] run = 0
summed_but count session (other ∷ others) run =
    (if session == other then 0 else weight count (record_of other run)) + summed_but count session others run

abbrev pub tally_but : (session : ℕ) → List Entry → (server : ℕ) → Tally
tally_but session run server = record {
  pending = summed_but (pending_at server) session (begun run) run;
  links = summed_but (links_at server) session (begun run) run;
}
