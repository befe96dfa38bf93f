-- Before and in a session's turn.
use Rattle.std.specs.Prelude.{◌≡◌, ℕ, ◌<◌, ◌^◌, Bool, true, not, List, [], ◌∷◌, ◌++◌, map, Some, None, false}
use Rattle.std.specs.BTreeMap.{get}
use Rattle.std.specs.Ordering.{nat_cmp}
use Rattle.rws_board.specs.declared.event.Event.{Event}
use Rattle.rws_board.specs.declared.interaction.Interaction.{Interaction}
use Rattle.rws_board.specs.declared.interaction.Interaction.TheVariants.{Told}
use Rattle.rws_pool.specs.declared.events.PoolCall.TheVariants.{Route}
use Rattle.rws_config.specs.declared.config.Config.{Config}
use Rattle.rws_record.specs.Outputs.{done_as}
use Rattle.rws_record.specs.declared.output.Output.{Output}
use Rattle.rws_record.specs.Run.{Entry, IsRun, answer_of, hearer, last_clock, record_of, is_live, owner, last_link, greatest, step_of, unobserved, untold, events_of}
use Rattle.rws_record.specs.Values.{asking, contains, is_over, links}
use Rattle.rws_session.specs.Kept.{Kept}
use Rattle.rws_worker.specs.declared.worker.Worker.{Worker}
use Rattle.rws_worker.specs.Standing.{IsBehind, SeatStands, ToTell, holds, interactions_of}
use Rattle.rws_worker.specs.Stepping.{IsBare, from_of}
use Rattle.rws_worker.specs.Tallies.{seven, tally_but, tally_of}

-- Nobody is in turn, and all that came before is fetched. What is to be told next isn't said here.
pub record IsBetween (config : Config) (worker : Worker) (run : List Entry) : Type 0 where
  pub legal : IsRun config run
  pub steps_none : step_of config (hearer run) run ≡ None
  pub answers_none : answer_of config (hearer run) run ≡ None
  pub observed : unobserved config run ≡ None
  pub seats : (session : ℕ) → SeatStands config session false (get nat_cmp worker.sessions session) run
  pub fetched : (session : ℕ) (kept : Kept) → get nat_cmp worker.sessions session ≡ Some kept → kept.outs ≡ []
  pub owned : (link session : ℕ) → get nat_cmp worker.owners link ≡ Some session → owner link run ≡ Some session
  pub owns : (link session : ℕ) → owner link run ≡ Some session → holds link (record_of session run) ≡ true
      → get nat_cmp worker.owners link ≡ Some session
  pub links : worker.last_link ≡ last_link run
  pub numbers : worker.last_link < 2 ^ 64
  pub begun : worker.greatest ≡ greatest run
  pub clock : worker.now_ms ≡ last_clock run
  pub tallied : worker.tallies ≡ seven (λ server. tally_of run server)
  pub unspent : worker.spent ≡ false

-- what is told outside of a session that asks
abbrev pub asks_outside : (asks : Bool) → (session : ℕ) → List Interaction
asks_outside true session = Told (Route session) ∷ []
asks_outside false session = []

-- The session of this number is in turn, and gave this out since. All others stand as before it, and are counted without it. Where
-- it is `placed`, the worker knows of each link that it has that it is the owner.
pub record InTurn (config : Config) (done : List Interaction) (events : List Event) (session : ℕ) (worker : Worker) (placed : Bool)
    (now : List Entry) (outs : List Output) : Type 0 where
  pub legal : IsRun config now
  pub hears : hearer now ≡ Some session
  pub told : ToTell (from_of worker.telling) worker.now_ms now (untold config now)
  pub behind : IsBehind (from_of worker.telling) session
  pub observed : unobserved config now ≡ None
  pub live : is_live (record_of session now) ≡ not (is_over (record_of session now))
  pub others : (other : ℕ) → (session ≡ other → ⊥) → SeatStands config other false (get nat_cmp worker.sessions other) now
  pub fetched : (other : ℕ) (kept : Kept) → (session ≡ other → ⊥) → get nat_cmp worker.sessions other ≡ Some kept → kept.outs ≡ []
  pub owned : (link its : ℕ) → get nat_cmp worker.owners link ≡ Some its → owner link now ≡ Some its
  pub owns : (link its : ℕ) → (session ≡ its → ⊥) → owner link now ≡ Some its → holds link (record_of its now) ≡ true
      → get nat_cmp worker.owners link ≡ Some its
  pub owns_here : placed ≡ true → (link : ℕ) → owner link now ≡ Some session
      → contains link (links (record_of session now)) ≡ true → get nat_cmp worker.owners link ≡ Some session
  pub last : worker.last_link ≡ last_link now
  pub numbers : worker.last_link < 2 ^ 64
  pub begun : worker.greatest ≡ greatest now
  pub clock : worker.now_ms ≡ last_clock now
  pub tallied : worker.tallies ≡ seven (λ server. tally_but session now server)
  pub heard : events_of now ≡ events
  pub did : interactions_of now ≡ done ++ (map done_as outs ++ asks_outside (asking (record_of session now)) session)
  pub bare : IsBare worker
  pub unspent : worker.spent ≡ false
