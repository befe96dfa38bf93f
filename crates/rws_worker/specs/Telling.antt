-- What a worker does with a session: it makes one, gives it a turn, and answers it.
use Rattle.std.specs.Prelude.{◌≡◌, ℕ, ◌<◌, ◌^◌, Bool, true, false, List, [], ◌∷◌, Option, Some, None, Result, Ok, Err, if◌then◌else◌}
use Rattle.std.specs.BTreeMap.{BTreeMap, get}
use Rattle.std.specs.Ordering.{nat_cmp}
use Rattle.std.specs.BTreeMap.Range.{IsFromStart}
use Rattle.std.specs.declared.ops.Bound.{Bound}
use Rattle.rws_board.specs.declared.event.Event.{Event}
use Rattle.rws_pool.specs.declared.words.PoolWords.{PoolWords}
use Rattle.rws_select.specs.declared.selector.Load.{Load}
use Rattle.rws_config.specs.declared.config.Config.{Config}
use Rattle.rws_record.specs.Item.{Item}
use Rattle.rws_record.specs.Record.{IsBeginning}
use Rattle.rws_record.specs.Values.{opens}
use Rattle.rws_record.specs.Run.{Entry, begun_by, greatest, reading_by, round_of, told_by, untold}
use Rattle.rws_session.specs.Kept.{Asking, Holds, Is, Kept, Starts}
use Rattle.rws_session.specs.Turning.{Answers, BreaksOff, Settles, answer_to}
use Rattle.rws_worker.specs.declared.ahead.Ahead.TheVariants.{Going}
use Rattle.rws_worker.specs.declared.asker.Asker.TheVariants as askers
use Rattle.rws_worker.specs.declared.asker.Telling.{Telling}
use Rattle.rws_worker.specs.declared.asker.Telling.TheVariants.{All, Above}
use Rattle.rws_worker.specs.declared.tally.Tally.{Tally}
use Rattle.rws_worker.specs.declared.worker.Worker.{Worker}
use Rattle.rws_worker.specs.declared.worker.telling.TurnEnd.{TurnEnd}
use Rattle.rws_worker.specs.declared.worker.telling.TurnEnd.TheVariants as ends
use Rattle.rws_worker.specs.InTurn.{IsBetween}
use Rattle.rws_worker.specs.Stepping.{IsBare, from_of, over_in, starved_in}
use Rattle.rws_worker.specs.Tallies.{Fits, plus, seven, tally_in}

-- one key of a map changes
pub record Changes {X : Type 0} (old new : BTreeMap ℕ X) (key : ℕ) (value : Option X) : Type 0 where
  pub here : get nat_cmp new key ≡ value
  pub apart : (other : ℕ) → (key ≡ other → ⊥) → get nat_cmp new other ≡ get nat_cmp old other

-- an event that begins no session, of which no round is taken in, and that shows no reading of the clock
pub record IsToOne (event : Event) : Type 0 where
  pub begins_none : begun_by event ≡ 0
  pub no_round : (config : Config) → round_of config event ≡ None
  pub no_reading : (before : ℕ) → reading_by event before ≡ before

-- A session is made

-- a session that was made so has its place
pub record Places (config : Config) (session : ℕ) (item : Item) (old new : Worker) : Type 0 where
  pub kept : Kept
  pub starts : Starts config item session kept
  pub sessions : Changes old.sessions new.sessions session (Some kept)

-- one that begins on a link is the owner of it as well
pub record Seats (config : Config) (session : ℕ) (item : Item) (link : ℕ) (old new : Worker) : Type 0 where
  pub placed : Places config session item old new
  pub owns : Changes old.owners new.owners link (Some session)

-- The worker was told to begin a session, which is told this: its number is above all before.
pub record Begins (config : Config) (run : List Entry) (event : Event) (session : ℕ) (item : Item) (worker : Worker) : Type 0 where
  pub between : IsBetween config (record worker { greatest = greatest run }) run
  pub bare : IsBare worker
  pub all_told : from_of worker.telling ≡ None
  pub rests : untold config run ≡ []
  pub above : greatest run < session
  pub begun : begun_by event ≡ session
  pub noted : worker.greatest ≡ session
  pub no_round : round_of config event ≡ None
  pub no_reading : (before : ℕ) → reading_by event before ≡ before
  pub told : told_by config event run ≡ (session, item) ∷ []

-- a session begins so without a link
abbrev pub BeginsWithout : Item → Type 0
BeginsWithout item = IsBeginning item × (opens item ≡ None)

-- What is open is counted

-- without a session that is kept so
abbrev pub CountsOut : Option Kept → (old new : Worker) → Type 0
CountsOut None old new = new.tallies ≡ old.tallies
CountsOut (Some kept) old new =
    (config : Config) (past : List Item) → Is config kept past → (rest : ℕ → Tally)
    → old.tallies ≡ seven (λ server. plus (rest server) (tally_in past server)) → new.tallies ≡ seven rest

-- and with it
abbrev pub CountsIn : Option Kept → (old new : Worker) → Type 0
CountsIn None old new = new.tallies ≡ old.tallies
CountsIn (Some kept) old new =
    (config : Config) (past : List Item) → Is config kept past → (rest : ℕ → Tally) → old.tallies ≡ seven rest
    → ((server : ℕ) → Fits (plus (rest server) (tally_in past server)))
    → new.tallies ≡ seven (λ server. plus (rest server) (tally_in past server))

-- It has a turn

-- it was told something, or went on, and this came of it: it goes on or asks, or memory was wanting; and it is over or isn't
abbrev pub end_of : {E : Type 0} → Result Bool E → (over : Bool) → TurnEnd
end_of (Ok true) over = ends.Asks
end_of (Ok false) over = if over then ends.Ends else ends.Goes
end_of (Err error) over = if over then ends.Starves else ends.Breaks

-- from this record it went on, and ended so
abbrev pub EndsSo : Config → (start : List Item) → Kept → Kept → TurnEnd → Type 0
EndsSo config start old new ends.Goes = Settles config start old new false × (new.state.over ≡ false)
EndsSo config start old new ends.Ends = Settles config start old new false × (new.state.over ≡ true)
EndsSo config start old new ends.Asks = Settles config start old new true
EndsSo config start old new ends.Breaks = BreaksOff config start old new × (new.state.over ≡ false)
EndsSo config start old new ends.Starves = BreaksOff config start old new × (new.state.over ≡ true)

-- a turn over what is heard ended so; where nothing is heard the session is as it was
abbrev pub TurnsOut : Config → Option Item → List Item → Kept → Kept → TurnEnd → Type 0
TurnsOut config (Some item) past old new end = EndsSo config (item ∷ past) old new end
TurnsOut config None past old new ends.Goes = new ≡ old
TurnsOut config None past old new ends.Ends = (new ≡ old) × (new.state.over ≡ true)
TurnsOut config None past old new _ = ⊥

-- the session of this number, kept so before, went on from where it was
pub record GoesOnSo (config : Config) (session : ℕ) (before : Kept) (old new : Worker) (end : TurnEnd) : Type 0 where
  pub kept : Kept
  pub sessions : Changes old.sessions new.sessions session (Some kept)
  pub ended : (past : List Item) → Is config before past → EndsSo config past before kept end

-- It asked, and is answered: a link of this number is opened for it, or none is.
pub record Responds (config : Config) (words : PoolWords) (loads : List Load) (next session : ℕ) (before : Kept) (old new : Worker) : Type 0 where
  pub kept : Kept
  pub opened : Bool
  pub sessions : Changes old.sessions new.sessions session (Some kept)
  pub owners : Changes old.owners new.owners next (if opened then Some session else None)
  pub links : new.last_link ≡ (if opened then next else old.last_link)
  pub answers : (past : List Item) → Asking config before past
      → Answers config (answer_to config past words loads next) next past before kept opened

-- or memory was wanting, and it is as it was
pub record RespondsNone (next session : ℕ) (before : Kept) (old new : Worker) : Type 0 where
  pub kept : Kept
  pub sessions : Changes old.sessions new.sessions session (Some kept)
  pub fewer : (link its : ℕ) → get nat_cmp new.owners link ≡ Some its → get nat_cmp old.owners link ≡ Some its
  pub owners : (link : ℕ) → (next ≡ link → ⊥) → get nat_cmp new.owners link ≡ get nat_cmp old.owners link
  pub links : new.last_link ≡ old.last_link
  pub holds : Holds before kept

-- What becomes of it: one that goes on or asks stays, and is counted again; each other is forgotten.
abbrev pub Finishes : TurnEnd → (session : ℕ) → Worker → Worker → Type 0
Finishes ends.Goes session old new =
    CountsIn (get nat_cmp old.sessions session) old new × (new ≡ record old { ahead = Going session; tallies = new.tallies })
Finishes ends.Asks session old new =
    CountsIn (get nat_cmp old.sessions session) old new
    × (new ≡ record old { ahead = Going session; tallies = new.tallies; asker = askers.Asks session })
Finishes ends.Ends session old new =
    Changes old.sessions new.sessions session None
    × (new ≡ record old { sessions = new.sessions; ahead = over_in (get nat_cmp old.sessions session) })
Finishes ends.Starves session old new =
    Changes old.sessions new.sessions session None
    × (new ≡ record old { sessions = new.sessions; ahead = starved_in (get nat_cmp old.sessions session) })
Finishes ends.Breaks session old new =
    Changes old.sessions new.sessions session None
    × (new
    ≡ record old {
      sessions = new.sessions;
      ahead = starved_in (get nat_cmp old.sessions session);
      broken = Some session;
      closing = Some session;
    })

-- A reading of the clock is told on

-- no session is kept from there on
abbrev pub NoneIsNext : Option (Bound ℕ) → BTreeMap ℕ Kept → Type 0
NoneIsNext None sessions = Unit {0}
NoneIsNext (Some start) sessions = (other : ℕ) → IsFromStart nat_cmp start other → get nat_cmp sessions other ≡ None

-- a session that is kept, and the first from there on
pub record IsFirst (start : Bound ℕ) (session : ℕ) (sessions : BTreeMap ℕ Kept) : Type 0 where
  pub from : IsFromStart nat_cmp start session
  pub fits : session < 2 ^ 32
  pub kept : Kept
  pub here : get nat_cmp sessions session ≡ Some kept
  pub between : (other : ℕ) → IsFromStart nat_cmp start other → other < session → get nat_cmp sessions other ≡ None

abbrev pub IsNext : Option (Bound ℕ) → (session : ℕ) → BTreeMap ℕ Kept → Type 0
IsNext None session sessions = ⊥
IsNext (Some start) session sessions = IsFirst start session sessions

-- a session above those before was told
abbrev pub TellsFurther : Telling → Telling → Type 0
TellsFurther All (Above new) = new < 2 ^ 32
TellsFurther (Above old) (Above new) = (old < new) × (new < 2 ^ 32)
TellsFurther _ _ = ⊥
