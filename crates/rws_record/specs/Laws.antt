-- Laws about runs. Each is carried by a public function whose contract is the law.
use Rattle.std.specs.Prelude.{◌≡◌, ◌⊎◌, ℕ, true, List, [], Contains}
use Rattle.rws_board.specs.declared.event.Event.{Event}
use Rattle.rws_config.specs.declared.config.Config.{Config}
use Rattle.rws_record.specs.Values.{links}
use Rattle.rws_record.specs.Record.{IsRecord}
use Rattle.rws_record.specs.Run.{Entry, IsRun, IsRunOver, is_ample, record_of, done_in}

-- There is one run over a list of events in which memory is never wanting: the definition leaves nothing else open.
abbrev pub OneRun : Type 0
OneRun =
    (config : Config) (events : List Event) (a b : List Entry) → IsRunOver config events a → IsRunOver config events b
    → is_ample a ≡ true → is_ample b ≡ true → a ≡ b

-- So without want of memory what is done outside is determined by the events.
abbrev pub OneOutcome : Type 0
OneOutcome =
    (config : Config) (events : List Event) (a b : List Entry) → IsRunOver config events a → IsRunOver config events b
    → is_ample a ≡ true → is_ample b ≡ true → done_in a ≡ done_in b

-- In a legal run what happened to one session is a legal record, if the session ever began.
abbrev pub Records : Type 0
Records =
    (config : Config) (run : List Entry) → IsRun config run → (session : ℕ)
    → (record_of session run ≡ []) ⊎ IsRecord config (record_of session run)

-- In a legal run no two sessions have a link in common.
abbrev pub Apart : Type 0
Apart =
    (config : Config) (run : List Entry) → IsRun config run → (one other link : ℕ)
    → Contains (links (record_of one run)) link → Contains (links (record_of other run)) link → one ≡ other
