-- For which records a session stands.
use Rattle.std.specs.Prelude.{◌≡◌, ℕ, Bool, true, false, List, [], ◌∷◌, None, map}
use Rattle.rws_config.specs.declared.config.Config.{Config}
use Rattle.rws_record.specs.declared.output.Output.{Output}
use Rattle.rws_record.specs.Item.{Item}
use Rattle.rws_record.specs.Rules.{next}
use Rattle.rws_record.specs.Values.{asking, is_over, links as links_of}
use Rattle.rws_record.specs.Record.{IsRecord, want_number}
use Rattle.rws_links.specs.Links.{number_of}
use Rattle.rws_session.specs.State.{State, farewell_packet, state_of}

pub record Kept : Type 0 where
  -- the session's number
  pub number : ℕ
  -- what was given out and isn't fetched yet
  pub outs : List Output
  pub state : State

-- Between any two steps a session keeps what it is to keep of a record that can come about.
pub record Is (config : Config) (k : Kept) (past : List Item) : Type 0 where
  pub mirrors : k.state ≡ state_of config past
  pub legal : IsRecord config past

-- between two turns the record rests as well, and waits for no answer
pub record Stands (config : Config) (k : Kept) (past : List Item) : Type 0 where
  pub is : Is config k past
  pub rests : next config past ≡ None
  pub unasking : asking past ≡ false

-- or it waits for the worker's answer
pub record Asking (config : Config) (k : Kept) (past : List Item) : Type 0 where
  pub is : Is config k past
  pub asks : asking past ≡ true

-- one of both, as the session says
abbrev pub StandsOr : (asks : Bool) → Config → Kept → List Item → Type 0
StandsOr true config k past = Asking config k past
StandsOr false config k past = Stands config k past

-- a session was made, and began so
pub record Starts (config : Config) (item : Item) (session : ℕ) (k : Kept) : Type 0 where
  pub number : k.number ≡ session
  pub outs : k.outs ≡ []
  pub is : Is config k (item ∷ [])

-- Where memory was wanting

-- the numbers of its links
abbrev pub numbers : Kept → List ℕ
numbers k = map number_of k.state.links

-- what lasts of a session where a call fails for want of memory: enough to close it
pub record Lasting : Type 0 where
  pub number : ℕ
  pub outs : List Output
  pub links : List ℕ
  pub over : Bool
  pub farewell : List ℕ
  pub want_number : ℕ

abbrev pub lasting : Kept → Lasting
lasting k = record {
  number = k.number;
  outs = k.outs;
  links = numbers k;
  over = k.state.over;
  farewell = k.state.farewell;
  want_number = k.state.want_number;
}

-- it is as it was, and all else may be spoilt
abbrev pub Holds : Kept → Kept → Type 0
Holds old new = lasting new ≡ lasting old

-- what lasts of a session that stands for a record
abbrev pub lasting_of : Config → ℕ → List Output → List Item → Lasting
lasting_of config number outs past = record {
  number = number;
  outs = outs;
  links = links_of past;
  over = is_over past;
  farewell = farewell_packet;
  want_number = want_number config past;
}
