-- How far a client's login is: while a session goes on its front didn't end, a client that gives commands has logged in or began
-- so, and a command is pending only of such a client.
use Rattle.std.proofs.Common.{◌≡◌, ℕ, Bool, true, false, List, [], ◌∷◌, refl, sym, ap, ◌∙◌, inl, inr, Option, Some, None}
use Rattle.std.specs.Prelude.{◌⊎◌}
use Rattle.rws_wire.specs.declared.payload.Payload.{Payload}
use Rattle.rws_wire.specs.declared.close_reason.CloseReason.{CloseReason}
use Rattle.rws_config.specs.declared.account.Account.{Account}
use Rattle.rws_config.specs.declared.config.Config.{Config}
use Rattle.rws_native.specs.declared.login.Login.{Login}
use Rattle.rws_front.specs.declared.phase.Phase.{Phase}
use Rattle.rws_front.specs.declared.phase.Phase.TheVariants.{Commands}
use Rattle.rws_front.specs.declared.step.FrontStep.{FrontStep}
use Rattle.rws_front.specs.declared.step.FrontStep.TheVariants as fronts
use Rattle.rws_front.specs.Connection.{step_of}
use Rattle.rws_front.specs.Laws.{Moves, greets, asks, accepts, accepts_answer, logs_in, commands, idles, ends, has_ended}
use Rattle.rws_front.proofs.OrderLemmas.{steps_are_moves}
use Rattle.rws_commands.specs.declared.command.Command.{Command}
use Rattle.rws_commands.specs.declared.proxy_error.ProxyError.{ProxyError}
use Rattle.rws_commands.specs.declared.proxy_error.ProxyError.TheVariants.{UnknownCommand, NotSupported, UnknownStatement, BadExecute, TooManyStatements, NotInReadOnly, TooManyConnections, CommandTooLarge, NoPrimary, PrimaryBehind, OutOfMemory}
use Rattle.rws_record.specs.Item.{Item, Put}
use Rattle.rws_record.specs.Item.Item.{Accepted, TurnsAway, Began, ClientBytes, LinkReady, LinkBytes, ClientGone, LinkLost, Ticks, Routed, Connects, Puts, Starves}
use Rattle.rws_record.specs.Item.Put.{Hands, Tells, Records, Routes, Opens, LogsInto, Sends, Forgets, Drops, Closes}
use Rattle.rws_record.specs.Item.Recording.{Nothing, Accepts, Keeps}
use Rattle.rws_record.specs.Item.Tell.{Passes, Owns, Refuses}
use Rattle.rws_record.specs.Values.{first_login, fronted, login_by, login_of, pending, is_over}
use Rattle.rws_record.specs.Rules.{follow, found_in, owed}
use Rattle.rws_record.specs.Record.{IsBeginning, IsInput, IsRecord}
use Rattle.rws_record.specs.Record.IsRecord.{begins, steps, answers, hears, starves}
use Rattle.rws_record.proofs.OpeningLemmas.{asks_owing_nothing}
use Rattle.rws_record.proofs.StepLemmas.{Due, Step, of_next, rests_owing_nothing}
use Rattle.rws_record.proofs.StepLemmas.Due.{comes, connects, takes}
use Rattle.rws_record.proofs.StepLemmas.Step.{pays, asks as routes, prepares, forgets, plays, sends, waits_first, probes_first, floods, reads}
use Rattle.rws_record.proofs.WantLemmas.{closes_behind, closes_soon}
use Rattle.rws_laws.proofs.FrontLemmas.{is_ended}

-- the client logged in, or its session began with the login of the first account, if there is one
abbrev pub HasEntered : Config → Option Login → Type 0
HasEntered config login = login ≡ None → config.accounts ≡ []

pub data Entering (config : Config) (past : List Item) : Type 0 where
  goes : is_ended (fronted config past).phase ≡ false
      → ((fronted config past).phase ≡ Commands → HasEntered config (login_of config past))
      → ((command : Command) → pending past ≡ Some command → (fronted config past).phase ≡ Commands) → Entering config past
  soon : closes_soon (owed config past) ≡ true → Entering config past
  over : is_over past ≡ true → Entering config past

-- A step of the front

to_end : (phase then : Phase) (said : FrontStep) → Moves phase said then → is_ended phase ≡ false → is_ended then ≡ true
    → (packets : List ℕ) × (reason : CloseReason) × (said ≡ fronts.End packets reason)
to_end phase then said (greets greeting) n e = absurd cc
to_end phase then said (asks switch response asked) n e = absurd cc
to_end phase then said (accepts ok login) n e = absurd cc
to_end phase then said (accepts_answer response asked ok login) n e = absurd cc
to_end phase then said (logs_in login) n e = absurd cc
to_end phase then said (commands command) n e = absurd cc
to_end phase then said (idles its hearing) n e = absurd cc
to_end phase then said (ends its error reason hearing) n e = (error, reason, refl)
to_end phase then said (has_ended reason) n e = absurd cc

to_commands : (phase then : Phase) (said : FrontStep) → Moves phase said then → then ≡ Commands
    → (phase ≡ Commands) ⊎ ((login : Login) × (said ≡ fronts.LoggedIn login))
to_commands phase then said (greets greeting) c = absurd cc
to_commands phase then said (asks switch response asked) c = absurd cc
to_commands phase then said (accepts ok login) c = absurd cc
to_commands phase then said (accepts_answer response asked ok login) c = absurd cc
to_commands phase then said (logs_in login) c = inr (login, refl)
to_commands phase then said (commands command) c = inl refl
to_commands phase then said (idles its hearing) c = inl c
to_commands phase then said (ends its error reason hearing) c = absurd cc
to_commands phase then said (has_ended reason) c = absurd cc

by_command : (phase then : Phase) (said : FrontStep) (payload : Payload) → Moves phase said then → said ≡ fronts.Command payload
    → (phase ≡ Commands) × (then ≡ Commands)
by_command phase then said payload (greets greeting) c = absurd cc
by_command phase then said payload (asks switch response asked) c = absurd cc
by_command phase then said payload (accepts ok login) c = absurd cc
by_command phase then said payload (accepts_answer response asked ok login) c = absurd cc
by_command phase then said payload (logs_in login) c = absurd cc
by_command phase then said payload (commands command) c = (refl, refl)
by_command phase then said payload (idles its hearing) c = absurd cc
by_command phase then said payload (ends its error reason hearing) c = absurd cc
by_command phase then said payload (has_ended reason) c = absurd cc

-- Each item

nothing_soon : {A : Type 0} {list : List Put} → list ≡ [] → closes_soon list ≡ true → A
nothing_soon o s = absurd (let e : false ≡ true = sym (ap closes_soon o) ∙ s in cc)

-- one that changes nothing of it, where nothing was owed
still : {config : Config} {past : List Item} (item : Item) → owed config past ≡ [] → (fronted config (item ∷ past)).phase ≡ (fronted config past).phase
    → login_of config (item ∷ past) ≡ login_of config past → pending (item ∷ past) ≡ pending past
    → (is_over past ≡ true → is_over (item ∷ past) ≡ true) → Entering config past → Entering config (item ∷ past)
still item o f l p n (goes goes_on enters waits) =
    goes (ap is_ended f ∙ goes_on) (λ c none. enters (sym f ∙ c) (sym l ∙ none)) (λ command e. f ∙ waits command (sym p ∙ e))
still item o f l p n (soon s) = nothing_soon o s
still item o f l p n (over is) = over (n is)

module _ (config : Config) (past : List Item) where
  its_moves : Moves (fronted config past).phase (step_of config.accounts (fronted config past)).0 (step_of config.accounts (fronted config past)).1.phase
  its_moves = steps_are_moves config.accounts (fronted config past)

  logged_in_now : {login : Login} {said : FrontStep} → said ≡ fronts.LoggedIn login → login_of config (Connects said ∷ past) ≡ None → ⊥
  logged_in_now is none = let none : login_by (fronts.LoggedIn _) (login_of config past) ≡ None = rw is at none in cc

  knows_on : (said : FrontStep) → login_of config (Connects said ∷ past) ≡ None → login_of config past ≡ None
  knows_on (fronts.LoggedIn login) none = absurd cc
  knows_on (fronts.Send packets) none = none
  knows_on (fronts.Command payload) none = none
  knows_on (fronts.End packets reason) none = none
  knows_on fronts.Idle none = none

  connected : (said : FrontStep) → pending past ≡ None → (step_of config.accounts (fronted config past)).0 ≡ said
      → is_ended (fronted config past).phase ≡ false
      → ((fronted config past).phase ≡ Commands → HasEntered config (login_of config past)) → Entering config (Connects said ∷ past)
  connected said p f goes_on enters = by_end (is_ended (fronted config (Connects said ∷ past)).phase) refl
    where
      ended_now : (packets : List ℕ) (reason : CloseReason) → said ≡ fronts.End packets reason → closes_soon (owed config (Connects said ∷ past)) ≡ true
      ended_now packets reason is = rw is refl

      by_entering : (((fronted config past).phase ≡ Commands) ⊎ ((login : Login) × ((step_of config.accounts (fronted config past)).0 ≡ fronts.LoggedIn login)))
          → HasEntered config (login_of config (Connects said ∷ past))
      by_entering (inl c) = λ l. enters c (knows_on said l)
      by_entering (inr now) = λ l. absurd (logged_in_now (sym f ∙ now.1) l)

      by_end : (test : Bool) → is_ended (fronted config (Connects said ∷ past)).phase ≡ test → Entering config (Connects said ∷ past)
      by_end true e =
          let end = to_end (fronted config past).phase _ _ its_moves goes_on e in soon (ended_now end.0 end.1 (sym f ∙ end.2))
      by_end false e =
          goes e (λ c. by_entering (to_commands (fronted config past).phase _ _ its_moves c))
          (λ command e. let clash : None ≡ Some command = sym p ∙ e in absurd cc)

  took : (payload : Payload) → (step_of config.accounts (fronted config past)).0 ≡ fronts.Command payload
      → ((fronted config past).phase ≡ Commands → HasEntered config (login_of config past))
      → (item : Item) → (fronted config (item ∷ past)).phase ≡ (step_of config.accounts (fronted config past)).1.phase
      → login_of config (item ∷ past) ≡ login_of config past → Entering config (item ∷ past)
  took payload f enters item is l =
      let moved = by_command (fronted config past).phase _ _ payload its_moves f in
      let now : (fronted config (item ∷ past)).phase ≡ Commands = is ∙ moved.1 in
      goes (ap is_ended now) (λ c none. enters moved.0 (sym l ∙ none)) (λ command e. now)

due_entering : {config : Config} {past : List Item} {item : Item} → owed config past ≡ [] → is_over past ≡ false → Due config past item
    → Entering config past → Entering config (item ∷ past)
due_entering {item = item} o n (comes has a it) entering = still item o refl refl refl (λ is. is) entering
due_entering {config} {past} o n (connects {said = said} p f c) (goes goes_on enters waits) = connected config past said p f goes_on enters
due_entering {config} {past} {item} o n (takes {payload = payload} p f) (goes goes_on enters waits) =
    took config past payload f enters item refl refl
due_entering o n (connects p f c) (soon s) = nothing_soon o s
due_entering o n (takes p f) (soon s) = nothing_soon o s
due_entering o n (connects p f c) (over is) = absurd cc
due_entering o n (takes p f) (over is) = absurd cc

-- what is owed is given out
paid : {config : Config} {past : List Item} (put : Put) (others : List Put) → owed config past ≡ put ∷ others
    → owed config (Puts put ∷ past) ≡ others → closes_soon (put ∷ others) ≡ closes_soon others
    → login_of config (Puts put ∷ past) ≡ login_of config past
    → ((command : Command) → pending (Puts put ∷ past) ≡ Some command → pending past ≡ Some command)
    → (is_over past ≡ true → is_over (Puts put ∷ past) ≡ true) → Entering config past → Entering config (Puts put ∷ past)
paid put others o left same l p n (goes goes_on enters waits) =
    goes goes_on (λ c none. enters c (sym l ∙ none)) (λ command e. waits command (p command e))
paid put others o left same l p n (soon s) = soon (ap closes_soon left ∙ sym same ∙ sym (ap closes_soon o) ∙ s)
paid put others o left same l p n (over is) = over (n is)

-- an error answers the pending command, or leaves it
refused_keeps : (past : List Item) {command : Command} (number : ℕ) (error : ProxyError)
    → pending (Puts (Tells number (Refuses error)) ∷ past) ≡ Some command → pending past ≡ Some command
refused_keeps past number UnknownCommand p = p
refused_keeps past number NotSupported p = p
refused_keeps past number UnknownStatement p = p
refused_keeps past number BadExecute p = p
refused_keeps past number TooManyStatements p = p
refused_keeps past number NotInReadOnly p = p
refused_keeps past number TooManyConnections p = p
refused_keeps past number CommandTooLarge p = p
refused_keeps past number OutOfMemory p = p
refused_keeps past number NoPrimary p = absurd cc
refused_keeps past number (PrimaryBehind wanted found) p = absurd cc

put_entering : {config : Config} {past : List Item} (put : Put) (others : List Put) → owed config past ≡ put ∷ others
    → Entering config past → Entering config (Puts put ∷ past)
put_entering (Hands packets) others o e = paid (Hands packets) others o (rw o refl) refl refl (λ c p. p) (λ is. is) e
put_entering (Records server gtid) others o e = paid (Records server gtid) others o (rw o refl) refl refl (λ c p. p) (λ is. is) e
put_entering (Tells number (Passes link command payload (Some outcome) Accepts)) others o e =
    paid (Tells number (Passes link command payload (Some outcome) Accepts)) others o (rw o refl) refl refl (λ c p. absurd cc) (λ is. is) e
put_entering (Tells number (Passes link command payload (Some outcome) Nothing)) others o e =
    paid (Tells number (Passes link command payload (Some outcome) Nothing)) others o (rw o refl) refl refl (λ c p. absurd cc) (λ is. is) e
put_entering (Tells number (Passes link command payload (Some outcome) Keeps)) others o (goes goes_on enters waits) = goes goes_on enters (λ c p. absurd cc)
put_entering {config} {past} (Tells number (Passes link command payload (Some outcome) Keeps)) others o (soon s) =
    soon (rw o (closes_behind (follow config (Tells number (Passes link command payload (Some outcome) Keeps)) past) others (rw o at s)))
put_entering (Tells number (Passes link command payload (Some outcome) Keeps)) others o (over is) = over is
put_entering (Tells number (Passes link command payload None recording)) others o e =
    paid (Tells number (Passes link command payload None recording)) others o (rw o refl) refl refl (λ c p. p) (λ is. is) e
put_entering (Tells number (Owns status)) others o e =
    paid (Tells number (Owns status)) others o (rw o refl) refl refl (λ c p. p) (λ is. is) e
put_entering {past = past} (Tells number (Refuses error)) others o e =
    paid (Tells number (Refuses error)) others o (rw o refl) refl refl (λ c p. refused_keeps past number error p) (λ is. is) e
put_entering Routes others o e = paid Routes others o (rw o refl) refl refl (λ c p. p) (λ is. is) e
put_entering (Opens link server login) others o e =
    paid (Opens link server login) others o (rw o refl) refl refl (λ c p. p) (λ is. is) e
put_entering (Forgets link id) others o e = paid (Forgets link id) others o (rw o refl) refl refl (λ c p. p) (λ is. is) e
put_entering (LogsInto link packets) others o e = paid (LogsInto link packets) others o (rw o refl) refl refl (λ c p. p) (λ is. is) e
put_entering (Sends link purpose) others o (goes goes_on enters waits) = goes goes_on enters waits
put_entering {config} {past} (Sends link purpose) others o (soon s) =
    soon (rw o (closes_behind (follow config (Sends link purpose) past) others (rw o at s)))
put_entering (Sends link purpose) others o (over is) = over is
put_entering (Closes reason) others o e = over refl
put_entering (Drops link cause) others o (goes goes_on enters waits) = goes goes_on enters waits
put_entering {config} {past} (Drops link cause) others o (soon s) =
    soon (rw o (closes_behind (follow config (Drops link cause) past) others (rw o at s)))
put_entering (Drops link cause) others o (over is) = over is

step_entering : {config : Config} {past : List Item} {item : Item} → Step config past item → Entering config past → Entering config (item ∷ past)
step_entering (pays {put = put} {others = others} o) e = put_entering put others o e
step_entering {item = item} (routes o n p k l) e = still item o refl refl refl (λ is. is) e
step_entering {item = item} (prepares o n k c) e = still item o refl refl refl (λ is. is) e
step_entering {item = item} (plays o n k c t s) e = still item o refl refl refl (λ is. is) e
step_entering {item = item} (sends o n p s k c t d i v) e = still item o refl refl refl (λ is. is) e
step_entering {item = item} (waits_first o n p s g f t d v) e = still item o refl refl refl (λ is. is) e
step_entering {item = item} (probes_first o n p s g f t d v) e = still item o refl refl refl (λ is. is) e
step_entering {item = item} (forgets o n has f t) e = still item o refl refl refl (λ is. is) e
step_entering {item = item} (floods o n p above) e = still item o refl refl refl (λ is. is) e
step_entering (reads o n due) e = due_entering o n due e

input_entering : {config : Config} {past : List Item} (item : Item) → owed config past ≡ [] → IsInput item past → Entering config past
    → Entering config (item ∷ past)
input_entering (ClientBytes bytes) o input e = still (ClientBytes bytes) o refl refl refl (λ is. is) e
input_entering (LinkReady link) o input e = still (LinkReady link) o refl refl refl (λ is. is) e
input_entering (LinkBytes link bytes) o input e = still (LinkBytes link bytes) o refl refl refl (λ is. is) e
input_entering ClientGone o input e = over refl
input_entering (LinkLost link) o input e = still (LinkLost link) o refl refl refl (λ is. is) e
input_entering (Ticks reading) o input e = still (Ticks reading) o refl refl refl (λ is. is) e
input_entering _ o input e = absurd input

begins_entering : (config : Config) (item : Item) → IsBeginning item → Entering config (item ∷ [])
begins_entering config (Accepted session scramble reading) its = goes refl (λ c. absurd cc) (λ command p. absurd cc)
begins_entering config (TurnsAway true) its = soon refl
begins_entering config (TurnsAway false) its = soon refl
begins_entering config (Began link server reading) its = goes refl (λ c none. no_account config.accounts none) (λ command p. absurd cc)
  where
    no_account : (accounts : List Account) → first_login accounts ≡ None → accounts ≡ []
    no_account [] none = refl
    no_account (account ∷ others) none = absurd cc
begins_entering config _ its = absurd its

want_entering : (config : Config) (past : List Item) (made its_over : Bool) (number : ℕ) → is_over past ≡ its_over
    → Entering config (Starves made number ∷ past)
want_entering config past made true number o = over o
want_entering config past true false number o = soon (rw o refl)
want_entering config past false false number o = soon (rw o refl)

pub legal_entering : {config : Config} {past : List Item} → IsRecord config past → Entering config past
legal_entering {config} (begins {item = item} its) = begins_entering config item its
legal_entering {config} (steps {past = past} {item = item} legal e) = step_entering (of_next config past item e) (legal_entering legal)
legal_entering {config} (answers {past = past} {words = words} {loads = loads} {next_link = next} legal asked) =
    still (Routed words loads next (found_in config past words loads)) (asks_owing_nothing legal asked) refl refl refl (λ is. is) (legal_entering legal)
legal_entering {config} (hears {past = past} {item = item} legal rests none n input) =
    input_entering item (rests_owing_nothing config past rests none) input (legal_entering legal)
legal_entering {config} (starves {past = past} {made = made} {number = number} legal once can its) =
    want_entering config past made (is_over past) number refl

-- while a session goes on with nothing owed
pub record IsEntering (config : Config) (past : List Item) : Type 0 where
  pub going : is_ended (fronted config past).phase ≡ false
  pub enters : (fronted config past).phase ≡ Commands → HasEntered config (login_of config past)
  pub waits : (command : Command) → pending past ≡ Some command → (fronted config past).phase ≡ Commands

pub is_entering : {config : Config} {past : List Item} → owed config past ≡ [] → is_over past ≡ false → Entering config past → IsEntering config past
is_entering o n (goes goes_on enters waits) = record { going = goes_on; enters = enters; waits = waits }
is_entering o n (soon s) = nothing_soon o s
is_entering o n (over is) = absurd cc
