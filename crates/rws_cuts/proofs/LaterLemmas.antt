-- What is next where a client has sent more: the same, while anything is.
use Rattle.std.proofs.Common.{◌≡◌, ℕ, ◌+◌, ◌≤◌, Bool, true, false, List, [], ◌∷◌, refl, sym, ap, ◌∙◌, arith, inl, inr, Option, Some, None}
use Rattle.std.specs.Prelude.{◌≢◌}
use Rattle.std.specs.Option.{option_map}
use Rattle.std.proofs.lemmas.Bool.{cases_lt, lt-ltb, le-ltb}
use Rattle.rws_front.specs.declared.step.FrontStep.{FrontStep}
use Rattle.rws_front.specs.declared.step.FrontStep.TheVariants as fronts
use Rattle.rws_front.specs.Fronting.{Fronting, fed as front_fed}
use Rattle.rws_front.specs.Connection.{step_of}
use Rattle.rws_front.specs.Laws.{IsSame}
use Rattle.rws_front.proofs.PieceLemmas.{steps_are_kept}
use Rattle.rws_config.specs.declared.account.Account.{Account}
use Rattle.rws_config.specs.declared.config.Config.{Config}
use Rattle.rws_commands.specs.declared.command.Command.{Command}
use Rattle.rws_commands.specs.declared.judged.Situation.{Situation}
use Rattle.rws_commands.specs.Statements.{Statements}
use Rattle.rws_record.specs.Item.{Item, Put}
use Rattle.rws_record.specs.Item.Item.{Floods}
use Rattle.rws_record.specs.Rules.{flood_by, flood_limit, next_by, take_by, taking, unless_asking, ◌or◌}
use Rattle.rws_cuts.proofs.State.{State, arrival_in, next_in, route_in, sends_in, situation_in}

-- What comes of a client, where it has sent more

-- a front that says something says it too where more came, and holds that behind the rest
pub record IsLater (more : List ℕ) (short long : FrontStep × Fronting) : Type 0 where
  pub said : long.0 ≡ short.0
  pub left : long.1 ≡ front_fed short.1 more

by_said : (more : List ℕ) (said : FrontStep) (new : Fronting) (long : FrontStep × Fronting) → IsSame more (said, new) long → said ≢ fronts.Idle
    → IsLater more (said, new) long
by_said more fronts.Idle new long same some = absurd (some refl)
by_said more (fronts.Send packets) new long same some =
    record { said = ap (λ (x : FrontStep × Fronting). x.0) same; left = ap (λ (x : FrontStep × Fronting). x.1) same }
by_said more (fronts.LoggedIn login) new long same some =
    record { said = ap (λ (x : FrontStep × Fronting). x.0) same; left = ap (λ (x : FrontStep × Fronting). x.1) same }
by_said more (fronts.Command payload) new long same some =
    record { said = ap (λ (x : FrontStep × Fronting). x.0) same; left = ap (λ (x : FrontStep × Fronting). x.1) same }
by_said more (fronts.End packets reason) new long same some =
    record { said = ap (λ (x : FrontStep × Fronting). x.0) same; left = ap (λ (x : FrontStep × Fronting). x.1) same }

pub later : (accounts : List Account) (front : Fronting) (more : List ℕ) → (step_of accounts front).0 ≢ fronts.Idle
    → IsLater more (step_of accounts front) (step_of accounts (front_fed front more))
later accounts front more some =
    by_said more (step_of accounts front).0 (step_of accounts front).1 (step_of accounts (front_fed front more)) (steps_are_kept accounts front more) some

-- What is next

-- behind what is sent: a flood, what comes of a link, and what comes of the client
abbrev behind : Option Command → (limit held : ℕ) → Option Item → Situation → Statements → FrontStep → Option Item
behind command limit held arrival now s said = option_map (λ bytes. Floods bytes) (flood_by command limit held) or (arrival or take_by now s command said)

taking_some : (now : Situation) (s : Statements) (said : FrontStep) (item : Item) → taking now s said ≡ Some item → said ≢ fronts.Idle
taking_some now s said item e idle = let clash : None ≡ Some item = sym (ap (taking now s) idle) ∙ e in absurd cc

behind_same : (command : Option Command) (limit held longer : ℕ) (arrival : Option Item) (now : Situation) (s : Statements) (said then : FrontStep) (item : Item)
    → arrival ≡ None → held ≤ longer → (said ≢ fronts.Idle → then ≡ said) → behind command limit held arrival now s said ≡ Some item
    → behind command limit longer arrival now s then ≡ Some item
behind_same None limit held longer arrival now s said then item none more same e =
    let its : taking now s said ≡ Some item = rw none at e in
    rw (none, same (taking_some now s said item its)) its
behind_same (Some command) limit held longer arrival now s said then item none more same e =
    elim (cases_lt limit held) [
      | inl above ↦
          let flood : Some (Floods (limit + 1)) ≡ Some item = rw (lt-ltb limit held above) at e in
          rw (lt-ltb limit longer (omega arith)) flood
      | inr within ↦ let clash : None ≡ Some item = rw (le-ltb limit held within, none) at e in absurd cc
    ]

through : (asks : Bool) (owed : List Put) (over : Bool) (route sends one other : Option Item) (item : Item)
    → (one ≡ Some item → other ≡ Some item)
    → unless_asking asks (next_by owed over (route or (sends or one))) ≡ Some item
    → unless_asking asks (next_by owed over (route or (sends or other))) ≡ Some item
through true owed over route sends one other item same e = absurd cc
through false (put ∷ others) over route sends one other item same e = e
through false [] true route sends one other item same e = absurd cc
through false [] false (Some found) sends one other item same e = e
through false [] false None (Some found) one other item same e = e
through false [] false None None one other item same e = same e

-- where no link has anything to say
pub next_later : (config : Config) (held longer : ℕ) (said then : FrontStep) (s : State) (item : Item) → arrival_in s.links s.linked ≡ None
    → held ≤ longer → (said ≢ fronts.Idle → then ≡ said) → next_in config held said s ≡ Some item → next_in config longer then s ≡ Some item
next_later config held longer said then s item none more same e =
    through s.asking s.owed s.is_over (route_in s) (sends_in config s.links s)
    (behind s.pending (flood_limit config) held (arrival_in s.links s.linked) (situation_in config s) s.statements said)
    (behind s.pending (flood_limit config) longer (arrival_in s.links s.linked) (situation_in config s) s.statements then) item
    (behind_same s.pending (flood_limit config) held longer (arrival_in s.links s.linked) (situation_in config s) s.statements said then item none more same)
    e
