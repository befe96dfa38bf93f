-- How a session ends to which memory was wanting.
use Rattle.std.proofs.Common.{◌≡◌, ℕ, Bool, true, false, List, [], ◌∷◌, ◌++◌, map, refl, sym, ap, ◌∙◌, Some, None, append_assoc}
use Rattle.std.proofs.lemmas.List.{append-nil}
use Rattle.rws_wire.specs.Packets.{full_packet, spelling}
use Rattle.rws_wire.specs.declared.close_reason.CloseReason.TheVariants.{Memory}
use Rattle.rws_wire.specs.declared.drop_cause.DropCause.TheVariants.{End}
use Rattle.rws_msgs.specs.ErrLayout.{err_bytes}
use Rattle.rws_board.specs.declared.action.Action.TheVariants.{ToClient, Close, Drop}
use Rattle.rws_config.specs.declared.config.Config.{Config}
use Rattle.rws_commands.specs.declared.proxy_error.ProxyError.TheVariants.{OutOfMemory}
use Rattle.rws_commands.specs.Errors.{error_of}
use Rattle.rws_record.specs.declared.output.Output.{Output}
use Rattle.rws_record.specs.declared.output.Output.TheVariants.{Act}
use Rattle.rws_record.specs.Item.{Item, Put}
use Rattle.rws_record.specs.Item.Item.{Puts, Starves}
use Rattle.rws_record.specs.Item.Put.{Tells, Drops, Closes}
use Rattle.rws_record.specs.Item.Tell.{Refuses}
use Rattle.rws_record.specs.Values.{asking, links, is_over}
use Rattle.rws_record.specs.Rules.{next, owed, due, next_by, unless_asking}
use Rattle.rws_record.specs.Record.{GoesOn}
use Rattle.rws_record.specs.Record.GoesOn.{stays, then as goes}
use Rattle.rws_record.specs.Outputs.{outputs_of}
use Rattle.rws_session.specs.State.{farewell_packet, numbered}
use Rattle.rws_worker.specs.Stepping.{drops}

-- the farewell with a number is the packet of that number
pub farewell_of : (number : ℕ) → numbered number farewell_packet ≡ spelling number (err_bytes (error_of OutOfMemory))
unfolding full_packet spelling err_bytes
farewell_of number = refl

-- what is given out where memory is wanting to a session
abbrev pub ends_so : (session : ℕ) → (over : Bool) → (farewell links : List ℕ) → List Output
ends_so session true farewell links = drops links
ends_so session false farewell links = Act (ToClient session farewell) ∷ Act (Close session Memory) ∷ drops links

-- from a record a session went on until it rested and was over, and gave this out
pub record Finished (config : Config) (session : ℕ) (start : List Item) (outs : List Output) : Type 0 where
  pub reached : List Item
  pub went_on : GoesOn config start reached
  pub rests : next config reached ≡ None
  pub unasking : asking reached ≡ false
  pub over : is_over reached ≡ true
  pub given : outputs_of session reached ≡ outputs_of session start ++ outs

-- one step before
joined : {config : Config} {past now later : List Item} → GoesOn config past now → GoesOn config now later → GoesOn config past later
joined before stays = before
joined before (goes after step) = goes (joined before after) step

module _ (config : Config) (session : ℕ) where
  then_finished : (start now : List Item) (given outs : List Output) → GoesOn config start now
      → outputs_of session now ≡ outputs_of session start ++ given → Finished config session now outs
      → Finished config session start (given ++ outs)
  then_finished start now given outs went did f = record {
    reached = f.reached;
    went_on = joined went f.went_on;
    rests = f.rests;
    unasking = f.unasking;
    over = f.over;
    given = f.given ∙ ap (λ (before : List Output). before ++ outs) did ∙ append_assoc (outputs_of session start) given outs;
  }

  next_is : (past : List Item) (put : Put) (others : List Put) → asking past ≡ false → owed config past ≡ put ∷ others
      → next config past ≡ Some (Puts put)
  next_is past put others none o =
      ap (λ (asked : Bool). unless_asking asked (next_by (owed config past) (is_over past) (due config past))) none
      ∙ ap (λ (list : List Put). next_by list (is_over past) (due config past)) o

  at_rest : (past : List Item) → asking past ≡ false → owed config past ≡ [] → is_over past ≡ true → next config past ≡ None
  at_rest past none o over =
      ap (λ (asked : Bool). unless_asking asked (next_by (owed config past) (is_over past) (due config past))) none
      ∙ ap (λ (list : List Put). next_by list (is_over past) (due config past)) o
      ∙ ap (λ (b : Bool). next_by [] b (due config past)) over

  -- the links are given up, in order
  gives_up : (list : List ℕ) (past : List Item) → asking past ≡ false → owed config past ≡ map (λ link. Drops link End) list → is_over past ≡ true
      → Finished config session past (drops list)
  gives_up [] past none o over = record {
    reached = past;
    went_on = stays;
    rests = at_rest past none o over;
    unasking = none;
    over = over;
    given = sym (append-nil (outputs_of session past));
  }
  gives_up (link ∷ others) past none o over =
      then_finished past (Puts (Drops link End) ∷ past) (Act (Drop link End) ∷ []) (drops others)
      (goes stays (next_is past (Drops link End) (map (λ link. Drops link End) others) none o)) refl
      (gives_up others (Puts (Drops link End) ∷ past) none (rw o refl) over)

  -- the session is closed
  closes : (past : List Item) → asking past ≡ false → owed config past ≡ Closes Memory ∷ []
      → Finished config session past (Act (Close session Memory) ∷ drops (links past))
  closes past none o =
      then_finished past (Puts (Closes Memory) ∷ past) (Act (Close session Memory) ∷ []) (drops (links past))
      (goes stays (next_is past (Closes Memory) [] none o)) refl
      (gives_up (links past) (Puts (Closes Memory) ∷ past) none refl refl)

  module _ (number : ℕ) where
    -- one that is over already
    pub over_ends : (past : List Item) (made : Bool) → is_over past ≡ true
        → Finished config session (Starves made number ∷ past) (drops (links past))
    over_ends past made over = gives_up (links past) (Starves made number ∷ past) refl (rw over refl) over

    -- one that goes on
    pub made_ends : (past : List Item) → is_over past ≡ false
        → Finished config session (Starves true number ∷ past)
        (Act (ToClient session (spelling number (err_bytes (error_of OutOfMemory)))) ∷ Act (Close session Memory) ∷ drops (links past))
    made_ends past over =
        let o : owed config (Starves true number ∷ past) ≡ Tells number (Refuses OutOfMemory) ∷ Closes Memory ∷ [] = rw over refl in
        then_finished (Starves true number ∷ past) (Puts (Tells number (Refuses OutOfMemory)) ∷ Starves true number ∷ past)
        (Act (ToClient session (spelling number (err_bytes (error_of OutOfMemory)))) ∷ [])
        (Act (Close session Memory) ∷ drops (links past))
        (goes stays (next_is (Starves true number ∷ past) (Tells number (Refuses OutOfMemory)) (Closes Memory ∷ []) refl o))
        refl
        (closes (Puts (Tells number (Refuses OutOfMemory)) ∷ Starves true number ∷ past) refl (rw over refl))

    -- one that couldn't be made
    pub unmade_ends : (past : List Item) → is_over past ≡ false
        → Finished config session (Starves false number ∷ past) (Act (Close session Memory) ∷ drops (links past))
    unmade_ends past over = closes (Starves false number ∷ past) refl (rw over refl)
