-- What a read-only transaction doesn't take isn't sent while one is open.
use Rattle.std.proofs.Common.{◌≡◌, true, false, List, [], ◌∷◌, length, refl, sym, ap, subst, ◌∙◌, Some, None}
use Rattle.std.specs.Prelude.{not}
use Rattle.std.proofs.lemmas.Bool.{le-ltb}
use Rattle.rws_trx.specs.declared.state.Open.TheVariants.{ReadOnly}
use Rattle.rws_config.specs.declared.config.Config.{Config}
use Rattle.rws_class.specs.declared.class.Class.{Class}
use Rattle.rws_commands.specs.declared.command.Command.{Command}
use Rattle.rws_commands.specs.declared.judged.Judged.{Judged}
use Rattle.rws_record.specs.Item.{Item}
use Rattle.rws_record.specs.Item.Item.{Accepted, TurnsAway, Began, ClientBytes, LinkReady, LinkBytes, ClientGone, LinkLost, Ticks, Routed, Comes, Connects, Takes, Floods, Puts, Starves}
use Rattle.rws_record.specs.Item.Put.{Hands, Tells, Records, Routes, Opens, LogsInto, Sends, Forgets, Drops, Closes}
use Rattle.rws_record.specs.Item.Purpose.{Asks}
use Rattle.rws_record.specs.Item.Tell.{Passes, Owns, Refuses}
use Rattle.rws_commands.specs.Judging.{changes}
use Rattle.rws_commands.specs.Commands.{class_of_command}
use Rattle.rws_record.specs.Values.{statements, pending, transaction}
use Rattle.rws_record.specs.Rules.{situation}
use Rattle.rws_commands.specs.Statements.{is_full}
use Rattle.rws_laws.proofs.HistoryLemmas.{moves}
use Rattle.rws_laws.specs.Causes.{AreCaused, IsBarred}
use Rattle.rws_laws.specs.Causes.IsBarred.{writes, begins, begins_read_only, autocommits, collects, saves, defines, does_anything, has_no_room}
use Rattle.rws_laws.specs.Laws.{NoChangeInReadOnly}
use Rattle.rws_laws.proofs.CausesLemmas.{causes}
use Rattle.rws_laws.proofs.ItemLemmas.{taken_changes_none, took_so}
use Rattle.rws_laws.proofs.TransactionLemmas.{only_reads}
use Rattle.rws_laws.proofs.WritesLemmas.{IsFull, changes_less, less_full, refused_full, refused_waits}

-- the pending command changes nothing
abbrev Bars : Config → List Item → Type 0
Bars config past =
    (command : Command) → pending past ≡ Some command → (transaction config past).state.opened ≡ ReadOnly
    → changes (is_full config.history_limit (statements config past)) (class_of_command command) ≡ false

still_bars : (config : Config) (past now : List Item) (command : Command) → (IsFull config now → IsFull config past)
    → changes (is_full config.history_limit (statements config past)) (class_of_command command) ≡ false
    → changes (is_full config.history_limit (statements config now)) (class_of_command command) ≡ false
still_bars config past now command less none =
    changes_less (is_full config.history_limit (statements config past)) (is_full config.history_limit (statements config now)) (class_of_command command) less none

bars : (config : Config) (past : List Item) → AreCaused config past → Bars config past
bars config [] caused command p o = absurd cc
bars config (Puts (Hands packets) ∷ past) caused command p o = bars config past caused.1 command p o
bars config (Puts (Records server gtid) ∷ past) caused command p o = bars config past caused.1 command p o
bars config (Puts (Tells number (Passes link its payload (Some ending) recording)) ∷ past) caused command p o = absurd cc
bars config (Puts (Tells number (Passes link its payload None recording)) ∷ past) caused command p o = bars config past caused.1 command p o
bars config (Puts (Tells number (Owns status)) ∷ past) caused command p o = bars config past caused.1 command p o
bars config (Puts (Tells number (Refuses error)) ∷ past) caused command p o =
    still_bars config past (Puts (Tells number (Refuses error)) ∷ past) command (refused_full config past number error) (bars config past caused.1 command (refused_waits past number error command p) o)
bars config (Puts Routes ∷ past) caused command p o = bars config past caused.1 command p o
bars config (Puts (Opens link server login) ∷ past) caused command p o = bars config past caused.1 command p o
bars config (Puts (Forgets link id) ∷ past) caused command p o = bars config past caused.1 command p o
bars config (Puts (LogsInto link packets) ∷ past) caused command p o = bars config past caused.1 command p o
bars config (Puts (Sends link purpose) ∷ past) caused command p o = bars config past caused.1 command p o
bars config (Puts (Drops link cause) ∷ past) caused command p o = bars config past caused.1 command p o
bars config (Puts (Closes reason) ∷ past) caused command p o = bars config past caused.1 command p o
bars config (Takes it number ∷ past) caused command p o =
    let payload = caused.1.0 in
    let so = took_so config payload it number past caused.1.1 in
    still_bars config past (Takes it number ∷ past) command (less_full config past (Takes it number ∷ past) (moves config past (Takes it number) tt))
    (taken_changes_none (situation config past) (statements config past) payload number past command so.0
    ((only_reads (transaction config past).state.opened).1 o) (subst (λ (judged : Judged). pending (Takes judged number ∷ past) ≡ Some command) so.1 p))
bars config (Starves made number ∷ past) caused command p o = bars config past caused.3 command p o
bars config (Accepted session scramble reading ∷ past) caused command p o = bars config past caused.2 command p o
bars config (TurnsAway told ∷ past) caused command p o = bars config past caused.2 command p o
bars config (Began link server reading ∷ past) caused command p o = bars config past caused.2 command p o
bars config (ClientBytes bytes ∷ past) caused command p o = bars config past caused.2 command p o
bars config (LinkReady link ∷ past) caused command p o = bars config past caused.2 command p o
bars config (LinkBytes link bytes ∷ past) caused command p o = bars config past caused.2 command p o
bars config (ClientGone ∷ past) caused command p o = bars config past caused.2 command p o
bars config (LinkLost link ∷ past) caused command p o = bars config past caused.2 command p o
bars config (Ticks reading ∷ past) caused command p o = bars config past caused.2 command p o
bars config (Routed words loads next found ∷ past) caused command p o = bars config past caused.2 command p o
bars config (Comes link said ∷ past) caused command p o =
    still_bars config past (Comes link said ∷ past) command (less_full config past (Comes link said ∷ past) (moves config past (Comes link said) tt)) (bars config past caused.2 command p o)
bars config (Connects said ∷ past) caused command p o = bars config past caused.2 command p o
bars config (Floods bytes ∷ past) caused command p o = bars config past caused.2 command p o

barred_changes : {config : Config} {past : List Item} {class : Class} → IsBarred config past class → changes (is_full config.history_limit (statements config past)) class ≡ true
barred_changes writes = refl
barred_changes begins = refl
barred_changes begins_read_only = refl
barred_changes autocommits = refl
barred_changes collects = refl
barred_changes saves = refl
barred_changes defines = refl
barred_changes does_anything = refl
barred_changes {config} {past} (has_no_room above) = ap not (le-ltb (length (statements config past).history) config.history_limit above)

pub no_change_in_read_only : NoChangeInReadOnly
no_change_in_read_only config past link command id legal o barred =
    let caused = causes config (Puts (Sends link (Asks command id)) ∷ past) legal in
    let clash : true ≡ false = sym (barred_changes barred) ∙ bars config past caused.1 command caused.0.0.waits o in cc
