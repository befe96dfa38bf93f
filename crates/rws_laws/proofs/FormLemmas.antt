-- What goes on a link for an execute is its plain form, under the id that the link's server has for its statement.
use Rattle.std.proofs.Common.{◌≡◌, ◌≢◌, ℕ, true, false, List, [], ◌∷◌, map, refl, sym, ap, subst, ◌∙◌, Option, Some, None}
use Rattle.std.specs.Prelude.{is_some}
use Rattle.rws_config.specs.declared.config.Config.{Config}
use Rattle.rws_handles.specs.PlainForm.{Plain, number_in, renumbered, spelled}
use Rattle.rws_handles.specs.Table.{number_of_execute}
use Rattle.rws_handles.proofs.RunLemmas.{is_renumbered}
use Rattle.rws_commands.specs.declared.command.Body.{Body}
use Rattle.rws_commands.specs.declared.command.Body.TheVariants.{Run}
use Rattle.rws_commands.specs.declared.command.Command.{Command}
use Rattle.rws_commands.specs.declared.command.Execution.{Execution}
use Rattle.rws_commands.specs.declared.judged.Judged.TheVariants.{Serves}
use Rattle.rws_commands.specs.Commands.{asked_under, id_for}
use Rattle.rws_record.specs.Item.{Item}
use Rattle.rws_record.specs.Item.Item.{Puts}
use Rattle.rws_record.specs.Item.Put.{Sends}
use Rattle.rws_record.specs.Item.Purpose.{Asks}
use Rattle.rws_record.specs.Values.{links, sent_for, statements}
use Rattle.rws_record.specs.Rules.{situation}
use Rattle.rws_record.specs.Record.{IsRecord}
use Rattle.rws_record.specs.Record.IsRecord.{begins, steps, answers, hears, starves}
use Rattle.rws_laws.specs.Client.{Asked}
use Rattle.rws_laws.specs.Client.Asked.{here as asked_here, before as asked_before}
use Rattle.rws_laws.specs.Laws.{ExecutesKeepTheirForm, TookUp}
use Rattle.rws_laws.specs.Laws.TookUp.{here, before}
use Rattle.rws_laws.proofs.CausesLemmas.{causes}
use Rattle.rws_laws.proofs.IdLemmas.{IsServed, judged_served}
use Rattle.rws_laws.proofs.ItemLemmas.{took_so}
use Rattle.rws_laws.proofs.LinkIdLemmas.{HasOn}
use Rattle.rws_laws.proofs.ListLemmas.{has_it}
use Rattle.rws_laws.proofs.SendableLemmas.{knows_id}

-- where it was taken up
record TakenUp (config : Config) (command : Command) (execution : Execution) (past : List Item) : Type 0 where
  number : ℕ
  plain : Plain
  spelled_so : execution.commands ≡ spelled number plain
  took_it : TookUp config command plain past

taken_up : {config : Config} {command : Command} {past : List Item} (execution : Execution) → command.body ≡ Run execution → Asked config command past
    → TakenUp config command execution past
taken_up execution b (asked_before asked) =
    let its = taken_up execution b asked in
    record { number = its.number; plain = its.plain; spelled_so = its.spelled_so; took_it = before its.took_it }
taken_up {config} {command} execution b (asked_here {past = past} {payload = payload} taken) =
    let so = took_so config payload (Serves command) command.number past taken in
    let served : IsServed (statements config past).table payload (Serves command) =
    subst (IsServed (statements config past).table payload) (sym so.1)
    (judged_served (situation config past) (statements config past) payload command.number) in
    let run = served.1 execution b in
    record {
      number = number_of_execute (statements config past).table payload;
      plain = run.0;
      spelled_so = run.2;
      took_it = here taken run.3 run.1;
    }

-- what stands below an item of a legal record is legal, or nothing
below : {config : Config} {item : Item} {past : List Item} → IsRecord config (item ∷ past) → past ≢ [] → IsRecord config past
below (begins its) some = absurd (some refl)
below (steps legal e) some = legal
below (answers legal asked) some = legal
below (hears legal rests none n input) some = legal
below (starves legal once can its) some = legal

asked_some : {config : Config} {command : Command} {past : List Item} → Asked config command past → past ≢ []
asked_some (asked_here taken) e = absurd cc
asked_some (asked_before asked) e = absurd cc

pub executes_keep_their_form : ExecutesKeepTheirForm
executes_keep_their_form config past link command id execution legal b =
    let cause = (causes config (Puts (Sends link (Asks command id)) ∷ past) legal).0 in
    let its = taken_up execution b cause.0.asked in
    let under = below legal (asked_some cause.0.asked) in
    let has : HasOn link (number_in execution.commands) (statements config past).table.links =
    knows_id config past link command under cause.0.waits cause.2 (has_it (links past) link cause.3) cause.7 execution b in
    by_id its id (sym (ap (λ (body : Body). id_for link body (statements config past).table.links) b) ∙ cause.9) has
  where
    by_id : TakenUp config command execution past → (found : Option ℕ) → id_for link (Run execution) (statements config past).table.links ≡ found
        → HasOn link (number_in execution.commands) (statements config past).table.links
        → (own : ℕ) × (plain : Plain) × (found ≡ Some own) × (sent_for (Asks command found) ≡ spelled own plain) × TookUp config command plain past
    by_id its None i has = absurd (let clash : false ≡ true = sym (ap is_some i) ∙ has in cc)
    by_id its (Some own) i has = (
      own,
      its.plain,
      refl,
      ap (λ (body : Body). asked_under (Some own) body) b ∙ ap (map (renumbered own)) its.spelled_so ∙ is_renumbered its.number own its.plain,
      its.took_it,
    )
