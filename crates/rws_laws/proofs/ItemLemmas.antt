-- A property of legal records, by their items; and what the item says that is an answer of the worker, or takes up a command.
use Rattle.std.proofs.Common.{◌≡◌, ℕ, Bool, true, false, List, [], ◌∷◌, refl, sym, ap, subst, ◌∙◌, Some, None}
use Rattle.std.specs.Prelude.{◌&&◌, is_none, nat_lt, length, Option, Result, Ok, Err, if◌then◌else◌}
use Rattle.std.specs.Option.{option_and_then}
use Rattle.rws_pool.specs.declared.words.PoolWords.{PoolWords}
use Rattle.rws_select.specs.declared.selector.Load.{Load}
use Rattle.rws_route.specs.declared.destination.Target.{Target}
use Rattle.rws_config.specs.declared.config.Config.{Config}
use Rattle.rws_class.specs.Classes.{class_of}
use Rattle.rws_class.specs.declared.class.Class.{Class}
use Rattle.rws_class.specs.declared.class.Class.TheVariants.{PrimaryRead, Session}
use Rattle.rws_reply.specs.declared.kind.Kind.TheVariants.{Simple, Query as QueryReply, Prepare as PrepareReply, FieldList as FieldListReply}
use Rattle.rws_handles.specs.declared.fault.ExecuteFault.{ExecuteFault}
use Rattle.rws_handles.specs.PlainForm.{Plain, handle_in, spelled}
use Rattle.rws_handles.specs.Slots.{is_crowded}
use Rattle.rws_handles.specs.Table.{execute_of, number_of_execute, open_at}
use Rattle.rws_commands.specs.declared.command.Body.TheVariants.{Run}
use Rattle.rws_commands.specs.declared.command.Command.{Command}
use Rattle.rws_commands.specs.declared.request.Request.{Request}
use Rattle.rws_commands.specs.declared.request.Request.TheVariants as requests
use Rattle.rws_commands.specs.declared.judged.Judged.{Judged}
use Rattle.rws_record.specs.Item.{Item}
use Rattle.rws_record.specs.Item.Item.{Routed, Takes}
use Rattle.rws_commands.specs.declared.judged.Judged.TheVariants.{Leaves, IsOwn, IsRefused, IsSilent, HasTooMuch, Serves}
use Rattle.rws_commands.specs.declared.judged.Situation.{Situation}
use Rattle.rws_commands.specs.declared.proxy_error.ProxyError.{ProxyError}
use Rattle.rws_commands.specs.declared.proxy_error.ProxyError.TheVariants.{BadExecute, NotSupported, UnknownCommand}
use Rattle.rws_commands.specs.Judging.{accepted_as, changes, class_run, held_with, is_bad_execute, is_cursor_asked, is_forbidden, is_unknown_handle, judged, judged_by, judged_for, refusal_by, run_by, whole}
use Rattle.rws_commands.specs.Statements.{Statements, is_full, piece_in}
use Rattle.rws_commands.specs.Requests.{class_by, request_of}
use Rattle.rws_commands.specs.Commands.{as_executed, class_of_command, client_bytes}
use Rattle.rws_record.specs.Values.{pending, statements}
use Rattle.rws_record.specs.Rules.{found_in, situation}
use Rattle.rws_record.specs.Record.{IsBeginning, IsInput, IsRecord}
use Rattle.rws_record.specs.Record.IsRecord.{begins, steps, answers, hears, starves}
use Rattle.rws_record.proofs.StepLemmas.{Due, Step, of_next}
use Rattle.rws_record.proofs.StepLemmas.Due.{comes, connects, takes}
use Rattle.rws_record.proofs.StepLemmas.Step.{pays, asks, prepares, forgets, plays, sends, waits_first, probes_first, floods, reads}
use Rattle.rws_laws.specs.Client.{Took}
use Rattle.rws_laws.specs.Client.Took.{took}
use Rattle.rws_laws.proofs.Sound.{same_some}

pub by_items : {config : Config} (Holds : List Item → Type 0) → Holds []
    → ((item : Item) (past : List Item) → IsRecord config (item ∷ past) → Holds past → Holds (item ∷ past)) → {past : List Item}
    → IsRecord config past → Holds past
by_items Holds none on (begins {item = item} its) = on item [] (begins its) none
by_items Holds none on (steps {past = past} {item = item} legal e) = on item past (steps legal e) (by_items Holds none on legal)
by_items {config} Holds none on (answers {past = past} {words = words} {loads = loads} {next_link = next} legal asked) =
    on (Routed words loads next (found_in config past words loads)) past (answers legal asked) (by_items Holds none on legal)
by_items Holds none on (hears {past = past} {item = item} legal rests quiet n input) =
    on item past (hears legal rests quiet n input) (by_items Holds none on legal)
by_items Holds none on (starves {past = past} legal once can its) = on _ past (starves legal once can its) (by_items Holds none on legal)

-- The worker's answer

module _ (config : Config) (past : List Item) (words : PoolWords) (loads : List Load) (next : ℕ) (found : Target) where
  no_due : {below : List Item} {item : Item} → Due config below item → item ≡ Routed words loads next found → ⊥
  no_due (comes has a its) is = absurd cc
  no_due (connects p f c) is = absurd cc
  no_due (takes p f) is = absurd cc

  no_step : {below : List Item} {item : Item} → Step config below item → item ≡ Routed words loads next found → ⊥
  no_step (pays o) is = absurd cc
  no_step (asks o n p g w) is = absurd cc
  no_step (prepares o n has f) is = absurd cc
  no_step (plays o n has f t s) is = absurd cc
  no_step (sends o n p s g f t d i v) is = absurd cc
  no_step (waits_first o n p s g f t d v) is = absurd cc
  no_step (probes_first o n p s g f t d v) is = absurd cc
  no_step (forgets o n has f t) is = absurd cc
  no_step (floods o n p above) is = absurd cc
  no_step (reads o n due) is = no_due due is

  by_record : {now : List Item} → IsRecord config now → now ≡ Routed words loads next found ∷ past → found ≡ found_in config past words loads
  by_record (begins {item = item} its) is =
      let same : item ≡ Routed words loads next found = cc in
      absurd (let its : ⊥ = subst IsBeginning same its in its)
  by_record (steps {past = below} {item = item} legal e) is = absurd (no_step (of_next config below item e) (let same : item ≡ Routed words loads next found = cc in same))
  by_record (answers {past = below} {words = its_words} {loads = its_loads} legal asked) is =
      let below_is : below ≡ past = cc in
      let words_are : its_words ≡ words = cc in
      let loads_are : its_loads ≡ loads = cc in
      let found_is : found_in config below its_words its_loads ≡ found = cc in
      sym found_is
      ∙ ap (λ (p : List Item). found_in config p its_words its_loads) below_is
      ∙ ap (λ (w : PoolWords). found_in config past w its_loads) words_are
      ∙ ap (found_in config past words) loads_are
  by_record (hears {past = below} {item = item} legal rests none n input) is =
      let same : item ≡ Routed words loads next found = cc in
      absurd (let its : ⊥ = subst (λ (i : Item). IsInput i below) same input in its)
  by_record (starves legal once can its) is = absurd cc

  -- it is found by the words and loads
  pub routed_so : IsRecord config (Routed words loads next found ∷ past) → found ≡ found_in config past words loads
  routed_so legal = by_record legal refl

-- A command is taken up

by_took : (config : Config) (payload : List ℕ) (it : Judged) (number code : ℕ) (past : List Item) {now : List Item} → Took config payload code now
    → now ≡ Takes it number ∷ past → (pending past ≡ None) × (it ≡ judged (situation config past) (statements config past) payload code)
by_took config payload it number code past (took {past = below} p f b) is =
    let below_is : below ≡ past = cc in
    let it_is : judged (situation config below) (statements config below) payload code ≡ it = cc in (
      ap pending (sym below_is) ∙ p,
      sym it_is ∙ ap (λ (items : List Item). judged (situation config items) (statements config items) payload code) below_is,
    )

pub took_so : (config : Config) (payload : List ℕ) (it : Judged) (number : ℕ) (past : List Item) → Took config payload number (Takes it number ∷ past)
    → (pending past ≡ None) × (it ≡ judged (situation config past) (statements config past) payload number)
took_so config payload it number past taken = by_took config payload it number number past taken refl

-- one that goes to a server while a read-only transaction is open changes nothing
module _ (now : Situation) (s : Statements) (payload : List ℕ) (number : ℕ) (past : List Item) (command : Command) (p : pending past ≡ None)
    (only : now.read_only ≡ true) where
  abbrev full : Bool
  full = is_full now.history_limit s

  -- what it is taken for, where it isn't for a server
  no_server : {A : Type 0} (refusal : Option ProxyError) (accepted : Judged) → pending (Takes accepted number ∷ past) ≡ None
      → pending (Takes (judged_by refusal accepted) number ∷ past) ≡ Some command → A
  no_server (Some error) accepted none e = let clash : None ≡ Some command = sym p ∙ e in absurd cc
  no_server None accepted none e = let clash : None ≡ Some command = sym none ∙ e in absurd cc

  -- one that is for a server, and whose class this is
  for_server : (its : Command) (class : Class) → class_of_command its ≡ class → (forbidden changing : Bool)
      → (now.read_only && changes full class) ≡ changing
      → pending (Takes (judged_by (refusal_by false false false false false false forbidden changing) (Serves its)) number ∷ past) ≡ Some command
      → changes full (class_of_command command) ≡ false
  for_server its class k true changing c e = let clash : None ≡ Some command = sym p ∙ e in absurd cc
  for_server its class k false true c e = let clash : None ≡ Some command = sym p ∙ e in absurd cc
  for_server its class k false false c e =
      let none : changes full class ≡ false = sym (ap (λ (test : Bool). test && changes full class) only) ∙ c in
      ap (λ (x : Command). changes full (class_of_command x)) (sym (same_some its command e)) ∙ ap (changes full) k ∙ none

  prepare_so : (crowded : Bool) → request_of payload ≡ requests.Prepare
      → pending (Takes (judged_by (refusal_by false false false false false crowded false (now.read_only && full)) (Serves (whole payload PrepareReply number))) number ∷ past) ≡ Some command
      → changes full (class_of_command command) ≡ false
  prepare_so true r e = let clash : None ≡ Some command = sym p ∙ e in absurd cc
  prepare_so false r e =
      for_server (whole payload PrepareReply number) Session (ap (λ (its : Request). class_by its payload) r) false (now.read_only && full) refl e

  execute_so : (found : Result Plain ExecuteFault)
      → pending (Takes (judged_by (refusal_by false false (is_unknown_handle found) (is_cursor_asked found) (is_bad_execute found) false (is_forbidden (class_run found)) (now.read_only && changes full (class_run found)))
      (run_by (number_of_execute s.table payload) found payload number)) number ∷ past) ≡ Some command
      → changes full (class_of_command command) ≡ false
  execute_so (Ok plain) e =
      for_server (record {
        body = Run (record { text = plain.text; commands = spelled (number_of_execute s.table payload) plain; bytes = client_bytes (length payload) (spelled (number_of_execute s.table payload) plain) });
        kind = QueryReply;
        number = number;
      }) (as_executed (class_of plain.text)) refl (is_forbidden (as_executed (class_of plain.text)))
      (now.read_only && changes full (as_executed (class_of plain.text))) refl e
  execute_so (Err fault) e =
      no_server (refusal_by false false (is_unknown_handle (Err fault)) (is_cursor_asked (Err fault)) (is_bad_execute (Err fault)) false false (now.read_only && true))
      (IsRefused BadExecute) p e

  by_request : (request : Request) → request_of payload ≡ request
      → pending (Takes (judged_for request now s payload number) number ∷ past) ≡ Some command
      → changes full (class_of_command command) ≡ false
  by_request requests.Query r e =
      for_server (whole payload QueryReply number) (class_by requests.Query payload) (ap (λ (its : Request). class_by its payload) r)
      (is_forbidden (class_by requests.Query payload)) (now.read_only && changes full (class_by requests.Query payload)) refl e
  by_request requests.FieldList r e =
      for_server (whole payload FieldListReply number) PrimaryRead (ap (λ (its : Request). class_by its payload) r) false (now.read_only && false) refl e
  by_request requests.InitDb r e =
      for_server (whole payload Simple number) Session (ap (λ (its : Request). class_by its payload) r) false (now.read_only && full) refl e
  by_request requests.Prepare r e = prepare_so (is_crowded s.table.statements) r e
  by_request requests.Execute r e = execute_so (execute_of s.table payload) e
  by_request requests.Quit r e = no_server None Leaves p e
  by_request requests.Ping r e = no_server None IsOwn p e
  by_request requests.SendLongData r e = no_server None (accepted_as now s requests.SendLongData payload number) (data_waits (nat_lt now.room (held_with s.table (piece_in payload)))) e
    where
      data_waits : (test : Bool) → pending (Takes (if test then HasTooMuch (held_with s.table (piece_in payload)) else IsSilent) number ∷ past) ≡ None
      data_waits true = p
      data_waits false = p
  by_request requests.CloseStatement r e = no_server None IsSilent p e
  by_request requests.ResetStatement r e =
      no_server (refusal_by false false (is_none (option_and_then (open_at s.table) (handle_in payload))) false false false false false) IsOwn p e
  by_request requests.Unsupported r e = no_server (Some NotSupported) (IsRefused NotSupported) p e
  by_request requests.Unknown r e = no_server (Some UnknownCommand) (IsRefused UnknownCommand) p e

  pub taken_changes_none : pending (Takes (judged now s payload number) number ∷ past) ≡ Some command → changes full (class_of_command command) ≡ false
  taken_changes_none e = by_request (request_of payload) refl e
