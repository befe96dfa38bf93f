-- Each kind of step, where it was tried on a session that keeps what it is to keep: it makes the item that is due.
use Rattle.std.proofs.Common.{◌≡◌, ℕ, length, Bool, true, false, List, [], ◌∷◌, ◌++◌, map, refl, sym, ap, subst, ◌∙◌, Option, Some, None, Result, Ok, Err, IfOk}
use Rattle.std.specs.Prelude.{◌&&◌, not, if◌then◌else◌, is_some, is_none, IfSome}
use Rattle.std.specs.Option.{option_map}
use Rattle.std.proofs.lemmas.List.{append-nil, map-append}
use Rattle.std.proofs.lemmas.Simd.{map-map}
use Rattle.rws_wire.specs.Packets.{spelling, number_behind}
use Rattle.rws_wire.specs.declared.payload.Payload.{Payload}
use Rattle.rws_reply.specs.declared.kind.Outcome.{Outcome}
use Rattle.rws_reply.specs.declared.kind.Progress.{Progress}
use Rattle.rws_reply.specs.declared.kind.Progress.TheVariants.{More, Whole as Ends}
use Rattle.rws_reply.specs.declared.role.Role.{Role}
use Rattle.rws_reply.specs.declared.role.Role.TheVariants as roles
use Rattle.rws_gtid.specs.declared.Gtid.{Gtid}
use Rattle.rws_causal.specs.declared.causal.Causal.{Causal}
use Rattle.rws_routing.specs.declared.routing.Check.{Check}
use Rattle.rws_routing.specs.declared.routing.Check.TheVariants.{Wait, Probe}
use Rattle.rws_front.specs.declared.step.FrontStep.{FrontStep}
use Rattle.rws_front.specs.declared.step.FrontStep.TheVariants as fronts
use Rattle.rws_front.specs.Connection.{step_of}
use Rattle.rws_front.specs.Fronting.{Fronting}
use Rattle.rws_link.specs.declared.step.LinkStep.{LinkStep}
use Rattle.rws_link.specs.declared.step.LinkStep.TheVariants as steps
use Rattle.rws_trx.specs.declared.transaction.Transaction.{Transaction}
use Rattle.rws_trx.specs.OnLinks.{status_of}
use Rattle.rws_board.specs.declared.action.Action.TheVariants as actions
use Rattle.rws_handles.specs.LinkIds.{Ids}
use Rattle.rws_config.specs.declared.config.Config.{Config}
use Rattle.rws_commands.specs.declared.command.Command.{Command}
use Rattle.rws_commands.specs.declared.judged.Judged.{Judged}
use Rattle.rws_record.specs.declared.output.Output.{Output}
use Rattle.rws_record.specs.declared.output.Output.TheVariants.{Act}
use Rattle.rws_record.specs.Item.{Ending, Item, Purpose, Put}
use Rattle.rws_record.specs.Item.Item.{Comes, Connects, Floods, Puts, Takes}
use Rattle.rws_commands.specs.declared.judged.Judged.TheVariants.{Leaves, IsOwn, IsRefused, IsSilent, HasTooMuch, Serves}
use Rattle.rws_record.specs.Item.Put.{Hands, Tells, Records, Routes, Opens, LogsInto, Sends, Forgets, Drops, Closes}
use Rattle.rws_record.specs.Item.Tell.{Passes, Owns, Refuses}
use Rattle.rws_record.specs.Item.Purpose.{Prepares, Asks, Plays, Waits, Probes}
use Rattle.rws_commands.specs.declared.history.HistoryEntry.{HistoryEntry}
use Rattle.rws_commands.specs.declared.judged.Situation.{Situation}
use Rattle.rws_commands.specs.Judging.{judged}
use Rattle.rws_commands.specs.Commands.{asked_under, class_of_command, is_session, keeps}
use Rattle.rws_commands.specs.Statements.{Statements, forgotten, is_full, last_serial, next_handle, stale_on, unplayed}
use Rattle.rws_msgs.specs.declared.prepare_ok.PrepareOk.{PrepareOk}
use Rattle.rws_reply.specs.declared.kind.Outcome.TheVariants.{Done, Failed}
use Rattle.rws_record.specs.Values.{asked_on, asking_for, banned, banned_by, checked_on, class_by_pending, contains, ends_transaction, fronted, goes_on, heard_check, heard_on, held, is_up, kept_on, linked, links, named_by, named_in, named_on, pending, preamble, reply_number, routing, sent_for, server_of, statements, transaction}
use Rattle.rws_record.specs.Rules.{after_coming, after_command, after_connecting, after_flood, after_keeping, after_part, after_played, commit_by, form_of, situation, due_arrival, due_flood, due_route, due_sends, due_take, flood_by, flood_limit, is_ready, is_same, next, owed, recording_by, recording_commit, route_by, take_by, taking}
use Rattle.rws_record.specs.Outputs.{close_bytes, outs_for}
use Rattle.rws_record.proofs.HistoryLemmas.{unplayed_is}
use Rattle.rws_record.proofs.StepLemmas.{IsConnecting}
use Rattle.rws_record.proofs.StepLemmas.IsConnecting.{sends_back, lets_in, ends_it}
use Rattle.rws_links.specs.declared.finding.Due.{Due}
use Rattle.rws_links.specs.declared.numbered.Asked.{Asked}
use Rattle.rws_links.specs.declared.finding.DueKind.{DueKind}
use Rattle.rws_links.specs.declared.finding.DueKind.TheVariants.{Preamble, Entry as AnEntry, Command as ACommand}
use Rattle.rws_links.specs.declared.coming.Coming.{Coming}
use Rattle.rws_links.specs.declared.numbered.NumberedLink.{NumberedLink}
use Rattle.rws_session.specs.declared.owing.Out.{Out}
use Rattle.rws_session.specs.declared.owing.Out.TheVariants as outs
use Rattle.rws_links.specs.declared.history.Recording.{Recording}
use Rattle.rws_links.specs.declared.history.Recording.TheVariants as recordings
use Rattle.rws_links.specs.History.{recorded}
use Rattle.rws_links.specs.Links.{asked_for, link_of}
use Rattle.rws_session.specs.State.{State, erased, state_of}
use Rattle.rws_links.specs.Table.{AreDistinct, ReadsFirst, SendsOn, bans, can_go_on}
use Rattle.rws_session.specs.Kept.{Kept, Is}
use Rattle.rws_session.specs.Steps.{SendsClose, SendsEntry, SendsOwn, SendsPending, TakesSaid, Tries, Went, output_of, after_out, check_payload, check_purpose, commit_as, commit_said, connects, due_put, ends_reply, found_due, gives, heard_in, id_in, is_keeping, is_unrouted, notes, others_dropped, owes, owes_for, owes_part, owes_played, pending_by, recounted, sends, sends_in, situation_in, stands_at, statements_behind, takes, takes_coming, transaction_behind, unsent}
use Rattle.rws_session.proofs.FrontLemmas.{idle_stays}
use Rattle.rws_links.proofs.DistinctLemmas.{links_distinct}
use Rattle.rws_links.proofs.FindLemmas.{asks, due_can_go, due_is, due_item, item_of, needs_up, playing}
use Rattle.rws_links.proofs.TableLemmas.{bans_is}
use Rattle.rws_session.proofs.MirrorLemmas.{kept_is, others_are, put_is, owing_else}

-- What is owed

out_is : (session : ℕ) (past : List Item) (put : Put) (out : Out) → erased put ≡ Some out
    → output_of session out ∷ [] ≡ outs_for session put past
out_is session past (Tells number (Passes link command payload ending recording)) out e = cc
out_is session past (Tells number (Owns status)) out e = cc
out_is session past (Tells number (Refuses error)) out e = cc
out_is session past (Hands packets) out e = cc
out_is session past (Records server gtid) out e = cc
out_is session past Routes out e = absurd cc
out_is session past (Opens link server login) out e = absurd cc
out_is session past (LogsInto link packets) out e = cc
out_is session past (Sends link purpose) out e = absurd cc
out_is session past (Forgets link id) out e = absurd cc
out_is session past (Drops link cause) out e = cc
out_is session past (Closes reason) out e = cc

-- nothing is owed
pub paid_nothing : (config : Config) (past : List Item) (k : Kept) → Is config k past → k.state.owed ≡ [] → due_put (owed config past) ≡ None
paid_nothing config past k is none = by_owed (owed config past) (sym none ∙ ap (λ (s : State). s.owed) is.mirrors)
  where
    by_owed : (list : List Put) → [] ≡ map erased list → due_put list ≡ None
    by_owed [] e = refl
    by_owed (put ∷ others) e = absurd cc

-- what was owed first went out
pub paid : (config : Config) (past : List Item) (old mid new : Kept) (out : Out) → Is config old past
    → old.state.owed ≡ Some out ∷ mid.state.owed → mid ≡ record old { state = record old.state { owed = mid.state.owed } }
    → new ≡ gives out mid → Went config (due_put (owed config past)) past old new
paid config past old mid new out is first left given =
    by_owed (owed config past) refl (sym first ∙ ap (λ (s : State). s.owed) is.mirrors)
  where
    by_owed : (list : List Put) → owed config past ≡ list → Some out ∷ mid.state.owed ≡ map erased list
        → Went config (due_put list) past old new
    by_owed [] o e = absurd cc
    by_owed (put ∷ others) o e =
        let out_of : erased put ≡ Some out = cc in
        let rest : mid.state.owed ≡ map erased others = cc in
        let state : mid.state ≡ owing_else config past (map erased others) =
        ap (λ (k : Kept). k.state) left ∙ ap (λ (s : State). record s { owed = mid.state.owed }) is.mirrors
        ∙ ap (owing_else config past) rest in
        record {
          item = Puts put;
          is_due = refl;
          made = record {
            number = ap (λ (k : Kept). k.number) given ∙ ap (λ (k : Kept). k.number) left;
            outs = ap (λ (k : Kept). k.outs) given
                ∙ ap (λ (k : Kept). k.outs ++ output_of k.number out ∷ []) left
                ∙ ap (λ (more : List Output). old.outs ++ more) (out_is old.number past put out out_of);
            state = ap (λ (k : Kept). k.state) given ∙ ap (after_out out) state ∙ put_is config past put others out o out_of;
          };
        }

-- The last payload of a reply went out: what it means for the transaction was known before, and what it means for the statements and
-- the history was noted first.
pub passed_last : (old answered noting told new : Kept) (number link behind : ℕ) (payload : List ℕ) (its : Ending) (t : Transaction) (recording : Recording)
    → t ≡ transaction_behind link its.outcome old.state
    → answered ≡ record old { state = record old.state { statements = statements_behind link its recording old.state; pending = None } }
    → noting ≡ record answered { state = notes link recording answered.state }
    → told ≡ record noting { outs = noting.outs ++ Act (actions.ToClient noting.number (spelling number payload)) ∷ [] }
    → behind ≡ number_behind number payload
    → new ≡ record told { state = ends_reply behind link t told.state.statements recording told.state }
    → new ≡ gives (outs.Pass number link payload (Some its) recording) old
passed_last old answered noting told new number link behind payload its t recording moved first noted_so told_so behind_so now =
    now ∙ ap (λ (n : ℕ). record told { state = ends_reply n link t told.state.statements recording told.state }) behind_so
    ∙ ap (λ (k : Kept). record k { state = ends_reply (number_behind number payload) link t k.state.statements recording k.state }) told_so
    ∙ ap (λ (k : Kept). record k {
      outs = k.outs ++ Act (actions.ToClient k.number (spelling number payload)) ∷ [];
      state = ends_reply (number_behind number payload) link t k.state.statements recording k.state;
    }) (noted_so ∙ ap (λ (k : Kept). record k { state = notes link recording k.state }) first)
    ∙ ap (λ (t : Transaction). record old {
      outs = old.outs ++ Act (actions.ToClient old.number (spelling number payload)) ∷ [];
      state = ends_reply (number_behind number payload) link t
          (notes link recording (record old.state { statements = statements_behind link its recording old.state; pending = None })).statements recording
          (notes link recording (record old.state { statements = statements_behind link its recording old.state; pending = None }));
    }) moved
    ∙ as_one recording
  where
    as_one : (recording : Recording) → record old {
      outs = old.outs ++ Act (actions.ToClient old.number (spelling number payload)) ∷ [];
      state = ends_reply (number_behind number payload) link (transaction_behind link its.outcome old.state)
          (notes link recording (record old.state { statements = statements_behind link its recording old.state; pending = None })).statements recording
          (notes link recording (record old.state { statements = statements_behind link its recording old.state; pending = None }));
    } ≡ gives (outs.Pass number link payload (Some its) recording) old
    as_one recordings.Nothing = refl
    as_one recordings.Accepts = refl
    as_one recordings.Keeps = refl

-- The worker is asked

route_is : (command : Option Command) (goes : Option ℕ) (waits : Bool)
    → route_by command goes waits ≡ (if (is_some command && (is_none goes && not waits)) then Some (Puts Routes) else None)
route_is None goes waits = refl
route_is (Some command) (Some link) waits = refl
route_is (Some command) None true = refl
route_is (Some command) None false = refl

due_route_is : (config : Config) (past : List Item) (k : Kept) (test : Bool) → Is config k past → is_unrouted k.state ≡ test
    → due_route config past ≡ (if test then Some (Puts Routes) else None)
due_route_is config past k test is e =
    let e : is_unrouted (state_of config past) ≡ test = rw is.mirrors at e in
    route_is (pending past) (goes_on config past) (routing config past).waits ∙ ap (λ (b : Bool). if b then Some (Puts Routes) else None) e

pub asked_nothing : (config : Config) (past : List Item) (k : Kept) → Is config k past → is_unrouted k.state ≡ false
    → due_route config past ≡ None
asked_nothing config past k is none = due_route_is config past k false is none

-- a command waits, and it isn't known where it goes
pub asked_worker : (config : Config) (past : List Item) (old new : Kept) → Is config old past → owed config past ≡ []
    → is_unrouted old.state ≡ true → new ≡ record old { state = record old.state { asking = true } }
    → Went config (due_route config past) past old new
asked_worker config past old new is o some now = record {
  item = Puts Routes;
  is_due = due_route_is config past old true is some;
  made = record {
    number = ap (λ (k : Kept). k.number) now;
    outs = ap (λ (k : Kept). k.outs) now ∙ sym (append-nil old.outs);
    state = ap (λ (k : Kept). k.state) now ∙ ap (λ (s : State). record s { asking = true }) is.mirrors ∙ rw o refl;
  };
}

-- Something is sent

due_as : (config : Config) (past : List Item) (k : Kept) (found : Option Due) → Is config k past → found_due k.state ≡ found
    → due_sends config (links past) past ≡ due_item config.causal_timeout_s (routing config past).check (statements config past) (pending past) found
due_as config past k found is e =
    let e : found_due (state_of config past) ≡ found = rw is.mirrors at e in
    due_is config past (links past) (unplayed_is config past) (λ link has. has) ∙ ap (due_item config.causal_timeout_s (routing config past).check (statements config past) (pending past)) e

pub sent_nothing : (config : Config) (past : List Item) (k : Kept) → Is config k past → found_due k.state ≡ None
    → due_sends config (links past) past ≡ None
sent_nothing config past k is none = due_as config past k None is none

-- it may go there
may_go : (config : Config) (past : List Item) (k : Kept) (link entry : ℕ) (what : DueKind) → Is config k past
    → found_due k.state ≡ Some (record { link = link; what = what; entry = entry })
    → (contains link (links past) && (is_same (needs_up what) (is_up link past) && is_ready (linked link past))) ≡ true
may_go config past k link entry what is e =
    let e : found_due (state_of config past) ≡ Some (record { link = link; what = what; entry = entry }) = rw is.mirrors at e in
    due_can_go past (unsent (state_of config past)) (last_serial (statements config past).history) (links past) (record { link = link; what = what; entry = entry }) e

prepared : (config : Config) (past : List Item) (link entry : ℕ) (went : Bool) (old new : Kept) → Is config old past → owed config past ≡ []
    → found_due old.state ≡ Some (record { link = link; what = Preamble; entry = entry }) → SendsOwn link preamble went old new
    → ((numbers : List ℕ) → old.state.links ≡ map (link_of past) numbers → AreDistinct numbers
    → SendsOn link Prepares past numbers went new.state.links)
    → Tries config (due_sends config (links past) past) past went old new
prepared config past link entry true old new is o first sends links_are =
    let now = links_are (links past) (ap (λ (s : State). s.links) is.mirrors) (links_distinct is.legal) in
    record {
      item = Puts (Sends link Prepares);
      is_due = due_as config past old (Some (record { link = link; what = Preamble; entry = entry })) is first ∙ due_of (pending past);
      made = record {
        number = ap (λ (k : Kept). k.number) sends;
        outs = ap (λ (k : Kept). k.outs) sends;
        state = ap (λ (k : Kept). k.state) sends
            ∙ ap (λ (s : State). record s { links = new.state.links }) is.mirrors ∙ rw (now.1, o) refl;
      };
    }
  where
    due_of : (command : Option Command) → item_of config.causal_timeout_s (routing config past).check (statements config past) command link entry Preamble ≡ Some (Puts (Sends link Prepares))
    due_of None = refl
    due_of (Some command) = refl
prepared config past link entry false old new is o first sends links_are =
    let now = links_are (links past) (ap (λ (s : State). s.links) is.mirrors) (links_distinct is.legal) in
    let clash : true ≡ false = sym (may_go config past old link entry Preamble is first) ∙ now.0 in absurd cc

pub prepared_or_not : (config : Config) (past : List Item) (link entry : ℕ) (old new : Kept) {E : Type 0} (result : Result Bool E)
    → Is config old past → owed config past ≡ []
    → found_due old.state ≡ Some (record { link = link; what = Preamble; entry = entry })
    → IfOk result (λ went. SendsOwn link preamble went old new)
    → ((numbers : List ℕ) → old.state.links ≡ map (link_of past) numbers → AreDistinct numbers
    → IfOk result (λ went. SendsOn link Prepares past numbers went new.state.links))
    → IfOk result (λ went. Tries config (due_sends config (links past) past) past went old new)
prepared_or_not config past link entry old new (Ok went) is o first sends links_are = prepared config past link entry went old new is o first sends links_are
prepared_or_not config past link entry old new (Err error) is o first sends links_are = tt

-- A server is told to close a statement, before what is due on its link.
closed : (config : Config) (past : List Item) (link entry id : ℕ) (what : DueKind) (went : Bool) (old mid new : Kept) → Is config old past
    → owed config past ≡ [] → found_due old.state ≡ Some (record { link = link; what = what; entry = entry }) → needs_up what ≡ true
    → item_of config.causal_timeout_s (routing config past).check (statements config past) (pending past) link entry what ≡ Some (Puts (Forgets link id))
    → mid ≡ record old { state = record old.state { statements = forgotten link old.state.statements } }
    → SendsClose link id went mid new
    → ((numbers : List ℕ) → mid.state.links ≡ map (link_of past) numbers → AreDistinct numbers
    → (went ≡ (contains link numbers && (is_same true (is_up link past) && is_ready (linked link past)))) × (new.state.links ≡ mid.state.links))
    → Tries config (due_sends config (links past) past) past went old new
closed config past link entry id what true old mid new is o first up item mid_is sends links_are =
    let before : mid.state.links ≡ map (link_of past) (links past) =
    ap (λ (k : Kept). k.state.links) mid_is ∙ ap (λ (s : State). s.links) is.mirrors in
    let now = links_are (links past) before (links_distinct is.legal) in
    record {
      item = Puts (Forgets link id);
      is_due = due_as config past old (Some (record { link = link; what = what; entry = entry })) is first ∙ item;
      made = record {
        number = ap (λ (k : Kept). k.number) sends ∙ ap (λ (k : Kept). k.number) mid_is;
        outs = ap (λ (k : Kept). k.outs) sends ∙ ap (λ (k : Kept). k.outs ++ Act (actions.ToLink link (spelling 0 (close_bytes id))) ∷ []) mid_is;
        state = ap (λ (k : Kept). k.state) sends
            ∙ ap (λ (k : Kept). record k.state { links = new.state.links }) mid_is
            ∙ ap (λ (s : State). record s { statements = forgotten link s.statements; links = new.state.links }) is.mirrors
            ∙ ap (λ (l : List NumberedLink). record (state_of config past) { statements = forgotten link (statements config past); links = l }) (now.1 ∙ before)
            ∙ rw o refl;
      };
    }
closed config past link entry id what false old mid new is o first up item mid_is sends links_are =
    let before : mid.state.links ≡ map (link_of past) (links past) =
    ap (λ (k : Kept). k.state.links) mid_is ∙ ap (λ (s : State). s.links) is.mirrors in
    let now = links_are (links past) before (links_distinct is.legal) in
    let may : (contains link (links past) && (is_same true (is_up link past) && is_ready (linked link past))) ≡ true =
    rw up at (may_go config past old link entry what is first) in
    let clash : false ≡ true = now.0 ∙ may in absurd cc

pub closed_or_not : (config : Config) (past : List Item) (link entry id : ℕ) (what : DueKind) (old mid new : Kept) {E : Type 0} (result : Result Bool E)
    → Is config old past → owed config past ≡ [] → found_due old.state ≡ Some (record { link = link; what = what; entry = entry })
    → needs_up what ≡ true → item_of config.causal_timeout_s (routing config past).check (statements config past) (pending past) link entry what ≡ Some (Puts (Forgets link id))
    → mid ≡ record old { state = record old.state { statements = forgotten link old.state.statements } }
    → IfOk result (λ went. SendsClose link id went mid new)
    → ((numbers : List ℕ) → mid.state.links ≡ map (link_of past) numbers → AreDistinct numbers
    → IfOk result (λ went. (went ≡ (contains link numbers && (is_same true (is_up link past) && is_ready (linked link past)))) × (new.state.links ≡ mid.state.links)))
    → IfOk result (λ went. Tries config (due_sends config (links past) past) past went old new)
closed_or_not config past link entry id what old mid new (Ok went) is o first up item mid_is sends links_are =
    closed config past link entry id what went old mid new is o first up item mid_is sends links_are
closed_or_not config past link entry id what old mid new (Err error) is o first up item mid_is sends links_are = tt

-- what goes first on a link that has an entry to play, where an id is stale
pub close_before_entry : (config : Config) (past : List Item) (k : Kept) (link entry id : ℕ) → Is config k past
    → is_some (unplayed entry k.state.statements) ≡ true → stale_on link k.state.statements ≡ Some id
    → item_of config.causal_timeout_s (routing config past).check (statements config past) (pending past) link entry AnEntry ≡ Some (Puts (Forgets link id))
close_before_entry config past k link entry id is some stale =
    by_entry (unplayed entry (statements config past)) (rw is.mirrors at some) (rw is.mirrors at stale)
  where
    by_entry : (found : Option HistoryEntry) → is_some found ≡ true → stale_on link (statements config past) ≡ Some id
        → playing link (stale_on link (statements config past)) found ≡ Some (Puts (Forgets link id))
    by_entry None e s = absurd cc
    by_entry (Some found) e s = rw s refl

-- and where a command is to go there
pub close_before_command : (config : Config) (past : List Item) (k : Kept) (link entry id : ℕ) → Is config k past
    → is_some k.state.pending ≡ true → stale_on link k.state.statements ≡ Some id
    → item_of config.causal_timeout_s (routing config past).check (statements config past) (pending past) link entry ACommand ≡ Some (Puts (Forgets link id))
close_before_command config past k link entry id is some stale =
    by_pending (pending past) (rw is.mirrors at some) (rw is.mirrors at stale)
  where
    by_pending : (command : Option Command) → is_some command ≡ true → stale_on link (statements config past) ≡ Some id
        → asks link (stale_on link (statements config past)) (asking_for config.causal_timeout_s (routing config past).check command link (statements config past).table.links) ≡ Some (Puts (Forgets link id))
    by_pending None e s = absurd cc
    by_pending (Some command) e s = rw s refl

-- there is no entry to play
pub played_nothing : (config : Config) (past : List Item) (k : Kept) (link entry : ℕ) → Is config k past
    → found_due k.state ≡ Some (record { link = link; what = AnEntry; entry = entry }) → is_some (unplayed entry k.state.statements) ≡ false
    → due_sends config (links past) past ≡ None
played_nothing config past k link entry is first none =
    due_as config past k (Some (record { link = link; what = AnEntry; entry = entry })) is first
    ∙ by_entry (unplayed entry (statements config past)) (rw is.mirrors at none)
  where
    by_entry : (found : Option HistoryEntry) → is_some found ≡ false → playing link (stale_on link (statements config past)) found ≡ None
    by_entry None e = refl
    by_entry (Some found) e = absurd cc

-- or no command
pub asked_nothing_on : (config : Config) (past : List Item) (k : Kept) (link entry : ℕ) → Is config k past
    → found_due k.state ≡ Some (record { link = link; what = ACommand; entry = entry }) → is_some k.state.pending ≡ false
    → due_sends config (links past) past ≡ None
asked_nothing_on config past k link entry is first none =
    due_as config past k (Some (record { link = link; what = ACommand; entry = entry })) is first
    ∙ by_pending (pending past) (rw is.mirrors at none)
  where
    by_pending : (command : Option Command) → is_some command ≡ false
        → asks link (stale_on link (statements config past)) (asking_for config.causal_timeout_s (routing config past).check command link (statements config past).table.links) ≡ None
    by_pending None e = refl
    by_pending (Some command) e = absurd cc

-- an entry of the history was tried on a link
played : (config : Config) (past : List Item) (link entry : ℕ) (went : Bool) (old new : Kept) → Is config old past → owed config past ≡ []
    → found_due old.state ≡ Some (record { link = link; what = AnEntry; entry = entry }) → stale_on link old.state.statements ≡ None
    → SendsEntry link (unplayed entry old.state.statements) went old new
    → ((numbers : List ℕ) → old.state.links ≡ map (link_of past) numbers → AreDistinct numbers
    → IfSome (unplayed entry old.state.statements) (λ found. SendsOn link (Plays found) past numbers went new.state.links))
    → Tries config (due_sends config (links past) past) past went old new
played config past link entry went old new is o first stale sends links_are =
    by_entry (unplayed entry (statements config past)) refl went
    (subst (λ (s : State). SendsEntry link (unplayed entry s.statements) went old new) is.mirrors sends)
    (subst (λ (s : State). IfSome (unplayed entry s.statements) (λ found. SendsOn link (Plays found) past (links past) went new.state.links))
    is.mirrors (links_are (links past) (ap (λ (s : State). s.links) is.mirrors) (links_distinct is.legal)))
  where
    due_here : due_sends config (links past) past ≡ playing link None (unplayed entry (statements config past))
    due_here =
        let none : stale_on link (statements config past) ≡ None = rw is.mirrors at stale in
        due_as config past old (Some (record { link = link; what = AnEntry; entry = entry })) is first
        ∙ ap (λ (stale : Option ℕ). playing link stale (unplayed entry (statements config past))) none

    by_entry : (found : Option HistoryEntry) → unplayed entry (statements config past) ≡ found → (went : Bool) → SendsEntry link found went old new
        → IfSome found (λ found. SendsOn link (Plays found) past (links past) went new.state.links)
        → Tries config (due_sends config (links past) past) past went old new
    by_entry None p true sends now = absurd sends
    by_entry None p false sends now = (due_here ∙ ap (playing link None) p, sends)
    by_entry (Some found) p true sends now =
        record {
          item = Puts (Sends link (Plays found));
          is_due = due_here ∙ ap (playing link None) p;
          made = record {
            number = ap (λ (k : Kept). k.number) sends;
            outs = ap (λ (k : Kept). k.outs) sends;
            state = ap (λ (k : Kept). k.state) sends
                ∙ ap (λ (s : State). record s { links = new.state.links }) is.mirrors ∙ rw (now.1, o) refl;
          };
        }
    by_entry (Some found) p false sends now =
        let clash : true ≡ false = sym (may_go config past old link entry AnEntry is first) ∙ now.0 in absurd cc

pub played_or_not : (config : Config) (past : List Item) (link entry : ℕ) (old new : Kept) {E : Type 0} (result : Result Bool E)
    → Is config old past → owed config past ≡ []
    → found_due old.state ≡ Some (record { link = link; what = AnEntry; entry = entry }) → stale_on link old.state.statements ≡ None
    → IfOk result (λ went. SendsEntry link (unplayed entry old.state.statements) went old new)
    → ((numbers : List ℕ) → old.state.links ≡ map (link_of past) numbers → AreDistinct numbers
    → IfSome (unplayed entry old.state.statements) (λ found. IfOk result (λ went. SendsOn link (Plays found) past numbers went new.state.links)))
    → IfOk result (λ went. Tries config (due_sends config (links past) past) past went old new)
played_or_not config past link entry old new (Ok went) is o first stale sends links_are =
    played config past link entry went old new is o first stale sends links_are
played_or_not config past link entry old new (Err error) is o first stale sends links_are = tt

-- The pending command went out: the link sent it, what it keeps the session for is owed, its packets are there, and it is noted.
pending_went : (old mid owing put new : Kept) (link : ℕ) (command : Command) (keeping : Bool) (packets : List (List ℕ))
    → mid ≡ record old { state = record old.state { links = mid.state.links } }
    → keeping ≡ is_keeping command old.state.kept_on
    → owing ≡ record mid { state = record mid.state { owed = others_dropped keeping link mid.state.links ++ mid.state.owed } }
    → put ≡ record owing { outs = owing.outs ++ map (λ bytes. Act (actions.ToLink link bytes)) packets }
    → packets ≡ map (spelling 0) (asked_under (id_in link command old.state) command.body)
    → new ≡ record put { state = record put.state { sent_on = Some link; kept_on = if keeping then Some link else put.state.kept_on } }
    → new ≡ sends link command mid.state.links old
pending_went old mid owing put new link command keeping packets mid_is keeping_is owing_is put_is packets_are new_is =
    let asked : List (List ℕ) = asked_under (id_in link command old.state) command.body in
    let spelled = ap (map (λ bytes. Act (actions.ToLink link bytes))) packets_are ∙ map-map (λ bytes. Act (actions.ToLink link bytes)) (spelling 0) asked in
    new_is
    ∙ ap (λ (k : Kept). record k { state = record k.state { sent_on = Some link; kept_on = if keeping then Some link else k.state.kept_on } })
    (put_is ∙ ap (λ (k : Kept). record k { outs = k.outs ++ map (λ bytes. Act (actions.ToLink link bytes)) packets }) owing_is)
    ∙ ap (λ (more : List Output). record mid {
      outs = mid.outs ++ more;
      state = record mid.state {
        sent_on = Some link;
        kept_on = if keeping then Some link else mid.state.kept_on;
        owed = others_dropped keeping link mid.state.links ++ mid.state.owed;
      };
    }) spelled
    ∙ ap (λ (keeping : Bool). record mid {
      outs = mid.outs ++ map (λ payload. Act (actions.ToLink link (spelling 0 payload))) asked;
      state = record mid.state {
        sent_on = Some link;
        kept_on = if keeping then Some link else mid.state.kept_on;
        owed = others_dropped keeping link mid.state.links ++ mid.state.owed;
      };
    }) keeping_is
    ∙ ap (λ (k : Kept). record k {
      outs = k.outs ++ map (λ payload. Act (actions.ToLink link (spelling 0 payload))) asked;
      state = record k.state {
        sent_on = Some link;
        kept_on = if is_keeping command old.state.kept_on then Some link else k.state.kept_on;
        owed = others_dropped (is_keeping command old.state.kept_on) link k.state.links ++ k.state.owed;
      };
    }) mid_is

pub pending_gone : (old mid owing put new : Kept) (link : ℕ) (command : Command) (keeping : Bool) (packets : List (List ℕ))
    → mid ≡ record old { state = record old.state { links = mid.state.links } }
    → keeping ≡ is_keeping command old.state.kept_on
    → owing ≡ record mid { state = record mid.state { owed = others_dropped keeping link mid.state.links ++ mid.state.owed } }
    → put ≡ record owing { outs = owing.outs ++ map (λ bytes. Act (actions.ToLink link bytes)) packets }
    → packets ≡ map (spelling 0) (asked_under (id_in link command old.state) command.body)
    → new ≡ record put { state = record put.state { sent_on = Some link; kept_on = if keeping then Some link else put.state.kept_on } }
    → new ≡ sends link command new.state.links old
pending_gone old mid owing put new link command keeping packets mid_is keeping_is owing_is put_is packets_are new_is =
    let whole = pending_went old mid owing put new link command keeping packets mid_is keeping_is owing_is put_is packets_are new_is in
    whole ∙ ap (λ (l : List NumberedLink). sends link command l old) (sym (ap (λ (k : Kept). k.state.links) whole))

-- what is due for the pending command where its link's server is asked this first, or nothing
due_checked : (config : Config) (past : List Item) (link entry : ℕ) (check : Option Check) (old : Kept) → Is config old past
    → found_due old.state ≡ Some (record { link = link; what = ACommand; entry = entry }) → stale_on link old.state.statements ≡ None
    → old.state.routing.check ≡ check
    → due_sends config (links past) past
    ≡ asks link None (asking_for config.causal_timeout_s check (pending past) link (statements config past).table.links)
due_checked config past link entry check old is first stale checks =
    let none : stale_on link (statements config past) ≡ None = rw is.mirrors at stale in
    let checks : (routing config past).check ≡ check = rw is.mirrors at checks in
    due_as config past old (Some (record { link = link; what = ACommand; entry = entry })) is first
    ∙ ap (λ (stale : Option ℕ). asks link stale (asking_for config.causal_timeout_s (routing config past).check (pending past) link
    (statements config past).table.links)) none
    ∙ ap (λ (check : Option Check). asks link None (asking_for config.causal_timeout_s check (pending past) link
    (statements config past).table.links)) checks

-- the pending command was tried on a link, whose server needn't be asked anything first
sent : (config : Config) (past : List Item) (link entry : ℕ) (went : Bool) (old new : Kept) → Is config old past → owed config past ≡ []
    → found_due old.state ≡ Some (record { link = link; what = ACommand; entry = entry }) → stale_on link old.state.statements ≡ None
    → old.state.routing.check ≡ None
    → SendsPending link old.state.pending went old new
    → ((numbers : List ℕ) → old.state.links ≡ map (link_of past) numbers → AreDistinct numbers
    → IfSome old.state.pending (λ command. SendsOn link (Asks command (id_in link command old.state)) past numbers went new.state.links))
    → Tries config (due_sends config (links past) past) past went old new
sent config past link entry went old new is o first stale unchecked sends links_are =
    by_pending (pending past) refl went
    (subst (λ (s : State). SendsPending link s.pending went old new) is.mirrors sends)
    (subst (λ (s : State). IfSome s.pending (λ command. SendsOn link (Asks command (id_in link command s)) past (links past) went new.state.links)) is.mirrors
    (links_are (links past) (ap (λ (s : State). s.links) is.mirrors) (links_distinct is.legal)))
  where
    due_here : due_sends config (links past) past
        ≡ asks link None (asking_for config.causal_timeout_s None (pending past) link (statements config past).table.links)
    due_here = due_checked config past link entry None old is first stale unchecked

    by_pending : (command : Option Command) → pending past ≡ command → (went : Bool) → SendsPending link command went old new
        → IfSome command (λ command. SendsOn link (Asks command (id_in link command (state_of config past))) past (links past) went new.state.links)
        → Tries config (due_sends config (links past) past) past went old new
    by_pending None p true sends now = absurd sends
    by_pending None p false sends now =
        (due_here ∙ ap (λ (command : Option Command). asks link None (asking_for config.causal_timeout_s None command link (statements config past).table.links)) p, sends)
    by_pending (Some command) p true sends now =
        let id : Option ℕ = id_in link command (state_of config past) in
        record {
          item = Puts (Sends link (Asks command id));
          is_due = due_here ∙ ap (λ (command : Option Command). asks link None (asking_for config.causal_timeout_s None command link (statements config past).table.links)) p;
          made = record {
            number = ap (λ (k : Kept). k.number) sends;
            outs = ap (λ (k : Kept). k.outs) sends
                ∙ ap (λ (s : State). old.outs
                ++ map (λ payload. Act (actions.ToLink link (spelling 0 payload))) (asked_under (id_in link command s) command.body)) is.mirrors;
            state = ap (λ (k : Kept). k.state) sends
                ∙ ap (λ (s : State). sends_in link command new.state.links s) is.mirrors
                ∙ rw (
                  now.1,
                  o,
                  kept_is (class_of_command command) link (kept_on past),
                  others_are (Puts (Sends link (Asks command id)) ∷ past) (keeps (class_of_command command)) link (kept_on past) (links past),
                  append-nil (after_keeping (keeps (class_of_command command)) link (kept_on past) (links past)),
                  append-nil (map erased (after_keeping (keeps (class_of_command command)) link (kept_on past) (links past))),
                ) refl;
          };
        }
    by_pending (Some command) p false sends now =
        let clash : true ≡ false = sym (may_go config past old link entry ACommand is first) ∙ now.0 in absurd cc

pub sent_or_not : (config : Config) (past : List Item) (link entry : ℕ) (old new : Kept) {E : Type 0} (result : Result Bool E) → Is config old past
    → owed config past ≡ [] → found_due old.state ≡ Some (record { link = link; what = ACommand; entry = entry })
    → stale_on link old.state.statements ≡ None → old.state.routing.check ≡ None
    → IfOk result (λ went. SendsPending link old.state.pending went old new)
    → ((numbers : List ℕ) → old.state.links ≡ map (link_of past) numbers → AreDistinct numbers
    → IfSome old.state.pending (λ command. IfOk result (λ went. SendsOn link (Asks command (id_in link command old.state)) past numbers went new.state.links)))
    → IfOk result (λ went. Tries config (due_sends config (links past) past) past went old new)
sent_or_not config past link entry old new (Ok went) is o first stale unchecked sends links_are =
    sent config past link entry went old new is o first stale unchecked sends links_are
sent_or_not config past link entry old new (Err error) is o first stale unchecked sends links_are = tt

-- What its server is asked first

-- it is due where a command is
check_due : (seconds link : ℕ) (check : Check) (command : Option Command) (ids : List Ids) → is_some command ≡ true
    → asks link None (asking_for seconds (Some check) command link ids) ≡ Some (Puts (Sends link (check_purpose seconds check)))
check_due seconds link check None ids e = absurd cc
check_due seconds link (Wait gtid) (Some command) ids e = refl
check_due seconds link (Probe gtid) (Some command) ids e = refl

-- it goes on links that commands go on
check_may_go : (link seconds : ℕ) (check : Check) (past : List Item) (numbers : List ℕ)
    → can_go_on link (check_purpose seconds check) past numbers
    ≡ (contains link numbers && (is_same true (is_up link past) && is_ready (linked link past)))
check_may_go link seconds (Wait gtid) past numbers = refl
check_may_go link seconds (Probe gtid) past numbers = refl

check_outs : (link seconds : ℕ) (check : Check) → Act (actions.ToLink link (spelling 0 (check_payload seconds check))) ∷ []
    ≡ map (λ payload. Act (actions.ToLink link (spelling 0 payload))) (sent_for (check_purpose seconds check))
check_outs link seconds (Wait gtid) = refl
check_outs link seconds (Probe gtid) = refl

-- and changes its link alone
check_sent : (config : Config) (past : List Item) (link seconds : ℕ) (check : Check) (links_now : List NumberedLink) → owed config past ≡ []
    → links_now ≡ map (link_of (Puts (Sends link (check_purpose seconds check)) ∷ past)) (links past)
    → record (state_of config past) { links = links_now } ≡ state_of config (Puts (Sends link (check_purpose seconds check)) ∷ past)
check_sent config past link seconds (Wait gtid) links_now o l = rw (l, o) refl
check_sent config past link seconds (Probe gtid) links_now o l = rw (l, o) refl

-- it was tried on a link
asked_first : (config : Config) (past : List Item) (link entry : ℕ) (check : Check) (went : Bool) (old new : Kept) → Is config old past
    → owed config past ≡ [] → found_due old.state ≡ Some (record { link = link; what = ACommand; entry = entry })
    → is_some old.state.pending ≡ true → stale_on link old.state.statements ≡ None → old.state.routing.check ≡ Some check
    → SendsOwn link (check_payload config.causal_timeout_s check) went old new
    → ((numbers : List ℕ) → old.state.links ≡ map (link_of past) numbers → AreDistinct numbers
    → SendsOn link (check_purpose config.causal_timeout_s check) past numbers went new.state.links)
    → Tries config (due_sends config (links past) past) past went old new
asked_first config past link entry check true old new is o first some stale checks sends links_are =
    let now = links_are (links past) (ap (λ (s : State). s.links) is.mirrors) (links_distinct is.legal) in
    record {
      item = Puts (Sends link (check_purpose config.causal_timeout_s check));
      is_due = due_checked config past link entry (Some check) old is first stale checks
          ∙ check_due config.causal_timeout_s link check (pending past) (statements config past).table.links (rw is.mirrors at some);
      made = record {
        number = ap (λ (k : Kept). k.number) sends;
        outs = ap (λ (k : Kept). k.outs) sends ∙ ap (λ (more : List Output). old.outs ++ more) (check_outs link config.causal_timeout_s check);
        state = ap (λ (k : Kept). k.state) sends
            ∙ ap (λ (s : State). record s { links = new.state.links }) is.mirrors
            ∙ check_sent config past link config.causal_timeout_s check new.state.links o now.1;
      };
    }
asked_first config past link entry check false old new is o first some stale checks sends links_are =
    let now = links_are (links past) (ap (λ (s : State). s.links) is.mirrors) (links_distinct is.legal) in
    let clash : true ≡ false =
    sym (may_go config past old link entry ACommand is first)
    ∙ sym (check_may_go link config.causal_timeout_s check past (links past)) ∙ now.0 in absurd cc

pub asked_first_or_not : (config : Config) (past : List Item) (link entry : ℕ) (check : Check) (old new : Kept) {E : Type 0}
    (result : Result Bool E) → Is config old past → owed config past ≡ []
    → found_due old.state ≡ Some (record { link = link; what = ACommand; entry = entry })
    → is_some old.state.pending ≡ true → stale_on link old.state.statements ≡ None → old.state.routing.check ≡ Some check
    → IfOk result (λ went. SendsOwn link (check_payload config.causal_timeout_s check) went old new)
    → ((numbers : List ℕ) → old.state.links ≡ map (link_of past) numbers → AreDistinct numbers
    → IfOk result (λ went. SendsOn link (check_purpose config.causal_timeout_s check) past numbers went new.state.links))
    → IfOk result (λ went. Tries config (due_sends config (links past) past) past went old new)
asked_first_or_not config past link entry check old new (Ok went) is o first some stale checks sends links_are =
    asked_first config past link entry check went old new is o first some stale checks sends links_are
asked_first_or_not config past link entry check old new (Err error) is o first some stale checks sends links_are = tt

-- A flood behind it

pub flooded_nothing : (config : Config) (past : List Item) (k : Kept) → Is config k past
    → flood_by k.state.pending (flood_limit config) (length k.state.front.stream.held) ≡ None → due_flood config past ≡ None
flooded_nothing config past k is none =
    let none : flood_by (pending past) (flood_limit config) (length (held config past)) ≡ None = rw is.mirrors at none in
    rw none refl

pub flooded : (config : Config) (past : List Item) (old new : Kept) (bytes : ℕ) → Is config old past → owed config past ≡ []
    → flood_by old.state.pending (flood_limit config) (length old.state.front.stream.held) ≡ Some bytes
    → new ≡ record old { state = owes (after_flood bytes) old.state } → Went config (due_flood config past) past old new
flooded config past old new bytes is o some now =
    let some : flood_by (pending past) (flood_limit config) (length (held config past)) ≡ Some bytes = rw is.mirrors at some in
    record {
      item = Floods bytes;
      is_due = rw some refl;
      made = record {
        number = ap (λ (k : Kept). k.number) now;
        outs = ap (λ (k : Kept). k.outs) now ∙ sym (append-nil old.outs);
        state = ap (λ (k : Kept). k.state) now ∙ ap (owes (after_flood bytes)) is.mirrors ∙ rw o refl;
      };
    }

-- What came on the links

-- what the end of the pending command's reply means for the history, where the statements are these
abbrev noted : Config → List Item → Statements → Outcome → Recording
noted config past s outcome =
    recorded (recording_by (is_session (class_by_pending (pending past))) (is_some (kept_on past)) (is_full config.history_limit s) outcome)

-- the statements behind what a link says that was asked this
abbrev heard : Config → List Item → ℕ → LinkStep → Option Purpose → Statements
heard config past link said purpose =
    heard_on link said purpose (λ outcome. ends_transaction config link outcome past) (named_on link past) (statements config past)

heard_is : (link : ℕ) (said : LinkStep) (purpose : Option Purpose) (ends : Outcome → Bool) (named : Option PrepareOk) (s : Statements)
    → heard_in link said (option_map asked_for purpose) ends (named_by said named) s ≡ heard_on link said purpose ends named s
heard_is link (steps.Part payload role (Ends outcome) next behind) (Some (Asks command id)) ends named s = refl
heard_is link (steps.Part payload role (Ends (Done status)) next behind) (Some (Plays entry)) ends named s = refl
heard_is link (steps.Part payload role (Ends (Failed code)) next behind) (Some (Plays entry)) ends named s = refl
heard_is link (steps.Part payload role (Ends outcome) next behind) (Some Prepares) ends named s = refl
heard_is link (steps.Part payload role (Ends outcome) next behind) (Some (Waits gtid seconds)) ends named s = refl
heard_is link (steps.Part payload role (Ends outcome) next behind) (Some (Probes gtid)) ends named s = refl
heard_is link (steps.Part payload role (Ends outcome) next behind) None ends named s = refl
heard_is link (steps.Part payload role More next behind) purpose ends named s = refl
heard_is link (steps.Lost cause) purpose ends named s = refl
heard_is link (steps.Send packets) purpose ends named s = refl
heard_is link steps.LoggedIn purpose ends named s = refl
heard_is link steps.Idle purpose ends named s = refl

-- what follows on a payload of the reply to an entry
follows_played : (link : ℕ) (entry : HistoryEntry) (named : Option PrepareOk) (far : Progress) (behind : Bool)
    → owes_played link entry.statement named far behind ≡ after_played link entry named far behind
follows_played link entry named More behind = refl
follows_played link entry named (Ends (Done status)) behind = refl
follows_played link entry named (Ends (Failed code)) behind = refl

-- what follows on a payload of a reply, as code and as the definition have it
follows_part : (config : Config) (past : List Item) (link : ℕ) (payload : List ℕ) (role : Role) (far : Progress) (next : ℕ) (behind : Bool)
    (purpose : Option Purpose) (checked : Option Causal) (number : ℕ)
    → owes_part link (option_map asked_for purpose) (form_of (next_handle (statements config past)) role payload)
    (named_in role payload (named_on link past)) checked far behind number
    (noted config past (heard config past link (steps.Part payload role far next behind) purpose))
    ≡ map erased (after_part config link purpose (form_of (next_handle (statements config past)) role payload)
    (named_in role payload (named_on link past)) checked far behind number past)
follows_part config past link payload role More next behind (Some (Asks command id)) checked number = refl
follows_part config past link payload role (Ends outcome) next behind (Some (Asks command id)) checked number = refl
follows_part config past link payload role far next behind (Some (Plays entry)) checked number =
    ap (map erased) (follows_played link entry (named_in role payload (named_on link past)) far behind)
follows_part config past link payload role far next behind (Some Prepares) checked number = refl
follows_part config past link payload role far next behind (Some (Waits gtid seconds)) checked number = refl
follows_part config past link payload role far next behind (Some (Probes gtid)) checked number = refl
follows_part config past link payload role far next behind None checked number = refl

-- the commit that it tells of
commit_is : (domain : ℕ) (role : Role) (payload : List ℕ) (purpose : Option Purpose)
    → commit_as domain role payload (option_map asked_for purpose) ≡ commit_by domain role payload purpose
commit_is domain roles.Ok payload None = refl
commit_is domain roles.Ok payload (Some Prepares) = refl
commit_is domain roles.Ok payload (Some (Asks command id)) = refl
commit_is domain roles.Ok payload (Some (Plays entry)) = refl
commit_is domain roles.Ok payload (Some (Waits gtid seconds)) = refl
commit_is domain roles.Ok payload (Some (Probes gtid)) = refl
commit_is domain roles.Err payload purpose = refl
commit_is domain roles.Prepared payload purpose = refl
commit_is domain roles.Count payload purpose = refl
commit_is domain roles.Definition payload purpose = refl
commit_is domain roles.Eof payload purpose = refl
commit_is domain roles.Row payload purpose = refl

-- what follows on what a link says, as code and as the definition have it
follows : (config : Config) (past : List Item) (link : ℕ) (said : LinkStep) (purpose : Option Purpose) (number : ℕ)
    → map erased (recording_commit (server_of link past) (commit_said config.gtid_domain said (option_map asked_for purpose)))
    ++ owes_for (next_handle (statements config past)) link said (option_map asked_for purpose) (named_by said (named_on link past))
    (checked_on link said past) number (noted config past (heard config past link said purpose))
    ≡ map erased (after_coming config link said purpose number past)
follows config past link (steps.Part payload role far next behind) purpose number =
    let checked : Option Causal = checked_on link (steps.Part payload role far next behind) past in
    let commit : Option Gtid = commit_by config.gtid_domain role payload purpose in
    let part : List Put = after_part config link purpose (form_of (next_handle (statements config past)) role payload)
    (named_in role payload (named_on link past)) checked far behind number past in
    rw (commit_is config.gtid_domain role payload purpose, follows_part config past link payload role far next behind purpose checked number)
    (sym (map-append erased (recording_commit (server_of link past) commit) part))
follows config past link (steps.Lost cause) purpose number = refl
follows config past link (steps.Send packets) purpose number = refl
follows config past link steps.LoggedIn purpose number = refl
follows config past link steps.Idle purpose number = refl

-- what is owed for it, by what the table says of it
abbrev owing_in : Config → List Item → ℕ → LinkStep → Option Asked → (server : ℕ) → (named : Option PrepareOk) → (checked : Option Causal) → Statements → List (Option Out)
owing_in config past link said asked server named checked then_so =
    map erased (recording_commit server (commit_said config.gtid_domain said asked))
    ++ owes_for (next_handle (statements config past)) link said asked named checked (reply_number past) (noted config past then_so)

owes_as : (config : Config) (past : List Item) (link : ℕ) (said : LinkStep) (asked : Option Asked) (server : ℕ) (named : Option PrepareOk)
    (checked : Option Causal) (then_so : Statements) → asked ≡ option_map asked_for (asked_on link past) → server ≡ server_of link past
    → named ≡ named_by said (named_on link past) → checked ≡ checked_on link said past
    → then_so ≡ heard config past link said (asked_on link past)
    → owing_in config past link said asked server named checked then_so
    ≡ map erased (after_coming config link said (asked_on link past) (reply_number past) past)
owes_as config past link said asked server named checked then_so a s n c t =
    rw (a, s, n, c, t) (follows config past link said (asked_on link past) (reply_number past))

pub read_nothing : (config : Config) (past : List Item) (old new : Kept) → Is config old past
    → new ≡ record old { state = record old.state { links = new.state.links } }
    → ReadsFirst past (links past) None new.state.links → (due_arrival (links past) past ≡ None) × (new ≡ old)
read_nothing config past old new is rest read = (
  read.0,
  rest ∙ ap (λ (l : List NumberedLink). record old { state = record old.state { links = l } })
      (read.1 ∙ sym (ap (λ (s : State). s.links) is.mirrors)),
)

pub read_one : (config : Config) (past : List Item) (old mid new : Kept) (found : Coming) → Is config old past → owed config past ≡ []
    → mid ≡ record old { state = record old.state { links = mid.state.links } }
    → ReadsFirst past (links past) (Some found) mid.state.links
    → new ≡ record mid { state = takes_coming config found mid.state }
    → Went config (due_arrival (links past) past) past old new
read_one config past old mid new found is o rest first now =
    let purpose : Option Purpose = asked_on found.link past in
    let before : Option PrepareOk = named_on found.link past in
    let ends : Outcome → Bool = λ outcome. ends_transaction config found.link outcome past in
    let then_so : Statements = heard_in found.link found.said found.asked ends found.named (statements config past) in
    let behind : then_so ≡ heard config past found.link found.said purpose =
    ap (λ (asked : Option Asked). heard_in found.link found.said asked ends found.named (statements config past)) first.2
    ∙ ap (λ (named : Option PrepareOk). heard_in found.link found.said (option_map asked_for purpose) ends named (statements config past)) first.4
    ∙ heard_is found.link found.said purpose ends before (statements config past) in
    let owes = owes_as config past found.link found.said found.asked found.server found.named found.checked then_so first.2 first.3 first.4
    first.5 behind in
    let banning : bans found.said found.asked found.named found.server (banned past) ≡ banned_by found.said purpose before (server_of found.link past) (banned past) =
    ap (λ (asked : Option Asked). bans found.said asked found.named found.server (banned past)) first.2
    ∙ ap (λ (server : ℕ). bans found.said (option_map asked_for purpose) found.named server (banned past)) first.3
    ∙ ap (λ (named : Option PrepareOk). bans found.said (option_map asked_for purpose) named (server_of found.link past) (banned past)) first.4
    ∙ bans_is found.said purpose before (server_of found.link past) (banned past) in
    record {
      item = Comes found.link found.said;
      is_due = first.0;
      made = record {
        number = ap (λ (k : Kept). k.number) now ∙ ap (λ (k : Kept). k.number) rest;
        outs = ap (λ (k : Kept). k.outs) now ∙ ap (λ (k : Kept). k.outs) rest ∙ sym (append-nil old.outs);
        state = ap (λ (k : Kept). k.state) now
            ∙ ap (λ (k : Kept). takes_coming config found k.state) rest
            ∙ ap (λ (s : State). takes_coming config found (record s { links = mid.state.links })) is.mirrors
            ∙ came_so config past found mid.state.links then_so
            (map erased (after_coming config found.link found.said purpose (reply_number past) past)) o first.6 banning behind first.5 owes;
      };
    }
  where
    came_so : (config : Config) (past : List Item) (found : Coming) (links_now : List NumberedLink) (then_so : Statements) (owing : List (Option Out))
        → owed config past ≡ []
        → links_now ≡ map (link_of (Comes found.link found.said ∷ past)) (links past)
        → bans found.said found.asked found.named found.server (banned past)
        ≡ banned_by found.said (asked_on found.link past) (named_on found.link past) (server_of found.link past) (banned past)
        → then_so ≡ heard config past found.link found.said (asked_on found.link past)
        → found.checked ≡ checked_on found.link found.said past
        → owing_in config past found.link found.said found.asked found.server found.named found.checked then_so ≡ owing
        → record (state_of config past) {
          links = links_now;
          banned = bans found.said found.asked found.named found.server (banned past);
          statements = then_so;
          routing = heard_check found.checked (routing config past);
          owed = map erased (recording_commit found.server (commit_said config.gtid_domain found.said found.asked))
              ++ (owes_for (next_handle (statements config past)) found.link found.said found.asked found.named found.checked (reply_number past)
              (noted config past then_so) ++ map erased (owed config past));
        }
        ≡ record (state_of (config) (past)) {
          links = map (link_of (Comes found.link found.said ∷ past)) (links past);
          banned = banned_by found.said (asked_on found.link past) (named_on found.link past) (server_of found.link past) (banned past);
          statements = heard config past found.link found.said (asked_on found.link past);
          routing = heard_check (checked_on found.link found.said past) (routing config past);
          owed = owing;
        }
    came_so config past found links_now then_so owing o l b s c w =
        rw (
          o,
          append-nil (owes_for (next_handle (statements config past)) found.link found.said found.asked found.named found.checked
              (reply_number past) (noted config past then_so)),
          w,
          l,
          b,
          s,
          c,
        ) refl

-- The client's next command

pub busy : (config : Config) (past : List Item) (k : Kept) → Is config k past → is_some k.state.pending ≡ true
    → due_take config past ≡ None
busy config past k is some = by_pending (pending past) (rw is.mirrors at some)
  where
    by_pending : (command : Option Command) → is_some command ≡ true
        → take_by (situation config past) (statements config past) command (step_of config.accounts (fronted config past)).0 ≡ None
    by_pending None e = absurd cc
    by_pending (Some command) e = refl

none_pending : (config : Config) (past : List Item) (k : Kept) → Is config k past → is_some k.state.pending ≡ false → pending past ≡ None
none_pending config past k is none = by_pending (pending past) refl (rw is.mirrors at none)
  where
    by_pending : (command : Option Command) → pending past ≡ command → is_some command ≡ false → pending past ≡ None
    by_pending None p e = p
    by_pending (Some command) p e = absurd cc

-- what the client's side says, and where it stands then, is what the rule and the record have
says_so : (config : Config) (past : List Item) (k : Kept) (said : FrontStep) (front : Fronting) → Is config k past
    → (said, front) ≡ step_of config.accounts k.state.front
    → ((step_of config.accounts (fronted config past)).0 ≡ said) × ((step_of config.accounts (fronted config past)).1 ≡ front)
says_so config past k said front is e =
    let e : ◌≡◌ {A = FrontStep × Fronting} (said, front) (step_of config.accounts (fronted config past)) = rw is.mirrors at e in
    (sym (ap (λ (p : FrontStep × Fronting). p.0) e), sym (ap (λ (p : FrontStep × Fronting). p.1) e))

-- a command that is taken for this is pending, or none is
pending_is : (past : List Item) (judgement : Judged) (number : ℕ) → pending_by judgement (pending past) ≡ pending (Takes judgement number ∷ past)
pending_is past Leaves number = refl
pending_is past IsOwn number = refl
pending_is past (IsRefused error) number = refl
pending_is past IsSilent number = refl
pending_is past (HasTooMuch bytes) number = refl
pending_is past (Serves command) number = refl

pub took : (config : Config) (past : List Item) (old mid new : Kept) (payload : Payload) → Is config old past → owed config past ≡ []
    → is_some old.state.pending ≡ false
    → (fronts.Command payload, mid.state.front) ≡ step_of config.accounts old.state.front
    → mid ≡ record old { state = stands_at mid.state.front old.state }
    → new ≡ record mid { state = takes (judged (situation config past) (statements config past) payload.bytes payload.next) payload.bytes payload.next mid.state }
    → Went config (due_take config past) past old new
took config past old mid new payload is o free says rest now =
    let judgement = judged (situation config past) (statements config past) payload.bytes payload.next in
    let it = says_so config past old (fronts.Command payload) mid.state.front is says in
    record {
      item = Takes judgement payload.next;
      is_due = rw (none_pending config past old is free, it.0) refl;
      made = record {
        number = ap (λ (k : Kept). k.number) now ∙ ap (λ (k : Kept). k.number) rest;
        outs = ap (λ (k : Kept). k.outs) now ∙ ap (λ (k : Kept). k.outs) rest ∙ sym (append-nil old.outs);
        state = ap (λ (k : Kept). k.state) now
            ∙ ap (λ (k : Kept). takes judgement payload.bytes payload.next k.state) rest
            ∙ ap (λ (s : State). takes judgement payload.bytes payload.next (stands_at mid.state.front s)) is.mirrors
            ∙ rw (o, it.0, append-nil (map erased (after_command judgement payload.next (status_of (transaction config past).state))), it.1, pending_is past judgement payload.next) refl;
      };
    }

-- it says nothing
pub took_nothing : (config : Config) (past : List Item) (old new : Kept) → Is config old past → is_some old.state.pending ≡ false
    → (fronts.Idle, new.state.front) ≡ step_of config.accounts old.state.front
    → new ≡ record old { state = stands_at new.state.front old.state } → (due_take config past ≡ None) × (new ≡ old)
took_nothing config past old new is free says rest =
    let it = says_so config past old fronts.Idle new.state.front is says in
    let stays : new.state.front ≡ fronted config past = sym it.1 ∙ idle_stays config.accounts (fronted config past) it.0 in
    let was : record (state_of config past) { front = fronted config past } ≡ old.state = sym is.mirrors in (
      rw (none_pending config past old is free, it.0) refl,
      rest ∙ ap (λ (s : State). record old { state = s })
          (ap (λ (s : State). stands_at new.state.front s) is.mirrors
          ∙ ap (λ (front : Fronting). stands_at front (state_of config past)) stays ∙ was),
    )

-- it says something else
connecting_due : (now : Situation) (s : Statements) (said : FrontStep) → IsConnecting said → taking now s said ≡ Some (Connects said)
connecting_due now s (fronts.Send packets) c = refl
connecting_due now s (fronts.LoggedIn login) c = refl
connecting_due now s (fronts.End packets reason) c = refl
connecting_due now s fronts.Idle c = absurd (by_case fronts.Idle refl c)
  where
    by_case : (said : FrontStep) → said ≡ fronts.Idle → IsConnecting said → ⊥
    by_case said e sends_back = cc
    by_case said e lets_in = cc
    by_case said e ends_it = cc
connecting_due now s (fronts.Command payload) c = absurd (by_case (fronts.Command payload) refl c)
  where
    by_case : (said : FrontStep) → said ≡ fronts.Command payload → IsConnecting said → ⊥
    by_case said e sends_back = cc
    by_case said e lets_in = cc
    by_case said e ends_it = cc

pub connected : (config : Config) (past : List Item) (old mid new : Kept) (said : FrontStep) → Is config old past → owed config past ≡ []
    → is_some old.state.pending ≡ false → IsConnecting said
    → (said, mid.state.front) ≡ step_of config.accounts old.state.front
    → mid ≡ record old { state = stands_at mid.state.front old.state }
    → new ≡ record mid { state = connects said mid.state } → Went config (due_take config past) past old new
connected config past old mid new said is o free connecting says rest now =
    let it = says_so config past old said mid.state.front is says in
    record {
      item = Connects said;
      is_due = rw (none_pending config past old is free, it.0) (connecting_due (situation config past) (statements config past) said connecting);
      made = record {
        number = ap (λ (k : Kept). k.number) now ∙ ap (λ (k : Kept). k.number) rest;
        outs = ap (λ (k : Kept). k.outs) now ∙ ap (λ (k : Kept). k.outs) rest ∙ sym (append-nil old.outs);
        state = ap (λ (k : Kept). k.state) now
            ∙ ap (λ (k : Kept). connects said k.state) rest
            ∙ ap (λ (s : State). connects said (stands_at mid.state.front s)) is.mirrors
            ∙ rw (o, append-nil (map erased (after_connecting said)), it.1) refl;
      };
    }

-- what is taken up has nothing to do with that number
counts_later : (judging : Situation) (s : Statements) (said : FrontStep) (went : Bool) (old new : Kept) → TakesSaid judging s said went old new
    → TakesSaid judging s said went (recounted old) (recounted new)
counts_later judging s fronts.Idle false old new now = ap recounted now
counts_later judging s fronts.Idle true old new now = absurd now
counts_later judging s (fronts.Command payload) true old new now = ap recounted now
counts_later judging s (fronts.Command payload) false old new now = absurd now
counts_later judging s (fronts.Send packets) true old new now = ap recounted now
counts_later judging s (fronts.Send packets) false old new now = absurd now
counts_later judging s (fronts.LoggedIn login) true old new now = ap recounted now
counts_later judging s (fronts.LoggedIn login) false old new now = absurd now
counts_later judging s (fronts.End packets reason) true old new now = ap recounted now
counts_later judging s (fronts.End packets reason) false old new now = absurd now

-- what it said was taken up
by_said : (config : Config) (past : List Item) (old mid new : Kept) (said : FrontStep) (went : Bool)
    → Is config old past → owed config past ≡ [] → is_some old.state.pending ≡ false
    → (said, mid.state.front) ≡ step_of config.accounts old.state.front
    → mid ≡ record old { state = stands_at mid.state.front old.state }
    → TakesSaid (situation config past) (statements config past) said went mid new → Tries config (due_take config past) past went old new
by_said config past old mid new fronts.Idle false is o free says rest now =
    let none = took_nothing config past old mid is free says rest in (none.0, now ∙ none.1)
by_said config past old mid new fronts.Idle true is o free says rest now = absurd now
by_said config past old mid new (fronts.Command payload) true is o free says rest now =
    took config past old mid new payload is o free says rest now
by_said config past old mid new (fronts.Command payload) false is o free says rest now = absurd now
by_said config past old mid new (fronts.Send packets) true is o free says rest now =
    connected config past old mid new (fronts.Send packets) is o free sends_back says rest now
by_said config past old mid new (fronts.Send packets) false is o free says rest now = absurd now
by_said config past old mid new (fronts.LoggedIn login) true is o free says rest now =
    connected config past old mid new (fronts.LoggedIn login) is o free lets_in says rest now
by_said config past old mid new (fronts.LoggedIn login) false is o free says rest now = absurd now
by_said config past old mid new (fronts.End packets reason) true is o free says rest now =
    connected config past old mid new (fronts.End packets reason) is o free ends_it says rest now
by_said config past old mid new (fronts.End packets reason) false is o free says rest now = absurd now

-- how the session stands where a command comes now
judging_is : (config : Config) (past : List Item) (old mid : Kept) → Is config old past
    → mid ≡ record old { state = record old.state { front = mid.state.front } }
    → situation_in config mid.state ≡ situation config past
judging_is config past old mid is rest =
    ap (λ (k : Kept). situation_in config k.state) rest ∙ ap (situation_in config) is.mirrors

judging_over : (config : Config) (past : List Item) (old mid : Kept) → Is config old past
    → mid ≡ record old { state = record old.state { front = mid.state.front } }
    → mid.state.statements ≡ statements config past
judging_over config past old mid is rest =
    ap (λ (k : Kept). k.state.statements) rest ∙ ap (λ (s : State). s.statements) is.mirrors

pub took_said : (config : Config) (past : List Item) (old mid later new : Kept) (said : FrontStep) (went : Bool)
    → Is config old past → owed config past ≡ [] → is_some old.state.pending ≡ false
    → (said, mid.state.front) ≡ step_of config.accounts old.state.front
    → mid ≡ record old { state = record old.state { front = mid.state.front } }
    → TakesSaid (situation_in config mid.state) mid.state.statements said went mid later → new ≡ recounted later
    → Tries config (due_take config past) past went old new
took_said config past old mid later new said went is o free says rest takes now =
    let takes = subst (λ (judging : Situation). TakesSaid judging mid.state.statements said went mid later) (judging_is config past old mid is rest) takes in
    let takes = subst (λ (s : Statements). TakesSaid (situation config past) s said went mid later) (judging_over config past old mid is rest) takes in
    subst (Tries config (due_take config past) past went old) (sym now)
    (by_said config past old (recounted mid) (recounted later) said went is o free says (ap recounted rest)
    (counts_later (situation config past) (statements config past) said went mid later takes))
