-- What has set a session on one of its links, but for what has left, is a front of the session's history, and all of it where the client's
-- command goes.
use Rattle.std.proofs.Common.{◌≡◌, ℕ, ◌+◌, ◌<◌, ◌≤◌, Bool, true, false, List, [], ◌∷◌, ◌++◌, refl, sym, ap, subst, ◌∙◌, arith, Option, Some, None}
use Rattle.std.specs.Prelude.{◌≢◌, ◌==◌, if◌then◌else◌}
use Rattle.std.proofs.lemmas.Bool.{eq-eqb, eqb-true}
use Rattle.rws_native.specs.declared.login.Login.{Login}
use Rattle.rws_reply.specs.declared.kind.Outcome.{Outcome}
use Rattle.rws_reply.specs.declared.kind.Outcome.TheVariants.{Done, Failed}
use Rattle.rws_reply.specs.declared.kind.Progress.{Progress}
use Rattle.rws_reply.specs.declared.kind.Progress.TheVariants.{More, Whole as Ends}
use Rattle.rws_reply.specs.declared.role.Role.{Role}
use Rattle.rws_reply.specs.Replies.{Payload}
use Rattle.rws_link.specs.declared.step.LinkStep.{LinkStep}
use Rattle.rws_link.specs.declared.step.LinkStep.TheVariants as steps
use Rattle.rws_link.specs.Stepping.{LinkState, Awaits, Exchange, Rests, opened as opening, step, with_part}
use Rattle.rws_config.specs.declared.config.Config.{Config}
use Rattle.rws_commands.specs.declared.command.Command.{Command}
use Rattle.rws_commands.specs.declared.history.HistoryEntry.{HistoryEntry}
use Rattle.rws_commands.specs.Statements.{answered_by, is_prepared, unplayed}
use Rattle.rws_record.specs.Item.{Ending, Item, Purpose, Put, Tell}
use Rattle.rws_record.specs.Item.Item.{Accepted, TurnsAway, Began, ClientBytes, LinkReady, LinkBytes, ClientGone, LinkLost, Ticks, Comes, Puts}
use Rattle.rws_record.specs.Item.Purpose.{Prepares, Asks, Plays, Waits, Probes}
use Rattle.rws_record.specs.Item.Recording.{Nothing, Accepts, Keeps}
use Rattle.rws_record.specs.Item.Put.{Hands, Tells, Records, Routes, Opens, LogsInto, Sends, Forgets, Drops, Closes}
use Rattle.rws_record.specs.Item.Tell.{Passes, Owns, Refuses}
use Rattle.rws_record.specs.Values.{answered_in, asked_on, awaited, cursor, exchange, kind_of, linked, pending, played_by, sent_all, sent_for, sent_on, serials, statements}
use Rattle.rws_record.specs.Record.{IsBeginning, IsInput, IsRecord}
use Rattle.rws_record.specs.Record.IsRecord.{begins, steps as goes, answers as answered, hears, starves}
use Rattle.rws_record.proofs.HistoryLemmas.{history_rises, unplayed_between}
use Rattle.rws_record.proofs.LinkedLemmas.{Says, after_part_is}
use Rattle.rws_record.proofs.LinkedLemmas.Says.{answers, enters, hurries, fails, breaks, part, garbled, wrong, again}
use Rattle.rws_record.proofs.StepLemmas.{Due, Step, of_next}
use Rattle.rws_record.proofs.StepLemmas.Due.{comes, connects, takes}
use Rattle.rws_record.proofs.StepLemmas.Step.{pays, asks, prepares, forgets, plays as plays_it, sends, waits_first, probes_first, floods, reads}
use Rattle.rws_laws.specs.Causes.{AreCaused, IsCaused}
use Rattle.rws_laws.specs.History.{entry_led, set_on, with_played}
use Rattle.rws_laws.specs.Laws.{OnlyPreparesLeave, PlaysInOrder, SetsBeforeItAsks, SetsInOrder}
use Rattle.rws_laws.proofs.CameLemmas.{after_answer_is, after_entering_is, bytes_keep, left_by, loss_leaves, part_leaves, ready_keeps}
use Rattle.rws_laws.proofs.CausesLemmas.{causes}
use Rattle.rws_laws.proofs.HistoryLemmas.{Shrinks, moves}
use Rattle.rws_laws.proofs.PlacedLemmas.{Among, From, Placed, all_placed, among_shrinks, below_lower, next_placed, none_next, only_prepares, placed_led, placed_more, placed_shrinks, played_next, standing_all, standing_lower}
use Rattle.rws_laws.proofs.PlacedLemmas.Among.{none as no_entry}
use Rattle.rws_laws.proofs.ReplyLemmas.{unless_before}
use Rattle.rws_laws.proofs.Sound.{same_some}

-- What stands on a link: what has set the session there is, but for what has left, a front of the history; so is it with the entry that it
-- plays; where the pending command was sent it is the whole history.
pub record Stands (link : ℕ) (history set : List HistoryEntry) (count bound : ℕ) (owes : Option Exchange) (asked : Option Purpose) (sent : Option ℕ) : Type 0 where
  pub placed : Placed history set count
  pub within : count ≤ bound
  pub plays : (e : Exchange) (entry : HistoryEntry) → owes ≡ Some e → asked ≡ Some (Plays entry)
      → Placed history (set ++ entry ∷ []) (entry.serial + 1) × (entry.serial < bound)
  pub leads : sent ≡ Some link → ((entry : HistoryEntry) → asked ≢ Some (Plays entry)) × Among history set

abbrev pub Shared : Config → List Item → Type 0
Shared config past =
    (link : ℕ) → Stands link (statements config past).history (set_on config link past) (cursor link past) (serials past) (exchange link past)
    (asked_on link past) (sent_on past)

module _ {link : ℕ} {history set : List HistoryEntry} {count bound : ℕ} {asked : Option Purpose} {sent : Option ℕ} where
  -- entries leave
  shrunk : {now : List HistoryEntry} {owes : Option Exchange} → Shrinks history now → Stands link history set count bound owes asked sent
      → Stands link now set count bound owes asked sent
  shrunk shrinks stands = record {
    placed = placed_shrinks shrinks stands.placed;
    within = stands.within;
    plays = λ e entry a q. let its = stands.plays e entry a q in (placed_shrinks shrinks its.0, its.1);
    leads = λ s. let its = stands.leads s in (its.0, among_shrinks shrinks its.1);
  }

  -- whatever is owed, where a reply was owed before
  goes_on : {e : Exchange} (owes : Option Exchange) → Stands link history set count bound (Some e) asked sent
      → Stands link history set count bound owes asked sent
  goes_on {e} owes stands = record {
    placed = stands.placed;
    within = stands.within;
    plays = λ other entry a q. stands.plays e entry refl q;
    leads = stands.leads;
  }

  -- or where none is owed now
  idles : {before : Option Exchange} (owes : Option Exchange) → owes ≡ None → Stands link history set count bound before asked sent
      → Stands link history set count bound owes asked sent
  idles owes none stands = record {
    placed = stands.placed;
    within = stands.within;
    plays = λ e entry a q. let clash : None ≡ Some e = sym none ∙ a in absurd cc;
    leads = stands.leads;
  }

  same_owed : {before : Option Exchange} (owes : Option Exchange) → owes ≡ before → Stands link history set count bound before asked sent
      → Stands link history set count bound owes asked sent
  same_owed owes same stands = subst (λ (its : Option Exchange). Stands link history set count bound its asked sent) (sym same) stands

  -- the pending command is out elsewhere, or nowhere
  sent_elsewhere : {owes : Option Exchange} (now : Option ℕ) → (now ≡ Some link → sent ≡ Some link)
      → Stands link history set count bound owes asked sent → Stands link history set count bound owes asked now
  sent_elsewhere now less stands = record {
    placed = stands.placed;
    within = stands.within;
    plays = stands.plays;
    leads = λ s. stands.leads (less s);
  }

-- What a link says

-- an entry was played
played_on : {link : ℕ} {history set : List HistoryEntry} {count bound : ℕ} {sent : Option ℕ} (e : Exchange) (entry : HistoryEntry) (owes : Option Exchange)
    → owes ≡ None → Stands link history set count bound (Some e) (Some (Plays entry)) sent
    → Stands link history (set ++ entry ∷ []) (entry.serial + 1) bound owes (Some (Plays entry)) sent
played_on e entry owes none stands =
    let its = stands.plays e entry refl refl in
    let below = its.1 in
    record {
      placed = its.0;
      within = omega arith;
      plays = λ other next a q. let clash : None ≡ Some other = sym none ∙ a in absurd cc;
      leads = λ s. absurd ((stands.leads s).0 entry refl);
    }

part_stands : {link : ℕ} {history set : List HistoryEntry} {count bound : ℕ} {sent : Option ℕ} (e : Exchange) (payload : Payload) (its : Role) (number : ℕ)
    (behind : Bool) (far : Progress) (asked : Option Purpose) (owes : Option Exchange) → ((outcome : Outcome) → far ≡ Ends outcome → owes ≡ None)
    → Stands link history set count bound (Some e) asked sent
    → Stands link history (with_played (steps.Part payload its far number behind) asked set) (played_by (steps.Part payload its far number behind) asked count)
    bound owes asked sent
part_stands e payload its number behind More asked owes none stands = goes_on owes stands
part_stands e payload its number behind (Ends (Failed code)) asked owes none stands = goes_on owes stands
part_stands e payload its number behind (Ends (Done status)) None owes none stands = goes_on owes stands
part_stands e payload its number behind (Ends (Done status)) (Some Prepares) owes none stands = goes_on owes stands
part_stands e payload its number behind (Ends (Done status)) (Some (Waits gtid seconds)) owes none stands = goes_on owes stands
part_stands e payload its number behind (Ends (Done status)) (Some (Probes gtid)) owes none stands = goes_on owes stands
part_stands e payload its number behind (Ends (Done status)) (Some (Asks command id)) owes none stands = goes_on owes stands
part_stands e payload its number behind (Ends (Done status)) (Some (Plays entry)) owes none stands =
    played_on e entry owes (none (Done status) refl) stands

said_stands : {link : ℕ} {history set : List HistoryEntry} {count bound : ℕ} {asked : Option Purpose} {sent : Option ℕ} (state : LinkState) (said : LinkStep)
    → Says state said → Stands link history set count bound (awaited state) asked sent
    → Stands link history (with_played said asked set) (played_by said asked count) bound (awaited (step state).after) asked sent
said_stands {asked = asked} state said (part {e = e} {unread = unread} {payload = payload} {rest = rest} {number = number} {its = its} {far = far} f r p) stands =
    part_stands e payload its number _ far asked (awaited (step (Awaits e unread)).after)
    (λ outcome is.
    ap awaited (after_part_is e unread payload rest number its far f r p) ∙ part_leaves (with_part payload number e) rest far
    ∙ ends_none far outcome is) stands
  where
    ends_none : (far : Progress) (outcome : Outcome) → far ≡ Ends outcome → left_by far (with_part payload number e) ≡ None
    ends_none More outcome is = absurd cc
    ends_none (Ends other) outcome is = refl
said_stands state said (answers {handshake = handshake} {unread = bytes} f r) stands = idles _ (ap awaited (after_answer_is handshake bytes f r)) stands
said_stands state said (enters {handshake = handshake} {unread = bytes} f r) stands = idles _ (ap awaited (after_entering_is handshake bytes f r)) stands
said_stands state said (hurries f r) stands = idles _ (loss_leaves state said _ (hurries f r) refl) stands
said_stands state said (fails f r) stands = idles _ (loss_leaves state said _ (fails f r) refl) stands
said_stands state said (breaks f) stands = idles _ (loss_leaves state said _ (breaks f) refl) stands
said_stands state said (garbled f) stands = idles _ (loss_leaves state said _ (garbled f) refl) stands
said_stands state said (wrong f p) stands = idles _ (loss_leaves state said _ (wrong f p) refl) stands
said_stands state said again stands = idles _ refl stands

coming_shared : (config : Config) (past : List Item) (from : ℕ) (said : LinkStep) → Says (linked from past) said → Shared config past
    → Shared config (Comes from said ∷ past)
coming_shared config past from said it shared = λ link. by_test link (from == link) refl
  where
    by_test : (link : ℕ) (test : Bool) → (from == link) ≡ test
        → Stands link (statements config (Comes from said ∷ past)).history (if test then with_played said (asked_on link past) (set_on config link past) else set_on config link past)
        (if test then played_by said (asked_on link past) (cursor link past) else cursor link past) (serials past)
        (awaited (if test then (step (linked link past)).after else linked link past)) (asked_on link past) (sent_on past)
    by_test link true t =
        said_stands (linked link past) said (subst (λ (l : ℕ). Says (linked l past) said) (eqb-true from link t) it)
        (shrunk (moves config past (Comes from said) tt) (shared link))
    by_test link false t = shrunk (moves config past (Comes from said) tt) (shared link)

-- What is given out

-- the entry that a reply adds
pub added_is : (config : Config) (past : List Item) (link : ℕ) (command : Command) (its : Ending) → pending past ≡ Some command
    → (answered_in link (pending past) its (Some (serials past)) (statements config past)).history
    ≡ (statements config past).history ++ entry_led config command its past ∷ []
added_is config past link command its p =
    ap (λ (found : Option Command). (answered_in link found its (Some (serials past)) (statements config past)).history) p
    ∙ by_kind (is_prepared command.kind) refl
  where
    by_kind : (prepares : Bool) → is_prepared command.kind ≡ prepares
        → (answered_by (is_prepared command.kind) link command its.outcome its.named (Some (serials past)) (statements config past)).history
        ≡ (statements config past).history ++ entry_led config command its past ∷ []
    by_kind true k = rw k refl
    by_kind false k = rw k refl

module _ (config : Config) (past : List Item) (shared : Shared config past) where
  -- a command is added, which was sent on a link that had all before it
  accepts_shared : (number from : ℕ) (command : Command) (payload : Payload) (its : Ending)
      → IsCaused config (Tells number (Passes from command payload (Some its) Accepts)) past
      → Shared config (Puts (Tells number (Passes from command payload (Some its) Accepts)) ∷ past)
  accepts_shared number from command payload its cause = λ link.
      subst (λ (now : List HistoryEntry). Stands link now (if from == link then set_on config link past ++ (entry_led config command its past) ∷ [] else set_on config link past)
      (if from == link then serials past + 1 else cursor link past) (serials past + 1) (exchange link past) (asked_on link past) None)
      (sym (added_is config past from command its cause.0.of_reply.pending.waits)) (by_test link (from == link) refl)
    where
      led : (link : ℕ) → from ≡ link
          → Stands link ((statements config past).history ++ (entry_led config command its past) ∷ []) (set_on config link past ++ (entry_led config command its past) ∷ []) (serials past + 1) (serials past + 1)
          (exchange link past) (asked_on link past) None
      led link same =
          let stands = shared link in
          let none : exchange link past ≡ None = ap (λ (l : ℕ). exchange l past) (sym same) ∙ cause.2 in
          record {
            placed = placed_led (entry_led config command its past) stands.within (stands.leads (cause.0.of_reply.sent ∙ ap Some same)).1 stands.placed.rises;
            within = omega arith;
            plays = λ e next a q. let clash : None ≡ Some e = sym none ∙ a in absurd cc;
            leads = λ s. absurd cc;
          }

      beside : (link : ℕ)
          → Stands link ((statements config past).history ++ (entry_led config command its past) ∷ []) (set_on config link past) (cursor link past) (serials past + 1)
          (exchange link past) (asked_on link past) None
      beside link =
          let stands = shared link in
          let within = stands.within in
          record {
            placed = placed_more (entry_led config command its past) within stands.placed;
            within = omega arith;
            plays = λ e next a q.
                let played = stands.plays e next a q in
                let below = played.1 in
                (placed_more (entry_led config command its past) (omega arith) played.0, omega arith);
            leads = λ s. absurd cc;
          }

      by_test : (link : ℕ) (test : Bool) → (from == link) ≡ test
          → Stands link ((statements config past).history ++ (entry_led config command its past) ∷ []) (if test then set_on config link past ++ (entry_led config command its past) ∷ [] else set_on config link past)
          (if test then serials past + 1 else cursor link past) (serials past + 1) (exchange link past) (asked_on link past) None
      by_test link true t = led link (eqb-true from link t)
      by_test link false t = beside link

  tell_shared : (number : ℕ) (tell : Tell) → IsCaused config (Tells number tell) past → Shared config (Puts (Tells number tell) ∷ past)
  tell_shared number (Passes from command payload (Some its) Accepts) cause = accepts_shared number from command payload its cause
  tell_shared number (Passes from command payload (Some its) Keeps) cause = λ link.
      sent_elsewhere None (λ s. absurd cc) (shrunk (moves config past (Puts (Tells number (Passes from command payload (Some its) Keeps))) tt) (shared link))
  tell_shared number (Passes from command payload (Some its) Nothing) cause = λ link.
      sent_elsewhere None (λ s. absurd cc) (shrunk (moves config past (Puts (Tells number (Passes from command payload (Some its) Nothing))) tt) (shared link))
  tell_shared number (Passes from command payload None recording) cause = shared
  tell_shared number (Owns status) cause = shared
  tell_shared number (Refuses error) cause = λ link. shrunk (moves config past (Puts (Tells number (Refuses error))) tt) (shared link)

  open_shared : (opened server : ℕ) (login : Login) → sent_on past ≡ None → Shared config (Puts (Opens opened server login) ∷ past)
  open_shared opened server login unsent = λ link. by_test link (opened == link)
    where
      from_none : (list : List HistoryEntry) → From 0 list
      from_none [] = tt
      from_none (first ∷ others) = (omega arith, from_none others)

      by_test : (link : ℕ) (test : Bool)
          → Stands link (statements config past).history (if test then [] else set_on config link past) (if test then 0 else cursor link past) (serials past)
          (awaited (if test then opening login else linked link past)) (if test then None else asked_on link past) (sent_on past)
      by_test link true = record {
        placed = record { lower = []; upper = (statements config past).history; is = refl; among = no_entry; rises = tt; above = from_none (statements config past).history };
        within = omega arith;
        plays = λ e its a q. absurd cc;
        leads = λ s. let clash : None ≡ Some link = sym unsent ∙ s in absurd cc;
      }
      by_test link false = shared link

  -- the session sends something by itself: of an entry of the history it is known that it is the next one, and that the pending command isn't out on
  -- the link
  own_shared : (to : ℕ) (purpose : Purpose)
      → ((entry : HistoryEntry) → Some purpose ≡ Some (Plays entry) → unplayed (cursor to past) (statements config past) ≡ Some entry)
      → (link : ℕ) → Stands link (statements config past).history (set_on config link past) (cursor link past) (serials past)
      (awaited (if to == link then sent_all (sent_for purpose) (kind_of purpose) else linked link past))
      (if to == link then Some purpose else asked_on link past) (sent_on past)
  own_shared to purpose its link = by_test (to == link) refl
    where
      next : to ≡ link → (entry : HistoryEntry) → Some purpose ≡ Some (Plays entry) → unplayed (cursor link past) (statements config past) ≡ Some entry
      next same entry q = subst (λ (l : ℕ). unplayed (cursor l past) (statements config past) ≡ Some entry) same (its entry q)

      by_test : (test : Bool) → (to == link) ≡ test → Stands link (statements config past).history (set_on config link past) (cursor link past) (serials past)
          (awaited (if test then sent_all (sent_for purpose) (kind_of purpose) else linked link past))
          (if test then Some purpose else asked_on link past) (sent_on past)
      by_test true t =
          let stands = shared link in
          record {
            placed = stands.placed;
            within = stands.within;
            plays = λ e entry a q.
                let e = next (eqb-true to link t) entry q in
                let between = unplayed_between config past link entry e in
                (played_next stands.placed (serials past) entry (history_rises config past) e between.0, between.1);
            leads = λ s.
                let all = (stands.leads s).1 in (
                  (λ entry q.
                      let none = none_next (cursor link past) all stands.placed.rises in
                      let clash : None ≡ Some entry = sym none ∙ next (eqb-true to link t) entry q in cc),
                  all,
                );
          }
      by_test false t = shared link

  -- the client's command goes on a link that has it all
  ask_shared : (to : ℕ) (command : Command) (id : Option ℕ) → unplayed (cursor to past) (statements config past) ≡ None
      → Shared config (Puts (Sends to (Asks command id)) ∷ past)
  ask_shared to command id all = λ link. by_test link (to == link) refl (own_shared to (Asks command id) (λ its q. absurd cc) link)
    where
      by_test : (link : ℕ) (test : Bool) → (to == link) ≡ test
          → Stands link (statements config past).history (set_on config link past) (cursor link past) (serials past)
          (awaited (if test then sent_all (sent_for (Asks command id)) (kind_of (Asks command id)) else linked link past))
          (if test then Some (Asks command id) else asked_on link past) (sent_on past)
          → Stands link (statements config past).history (set_on config link past) (cursor link past) (serials past)
          (awaited (if test then sent_all (sent_for (Asks command id)) (kind_of (Asks command id)) else linked link past))
          (if test then Some (Asks command id) else asked_on link past) (Some to)
      by_test link true t stands = record {
        placed = stands.placed;
        within = stands.within;
        plays = stands.plays;
        leads = λ s.
            let same : to ≡ link = same_some to link s in (
              (λ entry q. absurd cc),
              all_placed stands.placed (subst (λ (l : ℕ). unplayed (cursor l past) (statements config past) ≡ None) same all),
            );
      }
      by_test link false t stands =
          sent_elsewhere (Some to) (λ s.
          let yes : (link == link) ≡ false = subst (λ (l : ℕ). (l == link) ≡ false) (same_some to link s) t in
          let itself : (link == link) ≡ true = eq-eqb link link refl in
          let clash : true ≡ false = sym itself ∙ yes in absurd cc) stands

  put_shared : (put : Put) → IsCaused config put past → Shared config (Puts put ∷ past)
  put_shared (Hands packets) cause = shared
  put_shared (Records server gtid) cause = shared
  put_shared (Tells number tell) cause = tell_shared number tell cause
  put_shared Routes cause = shared
  put_shared (Opens opened server login) cause = open_shared opened server login cause.0.unsent
  put_shared (LogsInto to packets) cause = shared
  put_shared (Sends to Prepares) cause = own_shared to Prepares (λ entry q. absurd cc)
  put_shared (Sends to (Waits gtid seconds)) cause = own_shared to (Waits gtid seconds) (λ entry q. absurd cc)
  put_shared (Sends to (Probes gtid)) cause = own_shared to (Probes gtid) (λ entry q. absurd cc)
  put_shared (Sends to (Plays entry)) cause =
      own_shared to (Plays entry)
      (λ its q. let same : entry ≡ its = cc in subst (λ (x : HistoryEntry). unplayed (cursor to past) (statements config past) ≡ Some x) same cause.4)
  put_shared (Sends to (Asks command id)) cause = ask_shared to command id cause.7
  put_shared (Forgets to id) cause = shared
  put_shared (Drops gone why) cause = λ link. sent_elsewhere _ (λ s. (unless_before gone link (sent_on past) s).0) (shared link)
  put_shared (Closes reason) cause = shared

-- Each step

due_shared : {config : Config} {past : List Item} {item : Item} → Due config past item → Shared config past → Shared config (item ∷ past)
due_shared {config} {past} (comes {link = from} {said = said} has a it) shared = coming_shared config past from said it shared
due_shared (connects p f c) shared = shared
due_shared {config} {past} {item} (takes p f) shared = λ link.
    sent_elsewhere None (λ s. absurd cc) (shrunk (moves config past item tt) (shared link))

step_shared : {config : Config} {past : List Item} {item : Item} → Step config past item → ((put : Put) → item ≡ Puts put → IsCaused config put past)
    → Shared config past → Shared config (item ∷ past)
step_shared {config} {past} (pays {put = put} o) cause shared = put_shared config past shared put (cause put refl)
step_shared (asks o n p g w) cause shared = shared
step_shared {config} {past} (prepares {link = to} o n has f) cause shared = put_shared config past shared (Sends to Prepares) (cause _ refl)
step_shared (forgets o n has f t) cause shared = shared
step_shared {config} {past} (plays_it {link = to} {entry = entry} o n has f t s) cause shared =
    put_shared config past shared (Sends to (Plays entry)) (cause _ refl)
step_shared {config} {past} (sends {link = to} {command = command} {id = id} o n p s g f t d i v) cause shared =
    put_shared config past shared (Sends to (Asks command id)) (cause _ refl)
step_shared {config} {past} (waits_first {link = to} {gtid = gtid} o n p s g f t d v) cause shared =
    put_shared config past shared (Sends to (Waits gtid _)) (cause _ refl)
step_shared {config} {past} (probes_first {link = to} {gtid = gtid} o n p s g f t d v) cause shared =
    put_shared config past shared (Sends to (Probes gtid)) (cause _ refl)
step_shared (floods o n p above) cause shared = shared
step_shared (reads o n due) cause shared = due_shared due shared

input_shared : (config : Config) (past : List Item) (item : Item) → IsInput item past → Shared config past → Shared config (item ∷ past)
input_shared config past (ClientBytes bytes) input shared = shared
input_shared config past (LinkReady ready) input shared = λ link. same_owed _ (ready_keeps past ready link) (shared link)
input_shared config past (LinkBytes from bytes) input shared = λ link. same_owed _ (bytes_keep past from bytes link) (shared link)
input_shared config past ClientGone input shared = shared
input_shared config past (LinkLost gone) input shared = λ link. sent_elsewhere _ (λ s. (unless_before gone link (sent_on past) s).0) (shared link)
input_shared config past (Ticks reading) input shared = shared
input_shared config past _ input shared = absurd input

nothing_shared : (config : Config) → Shared config []
nothing_shared config = λ link. record {
  placed = record { lower = []; upper = []; is = refl; among = no_entry; rises = tt; above = tt };
  within = omega arith;
  plays = λ e entry a q. absurd cc;
  leads = λ s. absurd cc;
}

begins_shared : (config : Config) (item : Item) → IsBeginning item → Shared config (item ∷ [])
begins_shared config (Accepted session scramble reading) its = nothing_shared config
begins_shared config (TurnsAway told) its = nothing_shared config
begins_shared config (Began opened server reading) its = λ link. by_test link (opened == link)
  where
    by_test : (link : ℕ) (test : Bool) → Stands link [] [] 0 0 (awaited (if test then Rests else Rests)) None None
    by_test link true = nothing_shared config link
    by_test link false = nothing_shared config link
begins_shared config _ its = absurd its

pub legal_shared : {config : Config} {past : List Item} → IsRecord config past → Shared config past
legal_shared {config} (begins {item = item} its) = begins_shared config item its
legal_shared {config} (goes {past = past} {item = item} legal e) =
    step_shared (of_next config past item e)
    (λ put is. (subst (λ (i : Item). AreCaused config (i ∷ past)) is (causes config (item ∷ past) (goes legal e))).0) (legal_shared legal)
legal_shared (answered legal asked) = legal_shared legal
legal_shared {config} (hears {past = past} {item = item} legal rests none n input) = input_shared config past item input (legal_shared legal)
legal_shared (starves legal once can its) = legal_shared legal

-- what stands below an item of a legal record
below_shared : {config : Config} {item : Item} {past : List Item} → IsRecord config (item ∷ past) → Shared config past
below_shared {config} (begins its) = nothing_shared config
below_shared (goes legal e) = legal_shared legal
below_shared (answered legal asked) = legal_shared legal
below_shared (hears legal rests none n input) = legal_shared legal
below_shared (starves legal once can its) = legal_shared legal

-- The law

pub sets_in_order : SetsInOrder
sets_in_order config past link legal =
    let stands = legal_shared legal link in
    (stands.placed.rises, below_lower stands.placed ∙ sym (standing_lower stands.placed))

pub sets_before_it_asks : SetsBeforeItAsks
sets_before_it_asks config past link command id legal =
    let cause = (causes config (Puts (Sends link (Asks command id)) ∷ past) legal).0 in
    let stands = below_shared legal link in
    standing_all (cursor link past) (all_placed stands.placed cause.7) stands.placed.rises

pub only_prepares_leave : OnlyPreparesLeave
only_prepares_leave config past link entry legal has gone =
    let stands = legal_shared legal link in only_prepares stands.placed entry has gone

pub plays_in_order : PlaysInOrder
plays_in_order config past link entry legal =
    let cause = (causes config (Puts (Sends link (Plays entry)) ∷ past) legal).0 in
    let stands = below_shared legal link in
    let next = next_placed stands.placed entry cause.4 in
    (next.0, next.1 ∙ ap (λ (list : List HistoryEntry). list ++ entry ∷ next.0) (sym (standing_lower stands.placed)))
