-- The reply to a command that was sent is awaited, until its end is passed on or the session is closed.
use Rattle.std.proofs.Common.{◌≡◌, ℕ, ◌+◌, Bool, true, false, List, [], ◌∷◌, ◌++◌, drop, refl, sym, ap, subst, ◌∙◌, Option, Some, None}
use Rattle.std.specs.Prelude.{◌==◌, Contains}
use Rattle.std.proofs.lemmas.Bool.{eqb-true, eq-eqb}
use Rattle.rws_wire.specs.declared.drop_cause.DropCause.{DropCause}
use Rattle.rws_reply.specs.declared.kind.Kind.{Kind}
use Rattle.rws_reply.specs.declared.kind.Progress.{Progress}
use Rattle.rws_reply.specs.declared.kind.Progress.TheVariants.{More, Whole as Ends}
use Rattle.rws_reply.specs.declared.role.Role.{Role}
use Rattle.rws_reply.specs.Tracking.{progress, role}
use Rattle.rws_reply.specs.Replies.{Payload}
use Rattle.rws_reply.specs.ClientForm.{client_reply}
use Rattle.rws_wire.specs.Payloads.{first_payload}
use Rattle.rws_wire.specs.Payloads.Beginning.{Whole}
use Rattle.rws_link.specs.declared.step.LinkStep.{LinkStep}
use Rattle.rws_link.specs.declared.step.LinkStep.TheVariants as steps
use Rattle.rws_link.specs.Stepping.{LinkState, Awaits, Exchange, Rests, is_some_byte, step, with_part}
use Rattle.rws_link.specs.declared.step.LinkCause.{LinkCause}
use Rattle.rws_gtid.specs.declared.Gtid.{Gtid}
use Rattle.rws_pool.specs.declared.words.PoolWords.{PoolWords}
use Rattle.rws_select.specs.declared.selector.Load.{Load}
use Rattle.rws_route.specs.declared.destination.Target.{Target}
use Rattle.rws_config.specs.declared.config.Config.{Config}
use Rattle.rws_config.specs.declared.limits.TheConstants.{SERVER_PAYLOAD}
use Rattle.rws_commands.specs.declared.command.Command.{Command}
use Rattle.rws_record.specs.Item.{Item, Tell, Put}
use Rattle.rws_record.specs.Item.Item.{Accepted, TurnsAway, Began, ClientBytes, LinkReady, LinkBytes, ClientGone, LinkLost, Ticks, Routed, Comes, Connects, Floods, Puts}
use Rattle.rws_record.specs.Item.{Purpose}
use Rattle.rws_record.specs.Item.Purpose.{Prepares, Asks, Plays, Waits, Probes}
use Rattle.rws_record.specs.Item.Put.{Hands, Tells, Records, Routes, LogsInto, Sends, Forgets, Drops, Closes}
use Rattle.rws_record.specs.Item.Tell.{Passes, Owns, Refuses}
use Rattle.rws_record.specs.Values.{asking, links, server_of, asked_on, is_up, awaited, exchange, linked, named_in, named_on, sent_all, statements, pending, sent_on, reply_number, told, is_over, is_starved}
use Rattle.rws_record.specs.Rules.{next, owed, commit_by, recording_commit, after_answer, found_in, flood_limit, form_of, recording_of}
use Rattle.rws_record.proofs.LinkedLemmas.{Says, after_part_is}
use Rattle.rws_record.proofs.LinkedLemmas.Says.{answers, enters, hurries, fails, breaks, part, garbled, wrong, again}
use Rattle.rws_record.specs.Record.{IsBeginning, IsRecord, IsInput}
use Rattle.rws_record.specs.Record.IsRecord.{begins, steps as goes, answers as answered, hears, starves}
use Rattle.rws_record.proofs.StepLemmas.{Due, Step, of_next, rests_owing_nothing}
use Rattle.rws_record.proofs.StepLemmas.Due.{comes, connects, takes}
use Rattle.rws_record.proofs.StepLemmas.Step.{pays, asks, prepares as prepares_it, forgets, plays, sends, waits_first, probes_first, floods, reads}
use Rattle.rws_record.proofs.OpeningLemmas.{asks_owing_nothing}
use Rattle.rws_laws.specs.Servers.{asks_first, came_on}
use Rattle.rws_laws.proofs.AskedLemmas.{AskedNow, legal_asked}
use Rattle.rws_laws.proofs.AskedLemmas.AskedNow.{asked_now}
use Rattle.rws_laws.proofs.CameLemmas.{bytes_keep, legal_came, ready_keeps}
use Rattle.rws_laws.proofs.Sound.{Caused, Sound, WaitsOn, handle, same_some}
use Rattle.rws_laws.proofs.SendableLemmas.{sends_something}
use Rattle.rws_commands.specs.Commands.{asked_under}
use Rattle.rws_commands.specs.Statements.{next_handle}
use Rattle.rws_laws.proofs.Sound.WaitsOn.{prepares, repeats, checks, replies}
use Rattle.rws_laws.proofs.Sound.Caused.{drops, leaves, closes, hands, logs_on, opens, tells, records}
use Rattle.rws_laws.proofs.ListLemmas.{differs, has_it}
use Rattle.rws_laws.proofs.ReplyLemmas.{unless_before}
use Rattle.rws_record.proofs.WantLemmas.{input_starved, step_starved, unstarved}
use Rattle.rws_laws.proofs.GivenLemmas.{clean}
use Rattle.rws_laws.proofs.SoundLemmas.{freed, legal_sound}

-- what is owed ends the reply on a link, or gives the link up, or ends the session
abbrev ends_it : ℕ → List Put → Bool
ends_it link (Tells number (Passes from command payload (Some outcome) recording) ∷ others) = true
ends_it link (Drops lost cause ∷ others) = link == lost
ends_it link (Closes reason ∷ others) = true
ends_it link (Records server gtid ∷ others) = ends_it link others
ends_it link _ = false

-- whatever commit stands in front
ends_behind : (link server : ℕ) (commit : Option Gtid) (list : List Put) → ends_it link (recording_commit server commit ++ list) ≡ ends_it link list
ends_behind link server None list = refl
ends_behind link server (Some gtid) list = refl

-- the reply to what was sent on a link
data AwaitsOn (config : Config) (link : ℕ) (past : List Item) : Type 0 where
  awaits : {e : Exchange} {command : Command} {id : Option ℕ} → exchange link past ≡ Some e → asked_on link past ≡ Some (Asks command id) → AwaitsOn config link past
  settles : ends_it link (owed config past) ≡ true → AwaitsOn config link past
  over : is_over past ≡ true → AwaitsOn config link past

abbrev Awaiting : Config → List Item → Type 0
Awaiting config past = (link : ℕ) → sent_on past ≡ Some link → AwaitsOn config link past

-- What is given out

module _ (config : Config) (past : List Item) (sound : Sound config past) (awaiting : Awaiting config past) where
  -- what changes nothing of it, and doesn't end the reply
  quiet : (put : Put) (others : List Put) → owed config past ≡ put ∷ others → ((link : ℕ) → ends_it link (put ∷ others) ≡ false)
      → sent_on (Puts put ∷ past) ≡ sent_on past → ((link : ℕ) → exchange link (Puts put ∷ past) ≡ exchange link past)
      → ((link : ℕ) → asked_on link (Puts put ∷ past) ≡ asked_on link past)
      → is_over (Puts put ∷ past) ≡ is_over past → Awaiting config (Puts put ∷ past)
  quiet put others o not same x q n = λ link s. elim (awaiting link (sym same ∙ s)) [
    | awaits a p ↦ awaits (x link ∙ a) (q link ∙ p)
    | settles end ↦ absurd (let e : false ≡ true = sym (not link) ∙ ap (ends_it link) (sym o) ∙ end in cc)
    | over is ↦ over (n ∙ is)
  ]

  -- a commit is told of
  record_awaits : (server : ℕ) (gtid : Gtid) (others : List Put) → owed config past ≡ Records server gtid ∷ others
      → Awaiting config (Puts (Records server gtid) ∷ past)
  record_awaits server gtid others o = λ link s. elim (awaiting link s) [
    | awaits a p ↦ awaits a p
    | settles end ↦ settles (ap (ends_it link) (ap (drop 1) o) ∙ sym (ap (ends_it link) o) ∙ end)
    | over is ↦ over is
  ]

  tell_awaits : (number : ℕ) (tell : Tell) (others : List Put) → owed config past ≡ Tells number tell ∷ others
      → Awaiting config (Puts (Tells number tell) ∷ past)
  tell_awaits number (Passes from command payload (Some outcome) recording) others o = λ link s. absurd cc
  tell_awaits number (Passes from command payload None recording) others o =
      quiet (Tells number (Passes from command payload None recording)) others o (λ link. refl) refl (λ link. refl) (λ link. refl) refl
  tell_awaits number (Owns status) others o = quiet (Tells number (Owns status)) others o (λ link. refl) refl (λ link. refl) (λ link. refl) refl
  tell_awaits number (Refuses error) others o = quiet (Tells number (Refuses error)) others o (λ link. refl) refl (λ link. refl) (λ link. refl) refl

  -- on another link than the one that is given up
  drop_awaits : (gone : ℕ) (cause : DropCause) (others : List Put) → owed config past ≡ Drops gone cause ∷ others
      → Awaiting config (Puts (Drops gone cause) ∷ past)
  drop_awaits gone cause others o = λ link s.
      let before = unless_before gone link (sent_on past) s in
      elim (awaiting link before.0) [
        | awaits a p ↦ awaits a p
        | settles end ↦ absurd (let e : false ≡ true = sym before.1 ∙ sym (ap (ends_it link) o) ∙ end in cc)
        | over is ↦ over is
      ]

  put_awaits : (put : Put) (others : List Put) → owed config past ≡ put ∷ others → Caused config (put ∷ others) past
      → Awaiting config (Puts put ∷ past)
  put_awaits put others o (tells {number = number} {tell = tell} cause rest) = tell_awaits number tell others o
  put_awaits put others o (drops {link = gone} {cause = why} n cause) = drop_awaits gone why [] o
  put_awaits put others o (leaves {link = gone} {cause = why} lossless cause rest) = drop_awaits gone why others o
  put_awaits put others o (closes {reason = reason} cause) = λ link s. over refl
  put_awaits put others o (hands {packets = packets} cause rest) = quiet (Hands packets) others o (λ link. refl) refl (λ link. refl) (λ link. refl) refl
  put_awaits put others o (records {server = server} {gtid = gtid} cause rest) = record_awaits server gtid others o
  put_awaits put others o (logs_on {link = to} {packets = packets} cause) = quiet (LogsInto to packets) others o (λ link. refl) refl (λ link. refl) (λ link. refl) refl
  put_awaits put others o (opens cause) = λ link s. let clash : None ≡ Some link = sym cause.0.unsent ∙ s in absurd cc

  -- A payload that came

  module _ (o : owed config past ≡ []) (n : is_over past ≡ false) where
    -- while nothing is owed
    its_reply : (link : ℕ) → sent_on past ≡ Some link
        → (e : Exchange) × (command : Command) × (id : Option ℕ) × (exchange link past ≡ Some e) × (asked_on link past ≡ Some (Asks command id))
    its_reply link s = elim (awaiting link s) [
      | awaits {e = e} {command = command} {id = id} a p ↦ (e, command, id, a, p)
      | settles end ↦ absurd (let e : false ≡ true = ap (ends_it link) (sym o) ∙ end in cc)
      | over is ↦ absurd cc
    ]

    -- a payload that brings the reply on leaves it awaited, a last one is passed on with its end, and a loss closes the session
    owed_by : (from : ℕ) (command : Command) (id : Option ℕ) (payload rest : Payload) (number : ℕ) (its : Role) (far : Progress)
        → asked_on from past ≡ Some (Asks command id)
        → owed config (Comes from (steps.Part payload its far number (is_some_byte rest)) ∷ past)
        ≡ recording_commit (server_of from past) (commit_by config.gtid_domain its payload (Some (Asks command id)))
        ++ after_answer from command (form_of (handle config past) its payload) (named_in its payload (named_on from past)) far (is_some_byte rest) (reply_number past)
        (λ outcome. recording_of config from past outcome)
    owed_by from command id payload rest number its far a = rw a refl

    -- a link that owes nothing to the client says something
    beside : (from : ℕ) (said : LinkStep) → ((link : ℕ) → from ≡ link → sent_on past ≡ Some link → ⊥) → Awaiting config (Comes from said ∷ past)
    beside from said other = λ link s. by_link link s (from == link) refl
      where
        by_link : (link : ℕ) → sent_on past ≡ Some link → (same : Bool) → (from == link) ≡ same → AwaitsOn config link (Comes from said ∷ past)
        by_link link s true t = absurd (other link (eqb-true from link t) s)
        by_link link s false t = let mine = its_reply link s in awaits {e = mine.0} {command = mine.1} {id = mine.2} (rw t mine.3) mine.4

    part_awaits : (from : ℕ) (e : Exchange) (bytes payload rest : Payload) (number : ℕ) (its : Role) (far : Progress)
        → linked from past ≡ Awaits e bytes → first_payload SERVER_PAYLOAD e.next bytes ≡ Whole payload number rest
        → role e.kind e.sofar payload ≡ Some its → progress e.kind e.sofar payload ≡ Some far
        → WaitsOn from e (asked_on from past) (is_up from past) (pending past) (sent_on past) (handle config past) (told past) (owed config past)
        → Awaiting config (Comes from (steps.Part payload its far number (is_some_byte rest)) ∷ past)
    part_awaits from e bytes payload rest number its far is f r p (prepares asked up) =
        beside from (steps.Part payload its far number (is_some_byte rest))
        (λ link same s.
        let there = sound.sent link s in
        let down : is_up link past ≡ false = subst (λ (l : ℕ). is_up l past ≡ false) same up in
        let clash : false ≡ true = sym down ∙ there.3 in cc)
    part_awaits from e bytes payload rest number its far is f r p (repeats {entry = entry} asked) =
        beside from (steps.Part payload its far number (is_some_byte rest))
        (λ link same s.
        let mine = its_reply link s in
        let clash : Some (Plays entry) ≡ Some (Asks mine.1 mine.2) = sym asked ∙ ap (λ (l : ℕ). asked_on l past) same ∙ mine.4 in cc)
    part_awaits from e bytes payload rest number its far is f r p (checks {check = check} q) =
        beside from (steps.Part payload its far number (is_some_byte rest))
        (λ link same s.
        let mine = its_reply link s in
        let clash : Some check ≡ None = sym q ∙ ap (λ (l : ℕ). asks_first (asked_on l past)) same ∙ ap asks_first mine.4 in cc)
    part_awaits from e bytes payload rest number its (Ends outcome) is f r p (replies waits) = λ link s.
        settles (ap (ends_it link) (owed_by from waits.command waits.id payload rest number its (Ends outcome) waits.asked_it)
        ∙ ends_behind link (server_of from past) (commit_by config.gtid_domain its payload (Some (Asks waits.command waits.id)))
        (after_answer from waits.command (form_of (handle config past) its payload) (named_in its payload (named_on from past)) (Ends outcome) (is_some_byte rest)
        (reply_number past) (λ its_outcome. recording_of config from past its_outcome)))
    part_awaits from e bytes payload rest number its More is f r p (replies waits) = λ link s. (by_link link s (from == link) refl)
      where
        by_link : (link : ℕ) → sent_on past ≡ Some link → (same : Bool) → (from == link) ≡ same
            → AwaitsOn config link (Comes from (steps.Part payload its More number (is_some_byte rest)) ∷ past)
        by_link link s true t =
            let same : from ≡ link = eqb-true from link t in
            let is : linked link past ≡ Awaits e bytes = subst (λ (l : ℕ). linked l past ≡ Awaits e bytes) same is in
            awaits {e = with_part payload number e} {command = waits.command}
            (rw t (ap (λ (l : LinkState). awaited (step l).after) is ∙ ap awaited (after_part_is e bytes payload rest number its More f r p)))
            (ap (λ (l : ℕ). asked_on l past) (sym same) ∙ waits.asked_it)
        by_link link s false t = let mine = its_reply link s in awaits {e = mine.0} {command = mine.1} {id = mine.2} (rw t mine.3) mine.4

    logging : (from : ℕ) (said : LinkStep) → awaited (linked from past) ≡ None → Awaiting config (Comes from said ∷ past)
    logging from said none =
        beside from said
        (λ link same s.
        let mine = its_reply link s in
        let none : exchange link past ≡ None = subst (λ (l : ℕ). exchange l past ≡ None) same none in
        let clash : None ≡ Some mine.0 = sym none ∙ mine.3 in cc)

    -- a link that is lost is given up, and on another the reply is still awaited
    loses_awaits : (from : ℕ) (cause : LinkCause) → Awaiting config (Comes from (steps.Lost cause) ∷ past)
    loses_awaits from cause = λ link s. by_link link s (link == from) refl
      where
        by_link : (link : ℕ) → sent_on past ≡ Some link → (same : Bool) → (link == from) ≡ same
            → AwaitsOn config link (Comes from (steps.Lost cause) ∷ past)
        by_link link s true t = settles t
        by_link link s false t =
            let mine = its_reply link s in let other = differs link from t in awaits {e = mine.0} {command = mine.1} {id = mine.2} (rw other mine.3) mine.4

    coming_awaits : (from : ℕ) (state : LinkState) (said : LinkStep) → linked from past ≡ state → Contains (links past) from → Says state said
        → Awaiting config (Comes from said ∷ past)
    coming_awaits from state said is has (part {e = e} {unread = bytes} {payload = payload} {rest = rest} {number = number} {its = its} {far = far} f r p) =
        part_awaits from e bytes payload rest number its far is f r p (sound.waits from e (has_it (links past) from has) (ap awaited is))
    coming_awaits from state said is has (answers f r) = logging from said (ap awaited is)
    coming_awaits from state said is has (enters f r) = logging from said (ap awaited is)
    coming_awaits from state said is has (hurries f r) = loses_awaits from _
    coming_awaits from state said is has (fails f r) = loses_awaits from _
    coming_awaits from state said is has (breaks f) = loses_awaits from _
    coming_awaits from state said is has (garbled f) = loses_awaits from _
    coming_awaits from state said is has (wrong f p) = loses_awaits from _
    coming_awaits from state said is has again = loses_awaits from _

    still : (item : Item) → sent_on (item ∷ past) ≡ sent_on past
        → ((link : ℕ) → exchange link (item ∷ past) ≡ exchange link past) → ((link : ℕ) → asked_on link (item ∷ past) ≡ asked_on link past)
        → Awaiting config (item ∷ past)
    still item same x q = λ link s. let its = its_reply link (sym same ∙ s) in awaits {command = its.1} {id = its.2} (x link ∙ its.3) (q link ∙ its.4)

    due_awaits : {item : Item} → Due config past item → Awaiting config (item ∷ past)
    due_awaits (comes {link = from} {said = said} has a it) = coming_awaits from (linked from past) said refl has it
    due_awaits (takes p f) = λ link s. absurd cc
    due_awaits (connects {said = said} p f c) = still (Connects said) refl (λ link. refl) (λ link. refl)

    input_awaits : (item : Item) → IsInput item past → Awaiting config (item ∷ past)
    input_awaits (ClientBytes bytes) input = still (ClientBytes bytes) refl (λ link. refl) (λ link. refl)
    input_awaits (LinkReady ready) input = still (LinkReady ready) refl (ready_keeps past ready) (λ link. refl)
    input_awaits (LinkBytes from bytes) input = still (LinkBytes from bytes) refl (bytes_keep past from bytes) (λ link. refl)
    input_awaits ClientGone input = λ link s. over refl
    input_awaits (LinkLost gone) input = λ link s.
        let before = unless_before gone link (sent_on past) s in let mine = its_reply link before.0 in awaits {e = mine.0} {command = mine.1} {id = mine.2} mine.3 mine.4
    input_awaits (Ticks reading) input = still (Ticks reading) refl (λ link. refl) (λ link. refl)
    input_awaits _ input = absurd input

send_awaits : (config : Config) (past : List Item) (to : ℕ) (command : Command) (id : Option ℕ)
    → (e : Exchange) × (awaited (sent_all (asked_under id command.body) command.kind) ≡ Some e) → Awaiting config (Puts (Sends to (Asks command id)) ∷ past)
send_awaits config past to command id its = λ link s.
    let same : to ≡ link = same_some to link s in
    let itself : (to == link) ≡ true = eq-eqb to link same in
    awaits {e = its.0} {command = command} {id = id} (rw itself its.1) (rw itself refl)

-- the session sends something by itself on a link that owes no reply; the pending command, if it was sent, was sent on another
own_awaits : (config : Config) (past : List Item) (to : ℕ) (purpose : Purpose) → linked to past ≡ Rests
    → ((link : ℕ) → sent_on past ≡ Some link
    → (e : Exchange) × (command : Command) × (id : Option ℕ) × (exchange link past ≡ Some e) × (asked_on link past ≡ Some (Asks command id)))
    → ((link : ℕ) → sent_on (Puts (Sends to purpose) ∷ past) ≡ Some link → sent_on past ≡ Some link) → Awaiting config (Puts (Sends to purpose) ∷ past)
own_awaits config past to purpose is its same = λ link s. by_link link (same link s) (to == link) refl
  where
    by_link : (link : ℕ) → sent_on past ≡ Some link → (test : Bool) → (to == link) ≡ test → AwaitsOn config link (Puts (Sends to purpose) ∷ past)
    by_link link s true t =
        let mine = its link s in
        let clash : None ≡ Some mine.0 = sym (ap awaited is) ∙ ap (λ (l : ℕ). exchange l past) (eqb-true to link t) ∙ mine.3 in absurd cc
    by_link link s false t = let mine = its link s in awaits {e = mine.0} {command = mine.1} {id = mine.2} (rw t mine.3) (rw t mine.4)

step_awaits : {config : Config} {past : List Item} {item : Item} → Step config past item → Sound config past → IsRecord config past → Awaiting config past
    → Awaiting config (item ∷ past)
step_awaits {config} {past} (pays {put = put} {others = others} o) sound legal awaiting =
    put_awaits config past sound awaiting put others o (subst (λ (list : List Put). Caused config list past) o sound.owes)
step_awaits {config} {past} (asks o n p k l) sound legal awaiting =
    still config past sound awaiting o n (Puts Routes) refl (λ link. refl) (λ link. refl)
step_awaits {config} {past} (prepares_it {link = to} o n k c) sound legal awaiting =
    own_awaits config past to Prepares (freed false to past c).2 (its_reply config past sound awaiting o n) (λ link s. s)
step_awaits {config} {past} (plays {link = to} {entry = entry} o n k c t s) sound legal awaiting =
    own_awaits config past to (Plays entry) (freed true to past c).2 (its_reply config past sound awaiting o n) (λ link s. s)
step_awaits {config} {past} (sends {link = to} {command = command} {id = id} o n p s k c t d i v) sound legal awaiting = send_awaits config past to command id
    (sends_something config past to command legal p k (freed true to past c).0 d id i)
step_awaits {config} {past} (waits_first {link = to} {gtid = gtid} o n p s k c t d v) sound legal awaiting =
    own_awaits config past to (Waits gtid config.causal_timeout_s) (freed true to past c).2 (its_reply config past sound awaiting o n) (λ link s. s)
step_awaits {config} {past} (probes_first {link = to} {gtid = gtid} o n p s k c t d v) sound legal awaiting =
    own_awaits config past to (Probes gtid) (freed true to past c).2 (its_reply config past sound awaiting o n) (λ link s. s)
step_awaits {config} {past} (forgets {link = to} {id = id} o n has f t) sound legal awaiting =
    still config past sound awaiting o n (Puts (Forgets to id)) refl (λ link. refl) (λ link. refl)
step_awaits {config} {past} (floods o n p above) sound legal awaiting =
    still config past sound awaiting o n (Floods (flood_limit config + 1)) refl (λ link. refl) (λ link. refl)
step_awaits {config} {past} (reads o n due) sound legal awaiting = due_awaits config past sound awaiting o n due

begins_awaiting : (config : Config) (item : Item) → IsBeginning item → Awaiting config (item ∷ [])
begins_awaiting config (Accepted session scramble reading) its = λ other s. absurd cc
begins_awaiting config (TurnsAway told) its = λ other s. absurd cc
begins_awaiting config (Began link server reading) its = λ other s. absurd cc
begins_awaiting config _ its = absurd its

-- the worker answers
answer_awaits : (config : Config) (words : PoolWords) (loads : List Load) (next : ℕ) (found : Target) {past : List Item} → AskedNow config past
    → Sound config past → Awaiting config past → owed config past ≡ [] → Awaiting config (Routed words loads next found ∷ past)
answer_awaits config words loads next found (asked_now {past = past} legal o n p g w) sound awaiting none =
    still config (Puts Routes ∷ past) sound awaiting none n (Routed words loads next found) refl (λ link. refl) (λ link. refl)

legal_awaits : {config : Config} {past : List Item} → IsRecord config past → is_starved past ≡ false → Awaiting config past
legal_awaits {config} (begins {item = item} its) fed = begins_awaiting config item its
legal_awaits {config} (goes {past = past} {item = item} legal e) fed =
    let step = of_next config past item e in
    let before = sym (step_starved step) ∙ fed in
    step_awaits step (legal_sound legal before) legal (legal_awaits legal before)
legal_awaits {config} (answered {past = past} {words = words} {loads = loads} {next_link = next} legal asked) fed =
    answer_awaits config words loads next (found_in config past words loads) (legal_asked legal asked) (legal_sound legal fed) (legal_awaits legal fed)
    (asks_owing_nothing legal asked)
legal_awaits {config} (hears {past = past} {item = item} legal rests none n input) fed =
    let before = sym (input_starved past item input) ∙ fed in
    input_awaits config past (legal_sound legal before) (legal_awaits legal before) (rests_owing_nothing config past rests none) n item input
legal_awaits (starves legal once can its) fed = absurd cc

-- where a session rests, the reply to the command that was sent is awaited, and all that came of it was told in the client's
-- form
pub rests_awaiting : (config : Config) (past : List Item) → IsRecord config past → next config past ≡ None → asking past ≡ false
    → is_over past ≡ false → (command : Command) (link : ℕ) → pending past ≡ Some command → sent_on past ≡ Some link
    → (number : ℕ) × (exchange link past ≡ Some (record { kind = command.kind; next = number; sofar = came_on link past }))
    × (told past ≡ client_reply command.kind (next_handle (statements config past)) (came_on link past))
rests_awaiting config past legal rests none n command link p s =
    let its = its_reply config past sound (legal_awaits legal fed) o n link s in
    by_waits its.0 its.3 (sound.waits link its.0 (sound.sent link s).4 its.3)
  where
    o : owed config past ≡ []
    o = rests_owing_nothing config past rests none

    fed : is_starved past ≡ false
    fed = unstarved legal o n

    sound : Sound config past
    sound = legal_sound legal fed

    by_waits : (e : Exchange) → exchange link past ≡ Some e
        → WaitsOn link e (asked_on link past) (is_up link past) (pending past) (sent_on past) (handle config past) (told past) (owed config past)
        → (number : ℕ) × (exchange link past ≡ Some (record { kind = command.kind; next = number; sofar = came_on link past }))
        × (told past ≡ client_reply command.kind (next_handle (statements config past)) (came_on link past))
    by_waits e is (prepares asked up) =
        let there = sound.sent link s in let clash : false ≡ true = sym up ∙ there.3 in absurd cc
    by_waits e is (repeats {entry = entry} asked) =
        let mine = its_reply config past sound (legal_awaits legal fed) o n link s in
        let clash : Some (Plays entry) ≡ Some (Asks mine.1 mine.2) = sym asked ∙ mine.4 in absurd cc
    by_waits e is (checks {check = check} q) =
        let mine = its_reply config past sound (legal_awaits legal fed) o n link s in
        let clash : Some check ≡ None = sym q ∙ ap asks_first mine.4 in absurd cc
    by_waits e is (replies waits) =
        let same : waits.command ≡ command = same_some waits.command command (sym waits.waits ∙ p) in
        let came = legal_came legal link e is in
        let form = clean config past sound o e waits.command waits.in_form in (
          e.next,
          is ∙ ap (λ (kind : Kind). Some (record { kind = kind; next = e.next; sofar = e.sofar })) (waits.kind ∙ ap (λ (c : Command). c.kind) same)
              ∙ ap (λ (sofar : List Payload). Some (record { kind = command.kind; next = e.next; sofar = sofar })) came,
          sym form ∙ ap (client_reply waits.command.kind (handle config past)) came
              ∙ ap (λ (c : Command). client_reply c.kind (handle config past) (came_on link past)) same,
        )
