-- A legal record stays sound when something is given out, a command is taken up, or a payload of its reply comes.
use Rattle.std.proofs.Common.{◌≡◌, ℕ, Bool, true, false, List, [], ◌∷◌, ◌++◌, drop, refl, sym, ap, subst, ◌∙◌, append_assoc, inl, inr, Option, Some, None}
use Rattle.std.specs.Prelude.{◌==◌, ◌⊎◌, if◌then◌else◌}
use Rattle.std.proofs.lemmas.Bool.{eqb-true, eq-eqb}
use Rattle.std.proofs.lemmas.List.{append-nil}
use Rattle.rws_wire.specs.declared.close_reason.CloseReason.{CloseReason}
use Rattle.rws_wire.specs.declared.drop_cause.DropCause.{DropCause}
use Rattle.rws_wire.specs.declared.drop_cause.DropCause.TheVariants.{Kept}
use Rattle.rws_wire.specs.Payloads.Beginning.{Whole}
use Rattle.rws_gtid.specs.declared.Gtid.{Gtid}
use Rattle.rws_routing.specs.declared.routing.Check.TheVariants.{Wait, Probe}
use Rattle.rws_native.specs.declared.login.Login.{Login}
use Rattle.rws_front.specs.declared.phase.Phase.TheVariants.{Commands}
use Rattle.rws_reply.specs.declared.kind.Outcome.TheVariants.{Done}
use Rattle.rws_reply.specs.declared.kind.Progress.{Progress}
use Rattle.rws_reply.specs.declared.kind.Progress.TheVariants.{More, Whole as Ends}
use Rattle.rws_reply.specs.Replies.{Payload}
use Rattle.rws_reply.specs.declared.role.Role.{Role}
use Rattle.rws_reply.specs.Tracking.{progress, role}
use Rattle.rws_reply.specs.ClientForm.{client_reply}
use Rattle.rws_link.specs.declared.step.LinkStep.{LinkStep}
use Rattle.rws_link.specs.declared.step.LinkStep.TheVariants as steps
use Rattle.rws_link.specs.Stepping.{Exchange, is_some_byte, opened as opening, with_part}
use Rattle.rws_config.specs.declared.config.Config.{Config}
use Rattle.rws_commands.specs.declared.command.Command.{Command}
use Rattle.rws_commands.specs.declared.proxy_error.ProxyError.{ProxyError}
use Rattle.rws_commands.specs.declared.proxy_error.ProxyError.TheVariants.{UnknownCommand, NotSupported, UnknownStatement, BadExecute, TooManyStatements, NotInReadOnly, TooManyConnections, CommandTooLarge, NoPrimary, PrimaryBehind, OutOfMemory}
use Rattle.rws_commands.specs.declared.judged.Judged.{Judged}
use Rattle.rws_record.specs.Item.{Ending, Item, Purpose, Recording, Tell, Put}
use Rattle.rws_record.specs.Item.Item.{LinkReady, Comes, Takes, Puts}
use Rattle.rws_record.specs.Item.Purpose.{Prepares, Asks, Plays, Waits, Probes}
use Rattle.rws_record.specs.Item.Put.{Hands, Tells, Records, Routes, Opens, LogsInto, Sends, Forgets, Drops, Closes}
use Rattle.rws_record.specs.Item.Recording.{Nothing, Accepts, Keeps}
use Rattle.rws_record.specs.Item.Tell.{Passes, Owns, Refuses}
use Rattle.rws_commands.specs.declared.history.HistoryEntry.{HistoryEntry}
use Rattle.rws_commands.specs.Requests.{request_of}
use Rattle.rws_commands.specs.Statements.{Statements, next_handle}
use Rattle.rws_class.specs.declared.class.Class.{Class}
use Rattle.rws_class.specs.declared.class.Class.TheVariants.{Read, PrimaryRead, Write, Session, Begin, BeginReadOnly, Commit, Rollback, AutocommitOn, AutocommitOff, TrxLocal, Ddl, Refused as Forbidden, Other}
use Rattle.rws_commands.specs.Judging.{judged}
use Rattle.rws_commands.specs.Commands.{asked_under, class_of_command, keeps}
use Rattle.rws_record.specs.Values.{checked_by, checked_on, server_of, value_on, valued_by, contains, fronted, goes_on, kept_by, links, kept_on, asked_on, awaited, exchange, is_up, prepared_by, kind_of, linked, named_in, named_on, sent_all, sent_for, pending, routing, sent_on, statements, reply_number, told, told_from, is_over, unless_link, without, or_link, pinned, transaction}
use Rattle.rws_record.specs.Rules.{after_keeping, after_loss, after_answer, commit_by, recording_commit, farewells, follow, is_loss, owed, recording_of, situation}
use Rattle.rws_record.proofs.WantLemmas.{closes_soon}
use Rattle.rws_laws.specs.Client.{Took, begins_with}
use Rattle.rws_laws.specs.Client.Took.{took}
use Rattle.rws_laws.specs.Causes.{IsCaused, JustKept}
use Rattle.rws_laws.specs.Causes.JustKept.{sends, fills, gives_up}
use Rattle.rws_laws.proofs.CameLemmas.{left_by, no_form, sent_awaits}
use Rattle.rws_laws.proofs.Sound.{Caused, Sent, handle, passed, AwaitedBy, WaitsBy, WaitsOn, Sound, Telling, TellsOn, not_soon, same_some}
use Rattle.rws_laws.proofs.Sound.WaitsOn.{prepares, repeats, checks, replies}
use Rattle.rws_laws.proofs.Sound.Caused.{nothing, drops, leaves, closes, hands, opens, logs_on, records, tells}
use Rattle.rws_laws.proofs.Sound.ToldBy.{none_told, all}
use Rattle.rws_laws.proofs.ListLemmas.{had_before}
use Rattle.rws_laws.proofs.LinksLemmas.{Dropped, cut_closes, dropped, farewells_caused, others_caused}
use Rattle.rws_laws.proofs.LinksLemmas.Dropped.{for_fault, at_end, since_kept}
use Rattle.rws_laws.proofs.ReplyLemmas.{passes_same, still_asked, asks_on, told_part, told_without, unless_other, unsent_told, unsent_waits, told_sent, sent_there, owes_same, drop_passes, farewells_pass, keeping_passes, recording_passes, waits_none, without_sent, without_waits}
use Rattle.rws_laws.proofs.CommandLemmas.{asked_now, command_caused, judged_numbered}
use Rattle.rws_laws.proofs.CheckLemmas.{heard_goes}
use Rattle.rws_laws.proofs.OwedLemmas.{cut, loss_caused, CameNext, said, form, grown, owes_then, reply_caused, with_commit}

-- What is given out because it is owed

-- what is left to pass on once a payload was told
one_passed : (list : List Payload) (owing : List Put) (number link : ℕ) (command : Command) (payload : Payload) (outcome : Option Ending) (recording : Recording)
    (others : List Put) → owing ≡ Tells number (Passes link command payload outcome recording) ∷ others
    → list ++ passed owing ≡ (list ++ payload ∷ []) ++ passed (drop 1 owing)
one_passed list owing number link command payload outcome recording others o = rw o (sym (append_assoc list (payload ∷ []) (passed others)))

-- something is given out that changes nothing but what is owed
record IsQuiet (config : Config) (put : Put) (past : List Item) : Type 0 where
  goes : goes_on config (Puts put ∷ past) ≡ goes_on config past
  over : is_over (Puts put ∷ past) ≡ is_over past
  pending : pending (Puts put ∷ past) ≡ pending past
  sent : sent_on (Puts put ∷ past) ≡ sent_on past
  told : told (Puts put ∷ past) ≡ told past
  from : told_from (Puts put ∷ past) ≡ told_from past
  number : reply_number (Puts put ∷ past) ≡ reply_number past
  exchange : (link : ℕ) → exchange link (Puts put ∷ past) ≡ exchange link past
  asked : (link : ℕ) → asked_on link (Puts put ∷ past) ≡ asked_on link past
  up : (link : ℕ) → is_up link (Puts put ∷ past) ≡ is_up link past
  owes : owed config (Puts put ∷ past) ≡ drop 1 (owed config past)
  links : links (Puts put ∷ past) ≡ links past
  names : handle config (Puts put ∷ past) ≡ handle config past

-- an error of the proxy's own changes nothing of where the pending command goes
pub refused_goes : (config : Config) (past : List Item) (number : ℕ) (error : ProxyError)
    → goes_on config (Puts (Tells number (Refuses error)) ∷ past) ≡ goes_on config past
refused_goes config past number UnknownCommand = refl
refused_goes config past number NotSupported = refl
refused_goes config past number UnknownStatement = refl
refused_goes config past number BadExecute = refl
refused_goes config past number TooManyStatements = refl
refused_goes config past number NotInReadOnly = refl
refused_goes config past number TooManyConnections = refl
refused_goes config past number CommandTooLarge = refl
refused_goes config past number NoPrimary = refl
refused_goes config past number (PrimaryBehind wanted found) = refl
refused_goes config past number OutOfMemory = refl

-- and answers it, or leaves it
abbrev IsAnswer : ProxyError → Type 0
IsAnswer error = (error ≡ NoPrimary) ⊎ ((wanted : ℕ) × (found : ℕ) × (error ≡ PrimaryBehind wanted found))

refused_leaves : (past : List Item) (number : ℕ) (error : ProxyError)
    → IsAnswer error ⊎ ((pending (Puts (Tells number (Refuses error)) ∷ past) ≡ pending past)
    × ((config : Config) → statements config (Puts (Tells number (Refuses error)) ∷ past) ≡ statements config past))
refused_leaves past number UnknownCommand = inr (refl, λ config. refl)
refused_leaves past number NotSupported = inr (refl, λ config. refl)
refused_leaves past number UnknownStatement = inr (refl, λ config. refl)
refused_leaves past number BadExecute = inr (refl, λ config. refl)
refused_leaves past number TooManyStatements = inr (refl, λ config. refl)
refused_leaves past number NotInReadOnly = inr (refl, λ config. refl)
refused_leaves past number TooManyConnections = inr (refl, λ config. refl)
refused_leaves past number CommandTooLarge = inr (refl, λ config. refl)
refused_leaves past number NoPrimary = inl (inl refl)
refused_leaves past number (PrimaryBehind wanted found) = inl (inr (wanted, found, refl))
refused_leaves past number OutOfMemory = inr (refl, λ config. refl)

-- where a session has just been kept, the command went there, if it is still out
just_sent : {config : Config} (kept : ℕ) {past : List Item} → JustKept config kept past → (sent_on past ≡ Some kept) ⊎ (sent_on past ≡ None)
just_sent kept (sends class before) = inl refl
just_sent kept (fills recorded) = inr refl
just_sent kept (gives_up {other = other} {past = past} just) = by_sent (just_sent kept just)
  where
    by_test : (test : Bool) → (kept == other) ≡ test → sent_on past ≡ Some kept
        → (unless_link other (sent_on past) ≡ Some kept) ⊎ (unless_link other (sent_on past) ≡ None)
    by_test true t s = inr (rw s (rw t refl))
    by_test false t s = inl (unless_other other kept (sent_on past) s t)

    by_sent : (sent_on past ≡ Some kept) ⊎ (sent_on past ≡ None)
        → (unless_link other (sent_on past) ≡ Some kept) ⊎ (unless_link other (sent_on past) ≡ None)
    by_sent (inl s) = by_test (kept == other) refl s
    by_sent (inr s) = inr (rw s refl)

-- a command that keeps the session goes on where it went
pub goes_then : (class : Class) (link : ℕ) (kept home assigned : Option ℕ) → or_link (or_link kept home) assigned ≡ Some link
    → or_link (or_link (kept_by class link kept) home) assigned ≡ Some link
goes_then class link (Some other) home assigned g = g
goes_then class link None home assigned g = by_test (keeps class)
  where
    by_test : (test : Bool) → or_link (or_link (if test then Some link else None) home) assigned ≡ Some link
    by_test true = refl
    by_test false = g

pub keeps_is : (class : Class) → keeps class ≡ true → class ≡ Other
keeps_is Other k = refl
keeps_is Ddl k = absurd cc
keeps_is Write k = absurd cc
keeps_is Read k = absurd cc
keeps_is PrimaryRead k = absurd cc
keeps_is Session k = absurd cc
keeps_is Begin k = absurd cc
keeps_is BeginReadOnly k = absurd cc
keeps_is Commit k = absurd cc
keeps_is Rollback k = absurd cc
keeps_is AutocommitOn k = absurd cc
keeps_is AutocommitOff k = absurd cc
keeps_is TrxLocal k = absurd cc
keeps_is Forbidden k = absurd cc

-- a link that is prepared stays so
up_on : (said : LinkStep) (asked : Option Purpose) (up : Bool) → up ≡ true → prepared_by said asked up ≡ true
up_on (steps.Part payload its (Ends (Done status)) number behind) (Some Prepares) up u = refl
up_on _ asked up u = u

pub coming_sent : (config : Config) (past : List Item) (from : ℕ) (said : LinkStep) → ((at : ℕ) → sent_on past ≡ Some at → checked_on from said past ≡ None)
    → Sent config past → Sent config (Comes from said ∷ past)
coming_sent config past from said none sent = λ link s.
    let there = sent link s in
    (there.0, there.1, heard_goes config past from said None (none link s) ∙ there.2, by_test link (from == link) there.3, there.4)
  where
    by_test : (link : ℕ) (test : Bool) → is_up link past ≡ true
        → (if test then prepared_by said (asked_on link past) (is_up link past) else is_up link past) ≡ true
    by_test link true u = up_on said (asked_on link past) (is_up link past) u
    by_test link false u = u

pub ready_sent : (config : Config) (past : List Item) (ready : ℕ) → Sent config past → Sent config (LinkReady ready ∷ past)
ready_sent config past ready sent = λ link s. let there = sent link s in (there.0, there.1, there.2, by_test link (ready == link) there.3, there.4)
  where
    by_test : (link : ℕ) (test : Bool) → is_up link past ≡ true → (if test then true else is_up link past) ≡ true
    by_test link true u = refl
    by_test link false u = u

module _ (config : Config) (past : List Item) (sound : Sound config past) where
  quiet_sound : (put : Put) (others : List Put) → owed config past ≡ put ∷ others → closes_soon (put ∷ others) ≡ closes_soon others
      → passed (put ∷ others) ≡ passed others → IsQuiet config put past → Caused config others (Puts put ∷ past)
      → Sound config (Puts put ∷ past)
  quiet_sound put others o c p q rest =
      let left : owed config (Puts put ∷ past) ≡ others = q.owes ∙ ap (drop 1) o in
      record {
        sent = λ other s.
            let there = sound.sent other (sym q.sent ∙ s) in
            (there.0, q.pending ∙ there.1, q.goes ∙ there.2, q.up other ∙ there.3, ap (contains other) q.links ∙ there.4);
        telling = λ n soon.
            rw (q.told, q.from, q.sent, q.pending)
            (sound.telling (sym q.over ∙ n) (ap closes_soon o ∙ c ∙ ap closes_soon (sym left) ∙ soon));
        asks = still_asked q.pending q.number q.told sound.asks;
        waits = λ other e has a. rw (q.names, q.pending, q.sent, q.told, q.asked other, q.up other)
            (owes_same (links past) (owed config past) (owed config (Puts put ∷ past)) (ap passed o ∙ p ∙ sym (ap passed left)) sound.waits other e
            (sym (ap (contains other) q.links) ∙ has) (sym (q.exchange other) ∙ a));
        owes = subst (λ (list : List Put). Caused config list (Puts put ∷ past)) (sym left) rest;
      }

  -- once the end of the reply was told, only the preamble's or an entry's may be awaited
  end_waits : (number link : ℕ) (command : Command) (payload : Payload) (ending : Ending) (recording : Recording)
      → IsCaused config (Tells number (Passes link command payload (Some ending) recording)) past
      → (at : ℕ) (list : List Payload) (owes : List Put) (other : ℕ) (e : Exchange) → exchange other past ≡ Some e
      → WaitsOn other e (asked_on other past) (is_up other past) (pending past) (sent_on past) (handle config past) (told past) (owed config past)
      → WaitsOn other e (asked_on other past) (is_up other past) None None at list owes
  end_waits number link command payload ending recording cause at list owes other e a (prepares p u) = prepares p u
  end_waits number link command payload ending recording cause at list owes other e a (repeats p) = repeats p
  end_waits number link command payload ending recording cause at list owes other e a (checks q) = checks q
  end_waits number link command payload ending recording cause at list owes other e a (replies awaited) =
      let same : link ≡ other = same_some link other (sym cause.0.of_reply.sent ∙ awaited.sent_there) in
      let none : exchange other past ≡ None = rw same at cause.2 in
      absurd cc

  part_waits : (number link : ℕ) (command : Command) (payload : Payload) (others : List Put)
      → owed config past ≡ Tells number (Passes link command payload None Nothing) ∷ others
      → (other : ℕ) (e : Exchange) → WaitsOn other e (asked_on other past) (is_up other past) (pending past) (sent_on past) (handle config past) (told past) (owed config past)
      → WaitsOn other e (asked_on other past) (is_up other past) (pending past) (sent_on past) (handle config past) (told past ++ payload ∷ []) (drop 1 (owed config past))
  part_waits number link command payload others o other e (prepares p u) = prepares p u
  part_waits number link command payload others o other e (repeats p) = repeats p
  part_waits number link command payload others o other e (checks q) = checks q
  part_waits number link command payload others o other e (replies awaited) = replies (record {
    command = awaited.command;
    id = awaited.id;
    asked_it = awaited.asked_it;
    kind = awaited.kind;
    in_form = awaited.in_form ∙ one_passed (told past) (owed config past) number link command payload None Nothing others o;
    waits = awaited.waits;
    sent_there = awaited.sent_there;
  })

  tell_sound : (number : ℕ) (tell : Tell) (others : List Put) → owed config past ≡ Tells number tell ∷ others
      → IsCaused config (Tells number tell) past → Caused config (follow config (Tells number tell) past ++ others) (Puts (Tells number tell) ∷ past)
      → Sound config (Puts (Tells number tell) ∷ past)
  tell_sound number (Passes link command payload (Some ending) recording) others o cause rest = record {
    sent = λ other e. absurd cc;
    telling = λ n soon. all;
    asks = λ other e. absurd cc;
    waits = λ other e has a. end_waits number link command payload ending recording cause _ _ _ other e a (sound.waits other e has a);
    owes = rw o rest;
  }
  tell_sound number (Passes link command payload None Accepts) others o cause rest = absurd cause
  tell_sound number (Passes link command payload None Keeps) others o cause rest = absurd cause
  tell_sound number (Passes link command payload None Nothing) others o cause rest = record {
    sent = sound.sent;
    telling = λ n soon. told_part (told past) payload link (pending past) (sent_on past) cause.0.of_reply.sent;
    asks = asks_on number link command payload cause.0.of_reply.pending.waits cause.0.counts sound.asks;
    waits = λ other e has a. part_waits number link command payload others o other e (sound.waits other e has a);
    owes = rw o rest;
  }
  tell_sound number (Owns status) others o cause rest =
      quiet_sound (Tells number (Owns status)) others o refl refl (record { goes = refl; over = refl; pending = refl; sent = refl; told = refl; from = refl; number = refl; exchange = λ link. refl; asked = λ link. refl; up = λ link. refl; owes = refl; links = refl; names = refl }) rest
  tell_sound number (Refuses error) others o cause rest = by_error (refused_leaves past number error)
    where
      answered : IsCaused config (Tells number (Refuses NoPrimary)) past → owed config past ≡ Tells number (Refuses NoPrimary) ∷ others
          → Caused config others (Puts (Tells number (Refuses NoPrimary)) ∷ past) → Sound config (Puts (Tells number (Refuses NoPrimary)) ∷ past)
      answered late o rest = record {
        sent = λ other s. let clash : None ≡ Some other = sym late.unsent ∙ s in absurd cc;
        telling = λ n soon.
            told_sent (told past) (told_from past) (sent_on past) None
            (unsent_told late.command late.unsent late.pending.waits
            (sound.telling n (ap closes_soon o ∙ sym (ap (λ (list : List Put). closes_soon (drop 1 list)) o) ∙ soon)));
        asks = λ command e. absurd cc;
        waits = λ other e has a.
            unsent_waits None (sent_on past) (handle config (Puts (Tells number (Refuses NoPrimary)) ∷ past)) (told past) (owed config (Puts (Tells number (Refuses NoPrimary)) ∷ past)) late.unsent
            (sound.waits other e has a);
        owes = rw o rest;
      }

      lagging : (wanted found : ℕ) → IsCaused config (Tells number (Refuses (PrimaryBehind wanted found))) past
          → owed config past ≡ Tells number (Refuses (PrimaryBehind wanted found)) ∷ others
          → Caused config others (Puts (Tells number (Refuses (PrimaryBehind wanted found))) ∷ past)
          → Sound config (Puts (Tells number (Refuses (PrimaryBehind wanted found))) ∷ past)
      lagging wanted found lags o rest = record {
        sent = λ other s. let clash : None ≡ Some other = sym lags.unsent ∙ s in absurd cc;
        telling = λ n soon.
            told_sent (told past) (told_from past) (sent_on past) None
            (unsent_told lags.command lags.unsent lags.pending.waits
            (sound.telling n (ap closes_soon o ∙ sym (ap (λ (list : List Put). closes_soon (drop 1 list)) o) ∙ soon)));
        asks = λ command e. absurd cc;
        waits = λ other e has a.
            unsent_waits None (sent_on past) (handle config (Puts (Tells number (Refuses (PrimaryBehind wanted found))) ∷ past)) (told past)
            (owed config (Puts (Tells number (Refuses (PrimaryBehind wanted found))) ∷ past)) lags.unsent (sound.waits other e has a);
        owes = rw o rest;
      }

      by_error : IsAnswer error ⊎ ((pending (Puts (Tells number (Refuses error)) ∷ past) ≡ pending past)
          × ((config : Config) → statements config (Puts (Tells number (Refuses error)) ∷ past) ≡ statements config past))
          → Sound config (Puts (Tells number (Refuses error)) ∷ past)
      by_error (inl (inr (wanted, found, is))) =
          subst (λ (its : ProxyError). Sound config (Puts (Tells number (Refuses its)) ∷ past)) (sym is)
          (lagging wanted found (subst (λ (its : ProxyError). IsCaused config (Tells number (Refuses its)) past) is cause)
          (subst (λ (its : ProxyError). owed config past ≡ Tells number (Refuses its) ∷ others) is o)
          (subst (λ (its : ProxyError). Caused config others (Puts (Tells number (Refuses its)) ∷ past)) is rest))
      by_error (inl (inl is)) =
          subst (λ (its : ProxyError). Sound config (Puts (Tells number (Refuses its)) ∷ past)) (sym is)
          (answered (subst (λ (its : ProxyError). IsCaused config (Tells number (Refuses its)) past) is cause)
          (subst (λ (its : ProxyError). owed config past ≡ Tells number (Refuses its) ∷ others) is o)
          (subst (λ (its : ProxyError). Caused config others (Puts (Tells number (Refuses its)) ∷ past)) is rest))
      by_error (inr left) =
          quiet_sound (Tells number (Refuses error)) others o refl refl
          (record { goes = refused_goes config past number error; over = refl; pending = left.0; sent = refl; told = refl; from = refl; number = refl; exchange = λ link. refl; asked = λ link. refl; up = λ link. refl; owes = refl; links = refl; names = ap (λ (s : Statements). next_handle s) (left.1 config) }) rest

  -- A link is given up

  -- what follows that for a fault
  lossy_owes : (link : ℕ) (cause : DropCause) → is_loss cause ≡ true → owed config past ≡ Drops link cause ∷ []
      → owed config (Puts (Drops link cause) ∷ past) ≡ after_loss config link past
  lossy_owes link cause lossy o = rw (lossy, o) (append-nil (after_loss config link past))

  lossless_owes : (link : ℕ) (cause : DropCause) (others : List Put) → is_loss cause ≡ false → owed config past ≡ Drops link cause ∷ others
      → owed config (Puts (Drops link cause) ∷ past) ≡ others
  lossless_owes link cause others lossless o = rw (lossless, o) refl

  drop_telling : (link : ℕ) (cause : DropCause) (others : List Put) → owed config past ≡ Drops link cause ∷ others
      → (is_loss cause ≡ true → others ≡ []) → Dropped config past link cause → TellsOn config (Puts (Drops link cause) ∷ past)
  drop_telling link cause others o last (for_fault lossy lost has) = λ n soon.
      let o : owed config past ≡ Drops link cause ∷ [] = o ∙ ap (λ (list : List Put). Drops link cause ∷ list) (last lossy) in
      told_without link
      (λ from.
      let closes : closes_soon (owed config (Puts (Drops link cause) ∷ past)) ≡ true =
      ap closes_soon (lossy_owes link cause lossy o) ∙ cut_closes config past link from in
      let clash : true ≡ false = sym closes ∙ soon in cc)
      (sound.telling n (ap closes_soon o))
  drop_telling link cause others o last (at_end over) = λ n soon. absurd cc
  drop_telling link cause others o last (since_kept kept just apart) = λ n soon.
      let now : Telling past = sound.telling n (ap closes_soon o ∙ sym (ap closes_soon (lossless_owes link Kept others refl o)) ∙ soon) in
      told_without link (λ from. elsewhere (cut link now from).1 (just_sent kept just)) now
    where
      elsewhere : sent_on past ≡ Some link → (sent_on past ≡ Some kept) ⊎ (sent_on past ≡ None) → ⊥
      elsewhere s (inl there) = apart (same_some kept link (sym there ∙ s))
      elsewhere s (inr none) = let clash : None ≡ Some link = sym none ∙ s in cc

  drop_sound : (link : ℕ) (cause : DropCause) (others : List Put) → owed config past ≡ Drops link cause ∷ others
      → (is_loss cause ≡ true → others ≡ []) → Dropped config past link cause
      → Caused config (owed config (Puts (Drops link cause) ∷ past)) (Puts (Drops link cause) ∷ past)
      → Sound config (Puts (Drops link cause) ∷ past)
  drop_sound link cause others o last given owes = record {
    sent = without_sent (links past) (sent_on past) (pinned config past) (routing config past) link sound.sent;
    telling = drop_telling link cause others o last given;
    asks = still_asked refl refl refl sound.asks;
    waits = without_waits (links past) link (owed config past) (owed config (Puts (Drops link cause) ∷ past))
        (ap passed o ∙ sym (ap (λ (list : List Put). passed (drop 1 list)) o) ∙ sym (drop_passes config link cause past)) sound.waits;
    owes = owes;
  }

  fault_owes : (link : ℕ) (cause : DropCause) → is_over past ≡ false → owed config past ≡ Drops link cause ∷ [] → Dropped config past link cause
      → Caused config (owed config (Puts (Drops link cause) ∷ past)) (Puts (Drops link cause) ∷ past)
  fault_owes link cause n o (for_fault lossy lost has) =
      subst (λ (list : List Put). Caused config list (Puts (Drops link cause) ∷ past)) (sym (lossy_owes link cause lossy o))
      (loss_caused config past (Puts (Drops link cause) ∷ past) link lost sound.sent (sound.telling n (ap closes_soon o)) sound.asks)
  fault_owes link cause n o (at_end over) = absurd cc
  fault_owes link cause n o (since_kept kept just apart) = rw (lossless_owes link Kept [] refl o) nothing

  close_sound : (reason : CloseReason) → owed config past ≡ Closes reason ∷ [] → Sound config (Puts (Closes reason) ∷ past)
  close_sound reason o = record {
    sent = sound.sent;
    telling = λ n soon. absurd cc;
    asks = still_asked refl refl refl sound.asks;
    waits = owes_same (links past) (owed config past) (farewells past) (ap passed o ∙ sym (farewells_pass (links past))) sound.waits;
    owes = farewells_caused config past (Puts (Closes reason) ∷ past) refl refl;
  }

  -- a link is opened, and nothing was sent before
  open_sound : (link server : ℕ) (login : Login) → owed config past ≡ Opens link server login ∷ [] → IsCaused config (Opens link server login) past
      → Sound config (Puts (Opens link server login) ∷ past)
  open_sound link server login o cause = record {
    sent = λ other s. let clash : None ≡ Some other = sym cause.0.unsent ∙ s in absurd cc;
    telling = λ n soon. sound.telling n (ap closes_soon o);
    asks = still_asked refl refl refl sound.asks;
    waits = λ other e has a. by_link other e (link == other) refl has a;
    owes = rw o nothing;
  }
    where
      by_link : (other : ℕ) (e : Exchange) (same : Bool) → (link == other) ≡ same
          → contains other (without link (links past) ++ link ∷ []) ≡ true
          → awaited (if same then opening login else linked other past) ≡ Some e
          → WaitsOn other e (if same then None else asked_on other past) (if same then false else is_up other past) (pending past) (sent_on past)
          (handle config past) (told past) (drop 1 (owed config past))
      by_link other e true t has a = absurd cc
      by_link other e false t has a =
          passes_same (owed config past) (drop 1 (owed config past)) (ap passed o ∙ sym (ap (λ (list : List Put). passed (drop 1 list)) o))
          (sound.waits other e (had_before other link (links past) t has) a)

  pub put_sound : (put : Put) (others : List Put) → owed config past ≡ put ∷ others → Caused config (put ∷ others) past
      → Sound config (Puts put ∷ past)
  put_sound put others o (tells {number = number} {tell = tell} cause rest) = tell_sound number tell others o cause rest
  put_sound put others o (drops {link = link} {cause = why} n cause) =
      let given = dropped config past link why cause in
      drop_sound link why [] o (λ lossy. refl) given (fault_owes link why n o given)
  put_sound put others o (leaves {link = link} {cause = why} lossless cause rest) =
      drop_sound link why others o (λ lossy. let clash : true ≡ false = sym lossy ∙ lossless in absurd cc) (dropped config past link why cause)
      (subst (λ (list : List Put). Caused config list (Puts (Drops link why) ∷ past)) (sym (lossless_owes link why others lossless o)) rest)
  put_sound put others o (closes {reason = reason} cause) = close_sound reason o
  put_sound put others o (opens {link = link} {server = server} {login = login} cause) = open_sound link server login o cause
  put_sound put others o (hands {packets = packets} cause rest) =
      quiet_sound (Hands packets) others o refl refl (record { goes = refl; over = refl; pending = refl; sent = refl; told = refl; from = refl; number = refl; exchange = λ link. refl; asked = λ link. refl; up = λ link. refl; owes = refl; links = refl; names = refl }) rest
  put_sound put others o (records {server = server} {gtid = gtid} cause rest) =
      quiet_sound (Records server gtid) others o refl refl (record { goes = refl; over = refl; pending = refl; sent = refl; told = refl; from = refl; number = refl; exchange = λ link. refl; asked = λ link. refl; up = λ link. refl; owes = refl; links = refl; names = refl }) rest
  put_sound put others o (logs_on {link = link} {packets = packets} cause) =
      quiet_sound (LogsInto link packets) [] o refl refl (record { goes = refl; over = refl; pending = refl; sent = refl; told = refl; from = refl; number = refl; exchange = λ link. refl; asked = λ link. refl; up = λ link. refl; owes = refl; links = refl; names = refl }) nothing

  -- The worker is asked

  pub routes_sound : owed config past ≡ [] → Sound config (Puts Routes ∷ past)
  routes_sound o = record {
    sent = sound.sent;
    telling = λ n soon. sound.telling n (not_soon o);
    asks = still_asked refl refl refl sound.asks;
    waits = owes_same (links past) (owed config past) (drop 1 (owed config past)) (ap passed o ∙ sym (ap (λ (list : List Put). passed (drop 1 list)) o)) sound.waits;
    owes = rw o nothing;
  }

  -- A link's server is told to close a statement

  pub forgets_sound : (link id : ℕ) → owed config past ≡ [] → Sound config (Puts (Forgets link id) ∷ past)
  forgets_sound link id o = record {
    sent = sound.sent;
    telling = λ n soon. sound.telling n (not_soon o);
    asks = still_asked refl refl refl sound.asks;
    waits = owes_same (links past) (owed config past) (drop 1 (owed config past)) (ap passed o ∙ sym (ap (λ (list : List Put). passed (drop 1 list)) o)) sound.waits;
    owes = rw o nothing;
  }

  -- A link is prepared

  pub prepares_sound : (link : ℕ) → owed config past ≡ [] → is_up link past ≡ false → Sound config (Puts (Sends link Prepares) ∷ past)
  prepares_sound link o up = record {
    sent = sound.sent;
    telling = λ n soon. sound.telling n (not_soon o);
    asks = still_asked refl refl refl sound.asks;
    waits = λ other e has a. by_link other e (link == other) refl has a;
    owes = rw o nothing;
  }
    where
      by_link : (other : ℕ) (e : Exchange) (same : Bool) → (link == other) ≡ same → contains other (links past) ≡ true
          → awaited (if same then sent_all (sent_for Prepares) (kind_of Prepares) else linked other past) ≡ Some e
          → WaitsOn other e (if same then Some Prepares else asked_on other past) (is_up other past) (pending past) (sent_on past) (handle config past) (told past)
          (owed config (Puts (Sends link Prepares) ∷ past))
      by_link other e true t has a = prepares refl (subst (λ (l : ℕ). is_up l past ≡ false) (eqb-true link other t) up)
      by_link other e false t has a =
          passes_same (owed config past) (drop 1 (owed config past)) (ap passed o ∙ sym (ap (λ (list : List Put). passed (drop 1 list)) o))
          (sound.waits other e has a)

  -- An entry of the history is played

  pub plays_sound : (link : ℕ) (entry : HistoryEntry) → owed config past ≡ [] → Sound config (Puts (Sends link (Plays entry)) ∷ past)
  plays_sound link entry o = record {
    sent = sound.sent;
    telling = λ n soon. sound.telling n (not_soon o);
    asks = still_asked refl refl refl sound.asks;
    waits = λ other e has a. by_link other e (link == other) refl has a;
    owes = rw o nothing;
  }
    where
      by_link : (other : ℕ) (e : Exchange) (same : Bool) → (link == other) ≡ same → contains other (links past) ≡ true
          → awaited (if same then sent_all (sent_for (Plays entry)) (kind_of (Plays entry)) else linked other past) ≡ Some e
          → WaitsOn other e (if same then Some (Plays entry) else asked_on other past) (is_up other past) (pending past) (sent_on past) (handle config past) (told past)
          (owed config (Puts (Sends link (Plays entry)) ∷ past))
      by_link other e true t has a = repeats refl
      by_link other e false t has a =
          passes_same (owed config past) (drop 1 (owed config past)) (ap passed o ∙ sym (ap (λ (list : List Put). passed (drop 1 list)) o))
          (sound.waits other e has a)

  -- A server is asked something before a read

  pub waits_sound : (link : ℕ) (gtid : Gtid) (seconds : ℕ) → owed config past ≡ [] → Sound config (Puts (Sends link (Waits gtid seconds)) ∷ past)
  waits_sound link gtid seconds o = record {
    sent = sound.sent;
    telling = λ n soon. sound.telling n (not_soon o);
    asks = still_asked refl refl refl sound.asks;
    waits = λ other e has a. by_link other e (link == other) refl has a;
    owes = rw o nothing;
  }
    where
      by_link : (other : ℕ) (e : Exchange) (same : Bool) → (link == other) ≡ same → contains other (links past) ≡ true
          → awaited (if same then sent_all (sent_for (Waits gtid seconds)) (kind_of (Waits gtid seconds)) else linked other past) ≡ Some e
          → WaitsOn other e (if same then Some (Waits gtid seconds) else asked_on other past) (is_up other past) (pending past) (sent_on past) (handle config past) (told past)
          (owed config (Puts (Sends link (Waits gtid seconds)) ∷ past))
      by_link other e true t has a = checks {check = Wait gtid} refl
      by_link other e false t has a =
          passes_same (owed config past) (drop 1 (owed config past)) (ap passed o ∙ sym (ap (λ (list : List Put). passed (drop 1 list)) o))
          (sound.waits other e has a)

  pub probes_sound : (link : ℕ) (gtid : Gtid) → owed config past ≡ [] → Sound config (Puts (Sends link (Probes gtid)) ∷ past)
  probes_sound link gtid o = record {
    sent = sound.sent;
    telling = λ n soon. sound.telling n (not_soon o);
    asks = still_asked refl refl refl sound.asks;
    waits = λ other e has a. by_link other e (link == other) refl has a;
    owes = rw o nothing;
  }
    where
      by_link : (other : ℕ) (e : Exchange) (same : Bool) → (link == other) ≡ same → contains other (links past) ≡ true
          → awaited (if same then sent_all (sent_for (Probes gtid)) (kind_of (Probes gtid)) else linked other past) ≡ Some e
          → WaitsOn other e (if same then Some (Probes gtid) else asked_on other past) (is_up other past) (pending past) (sent_on past) (handle config past) (told past)
          (owed config (Puts (Sends link (Probes gtid)) ∷ past))
      by_link other e true t has a = checks {check = Probe gtid} refl
      by_link other e false t has a =
          passes_same (owed config past) (drop 1 (owed config past)) (ap passed o ∙ sym (ap (λ (list : List Put). passed (drop 1 list)) o))
          (sound.waits other e has a)

  -- The pending command is sent

  module _ (link : ℕ) (command : Command) (id : Option ℕ) (o : owed config past ≡ []) (n : is_over past ≡ false) (p : pending past ≡ Some command) (s : sent_on past ≡ None) where
    telling_now : Telling past
    telling_now = sound.telling n (not_soon o)

    -- what follows passes nothing
    sending_passes : passed (owed config (Puts (Sends link (Asks command id)) ∷ past)) ≡ []
    sending_passes = rw o
        (ap passed (append-nil (after_keeping (keeps (class_of_command command)) link (kept_on past) (links past)))
        ∙ keeping_passes (keeps (class_of_command command)) link (kept_on past) (links past))

    now_awaited : (other : ℕ) (e : Exchange) (same : Bool) → (link == other) ≡ same → contains other (links past) ≡ true
        → awaited (if same then sent_all (sent_for (Asks command id)) (kind_of (Asks command id)) else linked other past) ≡ Some e
        → WaitsOn other e (if same then Some (Asks command id) else asked_on other past) (is_up other past) (pending past) (Some link) (handle config past) (told past)
        (owed config (Puts (Sends link (Asks command id)) ∷ past))
    now_awaited other e true t has a =
        let its = sent_awaits (asked_under id command.body) command.kind e a in
        replies (record {
          command = command;
          id = id;
          asked_it = refl;
          kind = its.0;
          in_form = subst (λ (list : List Payload). client_reply command.kind (handle config past) list ≡ told past ++ passed (owed config (Puts (Sends link (Asks command id)) ∷ past))) (sym its.1)
              (rw (sending_passes, (unsent_told command s p telling_now).0) (no_form command.kind (handle config past)));
          waits = p;
          sent_there = ap Some (eqb-true link other t);
        })
    now_awaited other e false t has a = only_prepares (sound.waits other e has a)
      where
        only_prepares : WaitsOn other e (asked_on other past) (is_up other past) (pending past) (sent_on past) (handle config past) (told past) (owed config past)
            → WaitsOn other e (asked_on other past) (is_up other past) (pending past) (Some link) (handle config past) (told past)
            (owed config (Puts (Sends link (Asks command id)) ∷ past))
        only_prepares (prepares p u) = prepares p u
        only_prepares (repeats p) = repeats p
        only_prepares (checks q) = checks q
        only_prepares (replies awaits) = let there = awaits.sent_there in absurd cc

    -- the session is kept on the link, or isn't
    keeping_owes : (keeping : Bool) (kept : Option ℕ) → keeps (class_of_command command) ≡ keeping → kept_on past ≡ kept
        → Caused config (after_keeping keeping link kept (links past) ++ []) (Puts (Sends link (Asks command id)) ∷ past)
    keeping_owes true None c k =
        others_caused config past (Puts (Sends link (Asks command id)) ∷ past) link [] refl (sends (keeps_is (class_of_command command) c) k)
        (record { stands = nothing; later = λ other below apart its. nothing })
    keeping_owes true (Some kept) c k = nothing
    keeping_owes false kept c k = nothing

    pub send_sound : goes_on config past ≡ Some link → is_up link past ≡ true → contains link (links past) ≡ true
        → Sound config (Puts (Sends link (Asks command id)) ∷ past)
    send_sound goes up has = record {
      sent = sent_there (λ l. is_up l past) command (pending past) link (goes_on config (Puts (Sends link (Asks command id)) ∷ past)) (links past) p
          (goes_then (class_of_command command) link (kept_on past) (transaction config past).link (routing config past).assigned goes) up has;
      telling = λ n soon. told_sent (told past) (told_from past) (Some link) (pending past) (unsent_told command s p telling_now);
      asks = still_asked refl refl refl sound.asks;
      waits = λ other e has a. now_awaited other e (link == other) refl has a;
      owes = rw o (keeping_owes (keeps (class_of_command command)) (kept_on past) refl refl);
    }

  -- The client's next command is taken up

  module _ (payload rest : Payload) (number : ℕ) (p : pending past ≡ None) (c : (fronted config past).phase ≡ Commands) where
    abbrev it : Judged
    it = judged (situation config past) (statements config past) payload number

    pub take_sound : begins_with config (fronted config past) 0 ≡ Whole payload number rest
        → Sound config (Takes it number ∷ past)
    take_sound f =
        let taken : Took config payload number (Takes it number ∷ past) = took {past = past} {rest = rest} p c f in
        record {
          sent = λ other e. absurd cc;
          telling = λ n soon. none_told;
          asks = asked_now config payload past number it p (judged_numbered (situation config past) (statements config past) payload number) taken;
          waits = waits_none (links past) (pending (Takes it number ∷ past)) None (handle config (Takes it number ∷ past)) []
              (owed config (Takes it number ∷ past)) p sound.waits;
          owes = command_caused config payload number past it (request_of payload) refl taken;
        }

  -- A payload of an awaited reply

  -- what the client was told where nothing is owed to it
  pub clean : owed config past ≡ [] → (e : Exchange) (its : Command)
      → client_reply its.kind (handle config past) e.sofar ≡ told past ++ passed (owed config past)
      → client_reply its.kind (handle config past) e.sofar ≡ told past
  clean o e its formed =
      formed ∙ ap (λ (list : List Put). told past ++ passed list) o ∙ append-nil (told past)

  module _ (link : ℕ) (e : Exchange) (command : Command) (payload rest : Payload) (number : ℕ) (o : owed config past ≡ [])
      (next : CameNext config past link e command payload rest number) where
    -- what is awaited once the link said something
    then_awaited : (said : LinkStep) (at : ℕ) (owes : List Put)
        → ((other : ℕ) (x : Exchange) → link ≡ other → exchange link (Comes link said ∷ past) ≡ Some x
        → AwaitedBy other x (asked_on link past) (pending past) (sent_on past) at (told past) owes)
        → WaitsBy (links past) (λ other. exchange other (Comes link said ∷ past)) (λ other. asked_on other past) (λ other. is_up other (Comes link said ∷ past))
        (pending past) (sent_on past) at (told past) owes
    then_awaited said at owes mine = λ other x has a. by_link other x (link == other) refl has a
      where
        only_prepares : (other : ℕ) (x : Exchange) → (link == other) ≡ false
            → WaitsOn other x (asked_on other past) (is_up other past) (pending past) (sent_on past) (handle config past) (told past) (owed config past)
            → WaitsOn other x (asked_on other past) (is_up other past) (pending past) (sent_on past) at (told past) owes
        only_prepares other x t (prepares p u) = prepares p u
        only_prepares other x t (repeats p) = repeats p
        only_prepares other x t (checks q) = checks q
        only_prepares other x t (replies awaits) =
            let same : link ≡ other = same_some link other (sym next.sent ∙ awaits.sent_there) in
            let yes : (link == other) ≡ true = eq-eqb link other same in absurd cc

        by_link : (other : ℕ) (x : Exchange) (same : Bool) → (link == other) ≡ same → contains other (links past) ≡ true → exchange other (Comes link said ∷ past) ≡ Some x
            → WaitsOn other x (asked_on other past) (is_up other (Comes link said ∷ past)) (pending past) (sent_on past) at (told past) owes
        by_link other x true t has a =
            let same : link ≡ other = eqb-true link other t in
            replies (subst (λ (l : ℕ). AwaitedBy other x (asked_on l past) (pending past) (sent_on past) at (told past) owes) same
            (mine other x same (subst (λ (l : ℕ). exchange l (Comes link said ∷ past) ≡ Some x) (sym same) a)))
        by_link other x false t has a =
            let a : exchange other past ≡ Some x = rw t at a in
            rw t (only_prepares other x t (sound.waits other x has a))

    -- a payload came
    module _ (its : Role) (far : Progress) (r : role e.kind e.sofar payload ≡ Some its) (p : progress e.kind e.sofar payload ≡ Some far) where
      abbrev its_said : LinkStep
      its_said = said config past link e command payload rest number next its far r p

      abbrev its_form : Payload
      its_form = form config past link e command payload rest number next its far r p

      abbrev answer : Progress → List Put
      answer far = after_answer link command its_form (named_in its payload (named_on link past)) far (is_some_byte rest) (reply_number past) (λ outcome. recording_of config link past outcome)

      abbrev said_so : Progress → LinkStep
      said_so its_far = steps.Part payload its its_far number (is_some_byte rest)

      -- the commit that it names
      abbrev recorded : List Put
      recorded = recording_commit (server_of link past) (commit_by config.gtid_domain its payload (Some (Asks command next.id)))

      goes_awaited : (its_far : Progress) (other : ℕ) (x : Exchange) → link ≡ other
          → left_by its_far (with_part payload number e) ≡ Some x
          → AwaitedBy other x (asked_on link past) (pending past) (sent_on past) (handle config (Comes link (said_so its_far) ∷ past)) (told past) (answer its_far)
      goes_awaited More other x same g =
          let is : with_part payload number e ≡ x = same_some _ x g in
          record {
            command = command;
            id = next.id;
            asked_it = next.asked_it;
            kind = sym (ap (λ (y : Exchange). y.kind) is) ∙ next.kind;
            in_form = subst (λ (y : Exchange). client_reply command.kind (handle config past) y.sofar ≡ told past ++ its_form ∷ []) is
                (grown config past link e command payload rest number next its far r p);
            waits = next.pending;
            sent_there = next.sent ∙ ap Some same;
          }
      goes_awaited (Ends outcome) other x same g = absurd cc

      -- the reply to the command is none to what goes before one
      unasked_check : asked_on link past ≡ Some (Asks command next.id) → checked_on link its_said past ≡ None
      unasked_check q =
          ap (λ (a : Option Purpose). checked_by its_said a (valued_by its_said a (value_on link past))) q ∙ by_far far
        where
          by_far : (its_far : Progress) → checked_by (said_so its_far) (Some (Asks command next.id)) (value_on link past) ≡ None
          by_far More = refl
          by_far (Ends outcome) = refl

      pub reply_sound : Sound config (Comes link its_said ∷ past)
      reply_sound =
          let owed_now : owed config (Comes link its_said ∷ past) ≡ recorded ++ answer far = rw next.asked_it refl in
          record {
            sent = coming_sent config past link its_said (λ at s. unasked_check next.asked_it) sound.sent;
            telling = λ n soon. sound.telling n (not_soon o);
            asks = still_asked refl refl refl sound.asks;
            waits = subst (λ (list : List Put). WaitsBy (links past) (λ other. exchange other (Comes link its_said ∷ past)) (λ other. asked_on other past) (λ other. is_up other (Comes link its_said ∷ past)) (pending past) (sent_on past) (handle config (Comes link its_said ∷ past)) (told past) list)
                (sym owed_now)
                (owes_same (links past) (answer far) (recorded ++ answer far)
                (sym (recording_passes (server_of link past) (commit_by config.gtid_domain its payload (Some (Asks command next.id))) (answer far)))
                (then_awaited its_said (handle config (Comes link its_said ∷ past)) (answer far)
                (λ other x same a. goes_awaited far other x same (sym (owes_then config past link e command payload rest number next its far r p) ∙ a))));
            owes = subst (λ (list : List Put). Caused config list (Comes link its_said ∷ past)) (sym owed_now)
                (with_commit config past link payload its far number (is_some_byte rest) next.arrived.has (Asks command next.id) next.asked_it (answer far)
                (reply_caused config past link e command payload rest number next its far r p));
          }
