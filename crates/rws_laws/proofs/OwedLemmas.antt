-- What is owed on a legal record has its cause.
use Rattle.std.proofs.Common.{◌≡◌, ℕ, Bool, true, false, List, [], ◌∷◌, ◌++◌, length, refl, sym, ap, subst, ◌∙◌, inl, inr, Option, Some, None}
use Rattle.std.specs.Prelude.{◌≢◌, ◌⊎◌, ◌&&◌, ◌≤◌, nat_lt, not, Contains, ◌==◌, is_some}
use Rattle.std.proofs.lemmas.Bool.{cases_lt, eq-eqb, lt-ltb, ltb-true}
use Rattle.rws_wire.specs.declared.close_reason.CloseReason.{CloseReason}
use Rattle.rws_wire.specs.declared.drop_cause.DropCause.TheVariants.{BadReply, Unasked, Login as LoginFails, Kept, SessionDiffers}
use Rattle.rws_wire.specs.Payloads.{first_payload}
use Rattle.rws_wire.specs.Payloads.Beginning.{Whole}
use Rattle.rws_gtid.specs.declared.Gtid.{Gtid}
use Rattle.rws_causal.specs.Commits.{commit_in}
use Rattle.rws_reply.specs.declared.kind.Kind.{Kind}
use Rattle.rws_reply.specs.declared.kind.Kind.TheVariants.{Query as QueryReply}
use Rattle.rws_reply.specs.declared.kind.Outcome.{Outcome}
use Rattle.rws_reply.specs.declared.kind.Outcome.TheVariants.{Done, Failed}
use Rattle.rws_front.specs.declared.step.FrontStep.{FrontStep}
use Rattle.rws_front.specs.declared.step.FrontStep.TheVariants as fronts
use Rattle.rws_reply.specs.declared.kind.Progress.{Progress}
use Rattle.rws_reply.specs.declared.kind.Progress.TheVariants.{More, Whole as Ends}
use Rattle.rws_reply.specs.Replies.{Payload, IsReply, Begins}
use Rattle.rws_reply.specs.declared.role.Role.{Role}
use Rattle.rws_reply.specs.declared.role.Role.TheVariants as roles
use Rattle.rws_reply.specs.Tracking.{progress, role}
use Rattle.rws_reply.specs.ClientForm.{client_reply, in_role}
use Rattle.rws_reply.proofs.ProgressLemmas.{progress_is_exact}
use Rattle.rws_reply.proofs.ClientLemmas.{client_replies_grow}
use Rattle.rws_link.specs.declared.step.LinkCause.TheVariants as losses
use Rattle.rws_link.specs.declared.step.LinkStep.{LinkStep}
use Rattle.rws_link.specs.declared.step.LinkStep.TheVariants as steps
use Rattle.rws_link.specs.Stepping.{LinkState, Awaits, Exchange, is_some_byte, step, with_part}
use Rattle.rws_config.specs.declared.config.Config.{Config}
use Rattle.rws_config.specs.declared.limits.TheConstants.{SERVER_PAYLOAD}
use Rattle.rws_commands.specs.declared.command.Command.{Command}
use Rattle.rws_msgs.specs.declared.prepare_ok.PrepareOk.{PrepareOk}
use Rattle.rws_commands.specs.declared.history.HistoryEntry.{HistoryEntry}
use Rattle.rws_commands.specs.declared.history.PreparedAs.{PreparedAs}
use Rattle.rws_record.specs.Item.{Ending, Item, Purpose, Put, Recording, Tell}
use Rattle.rws_record.specs.Item.Item.{TurnsAway, Comes, Connects, Puts}
use Rattle.rws_record.specs.Item.Purpose.{Prepares, Asks, Plays, Waits, Probes}
use Rattle.rws_record.specs.Item.Recording.{Nothing, Accepts, Keeps}
use Rattle.rws_record.specs.Item.Put.{Hands, Tells, Records, Drops, Closes}
use Rattle.rws_record.specs.Item.Tell.{Passes}
use Rattle.rws_class.specs.declared.class.Class.{Class}
use Rattle.rws_class.specs.declared.class.Class.TheVariants.{Read, PrimaryRead, Write, Session, Begin, BeginReadOnly, Commit, Rollback, AutocommitOn, AutocommitOff, TrxLocal, Ddl, Refused as Forbidden, Other}
use Rattle.rws_commands.specs.Statements.{Statements, is_full, is_otherwise, swept_if}
use Rattle.rws_commands.specs.Commands.{class_of_command, is_session}
use Rattle.rws_record.specs.Values.{class_by_pending, fronted, goes_on, links, kept_on, asked_on, awaited, exchange, linked, named_in, named_on, link_held, pending, sent_on, statements, ends_transaction, reply_number, server_of, told, told_from, is_over, without, transaction, transaction_bytes}
use Rattle.rws_record.specs.Rules.{again_by, goes_if, is_link, after_loss, after_loss_by, loss_by, after_connecting, after_flood, after_keeping, after_played, commit_by, recording_commit, after_preparing, after_turning_away, after_answer, form_of, recording_by, recording_of, differing, unasked, ending, is_full_behind, is_read_only, is_replay_off, is_replayable}
use Rattle.rws_record.proofs.LinkedLemmas.{after_part_is}
use Rattle.rws_record.proofs.RecordLemmas.{contained}
use Rattle.rws_laws.specs.Client.{Flooded, IsPending, IsSaid, Refused}
use Rattle.rws_laws.specs.Client.Refused.{not_spoken, denied, out_of_order, too_large}
use Rattle.rws_laws.specs.Client.Handed.{in_login, at_end}
use Rattle.rws_laws.specs.Client.WasRefused.{refused}
use Rattle.rws_laws.specs.Client.Asked.{before}
use Rattle.rws_laws.specs.Servers.{IsNoReply, Lost, came_on}
use Rattle.rws_laws.specs.Servers.IsWrong.{wrong}
use Rattle.rws_laws.specs.Servers.NamesCommit.{names}
use Rattle.rws_laws.specs.Servers.{IsOther}
use Rattle.rws_laws.specs.Servers.IsOther.{fails, counts}
use Rattle.rws_laws.specs.Servers.WasUnasked.{behind_reply, earlier}
use Rattle.rws_laws.specs.Causes.{HasSet, IsCaused, IsCut, IsEnded, IsHidden, IsOfReply, IsPassed, IsRecorded, SetsSession}
use Rattle.rws_laws.specs.Causes.JustKept.{fills}
use Rattle.rws_laws.specs.Causes.SetsSession.{sets, sets_autocommit, unsets_autocommit}
use Rattle.rws_laws.proofs.CameLemmas.{left_by, part_leaves}
use Rattle.rws_laws.proofs.LinksLemmas.{StaysCaused, others_caused}
use Rattle.rws_laws.proofs.TransactionLemmas.{lasting, not_again, only_reads}
use Rattle.rws_laws.proofs.ListLemmas.{has_it, other_stays}
use Rattle.rws_laws.proofs.Sound.{Caused, Sent, handle, ToldBy, Telling, IsAsked, Asking, is_that, is_not}
use Rattle.rws_laws.proofs.Sound.Caused.{nothing, drops, leaves as leaves_behind, closes, hands, tells, records}
use Rattle.rws_laws.proofs.Sound.ToldBy.{none_told, a_part, all}

-- A session closes when its link is lost

pub cut : {list : List Payload} {from sent : Option ℕ} {pending : Option Command} (link : ℕ) → ToldBy list from sent pending
    → from ≡ Some link → (list ≢ []) × (sent ≡ Some link)
cut link none_told e = absurd cc
cut link (a_part some) e = (some, e)
cut link all e = absurd cc

uncut : {list : List Payload} {from sent : Option ℕ} {pending : Option Command} (link : ℕ) (command : Command)
    → ToldBy list from sent pending → from ≢ Some link → sent ≡ Some link → pending ≡ Some command → list ≡ []
uncut link command none_told n s p = refl
uncut link command (a_part some) n s p = absurd (n s)
uncut link command all n s p = absurd cc

module _ (config : Config) (below past : List Item) (link : ℕ) (lost : Lost link below past) (sent : Sent config below) (telling : Telling below)
    (asks : Asking config below) where
  abbrev again : Bool
  again = again_by (pending below) (transaction config below).state

  its_command : sent_on below ≡ Some link → (command : Command) × IsPending config command below
  its_command s = let there = sent link s in (there.0, record { waits = there.1; asked = (asks there.0 there.1).asked })

  not_cut : is_link link (told_from below) ≡ false → (command : Command) → ¬ IsCut config link command below
  not_cut t command is = is_not link (told_from below) t is.from

  not_hidden : (sent_there its_again : Bool) → is_link link (sent_on below) ≡ sent_there → again ≡ its_again
      → (sent_there && not its_again) ≡ false → (command : Command) → ¬ IsHidden config link command below
  not_hidden false its_again s a none command is = is_not link (sent_on below) s is.sent
  not_hidden true false s a none command is = absurd cc
  not_hidden true true s a none command is =
      not_again is.lasts
      (ap (λ (found : Option Command). again_by found (transaction config below).state) (sym is.pending.waits) ∙ a)

  hides : (command : Command) → IsPending config command below → sent_on below ≡ Some link → again ≡ false → is_link link (told_from below) ≡ false
      → IsHidden config link command below
  hides command is s a t = record {
    pending = is;
    sent = s;
    lasts = lasting (class_of_command command) (transaction config below).state
        (ap (λ (found : Option Command). again_by found (transaction config below).state) (sym is.waits) ∙ a);
    none = uncut link command telling (is_not link (told_from below) t) s is.waits;
  }

  ended : is_link link (transaction config below).link ≡ true
      → IsEnded config link (transaction_bytes config below) (transaction config below).state.tainted
      (is_read_only (transaction config below).state.opened) is_replay_off below
  ended o = record {
    open_on = is_that link (transaction config below).link o;
    counts = refl;
    had_error = refl;
    only_reads = only_reads (transaction config below).state.opened;
    is_off = refl;
  }

  losing : (its_part sent_there its_again is_kept is_opened assigned : Bool) → is_link link (told_from below) ≡ its_part
      → is_link link (sent_on below) ≡ sent_there → again ≡ its_again → is_link link (kept_on below) ≡ is_kept
      → is_link link (transaction config below).link ≡ is_opened
      → Caused config (after_loss_by (loss_by its_part sent_there its_again is_kept is_opened is_replayable assigned) (ending config below)) past
  losing true sent_there its_again is_kept is_opened assigned t s a k o =
      let from = is_that link (told_from below) t in
      let part = cut link telling from in
      let command = its_command part.1 in
      closes (link, below, command.0, lost, record { pending = command.1; from = from; some = part.0 })
  losing false true false is_kept is_opened assigned t s a k o =
      let on = is_that link (sent_on below) s in
      let command = its_command on in
      closes (link, below, command.0, lost, hides command.0 command.1 on a t)
  losing false true true true is_opened assigned t s a k o =
      closes (link, below, lost, is_that link (kept_on below) k, not_cut t, not_hidden true true s a refl)
  losing false false its_again true is_opened assigned t s a k o =
      closes (link, below, lost, is_that link (kept_on below) k, not_cut t, not_hidden false its_again s a refl)
  losing false true true false true assigned t s a k o =
      closes (link, below, lost, ended o, is_not link (kept_on below) k, not_cut t, not_hidden true true s a refl)
  losing false false its_again false true assigned t s a k o =
      closes (link, below, lost, ended o, is_not link (kept_on below) k, not_cut t, not_hidden false its_again s a refl)
  losing false true true false false true t s a k o = nothing
  losing false true true false false false t s a k o = nothing
  losing false false its_again false false true t s a k o = nothing
  losing false false its_again false false false t s a k o = nothing

  pub loss_caused : Caused config (after_loss config link below) past
  loss_caused =
      losing (is_link link (told_from below)) (is_link link (sent_on below)) again (is_link link (kept_on below))
      (is_link link (transaction config below).link) (is_link link (goes_if (pending below) (goes_on config below))) refl refl refl refl refl

-- Too much came behind a command that isn't answered

pub flood_caused : (config : Config) (bytes : ℕ) (past : List Item) → Flooded config bytes past → Caused config (after_flood bytes) past
flood_caused config bytes past noted = tells (inl (bytes, noted, refl)) (closes (past, refl, noted))

-- The client's login

-- a client that is refused is told, and then the session is closed
refusal_caused : {config : Config} {past : List Item} {packets : List ℕ} {reason : CloseReason} → Refused config (fronted config past) packets reason
    → Caused config (Hands packets ∷ Closes reason ∷ []) (Connects (fronts.End packets reason) ∷ past)
refusal_caused (not_spoken r n) = hands (at_end (not_spoken r n)) (closes (refused (not_spoken r n)))
refusal_caused (denied p n) = hands (at_end (denied p n)) (closes (refused (denied p n)))
refusal_caused (out_of_order b) = hands (at_end (out_of_order b)) (closes (refused (out_of_order b)))
refusal_caused (too_large b) = hands (at_end (too_large b)) (closes (inl (refused (too_large b))))

pub said_caused : (config : Config) (past : List Item) (said : FrontStep) → IsSaid config (fronted config past) said
    → Caused config (after_connecting said) (Connects said ∷ past)
said_caused config past (fronts.Send packets) its = hands (in_login its) nothing
said_caused config past (fronts.LoggedIn login) its = nothing
said_caused config past (fronts.End packets reason) its = refusal_caused its
said_caused config past (fronts.Command payload) its = absurd its
said_caused config past fronts.Idle its = absurd its

pub turning_caused : (config : Config) (told : Bool) → Caused config (after_turning_away told) (TurnsAway told ∷ [])
turning_caused config true = tells (refl, refl) (closes (inr refl))
turning_caused config false = closes (inl refl)

-- A payload of an awaited reply

pub one_of : {list : List Payload} {from sent : Option ℕ} {pending : Option Command} (link : ℕ) (command : Command)
    → ToldBy list from sent pending → sent ≡ Some link → pending ≡ Some command → (list ≡ []) ⊎ (from ≡ Some link)
one_of link command none_told s p = inl refl
one_of link command (a_part some) s p = inr s
one_of link command all s p = absurd cc

-- what came on a link: this payload, behind what it owes
pub record Arrived (past : List Item) (link : ℕ) (e : Exchange) (payload rest : Payload) (number : ℕ) : Type 0 where
  pub has : Contains (links past) link
  pub owes : exchange link past ≡ Some e
  pub state : linked link past ≡ Awaits e (link_held link past)
  pub begins : first_payload SERVER_PAYLOAD e.next (link_held link past) ≡ Whole payload number rest
  pub came : e.sofar ≡ came_on link past
  pub goes : is_over past ≡ false

module _ (past : List Item) (link : ℕ) (e : Exchange) (payload rest : Payload) (number : ℕ) (arrived : Arrived past link e payload rest number) where
  itself : (link == link) ≡ true
  itself = eq-eqb link link refl

  -- what came so far, if this is no part of it
  came_before : came_on link (Comes link (steps.Lost losses.BadReply) ∷ past) ≡ e.sofar
  came_before = rw itself (sym arrived.came)

  -- this payload is no reply to what was asked
  pub no_reply_so : (kind : Kind) → e.kind ≡ kind → progress e.kind e.sofar payload ≡ None
      → IsNoReply kind link payload (Comes link (steps.Lost losses.BadReply) ∷ past)
  no_reply_so kind k p =
      let bad = (progress_is_exact e.kind e.sofar payload).bad p in
      record {
        came = wrong {e = e} {rest = rest} {number = number} arrived.owes arrived.begins bad.0 bad.1;
        no_beginning = λ begins. bad.0 (rw k (subst (λ (list : List Payload). Begins kind (list ++ payload ∷ [])) came_before begins));
        no_whole = λ outcome reply.
            bad.1 outcome (rw k (subst (λ (list : List Payload). IsReply kind (list ++ payload ∷ []) outcome) came_before reply));
      }

  module _ (its : Role) (far : Progress) (r : role e.kind e.sofar payload ≡ Some its) (p : progress e.kind e.sofar payload ≡ Some far) where
    -- what came with it
    pub came_with : came_on link (Comes link (steps.Part payload its far number (is_some_byte rest)) ∷ past) ≡ e.sofar ++ payload ∷ []
    came_with = rw itself (ap (λ (list : List Payload). list ++ payload ∷ []) (sym arrived.came))

    -- what the link owes then
    pub leaves : exchange link (Comes link (steps.Part payload its far number (is_some_byte rest)) ∷ past) ≡ left_by far (with_part payload number e)
    leaves =
        rw itself (
        ap (λ (s : LinkState). awaited (step s).after) arrived.state
        ∙ ap awaited (after_part_is e (link_held link past) payload rest number its far arrived.begins r p)
        ∙ part_leaves (with_part payload number e) rest far
        )

-- a byte behind a whole reply in the same piece costs the link
pub byte_behind : (config : Config) (past : List Item) (link : ℕ) (e : Exchange) (payload rest : Payload) (number : ℕ) → Arrived past link e payload rest number
    → (its : Role) (outcome : Outcome) → role e.kind e.sofar payload ≡ Some its → progress e.kind e.sofar payload ≡ Some (Ends outcome)
    → Caused config (unasked link (is_some_byte rest)) (Comes link (steps.Part payload its (Ends outcome) number (is_some_byte rest)) ∷ past)
byte_behind config past link e payload rest number arrived its outcome r p =
    by_rest rest arrived.begins (leaves past link e payload rest number arrived its (Ends outcome) r p)
  where
    by_rest : (behind : Payload) → first_payload SERVER_PAYLOAD e.next (link_held link past) ≡ Whole payload number behind
        → exchange link (Comes link (steps.Part payload its (Ends outcome) number (is_some_byte rest)) ∷ past) ≡ None
        → Caused config (unasked link (is_some_byte behind)) (Comes link (steps.Part payload its (Ends outcome) number (is_some_byte rest)) ∷ past)
    by_rest [] f none = nothing
    by_rest (byte ∷ behind) f none =
        drops {link = link} {cause = Unasked} arrived.goes (
          (
            behind_reply {e = e} {payload = payload} {rest = behind} {byte = byte} {number = number} outcome arrived.owes f
                (((progress_is_exact e.kind e.sofar payload).whole outcome).0 p),
            none,
          ),
          arrived.has,
        )

-- and it does so once the end was told, and when other links were given up since
pub unasked_told : (config : Config) (now : List Item) (link : ℕ) (behind : Bool) (number : ℕ) (tell : Tell) → Caused config (unasked link behind) now
    → Caused config (unasked link behind) (Puts (Tells number tell) ∷ now)
unasked_told config now link false number tell caused = nothing
unasked_told config now link true number tell (drops n cause) = drops n ((earlier cause.0.0, cause.0.1), cause.1)
unasked_told config now link true number tell (leaves_behind lossless cause rest) = absurd cc

-- and once a commit was told of
pub unasked_recorded : (config : Config) (now : List Item) (link : ℕ) (behind : Bool) (server : ℕ) (gtid : Gtid) → Caused config (unasked link behind) now
    → Caused config (unasked link behind) (Puts (Records server gtid) ∷ now)
unasked_recorded config now link false server gtid caused = nothing
unasked_recorded config now link true server gtid (drops n cause) = drops n ((earlier cause.0.0, cause.0.1), cause.1)
unasked_recorded config now link true server gtid (leaves_behind lossless cause rest) = absurd cc

-- What is owed for a payload has its cause, and has it also where the commit that the payload names was told of before.
pub record StillCaused (config : Config) (list : List Put) (now : List Item) : Type 0 where
  pub stands : Caused config list now
  pub later : (server : ℕ) (gtid : Gtid) → Caused config list (Puts (Records server gtid) ∷ now)

pub still_nothing : {config : Config} {now : List Item} → StillCaused config [] now
still_nothing = record { stands = nothing; later = λ server gtid. nothing }

pub still_unasked : {config : Config} {now : List Item} (link : ℕ) (behind : Bool) → Caused config (unasked link behind) now
    → StillCaused config (unasked link behind) now
still_unasked {config} {now} link behind caused =
    record { stands = caused; later = λ server gtid. unasked_recorded config now link behind server gtid caused }

-- what names a commit is an OK in a reply to something else than the preamble
module _ (config : Config) (past : List Item) (link : ℕ) (payload : Payload) (its : Role) (far : Progress) (number : ℕ) (behind : Bool)
    (has : Contains (links past) link) where
  names_it : (purpose : Purpose) → asked_on link past ≡ Some purpose → (gtid : Gtid) → commit_by config.gtid_domain its payload (Some purpose) ≡ Some gtid
      → IsCaused config (Records (server_of link past) gtid) (Comes link (steps.Part payload its far number behind) ∷ past)
  names_it purpose asked gtid e = by_role its refl purpose asked e
    where
      no_commit : {A : Type 0} → None ≡ Some gtid → A
      no_commit clash = absurd cc

      named : (purpose : Purpose) → asked_on link past ≡ Some purpose → purpose ≢ Prepares → commit_in config.gtid_domain payload ≡ Some gtid
          → IsCaused config (Records (server_of link past) gtid) (Comes link (steps.Part payload roles.Ok far number behind) ∷ past)
      named purpose asked apart e = names has refl asked apart e

      by_purpose : (purpose : Purpose) → asked_on link past ≡ Some purpose → commit_by config.gtid_domain roles.Ok payload (Some purpose) ≡ Some gtid
          → IsCaused config (Records (server_of link past) gtid) (Comes link (steps.Part payload roles.Ok far number behind) ∷ past)
      by_purpose Prepares asked e = absurd cc
      by_purpose (Asks command id) asked e = named (Asks command id) asked (λ same. cc) e
      by_purpose (Plays entry) asked e = named (Plays entry) asked (λ same. cc) e
      by_purpose (Waits gtid seconds) asked e = named (Waits gtid seconds) asked (λ same. cc) e
      by_purpose (Probes gtid) asked e = named (Probes gtid) asked (λ same. cc) e

      by_role : (role : Role) → its ≡ role → (purpose : Purpose) → asked_on link past ≡ Some purpose → commit_by config.gtid_domain its payload (Some purpose) ≡ Some gtid
          → IsCaused config (Records (server_of link past) gtid) (Comes link (steps.Part payload its far number behind) ∷ past)
      by_role roles.Ok is purpose asked e =
          subst (λ (role : Role). IsCaused config (Records (server_of link past) gtid) (Comes link (steps.Part payload role far number behind) ∷ past)) (sym is)
          (by_purpose purpose asked (ap (λ (role : Role). commit_by config.gtid_domain role payload (Some purpose)) (sym is) ∙ e))
      by_role roles.Err is purpose asked e = no_commit (ap (λ (role : Role). commit_by config.gtid_domain role payload (Some purpose)) (sym is) ∙ e)
      by_role roles.Prepared is purpose asked e = no_commit (ap (λ (role : Role). commit_by config.gtid_domain role payload (Some purpose)) (sym is) ∙ e)
      by_role roles.Count is purpose asked e = no_commit (ap (λ (role : Role). commit_by config.gtid_domain role payload (Some purpose)) (sym is) ∙ e)
      by_role roles.Definition is purpose asked e = no_commit (ap (λ (role : Role). commit_by config.gtid_domain role payload (Some purpose)) (sym is) ∙ e)
      by_role roles.Eof is purpose asked e = no_commit (ap (λ (role : Role). commit_by config.gtid_domain role payload (Some purpose)) (sym is) ∙ e)
      by_role roles.Row is purpose asked e = no_commit (ap (λ (role : Role). commit_by config.gtid_domain role payload (Some purpose)) (sym is) ∙ e)

  pub with_commit : (purpose : Purpose) → asked_on link past ≡ Some purpose → (list : List Put)
      → StillCaused config list (Comes link (steps.Part payload its far number behind) ∷ past)
      → Caused config (recording_commit (server_of link past) (commit_by config.gtid_domain its payload (Some purpose)) ++ list)
      (Comes link (steps.Part payload its far number behind) ∷ past)
  with_commit purpose asked list still = by_commit (commit_by config.gtid_domain its payload (Some purpose)) refl
    where
      by_commit : (commit : Option Gtid) → commit_by config.gtid_domain its payload (Some purpose) ≡ commit
          → Caused config (recording_commit (server_of link past) commit ++ list) (Comes link (steps.Part payload its far number behind) ∷ past)
      by_commit None e = still.stands
      by_commit (Some gtid) e = records (names_it purpose asked gtid e) (still.later (server_of link past) gtid)

unasked_stays : (config : Config) (now : List Item) (link : ℕ) (behind : Bool) → Caused config (unasked link behind) now
    → StaysCaused config link (unasked link behind) now
unasked_stays config now link behind caused = record { stands = caused; later = λ other past apart its. stays behind other past apart its }
  where
    stays : (behind : Bool) (other : ℕ) (past : List Item) → (link == other) ≡ false → Caused config (unasked link behind) past
        → Caused config (unasked link behind) (Puts (Drops other Kept) ∷ past)
    stays false other past apart its = nothing
    stays true other past apart (drops n cause) =
        drops n (
          (earlier cause.0.0, cause.0.1),
          contained link (without other (links past)) (other_stays other link (links past) apart (has_it (links past) link cause.1)),
        )
    stays true other past apart (leaves_behind lossless cause rest) = absurd cc

-- The preamble's reply

module _ (config : Config) (past : List Item) (link : ℕ) (e : Exchange) (payload rest : Payload) (number : ℕ)
    (arrived : Arrived past link e payload rest number) (kind : e.kind ≡ QueryReply) (asked : asked_on link past ≡ Some Prepares) where
  pub misprepared_caused : progress e.kind e.sofar payload ≡ None
      → Caused config (Drops link BadReply ∷ []) (Comes link (steps.Lost losses.BadReply) ∷ past)
  misprepared_caused p =
      drops {link = link} {cause = BadReply} arrived.goes
      (inr (inl (payload, asked, no_reply_so past link e payload rest number arrived QueryReply kind p)), arrived.has)

  pub preparing_caused : (its : Role) (far : Progress) → role e.kind e.sofar payload ≡ Some its → progress e.kind e.sofar payload ≡ Some far
      → StillCaused config (after_preparing link far (is_some_byte rest)) (Comes link (steps.Part payload its far number (is_some_byte rest)) ∷ past)
  preparing_caused its More r p = still_nothing
  preparing_caused its (Ends (Failed code)) r p =
      let reply = ((progress_is_exact e.kind e.sofar payload).whole (Failed code)).0 p in
      let reply : IsReply QueryReply (e.sofar ++ payload ∷ []) (Failed code) = rw kind at reply in
      let came = came_with past link e payload rest number arrived its (Ends (Failed code)) r p in
      let failed : IsReply QueryReply (came_on link (Comes link (steps.Part payload its (Ends (Failed code)) number (is_some_byte rest)) ∷ past)) (Failed code) =
      subst (λ (list : List Payload). IsReply QueryReply list (Failed code)) (sym came) reply in
      record {
        stands = drops {link = link} {cause = LoginFails code} arrived.goes (inr (record { came = refl; asked = asked; failed = failed }), arrived.has);
        later = λ server gtid.
            drops {link = link} {cause = LoginFails code} arrived.goes (inr (record { came = refl; asked = asked; failed = failed }), arrived.has);
      }
  preparing_caused its (Ends (Done status)) r p =
      still_unasked link (is_some_byte rest) (byte_behind config past link e payload rest number arrived its (Done status) r p)

-- The reply to an entry of the history

module _ (config : Config) (past : List Item) (link : ℕ) (e : Exchange) (payload rest : Payload) (number : ℕ)
    (arrived : Arrived past link e payload rest number) (entry : HistoryEntry) (kind : e.kind ≡ entry.kind)
    (asked : asked_on link past ≡ Some (Plays entry)) where
  pub misplayed_caused : progress e.kind e.sofar payload ≡ None
      → Caused config (Drops link BadReply ∷ []) (Comes link (steps.Lost losses.BadReply) ∷ past)
  misplayed_caused p =
      drops {link = link} {cause = BadReply} arrived.goes
      (inr (inr (inl (entry, payload, asked, no_reply_so past link e payload rest number arrived entry.kind kind p))), arrived.has)

  -- the reply ended so, and told of this statement
  module _ (its : Role) (outcome : Outcome) (r : role e.kind e.sofar payload ≡ Some its) (p : progress e.kind e.sofar payload ≡ Some (Ends outcome)) where
    abbrev whole_said : LinkStep
    whole_said = steps.Part payload its (Ends outcome) number (is_some_byte rest)

    played_so : IsReply entry.kind (came_on link (Comes link whole_said ∷ past)) outcome
    played_so =
        let reply = ((progress_is_exact e.kind e.sofar payload).whole outcome).0 p in
        let reply : IsReply entry.kind (e.sofar ++ payload ∷ []) outcome = rw kind at reply in
        let came = came_with past link e payload rest number arrived its (Ends outcome) r p in
        subst (λ (list : List Payload). IsReply entry.kind list outcome) (sym came) reply

    differs : IsOther entry (came_on link (Comes link whole_said ∷ past)) (named_on link (Comes link whole_said ∷ past))
        → StillCaused config (Drops link SessionDiffers ∷ []) (Comes link whole_said ∷ past)
    differs other = record {
      stands = drops {link = link} {cause = SessionDiffers} arrived.goes
          (record { came = refl; entry = entry; asked = asked; other = other }, arrived.has);
      later = λ server gtid.
          drops {link = link} {cause = SessionDiffers} arrived.goes
          (record { came = refl; entry = entry; asked = asked; other = other }, arrived.has);
    }

  other_counts : (statement : Option PreparedAs) (named : Option PrepareOk) → is_otherwise statement named ≡ true
      → (how : PreparedAs) × (ok : PrepareOk) × (statement ≡ Some how) × (named ≡ Some ok) × (¬ ((how.columns ≡ ok.columns) × (how.parameters ≡ ok.parameters)))
  other_counts None named e = absurd cc
  other_counts (Some how) None e = absurd cc
  other_counts (Some how) (Some ok) e = (
    how,
    ok,
    refl,
    refl,
    λ same.
        let columns : (how.columns == ok.columns) ≡ true = eq-eqb how.columns ok.columns same.0 in
        let parameters : (how.parameters == ok.parameters) ≡ true = eq-eqb how.parameters ok.parameters same.1 in
        let clash : false ≡ true = rw (columns, parameters) at e in cc,
  )

  counted_caused : (its : Role) (status : ℕ) (otherwise : Bool) → is_otherwise entry.statement (named_in its payload (named_on link past)) ≡ otherwise
      → role e.kind e.sofar payload ≡ Some its → progress e.kind e.sofar payload ≡ Some (Ends (Done status))
      → StillCaused config (differing link otherwise (is_some_byte rest)) (Comes link (steps.Part payload its (Ends (Done status)) number (is_some_byte rest)) ∷ past)
  counted_caused its status false o r p = still_unasked link (is_some_byte rest) (byte_behind config past link e payload rest number arrived its (Done status) r p)
  counted_caused its status true o r p =
      let same : named_on link (Comes link (steps.Part payload its (Ends (Done status)) number (is_some_byte rest)) ∷ past) ≡ named_in its payload (named_on link past) =
      rw (itself past link e payload rest number arrived) refl in
      let found = other_counts entry.statement (named_in its payload (named_on link past)) o in
      differs its (Done status) r p (counts found.0 found.1 status found.2 (same ∙ found.3) (played_so its (Done status) r p) found.4)

  pub playing_caused : (its : Role) (far : Progress) → role e.kind e.sofar payload ≡ Some its → progress e.kind e.sofar payload ≡ Some far
      → StillCaused config (after_played link entry (named_in its payload (named_on link past)) far (is_some_byte rest))
      (Comes link (steps.Part payload its far number (is_some_byte rest)) ∷ past)
  playing_caused its More r p = still_nothing
  playing_caused its (Ends (Failed code)) r p =
      differs its (Failed code) r p (fails code (played_so its (Failed code) r p))
  playing_caused its (Ends (Done status)) r p =
      counted_caused its status (is_otherwise entry.statement (named_in its payload (named_on link past))) refl r p

-- a payload that is passed on is passed on once its commit was told of
passed_later : {config : Config} {number link : ℕ} {command : Command} {payload : Payload} {from : ℕ} {said : LinkStep} {past : List Item}
    → IsPassed config number link command payload (Comes from said ∷ past) → (server : ℕ) (gtid : Gtid)
    → IsPassed config number link command payload (Puts (Records server gtid) ∷ Comes from said ∷ past)
passed_later its server gtid = record {
  came = its.came;
  has = its.has;
  of_reply = record {
    pending = record { waits = its.of_reply.pending.waits; asked = before its.of_reply.pending.asked };
    sent = its.of_reply.sent;
    one_link = its.of_reply.one_link;
  };
  in_form = its.in_form;
  counts = its.counts;
}

-- What the end of a reply means for the history

session_class : (class : Class) → is_session class ≡ true → SetsSession class
session_class Session e = sets
session_class AutocommitOn e = sets_autocommit
session_class Read e = absurd cc
session_class PrimaryRead e = absurd cc
session_class Write e = absurd cc
session_class Begin e = absurd cc
session_class BeginReadOnly e = absurd cc
session_class Commit e = absurd cc
session_class Rollback e = absurd cc
session_class AutocommitOff e = unsets_autocommit
session_class TrxLocal e = absurd cc
session_class Ddl e = absurd cc
session_class Forbidden e = absurd cc
session_class Other e = absurd cc

no_session : {class : Class} → SetsSession class → is_session class ≡ false → ⊥
no_session sets e = absurd cc
no_session sets_autocommit e = absurd cc
no_session unsets_autocommit e = absurd cc

module _ (config : Config) (command : Command) (now : List Item) where
  abbrev count : ℕ
  count = length (statements config now).history

  recorded_by : (its : Bool) → is_session (class_of_command command) ≡ its → (kept : Option ℕ) → kept_on now ≡ kept
      → (room : Bool) → nat_lt count config.history_limit ≡ room → (outcome : Outcome)
      → IsRecorded config command outcome (recording_by its (is_some kept) (not room) outcome) now
  recorded_by false s kept k room l outcome = λ set. no_session set.class s
  recorded_by true s (Some on) k room l outcome = λ set. let clash : None ≡ Some on = sym set.free ∙ k in absurd cc
  recorded_by true s None k true l (Failed code) = λ set. let clash : Failed code ≡ Done set.status = set.done in absurd cc
  recorded_by true s None k false l (Failed code) = λ set. let clash : Failed code ≡ Done set.status = set.done in absurd cc
  recorded_by true s None k true l (Done status) = (
    record { class = session_class (class_of_command command) s; status = status; done = refl; free = k },
    ltb-true count config.history_limit l,
  )
  recorded_by true s None k false l (Done status) = (
    record { class = session_class (class_of_command command) s; status = status; done = refl; free = k },
    elim (cases_lt count config.history_limit) [
      | inl below ↦
          let clash : false ≡ true = sym l ∙ lt-ltb count config.history_limit below in absurd cc
      | inr full ↦ full
    ],
  )

-- behind the end of a reply to a command of the client the statements are those that the transaction's end leaves
pub recorded : (config : Config) (command : Command) (id : Option ℕ) (link : ℕ) (past : List Item) (payload : Payload) (its : Role) (outcome : Outcome)
    (number : ℕ) (behind : Bool) → pending past ≡ Some command → asked_on link past ≡ Some (Asks command id)
    → IsRecorded config command outcome (recording_of config link past outcome) (Comes link (steps.Part payload its (Ends outcome) number behind) ∷ past)
recorded config command id link past payload its outcome number behind p a =
    let now : List Item = Comes link (steps.Part payload its (Ends outcome) number behind) ∷ past in
    let swept : statements config now ≡ swept_if (ends_transaction config link outcome past) (statements config past) = rw a refl in
    subst (λ (pending : Option Command). IsRecorded config command outcome
    (recording_by (is_session (class_by_pending pending)) (is_some (kept_on past)) (is_full_behind config link outcome past) outcome) now) (sym p)
    (subst (λ (s : Statements). IsRecorded config command outcome
    (recording_by (is_session (class_of_command command)) (is_some (kept_on past)) (is_full config.history_limit s) outcome) now) swept
    (recorded_by config command now (is_session (class_of_command command)) refl (kept_on past) refl
    (nat_lt (length (statements config now).history) config.history_limit) refl outcome))

-- The reply to the pending command

-- the link that has it says this payload
pub record CameNext (config : Config) (past : List Item) (link : ℕ) (e : Exchange) (command : Command) (payload rest : Payload) (number : ℕ) : Type 0 where
  pub arrived : Arrived past link e payload rest number
  pub kind : e.kind ≡ command.kind
  pub id : Option ℕ
  pub asked_it : asked_on link past ≡ Some (Asks command id)
  pub pending : pending past ≡ Some command
  pub sent : sent_on past ≡ Some link
  pub in_form : client_reply command.kind (handle config past) e.sofar ≡ told past
  pub telling : Telling past
  pub its : IsAsked config command past

module _ (config : Config) (past : List Item) (link : ℕ) (e : Exchange) (command : Command) (payload rest : Payload) (number : ℕ)
    (next : CameNext config past link e command payload rest number) where
  of_reply : (said : LinkStep) → IsOfReply config link command (Comes link said ∷ past)
  of_reply said = record {
    pending = record { waits = next.pending; asked = before next.its.asked };
    sent = next.sent;
    one_link = one_of link command next.telling next.sent next.pending;
  }

  -- A payload by which what came is no reply

  pub wrong_caused : progress e.kind e.sofar payload ≡ None
      → Caused config (Drops link BadReply ∷ []) (Comes link (steps.Lost losses.BadReply) ∷ past)
  wrong_caused p =
      drops {link = link} {cause = BadReply} next.arrived.goes (
        inl (command, payload, of_reply (steps.Lost losses.BadReply), no_reply_so past link e payload rest number next.arrived command.kind next.kind p),
        next.arrived.has,
      )

  -- One that brings the reply on, or ends it

  module _ (its : Role) (far : Progress) (r : role e.kind e.sofar payload ≡ Some its) (p : progress e.kind e.sofar payload ≡ Some far) where
    abbrev pub said : LinkStep
    said = steps.Part payload its far number (is_some_byte rest)

    -- what the client gets for it
    abbrev pub form : Payload
    form = form_of (handle config past) its payload

    in_role_is : in_role (role command.kind e.sofar payload) (handle config past) payload ≡ form
    in_role_is = let r : role command.kind e.sofar payload ≡ Some its = rw next.kind at r in rw r refl

    pub grown : client_reply command.kind (handle config past) (e.sofar ++ payload ∷ []) ≡ told past ++ form ∷ []
    grown =
        client_replies_grow command.kind (handle config past) e.sofar payload
        ∙ ap (λ (last : Payload). client_reply command.kind (handle config past) e.sofar ++ last ∷ []) in_role_is
        ∙ ap (λ (list : List Payload). list ++ form ∷ []) next.in_form

    came_is : came_on link (Comes link said ∷ past) ≡ e.sofar ++ payload ∷ []
    came_is = came_with past link e payload rest number next.arrived its far r p

    is_passed : IsPassed config (reply_number past) link command form (Comes link said ∷ past)
    is_passed = record {
      came = refl;
      has = next.arrived.has;
      of_reply = of_reply said;
      in_form = sym (ap (client_reply command.kind (handle config past)) came_is ∙ grown);
      counts = next.its.counts;
    }

    pub owes_then : exchange link (Comes link said ∷ past) ≡ left_by far (with_part payload number e)
    owes_then = leaves past link e payload rest number next.arrived its far r p

  -- where it ends
  module _ (its : Role) (outcome : Outcome) (r : role e.kind e.sofar payload ≡ Some its) (p : progress e.kind e.sofar payload ≡ Some (Ends outcome)) where
    abbrev whole : LinkStep
    whole = said its (Ends outcome) r p

    abbrev its_form : Payload
    its_form = form its (Ends outcome) r p

    -- how it ended, and what it told of
    abbrev pub its_ending : Ending
    its_ending = record { outcome = outcome; named = named_in its payload (named_on link past) }

    named_now : its_ending.named ≡ named_on link (Comes link whole ∷ past)
    named_now = sym (rw (itself past link e payload rest number next.arrived) refl)

    ends_so : IsReply command.kind (came_on link (Comes link whole ∷ past)) outcome
    ends_so =
        let reply = ((progress_is_exact e.kind e.sofar payload).whole outcome).0 p in
        let reply : IsReply command.kind (e.sofar ++ payload ∷ []) outcome = rw next.kind at reply in
        subst (λ (list : List Payload). IsReply command.kind list outcome) (sym (came_is its (Ends outcome) r p)) reply

    a_byte : Caused config (unasked link (is_some_byte rest)) (Comes link whole ∷ past)
    a_byte = byte_behind config past link e payload rest number next.arrived its outcome r p

    -- the end is told now, or once the commit was told of
    module _ (now : List Item) (l : links now ≡ links past) (passed_now : IsPassed config (reply_number past) link command its_form now)
        (ends_now : IsReply command.kind (came_on link now) outcome) (owes_now : exchange link now ≡ None) (named_then : its_ending.named ≡ named_on link now)
        (byte_now : Caused config (unasked link (is_some_byte rest)) now) where
      -- the session is kept on the link, and gives up the others
      keeping_caused : HasSet command outcome now × (config.history_limit ≤ length (statements config now).history) → kept_on now ≡ kept_on past
          → Caused config (after_keeping true link (kept_on now) (links now) ++ unasked link (is_some_byte rest))
          (Puts (Tells (reply_number past) (Passes link command its_form (Some its_ending) Keeps)) ∷ now)
      keeping_caused its_full k =
          subst (λ (kept : Option ℕ). Caused config (after_keeping true link kept (links now) ++ unasked link (is_some_byte rest))
          (Puts (Tells (reply_number past) (Passes link command its_form (Some its_ending) Keeps)) ∷ now)) (sym its_full.0.free)
          (others_caused config now (Puts (Tells (reply_number past) (Passes link command its_form (Some its_ending) Keeps)) ∷ now) link
          (unasked link (is_some_byte rest)) refl (fills its_full)
          (unasked_stays config (Puts (Tells (reply_number past) (Passes link command its_form (Some its_ending) Keeps)) ∷ now) link (is_some_byte rest)
          (unasked_told config now link (is_some_byte rest) (reply_number past) (Passes link command its_form (Some its_ending) Keeps) byte_now)))

      ended_caused : (recording : Recording) → IsRecorded config command outcome recording now → kept_on now ≡ kept_on past
          → Caused config (Tells (reply_number past) (Passes link command its_form (Some its_ending) recording) ∷ unasked link (is_some_byte rest)) now
      ended_caused Nothing its_recorded k =
          tells (passed_now, ends_now, owes_now, its_recorded, named_then)
          (unasked_told config now link (is_some_byte rest) (reply_number past) (Passes link command its_form (Some its_ending) Nothing) byte_now)
      ended_caused Accepts its_recorded k =
          tells (passed_now, ends_now, owes_now, its_recorded, named_then)
          (unasked_told config now link (is_some_byte rest) (reply_number past) (Passes link command its_form (Some its_ending) Accepts) byte_now)
      ended_caused Keeps its_recorded k =
          tells (passed_now, ends_now, owes_now, its_recorded, named_then) (keeping_caused its_recorded k)

    -- which changes nothing of what the end means
    recorded_later : (server : ℕ) (gtid : Gtid) (recording : Recording) → IsRecorded config command outcome recording (Comes link whole ∷ past)
        → IsRecorded config command outcome recording (Puts (Records server gtid) ∷ Comes link whole ∷ past)
    recorded_later server gtid Nothing its_recorded = λ set.
        its_recorded (record { class = set.class; status = set.status; done = set.done; free = set.free })
    recorded_later server gtid Accepts its_recorded =
        let set = its_recorded.0 in (record { class = set.class; status = set.status; done = set.done; free = set.free }, its_recorded.1)
    recorded_later server gtid Keeps its_recorded =
        let set = its_recorded.0 in (record { class = set.class; status = set.status; done = set.done; free = set.free }, its_recorded.1)

    end_caused : (recording : Recording) → IsRecorded config command outcome recording (Comes link whole ∷ past)
        → StillCaused config (Tells (reply_number past) (Passes link command its_form (Some its_ending) recording) ∷ unasked link (is_some_byte rest)) (Comes link whole ∷ past)
    end_caused recording its_recorded = record {
      stands = ended_caused (Comes link whole ∷ past) refl (is_passed its (Ends outcome) r p) ends_so (owes_then its (Ends outcome) r p) named_now a_byte recording
          its_recorded refl;
      later = λ server gtid.
          ended_caused (Puts (Records server gtid) ∷ Comes link whole ∷ past) refl (passed_later (is_passed its (Ends outcome) r p) server gtid) ends_so
          (owes_then its (Ends outcome) r p) named_now (unasked_recorded config (Comes link whole ∷ past) link (is_some_byte rest) server gtid a_byte) recording
          (recorded_later server gtid recording its_recorded) refl;
    }

  pub reply_caused : (its : Role) (far : Progress) (r : role e.kind e.sofar payload ≡ Some its) (p : progress e.kind e.sofar payload ≡ Some far)
      → StillCaused config (after_answer link command (form its far r p) (named_in its payload (named_on link past)) far (is_some_byte rest) (reply_number past) (λ outcome. recording_of config link past outcome))
      (Comes link (said its far r p) ∷ past)
  reply_caused its More r p =
      let begins = (progress_is_exact e.kind e.sofar payload).more.0 p in
      let begins : Begins command.kind (e.sofar ++ payload ∷ []) = rw next.kind at begins in
      let begins : Begins command.kind (came_on link (Comes link (said its More r p) ∷ past)) = subst (Begins command.kind) (sym (came_is its More r p)) begins in
      record {
        stands = tells (is_passed its More r p, begins) nothing;
        later = λ server gtid. tells (passed_later (is_passed its More r p) server gtid, begins) nothing;
      }
  reply_caused its (Ends outcome) r p =
      end_caused its outcome r p (recording_of config link past outcome)
      (recorded config command next.id link past payload its outcome number (is_some_byte rest) next.pending next.asked_it)
