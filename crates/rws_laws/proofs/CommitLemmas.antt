-- The words are told of a commit before anything else is done about the reply that names it.
use Rattle.std.proofs.Common.{◌≡◌, ℕ, Bool, true, false, List, [], ◌∷◌, ◌++◌, refl, sym, ap, subst, ◌∙◌, inl, inr, Option, Some, None}
use Rattle.std.specs.Prelude.{◌≢◌, ◌⊎◌}
use Rattle.rws_gtid.specs.declared.Gtid.{Gtid}
use Rattle.rws_causal.specs.Commits.{commit_in}
use Rattle.rws_reply.specs.declared.kind.Outcome.TheVariants.{Done, Failed}
use Rattle.rws_reply.specs.declared.kind.Progress.{Progress}
use Rattle.rws_reply.specs.declared.kind.Progress.TheVariants.{More, Whole as Ends}
use Rattle.rws_reply.specs.declared.role.Role.{Role}
use Rattle.rws_reply.specs.declared.role.Role.TheVariants as roles
use Rattle.rws_reply.specs.Replies.{Payload}
use Rattle.rws_link.specs.declared.step.LinkStep.TheVariants as steps
use Rattle.rws_config.specs.declared.config.Config.{Config}
use Rattle.rws_commands.specs.declared.command.Command.{Command}
use Rattle.rws_commands.specs.Statements.{next_handle}
use Rattle.rws_record.specs.Item.{Ending, Item, Purpose, Put, Recording, Tell}
use Rattle.rws_record.specs.Item.Item.{Comes, Puts, Starves}
use Rattle.rws_record.specs.Item.Purpose.{Prepares, Asks, Plays, Waits, Probes}
use Rattle.rws_record.specs.Item.Put.{Records, Tells}
use Rattle.rws_record.specs.Item.Recording.{Nothing, Accepts, Keeps}
use Rattle.rws_record.specs.Item.Tell.{Passes}
use Rattle.rws_record.specs.Values.{asked_on, checked_on, named_in, named_on, reply_number, server_of, statements}
use Rattle.rws_record.specs.Rules.{after_part, after_preparing, commit_by, form_of, next, owed, recording_commit, unasked}
use Rattle.rws_record.specs.Record.{IsBeginning, IsInput, IsRecord}
use Rattle.rws_record.specs.Record.IsRecord.{begins, steps as goes, answers as answered, hears, starves}
use Rattle.rws_record.proofs.OpeningLemmas.{asks_owing_nothing}
use Rattle.rws_record.proofs.StepLemmas.{Due, Step, of_next, rests_owing_nothing}
use Rattle.rws_record.proofs.StepLemmas.Due.{comes, connects, takes}
use Rattle.rws_record.proofs.StepLemmas.Step.{pays, asks, prepares, forgets, plays, sends, waits_first, probes_first, floods, reads}
use Rattle.rws_laws.specs.Causes.{AreCaused, IsCaused}
use Rattle.rws_laws.specs.Laws.{CameLast, NamesNone, PassesBehindRecords, RecordsFirst}
use Rattle.rws_laws.specs.Laws.CameLast.{unnamed, named}
use Rattle.rws_laws.specs.Servers.{NamesCommit, replied}
use Rattle.rws_laws.specs.Servers.NamesCommit.{names}
use Rattle.rws_laws.proofs.CausesLemmas.{causes}
use Rattle.rws_laws.proofs.Sound.{same_some}

-- What is owed comes next

-- or memory is wanting
abbrev IsNext : Put → Item → Type 0
IsNext put item = (item ≡ Puts put) ⊎ ((made : Bool) × (number : ℕ) × (item ≡ Starves made number))

module _ (config : Config) (past : List Item) (put : Put) (others : List Put) (o : owed config past ≡ put ∷ others) where
  not_owing : {A : Type 0} → owed config past ≡ [] → A
  not_owing none = absurd (let clash : [] ≡ put ∷ others = sym none ∙ o in cc)

  step_next : {item : Item} → Step config past item → IsNext put item
  step_next (pays {put = first} {others = rest} its) =
      let both : first ∷ rest ≡ put ∷ others = sym its ∙ o in
      let same : first ≡ put = cc in inl (ap (λ (p : Put). Puts p) same)
  step_next (asks none n p g w) = not_owing none
  step_next (prepares none n has f) = not_owing none
  step_next (forgets none n has f t) = not_owing none
  step_next (plays none n has f t s) = not_owing none
  step_next (sends none n p s g f t d i v) = not_owing none
  step_next (waits_first none n p s g f t d v) = not_owing none
  step_next (probes_first none n p s g f t d v) = not_owing none
  step_next (floods none n p above) = not_owing none
  step_next (reads none n due) = not_owing none

pub owed_next : {config : Config} {past : List Item} {item : Item} (put : Put) (others : List Put) → owed config past ≡ put ∷ others
    → IsRecord config (item ∷ past) → IsNext put item
owed_next put others o (begins its) = absurd (let clash : [] ≡ put ∷ others = o in cc)
owed_next {config} {past} {item} put others o (goes legal e) = step_next config past put others o (of_next config past item e)
owed_next {config} {past} put others o (answered legal asked) = not_owing config past put others o (asks_owing_nothing legal asked)
owed_next {config} {past} put others o (hears legal rests none n input) = not_owing config past put others o (rests_owing_nothing config past rests none)
owed_next put others o (starves {made = made} {number = number} legal once can its) = inr (made, number, refl)

-- a reply names a commit, so that is first

named_first : (config : Config) (past : List Item) (link next : ℕ) (payload : Payload) (far : Progress) (behind : Bool) (purpose : Purpose) (gtid : Gtid)
    → asked_on link past ≡ Some purpose → purpose ≢ Prepares → commit_in config.gtid_domain payload ≡ Some gtid
    → commit_by config.gtid_domain roles.Ok payload (asked_on link past) ≡ Some gtid
named_first config past link next payload far behind Prepares gtid q apart e = absurd (apart refl)
named_first config past link next payload far behind (Asks command id) gtid q apart e =
    ap (λ (asked : Option Purpose). commit_by config.gtid_domain roles.Ok payload asked) q ∙ e
named_first config past link next payload far behind (Plays entry) gtid q apart e =
    ap (λ (asked : Option Purpose). commit_by config.gtid_domain roles.Ok payload asked) q ∙ e
named_first config past link next payload far behind (Waits its seconds) gtid q apart e =
    ap (λ (asked : Option Purpose). commit_by config.gtid_domain roles.Ok payload asked) q ∙ e
named_first config past link next payload far behind (Probes its) gtid q apart e =
    ap (λ (asked : Option Purpose). commit_by config.gtid_domain roles.Ok payload asked) q ∙ e

-- what is owed for a payload, behind the commit
abbrev part_of : (config : Config) (past : List Item) (link next : ℕ) (payload : Payload) (its : Role) (far : Progress) (behind : Bool) → List Put
part_of config past link next payload its far behind =
    after_part config link (asked_on link past) (form_of (next_handle (statements config past)) its payload) (named_in its payload (named_on link past))
    (checked_on link (steps.Part payload its far next behind) past) far behind (reply_number past) past

pub records_first : RecordsFirst
records_first config past item link next payload far behind purpose gtid legal q apart e =
    let first : owed config (Comes link (steps.Part payload roles.Ok far next behind) ∷ past)
    ≡ Records (server_of link past) gtid ∷ part_of config past link next payload roles.Ok far behind =
    ap (λ (commit : Option Gtid). recording_commit (server_of link past) commit ++ part_of config past link next payload roles.Ok far behind)
    (named_first config past link next payload far behind purpose gtid q apart e) in
    owed_next (Records (server_of link past) gtid) (part_of config past link next payload roles.Ok far behind) first legal

-- What is passed on was owed

module _ (config : Config) (past : List Item) (number : ℕ) (tell : Tell) where
  abbrev WasOwed : Type 0
  WasOwed = (others : List Put) × (owed config past ≡ Tells number tell ∷ others)

  by_due : {item : Item} → Due config past item → item ≡ Puts (Tells number tell) → WasOwed
  by_due (comes has a its) is = absurd cc
  by_due (connects p f c) is = absurd cc
  by_due (takes p f) is = absurd cc

  by_step : {item : Item} → Step config past item → item ≡ Puts (Tells number tell) → WasOwed
  by_step (pays {put = put} {others = others} o) is =
      let same : put ≡ Tells number tell = cc in (others, o ∙ ap (λ (p : Put). p ∷ others) same)
  by_step (asks o n p g w) is = absurd cc
  by_step (prepares o n has f) is = absurd cc
  by_step (forgets o n has f t) is = absurd cc
  by_step (plays o n has f t s) is = absurd cc
  by_step (sends o n p s g f t d i v) is = absurd cc
  by_step (waits_first o n p s g f t d v) is = absurd cc
  by_step (probes_first o n p s g f t d v) is = absurd cc
  by_step (floods o n p above) is = absurd cc
  by_step (reads o n due) is = by_due due is

  not_begun : {A : Type 0} (item : Item) → IsBeginning item → item ≡ Puts (Tells number tell) → A
  not_begun item its is = absurd (let its : ⊥ = subst IsBeginning is its in its)

  not_heard : {A : Type 0} (item : Item) (below : List Item) → IsInput item below → item ≡ Puts (Tells number tell) → A
  not_heard item below its is = absurd (let its : ⊥ = subst (λ (i : Item). IsInput i below) is its in its)

  by_record : {now : List Item} → IsRecord config now → now ≡ Puts (Tells number tell) ∷ past → WasOwed
  by_record (begins {item = item} its) is = not_begun item its (let same : item ≡ Puts (Tells number tell) = cc in same)
  by_record (goes {past = below} {item = item} legal e) is =
      let same : below ≡ past = cc in
      let its : item ≡ Puts (Tells number tell) = cc in
      by_step (of_next config past item (subst (λ (p : List Item). next config p ≡ Some item) same e)) its
  by_record (answered legal asked) is = absurd cc
  by_record (hears {past = below} {item = item} legal rests none n input) is =
      not_heard item below input (let same : item ≡ Puts (Tells number tell) = cc in same)
  by_record (starves legal once can its) is = absurd cc

  pub was_owed : IsRecord config (Puts (Tells number tell) ∷ past) → WasOwed
  was_owed legal = by_record legal refl

-- It came last

unasked_tells : {A : Type 0} (link number : ℕ) (behind : Bool) (tell : Tell) (others : List Put) → unasked link behind ≡ Tells number tell ∷ others → A
unasked_tells link number true tell others o = absurd cc
unasked_tells link number false tell others o = absurd cc

preparing_tells : {A : Type 0} (link number : ℕ) (far : Progress) (behind : Bool) (tell : Tell) (others : List Put)
    → after_preparing link far behind ≡ Tells number tell ∷ others → A
preparing_tells link number More behind tell others o = absurd cc
preparing_tells link number (Ends (Done status)) behind tell others o = unasked_tells link number behind tell others o
preparing_tells link number (Ends (Failed code)) behind tell others o = absurd cc

-- what comes first is no commit
first_none : (server number : ℕ) (commit : Option Gtid) (list others : List Put) (tell : Tell)
    → recording_commit server commit ++ list ≡ Tells number tell ∷ others → commit ≡ None
first_none server number None list others tell o = refl
first_none server number (Some gtid) list others tell o = absurd cc

module _ (config : Config) (below : List Item) (link number next : ℕ) (payload : Payload) (far : Progress) (behind : Bool) (tell : Tell) (others : List Put) where
  abbrev owed_for : Role → Option Purpose → List Put
  owed_for its asked =
      after_part config link asked (form_of (next_handle (statements config below)) its payload) (named_in its payload (named_on link below))
      (checked_on link (steps.Part payload its far next behind) below) far behind (reply_number below) below

  unnamed_by : (its : Role) (asked : Option Purpose)
      → recording_commit (server_of link below) (commit_by config.gtid_domain its payload asked) ++ owed_for its asked ≡ Tells number tell ∷ others
      → NamesNone config.gtid_domain its payload
  unnamed_by roles.Ok None o = absurd cc
  unnamed_by roles.Ok (Some Prepares) o = preparing_tells link number far behind tell others o
  unnamed_by roles.Ok (Some (Asks command id)) o =
      first_none (server_of link below) number (commit_in config.gtid_domain payload) (owed_for roles.Ok (Some (Asks command id))) others tell o
  unnamed_by roles.Ok (Some (Plays entry)) o =
      first_none (server_of link below) number (commit_in config.gtid_domain payload) (owed_for roles.Ok (Some (Plays entry))) others tell o
  unnamed_by roles.Ok (Some (Waits gtid seconds)) o =
      first_none (server_of link below) number (commit_in config.gtid_domain payload) (owed_for roles.Ok (Some (Waits gtid seconds))) others tell o
  unnamed_by roles.Ok (Some (Probes gtid)) o =
      first_none (server_of link below) number (commit_in config.gtid_domain payload) (owed_for roles.Ok (Some (Probes gtid))) others tell o
  unnamed_by roles.Err asked o = tt
  unnamed_by roles.Prepared asked o = tt
  unnamed_by roles.Count asked o = tt
  unnamed_by roles.Definition asked o = tt
  unnamed_by roles.Eof asked o = tt
  unnamed_by roles.Row asked o = tt

-- the commit that was told of is the payload's
told_first : (config : Config) (server link : ℕ) (gtid : Gtid) {past : List Item} → NamesCommit config.gtid_domain server gtid past → replied past ≡ Some link
    → CameLast config.gtid_domain link (Puts (Records server gtid) ∷ past)
told_first config server link gtid (names {past = below} {link = from} {next = next} {payload = payload} {far = far} {behind = behind} has its asked apart e) came =
    subst (λ (at : ℕ). CameLast config.gtid_domain link (Puts (Records at gtid) ∷ Comes from (steps.Part payload roles.Ok far next behind) ∷ below)) its
    (subst (λ (l : ℕ). CameLast config.gtid_domain l (Puts (Records (server_of from below) gtid) ∷ Comes from (steps.Part payload roles.Ok far next behind) ∷ below))
    (same_some from link came) (named {below = below} {payload = payload} {far = far} {next = next} {behind = behind} {gtid = gtid} e))

came_last : (config : Config) (number link : ℕ) (tell : Tell) (others : List Put) (past : List Item) → AreCaused config past → replied past ≡ Some link
    → owed config past ≡ Tells number tell ∷ others → CameLast config.gtid_domain link past
came_last config number link tell others (Comes from (steps.Part payload its far next behind) ∷ below) caused came o =
    subst (λ (l : ℕ). CameLast config.gtid_domain l (Comes from (steps.Part payload its far next behind) ∷ below)) (same_some from link came)
    (unnamed (unnamed_by config below from number next payload far behind tell others its (asked_on from below) o))
came_last config number link tell others (Comes from (steps.Lost cause) ∷ below) caused came o = absurd cc
came_last config number link tell others (Comes from (steps.Send packets) ∷ below) caused came o = absurd cc
came_last config number link tell others (Comes from steps.LoggedIn ∷ below) caused came o = absurd cc
came_last config number link tell others (Comes from steps.Idle ∷ below) caused came o = absurd cc
came_last config number link tell others (Puts (Records server gtid) ∷ below) caused came o = told_first config server link gtid caused.0 came
came_last config number link tell others [] caused came o = absurd cc
came_last config number link tell others (_ ∷ below) caused came o = absurd (let clash : None ≡ Some link = came in cc)

passed_so : (config : Config) (past : List Item) (number link : ℕ) (command : Command) (payload : Payload) (ending : Option Ending) (recording : Recording)
    → IsCaused config (Tells number (Passes link command payload ending recording)) past → replied past ≡ Some link
passed_so config past number link command payload (Some ending) recording cause = cause.0.came
passed_so config past number link command payload None Nothing cause = cause.0.came
passed_so config past number link command payload None Accepts cause = absurd cause
passed_so config past number link command payload None Keeps cause = absurd cause

pub passes_behind_records : PassesBehindRecords
passes_behind_records config past number link command payload ending recording legal =
    let caused = causes config (Puts (Tells number (Passes link command payload ending recording)) ∷ past) legal in
    let owed_then = was_owed config past number (Passes link command payload ending recording) legal in
    came_last config number link (Passes link command payload ending recording) owed_then.0 past caused.1
    (passed_so config past number link command payload ending recording caused.0) owed_then.1
