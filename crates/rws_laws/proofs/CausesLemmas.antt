-- In a legal record all that was read and given out has its cause.
use Rattle.std.proofs.Common.{◌≡◌, ℕ, Bool, true, false, List, [], ◌∷◌, refl, ap, subst, ◌∙◌, inl, inr, Option, Some, None}
use Rattle.std.specs.Prelude.{◌⊎◌, Contains}
use Rattle.rws_pool.specs.declared.words.PoolWords.{PoolWords}
use Rattle.rws_select.specs.declared.selector.Load.{Load}
use Rattle.rws_route.specs.declared.destination.Target.{Target}
use Rattle.rws_routing.specs.declared.routing.Check.{Check}
use Rattle.rws_config.specs.declared.config.Config.{Config}
use Rattle.rws_commands.specs.declared.command.Command.{Command}
use Rattle.rws_commands.specs.declared.history.HistoryEntry.{HistoryEntry}
use Rattle.rws_commands.specs.Commands.{id_for}
use Rattle.rws_commands.specs.Statements.{stale_on, unplayed}
use Rattle.rws_link.specs.declared.step.LinkCause.{LinkCause}
use Rattle.rws_link.specs.declared.step.LinkCause.TheVariants as losses
use Rattle.rws_link.specs.declared.step.LinkStep.{LinkStep}
use Rattle.rws_link.specs.declared.step.LinkStep.TheVariants as said_by
use Rattle.rws_link.specs.Stepping.{LinkState, is_some_byte}
use Rattle.rws_record.specs.Item.{Item, Put}
use Rattle.rws_record.specs.Item.Item.{Accepted, TurnsAway, Began, ClientBytes, LinkReady, LinkBytes, ClientGone, LinkLost, Ticks, Routed, Comes}
use Rattle.rws_record.specs.Item.Put.{Drops, Forgets, Sends}
use Rattle.rws_record.specs.Item.Purpose.{Prepares, Asks, Plays}
use Rattle.rws_record.specs.Values.{statements, awaited, cursor, fronted, is_up, links, link_held, linked, goes_on, pending, routing, sent_on, unread, is_over, is_starved}
use Rattle.rws_record.specs.Rules.{drop_cause, found_in, is_free, next, situation}
use Rattle.rws_record.specs.Record.{IsBeginning, IsRecord, IsInput}
use Rattle.rws_record.specs.Record.IsRecord.{begins, steps, answers as answered, hears, starves}
use Rattle.rws_record.specs.Run.{record_of}
use Rattle.rws_record.proofs.LinkedLemmas.{Says}
use Rattle.rws_record.proofs.LinkedLemmas.Says.{answers, enters, hurries, fails, breaks, part, garbled, wrong, again}
use Rattle.rws_record.proofs.WantLemmas.{step_starved}
use Rattle.rws_record.proofs.StepLemmas.{Due, Step, of_next}
use Rattle.rws_record.proofs.StepLemmas.Due.{comes, connects, takes}
use Rattle.rws_record.proofs.StepLemmas.Step.{pays, asks, prepares, forgets, plays, sends, waits_first, probes_first, floods, reads}
use Rattle.rws_record.proofs.RecordLemmas.{contained, records}
use Rattle.rws_laws.specs.Causes.{AsksFirst, IsCaused, IsBehind, IsRead, AreCaused}
use Rattle.rws_laws.specs.Client.{IsPending}
use Rattle.rws_laws.specs.Client.Took.{took}
use Rattle.rws_laws.specs.Servers.{IsUnprepared, NotEntered}
use Rattle.rws_laws.specs.Servers.Entered.{entered}
use Rattle.rws_laws.proofs.AskedLemmas.{AskedNow, legal_asked}
use Rattle.rws_laws.proofs.AskedLemmas.AskedNow.{asked_now}
use Rattle.rws_laws.proofs.EnteringLemmas.{Entering, IsEntering, is_entering, legal_entering}
use Rattle.rws_laws.proofs.FrontLemmas.{front_says, said_so, steady, taken_so}
use Rattle.rws_laws.proofs.HandshakeLemmas.{takes_so}
use Rattle.rws_laws.proofs.CommandLemmas.{judged_silence}
use Rattle.rws_laws.proofs.PreparedLemmas.{ArePrepared, legal_prepared}
use Rattle.rws_laws.proofs.LostLemmas.{its_login}
use Rattle.rws_laws.specs.Laws.{Causes, CausesInRuns}
use Rattle.rws_laws.proofs.Sound.{Caused, first_caused, Sound}
use Rattle.rws_laws.proofs.SoundLemmas.{freed, legal_sound, not_up, noted}
use Rattle.rws_laws.proofs.WantedLemmas.{ends_caused, legal_ends}

some_byte : (rest : List ℕ) → IsBehind (is_some_byte rest) rest
some_byte [] = refl
some_byte (byte ∷ rest) = λ none. absurd cc

is_pending : {config : Config} {past : List Item} {command : Command} → pending past ≡ Some command → Sound config past
    → IsPending config command past
is_pending {command = command} p sound = record { waits = p; asked = (sound.asks command p).asked }

send_caused : {config : Config} {past : List Item} {link : ℕ} {command : Command} {id : Option ℕ} → pending past ≡ Some command
    → sent_on past ≡ None → goes_on config past ≡ Some link → is_free true link past ≡ true → stale_on link (statements config past) ≡ None
    → unplayed (cursor link past) (statements config past) ≡ None → id_for link command.body (statements config past).table.links ≡ id
    → (routing config past).check ≡ None → Sound config past → ArePrepared past → IsCaused config (Sends link (Asks command id)) past
send_caused {config} {past = past} {link = link} {command = command} p s g c t d i v sound up =
    let free = freed true link past c in
    (is_pending p sound, s, g, contained link (links past) free.0, free.1, up link free.1, free.2, d, t, i, v)

-- and what goes there before one
check_caused : {config : Config} {past : List Item} {link : ℕ} {command : Command} {check : Check} → pending past ≡ Some command
    → sent_on past ≡ None → goes_on config past ≡ Some link → is_free true link past ≡ true → stale_on link (statements config past) ≡ None
    → unplayed (cursor link past) (statements config past) ≡ None → (routing config past).check ≡ Some check
    → Sound config past → ArePrepared past → AsksFirst config link check past
check_caused {config} {past = past} {link = link} {command = command} p s g c t d v sound up =
    let free = freed true link past c in
    record {
      command = command;
      pending = is_pending p sound;
      unsent = s;
      goes = g;
      has = contained link (links past) free.0;
      up = free.1;
      prepared = up link free.1;
      rests = free.2;
      played = d;
      kept = t;
      wanted = v;
    }

play_caused : (config : Config) (past : List Item) (link : ℕ) (entry : HistoryEntry) → is_free true link past ≡ true
    → stale_on link (statements config past) ≡ None → unplayed (cursor link past) (statements config past) ≡ Some entry → ArePrepared past
    → IsCaused config (Sends link (Plays entry)) past
play_caused config past link entry c t s up =
    let free = freed true link past c in (contained link (links past) free.0, free.1, up link free.1, free.2, s, t)

forget_caused : (config : Config) (past : List Item) (link id : ℕ) → is_free true link past ≡ true
    → stale_on link (statements config past) ≡ Some id → ArePrepared past → IsCaused config (Forgets link id) past
forget_caused config past link id c t up =
    let free = freed true link past c in (contained link (links past) free.0, free.1, up link free.1, free.2, t)

prepare_caused : (config : Config) (past : List Item) (link : ℕ) → is_free false link past ≡ true → IsCaused config (Sends link Prepares) past
prepare_caused config past link c =
    let free = freed false link past c in (contained link (links past) free.0, not_up (is_up link past) free.1, free.2)

-- what is owed for a link that is lost says why
wrong_read : {A B C D E F : Type 0} → (A ⊎ (B ⊎ (C ⊎ (D ⊎ F)))) → (A → E) → (B → E) → (C → E) → (D → E) → E ⊎ F
wrong_read (inl a) of_a of_b of_c of_d = inl (of_a a)
wrong_read (inr (inl b)) of_a of_b of_c of_d = inl (of_b b)
wrong_read (inr (inr (inl c))) of_a of_b of_c of_d = inl (of_c c)
wrong_read (inr (inr (inr (inl d)))) of_a of_b of_c of_d = inl (of_d d)
wrong_read (inr (inr (inr (inr f)))) of_a of_b of_c of_d = inr f

-- a link says that it is lost, and nothing of a reply
no_payload : {A : Type 0} (link : ℕ) (cause : LinkCause) (past : List Item) (code : ℕ) → IsUnprepared link code (Comes link (said_by.Lost cause) ∷ past) → A
no_payload link cause past code it = absurd (let came : None ≡ Some link = it.came in cc)

refused_read : (link code : ℕ) (past : List Item)
    → (NotEntered link (losses.Login code) (Comes link (said_by.Lost (losses.Login code)) ∷ past)
    ⊎ IsUnprepared link code (Comes link (said_by.Lost (losses.Login code)) ∷ past))
    → NotEntered link (losses.Login code) (Comes link (said_by.Lost (losses.Login code)) ∷ past)
refused_read link code past (inl it) = it
refused_read link code past (inr it) = no_payload link (losses.Login code) past code it

lost_read : (config : Config) (past : List Item) (link : ℕ) (cause : LinkCause)
    → IsCaused config (Drops link (drop_cause cause)) (Comes link (said_by.Lost cause) ∷ past) → IsRead config (Comes link (said_by.Lost cause)) past
lost_read config past link losses.BadWire caused = ((caused.0, caused.1), caused.2)
lost_read config past link losses.BadReply caused =
    (wrong_read caused.0 (λ a. (a.1, a.3.came)) (λ b. (b.0, b.2.came)) (λ c. (c.1, c.3.came)) (λ d. (d.1, d.3.came)), caused.1)
lost_read config past link losses.Unasked caused = caused
lost_read config past link losses.Greeting caused = caused
lost_read config past link losses.Plugin caused = caused
lost_read config past link (losses.Login code) caused = (refused_read link code past caused.0, caused.1)

coming_read : (config : Config) (past : List Item) (link : ℕ) (state : LinkState) (said : LinkStep) → linked link past ≡ state
    → Contains (links past) link → Says state said → Sound config (Comes link said ∷ past) → IsRead config (Comes link said) past
coming_read config past link state said is has (part {e = e} {unread = bytes} {rest = rest} f r p) sound =
    let held : link_held link past ≡ bytes = ap unread is in
    (e, rest, has, ap awaited is, rw held f, r, p, some_byte rest)
coming_read config past link state said is has (answers f r) sound = first_caused sound.owes
coming_read config past link state said is has (enters {handshake = handshake} {unread = bytes} {payload = payload} {number = number} f r) sound =
    (entered (its_login past link said_by.LoggedIn handshake bytes is f) (takes_so handshake payload number r), has)
coming_read config past link state said is has (hurries f r) sound = lost_read config past link losses.Unasked (first_caused sound.owes)
coming_read config past link state said is has (fails {cause = cause} f r) sound = lost_read config past link cause (first_caused sound.owes)
coming_read config past link state said is has (breaks f) sound = lost_read config past link losses.BadWire (first_caused sound.owes)
coming_read config past link state said is has (garbled f) sound = lost_read config past link losses.BadWire (first_caused sound.owes)
coming_read config past link state said is has (wrong f p) sound = lost_read config past link losses.BadReply (first_caused sound.owes)
coming_read config past link state said is has (again {cause = cause}) sound = lost_read config past link cause (first_caused sound.owes)

due_read : {config : Config} {past : List Item} {item : Item} → Due config past item → Sound config (item ∷ past) → IsEntering config past
    → is_over past ≡ false → AreCaused config past → AreCaused config (item ∷ past)
due_read {config} {past} (comes {link = link} {said = said} has a it) sound entering n below =
    (n, coming_read config past link (linked link past) said refl has it sound, below)
due_read {config} {past} (connects {said = said} p f c) sound entering n below =
    (n, (p, said_so config past said f c (front_says config (fronted config past) (steady config past) entering.going)), below)
due_read {config} {past} (takes {payload = payload} p f) sound entering n below =
    let its = taken_so config past payload f (front_says config (fronted config past) (steady config past) entering.going) in
    (n, (payload.bytes, took {past = past} p its.0 its.2, judged_silence (situation config past) (statements config past) payload.bytes payload.next), below)

input_read : (config : Config) (past : List Item) (item : Item) → IsInput item past → is_over past ≡ false
    → AreCaused config past → AreCaused config (item ∷ past)
input_read config past (ClientBytes bytes) input n below = (n, tt, below)
input_read config past (LinkBytes link bytes) input n below = (n, input, below)
input_read config past (LinkReady link) input n below = (n, input, below)
input_read config past ClientGone input n below = (n, tt, below)
input_read config past (LinkLost link) input n below = (n, input, below)
input_read config past (Ticks reading) input n below = (n, tt, below)
input_read config past _ input n below = absurd input

step_caused : {config : Config} {past : List Item} {item : Item} → IsRecord config past → Step config past item → Sound config past → Sound config (item ∷ past)
    → Entering config past → ArePrepared past → AreCaused config past → AreCaused config (item ∷ past)
step_caused {config} {past} legal (pays o) sound after entering up below =
    (first_caused (subst (λ (list : List Put). Caused config list past) o sound.owes), below)
step_caused legal (asks {command = command} o n p g w) sound after entering up below = ((command, is_pending p sound, g, w), below)
step_caused {config} {past} legal (prepares {link = link} o n has c) sound after entering up below = (prepare_caused config past link c, below)
step_caused {config} {past} legal (plays {link = link} {entry = entry} o n has c t s) sound after entering up below =
    (play_caused config past link entry c t s up, below)
step_caused legal (sends o n p s g c t d i v) sound after entering up below = (send_caused p s g c t d i v sound up, below)
step_caused legal (waits_first o n p s g c t d v) sound after entering up below = ((check_caused p s g c t d v sound up, refl), below)
step_caused legal (probes_first o n p s g c t d v) sound after entering up below = (check_caused p s g c t d v sound up, below)
step_caused {config} {past} legal (forgets {link = link} {id = id} o n has f t) sound after entering up below =
    (forget_caused config past link id f t up, below)
step_caused legal (floods o n p above) sound after entering up below = (n, noted p above sound, below)
step_caused legal (reads o n due) sound after entering up below = due_read due after (is_entering o n entering) n below

-- whether memory was wanting before or not
next_caused : {config : Config} {past : List Item} {item : Item} → IsRecord config past → next config past ≡ Some item → (starved : Bool)
    → is_starved past ≡ starved → AreCaused config past → AreCaused config (item ∷ past)
next_caused {config} {past} {item} legal e false fed below =
    let step = of_next config past item e in
    step_caused legal step (legal_sound legal fed) (legal_sound (steps legal e) (step_starved step ∙ fed)) (legal_entering legal) (legal_prepared legal) below
next_caused {config} {past} {item} legal e true starved below =
    ends_caused (of_next config past item e) (legal_ends legal starved) below

begins_caused : (config : Config) (item : Item) → IsBeginning item → AreCaused config (item ∷ [])
begins_caused config (Accepted session scramble reading) its = (refl, refl, tt)
begins_caused config (TurnsAway told) its = (refl, refl, tt)
begins_caused config (Began link server reading) its = (refl, refl, tt)
begins_caused config _ its = absurd its

answer_caused : {config : Config} {past : List Item} (words : PoolWords) (loads : List Load) (next : ℕ) (found : Target) → AskedNow config past
    → AreCaused config past → AreCaused config (Routed words loads next found ∷ past)
answer_caused words loads next found (asked_now {past = past} legal o n p g w) below = (n, (past, refl), below)

all_caused : {config : Config} {past : List Item} → IsRecord config past → AreCaused config past
all_caused {config} (begins {item = item} its) = begins_caused config item its
all_caused {config} (steps {past = past} {item = item} legal e) =
    next_caused legal e (is_starved past) refl (all_caused legal)
all_caused {config} (answered {past = past} {words = words} {loads = loads} {next_link = next} legal asked) =
    answer_caused words loads next (found_in config past words loads) (legal_asked legal asked) (all_caused legal)
all_caused {config} (hears {past = past} {item = item} legal rests none n input) =
    input_read config past item input n (all_caused legal)
all_caused (starves legal once can its) = (once, can, its, all_caused legal)

pub causes : Causes
causes config past legal = all_caused legal

pub causes_in_runs : CausesInRuns
causes_in_runs config run legal session = of_record (record_of session run) (records config run legal session)
  where
    of_record : (past : List Item) → (past ≡ []) ⊎ IsRecord config past → AreCaused config past
    of_record past (inl none) = rw none tt
    of_record past (inr legal) = all_caused legal
