-- What a part of a reply, or of a login, makes of a session's values: the session stays as it is while the reply goes on.
use Rattle.std.proofs.Common.{◌≡◌, ℕ, Bool, true, false, List, ◌∷◌, ◌++◌, drop, refl, sym, ap, ◌∙◌, Option, Some, None}
use Rattle.std.specs.Prelude.{◌==◌, if◌then◌else◌}
use Rattle.std.proofs.lemmas.Bool.{eq-eqb}
use Rattle.rws_front.specs.declared.step.FrontStep.{FrontStep}
use Rattle.rws_gtid.specs.declared.Gtid.{Gtid}
use Rattle.rws_msgs.specs.declared.prepare_ok.PrepareOk.{PrepareOk}
use Rattle.rws_reply.specs.declared.kind.Outcome.{Outcome}
use Rattle.rws_reply.specs.declared.kind.Progress.TheVariants.{More}
use Rattle.rws_reply.specs.declared.role.Role.{Role}
use Rattle.rws_link.specs.declared.step.LinkCause.{LinkCause}
use Rattle.rws_link.specs.declared.step.LinkStep.TheVariants as steps
use Rattle.rws_link.specs.Stepping.{LinkState, fed, step}
use Rattle.rws_config.specs.declared.config.Config.{Config}
use Rattle.rws_record.specs.Item.{Purpose, Put, Recording}
use Rattle.rws_record.specs.Item.Item.{Comes}
use Rattle.rws_record.specs.Item.Put.{Hands, Tells, Records, Routes, Opens, LogsInto, Sends, Forgets, Drops, Closes}
use Rattle.rws_record.specs.Item.Tell.{Passes, Owns, Refuses}
use Rattle.rws_record.specs.Item.Purpose.{Prepares, Asks, Plays, Waits, Probes}
use Rattle.rws_commands.specs.Statements.{next_handle}
use Rattle.rws_record.specs.Values.{named_in}
use Rattle.rws_record.specs.Rules.{commit_by, form_of, is_ready, recording_commit}
use Rattle.rws_cuts.proofs.State.{State, after, came_in, due_in, part_in, put_in, recording_in}
use Rattle.rws_cuts.proofs.StepsLemmas.{is_lively, lively_not_ready}
use Rattle.rws_cuts.proofs.LiveLemmas.{Live, at_link, fed_in, is_calm, others_still, sends_same}

-- Something is given out

put_fed : (config : Config) (link : ℕ) (more : List ℕ) (s : State) (put : Put) (others : List Put) → is_calm (put ∷ others) ≡ true
    → put_in config put (fed_in link more s) ≡ fed_in link more (put_in config put s)
put_fed config link more s (LogsInto on packets) others c = refl
put_fed config link more s (Records server gtid) others c = refl
put_fed config link more s (Tells number (Passes on command payload None recording)) others c = refl
put_fed config link more s (Tells number (Passes on command payload (Some ending) recording)) others c = absurd cc
put_fed config link more s (Tells number (Owns status)) others c = absurd cc
put_fed config link more s (Tells number (Refuses error)) others c = absurd cc
put_fed config link more s (Hands packets) others c = absurd cc
put_fed config link more s Routes others c = absurd cc
put_fed config link more s (Opens on server login) others c = absurd cc
put_fed config link more s (Sends to purpose) others c = absurd cc
put_fed config link more s (Forgets on id) others c = absurd cc
put_fed config link more s (Drops on cause) others c = absurd cc
put_fed config link more s (Closes reason) others c = absurd cc

pub calm_fed : (config : Config) (link : ℕ) (more : List ℕ) (s : State) (put : Put) (others : List Put) → s.owed ≡ put ∷ others → is_calm s.owed ≡ true
    → put_in config put (fed_in link more s) ≡ fed_in link more (put_in config put s)
calm_fed config link more s put others o c = put_fed config link more s put others (sym (ap is_calm o) ∙ c)

module _ (config : Config) (link held : ℕ) (said : FrontStep) (s : State) (live : Live config link held said s) where
  -- with other values that nothing due depends on, and what is owed then
  owing : (own : Option Gtid) (told_from : Option ℕ) (reply_number : ℕ) (list : List Put) → is_calm list ≡ true
      → Live config link held said (record s { own = own; told_from = told_from; reply_number = reply_number; owed = list })
  owing own told_from reply_number list c =
      let now : State = record s { own = own; told_from = told_from; reply_number = reply_number; owed = list } in
      record {
        unasking = live.unasking;
        goes_on = live.goes_on;
        route = live.route;
        sends = sends_same config s.links now s (λ other. refl) ∙ live.sends;
        flood = live.flood;
        take = live.take;
        others = live.others;
        lively = live.lively;
        calm = c;
      }

  by_put : (put : Put) (others : List Put) → is_calm (put ∷ others) ≡ true → is_calm (drop 1 s.owed) ≡ true
      → Live config link held said (put_in config put s)
  by_put (LogsInto on packets) others c d = owing s.own s.told_from s.reply_number (drop 1 s.owed) d
  by_put (Records server gtid) others c d = owing _ s.told_from s.reply_number (drop 1 s.owed) d
  by_put (Tells number (Passes on command payload None recording)) others c d = owing s.own (Some on) _ (drop 1 s.owed) d
  by_put (Tells number (Passes on command payload (Some ending) recording)) others c d = absurd cc
  by_put (Tells number (Owns status)) others c d = absurd cc
  by_put (Tells number (Refuses error)) others c d = absurd cc
  by_put (Hands packets) others c d = absurd cc
  by_put Routes others c d = absurd cc
  by_put (Opens on server login) others c d = absurd cc
  by_put (Sends to purpose) others c d = absurd cc
  by_put (Forgets on id) others c d = absurd cc
  by_put (Drops on cause) others c d = absurd cc
  by_put (Closes reason) others c d = absurd cc

  -- what is owed behind the first
  calm_behind : (put : Put) (others : List Put) → is_calm (put ∷ others) ≡ true → is_calm others ≡ true
  calm_behind (LogsInto on packets) others c = c
  calm_behind (Records server gtid) others c = c
  calm_behind (Tells number (Passes on command payload None recording)) others c = c
  calm_behind (Tells number (Passes on command payload (Some ending) recording)) others c = absurd cc
  calm_behind (Tells number (Owns status)) others c = absurd cc
  calm_behind (Tells number (Refuses error)) others c = absurd cc
  calm_behind (Hands packets) others c = absurd cc
  calm_behind Routes others c = absurd cc
  calm_behind (Opens on server login) others c = absurd cc
  calm_behind (Sends to purpose) others c = absurd cc
  calm_behind (Forgets on id) others c = absurd cc
  calm_behind (Drops on cause) others c = absurd cc
  calm_behind (Closes reason) others c = absurd cc

  pub put_live : (put : Put) (others : List Put) → s.owed ≡ put ∷ others → Live config link held said (put_in config put s)
  put_live put others o =
      let calm : is_calm (put ∷ others) ≡ true = sym (ap is_calm o) ∙ live.calm in
      by_put put others calm (ap (λ (list : List Put). is_calm (drop 1 list)) o ∙ calm_behind put others calm)

-- What came of the link

-- the link behind a step, where more bytes came before it, and where they come then
moved_fed : (link : ℕ) (more : List ℕ) (linked : ℕ → LinkState) → (step (fed more (linked link))).after ≡ fed more (step (linked link)).after → (other : ℕ)
    → (if link == other then (step (if link == other then fed more (linked other) else linked other)).after
    else (if link == other then fed more (linked other) else linked other))
    ≡ (if link == other then fed more (if link == other then (step (linked other)).after else linked other)
    else (if link == other then (step (linked other)).after else linked other))
moved_fed link more linked same other = by_test (link == other) refl
  where
    by_test : (test : Bool) → (link == other) ≡ test
        → (if test then (step (if test then fed more (linked other) else linked other)).after
        else (if test then fed more (linked other) else linked other))
        ≡ (if test then fed more (if test then (step (linked other)).after else linked other)
        else (if test then (step (linked other)).after else linked other))
    by_test true t = at_link link other (λ l. (step (fed more (linked l))).after ≡ fed more (step (linked l)).after) same t
    by_test false t = refl

-- which payload it is that goes on doesn't matter to what is owed, but that bytes are behind it
part_behind : (link : ℕ) (purpose : Option Purpose) (form : List ℕ) (named : Option PrepareOk) (behind also : Bool) (number : ℕ)
    (recording : Outcome → Recording)
    → part_in link purpose form named None More behind number recording ≡ part_in link purpose form named None More also number recording
part_behind link None form named behind also number recording = refl
part_behind link (Some Prepares) form named behind also number recording = refl
part_behind link (Some (Asks command id)) form named behind also number recording = refl
part_behind link (Some (Plays entry)) form named behind also number recording = refl
part_behind link (Some (Waits gtid seconds)) form named behind also number recording = refl
part_behind link (Some (Probes gtid)) form named behind also number recording = refl

module _ (config : Config) (link : ℕ) (more : List ℕ) (said : FrontStep) (s : State)
    (same : (step (fed more (s.linked link))).after ≡ fed more (step (s.linked link)).after) where
  pub send_fed : (packets : List ℕ) → after config said (Comes link (steps.Send packets)) (fed_in link more s)
      ≡ fed_in link more (after config said (Comes link (steps.Send packets)) s)
  send_fed packets = λ i.
      record (after config said (Comes link (steps.Send packets)) s) { linked = λ other. moved_fed link more s.linked same other i }

  pub lost_fed : (cause : LinkCause) → after config said (Comes link (steps.Lost cause)) (fed_in link more s)
      ≡ fed_in link more (after config said (Comes link (steps.Lost cause)) s)
  lost_fed cause = λ i.
      record (after config said (Comes link (steps.Lost cause)) s) { linked = λ other. moved_fed link more s.linked same other i }

  came_same : (payload : List ℕ) (its : Role) (next : ℕ) (behind also : Bool)
      → came_in config link (steps.Part payload its More next also) (fed_in link more s) ≡ came_in config link (steps.Part payload its More next behind) s
  came_same payload its next behind also =
      ap (λ (list : List Put). recording_commit (s.server_of link) (commit_by config.gtid_domain its payload (s.asked_on link)) ++ list)
      (part_behind link (s.asked_on link) (form_of (next_handle s.statements) its payload) (named_in its payload (s.named_on link)) also behind
      s.reply_number (λ outcome. recording_in config link s outcome))

  pub part_fed : (payload : List ℕ) (its : Role) (next : ℕ) (behind also : Bool)
      → after config said (Comes link (steps.Part payload its More next also)) (fed_in link more s)
      ≡ fed_in link more (after config said (Comes link (steps.Part payload its More next behind)) s)
  part_fed payload its next behind also = λ i.
      record (after config said (Comes link (steps.Part payload its More next behind)) s) {
        linked = λ other. moved_fed link more s.linked same other i;
        owed = came_same payload its next behind also i;
      }

-- Nothing else is due behind it

calm_commit : (server : ℕ) (commit : Option Gtid) (list : List Put) → is_calm list ≡ true → is_calm (recording_commit server commit ++ list) ≡ true
calm_commit server None list c = c
calm_commit server (Some gtid) list c = c

calm_part : (link : ℕ) (purpose : Option Purpose) (form : List ℕ) (named : Option PrepareOk) (behind : Bool) (number : ℕ) (recording : Outcome → Recording)
    → is_calm (part_in link purpose form named None More behind number recording) ≡ true
calm_part link None form named behind number recording = refl
calm_part link (Some Prepares) form named behind number recording = refl
calm_part link (Some (Asks command id)) form named behind number recording = refl
calm_part link (Some (Plays entry)) form named behind number recording = refl
calm_part link (Some (Waits gtid seconds)) form named behind number recording = refl
calm_part link (Some (Probes gtid)) form named behind number recording = refl

here : (link : ℕ) (one other : LinkState) → is_lively one ≡ true → is_lively (if link == link then one else other) ≡ true
here link one other lively = rw (eq-eqb link link refl) lively

module _ (config : Config) (link held : ℕ) (said : FrontStep) (s : State) (live : Live config link held said s)
    (lively : is_lively (step (s.linked link)).after ≡ true) where
  now_ready : (other : ℕ) → (link == other) ≡ true → is_ready (step (s.linked other)).after ≡ is_ready (s.linked other)
  now_ready other t =
      lively_not_ready _ (at_link link other (λ l. is_lively (step (s.linked l)).after ≡ true) lively t)
      ∙ sym (lively_not_ready _ (at_link link other (λ l. is_lively (s.linked l) ≡ true) live.lively t))

  send_due : (packets : List ℕ) (other : ℕ) → due_in config other (after config said (Comes link (steps.Send packets)) s) ≡ due_in config other s
  send_due packets other = by_test (link == other) refl
    where
      by_test : (test : Bool) → (link == other) ≡ test → due_in config other (after config said (Comes link (steps.Send packets)) s) ≡ due_in config other s
      by_test true t = rw (t, now_ready other t) refl
      by_test false t = rw t refl

  part_due : (payload : List ℕ) (its : Role) (next : ℕ) (behind : Bool) (other : ℕ)
      → due_in config other (after config said (Comes link (steps.Part payload its More next behind)) s) ≡ due_in config other s
  part_due payload its next behind other = by_test (link == other) refl
    where
      by_test : (test : Bool) → (link == other) ≡ test
          → due_in config other (after config said (Comes link (steps.Part payload its More next behind)) s) ≡ due_in config other s
      by_test true t = rw (t, now_ready other t) refl
      by_test false t = rw t refl

  pub send_live : (packets : List ℕ) → Live config link held said (after config said (Comes link (steps.Send packets)) s)
  send_live packets = record {
    unasking = live.unasking;
    goes_on = live.goes_on;
    route = live.route;
    sends = sends_same config s.links (after config said (Comes link (steps.Send packets)) s) s (send_due packets) ∙ live.sends;
    flood = live.flood;
    take = live.take;
    others = others_still link s.links s.linked (λ other. (step (s.linked other)).after) live.others;
    lively = here link (step (s.linked link)).after (s.linked link) lively;
    calm = refl;
  }

  pub part_live : (payload : List ℕ) (its : Role) (next : ℕ) (behind : Bool)
      → Live config link held said (after config said (Comes link (steps.Part payload its More next behind)) s)
  part_live payload its next behind = record {
    unasking = live.unasking;
    goes_on = live.goes_on;
    route = live.route;
    sends = sends_same config s.links (after config said (Comes link (steps.Part payload its More next behind)) s) s (part_due payload its next behind) ∙ live.sends;
    flood = live.flood;
    take = live.take;
    others = others_still link s.links s.linked (λ other. (step (s.linked other)).after) live.others;
    lively = here link (step (s.linked link)).after (s.linked link) lively;
    calm = calm_commit (s.server_of link) (commit_by config.gtid_domain its payload (s.asked_on link))
        (part_in link (s.asked_on link) (form_of (next_handle s.statements) its payload) (named_in its payload (s.named_on link)) None More behind
        s.reply_number (λ outcome. recording_in config link s outcome))
        (calm_part link (s.asked_on link) (form_of (next_handle s.statements) its payload) (named_in its payload (s.named_on link)) behind
        s.reply_number (λ outcome. recording_in config link s outcome));
  }
