-- Where the loss of a link hides what became of a command, the session ends, and sends nothing more.
use Rattle.std.proofs.Common.{◌≡◌, ℕ, Bool, true, false, List, [], ◌∷◌, drop, refl, sym, ap, ◌∙◌, Option, Some, None}
use Rattle.std.proofs.lemmas.Bool.{eq-eqb}
use Rattle.rws_laws.proofs.TransactionLemmas.{never_again}
use Rattle.rws_wire.specs.declared.close_reason.CloseReason.{CloseReason}
use Rattle.rws_wire.specs.declared.drop_cause.DropCause.{DropCause}
use Rattle.rws_wire.specs.declared.drop_cause.DropCause.TheVariants.{End, Kept, Replay}
use Rattle.rws_config.specs.declared.config.Config.{Config}
use Rattle.rws_commands.specs.declared.command.Command.{Command}
use Rattle.rws_record.specs.Item.{Item, Put}
use Rattle.rws_record.specs.Item.Item.{Puts, Starves}
use Rattle.rws_record.specs.Item.Put.{Hands, Tells, Records, Routes, Opens, LogsInto, Sends, Forgets, Drops, Closes}
use Rattle.rws_record.specs.Item.Recording.{Nothing, Accepts, Keeps}
use Rattle.rws_record.specs.Item.Tell.{Passes, Owns, Refuses}
use Rattle.rws_record.specs.Values.{goes_on, kept_on, pending, sent_on, told_from, is_over, transaction}
use Rattle.rws_record.specs.Rules.{after_loss, after_loss_by, again_by, goes_if, is_link, is_loss, loss_by, owed, ending, is_replayable}
use Rattle.rws_record.specs.Record.{IsRecord}
use Rattle.rws_record.specs.Record.IsRecord.{begins, steps, answers, hears, starves}
use Rattle.rws_record.proofs.OpeningLemmas.{asks_open, asks_owing_nothing}
use Rattle.rws_record.proofs.StepLemmas.{Step, of_next, rests_owing_nothing}
use Rattle.rws_record.proofs.StepLemmas.Step.{pays, asks, prepares, forgets, plays, sends, waits_first, probes_first, floods, reads}
use Rattle.rws_record.proofs.WantLemmas.{closes_soon}
use Rattle.rws_laws.specs.Servers.{Lost, lost_by}
use Rattle.rws_laws.specs.Servers.Lost.{closed, given_up}
use Rattle.rws_laws.specs.Causes.{IsHidden}
use Rattle.rws_laws.specs.Laws.{NothingBehindHidden, WasHidden}
use Rattle.rws_laws.specs.Laws.WasHidden.{here, since}
use Rattle.rws_laws.proofs.AimedLemmas.{sending}
use Rattle.rws_laws.proofs.GoingLemmas.{closes_before, paid_soon}

-- the session is over, or is about to be closed
data Closing (config : Config) (past : List Item) : Type 0 where
  soon : closes_soon (owed config past) ≡ true → Closing config past
  over : is_over past ≡ true → Closing config past

not_closing : {A : Type 0} {config : Config} {past : List Item} → owed config past ≡ [] → is_over past ≡ false → Closing config past → A
not_closing o n (soon s) = absurd (let e : false ≡ true = sym (ap closes_soon o) ∙ s in cc)
not_closing o n (over is) = absurd cc

put_closing : {config : Config} {past : List Item} (put : Put) (others : List Put) → owed config past ≡ put ∷ others → Closing config past
    → Closing config (Puts put ∷ past)
put_closing (Closes reason) others o closing = over refl
put_closing (Hands packets) others o (over is) = over is
put_closing (Records server gtid) others o (over is) = over is
put_closing (Tells number tell) others o (over is) = over is
put_closing Routes others o (over is) = over is
put_closing (Opens to server login) others o (over is) = over is
put_closing (Forgets to id) others o (over is) = over is
put_closing (LogsInto to packets) others o (over is) = over is
put_closing (Sends to purpose) others o (over is) = over is
put_closing (Drops gone cause) others o (over is) = over is
put_closing {config} {past} (Hands packets) others o (soon s) = soon (paid_soon config past (Hands packets) others o refl refl s)
put_closing {config} {past} (Records server gtid) others o (soon s) = soon (paid_soon config past (Records server gtid) others o refl refl s)
put_closing {config} {past} (Tells number (Passes link command payload (Some outcome) Keeps)) others o (soon s) =
    soon (paid_soon config past (Tells number (Passes link command payload (Some outcome) Keeps)) others o refl refl s)
put_closing {config} {past} (Tells number (Passes link command payload (Some outcome) Accepts)) others o (soon s) =
    soon (paid_soon config past (Tells number (Passes link command payload (Some outcome) Accepts)) others o refl refl s)
put_closing {config} {past} (Tells number (Passes link command payload (Some outcome) Nothing)) others o (soon s) =
    soon (paid_soon config past (Tells number (Passes link command payload (Some outcome) Nothing)) others o refl refl s)
put_closing {config} {past} (Tells number (Passes link command payload None recording)) others o (soon s) =
    soon (paid_soon config past (Tells number (Passes link command payload None recording)) others o refl refl s)
put_closing {config} {past} (Tells number (Owns status)) others o (soon s) =
    soon (paid_soon config past (Tells number (Owns status)) others o refl refl s)
put_closing {config} {past} (Tells number (Refuses error)) others o (soon s) =
    soon (paid_soon config past (Tells number (Refuses error)) others o refl refl s)
put_closing {config} {past} Routes others o (soon s) = soon (paid_soon config past Routes others o refl refl s)
put_closing {config} {past} (Opens to server login) others o (soon s) = soon (paid_soon config past (Opens to server login) others o refl refl s)
put_closing {config} {past} (Forgets to id) others o (soon s) = soon (paid_soon config past (Forgets to id) others o refl refl s)
put_closing {config} {past} (LogsInto to packets) others o (soon s) = soon (paid_soon config past (LogsInto to packets) others o refl refl s)
put_closing {config} {past} (Sends to purpose) others o (soon s) = soon (paid_soon config past (Sends to purpose) others o refl refl s)
put_closing {config} {past} (Drops gone cause) others o (soon s) = soon (paid_soon config past (Drops gone cause) others o refl refl s)

step_closing : {config : Config} {past : List Item} {item : Item} → Step config past item → Closing config past → Closing config (item ∷ past)
step_closing (pays {put = put} {others = others} o) closing = put_closing put others o closing
step_closing (asks o n p g w) closing = not_closing o n closing
step_closing (prepares o n has f) closing = not_closing o n closing
step_closing (plays o n has f t s) closing = not_closing o n closing
step_closing (sends o n p s g f t d i v) closing = not_closing o n closing
step_closing (waits_first o n p s g f t d v) closing = not_closing o n closing
step_closing (probes_first o n p s g f t d v) closing = not_closing o n closing
step_closing (forgets o n has f t) closing = not_closing o n closing
step_closing (floods o n p above) closing = not_closing o n closing
step_closing (reads o n due) closing = not_closing o n closing

want_closing : (config : Config) (past : List Item) (made its_over : Bool) (number : ℕ) → is_over past ≡ its_over
    → Closing config (Starves made number ∷ past)
want_closing config past made true number o = over o
want_closing config past true false number o = soon (rw o refl)
want_closing config past false false number o = soon (rw o refl)

-- Such a loss

lossy : (link : ℕ) (cause : DropCause) → lost_by link cause ≡ Some link → is_loss cause ≡ true
lossy link End e = absurd cc
lossy link Kept e = absurd cc
lossy link Replay e = absurd cc
lossy link _ e = refl

hidden_by : (told sent again kept opened assigned : Bool) (ends : CloseReason) → sent ≡ true → again ≡ false
    → closes_soon (after_loss_by (loss_by told sent again kept opened is_replayable assigned) ends) ≡ true
hidden_by true sent again kept opened assigned ends s a = refl
hidden_by false true false kept opened assigned ends s a = refl
hidden_by false false again kept opened assigned ends s a = absurd cc
hidden_by false true true kept opened assigned ends s a = absurd cc

hidden_closes : (config : Config) (link : ℕ) (command : Command) (below : List Item) → IsHidden config link command below
    → closes_soon (after_loss config link below) ≡ true
hidden_closes config link command below its =
    hidden_by (is_link link (told_from below)) (is_link link (sent_on below)) (again_by (pending below) (transaction config below).state)
    (is_link link (kept_on below)) (is_link link (transaction config below).link) (is_link link (goes_if (pending below) (goes_on config below)))
    (ending config below) (ap (is_link link) its.sent ∙ eq-eqb link link refl)
    (ap (λ (found : Option Command). again_by found (transaction config below).state) its.pending.waits ∙ never_again its.lasts)

lost_closing : {config : Config} {link : ℕ} {command : Command} {below now : List Item} → Lost link below now → IsHidden config link command below
    → Closing config now
lost_closing {config} {link} {command} {below} closed its = soon (hidden_closes config link command below its)
lost_closing {config} {link} {command} {below} (given_up {cause = cause} l) its =
    soon (rw (lossy link cause l)
    (closes_before (after_loss config link below) (drop 1 (owed config below)) (hidden_closes config link command below its)))

nothing_lost : {A : Type 0} {link : ℕ} {below now : List Item} → Lost link below now → now ≡ [] → A
nothing_lost closed is = absurd cc
nothing_lost (given_up l) is = absurd cc

nothing_hidden : {A : Type 0} {config : Config} {now : List Item} → WasHidden config now → now ≡ [] → A
nothing_hidden (here lost its) is = nothing_lost lost is
nothing_hidden (since below) is = absurd cc

legal_hidden : {config : Config} {past : List Item} → IsRecord config past → WasHidden config past → Closing config past
legal_hidden (begins its) (here lost hidden) = lost_closing lost hidden
legal_hidden (steps legal e) (here lost hidden) = lost_closing lost hidden
legal_hidden (answers legal asked) (here lost hidden) = lost_closing lost hidden
legal_hidden (hears legal rests none n input) (here lost hidden) = lost_closing lost hidden
legal_hidden (starves legal once can its) (here lost hidden) = lost_closing lost hidden
legal_hidden (begins its) (since below) = nothing_hidden below refl
legal_hidden {config} (steps {past = past} {item = item} legal e) (since below) = step_closing (of_next config past item e) (legal_hidden legal below)
legal_hidden (answers legal asked) (since below) =
    not_closing (asks_owing_nothing legal asked) (asks_open legal asked) (legal_hidden legal below)
legal_hidden {config} (hears {past = past} legal rests none n input) (since below) =
    not_closing (rests_owing_nothing config past rests none) n (legal_hidden legal below)
legal_hidden {config} (starves {past = past} {made = made} {number = number} legal once can its) (since below) =
    want_closing config past made (is_over past) number refl

pub nothing_behind_hidden : NothingBehindHidden
nothing_behind_hidden config past link purpose legal hidden =
    let now = sending config past link purpose legal in not_closing now.owes now.goes (legal_hidden now.legal hidden)
