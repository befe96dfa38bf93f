-- A session that waits for the worker's answer has just asked.
use Rattle.std.proofs.Common.{◌≡◌, ℕ, Bool, true, false, List, [], ◌∷◌, refl, sym, ◌∙◌, Option, Some, None}
use Rattle.rws_config.specs.declared.config.Config.{Config}
use Rattle.rws_native.specs.declared.login.Login.{Login}
use Rattle.rws_route.specs.declared.destination.Target.{Target}
use Rattle.rws_route.specs.declared.destination.Target.TheVariants.{Primary, Replica, NoPrimary as Nowhere}
use Rattle.rws_routing.specs.Routings.{finds_late, server_in}
use Rattle.rws_commands.specs.declared.command.Command.{Command}
use Rattle.rws_record.specs.Item.{Item, Put}
use Rattle.rws_record.specs.Item.Item.{Accepted, TurnsAway, Began, ClientBytes, LinkReady, LinkBytes, ClientGone, LinkLost, Ticks, Routed, Puts}
use Rattle.rws_record.specs.Item.Put.{Hands, Tells, Records, Routes, Opens, LogsInto, Sends, Forgets, Drops, Closes}
use Rattle.rws_record.specs.Values.{asking, goes_on, link_to, login_of, now, pending, reply_number, routing, is_over}
use Rattle.rws_record.specs.Rules.{after_route, owed}
use Rattle.rws_record.specs.Record.{IsBeginning, IsInput, IsRecord}
use Rattle.rws_record.specs.Record.IsRecord.{begins, steps, answers, hears, starves}
use Rattle.rws_record.proofs.OpeningLemmas.{is_answered, plain_unless_answered}
use Rattle.rws_record.proofs.StepLemmas.{Due, Step, goes_unasking, of_next}
use Rattle.rws_record.proofs.StepLemmas.Due.{comes, connects, takes}
use Rattle.rws_record.proofs.StepLemmas.Step.{pays, asks, prepares, forgets, plays, sends, waits_first, probes_first, floods, reads}

-- the newest item asks, where nothing was owed
pub data AskedNow (config : Config) : List Item → Type 0 where
  asked_now : {past : List Item} {command : Command} → IsRecord config past → owed config past ≡ [] → is_over past ≡ false
      → pending past ≡ Some command → goes_on config past ≡ None → (routing config past).waits ≡ false
      → AskedNow config (Puts Routes ∷ past)

clash : {A : Type 0} {asks : Bool} → asks ≡ false → asks ≡ true → A
clash none some = absurd (let both : false ≡ true = sym none ∙ some in cc)

begins_unasked : {A : Type 0} (item : Item) → IsBeginning item → asking (item ∷ []) ≡ true → A
begins_unasked (Accepted session scramble reading) its some = absurd cc
begins_unasked (TurnsAway told) its some = absurd cc
begins_unasked (Began link server reading) its some = absurd cc
begins_unasked _ its some = absurd its

input_unasked : {A : Type 0} (past : List Item) (item : Item) → IsInput item past → asking past ≡ false → asking (item ∷ past) ≡ true → A
input_unasked past (ClientBytes bytes) input none some = clash none some
input_unasked past ClientGone input none some = clash none some
input_unasked past (LinkReady link) input none some = clash none some
input_unasked past (LinkBytes link bytes) input none some = clash none some
input_unasked past (LinkLost link) input none some = clash none some
input_unasked past (Ticks reading) input none some = clash none some
input_unasked past _ input none some = absurd input

-- nothing that is owed asks
asks_not : {A : Type 0} (config : Config) (past : List Item) (others : List Put) → owed config past ≡ Routes ∷ others → A
asks_not config past others o = by_test (is_answered past) refl
  where
    by_late : {A : Type 0} (link : Option ℕ) (next : ℕ) (login : Option Login) (late : Bool) (number : ℕ)
        → after_route Nowhere link next login late number ≡ Routes ∷ others → A
    by_late link next login true number e = absurd cc
    by_late link next login false number e = absurd cc

    by_found : {A : Type 0} (found : Target) (link : Option ℕ) (next : ℕ) (login : Option Login) (late : Bool) (number : ℕ)
        → after_route found link next login late number ≡ Routes ∷ others → A
    by_found Nowhere link next login late number e = by_late link next login late number e
    by_found (Primary server) None next (Some login) late number e = absurd cc
    by_found (Primary server) None next None late number e = absurd cc
    by_found (Primary server) (Some link) next login late number e = absurd cc
    by_found (Replica server) None next (Some login) late number e = absurd cc
    by_found (Replica server) None next None late number e = absurd cc
    by_found (Replica server) (Some link) next login late number e = absurd cc

    by_answer : {A : Type 0} (past : List Item) → is_answered past ≡ true → owed config past ≡ Routes ∷ others → A
    by_answer (Routed words loads next found ∷ past) t e =
        by_found found (link_to (server_in found) past) next (login_of config past)
        (finds_late config.primary_wait_ms (now past) (routing config past)) (reply_number past) e
    by_answer [] t e = absurd cc
    by_answer (_ ∷ past) t e = absurd (let clash : false ≡ true = t in cc)

    by_test : {A : Type 0} (test : Bool) → is_answered past ≡ test → A
    by_test true t = by_answer past t o
    by_test false t = absurd (let plain = plain_unless_answered config past t in let plain : false ≡ true = rw o at plain in cc)

put_unasked : {A : Type 0} (config : Config) (past : List Item) (put : Put) (others : List Put) → owed config past ≡ put ∷ others
    → asking past ≡ false → asking (Puts put ∷ past) ≡ true → A
put_unasked config past Routes others o none some = asks_not config past others o
put_unasked config past (Hands packets) others o none some = clash none some
put_unasked config past (Records server gtid) others o none some = clash none some
put_unasked config past (Tells number tell) others o none some = clash none some
put_unasked config past (Opens link server its) others o none some = clash none some
put_unasked config past (Forgets link id) others o none some = clash none some
put_unasked config past (LogsInto link packets) others o none some = clash none some
put_unasked config past (Sends link purpose) others o none some = clash none some
put_unasked config past (Drops link cause) others o none some = clash none some
put_unasked config past (Closes reason) others o none some = clash none some

due_unasked : {A : Type 0} {config : Config} {past : List Item} {item : Item} → Due config past item → asking past ≡ false
    → asking (item ∷ past) ≡ true → A
due_unasked (comes has a it) none some = clash none some
due_unasked (connects p f c) none some = clash none some
due_unasked (takes p f) none some = clash none some

step_asked : {config : Config} {past : List Item} {item : Item} → IsRecord config past → Step config past item
    → asking past ≡ false → asking (item ∷ past) ≡ true → AskedNow config (item ∷ past)
step_asked {config} {past} legal (pays {put = put} {others = others} o) none some = put_unasked config past put others o none some
step_asked legal (asks o n p g w) none some = asked_now legal o n p g w
step_asked legal (prepares o n has f) none some = clash none some
step_asked legal (plays o n has f t s) none some = clash none some
step_asked legal (sends o n p s g f t d i v) none some = clash none some
step_asked legal (waits_first o n p s g f t d v) none some = clash none some
step_asked legal (probes_first o n p s g f t d v) none some = clash none some
step_asked legal (forgets o n has f t) none some = clash none some
step_asked legal (floods o n p above) none some = clash none some
step_asked legal (reads o n due) none some = due_unasked due none some

pub legal_asked : {config : Config} {past : List Item} → IsRecord config past → asking past ≡ true → AskedNow config past
legal_asked (begins {item = item} its) some = begins_unasked item its some
legal_asked {config} (steps {past = past} {item = item} legal e) some =
    step_asked legal (of_next config past item e) (goes_unasking config past item e) some
legal_asked (answers legal asked) some = absurd cc
legal_asked (hears {past = past} {item = item} legal rests none n input) some = input_unasked past item input none some
legal_asked (starves legal once can its) some = absurd cc
