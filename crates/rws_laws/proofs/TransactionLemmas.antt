-- What the state of the transaction means for a command: when what it did may last, and what a read-only one doesn't take.
use Rattle.std.proofs.Common.{◌≡◌, ℕ, Bool, true, false, refl, sym, ap, ◌∙◌, inl, inr, length, List}
use Rattle.std.proofs.lemmas.Bool.{cases_lt, lt-ltb}
use Rattle.std.specs.Prelude.{◌⊎◌, ◌↔◌, ◌≤◌, not, ◌&&◌, ◌||◌, Some, None}
use Rattle.rws_class.specs.declared.class.Class.{Class}
use Rattle.rws_class.specs.declared.class.Class.TheVariants.{Read, PrimaryRead, Write, Session, Begin, BeginReadOnly, Commit, Rollback, AutocommitOn, AutocommitOff, TrxLocal, Ddl, Refused as Forbidden, Other}
use Rattle.rws_trx.specs.declared.state.Course.{Course}
use Rattle.rws_trx.specs.declared.state.Course.TheVariants.{GoesOn, Begins, IsNone as IsOver}
use Rattle.rws_trx.specs.declared.state.Open.{Open}
use Rattle.rws_trx.specs.declared.state.Open.TheVariants.{Nothing as Unopened, ReadWrite, ReadOnly}
use Rattle.rws_trx.specs.declared.state.TrxState.{TrxState}
use Rattle.rws_trx.specs.declared.transaction.Answer.{Answer}
use Rattle.rws_trx.specs.declared.transaction.Transaction.{Transaction}
use Rattle.rws_trx.specs.Transactions.{ends_transactions, is_ddl, is_open, is_other, is_write, leaves_unknown}
use Rattle.rws_trx.specs.OnLinks.{by_course, course_of}
use Rattle.rws_config.specs.declared.config.Config.{Config}
use Rattle.rws_record.specs.Item.{Item}
use Rattle.rws_commands.specs.Judging.{changes, is_forbidden}
use Rattle.rws_commands.specs.Statements.{is_full}
use Rattle.rws_record.specs.Values.{answered_if, statements}
use Rattle.rws_record.specs.Rules.{is_read_only}
use Rattle.rws_laws.specs.Causes.{IsBarred, MayLast}
use Rattle.rws_laws.specs.Causes.IsBarred.{writes, begins as begins_anew, begins_read_only as begins_reading, autocommits as autocommits_in, collects, saves, defines, does_anything, has_no_room}
use Rattle.rws_laws.specs.Causes.MayLast.{anything, definitions, rows, begins, begins_read_only, commits, rolls_back, autocommits}

-- What may last

abbrev unknown_by : Class → (opened on : Bool) → Bool
unknown_by class opened on =
    (is_other class || (opened && ends_transactions class)) || (not opened && ((is_write class && on) || is_ddl class))

lasting_by : (state : TrxState) (class : Class) (opened on : Bool) → is_open state ≡ opened → state.autocommit ≡ on
    → not (unknown_by class opened on) ≡ false → MayLast state class
lasting_by state Other opened on o a e = anything
lasting_by state Ddl opened on o a e = definitions
lasting_by state Write true on o a e = absurd cc
lasting_by state Write false true o a e = rows o a
lasting_by state Write false false o a e = absurd cc
lasting_by state Begin true on o a e = begins o
lasting_by state Begin false on o a e = absurd cc
lasting_by state BeginReadOnly true on o a e = begins_read_only o
lasting_by state BeginReadOnly false on o a e = absurd cc
lasting_by state Commit true on o a e = commits o
lasting_by state Commit false on o a e = absurd cc
lasting_by state Rollback true on o a e = rolls_back o
lasting_by state Rollback false on o a e = absurd cc
lasting_by state AutocommitOn true on o a e = autocommits o
lasting_by state AutocommitOn false on o a e = absurd cc
lasting_by state Read true on o a e = absurd cc
lasting_by state Read false on o a e = absurd cc
lasting_by state PrimaryRead true on o a e = absurd cc
lasting_by state PrimaryRead false on o a e = absurd cc
lasting_by state Session true on o a e = absurd cc
lasting_by state Session false on o a e = absurd cc
lasting_by state AutocommitOff true on o a e = absurd cc
lasting_by state AutocommitOff false on o a e = absurd cc
lasting_by state TrxLocal true on o a e = absurd cc
lasting_by state TrxLocal false on o a e = absurd cc
lasting_by state Forbidden true on o a e = absurd cc
lasting_by state Forbidden false on o a e = absurd cc

-- which commands aren't sent again
pub lasting : (class : Class) (state : TrxState) → not (leaves_unknown class state) ≡ false → MayLast state class
lasting class state e = lasting_by state class (is_open state) state.autocommit refl refl e

ddl_lasts : (opened on : Bool) → unknown_by Ddl opened on ≡ true
ddl_lasts true on = refl
ddl_lasts false on = refl

unknown : {state : TrxState} {class : Class} → MayLast state class → leaves_unknown class state ≡ true
unknown anything = refl
unknown {state} definitions = ddl_lasts (is_open state) state.autocommit
unknown {state} (rows o a) =
    ap (λ (opened : Bool). unknown_by Write opened state.autocommit) o ∙ ap (λ (on : Bool). unknown_by Write false on) a
unknown {state} (begins o) = ap (λ (opened : Bool). unknown_by Begin opened state.autocommit) o
unknown {state} (begins_read_only o) = ap (λ (opened : Bool). unknown_by BeginReadOnly opened state.autocommit) o
unknown {state} (commits o) = ap (λ (opened : Bool). unknown_by Commit opened state.autocommit) o
unknown {state} (rolls_back o) = ap (λ (opened : Bool). unknown_by Rollback opened state.autocommit) o
unknown {state} (autocommits o) = ap (λ (opened : Bool). unknown_by AutocommitOn opened state.autocommit) o

pub never_again : {state : TrxState} {class : Class} → MayLast state class → not (leaves_unknown class state) ≡ false
never_again lasts = ap not (unknown lasts)

pub not_again : {state : TrxState} {class : Class} → MayLast state class → not (leaves_unknown class state) ≡ true → ⊥
not_again lasts e = let clash : false ≡ true = sym (never_again lasts) ∙ e in cc

-- What a read-only transaction doesn't take

pub only_reads : (opened : Open) → (is_read_only opened ≡ true) ↔ (opened ≡ ReadOnly)
only_reads Unopened = (λ e. absurd cc, λ e. absurd cc)
only_reads ReadWrite = (λ e. absurd cc, λ e. absurd cc)
only_reads ReadOnly = (λ e. refl, λ e. refl)

pub both : (one other : Bool) → (one && other) ≡ true → (one ≡ true) × (other ≡ true)
both true true e = (refl, refl)
both true false e = absurd cc
both false other e = absurd cc

full_is : (config : Config) (past : List Item) → is_full config.history_limit (statements config past) ≡ true
    → config.history_limit ≤ length (statements config past).history
full_is config past f =
    elim (cases_lt (length (statements config past).history) config.history_limit) [
      | inl below ↦
          let clash : false ≡ true = sym (ap not (lt-ltb (length (statements config past).history) config.history_limit below)) ∙ f in absurd cc
      | inr full ↦ full
    ]

pub barred_class : (config : Config) (past : List Item) (class : Class) → is_forbidden class ≡ false
    → changes (is_full config.history_limit (statements config past)) class ≡ true → IsBarred config past class
barred_class config past Read f c = absurd cc
barred_class config past PrimaryRead f c = absurd cc
barred_class config past Commit f c = absurd cc
barred_class config past Rollback f c = absurd cc
barred_class config past Forbidden f c = absurd cc
barred_class config past Session f c = has_no_room (full_is config past c)
barred_class config past Write f c = writes
barred_class config past Begin f c = begins_anew
barred_class config past BeginReadOnly f c = begins_reading
barred_class config past AutocommitOn f c = autocommits_in
barred_class config past AutocommitOff f c = collects
barred_class config past TrxLocal f c = saves
barred_class config past Ddl f c = defines
barred_class config past Other f c = does_anything

-- Where it is open

-- behind a reply it is open where it was, or on the link of the reply
pub answered_there : (speaks : Bool) (answer : Answer) (t : Transaction) (at : ℕ) → (answered_if speaks answer t).link ≡ Some at
    → (t.link ≡ Some at) ⊎ (answer.link ≡ at)
answered_there false answer t at e = inl e
answered_there true answer t at e = by (course_of answer t) e
  where
    by : (course : Course) → by_course course t.link (Some answer.link) None ≡ Some at → (t.link ≡ Some at) ⊎ (answer.link ≡ at)
    by GoesOn e = inl e
    by Begins e = inr (let same : answer.link ≡ at = cc in same)
    by IsOver e = absurd cc
