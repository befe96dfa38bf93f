-- What is true of an execute that was read.
use Rattle.std.proofs.Common.{◌≡◌, ◌==◌, ◌≢◌, ℕ, ◌+◌, ◌*◌, ◌/◌, ◌≤◌, Bool, true, false, cond, nat_lt, is_some, ◌||◌, List, [], ◌∷◌, length, take, drop, Option, Some, None, Result, Ok, Err, refl, sym, ap, subst, arith}
use Rattle.std.proofs.lemmas.Bool.{eqb-true, ltb-false}
use Rattle.std.proofs.lemmas.List.{length-take}
use Rattle.rws_wire.specs.Reading.{◌>>=◌}
use Rattle.rws_msgs.specs.declared.fault.MsgFault.{MsgFault}
use Rattle.rws_msgs.specs.declared.fault.MsgFault.TheVariants.{Short, BadTag}
use Rattle.rws_msgs.specs.declared.execute_head.ExecuteHead.{ExecuteHead}
use Rattle.rws_msgs.specs.Fields.{bytes_at, fixed_at, number_at}
use Rattle.rws_msgs.specs.ExecuteLayout.{AreValues, HaveSize, IsExecuteHead, execute_at, once_at, types_at, values_at}
use Rattle.rws_handles.specs.declared.fault.ExecuteFault.{ExecuteFault}
use Rattle.rws_handles.specs.declared.fault.ExecuteFault.TheVariants.{BadExecute, CursorAsked}
use Rattle.rws_handles.specs.Laws.{IsPrepared}
use Rattle.rws_handles.specs.PlainForm.{Plain, asks_cursor, or_last, plain_form, plain_if_read}
use Rattle.rws_handles.specs.Prepared.{Prepared}
use Rattle.rws_handles.proofs.StatementLemmas.{no_types_stay, types_stay}

-- the fact of what is read, if something is
abbrev IfRead : {A : Type 0} → (A → Type 0) → Result A MsgFault → Type 0
IfRead P (Ok x) = P x
IfRead P (Err fault) = Unit {0}

then_read : {A B : Type 0} (Q : A → Type 0) (P : B → Type 0) (r : Result A MsgFault) (f : A → Result B MsgFault) → IfRead Q r → ((x : A) → Q x → IfRead P (f x)) → IfRead P (r >>= f)
then_read Q P (Ok x) f is next = next x is
then_read Q P (Err fault) f is next = tt

any_read : {A : Type 0} (r : Result A MsgFault) → IfRead (λ x. Unit {0}) r
any_read (Ok x) = tt
any_read (Err fault) = tt

bytes_sized : (size : ℕ) (bytes : List ℕ) → IfRead (λ x. length x.0 ≡ size) (bytes_at size bytes)
unfolding bytes_at
bytes_sized size bytes = by (nat_lt (length bytes) size) refl
  where
    by : (short : Bool) → nat_lt (length bytes) size ≡ short → IfRead (λ x. length x.0 ≡ size) (cond {A = Result (List ℕ × List ℕ) MsgFault} short (Err Short) (Ok (take size bytes, drop size bytes)))
    by true e = tt
    by false e = let long : size ≤ length bytes = ltb-false _ _ e in omega (arith, length-take size bytes)

types_sized : (parameters : ℕ) (bytes : List ℕ) → IfRead (λ x. HaveSize parameters x.0) (types_at parameters bytes)
unfolding types_at
types_sized parameters [] = tt
types_sized parameters (given ∷ bytes) = by (given == 0) (given == 1)
  where
    by : (none some : Bool) → IfRead (λ x. HaveSize parameters x.0) (cond {A = Result (Option (List ℕ) × List ℕ) MsgFault} none (Ok (None, bytes))
        (cond some (bytes_at (2 * parameters) bytes >>= λ types. Ok (Some types.0, types.1)) (Err (BadTag given))))
    by true some = tt
    by false true = then_read (λ x. length x.0 ≡ 2 * parameters) (λ x. HaveSize parameters x.0) (bytes_at (2 * parameters) bytes) _ (bytes_sized (2 * parameters) bytes) (λ types sized. sized)
    by false false = tt

values_are : (parameters : ℕ) (bytes : List ℕ) → IfRead (λ v. AreValues parameters v.0 v.1.0 v.1.1) (values_at parameters bytes)
unfolding values_at
values_are parameters bytes = by (parameters == 0) refl
  where
    by : (none : Bool) → (parameters == 0) ≡ none → IfRead (λ v. AreValues parameters v.0 v.1.0 v.1.1) (cond {A = Result (List ℕ × (Option (List ℕ) × List ℕ)) MsgFault} none (Ok ([], (None, [])))
        (bytes_at ((parameters + 7) / 8) bytes >>= λ bitmap. types_at parameters bitmap.1 >>= λ types. Ok (bitmap.0, types)))
    by true e =
        let zero : parameters ≡ 0 = eqb-true parameters 0 e in
        record { bitmap_size = sym (ap (λ (n : ℕ). (n + 7) / 8) zero); types_size = tt; no_types = λ z. refl; no_values = λ z. refl }
    by false e =
        let some : parameters ≢ 0 = λ (z : parameters ≡ 0). absurd (cc (ap (λ (n : ℕ). n == 0) z)) in
        then_read (λ x. length x.0 ≡ (parameters + 7) / 8) _ (bytes_at ((parameters + 7) / 8) bytes) _ (bytes_sized ((parameters + 7) / 8) bytes) (λ bitmap sized.
        then_read (λ x. HaveSize parameters x.0) _ (types_at parameters bitmap.1) _ (types_sized parameters bitmap.1) (λ types fit.
        record { bitmap_size = sized; types_size = fit; no_types = λ z. absurd (some z); no_values = λ z. absurd (some z) }))

execute_is : (parameters : ℕ) (payload : List ℕ) → IfRead (λ head. IsExecuteHead parameters head) (execute_at parameters payload)
unfolding execute_at
execute_is parameters payload =
    then_read _ _ (fixed_at 0x17 payload) _ (any_read _) (λ rest any.
    then_read _ _ (number_at 4 rest) _ (any_read _) (λ id any.
    then_read _ _ (number_at 1 id.1) _ (any_read _) (λ flags any.
    then_read _ _ (once_at flags.1) _ (any_read _) (λ behind any.
    then_read _ _ (values_at parameters behind) _ (values_are parameters behind) (λ given are. are)))))

-- ---- what a plain form has of the statement

pub record IsRunOf (statement : Prepared) (plain : Plain) : Type 0 where
  pub text : plain.text ≡ statement.text
  pub long_data : plain.long_data ≡ statement.long_data
  pub typed : ((statement.parameters == 0) || is_some plain.types) ≡ true
  pub values : AreValues statement.parameters plain.bitmap plain.types plain.values

abbrev ok_plain : Plain → Result Plain ExecuteFault
ok_plain plain = Ok plain

ok_same : (a b : Plain) → ok_plain a ≡ ok_plain b → a ≡ b
ok_same a b e = cc

pub is_run : (statement : Prepared) (payload : List ℕ) (plain : Plain) → IsPrepared statement → plain_form statement payload ≡ Ok plain → IsRunOf statement plain
is_run statement payload plain is e = by (asks_cursor payload) (execute_at statement.parameters payload) (execute_is statement.parameters payload) e
  where
    made : (head : ExecuteHead) → IsExecuteHead statement.parameters head → (known : Bool) → ((statement.parameters == 0) || is_some (or_last head.types statement.types)) ≡ known
        → cond {A = Result Plain ExecuteFault} known (Ok (record { text = statement.text; long_data = statement.long_data; bitmap = head.bitmap; types = or_last head.types statement.types; values = head.values })) (Err BadExecute) ≡ Ok plain → IsRunOf statement plain
    made head fits true known e = subst (λ (p : Plain). IsRunOf statement p) (ok_same (record { text = statement.text; long_data = statement.long_data; bitmap = head.bitmap; types = or_last head.types statement.types; values = head.values }) plain e) (record {
      text = refl;
      long_data = refl;
      typed = known;
      values = record {
        bitmap_size = fits.bitmap_size;
        types_size = types_stay statement.parameters head.types statement.types fits.types_size is.types;
        no_types = no_types_stay statement.parameters head.types statement.types fits.no_types is.no_types;
        no_values = fits.no_values;
      };
    })
    made head fits false known e = absurd cc

    by : (cursor : Bool) (read : Result ExecuteHead MsgFault) → IfRead (λ head. IsExecuteHead statement.parameters head) read → cond {A = Result Plain ExecuteFault} cursor (Err CursorAsked) (plain_if_read statement read) ≡ Ok plain → IsRunOf statement plain
    by true read fits e = absurd cc
    by false (Err fault) fits e = absurd cc
    by false (Ok head) fits e = made head fits ((statement.parameters == 0) || is_some (or_last head.types statement.types)) refl e
