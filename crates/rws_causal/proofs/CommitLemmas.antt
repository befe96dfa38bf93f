-- The function that reads a session state finds what the relation of states has.
use Rattle.std.proofs.Common.{◌≡◌, ℕ, zero, suc, ◌<◌, ◌≤◌, List, [], ◌∷◌, ◌++◌, length, Option, Some, None, Result, Ok, Err, refl, sym, ap, ◌∙◌, subst, arith}
use Rattle.std.specs.Prelude.{option_and_then, IsSome}
use Rattle.std.specs.Result.{result_ok}
use Rattle.rws_wire.specs.Reading.{◌>>=◌}
use Rattle.rws_wire.proofs.ReadingLemmas.{done, ok_is, bind_ok}
use Rattle.rws_gtid.specs.declared.Gtid.{Gtid}
use Rattle.rws_msgs.specs.declared.fault.MsgFault.{MsgFault}
use Rattle.rws_msgs.specs.declared.ok_msg.OkMsg.{OkMsg}
use Rattle.rws_msgs.specs.Fields.{text_at}
use Rattle.rws_msgs.proofs.FieldLemmas.{text_at_nothing, text_shorter}
use Rattle.rws_track.specs.State.{Variable, AreVariables, EntryShows, Shows, last_gtid}
use Rattle.rws_track.specs.State as state
use Rattle.rws_causal.specs.Commits.{variables_at, entry_at, shown_at, commit_of, commit_in}

abbrev Shown : Type 0
Shown = List Variable

-- What is read is there

variables_sound : (most : ℕ) (bytes : List ℕ) (shown : Shown) → variables_at most bytes ≡ Ok shown → AreVariables bytes shown
unfolding variables_at
variables_sound most [] shown e = subst (λ (s : Shown). AreVariables [] s) (ok_is [] shown e) state.none
variables_sound zero (byte ∷ bytes) shown e = absurd cc
variables_sound (suc most) (byte ∷ bytes) shown e =
    let name = bind_ok (text_at (byte ∷ bytes))
    (λ name. text_at name.1 >>= λ value. variables_at most value.1 >>= λ others. done {A = Shown} {E = MsgFault} ((name.0, value.0) ∷ others)) shown e in
    let value = bind_ok (text_at name.0.1)
    (λ value. variables_at most value.1 >>= λ others. done {A = Shown} {E = MsgFault} ((name.0.0, value.0) ∷ others)) shown name.2 in
    let others = bind_ok (variables_at most value.0.1) (λ others. done {A = Shown} {E = MsgFault} ((name.0.0, value.0.0) ∷ others)) shown value.2 in
    subst (λ (s : Shown). AreVariables (byte ∷ bytes) s) (ok_is ((name.0.0, value.0.0) ∷ others.0) shown others.2)
    (state.more (byte ∷ bytes) name.0.0 name.0.1 value.0.0 value.0.1 name.1 value.1 (variables_sound most value.0.1 others.0 others.1))

entry_sound : (kind : ℕ) (bytes : List ℕ) (shown : Shown) → entry_at kind bytes ≡ Ok shown → EntryShows kind bytes shown
unfolding entry_at
entry_sound zero bytes shown e = variables_sound (length bytes) bytes shown e
entry_sound (suc kind) bytes shown e = sym (ok_is [] shown e)

shown_sound : (most : ℕ) (bytes : List ℕ) (shown : Shown) → shown_at most bytes ≡ Ok shown → Shows bytes shown
unfolding shown_at
shown_sound most [] shown e = subst (λ (s : Shown). Shows [] s) (ok_is [] shown e) state.none
shown_sound zero (kind ∷ bytes) shown e = absurd cc
shown_sound (suc most) (kind ∷ bytes) shown e =
    let entry = bind_ok (text_at bytes)
    (λ entry. entry_at kind entry.0 >>= λ first. shown_at most entry.1 >>= λ others. done {A = Shown} {E = MsgFault} (first ++ others)) shown e in
    let first = bind_ok (entry_at kind entry.0.0)
    (λ first. shown_at most entry.0.1 >>= λ others. done {A = Shown} {E = MsgFault} (first ++ others)) shown entry.2 in
    let others = bind_ok (shown_at most entry.0.1) (λ others. done {A = Shown} {E = MsgFault} (first.0 ++ others)) shown first.2 in
    subst (λ (s : Shown). Shows (kind ∷ bytes) s) (ok_is (first.0 ++ others.0) shown others.2)
    (state.entry kind bytes entry.0.0 entry.0.1 first.0 entry.1 (entry_sound kind entry.0.0 first.0 first.1) (shown_sound most entry.0.1 others.0 others.1))

-- What is there is read

no_text : (text rest : List ℕ) → text_at [] ≡ Ok (text, rest) → ⊥
no_text text rest e = absurd (cc (text_at_nothing, e))

variables_complete : (most : ℕ) {bytes : List ℕ} {shown : Shown} → AreVariables bytes shown → length bytes ≤ most → variables_at most bytes ≡ Ok shown
unfolding variables_at
variables_complete most state.none short = refl
variables_complete most (state.more [] name behind value rest e f are) short = absurd (no_text name behind e)
variables_complete zero (state.more (byte ∷ bytes) name behind value rest e f are) short = absurd (omega arith)
variables_complete (suc most) (state.more (byte ∷ bytes) name behind value rest e f are) short =
    let first = text_shorter (byte ∷ bytes) name behind e in
    let second = text_shorter behind value rest f in
    rw e (rw f (rw (variables_complete most are (omega arith)) refl))

entry_complete : (kind : ℕ) (bytes : List ℕ) (shown : Shown) → EntryShows kind bytes shown → entry_at kind bytes ≡ Ok shown
unfolding entry_at
entry_complete zero bytes shown are = variables_complete (length bytes) are (omega arith)
entry_complete (suc kind) bytes shown none = ap done (sym none)

shown_complete : (most : ℕ) {bytes : List ℕ} {shown : Shown} → Shows bytes shown → length bytes ≤ most → shown_at most bytes ≡ Ok shown
unfolding shown_at
shown_complete most state.none short = refl
shown_complete zero (state.entry kind bytes inner rest shown e shows are) short = absurd (omega arith)
shown_complete (suc most) (state.entry kind bytes inner rest shown e shows are) short =
    let first = text_shorter bytes inner rest e in
    rw e (rw (entry_complete kind inner shown shows) (rw (shown_complete most are (omega arith)) refl))

-- the commit that an OK tells of, as the crate of session states says it
pub commit_is : (domain : ℕ) (ok : OkMsg) (found : Option Gtid) → ((shown : Shown) → Shows ok.state shown → found ≡ last_gtid domain shown)
    → (IsSome found → (shown : Shown) × Shows ok.state shown) → found ≡ commit_of domain ok
unfolding commit_of
commit_is domain ok found named whole = by (shown_at (length ok.state) ok.state) refl
  where
    nothing : (found : Option Gtid) → (IsSome found → (shown : Shown) × Shows ok.state shown) → {fault : MsgFault} → shown_at (length ok.state) ok.state ≡ Err fault → found ≡ None
    nothing None whole e = refl
    nothing (Some gtid) whole e = let shown = whole refl in absurd (cc (shown_complete (length ok.state) shown.1 (omega arith), e))

    by : (read : Result Shown MsgFault) → shown_at (length ok.state) ok.state ≡ read → found ≡ option_and_then (last_gtid domain) (result_ok read)
    by (Ok shown) e = named shown (shown_sound (length ok.state) ok.state shown e)
    by (Err fault) e = nothing found whole e
