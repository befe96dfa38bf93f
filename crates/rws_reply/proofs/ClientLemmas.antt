-- The client's form of a whole reply is a whole reply, payload by payload.
use Rattle.std.proofs.Common.{◌≡◌, ◌==◌, ℕ, ◌^◌, ◌<◌, ◌≤◌, Bool, true, false, cond, List, [], ◌∷◌, ◌++◌, refl, sym, ap, ◌∙◌, subst, append_assoc, append-nil, Option, Some, None, arith}
use Rattle.std.specs.Prelude.{bit_and, find, Result, Ok, Err}
use Rattle.std.specs.Int.Bits.{and_zero_r}
use Rattle.std.specs.List.{AllByRecursion}
use Rattle.std.specs.Option.{option_map}
use Rattle.std.specs.Result.{result_ok}
use Rattle.std.proofs.lemmas.Nat.{and_assoc, and_le_l}
use Rattle.rws_wire.specs.Numbers.{AreBytes}
use Rattle.rws_msgs.specs.declared.fault.MsgFault.{MsgFault}
use Rattle.rws_msgs.specs.declared.ok_msg.OkMsg.{OkMsg}
use Rattle.rws_msgs.specs.declared.prepare_ok.PrepareOk.{PrepareOk}
use Rattle.rws_msgs.specs.OkLayout.{OkFits, ok_at, ok_bytes, ok_status}
use Rattle.rws_msgs.specs.ErrLayout.{err_code}
use Rattle.rws_msgs.specs.PrepareOkLayout.{PrepareOkFits, prepare_ok_at, prepare_ok_bytes}
use Rattle.rws_msgs.proofs.OkLemmas.{ok_again}
use Rattle.rws_msgs.proofs.PrepareOkLemmas.{prepare_ok_again}
use Rattle.rws_track.specs.Client as track
use Rattle.rws_reply.specs.declared.kind.Kind.{Kind}
use Rattle.rws_reply.specs.declared.kind.Outcome.{Outcome}
use Rattle.rws_reply.specs.declared.kind.Outcome.TheVariants.{Done}
use Rattle.rws_reply.specs.declared.role.Role.{Role}
use Rattle.rws_reply.specs.declared.role.Role.TheVariants as roles
use Rattle.rws_reply.specs.declared.awaits.Awaits.{Awaits}
use Rattle.rws_reply.specs.declared.awaits.Awaits.TheVariants.{Simple, Query, Definitions, Rows, Prepare, Parameters, Columns, FieldList, Fields}
use Rattle.rws_reply.specs.declared.awaits.Step.{Step}
use Rattle.rws_reply.specs.declared.awaits.Step.TheVariants.{Goes, Ends, Wrong}
use Rattle.rws_reply.specs.Payloads.{has_more_results, column_count, prepared_counts}
use Rattle.rws_reply.specs.Replies.{Payload}
use Rattle.rws_reply.specs.Roles.{reads_as}
use Rattle.rws_reply.specs.Machine.{next, to_parameters, role_at, role_in, Standing, Ended, Waits, proceed, run, first}
use Rattle.rws_reply.specs.Tracking.{waiting, role}
use Rattle.rws_reply.specs.ClientForm.{rewritten, client_ok, client_prepared, client_form, in_role, client_forms, client_reply, without_state, ClientRepliesAreReplies, ClientRepliesGrow}
use Rattle.rws_reply.proofs.PayloadLemmas.{no_err_in_prepared}
use Rattle.rws_reply.proofs.RunLemmas.{run-append}
use Rattle.rws_reply.proofs.RepliesRun.{reply_runs}
use Rattle.rws_reply.proofs.RunsAreReplies.{reply_made}
use Rattle.rws_reply.proofs.FitLemmas.{ok_fits, prepare_ok_fits}

-- ---- the status without 0x4000

no_state : (status : ℕ) → bit_and (bit_and status 0xBFFF) 0x4000 ≡ 0
no_state status = and_assoc 0x4000 status 0xBFFF ∙ and_zero_r status

same_more : (status : ℕ) → bit_and (bit_and status 0xBFFF) 0x0008 ≡ bit_and status 0x0008
same_more status = and_assoc 0x0008 status 0xBFFF

once_enough : (status : ℕ) → bit_and (bit_and status 0xBFFF) 0xBFFF ≡ bit_and status 0xBFFF
once_enough status = and_assoc 0xBFFF status 0xBFFF

-- ---- what is written is read

stripped_fits : (ok : OkMsg) → OkFits ok → OkFits (track.client_form ok)
stripped_fits ok fits = record {
  affected = fits.affected;
  insert_id = fits.insert_id;
  status = below (and_le_l ok.status 0xBFFF) fits.status;
  warnings = fits.warnings;
  info = fits.info;
  state = omega arith;
}
  where
    below : {a b c : ℕ} → a ≤ b → b < c → a < c
    below h k = omega arith

-- there is no state to be written with tracking or without
same_bytes : (ok : OkMsg) → ok_bytes false (track.client_form ok) ≡ ok_bytes true (track.client_form ok)
unfolding ok_bytes
same_bytes ok = rw (no_state ok.status) refl

stripped_again : (ok : OkMsg) → OkFits ok → ok_at true (ok_bytes false (track.client_form ok)) ≡ Ok (track.client_form ok)
stripped_again ok fits = ap (ok_at true) (same_bytes ok) ∙ ok_again true (track.client_form ok) (stripped_fits ok fits) (λ _. refl)

client_ok_status : (p : Payload) (status : ℕ) → AreBytes p → ok_status true p ≡ Some status → ok_status true (client_ok p) ≡ Some (bit_and status 0xBFFF)
unfolding ok_status client_ok
client_ok_status p status fit e = by (ok_at true p) refl e
  where
    by : (read : Result OkMsg MsgFault) → ok_at true p ≡ read → option_map (λ ok. ok.status) (result_ok read) ≡ Some status
        → option_map (λ ok. ok.status) (result_ok (ok_at true (rewritten p (λ ok. ok_bytes false (track.client_form ok)) read))) ≡ Some (bit_and status 0xBFFF)
    by (Ok ok) f g = rw (stripped_again ok (ok_fits true p ok fit f)) (ap (option_map (λ (s : ℕ). bit_and s 0xBFFF)) g)
    by (Err fault) f g = absurd cc

renumbered_fits : (ok : PrepareOk) (handle : ℕ) → handle < 2 ^ 32 → PrepareOkFits ok → PrepareOkFits (record ok { id = handle })
renumbered_fits ok handle small fits = record { id = small; columns = fits.columns; parameters = fits.parameters; warnings = fits.warnings }

client_prepared_counts : (p : Payload) (handle : ℕ) (counts : ℕ × ℕ) → AreBytes p → handle < 2 ^ 32 → prepared_counts p ≡ Some counts → prepared_counts (client_prepared handle p) ≡ Some counts
unfolding prepared_counts client_prepared
client_prepared_counts p handle counts fit small e = by (prepare_ok_at p) refl e
  where
    by : (read : Result PrepareOk MsgFault) → prepare_ok_at p ≡ read → option_map (λ ok. (ok.columns, ok.parameters)) (result_ok read) ≡ Some counts
        → option_map (λ ok. (ok.columns, ok.parameters)) (result_ok (prepare_ok_at (rewritten p (λ ok. prepare_ok_bytes (record ok { id = handle })) read))) ≡ Some counts
    by (Ok ok) f g = rw (prepare_ok_again (record ok { id = handle }) (renumbered_fits ok handle small (prepare_ok_fits p ok fit f))) g
    by (Err fault) f g = absurd cc

-- ---- a tracker goes the same way over a payload and its form for the client

abbrev Agrees : Step → Step → Type 0
Agrees (Goes awaits) other = other ≡ Goes awaits
Agrees (Ends out) other = (seen : Outcome) × (other ≡ Ends seen) × (without_state seen ≡ without_state out)
Agrees Wrong other = Unit {0}

same_agrees : (step : Step) → Agrees step step
same_agrees (Goes awaits) = refl
same_agrees (Ends out) = (out, refl, refl)
same_agrees Wrong = tt

result_agrees : (more : Bool) (status : ℕ) → Agrees (cond more (Goes Query) (Ends (Done status))) (cond more (Goes Query) (Ends (Done (bit_and status 0xBFFF))))
result_agrees true status = refl
result_agrees false status = (Done (bit_and status 0xBFFF), refl, ap (λ (s : ℕ). Done s) (once_enough status))

module _ (handle : ℕ) (small : handle < 2 ^ 32) (p : Payload) (fit : AreBytes p) where
  -- where every role that may be found leaves the payload as it is
  found_kept : (test : Role → Bool) (rs : List Role) → AllByRecursion (λ r. client_form r handle p ≡ p) rs → in_role (find test rs) handle p ≡ p
  found_kept test [] all = refl
  found_kept test (r ∷ rs) all = by (test r) (found_kept test rs all.1)
    where
      by : (b : Bool) → in_role (find test rs) handle p ≡ p → in_role (cond b (Some r) (find test rs)) handle p ≡ p
      by true others = all.0
      by false others = others

  kept : (s : Awaits) → in_role (role_at s p) handle p ≡ p → Agrees (next s p) (next s (in_role (role_at s p) handle p))
  kept s e = subst (λ (q : Payload). Agrees (next s p) (next s q)) (sym e) (same_agrees (next s p))

  changed : (s : Awaits) (q : Payload) → in_role (role_at s p) handle p ≡ q → Agrees (next s p) (next s q) → Agrees (next s p) (next s (in_role (role_at s p) handle p))
  changed s q e agrees = subst (λ (q : Payload). Agrees (next s p) (next s q)) (sym e) agrees

  counted_kept : (zero : Bool) → in_role (find (λ r. reads_as r p) (cond zero (roles.Eof ∷ []) (roles.Definition ∷ []))) handle p ≡ p
  unfolding client_form
  counted_kept true = found_kept (λ r. reads_as r p) (roles.Eof ∷ []) (refl, tt)
  counted_kept false = found_kept (λ r. reads_as r p) (roles.Definition ∷ []) (refl, tt)

  simple_agrees : (o : Option ℕ) → ok_status true p ≡ o → (e : Option ℕ) → err_code p ≡ e → Agrees (next Simple p) (next Simple (in_role (role_at Simple p) handle p))
  unfolding client_form
  simple_agrees (Some status) f e g =
      changed Simple (client_ok p) (rw f refl)
      (rw (f, client_ok_status p status fit f) (Done (bit_and status 0xBFFF), refl, ap (λ (s : ℕ). Done s) (once_enough status)))
  simple_agrees None f (Some code) g = kept Simple (rw (f, g) refl)
  simple_agrees None f None g = kept Simple (rw (f, g) refl)

  query_agrees : (o : Option ℕ) → ok_status true p ≡ o → (e : Option ℕ) → err_code p ≡ e → (c : Option ℕ) → column_count p ≡ c → Agrees (next Query p) (next Query (in_role (role_at Query p) handle p))
  unfolding client_form
  query_agrees (Some status) f e g c h =
      changed Query (client_ok p) (rw f refl)
      (rw (f, client_ok_status p status fit f, same_more status) (result_agrees (has_more_results status) status))
  query_agrees None f (Some code) g c h = kept Query (rw (f, g) refl)
  query_agrees None f None g (Some count) h = kept Query (rw (f, g, h) refl)
  query_agrees None f None g None h = kept Query (rw (f, g, h) refl)

  prepare_agrees : (e : Option ℕ) → err_code p ≡ e → (c : Option (ℕ × ℕ)) → prepared_counts p ≡ c → Agrees (next Prepare p) (next Prepare (in_role (role_at Prepare p) handle p))
  unfolding client_form
  prepare_agrees (Some code) f c g = kept Prepare (rw f refl)
  prepare_agrees None f (Some counts) g =
      let again = client_prepared_counts p handle counts fit small g in
      changed Prepare (client_prepared handle p) (rw (f, g) refl)
      (rw (f, g, no_err_in_prepared (client_prepared handle p) counts again, again) (same_agrees (to_parameters counts)))
  prepare_agrees None f None g = kept Prepare (rw (f, g) refl)

  step_agrees : (s : Awaits) → Agrees (next s p) (next s (in_role (role_at s p) handle p))
  unfolding client_form
  step_agrees Simple = simple_agrees _ refl _ refl
  step_agrees Query = query_agrees _ refl _ refl _ refl
  step_agrees (Definitions left) = kept (Definitions left) (counted_kept (left == 0))
  step_agrees Rows = kept Rows (found_kept (λ r. reads_as r p) (roles.Eof ∷ roles.Err ∷ roles.Row ∷ []) (refl, (refl, (refl, tt))))
  step_agrees Prepare = prepare_agrees _ refl _ refl
  step_agrees (Parameters left columns) = kept (Parameters left columns) (counted_kept (left == 0))
  step_agrees (Columns left) = kept (Columns left) (counted_kept (left == 0))
  step_agrees FieldList = kept FieldList (found_kept (λ r. reads_as r p) (roles.Err ∷ roles.Eof ∷ roles.Definition ∷ []) (refl, (refl, (refl, tt))))
  step_agrees Fields = kept Fields (found_kept (λ r. reads_as r p) (roles.Eof ∷ roles.Definition ∷ []) (refl, (refl, tt)))

-- ---- whole replies

-- a run over these payloads, and one over their forms for the client
abbrev IsSeen : List Payload → Awaits → Outcome → Type 0
IsSeen forms s out = (seen : Outcome) × (run forms s ≡ Ended seen) × (without_state seen ≡ without_state out)

ended_is : (a b : Outcome) → Ended a ≡ Ended b → a ≡ b
ended_is a b e = cc

module _ (kind : Kind) (handle : ℕ) (small : handle < 2 ^ 32) where
  on : (p : Payload) (ps before : List Payload) (s : Awaits) (out : Outcome) (form : Payload) (step : Step) → next s p ≡ step → Agrees step (next s form)
      → ((t : Awaits) → next s p ≡ Goes t → run ps t ≡ Ended out → IsSeen (client_forms kind handle ps before) t out)
      → proceed step ps (run ps) ≡ Ended out → IsSeen (form ∷ client_forms kind handle ps before) s out
  on p ps before s out form (Goes t) is agrees others e =
      let seen = others t is e in (seen.0, rw agrees seen.1, seen.2)
  on p [] before s out form (Ends last) is (seen, agrees, same) others e =
      (seen, rw agrees refl, same ∙ ap without_state (ended_is last out e))
  on p (q ∷ ps) before s out form (Ends last) is (seen, agrees, same) others e = absurd cc
  on p ps before s out form Wrong is agrees others e = absurd cc

  role_is : (before : List Payload) (p : Payload) (s : Awaits) → run before (first kind) ≡ Waits s → role kind before p ≡ role_at s p
  unfolding role
  role_is before p s e = ap (λ (t : Standing). role_in (waiting t) p) e

  seen_run : (ps before : List Payload) (s : Awaits) (out : Outcome) → run before (first kind) ≡ Waits s → AllByRecursion AreBytes ps → run ps s ≡ Ended out
      → IsSeen (client_forms kind handle ps before) s out
  seen_run [] before s out at all e = absurd cc
  seen_run (p ∷ ps) before s out at all e =
      on p ps (before ++ p ∷ []) s out (in_role (role kind before p) handle p) (next s p) refl
      (subst (λ (r : Option Role). Agrees (next s p) (next s (in_role r handle p))) (sym (role_is before p s at)) (step_agrees handle small p all.0 s))
      (λ t is whole. seen_run ps (before ++ p ∷ []) t out (run-append before (p ∷ []) (first kind) s at ∙ ap (λ (step : Step). proceed step [] (run [])) is) all.1 whole)
      e

pub client_replies_are_replies : ClientRepliesAreReplies
unfolding client_reply
client_replies_are_replies kind handle payloads out small all reply =
    let seen = seen_run kind handle small payloads [] (first kind) out refl all (reply_runs kind payloads out reply) in
    (seen.0, reply_made kind (client_forms kind handle payloads []) seen.0 seen.1, seen.2)

forms_grow : (kind : Kind) (handle : ℕ) (payload : Payload) (ps before : List Payload)
    → client_forms kind handle (ps ++ payload ∷ []) before ≡ client_forms kind handle ps before ++ in_role (role kind (before ++ ps) payload) handle payload ∷ []
forms_grow kind handle payload [] before = ap (λ (b : List Payload). in_role (role kind b payload) handle payload ∷ []) (sym (append-nil before))
forms_grow kind handle payload (q ∷ ps) before =
    ap (λ (forms : List Payload). in_role (role kind before q) handle q ∷ forms)
    (forms_grow kind handle payload ps (before ++ q ∷ [])
    ∙ ap (λ (b : List Payload). client_forms kind handle ps (before ++ q ∷ []) ++ in_role (role kind b payload) handle payload ∷ []) (append_assoc before (q ∷ []) ps))

pub client_replies_grow : ClientRepliesGrow
unfolding client_reply
client_replies_grow kind handle payloads payload = forms_grow kind handle payload payloads []
