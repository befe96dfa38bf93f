-- What an answer of the tracker says: whole replies end, and each beginning of one can be completed.
use Rattle.std.proofs.Common.{◌≡◌, ◌==◌, ℕ, zero, suc, Bool, true, false, List, [], ◌∷◌, ◌++◌, length, refl, sym, ap, ◌∙◌, subst, Some, None}
use Rattle.rws_wire.specs.Lenenc.{lenenc}
use Rattle.rws_msgs.specs.Fields.{fixed_at, number_at, bytes_at, ended, lenenc_at, text_at}
use Rattle.rws_msgs.specs.OkLayout.{ok_at, ok_status}
use Rattle.rws_msgs.specs.ErrLayout.{err_at, err_code}
use Rattle.rws_msgs.specs.EofLayout.{eof_at}
use Rattle.rws_msgs.specs.PrepareOkLayout.{prepare_ok_at}
use Rattle.rws_reply.specs.declared.kind.Kind.{Kind}
use Rattle.rws_reply.specs.declared.awaits.Awaits.{Awaits}
use Rattle.rws_reply.specs.declared.awaits.Awaits.TheVariants.{Simple, Query, Definitions, Rows, Prepare, Parameters, Columns, FieldList, Fields}
use Rattle.rws_reply.specs.declared.awaits.Step.{Step}
use Rattle.rws_reply.specs.declared.awaits.Step.TheVariants.{Goes, Ends}
use Rattle.rws_reply.specs.Payloads.{eof_status, prepared_counts, is_definition}
use Rattle.rws_reply.specs.declared.kind.Outcome.{Outcome}
use Rattle.rws_reply.specs.declared.kind.Outcome.TheVariants.{Done, Failed}
use Rattle.rws_reply.specs.Replies.{Payload, AreDefinitions, IsReply, Begins}
use Rattle.rws_reply.specs.declared.kind.Progress.TheVariants.{More, Whole}
use Rattle.rws_reply.specs.Tracking.{progress_of, progress, waiting, tracked}
use Rattle.rws_reply.specs.Laws.{ProgressIsExact}
use Rattle.rws_reply.specs.Machine.{next, Standing, Ended, Waits, Stuck, proceed, run, first, defined, to_columns}
use Rattle.rws_reply.proofs.RunLemmas.{run-append, run_past_whole, run_past_neither}
use Rattle.rws_reply.proofs.RepliesRun.{definitions_run, reply_runs}
use Rattle.rws_reply.proofs.RunsAreReplies.{reply_made}

-- ---- each state has an ending

an_err : Payload
an_err = 0xFF ∷ 0 ∷ 0 ∷ 35 ∷ 48 ∷ 48 ∷ 48 ∷ 48 ∷ 48 ∷ []

an_eof : Payload
an_eof = 0xFE ∷ 0 ∷ 0 ∷ 2 ∷ 0 ∷ []

a_definition : Payload
a_definition = 0 ∷ 0 ∷ 0 ∷ 0 ∷ 0 ∷ 0 ∷ []

eof_ends : eof_status an_eof ≡ Some 2
unfolding eof_status eof_at fixed_at number_at ended an_eof
eof_ends = refl

defines : is_definition a_definition ≡ true
unfolding is_definition text_at lenenc_at lenenc bytes_at a_definition
defines = refl

definitions_of : ℕ → List Payload
definitions_of zero = []
definitions_of (suc n) = a_definition ∷ definitions_of n

length-definitions_of : (n : ℕ) → length (definitions_of n) ≡ n
unfolding definitions_of
length-definitions_of zero = refl
length-definitions_of (suc n) = ap suc (length-definitions_of n)

are_definitions : (n : ℕ) → AreDefinitions (definitions_of n)
unfolding definitions_of
are_definitions zero = tt
are_definitions (suc n) = (defines, are_definitions n)

abbrev HasEnding : Awaits → Type 0
HasEnding s = (ps : List Payload) × (out : Outcome) × (run ps s ≡ Ended out)

-- as many definitions as are left, an EOF, and what completes the rest
counted_ends : (counting : ℕ → Awaits) (behind : ℕ → Step) → ((left : ℕ) (p : Payload) → next (counting left) p ≡ defined left p (λ l. Goes (counting l)) behind) → (n : ℕ) (rest : List Payload) (out : Outcome) → proceed (behind 2) rest (run rest) ≡ Ended out → HasEnding (counting n)
counted_ends counting behind counts n rest out e = (
  definitions_of n ++ (an_eof ∷ rest),
  out,
  subst (λ (k : ℕ). run (definitions_of n ++ (an_eof ∷ rest)) (counting k) ≡ Ended out) (length-definitions_of n)
      (definitions_run counting behind counts (definitions_of n) an_eof rest 2 (are_definitions n) eof_ends ∙ e),
)

err_ends : (s : Awaits) → next s an_err ≡ Ends (Failed 0) → HasEnding s
err_ends s e = (an_err ∷ [], Failed 0, rw e refl)

columns_end : (n : ℕ) → HasEnding (Columns n)
columns_end n = counted_ends (λ left. Columns left) (λ status. Ends (Done status)) (λ left p. refl) n [] (Done 2) refl

parameters_end : (n columns : ℕ) (test : Bool) → (columns == 0) ≡ test → HasEnding (Parameters n columns)
parameters_end n columns true e = counted_ends (λ left. Parameters left columns) (to_columns columns) (λ left p. refl) n [] (Done 2) (rw e refl)
parameters_end n columns false e =
    let last = columns_end columns in
    counted_ends (λ left. Parameters left columns) (to_columns columns) (λ left p. refl) n last.0 last.1 (rw e last.2)

ends_of : (s : Awaits) → HasEnding s
unfolding an_err an_eof ok_status err_code eof_status prepared_counts ok_at err_at eof_at prepare_ok_at fixed_at number_at bytes_at ended
ends_of Simple = err_ends Simple refl
ends_of Query = err_ends Query refl
ends_of Rows = err_ends Rows refl
ends_of Prepare = err_ends Prepare refl
ends_of FieldList = err_ends FieldList refl
ends_of Fields = (an_eof ∷ [], Done 2, refl)
ends_of (Definitions n) = counted_ends (λ left. Definitions left) (λ _. Goes Rows) (λ left p. refl) n (an_err ∷ []) (Failed 0) refl
ends_of (Parameters n columns) = parameters_end n columns (columns == 0) refl
ends_of (Columns n) = columns_end n

-- ---- what it says that a run waits, ended or is stuck

some_payload : (ps : List Payload) (s : Awaits) (out : Outcome) → run ps s ≡ Ended out → (q : Payload) × (qs : List Payload) × (ps ≡ q ∷ qs)
some_payload [] s out e = absurd cc
some_payload (q ∷ qs) s out e = (q, qs, refl)

module _ (kind : Kind) (ps : List Payload) where
  begins : (t : Awaits) → run ps (first kind) ≡ Waits t → Begins kind ps
  begins t tracked =
      let last = ends_of t in
      let some_ = some_payload last.0 t last.1 last.2 in (
        some_.0,
        some_.1,
        last.1,
        reply_made kind (ps ++ (some_.0 ∷ some_.1)) last.1
            (run-append ps (some_.0 ∷ some_.1) (first kind) t tracked ∙ ap (λ (qs : List Payload). run qs t) (sym some_.2) ∙ last.2),
      )

  no_whole_begun : (v : Standing) (t : Awaits) (out : Outcome) → v ≡ Waits t → v ≡ Ended out → ⊥
  no_whole_begun v t out e f = let both = sym e ∙ f in absurd cc

  no_whole_neither : (v : Standing) (out : Outcome) → v ≡ Stuck → v ≡ Ended out → ⊥
  no_whole_neither v out e f = let both = sym e ∙ f in absurd cc

  pub begun_is : (t : Awaits) → run ps (first kind) ≡ Waits t → Begins kind ps × ((out : Outcome) → IsReply kind ps out → ⊥)
  begun_is t tracked = (begins t tracked, λ out reply. no_whole_begun _ t out tracked (reply_runs kind ps out reply))

  pub whole_is : (out : Outcome) → run ps (first kind) ≡ Ended out → IsReply kind ps out × (Begins kind ps → ⊥)
  whole_is out e = (reply_made kind ps out e, λ b. no_whole_neither _ b.2 (run_past_whole ps b.0 b.1 (first kind) out e) (reply_runs kind (ps ++ (b.0 ∷ b.1)) b.2 b.3))

  pub neither_is : run ps (first kind) ≡ Stuck → (Begins kind ps → ⊥) × ((out : Outcome) → IsReply kind ps out → ⊥)
  neither_is e = (
    λ b. no_whole_neither _ b.2 (run_past_neither ps (b.0 ∷ b.1) (first kind) e) (reply_runs kind (ps ++ (b.0 ∷ b.1)) b.2 b.3),
    λ out reply. no_whole_neither _ out e (reply_runs kind ps out reply),
  )

-- ---- a tracker at one more payload

waits_is : (s : Standing) (awaits : Awaits) → Some awaits ≡ waiting s → s ≡ Waits awaits
waits_is (Waits t) awaits e = cc
waits_is (Ended out) awaits e = absurd cc
waits_is Stuck awaits e = absurd cc

module _ (kind : Kind) (payloads : List Payload) (p : Payload) where
  on : (awaits : Awaits) (step : Step) → Some awaits ≡ tracked kind payloads → step ≡ next awaits p
      → run (payloads ++ p ∷ []) (first kind) ≡ proceed step [] (run [])
  unfolding tracked
  on awaits step is e =
      run-append payloads (p ∷ []) (first kind) awaits (waits_is _ awaits is) ∙ ap (λ (t : Step). proceed t [] (run [])) (sym e)

  -- it waits for something: the step says what is tracked and told then
  pub tracks : (awaits : Awaits) (step : Step) → Some awaits ≡ tracked kind payloads → step ≡ next awaits p
      → waiting (proceed step [] (run [])) ≡ tracked kind (payloads ++ p ∷ [])
  unfolding tracked
  tracks awaits step is e = sym (ap waiting (on awaits step is e))

  pub tells : (awaits : Awaits) (step : Step) → Some awaits ≡ tracked kind payloads → step ≡ next awaits p
      → progress_of (proceed step [] (run [])) ≡ progress kind payloads p
  unfolding progress
  tells awaits step is e = sym (ap progress_of (on awaits step is e))

  -- the reply was whole or bad
  stays : (s : Standing) → run payloads (first kind) ≡ s → None ≡ waiting s → run (payloads ++ p ∷ []) (first kind) ≡ Stuck
  stays (Waits t) e is = absurd cc
  stays (Ended out) e is = run_past_whole payloads p [] (first kind) out e
  stays Stuck e is = run_past_neither payloads (p ∷ []) (first kind) e

  pub tracks_nothing : None ≡ tracked kind payloads → None ≡ tracked kind (payloads ++ p ∷ [])
  unfolding tracked
  tracks_nothing is = sym (ap waiting (stays _ refl is))

  pub tells_nothing : None ≡ tracked kind payloads → None ≡ progress kind payloads p
  unfolding tracked progress
  tells_nothing is = sym (ap progress_of (stays _ refl is))

-- ---- what is told, in the terms of the grammar

ended_is : (s : Standing) (out : Outcome) → progress_of s ≡ Some (Whole out) → s ≡ Ended out
ended_is (Waits t) out e = absurd cc
ended_is (Ended last) out e = cc
ended_is Stuck out e = absurd cc

stuck_is : (s : Standing) → progress_of s ≡ None → s ≡ Stuck
stuck_is (Waits t) e = absurd cc
stuck_is (Ended out) e = absurd cc
stuck_is Stuck e = refl

module _ (kind : Kind) (ps : List Payload) where
  more_begins : (s : Standing) → run ps (first kind) ≡ s → progress_of s ≡ Some More → Begins kind ps
  more_begins (Waits t) e told = (begun_is kind ps t e).0
  more_begins (Ended out) e told = absurd cc
  more_begins Stuck e told = absurd cc

  begins_more : (s : Standing) → run ps (first kind) ≡ s → Begins kind ps → progress_of s ≡ Some More
  begins_more (Waits t) e b = refl
  begins_more (Ended out) e b = absurd ((whole_is kind ps out e).1 b)
  begins_more Stuck e b = absurd ((neither_is kind ps e).0 b)

  over : (s : Standing) → run ps (first kind) ≡ s → (progress_of s ≡ Some More → ⊥) → (next : Payload) → run (ps ++ next ∷ []) (first kind) ≡ Stuck
  over (Waits t) e not_more next = absurd (not_more refl)
  over (Ended out) e not_more next = run_past_whole ps next [] (first kind) out e
  over Stuck e not_more next = run_past_neither ps (next ∷ []) (first kind) e

pub progress_is_exact : (kind : Kind) (payloads : List Payload) (payload : Payload) → ProgressIsExact kind payloads payload
unfolding progress
progress_is_exact kind payloads payload =
    let all : List Payload = payloads ++ payload ∷ [] in
    record {
      whole = λ out. (
        λ told. (whole_is kind all out (ended_is _ out told)).0,
        λ reply. ap progress_of (reply_runs kind all out reply),
      );
      more = (more_begins kind all _ refl, begins_more kind all _ refl);
      bad = λ told. neither_is kind all (stuck_is _ told);
      last = λ not_more next. ap progress_of (over kind all _ refl not_more next);
    }

pub one_outcome : (kind : Kind) (ps : List Payload) (a b : Outcome) → IsReply kind ps a → IsReply kind ps b → a ≡ b
one_outcome kind ps a b p q = let both = sym (reply_runs kind ps a p) ∙ reply_runs kind ps b q in cc

pub whole_ends : (kind : Kind) (ps : List Payload) (out : Outcome) → IsReply kind ps out → Begins kind ps → ⊥
whole_ends kind ps out reply = (whole_is kind ps out (reply_runs kind ps out reply)).1
