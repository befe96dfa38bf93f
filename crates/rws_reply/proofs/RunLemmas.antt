-- Runs of a tracker over lists of payloads that are joined.
use Rattle.std.proofs.Common.{◌≡◌, List, [], ◌∷◌, ◌++◌, refl, ap}
use Rattle.rws_reply.specs.declared.awaits.Awaits.{Awaits}
use Rattle.rws_reply.specs.declared.awaits.Step.{Step}
use Rattle.rws_reply.specs.declared.awaits.Step.TheVariants.{Goes, Ends, Wrong}
use Rattle.rws_reply.specs.declared.kind.Outcome.{Outcome}
use Rattle.rws_reply.specs.Replies.{Payload}
use Rattle.rws_reply.specs.Machine.{next, Ended, Waits, Stuck, ended_with, proceed, run}

awaits_is : (s t : Awaits) → Waits s ≡ Waits t → s ≡ t
awaits_is s t e = cc

-- where the first part began a reply, the second goes on from there
pub run-append : (ps qs : List Payload) (s t : Awaits) → run ps s ≡ Waits t → run (ps ++ qs) s ≡ run qs t
run-append [] qs s t e = ap (λ (u : Awaits). run qs u) (awaits_is s t e)
run-append (p ∷ ps) qs s t e = on (next s p) (λ u h. run-append ps qs u t h) e
  where
    no_end : (out : Outcome) (ps : List Payload) → ended_with out ps ≡ Waits t → ⊥
    no_end out [] e = absurd cc
    no_end out (q ∷ ps) e = absurd cc

    on : (step : Step) → ((u : Awaits) → run ps u ≡ Waits t → run (ps ++ qs) u ≡ run qs t) → proceed step ps (run ps) ≡ Waits t → proceed step (ps ++ qs) (run (ps ++ qs)) ≡ run qs t
    on (Goes u) others e = others u e
    on (Ends out) others e = absurd (no_end out ps e)
    on Wrong others e = absurd cc

-- nothing follows a whole reply
pub run_past_whole : (ps : List Payload) (q : Payload) (qs : List Payload) (s : Awaits) (out : Outcome) → run ps s ≡ Ended out → run (ps ++ q ∷ qs) s ≡ Stuck
run_past_whole [] q qs s out e = absurd cc
run_past_whole (p ∷ ps) q qs s out e = on (next s p) (λ u h. run_past_whole ps q qs u out h) e
  where
    past : (last : Outcome) (ps : List Payload) → ended_with last ps ≡ Ended out → ended_with last (ps ++ q ∷ qs) ≡ Stuck
    past last [] e = refl
    past last (r ∷ ps) e = absurd cc

    on : (step : Step) → ((u : Awaits) → run ps u ≡ Ended out → run (ps ++ q ∷ qs) u ≡ Stuck) → proceed step ps (run ps) ≡ Ended out → proceed step (ps ++ q ∷ qs) (run (ps ++ q ∷ qs)) ≡ Stuck
    on (Goes u) others e = others u e
    on (Ends last) others e = past last ps e
    on Wrong others e = absurd cc

-- what is no beginning stays none
pub run_past_neither : (ps qs : List Payload) (s : Awaits) → run ps s ≡ Stuck → run (ps ++ qs) s ≡ Stuck
run_past_neither [] qs s e = absurd cc
run_past_neither (p ∷ ps) qs s e = on (next s p) (λ u h. run_past_neither ps qs u h) e
  where
    past : (last : Outcome) (ps : List Payload) → ended_with last ps ≡ Stuck → ended_with last (ps ++ qs) ≡ Stuck
    past last [] e = absurd cc
    past last (r ∷ ps) e = refl

    on : (step : Step) → ((u : Awaits) → run ps u ≡ Stuck → run (ps ++ qs) u ≡ Stuck) → proceed step ps (run ps) ≡ Stuck → proceed step (ps ++ qs) (run (ps ++ qs)) ≡ Stuck
    on (Goes u) others e = others u e
    on (Ends last) others e = past last ps e
    on Wrong others e = refl
