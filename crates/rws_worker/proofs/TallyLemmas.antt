-- What is open over all sessions, and without one of them.
use Rattle.std.proofs.Common.{◌≡◌, ◌==◌, ℕ, ◌+◌, ◌<◌, ◌^◌, Bool, true, false, List, [], ◌∷◌, ◌++◌, filter, map, refl, sym, ap, subst, ◌∙◌, arith, ◌||◌, if◌then◌else◌}
use Rattle.std.specs.List.{AllByRecursion}
use Rattle.std.proofs.lemmas.Bool.{eq-eqb, eqb-true, eqb-false}
use Rattle.std.proofs.Math.Nat.{add-sub_cancel}
use Rattle.rws_config.specs.declared.config.Config.{Config}
use Rattle.rws_record.specs.Item.{Item}
use Rattle.rws_record.specs.Run.{Entry, IsRun, begun, is_live, last_link, loads_of, record_of, sum}
use Rattle.rws_record.proofs.LoadLemmas.{begun_rises, links_load_within, pending_load_within}
use Rattle.rws_record.proofs.OrderLemmas.{Rises}
use Rattle.rws_worker.specs.declared.tally.Tally.{Tally}
use Rattle.rws_worker.specs.Tallies.{Fits, links_at, load_by, minus, pending_at, plus, seven, summed, summed_but, tally_but, tally_in, tally_of, weight}
use Rattle.rws_worker.proofs.CountLemmas.{differs, has, known, live_is_there}

-- what was added is taken off
pub minus_plus : (a b : Tally) → minus (plus a b) b ≡ a
minus_plus a b = rw (add-sub_cancel a.pending b.pending, add-sub_cancel a.links b.links) refl

pub seven_same : {A : Type 0} (f g : ℕ → A) → ((server : ℕ) → f server ≡ g server) → seven f ≡ seven g
seven_same f g same = rw (same 0, same 1, same 2, same 3, same 4, same 5, same 6) refl

module _ (count : List Item → ℕ) (session : ℕ) where
  abbrev all_of : List ℕ → List Entry → ℕ
  all_of list run = sum (map (λ other. weight count (record_of other run)) list)

  of_open : (run : List Entry) (list : List ℕ)
      → sum (map (λ other. count (record_of other run)) (filter (λ other. is_live (record_of other run)) list)) ≡ all_of list run
  of_open run [] = refl
  of_open run (first ∷ others) = by_test (is_live (record_of first run)) (of_open run others)
    where
      f : ℕ → ℕ
      f other = count (record_of other run)

      rest : List ℕ
      rest = filter (λ other. is_live (record_of other run)) others

      by_test : (live : Bool) → sum (map (λ other. count (record_of other run)) (filter (λ other. is_live (record_of other run)) others)) ≡ all_of others run
          → sum (map (λ other. count (record_of other run)) (if live then first ∷ filter (λ other. is_live (record_of other run)) others else filter (λ other. is_live (record_of other run)) others))
          ≡ (if live then count (record_of first run) else 0) + all_of others run
      by_test true same = omega arith
      by_test false same = omega arith

  -- all are above the session
  none_here : (run : List Entry) (list : List ℕ) → AllByRecursion (λ other. session < other) list
      → summed_but count session list run ≡ all_of list run
  none_here run [] above = refl
  none_here run (first ∷ others) above = by_test (session == first) refl (none_here run others above.1)
    where
      by_test : (test : Bool) → (session == first) ≡ test → summed_but count session others run ≡ all_of others run
          → (if test then 0 else weight count (record_of first run)) + summed_but count session others run
          ≡ weight count (record_of first run) + all_of others run
      by_test true e same = let it = eqb-true session first e in let less = above.0 in absurd (omega arith)
      by_test false e same = omega arith

  with_it : (run : List Entry) (list : List ℕ) → Rises list → (has list session ≡ false → weight count (record_of session run) ≡ 0)
      → all_of list run ≡ summed_but count session list run + weight count (record_of session run)
  with_it run [] rises none = let z = none refl in omega arith
  with_it run (first ∷ others) rises none = by_test (session == first) refl (with_it run others rises.1)
    where
      by_test : (test : Bool) → (session == first) ≡ test
          → ((has others session ≡ false → weight count (record_of session run) ≡ 0)
          → all_of others run ≡ summed_but count session others run + weight count (record_of session run))
          → weight count (record_of first run) + all_of others run
          ≡ (if test then 0 else weight count (record_of first run)) + summed_but count session others run + weight count (record_of session run)
      by_test true e same_behind =
          let it : session ≡ first = eqb-true session first e in
          let same = none_here run others (subst (λ (n : ℕ). AllByRecursion (λ other. n < other) others) (sym it) rises.0) in
          let here : weight count (record_of session run) ≡ weight count (record_of first run) = ap (λ (n : ℕ). weight count (record_of n run)) it in
          omega arith
      by_test false e same_behind =
          let not_here = differs session first (eqb-false session first e) in
          let same = same_behind (λ none_here. none (ap (λ (b : Bool). b || has others session) not_here ∙ none_here)) in omega arith

  -- it is the session alone that goes on
  but_same : (run now : List Entry) (list : List ℕ) → ((other : ℕ) → (session ≡ other → ⊥) → record_of other now ≡ record_of other run)
      → summed_but count session list now ≡ summed_but count session list run
  but_same run now [] apart = refl
  but_same run now (first ∷ others) apart = by_test (session == first) refl (but_same run now others apart)
    where
      by_test : (test : Bool) → (session == first) ≡ test → summed_but count session others now ≡ summed_but count session others run
          → (if test then 0 else weight count (record_of first now)) + summed_but count session others now
          ≡ (if test then 0 else weight count (record_of first run)) + summed_but count session others run
      by_test true e same = omega arith
      by_test false e same = let here = ap (weight count) (apart first (eqb-false session first e)) in omega arith

  -- or begins
  but_new : (run : List Entry) (list : List ℕ) → summed_but count session (list ++ session ∷ []) run ≡ summed_but count session list run
  but_new run [] = ap (λ (test : Bool). (if test then 0 else weight count (record_of session run)) + 0) (eq-eqb session session refl)
  but_new run (first ∷ others) = let same = but_new run others in omega arith

  -- all that is open, by whether the session is
  pub sum_is : {config : Config} (run : List Entry) → IsRun config run
      → summed count run ≡ summed_but count session (begun run) run + weight count (record_of session run)
  sum_is run legal =
      of_open run (begun run)
      ∙ with_it run (begun run) (begun_rises legal) (λ none. weighs_nothing (is_live (record_of session run)) refl none)
    where
      weighs_nothing : (live : Bool) → is_live (record_of session run) ≡ live → has (begun run) session ≡ false
          → (if live then count (record_of session run) else 0) ≡ 0
      weighs_nothing false e none = refl
      weighs_nothing true e none =
          let some : has (begun run) session ≡ true = (known legal).some session (live_is_there (record_of session run) e) in absurd cc

tally_by : (a b c d : ℕ) → a ≡ c → b ≡ d → ◌≡◌ {A = Tally} (record { pending = a; links = b }) (record { pending = c; links = d })
tally_by a b c d first second = rw (first, second) refl

module _ {config : Config} (session : ℕ) (run : List Entry) (legal : IsRun config run) where
  -- one that goes on has a part in it
  pub tally_with : is_live (record_of session run) ≡ true → (server : ℕ)
      → tally_of run server ≡ plus (tally_but session run server) (tally_in (record_of session run) server)
  tally_with live server = tally_by _ _ _ _ (its (pending_at server)) (its (links_at server))
    where
      its : (count : List Item → ℕ) → summed count run ≡ summed_but count session (begun run) run + count (record_of session run)
      its count =
          sum_is count session run legal
          ∙ ap (λ (l : Bool). summed_but count session (begun run) run + (if l then count (record_of session run) else 0)) live

  pub tally_without : is_live (record_of session run) ≡ false → (server : ℕ) → tally_of run server ≡ tally_but session run server
  tally_without gone server = tally_by _ _ _ _ (its (pending_at server)) (its (links_at server))
    where
      its : (count : List Item → ℕ) → summed count run ≡ summed_but count session (begun run) run
      its count =
          let all = sum_is count session run legal in
          let none : weight count (record_of session run) ≡ 0 = ap (λ (l : Bool). if l then count (record_of session run) else 0) gone in
          omega arith

  pub tally_fits : last_link run < 2 ^ 64 → (server : ℕ) → Fits (tally_of run server)
  tally_fits below server =
      let p = pending_load_within legal server in let l = links_load_within legal server in
      record { pending = omega arith; links = omega arith }

  -- only the session goes on
  pub tally_kept : (now : List Entry) → begun now ≡ begun run
      → ((other : ℕ) → (session ≡ other → ⊥) → record_of other now ≡ record_of other run) → (server : ℕ)
      → tally_but session now server ≡ tally_but session run server
  tally_kept now same apart server = tally_by _ _ _ _ (its (pending_at server)) (its (links_at server))
    where
      its : (count : List Item → ℕ) → summed_but count session (begun now) now ≡ summed_but count session (begun run) run
      its count =
          ap (λ (list : List ℕ). summed_but count session list now) same ∙ but_same count session run now (begun run) apart

  pub tally_begun : (now : List Entry) → begun now ≡ begun run ++ session ∷ []
      → ((other : ℕ) → (session ≡ other → ⊥) → record_of other now ≡ record_of other run) → (server : ℕ)
      → tally_but session now server ≡ tally_but session run server
  tally_begun now more apart server = tally_by _ _ _ _ (its (pending_at server)) (its (links_at server))
    where
      its : (count : List Item → ℕ) → summed_but count session (begun now) now ≡ summed_but count session (begun run) run
      its count =
          ap (λ (list : List ℕ). summed_but count session list now) more ∙ but_new count session now (begun run)
          ∙ but_same count session run now (begun run) apart

pub loads_are : (run : List Entry) → seven (λ server. load_by (tally_of run server)) ≡ loads_of run
loads_are run = refl
