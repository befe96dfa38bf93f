-- What holds of every round.
use Rattle.std.proofs.Common.{◌≡◌, ◌⊎◌, ◌<◌, ℕ, zero, suc, ◌∷◌, [], Bool, true, false, true≢false, cond, ◌&&◌, List, Option, Some, None, map, length, refl, sym, ap, ◌∙◌, subst, inl, inr, IsTrue, arith}
use Rattle.std.specs.Prelude.{slice_index_or}
use Rattle.std.specs.List.{range_with_len}
use Rattle.std.specs.Option.{option_map}
use Rattle.std.specs.List.{position}
use Rattle.std.proofs.lemmas.Bool.{eqb-true, eq-eqb}
use Rattle.std.proofs.lemmas.List.Quantifiers.{position-Some}
use Rattle.std.proofs.lemmas.List.FromFn.{get_or-map-range_with_len, length-map-range_with_len}
use Rattle.rws_pool.specs.declared.words.State.TheVariants as state
use Rattle.rws_pool.specs.declared.words.Seen.{Seen}
use Rattle.rws_monitor.specs.declared.probe.Probe.{Probe}
use Rattle.rws_monitor.specs.declared.probe.Probe.TheVariants.{Down, Found}
use Rattle.rws_monitor.specs.declared.probe.Source.{Source}
use Rattle.rws_monitor.specs.Rounds.{is_in, counted_at, counted, is_root, is_root_at, leads, primary_of, follows, role, is_at, seen_in, seen_at, states_with}
use Rattle.rws_monitor.specs.Shown.{shown, IsMaster, IsOutOfService, Tells, ArePositionsProbed}

-- a server that is shown has an index
within : {A : Type 0} → (xs : List (Option A)) (i : ℕ) (x : A) → slice_index_or xs i None ≡ Some x → i < length xs
within [] i x is = absurd (cc)
within (y ∷ ys) zero x is = omega arith
within (y ∷ ys) (suc i) x is = let w = within ys i x is in omega (arith, w)

is_at_same : (primary : Option ℕ) (server : ℕ) → is_at primary server ≡ true → primary ≡ Some server
is_at_same None server is = absurd (true≢false (sym is))
is_at_same (Some primary) server is = ap Some (eqb-true primary server is)

-- only the primary's role is Master
master_role : (is_primary : Bool) (kept : ℕ) (source : Option Source) → role is_primary kept source ≡ state.Master → is_primary ≡ true
master_role true kept source is = refl
master_role false kept source is = go (follows kept source) is
  where
    go : (b : Bool) → cond b state.Slave state.Running ≡ state.Master → false ≡ true
    go true e = absurd (cc)
    go false e = absurd (cc)

seen_master : (out is_primary : Bool) (kept : ℕ) (probe : Option Probe)
    → option_map (λ (seen : Seen). seen.state) (seen_in out is_primary kept probe) ≡ Some state.Master → is_primary ≡ true
seen_master true is_primary kept probe is = absurd (cc)
seen_master false is_primary kept None is = absurd (cc)
seen_master false is_primary kept (Some Down) is = absurd (cc)
seen_master false is_primary kept (Some (Found id position source)) is = let e : role is_primary kept source ≡ state.Master = cc in master_role is_primary kept source e

seen_position : (out is_primary : Bool) (kept : ℕ) (probe : Option Probe) (seen : Seen) → seen_in out is_primary kept probe ≡ Some seen → (seen.position ≡ 0) ⊎ Tells probe seen.position
seen_position true is_primary kept probe seen is = inl (cc)
seen_position false is_primary kept None seen is = absurd (cc)
seen_position false is_primary kept (Some Down) seen is = inl (cc)
seen_position false is_primary kept (Some (Found id position source)) seen is = inr (cc)

module _ (probes : List (Option Probe)) (maintenance : ℕ) (primary : Option ℕ) (kept : ℕ) where
  all : List (Option Seen)
  all = map (seen_at probes maintenance primary kept) (range_with_len 0 7)

  -- what is shown is what the rule says of the server
  shown_below : (server : ℕ) → server < 7 → shown (states_with probes maintenance primary kept) server ≡ seen_at probes maintenance primary kept server
  shown_below server below = get_or-map-range_with_len (seen_at probes maintenance primary kept) 0 7 server server None below (omega arith)

  is_shown : (server : ℕ) (seen : Seen) → shown (states_with probes maintenance primary kept) server ≡ Some seen → seen_at probes maintenance primary kept server ≡ Some seen
  is_shown server seen is =
      let long = within (map (seen_at probes maintenance primary kept) (range_with_len 0 7)) server seen is in
      sym (shown_below server (omega (arith, long, length-map-range_with_len (seen_at probes maintenance primary kept) 0 7))) ∙ is

  pub out_of_service : (server : ℕ) → server < 7 → IsTrue (is_in maintenance server) → IsOutOfService (states_with probes maintenance primary kept) server
  out_of_service server below out = shown_below server below ∙ ap (λ (b : Bool). seen_in b (is_at primary server) kept (slice_index_or probes server None)) out

  pub positions_probed : ArePositionsProbed probes (states_with probes maintenance primary kept)
  positions_probed server seen is = seen_position (is_in maintenance server) (is_at primary server) kept (slice_index_or probes server None) seen (is_shown server seen is)

  pub master_primary : (server : ℕ) → IsMaster (states_with probes maintenance primary kept) server → primary ≡ Some server
  master_primary server is = go (shown (states_with probes maintenance primary kept) server) refl is
    where
      go : (o : Option Seen) → shown (states_with probes maintenance primary kept) server ≡ o → option_map (λ (seen : Seen). seen.state) o ≡ Some state.Master → primary ≡ Some server
      go None e master = absurd (cc)
      go (Some seen) e master =
          let at = is_shown server seen e in
          is_at_same primary server (seen_master (is_in maintenance server) (is_at primary server) kept (slice_index_or probes server None) (ap (option_map (λ (seen : Seen). seen.state)) at ∙ master))

-- a primary is a root
primary_root : (probes : List (Option Probe)) (old : Option ℕ) (server : ℕ) → primary_of probes old ≡ Some server → is_root (slice_index_or probes server None) ≡ true
primary_root probes old server is = go (is_root_at probes old) refl is
  where
    left : (a b : Bool) → (a && b) ≡ true → a ≡ true
    left true b both = refl
    left false b both = cc

    go : (b : Bool) → is_root_at probes old ≡ b → cond b old (position (leads probes) probes) ≡ Some server → is_root (slice_index_or probes server None) ≡ true
    go true root same = subst (λ (o : Option ℕ). is_root_at probes o ≡ true) same root
    go false root found = left (is_root (slice_index_or probes server None)) _ (position-Some (leads probes) probes server None found).1

root_within : (probes : List (Option Probe)) (server : ℕ) → is_root (slice_index_or probes server None) ≡ true → server < length probes
root_within [] server root = absurd (cc)
root_within (probe ∷ probes) zero root = omega arith
root_within (probe ∷ probes) (suc server) root = let w = root_within probes server root in omega (arith, w)

root_shown : (kept : ℕ) (probe : Option Probe) → is_root probe ≡ true → option_map (λ (seen : Seen). seen.state) (seen_in false true kept probe) ≡ Some state.Master
root_shown kept None root = absurd (cc)
root_shown kept (Some Down) root = absurd (cc)
root_shown kept (Some (Found id position None)) root = refl
root_shown kept (Some (Found id position (Some source))) root = absurd (cc)

-- a root among the probes that count is shown as Master, where it is the primary
pub primary_master : (probes : List (Option Probe)) (maintenance : ℕ) (old primary : Option ℕ) (kept server : ℕ) → primary ≡ primary_of (counted probes maintenance) old → primary ≡ Some server
    → IsMaster (states_with probes maintenance primary kept) server
primary_master probes maintenance old primary kept server chosen is =
    let root = primary_root (counted probes maintenance) old server (sym chosen ∙ is) in
    let long = root_within (counted probes maintenance) server root in
    let below : server < 7 = omega (arith, long, length-map-range_with_len (counted_at probes maintenance) 0 7) in
    let counts = get_or-map-range_with_len (counted_at probes maintenance) 0 7 server server None below (omega arith) in
    ap (option_map (λ (seen : Seen). seen.state)) (shown_below probes maintenance primary kept server below)
    ∙ shows (is_in maintenance server) (ap is_root (sym counts) ∙ root)
  where
    shows : (out : Bool) → is_root (cond out None (slice_index_or probes server None)) ≡ true
        → option_map (λ (seen : Seen). seen.state) (seen_in out (is_at primary server) kept (slice_index_or probes server None)) ≡ Some state.Master
    shows true root = absurd (cc)
    shows false root =
        ap (λ (b : Bool). option_map (λ (seen : Seen). seen.state) (seen_in false b kept (slice_index_or probes server None)))
        (ap (λ (o : Option ℕ). is_at o server) is ∙ eq-eqb server server refl)
        ∙ root_shown kept (slice_index_or probes server None) root
