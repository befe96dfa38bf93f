-- A list of entries that is read one after the other, with the first entry of the domain among those read so far.
use Rattle.std.proofs.Common.{◌≡◌, ◌==◌, ℕ, ◌+◌, Bool, true, false, cond, List, [], ◌∷◌, length, refl, sym, ap, ◌∙◌, arith, Option, Some, None, Result, Ok, Err}
use Rattle.std.specs.List.{slice_split}
use Rattle.std.specs.Bool.{then_some}
use Rattle.std.specs.Option.{option_or}
use Rattle.rws_wire.specs.Reading.{◌>>=◌}
use Rattle.rws_gtid.specs.declared.Gtid.{Gtid}
use Rattle.rws_gtid.specs.declared.GtidFault.{GtidFault}
use Rattle.rws_gtid.specs.Parsing.{gtid_at, entries_at, gtids_of, position_in, entry_of, CutsAtComma}

abbrev entries_in : ℕ → List ℕ → Result (List Gtid) GtidFault
entries_in at list = entries_at at (slice_split (λ c. c == 44) list)

-- what the whole list gives, from the entry found so far and the reading of the rest
abbrev pub with_found : Option Gtid → ℕ → Result (List Gtid) GtidFault → Result (Option Gtid) GtidFault
with_found found domain read = read >>= (λ gtids. Ok (option_or found (entry_of domain gtids)))

pub record IsLeft (list : List ℕ) (domain : ℕ) (found : Option Gtid) (at : ℕ) (rest : List ℕ) : Type 0 where
  pub whole : with_found found domain (entries_at at (slice_split (λ c. c == 44) rest)) ≡ position_in domain list
  pub place : at + length rest ≡ length list

pub all_left : (list : List ℕ) (domain : ℕ) → (length list == 0) ≡ false → IsLeft list domain None 0 list
unfolding gtids_of position_in
all_left list domain e = record { whole = rw e refl; place = omega arith }

-- the entry found before, or else this one where it is of the domain
pub found_by : (found one now : Option Gtid) (domain : ℕ) (gtid : Gtid) → now ≡ option_or found one → one ≡ then_some (gtid.domain == domain) gtid → now ≡ option_or found (entry_of domain (gtid ∷ []))
found_by found one now domain gtid e f = e ∙ ap (option_or found) (f ∙ by (gtid.domain == domain))
  where
    by : (test : Bool) → then_some test gtid ≡ cond test (Some gtid) None
    by true = refl
    by false = refl

first-cons : (found : Option Gtid) (domain : ℕ) (gtid : Gtid) (gtids : List Gtid) → option_or found (entry_of domain (gtid ∷ gtids)) ≡ option_or (option_or found (entry_of domain (gtid ∷ []))) (entry_of domain gtids)
first-cons (Some f) domain gtid gtids = refl
first-cons None domain gtid gtids = first_by (gtid.domain == domain) gtid (entry_of domain gtids)
  where
    first_by : (test : Bool) (gtid : Gtid) (others : Option Gtid) → cond test (Some gtid) others ≡ option_or (cond test (Some gtid) None) others
    first_by true gtid others = refl
    first_by false gtid others = refl

module _ (list : List ℕ) (domain : ℕ) (found : Option Gtid) (at : ℕ) (rest entry : List ℕ) (left : IsLeft list domain found at rest) where
  pub fault_stays : (fault : GtidFault) (behind : Option (List ℕ)) → CutsAtComma rest entry behind → gtid_at (at, entry) ≡ Err fault → position_in domain list ≡ Err fault
  unfolding entries_at
  fault_stays fault None cuts e = sym left.whole ∙ rw (cuts, e) refl
  fault_stays fault (Some others) cuts e = sym left.whole ∙ rw (cuts.0, e) refl

  pub last_found : (gtid : Gtid) → CutsAtComma rest entry None → gtid_at (at, entry) ≡ Ok gtid → position_in domain list ≡ Ok (option_or found (entry_of domain (gtid ∷ [])))
  unfolding entries_at
  last_found gtid cuts e = sym left.whole ∙ rw (cuts, e) refl

  with_one : (gtid : Gtid) (read : Result (List Gtid) GtidFault) → with_found found domain (read >>= (λ others. Ok (gtid ∷ others))) ≡ with_found (option_or found (entry_of domain (gtid ∷ []))) domain read
  with_one gtid (Ok others) = ap (λ (o : Option Gtid). Ok o) (first-cons found domain gtid others)
  with_one gtid (Err e) = refl

  pub others_left : (gtid : Gtid) (others : List ℕ) → CutsAtComma rest entry (Some others) → gtid_at (at, entry) ≡ Ok gtid → IsLeft list domain (option_or found (entry_of domain (gtid ∷ []))) (at + length entry + 1) others
  unfolding entries_at
  others_left gtid others cuts e = record {
    whole = sym (with_one gtid (entries_at (at + length entry + 1) (slice_split (λ c. c == 44) others))) ∙ whole_before ∙ left.whole;
    place = omega (arith, left.place, cuts.1);
  }
    where
      whole_before : with_found found domain (entries_at (at + length entry + 1) (slice_split (λ c. c == 44) others) >>= (λ gtids. Ok (gtid ∷ gtids))) ≡ with_found found domain (entries_at at (slice_split (λ c. c == 44) rest))
      whole_before = rw (cuts.0, e) refl
