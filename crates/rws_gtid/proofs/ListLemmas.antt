-- A list of GTIDs that is read is spelled by its entries, and a list that is spelled so is read.
use Rattle.std.proofs.Common.{◌≡◌, ℕ, ◌+◌, ◌^◌, ◌<◌, false, List, [], ◌∷◌, ◌++◌, length, map, length-append, refl, sym, ap, ◌∙◌, subst, arith, Option, Result, Ok, Err, IfOk}
use Rattle.std.specs.List.{All, AllByRecursion, join_with_byte, slice_split}
use Rattle.std.specs.Char.{digit_value}
use Rattle.std.specs.Str.Parse.{AllDigits}
use Rattle.std.specs.Fmt.{decimal}
use Rattle.std.proofs.lemmas.Fmt.{decimal_is_IsNumeral}
use Rattle.std.proofs.lemmas.Str.Parse.{digit_from_value}
use Rattle.std.proofs.lemmas.Bool.Decides.{nat_tests}
use Rattle.std.proofs.lemmas.List.Elements.{All-append, All-cons, All-from_recursion}
use Rattle.std.proofs.lemmas.List.Splits.{join_with_byte-slice_split, slice_split_none, slice_split_at}
use Rattle.rws_wire.specs.Reading.{◌>>=◌}
use Rattle.rws_gtid.specs.declared.Gtid.{Gtid}
use Rattle.rws_gtid.specs.declared.GtidFault.{GtidFault}
use Rattle.rws_gtid.specs.Spelling.{AreInRange, IsInRange, gtid_text, list_text}
use Rattle.rws_gtid.specs.Parsing.{entries_at, gtids_of, position_in, entry_of}
use Rattle.rws_wire.proofs.ReadingLemmas.{bind_ok, done, ok_is}
use Rattle.rws_gtid.proofs.SpellingLemmas.{gtid_takes, gtid_again, not_zero}
use Rattle.rws_gtid.proofs.CommaLemmas.{is_comma}

-- ---- what is read is spelled so

-- the entries are the texts of these GTIDs
abbrev Spells : List (List ℕ) → List Gtid → Type 0
Spells entries gtids = AreInRange gtids × (entries ≡ map gtid_text gtids)

entries_spelled : (entries : List (List ℕ)) (at : ℕ) (gtids : List Gtid) → entries_at at entries ≡ Ok gtids → Spells entries gtids
unfolding entries_at
entries_spelled [] at gtids e = subst (Spells []) (ok_is [] gtids e) (tt, refl)
entries_spelled (entry ∷ entries) at gtids e =
    let one = bind_ok _ _ gtids e in
    let others = bind_ok _ _ gtids one.2 in
    let first = gtid_takes (at, entry) one.0 one.1 in
    let rest = entries_spelled entries _ others.0 others.1 in
    subst (Spells (entry ∷ entries)) (ok_is (one.0 ∷ others.0) gtids others.2)
    ((first.0, rest.0), ap (λ (t : List ℕ). t ∷ entries) first.1 ∙ ap (λ (ts : List (List ℕ)). gtid_text one.0 ∷ ts) rest.1)

parted : (b : ℕ) (bs : List ℕ) → gtids_of (b ∷ bs) ≡ entries_at 0 (slice_split is_comma (b ∷ bs))
unfolding gtids_of
parted b bs = rw (not_zero (length (b ∷ bs)) (omega arith)) refl

-- the list is the text of these GTIDs
abbrev ListSpells : List ℕ → List Gtid → Type 0
ListSpells list gtids = AreInRange gtids × (list ≡ list_text gtids)

list_spelled : (list : List ℕ) (gtids : List Gtid) → gtids_of list ≡ Ok gtids → ListSpells list gtids
unfolding gtids_of
list_spelled [] gtids e = subst (ListSpells []) (ok_is [] gtids e) (tt, refl)
list_spelled (b ∷ bs) gtids e =
    let entries = entries_spelled (slice_split is_comma (b ∷ bs)) 0 gtids (sym (parted b bs) ∙ e) in
    (entries.0, sym (join_with_byte-slice_split 44 (b ∷ bs)) ∙ ap (join_with_byte 44) entries.1)

pub position_spelled : (domain : ℕ) (list : List ℕ) (r : Result (Option Gtid) GtidFault) → r ≡ position_in domain list → IfOk r (λ found. (gtids : List Gtid) × AreInRange gtids × (list ≡ list_text gtids) × (found ≡ entry_of domain gtids))
unfolding position_in
position_spelled domain list (Err fault) e = tt
position_spelled domain list (Ok found) e =
    let read = bind_ok (gtids_of list) _ found (sym e) in
    let spelled = list_spelled list read.0 read.1 in
    (read.0, spelled.0, spelled.1, ok_is found _ (sym read.2))

-- ---- what is spelled so is read

abbrev NoComma : ℕ → Type 0
NoComma b = is_comma b ≡ false

digits_have_none : (ds : List ℕ) → AllDigits 10 ds → AllByRecursion NoComma ds
digits_have_none [] all = tt
digits_have_none (d ∷ ds) all = (is_none d all.0, digits_have_none ds all.1)
  where
    is_none : (c : ℕ) → digit_value c < 10 → NoComma c
    is_none c h = let range = digit_from_value c h in grind (arith, nat_tests)

number_has_none : (n : ℕ) → n < 2 ^ 64 → All NoComma (decimal n)
number_has_none n fits =
    All-from_recursion NoComma (decimal n) (digits_have_none (decimal n) (decimal_is_IsNumeral n fits).0.1)

dash_has_none : (text : List ℕ) → All NoComma text → All NoComma (45 ∷ text)
dash_has_none text none = All-cons NoComma 45 text refl none

gtid_has_none : (gtid : Gtid) → IsInRange gtid → All NoComma (gtid_text gtid)
gtid_has_none gtid fits =
    All-append NoComma (decimal gtid.domain) _ (number_has_none gtid.domain (omega (arith, fits.domain)))
    (dash_has_none _ (All-append NoComma (decimal gtid.server) _ (number_has_none gtid.server (omega (arith, fits.server)))
    (dash_has_none _ (number_has_none gtid.sequence fits.sequence))))

-- the texts of a list that isn't empty are the parts of its text
parts_again : (gtid : Gtid) (gtids : List Gtid) → AreInRange (gtid ∷ gtids) → slice_split is_comma (list_text (gtid ∷ gtids)) ≡ map gtid_text (gtid ∷ gtids)
parts_again gtid [] fit = slice_split_none is_comma (gtid_text gtid) (gtid_has_none gtid fit.0)
parts_again gtid (next ∷ gtids) fit =
    slice_split_at is_comma (gtid_text gtid) 44 (list_text (next ∷ gtids)) (gtid_has_none gtid fit.0) refl
    ∙ ap (λ (ts : List (List ℕ)). gtid_text gtid ∷ ts) (parts_again next gtids fit.1)

entries_again : (at : ℕ) (gtids : List Gtid) → AreInRange gtids → entries_at at (map gtid_text gtids) ≡ Ok gtids
unfolding entries_at
entries_again at [] fit = refl
entries_again at (gtid ∷ gtids) fit =
    let behind = entries_again (at + length (gtid_text gtid) + 1) gtids fit.1 in
    rw (gtid_again at gtid fit.0) (ap (λ (read : Result (List Gtid) GtidFault). read >>= (λ others. done (gtid ∷ others))) behind)

abbrev first_part : List (List ℕ) → List ℕ
first_part [] = []
first_part (part ∷ parts) = part

read_in_parts : (list : List ℕ) (gtid : Gtid) (gtids : List Gtid) → slice_split is_comma list ≡ map gtid_text (gtid ∷ gtids) → AreInRange (gtid ∷ gtids) → gtids_of list ≡ Ok (gtid ∷ gtids)
unfolding gtids_of
read_in_parts [] gtid gtids e fit =
    let empty = ap length (ap first_part e) in
    absurd (omega (arith, empty, length-append (decimal gtid.domain) (45 ∷ (decimal gtid.server ++ (45 ∷ decimal gtid.sequence)))))
read_in_parts (b ∷ bs) gtid gtids e fit = parted b bs ∙ ap (entries_at 0) e ∙ entries_again 0 (gtid ∷ gtids) fit

list_again : (gtids : List Gtid) → AreInRange gtids → gtids_of (list_text gtids) ≡ Ok gtids
unfolding gtids_of
list_again [] fit = refl
list_again (gtid ∷ gtids) fit = read_in_parts (list_text (gtid ∷ gtids)) gtid gtids (parts_again gtid gtids fit) fit

pub position_again : (domain : ℕ) (gtids : List Gtid) → AreInRange gtids → position_in domain (list_text gtids) ≡ Ok (entry_of domain gtids)
unfolding position_in
position_again domain gtids fit = rw (list_again gtids fit) refl
