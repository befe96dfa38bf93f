-- The scan for the end of a string, against the grammar.
use Rattle.std.proofs.Common.{◌≡◌, ◌≢◌, ◌==◌, ◌⊎◌, ℕ, suc, ◌+◌, Bool, true, false, not, ◌&&◌, ◌||◌, cond, Some, None, List, [], ◌∷◌, ◌++◌, length, refl, ap, sym, ◌∙◌, inl, inr, arith}
use Rattle.std.proofs.lemmas.Bool.{eq-eqb, eqb-true}
use Rattle.std.proofs.lemmas.Bool.Decides.{eqb_tells}
use Rattle.rws_token.specs.Ends.{begins_with, escapes_next, enclosed_end, comment_end}
use Rattle.rws_token.specs.Grammar.{IsInside, nothing, plain, doubled, escaped, EndsByGrammar, IsComment, closing, further, CommentsEndByGrammar}

differs : (a b : ℕ) → a ≢ b → (a == b) ≡ false
differs a b ne = elim (eqb_tells a b) [ inl same ↦ absurd (ne same.1) | inr other ↦ other.0 ]

-- One byte of the scan: it stays inside with the next one, it ends, or it goes on.
scan_pair : (quote passed b c : ℕ) (bs : List ℕ) → escapes_next quote b (c ∷ bs) ≡ true → enclosed_end quote false passed (b ∷ c ∷ bs) ≡ enclosed_end quote false (passed + 1 + 1) bs
scan_pair quote passed b c bs escapes =
    ap (λ e. cond e (enclosed_end quote false (passed + 1 + 1) bs) (cond (b == quote) (Some (passed + 1)) (enclosed_end quote false (passed + 1) (c ∷ bs)))) escapes

scan_end : (quote passed b : ℕ) (bs : List ℕ) → escapes_next quote b bs ≡ false → (b == quote) ≡ true → enclosed_end quote false passed (b ∷ bs) ≡ Some (passed + 1)
scan_end quote passed b bs stays ends =
    ap (λ e. cond e (enclosed_end quote true (passed + 1) bs) (cond (b == quote) (Some (passed + 1)) (enclosed_end quote false (passed + 1) bs))) stays ∙ ap (λ e. cond e (Some (passed + 1)) (enclosed_end quote false (passed + 1) bs)) ends

scan_on : (quote passed b : ℕ) (bs : List ℕ) → escapes_next quote b bs ≡ false → (b == quote) ≡ false → enclosed_end quote false passed (b ∷ bs) ≡ enclosed_end quote false (passed + 1) bs
scan_on quote passed b bs stays ends =
    ap (λ e. cond e (enclosed_end quote true (passed + 1) bs) (cond (b == quote) (Some (passed + 1)) (enclosed_end quote false (passed + 1) bs))) stays ∙ ap (λ e. cond e (Some (passed + 1)) (enclosed_end quote false (passed + 1) bs)) ends

-- the tests of the scan, by cases on what the byte is
plain_stays : (quote b : ℕ) (bs : List ℕ) → b ≢ quote → (b ≡ 92 → quote ≡ 96) → escapes_next quote b bs ≡ false
plain_stays quote b bs other no_escape =
    elim (eqb_tells b 92) [
      | inl is_backslash ↦ let quoted = eq-eqb quote 96 (no_escape is_backslash.1) in let no_quote = differs b quote other in cc_false quote b bs is_backslash.0 quoted no_quote
      | inr no_backslash ↦ let no_quote = differs b quote other in cc_other quote b bs no_backslash.0 no_quote
    ]
  where
    cc_false : (quote b : ℕ) (bs : List ℕ) → (b == 92) ≡ true → (quote == 96) ≡ true → (b == quote) ≡ false → escapes_next quote b bs ≡ false
    cc_false quote b bs back quoted no_quote =
        ap (λ x. (x && not (quote == 96)) || (b == quote && begins_with quote bs)) back ∙ ap (λ x. not x || (b == quote && begins_with quote bs)) quoted ∙ ap (λ x. x && begins_with quote bs) no_quote

    cc_other : (quote b : ℕ) (bs : List ℕ) → (b == 92) ≡ false → (b == quote) ≡ false → escapes_next quote b bs ≡ false
    cc_other quote b bs no_back no_quote =
        ap (λ x. (x && not (quote == 96)) || (b == quote && begins_with quote bs)) no_back ∙ ap (λ x. x && begins_with quote bs) no_quote

quote_escapes : (quote : ℕ) (bs : List ℕ) (again : Bool) → quote ≢ 92 → begins_with quote bs ≡ again → escapes_next quote quote bs ≡ again
quote_escapes quote bs again no_backslash begins =
    ap (λ x. (x && not (quote == 96)) || (quote == quote && begins_with quote bs)) (differs quote 92 no_backslash) ∙ ap (λ x. x && begins_with quote bs) (eq-eqb quote quote refl) ∙ begins

backslash_escapes : (quote : ℕ) (bs : List ℕ) → quote ≢ 96 → escapes_next quote 92 bs ≡ true
backslash_escapes quote bs no_name = ap (λ x. not x || (92 == quote && begins_with quote bs)) (differs quote 96 no_name)

-- what the grammar has, the scan finds
complete : {quote : ℕ} {inside : List ℕ} → IsInside quote inside → quote ≢ 92 → (rest : List ℕ) → begins_with quote rest ≡ false → (passed : ℕ) → enclosed_end quote false passed (inside ++ quote ∷ rest) ≡ Some (passed + (length inside + 1))
complete {quote} nothing no_backslash rest ends passed =
    let same : passed + 1 ≡ passed + (0 + 1) = omega arith in
    scan_end quote passed quote rest (quote_escapes quote rest false no_backslash ends) (eq-eqb quote quote refl) ∙ ap Some same
complete {quote} (plain {b} {bs} other no_escape inside) no_backslash rest ends passed =
    let same : passed + 1 + (length bs + 1) ≡ passed + (length (b ∷ bs) + 1) = omega arith in
    scan_on quote passed b (bs ++ quote ∷ rest) (plain_stays quote b (bs ++ quote ∷ rest) other no_escape) (differs b quote other) ∙ complete inside no_backslash rest ends (passed + 1) ∙ ap Some same
complete {quote} (doubled {bs} inside) no_backslash rest ends passed =
    let same : passed + 1 + 1 + (length bs + 1) ≡ passed + (length (quote ∷ quote ∷ bs) + 1) = omega arith in
    scan_pair quote passed quote quote (bs ++ quote ∷ rest) (quote_escapes quote (quote ∷ (bs ++ quote ∷ rest)) true no_backslash (eq-eqb quote quote refl)) ∙ complete inside no_backslash rest ends (passed + 1 + 1) ∙ ap Some same
complete {quote} (escaped {b} {bs} no_name inside) no_backslash rest ends passed =
    let same : passed + 1 + 1 + (length bs + 1) ≡ passed + (length (92 ∷ b ∷ bs) + 1) = omega arith in
    scan_pair quote passed 92 b (bs ++ quote ∷ rest) (backslash_escapes quote (b ∷ (bs ++ quote ∷ rest)) no_name) ∙ complete inside no_backslash rest ends (passed + 1 + 1) ∙ ap Some same

or_true : (a b : Bool) → (a || b) ≡ true → (a ≡ true) ⊎ (b ≡ true)
or_true true b h = inl refl
or_true false b h = inr h

or_false : (a b : Bool) → (a || b) ≡ false → (a ≡ false) × (b ≡ false)
or_false true b h = cc
or_false false b h = (refl, h)

and_true : (a b : Bool) → (a && b) ≡ true → (a ≡ true) × (b ≡ true)
and_true true b h = (refl, h)
and_true false b h = cc

not_true : (a : Bool) → not a ≡ true → a ≡ false
not_true true h = cc
not_true false h = refl

unequal : (a b : ℕ) → (a == b) ≡ false → a ≢ b
unequal a b h = λ same. let t : (a == b) ≡ true = eq-eqb a b same in cc

-- a byte that neither ends nor escapes
is_plain : (quote b : ℕ) (bs : List ℕ) → escapes_next quote b bs ≡ false → b ≡ 92 → quote ≡ 96
is_plain quote b bs stays is_backslash =
    let first = (or_false (b == 92 && not (quote == 96)) _ stays).0 in
    let back = eq-eqb b 92 is_backslash in
    let quoted : not (quote == 96) ≡ false = sym (ap (λ x. x && not (quote == 96)) back) ∙ first in
    eqb-true quote 96 (flip (quote == 96) quoted)
  where
    flip : (a : Bool) → not a ≡ false → a ≡ true
    flip true h = refl
    flip false h = cc

-- an end that the scan found, of bytes from a place on
record Found (quote : ℕ) (bs : List ℕ) (passed n : ℕ) : Type 0 where
  pub inside : List ℕ
  pub rest : List ℕ
  pub whole : bs ≡ inside ++ quote ∷ rest
  pub is_inside : IsInside quote inside
  pub ends : begins_with quote rest ≡ false
  pub size : n ≡ passed + (length inside + 1)

some_same : (m n : ℕ) → Some m ≡ Some n → n ≡ m
some_same m n h = cc

-- the quote itself
found_here : (quote passed n b : ℕ) (bs : List ℕ) → escapes_next quote b bs ≡ false → (b == quote) ≡ true → Some (passed + 1) ≡ Some n → Found quote (b ∷ bs) passed n
found_here quote passed n b bs stays is_quote found =
    let is_b = eqb-true b quote is_quote in
    record {
      inside = [];
      rest = bs;
      whole = ap (λ x. x ∷ bs) is_b;
      is_inside = nothing;
      ends = sym (ap (λ x. x && begins_with quote bs) is_quote) ∙ (or_false _ (b == quote && begins_with quote bs) stays).1;
      size = omega (arith, some_same (passed + 1) n found);
    }

-- the next byte stays inside
found_pair : (quote passed n b c : ℕ) (bs : List ℕ) → escapes_next quote b (c ∷ bs) ≡ true → Found quote bs (passed + 1 + 1) n → Found quote (b ∷ c ∷ bs) passed n
found_pair quote passed n b c bs escapes f =
    elim (or_true (b == 92 && not (quote == 96)) (b == quote && (c == quote)) escapes) [
      | inl back ↦
          let parts = and_true (b == 92) (not (quote == 96)) back in
          let is_b = eqb-true b 92 parts.0 in
          record {
            inside = 92 ∷ c ∷ f.inside;
            rest = f.rest;
            whole = λ i. is_b i ∷ c ∷ f.whole i;
            is_inside = escaped (unequal quote 96 (not_true (quote == 96) parts.1)) f.is_inside;
            ends = f.ends;
            size = f.size ∙ counted passed (length f.inside);
          }
      | inr two ↦
          let parts = and_true (b == quote) (c == quote) two in
          let is_b = eqb-true b quote parts.0 in
          let is_c = eqb-true c quote parts.1 in
          record {
            inside = quote ∷ quote ∷ f.inside;
            rest = f.rest;
            whole = λ i. is_b i ∷ is_c i ∷ f.whole i;
            is_inside = doubled f.is_inside;
            ends = f.ends;
            size = f.size ∙ counted passed (length f.inside);
          }
    ]
  where
    counted : (p m : ℕ) → p + 1 + 1 + (m + 1) ≡ p + (suc (suc m) + 1)
    counted p m = omega arith

-- a byte that the scan passes
found_on : (quote passed n b : ℕ) (bs : List ℕ) → escapes_next quote b bs ≡ false → (b == quote) ≡ false → Found quote bs (passed + 1) n → Found quote (b ∷ bs) passed n
found_on quote passed n b bs stays other f =
    record {
      inside = b ∷ f.inside;
      rest = f.rest;
      whole = ap (λ xs. b ∷ xs) f.whole;
      is_inside = plain (unequal b quote other) (is_plain quote b bs stays) f.is_inside;
      ends = f.ends;
      size = f.size ∙ counted passed (length f.inside);
    }
  where
    counted : (p m : ℕ) → p + 1 + (m + 1) ≡ p + (suc m + 1)
    counted p m = omega arith

by_tests : (quote passed n b c : ℕ) (bs : List ℕ) (e q : Bool) → escapes_next quote b (c ∷ bs) ≡ e → (b == quote) ≡ q → enclosed_end quote false passed (b ∷ c ∷ bs) ≡ Some n → (enclosed_end quote false (passed + 1 + 1) bs ≡ Some n → Found quote bs (passed + 1 + 1) n) → (enclosed_end quote false (passed + 1) (c ∷ bs) ≡ Some n → Found quote (c ∷ bs) (passed + 1) n) → Found quote (b ∷ c ∷ bs) passed n
by_tests quote passed n b c bs true q is_e is_q found two one =
    found_pair quote passed n b c bs is_e (two (sym (scan_pair quote passed b c bs is_e) ∙ found))
by_tests quote passed n b c bs false true is_e is_q found two one =
    found_here quote passed n b (c ∷ bs) is_e is_q (sym (scan_end quote passed b (c ∷ bs) is_e is_q) ∙ found)
by_tests quote passed n b c bs false false is_e is_q found two one =
    found_on quote passed n b (c ∷ bs) is_e is_q (one (sym (scan_on quote passed b (c ∷ bs) is_e is_q) ∙ found))

by_last : (quote passed n b : ℕ) (q : Bool) → (e : Bool) → escapes_next quote b [] ≡ e → (b == quote) ≡ q → enclosed_end quote false passed (b ∷ []) ≡ Some n → Found quote (b ∷ []) passed n
by_last quote passed n b q true is_e is_q found =
    let none : None ≡ Some n = sym (ap (λ e. cond e None (cond (b == quote) (Some (passed + 1)) None)) is_e) ∙ found in absurd cc
by_last quote passed n b true false is_e is_q found =
    found_here quote passed n b [] is_e is_q (sym (scan_end quote passed b [] is_e is_q) ∙ found)
by_last quote passed n b false false is_e is_q found =
    let none : None ≡ Some n = sym (scan_on quote passed b [] is_e is_q) ∙ found in absurd cc

-- what the scan finds, the grammar has
sound : (quote passed n : ℕ) (bs : List ℕ) → enclosed_end quote false passed bs ≡ Some n → Found quote bs passed n
sound quote passed n [] found = absurd cc
sound quote passed n (b ∷ []) found = by_last quote passed n b (b == quote) (escapes_next quote b []) refl refl found
sound quote passed n (b ∷ c ∷ bs) found =
    by_tests quote passed n b c bs (escapes_next quote b (c ∷ bs)) (b == quote) refl refl found (sound quote (passed + 1 + 1) n bs) (sound quote (passed + 1) n (c ∷ bs))

pub ends_by_grammar : EndsByGrammar
ends_by_grammar quote bs n no_backslash = (
  λ found.
      let f = sound quote 0 n bs found in
      record { inside = f.inside; rest = f.rest; whole = f.whole; is_inside = f.is_inside; ends = f.ends; size = omega (arith, f.size) },
  λ e.
      let size : 0 + (length e.inside + 1) ≡ n = omega (arith, e.size) in
      ap (enclosed_end quote false 0) e.whole ∙ complete e.is_inside no_backslash e.rest e.ends 0 ∙ ap Some size,
)

-- a comment isn't empty, so its rest doesn't change how it begins
begins_with-append : (a : ℕ) (bs rest : List ℕ) → IsComment bs → begins_with a (bs ++ rest) ≡ begins_with a bs
begins_with-append a [] rest h = elim h [ ]
begins_with-append a (b ∷ bs) rest h = refl

comment_complete : {comment : List ℕ} → IsComment comment → (rest : List ℕ) (passed : ℕ) → comment_end passed (comment ++ rest) ≡ Some (passed + length comment)
comment_complete closing rest passed = refl
comment_complete (further {b} {bs} stays inside) rest passed =
    let same : passed + 1 + length bs ≡ passed + length (b ∷ bs) = omega arith in
    let begins = begins_with-append 47 bs rest inside in
    ap (λ t. cond t (Some (passed + 2)) (comment_end (passed + 1) (bs ++ rest))) (ap (λ t. b == 42 && t) begins ∙ stays) ∙ comment_complete inside rest (passed + 1) ∙ ap Some same

record FoundComment (bs : List ℕ) (passed n : ℕ) : Type 0 where
  pub comment : List ℕ
  pub rest : List ℕ
  pub whole : bs ≡ comment ++ rest
  pub is_comment : IsComment comment
  pub size : n ≡ passed + length comment

comment_here : (passed n b : ℕ) (bs : List ℕ) → (b == 42 && begins_with 47 bs) ≡ true → Some (passed + 2) ≡ Some n → FoundComment (b ∷ bs) passed n
comment_here passed n b [] ends found = absurd (let h = (and_true (b == 42) false ends).1 in cc)
comment_here passed n b (c ∷ bs) ends found =
    let parts = and_true (b == 42) (c == 47) ends in
    let is_b = eqb-true b 42 parts.0 in
    let is_c = eqb-true c 47 parts.1 in
    record {
      comment = 42 ∷ 47 ∷ [];
      rest = bs;
      whole = λ i. is_b i ∷ is_c i ∷ bs;
      is_comment = closing;
      size = some_same (passed + 2) n found;
    }

comment_on : (passed n b : ℕ) (bs : List ℕ) → (b == 42 && begins_with 47 bs) ≡ false → FoundComment bs (passed + 1) n → FoundComment (b ∷ bs) passed n
comment_on passed n b bs stays f =
    record {
      comment = b ∷ f.comment;
      rest = f.rest;
      whole = ap (λ xs. b ∷ xs) f.whole;
      is_comment = further (ap (λ t. b == 42 && t) (sym (begins_with-append 47 f.comment f.rest f.is_comment) ∙ sym (ap (begins_with 47) f.whole)) ∙ stays) f.is_comment;
      size = f.size ∙ counted passed (length f.comment);
    }
  where
    counted : (p m : ℕ) → p + 1 + m ≡ p + suc m
    counted p m = omega arith

by_comment_test : (passed n b : ℕ) (bs : List ℕ) (t : Bool) → (b == 42 && begins_with 47 bs) ≡ t → comment_end passed (b ∷ bs) ≡ Some n → (comment_end (passed + 1) bs ≡ Some n → FoundComment bs (passed + 1) n) → FoundComment (b ∷ bs) passed n
by_comment_test passed n b bs true is_t found rest =
    comment_here passed n b bs is_t (sym (ap (λ t. cond t (Some (passed + 2)) (comment_end (passed + 1) bs)) is_t) ∙ found)
by_comment_test passed n b bs false is_t found rest =
    comment_on passed n b bs is_t (rest (sym (ap (λ t. cond t (Some (passed + 2)) (comment_end (passed + 1) bs)) is_t) ∙ found))

comment_sound : (passed n : ℕ) (bs : List ℕ) → comment_end passed bs ≡ Some n → FoundComment bs passed n
comment_sound passed n [] found = absurd cc
comment_sound passed n (b ∷ bs) found =
    by_comment_test passed n b bs (b == 42 && begins_with 47 bs) refl found (comment_sound (passed + 1) n bs)

pub comments_end_by_grammar : CommentsEndByGrammar
comments_end_by_grammar bs n = (
  λ found.
      let f = comment_sound 0 n bs found in
      record { comment = f.comment; rest = f.rest; whole = f.whole; is_comment = f.is_comment; size = omega (arith, f.size) },
  λ e.
      let size : 0 + length e.comment ≡ n = omega (arith, e.size) in
      ap (comment_end 0) e.whole ∙ comment_complete e.is_comment e.rest 0 ∙ ap Some size,
)
