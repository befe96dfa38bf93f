-- What takes a tracker to its end is a whole reply of the grammar: each state goes on from what came before it.
use Rattle.std.proofs.Common.{◌≡◌, ◌==◌, ℕ, ◌+◌, ◌-◌, ◌<◌, Bool, true, false, cond, List, [], ◌∷◌, ◌++◌, length, refl, sym, ap, ◌∙◌, subst, append_assoc, Option, Some, None, arith, length-append, zero-add, append-nil}
use Rattle.std.specs.List.{AllByRecursion}
use Rattle.std.proofs.lemmas.Bool.Decides.{nat_tests}
use Rattle.rws_msgs.specs.OkLayout.{ok_status}
use Rattle.rws_msgs.specs.ErrLayout.{err_code}
use Rattle.rws_reply.specs.declared.kind.Kind.{Kind}
use Rattle.rws_reply.specs.declared.kind.Kind.TheVariants as kinds
use Rattle.rws_reply.specs.declared.awaits.Awaits.{Awaits}
use Rattle.rws_reply.specs.declared.awaits.Awaits.TheVariants.{Simple, Query, Definitions, Rows, Prepare, Parameters, Columns, FieldList, Fields}
use Rattle.rws_reply.specs.declared.awaits.Step.TheVariants.{Goes, Ends, Wrong}
use Rattle.rws_reply.specs.Payloads.{has_more_results, eof_status, column_count, is_definition, is_row, prepared_counts}
use Rattle.rws_reply.specs.Replies as replies
use Rattle.rws_reply.specs.declared.kind.Outcome.{Outcome}
use Rattle.rws_reply.specs.declared.kind.Outcome.TheVariants.{Done, Failed}
use Rattle.rws_reply.specs.Replies.{Payload, AreDefinitions, AreRows, IsHead, head, IsSimple, IsQuery, IsPart, IsPrepare, IsFieldList, IsReply}
use Rattle.rws_reply.specs.Machine.{next, given, behind_result, Ended, ended_with, proceed, run, to_columns, to_parameters}
use Rattle.rws_reply.specs.Machine as machine

all_push : (P : Payload → Type 0) (ps : List Payload) (p : Payload) → AllByRecursion P ps → P p → AllByRecursion P (ps ++ p ∷ [])
all_push P [] p all here = (here, tt)
all_push P (q ∷ ps) p all here = (all.0, all_push P ps p all.1 here)

is_zero : (n : ℕ) → (n == 0) ≡ true → n ≡ 0
is_zero n e = grind (arith, nat_tests)

is_more : (n : ℕ) → (n == 0) ≡ false → 0 < n
is_more n e = grind (arith, nat_tests)

-- a definition more, and one fewer to come
one_more : (before : List Payload) (p : Payload) (left : ℕ) → 0 < left → length before + left ≡ length (before ++ p ∷ []) + (left - 1)
one_more before p left more = omega (arith, length-append before (p ∷ []))

-- a part of n definitions and the EOF p
part : (n : ℕ) (before : List Payload) (p : Payload) (from to : ℕ) → n ≡ length before → 0 < n → AreDefinitions before → eof_status p ≡ Some to → IsPart n (before ++ p ∷ []) from to
part n before p from to same more all e =
    subst (λ (k : ℕ). IsPart k (before ++ p ∷ []) from to) (sym same) (replies.some before p (omega arith) all e)

no_part : (n status : ℕ) → n ≡ 0 → IsPart n [] status status
no_part n status e = subst (λ (k : ℕ). IsPart k [] status status) (sym e) replies.none

-- a reply that ends here
at_end : (P : List Payload → Outcome → Type 0) (last : Outcome) (ps : List Payload) (out : Outcome) → P [] last → ended_with last ps ≡ Ended out → P ps out
at_end P last [] out here e = subst (λ (o : Outcome). P [] o) (whole_is last out e) here
  where
    whole_is : (a b : Outcome) → Ended a ≡ Ended b → a ≡ b
    whole_is a b e = cc
at_end P last (p ∷ ps) out here e = absurd cc

-- what the rest completes
abbrev Made : Awaits → List Payload → Outcome → Type 0
Made Simple ps out = IsSimple ps out
Made Query ps out = IsQuery ps out
Made (Definitions left) ps out = (count : Payload) (before : List Payload) → column_count count ≡ Some (length before + left) → AreDefinitions before → IsQuery (count ∷ (before ++ ps)) out
Made Rows ps out = (front rs : List Payload) → IsHead front → AreRows rs → IsQuery (front ++ (rs ++ ps)) out
Made Prepare ps out = IsPrepare ps out
Made (Parameters left columns) ps out = (p : Payload) (before : List Payload) (counts : ℕ × ℕ) → prepared_counts p ≡ Some counts → counts.0 ≡ columns → counts.1 ≡ length before + left → 0 < counts.1 → AreDefinitions before → IsPrepare (p ∷ (before ++ ps)) out
Made (Columns left) ps out = (p : Payload) (parameters before : List Payload) (counts : ℕ × ℕ) (between : ℕ) → prepared_counts p ≡ Some counts → IsPart counts.1 parameters 2 between → counts.0 ≡ length before + left → 0 < counts.0 → AreDefinitions before → IsPrepare (p ∷ (parameters ++ (before ++ ps))) out
Made FieldList ps out = IsFieldList ps out
Made Fields ps out = (before : List Payload) → AreDefinitions before → IsFieldList (before ++ ps) out

module _ (p : Payload) (ps : List Payload) (out : Outcome) (others : (s : Awaits) → run ps s ≡ Ended out → Made s ps out) where
  simple_made : (o : Option ℕ) → ok_status true p ≡ o → (e : Option ℕ) → err_code p ≡ e → proceed (given o (λ status. Ends (Done status)) (given e (λ code. Ends (Failed code)) Wrong)) ps (run ps) ≡ Ended out → IsSimple (p ∷ ps) out
  simple_made (Some status) f e g h = at_end (λ ps out. IsSimple (p ∷ ps) out) (Done status) ps out (replies.ok f) h
  simple_made None f (Some code) g h = at_end (λ ps out. IsSimple (p ∷ ps) out) (Failed code) ps out (replies.err g) h
  simple_made None f None g h = absurd cc

  result_made : (status : ℕ) (more : Bool) → has_more_results status ≡ more → ok_status true p ≡ Some status → proceed (cond more (Goes Query) (Ends (Done status))) ps (run ps) ≡ Ended out → IsQuery (p ∷ ps) out
  result_made status true m f h = replies.ok_more f m (others Query h)
  result_made status false m f h = at_end (λ ps out. IsQuery (p ∷ ps) out) (Done status) ps out (replies.ok f m) h

  query_made : (o : Option ℕ) → ok_status true p ≡ o → (e : Option ℕ) → err_code p ≡ e → (c : Option ℕ) → column_count p ≡ c → proceed (given o behind_result (given e (λ code. Ends (Failed code)) (given c (λ count. Goes (Definitions count)) Wrong))) ps (run ps) ≡ Ended out → IsQuery (p ∷ ps) out
  query_made (Some status) f e g c i h = result_made status (has_more_results status) refl f h
  query_made None f (Some code) g c i h = at_end (λ ps out. IsQuery (p ∷ ps) out) (Failed code) ps out (replies.err g) h
  query_made None f None g (Some count) i h = others (Definitions count) h p [] (i ∙ ap (λ (n : ℕ). Some n) (sym (zero-add count))) tt
  query_made None f None g None i h = absurd cc

  rows_end_made : (status : ℕ) (more : Bool) → has_more_results status ≡ more → eof_status p ≡ Some status → proceed (cond more (Goes Query) (Ends (Done status))) ps (run ps) ≡ Ended out → (front rs : List Payload) → IsHead front → AreRows rs → IsQuery (front ++ (rs ++ (p ∷ ps))) out
  rows_end_made status true m f h front rs front_is all = replies.rows_more front rs p ps front_is all f m (others Query h)
  rows_end_made status false m f h front rs front_is all = at_end (λ ps out. IsQuery (front ++ (rs ++ (p ∷ ps))) out) (Done status) ps out (replies.rows front rs p front_is all f m) h

  rows_made : (o : Option ℕ) → eof_status p ≡ o → (e : Option ℕ) → err_code p ≡ e → (r : Bool) → is_row p ≡ r → proceed (given o behind_result (given e (λ code. Ends (Failed code)) (cond r (Goes Rows) Wrong))) ps (run ps) ≡ Ended out → (front rs : List Payload) → IsHead front → AreRows rs → IsQuery (front ++ (rs ++ (p ∷ ps))) out
  rows_made (Some status) f e g r i h front rs front_is all = rows_end_made status (has_more_results status) refl f h front rs front_is all
  rows_made None f (Some code) g r i h front rs front_is all = at_end (λ ps out. IsQuery (front ++ (rs ++ (p ∷ ps))) out) (Failed code) ps out (replies.rows_err front rs p front_is all g) h
  rows_made None f None g true i h front rs front_is all = rw (← append_assoc rs (p ∷ []) ps) (others Rows h front (rs ++ p ∷ []) front_is (all_push _ rs p all i))
  rows_made None f None g false i h front rs front_is all = absurd cc

  definitions_made : (left : ℕ) (test : Bool) → (left == 0) ≡ test → (e : Option ℕ) → eof_status p ≡ e → (d : Bool) → is_definition p ≡ d → proceed (cond test (given e (λ _. Goes Rows) Wrong) (cond d (Goes (Definitions (left - 1))) Wrong)) ps (run ps) ≡ Ended out → (count : Payload) (before : List Payload) → column_count count ≡ Some (length before + left) → AreDefinitions before → IsQuery (count ∷ (before ++ (p ∷ ps))) out
  definitions_made left true z (Some status) f d i h count before counted all =
      let none = is_zero left z in
      rw (← append_assoc before (p ∷ []) ps) (others Rows h (count ∷ (before ++ p ∷ [])) [] (head count before p (counted ∙ ap (λ (n : ℕ). Some n) (omega arith)) all f) tt)
  definitions_made left true z None f d i h count before counted all = absurd cc
  definitions_made left false z e f true i h count before counted all =
      rw (← append_assoc before (p ∷ []) ps) (others (Definitions (left - 1)) h count (before ++ p ∷ []) (counted ∙ ap (λ (n : ℕ). Some n) (one_more before p left (is_more left z))) (all_push _ before p all i))
  definitions_made left false z e f false i h count before counted all = absurd cc

  columns_made : (left : ℕ) (test : Bool) → (left == 0) ≡ test → (e : Option ℕ) → eof_status p ≡ e → (d : Bool) → is_definition p ≡ d → proceed (cond test (given e (λ status. Ends (Done status)) Wrong) (cond d (Goes (Columns (left - 1))) Wrong)) ps (run ps) ≡ Ended out → (first : Payload) (parameters before : List Payload) (counts : ℕ × ℕ) (between : ℕ) → prepared_counts first ≡ Some counts → IsPart counts.1 parameters 2 between → counts.0 ≡ length before + left → 0 < counts.0 → AreDefinitions before → IsPrepare (first ∷ (parameters ++ (before ++ (p ∷ ps)))) out
  columns_made left true z (Some status) f d i h first parameters before counts between prepared fits same more all =
      let none = is_zero left z in
      at_end (λ ps out. IsPrepare (first ∷ (parameters ++ (before ++ (p ∷ ps)))) out) (Done status) ps out (replies.prepared first parameters (before ++ p ∷ []) prepared fits (part counts.0 before p between status (omega arith) more all f)) h
  columns_made left true z None f d i h first parameters before counts between prepared fits same more all = absurd cc
  columns_made left false z e f true i h first parameters before counts between prepared fits same more all =
      rw (← append_assoc before (p ∷ []) ps) (others (Columns (left - 1)) h first parameters (before ++ p ∷ []) counts between prepared fits (same ∙ one_more before p left (is_more left z)) more (all_push _ before p all i))
  columns_made left false z e f false i h first parameters before counts between prepared fits same more all = absurd cc

  behind_parameters : (columns status : ℕ) (test : Bool) → (columns == 0) ≡ test → eof_status p ≡ Some status → proceed (cond test (Ends (Done status)) (Goes (Columns columns))) ps (run ps) ≡ Ended out → (first : Payload) (before : List Payload) (counts : ℕ × ℕ) → prepared_counts first ≡ Some counts → counts.0 ≡ columns → counts.1 ≡ length before → 0 < counts.1 → AreDefinitions before → IsPrepare (first ∷ (before ++ (p ∷ ps))) out
  behind_parameters columns status true z f h first before counts prepared after same more all =
      at_end (λ ps out. IsPrepare (first ∷ (before ++ (p ∷ ps))) out) (Done status) ps out (rw append-nil at (replies.prepared first (before ++ p ∷ []) [] prepared (part counts.1 before p 2 status same more all f) (no_part counts.0 status (after ∙ is_zero columns z)))) h
  behind_parameters columns status false z f h first before counts prepared after same more all =
      let some_ = is_more columns z in
      rw (← append_assoc before (p ∷ []) ps) (others (Columns columns) h first (before ++ p ∷ []) [] counts status prepared (part counts.1 before p 2 status same more all f) (omega arith) (omega arith) tt)

  parameters_made : (left columns : ℕ) (test : Bool) → (left == 0) ≡ test → (e : Option ℕ) → eof_status p ≡ e → (d : Bool) → is_definition p ≡ d → proceed (cond test (given e (to_columns columns) Wrong) (cond d (Goes (Parameters (left - 1) columns)) Wrong)) ps (run ps) ≡ Ended out → (first : Payload) (before : List Payload) (counts : ℕ × ℕ) → prepared_counts first ≡ Some counts → counts.0 ≡ columns → counts.1 ≡ length before + left → 0 < counts.1 → AreDefinitions before → IsPrepare (first ∷ (before ++ (p ∷ ps))) out
  parameters_made left columns true z (Some status) f d i h first before counts prepared after same more all =
      let none = is_zero left z in
      behind_parameters columns status (columns == 0) refl f h first before counts prepared after (omega arith) more all
  parameters_made left columns true z None f d i h first before counts prepared after same more all = absurd cc
  parameters_made left columns false z e f true i h first before counts prepared after same more all =
      rw (← append_assoc before (p ∷ []) ps) (others (Parameters (left - 1) columns) h first (before ++ p ∷ []) counts prepared after (same ∙ one_more before p left (is_more left z)) more (all_push _ before p all i))
  parameters_made left columns false z e f false i h first before counts prepared after same more all = absurd cc

  prepared_made : (counts : ℕ × ℕ) → prepared_counts p ≡ Some counts → (test : Bool) → (counts.1 == 0) ≡ test → (last : Bool) → (counts.0 == 0) ≡ last → proceed (cond test (cond last (Ends (Done 2)) (Goes (Columns counts.0))) (Goes (Parameters counts.1 counts.0))) ps (run ps) ≡ Ended out → IsPrepare (p ∷ ps) out
  prepared_made counts e true z true y h = at_end (λ ps out. IsPrepare (p ∷ ps) out) (Done 2) ps out (replies.prepared p [] [] e (no_part counts.1 2 (is_zero _ z)) (no_part counts.0 2 (is_zero _ y))) h
  prepared_made counts e true z false y h = others (Columns counts.0) h p [] [] counts 2 e (no_part counts.1 2 (is_zero _ z)) (sym (zero-add counts.0)) (is_more _ y) tt
  prepared_made counts e false z last y h = others (Parameters counts.1 counts.0) h p [] counts e refl (sym (zero-add counts.1)) (is_more _ z) tt

  prepare_made : (e : Option ℕ) → err_code p ≡ e → (c : Option (ℕ × ℕ)) → prepared_counts p ≡ c → proceed (given e (λ code. Ends (Failed code)) (given c to_parameters Wrong)) ps (run ps) ≡ Ended out → IsPrepare (p ∷ ps) out
  prepare_made (Some code) g c i h = at_end (λ ps out. IsPrepare (p ∷ ps) out) (Failed code) ps out (replies.err g) h
  prepare_made None g (Some counts) i h = prepared_made counts i (counts.1 == 0) refl (counts.0 == 0) refl h
  prepare_made None g None i h = absurd cc

  fields_made : (o : Option ℕ) → eof_status p ≡ o → (d : Bool) → is_definition p ≡ d → proceed (given o (λ status. Ends (Done status)) (cond d (Goes Fields) Wrong)) ps (run ps) ≡ Ended out → (before : List Payload) → AreDefinitions before → IsFieldList (before ++ (p ∷ ps)) out
  fields_made (Some status) f d i h before all = at_end (λ ps out. IsFieldList (before ++ (p ∷ ps)) out) (Done status) ps out (replies.fields before p all f) h
  fields_made None f true i h before all = rw (← append_assoc before (p ∷ []) ps) (others Fields h (before ++ p ∷ []) (all_push _ before p all i))
  fields_made None f false i h before all = absurd cc

  field_list_made : (e : Option ℕ) → err_code p ≡ e → proceed (given e (λ code. Ends (Failed code)) (next Fields p)) ps (run ps) ≡ Ended out → IsFieldList (p ∷ ps) out
  field_list_made (Some code) g h = at_end (λ ps out. IsFieldList (p ∷ ps) out) (Failed code) ps out (replies.err g) h
  field_list_made None g h = fields_made (eof_status p) refl (is_definition p) refl h [] tt

  one_made : (s : Awaits) → proceed (next s p) ps (run ps) ≡ Ended out → Made s (p ∷ ps) out
  one_made Simple h = simple_made (ok_status true p) refl (err_code p) refl h
  one_made Query h = query_made (ok_status true p) refl (err_code p) refl (column_count p) refl h
  one_made (Definitions left) h = definitions_made left (left == 0) refl (eof_status p) refl (is_definition p) refl h
  one_made Rows h = rows_made (eof_status p) refl (err_code p) refl (is_row p) refl h
  one_made Prepare h = prepare_made (err_code p) refl (prepared_counts p) refl h
  one_made (Parameters left columns) h = parameters_made left columns (left == 0) refl (eof_status p) refl (is_definition p) refl h
  one_made (Columns left) h = columns_made left (left == 0) refl (eof_status p) refl (is_definition p) refl h
  one_made FieldList h = field_list_made (err_code p) refl h
  one_made Fields h = fields_made (eof_status p) refl (is_definition p) refl h

made : (ps : List Payload) (s : Awaits) (out : Outcome) → run ps s ≡ Ended out → Made s ps out
made [] s out h = absurd cc
made (p ∷ ps) s out h = one_made p ps out (λ t e. made ps t out e) s h

pub reply_made : (kind : Kind) (ps : List Payload) (out : Outcome) → run ps (machine.first kind) ≡ Ended out → IsReply kind ps out
reply_made kinds.Simple ps out h = made ps Simple out h
reply_made kinds.Query ps out h = made ps Query out h
reply_made kinds.Prepare ps out h = made ps Prepare out h
reply_made kinds.FieldList ps out h = made ps FieldList out h
