use Rattle.std.proofs.Common.{◌≡◌, ◌≤◌, ◌+◌, ◌-◌, ℕ, drop, List, sym, ap, ◌∙◌, arith}
use Rattle.std.proofs.lemmas.List.{drop-drop}
use Rattle.rws_token.specs.Lexed.{lexed_from, follow}
use Rattle.rws_token.specs.declared.piece.Piece.TheVariants.{Whole}
use Rattle.rws_token.proofs.LexedLemmas.{lexed_from-gap_at, lexed_from-lexeme_at}
use Rattle.rws_token.proofs.tokens.next_token.Goals as goal

-- the rest behind so many bytes more is the text behind them
further : (bytes rest : List ℕ) (start at n : ℕ) → at ≤ start → rest ≡ drop (start - at) bytes → drop n rest ≡ drop (start + n - at) bytes
further bytes rest start at n behind is_rest =
    let same : start - at + n ≡ start + n - at = omega arith in
    ap (drop n) is_rest ∙ drop-drop n (start - at) bytes ∙ ap (λ k. drop k bytes) same

pub loop-rest-preserved : goal.loop-rest-preserved
loop-rest-preserved c =
    let inv = c.loop-rest.invariant in
    let rest = c.loop-rest.rest.now in
    let n = c.in-Gap.n in
    let back : c.split_at.result.1.now ≡ drop n rest = c.split_at.ensures.back in
    record {
      same_left = ap (lexed_from 0 (c.loop-rest.start + n)) back ∙ sym (lexed_from-gap_at c.loop-rest.start n rest c.in-len1-up.len_at_least c.in-Gap.ensures.piece c.in-Gap.ensures.within) ∙ inv.same_left;
      is_rest = back ∙ further _ rest c.loop-rest.start c.args.at n inv.behind inv.is_rest;
      behind = omega arith;
      all_bytes = omega (arith, inv.all_bytes, c.split_at.ensures.back_len);
    }

pub returns-in-Whole-clause-tokens : goal.returns-in-Whole-clause-tokens
returns-in-Whole-clause-tokens c =
    let inv = c.loop-rest.invariant in
    let rest = c.loop-rest.rest.now in
    let n = c.in-Whole.n in
    sym inv.same_left ∙ lexed_from-lexeme_at c.loop-rest.start n rest c.in-Whole.kind c.in-len1-up.len_at_least c.in-Whole.ensures.piece c.in-Whole.ensures.within ∙ ap (λ left. follow c.loop-rest.start (Whole c.in-Whole.kind n) (λ _. lexed_from 0 (c.loop-rest.start + n) left)) (further _ rest c.loop-rest.start c.args.at n inv.behind inv.is_rest)
