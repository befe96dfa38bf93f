use Rattle.std.proofs.Common.{◌≡◌, ℕ, Bool, true, sym, subst, ◌∙◌, List, Option}
use Rattle.std.specs.Prelude.{MatchBool, MatchOption}
use Rattle.rws_select.specs.Choice.{HasNone, IsChoice}
use Rattle.rws_select.specs.declared.selector.Load.{Load}
use Rattle.rws_route.specs.declared.destination.Target.{Target}
use Rattle.rws_route.specs.Targets.{candidates_of, primary_of, primary_target, IsReadTarget, may_leave_primary}
use Rattle.rws_route.proofs.Falling.{falls_back}
use Rattle.rws_route.proofs.table.target.Goals as goal

pub returns-in-None-clause-table : goal.returns-in-None-clause-table
returns-in-None-clause-table g c =
    let servers = c.args.words.now.servers in
    let wanted = primary_target c.args.words.now.servers c.args.tried in
    let candidates = candidates_of c.args.words.now.servers c.args.loads.now c.args.tried c.args.banned in
    let chosen = subst (λ (o : Option ℕ). MatchOption o (HasNone c.candidates.result) (λ place. IsChoice c.candidates.result place)) c.in-None.is c.choose.ensures.choice in
    let none = subst (λ (cs : List (Option Load)). HasNone cs) c.candidates.ensures chosen in
    let falls = falls_back candidates c.args.tried (primary_of servers) none in
    let may : may_leave_primary c.args.class c.args.autocommit c.args.sent_back ≡ true = sym c.may_leave_primary.ensures ∙ c.if-not-may_leave_primary.false in
    subst (λ (t : Target). MatchBool (may_leave_primary c.args.class c.args.autocommit c.args.sent_back) (IsReadTarget candidates wanted t) (t ≡ wanted)) (sym c.primary_target-in-None.ensures)
    (subst (λ (b : Bool). MatchBool b (IsReadTarget candidates wanted wanted) (wanted ≡ wanted)) (sym may) falls)
