use Rattle.std.proofs.Common.{◌≡◌, Some, rules}
use Rattle.std.proofs.lemmas.Fn.{filter_same}
use Rattle.rws_handles.specs.LinkIds.{least}
use Rattle.rws_handles.specs.LinkIdsView.{link_ids_view}
use Rattle.rws_handles.proofs.LinkLemmas.{taken_least}
use Rattle.rws_handles.proofs.link_ids.LinkIds.take_least.Goals as goal

pub returns-in-Some-clause-rest : goal.returns-in-Some-clause-rest
returns-in-Some-clause-rest c =
    let found : least c.self.inside.stale.items ≡ Some c.in-Some.gone = cc (c.least-found.ensures, c.deref.ensures.value, c.in-Some.is) in
    rw (← c.self.view_is) (taken_least (link_ids_view c.self.inside) c.in-Some.gone _ found (filter_same _ _ _ (λ x b f' k. search rules) _ _ c.retain.ensures.filtered))
