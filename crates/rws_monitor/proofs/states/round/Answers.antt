use Rattle.std.proofs.Common.{◌≡◌, List, Option, sym, ap, ◌∙◌}
use Rattle.rws_monitor.specs.declared.probe.Probe.{Probe}
use Rattle.rws_monitor.specs.Rounds.{counted, primary_of}
use Rattle.rws_monitor.proofs.RoundLemmas.{out_of_service, positions_probed, master_primary, primary_master}
use Rattle.rws_monitor.proofs.states.round.Goals as goal

pub returns-clause-master : goal.returns-clause-master
returns-clause-master c =
    let chosen : c.primary-primary.result ≡ primary_of (counted c.args.probes.now c.args.maintenance) c.args.old.now.primary =
    c.primary-primary.ensures ∙ ap (λ (probes : List (Option Probe)). primary_of probes c.args.old.now.primary) c.counted-counted.ensures in
    rw (c.seen.ensures) (λ server. (
      master_primary c.args.probes.now c.args.maintenance c.primary-primary.result c.kept_id-primary_id.result server,
      primary_master c.args.probes.now c.args.maintenance c.args.old.now.primary c.primary-primary.result c.kept_id-primary_id.result server chosen,
    ))

pub returns-clause-one_master : goal.returns-clause-one_master
returns-clause-one_master c = λ a b first second. let e = sym ((returns-clause-master c a).0 first) ∙ (returns-clause-master c b).0 second in cc

pub returns-clause-maintenance : goal.returns-clause-maintenance
returns-clause-maintenance c =
    rw (c.seen.ensures) (out_of_service c.args.probes.now c.args.maintenance c.primary-primary.result c.kept_id-primary_id.result)

pub returns-clause-positions : goal.returns-clause-positions
returns-clause-positions c =
    rw (c.seen.ensures) (positions_probed c.args.probes.now c.args.maintenance c.primary-primary.result c.kept_id-primary_id.result)
