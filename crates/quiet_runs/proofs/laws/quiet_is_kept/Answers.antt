use Rattle.cluster_runs.specs.Turns.{approach, asked, asked_as, carried, round, settled_as}
use Rattle.quiet_runs.proofs.Rounds.{approach_calms, round_calms, scripts_rest, settled_calms}
use Rattle.quiet_runs.proofs.Stays.{asked_as_calms, asked_calms, begins_at_rest, calms_all, carried_calms, keeps_then}
use Rattle.quiet_runs.proofs.laws.quiet_is_kept.Goals as goal

pub returns : goal.returns
returns c = record {
  begins = begins_at_rest;
  carried = λ z count reconcilers n sized. calms_all z count reconcilers (carried n) (carried_calms z count reconcilers sized.0 sized.1 n);
  controllers = λ z count reconcilers c sized. calms_all z count reconcilers (asked c) (asked_calms z count reconcilers sized.0 sized.1 c);
  others = λ z count reconcilers n r sized. calms_all z count reconcilers (asked_as n r) (asked_as_calms z count reconcilers sized.0 sized.1 n r);
  rounds = λ z count reconcilers c sized. calms_all z count reconcilers (round c) (round_calms z count reconcilers sized.0 sized.1 c);
  approaches = λ z count reconcilers c sized. calms_all z count reconcilers (approach c) (approach_calms z count reconcilers sized.0 sized.1 c);
  settled = λ z count reconcilers rounds n namespaces sized.
      calms_all z count reconcilers (settled_as rounds n namespaces) (settled_calms z count reconcilers sized.0 sized.1 n rounds namespaces);
  one_after_another = keeps_then;
  scripts = λ z count reconcilers namespaces turns sized all. scripts_rest z count reconcilers sized.0 sized.1 namespaces turns all;
}
