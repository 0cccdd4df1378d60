use Rattle.std.proofs.Common.{rules, map, inl, inr, refl, ap, subst}
use Rattle.commands.specs.declared.args.CommandLine.{CommandLine}
use Rattle.commands.specs.CommandLine.{IsCommandLine}
use Rattle.commands.specs.Grammar.{Cluster, Outcomes, Plan, Race, Replay, Serve, faults_of, is_mistake, is_request}
use Rattle.commands.proofs.CommandLine.{list_any-kind, no_kind, no_mistake, no_request, only_memory}
use Rattle.commands.proofs.Serving.{serves_nothing}
use Rattle.commands.proofs.program.command.Goals as goal

pub returns-in-Ok-Serve-clause-cause : goal.returns-in-Ok-Serve-clause-cause
returns-in-Ok-Serve-clause-cause g c = λ is.
    let words = map g.S.AsStr.text c.args.words.now in
    let asked = subst (λ (a : CommandLine). IsCommandLine words a) c.in-Ok-Serve.field-0-is c.in-Ok-Serve.ensures.asked in
    elim (c.run_serve.ensures.cause (search (rules, is))) [
      | inl read ↦ inl read
      | inr (inl wrote) ↦ inr (inl wrote)
      | inr (inr (inl memory)) ↦ inr (inr (inl memory))
      | inr (inr (inr out)) ↦ inr (inr (inr (asked.0, (c.in-Ok-Serve.capacity, asked.1, out))))
    ]

pub returns-in-Ok-Serve-clause-spared : goal.returns-in-Ok-Serve-clause-spared
returns-in-Ok-Serve-clause-spared g c = λ failed.
    c.run_serve.ensures.spared (elim failed [
      | inl read ↦ inl read
      | inr wrote ↦ inr (inl wrote)
    ])

pub returns-in-Ok-Plan-clause-planned_part : goal.returns-in-Ok-Plan-clause-planned_part
returns-in-Ok-Plan-clause-planned_part g c = λ is plans.
    let words = map g.S.AsStr.text c.args.words.now in
    let asked = subst (λ (a : CommandLine). IsCommandLine words a) c.in-Ok-Plan.field-0-is c.in-Ok-Plan.ensures.asked in
    elim (c.run_plan.ensures.part is) [
      | inl same ↦ inl same
      | inr part ↦ inr (c.in-Ok-Plan.plan, asked.1, part)
    ]

pub returns-in-Err-clause-planned_part : goal.returns-in-Err-clause-planned_part
returns-in-Err-clause-planned_part g c = λ is plans.
    let memory = only_memory c.in-Err.error (map g.S.AsStr.text c.args.words.now) Plan c.in-Err.ensures.faults plans tt in
    inl (c.explain.ensures.untouched (ap is_request memory))

pub returns-in-Err-clause-served : goal.returns-in-Err-clause-served
returns-in-Err-clause-served g c = λ is serves.
    absurd (no_request c.in-Err.error (map g.S.AsStr.text c.args.words.now) Serve c.in-Err.ensures.faults serves tt (c.explain.ensures.success is))

pub returns-in-Err-clause-replayed : goal.returns-in-Err-clause-replayed
returns-in-Err-clause-replayed g c = λ is replays.
    absurd (no_request c.in-Err.error (map g.S.AsStr.text c.args.words.now) Replay c.in-Err.ensures.faults replays tt (c.explain.ensures.success is))

pub returns-in-Err-clause-clustered : goal.returns-in-Err-clause-clustered
returns-in-Err-clause-clustered g c = λ is clusters.
    absurd (no_request c.in-Err.error (map g.S.AsStr.text c.args.words.now) Cluster c.in-Err.ensures.faults clusters tt (c.explain.ensures.success is))

pub returns-in-Err-clause-planned : goal.returns-in-Err-clause-planned
returns-in-Err-clause-planned g c = λ is plans.
    absurd (no_request c.in-Err.error (map g.S.AsStr.text c.args.words.now) Plan c.in-Err.ensures.faults plans tt (c.explain.ensures.success is))

pub returns-in-Err-clause-raced : goal.returns-in-Err-clause-raced
returns-in-Err-clause-raced g c = λ is races.
    absurd (no_request c.in-Err.error (map g.S.AsStr.text c.args.words.now) Race c.in-Err.ensures.faults races tt (c.explain.ensures.success is))

pub returns-in-Err-clause-apart : goal.returns-in-Err-clause-apart
returns-in-Err-clause-apart g c = λ races. (
  refl,
  c.explain.ensures.quiet
      (λ bad. no_mistake c.in-Err.error (map g.S.AsStr.text c.args.words.now) Race c.in-Err.ensures.faults races tt (c.explain.ensures.refused bad)),
)

pub returns-in-Err-clause-success : goal.returns-in-Err-clause-success
returns-in-Err-clause-success g c = λ same.
    inr (list_any-kind is_request c.in-Err.error (faults_of (map g.S.AsStr.text c.args.words.now)) (search rules) c.in-Err.ensures.faults
    (c.explain.ensures.success same))

pub returns-in-Err-clause-refused : goal.returns-in-Err-clause-refused
returns-in-Err-clause-refused g c = λ same.
    list_any-kind is_mistake c.in-Err.error (faults_of (map g.S.AsStr.text c.args.words.now)) (search rules) c.in-Err.ensures.faults
    (c.explain.ensures.refused same)

pub returns-in-Err-clause-part : goal.returns-in-Err-clause-part
returns-in-Err-clause-part g c = λ is serves.
    let words = map g.S.AsStr.text c.args.words.now in
    let memory = only_memory c.in-Err.error words Serve c.in-Err.ensures.faults serves tt in
    serves_nothing words _ _ _ _ refl (ap g.W.Sink.written (c.explain.ensures.untouched (ap is_request memory)))

pub returns-in-Err-clause-mistakes : goal.returns-in-Err-clause-mistakes
returns-in-Err-clause-mistakes g c = λ some none.
    c.explain.ensures.mistake
    (no_kind is_request c.in-Err.error (faults_of (map g.S.AsStr.text c.args.words.now)) (search rules) c.in-Err.ensures.faults none)

pub returns-in-Err-clause-silent : goal.returns-in-Err-clause-silent
returns-in-Err-clause-silent g c = λ some none.
    c.explain.ensures.untouched
    (no_kind is_request c.in-Err.error (faults_of (map g.S.AsStr.text c.args.words.now)) (search rules) c.in-Err.ensures.faults none)

pub returns-in-Ok-Replay-clause-replayed : goal.returns-in-Ok-Replay-clause-replayed
returns-in-Ok-Replay-clause-replayed g c = λ is asks.
    let asked = subst (λ (a : CommandLine). IsCommandLine (map g.S.AsStr.text c.args.words.now) a) c.in-Ok-Replay.field-0-is c.in-Ok-Replay.ensures.asked in
    (c.in-Ok-Replay.asked.form, asked.1.0, c.run_word.ensures.answered is)

pub returns-in-Ok-Cluster-clause-clustered : goal.returns-in-Ok-Cluster-clause-clustered
returns-in-Ok-Cluster-clause-clustered g c = λ is asks.
    let asked = subst (λ (a : CommandLine). IsCommandLine (map g.S.AsStr.text c.args.words.now) a) c.in-Ok-Cluster.field-0-is c.in-Ok-Cluster.ensures.asked in
    (c.in-Ok-Cluster.asked.form, asked.1.0, c.run_word-in-Ok-Cluster.ensures.answered is)

pub returns-in-Ok-Replay-clause-replayed_part : goal.returns-in-Ok-Replay-clause-replayed_part
returns-in-Ok-Replay-clause-replayed_part g c = λ is asks.
    let asked = subst (λ (a : CommandLine). IsCommandLine (map g.S.AsStr.text c.args.words.now) a) c.in-Ok-Replay.field-0-is c.in-Ok-Replay.ensures.asked in
    elim (c.run_word.ensures.part is) [
      | inl same ↦ inl same
      | inr part ↦ inr (c.in-Ok-Replay.asked.form, asked.1.0, part)
    ]

pub returns-in-Err-clause-replayed_part : goal.returns-in-Err-clause-replayed_part
returns-in-Err-clause-replayed_part g c = λ is asks.
    let memory = only_memory c.in-Err.error (map g.S.AsStr.text c.args.words.now) Replay c.in-Err.ensures.faults asks tt in
    inl (c.explain.ensures.untouched (ap is_request memory))

pub returns-in-Ok-Cluster-clause-clustered_part : goal.returns-in-Ok-Cluster-clause-clustered_part
returns-in-Ok-Cluster-clause-clustered_part g c = λ is asks.
    let asked = subst (λ (a : CommandLine). IsCommandLine (map g.S.AsStr.text c.args.words.now) a) c.in-Ok-Cluster.field-0-is c.in-Ok-Cluster.ensures.asked in
    elim (c.run_word-in-Ok-Cluster.ensures.part is) [
      | inl same ↦ inl same
      | inr part ↦ inr (c.in-Ok-Cluster.asked.form, asked.1.0, part)
    ]

pub returns-in-Err-clause-clustered_part : goal.returns-in-Err-clause-clustered_part
returns-in-Err-clause-clustered_part g c = λ is asks.
    let memory = only_memory c.in-Err.error (map g.S.AsStr.text c.args.words.now) Cluster c.in-Err.ensures.faults asks tt in
    inl (c.explain.ensures.untouched (ap is_request memory))

pub returns-in-Ok-Outcomes-clause-found : goal.returns-in-Ok-Outcomes-clause-found
returns-in-Ok-Outcomes-clause-found g c = λ is asks.
    let asked = subst (λ (a : CommandLine). IsCommandLine (map g.S.AsStr.text c.args.words.now) a) c.in-Ok-Outcomes.field-0-is c.in-Ok-Outcomes.ensures.asked in
    (c.in-Ok-Outcomes.options, asked.1, c.run_outcomes.ensures.answered is)

pub returns-in-Err-clause-found : goal.returns-in-Err-clause-found
returns-in-Err-clause-found g c = λ is asks.
    absurd (no_request c.in-Err.error (map g.S.AsStr.text c.args.words.now) Outcomes c.in-Err.ensures.faults asks tt (c.explain.ensures.success is))

pub returns-in-Ok-Outcomes-clause-found_part : goal.returns-in-Ok-Outcomes-clause-found_part
returns-in-Ok-Outcomes-clause-found_part g c = λ is asks.
    let asked = subst (λ (a : CommandLine). IsCommandLine (map g.S.AsStr.text c.args.words.now) a) c.in-Ok-Outcomes.field-0-is c.in-Ok-Outcomes.ensures.asked in
    elim (c.run_outcomes.ensures.part is) [
      | inl same ↦ inl same
      | inr part ↦ inr (c.in-Ok-Outcomes.options, asked.1, part)
    ]

pub returns-in-Err-clause-found_part : goal.returns-in-Err-clause-found_part
returns-in-Err-clause-found_part g c = λ is asks.
    let memory = only_memory c.in-Err.error (map g.S.AsStr.text c.args.words.now) Outcomes c.in-Err.ensures.faults asks tt in
    inl (c.explain.ensures.untouched (ap is_request memory))

pub returns-in-Ok-Outcomes-clause-noted : goal.returns-in-Ok-Outcomes-clause-noted
returns-in-Ok-Outcomes-clause-noted g c = λ is asks.
    let asked = subst (λ (a : CommandLine). IsCommandLine (map g.S.AsStr.text c.args.words.now) a) c.in-Ok-Outcomes.field-0-is c.in-Ok-Outcomes.ensures.asked in
    (c.in-Ok-Outcomes.options, asked.1, c.run_outcomes.ensures.noted is)

pub returns-in-Err-clause-noted : goal.returns-in-Err-clause-noted
returns-in-Err-clause-noted g c = λ is asks.
    absurd (no_request c.in-Err.error (map g.S.AsStr.text c.args.words.now) Outcomes c.in-Err.ensures.faults asks tt (c.explain.ensures.success is))

pub returns-in-Ok-Outcomes-clause-quiet : goal.returns-in-Ok-Outcomes-clause-quiet
returns-in-Ok-Outcomes-clause-quiet g c = λ low other.
    let asked = subst (λ (a : CommandLine). IsCommandLine (map g.S.AsStr.text c.args.words.now) a) c.in-Ok-Outcomes.field-0-is c.in-Ok-Outcomes.ensures.asked in
    absurd (other asked.0)

pub returns-in-Ok-Race-clause-raced_part : goal.returns-in-Ok-Race-clause-raced_part
returns-in-Ok-Race-clause-raced_part g c = λ is asks.
    let asked = subst (λ (a : CommandLine). IsCommandLine (map g.S.AsStr.text c.args.words.now) a) c.in-Ok-Race.field-0-is c.in-Ok-Race.ensures.asked in
    elim (c.run_race.ensures.part is) [
      | inl same ↦ inl same
      | inr part ↦ inr (c.in-Ok-Race.race, asked.1, part)
    ]

pub returns-in-Err-clause-raced_part : goal.returns-in-Err-clause-raced_part
returns-in-Err-clause-raced_part g c = λ is asks.
    let memory = only_memory c.in-Err.error (map g.S.AsStr.text c.args.words.now) Race c.in-Err.ensures.faults asks tt in
    inl (c.explain.ensures.untouched (ap is_request memory))
