-- The reading of a StatefulSet.
use Rattle.std.specs.Prelude.{◌+◌, ◌-◌, ◌==◌, ◌||◌, Bool, nat_le, List, codes, option_and_then, Result}
use Rattle.serde_json.specs.Find.{get_member, as_str}
use Rattle.objects.specs.declared.object.Object.{Object}
use Rattle.objects.specs.PodNames.{most_ordinal}
use Rattle.objects.specs.Reading.{unless_empty}
use Rattle.objects.specs.Status.{member_of}
use Rattle.set_views.specs.declared.fault.PlanError.{PlanError}
use Rattle.set_views.specs.declared.fault.PlanError.TheVariants.{BadSpec, OrdinalTooLarge}
use Rattle.set_views.specs.declared.reading.Counts.{Counts}
use Rattle.set_views.specs.Claims.{Claim, claims_in}
use Rattle.set_views.specs.Set.{SetParts}
use Rattle.set_views.specs.Specified.{SpecifiedParts, found, specified_in}
use Rattle.set_views.specs.Steps.{◌>>=◌, required, guarded}
use Rattle.set_views.specs.Values.{inside}

-- the last ordinal in range, if there is one, is at most 2147483647
abbrev pub range_fits : Counts → Bool
range_fits counts = (counts.replicas == 0) || nat_le (counts.start + counts.replicas - 1) most_ordinal

abbrev pub set_with : Object → SpecifiedParts → List Claim → SetParts
set_with o s claims = record {
  object = o;
  template = s.template;
  start = s.counts.start;
  replicas = s.counts.replicas;
  policy = s.choices.policy;
  strategy = s.choices.strategy;
  when_deleted = s.choices.when_deleted;
  when_scaled = s.choices.when_scaled;
  history_limit = s.counts.history_limit;
  claims = claims;
  service = unless_empty (option_and_then as_str (get_member (codes "serviceName") s.spec));
  collisions = s.counts.collisions;
  current = option_and_then as_str (inside (codes "currentRevision") (member_of (codes "status") o.body));
}

-- the set, or the first refusal
unfoldable pub set_of : Object → Result SetParts PlanError
set_of o = do
  s ← required BadSpec (specified_in o)
  claims ← required BadSpec (claims_in (found (codes "volumeClaimTemplates") s.spec))
  guarded OrdinalTooLarge (range_fits s.counts) (set_with o s claims)
