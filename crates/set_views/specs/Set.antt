-- What a StatefulSet says of its pods (Kubernetes API reference, apps/v1, StatefulSet).
use Rattle.std.specs.Prelude.{ℕ, List, Option}
use Rattle.serde_json.specs.Data.{Members}
use Rattle.objects.specs.declared.object.Object.{Object}
use Rattle.set_views.specs.declared.policies.Policy.{Policy}
use Rattle.set_views.specs.declared.policies.Retention.{Retention}
use Rattle.set_views.specs.declared.policies.Strategy.{Strategy}
use Rattle.set_views.specs.declared.set.Set.{Set}
use Rattle.set_views.specs.Claims.{Claim}

pub record SetParts : Type 0 where
  -- the StatefulSet as it was read
  pub object : Object
  -- the members of `spec.template`
  pub template : Members
  -- the first ordinal, and how many there are
  pub start : ℕ
  pub replicas : ℕ
  pub policy : Policy
  pub strategy : Strategy
  -- what happens to the claims of a set that is deleted, and of a pod that is scaled away
  pub when_deleted : Retention
  pub when_scaled : Retention
  -- how many revisions are kept that no pod needs
  pub history_limit : ℕ
  pub claims : List Claim
  -- the headless service of the pods
  pub service : Option (List ℕ)
  -- of `status`: the count from which names of revisions are tried, and the revision that pods were made from
  pub collisions : ℕ
  pub current : Option (List ℕ)

abbrev pub set_parts : Set → SetParts
set_parts s = record {
  object = s.object;
  template = s.template;
  start = s.start;
  replicas = s.replicas;
  policy = s.policy;
  strategy = s.strategy;
  when_deleted = s.when_deleted;
  when_scaled = s.when_scaled;
  history_limit = s.history_limit;
  claims = s.claims.items;
  service = s.service;
  collisions = s.collisions;
  current = s.current;
}
