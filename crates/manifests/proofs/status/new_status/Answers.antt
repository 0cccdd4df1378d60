use Rattle.std.proofs.Common.{ap, ◌∙◌, codes}
use Rattle.serde_json.specs.Data.{put, string}
use Rattle.objects.specs.Building.{put_number}
use Rattle.manifests.proofs.status.new_status.Goals as goal

pub returns : goal.returns
returns c =
    c.in_ok-counted-8.ensures ∙ ap (put_number (codes "collisionCount") c.args.set.now.collisions)
    (c.in_ok-counted-7.ensures ∙ ap (put_number (codes "currentReplicas") c.args.status.current_replicas)
    (c.in_ok-counted-6.ensures ∙ ap (put (codes "currentRevision") (string c.args.status.current_revision.now))
    (c.in_ok-counted-5.ensures ∙ (ap (λ n. put_number (codes "observedGeneration") n c.in_ok-counted-4.counted) c.generation_of.ensures ∙ ap (put_number (codes "observedGeneration") c.args.set.now.object.meta.generation)
    (c.in_ok-counted-4.ensures ∙ ap (put_number (codes "readyReplicas") c.args.status.ready_replicas)
    (c.in_ok-counted-3.ensures ∙ ap (put_number (codes "replicas") c.args.status.replicas)
    (c.in_ok-counted-2.ensures ∙ ap (put (codes "updateRevision") (string c.args.status.update_revision.now)) c.in_ok-counted.ensures)))))))
