use Rattle.objects.proofs.PodNamesDiffer.{claim_names-differ}
use Rattle.objects.proofs.pod_names.claim_names_of_a_set_differ.Goals as goal

pub returns : goal.returns
returns c = claim_names-differ
