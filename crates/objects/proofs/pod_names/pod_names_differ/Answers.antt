use Rattle.objects.proofs.PodNamesDiffer.{pod_names-differ}
use Rattle.objects.proofs.pod_names.pod_names_differ.Goals as goal

pub returns : goal.returns
returns c = pod_names-differ
