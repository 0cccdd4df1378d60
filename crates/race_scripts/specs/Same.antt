-- Requests that are the same: the same verb, with the same objects, keys, texts and numbers.
use Rattle.std.specs.Prelude.{Bool, false, ◌==◌, ◌&&◌, bytes_eq}
use Rattle.std.specs.Ordering.{eq_by_cmp}
use Rattle.objects.specs.declared.object.Draft.{Draft}
use Rattle.objects.specs.Key.{KeyParts, key_cmp, kind_index}
use Rattle.requests.specs.declared.request.Request.{Request}
use Rattle.requests.specs.declared.request.Request.TheVariants as request
use Rattle.requests.specs.Same.{same_object, same_time}

abbrev pub same_key : KeyParts → KeyParts → Bool
same_key k l = eq_by_cmp key_cmp k l

abbrev pub same_draft : Draft → Draft → Bool
same_draft d e = same_object d.object e.object && same_time d.uid e.uid && same_time d.version e.version

-- for requests without an object; others are not the same
abbrev pub same_plain : Request → Request → Bool
same_plain (request.Get k) (request.Get l) = same_key k l
same_plain (request.List kind namespace exact) (request.List kind2 namespace2 exact2) =
    kind_index kind == kind_index kind2 && bytes_eq namespace namespace2 && exact == exact2
same_plain (request.Delete k uid version at) (request.Delete l uid2 version2 at2) =
    same_key k l && same_time uid uid2 && same_time version version2 && same_time at at2
same_plain (request.Compact to) (request.Compact to2) = to == to2
same_plain r s = false

abbrev pub same_request : Request → Request → Bool
same_request (request.Create d) (request.Create e) = same_draft d e
same_request (request.Update d) (request.Update e) = same_draft d e
same_request (request.UpdateStatus d) (request.UpdateStatus e) = same_draft d e
same_request r s = same_plain r s
