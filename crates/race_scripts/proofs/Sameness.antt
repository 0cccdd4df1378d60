-- Requests that test as the same are equal.
use Rattle.std.proofs.Common.{◌≡◌, ℕ, true, ◌==◌, ◌&&◌, List, Option, Some, None, refl, sym, ap, ◌∙◌}
use Rattle.std.specs.Prelude.{bytes_eq}
use Rattle.std.proofs.lemmas.Bool.{and_parts}
use Rattle.std.proofs.lemmas.Bool.Decides.{Decides-eqb}
use Rattle.std.proofs.lemmas.Slice.Eq.{bytes_eq-Decides}
use Rattle.objects.specs.declared.kind.Kind.{Kind}
use Rattle.objects.specs.declared.object.Draft.{Draft}
use Rattle.objects.specs.declared.object.Object.{Object}
use Rattle.objects.specs.Key.{KeyParts, key_cmp, kind_at, kind_at-kind_index, kind_index}
use Rattle.objects.specs.KeyOrder.{exact_keys, equal_from}
use Rattle.requests.specs.declared.reply.Reply.{Reply}
use Rattle.requests.specs.declared.reply.Reply.TheVariants.{Found}
use Rattle.requests.specs.declared.request.Request.{Request}
use Rattle.requests.specs.declared.request.Request.TheVariants as request
use Rattle.requests.specs.Same.{same_object, same_time}
use Rattle.requests.proofs.Sameness.{replies_equal}
use Rattle.race_scripts.specs.Same.{same_draft, same_key, same_request}

abbrev object_in : Object → Reply → Object
object_in o (Found p) = p
object_in o reply = o

object_equal : (o p : Object) → same_object o p ≡ true → o ≡ p
object_equal o p same = ap (object_in o) (replies_equal (Found o) (Found p) same)

time_equal : (s t : Option (List ℕ)) → same_time s t ≡ true → s ≡ t
time_equal None None same = refl
time_equal (Some s) (Some t) same = ap Some ((bytes_eq-Decides s t).0 same)
time_equal s t same = cc

key_equal : (k l : KeyParts) → same_key k l ≡ true → k ≡ l
key_equal k l same = exact_keys k l (equal_from (key_cmp k l) same)

kind_equal : (k l : Kind) → (kind_index k == kind_index l) ≡ true → k ≡ l
kind_equal k l same = sym (kind_at-kind_index k) ∙ (ap kind_at ((Decides-eqb (kind_index k) (kind_index l)).0 same) ∙ kind_at-kind_index l)

draft_equal : (d e : Draft) → same_draft d e ≡ true → d ≡ e
draft_equal d e same =
    let last = and_parts (same_object d.object e.object && same_time d.uid e.uid) (same_time d.version e.version) same in
    let first = and_parts (same_object d.object e.object) (same_time d.uid e.uid) last.0 in
    ap (λ x. record d { object = x }) (object_equal d.object e.object first.0)
    ∙ ap (λ x. record d { object = e.object; uid = x }) (time_equal d.uid e.uid first.1)
    ∙ ap (λ x. record e { version = x }) (time_equal d.version e.version last.1)

pub requests_equal : (r s : Request) → same_request r s ≡ true → r ≡ s
requests_equal (request.Create d) (request.Create e) same = ap request.Create (draft_equal d e same)
requests_equal (request.Update d) (request.Update e) same = ap request.Update (draft_equal d e same)
requests_equal (request.UpdateStatus d) (request.UpdateStatus e) same = ap request.UpdateStatus (draft_equal d e same)
requests_equal (request.Get k) (request.Get l) same = ap request.Get (key_equal k l same)
requests_equal (request.List kind namespace exact) (request.List kind2 namespace2 exact2) same =
    let last = and_parts (kind_index kind == kind_index kind2 && bytes_eq namespace namespace2) (exact == exact2) same in
    let first = and_parts (kind_index kind == kind_index kind2) (bytes_eq namespace namespace2) last.0 in
    ap (λ x. request.List x namespace exact) (kind_equal kind kind2 first.0)
    ∙ ap (λ x. request.List kind2 x exact) ((bytes_eq-Decides namespace namespace2).0 first.1)
    ∙ ap (λ x. request.List kind2 namespace2 x) ((Decides-eqb exact exact2).0 last.1)
requests_equal (request.Delete k uid version at) (request.Delete l uid2 version2 at2) same =
    let third = and_parts (same_key k l && same_time uid uid2 && same_time version version2) (same_time at at2) same in
    let second = and_parts (same_key k l && same_time uid uid2) (same_time version version2) third.0 in
    let first = and_parts (same_key k l) (same_time uid uid2) second.0 in
    ap (λ x. request.Delete x uid version at) (key_equal k l first.0) ∙ ap (λ x. request.Delete l x version at) (time_equal uid uid2 first.1)
    ∙ ap (λ x. request.Delete l uid2 x at) (time_equal version version2 second.1) ∙ ap (λ x. request.Delete l uid2 version2 x) (time_equal at at2 third.1)
requests_equal (request.Compact to) (request.Compact to2) same = ap request.Compact ((Decides-eqb to to2).0 same)
requests_equal r s same = cc
