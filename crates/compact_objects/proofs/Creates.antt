-- The object that a create makes, as it is printed.
use Rattle.std.proofs.Common.{◌≡◌, ℕ, true, cond, codes, Option, Some, None, IfSome, sym, ap, ◌∙◌, subst}
use Rattle.objects.specs.declared.meta.Meta.{Meta}
use Rattle.objects.specs.declared.object.Draft.{Draft}
use Rattle.objects.specs.declared.object.Object.{Object}
use Rattle.objects.specs.declared.printed.IndexedText.{IndexedText}
use Rattle.objects.specs.Rewrites.{with_status}
use Rattle.objects.specs.Seams.{IsIndexedText}
use Rattle.objects.specs.Status.{with_member}
use Rattle.compact_objects.specs.Texts.{with_meta}
use Rattle.requests.specs.Change.{creates, stamp}
use Rattle.requests.specs.Verdict.{born, has_status}

created_is : (d : Draft) (meta : Meta) (n : ℕ) → has_status d.object.key.kind ≡ true → meta ≡ record { uid = n; revision = n; generation = 1; deletion = None } → with_status None (with_meta meta d.object) ≡ stamp (creates (born d.object)) n
created_is d meta n has is =
    ap (λ m. with_status None (with_meta m d.object)) is
    ∙ sym (ap (λ b. stamp (creates (record { key = d.object.key; meta = d.object.meta; body = cond b (with_member (codes "status") None d.object.body) d.object.body })) n) has)

pub created_indexed : (d : Draft) (meta : Meta) (n : ℕ) (found : Option IndexedText) (t : IndexedText) → has_status d.object.key.kind ≡ true → meta ≡ record { uid = n; revision = n; generation = 1; deletion = None } → found ≡ Some t
    → IfSome found (λ s. IsIndexedText (with_status None (with_meta meta d.object)) s) → IsIndexedText (stamp (creates (born d.object)) n) t
created_indexed d meta n found t has is found_is indexed =
    subst (λ (p : Object). IsIndexedText p t) (created_is d meta n has is) (subst (λ f. IfSome f (λ s. IsIndexedText (with_status None (with_meta meta d.object)) s)) found_is indexed)
