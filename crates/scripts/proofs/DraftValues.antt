-- What is printed of a draft whose texts are those of its object.
use Rattle.std.proofs.Common.{◌≡◌, List, ℕ, Bool, true, false, Option, Some, None, option_map, decimal, refl, sym, ap, ◌∙◌, cond}
use Rattle.std.specs.Prelude.{bytes_eq, codes, not, ◌==◌, ◌&&◌, unwrap_or}
use Rattle.std.proofs.lemmas.Bool.{and_parts}
use Rattle.std.proofs.lemmas.Slice.Eq.{bytes_eq-Decides}
use Rattle.serde_json.specs.Data.{string, object, Members, no_members, put}
use Rattle.serde_json.specs.Find.{as_object, get_member}
use Rattle.objects.specs.declared.object.Draft.{Draft}
use Rattle.objects.specs.Again.{draft_again_of, text_unless_zero}
use Rattle.objects.specs.Object.{object_at}
use Rattle.objects.specs.Text.{printed, unless_zero}
use Rattle.objects.specs.Uid.{uid_text}
use Rattle.objects.proofs.HeldMembers.{deletion_put, generation_put, with_all}
use Rattle.scripts.specs.RequestLine.{draft_metadata, has_own_texts, is_text_of, printed_draft}

-- a text that is put only if its number is not 0
given_by : (none : Bool) (n : ℕ) (s t : List ℕ) → (n == 0) ≡ none → (not none && bytes_eq t s) ≡ true → cond none None (Some (string s)) ≡ option_map string (Some t)
given_by true n s t is own = absurd cc
given_by false n s t is own = ap (λ x. Some (string x)) (sym ((bytes_eq-Decides t s).0 own))

given : (n : ℕ) (s : List ℕ) (o : Option (List ℕ)) → is_text_of n s o ≡ true → unless_zero n (string s) ≡ option_map string o
given n s None own = ap (λ none. cond none None (Some (string s))) own
given n s (Some t) own = given_by (n == 0) n s t refl own

pub own_printed : (d : Draft) → has_own_texts d ≡ true → printed d.object ≡ printed_draft d
unfolding printed printed_draft
own_printed d own = λ i.
    let o = d.object in
    let both = and_parts (is_text_of o.meta.uid (uid_text o.meta.uid) d.uid) (is_text_of o.meta.revision (decimal o.meta.revision) d.version) own in
    let members = unwrap_or (as_object o.body) no_members in
    let metadata = unwrap_or (object_at (codes "metadata") members) no_members in
    object (put (codes "metadata") (object (with_all (deletion_put o) (generation_put o) (string o.key.name) (string o.key.namespace)
    (given o.meta.revision (decimal o.meta.revision) d.version both.1 i) (given o.meta.uid (uid_text o.meta.uid) d.uid both.0 i) metadata)) members)

-- the value of a draft, by what its object's body has
pub value_printed : (d : Draft) (ms metadata : Members) → d.object.body ≡ object ms → get_member (codes "metadata") ms ≡ Some (object metadata)
    → object (put (codes "metadata") (object (draft_metadata d metadata)) ms) ≡ printed_draft d
unfolding printed_draft
value_printed d ms metadata body there = rw (body, there) refl

-- ---- texts of an object's own numbers

own_by : (none : Bool) (n : ℕ) (s : List ℕ) → (n == 0) ≡ none → is_text_of n s (cond none None (Some s)) ≡ true
own_by true n s is = is
own_by false n s is = rw (is, (bytes_eq-Decides s s).1 refl) refl

own_text : (n : ℕ) (s : List ℕ) (o : Option (List ℕ)) → o ≡ text_unless_zero n s → is_text_of n s o ≡ true
own_text n s o is = ap (is_text_of n s) is ∙ own_by (n == 0) n s refl

-- it is printed as its object is
pub again_printed : (d : Draft) → d ≡ draft_again_of d.object → printed_draft d ≡ printed d.object
again_printed d again =
    let m = d.object.meta in
    let uid = own_text m.uid (uid_text m.uid) d.uid (ap (λ (x : Draft). x.uid) again) in
    let version = own_text m.revision (decimal m.revision) d.version (ap (λ (x : Draft). x.version) again) in
    sym (own_printed d (rw (uid, version) refl))
