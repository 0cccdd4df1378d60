-- The object of a draft that was read keeps the rules of its parts.
use Rattle.std.proofs.Common.{◌≡◌, [], Bool, true, false, Some, Ok, codes, refl, sym, ap, ◌∙◌, subst}
use Rattle.std.specs.Prelude.{Result, Err, Option, option_and_then, unwrap_or}
use Rattle.serde_json.specs.Data.{Data, object, Members, put}
use Rattle.serde_json.specs.Find.{as_object, get_member}
use Rattle.objects.specs.Key.{KeyParts, is_key}
use Rattle.objects.specs.Kind.{api_version}
use Rattle.objects.specs.MetadataShape.{metadata_fits}
use Rattle.objects.specs.Object.{IsBody, is_missing_or, without_held}
use Rattle.objects.specs.Reading.{DraftMeta, draft_in, draft_meta_in, draft_parts, key_of, kind_in, namespace_in, optional_text}
use Rattle.objects.specs.Steps.{◌>>=◌, guarded, required}
use Rattle.objects.specs.declared.fault.ReadError.{ReadError}
use Rattle.objects.specs.declared.fault.ReadError.TheVariants.{BadMeta, BadName, UnknownKind}
use Rattle.objects.specs.declared.kind.Kind.{Kind}
use Rattle.objects.specs.declared.object.Draft.{Draft}
use Rattle.objects.proofs.Bodies.{body_fits, says_kind}

ok_then : {A B : Type 0} (r : Result A ReadError) (f : A → Result B ReadError) (b : B) → (r >>= f) ≡ Ok b → (a : A) × (r ≡ Ok a) × (f a ≡ Ok b)
ok_then (Ok a) f b is = (a, refl, is)
ok_then (Err e) f b is = absurd cc

guarded_is : {A : Type 0} (e : ReadError) (b : Bool) (x y : A) → guarded e b x ≡ Ok y → (b ≡ true) × (x ≡ y)
guarded_is e true x y is = (refl, cc)
guarded_is e false x y is = absurd cc

key_keeps : (kind : Kind) (ms : Members) (key : KeyParts) → key_of kind ms ≡ Ok key → (is_key key ≡ true) × (key.kind ≡ kind)
unfolding key_of
key_keeps kind ms key is =
    let namespace = ok_then (namespace_in ms) _ key is in
    let name = ok_then (optional_text BadName (get_member (codes "name") ms)) _ key namespace.2 in
    let made : KeyParts = record { kind = kind; namespace = namespace.0; name = unwrap_or name.0 [] } in
    let same = guarded_is BadName (is_key made) made key name.2 in
    (ap is_key (sym same.1) ∙ same.0, ap (λ k. k.kind) (sym same.1))

-- the steps in which the draft was read
record IsReadBy (os : Members) (d : Draft) : Type 0 where
  named : Kind
  kind : Kind
  metadata : Members
  key : KeyParts
  store : DraftMeta
  named_is : kind_in os ≡ Ok named
  kind_is : guarded UnknownKind (is_missing_or (api_version named) (get_member (codes "apiVersion") os)) named ≡ Ok kind
  metadata_is : required BadName (option_and_then as_object (get_member (codes "metadata") os)) ≡ Ok metadata
  key_is : key_of kind metadata ≡ Ok key
  fits : metadata_fits metadata ≡ true
  made : draft_parts key store metadata os ≡ d

same_draft : (x d : Draft) (read : Result Draft ReadError) → read ≡ Ok x → read ≡ Ok d → x ≡ d
same_draft x d read one other = cc

read_by : (os : Members) (d : Draft) → draft_in os ≡ Ok d → IsReadBy os d
unfolding draft_in
read_by os d is =
    let named = ok_then (kind_in os) _ d is in
    let kind = ok_then (guarded UnknownKind (is_missing_or (api_version named.0) (get_member (codes "apiVersion") os)) named.0) _ d named.2 in
    let metadata = ok_then (required BadName (option_and_then as_object (get_member (codes "metadata") os))) _ d kind.2 in
    let key = ok_then (key_of kind.0 metadata.0) _ d metadata.2 in
    let fitting = ok_then (guarded BadMeta (metadata_fits metadata.0) metadata.0) _ d key.2 in
    let store = ok_then (draft_meta_in fitting.0) _ d fitting.2 in
    let same = guarded_is BadMeta (metadata_fits metadata.0) metadata.0 fitting.0 fitting.1 in
    record {
      named = named.0;
      kind = kind.0;
      metadata = metadata.0;
      key = key.0;
      store = store.0;
      named_is = named.1;
      kind_is = kind.1;
      metadata_is = metadata.1;
      key_is = key.1;
      fits = same.0;
      made = same_draft (draft_parts key.0 store.0 metadata.0 os) d (Ok (draft_parts key.0 store.0 metadata.0 os)) refl store.2;
    }

same_members : (ms ns : Members) (read : Result Members ReadError) → read ≡ Ok ms → read ≡ Ok ns → ns ≡ ms
same_members ms ns read one other = cc

same_metadata : (ms ns : Members) (found : Option Data) → found ≡ Some (object ms) → required BadName (option_and_then as_object found) ≡ Ok ns → ns ≡ ms
same_metadata ms ns found is read = same_members ms ns (required BadName (option_and_then as_object found)) (ap (λ f. required BadName (option_and_then as_object f)) is) read

-- what is known of such an object
pub record KeepsBody (os ms : Members) (d : Draft) : Type 0 where
  pub key : is_key d.object.key ≡ true
  pub body : IsBody d.object.key.kind d.object.body
  pub body_is : d.object.body ≡ object (put (codes "metadata") (object (without_held ms)) os)

keeps_by : (os ms : Members) (d : Draft) → get_member (codes "metadata") os ≡ Some (object ms) → IsReadBy os d → KeepsBody os ms d
keeps_by os ms d found r =
    let known = key_keeps r.kind r.metadata r.key r.key_is in
    let body = body_fits r.key.kind os r.metadata (says_kind os r.named r.kind r.key.kind r.named_is r.kind_is known.1) r.fits in
    record {
      key = subst (λ x. is_key x.object.key ≡ true) r.made known.0;
      body = subst (λ x. IsBody x.object.key.kind x.object.body) r.made body;
      body_is = ap (λ x. x.object.body) (sym r.made) ∙ ap (λ m. object (put (codes "metadata") (object (without_held m)) os)) (same_metadata ms r.metadata (get_member (codes "metadata") os) found r.metadata_is);
    }

pub keeps_body : (os ms : Members) (d : Draft) → get_member (codes "metadata") os ≡ Some (object ms) → draft_in os ≡ Ok d → KeepsBody os ms d
keeps_body os ms d found is = keeps_by os ms d found (read_by os d is)
