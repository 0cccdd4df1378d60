-- The body of an object: its metadata without the held members.
use Rattle.std.proofs.Common.{◌≡◌, ◌≢◌, ℕ, List, [], ◌∷◌, Bool, true, false, not, filter, cond, Option, Some, None, Ok, refl, sym, ap, ◌∙◌, subst}
use Rattle.std.specs.Prelude.{codes, bytes_eq, option_and_then, ◌||◌}
use Rattle.std.proofs.lemmas.Bool.{and_parts}
use Rattle.std.proofs.lemmas.Slice.Eq.{bytes_eq-Decides}
use Rattle.serde_json.specs.Data.{Data, null, boolean, number, string, array, object, Members, no_members, member, put}
use Rattle.serde_json.specs.Find.{get_member, as_str, as_object}
use Rattle.serde_json.proofs.Views.{get_member-put, get_member-put_other}
use Rattle.objects.specs.declared.kind.Kind.{Kind}
use Rattle.objects.specs.declared.kind.Kind.TheVariants.{StatefulSet, Pod, PersistentVolumeClaim, ControllerRevision}
use Rattle.objects.specs.declared.fault.ReadError.TheVariants.{NoKind, UnknownKind}
use Rattle.trees.specs.declared.tree.Tree.{Tree}
use Rattle.trees.specs.Tree.{data_of, members_of}
use Rattle.objects.specs.Kind.{kind_name, kind_named, api_version}
use Rattle.objects.specs.MetadataShape.{labels_fit, owners_fit, metadata_fits}
use Rattle.objects.specs.Object.{is_held, without_held, has_held, is_missing_or, IsBody, SaysKind}
use Rattle.objects.specs.Steps.{◌>>=◌, required, guarded}
use Rattle.objects.specs.Reading.{kind_in}
use Rattle.trees.specs.Members.{set_member}
use Rattle.objects.specs.Status.{with_member, is_identity}
use Rattle.objects.specs.New.{new_body}
use Rattle.trees.proofs.SetMembers.{get_member-set_member}
use Rattle.objects.proofs.HeldMembers.{unheld_found}

held_at : (held : Bool) (e : List ℕ × Tree) (es : List (List ℕ × Tree)) (ms : Members) → members_of es ≡ ms → members_of (cond (not held) (e ∷ es) es) ≡ cond held ms (member e.0 (data_of e.1) ms)
held_at true e es ms h = h
held_at false e es ms h = ap (member e.0 (data_of e.1)) h

-- the entries that are not held are the members without the held ones
pub members_of-filter : (es : List (List ℕ × Tree)) → members_of (filter (λ e. not (is_held e.0)) es) ≡ without_held (members_of es)
members_of-filter [] = refl
members_of-filter (e ∷ es) = held_at (is_held e.0) e _ _ (members_of-filter es)

none_at : (held : Bool) (k : List ℕ) (d : Data) (ms : Members) → is_held k ≡ held → has_held ms ≡ false → has_held (cond held ms (member k d ms)) ≡ false
none_at true k d ms is h = h
none_at false k d ms is h = rw (is, h) refl

pub has_held-without_held : (ms : Members) → has_held (without_held ms) ≡ false
has_held-without_held no_members = refl
has_held-without_held (member k d ms) = none_at (is_held k) k d (without_held ms) refl (has_held-without_held ms)

some_kind : (s : List ℕ) (k kind : Kind) → bytes_eq s (kind_name k) ≡ true → Some k ≡ Some kind → s ≡ kind_name kind
some_kind s k kind is h = (bytes_eq-Decides s (kind_name k)).0 is ∙ ap kind_name cc

-- the tests in turn
by_name : (s : List ℕ) (a b c d : Bool) (kind : Kind) → bytes_eq s (kind_name StatefulSet) ≡ a → bytes_eq s (kind_name Pod) ≡ b → bytes_eq s (kind_name PersistentVolumeClaim) ≡ c → bytes_eq s (kind_name ControllerRevision) ≡ d
    → cond a (Some StatefulSet) (cond b (Some Pod) (cond c (Some PersistentVolumeClaim) (cond d (Some ControllerRevision) None))) ≡ Some kind → s ≡ kind_name kind
by_name s true b c d kind is-a is-b is-c is-d h = some_kind s StatefulSet kind is-a h
by_name s false true c d kind is-a is-b is-c is-d h = some_kind s Pod kind is-b h
by_name s false false true d kind is-a is-b is-c is-d h = some_kind s PersistentVolumeClaim kind is-c h
by_name s false false false true kind is-a is-b is-c is-d h = some_kind s ControllerRevision kind is-d h
by_name s false false false false kind is-a is-b is-c is-d h = absurd cc

pub kind_named-says : (s : List ℕ) (kind : Kind) → kind_named s ≡ Some kind → s ≡ kind_name kind
kind_named-says s kind h = by_name s _ _ _ _ kind refl refl refl refl h

required_kind : (o : Option Kind) (kind : Kind) → required UnknownKind o ≡ Ok kind → o ≡ Some kind
required_kind None kind h = absurd cc
required_kind (Some k) kind h = cc

said : (o : Option Data) (kind : Kind) → (required NoKind (option_and_then as_str o) >>= λ s. required UnknownKind (kind_named s)) ≡ Ok kind → o ≡ Some (string (kind_name kind))
said None kind h = absurd cc
said (Some (string s)) kind h = ap (λ t. Some (string t)) (kind_named-says s kind (required_kind (kind_named s) kind h))
said (Some null) kind h = absurd cc
said (Some (boolean b)) kind h = absurd cc
said (Some (number n)) kind h = absurd cc
said (Some (array ds)) kind h = absurd cc
said (Some (object ms)) kind h = absurd cc

-- the member `kind` is the kind's name
pub kind_in-says : (ms : Members) (kind : Kind) → kind_in ms ≡ Ok kind → get_member (codes "kind") ms ≡ Some (string (kind_name kind))
unfolding kind_in
kind_in-says ms kind h = said (get_member (codes "kind") ms) kind h

guarded_kind : (b : Bool) (named kind : Kind) → guarded UnknownKind b named ≡ Ok kind → (b ≡ true) × (named ≡ kind)
guarded_kind true named kind h = (refl, cc)
guarded_kind false named kind h = absurd cc

-- the version that was tested is that of the kind
pub version_says : (ms : Members) (named kind : Kind) → guarded UnknownKind (is_missing_or (api_version named) (get_member (codes "apiVersion") ms)) named ≡ Ok kind
    → (is_missing_or (api_version kind) (get_member (codes "apiVersion") ms) ≡ true) × (named ≡ kind)
version_says ms named kind h =
    let both = guarded_kind (is_missing_or (api_version named) (get_member (codes "apiVersion") ms)) named kind h in
    (subst (λ k. is_missing_or (api_version k) (get_member (codes "apiVersion") ms) ≡ true) both.1 both.0, both.1)

-- both members fit
pub fits_parts : (ms : Members) → metadata_fits ms ≡ true → (labels_fit (get_member (codes "labels") ms) ≡ true) × (owners_fit (get_member (codes "ownerReferences") ms) ≡ true)
unfolding metadata_fits
fits_parts ms fits = and_parts (labels_fit (get_member (codes "labels") ms)) (owners_fit (get_member (codes "ownerReferences") ms)) fits

-- what a body has to say, said by its members and its metadata
pub body_of_metadata : (kind : Kind) (ms metadata : Members) → SaysKind kind ms → has_held metadata ≡ false → labels_fit (get_member (codes "labels") metadata) ≡ true
    → owners_fit (get_member (codes "ownerReferences") metadata) ≡ true → IsBody kind (object (put (codes "metadata") (object metadata) ms))
body_of_metadata kind ms metadata said unheld labels owners =
    record {
      members = put (codes "metadata") (object metadata) ms;
      metadata = metadata;
      made_of = refl;
      kind_member = get_member-put_other (codes "kind") (codes "metadata") (object metadata) ms (λ e. absurd cc) ∙ said.kind_member;
      version_member = ap (is_missing_or (api_version kind)) (get_member-put_other (codes "apiVersion") (codes "metadata") (object metadata) ms (λ e. absurd cc)) ∙ said.version_member;
      metadata_member = get_member-put (codes "metadata") (object metadata) ms;
      none_held = unheld;
      labels_member = labels;
      owners_member = owners;
    }

-- the same by the members that were read
pub body_fits : (kind : Kind) (ms metadata : Members) → SaysKind kind ms → metadata_fits metadata ≡ true → IsBody kind (object (put (codes "metadata") (object (without_held metadata)) ms))
body_fits kind ms metadata said fits =
    let parts = fits_parts metadata fits in
    body_of_metadata kind ms (without_held metadata) said (has_held-without_held metadata)
    (ap labels_fit (unheld_found (codes "labels") metadata refl) ∙ parts.0) (ap owners_fit (unheld_found (codes "ownerReferences") metadata refl) ∙ parts.1)

-- what was read of the kind
pub says_kind : (ms : Members) (named kind keyed : Kind) → kind_in ms ≡ Ok named → guarded UnknownKind (is_missing_or (api_version named) (get_member (codes "apiVersion") ms)) named ≡ Ok kind → keyed ≡ kind → SaysKind keyed ms
says_kind ms named kind keyed read tested same =
    let version = version_says ms named kind tested in
    subst (λ k. SaysKind k ms) (sym same) (record {
      kind_member = subst (λ k. get_member (codes "kind") ms ≡ Some (string (kind_name k))) version.1 (kind_in-says ms named read);
      version_member = version.0;
    })

pub is_object : (d : Data) (ms : Members) → Some ms ≡ as_object d → d ≡ object ms
is_object (object ns) ms h = ap object cc
is_object null ms h = absurd cc
is_object (boolean b) ms h = absurd cc
is_object (number n) ms h = absurd cc
is_object (string s) ms h = absurd cc
is_object (array ds) ms h = absurd cc

-- setting or removing a member keeps what a body has to say, unless the member says that
body_with : (k : List ℕ) (kind : Kind) (value : Option Data) (body : Data) → codes "kind" ≢ k → codes "apiVersion" ≢ k → codes "metadata" ≢ k → IsBody kind body → IsBody kind (with_member k value body)
body_with k kind value body not_kind not_version not_metadata h =
    subst (λ b. IsBody kind (with_member k value b)) (sym h.made_of) (record {
      members = set_member k value h.members;
      metadata = h.metadata;
      made_of = refl;
      kind_member = get_member-set_member (codes "kind") k value h.members not_kind ∙ h.kind_member;
      version_member = ap (is_missing_or (api_version kind)) (get_member-set_member (codes "apiVersion") k value h.members not_version) ∙ h.version_member;
      metadata_member = get_member-set_member (codes "metadata") k value h.members not_metadata ∙ h.metadata_member;
      none_held = h.none_held;
      labels_member = h.labels_member;
      owners_member = h.owners_member;
    })

pub body_with_status : (kind : Kind) (value : Option Data) (body : Data) → IsBody kind body → IsBody kind (with_member (codes "status") value body)
body_with_status kind value body h = body_with (codes "status") kind value body (λ e. absurd cc) (λ e. absurd cc) (λ e. absurd cc) h

-- a key that is none of these is none of them
other_by : (a b c : Bool) → (a || b || c) ≡ false → (a ≡ false) × (b ≡ false) × (c ≡ false)
other_by true b c h = absurd cc
other_by false true c h = absurd cc
other_by false false true h = absurd cc
other_by false false false h = (refl, refl, refl)

differs : (k word : List ℕ) → bytes_eq k word ≡ false → word ≢ k
differs k word h e = let same : bytes_eq k word ≡ true = (bytes_eq-Decides k word).1 (sym e) in cc

pub body_with_member : (k : List ℕ) (kind : Kind) (value : Option Data) (body : Data) → is_identity k ≡ false → IsBody kind body → IsBody kind (with_member k value body)
body_with_member k kind value body other h =
    let parts = other_by (bytes_eq k (codes "apiVersion")) (bytes_eq k (codes "kind")) (bytes_eq k (codes "metadata")) other in
    body_with k kind value body (differs k (codes "kind") parts.1) (differs k (codes "apiVersion") parts.0) (differs k (codes "metadata") parts.2) h

-- what a new body says
pub new_body_fits : (kind : Kind) (metadata ms : Members) → has_held metadata ≡ false → metadata_fits metadata ≡ true → IsBody kind (new_body kind metadata ms)
new_body_fits kind metadata ms unheld fits =
    let parts = fits_parts metadata fits in
    let versioned = put (codes "apiVersion") (string (api_version kind)) ms in
    let version : get_member (codes "apiVersion") (put (codes "kind") (string (kind_name kind)) versioned) ≡ Some (string (api_version kind)) =
    get_member-put_other (codes "apiVersion") (codes "kind") (string (kind_name kind)) versioned (λ e. absurd cc) ∙ get_member-put (codes "apiVersion") (string (api_version kind)) ms in
    let said : SaysKind kind (put (codes "kind") (string (kind_name kind)) versioned) = record {
      kind_member = get_member-put (codes "kind") (string (kind_name kind)) versioned;
      version_member = ap (is_missing_or (api_version kind)) version ∙ (bytes_eq-Decides (api_version kind) (api_version kind)).1 refl;
    } in
    body_of_metadata kind (put (codes "kind") (string (kind_name kind)) versioned) metadata said unheld parts.0 parts.1

-- a new body, member by member
pub new_body_is : (kind : Kind) (metadata ms versioned named whole : Members) (version name : List ℕ) → version ≡ api_version kind → name ≡ kind_name kind
    → versioned ≡ put (codes "apiVersion") (string version) ms → named ≡ put (codes "kind") (string name) versioned → whole ≡ put (codes "metadata") (object metadata) named
    → new_body kind metadata ms ≡ object whole
new_body_is kind metadata ms versioned named whole version name version_is name_is versioned_is named_is whole_is = rw (whole_is, named_is, versioned_is, version_is, name_is) refl
