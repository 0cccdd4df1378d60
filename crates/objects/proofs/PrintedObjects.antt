-- What is printed of an object with a body, and that it is canonical.
use Rattle.std.proofs.Common.{◌≡◌, refl, sym, subst}
use Rattle.std.specs.Prelude.{codes}
use Rattle.serde_json.specs.Data.{object, Members, put}
use Rattle.objects.specs.declared.kind.Kind.{Kind}
use Rattle.objects.specs.declared.object.Object.{Object}
use Rattle.objects.specs.Meta.{IsMeta}
use Rattle.objects.specs.Object.{IsBody}
use Rattle.trees.specs.Tree.{AreAscending}
use Rattle.trees.specs.Canonical.{IsCanonical, AreCanonicalMembers}
use Rattle.objects.specs.Text.{full_metadata, printed}
use Rattle.trees.proofs.EntryPositions.{ascending_put}
use Rattle.trees.proofs.PutOrder.{canonical_put, canonical_found}
use Rattle.objects.proofs.HeldMembers.{full_ascending, full_canonical}

-- the members with the full metadata in them
abbrev pub printed_members : Object → Members → Members → Members
printed_members o metadata members = put (codes "metadata") (object (full_metadata o metadata)) members

-- an object as JSON, by what its body says
pub printed_is : (kind : Kind) (o : Object) (b : IsBody kind o.body) → printed o ≡ object (printed_members o b.metadata b.members)
unfolding printed
printed_is kind o b = rw (b.made_of, b.metadata_member) refl

-- the members of a canonical body
pub body_canonical : (o : Object) (b : IsBody o.key.kind o.body) → IsCanonical o.body → AreAscending b.members × AreCanonicalMembers b.members
body_canonical o b canonical = subst IsCanonical b.made_of canonical

-- the metadata of a canonical body
pub metadata_canonical : (o : Object) (b : IsBody o.key.kind o.body) → IsCanonical o.body → AreAscending b.metadata × AreCanonicalMembers b.metadata
metadata_canonical o b canonical = canonical_found (codes "metadata") (object b.metadata) b.members (body_canonical o b canonical).1 b.metadata_member

-- an object with a canonical body is printed as a canonical value
pub printed_canonical : (o : Object) → IsBody o.key.kind o.body → IsCanonical o.body → IsMeta o.meta → IsCanonical (printed o)
printed_canonical o b canonical meta =
    let members = body_canonical o b canonical in
    let metadata = metadata_canonical o b canonical in
    subst IsCanonical (sym (printed_is o.key.kind o b)) (
      ascending_put (codes "metadata") (object (full_metadata o b.metadata)) b.members members.0,
      canonical_put (codes "metadata") (object (full_metadata o b.metadata)) b.members (full_ascending o b.metadata metadata.0, full_canonical o b.metadata meta metadata.1) members.1,
    )
