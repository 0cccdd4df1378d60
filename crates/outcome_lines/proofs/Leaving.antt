-- The members of an object that has any, and what else has one text.
use Rattle.std.proofs.Common.{◌++◌, ◌∷◌, ◌≡◌, ℕ, [], List, None, Option, Some, ap, codes, refl, suc}
use Rattle.std.specs.Prelude.{if◌then◌else◌}
use Rattle.serde_json.specs.Data.{Data, null, boolean, number, string, array, object, Members, no_members, member, depth, members_depth}
use Rattle.serde_json.specs.Find.{as_object}
use Rattle.outcome_lines.specs.ObjectWords.{has_members, inner_of, leaf, leaves, member_leaves}

abbrev pub inner_in : Option Members → Option Members
inner_in None = None
inner_in (Some ms) = if has_members ms then Some ms else None

pub inner_by : (d : Data) → inner_of d ≡ inner_in (as_object d)
inner_by null = refl
inner_by (boolean b) = refl
inner_by (number n) = refl
inner_by (string s) = refl
inner_by (array ds) = refl
inner_by (object ms) = refl

abbrev pub leaves_by : (path : List ℕ) → Data → Option Members → List (List ℕ)
leaves_by path d None = leaf path d ∷ []
leaves_by path d (Some ms) = member_leaves (path ++ codes ".") ms

pub leaves_are : (path : List ℕ) (d : Data) → leaves path d ≡ leaves_by path d (inner_of d)
leaves_are path null = refl
leaves_are path (boolean b) = refl
leaves_are path (number n) = refl
leaves_are path (string s) = refl
leaves_are path (array ds) = refl
leaves_are path (object no_members) = refl
leaves_are path (object (member k d ms)) = refl

pub inner_depth : (d : Data) (ms : Members) → inner_of d ≡ Some ms → depth d ≡ suc (members_depth ms)
inner_depth null ms is = absurd cc
inner_depth (boolean b) ms is = absurd cc
inner_depth (number n) ms is = absurd cc
inner_depth (string s) ms is = absurd cc
inner_depth (array ds) ms is = absurd cc
inner_depth (object no_members) ms is = absurd cc
inner_depth (object (member k d rest)) ms is = ap (λ o. suc (members_depth (or_those o))) is
  where
    or_those : Option Members → Members
    or_those None = member k d rest
    or_those (Some those) = those
