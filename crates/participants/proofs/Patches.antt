-- A merge patch, member after member.
use Rattle.participants.proofs.Lists.{drop_at}
use Rattle.participants.specs.Merging.{members_in, merged, merged_members, unless_null}
use Rattle.serde_json.specs.Data.{Data, Members, array, boolean, depth, members_depth, null, number, object, string}
use Rattle.serde_json.specs.Find.{as_object, get_member}
use Rattle.std.proofs.Common.{List, None, Option, Some, ap, arith, drop, get_or, length, refl, sym, ℕ, ◌+◌, ◌<◌, ◌∙◌, ◌≡◌}
use Rattle.trees.specs.Members.{set_member}
use Rattle.trees.specs.Tree.{data_of, members_of}
use Rattle.trees.specs.declared.tree.Tree.{Tree}

-- the members so far, changed by those that are left, are the whole
pub merged-next : (patch : List (List ℕ × Tree)) (i : ℕ) (e : List ℕ × Tree) (old new whole : Members) → i < length patch → e ≡ get_or patch i e
    → merged_members old (members_of (drop i patch)) ≡ whole
    → new ≡ set_member e.0 (unless_null (data_of e.1) (merged (get_member e.0 old) (data_of e.1))) old
    → merged_members new (members_of (drop (i + 1) patch)) ≡ whole
merged-next patch i e old new whole lt is so_far one =
    ap (λ ms. merged_members ms (members_of (drop (i + 1) patch))) one
    ∙ sym (ap (λ es. merged_members old (members_of es)) (drop_at patch i e lt is)) ∙ so_far

pub merged_map : (target : Option Data) (patch : Data) (ps : Members) → Some ps ≡ as_object patch → merged target patch ≡ object (merged_members (members_in target) ps)
merged_map target null ps is = absurd cc
merged_map target (boolean b) ps is = absurd cc
merged_map target (number n) ps is = absurd cc
merged_map target (string s) ps is = absurd cc
merged_map target (array ds) ps is = absurd cc
merged_map target (object ms) ps is = let same : ps ≡ ms = cc in ap (λ qs. object (merged_members (members_in target) qs)) (sym same)

pub merged_other : (target : Option Data) (patch : Data) → None ≡ as_object patch → merged target patch ≡ patch
merged_other target null is = refl
merged_other target (boolean b) is = refl
merged_other target (number n) is = refl
merged_other target (string s) is = refl
merged_other target (array ds) is = refl
merged_other target (object ms) is = absurd cc

pub map_depth : (patch : Data) (ps : Members) → Some ps ≡ as_object patch → members_depth ps < depth patch
map_depth null ps is = absurd cc
map_depth (boolean b) ps is = absurd cc
map_depth (number n) ps is = absurd cc
map_depth (string s) ps is = absurd cc
map_depth (array ds) ps is = absurd cc
map_depth (object ms) ps is = let same : ps ≡ ms = cc in omega (arith, ap members_depth same)
