-- A body's member when one member is set or removed, and the members of a body of whole numbers.
use Rattle.std.proofs.Common.{◌≡◌, ℕ, List, Bool, true, false, cond, bytes_eq, Option, Some, None, IfSome, refl, ◌∙◌}
use Rattle.std.specs.Ordering.{nat_cmp, match_ordering}
use Rattle.std.specs.declared.cmp.Ordering.{Ordering}
use Rattle.std.specs.declared.cmp.Ordering.TheVariants.{Less, Equal, Greater}
use Rattle.std.specs.Cmp.Lexicographic.{slice_cmp}
use Rattle.std.proofs.lemmas.Bool.{or_parts}
use Rattle.serde_json.specs.Data.{Data, null, boolean, number, string, array, object, Members, no_members, member}
use Rattle.serde_json.specs.Find.{get_member}
use Rattle.serde_json.specs.Written.{has_float, members_have_float}
use Rattle.serde_json.proofs.Views.{get_member-put}
use Rattle.trees.specs.Members.{without_member, set_member}
use Rattle.objects.specs.Status.{member_of, with_member}
use Rattle.trees.proofs.Lookups.{found_later}
use Rattle.trees.proofs.SetMembers.{get_member-set_member}

none_left_at : (b : Bool) (k l : List ℕ) (d : Data) (without : Members) → bytes_eq k l ≡ b → get_member k without ≡ None → get_member k (cond b without (member l d without)) ≡ None
none_left_at true k l d without same later = later
none_left_at false k l d without same later = found_later k l d without same ∙ later

none_left : (k : List ℕ) (ms : Members) → get_member k (without_member k ms) ≡ None
none_left k no_members = refl
none_left k (member l d ms) = none_left_at (bytes_eq k l) k l d (without_member k ms) refl (none_left k ms)

-- the key that is set has the value that it is set to
pub set_found : (k : List ℕ) (value : Option Data) (ms : Members) → get_member k (set_member k value ms) ≡ value
set_found k None ms = none_left k ms
set_found k (Some d) ms = get_member-put k d ms

pub member_of-with_member : (k : List ℕ) (value : Option Data) (ms : Members) → member_of k (with_member k value (object ms)) ≡ value
member_of-with_member k value ms = set_found k value ms

-- no body has a member that was removed
pub member_of-without : (k : List ℕ) (body : Data) → member_of k (with_member k None body) ≡ None
member_of-without k null = refl
member_of-without k (boolean b) = refl
member_of-without k (number n) = refl
member_of-without k (string s) = refl
member_of-without k (array ds) = refl
member_of-without k (object ms) = none_left k ms

-- the other members stay as they were
pub member_of-with_other : (q k : List ℕ) (value : Option Data) (body : Data) → (q ≡ k → ⊥) → member_of q (with_member k value body) ≡ member_of q body
member_of-with_other q k value null other = refl
member_of-with_other q k value (boolean b) other = refl
member_of-with_other q k value (number n) other = refl
member_of-with_other q k value (string s) other = refl
member_of-with_other q k value (array ds) other = refl
member_of-with_other q k value (object ms) other = get_member-set_member q k value ms other

-- ---- whole numbers

integral_at : (o : Ordering) (x : Option Data) (e : Data) → IfSome x (λ d. has_float d ≡ false) → has_float e ≡ false → IfSome (match_ordering o x (Some e) x) (λ d. has_float d ≡ false)
integral_at Less x e later here = later
integral_at Equal x e later here = here
integral_at Greater x e later here = later

found_integral : (k : List ℕ) (ms : Members) → members_have_float ms ≡ false → IfSome (get_member k ms) (λ d. has_float d ≡ false)
found_integral k no_members whole = tt
found_integral k (member l e ms) whole =
    let parts = or_parts (has_float e) (members_have_float ms) whole in
    integral_at (slice_cmp nat_cmp k l) (get_member k ms) e (found_integral k ms parts.1) parts.0

-- a member of a body of whole numbers has whole numbers
pub member_of-integral : (k : List ℕ) (body : Data) → has_float body ≡ false → IfSome (member_of k body) (λ d. has_float d ≡ false)
member_of-integral k null whole = tt
member_of-integral k (boolean b) whole = tt
member_of-integral k (number n) whole = tt
member_of-integral k (string s) whole = tt
member_of-integral k (array ds) whole = tt
member_of-integral k (object ms) whole = found_integral k ms whole
