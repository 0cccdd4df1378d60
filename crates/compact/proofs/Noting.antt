-- What tables say, as members are added to a map.
use Rattle.std.proofs.Common.{◌≡◌, ℕ, List, Bool, true, false, codes, Some, cond, refl, subst, sym, ap, ◌∙◌}
use Rattle.std.specs.Prelude.{bytes_eq}
use Rattle.std.proofs.lemmas.Slice.Eq.{bytes_eq-Decides}
use Rattle.serde_json.specs.Data.{Data, Members, no_members, put}
use Rattle.serde_json.specs.Find.{get_member}
use Rattle.serde_json.proofs.Views.{get_member-put, get_member-put_other}
use Rattle.compact.specs.declared.table.Entry.{Entry}
use Rattle.compact.specs.declared.scanner.Tables.{Tables}
use Rattle.compact.specs.declared.scanner.Level.{Level}
use Rattle.compact.specs.declared.scanner.Level.TheVariants.{Line, Object, Metadata, Other}
use Rattle.compact.specs.Levels.{below}
use Rattle.compact.specs.Notes.{OfMembers, AtMember, AreEntries, IsMetadata, IsObject, Told, ToldBelow, IsNoted, with_table}

some_inj : (d e : Data) → Some d ≡ Some e → d ≡ e
some_inj d e h = cc

differ : {b : Bool} → b ≡ false → b ≡ true → ⊥
differ f t = cc

at_put : (b : Bool) (name k : List ℕ) (d : Data) (ms : Members) (old new : Tables) (P : Tables → Members → Type 0) → bytes_eq k name ≡ b → AtMember name (P old) ms
    → (b ≡ true → OfMembers (P new) d) → (b ≡ false → new ≡ old) → AtMember name (P new) (put k d ms)
at_put true name k d ms old new P is before here kept e found =
    let same = (bytes_eq-Decides k name).0 is in
    subst (OfMembers (P new)) (some_inj d e (sym (ap (λ n. get_member n (put k d ms)) (sym same) ∙ get_member-put k d ms) ∙ found)) (here refl)
at_put false name k d ms old new P is before here kept e found =
    let other : name ≡ k → ⊥ = λ same. differ is ((bytes_eq-Decides k name).1 (sym same)) in
    let was = sym (get_member-put_other name k d ms other) ∙ found in
    subst (λ t. OfMembers (P t) e) (sym (kept refl)) (before e was)

line_put : (b : Bool) (k : List ℕ) (d : Data) (ms : Members) (old new : Tables) → bytes_eq k (codes "object") ≡ b → ToldBelow Line old ms → IsNoted (cond b Object Other) old new d → ToldBelow Line new (put k d ms)
line_put true k d ms old new is before noted = at_put true (codes "object") k d ms old new IsObject is before (λ h. noted.0) (λ h. absurd cc)
line_put false k d ms old new is before noted = at_put false (codes "object") k d ms old new IsObject is before (λ h. absurd cc) (λ h. noted.1 refl)

object_put : (b : Bool) (k : List ℕ) (d : Data) (ms : Members) (old new : Tables) → bytes_eq k (codes "metadata") ≡ b → ToldBelow Object old ms → IsNoted (cond b Metadata Other) old new d → ToldBelow Object new (put k d ms)
object_put true k d ms old new is before noted = at_put true (codes "metadata") k d ms old new IsMetadata is before (λ h. noted.0) (λ h. absurd cc)
object_put false k d ms old new is before noted = at_put false (codes "metadata") k d ms old new IsMetadata is before (λ h. absurd cc) (λ h. noted.1 refl)

pub told_put : (level : Level) (k : List ℕ) (d : Data) (ms : Members) (old new : Tables) → ToldBelow level old ms → IsNoted (below level k) old new d → ToldBelow level new (put k d ms)
told_put Line k d ms old new before noted = line_put (bytes_eq k (codes "object")) k d ms old new refl before noted
told_put Object k d ms old new before noted = object_put (bytes_eq k (codes "metadata")) k d ms old new refl before noted
told_put Metadata k d ms old new before noted = tt
told_put Other k d ms old new before noted = tt

-- a table is added to what is said already
pub told_with : (level : Level) (t : Tables) (table : List Entry) (ms : Members) → AreEntries table ms → ToldBelow level t ms → Told level (with_table level t table) ms
told_with Line t table ms own before = (own, before)
told_with Object t table ms own before = (own, before)
told_with Metadata t table ms own before = own
told_with Other t table ms own before = tt

pub none_told : (level : Level) (t : Tables) → ToldBelow level t no_members
none_told Line t = λ d found. absurd cc
none_told Object t = λ d found. absurd cc
none_told Metadata t = tt
none_told Other t = tt

pub kept_elsewhere : (level : Level) (t : Tables) (table : List Entry) → level ≡ Other → with_table level t table ≡ t
kept_elsewhere level t table h = ap (λ l. with_table l t table) h

-- at the level `Other` nothing is said of members
pub elsewhere : (level : Level) (k : List ℕ) → level ≡ Other → below level k ≡ Other
elsewhere level k h = ap (λ l. below l k) h
