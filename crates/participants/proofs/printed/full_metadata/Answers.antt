use Rattle.std.proofs.Common.{◌≡◌, ◌∙◌, ap, decimal, subst, ℕ, Err, IfOk, List, Ok, Option, Result}
use Rattle.std.specs.Prelude.{codes, option_map}
use Rattle.serde_json.specs.Data.{Data, Members, number, put, string, unsigned}
use Rattle.trees.specs.Building.{put_some}
use Rattle.trees.specs.Tree.{data_of}
use Rattle.trees.specs.declared.tree.Tree.{Tree}
use Rattle.objects.specs.Key.{KeyParts}
use Rattle.objects.specs.Meta.{MetaParts}
use Rattle.objects.specs.Object.{ObjectParts}
use Rattle.objects.specs.Text.{unless_zero}
use Rattle.objects.specs.Uid.{uid_text}
use Rattle.participants.proofs.printed.full_metadata.Goals as goal

-- what is told of the value that was read
told : {E : Type 0} (result : Result (Option Tree) E) (wanted : Option Data) (value : Option Tree) → result ≡ Ok value → IfOk result (λ t. option_map data_of t ≡ wanted) → option_map data_of value ≡ wanted
told result wanted value is all = subst (λ r. IfOk r (λ t. option_map data_of t ≡ wanted)) is all

told_all : {E : Type 0} (result : Result (Option Tree) E) (wanted other : Option Data) → wanted ≡ other → IfOk result (λ t. option_map data_of t ≡ wanted) → IfOk result (λ t. option_map data_of t ≡ other)
told_all result wanted other is = subst (λ d. IfOk result (λ t. option_map data_of t ≡ d)) is

last : {E F : Type 0} (result : Result Members E) (value : Result (Option Tree) F) (key : List ℕ) (before wanted_before : Members) (wanted : Option Data) → before ≡ wanted_before
    → IfOk result (λ ms. (v : Option Tree) × (value ≡ Ok v) × (ms ≡ put_some key (option_map data_of v) before)) → IfOk value (λ v. option_map data_of v ≡ wanted)
    → IfOk result (λ ms. ms ≡ put_some key wanted wanted_before)
last (Ok ms) value key before wanted_before wanted is h all = h.2 ∙ (λ j. put_some key (told value wanted h.0 h.1 all j) (is j))
last (Err e) value key before wanted_before wanted is h all = tt

pub returns : goal.returns
returns c =
    let meta = c.meta.view_is ∙ ap (λ (p : ObjectParts). p.meta) c.object.view_is in
    let key = c.key.view_is ∙ ap (λ (p : ObjectParts). p.key) c.object.view_is in
    let uid_is = c.in_ok-with_uid.ensures in
    let uid = told c.uid_of.result _ uid_is.0 uid_is.1 c.uid_of.ensures ∙ ap (λ (m : MetaParts). unless_zero m.uid (string (uid_text m.uid))) meta in
    let version_is = c.in_ok-with_version.ensures in
    let version = told c.version_of-version.result _ version_is.0 version_is.1 c.version_of-version.ensures ∙ ap (λ (m : MetaParts). unless_zero m.revision (string (decimal m.revision))) meta in
    let generation = c.generation_of.ensures ∙ ap (λ (m : MetaParts). unless_zero m.generation (number (unsigned m.generation))) meta in
    let namespace = c.as_str.ensures ∙ ap (λ (k : KeyParts). k.namespace) key in
    let name = c.as_str-2.ensures ∙ ap (λ (k : KeyParts). k.name) key in
    let with_uid = uid_is.2 ∙ ap (λ d. put_some (codes "uid") d c.args.metadata) uid in
    let with_version = version_is.2 ∙ (λ j. put_some (codes "resourceVersion") (version j) (with_uid j)) in
    let with_namespace = c.in_ok-with_namespace.ensures ∙ (λ j. put (codes "namespace") (string (namespace j)) (with_version j)) in
    let with_name = c.in_ok-with_name.ensures ∙ (λ j. put (codes "name") (string (name j)) (with_namespace j)) in
    let with_generation = c.in_ok-with_generation.ensures ∙ (λ j. put_some (codes "generation") (generation j) (with_name j)) in
    last c.with_read-3.result c.copied.result (codes "deletionTimestamp") c.in_ok-with_generation.with_generation _ _ with_generation c.with_read-3.ensures
    (told_all c.copied.result _ _ (ap (λ (m : MetaParts). option_map string m.deletion) meta) c.copied.ensures)
