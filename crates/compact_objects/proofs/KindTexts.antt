-- The names and the versions of kinds, as they are written.
use Rattle.std.proofs.Common.{◌≡◌, ℕ, List, [], ◌∷◌, ◌++◌, Some, None, option_map, false, true, refl, sym, ap, ◌∙◌}
use Rattle.std.specs.Prelude.{codes, Option, option_and_then, Result, Ok}
use Rattle.serde_json.specs.Data.{Data, string, Members}
use Rattle.serde_json.specs.Find.{get_member, as_str}
use Rattle.serde_json.specs.Written.{compact_text}
use Rattle.objects.specs.declared.kind.Kind.{Kind}
use Rattle.objects.specs.declared.kind.Kind.TheVariants.{StatefulSet, Pod, PersistentVolumeClaim, ControllerRevision}
use Rattle.objects.specs.declared.fault.ReadError.{ReadError}
use Rattle.objects.specs.declared.fault.ReadError.TheVariants.{NoKind, UnknownKind}
use Rattle.objects.specs.Steps.{◌>>=◌, required}
use Rattle.objects.specs.Kind.{kind_name, kind_named, api_version}
use Rattle.objects.specs.Object.{is_missing_or}
use Rattle.objects.specs.Reading.{kind_in}
use Rattle.compact_objects.proofs.Texts.{has_backslash, text_said}

said : (found : Option Data) (value inside : List ℕ) → Some value ≡ option_map compact_text found → value ≡ 34 ∷ (inside ++ 34 ∷ []) → has_backslash inside ≡ false → found ≡ Some (string inside)
said None value inside is quoted none = absurd cc
said (Some v) value inside is quoted none = let same : value ≡ compact_text v = cc in ap Some (text_said v inside (sym same ∙ quoted) none)

-- ---- the member `kind`

abbrev kind_from : Option Data → Result Kind ReadError
kind_from found = do
  name ← required NoKind (option_and_then as_str found)
  required UnknownKind (kind_named name)

kind_in_is : (ms : Members) → kind_in ms ≡ kind_from (get_member (codes "kind") ms)
unfolding kind_in
kind_in_is ms = refl

kind_again : (kind : Kind) → kind_from (Some (string (kind_name kind))) ≡ Ok kind
kind_again StatefulSet = refl
kind_again Pod = refl
kind_again PersistentVolumeClaim = refl
kind_again ControllerRevision = refl

plain_name : (kind : Kind) → has_backslash (kind_name kind) ≡ false
plain_name StatefulSet = refl
plain_name Pod = refl
plain_name PersistentVolumeClaim = refl
plain_name ControllerRevision = refl

pub kind_read : (ms : Members) (value inside : List ℕ) (kind : Kind) → Some value ≡ option_map compact_text (get_member (codes "kind") ms) → value ≡ 34 ∷ (inside ++ 34 ∷ []) → inside ≡ kind_name kind → kind_in ms ≡ Ok kind
kind_read ms value inside kind is quoted name =
    kind_in_is ms ∙ ap kind_from (said (get_member (codes "kind") ms) value (kind_name kind) is (quoted ∙ ap (λ t. 34 ∷ (t ++ 34 ∷ [])) name) (plain_name kind)) ∙ kind_again kind

-- ---- the member `apiVersion`

version_again : (kind : Kind) → is_missing_or (api_version kind) (Some (string (api_version kind))) ≡ true
version_again StatefulSet = refl
version_again Pod = refl
version_again PersistentVolumeClaim = refl
version_again ControllerRevision = refl

plain_version : (kind : Kind) → has_backslash (api_version kind) ≡ false
plain_version StatefulSet = refl
plain_version Pod = refl
plain_version PersistentVolumeClaim = refl
plain_version ControllerRevision = refl

pub version_read : (found : Option Data) (value text : List ℕ) (kind : Kind) → Some value ≡ option_map compact_text found → value ≡ 34 ∷ (text ++ 34 ∷ []) → text ≡ api_version kind → is_missing_or (api_version kind) found ≡ true
version_read found value text kind is quoted version =
    ap (is_missing_or (api_version kind)) (said found value (api_version kind) is (quoted ∙ ap (λ t. 34 ∷ (t ++ 34 ∷ [])) version) (plain_version kind)) ∙ version_again kind
