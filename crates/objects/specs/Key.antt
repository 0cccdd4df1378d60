-- What names an object: its kind, its namespace and its name.
use Rattle.std.specs.Prelude.{◌≡◌, ℕ, Bool, ◌&&◌, ◌==◌, List, ◌++◌, refl, if◌then◌else◌}
use Rattle.std.specs.Hash as fed
use Rattle.std.specs.Hash.{HashWrites}
use Rattle.std.specs.Ordering.{nat_cmp, then_cmp, on}
use Rattle.std.specs.Cmp.Lexicographic.{slice_cmp}
use Rattle.std.specs.declared.cmp.Ordering.{Ordering}
use Rattle.std.specs.Coded.{Coded, code_by, coded×, coded_ℕ, coded_list}
use Rattle.objects.specs.declared.kind.Kind.{Kind}
use Rattle.objects.specs.declared.kind.Kind.TheVariants.{StatefulSet, Pod, PersistentVolumeClaim, ControllerRevision}
use Rattle.objects.specs.Names.{is_dns_label}
use Rattle.objects.specs.Kind.{is_name}

pub record KeyParts : Type 0 where
  pub kind : Kind
  pub namespace : List ℕ
  pub name : List ℕ

abbrev pub key_parts : Kind → List ℕ → List ℕ → KeyParts
key_parts kind namespace name = record { kind = kind; namespace = namespace; name = name }

-- the index of a kind in the order of kinds
abbrev pub kind_index : Kind → ℕ
kind_index StatefulSet = 0
kind_index Pod = 1
kind_index PersistentVolumeClaim = 2
kind_index ControllerRevision = 3

abbrev pub kind_at : ℕ → Kind
kind_at n = if n == 0 then StatefulSet else if n == 1 then Pod else if n == 2 then PersistentVolumeClaim else ControllerRevision

pub kind_at-kind_index : (k : Kind) → kind_at (kind_index k) ≡ k
kind_at-kind_index StatefulSet = refl
kind_at-kind_index Pod = refl
kind_at-kind_index PersistentVolumeClaim = refl
kind_at-kind_index ControllerRevision = refl

abbrev pub kind_coded : Coded Kind
kind_coded = code_by ℕ coded_ℕ kind_index kind_at kind_at-kind_index

abbrev pub key_coded : Coded KeyParts
key_coded =
    code_by (Kind × (List ℕ × List ℕ)) (coded× kind_coded (coded× (coded_list coded_ℕ) (coded_list coded_ℕ)))
    (λ k. (k.kind, (k.namespace, k.name))) (λ p. record { kind = p.0; namespace = p.1.0; name = p.1.1 }) (λ _. refl)

-- the namespace is a DNS label, and the name follows its kind's rule
abbrev pub is_key : KeyParts → Bool
is_key k = is_dns_label k.namespace && is_name k.kind k.name

-- by kind, then by namespace, then by name, texts in byte order
abbrev pub key_cmp : KeyParts → KeyParts → Ordering
key_cmp = then_cmp (on (λ k. kind_index k.kind) nat_cmp) (then_cmp (on (λ k. k.namespace) (slice_cmp nat_cmp)) (on (λ k. k.name) (slice_cmp nat_cmp)))

-- what a key feeds a hasher: its kind, its namespace and its name
abbrev pub key_fed : KeyParts → HashWrites
key_fed k = fed.u8 (kind_index k.kind) ++ fed.str k.namespace ++ fed.str k.name
