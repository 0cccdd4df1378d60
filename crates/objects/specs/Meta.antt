-- What the store knows of an object (Kubernetes `ObjectMeta`: uid, resourceVersion, generation, deletionTimestamp).
use Rattle.std.specs.Prelude.{ℕ, ◌^◌, ◌<◌, List, Option, refl}
use Rattle.std.specs.Coded.{Coded, code_by, coded×, coded_ℕ, coded_list, coded_option}

-- 0 stands for none
pub record MetaParts : Type 0 where
  pub uid : ℕ
  pub revision : ℕ
  pub generation : ℕ
  pub deletion : Option (List ℕ)

abbrev pub meta_coded : Coded MetaParts
meta_coded =
    code_by (ℕ × (ℕ × (ℕ × Option (List ℕ)))) (coded× coded_ℕ (coded× coded_ℕ (coded× coded_ℕ (coded_option (coded_list coded_ℕ)))))
    (λ m. (m.uid, (m.revision, (m.generation, m.deletion))))
    (λ p. record { uid = p.0; revision = p.1.0; generation = p.1.1.0; deletion = p.1.1.1 }) (λ _. refl)

-- a UID has twelve hexadecimal digits, a resourceVersion fits 64 bits, and a generation is a signed one of 64 bits
pub record IsMeta (m : MetaParts) : Type 0 where
  pub uid : m.uid < 2 ^ 48
  pub revision : m.revision < 2 ^ 64
  pub generation : m.generation < 2 ^ 63
