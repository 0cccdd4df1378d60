-- What a shard's records say is what its notes say, and lists of notes cut at a number.
use Rattle.std.proofs.Common.{◌≡◌, ℕ, suc, ◌<◌, ◌≤◌, Bool, true, false, cond, nat_le, List, [], ◌∷◌, length, map, Option, Some, None, refl, sym, ap, ◌∙◌, subst, arith}
use Rattle.std.specs.Prelude.{filter, leb, option_and_then, option_map}
use Rattle.std.specs.Option.{option_or}
use Rattle.std.specs.FinMap.{entries}
use Rattle.std.proofs.lemmas.Bool.{leb-true, le-leb}
use Rattle.objects.specs.declared.key.Key.{Key}
use Rattle.objects.specs.declared.object.Object.{Object}
use Rattle.std.specs.List.{Contains}
use Rattle.requests.specs.Change.{Change, creates, kept, marks, removes, updates}
use Rattle.versions.specs.Records.{Record, Records, current, last_of, newest}
use Rattle.line.specs.Notes.{keep, notes_up_to}
use Rattle.interleavings.proofs.Basics.{is_key_at}
use Rattle.store.specs.declared.writing.Writing.{Writing}
use Rattle.store.specs.History.{current_of, key_of, record_of, records_of, state_of}
use Rattle.store.specs.Rule.{newest_of, number_of}
use Rattle.store.specs.Tickets.{Saw}
use Rattle.store.specs.Views.{number_in}

keep_records : (b : Bool) (p : ℕ × Writing) (ps : List (ℕ × Writing)) → records_of (keep b p ps) ≡ cond b (record_of p ∷ records_of ps) (records_of ps)
keep_records true p ps = refl
keep_records false p ps = refl

pub upto_records : (n : ℕ) (ps : List (ℕ × Writing)) → filter (λ (r : Record). nat_le r.0 n) (records_of ps) ≡ records_of (notes_up_to n ps)
upto_records n [] = refl
upto_records n (p ∷ ps) = ap (λ l. cond (nat_le p.0 n) (record_of p ∷ l) l) (upto_records n ps) ∙ sym (keep_records (nat_le p.0 n) p (notes_up_to n ps))

by_newest : (o : Option Record) → option_and_then (λ (r : Record). r.1.state) o ≡ option_and_then (λ (p : ℕ × Option Object). p.1) (option_map (λ (r : Record). (r.0, r.1.state)) o)
by_newest None = refl
by_newest (Some r) = refl

pub current_is : (rs : Records) (has : List (ℕ × Writing)) → ((k : Key) → newest rs k ≡ newest_of has k) → (k : Key) → current rs k ≡ current_of has k
current_is rs has shown k = by_newest (last_of k (entries rs)) ∙ (ap (option_and_then (λ (p : ℕ × Option Object). p.1)) (shown k) ∙ sym (by_newest (last_of k (records_of has))))

-- ---- the last record of a key, and its number
abbrev pub last_number : Option Record → ℕ
last_number None = 0
last_number (Some r) = r.0

pub number_is : (rs : Records) (has : List (ℕ × Writing)) → ((k : Key) → newest rs k ≡ newest_of has k) → (k : Key) → number_in (newest rs k) ≡ last_number (last_of k (records_of has))
number_is rs has shown k = ap number_in (shown k) ∙ by (last_of k (records_of has))
  where
    by : (o : Option Record) → number_in (option_map (λ (r : Record). (r.0, r.1.state)) o) ≡ last_number o
    by None = refl
    by (Some r) = refl

-- a prefix up to a number that is not below the last one of a key has all of the key's writes
pub settled : (k : Key) (m : ℕ) (ps : List (ℕ × Writing)) → last_number (last_of k (records_of ps)) ≤ m → last_of k (records_of (notes_up_to m ps)) ≡ last_of k (records_of ps)
settled k m [] le = refl
settled k m (p ∷ ps) le = by (last_of k (records_of ps)) refl le (settled k m ps)
  where
    head : Option Record
    head = cond (is_key_at k (key_of p.1)) (Some (record_of p)) None

    none_more : (o : Option Record) → o ≡ option_or o None
    none_more None = refl
    none_more (Some r) = refl

    nothing : (c : Bool) → cond {A = Option Record} c None None ≡ None
    nothing true = refl
    nothing false = refl

    kept : (b : Bool) → last_of k (records_of (keep b p (notes_up_to m ps))) ≡ option_or (last_of k (records_of (notes_up_to m ps))) (cond b head None)
    kept true = refl
    kept false = none_more (last_of k (records_of (notes_up_to m ps)))

    only : (b : Bool) → is_key_at k (key_of p.1) ≡ b → last_number head ≤ m → cond (leb p.0 m) head None ≡ head
    only true q l = ap (λ c. cond c head None) (le-leb p.0 m (subst (λ c. last_number (cond c (Some (record_of p)) None) ≤ m) q l))
    only false q l = ap (λ c. cond (leb p.0 m) (cond c (Some (record_of p)) None) None) q ∙ (nothing (leb p.0 m) ∙ ap (λ c. cond c (Some (record_of p)) None) (sym q))

    by : (o : Option Record) → last_of k (records_of ps) ≡ o → last_number (option_or o head) ≤ m → (last_number (last_of k (records_of ps)) ≤ m → last_of k (records_of (notes_up_to m ps)) ≡ last_of k (records_of ps))
        → last_of k (records_of (keep (leb p.0 m) p (notes_up_to m ps))) ≡ option_or (last_of k (records_of ps)) head
    by (Some r) e le' ih =
        let same = ih (subst (λ o. last_number o ≤ m) (sym e) le') in
        kept (leb p.0 m) ∙ (ap (λ o. option_or o (cond (leb p.0 m) head None)) (same ∙ e) ∙ ap (λ o. option_or o head) (sym e))
    by None e le' ih =
        let same = ih (subst (λ o. last_number o ≤ m) (sym e) (omega arith)) in
        kept (leb p.0 m) ∙ (ap (λ o. option_or o (cond (leb p.0 m) head None)) (same ∙ e) ∙ (only (is_key_at k (key_of p.1)) refl le' ∙ ap (λ o. option_or o head) (sym e)))

pub settled_state : (k : Key) (m : ℕ) (ps : List (ℕ × Writing)) → last_number (last_of k (records_of ps)) ≤ m → current_of (notes_up_to m ps) k ≡ current_of ps k
settled_state k m ps le = ap state_of (settled k m ps le)

-- ---- numbers up to one
upto_short : (d : ℕ) (ps : List (ℕ × Writing)) → length (notes_up_to d ps) ≤ length ps
upto_short d [] = omega arith
upto_short d (p ∷ ps) = by (leb p.0 d) (upto_short d ps)
  where
    by : (b : Bool) → length (notes_up_to d ps) ≤ length ps → length (keep b p (notes_up_to d ps)) ≤ suc (length ps)
    by true le = omega arith
    by false le = omega arith

-- if all have a number up to d, the first has, and so have the others
all_first : (d : ℕ) (p : ℕ × Writing) (ps : List (ℕ × Writing)) → notes_up_to d (p ∷ ps) ≡ p ∷ ps → (p.0 ≤ d) × (notes_up_to d ps ≡ ps)
all_first d p ps e = by (leb p.0 d) refl e
  where
    by : (b : Bool) → leb p.0 d ≡ b → keep b p (notes_up_to d ps) ≡ p ∷ ps → (p.0 ≤ d) × (notes_up_to d ps ≡ ps)
    by true q is = (leb-true p.0 d q, cc is)
    by false q is = absurd (let l = upto_short d ps in let s = ap length is in omega arith)

pub last_le : (k : Key) (d : ℕ) (ps : List (ℕ × Writing)) → notes_up_to d ps ≡ ps → last_number (last_of k (records_of ps)) ≤ d
last_le k d [] e = omega arith
last_le k d (p ∷ ps) e =
    let a = all_first d p ps e in by (last_of k (records_of ps)) (is_key_at k (key_of p.1)) (last_le k d ps a.1) a.0
  where
    by : (o : Option Record) (b : Bool) → last_number o ≤ d → p.0 ≤ d → last_number (option_or o (cond b (Some (record_of p)) None)) ≤ d
    by (Some r) b le le' = le
    by None true le le' = le'
    by None false le le' = le

-- ---- the version that is there is at its revision
kept_saw : (c : Change) (n : ℕ) → 0 < n → Saw (kept c n) n
kept_saw (creates o) n first = (first, refl)
kept_saw (updates o) n first = (first, refl)
kept_saw (marks o) n first = (first, refl)
kept_saw (removes o) n first = tt

pub saw_current : (k : Key) (ps : List (ℕ × Writing)) → ((n : ℕ) → Contains (map number_of ps) n → 0 < n) → Saw (current_of ps k) (last_number (last_of k (records_of ps)))
saw_current k [] first = tt
saw_current k (p ∷ ps) first = by (last_of k (records_of ps)) (saw_current k ps (λ n c. first n (suc c.0, (let w = c.1 in omega arith), c.2))) (is_key_at k (key_of p.1))
  where
    by : (o : Option Record) → Saw (state_of o) (last_number o) → (b : Bool) → Saw (state_of (option_or o (cond b (Some (record_of p)) None))) (last_number (option_or o (cond b (Some (record_of p)) None)))
    by (Some r) h b = h
    by None h true = kept_saw p.1.change p.0 (first p.0 (0, omega arith, refl))
    by None h false = tt
