-- What the writes of a list leave at a key is what the last record of the key says.
use Rattle.std.proofs.Common.{◌≡◌, ℕ, Bool, true, false, cond, [], ◌∷◌, List, Option, Some, None, option_and_then, fold, refl, ap, ◌∙◌}
use Rattle.std.specs.Option.{option_or}
use Rattle.std.specs.Ordering.{eq_by_cmp}
use Rattle.std.specs.FinMap as map
use Rattle.std.specs.FinMap.{FinMap, get, get-empty, get-insert, get-remove}
use Rattle.objects.specs.declared.key.Key.{Key}
use Rattle.objects.specs.declared.object.Object.{Object}
use Rattle.objects.specs.Key.{key_cmp}
use Rattle.objects.specs.KeyOrder.{key_cmp_total}
use Rattle.version_map.specs.Keyed.{put_at}
use Rattle.versions.specs.Records.{Record, Records, last_of, state_at, up_to, value}

-- what a record says, and if there is none what was there before
abbrev state_or : Option Record → Option Object → Option Object
state_or None before = before
state_or (Some r) before = r.1.state

put_there : (m : FinMap key_cmp Object) (q : Key) (o : Option Object) (k : Key) → get (put_at m q o) k ≡ cond (eq_by_cmp key_cmp k q) o (get m k)
put_there m q None k = get-remove key_cmp_total m q k
put_there m q (Some o) k = get-insert key_cmp_total m q o k

one_more : (b : Bool) (last : Option Record) (r : Record) (before : Option Object)
    → state_or last (cond b r.1.state before) ≡ state_or (option_or last (cond b (Some r) None)) before
one_more b (Some l) r before = refl
one_more true None r before = refl
one_more false None r before = refl

-- writes to any map
pub written_there : (rs : List Record) (m : FinMap key_cmp Object) (k : Key)
    → get (fold (λ m r. put_at m r.1.key r.1.state) m rs) k ≡ state_or (last_of k rs) (get m k)
written_there [] m k = refl
written_there (r ∷ rs) m k =
    written_there rs (put_at m r.1.key r.1.state) k
    ∙ ap (state_or (last_of k rs)) (put_there m r.1.key r.1.state k)
    ∙ one_more (eq_by_cmp key_cmp k r.1.key) (last_of k rs) r (get m k)

state_of_last : (last : Option Record) → state_or last None ≡ option_and_then (λ r. r.1.state) last
state_of_last None = refl
state_of_last (Some r) = refl

-- what is there at a number is what each key was at that number
pub state_is_value : (rs : Records) (n : ℕ) (k : Key) → get (state_at rs n) k ≡ value rs n k
state_is_value rs n k =
    written_there (up_to rs n) map.empty k ∙ ap (state_or (last_of k (up_to rs n))) (get-empty key_cmp k) ∙ state_of_last (last_of k (up_to rs n))
