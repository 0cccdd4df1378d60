-- Short names in the bytes that hold them: they are found there again, and compare as those bytes do as numbers.
use Rattle.std.proofs.Common.{◌≡◌, ◌<◌, ◌≤◌, ◌+◌, ◌*◌, ◌-◌, ◌++◌, ◌∷◌, [], ℕ, zero, suc, List, length, take, drop, replicate, slice_set, refl, sym, ap, subst, ◌∙◌, arith}
use Rattle.std.specs.List.{slice_index}
use Rattle.std.specs.Ordering.{nat_cmp, ordering_then, ordering_reverse, MatchOrdering}
use Rattle.std.specs.declared.cmp.Ordering.{Ordering}
use Rattle.std.specs.declared.cmp.Ordering.TheVariants.{Less, Equal, Greater}
use Rattle.std.specs.Cmp.{nat_cmp_is, ranks}
use Rattle.std.specs.Cmp.Lexicographic.{slice_cmp}
use Rattle.std.specs.Slice.Scan.{big_endian}
use Rattle.std.proofs.lemmas.Cmp.{nat_list_cmp_total}
use Rattle.std.proofs.lemmas.List.{length-take-le, length-drop, drop_all, get_or-drop}
use Rattle.std.proofs.Math.Seq.{take-append_seam}
use Rattle.version_map.specs.ShortName.{padded, text_in, word_at, IsShort}

abbrev AreBytes : List ℕ → Type 0
AreBytes xs = (i : ℕ) → slice_index xs i < 256

-- ---- a text, and after it r zeros and a count c

made : (r c : ℕ) (t : List ℕ) (m : ℕ) → m ≡ length t + r → slice_set (t ++ drop (length t) (replicate (suc m) 0)) m c ≡ t ++ (replicate r 0 ++ c ∷ [])
made zero c [] zero e = refl
made zero c [] (suc m) e = absurd (omega arith)
made (suc r) c [] zero e = absurd (omega arith)
made (suc r) c [] (suc m) e = ap (λ l. 0 ∷ l) (made r c [] m (omega arith))
made r c (x ∷ t) zero e = absurd (omega arith)
made r c (x ∷ t) (suc m) e = ap (λ l. x ∷ l) (made r c t m (omega arith))

counted : (r c : ℕ) (t : List ℕ) (m : ℕ) → m ≡ length t + r → slice_index (t ++ (replicate r 0 ++ c ∷ [])) m ≡ c
counted zero c [] zero e = refl
counted zero c [] (suc m) e = absurd (omega arith)
counted (suc r) c [] zero e = absurd (omega arith)
counted (suc r) c [] (suc m) e = counted r c [] m (omega arith)
counted r c (x ∷ t) zero e = absurd (omega arith)
counted r c (x ∷ t) (suc m) e = counted r c t m (omega arith)

lasting : (r c : ℕ) (t : List ℕ) → length (t ++ (replicate r 0 ++ c ∷ [])) ≡ suc (length t + r)
lasting zero c [] = refl
lasting (suc r) c [] = let rest = lasting r c [] in omega arith
lasting r c (x ∷ t) = let rest = lasting r c t in omega arith

small : (r c : ℕ) (t : List ℕ) → c < 256 → AreBytes t → AreBytes (t ++ (replicate r 0 ++ c ∷ []))
small zero c [] l h zero = l
small zero c [] l h (suc i) = omega arith
small (suc r) c [] l h zero = omega arith
small (suc r) c [] l h (suc i) = small r c [] l h i
small r c (x ∷ t) l h zero = h 0
small r c (x ∷ t) l h (suc i) = small r c t l (λ k. h (suc k)) i

-- the bytes that a short name is written into hold it
pub holds : (t : List ℕ) → length t ≤ 15 → AreBytes t → (xs : List ℕ) → slice_set (t ++ drop (length t) (replicate 16 0)) 15 (length t) ≡ xs → IsShort xs × (text_in xs ≡ t)
holds t le h xs made_of =
    let r = 15 - length t in
    let c = length t in
    let is : padded t ≡ xs = sym (made r c t 15 (omega arith)) ∙ made_of in
    let last : slice_index xs 15 ≡ c = ap (λ l. slice_index l 15) (sym is) ∙ counted r c t 15 (omega arith) in
    let found : text_in xs ≡ t = ap (λ l. take (slice_index l 15) l) (sym is) ∙ ap (λ n. take n (padded t)) (counted r c t 15 (omega arith)) ∙ take-append_seam t (replicate r 0 ++ c ∷ []) in
    let long : length xs ≡ 16 = ap length (sym is) ∙ (let n = lasting r c t in omega arith) in
    ((ap padded found ∙ is, long, omega arith, subst AreBytes is (small r c t (omega arith) h)), found)

-- ---- in the order of their bytes

rises : (k a b : ℕ) (xs ys : List ℕ) → length xs ≡ length ys → AreBytes xs → a < b → big_endian a (take k xs) < big_endian b (take k ys)
rises zero a b xs ys e h l = l
rises (suc k) a b [] [] e h l = l
rises (suc k) a b [] (y ∷ ys) e h l = absurd (omega arith)
rises (suc k) a b (x ∷ xs) [] e h l = absurd (omega arith)
rises (suc k) a b (x ∷ xs) (y ∷ ys) e h l =
    let low : x < 256 = h 0 in
    rises k (a * 256 + x) (b * 256 + y) xs ys (omega arith) (λ i. h (suc i)) (omega arith)

-- the first k bytes decide as a number, or the rest does
ordered : (k n : ℕ) (xs ys : List ℕ) → length xs ≡ length ys → AreBytes xs → AreBytes ys
    → slice_cmp nat_cmp xs ys ≡ ordering_then (nat_cmp (big_endian n (take k xs)) (big_endian n (take k ys))) (slice_cmp nat_cmp (drop k xs) (drop k ys))
ordered zero n xs ys e g h = ap (λ o. ordering_then o (slice_cmp nat_cmp xs ys)) (nat_cmp_is n n Equal refl)
ordered (suc k) n [] [] e g h = ap (λ o. ordering_then o Equal) (nat_cmp_is n n Equal refl)
ordered (suc k) n [] (y ∷ ys) e g h = absurd (omega arith)
ordered (suc k) n (x ∷ xs) [] e g h = absurd (omega arith)
ordered (suc k) n (x ∷ xs) (y ∷ ys) e g h = by (ordered k (n * 256 + x) xs ys (omega arith) (λ i. g (suc i)) (λ i. h (suc i))) (nat_cmp x y) refl (ranks x y)
  where
    rest : ℕ → ℕ → Ordering
    rest a b = ordering_then (nat_cmp (big_endian (n * 256 + a) (take k xs)) (big_endian (n * 256 + b) (take k ys))) (slice_cmp nat_cmp (drop k xs) (drop k ys))

    by : slice_cmp nat_cmp xs ys ≡ rest x x → (o : Ordering) → nat_cmp x y ≡ o → MatchOrdering o (x < y) (x ≡ y) (y < x) → ordering_then (nat_cmp x y) (slice_cmp nat_cmp xs ys) ≡ rest x y
    by same Less is l =
        let up = rises k (n * 256 + x) (n * 256 + y) xs ys (omega arith) (λ i. g (suc i)) (omega (arith, l)) in
        ap (λ o. ordering_then o (slice_cmp nat_cmp xs ys)) is ∙ ap (λ o. ordering_then o (slice_cmp nat_cmp (drop k xs) (drop k ys))) (nat_cmp_is _ _ Less up)
    by same Greater is l =
        let down = rises k (n * 256 + y) (n * 256 + x) ys xs (omega arith) (λ i. h (suc i)) (omega (arith, l)) in
        ap (λ o. ordering_then o (slice_cmp nat_cmp xs ys)) is ∙ ap (λ o. ordering_then o (slice_cmp nat_cmp (drop k xs) (drop k ys))) (nat_cmp_is _ _ Greater down)
    by same Equal is l = ap (λ o. ordering_then o (slice_cmp nat_cmp xs ys)) is ∙ same ∙ ap (rest x) l

then_Equal : (o : Ordering) → ordering_then o Equal ≡ o
then_Equal Less = refl
then_Equal Equal = refl
then_Equal Greater = refl

dropped : (k : ℕ) (xs : List ℕ) → AreBytes xs → AreBytes (drop k xs)
dropped k xs h i = subst (λ n. n < 256) (sym (get_or-drop k xs i 0)) (h (k + i))

-- two words decide
in_words : (xs ys : List ℕ) → length xs ≡ 16 → length ys ≡ 16 → AreBytes xs → AreBytes ys
    → slice_cmp nat_cmp xs ys ≡ ordering_then (nat_cmp (word_at 0 xs) (word_at 0 ys)) (nat_cmp (word_at 8 xs) (word_at 8 ys))
in_words xs ys e f g h =
    let low = drop 8 xs in
    let low' = drop 8 ys in
    let n : length low ≡ 8 = omega (arith, length-drop 8 xs) in
    let n' : length low' ≡ 8 = omega (arith, length-drop 8 ys) in
    let none : slice_cmp nat_cmp (drop 8 low) (drop 8 low') ≡ Equal = λ i. slice_cmp nat_cmp (drop_all 8 low (omega arith) i) (drop_all 8 low' (omega arith) i) in
    ordered 8 0 xs ys (omega arith) g h
    ∙ ap (ordering_then (nat_cmp (word_at 0 xs) (word_at 0 ys)))
    (ordered 8 0 low low' (omega arith) (dropped 8 xs g) (dropped 8 ys h) ∙ ap (ordering_then (nat_cmp (word_at 8 xs) (word_at 8 ys))) none ∙ then_Equal _)

tied : (r q c d : ℕ) → r ≡ q → c ≡ d → slice_cmp nat_cmp (replicate r 0 ++ c ∷ []) (replicate q 0 ++ d ∷ []) ≡ Equal
tied zero zero c d e f = ap (λ o. ordering_then o Equal) (sym (nat_cmp_is c d Equal f))
tied zero (suc q) c d e f = absurd (omega arith)
tied (suc r) zero c d e f = absurd (omega arith)
tied (suc r) (suc q) c d e f = tied r q c d (omega arith) f

-- a text is below each that goes on where it ends
under : (t : List ℕ) (r q c d : ℕ) → r ≡ length t + q → c < d → slice_cmp nat_cmp (replicate r 0 ++ c ∷ []) (t ++ (replicate q 0 ++ d ∷ [])) ≡ Less
under [] zero zero c d e l = ap (λ o. ordering_then o Equal) (sym (nat_cmp_is c d Less l))
under [] zero (suc q) c d e l = absurd (omega arith)
under [] (suc r) zero c d e l = absurd (omega arith)
under [] (suc r) (suc q) c d e l = under [] r q c d (omega arith) l
under (y ∷ t) zero q c d e l = absurd (omega arith)
under (zero ∷ t) (suc r) q c d e l = under t r q c d (omega arith) l
under (suc y ∷ t) (suc r) q c d e l = ap (λ o. ordering_then o (slice_cmp nat_cmp (replicate r 0 ++ c ∷ []) (t ++ (replicate q 0 ++ d ∷ [])))) (sym (nat_cmp_is 0 (suc y) Less (omega arith)))

kept : (s t : List ℕ) (r q c d : ℕ) → length s + r ≡ length t + q → c + r ≡ d + q → slice_cmp nat_cmp (s ++ (replicate r 0 ++ c ∷ [])) (t ++ (replicate q 0 ++ d ∷ [])) ≡ slice_cmp nat_cmp s t
kept [] [] r q c d e f = tied r q c d (omega arith) (omega arith)
kept [] (y ∷ t) r q c d e f = under (y ∷ t) r q c d (omega arith) (omega arith)
kept (x ∷ s) [] r q c d e f =
    nat_list_cmp_total.antisymm ((x ∷ s) ++ (replicate r 0 ++ c ∷ [])) (replicate q 0 ++ d ∷ []) ∙ ap ordering_reverse (under (x ∷ s) q r d c (omega arith) (omega arith))
kept (x ∷ s) (y ∷ t) r q c d e f = ap (ordering_then (nat_cmp x y)) (kept s t r q c d (omega arith) f)

short_is : (xs s : List ℕ) → s ≡ text_in xs → IsShort xs → (padded s ≡ xs) × (length s ≤ 15)
short_is xs s is h =
    let long : length (text_in xs) ≡ slice_index xs 15 = length-take-le (slice_index xs 15) xs (omega (arith, h.1, h.2)) in
    let same : length s ≡ length (text_in xs) = ap length is in
    (ap padded is ∙ h.0, omega (arith, h.2))

-- two short names are in the order of what holds them
pub order_of : (xs ys s t : List ℕ) → s ≡ text_in xs → t ≡ text_in ys → IsShort xs → IsShort ys
    → slice_cmp nat_cmp s t ≡ ordering_then (nat_cmp (word_at 0 xs) (word_at 0 ys)) (nat_cmp (word_at 8 xs) (word_at 8 ys))
order_of xs ys s t is is' h g =
    let a = short_is xs s is h in
    let b = short_is ys t is' g in
    sym (kept s t (15 - length s) (15 - length t) (length s) (length t) (omega (arith, a.1, b.1)) (omega (arith, a.1, b.1)))
    ∙ (λ i. slice_cmp nat_cmp (a.0 i) (b.0 i))
    ∙ in_words xs ys h.1 g.1 h.3 g.3
