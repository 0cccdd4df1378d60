-- The lines of an input that comes in pieces.
use Rattle.std.proofs.Common.{◌≡◌, ◌≢◌, ℕ, zero, suc, ◌+◌, ◌-◌, ◌<◌, ◌≤◌, ◌⊎◌, inl, inr, List, [], ◌∷◌, ◌++◌, length, take, drop, get_or, refl, sym, ◌∙◌, ap, subst, arith, append_assoc, append-nil, length-append, length-take, length-take-le, length-drop, take_all, take-append-drop, drop-cons, get_or-take}
use Rattle.std.proofs.lemmas.Bool.{ne_eqb, eq-eqb, cases_lt}
use Rattle.std.proofs.lemmas.Grind.{common_steps}
use Rattle.trees.specs.Reading.{tree_reading}
use Rattle.objects.specs.Reading.{most_bytes}
use Rattle.plain_store.specs.Store.{Store}
use Rattle.plain.specs.Requests.{request_of}
use Rattle.plain.specs.Lines.{ended_lines, lines, onto_ended, onto_first}
use Rattle.plain.specs.Served.{answered, answer, answers}
use Rattle.memchr.specs.Find.{Nowhere, NoneBefore, Passes, is_byte}
use Rattle.plain.specs.Splits.{NoFeed, with_pending, Progress, LeadsTo}

-- no line feed is in either part
pub NoFeed-append : (xs ys : List ℕ) → NoFeed xs → NoFeed ys → NoFeed (xs ++ ys)
NoFeed-append [] ys _ f = f
NoFeed-append (x ∷ xs) ys e f = (e.0, NoFeed-append xs ys e.1 f)

pub NoFeed-take : (n : ℕ) (xs : List ℕ) → NoFeed xs → NoFeed (take n xs)
NoFeed-take zero xs _ = tt
NoFeed-take (suc n) [] _ = tt
NoFeed-take (suc n) (x ∷ xs) e = (e.0, NoFeed-take n xs e.1)

pub NoFeed-by_index : (xs : List ℕ) → ((k : ℕ) → k < length xs → get_or xs k 0 ≢ 10) → NoFeed xs
NoFeed-by_index [] _ = tt
NoFeed-by_index (x ∷ xs) h = (h 0 (omega arith), NoFeed-by_index xs (λ k l. h (suc k) (omega arith)))

-- the lines go on from a line that has begun
abbrev onto : List ℕ → List (List ℕ) → List (List ℕ)
onto h [] = h ∷ []
onto h (l ∷ ls) = (h ++ l) ∷ ls

onto_first-onto : (b : ℕ) (h : List ℕ) (ls : List (List ℕ)) → onto_first b (onto h ls) ≡ onto (b ∷ h) ls
onto_first-onto b h [] = refl
onto_first-onto b h (l ∷ ls) = refl

onto_first-one : (b : ℕ) (ls : List (List ℕ)) → onto_first b ls ≡ onto (b ∷ []) ls
onto_first-one b [] = refl
onto_first-one b (l ∷ ls) = refl

lines-other : (b : ℕ) (bs : List ℕ) → b ≢ 10 → lines (b ∷ bs) ≡ onto_first b (lines bs)
lines-other b bs ne = rw (ne_eqb b 10 ne)

lines-onto : (b : ℕ) (bs more : List ℕ) → NoFeed (b ∷ bs) → lines ((b ∷ bs) ++ more) ≡ onto (b ∷ bs) (lines more)
lines-onto b [] more f = lines-other b more f.0 ∙ onto_first-one b (lines more)
lines-onto b (c ∷ cs) more f =
    lines-other b ((c ∷ cs) ++ more) f.0 ∙ (ap (onto_first b) (lines-onto c cs more f.1) ∙ onto_first-onto b (c ∷ cs) (lines more))

-- a line ends at its line feed
pub lines-feed : (l rest : List ℕ) → NoFeed l → lines (l ++ 10 ∷ rest) ≡ l ∷ lines rest
lines-feed [] rest _ = refl
lines-feed (b ∷ bs) rest f = lines-onto b bs (10 ∷ rest) f ∙ ap (λ h. h ∷ lines rest) (append-nil (b ∷ bs))

-- ---- the lines that end

-- they go on from a line that has begun, if it ends
abbrev onto_next : List ℕ → List (List ℕ) → List (List ℕ)
onto_next h [] = []
onto_next h (l ∷ ls) = (h ++ l) ∷ ls

onto_ended-onto : (b : ℕ) (h : List ℕ) (ls : List (List ℕ)) → onto_ended b (onto_next h ls) ≡ onto_next (b ∷ h) ls
onto_ended-onto b h [] = refl
onto_ended-onto b h (l ∷ ls) = refl

onto_ended-one : (b : ℕ) (ls : List (List ℕ)) → onto_ended b ls ≡ onto_next (b ∷ []) ls
onto_ended-one b [] = refl
onto_ended-one b (l ∷ ls) = refl

ended-other : (b : ℕ) (bs : List ℕ) → b ≢ 10 → ended_lines (b ∷ bs) ≡ onto_ended b (ended_lines bs)
ended-other b bs ne = rw (ne_eqb b 10 ne)

ended-onto : (b : ℕ) (bs more : List ℕ) → NoFeed (b ∷ bs) → ended_lines ((b ∷ bs) ++ more) ≡ onto_next (b ∷ bs) (ended_lines more)
ended-onto b [] more f = ended-other b more f.0 ∙ onto_ended-one b (ended_lines more)
ended-onto b (c ∷ cs) more f =
    ended-other b ((c ∷ cs) ++ more) f.0 ∙ (ap (onto_ended b) (ended-onto c cs more f.1) ∙ onto_ended-onto b (c ∷ cs) (ended_lines more))

ended-feed : (l rest : List ℕ) → NoFeed l → ended_lines (l ++ 10 ∷ rest) ≡ l ∷ ended_lines rest
ended-feed [] rest _ = refl
ended-feed (b ∷ bs) rest f = ended-onto b bs (10 ∷ rest) f ∙ ap (λ h. h ∷ ended_lines rest) (append-nil (b ∷ bs))

ended-begun : (h more : List ℕ) → 0 < length h → NoFeed h → ended_lines (h ++ more) ≡ onto_next h (ended_lines more)
ended-begun [] more l f = absurd (omega arith)
ended-begun (b ∷ bs) more l f = ended-onto b bs more f

-- none ends without a line feed
pub ended-none : (h : List ℕ) → NoFeed h → ended_lines h ≡ []
ended-none [] f = refl
ended-none (b ∷ bs) f = ap ended_lines (sym (append-nil (b ∷ bs))) ∙ ended-onto b bs [] f

-- a last line
pub lines-last : (b : ℕ) (bs : List ℕ) → NoFeed (b ∷ bs) → lines (b ∷ bs) ≡ (b ∷ bs) ∷ []
lines-last b bs f = ap lines (sym (append-nil (b ∷ bs))) ∙ lines-onto b bs [] f

-- a line that is too long is refused, whatever it is
pub request_of-too_long : (a b : List ℕ) → most_bytes < length a → most_bytes < length b → request_of a ≡ request_of b
unfolding request_of tree_reading
request_of-too_long a b la lb = grind (arith, common_steps)

-- so its first bytes give its answer
request_of-splitter : (k b : List ℕ) (n : ℕ) → n ≡ most_bytes + 1 - length k → (n < length b) ⊎ (length b ≤ n) → request_of (k ++ take n b) ≡ request_of (k ++ b)
request_of-splitter k b n e (inr le) = ap (λ t. request_of (k ++ t)) (take_all n b le)
request_of-splitter k b n e (inl lt) =
    request_of-too_long (k ++ take n b) (k ++ b) (simp (length-append, length-take) (omega arith)) (simp length-append (omega arith))

pub answer-pending : (s : Store) (k b : List ℕ) → answer s (with_pending k b) ≡ answer s (k ++ b)
answer-pending s k b =
    let n : ℕ = most_bytes + 1 - length k in
    ap (answered s) (request_of-splitter k b n refl (cases_lt n (length b)))

-- what a kept prefix yields does not depend on what was passed over
answers-onto : (s : Store) (n : ℕ) (k b : List ℕ) (ls : List (List ℕ)) → n ≡ most_bytes + 1 - length k → n < length b → answers s (onto (k ++ take n b) ls) ≡ answers s (onto (k ++ b) ls)
answers-onto s n k b [] e lt =
    ap (λ r. (answered s r).1 ++ 10 ∷ []) (request_of-splitter k b n e (inl lt))
answers-onto s n k b (l ∷ ls) e lt =
    let same : request_of ((k ++ take n b) ++ l) ≡ request_of ((k ++ b) ++ l) =
    request_of-too_long ((k ++ take n b) ++ l) ((k ++ b) ++ l) (simp (length-append, length-take) (omega arith)) (simp length-append (omega arith)) in
    ap (λ r. (answered s r).1 ++ 10 ∷ answers (answered s r).0 ls) same

answers-onto_next : (s : Store) (n : ℕ) (k b : List ℕ) (ls : List (List ℕ)) → n ≡ most_bytes + 1 - length k → n < length b → answers s (onto_next (k ++ take n b) ls) ≡ answers s (onto_next (k ++ b) ls)
answers-onto_next s n k b [] e lt = refl
answers-onto_next s n k b (l ∷ ls) e lt = answers-onto s n k b (l ∷ ls) e lt

count-onto : (h g : List ℕ) (ls : List (List ℕ)) → length (onto h ls) ≡ length (onto g ls)
count-onto h g [] = refl
count-onto h g (l ∷ ls) = refl

lines-begun : (h more : List ℕ) → 0 < length h → NoFeed h → lines (h ++ more) ≡ onto h (lines more)
lines-begun [] more l f = absurd (omega arith)
lines-begun (b ∷ bs) more l f = lines-onto b bs more f

pub LeadsTo-then : (p q r : Progress) → LeadsTo p q → LeadsTo q r → LeadsTo p r
LeadsTo-then p q r f g = record { text = λ more. f.text more ∙ g.text more; ended = λ more. f.ended more ∙ g.ended more; count = λ more. f.count more ∙ g.count more }

-- the rest of a piece is kept
pub LeadsTo-pending : (s : Store) (k b text : List ℕ) (n : ℕ) → NoFeed k → NoFeed b →
    LeadsTo (record { store = s; waiting = k ++ b; text = text; count = n }) (record { store = s; waiting = with_pending k b; text = text; count = n })
LeadsTo-pending s k b text n fk fb =
    let most : ℕ = most_bytes + 1 - length k in
    elim (cases_lt most (length b)) [
      | inl lt ↦
          let whole = λ (more : List ℕ). lines-begun (k ++ b) more (simp length-append (omega arith)) (NoFeed-append k b fk fb) in
          let splitter = λ (more : List ℕ). lines-begun (with_pending k b) more (simp (length-append, length-take) (omega arith)) (NoFeed-append k (take most b) fk (NoFeed-take most b fb)) in
          let ended = λ (more : List ℕ). ended-begun (k ++ b) more (simp length-append (omega arith)) (NoFeed-append k b fk fb) in
          let ended_split = λ (more : List ℕ). ended-begun (with_pending k b) more (simp (length-append, length-take) (omega arith)) (NoFeed-append k (take most b) fk (NoFeed-take most b fb)) in
          record {
            text = λ more. ap (λ ls. text ++ answers s ls) (whole more) ∙ (ap (λ t. text ++ t) (sym (answers-onto s most k b (lines more) refl lt)) ∙ ap (λ ls. text ++ answers s ls) (sym (splitter more)));
            ended = λ more. ap (λ ls. text ++ answers s ls) (ended more) ∙ (ap (λ t. text ++ t) (sym (answers-onto_next s most k b (ended_lines more) refl lt)) ∙ ap (λ ls. text ++ answers s ls) (sym (ended_split more)));
            count = λ more. ap (λ ls. n + length ls) (whole more) ∙ (ap (λ t. n + t) (count-onto (k ++ b) (with_pending k b) (lines more)) ∙ ap (λ ls. n + length ls) (sym (splitter more)));
          }
      | inr le ↦
          let e : k ++ b ≡ with_pending k b = ap (λ t. k ++ t) (sym (take_all most b le)) in
          record {
            text = λ more. ap (λ w. text ++ answers s (lines (w ++ more))) e;
            ended = λ more. ap (λ w. text ++ answers s (ended_lines (w ++ more))) e;
            count = λ more. ap (λ w. n + length (lines (w ++ more))) e;
          }
    ]

pub NoFeed-pending : (k b : List ℕ) → NoFeed k → NoFeed b → NoFeed (with_pending k b)
NoFeed-pending k b fk fb = NoFeed-append k (take (most_bytes + 1 - length k) b) fk (NoFeed-take (most_bytes + 1 - length k) b fb)

-- a line is answered
pub LeadsTo-line : (s : Store) (l rest text : List ℕ) (n : ℕ) → NoFeed l →
    LeadsTo (record { store = s; waiting = l ++ 10 ∷ rest; text = text; count = n })
    (record { store = (answer s l).0; waiting = rest; text = text ++ ((answer s l).1 ++ 10 ∷ []); count = n + 1 })
LeadsTo-line s l rest text n f =
    let e = λ (more : List ℕ). ap lines (append_assoc l (10 ∷ rest) more) ∙ lines-feed l (rest ++ more) f in
    let ended = λ (more : List ℕ). ap ended_lines (append_assoc l (10 ∷ rest) more) ∙ ended-feed l (rest ++ more) f in
    record {
      text = λ more. ap (λ ls. text ++ answers s ls) (e more) ∙ simp append_assoc;
      ended = λ more. ap (λ ls. text ++ answers s ls) (ended more) ∙ simp append_assoc;
      count = λ more. ap (λ ls. n + length ls) (e more) ∙ omega arith;
    }

-- the answer to a kept line
pub text-pending : (s : Store) (k b pending line out new : List ℕ) → pending ≡ with_pending k b → line ≡ pending → new ≡ out ++ ((answer s line).1 ++ 10 ∷ []) → new ≡ out ++ ((answer s (k ++ b)).1 ++ 10 ∷ [])
text-pending s k b pending line out new e w h =
    h ∙ (ap (λ l. out ++ ((answer s l).1 ++ 10 ∷ [])) (w ∙ e) ∙ ap (λ (a : Store × List ℕ). out ++ (a.1 ++ 10 ∷ [])) (answer-pending s k b))

pub store-pending : (s t : Store) (k b pending line : List ℕ) → pending ≡ with_pending k b → line ≡ pending → t ≡ (answer s line).0 → t ≡ (answer s (k ++ b)).0
store-pending s t k b pending line e w h = h ∙ (ap (λ l. (answer s l).0) (w ∙ e) ∙ ap (λ (a : Store × List ℕ). a.0) (answer-pending s k b))

-- if the search found none, there is no line feed
pub NoFeed-nowhere : (xs : List ℕ) → Nowhere (Passes (is_byte 10) xs) 0 (length xs) → NoFeed xs
NoFeed-nowhere xs h = NoFeed-by_index xs (λ k l e. h k (omega arith) l (eq-eqb (get_or xs k 0) 10 e))

pub NoFeed-before : (xs : List ℕ) (at : ℕ) → NoneBefore (Passes (is_byte 10) xs) 0 (length xs) at → NoFeed (take at xs)
NoFeed-before xs at h =
    let short : length (take at xs) ≡ at = length-take-le at xs (omega (arith, h.high)) in
    NoFeed-by_index (take at xs) (λ k l e.
    h.before k (omega arith) (omega arith) (eq-eqb (get_or xs k 0) 10 (sym (get_or-take at xs k 0 (omega arith)) ∙ e)))

pub at_feed : (xs : List ℕ) (at : ℕ) → at < length xs → Passes (is_byte 10) xs at → xs ≡ take at xs ++ 10 ∷ drop (at + 1) xs
at_feed xs at lt is =
    sym (take-append-drop at xs) ∙ ap (λ t. take at xs ++ t) (drop-cons xs at 0 lt ∙ grind (arith, common_steps))

-- the first line, if a line feed ends it and if the text does
pub first-line : (text later : List ℕ) (at : ℕ) → NoneBefore (Passes (is_byte 10) text) 0 (length text) at → Passes (is_byte 10) text at
    → later ≡ take (length text - (at + 1)) (drop (at + 1) text) → lines text ≡ take at text ∷ lines later
first-line text later at before is e =
    let tail : List ℕ = drop (at + 1) text in
    let whole : later ≡ tail = e ∙ take_all (length text - (at + 1)) tail (rw length-drop (omega arith)) in
    ap lines (at_feed text at before.high is) ∙ lines-feed (take at text) tail (NoFeed-before text at before)
    ∙ ap (λ w. take at text ∷ lines w) (sym whole)

pub only-line : (text : List ℕ) → 0 < length text → Nowhere (Passes (is_byte 10) text) 0 (length text) → lines text ≡ text ∷ lines []
only-line [] some none = absurd (omega arith)
only-line (b ∷ bs) some none = lines-last b bs (NoFeed-nowhere (b ∷ bs) none)

-- a last line is answered with no line feed after it
pub text-last : (s : Store) (k end old new : List ℕ) → 0 < length k → NoFeed k → end ≡ [] → new ≡ old ++ ((answer s (k ++ end)).1 ++ 10 ∷ []) → new ≡ old ++ answers s (lines k)
text-last s [] end old new l f e h = absurd (omega arith)
text-last s (b ∷ bs) end old new l f e h =
    h ∙ (ap (λ x. old ++ ((answer s ((b ∷ bs) ++ x)).1 ++ 10 ∷ [])) e ∙
    (ap (λ x. old ++ ((answer s x).1 ++ 10 ∷ [])) (append-nil (b ∷ bs)) ∙ ap (λ ls. old ++ answers s ls) (sym (lines-last b bs f))))

pub count-last : (k : List ℕ) (old new : ℕ) → 0 < length k → NoFeed k → new ≡ old + 1 → new ≡ old + length (lines k)
count-last [] old new l f h = absurd (omega arith)
count-last (b ∷ bs) old new l f h = h ∙ ap (λ (ls : List (List ℕ)). old + length ls) (sym (lines-last b bs f))

-- one line of the rest of a piece is answered
pub LeadsTo-next : (p : Progress) (s t : Store) (k pending rest later text new : List ℕ) (n m at : ℕ) →
    LeadsTo p (record { store = s; waiting = k ++ rest; text = text; count = n }) → NoFeed k →
    NoneBefore (Passes (is_byte 10) rest) 0 (length rest) at → Passes (is_byte 10) rest at → new ≡ text ++ ((answer s (k ++ take at rest)).1 ++ 10 ∷ []) →
    t ≡ (answer s (k ++ take at rest)).0 → pending ≡ [] → m ≡ n + 1 → later ≡ take (length rest - (at + 1)) (drop (at + 1) rest) →
    LeadsTo p (record { store = t; waiting = pending ++ later; text = new; count = m })
LeadsTo-next p s t k pending rest later text new n m at h f before is etext estore ekept ecount elater =
    let l : List ℕ = k ++ take at rest in
    let tail : List ℕ = drop (at + 1) rest in
    let splitter : k ++ rest ≡ l ++ 10 ∷ tail =
    ap (λ w. k ++ w) (at_feed rest at before.high is) ∙ sym (append_assoc k (take at rest) (10 ∷ tail)) in
    let first : LeadsTo p (record { store = s; waiting = l ++ 10 ∷ tail; text = text; count = n }) =
    subst (λ w. LeadsTo p (record { store = s; waiting = w; text = text; count = n })) splitter h in
    let second : LeadsTo p (record { store = (answer s l).0; waiting = tail; text = text ++ ((answer s l).1 ++ 10 ∷ []); count = n + 1 }) =
    LeadsTo-then p _ _ first (LeadsTo-line s l tail text n (NoFeed-append k (take at rest) f (NoFeed-before rest at before))) in
    let whole : tail ≡ pending ++ later =
    sym (take_all (length rest - (at + 1)) tail (rw length-drop (omega arith))) ∙ (sym elater ∙ ap (λ w. w ++ later) (sym ekept)) in
    let at_text : LeadsTo p (record { store = (answer s l).0; waiting = tail; text = new; count = n + 1 }) =
    subst (λ w. LeadsTo p (record { store = (answer s l).0; waiting = tail; text = w; count = n + 1 })) (sym etext) second in
    let at_store : LeadsTo p (record { store = t; waiting = tail; text = new; count = n + 1 }) =
    subst (λ w. LeadsTo p (record { store = w; waiting = tail; text = new; count = n + 1 })) (sym estore) at_text in
    let at_count : LeadsTo p (record { store = t; waiting = tail; text = new; count = m }) =
    subst (λ w. LeadsTo p (record { store = t; waiting = tail; text = new; count = w })) (sym ecount) at_store in
    subst (λ w. LeadsTo p (record { store = t; waiting = w; text = new; count = m })) whole at_count

pub NoFeed-none : (k : List ℕ) → k ≡ [] → NoFeed k
NoFeed-none k e = subst NoFeed (sym e) tt

-- the rest of the piece is kept, and nothing is left of it
pub LeadsTo-end : (p : Progress) (s : Store) (k pending rest text : List ℕ) (n : ℕ) →
    LeadsTo p (record { store = s; waiting = k ++ rest; text = text; count = n }) → NoFeed k → Nowhere (Passes (is_byte 10) rest) 0 (length rest) →
    pending ≡ with_pending k rest → LeadsTo p (record { store = s; waiting = pending ++ []; text = text; count = n })
LeadsTo-end p s k pending rest text n h f none e =
    subst (λ w. LeadsTo p (record { store = s; waiting = w; text = text; count = n })) (sym (append-nil pending ∙ e))
    (LeadsTo-then p _ _ h (LeadsTo-pending s k rest text n f (NoFeed-nowhere rest none)))

pub NoFeed-end : (k pending rest : List ℕ) → NoFeed k → Nowhere (Passes (is_byte 10) rest) 0 (length rest) → pending ≡ with_pending k rest → NoFeed pending
NoFeed-end k pending rest f none e = subst NoFeed (sym e) (NoFeed-pending k rest f (NoFeed-nowhere rest none))

-- each line takes at least one byte
pub shorter-next : (rest later : List ℕ) (at : ℕ) → at < length rest → later ≡ take (length rest - (at + 1)) (drop (at + 1) rest) → length later < length rest
shorter-next rest later at lt e = rw e (simp length-take (omega arith))

-- and counts for no more than its bytes
pub count-next : (k pending rest later : List ℕ) (n m at most : ℕ) → at < length rest → pending ≡ [] → m ≡ n + 1 → later ≡ take (length rest - (at + 1)) (drop (at + 1) rest) → n + length k + length rest ≤ most → m + length pending + length later ≤ most
count-next k pending rest later n m at most lt ekept ecount elater h =
    let none : length pending ≡ 0 = ap (λ (xs : List ℕ). length xs) ekept in
    let short : length later < length rest = shorter-next rest later at lt elater in
    omega arith
