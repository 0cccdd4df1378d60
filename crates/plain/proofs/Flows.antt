-- What was read from a reader and put into a writer, one part after another.
use Rattle.std.proofs.Common.{◌≡◌, ℕ, ◌+◌, ◌-◌, ◌≤◌, List, [], ◌++◌, length, take, drop, refl, sym, ◌∙◌, ap, subst, arith, append_assoc, append-nil, length-drop, length-take-le, length-append, take_all, take-append-drop, Option, Some, None}
use Rattle.std.specs.Option.{IfSome}
use Rattle.plain.specs.Streams.{Takes, Puts, PutsPart, UsesRoom}

pub Puts-none : (o : Option (List ℕ)) → Puts o [] o
Puts-none None = tt
Puts-none (Some w) = ap Some (sym (append-nil w))

pub Puts-then : (a b c : Option (List ℕ)) (x y : List ℕ) → Puts a x b → Puts b y c → Puts a (x ++ y) c
Puts-then None b c x y p q = tt
Puts-then (Some w) b c x y p q =
    let r : c ≡ Some ((w ++ x) ++ y) = subst (λ o. Puts o y c) p q in
    r ∙ ap Some (append_assoc w x y)

-- what is before the rest was put
abbrev pub PutsBefore : Option (List ℕ) → List ℕ → List ℕ → Option (List ℕ) → Type 0
PutsBefore old bytes rest new = (text : List ℕ) × (bytes ≡ text ++ rest) × Puts old text new

pub PutsBefore-next : (old now new : Option (List ℕ)) (bytes rest later : List ℕ) (n : ℕ) → PutsBefore old bytes rest now → Puts now (take n rest) new → later ≡ take (length rest - n) (drop n rest) → PutsBefore old bytes later new
PutsBefore-next old now new bytes rest later n (text, e, p) q l =
    let whole : later ≡ drop n rest = l ∙ take_all (length rest - n) (drop n rest) (rw length-drop (omega arith)) in (
      text ++ take n rest,
      e ∙ (ap (λ t. text ++ t) (sym (take-append-drop n rest) ∙ ap (λ t. take n rest ++ t) (sym whole)) ∙ sym (append_assoc text (take n rest) later)),
      Puts-then old now new text (take n rest) p q,
    )

pub UsesRoom-then : (a b c : Option ℕ) (m n : ℕ) → UsesRoom a m b → UsesRoom b n c → UsesRoom a (m + n) c
UsesRoom-then None b c m n p q = tt
UsesRoom-then (Some r) None c m n p q = elim p [ ]
UsesRoom-then (Some r) (Some s) None m n p q = elim q [ ]
UsesRoom-then (Some r) (Some s) (Some t) m n p q = omega arith

-- what is before the rest used this much of the room
abbrev pub RoomBefore : Option ℕ → List ℕ → List ℕ → Option ℕ → Type 0
RoomBefore old bytes rest new = (text : List ℕ) × (bytes ≡ text ++ rest) × UsesRoom old (length text) new

pub RoomBefore-next : (old now new : Option ℕ) (bytes rest later : List ℕ) (n : ℕ) → RoomBefore old bytes rest now → UsesRoom now n new → n ≤ length rest → later ≡ take (length rest - n) (drop n rest) → RoomBefore old bytes later new
RoomBefore-next old now new bytes rest later n (text, e, p) q fits l =
    let whole : later ≡ drop n rest = l ∙ take_all (length rest - n) (drop n rest) (rw length-drop (omega arith)) in
    let used : length (text ++ take n rest) ≡ length text + n = length-append text (take n rest) ∙ ap (λ k. length text + k) (length-take-le n rest fits) in (
      text ++ take n rest,
      e ∙ (ap (λ t. text ++ t) (sym (take-append-drop n rest) ∙ ap (λ t. take n rest ++ t) (sym whole)) ∙ sym (append_assoc text (take n rest) later)),
      subst (λ k. UsesRoom old k new) (sym used) (UsesRoom-then old now new (length text) n p q),
    )

pub Takes-none : (o : Option (List ℕ)) → Takes o [] o
Takes-none None = tt
Takes-none (Some l) = (l, refl, refl)

pub Takes-then : (a b c : Option (List ℕ)) (x y : List ℕ) → Takes a x b → Takes b y c → Takes a (x ++ y) c
Takes-then None b c x y p q = tt
Takes-then (Some l) b c x y (rest, e, p) q =
    let r : Takes (Some rest) y c = subst (λ o. Takes o y c) p q in
    (r.0, e ∙ (ap (λ t. x ++ t) r.1 ∙ sym (append_assoc x y r.0)), r.2)

-- what was put first and then a part of more bytes
pub PutsPart-after : (a b c : Option (List ℕ)) (text bytes : List ℕ) → Puts a text b → PutsPart b bytes c → PutsPart a (text ++ bytes) c
PutsPart-after a b c text bytes p (part, more, e, q) =
    (text ++ part, more, ap (λ t. text ++ t) e ∙ sym (append_assoc text part more), Puts-then a b c text part p q)

pub PutsPart-none : (o : Option (List ℕ)) (bytes : List ℕ) → PutsPart o bytes o
PutsPart-none o bytes = ([], bytes, refl, Puts-none o)

pub Takes-end : (input consumed : List ℕ) (left : Option (List ℕ)) → Takes (Some input) consumed left → IfSome left (λ l. l ≡ []) → left ≡ Some []
Takes-end input consumed left (rest, e, p) none =
    let nil : rest ≡ [] = subst (λ o. IfSome o (λ l. l ≡ [])) p none in
    p ∙ ap Some nil

-- nothing was read
pub Takes-nothing : (a b : Option (List ℕ)) (piece : List ℕ) → piece ≡ [] → a ≡ Some [] → Takes a piece b → b ≡ Some []
Takes-nothing a b piece none e h =
    let r : Takes (Some []) [] b = subst (λ o. Takes o [] b) e (subst (λ t. Takes a t b) none h) in
    r.2 ∙ ap Some (sym r.1)
