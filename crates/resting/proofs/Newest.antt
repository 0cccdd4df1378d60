-- A list that was put in order ascends, so its last element is the greatest.
use Rattle.std.proofs.Common.{◌≡◌, inl, inr, true, false, if◌then◌else◌, List, [], ◌∷◌, reverse, Ordering, Less, Equal, Greater, is_lt, refl, sym, ap, ◌∙◌, subst, true≢false}
use Rattle.std.specs.Cmp.{IsTotalOrder}
use Rattle.std.specs.Ordering.{ordering_reverse}
use Rattle.std.proofs.lemmas.Cmp.{alike_right, tied_itself}
use Rattle.std.proofs.lemmas.List.{reverse-append, reverse-reverse}
use Rattle.requests.specs.Lists.{Has as Among}
use Rattle.sets.specs.Order.{in_order, put_in_order}
use Rattle.sets.proofs.Ordered.{all_among, all_in_order}
use Rattle.controllers.proofs.PlannedActions.{among_all}
use Rattle.resting.proofs.Pairs.{ArePaired, all_put, in_reverse, pairs_append}
use Rattle.resting.proofs.PlanLists.{all_by}

pub among_reverse : {X : Type 0} (xs : List X) (x : X) → Among x xs → Among x (reverse xs)
among_reverse xs x at = in_reverse (reverse xs) x (subst (Among x) (sym (reverse-reverse xs)) at)

module _ {X : Type 0} (cmp : X → X → Ordering) (total : IsTotalOrder cmp) where
  -- y is not less than x
  abbrev AtLeast : X → X → Type 0
  AtLeast x y = is_lt (cmp y x) ≡ false

  abbrev AtMost : X → X → Type 0
  AtMost x y = is_lt (cmp x y) ≡ false

  turned : (x y : X) (o : Ordering) → cmp x y ≡ o → cmp y x ≡ ordering_reverse o
  turned x y o is = total.antisymm y x ∙ ap ordering_reverse is

  less_by : (x y z : X) (o : Ordering) → cmp z x ≡ Less → cmp y x ≡ o → is_lt o ≡ false → cmp z y ≡ Less
  less_by x y z Less zx yx h = absurd (true≢false h)
  less_by x y z Equal zx yx h = alike_right total y x z yx ∙ zx
  less_by x y z Greater zx yx h = total.trans z x y zx (turned y x Greater yx)

  still_above : (x y z : X) → AtLeast x y → AtLeast y z → AtLeast x z
  still_above x y z low high =
      elim (cmp z x) as (λ o. cmp z x ≡ o → is_lt o ≡ false) [
        | Less ↦ λ zx. absurd (true≢false (sym (ap is_lt (less_by x y z (cmp y x) zx refl low)) ∙ high))
        | Equal ↦ λ zx. refl
        | Greater ↦ λ zx. refl
      ] refl

  after_less : (x y : X) (o : Ordering) → cmp y x ≡ o → is_lt o ≡ true → AtLeast y x
  after_less x y Less is h = ap is_lt (turned y x Less is)
  after_less x y Equal is h = absurd (true≢false (sym h))
  after_less x y Greater is h = absurd (true≢false (sym h))

  put_ascends : (x : X) (ys : List X) → ArePaired AtLeast ys → ArePaired AtLeast (put_in_order cmp x ys)
  put_ascends x [] up = (tt, tt)
  put_ascends x (y ∷ ys) up =
      elim (is_lt (cmp y x)) as (λ b. is_lt (cmp y x) ≡ b → ArePaired AtLeast (if b then y ∷ put_in_order cmp x ys else x ∷ y ∷ ys)) [
        | true ↦ λ less. (all_put (AtLeast y) cmp x ys (after_less x y (cmp y x) refl less) up.0, put_ascends x ys up.1)
        | false ↦ λ more. ((more, all_by (AtLeast y) (AtLeast x) ys (λ z. still_above x y z more) up.0), up)
      ] refl

  pub ascends : (xs : List X) → ArePaired AtLeast (in_order cmp xs)
  ascends [] = tt
  ascends (x ∷ xs) = put_ascends x (in_order cmp xs) (ascends xs)

  descends : (xs : List X) → ArePaired AtLeast xs → ArePaired AtMost (reverse xs)
  descends [] up = tt
  descends (x ∷ xs) up =
      subst (ArePaired AtMost) (sym (reverse-append (x ∷ []) xs))
      (pairs_append AtMost (reverse xs) (x ∷ []) (descends xs up.1) (tt, tt) (λ a b at_a at_b.
      elim at_b [
        | inl is ↦ subst (AtMost a) (sym is) (among_all (AtLeast x) xs a up.0 (in_reverse xs a at_a))
        | inr none ↦ absurd none
      ]))

  pub among_in_order : (xs : List X) (x : X) → Among x (in_order cmp xs) → Among x xs
  among_in_order xs x at = among_all (λ y. Among y xs) (in_order cmp xs) x (all_in_order cmp total (λ y. Among y xs) xs (all_among (λ y. Among y xs) xs (λ y here. here))) at

  put_among : (x : X) (ys : List X) (y : X) → Among y (x ∷ ys) → Among y (put_in_order cmp x ys)
  put_among x [] y at = at
  put_among x (z ∷ ys) y at =
      elim (is_lt (cmp z x)) as (λ b. Among y (if b then z ∷ put_in_order cmp x ys else x ∷ z ∷ ys)) [
        | false ↦ at
        | true ↦ elim at [
          | inl is ↦ inr (put_among x ys y (inl is))
          | inr more ↦ elim more [
            | inl is ↦ inl is
            | inr later ↦ inr (put_among x ys y (inr later))
          ]
        ]
      ]

  pub in_order_among : (xs : List X) (x : X) → Among x xs → Among x (in_order cmp xs)
  in_order_among [] x at = at
  in_order_among (y ∷ xs) x (inl is) = put_among y (in_order cmp xs) x (inl is)
  in_order_among (y ∷ xs) x (inr more) = put_among y (in_order cmp xs) x (inr (in_order_among xs x more))

  -- what is last is not less than any
  pub last_is : (xs : List X) (h : X) (older : List X) → ArePaired AtLeast xs → reverse xs ≡ h ∷ older → (y : X) → Among y xs → AtMost h y
  last_is xs h older up is y at =
      let down : ArePaired AtMost (h ∷ older) = subst (ArePaired AtMost) is (descends xs up) in
      elim (subst (Among y) is (among_reverse xs y at)) [
        | inl same ↦ subst (AtMost h) (sym same) (ap is_lt (tied_itself total h))
        | inr more ↦ among_all (AtMost h) older y down.0 more
      ]

  tied : (x y : X) (o : Ordering) → cmp x y ≡ o → is_lt o ≡ false → is_lt (cmp y x) ≡ false → cmp x y ≡ Equal
  tied x y Less is one two = absurd (true≢false one)
  tied x y Equal is one two = is
  tied x y Greater is one two = absurd (true≢false (sym (ap is_lt (turned x y Greater is)) ∙ two))

  -- of a part of a list in order that has its last one this is the last one too
  pub same_last : (xs ys : List X) (h g : X) (older others : List X) → reverse (in_order cmp xs) ≡ h ∷ older → reverse (in_order cmp ys) ≡ g ∷ others
      → ((y : X) → Among y (in_order cmp ys) → Among y (in_order cmp xs)) → Among h (in_order cmp ys) → cmp g h ≡ Equal
  same_last xs ys h g older others last_x last_y part at =
      let there : Among g (in_order cmp ys) = in_reverse (in_order cmp ys) g (subst (Among g) (sym last_y) (inl refl)) in
      tied g h (cmp g h) refl (last_is (in_order cmp ys) g others (ascends ys) last_y h at) (last_is (in_order cmp xs) h older (ascends xs) last_x g (part g there))
