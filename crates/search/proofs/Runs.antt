-- The fitting list in the order of a run: what is below a bound, then the smallest vector from there on, then the rest.
use Rattle.std.proofs.Common.{◌≡◌, ℕ, zero, suc, ◌+◌, ◌-◌, ◌^◌, ◌<◌, ◌≤◌, Bool, true, false, cond, ltb, List, [], ◌∷◌, ◌++◌, length, replicate, Some, None, filter, Option, sym, refl, ap, ◌∙◌, ap₂, append-nil, add-zero, zero-add, arith, length-append}
use Rattle.std.proofs.lemmas.List.Elements.{filter-append}
use Rattle.std.proofs.lemmas.Bool.{eqb-true, eq-eqb, lt-ltb, le-ltb}
use Rattle.rings.specs.Vectors.{polynomial_of}
use Rattle.search.specs.Lists.{from_on, has, vectors_below, full_list, fits, fitting_below, fitting_list, Wanted, Least}

-- one number after the other
from_on_append : (j a k : ℕ) → from_on a (j + k) ≡ from_on a j ++ from_on (a + j) k
unfolding from_on
from_on_append zero a k = ap₂ from_on (sym (add-zero a)) (zero-add k)
from_on_append (suc j) a k =
    let first : suc j + k ≡ suc (j + k) = omega arith in
    let later : suc a + j ≡ a + suc j = omega arith in
    ap (from_on a) first ∙ ap (λ (r : List ℕ). a ∷ r) (from_on_append j (suc a) k ∙ ap (λ (b : ℕ). from_on (suc a) j ++ from_on b k) later)

module _ (n p : ℕ) (pins : List (Option ℕ)) where
  -- the fitting vectors among k numbers from a on
  abbrev part : ℕ → ℕ → List ℕ
  part a k = filter (fits pins) (filter (has n p) (from_on a k))

  part_append : (j a k : ℕ) → part a (j + k) ≡ part a j ++ part (a + j) k
  part_append j a k =
      ap (λ (r : List ℕ). filter (fits pins) (filter (has n p) r)) (from_on_append j a k)
      ∙ ap (filter (fits pins)) (filter-append (has n p) (from_on a j) (from_on (a + j) k))
      ∙ filter-append (fits pins) (filter (has n p) (from_on a j)) (filter (has n p) (from_on (a + j) k))

  -- a number that is not kept
  part_other : (a k : ℕ) → (has n p a ≡ true → fits pins a ≡ true → ⊥) → part a (suc k) ≡ part (suc a) k
  unfolding from_on
  part_other a k h = by_has (has n p a) refl
    where
      rest : List ℕ
      rest = filter (has n p) (from_on (suc a) k)

      by_fits : (b : Bool) → fits pins a ≡ b → (b ≡ true → ⊥) → cond b (a ∷ filter (fits pins) rest) (filter (fits pins) rest) ≡ filter (fits pins) rest
      by_fits true e no' = absurd (no' refl)
      by_fits false e no' = refl

      by_has : (b : Bool) → has n p a ≡ b → filter (fits pins) (cond b (a ∷ rest) rest) ≡ filter (fits pins) rest
      by_has true e = by_fits (fits pins a) refl (h e)
      by_has false e = refl

  -- a number that is kept
  part_one : (a k : ℕ) → has n p a ≡ true → fits pins a ≡ true → part a (suc k) ≡ a ∷ part (suc a) k
  unfolding from_on
  part_one a k e f =
      ap (λ (b : Bool). filter (fits pins) (cond b (a ∷ filter (has n p) (from_on (suc a) k)) (filter (has n p) (from_on (suc a) k)))) e
      ∙ ap (λ (b : Bool). cond b (a ∷ part (suc a) k) (part (suc a) k)) f

  part_empty : (k a : ℕ) → ((v : ℕ) → a ≤ v → v < a + k → has n p v ≡ true → fits pins v ≡ true → ⊥) → part a k ≡ []
  unfolding from_on
  part_empty zero a h = refl
  part_empty (suc k) a h =
      part_other a k (h a (omega arith) (omega arith)) ∙ part_empty k (suc a) (λ v l u. h v (omega arith) (omega arith))

  below_is : (a : ℕ) → fitting_below n p pins a ≡ part 0 a
  unfolding fitting_below vectors_below
  below_is a = refl

  list_is : fitting_list n p pins ≡ part 0 (2 ^ n)
  unfolding fitting_list full_list vectors_below
  list_is = refl

  pub below_none : fitting_below n p pins 0 ≡ []
  unfolding fitting_below vectors_below from_on
  below_none = refl

  module _ (a : ℕ) (reached : a ≤ 2 ^ n) where
    wanted : (v : ℕ) → a ≤ v → v < 2 ^ n → has n p v ≡ true → fits pins v ≡ true → Wanted n p pins a v
    unfolding has
    wanted v l u e f = record { one = record { below = u; polynomial = eqb-true (polynomial_of n v) p e }; obeys = f; from = l }

    -- the list falls into what is below a and what is not
    split : (b : ℕ) → a ≤ b → part 0 b ≡ part 0 a ++ part a (b - a)
    split b l =
        let sum : b ≡ a + (b - a) = omega arith in
        ap (part 0) sum ∙ part_append a 0 (b - a) ∙ ap (λ (c : ℕ). part 0 a ++ part c (b - a)) (zero-add a)

    pub none_left : Least (Wanted n p pins a) None → fitting_below n p pins a ≡ fitting_list n p pins
    none_left none =
        below_is a ∙ sym (list_is ∙ split (2 ^ n) reached
        ∙ ap (λ (r : List ℕ). part 0 a ++ r) (part_empty (2 ^ n - a) a (λ v l u e f. none.least v (wanted v l (omega arith) e f)))
        ∙ append-nil (part 0 a))

    pub all_given : Least (Wanted n p pins a) None → ltb (length (fitting_below n p pins a)) (length (fitting_list n p pins)) ≡ false
    all_given none = le-ltb (length (fitting_below n p pins a)) (length (fitting_list n p pins)) (omega (arith, ap length (none_left none)))

    module _ (v : ℕ) (first : Least (Wanted n p pins a) (Some v)) where
      has_it : has n p v ≡ true
      unfolding has
      has_it = eq-eqb (polynomial_of n v) p first.sound.one.polynomial

      pub vector_below : v < 2 ^ n
      vector_below = first.sound.one.below

      pub vector_from : a ≤ v
      vector_from = first.sound.from

      -- none between a and v
      gap : part a (v - a) ≡ []
      gap =
          part_empty (v - a) a (λ u l h e f.
          let small = vector_below in
          let up = vector_from in
          let under : u < v = omega arith in
          let low = first.least u (wanted u l (omega arith) e f) in
          omega arith)

      -- from a on there is v, and what comes after it
      from_here : (k : ℕ) → part a (v - a + suc k) ≡ v ∷ part (suc v) k
      from_here k =
          let there : a + (v - a) ≡ v = omega (arith, vector_from) in
          part_append (v - a) a (suc k) ∙ ap₂ (λ (r : List ℕ) (b : ℕ). r ++ part b (suc k)) gap there ∙ part_one v k has_it first.sound.obeys

      pub one_left : fitting_list n p pins ≡ fitting_below n p pins a ++ (v ∷ part (suc v) (2 ^ n - suc v))
      one_left =
          let sum : 2 ^ n - a ≡ v - a + suc (2 ^ n - suc v) = omega (arith, vector_from, vector_below) in
          list_is ∙ split (2 ^ n) reached
          ∙ ap₂ ◌++◌ (sym (below_is a)) (ap (part a) sum ∙ from_here (2 ^ n - suc v))

      pub some_left : ltb (length (fitting_below n p pins a)) (length (fitting_list n p pins)) ≡ true
      some_left =
          lt-ltb (length (fitting_below n p pins a)) (length (fitting_list n p pins))
          (omega (arith, ap length one_left, length-append (fitting_below n p pins a) (v ∷ part (suc v) (2 ^ n - suc v))))

      pub one_more : fitting_below n p pins (v + 1) ≡ fitting_below n p pins a ++ (v ∷ [])
      unfolding from_on
      one_more =
          let sum : v + 1 - a ≡ v - a + suc 0 = omega (arith, vector_from) in
          below_is (v + 1) ∙ split (v + 1) (omega (arith, vector_from))
          ∙ ap₂ ◌++◌ (sym (below_is a)) (ap (part a) sum ∙ from_here 0)

      pub count_more : length (fitting_below n p pins (v + 1)) ≡ length (fitting_below n p pins a) + 1
      count_more = ap length one_more ∙ length-append (fitting_below n p pins a) (v ∷ [])

-- with no pin, all vectors fit
pub unpinned : (n p : ℕ) → fitting_list n p (replicate 31 None) ≡ full_list n p
unfolding fitting_list fits
unpinned n p = all_kept (full_list n p)
  where
    all_kept : (vs : List ℕ) → filter (fits (replicate 31 None)) vs ≡ vs
    all_kept [] = refl
    all_kept (v ∷ vs) = ap (λ (r : List ℕ). v ∷ r) (all_kept vs)
