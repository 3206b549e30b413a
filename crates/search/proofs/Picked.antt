-- The smallest number that calls gave at the items of an iterator, where a call promises a fact of what it gives.
use Rattle.std.proofs.Common.{◌≡◌, ℕ, zero, suc, ◌+◌, ◌<◌, ◌≤◌, min, ◌⊎◌, inl, inr, List, [], ◌∷◌, Some, None, Option, sym, refl, ◌∙◌, subst, ⊎_elim, arith}
use Rattle.std.specs.Fn.{Called}
use Rattle.std.specs.Iterator.{AlwaysYields, Yields, Drains, PicksByCmp}
use Rattle.std.specs.Iterator.Adapters.{filter_map_source, filter_map_callee, filter_map_steps}
use Rattle.std.specs.List.{FoldsTo, cons_option, range_with_len}
use Rattle.std.specs.Option.{MatchOption, IsSome}
use Rattle.std.specs.declared.iter.FilterMap.{FilterMap}
use Rattle.std.specs.Ordering.{nat_cmp, min_by_ordering}
use Rattle.std.specs.declared.cmp.Ordering.{Ordering}
use Rattle.std.specs.declared.cmp.Ordering.TheVariants.{Less, Equal, Greater}
use Rattle.std.proofs.lemmas.Cmp.{ranked}
use Rattle.std.proofs.lemmas.Iterator.{YieldsList}
use denote.Param.Members.{Mut}
use Rattle.gf2.proofs.Orders.{order}

abbrev pub In : ℕ → List ℕ → Type 0
In v [] = ⊥
In v (x ∷ xs) = (v ≡ x) ⊎ In v xs

pub in_range : (n a t : ℕ) → a ≤ t → t < a + n → In t (range_with_len a n)
in_range zero a t low high = absurd (omega arith)
in_range (suc n) a t low high = ⊎_elim (λ less. inr (in_range n (a + 1) t (omega arith) (omega arith))) (λ from. let same : t ≡ a = omega arith in inl same) (order a t)

-- ---- the smallest of items

pick : (p z : ℕ) (o : Ordering) → nat_cmp p z ≡ o → min_by_ordering o p z ≡ min p z
pick p z Less e = omega (arith, ranked p z Less (sym e))
pick p z Equal e = omega (arith, ranked p z Equal (sym e))
pick p z Greater e = omega (arith, ranked p z Greater (sym e))

lowest : (xs : List ℕ) (x y : ℕ) → FoldsTo (λ best z next. next ≡ min_by_ordering (nat_cmp best z) best z) x xs y → In y (x ∷ xs) × ((v : ℕ) → In v (x ∷ xs) → y ≤ v)
lowest [] x y c = (inl (sym c), λ v i. ⊎_elim (λ e. omega arith) (λ no'. absurd no') i)
lowest (z ∷ xs) x y c =
    let least : c.0 ≡ min x z = c.1 ∙ pick x z (nat_cmp x z) refl in
    let later = lowest xs c.0 y c.2 in (
      ⊎_elim
          (λ e. ⊎_elim (λ less. let is : y ≡ x = omega arith in inl is) (λ up. let is : y ≡ z = omega arith in inr (inl is)) (order x z))
          (λ i. inr (inr i)) later.0,
      λ v i. let low = later.1 c.0 (inl refl) in ⊎_elim (λ e. omega arith) (λ j. ⊎_elim (λ e. omega arith) (λ k. later.1 v (inr k)) j) i,
    )

-- ---- what the calls gave, those that gave something

module _ (R : ℕ → Option ℕ → Type 0) where
  abbrev pub Gave : List ℕ → List ℕ → Type 0
  Gave [] zs = zs ≡ []
  Gave (t ∷ ts) zs = (o : Option ℕ) × (rest : List ℕ) × R t o × Gave ts rest × (zs ≡ cons_option o rest)

  module _ {S F : Type 0} (steps : S → Option ℕ → S → Type 0) (g : Mut F (ℕ × Unit {0}) (Option ℕ)) (f : F)
      (k : (t : ℕ) (o : Option ℕ) (q : F) → Called g f (t, tt) o q → (q ≡ f) × R t o) where
    -- items at which nothing was given
    skipped : (xs : List ℕ) (s t : S) (ts : List ℕ) (q : F) → AlwaysYields steps (λ x. x) s ts → Yields steps s xs t → FoldsTo (λ p x q. Called g p (x, tt) None q) f xs q
        → (rest : List ℕ) × AlwaysYields steps (λ x. x) t rest × (q ≡ f) × ((zs : List ℕ) → Gave rest zs → Gave ts zs)
    skipped [] s t ts q a y c = (ts, subst (λ (w : S). AlwaysYields steps (λ x. x) w ts) y a, sym c, λ zs h. h)
    skipped (x ∷ xs) s t [] q a y c = absurd (a x y.0 y.1)
    skipped (x ∷ xs) s t (u ∷ ts) q a y c =
        let n = a.1 x y.0 y.1 in
        let call = k x None c.0 c.1 in
        let later = skipped xs y.0 t ts q n.1 y.2 (subst (λ (w : F). FoldsTo (λ p x q. Called g p (x, tt) None q) w xs q) call.0 c.2) in
        (later.0, later.1, later.2, λ zs h. (None, zs, subst (λ (w : ℕ). R w None) n.0 call.1, later.3 zs h, refl))

    abbrev Next : List ℕ → FilterMap S F → Option ℕ → Type 0
    Next ts u r = MatchOption r (Gave ts []) (λ z. (rest : List ℕ) × AlwaysYields steps (λ x. x) (filter_map_source u) rest × (filter_map_callee u ≡ f) × ((zs : List ℕ) → Gave rest zs → Gave ts (z ∷ zs)))

    -- the call after those that were skipped
    last : (o r : Option ℕ) (ts rest : List ℕ) (t : S) (u : FilterMap S F) (q : F) → AlwaysYields steps (λ x. x) t rest → q ≡ f → ((zs : List ℕ) → Gave rest zs → Gave ts zs)
        → steps t o (filter_map_source u) → MatchOption o ((r ≡ None) × (filter_map_callee u ≡ q)) (λ x. Called g q (x, tt) r (filter_map_callee u) × IsSome r) → Next ts u r
    last None r ts [] t u q a e back step m = subst (Next ts u) (sym m.0) (back [] refl)
    last None r ts (y ∷ rest) t u q a e back step m = absurd (a.0 (filter_map_source u) step)
    last (Some x) r ts [] t u q a e back step m = absurd (a x (filter_map_source u) step)
    last (Some x) None ts (y ∷ rest) t u q a e back step m = let none = m.1 in absurd cc
    last (Some x) (Some z) ts (y ∷ rest) t u q a e back step m =
        let n = a.1 x (filter_map_source u) step in
        let call = k x (Some z) (filter_map_callee u) (subst (λ (w : F). Called g w (x, tt) (Some z) (filter_map_callee u)) e m.0) in
        (rest, n.1, call.0, λ zs h. back (z ∷ zs) (Some z, zs, subst (λ (w : ℕ). R w (Some z)) n.0 call.1, h, refl))

    one : (s u : FilterMap S F) (ts : List ℕ) (r : Option ℕ) → AlwaysYields steps (λ x. x) (filter_map_source s) ts → filter_map_callee s ≡ f → filter_map_steps steps g s r u → Next ts u r
    one s u ts r a c step =
        let before = skipped step.0 (filter_map_source s) step.3.0 ts step.2 a step.3.1 (subst (λ (w : F). FoldsTo (λ p x q. Called g p (x, tt) None q) w step.0 step.2) c step.4) in
        last step.1 r ts before.0 step.3.0 u step.2 before.1 before.2 before.3 step.3.2 step.5

    gave : (zs : List ℕ) (s : FilterMap S F) (ts : List ℕ) → AlwaysYields steps (λ x. x) (filter_map_source s) ts → filter_map_callee s ≡ f → Drains (filter_map_steps steps g) s zs → Gave ts zs
    gave [] s ts a c d = one s d.0 ts None a c (subst (λ (w : FilterMap S F). filter_map_steps steps g w None d.0) (sym d.1.1) d.1.2)
    gave (z ∷ zs) s ts a c d =
        let next = one s d.1.1.0 ts (Some z) a c d.1.1.1 in
        next.3 zs (gave zs d.1.1.0 next.0 next.1 next.2 (d.0, (d.1.0, d.1.1.2, d.1.2)))

pub smallest : {S F : Type 0} {steps : S → Option ℕ → S → Type 0} {g : Mut F (ℕ × Unit {0}) (Option ℕ)} (s : FilterMap S F) (r : Option ℕ) → PicksByCmp (filter_map_steps steps g) min_by_ordering nat_cmp s r
    → (R : ℕ → Option ℕ → Type 0) (f : F) (ts : List ℕ) → YieldsList steps (λ x. x) (filter_map_source s) ts → filter_map_callee s ≡ f
    → ((t : ℕ) (o : Option ℕ) (q : F) → Called g f (t, tt) o q → (q ≡ f) × R t o)
    → (zs : List ℕ) × Gave R ts zs × MatchOption r (zs ≡ []) (λ y. In y zs × ((v : ℕ) → In v zs → y ≤ v))
smallest {S} {F} {steps} {g} s None ran R f ts a c k = ([], gave R steps g f k [] s ts a.runs c ran, refl)
smallest {S} {F} {steps} {g} s (Some y) ran R f ts a c k = (ran.0 ∷ ran.1, gave R steps g f k (ran.0 ∷ ran.1) s ts a.runs c ran.2, lowest ran.1 ran.0 y ran.3)
