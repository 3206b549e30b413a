-- The pins of a vector, one by one.
use Rattle.std.proofs.Common.{◌≡◌, ℕ, zero, suc, ◌+◌, ◌/◌, ◌%◌, ◌^◌, ◌<◌, Bool, true, false, ◌&&◌, eqb, List, [], ◌∷◌, length, get_or, Some, None, Option, sym, refl, ap, ◌∙◌, subst, ap₂, shr-shr, div-one, arith, eq-eqb, ne_eqb, MatchBool, HoldsAt}
use Rattle.std.proofs.Math.Bool.{and-false}
use Rattle.std.specs.List.{AllWithin, enumerate_from}
use Rattle.std.proofs.lemmas.List.FromFn.{length-enumerate_from, get_or-enumerate_from}
use Rattle.search.specs.Lists.{fits}

-- the digit of v at i is as the pin fixes it
abbrev pub Obeys : ℕ → ℕ → Option ℕ → Type 0
Obeys v i None = Unit {0}
Obeys v i (Some b) = v / 2 ^ i % 2 ≡ b

abbrev pub At : ℕ → ℕ × Option ℕ → Type 0
At v p = Obeys v p.0 p.1

next : (v i : ℕ) → v / 2 ^ i / 2 ≡ v / 2 ^ (i + 1)
next v i = shr-shr v i 1

all : (pins : List (Option ℕ)) (v i : ℕ) → ((k : ℕ) → k < length pins → Obeys v (i + k) (get_or pins k None)) → fits pins (v / 2 ^ i) ≡ true
unfolding fits
all [] v i h = refl
all (None ∷ pins) v i h = ap (fits pins) (next v i) ∙ all pins v (i + 1) (λ k l. let later : i + suc k ≡ i + 1 + k = omega arith in subst (λ (j : ℕ). Obeys v j (get_or pins k None)) later (h (suc k) (omega arith)))
all (Some b ∷ pins) v i h =
    let here : i + 0 ≡ i = omega arith in
    ap₂ ◌&&◌ (eq-eqb (v / 2 ^ i % 2) b (subst (λ (j : ℕ). v / 2 ^ j % 2 ≡ b) here (h 0 (omega arith))))
    (ap (fits pins) (next v i) ∙ all pins v (i + 1) (λ k l. let later : i + suc k ≡ i + 1 + k = omega arith in subst (λ (j : ℕ). Obeys v j (get_or pins k None)) later (h (suc k) (omega arith))))

one : (pins : List (Option ℕ)) (v i k : ℕ) → k < length pins → (Obeys v (i + k) (get_or pins k None) → ⊥) → fits pins (v / 2 ^ i) ≡ false
unfolding fits
one [] v i k l h = absurd (omega arith)
one (None ∷ pins) v i zero l h = absurd (h tt)
one (Some b ∷ pins) v i zero l h =
    let here : i + 0 ≡ i = omega arith in
    ap (λ (a : Bool). a && fits pins (v / 2 ^ i / 2)) (ne_eqb (v / 2 ^ i % 2) b (λ e. h (subst (λ (j : ℕ). v / 2 ^ j % 2 ≡ b) (sym here) e)))
one (None ∷ pins) v i (suc k) l h =
    let later : i + suc k ≡ i + 1 + k = omega arith in
    ap (fits pins) (next v i) ∙ one pins v (i + 1) k (omega arith) (subst (λ (j : ℕ). Obeys v j (get_or pins k None) → ⊥) later h)
one (Some b ∷ pins) v i (suc k) l h =
    let later : i + suc k ≡ i + 1 + k = omega arith in
    ap (λ (a : Bool). eqb (v / 2 ^ i % 2) b && a) (ap (fits pins) (next v i) ∙ one pins v (i + 1) k (omega arith) (subst (λ (j : ℕ). Obeys v j (get_or pins k None) → ⊥) later h))
    ∙ and-false (eqb (v / 2 ^ i % 2) b)

pub obeyed : (pins : List (Option ℕ)) (v : ℕ) (r : Bool) → MatchBool r (AllWithin (At v) (enumerate_from 0 pins) 0 (length (enumerate_from 0 pins))) ((k : ℕ) × (k < length (enumerate_from 0 pins)) × HoldsAt (λ p. At v p → ⊥) (enumerate_from 0 pins) k)
    → r ≡ fits pins v
obeyed pins v true h =
    sym (ap (fits pins) (sym (div-one v)) ∙ all pins v 0
    (λ k l. subst (At v) (get_or-enumerate_from 0 pins k (0, None) l) (h k (0, None) (omega arith) (omega (arith, length-enumerate_from 0 pins)))))
obeyed pins v false h =
    let within : h.0 < length pins = omega (arith, length-enumerate_from 0 pins, h.1) in
    sym (ap (fits pins) (sym (div-one v)) ∙ one pins v 0 h.0 within (subst (λ p. At v p → ⊥) (get_or-enumerate_from 0 pins h.0 (0, None) within) (h.2 (0, None))))
