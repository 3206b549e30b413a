-- A pile is its layers one upon the other, and so keeps the laws of what lies below it.
use Rattle.std.specs.Prelude.{◌≡◌, ℕ, zero, suc, ◌+◌, ◌-◌, ◌/◌, ◌^◌, ◌<◌, bit_xor, refl}
use Rattle.std.proofs.Common.{sym, ap, subst, ◌∙◌, pow-suc, mul_comm, two-mul, arith}
use Rattle.generators.specs.Generators.{Meaning, Lawful, doubled, tapped, iterate}
use Rattle.generators.specs.Piles.{tapped_word, piled}
use Rattle.generators.specs.Layers.{doubled_lawful, tapped_lawful}

stacked : ℕ → ℕ → Meaning → Meaning
stacked zero zero m = m
stacked zero (suc t) m = stacked zero t (tapped m)
stacked (suc d) t m = stacked d t (doubled m)

stacked_lawful : (d t : ℕ) (m : Meaning) → Lawful m → Lawful (stacked d t m)
unfolding stacked
stacked_lawful zero zero m l = l
stacked_lawful zero (suc t) m l = stacked_lawful zero t (tapped m) (tapped_lawful m l)
stacked_lawful (suc d) t m l = stacked_lawful d t (doubled m) (doubled_lawful m l)

stacked_polynomial : (d t : ℕ) (m : Meaning) → (stacked d t m).polynomial ≡ m.polynomial
unfolding stacked
stacked_polynomial zero zero m = refl
stacked_polynomial zero (suc t) m = stacked_polynomial zero t (tapped m)
stacked_polynomial (suc d) t m = stacked_polynomial d t (doubled m)

stacked_cells : (d t : ℕ) (m : Meaning) → (stacked d t m).cells ≡ m.cells
unfolding stacked
stacked_cells zero zero m = refl
stacked_cells zero (suc t) m = stacked_cells zero t (tapped m)
stacked_cells (suc d) t m = stacked_cells d t (doubled m)

stacked_shown : (d t : ℕ) (m : Meaning) (s : ℕ) → (stacked d t m).shown s ≡ tapped_word t (m.shown s)
unfolding stacked tapped_word
stacked_shown zero zero m s = refl
stacked_shown zero (suc t) m s = stacked_shown zero t (tapped m) s
stacked_shown (suc d) t m s = stacked_shown d t (doubled m) s

-- c double steps are 2·c steps
iterate_twice : (f : ℕ → ℕ) (c s : ℕ) → iterate (λ z. f (f z)) c s ≡ iterate f (c + c) s
unfolding iterate
iterate_twice f zero s = refl
iterate_twice f (suc c) s =
    ap (λ z. f (f z)) (iterate_twice f c s) ∙ ap (λ (n : ℕ). iterate f n s) (sym (suc_twice c))
  where
    suc_twice : (c : ℕ) → suc c + suc c ≡ suc (suc (c + c))
    suc_twice c = omega arith

stacked_next : (d t : ℕ) (m : Meaning) (s : ℕ) → (stacked d t m).next s ≡ iterate m.next (2 ^ d) s
unfolding stacked iterate
stacked_next zero zero m s = refl
stacked_next zero (suc t) m s = stacked_next zero t (tapped m) s
stacked_next (suc d) t m s =
    stacked_next d t (doubled m) s ∙ iterate_twice m.next (2 ^ d) s
    ∙ ap (λ (n : ℕ). iterate m.next n s) (sym (pow-suc 2 d ∙ mul_comm (2 ^ d) 2 ∙ two-mul (2 ^ d)))

stacked_is : (d t : ℕ) (m : Meaning) → stacked d t m ≡ piled d t m
stacked_is d t m = λ i. record {
  polynomial = stacked_polynomial d t m i;
  cells = stacked_cells d t m i;
  next = λ s. stacked_next d t m s i;
  shown = λ s. stacked_shown d t m s i;
}

pub piled_lawful : (d t : ℕ) (m : Meaning) → Lawful m → Lawful (piled d t m)
piled_lawful d t m l = subst Lawful (stacked_is d t m) (stacked_lawful d t m l)

-- ---- the loop over the taps

pub taps_none : (w : ℕ) → tapped_word 0 w ≡ w
unfolding tapped_word
taps_none w = refl

-- the taps that are left, over what one tap made
pub taps_more : (t w : ℕ) → 0 < t → tapped_word t w ≡ tapped_word (t - 1) (bit_xor w (w / 2))
unfolding tapped_word
taps_more zero w h = absurd (omega arith)
taps_more (suc t) w h = let one : suc t - 1 ≡ t = omega arith in ap (λ (n : ℕ). tapped_word n (bit_xor w (w / 2))) (sym one)
