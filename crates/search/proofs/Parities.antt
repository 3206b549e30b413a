-- The parity of the bits that one word chooses from another: additive in both words, and bit by bit.
use Rattle.std.proofs.Common.{◌≡◌, ℕ, zero, suc, ◌+◌, ◌*◌, ◌/◌, ◌%◌, ◌^◌, ◌<◌, List, [], ◌∷◌, sym, refl, ap, ◌∙◌, ap₂, mod-lt, zero-lt-suc, pow-suc, zero-add, div-one, one-add, arith, pow_pos, shr-shr}
use native.Mathlib.Nat.{div-eq_of_lt}
use lib.Arith.{bin_ind, digits_div, digits_mod}
use lib.Bits.{bit_and, bit_xor, and_comm, and_zero_r, and_mod, and_shr, and_mask, xor_mod, xor_shr, xor_add_and}
use lib.Count.{ones, ones_step}
use Rattle.generators.specs.Chosen.{taken, chosen}
use Rattle.search.specs.Systems.{coefficient, word_of, row}

abbrev pub parity : ℕ → ℕ → ℕ
parity w y = ones (bit_and w y) % 2

pub coefficient_below : (a k : ℕ) → coefficient a k < 2
coefficient_below a k = mod-lt (a / 2 ^ k) (zero-lt-suc 1)

ones_zero : ones 0 ≡ 0
unfolding ones
ones_zero = refl

ones_none : (w : ℕ) → ones (bit_and w 0) ≡ 0
ones_none w = ap ones (and_zero_r w) ∙ ones_zero

pub parity_none : (w : ℕ) → parity w 0 ≡ 0
parity_none w = ap (λ (z : ℕ). z % 2) (ones_none w)

-- the lowest bits apart
step : (w y : ℕ) → ones (bit_and w y) ≡ bit_and (w % 2) (y % 2) + ones (bit_and (w / 2) (y / 2))
step w y = ones_step (bit_and w y) ∙ ap₂ (λ (x z : ℕ). x + ones z) (and_mod w y 1) (and_shr w y 1)

pub xor_parity : (a b : ℕ) → bit_xor a b % 2 ≡ (a + b) % 2
xor_parity a b = omega (arith, xor_add_and a b)

digits : (x y z : ℕ) → z < 2 → bit_and (bit_xor x y) z % 2 ≡ (bit_and x z + bit_and y z) % 2
digits x y zero h = ap (λ (w : ℕ). w % 2) (and_zero_r (bit_xor x y)) ∙ sym (ap₂ (λ (v w : ℕ). (v + w) % 2) (and_zero_r x) (and_zero_r y))
digits x y (suc zero) h =
    ap (λ (w : ℕ). w % 2) (and_mask (bit_xor x y) 1) ∙ omega (arith, xor_add_and x y)
    ∙ sym (ap₂ (λ (v w : ℕ). (v + w) % 2) (and_mask x 1) (and_mask y 1))
digits x y (suc (suc z)) h = absurd (omega arith)

pub parity_sum_l : (a b y : ℕ) → parity (bit_xor a b) y ≡ (ones (bit_and a y) + ones (bit_and b y)) % 2
parity_sum_l a b y =
    bin_ind (λ (y : ℕ). (a b : ℕ) → parity (bit_xor a b) y ≡ (ones (bit_and a y) + ones (bit_and b y)) % 2)
    (λ a b. parity_none (bit_xor a b) ∙ sym (ap₂ (λ (x z : ℕ). (x + z) % 2) (ones_none a) (ones_none b)))
    (λ y ih a b.
    let rest = ih (a / 2) (b / 2) in
    let low = digits (a % 2) (b % 2) (y % 2) (mod-lt y (zero-lt-suc 1)) in
    let first = step a y in
    let second = step b y in
    let both : ones (bit_and (bit_xor a b) y) ≡ bit_and (bit_xor (a % 2) (b % 2)) (y % 2) + ones (bit_and (bit_xor (a / 2) (b / 2)) (y / 2)) =
    step (bit_xor a b) y ∙ ap₂ (λ (x z : ℕ). bit_and x (y % 2) + ones (bit_and z (y / 2))) (xor_mod a b 1) (xor_shr a b 1) in
    omega arith)
    y a b

parity_comm : (w y : ℕ) → parity w y ≡ parity y w
parity_comm w y = ap (λ (z : ℕ). ones z % 2) (and_comm w y)

pub parity_sum_r : (w a b : ℕ) → parity w (bit_xor a b) ≡ (ones (bit_and w a) + ones (bit_and w b)) % 2
parity_sum_r w a b =
    ap (λ (z : ℕ). ones z % 2) (and_comm w (bit_xor a b)) ∙ parity_sum_l a b w
    ∙ ap₂ (λ (x z : ℕ). (ones x + ones z) % 2) (and_comm a w) (and_comm b w)

digit_and : (x y : ℕ) → x < 2 → y < 2 → bit_and x y ≡ x * y
digit_and x zero hx hy = and_zero_r x ∙ omega arith
digit_and x (suc zero) hx hy = and_mask x 1 ∙ omega arith
digit_and x (suc (suc y)) hx hy = absurd (omega arith)

-- one bit more at the low end of the word that is chosen from
pub parity_more : (w y d : ℕ) → d < 2 → parity w (y * 2 + d) ≡ (w % 2 * d + parity (w / 2) y) % 2
parity_more w y d h =
    ap (λ (z : ℕ). z % 2)
    (step w (y * 2 + d)
    ∙ ap₂ (λ (x z : ℕ). bit_and (w % 2) x + ones (bit_and (w / 2) z)) (digits_mod y h) (digits_div y h)
    ∙ ap (λ (z : ℕ). z + ones (bit_and (w / 2) y)) (digit_and (w % 2) d (mod-lt w (zero-lt-suc 1)) h))
    ∙ omega arith

-- of a single bit
pub ones_single : (w k : ℕ) → ones (bit_and w (2 ^ k)) ≡ coefficient w k
ones_single w zero =
    ap ones (and_mask w 1) ∙ single (w % 2) (mod-lt w (zero-lt-suc 1)) ∙ ap (λ (z : ℕ). z % 2) (sym (div-one w))
  where
    single : (d : ℕ) → d < 2 → ones d ≡ d
    single zero h = ones_zero
    single (suc zero) h = ones_step 1 ∙ ap (λ (z : ℕ). 1 + z) ones_zero
    single (suc (suc d)) h = absurd (omega arith)
ones_single w (suc k) =
    let half : 2 ^ suc k / 2 ≡ 2 ^ k = ap (λ (z : ℕ). z / 2) (pow-suc 2 k) ∙ omega arith in
    let even : 2 ^ suc k % 2 ≡ 0 = ap (λ (z : ℕ). z % 2) (pow-suc 2 k) ∙ omega arith in
    step w (2 ^ suc k)
    ∙ ap₂ (λ (x z : ℕ). bit_and (w % 2) x + ones (bit_and (w / 2) z)) even half
    ∙ ap₂ ◌+◌ (and_zero_r (w % 2)) (ones_single (w / 2) k) ∙ zero-add (coefficient (w / 2) k)
    ∙ ap (λ (z : ℕ). z % 2) (shr-shr w 1 k ∙ ap (λ (n : ℕ). w / 2 ^ n) (one-add k))

coefficient_sum : (a b k : ℕ) → coefficient (bit_xor a b) k ≡ (coefficient a k + coefficient b k) % 2
coefficient_sum a b k = ap (λ (z : ℕ). z % 2) (xor_shr a b k) ∙ xor_parity (a / 2 ^ k) (b / 2 ^ k) ∙ omega arith

coefficient_zero : (k : ℕ) → coefficient 0 k ≡ 0
coefficient_zero k = ap (λ (z : ℕ). z % 2) (div-eq_of_lt (pow_pos k))

coefficient_taken : (d c k : ℕ) → d < 2 → coefficient (taken 0 d c) k ≡ d * coefficient c k
coefficient_taken zero c k h = coefficient_zero k ∙ omega arith
coefficient_taken (suc zero) c k h = omega arith
coefficient_taken (suc (suc d)) c k h = absurd (omega arith)

-- a coefficient of the columns that y chooses, from that coefficient of each
pub row_parity : (cs : List ℕ) (y k : ℕ) → coefficient (chosen 0 bit_xor cs y) k ≡ parity (row cs k) y
unfolding chosen word_of
row_parity [] y k = coefficient_zero k ∙ sym (ap (λ (z : ℕ). z % 2) ones_zero)
row_parity (c ∷ cs) y k =
    let low = coefficient_taken (y % 2) c k (mod-lt y (zero-lt-suc 1)) in
    let rest = row_parity cs (y / 2) k in
    coefficient_sum (taken 0 (y % 2) c) (chosen 0 bit_xor cs (y / 2)) k
    ∙ ap₂ (λ (x z : ℕ). (x + z) % 2) low (rest ∙ parity_comm (row cs k) (y / 2))
    ∙ sym (parity_comm (row cs k * 2 + coefficient c k) y ∙ parity_more y (row cs k) (coefficient c k) (coefficient_below c k))
