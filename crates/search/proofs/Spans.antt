-- Additive maps by their values at the powers of x, and the words that a base and directions give.
use Rattle.std.proofs.Common.{◌≡◌, ℕ, zero, suc, ◌+◌, ◌*◌, ◌/◌, ◌%◌, ◌^◌, ◌<◌, ◌≤◌, List, [], ◌∷◌, length, get_or, set, sym, refl, ap, ◌∙◌, subst, ap₂, mod-lt, mod-eq_of_lt, zero-lt-suc, mul_assoc, mul_comm as mul_comm', div-lt_iff_lt-mul, add_comm, one-mul, pow-suc, div-add-mod', zero-mul, add-one, arith, length-set, pow_pos}
use lib.Arith.{lt-one, digits_lt}
use lib.Pow.{mod-pow-add}
use lib.Seq.{set-get_or}
use lib.Bits.{bit_and, bit_xor, xor_zero_r, xor_shifted, xor_block, xor_lt, and_le_l}
use Rattle.gf2.specs.Algebra.{product, derivative}
use Rattle.gf2.proofs.Sums.{Additive, additive_zero, additive_digit, xor_left_comm, sums}
use Rattle.gf2.proofs.Ring.{ring, mul_sum_l, mul_sum_r, mul_x_l, mul_one_l}
use Rattle.gf2.proofs.Derivation.{derivative_additive}
use Rattle.gf2.proofs.Division.{mul_below}
use Rattle.gf2.proofs.Words.{derivative_word}
use Rattle.generators.specs.Chosen.{taken, chosen}
use Rattle.search.specs.declared.equations.Equation.{Equation}
use Rattle.search.specs.Identity.{x²+x, image}
use Rattle.search.specs.Systems.{coefficient, value, word_of, evaluate}
use Rattle.search.proofs.Parities.{coefficient_below, parity_sum_r, parity_none, xor_parity}
use Rattle.search.proofs.Systems.{value_below}

-- ---- one item more to choose from

pub chosen_zero : (xs : List ℕ) → chosen 0 bit_xor xs 0 ≡ 0
unfolding chosen
chosen_zero [] = refl
chosen_zero (x ∷ xs) = chosen_zero xs

taken_digit : (d x : ℕ) → d < 2 → taken 0 d x ≡ d * x
taken_digit zero x h = sym (zero-mul x)
taken_digit (suc zero) x h = sym (one-mul x)
taken_digit (suc (suc d)) x h = absurd (omega arith)

pub chosen_more : (xs : List ℕ) (k x d t : ℕ) → d < 2 → t < 2 ^ k → k < length xs
    → chosen 0 bit_xor (set xs k x) (d * 2 ^ k + t) ≡ bit_xor (d * x) (chosen 0 bit_xor xs t)
unfolding chosen
chosen_more [] k x d t hd ht hk = absurd (omega arith)
chosen_more (y ∷ xs) zero x d t hd ht hk =
    let none : t ≡ 0 = lt-one ht in
    let low : (d * 1 + t) % 2 ≡ d = omega arith in
    let high : (d * 1 + t) / 2 ≡ 0 = omega arith in
    ap₂ (λ (b w : ℕ). bit_xor (taken 0 b x) (chosen 0 bit_xor xs w)) low high
    ∙ ap₂ bit_xor (taken_digit d x hd) (chosen_zero xs)
    ∙ ap (bit_xor (d * x)) (sym (chosen_zero (y ∷ xs)) ∙ ap (chosen 0 bit_xor (y ∷ xs)) (sym none))
chosen_more (y ∷ xs) (suc k) x d t hd ht hk =
    let power : d * 2 ^ suc k ≡ d * 2 ^ k * 2 = ap (λ (z : ℕ). d * z) (pow-suc 2 k) ∙ sym (mul_assoc d (2 ^ k) 2) in
    let low : (d * 2 ^ suc k + t) % 2 ≡ t % 2 = omega arith in
    let high : (d * 2 ^ suc k + t) / 2 ≡ d * 2 ^ k + t / 2 = omega arith in
    let half : t / 2 < 2 ^ k = (div-lt_iff_lt-mul (zero-lt-suc 1)).1 (subst (λ (z : ℕ). t < z) (pow-suc 2 k) ht) in
    ap₂ (λ (b w : ℕ). bit_xor (taken 0 b y) (chosen 0 bit_xor (set xs k x) w)) low high
    ∙ ap (bit_xor (taken 0 (t % 2) y)) (chosen_more xs k x d (t / 2) hd half (omega arith))
    ∙ xor_left_comm (taken 0 (t % 2) y) (d * x) (chosen 0 bit_xor xs (t / 2))

-- one digit more
top : (d k t : ℕ) → d < 2 → t < 2 ^ k → d * 2 ^ k + t < 2 ^ (k + 1)
top d k t hd ht =
    subst (λ (z : ℕ). d * 2 ^ k + t < z) (mul_comm' 2 (2 ^ k) ∙ sym (pow-suc 2 k) ∙ ap (λ (n : ℕ). 2 ^ n) (sym (add-one k))) (digits_lt hd ht)

-- ---- additive maps

-- a number below 2^(j+1) by its highest digit
parts : (y j : ℕ) → y ≡ bit_xor (y / 2 ^ j * 2 ^ j) (y % 2 ^ j)
parts y j = sym (xor_shifted (y / 2 ^ j) j (y % 2 ^ j) (mod-lt y (pow_pos j)) ∙ div-add-mod' y (2 ^ j))

-- columns that hold f at the powers of x below x^j
pub columns : (f : ℕ → ℕ) → Additive f → (xs : List ℕ) (j : ℕ) → j ≤ length xs → ((i : ℕ) → i < j → get_or xs i 0 ≡ f (2 ^ i)) → (y : ℕ) → y < 2 ^ j → chosen 0 bit_xor xs y ≡ f y
columns f add xs zero few is y h = ap (chosen 0 bit_xor xs) (lt-one h) ∙ chosen_zero xs ∙ sym (ap f (lt-one h) ∙ additive_zero f add)
columns f add xs (suc j) few is y h =
    let d = y / 2 ^ j in
    let t = y % 2 ^ j in
    let digit : d < 2 = (div-lt_iff_lt-mul (pow_pos j)).1 (subst (λ (z : ℕ). y < z) (pow-suc 2 j ∙ mul_comm' (2 ^ j) 2) h) in
    ap₂ (chosen 0 bit_xor) (sym (set-get_or xs j 0)) (sym (div-add-mod' y (2 ^ j)))
    ∙ chosen_more xs j (get_or xs j 0) d t digit (mod-lt y (pow_pos j)) (omega arith)
    ∙ ap₂ bit_xor
    (ap (λ (z : ℕ). d * z) (is j (omega arith)) ∙ sym (additive_digit f add d (2 ^ j) digit))
    (columns f add xs j (omega arith) (λ i l. is i (omega arith)) t (mod-lt y (pow_pos j)))
    ∙ sym (add (d * 2 ^ j) t) ∙ ap f (sym (parts y j))

-- ---- the image

pub image_additive : (p : ℕ) → Additive (image p)
unfolding image
image_additive p a b =
    ap (λ (w : ℕ). bit_xor (bit_xor (product p (bit_xor a b)) (product (bit_xor a b) (bit_xor a b))) (product x²+x w))
    (ap derivative (mul_sum_r p a b) ∙ derivative_additive (product p a) (product p b))
    ∙ collected p a b x²+x (derivative (product p a)) (derivative (product p b))
  where
    collected : (p a b e d f : ℕ) →
        bit_xor (bit_xor (product p (bit_xor a b)) (product (bit_xor a b) (bit_xor a b))) (product e (bit_xor d f))
        ≡ bit_xor (bit_xor (bit_xor (product p a) (product a a)) (product e d)) (bit_xor (bit_xor (product p b) (product b b)) (product e f))
    collected p a b e d f = simp ring

-- x²·d + x·d
six : (d : ℕ) → product x²+x d ≡ bit_xor (d * 4) (d * 2)
six d =
    let twice : product 2 d ≡ d * 2 = mul_x_l 1 d ∙ ap (λ (z : ℕ). z * 2) (mul_one_l d) in
    let four : d * 2 * 2 ≡ d * 4 = omega arith in
    mul_sum_l d 4 2 ∙ ap₂ bit_xor (mul_x_l 2 d ∙ ap (λ (z : ℕ). z * 2) twice ∙ four) twice

pub image_word : (p y whole slope square : ℕ) → p < 2 ^ 32 → y < 2 ^ 31 → whole ≡ product p y → slope ≡ derivative whole → square ≡ product y y
    → bit_xor (bit_xor whole square) (bit_xor (slope * 4 % 2 ^ 64) (slope * 2 % 2 ^ 64)) ≡ image p y
unfolding image
image_word p y whole slope square hp hy is slopes squared =
    let small : whole < 2 ^ 63 = subst (λ (z : ℕ). z < 2 ^ 63) (sym is) (mul_below 32 31 p y hp hy) in
    let steep : slope ≡ bit_and (whole / 2) 0x5555_5555_5555_5555 = slopes ∙ derivative_word 32 whole (omega arith) in
    let flat : slope < 2 ^ 62 = omega (arith, steep, and_le_l (whole / 2) 0x5555_5555_5555_5555) in
    ap₂ (λ (a b : ℕ). bit_xor (bit_xor whole square) (bit_xor a b)) (mod-eq_of_lt (omega arith)) (mod-eq_of_lt (omega arith))
    ∙ ap (bit_xor (bit_xor whole square)) (sym (six slope))
    ∙ ap₂ (λ (a b : ℕ). bit_xor (bit_xor a b) (product x²+x slope)) is squared
    ∙ ap (λ (a : ℕ). bit_xor (bit_xor (product p y) (product y y)) (product x²+x a)) (slopes ∙ ap derivative is)

-- ---- what expressions give

bits : (x y : ℕ) → x < 2 → y < 2 → bit_xor x y ≡ (x + y) % 2
bits x y hx hy = sym (mod-eq_of_lt (xor_lt 1 x y hx hy)) ∙ xor_parity x y

value_affine : (e : Equation) (a b : ℕ) → value e (bit_xor a b) ≡ bit_xor (bit_xor (value e a) (value e b)) (value e 0)
value_affine e a b =
    let sum = parity_sum_r e.word a b in
    let zero = parity_none e.word in
    let total : value e (bit_xor a b) ≡ ((value e a + value e b) % 2 + value e 0) % 2 = omega arith in
    let low = xor_lt 1 (value e a) (value e b) (value_below e a) (value_below e b) in
    total ∙ sym (bits (bit_xor (value e a) (value e b)) (value e 0) low (value_below e 0)
    ∙ ap (λ (z : ℕ). (z + value e 0) % 2) (bits (value e a) (value e b) (value_below e a) (value_below e b)))

block : (a b x y : ℕ) → x < 2 → y < 2 → bit_xor (a * 2 + x) (b * 2 + y) ≡ bit_xor a b * 2 + bit_xor x y
block a b x y hx hy = xor_block 1 a b x y hx hy

evaluate_affine : (es : List Equation) (a b : ℕ) → evaluate es (bit_xor a b) ≡ bit_xor (bit_xor (evaluate es a) (evaluate es b)) (evaluate es 0)
unfolding word_of
evaluate_affine [] a b = refl
evaluate_affine (e ∷ es) a b =
    let low = xor_lt 1 (value e a) (value e b) (value_below e a) (value_below e b) in
    ap₂ (λ (w d : ℕ). w * 2 + d) (evaluate_affine es a b) (value_affine e a b)
    ∙ sym (ap (λ (z : ℕ). bit_xor z (evaluate es 0 * 2 + value e 0)) (block (evaluate es a) (evaluate es b) (value e a) (value e b) (value_below e a) (value_below e b))
    ∙ block (bit_xor (evaluate es a) (evaluate es b)) (evaluate es 0) (bit_xor (value e a) (value e b)) (value e 0) low (value_below e 0))

-- the first k directions give all that the parameters below j do
pub record Spans (es : List Equation) (base j k : ℕ) (xs : List ℕ) : Type 0 where
  pub long : length xs ≡ 32
  pub few : k ≤ j
  pub covers : (y : ℕ) → (t : ℕ) × (t < 2 ^ k) × (evaluate es (y % 2 ^ j) ≡ bit_xor base (chosen 0 bit_xor xs t))

module _ (es : List Equation) (base : ℕ) (at_zero : base ≡ evaluate es 0) where
  -- a digit d at j moves the word by d times the direction
  moved : (m j d : ℕ) → d < 2 → evaluate es (bit_xor (d * 2 ^ j) m) ≡ bit_xor (d * bit_xor (evaluate es (2 ^ j)) base) (evaluate es m)
  moved m j zero h =
      ap (λ (z : ℕ). evaluate es (bit_xor z m)) (zero-mul (2 ^ j)) ∙ sym (ap (λ (z : ℕ). bit_xor z (evaluate es m)) (zero-mul (bit_xor (evaluate es (2 ^ j)) base)))
  moved m j (suc zero) h =
      ap (λ (z : ℕ). evaluate es (bit_xor z m)) (one-mul (2 ^ j)) ∙ evaluate_affine es (2 ^ j) m
      ∙ ap (bit_xor (bit_xor (evaluate es (2 ^ j)) (evaluate es m))) (sym at_zero)
      ∙ turned (evaluate es (2 ^ j)) (evaluate es m) base
      ∙ sym (ap (λ (z : ℕ). bit_xor z (evaluate es m)) (one-mul (bit_xor (evaluate es (2 ^ j)) base)))
    where
      turned : (a b c : ℕ) → bit_xor (bit_xor a b) c ≡ bit_xor (bit_xor a c) b
      turned a b c = simp sums
  moved m j (suc (suc d)) h = absurd (omega arith)

  pub spans_none : (xs : List ℕ) → length xs ≡ 32 → Spans es base 0 0 xs
  spans_none xs long =
      record {
        long = long;
        few = omega arith;
        covers = λ y.
            let none : y % 2 ^ 0 ≡ 0 = omega arith in
            (0, omega arith, ap (evaluate es) none ∙ sym at_zero ∙ sym (ap (bit_xor base) (chosen_zero xs) ∙ xor_zero_r base));
      }

  module _ (j k direction : ℕ) (xs : List ℕ) (is : direction ≡ bit_xor (evaluate es (2 ^ j)) base) (s : Spans es base j k xs) where
    -- one digit more of y
    digit : (y : ℕ) → evaluate es (y % 2 ^ (j + 1)) ≡ bit_xor (coefficient y j * direction) (bit_xor base (chosen 0 bit_xor xs (s.covers y).0))
    digit y =
        ap (evaluate es) (ap (λ (n : ℕ). y % 2 ^ n) (add_comm j 1) ∙ mod-pow-add y 1 j ∙ sym (xor_shifted (coefficient y j) j (y % 2 ^ j) (mod-lt y (pow_pos j))))
        ∙ moved (y % 2 ^ j) j (coefficient y j) (coefficient_below y j)
        ∙ ap₂ (λ (a b : ℕ). bit_xor (coefficient y j * a) b) (sym is) (s.covers y).2

    pub spans_same : (direction ≡ 0) → Spans es base (j + 1) k xs
    spans_same none =
        record {
          long = s.long;
          few = omega (arith, s.few);
          covers = λ y.
              let t = (s.covers y).0 in
              let still : coefficient y j * direction ≡ 0 = ap (λ (a : ℕ). coefficient y j * a) none ∙ omega arith in
              (t, (s.covers y).1, digit y ∙ ap (λ (a : ℕ). bit_xor a (bit_xor base (chosen 0 bit_xor xs t))) still);
        }

    pub spans_more : j < 32 → Spans es base (j + 1) (k + 1) (set xs k direction)
    spans_more few =
        record {
          long = length-set xs k direction ∙ s.long;
          few = omega (arith, s.few);
          covers = λ y.
              let t = (s.covers y).0 in
              let d = coefficient y j in
              let low = coefficient_below y j in
              let within : k < length xs = omega (arith, s.few, s.long) in (
                d * 2 ^ k + t,
                top d k t low (s.covers y).1,
                digit y ∙ xor_left_comm (d * direction) base (chosen 0 bit_xor xs t)
                    ∙ ap (bit_xor base) (sym (chosen_more xs k direction d t low (s.covers y).1 within)),
              );
        }
