-- Substitution: a sum of chosen expressions is the chosen bits of what they evaluate to, and adding an expression that
-- is 0 at m changes nothing at m.
use Rattle.std.proofs.Common.{◌≡◌, ℕ, zero, suc, ◌+◌, ◌*◌, ◌/◌, ◌%◌, ◌^◌, ◌<◌, List, [], ◌∷◌, ◌++◌, map, length, get_or, take, drop, set, sym, refl, ap, ◌∙◌, subst, ap₂, ⊎_elim, mod-lt, mod-eq_of_lt, zero-lt-suc, arith, length-append, take-append-drop}
use lib.Bits.{bit_and, bit_xor, and_comm, and_mask, xor_zero_r}
use lib.Count.{ones}
use Rattle.std.proofs.lemmas.List.{get_or_default, length-map}
use Rattle.std.proofs.lemmas.List.Edits.{map_over_more}
use Rattle.gf2.proofs.Orders.{order}
use Rattle.gf2.specs.Algebra.{Degree}
use Rattle.generators.specs.Chosen.{taken, chosen}
use Rattle.search.specs.declared.equations.Equation.{Equation}
use Rattle.search.specs.Systems.{coefficient, value, plus, word_of, evaluate, row, equation, Solution, Solved, Unsolvable, substituted, replaced_by, replaced}
use Rattle.search.proofs.Words.{word_of_digits}
use Rattle.search.proofs.Parities.{parity, coefficient_below, parity_none, parity_sum_l, parity_sum_r, parity_more, xor_parity, ones_single, row_parity}

abbrev none : Equation
none = record { word = 0; bit = 0 }

pub value_below : (e : Equation) (m : ℕ) → value e m < 2
value_below e m = mod-lt (ones (bit_and e.word m) + e.bit) (zero-lt-suc 1)

value_sum : (e f : Equation) (m : ℕ) → value (plus e f) m ≡ (value e m + value f m) % 2
value_sum e f m = omega (arith, parity_sum_l e.word f.word m, xor_parity e.bit f.bit)

-- a bit alone
value_bit : (b m : ℕ) → value (record { word = 0; bit = b }) m ≡ b % 2
unfolding ones
value_bit b m = omega arith

value_taken : (d : ℕ) (e : Equation) (m : ℕ) → d < 2 → value (taken none d e) m ≡ d * value e m
value_taken zero e m h = value_bit 0 m ∙ omega arith
value_taken (suc zero) e m h = omega arith
value_taken (suc (suc d)) e m h = absurd (omega arith)

-- the chosen expressions add up to the chosen bits
pub value_chosen : (es : List Equation) (w m : ℕ) → value (chosen none plus es w) m ≡ parity w (evaluate es m)
unfolding chosen word_of
value_chosen [] w m = value_bit 0 m ∙ sym (parity_none w)
value_chosen (e ∷ es) w m =
    value_sum (taken none (w % 2) e) (chosen none plus es (w / 2)) m
    ∙ ap₂ (λ (x z : ℕ). (x + z) % 2) (value_taken (w % 2) e m (mod-lt w (zero-lt-suc 1))) (value_chosen es (w / 2) m)
    ∙ sym (parity_more w (evaluate es m) (value e m) (value_below e m))

-- ---- a parameter replaced

-- v times the bit k added to m
value_moved : (x : Equation) (m v k : ℕ) → v < 2 → value x (bit_xor m (v * 2 ^ k)) ≡ (value x m + coefficient x.word k * v) % 2
value_moved x m zero k h =
    let still : 0 * 2 ^ k ≡ 0 = omega arith in
    ap (value x) (ap (bit_xor m) still ∙ xor_zero_r m) ∙ omega arith
value_moved x m (suc zero) k h =
    let power : 1 * 2 ^ k ≡ 2 ^ k = omega arith in
    ap (λ (z : ℕ). value x (bit_xor m z)) power ∙ omega (arith, parity_sum_r x.word m (2 ^ k), ones_single x.word k)
value_moved x m (suc (suc v)) k h = absurd (omega arith)

value_replaced : (k : ℕ) (e x : Equation) (m : ℕ) → value (replaced k e x) m ≡ value x (bit_xor m (value e m * 2 ^ k))
value_replaced k e x m = by_bit (coefficient x.word k) (coefficient_below x.word k) ∙ sym (value_moved x m (value e m) k (value_below e m))
  where
    by_bit : (d : ℕ) → d < 2 → value (replaced_by d e x) m ≡ (value x m + d * value e m) % 2
    by_bit zero h = omega arith
    by_bit (suc zero) h = value_sum x e m ∙ omega arith
    by_bit (suc (suc d)) h = absurd (omega arith)

pub evaluate_replaced : (k : ℕ) (e : Equation) (es : List Equation) (m : ℕ) →
    evaluate (map (replaced k e) es) m ≡ evaluate es (bit_xor m (value e m * 2 ^ k))
unfolding word_of
evaluate_replaced k e [] m = refl
evaluate_replaced k e (x ∷ es) m = ap₂ (λ (w d : ℕ). w * 2 + d) (evaluate_replaced k e es m) (value_replaced k e x m)

-- the loop over the expressions: the one at i is x
module _ (k : ℕ) (e : Equation) (xs ys : List Equation) (i : ℕ) (within : i < length xs)
    (is : ys ≡ map (replaced k e) (take i xs) ++ drop i xs) where
  abbrev x : Equation
  x = get_or ys i none

  long : length ys ≡ length xs
  long =
      ap length is ∙ length-append (map (replaced k e) (take i xs)) (drop i xs)
      ∙ ap (λ (n : ℕ). n + length (drop i xs)) (length-map (take i xs) (replaced k e))
      ∙ sym (length-append (take i xs) (drop i xs)) ∙ ap length (take-append-drop i xs)

  read : x ≡ get_or ys i x
  read = get_or_default ys i none x (omega (arith, long))

  over : set ys i (replaced k e x) ≡ map (replaced k e) (take (i + 1) xs) ++ drop (i + 1) xs
  over = map_over_more (replaced k e) xs ys i x within is read

  pub replaced_set : bit_and (x.word / 2 ^ k) 1 ≡ 1 → set ys i (plus x e) ≡ map (replaced k e) (take (i + 1) xs) ++ drop (i + 1) xs
  replaced_set h = ap (λ (d : ℕ). set ys i (replaced_by d e x)) (sym (sym (and_mask (x.word / 2 ^ k) 1) ∙ h)) ∙ over

  pub replaced_clear : (bit_and (x.word / 2 ^ k) 1 ≡ 1 → ⊥) → set ys i x ≡ map (replaced k e) (take (i + 1) xs) ++ drop (i + 1) xs
  replaced_clear h =
      let low = coefficient_below x.word k in
      let clear : coefficient x.word k ≡ 0 = omega (arith, and_mask (x.word / 2 ^ k) 1, h) in
      ap (λ (d : ℕ). set ys i (replaced_by d e x)) (sym clear) ∙ over

-- ---- each bit a parameter of its own

pub parameters : (es : List Equation) → length es ≡ 32 → ((j : ℕ) → j < 32 → get_or es j none ≡ record { word = 2 ^ j; bit = 0 }) → (y : ℕ) → y < 2 ^ 32 → evaluate es y ≡ y
parameters es long each y h =
    word_of_digits (λ e. value e y) es none y
    (λ j l.
    let within : j < 32 = omega (arith, long) in
    ap (λ (e : Equation). value e y) (each j within)
    ∙ ap (λ (w : ℕ). (ones w + 0) % 2) (and_comm (2 ^ j) y) ∙ ap (λ (d : ℕ). (d + 0) % 2) (ones_single y j) ∙ omega arith)
    ∙ ap (λ (n : ℕ). y % 2 ^ n) long ∙ mod-eq_of_lt h

-- ---- the loop over the equations

module _ (n : ℕ) (cs : List ℕ) (q k : ℕ) (es : List Equation) (solved : Solved n cs q k es) where
  abbrev f : Equation
  f = substituted es (equation cs q k)

  -- the reduced equation holds at m where coefficient k agrees at the word of m
  reduced : (m : ℕ) → value f m ≡ (coefficient (chosen 0 bit_xor cs (evaluate es m)) k + coefficient q k) % 2
  reduced m =
      value_sum (chosen none plus es (row cs k)) (record { word = 0; bit = coefficient q k }) m
      ∙ ap₂ (λ (x z : ℕ). (x + z) % 2) (value_chosen es (row cs k) m ∙ sym (row_parity cs (evaluate es m) k)) (value_bit (coefficient q k) m)
      ∙ omega arith

  agrees : (m : ℕ) → value f m ≡ 0 → coefficient (chosen 0 bit_xor cs (evaluate es m)) k ≡ coefficient q k
  agrees m h =
      let low = coefficient_below (chosen 0 bit_xor cs (evaluate es m)) k in
      let high = coefficient_below q k in
      omega (arith, reduced m)

  vanishes : (y : ℕ) → y < 2 ^ n → Solution cs q y → value f y ≡ 0
  vanishes y h s =
      reduced y ∙ ap (λ (w : ℕ). (coefficient w k + coefficient q k) % 2) (ap (chosen 0 bit_xor cs) (solved.complete y h s) ∙ s) ∙ omega arith

  -- one equation more
  more : (es' : List Equation) (back : ℕ → ℕ) → ((m : ℕ) → evaluate es' m ≡ evaluate es (back m)) → ((m : ℕ) → value f (back m) ≡ 0)
      → ((m : ℕ) → value f m ≡ 0 → back m ≡ m) → Solved n cs q (k + 1) es'
  more es' back is zeros still =
      record {
        complete = λ y h s. is y ∙ ap (evaluate es) (still y (vanishes y h s)) ∙ solved.complete y h s;
        sound = λ m i h.
            ap (λ (w : ℕ). coefficient (chosen 0 bit_xor cs w) i) (is m)
            ∙ ⊎_elim (λ less. solved.sound (back m) i less) (λ from. let last : i ≡ k = omega arith in subst (λ (j : ℕ). coefficient (chosen 0 bit_xor cs (evaluate es (back m))) j ≡ coefficient q j) (sym last) (agrees (back m) (zeros m))) (order i k);
      }

  -- a word of 0 has the same value everywhere
  constant : f.word ≡ 0 → (m : ℕ) → value f m ≡ value f 0
  constant e m = ap (λ (w : ℕ). (ones (bit_and w m) + f.bit) % 2) e ∙ sym (ap (λ (w : ℕ). (ones (bit_and w 0) + f.bit) % 2) e)

  pub solved_kept : f.word ≡ 0 → (value f 0 ≡ 1 → ⊥) → Solved n cs q (k + 1) es
  solved_kept e h =
      let low = value_below f 0 in
      more es (λ m. m) (λ m. refl) (λ m. omega (arith, constant e m, h)) (λ m z. refl)

  pub solved_none : f.word ≡ 0 → value f 0 ≡ 1 → Unsolvable n cs q
  solved_none e h y l s = omega (arith, constant e y, vanishes y l s)

  pub solved_replaced : (j : ℕ) (es' : List Equation) → Degree f.word j → es' ≡ map (replaced j f) es → Solved n cs q (k + 1) es'
  solved_replaced j es' d is =
      let leading : coefficient f.word j ≡ 1 = ap (λ (z : ℕ). z % 2) d in
      more es' (λ m. bit_xor m (value f m * 2 ^ j)) (λ m. ap (λ (l : List Equation). evaluate l m) is ∙ evaluate_replaced j f es m)
      (λ m. value_moved f m (value f m) j (value_below f m) ∙ ap (λ (c : ℕ). (value f m + c * value f m) % 2) leading ∙ omega arith)
      (λ m z. let none : 0 * 2 ^ j ≡ 0 = omega arith in ap (λ (v : ℕ). bit_xor m (v * 2 ^ j)) z ∙ ap (bit_xor m) none ∙ xor_zero_r m)
