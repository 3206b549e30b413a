-- Systems of linear equations over GF(2), on the bits of a word. An equation, a word and a bit, asks that the chosen bits add
-- up to that bit. The same record is an expression: the sum of the chosen bits, plus its bit.
--
--   coefficient a k       == bit k of a
--   value e m             == what the expression e comes to at m: the bits of m that its word chooses, and its bit
--   plus e f              == the sum of two expressions, which is their sum at every m
--   word_of f xs          == the word whose bit j is f of the j-th item
--   evaluate es m         == the word whose bit j is the value of the j-th expression at m
--   row columns k         == the word whose bit j is coefficient k of the j-th column
--   equation columns q k  == coefficient k of 'the columns that y chooses add up to q'
--   Solution columns q y  == the columns that y chooses add up to q
--   Solved n columns q k es == the expressions give back every solution below 2^n, and all that they give satisfies the
--                            first k equations
--   Unsolvable n columns q == there is no solution below 2^n
--   substituted es e      == the equation e with the expressions for its unknowns
--   replaced k e x        == x, where it does not mention m_k; else x + e
use Rattle.std.specs.Prelude.{◌≡◌, ℕ, zero, suc, ◌+◌, ◌*◌, ◌/◌, ◌%◌, ◌^◌, ◌<◌, List, [], ◌∷◌, bit_and, bit_xor, count_ones}
use Rattle.generators.specs.Chosen.{chosen}
use Rattle.search.specs.declared.equations.Equation.{Equation}

abbrev pub coefficient : ℕ → ℕ → ℕ
coefficient a k = a / 2 ^ k % 2

abbrev pub value : Equation → ℕ → ℕ
value e m = (count_ones (bit_and e.word m) + e.bit) % 2

abbrev pub plus : Equation → Equation → Equation
plus e f = record { word = bit_xor e.word f.word; bit = bit_xor e.bit f.bit }

unfoldable pub word_of : {A : Type 0} → (A → ℕ) → List A → ℕ
word_of f [] = 0
word_of f (x ∷ xs) = word_of f xs * 2 + f x

abbrev pub evaluate : List Equation → ℕ → ℕ
evaluate es m = word_of (λ e. value e m) es

abbrev pub row : List ℕ → ℕ → ℕ
row columns k = word_of (λ c. coefficient c k) columns

abbrev pub equation : List ℕ → ℕ → ℕ → Equation
equation columns q k = record { word = row columns k; bit = coefficient q k }

abbrev pub Solution : List ℕ → ℕ → ℕ → Type 0
Solution columns q y = chosen 0 bit_xor columns y ≡ q

pub record Solved (n : ℕ) (columns : List ℕ) (q count : ℕ) (es : List Equation) : Type 0 where
  pub complete : (y : ℕ) → y < 2 ^ n → Solution columns q y → evaluate es y ≡ y
  pub sound : (m k : ℕ) → k < count → coefficient (chosen 0 bit_xor columns (evaluate es m)) k ≡ coefficient q k

abbrev pub Unsolvable : ℕ → List ℕ → ℕ → Type 0
Unsolvable n columns q = (y : ℕ) → y < 2 ^ n → Solution columns q y → ⊥

-- e, once the expressions stand for the bits that it chooses
abbrev pub substituted : List Equation → Equation → Equation
substituted es e = plus (chosen (record { word = 0; bit = 0 }) plus es e.word) (record { word = 0; bit = e.bit })

abbrev pub replaced_by : ℕ → Equation → Equation → Equation
replaced_by zero e x = x
replaced_by (suc b) e x = plus x e

abbrev pub replaced : ℕ → Equation → Equation → Equation
replaced k e x = replaced_by (coefficient x.word k) e x
