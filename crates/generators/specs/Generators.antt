-- Linear generators. A state is a number below 2^n, n the number of cells; the sum of states is exclusive or.
--
--   Meaning         == what a generator is: its polynomial, its number of cells, how a state follows on another, and
--                      which word it shows at a state
--   Linear n f      == f takes states of n cells to such states, and their sums to sums
--   Lawful m        == the polynomial has the degree n, n is 1 to 31, both rules are linear on the states, and the
--                      polynomial annihilates the next rule: N^i(s) summed over its exponents i is 0 for every state s
--   plain p n f     == n cells with the polynomial p and the next rule f, all shown
--   doubled m       == two steps of m at a time
--   tapped m        == the word w that m shows, plus w shifted right by one
--   iterate f c s   == f^c(s), f applied c times
--   orbit f c s     == s, f(s), …, f^(c−1)(s)
use Rattle.std.specs.Prelude.{◌≡◌, ℕ, zero, suc, ◌/◌, ◌^◌, ◌<◌, ◌≤◌, List, [], ◌∷◌, bit_xor}
use Rattle.gf2.specs.Algebra.{act, Degree}

pub record Meaning : Type 0 where
  pub polynomial : ℕ
  pub cells : ℕ
  pub next : ℕ → ℕ
  pub shown : ℕ → ℕ

pub record Linear (n : ℕ) (f : ℕ → ℕ) : Type 0 where
  pub below : (s : ℕ) → s < 2 ^ n → f s < 2 ^ n
  pub sum : (s t : ℕ) → s < 2 ^ n → t < 2 ^ n → f (bit_xor s t) ≡ bit_xor (f s) (f t)

pub record Lawful (m : Meaning) : Type 0 where
  pub leading : Degree m.polynomial m.cells
  pub some : 1 ≤ m.cells
  pub few : m.cells ≤ 31
  pub next : Linear m.cells m.next
  pub shown : Linear m.cells m.shown
  pub annihilated : (s : ℕ) → s < 2 ^ m.cells → act m.next m.polynomial s ≡ 0

abbrev pub plain : ℕ → ℕ → (ℕ → ℕ) → Meaning
plain p n f = record { polynomial = p; cells = n; next = f; shown = λ s. s }

abbrev pub doubled : Meaning → Meaning
doubled m = record { polynomial = m.polynomial; cells = m.cells; next = λ s. m.next (m.next s); shown = m.shown }

abbrev pub tapped : Meaning → Meaning
tapped m = record { polynomial = m.polynomial; cells = m.cells; next = m.next; shown = λ s. bit_xor (m.shown s) (m.shown s / 2) }

unfoldable pub iterate : (ℕ → ℕ) → ℕ → ℕ → ℕ
iterate f zero s = s
iterate f (suc c) s = f (iterate f c s)

unfoldable pub orbit : (ℕ → ℕ) → ℕ → ℕ → List ℕ
orbit f zero s = []
orbit f (suc c) s = s ∷ orbit f c (f s)
