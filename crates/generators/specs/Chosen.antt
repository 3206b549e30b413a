-- Chosen sums: a word says which items of a list are added, those at the places, counted from 0, whose bit is 1. A bit
-- with no item adds nothing, and the sum of no items is zero.
--
--   taken zero b x               == x where the bit b is 1, zero where it is 0
--   chosen zero plus items word  == the sum of the chosen items
--   items_refusal n              == the question to a number of items
use Rattle.std.specs.Prelude.{ℕ, zero, suc, ◌/◌, ◌%◌, List, [], ◌∷◌, None, Option, nat_le}
use Rattle.rings.specs.declared.refusal.Refusal.{Refusal}
use Rattle.rings.specs.declared.refusal.Refusal.TheVariants.{TooManyItems}
use Rattle.rings.specs.Questions.{unless}

abbrev pub taken : {A : Type 0} → A → ℕ → A → A
taken none zero x = none
taken none (suc b) x = x

unfoldable pub chosen : {A : Type 0} → A → (A → A → A) → List A → ℕ → A
chosen none plus [] word = none
chosen none plus (x ∷ xs) word = plus (taken none (word % 2) x) (chosen none plus xs (word / 2))

-- At most 32 items?
abbrev pub items_refusal : ℕ → Option Refusal
items_refusal n = unless (nat_le n 32) TooManyItems None
