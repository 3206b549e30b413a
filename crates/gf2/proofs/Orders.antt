-- Of two numbers, the first is below the second, or the second is not above the first.
use Rattle.std.proofs.Common.{ℕ, ◌<◌, ◌≤◌, ◌⊎◌, inl, inr, arith}
use Rattle.std.proofs.lemmas.Bool.{cases_order}

pub order : (m n : ℕ) → (m < n) ⊎ (n ≤ m)
order m n = elim (cases_order m n) [ inl e ↦ inr (omega arith) | inr r ↦ elim r [ inl h ↦ inl h | inr h ↦ inr (omega arith) ] ]
