-- What an answer says to one who knows how the question comes out.
use Rattle.std.proofs.Common.{◌≡◌, ℕ, ◌^◌, ◌<◌, None, Ok, Err, Option, Result, arith, lt-ltb}
use Rattle.rings.specs.declared.refusal.Refusal.{Refusal}
use Rattle.rings.specs.Questions.{Answers, word_refusal}

accepted : {A : Type 0} (P : Type 0) (r : Result A Refusal) (q : Option Refusal) → Answers r q (λ x. P) → q ≡ None → P
accepted P (Ok x) q h e = h.1
accepted P (Err x) q h e = let z : ◌≡◌ {A = ℕ} 0 1 = cc in absurd (omega arith)

pub word_accepted : {A : Type 0} (P : Type 0) (r : Result A Refusal) (n word : ℕ) → Answers r (word_refusal n word) (λ x. P) → word < 2 ^ n → P
word_accepted P r n word h less = accepted P r (word_refusal n word) h (rw (lt-ltb word (2 ^ n) less))
