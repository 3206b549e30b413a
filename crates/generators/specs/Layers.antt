-- Layers keep the laws of what lies below them.
use Rattle.std.specs.Prelude.{◌≡◌, ℕ, ◌/◌, ◌^◌, ◌<◌, bit_xor}
use Rattle.std.proofs.Common.{sym, ap, ◌∙◌, lt_of_le_of_lt}
use Rattle.std.proofs.lemmas.Nat.{shr_le, xor_shr, xor_lt}
use Rattle.gf2.specs.Algebra.{act, product}
use Rattle.gf2.proofs.Sums.{Additive, xor_swap}
use Rattle.gf2.proofs.Composition.{act_product, act_on_zero, act_square}
use Rattle.generators.specs.Generators.{Meaning, Linear, Lawful, doubled, tapped}
use Rattle.generators.specs.Orbits.{whole, whole_additive, act_whole}

twice_linear : (n : ℕ) (f : ℕ → ℕ) → Linear n f → Linear n (λ s. f (f s))
twice_linear n f l =
    record {
      below = λ s h. l.below (f s) (l.below s h);
      sum = λ s t h k. ap f (l.sum s t h k) ∙ l.sum (f s) (f t) (l.below s h) (l.below t k);
    }

tap_linear : (n : ℕ) (f : ℕ → ℕ) → Linear n f → Linear n (λ s. bit_xor (f s) (f s / 2))
tap_linear n f l =
    record {
      below = λ s h. xor_lt n (f s) (f s / 2) (l.below s h) (lt_of_le_of_lt (shr_le (f s) 1) (l.below s h));
      sum = λ s t h k.
          ap (λ (w : ℕ). bit_xor w (w / 2)) (l.sum s t h k) ∙ ap (bit_xor (bit_xor (f s) (f t))) (xor_shr (f s) (f t) 1)
          ∙ xor_swap (f s) (f t) (f s / 2) (f t / 2);
    }

module _ (m : Meaning) (lawful : Lawful m) where
  abbrev p : ℕ
  p = m.polynomial

  abbrev N : ℕ → ℕ
  N = whole m.cells m.next lawful.next

  additive : Additive N
  additive = whole_additive m.cells m.next lawful.next

  as_whole : (a s : ℕ) → s < 2 ^ m.cells → act m.next a s ≡ act N a s
  as_whole = act_whole m.cells m.next lawful.next

  pub doubled_lawful : Lawful (doubled m)
  doubled_lawful =
      record {
        leading = lawful.leading;
        some = lawful.some;
        few = lawful.few;
        next = twice_linear m.cells m.next lawful.next;
        shown = lawful.shown;
        annihilated = λ s h.
            act_square m.next p s ∙ as_whole (product p p) s h ∙ act_product N additive p p s
            ∙ ap (act N p) (sym (as_whole p s h) ∙ lawful.annihilated s h) ∙ act_on_zero N additive p;
      }

  pub tapped_lawful : Lawful (tapped m)
  tapped_lawful =
      record {
        leading = lawful.leading;
        some = lawful.some;
        few = lawful.few;
        next = lawful.next;
        shown = tap_linear m.cells m.shown lawful.shown;
        annihilated = lawful.annihilated;
      }
