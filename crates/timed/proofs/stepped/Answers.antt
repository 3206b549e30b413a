use Rattle.std.proofs.Common.{◌≡◌, ℕ, ◌+◌, sym, refl, ap, ◌∙◌, ap₂, add-one}
use Rattle.rings.specs.Cells.{ring_next}
use Rattle.generators.specs.Generators.{iterate}
use Rattle.timed.proofs.stepped.Goals as goal

none : (f : ℕ → ℕ) (s : ℕ) → s ≡ iterate f 0 s
unfolding iterate
none f s = refl

more : (f : ℕ → ℕ) (c s : ℕ) → f (iterate f c s) ≡ iterate f (c + 1) s
unfolding iterate
more f c s = ap (λ (n : ℕ). iterate f n s) (sym (add-one c))

pub loop-i-init : goal.loop-i-init
loop-i-init c = (refl, none (ring_next c.args.ring.vector.cells c.args.ring.vector.rules) c.args.ring.state)

pub loop-i-preserved : goal.loop-i-preserved
loop-i-preserved c =
    let was = c.loop-i.invariant in
    let v = c.args.ring.vector in (
      c.step.ensures.vector ∙ was.0,
      c.step.ensures.after ∙ ap₂ (λ z (s : ℕ). ring_next z.cells z.rules s) was.0 was.1 ∙ more (ring_next v.cells v.rules) c.loop-i.i c.args.ring.state,
    )
