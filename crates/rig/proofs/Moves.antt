-- Seeds and moves keep the state what so many single steps from the seed make.
use Rattle.std.proofs.Common.{◌≡◌, ℕ, zero, suc, ◌+◌, Some, sym, refl, ap, ap₂, ◌∙◌, subst, add-zero, add-suc}
use Rattle.generators.specs.Generators.{iterate}
use Rattle.rig.specs.Rigs.{View, Stands, loaded, moved}

pub iterate_one : (f : ℕ → ℕ) (s : ℕ) → iterate f 1 s ≡ f s
unfolding iterate
iterate_one f s = refl

iterate_more : (f : ℕ → ℕ) (c l s : ℕ) → iterate f l (iterate f c s) ≡ iterate f (c + l) s
unfolding iterate
iterate_more f c zero s = ap (λ (n : ℕ). iterate f n s) (sym (add-zero c))
iterate_more f c (suc l) s = ap f (iterate_more f c l s) ∙ ap (λ (n : ℕ). iterate f n s) (sym (add-suc c l))

pub stands_moved : (v : View) (l : ℕ) → Stands v → Stands (moved v l)
stands_moved v l h w e = ap (iterate v.meaning.next l) (h w e) ∙ iterate_more v.meaning.next v.clock l w

pub stands_after : (v u : View) (l : ℕ) → u ≡ moved v l → Stands v → Stands u
stands_after v u l is h = subst Stands (sym is) (stands_moved v l h)

-- one single step is a move by one
pub stepped : (v : View) (c s : ℕ) → c ≡ v.clock + 1 → s ≡ v.meaning.next v.state
    → record { meaning = v.meaning; seed = v.seed; clock = c; state = s } ≡ moved v 1
stepped v c s clock state =
    ap₂ (λ (k x : ℕ). record { meaning = v.meaning; seed = v.seed; clock = k; state = x }) clock (state ∙ sym (iterate_one v.meaning.next v.state))

-- the same of a rig whose next rule has another name
pub stands_stepped : (v : View) (next : ℕ → ℕ) (c s : ℕ) → next ≡ v.meaning.next → c ≡ v.clock + 1 → s ≡ v.meaning.next v.state
    → Stands v → (w : ℕ) → v.seed ≡ Some w → s ≡ iterate next c w
stands_stepped v next c s same clock state h = rw same (stands_after v _ 1 (stepped v c s clock state) h)

pub stands_loaded : (v : View) (w : ℕ) → Stands (loaded v w)
unfolding iterate
stands_loaded v w u e = cc
