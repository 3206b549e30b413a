-- An array made by calls that leave the closure as it was: what each call promises holds of the item at its place.
use Rattle.std.proofs.Common.{◌≡◌, ℕ, zero, suc, ◌+◌, ◌<◌, ◌≤◌, List, get_or, sym, subst, ⊎_elim, arith}
use Rattle.std.specs.Array.{IsFromFnResultFrom}
use Rattle.std.specs.Fn.{Called}
use denote.Param.Members.{Mut}
use Rattle.gf2.proofs.Orders.{order}

pub made : {F B : Type 0} (g : Mut F (ℕ × Unit {0}) B) (f : F) (P : ℕ → B → Type 0) → ((i : ℕ) (y : B) (q : F) → Called g f (i, tt) y q → (q ≡ f) × P i y)
    → (ys : List B) (n i : ℕ) → IsFromFnResultFrom g f ys i n → (j : ℕ) (d : B) → i ≤ j → j < i + n → P j (get_or ys j d)
made g f P k ys zero i e j d low high = absurd (omega arith)
made {F} g f P k ys (suc n) i e j d low high =
    let call = k i e.1 e.0 e.3 in
    ⊎_elim
    (λ less. made g f P k ys n (i + 1) (subst (λ (w : F). IsFromFnResultFrom g w ys (i + 1) n) call.0 e.4) j d (omega arith) (omega arith))
    (λ from. let same : i ≡ j = omega arith in subst (λ (z : ℕ). P z (get_or ys z d)) same (subst (P i) (sym (e.2.1 d)) call.1))
    (order i j)
