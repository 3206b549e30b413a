-- Walks and jumps: x^c acts as c steps, so what x^c leaves modulo the polynomial of a generator, as a choice among the
-- states that come next, gives the state after c steps.
use Rattle.std.specs.Prelude.{◌≡◌, ℕ, zero, suc, ◌+◌, ◌*◌, ◌/◌, ◌%◌, ◌^◌, ◌<◌, List, [], ◌∷◌, ◌++◌, length, take, bit_xor, slice_set}
use Rattle.std.proofs.Math.Path.{refl, sym, ap, ap₂}
use Rattle.std.proofs.Common.{◌∙◌, subst, mod-lt, mod-eq_of_lt, zero-lt-suc, zero-mul, one-mul, add-one, arith, pow_pos, shr_lt, length-set, take-suc-set}
use Rattle.std.proofs.Math.Arith.{lt-one}
use Rattle.std.proofs.lemmas.Nat.{xor_mod}
use Rattle.gf2.specs.Algebra.{act, power_of_x, Degree, Leaves}
use Rattle.gf2.proofs.Sums.{Additive}
use Rattle.gf2.proofs.Action.{act_step, act_zero, act_one, act_double}
use Rattle.gf2.proofs.Division.{leaves_below}
use Rattle.gf2.proofs.Composition.{act_leaves, act_same, act_below}
use Rattle.gf2.proofs.Words.{power_zero, power_suc}
use Rattle.generators.specs.Generators.{Meaning, Linear, Lawful, iterate, orbit}
use Rattle.generators.specs.Chosen.{taken, chosen}

module _ (f : ℕ → ℕ) where
  iterate_first : (c s : ℕ) → iterate f c (f s) ≡ f (iterate f c s)
  unfolding iterate
  iterate_first zero s = refl
  iterate_first (suc c) s = ap f (iterate_first c s)

  pub act_power : (c s : ℕ) → act f (power_of_x c) s ≡ iterate f c s
  unfolding iterate
  act_power zero s = ap (λ (z : ℕ). act f z s) power_zero ∙ act_one f s
  act_power (suc c) s =
      ap (λ (z : ℕ). act f z s) (power_suc c) ∙ act_double f (power_of_x c) s ∙ act_power c (f s) ∙ iterate_first c s

  -- one state more at the end
  orbit_more : (c s : ℕ) → orbit f (suc c) s ≡ orbit f c s ++ (iterate f c s ∷ [])
  unfolding iterate orbit
  orbit_more zero s = refl
  orbit_more (suc c) s = ap (λ (r : List ℕ). s ∷ r) (orbit_more c (f s) ∙ ap (λ (z : ℕ). orbit f c (f s) ++ (z ∷ [])) (iterate_first c s))

  orbit_chosen : (n r s : ℕ) → r < 2 ^ n → chosen 0 bit_xor (orbit f n s) r ≡ act f r s
  unfolding orbit chosen
  orbit_chosen zero r s h = sym (ap (λ (z : ℕ). act f z s) (lt-one h) ∙ act_zero f s)
  orbit_chosen (suc n) r s h =
      ap₂ bit_xor (times (r % 2) (mod-lt r (zero-lt-suc 1))) (orbit_chosen n (r / 2) (f s) (shr_lt n 1 (subst (λ (k : ℕ). r < 2 ^ k) (sym (add-one n)) h)))
      ∙ sym (act_step f r s)
    where
      times : (b : ℕ) → b < 2 → taken 0 b s ≡ b * s
      times zero l = sym (zero-mul s)
      times (suc zero) l = sym (one-mul s)
      times (suc (suc b)) l = absurd (omega arith)

-- ---- a rule that is linear on the states of n cells, at any number

module _ (n : ℕ) (f : ℕ → ℕ) (linear : Linear n f) where
  abbrev pub whole : ℕ → ℕ
  whole s = f (s % 2 ^ n)

  pub whole_additive : Additive whole
  whole_additive s t = ap f (xor_mod s t n) ∙ linear.sum (s % 2 ^ n) (t % 2 ^ n) (mod-lt s (pow_pos n)) (mod-lt t (pow_pos n))

  pub act_whole : (a s : ℕ) → s < 2 ^ n → act f a s ≡ act whole a s
  act_whole = act_same n f linear.below whole (λ s h. ap f (sym (mod-eq_of_lt h)))

module _ (m : Meaning) (lawful : Lawful m) (s : ℕ) (h : s < 2 ^ m.cells) (c r : ℕ) (l : Leaves (power_of_x c) m.polynomial r) where
  pub iterate_act : iterate m.next c s ≡ act m.next r s
  iterate_act =
      sym (act_power m.next c s) ∙ act_whole m.cells m.next lawful.next (power_of_x c) s h
      ∙ act_leaves (whole m.cells m.next lawful.next) (whole_additive m.cells m.next lawful.next) (power_of_x c) m.polynomial r s l
      (sym (act_whole m.cells m.next lawful.next m.polynomial s h) ∙ lawful.annihilated s h)
      ∙ sym (act_whole m.cells m.next lawful.next r s h)

  pub jump_below : iterate m.next c s < 2 ^ m.cells
  jump_below = subst (λ (z : ℕ). z < 2 ^ m.cells) (sym iterate_act) (act_below m.cells m.next lawful.next.below r s h)

  -- the states that a walk of n steps has kept, chosen by r
  pub jump_word : (n word : ℕ) (states : List ℕ) → Degree m.polynomial n → states ≡ orbit m.next n s → word ≡ chosen 0 bit_xor states r → word ≡ iterate m.next c s
  jump_word n word states hn passed is =
      is ∙ ap (λ (items : List ℕ). chosen 0 bit_xor items r) passed
      ∙ orbit_chosen m.next n r s (leaves_below (power_of_x c) m.polynomial r n hn l) ∙ sym iterate_act

-- ---- the loop that walks and keeps the states it passes

-- there is room for so many states
pub record Walked (room : ℕ) (entry now : Meaning) (start state i : ℕ) (states : List ℕ) : Type 0 where
  pub same : now ≡ entry
  pub reached : state ≡ iterate entry.next i start
  pub passed : take i states ≡ orbit entry.next i start
  pub size : length states ≡ room

pub walked_none : (room : ℕ) (m : Meaning) (s : ℕ) (states : List ℕ) → length states ≡ room → Walked room m m s s 0 states
unfolding iterate orbit
walked_none room m s states h = record { same = refl; reached = refl; passed = refl; size = h }

pub walked_more :
    (room : ℕ) (entry now after : Meaning) (start state state' i v : ℕ) (states : List ℕ) → Walked room entry now start state i states → i < room → v ≡ state → after ≡ now → state' ≡ now.next state
    → Walked room entry after start state' (i + 1) (slice_set states i v)
unfolding iterate
walked_more room entry now after start state state' i v states w few read kept stepped =
    let within : i < length states = subst (λ (k : ℕ). i < k) (sym w.size) few in
    record {
      same = kept ∙ w.same;
      reached =
          stepped ∙ ap₂ (λ (m : Meaning) (s : ℕ). m.next s) w.same w.reached
          ∙ ap (λ (k : ℕ). iterate entry.next k start) (sym (add-one i));
      passed =
          ap (λ (k : ℕ). take k (slice_set states i v)) (add-one i) ∙ take-suc-set states i v within
          ∙ ap₂ (λ (front : List ℕ) (x : ℕ). front ++ (x ∷ [])) w.passed (read ∙ w.reached)
          ∙ sym (orbit_more entry.next i start) ∙ ap (λ (k : ℕ). orbit entry.next k start) (sym (add-one i));
      size = length-set states i v ∙ w.size;
    }
