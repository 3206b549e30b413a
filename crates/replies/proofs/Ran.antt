-- What came of a run is what the laws leave, and its text is the text of that.
use Rattle.std.proofs.Common.{◌≡◌, ℕ, ◌^◌, ◌<◌, ◌≤◌, List, [], ◌∷◌, map, vec_items, decimal, refl, ap, ◌∙◌, ap₂, arith}
use Rattle.gf2.specs.Algebra.{Degree}
use Rattle.gf2.proofs.Division.{degree_above, degree_unique}
use Rattle.gf2.proofs.Words.{degree_word}
use Rattle.rings.specs.declared.ring.Ring.{Ring}
use Rattle.generators.specs.Generators.{plain}
use Rattle.generators.specs.Registers.{register_next}
use Rattle.runs.specs.Runs.{answers}
use Rattle.runs.proofs.Determined.{determined}
use Rattle.rig.specs.Runs as rig
use Rattle.service.specs.declared.promise.Outcome.{Outcome}
use Rattle.service.specs.Promises.{vectors, Rings, Promise}
use Rattle.service.specs.Searches as search
use Rattle.service.proofs.Answered.{only}
use Rattle.requests.specs.declared.call.AnyCall.{AnyCall}
use Rattle.replies.specs.Outcomes.{search_calls, rig_calls, register_of, outcome_text, search_answers, rig_answers, run_text}
use Rattle.commands.specs.Patterns.{top_bit}
use Rattle.commands.proofs.Degrees.{top_bit_is}

-- the register of a polynomial by the place of its highest bit
pub register_is : (p q n : ℕ) → p < 2 ^ 32 → 1 ≤ n → Degree p n → q ≡ p → plain q n (register_next q n) ≡ register_of p
register_is p q n small some top own = ap₂ (λ (r k : ℕ). plain r k (register_next r k)) own (top_bit_is p n small some top)

-- a ring is told by the vector that it was made from
rings_told : (p n : ℕ) (vs : List ℕ) (ks : List Ring) → Rings p n vs ks → map (λ x. decimal x.vector.rules) ks ≡ map decimal vs
rings_told p n [] [] r = refl
rings_told p n [] (k ∷ ks) r = absurd r
rings_told p n (v ∷ vs) [] r = absurd r
rings_told p n (v ∷ vs) (k ∷ ks) r = ap₂ (λ (x : ℕ) (xs : List (List ℕ)). decimal x ∷ xs) r.0.rules (rings_told p n vs ks r.1)

module _ (p : ℕ) (small : p < 2 ^ 32) (calls : List AnyCall) (o : Outcome) (kept : Promise p (search_calls calls) (register_of p) (rig_calls calls) o) where
  degree : kept.cells ≡ top_bit p
  degree = degree_unique p kept.cells (top_bit p) kept.degree (degree_word p (λ e. omega (arith, degree_above p kept.cells kept.degree)) small)

  search_is : vec_items o.search ≡ search_answers p calls
  search_is =
      determined (search.SearchLaw p kept.cells) (search.right_answer p kept.cells) (λ h c a r. only (search.view_after p kept.cells h) c a r) (search_calls calls) (vec_items o.search) kept.search
      ∙ ap (λ (n : ℕ). answers (search.right_answer p n) (search_calls calls)) degree

  rig_is : vec_items o.rig ≡ rig_answers p calls
  rig_is = determined (rig.RigLaw (register_of p)) (rig.right_answer (register_of p)) (λ h c a r. r) (rig_calls calls) (vec_items o.rig) kept.rig

  pub ran : outcome_text (vec_items o.search) (vec_items o.rig) (vec_items o.rings) ≡ run_text p calls
  ran = rw (kept.accepted, rings_told p kept.cells (vectors (vec_items o.search)) (vec_items o.rings) kept.rings, search_is, rig_is) refl
