-- The law of a rig's runs. It speaks of calls and answers alone: which seed was accepted last, and how many clocks were
-- accepted since. A history has its newest call first.
--
--   Answered          == an answer, or the refusal
--   seed_in c         == the word that the call c seeds with, if it is a seed
--   clocks_in c       == how many clocks the call c moves on: 1 for a step, its length for a jump
--   accepted a        == whether a is an answer, and no refusal
--   seeds e           == the seed that the call and answer e accepted, if any
--   clocks e          == the clocks that the call and answer e accepted
--   last_seed h       == the last accepted seed, if there is one
--   since_seed h      == the part of h that is newer than the last accepted seed
--   elapsed h         == accepted steps plus accepted jump lengths since the last accepted seed
--   pattern m w c     == what the generator shows c single steps after the seed w
--   right_answer m h c == the answer that the questions give to the call c after the history h
--   RigLaw m          == each answer is the right one
--   Tied v h          == v is what a rig holds after the history h
use Rattle.std.specs.Prelude.{◌≡◌, ℕ, ◌+◌, Bool, cond, [], ◌∷◌, Some, None, Ok, Err, Option, Result, is_ok}
use Rattle.rings.specs.declared.refusal.Refusal.{Refusal}
use Rattle.rings.specs.declared.refusal.Refusal.TheVariants.{NotSeeded}
use Rattle.rings.specs.Questions.{refused_or}
use Rattle.generators.specs.Generators.{Meaning}
use Rattle.runs.specs.Runs.{Law, History}
use Rattle.rig.specs.declared.run.Call.{Call}
use Rattle.rig.specs.declared.run.Call.TheVariants as call
use Rattle.rig.specs.declared.run.Answer.{Answer}
use Rattle.rig.specs.declared.run.Answer.TheVariants as answer
use Rattle.rig.specs.Rigs.{View, Stands, seed_refusal, seeded, move_refusal, shown_at}

abbrev pub Answered : Type 0
Answered = Result Answer Refusal

abbrev pub seed_in : Call → Option ℕ
seed_in (call.Seed w) = Some w
seed_in call.Step = None
seed_in (call.Jump l) = None
seed_in call.Show = None
seed_in call.Clock = None

abbrev pub clocks_in : Call → ℕ
clocks_in (call.Seed w) = 0
clocks_in call.Step = 1
clocks_in (call.Jump l) = l
clocks_in call.Show = 0
clocks_in call.Clock = 0

abbrev pub accepted : Answered → Bool
accepted a = is_ok a

abbrev pub seeds : Call × Answered → Option ℕ
seeds e = cond (accepted e.1) (seed_in e.0) None

abbrev pub clocks : Call × Answered → ℕ
clocks e = cond (accepted e.1) (clocks_in e.0) 0

abbrev pub first_of : Option ℕ → Option ℕ → Option ℕ
first_of None older = older
first_of (Some w) older = Some w

abbrev pub last_seed : History Call Answered → Option ℕ
last_seed [] = None
last_seed (e ∷ h) = first_of (seeds e) (last_seed h)

abbrev pub up_to : Option ℕ → Call × Answered → History Call Answered → History Call Answered
up_to None e newer = e ∷ newer
up_to (Some w) e newer = []

abbrev pub since_seed : History Call Answered → History Call Answered
since_seed [] = []
since_seed (e ∷ h) = up_to (seeds e) e (since_seed h)

abbrev pub total : History Call Answered → ℕ
total [] = 0
total (e ∷ h) = clocks e + total h

abbrev pub elapsed : History Call Answered → ℕ
elapsed h = total (since_seed h)

abbrev pub pattern : Meaning → Option ℕ → ℕ → Answered
pattern m None c = Err NotSeeded
pattern m (Some w) c = Ok (answer.Pattern (shown_at m w c))

abbrev pub right_answer : Meaning → History Call Answered → Call → Answered
right_answer m h (call.Seed w) = refused_or (seed_refusal m.cells w) answer.Done
right_answer m h call.Step = refused_or (move_refusal (last_seed h) (elapsed h) 1) answer.Done
right_answer m h (call.Jump l) = refused_or (move_refusal (last_seed h) (elapsed h) l) answer.Done
right_answer m h call.Show = pattern m (last_seed h) (elapsed h)
right_answer m h call.Clock = refused_or (seeded (last_seed h)) (answer.Clock (elapsed h))

abbrev pub RigLaw : Meaning → Law Call Answered
RigLaw m = λ h c a. a ≡ right_answer m h c

pub record Tied (v : View) (h : History Call Answered) : Type 0 where
  pub seed : v.seed ≡ last_seed h
  pub clock : v.clock ≡ elapsed h
  pub stands : Stands v
