-- A rig: a generator that only the rig's calls change, with the last accepted seed and the clocks since then.
--
--   limit                == the highest clock, 2^62
--   View                 == what a rig is: what its generator means, its last accepted seed if there is one, its clock, and
--                           its generator's state
--   Stands v             == the state is what so many single steps from the seed make
--   seed_refusal n w     == the questions to a seed of n cells, in their order
--   seeded v             == the question whether a seed was accepted
--   move_refusal v l     == the questions to a step (l = 1) or a jump by l, in their order
--   loaded v w           == the rig v, just seeded with w
--   moved v l            == the rig v, l steps later
--   shown_at m w c       == what a generator shows c single steps after the seed w
use Rattle.std.specs.Prelude.{◌≡◌, ℕ, ◌+◌, ◌^◌, not, is_some, Some, None, Option, ◌==◌, nat_le, nat_lt}
use Rattle.rings.specs.declared.refusal.Refusal.{Refusal}
use Rattle.rings.specs.declared.refusal.Refusal.TheVariants.{WordTooLarge, SeedZero, NotSeeded, ClockPastLimit}
use Rattle.rings.specs.Questions.{unless}
use Rattle.generators.specs.Generators.{Meaning, iterate}

abbrev pub limit : ℕ
limit = 2 ^ 62

pub record View : Type 0 where
  pub meaning : Meaning
  pub seed : Option ℕ
  pub clock : ℕ
  pub state : ℕ

abbrev pub Stands : View → Type 0
Stands v = (w : ℕ) → v.seed ≡ Some w → v.state ≡ iterate v.meaning.next v.clock w

-- A word below 2^n? Other than 0?
abbrev pub seed_refusal : ℕ → ℕ → Option Refusal
seed_refusal n w = unless (nat_lt w (2 ^ n)) WordTooLarge (unless (not (w == 0)) SeedZero None)

-- Seeded?
abbrev pub seeded : Option ℕ → Option Refusal
seeded seed = unless (is_some seed) NotSeeded None

-- Seeded? The new clock at most the limit?
abbrev pub move_refusal : Option ℕ → ℕ → ℕ → Option Refusal
move_refusal seed clock length = unless (is_some seed) NotSeeded (unless (nat_le (clock + length) limit) ClockPastLimit None)

abbrev pub loaded : View → ℕ → View
loaded v w = record { meaning = v.meaning; seed = Some w; clock = 0; state = w }

abbrev pub moved : View → ℕ → View
moved v l = record { meaning = v.meaning; seed = v.seed; clock = v.clock + l; state = iterate v.meaning.next l v.state }

abbrev pub shown_at : Meaning → ℕ → ℕ → ℕ
shown_at m w c = m.shown (iterate m.next c w)
