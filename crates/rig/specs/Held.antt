-- What a rig shows of its fields.
--
--   view m s r  == what the rig r is, where m tells what a generator means and s its state
use Rattle.std.specs.Prelude.{ℕ}
use Rattle.generators.specs.Generators.{Meaning}
use Rattle.rig.specs.declared.rig.Rig.{Rig}
use Rattle.rig.specs.Rigs.{View}

abbrev pub view : {G : Type 0} → (G → Meaning) → (G → ℕ) → Rig G → View
view meaning state r = record { meaning = meaning r.generator; seed = r.seed; clock = r.clock; state = state r.generator }
