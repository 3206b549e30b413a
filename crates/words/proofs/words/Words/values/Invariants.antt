use Rattle.std.proofs.Common.{◌≡◌, List, ◌++◌, Some, None, Option, vec_items}
use Rattle.words.specs.Readings.{all_by}
use Rattle.words.specs.Words.{left}
use Rattle.words.proofs.words.Words.values.Given as goal

-- the values so far, and then those that are read
abbrev onto : {X : Type 0} → List X → Option (List X) → Option (List X)
onto xs None = None
onto xs (Some ys) = Some (xs ++ ys)

-- the values so far, and those of the words that are left, are the values of all words
abbrev pub invariant-loop-word : goal.invariant-loop-word
invariant-loop-word g l =
    (goal.iterator-loop-word g).can_next l.word-iterator ×
    (goal.iterator-loop-word g).is_finite l.word-iterator ×
    (onto (vec_items l.values) (all_by g.T.Reading.read (left l.word-iterator)) ≡ all_by g.T.Reading.read (left l.fn.self))
