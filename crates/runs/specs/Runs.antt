-- Runs: lists of calls, each with its answer, and what a law says of all of them. A law tells which answers are right
-- after the calls and answers before; it knows nothing of what happened inside.
--
--   History C A          == calls with their answers, the newest first
--   Law C A              == which answer to a call is right after a history
--   history cs rs        == the history that the calls cs and their answers rs make
--   Right L h            == every answer of h is right after what came before it
--   Obeys L cs rs        == there is an answer to each call, and all are right
--   answers f cs         == the answers to the calls cs, where f gives the answer to each after what came before it
use Rattle.std.specs.Prelude.{◌≡◌, List, [], ◌∷◌, length}

abbrev pub History : Type 0 → Type 0 → Type 0
History C A = List (C × A)

abbrev pub Law : Type 0 → Type 0 → Type 1
Law C A = History C A → C → A → Type 0

-- onto the history h; what has no partner is left out
abbrev pub onto : {C A : Type 0} → History C A → List C → List A → History C A
onto h [] rs = h
onto h (c ∷ cs) [] = h
onto h (c ∷ cs) (r ∷ rs) = onto ((c, r) ∷ h) cs rs

abbrev pub history : {C A : Type 0} → List C → List A → History C A
history cs rs = onto [] cs rs

abbrev pub Right : {C A : Type 0} → Law C A → History C A → Type 0
Right L [] = Unit {0}
Right L (e ∷ h) = L h e.0 e.1 × Right L h

pub record Obeys {C A : Type 0} (L : Law C A) (cs : List C) (rs : List A) : Type 0 where
  pub all : length rs ≡ length cs
  pub right : Right L (history cs rs)

-- after the history h
abbrev pub answers_after : {C A : Type 0} → (History C A → C → A) → History C A → List C → List A
answers_after f h [] = []
answers_after f h (c ∷ cs) = f h c ∷ answers_after f ((c, f h c) ∷ h) cs

abbrev pub answers : {C A : Type 0} → (History C A → C → A) → List C → List A
answers f cs = answers_after f [] cs
