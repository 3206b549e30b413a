-- A law that leaves one right answer to each call leaves one list of answers to a list of calls.
use Rattle.std.proofs.Common.{◌≡◌, List, [], ◌∷◌, length, refl, ap, ◌∙◌, ap₂, arith}
use Rattle.runs.specs.Runs.{Law, History, onto, Right, Obeys, answers_after, answers}

module _ {C A : Type 0} (L : Law C A) where
  pub right_before : (h : History C A) (cs : List C) (rs : List A) → Right L (onto h cs rs) → Right L h
  right_before h [] rs r = r
  right_before h (c ∷ cs) [] r = r
  right_before h (c ∷ cs) (a ∷ rs) r = (right_before ((c, a) ∷ h) cs rs r).1

  module _ (f : History C A → C → A) (one : (h : History C A) (c : C) (a : A) → L h c a → a ≡ f h c) where
    determined_after : (h : History C A) (cs : List C) (rs : List A) → length rs ≡ length cs → Right L (onto h cs rs) → rs ≡ answers_after f h cs
    determined_after h [] [] e r = refl
    determined_after h [] (a ∷ rs) e r = absurd (omega arith)
    determined_after h (c ∷ cs) [] e r = absurd (omega arith)
    determined_after h (c ∷ cs) (a ∷ rs) e r =
        let is = one h c a (right_before ((c, a) ∷ h) cs rs r).0 in
        ap₂ ◌∷◌ is (determined_after ((c, a) ∷ h) cs rs (omega arith) r ∙ ap (λ (z : A). answers_after f ((c, z) ∷ h) cs) is)

    pub determined : (cs : List C) (rs : List A) → Obeys L cs rs → rs ≡ answers f cs
    determined cs rs o = determined_after [] cs rs o.all o.right
