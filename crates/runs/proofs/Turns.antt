-- One call more of a run.
use Rattle.std.proofs.Common.{◌≡◌, ℕ, ◌+◌, ◌<◌, List, [], ◌∷◌, ◌++◌, length, get_or, take, sym, refl, ap, ◌∙◌, subst, arith, length-append, length-take, take_all}
use Rattle.std.proofs.lemmas.List.{take_more}
use Rattle.runs.specs.Runs.{Law, History, onto, history, Right, Obeys}

module _ {C A : Type 0} where
  onto_push : (h : History C A) (cs : List C) (rs : List A) (c : C) (r : A) → length rs ≡ length cs
      → onto h (cs ++ (c ∷ [])) (rs ++ (r ∷ [])) ≡ (c, r) ∷ onto h cs rs
  onto_push h [] [] c r e = refl
  onto_push h [] (x ∷ rs) c r e = absurd (omega arith)
  onto_push h (y ∷ cs) [] c r e = absurd (omega arith)
  onto_push h (y ∷ cs) (x ∷ rs) c r e = onto_push ((y, x) ∷ h) cs rs c r (omega arith)

  -- what is right by L is right by M
  abbrev pub Carries : Law C A → Law C A → Type 0
  Carries L M = (h : History C A) (c : C) (a : A) → L h c a → M h c a

  -- the first i calls have been answered by rs, after which the performer is tied to their history
  pub record Sofar (L : Law C A) (tied : History C A → Type 0) (cs : List C) (i : ℕ) (rs : List A) : Type 0 where
    pub count : length rs ≡ i
    pub right : Right L (history (take i cs) rs)
    pub ties : tied (history (take i cs) rs)

  pub sofar_none : (L : Law C A) (tied : History C A → Type 0) (cs : List C) → tied [] → Sofar L tied cs 0 []
  sofar_none L tied cs t = record { count = refl; right = tt; ties = t }

  pub sofar_more : (L M : Law C A) (was tied : History C A → Type 0) (cs : List C) (i : ℕ) (rs : List A) (c : C) (r : A)
      → i < length cs → c ≡ get_or cs i c → Carries M L
      → ((h : History C A) → was h → M h c r × tied ((c, r) ∷ h))
      → Sofar L was cs i rs → Sofar L tied cs (i + 1) (rs ++ (r ∷ []))
  sofar_more L M was tied cs i rs c r within read carries turn s =
      let before = history (take i cs) rs in
      let pushed : take (i + 1) cs ≡ take i cs ++ (c ∷ []) = take_more cs i c within ∙ ap (λ y. take i cs ++ (y ∷ [])) (sym read) in
      let level : length rs ≡ length (take i cs) = s.count ∙ sym (simp length-take (omega arith)) in
      let grown : history (take (i + 1) cs) (rs ++ (r ∷ [])) ≡ (c, r) ∷ before =
      ap (λ z. history z (rs ++ (r ∷ []))) pushed ∙ onto_push [] (take i cs) rs c r level in
      let turned = turn before s.ties in
      record {
        count = simp length-append (omega (arith, s.count));
        right = subst (Right L) (sym grown) (carries before c r turned.0, s.right);
        ties = subst tied (sym grown) turned.1;
      }

  pub sofar_all : (L : Law C A) (tied : History C A → Type 0) (cs : List C) (i : ℕ) (rs : List A)
      → i ≡ length cs → Sofar L tied cs i rs → Obeys L cs rs
  sofar_all L tied cs i rs e s =
      record { all = s.count ∙ e; right = subst (λ z. Right L (history z rs)) (take_all i cs (omega arith)) s.right }
