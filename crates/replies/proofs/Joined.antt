-- One text more among those that are joined.
use Rattle.std.proofs.Common.{◌≡◌, ℕ, ◌+◌, ◌-◌, ◌<◌, ◌≤◌, List, [], ◌∷◌, ◌++◌, map, length, get_or, take, drop, flat_map, sym, ap, ◌∙◌, ap₂, arith, take_all, append-nil, append_assoc}
use Rattle.std.proofs.lemmas.Grind.{flat_map-append}
use Rattle.std.proofs.lemmas.List.{take_rest, take_more}
use Rattle.std.proofs.lemmas.List.Folds.{flat_map-map}
use Rattle.replies.specs.Texts.{joined}

module _ {X : Type 0} (show : X → List ℕ) (sep : List ℕ) where
  -- what is told of the items after the first
  abbrev pub later : List X → List ℕ
  later xs = flat_map (λ x. sep ++ show x) xs

  -- the first item, and all others
  pub joined_all : (xs : List X) (x : X) (i : ℕ) → 0 < length xs → x ≡ get_or xs 0 x → length (take (length xs - 1) (drop 1 xs)) ≤ i
      → show x ++ later (take i (take (length xs - 1) (drop 1 xs))) ≡ joined sep (map show xs)
  joined_all [] x i h read end = absurd (omega arith)
  joined_all (y ∷ xs) x i h read end =
      let rest = take (length (y ∷ xs) - 1) (drop 1 (y ∷ xs)) in
      ap₂ (λ (z : X) (r : List X). show z ++ later r) read (take_all i rest end ∙ take_rest (y ∷ xs) 1)
      ∙ ap (λ (l : List ℕ). show y ++ l) (sym (flat_map-map (λ u. sep ++ u) show xs))

  -- one item more behind those that are told
  pub joined_more : (xs : List X) (x : X) (i : ℕ) (front before after : List ℕ) → i < length xs → x ≡ get_or xs i x
      → before ≡ front ++ later (take i xs) → after ≡ before ++ (sep ++ show x) → after ≡ front ++ later (take (i + 1) xs)
  joined_more xs x i front before after more read so_far is =
      let tell = λ (z : X). sep ++ show z in
      let one : later (take (i + 1) xs) ≡ later (take i xs) ++ tell x =
      ap later (take_more xs i x more) ∙ flat_map-append tell (take i xs) (get_or xs i x ∷ [])
      ∙ ap (λ (z : X). later (take i xs) ++ (tell z ++ [])) (sym read) ∙ ap (λ (l : List ℕ). later (take i xs) ++ l) (append-nil (tell x)) in
      is ∙ ap (λ (l : List ℕ). l ++ tell x) so_far ∙ append_assoc front (later (take i xs)) (tell x) ∙ ap (λ (l : List ℕ). front ++ l) (sym one)
