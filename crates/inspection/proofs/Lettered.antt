-- The case that is found for a letter has that letter.
use Rattle.std.proofs.Common.{◌≡◌, ℕ, Bool, true, false, cond, eqb, List, [], ◌∷◌, Some, refl}
use Rattle.std.proofs.lemmas.Bool.{eqb-true}
use Rattle.inspection.specs.Letters.{lettered}

pub lettered_back : {X : Type 0} (letter : X → ℕ) (xs : List X) (c : ℕ) (x : X) → lettered letter xs c ≡ Some x → letter x ≡ c
lettered_back letter [] c x e = cc
lettered_back letter (y ∷ ys) c x e = by (eqb c (letter y)) refl (lettered_back letter ys c x) e
  where
    by : (t : Bool) → eqb c (letter y) ≡ t → (lettered letter ys c ≡ Some x → letter x ≡ c) → cond t (Some y) (lettered letter ys c) ≡ Some x → letter x ≡ c
    by true t h e =
        let same : y ≡ x = cc in
        let is = eqb-true c (letter y) t in cc
    by false t h e = h e
