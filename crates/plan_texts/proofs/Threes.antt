-- A test of three of something, one after another.
use Rattle.std.proofs.Common.{◌≡◌, Bool, ◌&&◌, [], ◌∷◌, sym, ap, ◌∙◌}
use Rattle.std.specs.List.{list_all}
use Rattle.std.proofs.Math.Bool.{and-true, and_assoc}

pub all_three : {X : Type 0} (test : X → Bool) (a b c : X) → list_all test (a ∷ b ∷ c ∷ []) ≡ (test a && test b) && test c
all_three test a b c = ap (λ t. test a && (test b && t)) (and-true (test c)) ∙ sym (and_assoc (test a) (test b) (test c))
