-- Tests over the three classes.
use Rattle.std.proofs.Common.{◌≡◌, Bool, true, false, ◌||◌, inl, inr, arith}
use Rattle.std.proofs.lemmas.Bool.{or_cases}
use Rattle.inspection.specs.Classes.{some_class, each_class}
use Rattle.inspection.specs.declared.class.JudgedClass.{JudgedClass}
use Rattle.inspection.specs.declared.class.JudgedClass.TheVariants.{Critical, Major, Total}

module _ (p : JudgedClass → Bool) where
  pub some_true : some_class p ≡ true → (c : JudgedClass) × (p c ≡ true)
  some_true e =
      elim (or_cases (p Critical || p Major) (p Total) e) [
        | inl a ↦ elim (or_cases (p Critical) (p Major) a) [ inl x ↦ (Critical, x) | inr x ↦ (Major, x) ]
        | inr x ↦ (Total, x)
      ]

  pub some_from : (c : JudgedClass) → p c ≡ true → some_class p ≡ true
  some_from Critical e = grind arith
  some_from Major e = grind arith
  some_from Total e = grind arith

  pub none_true : some_class p ≡ false → (c : JudgedClass) → p c ≡ false
  none_true e Critical = grind arith
  none_true e Major = grind arith
  none_true e Total = grind arith

  pub none_from : ((c : JudgedClass) → p c ≡ false) → some_class p ≡ false
  none_from all = grind (arith, all Critical, all Major, all Total)

  pub each_true : each_class p ≡ true → (c : JudgedClass) → p c ≡ true
  each_true e Critical = grind arith
  each_true e Major = grind arith
  each_true e Total = grind arith

  pub each_from : ((c : JudgedClass) → p c ≡ true) → each_class p ≡ true
  each_from all = grind (arith, all Critical, all Major, all Total)

-- what passes p passes q
module _ (p q : JudgedClass → Bool) (more : (c : JudgedClass) → p c ≡ true → q c ≡ true) where
  pub some_more : some_class p ≡ true → some_class q ≡ true
  some_more e = let w = some_true p e in some_from q w.0 (more w.0 w.1)

  pub each_more : each_class p ≡ true → each_class q ≡ true
  each_more e = each_from q (λ c. more c (each_true p e c))
