-- Rows found, and what holds of them.
use Rattle.std.proofs.Common.{◌≡◌, ℕ, ◌+◌, ◌<◌, Bool, true, false, ◌&&◌, List, [], ◌∷◌, ◌++◌, reverse, cond, length, get_or, take, IfSome, Some, None, Option, sym, refl, ap, ◌∙◌}
use Rattle.std.specs.List.{find}
use Rattle.std.proofs.lemmas.List.{take_more, reverse-append}
use Rattle.std.proofs.lemmas.List.Folds.{find-append}
use Rattle.std.proofs.lemmas.Bool.{and_parts}
use Rattle.plans.specs.Finding.{last_of}
use Rattle.std.specs.Bool.{then_some}
use Rattle.std.specs.Option.{option_or}
use Rattle.plans.specs.Plans.{each, lot_row_kept, limit_row_kept, counts_kept, keeps}
use Rattle.plans.specs.declared.rows.LotRow.{LotRow}
use Rattle.plans.specs.declared.rows.LimitRow.{LimitRow}

-- one row more at the end is found before all others
last_push : {X : Type 0} (p : X → Bool) (xs : List X) (x : X) → last_of p (xs ++ x ∷ []) ≡ option_or (then_some (p x) x) (last_of p xs)
last_push p [] x = by (p x)
  where
    by : (t : Bool) → then_some t x ≡ option_or (then_some t x) None
    by true = refl
    by false = refl
last_push p (y ∷ ys) x = ap (λ o. option_or o (then_some (p y) y)) (last_push p ys x) ∙ by (p x)
  where
    by : (t : Bool) → option_or (option_or (then_some t x) (last_of p ys)) (then_some (p y) y) ≡ option_or (then_some t x) (option_or (last_of p ys) (then_some (p y) y))
    by true = refl
    by false = refl

-- a turn of a search that keeps the last row that fits
pub found_more : {X : Type 0} (p : X → Bool) (xs : List X) (i : ℕ) (d x : X) (t : Bool) (was here now : Option X) → i < length xs → x ≡ get_or xs i d → t ≡ p x → was ≡ last_of p (take i xs) → here ≡ then_some t x → now ≡ option_or here was → now ≡ last_of p (take (i + 1) xs)
found_more p xs i d x t was here now lt is test h f e =
    let more : last_of p (take (i + 1) xs) ≡ option_or (then_some (p x) x) (last_of p (take i xs)) =
    ap (last_of p) (take_more xs i d lt) ∙ ap (λ y. last_of p (take i xs ++ y ∷ [])) (sym is) ∙ last_push p (take i xs) x in
    e ∙ (λ j. option_or (f j) (h j)) ∙ (λ j. option_or (then_some (test j) x) (last_of p (take i xs))) ∙ sym more

-- the last that fits is the first from the back
pub find_back : {X : Type 0} (p : X → Bool) (xs : List X) → find p (reverse xs) ≡ last_of p xs
find_back p [] = refl
find_back p (x ∷ xs) =
    ap (find p) (reverse-append (x ∷ []) xs) ∙ find-append p (reverse xs) (x ∷ []) ∙ (λ i. option_or (find_back p xs i) (by (p x) i))
  where
    by : (t : Bool) → cond t (Some x) None ≡ then_some t x
    by true = refl
    by false = refl

-- what holds of each row holds of the one found
pub last_kept : {X : Type 0} (p q : X → Bool) (xs : List X) → each q xs ≡ true → IfSome (last_of p xs) (λ x. q x ≡ true)
last_kept p q [] h = tt
last_kept p q (x ∷ xs) h =
    let parts = and_parts (q x) _ h in
    by (last_of p xs) (p x) parts.0 (last_kept p q xs parts.1)
  where
    by : (o : Option _) (t : Bool) → q x ≡ true → IfSome o (λ x. q x ≡ true) → IfSome (option_or o (then_some t x)) (λ x. q x ≡ true)
    by (Some y) t k c = c
    by None true k c = k
    by None false k c = tt

-- the rows of a plan book are each as they should be
pub rows_kept : (rows : List LotRow) (limits : List LimitRow) → keeps rows limits ≡ true → each lot_row_kept rows ≡ true
rows_kept rows limits h =
    let whole = and_parts _ (counts_kept rows limits) h in
    let kinds = and_parts (each lot_row_kept rows && each limit_row_kept limits) _ whole.0 in
    (and_parts (each lot_row_kept rows) _ kinds.0).0
