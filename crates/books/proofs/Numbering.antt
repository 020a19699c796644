-- Entries by their numbers.
use Rattle.std.proofs.Common.{◌≡◌, ℕ, zero, suc, ◌-◌, ◌<◌, ◌≤◌, List, [], ◌∷◌, ◌++◌, length, get_or, take, Some, None, sym, refl, ap, ◌∙◌, arith}
use Rattle.entries.specs.declared.entry.Entry.{Entry}
use Rattle.books.specs.Books.{numbered}

pub numbered_zero : (es : List Entry) → None ≡ numbered 0 es
numbered_zero [] = refl
numbered_zero (e ∷ es) = refl

pub numbered_beyond : (n : ℕ) (es : List Entry) → length es < n → None ≡ numbered n es
numbered_beyond n [] h = refl
numbered_beyond zero (e ∷ es) h = refl
numbered_beyond (suc zero) (e ∷ es) h = absurd (omega arith)
numbered_beyond (suc (suc n)) (e ∷ es) h = numbered_beyond (suc n) es (omega arith)

-- the entry of number i + 1 stands at the place i
pub numbered_at : (i : ℕ) (es : List Entry) (d : Entry) → i < length es → Some (get_or es i d) ≡ numbered (suc i) es
numbered_at i [] d h = absurd (omega arith)
numbered_at zero (e ∷ es) d h = refl
numbered_at (suc i) (e ∷ es) d h = numbered_at i es d (omega arith)

pub numbered_take : (n m : ℕ) (es : List Entry) → n ≤ m → numbered n (take m es) ≡ numbered n es
numbered_take zero m es h = sym (numbered_zero (take m es)) ∙ numbered_zero es
numbered_take (suc n) zero es h = absurd (omega arith)
numbered_take (suc n) (suc m) [] h = refl
numbered_take (suc zero) (suc m) (e ∷ es) h = refl
numbered_take (suc (suc n)) (suc m) (e ∷ es) h = numbered_take (suc n) m es (omega arith)

pub numbered_left : (n : ℕ) (es fs : List Entry) → n ≤ length es → numbered n (es ++ fs) ≡ numbered n es
numbered_left zero es fs h = sym (numbered_zero (es ++ fs)) ∙ numbered_zero es
numbered_left (suc n) [] fs h = absurd (omega arith)
numbered_left (suc zero) (e ∷ es) fs h = refl
numbered_left (suc (suc n)) (e ∷ es) fs h = numbered_left (suc n) es fs (omega arith)

pub numbered_right : (n : ℕ) (es fs : List Entry) → length es < n → numbered n (es ++ fs) ≡ numbered (n - length es) fs
numbered_right n [] fs h = ap (λ k. numbered k fs) (omega arith)
numbered_right zero (e ∷ es) fs h = absurd (omega arith)
numbered_right (suc zero) (e ∷ es) fs h = absurd (omega arith)
numbered_right (suc (suc n)) (e ∷ es) fs h = numbered_right (suc n) es fs (omega arith) ∙ ap (λ k. numbered k fs) (omega arith)
