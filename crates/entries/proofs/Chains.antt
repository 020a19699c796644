-- The five numbers of a line, one after another.
use Rattle.std.proofs.Common.{◌≡◌, ℕ, ◌-◌, ◌<◌, ◌≤◌, true, List, [], ◌∷◌, length, get_or, take, drop, Some, None, Option, Result, sym, refl, ap, ◌∙◌, arith}
use Rattle.std.proofs.lemmas.List.{take_rest}
use Rattle.std.proofs.lemmas.Bool.Decides.{nat_tests}
use Rattle.std.proofs.lemmas.Bool.{cond-true}
use Rattle.std.specs.Result.{result_ok}
use Rattle.std.specs.Option.{ok_or}
use Rattle.inspection.specs.declared.letter.UnknownLetter.{UnknownLetter}
use Rattle.inspection.specs.Letters.{kind_of, status_of, verdict_of, LetterRead}
use Rattle.entries.specs.Lines.{number_at, ended, numbers_in, joint, tabs, fields_in}

pub chained : (lot units critical major minor : ℕ) (a b c d e f : List ℕ) → Some (lot, b) ≡ number_at 7 9 a → Some (units, c) ≡ number_at 4 9 b → Some (critical, d) ≡ number_at 5 9 c → Some (major, e) ≡ number_at 5 9 d → Some (minor, f) ≡ number_at 5 10 e → ended (record { lot_size = lot; units = units; tally = record { critical = critical; major = major; minor = minor } }) f ≡ numbers_in a
chained lot units critical major minor a b c d e f p q r s t = rw (← p, ← q, ← r, ← s, ← t)

-- three letters with their tabs, and the numbers
pub fields_at : (bs : List ℕ) → 6 ≤ length bs → get_or bs 1 0 ≡ 9 → get_or bs 3 0 ≡ 9 → get_or bs 5 0 ≡ 9 → joint (kind_of (get_or bs 0 0)) (status_of (get_or bs 2 0)) (verdict_of (get_or bs 4 0)) (numbers_in (take (length bs - 6) (drop 6 bs))) ≡ fields_in bs
fields_at [] le x y z = absurd (omega arith)
fields_at (k ∷ []) le x y z = absurd (omega arith)
fields_at (k ∷ a ∷ []) le x y z = absurd (omega arith)
fields_at (k ∷ a ∷ s ∷ []) le x y z = absurd (omega arith)
fields_at (k ∷ a ∷ s ∷ b ∷ []) le x y z = absurd (omega arith)
fields_at (k ∷ a ∷ s ∷ b ∷ v ∷ []) le x y z = absurd (omega arith)
fields_at (k ∷ a ∷ s ∷ b ∷ v ∷ c ∷ bs) le x y z =
    let marked : tabs a b c ≡ true = grind (arith, nat_tests) in
    ap (λ ns. joint (kind_of k) (status_of s) (verdict_of v) (numbers_in ns)) (take_rest (k ∷ a ∷ s ∷ b ∷ v ∷ c ∷ bs) 6)
    ∙ sym (cond-true _ _ _ marked)

-- what something follows is not the end
pub not_ended : {X : Type 0} (x : X) (bs : List ℕ) → 0 < length bs → ended x bs ≡ None
not_ended x [] some = absurd (omega arith)
not_ended x (b ∷ bs) some = refl

read_out : {X : Type 0} (c : ℕ) (o : Option X) → result_ok {E = UnknownLetter} (ok_or o (record { letter = c })) ≡ o
read_out c None = refl
read_out c (Some x) = refl

-- the case of a letter, from what reading the letter answers
pub letter_found : {X : Type 0} (letter : X → ℕ) (case_of : ℕ → Option X) (c : ℕ) (r : Result X UnknownLetter) → LetterRead letter case_of c r → result_ok r ≡ case_of c
letter_found letter case_of c r h = ap result_ok h.value ∙ read_out c (case_of c)
