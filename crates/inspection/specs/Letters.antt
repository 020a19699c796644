-- The letter of each case, and the case of each letter. Letters are the numbers of their characters.
use Rattle.std.specs.Prelude.{◌≡◌, ℕ, cond, ◌↔◌, List, [], ◌∷◌, Some, None, Ok, Option, Result, ◌==◌, ok_or, ◌++◌, codes, encode_utf8}
use Rattle.inspection.specs.declared.status.Status.{Status}
use Rattle.inspection.specs.declared.status.Status.TheVariants.{Normal, Tightened, Reduced}
use Rattle.inspection.specs.declared.verdict.Verdict.{Verdict}
use Rattle.inspection.specs.declared.verdict.Verdict.TheVariants.{Accepted, Rejected, Awaited, Full, Brief, Undecided}
use Rattle.inspection.specs.declared.kind.Kind.{Kind}
use Rattle.inspection.specs.declared.kind.Kind.TheVariants.{PeriodOpened, Portion, PeriodEnded, Lot, SecondSample, Relief, IrregularNotice, Spoiled}
use Rattle.inspection.specs.declared.class.DefectClass.{DefectClass}
use Rattle.inspection.specs.declared.letter.UnknownLetter.{UnknownLetter}
use Rattle.inspection.specs.declared.class.DefectClass.TheVariants.{Critical, Major, Minor}

-- the first of the cases whose letter is c
abbrev pub lettered : {X : Type 0} → (X → ℕ) → List X → ℕ → Option X
lettered letter [] c = None
lettered letter (x ∷ xs) c = cond (c == letter x) (Some x) (lettered letter xs c)

abbrev pub status_letter : Status → ℕ
status_letter Normal = 78  -- N
status_letter Tightened = 84  -- T
status_letter Reduced = 82  -- R

abbrev pub status_of : ℕ → Option Status
status_of = lettered status_letter (Normal ∷ Tightened ∷ Reduced ∷ [])

abbrev pub verdict_letter : Verdict → ℕ
verdict_letter Accepted = 65  -- A
verdict_letter Rejected = 82  -- R
verdict_letter Awaited = 87  -- W
verdict_letter Full = 70  -- F
verdict_letter Brief = 66  -- B
verdict_letter Undecided = 45  -- -

abbrev pub verdict_of : ℕ → Option Verdict
verdict_of = lettered verdict_letter (Accepted ∷ Rejected ∷ Awaited ∷ Full ∷ Brief ∷ Undecided ∷ [])

abbrev pub kind_letter : Kind → ℕ
kind_letter PeriodOpened = 79  -- O
kind_letter Portion = 80  -- P
kind_letter PeriodEnded = 69  -- E
kind_letter Lot = 76  -- L
kind_letter SecondSample = 83  -- S
kind_letter Relief = 71  -- G
kind_letter IrregularNotice = 73  -- I
kind_letter Spoiled = 88  -- X

abbrev pub kind_of : ℕ → Option Kind
kind_of = lettered kind_letter (PeriodOpened ∷ Portion ∷ PeriodEnded ∷ Lot ∷ SecondSample ∷ Relief ∷ IrregularNotice ∷ Spoiled ∷ [])

abbrev pub class_letter : DefectClass → ℕ
class_letter Critical = 67  -- C
class_letter Major = 77  -- M
class_letter Minor = 78  -- N

abbrev pub class_of : ℕ → Option DefectClass
class_of = lettered class_letter (Critical ∷ Major ∷ Minor ∷ [])

-- what reading a letter answers: the case that has it, which is the only one, and else the letter itself
pub record LetterRead {X : Type 0} (letter : X → ℕ) (case_of : ℕ → Option X) (c : ℕ) (r : Result X UnknownLetter) : Type 0 where
  pub value : r ≡ ok_or (case_of c) (record { letter = c })
  pub inverse : (x : X) → (r ≡ Ok x) ↔ (letter x ≡ c)

-- as people are told of it
abbrev pub told : UnknownLetter → List ℕ
told e = codes "no case has the letter " ++ encode_utf8 e.letter
