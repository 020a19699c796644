-- What a line of form says, and how it is written: unit, tab, cause, tab, class, line feed.
use Rattle.std.specs.Prelude.{ℕ, ◌-◌, ◌≤◌, Bool, cond, ◌&&◌, ◌||◌, List, [], ◌∷◌, ◌++◌, length, Some, None, decimal, Option, ◌==◌, nat_le, nat_lt, slice_index}
use Rattle.std.specs.Option.{option_map}
use Rattle.decimals.specs.Digits.{numeral}
use Rattle.texts.specs.Pieces.{Piece, fields, bare}
use Rattle.inspection.specs.Letters.{class_letter, class_of}
use Rattle.inspection.specs.declared.class.DefectClass.{DefectClass}
use Rattle.worksheet.specs.declared.defect.Defect.{Defect}

-- a pair of unit and cause
abbrev pub Pair : Type 0
Pair = ℕ × ℕ

abbrev pub pair : Defect → Pair
pair d = (d.unit, d.cause)

abbrev pub same_pair : Pair → Pair → Bool
same_pair p q = p.0 == q.0 && p.1 == q.1

-- related defects have an equal pair
abbrev pub related : Defect → Defect → Bool
related a b = same_pair (pair a) (pair b)

-- a's pair comes before b's, the unit compared first
abbrev pub falls : Defect → Defect → Bool
falls a b = nat_lt a.unit b.unit || (a.unit == b.unit && nat_lt a.cause b.cause)

-- at most four bytes, the first above the digit 0
abbrev pub unit_form : List ℕ → Bool
unit_form ds = nat_lt 48 (slice_index ds 0) && nat_le (length ds) 4

-- a number without leading zero
abbrev pub unit_of : List ℕ → Option ℕ
unit_of ds = cond (unit_form ds) (numeral ds) None

-- what follows the unit's tab: a cause of one digit from 1 to 9, tab, class, line feed
abbrev pub tail_form : ℕ → ℕ → ℕ → Bool
tail_form cause tab feed = (nat_lt 48 cause && nat_le cause 57) && (tab == 9 && feed == 10)

abbrev pub tail_of : List ℕ → Option (ℕ × DefectClass)
tail_of [] = None
tail_of (a ∷ []) = None
tail_of (a ∷ b ∷ []) = None
tail_of (a ∷ b ∷ c ∷ []) = None
tail_of (a ∷ b ∷ c ∷ d ∷ []) = cond (tail_form a b d) (option_map (λ k. (a - 48, k)) (class_of c)) None
tail_of (a ∷ b ∷ c ∷ d ∷ e ∷ bs) = None

abbrev pub at_unit : Option (ℕ × DefectClass) → ℕ → Option Defect
at_unit None u = None
at_unit (Some t) u = Some (record { unit = u; cause = t.0; class = t.1 })

abbrev pub joint : Option ℕ → Option (ℕ × DefectClass) → Option Defect
joint None t = None
joint (Some u) t = at_unit t u

-- what a line says, where it is of form
abbrev pub defect_of : Piece → Option Defect
defect_of (fields n first rest) = joint (unit_of first) (tail_of rest)
defect_of (bare n text) = None

-- the line of a defect
abbrev pub written : Defect → List ℕ
written d = decimal d.unit ++ (9 ∷ (decimal d.cause ++ (9 ∷ class_letter d.class ∷ 10 ∷ [])))

-- a defect that a line can say: a unit from 1 to 9,999 and a cause from 1 to 9
pub record Keyed (d : Defect) : Type 0 where
  pub unit_least : 1 ≤ d.unit
  pub unit_most : d.unit ≤ 9999
  pub cause_least : 1 ≤ d.cause
  pub cause_most : d.cause ≤ 9
