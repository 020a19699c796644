-- What a sheet scores: its first bad line, or the tally of its distinct pairs.
use Rattle.std.specs.Prelude.{ℕ, Bool, true, false, cond, ◌||◌, List, [], ◌∷◌, Some, None, Ok, Err, count_by, Option, Result, nat_lt}
use Rattle.std.specs.List.{filter_map}
use Rattle.std.specs.Option.{option_or}
use Rattle.inspection.specs.Tallies.{worse}
use Rattle.inspection.specs.declared.class.DefectClass.{DefectClass}
use Rattle.inspection.specs.declared.class.DefectClass.TheVariants.{Critical, Major, Minor}
use Rattle.inspection.specs.declared.refusal.Refusal.{Refusal}
use Rattle.inspection.specs.declared.refusal.Refusal.TheVariants.{SheetLineNotOfForm, UnitAboveSample, PairFalls}
use Rattle.inspection.specs.declared.tally.Tally.{Tally}
use Rattle.worksheet.specs.declared.defect.Defect.{Defect}
use Rattle.worksheet.specs.declared.scoring.Scored.{Scored}
use Rattle.texts.specs.Pieces.{Piece, number_of, pieces}
use Rattle.worksheet.specs.Defects.{Pair, pair, same_pair, falls, defect_of}

-- the pair falls from the line before, if there is one
abbrev pub falls_after : Option Defect → Defect → Bool
falls_after None d = false
falls_after (Some b) d = falls d b

-- the same of a line with the number n that says a defect, or none
abbrev pub fault_of : ℕ → Option Defect → ℕ → Option Defect → Option Refusal
fault_of units last n None = Some (SheetLineNotOfForm n)
fault_of units last n (Some d) = cond (nat_lt units d.unit) (Some (UnitAboveSample n)) (cond (falls_after last d) (Some (PairFalls n)) None)

-- what is wrong with a line that follows the line of `last`: not of form (11), then its unit above the sample (12), then its pair falling (13)
abbrev pub fault : ℕ → Option Defect → Piece → Option Refusal
fault units last p = fault_of units last (number_of p) (defect_of p)

-- what is wrong with the first bad line, each looked at beside the line before it
abbrev pub first_bad : ℕ → Option Defect → List Piece → Option Refusal
first_bad units last [] = None
first_bad units last (p ∷ ps) = option_or (fault units last p) (first_bad units (defect_of p) ps)

-- what the lines of form say
abbrev pub defects : List Piece → List Defect
defects ps = filter_map defect_of ps

abbrev pub occurs : Pair → List Defect → Bool
occurs q [] = false
occurs q (d ∷ ds) = same_pair (pair d) q || occurs q ds

-- the distinct pairs of the defects
abbrev pub pairs : List Defect → List Pair
pairs [] = []
pairs (d ∷ ds) = cond (occurs (pair d) ds) (pairs ds) (pair d ∷ pairs ds)

-- the worst class among the defects with the pair q
abbrev pub worst : List Defect → Pair → DefectClass
worst [] q = Minor
worst (d ∷ ds) q = cond (same_pair q (pair d)) (worse d.class (worst ds q)) (worst ds q)

abbrev pub is_critical : DefectClass → Bool
is_critical Critical = true
is_critical Major = false
is_critical Minor = false

abbrev pub is_major : DefectClass → Bool
is_major Critical = false
is_major Major = true
is_major Minor = false

abbrev pub is_minor : DefectClass → Bool
is_minor Critical = false
is_minor Major = false
is_minor Minor = true

-- how many of the pairs are critical, major and minor by the class that f gives them
abbrev pub by_class : (Pair → DefectClass) → List Pair → Tally
by_class f qs = record {
  critical = count_by (λ q. is_critical (f q)) qs;
  major = count_by (λ q. is_major (f q)) qs;
  minor = count_by (λ q. is_minor (f q)) qs;
}

-- each distinct pair counts once, by its worst class
abbrev pub tally_of : List Defect → Tally
tally_of ds = by_class (worst ds) (pairs ds)

abbrev pub unless : {X : Type 0} → Option Refusal → X → Result X Refusal
unless None x = Ok x
unless (Some r) x = Err r

-- the tally of a sheet of so many sample units, or the refusal of its first bad line
abbrev pub score_of : List ℕ → ℕ → Result Tally Refusal
score_of sheet units = unless (first_bad units None (pieces sheet)) (tally_of (defects (pieces sheet)))

-- what a reading says besides its number of lines
abbrev pub tally_part : Result Scored Refusal → Result Tally Refusal
tally_part (Ok w) = Ok w.tally
tally_part (Err r) = Err r
