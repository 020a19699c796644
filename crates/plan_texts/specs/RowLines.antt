-- What a line of a plan text says: fields parted by tabs, a line feed last.
use Rattle.std.specs.Prelude.{ℕ, Bool, false, cond, List, [], ◌∷◌, Some, None, Option, ◌==◌}
use Rattle.std.specs.Option.{option_map, option_and_then}
use Rattle.decimals.specs.Digits.{number, clipped}
use Rattle.inspection.specs.Letters.{status_of}
use Rattle.inspection.specs.declared.class.PerClass.{PerClass}
use Rattle.inspection.specs.declared.status.Status.{Status}
use Rattle.texts.specs.Pieces.{Piece, fields, bare}
use Rattle.texts.specs.Texts.{parted_by}
use Rattle.plans.specs.declared.rows.ClassNumbers.{ClassNumbers}
use Rattle.plans.specs.declared.rows.LotRow.{LotRow}
use Rattle.plans.specs.declared.rows.LimitRow.{LimitRow}
use Rattle.plan_texts.specs.declared.row.Row.{Row}
use Rattle.plan_texts.specs.declared.row.Row.TheVariants.{Lot, Limit}

-- a part of a line that is read, and what follows it
abbrev pub Taken : Type 0 → Type 0
Taken X = Option (X × List ℕ)

abbrev pub then : {X Y : Type 0} → Taken X → (X → List ℕ → Option Y) → Option Y
then taken f = option_and_then (λ p. f p.0 p.1) taken

abbrev pub with_rest : List ℕ → Option ℕ → Taken ℕ
with_rest rest n = option_map (λ n. (clipped n, rest)) n

-- a number in decimal digits without leading zero, up to the next x. It may have any length: one that does not fit 32 bits stands as the
-- largest that does, which breaks the same bound
unfoldable pub number_to : ℕ → List ℕ → Taken ℕ
number_to x bs = then (parted_by x bs) (λ digits rest. with_rest rest (number digits))

-- three of something, the first two up to a tab, the last up to x
unfoldable pub three_to : {X : Type 0} → (ℕ → List ℕ → Taken X) → ℕ → List ℕ → Taken (X × X × X)
three_to to x bs =
    then (to 9 bs) (λ a bs.
    then (to 9 bs) (λ b bs.
    then (to x bs) (λ c bs.
    Some ((a, b, c), bs))))

-- the three numbers of a class, the last of them up to x
unfoldable pub class_to : ℕ → List ℕ → Taken ClassNumbers
class_to x bs = then (three_to number_to x bs) (λ n bs. Some (record { accept_first = n.0; reject_first = n.1; accept_both = n.2 }, bs))

-- one of something for each class, the last of them up to x
unfoldable pub each_to : {X : Type 0} → (ℕ → List ℕ → Taken X) → ℕ → List ℕ → Taken (PerClass X)
each_to to x bs = then (three_to to x bs) (λ e bs. Some (record { critical = e.0; major = e.1; total = e.2 }, bs))

-- nothing follows
abbrev pub at_end : {X : Type 0} → List ℕ → X → Option X
at_end [] x = Some x
at_end (b ∷ bs) x = None

-- what follows the status of a lot row: lowest size, first sample, total sample, and the numbers of critical, major and total
unfoldable pub lot_row_in : Status → List ℕ → Option LotRow
lot_row_in s bs =
    then (number_to 9 bs) (λ size bs.
    then (number_to 9 bs) (λ first bs.
    then (number_to 9 bs) (λ both bs.
    then (each_to class_to 10 bs) (λ numbers bs.
    at_end bs (record { status = s; lowest_size = size; first_sample = first; total_sample = both; numbers = numbers })))))

-- what follows the M of a limit row: lowest units, and three limits
unfoldable pub limit_row_in : List ℕ → Option LimitRow
limit_row_in bs =
    then (number_to 9 bs) (λ units bs.
    then (each_to number_to 10 bs) (λ limits bs.
    at_end bs (record { lowest_units = units; limits = limits })))

-- the field is that one letter
abbrev pub is_letter : ℕ → List ℕ → Bool
is_letter x [] = false
is_letter x (b ∷ []) = b == x
is_letter x (b ∷ c ∷ bs) = false

-- what follows the L: a status letter, a tab and the row
abbrev pub lot_in : List ℕ → Option LotRow
lot_in [] = None
lot_in (s ∷ []) = None
lot_in (s ∷ tab ∷ bs) = cond (tab == 9) (option_and_then (λ status. lot_row_in status bs) (status_of s)) None

-- a line begins with L (76) or M (77)
abbrev pub row_of_kind : List ℕ → List ℕ → Option Row
row_of_kind kind bs = cond (is_letter 76 kind) (option_map Lot (lot_in bs)) (cond (is_letter 77 kind) (option_map Limit (limit_row_in bs)) None)

abbrev pub row_of : Piece → Option Row
row_of (fields n kind rest) = row_of_kind kind rest
row_of (bare n text) = None
