-- Numbers as decimal digits.
use Rattle.std.specs.Prelude.{◌≡◌, ℕ, zero, suc, ◌+◌, ◌/◌, ◌%◌, ◌^◌, ◌<◌, ◌≤◌, min, Bool, cond, not, ◌&&◌, ◌||◌, List, [], ◌∷◌, ◌++◌, length, Some, None, Option, ◌==◌, nat_le, nat_lt, slice_index}
use Rattle.std.specs.Str.Parse.{digits_value}
use Rattle.std.specs.Str.{all_ascii_digits}

-- one to nine bytes, all of them digits
abbrev pub digits_form : List ℕ → Bool
digits_form ds = (nat_lt 0 (length ds) && nat_le (length ds) 9) && all_ascii_digits ds

-- the number that they write; it stays shut where it is not asked for, so that proofs above stay short
unfoldable pub numeral : List ℕ → Option ℕ
numeral ds = cond (digits_form ds) (Some (digits_value 10 ds)) None

-- there is a first digit, and it is no zero with others after it
abbrev pub led : List ℕ → Bool
led ds = nat_lt 0 (length ds) && (nat_le (length ds) 1 || not (slice_index ds 0 == 48))

-- digits without a leading zero
abbrev pub plain_form : List ℕ → Bool
plain_form ds = led ds && all_ascii_digits ds

-- the number that they write, however many they are
unfoldable pub number : List ℕ → Option ℕ
number ds = cond (plain_form ds) (Some (digits_value 10 ds)) None

-- a number that does not fit 32 bits stands as the largest that does
abbrev pub clipped : ℕ → ℕ
clipped n = min n 4294967295

-- what digits alone write, so far as it fits
abbrev pub all_read : List ℕ → Option ℕ
all_read ds = cond (all_ascii_digits ds) (Some (clipped (digits_value 10 ds))) None

-- the last w digits of n, zeros before it where it has fewer
abbrev pub padded : ℕ → ℕ → List ℕ
padded zero n = []
padded (suc w) n = padded w (n / 10) ++ (48 + n % 10) ∷ []

-- what is written of a number that fits is read as that number
abbrev pub WrittenBack : Type 0
WrittenBack = (w n : ℕ) → 1 ≤ w → w ≤ 9 → n < 10 ^ w → numeral (padded w n) ≡ Some n

-- what is read as a number is what is written of it
abbrev pub ReadBack : Type 0
ReadBack = (ds : List ℕ) (n : ℕ) → numeral ds ≡ Some n → (n < 10 ^ length ds) × (ds ≡ padded (length ds) n)
