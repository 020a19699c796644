-- A number, digit by digit.
use Rattle.std.proofs.Common.{◌≡◌, ℕ, ◌+◌, ◌-◌, ◌*◌, ◌^◌, ◌<◌, ◌≤◌, min, true, List, length, get_or, take, Some, None, Option, sym, ap, ◌∙◌, subst, arith}
use Rattle.std.proofs.lemmas.Int.Digits.{digits_value_more, digits_more}
use Rattle.std.proofs.lemmas.List.{take_all, length-take}
use Rattle.std.proofs.lemmas.Str.Parse.{IsNumeralModel, numerals_by_value, tells_all_ascii_digits, digit_at, digits_value_short}
use Rattle.std.proofs.lemmas.Str.{digit_value_digit}
use Rattle.std.proofs.lemmas.Bool.{cond-true}
use Rattle.std.specs.Char.{digit_value}
use Rattle.std.specs.Str.Parse.{digits_value, AllDigits}
use Rattle.std.specs.Str.{all_ascii_digits}
use Rattle.decimals.specs.Digits.{numeral, all_read, clipped}

pub own : IsNumeralModel (λ ds. all_ascii_digits ds ≡ true) (digits_value 10)
own = numerals_by_value _ tells_all_ascii_digits

-- n is the number that the first i bytes write, as far as it fits
pub record SoFar (ds : List ℕ) (i n : ℕ) : Type 0 where
  pub digits : AllDigits 10 (take i ds)
  pub reads : n ≡ clipped (digits_value 10 (take i ds))

-- one digit more; what does not fit stays so
clip_more : (v d n m r : ℕ) → n ≡ clipped v → m ≡ min (n * 10) (2 ^ 32 - 1) → r ≡ min (m + d) (2 ^ 32 - 1) → r ≡ clipped (v * 10 + d)
clip_more v d n m r e f g = omega (arith, e, f, g)

pub so_far_more : (ds : List ℕ) (i d n m r : ℕ) → i < length ds → digit_value (get_or ds i 0) < 10 → d ≡ digit_value (get_or ds i 0) → SoFar ds i n → m ≡ min (n * 10) (2 ^ 32 - 1) → r ≡ min (m + d) (2 ^ 32 - 1) → SoFar ds (i + 1) r
so_far_more ds i d n m r lt digit is s e f =
    record {
      digits = digits_more 10 ds i lt s.digits digit;
      reads = clip_more (digits_value 10 (take i ds)) d n m r s.reads e f ∙ ap clipped (omega (arith, is, digits_value_more 10 ds i lt));
    }

-- another byte than a digit stands among them
pub none_read : (ds : List ℕ) (i : ℕ) → i < length ds → (digit_value (get_or ds i 0) < 10 → ⊥) → None ≡ all_read ds
none_read ds i lt other = grind (arith, digit_at, own.to ds, digit_value_digit)

pub whole_read : (ds : List ℕ) (i n : ℕ) → SoFar ds i n → length ds ≤ i → Some n ≡ all_read ds
whole_read ds i n r done =
    let all = take_all i ds done in
    let form : all_ascii_digits ds ≡ true = own.from ds (subst (AllDigits 10) all r.digits) in
    ap Some (r.reads ∙ ap (λ l. clipped (digits_value 10 l)) all) ∙ sym (cond-true (all_ascii_digits ds) (Some (clipped (digits_value 10 ds))) None form)

-- fewer than nine digits leave room for one more
pub read_small : (ds : List ℕ) (i n : ℕ) → SoFar ds i n → i < length ds → length ds ≤ 9 → n < 100000000
read_small ds i n r lt few =
    let short : length (take i ds) ≤ 8 = simp length-take (omega arith) in
    omega (arith, digits_value_short own (take i ds) 8 (own.from _ r.digits) short, r.reads)

pub small_more : (ds : List ℕ) (i d n : ℕ) → i < length ds → length ds ≤ 9 → digit_value (get_or ds i 0) < 10 → d ≡ digit_value (get_or ds i 0) → SoFar ds i n → SoFar ds (i + 1) (n * 10 + d)
small_more ds i d n lt few digit is s =
    let small = read_small ds i n s lt few in
    so_far_more ds i d n (n * 10) (n * 10 + d) lt digit is s (omega (arith, small)) (omega (arith, small))

-- nine digits fit
pub nine_fit : (ds : List ℕ) → all_ascii_digits ds ≡ true → length ds ≤ 9 → clipped (digits_value 10 ds) ≡ digits_value 10 ds
nine_fit ds form few = omega (arith, digits_value_short own ds 9 form few)

-- of one to nine bytes it is the number that they write
pub few_read : (ds : List ℕ) (o : Option ℕ) → o ≡ all_read ds → 0 < length ds → length ds ≤ 9 → o ≡ numeral ds
unfolding numeral
few_read ds o e some few = grind (arith, nine_fit)
