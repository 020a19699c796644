-- Digits as they are written.
use Rattle.std.proofs.Common.{◌≡◌, ℕ, zero, suc, ◌+◌, ◌*◌, ◌/◌, ◌%◌, ◌^◌, ◌<◌, ◌≤◌, Bool, true, false, cond, ◌&&◌, ltb, leb, List, [], ◌∷◌, ◌++◌, length, get_or, take, Some, None, sym, refl, ap, ◌∙◌, subst, mod-lt, pow-suc, add-one, arith}
use native.Mathlib.Nat.{div-add-mod}
use Rattle.std.proofs.lemmas.Int.Digits.{digits_value_push, digits_value_more, digits_value-lt, digits_push}
use Rattle.std.proofs.lemmas.List.{take_all, take_more, length-append}
use Rattle.std.proofs.lemmas.Str.Parse.{digit_at}
use Rattle.std.proofs.lemmas.Bool.{and_from, and_parts, lt-ltb, le-leb, cond-true}
use Rattle.std.proofs.lemmas.Str.{digit_value_digit}
use Rattle.std.specs.Str.Parse.{digits_value, AllDigits}
use Rattle.std.specs.Char.{digit_value}
use Rattle.std.specs.Str.{all_ascii_digits}
use Rattle.decimals.specs.Digits.{digits_form, numeral, padded, WrittenBack, ReadBack}
use Rattle.decimals.proofs.Reading.{own}

pub length_padded : (w n : ℕ) → length (padded w n) ≡ w
length_padded zero n = refl
length_padded (suc w) n = length-append (padded w (n / 10)) _ ∙ omega (arith, length_padded w (n / 10))

digit_of : (d : ℕ) → d < 10 → digit_value (48 + d) ≡ d
digit_of d lt = omega (arith, digit_value_digit (48 + d) (omega arith, omega arith))

digits_padded : (w n : ℕ) → AllDigits 10 (padded w n)
digits_padded zero n = tt
digits_padded (suc w) n =
    let low = mod-lt n {m = 10} (omega arith) in
    digits_push 10 (padded w (n / 10)) (48 + n % 10) (digits_padded w (n / 10)) (omega (arith, digit_of (n % 10) low))

value_padded : (w n : ℕ) → n < 10 ^ w → digits_value 10 (padded w n) ≡ n
value_padded zero n lt = omega arith
value_padded (suc w) n lt =
    let low = mod-lt n {m = 10} (omega arith) in
    let whole = div-add-mod n 10 in
    let front = value_padded w (n / 10) (omega (arith, pow-suc 10 w)) in
    omega (arith, digits_value_push 10 (padded w (n / 10)) (48 + n % 10), digit_of (n % 10) low, front)

pub written_back : WrittenBack
unfolding numeral
written_back w n some few lt =
    let long = length_padded w n in
    let form : digits_form (padded w n) ≡ true = and_from _ _ (and_from _ _ (lt-ltb 0 (length (padded w n)) (omega arith)) (le-leb (length (padded w n)) 9 (omega arith))) (own.from _ (digits_padded w n)) in
    cond-true _ _ _ form ∙ ap Some (value_padded w n lt)

-- the first i digits are what is written of the number that they write
padded_front : (ds : List ℕ) → AllDigits 10 ds → (i : ℕ) → i ≤ length ds → padded i (digits_value 10 (take i ds)) ≡ take i ds
padded_front ds d zero le = refl
padded_front ds d (suc i) le =
    let lt : i < length ds = omega arith in
    let digit = digit_at ds i d lt in
    let is = digit_value_digit (get_or ds i 0) digit in
    let v = digits_value 10 (take i ds) in
    let more : digits_value 10 (take (suc i) ds) ≡ v * 10 + digit_value (get_or ds i 0) = subst (λ k. digits_value 10 (take k ds) ≡ v * 10 + digit_value (get_or ds i 0)) (add-one i) (digits_value_more 10 ds i lt) in
    let whole = div-add-mod (digits_value 10 (take (suc i) ds)) 10 in
    let low = mod-lt (digits_value 10 (take (suc i) ds)) {m = 10} (omega arith) in
    let front : digits_value 10 (take (suc i) ds) / 10 ≡ v = omega (arith, digit.1) in
    let last : 48 + digits_value 10 (take (suc i) ds) % 10 ≡ get_or ds i 0 = omega (arith, digit.1) in
    (λ j. padded i (front j) ++ last j ∷ [])
    ∙ ap (λ l. l ++ get_or ds i 0 ∷ []) (padded_front ds d i (omega arith))
    ∙ sym (subst (λ k. take k ds ≡ take i ds ++ get_or ds i 0 ∷ []) (add-one i) (take_more ds i 0 lt))

pub read_back : ReadBack
unfolding numeral
read_back ds n e = by (digits_form ds) refl e
  where
    by : (t : Bool) → digits_form ds ≡ t → cond t (Some (digits_value 10 ds)) None ≡ Some n → (n < 10 ^ length ds) × (ds ≡ padded (length ds) n)
    by false t e = cc
    by true t e =
        let is : digits_value 10 ds ≡ n = cc in
        let digits = own.to ds (and_parts (ltb 0 (length ds) && leb (length ds) 9) (all_ascii_digits ds) t).1 in
        let all = take_all (length ds) ds (omega arith) in
        (omega (arith, digits_value-lt 10 ds digits, is), sym (ap (padded (length ds)) (sym is ∙ ap (digits_value 10) (sym all)) ∙ padded_front ds digits (length ds) (omega arith) ∙ all))
