-- A line says a defect exactly where it is that defect's line.
use Rattle.std.proofs.Common.{◌≡◌, ℕ, ◌+◌, ◌-◌, ◌^◌, ◌<◌, ◌≤◌, Bool, true, false, cond, ◌&&◌, eqb, ltb, leb, List, [], ◌∷◌, ◌++◌, length, get_or, Some, None, decimal, Option, sym, refl, ap, ◌∙◌, subst, arith}
use native.Mathlib.Nat.{pow-le-pow_right}
use Rattle.std.proofs.lemmas.Fmt.{decimal_digit, decimal-digits_value, digits_decimal, digits_value-decimal, length-decimal-le, first_decimal, decimal_nonempty}
use Rattle.std.proofs.lemmas.Str.Parse.{not_in_digits, digits_value_short}
use Rattle.std.proofs.lemmas.Bool.{and_from, and_parts, eqb-true, ltb-true, leb-true, lt-ltb, le-leb, cond-true}
use Rattle.std.proofs.lemmas.Bool.Decides.{nat_tests}
use Rattle.std.specs.Option.{option_map}
use Rattle.std.specs.Str.Parse.{digits_value}
use Rattle.std.specs.Str.{all_ascii_digits}
use Rattle.decimals.specs.Digits.{digits_form, numeral}
use Rattle.decimals.proofs.Reading.{own}
use Rattle.decimals.proofs.Writing.{read_back as numeral_back}
use Rattle.inspection.proofs.Lettered.{lettered_back}
use Rattle.inspection.specs.Letters.{class_letter, class_of}
use Rattle.inspection.specs.declared.class.DefectClass.{DefectClass}
use Rattle.inspection.specs.declared.class.DefectClass.TheVariants.{Critical, Major, Minor}
use Rattle.worksheet.specs.declared.defect.Defect.{Defect}
use Rattle.texts.specs.Pieces.{Piece, fields, bare, text_of, by_tab, piece}
use Rattle.texts.proofs.Cuts.{parted_field, text_of_piece}
use Rattle.worksheet.specs.Defects.{unit_form, unit_of, tail_form, tail_of, joint, defect_of, written, Keyed}
use Rattle.worksheet.specs.Promises.{ReadsBack}

led_some : (ds : List ℕ) → 0 < get_or ds 0 0 → 0 < length ds
led_some [] h = absurd (omega arith)
led_some (d ∷ ds) h = omega arith

not_zero : (ds : List ℕ) (u : ℕ) → ds ≡ decimal u → 48 < get_or ds 0 0 → 1 ≤ u
not_zero ds u e h = grind (arith, decimal_digit)

-- a unit's digits are what `decimal` writes of it, and the other way
unit_back : (ds : List ℕ) (u : ℕ) → unit_of ds ≡ Some u → (1 ≤ u) × (u ≤ 9999) × (ds ≡ decimal u)
unfolding numeral
unit_back ds u e = by (unit_form ds) refl (digits_form ds) refl e
  where
    by : (t : Bool) → unit_form ds ≡ t → (d : Bool) → digits_form ds ≡ d → cond t (cond d (Some (digits_value 10 ds)) None) None ≡ Some u → (1 ≤ u) × (u ≤ 9999) × (ds ≡ decimal u)
    by false t d f e = cc
    by true t false f e = cc
    by true t true f e =
        let is : digits_value 10 ds ≡ u = cc in
        let led = and_parts (ltb 48 (get_or ds 0 0)) _ t in
        let digits = (and_parts (ltb 0 (length ds) && leb (length ds) 9) (all_ascii_digits ds) f).1 in
        let short = leb-true (length ds) 4 led.1 in
        let first = ltb-true 48 (get_or ds 0 0) led.0 in
        let small = digits_value_short own ds 4 digits short in
        let some = led_some ds (omega arith) in
        let same = decimal-digits_value own ds digits some (λ z. absurd (omega arith)) (omega arith) in
        (not_zero ds u (sym same ∙ ap decimal is) first, omega (arith, is), sym same ∙ ap decimal is)

unit_forth : (u : ℕ) → 1 ≤ u → u ≤ 9999 → unit_of (decimal u) ≡ Some u
unfolding numeral
unit_forth u low high =
    let ds = decimal u in
    let small : u < 2 ^ 64 = omega arith in
    let short = length-decimal-le 4 u (omega arith) (omega arith) small in
    let form : unit_form ds ≡ true = and_from _ _ (lt-ltb 48 (get_or ds 0 0) (first_decimal u (omega arith) small)) (le-leb (length ds) 4 short) in
    let digits : digits_form ds ≡ true = and_from _ _ (and_from _ _ (lt-ltb 0 (length ds) (decimal_nonempty u small)) (le-leb (length ds) 9 (omega arith))) (digits_decimal own u small) in
    cond-true _ _ _ form ∙ cond-true _ _ _ digits ∙ ap Some (digits_value-decimal own u small)

-- a unit fits its width
pub unit_small : (ds : List ℕ) (u : ℕ) → length ds ≤ 4 → Some u ≡ numeral ds → u < 10000
unit_small ds u short e =
    let fits = (numeral_back ds u (sym e)).0 in
    omega (arith, fits, pow-le-pow_right {n = 10} (omega arith) short)

-- a keyed defect's cause is one digit
pub written_keyed : (d : Defect) → Keyed d → decimal d.unit ++ 9 ∷ (48 + d.cause) ∷ 9 ∷ class_letter d.class ∷ 10 ∷ [] ≡ written d
written_keyed d k = grind (arith, decimal_digit)

-- what follows the unit, likewise
abbrev Tail : List ℕ → ℕ × DefectClass → Type 0
Tail r t = (1 ≤ t.0) × (t.0 ≤ 9) × (r ≡ (48 + t.0) ∷ 9 ∷ class_letter t.1 ∷ 10 ∷ [])

tail_back : (r : List ℕ) (t : ℕ × DefectClass) → tail_of r ≡ Some t → Tail r t
tail_back [] t e = cc
tail_back (a ∷ []) t e = cc
tail_back (a ∷ b ∷ []) t e = cc
tail_back (a ∷ b ∷ c ∷ []) t e = cc
tail_back (a ∷ b ∷ c ∷ d ∷ []) t e = by (tail_form a b d) refl (class_of c) refl e
  where
    by : (f : Bool) → tail_form a b d ≡ f → (o : Option DefectClass) → class_of c ≡ o → cond f (option_map (λ k. (a - 48, k)) o) None ≡ Some t → Tail (a ∷ b ∷ c ∷ d ∷ []) t
    by false f o q e = cc
    by true f None q e = cc
    by true f (Some k) q e =
        let same : ◌≡◌ {A = ℕ × DefectClass} (a - 48, k) t = cc in
        let parts = and_parts (ltb 48 a && leb a 57) _ f in
        let cause = and_parts (ltb 48 a) _ parts.0 in
        let marks = and_parts (eqb b 9) _ parts.1 in
        let low = ltb-true 48 a cause.0 in
        let high = leb-true a 57 cause.1 in
        let tab = eqb-true b 9 marks.0 in
        let feed = eqb-true d 10 marks.1 in
        let letter = lettered_back class_letter (Critical ∷ Major ∷ Minor ∷ []) c k q in
        let digit : 48 + (a - 48) ≡ a = omega arith in
        subst (Tail (a ∷ b ∷ c ∷ d ∷ [])) same (omega arith, omega arith, rw (digit, letter, ← tab, ← feed))
tail_back (a ∷ b ∷ c ∷ d ∷ f ∷ bs) t e = cc

class_forth : (k : DefectClass) → class_of (class_letter k) ≡ Some k
class_forth k = grind arith

tail_forth : (n : ℕ) (k : DefectClass) → 1 ≤ n → n ≤ 9 → tail_of ((48 + n) ∷ 9 ∷ class_letter k ∷ 10 ∷ []) ≡ Some (n, k)
tail_forth n k low high = grind (arith, nat_tests, class_forth)

pub piece_back : (p : Piece) (d : Defect) → defect_of p ≡ Some d → Keyed d × (text_of p ≡ written d)
piece_back (bare n text) d e = cc
piece_back (fields n first rest) d e = by (unit_of first) refl (tail_of rest) refl e
  where
    by : (o : Option ℕ) → unit_of first ≡ o → (t : Option (ℕ × DefectClass)) → tail_of rest ≡ t → joint o t ≡ Some d → Keyed d × (first ++ 9 ∷ rest ≡ written d)
    by None u t v e = cc
    by (Some o) u None v e = cc
    by (Some o) u (Some t) v e =
        let same : ◌≡◌ {A = Defect} (record { unit = o; cause = t.0; class = t.1 }) d = cc in
        let unit = unit_back first o u in
        let tail = tail_back rest t v in
        let keyed : Keyed (record { unit = o; cause = t.0; class = t.1 }) = record { unit_least = unit.0; unit_most = unit.1; cause_least = tail.0; cause_most = tail.1 } in
        subst (λ d. Keyed d × (first ++ 9 ∷ rest ≡ written d)) same
        (keyed, ap (λ f. f ++ 9 ∷ rest) unit.2 ∙ ap (λ r. decimal o ++ 9 ∷ r) tail.2 ∙ written_keyed _ keyed)

pub line_forth : (n : ℕ) (d : Defect) → Keyed d → defect_of (piece n (written d)) ≡ Some d
line_forth n d k =
    let small : d.unit < 2 ^ 64 = omega (arith, k.unit_most) in
    let tail = (48 + d.cause) ∷ 9 ∷ class_letter d.class ∷ 10 ∷ [] in
    let free = not_in_digits own (decimal d.unit) 9 (digits_decimal own d.unit small) (λ h. absurd (omega (arith, h.0))) in
    let cut = parted_field (decimal d.unit) tail free in
    ap (λ l. defect_of (piece n l)) (sym (written_keyed d k))
    ∙ ap (λ o. defect_of (by_tab n (decimal d.unit ++ 9 ∷ tail) o)) cut
    ∙ ap (λ o. joint o (tail_of tail)) (unit_forth d.unit k.unit_least k.unit_most)
    ∙ ap (joint (Some d.unit)) (tail_forth d.cause d.class k.cause_least k.cause_most)

pub reads_back : ReadsBack
reads_back n line d = (λ e. let back = piece_back (piece n line) d e in (back.0, sym (text_of_piece n line) ∙ back.1), λ h. ap (λ l. defect_of (piece n l)) h.1 ∙ line_forth n d h.0)
