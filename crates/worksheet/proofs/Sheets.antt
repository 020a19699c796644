-- A sheet for every tally: its defects stand at the first places of the sample, nine to a unit.
use Rattle.std.proofs.Common.{◌≡◌, ℕ, zero, suc, ◌+◌, ◌*◌, ◌/◌, ◌%◌, ◌^◌, ◌<◌, ◌≤◌, false, eqb, ◌⊎◌, List, [], ◌∷◌, ◌++◌, length, replicate, Some, Ok, decimal, sym, refl, ap, ◌∙◌, append_assoc, mod-lt, arith}
use native.Mathlib.Nat.{div-add-mod}
use Rattle.std.proofs.lemmas.Fmt.{digits_decimal}
use Rattle.std.proofs.lemmas.List.{length-append, length-replicate}
use Rattle.std.proofs.lemmas.Str.Parse.{not_in_digits}
use Rattle.std.proofs.lemmas.Bool.{cond-false}
use Rattle.std.specs.List.{flat_map}
use Rattle.std.proofs.lemmas.Bool.Decides.{nat_tests}
use Rattle.inspection.specs.Letters.{class_letter}
use Rattle.inspection.specs.Tallies.{total_of}
use Rattle.inspection.specs.declared.class.DefectClass.{DefectClass}
use Rattle.inspection.specs.declared.class.DefectClass.TheVariants.{Critical, Major, Minor}
use Rattle.inspection.specs.declared.tally.Tally.{Tally}
use Rattle.worksheet.specs.declared.defect.Defect.{Defect}
use Rattle.worksheet.specs.declared.scoring.Running.{Running}
use Rattle.texts.specs.Pieces.{Piece, piece, after}
use Rattle.texts.specs.Texts.{lines}
use Rattle.texts.proofs.Cuts.{lines_over}
use Rattle.worksheet.specs.Defects.{Keyed, written, related, falls, defect_of}
use Rattle.worksheet.specs.Promises.{SomeSheetShows}
use Rattle.worksheet.specs.Running.{counted, entered}
use Rattle.worksheet.specs.Scores.{falls_after}
use Rattle.worksheet.proofs.Going.{going, start, goes_whole}
use Rattle.decimals.proofs.Reading.{own}
use Rattle.worksheet.proofs.Tallying.{clean}
use Rattle.worksheet.proofs.Written.{line_forth, written_keyed}

letter_no_feed : (c : DefectClass) → eqb (class_letter c) 10 ≡ false
letter_no_feed c = grind arith

abbrev ending : Defect → List ℕ
ending d = 9 ∷ (48 + d.cause) ∷ 9 ∷ class_letter d.class ∷ 10 ∷ []

lines_ending : (d : Defect) (rest : List ℕ) → lines (ending d ++ rest) ≡ ending d ∷ lines rest
lines_ending d rest = grind (arith, nat_tests, letter_no_feed)

lines_written : (d : Defect) (rest : List ℕ) → Keyed d → lines (written d ++ rest) ≡ written d ∷ lines rest
lines_written d rest k =
    let small : d.unit < 2 ^ 64 = omega (arith, k.unit_most) in
    let free = not_in_digits own (decimal d.unit) 10 (digits_decimal own d.unit small) (λ h. absurd (omega (arith, h.0))) in
    let form = written_keyed d k in
    ap (λ l. lines (l ++ rest)) (sym form)
    ∙ ap lines (append_assoc (decimal d.unit) (ending d) rest)
    ∙ lines_over (decimal d.unit) (ending d ++ rest) (ending d) (lines rest) free (lines_ending d rest)
    ∙ ap (λ l. l ∷ lines rest) form

-- the defect at a place of the sample
abbrev at_place : ℕ → DefectClass → Defect
at_place k c = record { unit = k / 9 + 1; cause = k % 9 + 1; class = c }

keyed_at : (units k : ℕ) (c : DefectClass) → units ≤ 9999 → k < 9 * units → Keyed (at_place k c)
keyed_at units k c few lt =
    let low = mod-lt k {m = 9} (omega arith) in
    let whole = div-add-mod k 9 in
    record { unit_least = omega arith; unit_most = omega arith; cause_least = omega arith; cause_most = omega arith }

within : (units k : ℕ) (c : DefectClass) → k < 9 * units → (at_place k c).unit ≤ units
within units k c lt = grind (arith, div-add-mod)

-- the next place neither falls nor is related
next_rises : (k : ℕ) → (k / 9 < (k + 1) / 9) ⊎ ((k / 9 ≡ (k + 1) / 9) × (k % 9 < (k + 1) % 9))
next_rises k = grind (arith, div-add-mod, mod-lt)

not_falling : (k : ℕ) (a b : DefectClass) → falls (at_place (k + 1) b) (at_place k a) ≡ false
not_falling k a b = grind (arith, nat_tests, next_rises k)

not_related : (k : ℕ) (a b : DefectClass) → related (at_place k a) (at_place (k + 1) b) ≡ false
not_related k a b = grind (arith, nat_tests, next_rises k)

-- defects of these classes, one place after another
abbrev row : ℕ → List DefectClass → List Defect
row k [] = []
row k (c ∷ cs) = at_place k c ∷ row (k + 1) cs

abbrev counts : Tally → List DefectClass → Tally
counts t [] = t
counts t (c ∷ cs) = counts (counted t c) cs

-- what is left of the sheet after the place k
abbrev left : ℕ → ℕ → List DefectClass → List Piece
left n k cs = after n (lines (flat_map written (row k cs)))

left_more : (units n k : ℕ) (c : DefectClass) (cs : List DefectClass) → units ≤ 9999 → k < 9 * units → left n k (c ∷ cs) ≡ piece (n + 1) (written (at_place k c)) ∷ left (n + 1) (k + 1) cs
left_more units n k c cs few lt = ap (after n) (lines_written (at_place k c) (flat_map written (row (k + 1) cs)) (keyed_at units k c few lt))

-- a line that says d and has no fault
step : (units : ℕ) (s : Running) (p : Piece) (ps : List Piece) (d : Defect) → defect_of p ≡ Some d → d.unit ≤ units → falls_after s.last d ≡ false → going units s (p ∷ ps) ≡ going units (entered s.tally s.last d) ps
step units s p ps d says inside on = grind (arith, nat_tests)

go_row : (units n k : ℕ) (t : Tally) (c : DefectClass) (cs : List DefectClass) → units ≤ 9999 → k + 1 + length cs ≤ 9 * units → going units (record { tally = t; last = Some (at_place k c) }) (left n (k + 1) cs) ≡ Ok (counts (counted t c) cs)
go_row units n k t c [] few lt = refl
go_row units n k t c (x ∷ cs) few lt =
    let d = at_place (k + 1) x in
    let inside : k + 1 < 9 * units = omega arith in
    ap (going units (record { tally = t; last = Some (at_place k c) })) (left_more units n (k + 1) x cs few inside)
    ∙ step units (record { tally = t; last = Some (at_place k c) }) (piece (n + 1) (written d)) (left (n + 1) (k + 1 + 1) cs) d (line_forth (n + 1) d (keyed_at units (k + 1) x few inside)) (within units (k + 1) x inside) (not_falling k c x)
    ∙ ap (λ s. going units s (left (n + 1) (k + 1 + 1) cs)) (cond-false _ _ _ (not_related k c x))
    ∙ go_row units (n + 1) (k + 1) (counted t c) x cs few (omega arith)

go_rows : (units : ℕ) (cs : List DefectClass) → units ≤ 9999 → length cs ≤ 9 * units → going units start (left 0 0 cs) ≡ Ok (counts clean cs)
go_rows units [] few lt = refl
go_rows units (x ∷ cs) few lt =
    let d = at_place 0 x in
    let inside : 0 < 9 * units = omega arith in
    ap (going units start) (left_more units 0 0 x cs few inside)
    ∙ step units start (piece 1 (written d)) (left 1 1 cs) d (line_forth 1 d (keyed_at units 0 x few inside)) (within units 0 x inside) refl
    ∙ go_row units 1 0 clean x cs few (omega arith)

-- the classes of a tally
counts_append : (t : Tally) (xs ys : List DefectClass) → counts t (xs ++ ys) ≡ counts (counts t xs) ys
counts_append t [] ys = refl
counts_append t (x ∷ xs) ys = counts_append (counted t x) xs ys

abbrev bag : Tally → List DefectClass
bag t = replicate t.critical Critical ++ (replicate t.major Major ++ replicate t.minor Minor)

many_critical : (n a b c : ℕ) → counts (record { critical = a; major = b; minor = c }) (replicate n Critical) ≡ record { critical = a + n; major = b; minor = c }
many_critical zero a b c = ap (λ m. record { critical = m; major = b; minor = c }) (omega arith)
many_critical (suc n) a b c = many_critical n (a + 1) b c ∙ ap (λ m. record { critical = m; major = b; minor = c }) (omega arith)

many_major : (n a b c : ℕ) → counts (record { critical = a; major = b; minor = c }) (replicate n Major) ≡ record { critical = a; major = b + n; minor = c }
many_major zero a b c = ap (λ m. record { critical = a; major = m; minor = c }) (omega arith)
many_major (suc n) a b c = many_major n a (b + 1) c ∙ ap (λ m. record { critical = a; major = m; minor = c }) (omega arith)

many_minor : (n a b c : ℕ) → counts (record { critical = a; major = b; minor = c }) (replicate n Minor) ≡ record { critical = a; major = b; minor = c + n }
many_minor zero a b c = ap (λ m. record { critical = a; major = b; minor = m }) (omega arith)
many_minor (suc n) a b c = many_minor n a b (c + 1) ∙ ap (λ m. record { critical = a; major = b; minor = m }) (omega arith)

bag_counts : (t : Tally) → counts clean (bag t) ≡ t
bag_counts t = grind (arith, counts_append, many_critical, many_major, many_minor)

bag_length : (t : Tally) → length (bag t) ≡ total_of t
bag_length t = simp (length-append, length-replicate) (omega arith)

pub some_sheet_shows : SomeSheetShows
some_sheet_shows units t few lt =
    (flat_map written (row 0 (bag t)), sym (goes_whole units (left 0 0 (bag t))) ∙ go_rows units (bag t) few (omega (arith, bag_length t)) ∙ ap Ok (bag_counts t))
