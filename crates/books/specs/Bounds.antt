-- Every book's entries and room together are at most 9,999,999.
use Rattle.std.specs.Prelude.{◌≡◌, ℕ, ◌+◌, ◌-◌, ◌≤◌, min, cond, List, ◌++◌, length, take, ◌==◌}
use Rattle.std.proofs.Common.{ap, ◌∙◌, subst, arith, length-take, length-append, length-take-le}
use Rattle.std.proofs.lemmas.List.{length-map}
use Rattle.entries.specs.declared.entry.Entry.{Entry}
use Rattle.entries.specs.Entries.{or_spoiled}
use Rattle.books.specs.Stores.{usable, cut, spare, records_read, lines_in, lines_read}
use Rattle.books.specs.Keeping.{length_stored}
use Rattle.books.specs.Volumes.{bound, bound_room}

pub counted_few : (count : ℕ) (es : List Entry) → count ≤ usable (length es) → length (take count es) + spare count (length es) ≤ 9999999
counted_few count es within = omega (arith, length-take-le count es (omega arith))

-- a count that is cut to the places: as many entries as it says, and room for the rest
pub length_cut : (count : ℕ) (es : List Entry) → length (take (cut count (length es)) es) ≡ cut count (length es)
length_cut count es = length-take-le (cut count (length es)) es (omega arith)

pub cut_few : (count : ℕ) (es : List Entry) → length (take (cut count (length es)) es) + spare (cut count (length es)) (length es) ≤ 9999999
cut_few count es = counted_few (cut count (length es)) es (omega arith)

pub length_table : (count : ℕ) (rs : List Entry) → length (take (cut count (length rs)) (records_read rs)) ≡ cut count (length rs)
length_table count rs = subst (λ n. length (take (cut count n) (records_read rs)) ≡ cut count n) (length-map rs or_spoiled) (length_cut count (records_read rs))

pub table_few : (count : ℕ) (rs : List Entry) → length (take (cut count (length rs)) (records_read rs)) + spare (cut count (length rs)) (length rs) ≤ 9999999
table_few count rs = subst (λ n. length (take (cut count n) (records_read rs)) + spare (cut count n) n ≤ 9999999) (length-map rs or_spoiled) (cut_few count (records_read rs))

pub text_few : (count : ℕ) (bs : List ℕ) → length (take (cut count (lines_in bs)) (lines_read bs)) + spare (cut count (lines_in bs)) (lines_in bs) ≤ 9999999
text_few count bs = subst (λ n. length (take (cut count n) (lines_read bs)) + spare (cut count n) n ≤ 9999999) (length_stored (lines_in bs) bs) (cut_few count (lines_read bs))

pub length_bound : (es fs : List Entry) → length (bound es fs) ≡ min 9999999 (length es + length fs)
length_bound es fs = length-take 9999999 (es ++ fs) ∙ ap (min 9999999) (length-append es fs)

room_most : (n m : ℕ) → min n m ≤ m
room_most n m = omega arith

pub bound_few : (es fs : List Entry) (r s : ℕ) → length (bound es fs) + bound_room es fs r s ≤ 9999999
bound_few es fs r s =
    let most = room_most (cond (length fs == 0) (r + s) s) (9999999 - length (bound es fs)) in
    omega (arith, length_bound es fs, most)
