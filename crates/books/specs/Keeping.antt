-- Writing an entry into a place changes what stands there and nothing else.
use Rattle.std.proofs.Common.{◌≡◌, ℕ, zero, suc, ◌+◌, ◌*◌, ◌/◌, ◌<◌, ◌≤◌, true, List, ◌∷◌, ◌++◌, map, length, get_or, take, drop, set, sym, refl, ap, ◌∙◌, arith}
use native.Mathlib.Nat.{div-add-mod}
use Rattle.std.proofs.lemmas.List.{length-append, length-drop, length-take-le, take_at, drop_at, take-take, take-append-le, drop-append-le, drop-take, drop-drop, map-set}
use Rattle.std.proofs.lemmas.Bool.{cond-true}
use Rattle.entries.specs.declared.entry.Entry.{Entry}
use Rattle.entries.specs.Entries.{writable, spoiled, or_spoiled}
use Rattle.entries.specs.Lines.{line_of, entry_in}
use Rattle.entries.proofs.Backs.{reads_back, long}
use Rattle.books.specs.Stores.{records_read, lines_in, stored, lines_read, record_after, line_after}

pub record_kept : (i : ℕ) (e : Entry) (rs qs : List Entry) → writable e ≡ true → qs ≡ record_after i e rs → records_read qs ≡ set (records_read rs) i e
record_kept i e rs qs w is = ap (map or_spoiled) is ∙ map-set or_spoiled rs i e ∙ ap (set (map or_spoiled rs) i) (cond-true (writable e) e spoiled w)

pub length_stored : (n : ℕ) (bs : List ℕ) → length (stored n bs) ≡ n
length_stored zero bs = refl
length_stored (suc n) bs = ap suc (length_stored n (drop 37 bs))

pub stored_at : (n i : ℕ) (bs : List ℕ) (d : Entry) → i < n → get_or (stored n bs) i d ≡ entry_in (take 37 (drop (i * 37) bs))
stored_at zero i bs d lt = absurd (omega arith)
stored_at (suc n) zero bs d lt = refl
stored_at (suc n) (suc i) bs d lt =
    let back : 37 + i * 37 ≡ suc i * 37 = omega arith in
    stored_at n i (drop 37 bs) d (omega arith) ∙ ap (λ l. entry_in (take 37 l)) (drop-drop (i * 37) 37 bs ∙ ap (λ k. drop k bs) back)

-- 37 bytes written into a place
stored_set : (n i : ℕ) (ls bs : List ℕ) → length ls ≡ 37 → i < n → n * 37 ≤ length bs → stored n (take (i * 37) bs ++ (ls ++ drop (i * 37 + 37) bs)) ≡ set (stored n bs) i (entry_in ls)
stored_set zero i ls bs long lt fits = absurd (omega arith)
stored_set (suc n) zero ls bs long lt fits = (λ j. entry_in (take_at ls (drop 37 bs) 37 long j) ∷ stored n (drop_at ls (drop 37 bs) 37 long j))
stored_set (suc n) (suc i) ls bs long lt fits =
    let at = i * 37 in
    let rest = drop 37 bs in
    let further : suc i * 37 ≡ 37 + at = omega arith in
    let after : suc i * 37 + 37 ≡ 37 + (at + 37) = omega arith in
    let front = take (37 + at) bs in
    let reaches : 37 ≤ length front = omega (arith, length-take-le (37 + at) bs (omega arith)) in
    let back = ls ++ drop (at + 37) rest in
    let here : take 37 (front ++ back) ≡ take 37 bs = take-append-le 37 front back reaches ∙ take-take 37 (37 + at) bs (omega arith) in
    let there : drop 37 (front ++ back) ≡ take at rest ++ back = drop-append-le 37 front back reaches ∙ ap (λ l. l ++ back) (drop-take 37 at bs) in
    ap (λ l. stored (suc n) l) ((λ j. take (further j) bs ++ (ls ++ drop (after j) bs)) ∙ ap (λ l. front ++ (ls ++ l)) (sym (drop-drop (at + 37) 37 bs)))
    ∙ (λ j. entry_in (here j) ∷ stored n (there j))
    ∙ ap (λ l. entry_in (take 37 bs) ∷ l) (stored_set n i ls rest long (omega arith) (omega (arith, length-drop 37 bs)))

pub line_kept : (i : ℕ) (e : Entry) (bs cs : List ℕ) → i < length (lines_read bs) → writable e ≡ true → cs ≡ line_after i e bs → lines_read cs ≡ set (lines_read bs) i e
line_kept i e bs cs within w is =
    let n = lines_in bs in
    let lt : i < n = omega (arith, length_stored n bs) in
    let whole = div-add-mod (length bs) 37 in
    let fits : n * 37 ≤ length bs = omega arith in
    let same : length cs ≡ length bs = ap length is ∙ length-append (take (i * 37) bs) (line_of e ++ drop (i * 37 + 37) bs) ∙ omega (arith, length-append (line_of e) (drop (i * 37 + 37) bs), long e, length-take-le (i * 37) bs (omega arith), length-drop (i * 37 + 37) bs) in
    (λ j. stored (same j / 37) (is j))
    ∙ stored_set n i (line_of e) bs (long e) lt fits
    ∙ ap (set (stored n bs) i) (reads_back e w)
