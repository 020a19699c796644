-- What adding leaves in a counted book.
use Rattle.std.proofs.Common.{◌≡◌, ℕ, ◌+◌, ◌<◌, ◌≤◌, true, List, length, take, set, Some, None, Ok, Option, Result, is_err, refl, ap, ◌∙◌, arith}
use Rattle.std.proofs.lemmas.List.{length-set, take_more_set}
use Rattle.inspection.specs.declared.refusal.Refusal.{Refusal}
use Rattle.entries.specs.declared.entry.Entry.{Entry}
use Rattle.entries.specs.Entries.{writable}
use Rattle.books.specs.Books.{refusal, answered, put, left}
use Rattle.books.specs.Stores.{usable, spare}
use Rattle.books.proofs.Refusing.{taken}

-- the entries and the room that are left, by the answer
pub added : (count k : ℕ) (es fs : List Entry) (e : Entry) (r : Result (Unit {0}) Refusal) → count ≤ usable (length es) → r ≡ answered (refusal (spare count (length es)) e) → (is_err r ≡ true → (k ≡ count) × (fs ≡ es)) → (count < length es → writable e ≡ true → r ≡ Ok tt → (k ≡ count + 1) × (fs ≡ set es count e)) → (take k fs ≡ put (refusal (spare count (length es)) e) (take count es) e) × (spare k (length fs) ≡ left (refusal (spare count (length es)) e) (spare count (length es)))
added count k es fs e r within answer same done = by (refusal (spare count (length es)) e) refl
  where
    by : (o : Option Refusal) → refusal (spare count (length es)) e ≡ o → (take k fs ≡ put o (take count es) e) × (spare k (length fs) ≡ left o (spare count (length es)))
    by (Some x) f =
        let old = same (ap is_err (answer ∙ ap answered f)) in (
          (λ i. take (old.0 i) (old.1 i)),
          (λ i. spare (old.0 i) (length (old.1 i))),
        )
    by None f =
        let fine = taken (spare count (length es)) e f in
        let new = done (omega (arith, fine.0)) fine.1 (answer ∙ ap answered f) in
        let long : length fs ≡ length es = ap length new.1 ∙ length-set es count e in (
          (λ i. take (new.0 i) (new.1 i)) ∙ take_more_set es count e (omega (arith, fine.0)),
          omega (arith, fine.0, long, new.0),
        )
