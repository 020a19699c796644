-- The value carried from portion to portion flags exactly the overruns, and the overruns have no other marking.
-- Both go by the first portion: what is left of the stretch is a stretch that starts at the value held after it.
use Rattle.std.proofs.Common.{◌≡◌, ℕ, zero, suc, ◌+◌, ◌-◌, ◌*◌, ◌<◌, ◌≤◌, Bool, true, false, cond, eqb, ltb, ◌↔◌, List, [], ◌∷◌, length, get_or, take, sym, refl, ◌∙◌, ap₂, inl, inr, suc-le-suc, zero-le, le_of_suc-le-suc, not-suc-le-zero, mul-suc, arith}
use lib.Dec.{eqb-suc-zero}
use Rattle.std.proofs.lemmas.Bool.{ltb-true, ltb-false, lt-ltb, true≢false, cases_lt}
use Rattle.std.proofs.lemmas.Bool.Decides.{same_from_decides}
use Rattle.std.proofs.lemmas.List.Sums.{sum_by-cons}
use Rattle.regimes.specs.Portions.{reached, held}
use Rattle.regimes.specs.Rows.{defects, less, RowAbove, Overruns}
use Rattle.regimes.specs.declared.cusum.Cusum.{Cusum}

-- where the value, carried on from v, is above the limit before it is held
abbrev pub flags : Cusum → ℕ → List ℕ → List Bool
flags q v [] = []
flags q v (n ∷ ns) = ltb q.limit (reached q v n) ∷ flags q (held q (reached q v n)) ns

-- the same rule with another starting value; `from q q.start` is `q` by computation
abbrev from : Cusum → ℕ → Cusum
from q v = record { tolerance = q.tolerance; limit = q.limit; start = v }

abbrev Calm : List Bool → ℕ → ℕ → Type 0
Calm over j k = (i : ℕ) → j ≤ i → i < k → get_or over i false ≡ false

-- what is allowed less, added to the other side
abbrev Above : Cusum → List ℕ → List Bool → ℕ → ℕ → Type 0
Above q counts over k j = q.tolerance * (k + 1 - j) + q.limit < 100 * defects counts j (k + 1 - j) + less q over j

abbrev Row : Cusum → List ℕ → List Bool → ℕ → Type 0
Row q counts over k = (j : ℕ) × (j ≤ k) × Calm over j k × Above q counts over k j

abbrev Marking : Cusum → List ℕ → List Bool → Type 0
Marking q counts over = (length over ≡ length counts) × ((k : ℕ) → k < length counts → (get_or over k false ≡ true) ↔ Row q counts over k)

less_suc : (q : Cusum) (over : List Bool) (j : ℕ) → less q over (suc j) ≡ cond (get_or over j false) q.limit 0
less_suc q over j = let e : suc j - 1 ≡ j = omega arith in rw (eqb-suc-zero, e)

defects_zero : (k n : ℕ) (ns : List ℕ) → defects (n ∷ ns) 0 (suc k + 1 - 0) ≡ n + defects ns 0 (k + 1 - 0)
defects_zero k n ns = let e : suc k + 1 - 0 ≡ suc (k + 1 - 0) = omega arith in rw e (sum_by-cons (λ x. x) n (take (k + 1 - 0) ns))

mul_zero : (t k : ℕ) → t * (suc k + 1 - 0) ≡ t * (k + 1 - 0) + t
mul_zero t k = let e : suc k + 1 - 0 ≡ suc (k + 1 - 0) = omega arith in rw (e, mul-suc)

shift : (k j : ℕ) → suc k + 1 - suc j ≡ k + 1 - j
shift k j = omega arith

-- the rows that end at the first portion
first_row : (q : Cusum) (v n : ℕ) (ns : List ℕ) (over : List Bool) → (ltb q.limit (reached q v n) ≡ true) ↔ Row (from q v) (n ∷ ns) over 0
first_row q v n ns over = (
  (λ e. (0, zero-le, (λ i _ h. absurd (not-suc-le-zero h)), omega (arith, ltb-true q.limit (reached q v n) e))),
  (λ r. lt-ltb q.limit (reached q v n) (back r.0 r.1 r.3)),
)
  where
    back : (j : ℕ) → j ≤ 0 → Above (from q v) (n ∷ ns) over 0 j → q.limit < reached q v n
    back zero h a = omega arith
    back (suc j) h a = absurd (not-suc-le-zero h)

-- the rows that end later: those of the rest, which starts at the held value
module _ (q : Cusum) (v n : ℕ) (ns : List ℕ) (bs : List Bool) (k : ℕ) where
  fewer : (b : Bool) → b ≡ ltb q.limit (reached q v n) → (j : ℕ) → j ≤ suc k → Calm (b ∷ bs) j (suc k)
      → Above (from q v) (n ∷ ns) (b ∷ bs) (suc k) j → Row (from q (held q (reached q v n))) ns bs k
  fewer true e zero h calm a = absurd (true≢false (calm 0 zero-le (suc-le-suc zero-le)))
  fewer false e zero h calm a =
      (0, zero-le, (λ i _ hi. calm (suc i) zero-le (suc-le-suc hi)), omega (arith, ltb-false q.limit (reached q v n) (sym e), defects_zero k n ns, mul_zero q.tolerance k))
  fewer true e (suc zero) h calm a =
      (0, zero-le, (λ i _ hi. calm (suc i) (suc-le-suc zero-le) (suc-le-suc hi)), omega (arith, ltb-true q.limit (reached q v n) (sym e), rw (shift k 0, less_suc) at a))
  fewer false e (suc zero) h calm a =
      (0, zero-le, (λ i _ hi. calm (suc i) (suc-le-suc zero-le) (suc-le-suc hi)), omega (arith, rw (shift k 0, less_suc) at a))
  fewer b e (suc (suc j)) h calm a =
      (suc j, le_of_suc-le-suc h, (λ i hj hi. calm (suc i) (suc-le-suc hj) (suc-le-suc hi)), rw less_suc (rw (shift k (suc j), less_suc) at a))

  behind : (b : Bool) (j : ℕ) → Calm bs j k → Calm (b ∷ bs) (suc j) (suc k)
  behind b j calm zero h hi = absurd (not-suc-le-zero h)
  behind b j calm (suc i) h hi = calm i (le_of_suc-le-suc h) (le_of_suc-le-suc hi)

  whole : Calm bs 0 k → Calm (false ∷ bs) 0 (suc k)
  whole calm zero h hi = refl
  whole calm (suc i) h hi = calm i zero-le (le_of_suc-le-suc hi)

  more : (b : Bool) → b ≡ ltb q.limit (reached q v n) → (j : ℕ) → j ≤ k → Calm bs j k
      → Above (from q (held q (reached q v n))) ns bs k j → Row (from q v) (n ∷ ns) (b ∷ bs) (suc k)
  more true e zero h calm a = (1, suc-le-suc zero-le, behind true 0 calm, rw (shift k 0, less_suc) (omega arith))
  more false e zero h calm a =
      elim (cases_lt q.tolerance (v + 100 * n)) [
        | inl l ↦ (0, zero-le, whole calm, omega (arith, defects_zero k n ns, mul_zero q.tolerance k))
        | inr l ↦ (1, suc-le-suc zero-le, behind false 0 calm, rw (shift k 0, less_suc) (omega arith))
      ]
  more b e (suc j) h calm a = (suc (suc j), suc-le-suc h, behind b (suc j) calm, rw (shift k (suc j), less_suc) (rw less_suc at a))

-- a marking is its first flag and a marking of the rest
module _ (q : Cusum) (v n : ℕ) (ns : List ℕ) (b : Bool) (bs : List Bool) where
  head_of : Marking (from q v) (n ∷ ns) (b ∷ bs) → b ≡ ltb q.limit (reached q v n)
  head_of o = same_from_decides b (ltb q.limit (reached q v n)) (o.1 0 (suc-le-suc zero-le)) (first_row q v n ns (b ∷ bs))

  module _ (e : b ≡ ltb q.limit (reached q v n)) where
    later_row : (k : ℕ) → Row (from q v) (n ∷ ns) (b ∷ bs) (suc k) ↔ Row (from q (held q (reached q v n))) ns bs k
    later_row k = (λ r. fewer q v n ns bs k b e r.0 r.1 r.2 r.3, λ r. more q v n ns bs k b e r.0 r.1 r.2 r.3)

    tail_of : Marking (from q v) (n ∷ ns) (b ∷ bs) → Marking (from q (held q (reached q v n))) ns bs
    tail_of o = (omega arith, λ k h. let x = o.1 (suc k) (suc-le-suc h) in (λ t. (later_row k).0 (x.0 t), λ r. x.1 ((later_row k).1 r)))

    joined : Marking (from q (held q (reached q v n))) ns bs → Marking (from q v) (n ∷ ns) (b ∷ bs)
    joined o = (omega arith, place)
      where
        place : (k : ℕ) → k < suc (length ns) → (get_or (b ∷ bs) k false ≡ true) ↔ Row (from q v) (n ∷ ns) (b ∷ bs) k
        place zero h = let x = first_row q v n ns (b ∷ bs) in (λ t. x.0 (sym e ∙ t), λ r. e ∙ x.1 r)
        place (suc k) h = let x = o.1 k (le_of_suc-le-suc h) in (λ t. (later_row k).1 (x.0 t), λ r. x.1 ((later_row k).0 r))

flagged : (q : Cusum) (v : ℕ) (counts : List ℕ) → Marking (from q v) counts (flags q v counts)
flagged q v [] = (refl, λ k h. absurd (not-suc-le-zero h))
flagged q v (n ∷ ns) = joined q v n ns (ltb q.limit (reached q v n)) (flags q (held q (reached q v n)) ns) refl (flagged q (held q (reached q v n)) ns)

same_flags : (q : Cusum) (v : ℕ) (counts : List ℕ) (a : List Bool) → Marking (from q v) counts a → a ≡ flags q v counts
same_flags q v [] [] o = refl
same_flags q v [] (b ∷ bs) o = absurd (omega arith)
same_flags q v (n ∷ ns) [] o = absurd (omega arith)
same_flags q v (n ∷ ns) (b ∷ bs) o =
    let e = head_of q v n ns b bs o in
    ap₂ {C = List Bool} (λ x xs. x ∷ xs) e (same_flags q (held q (reached q v n)) ns bs (tail_of q v n ns b bs e o))

-- the rows of the rule, where the start is within the limit
module _ (q : Cusum) (within : q.start ≤ q.limit) where
  less_within : (over : List Bool) (j : ℕ) → less q over j ≤ q.limit
  less_within over j = by (eqb j 0) (get_or over (j - 1) false)
    where
      by : (a b : Bool) → cond a q.start (cond b q.limit 0) ≤ q.limit
      by true b = within
      by false true = omega arith
      by false false = omega arith

  module _ (counts : List ℕ) (over : List Bool) where
    to_row : (k : ℕ) → RowAbove q counts over k → Row q counts over k
    to_row k r = (r.begins, r.ends, r.no_overrun_before, omega (arith, r.above, less_within over r.begins))

    from_row : (k : ℕ) → Row q counts over k → RowAbove q counts over k
    from_row k r = record { begins = r.0; ends = r.1; no_overrun_before = r.2; above = omega (arith, r.3, less_within over r.0) }

    to_marking : Overruns q counts over → Marking q counts over
    to_marking o = (o.each, λ k h. let x = o.exactly k h in (λ t. to_row k (x.0 t), λ r. x.1 (from_row k r)))

    from_marking : Marking q counts over → Overruns q counts over
    from_marking o = record { each = o.0; exactly = λ k h. let x = o.1 k h in (λ t. from_row k (x.0 t), λ r. x.1 (to_row k r)) }

  pub overruns_by_value : (counts : List ℕ) → Overruns q counts (flags q q.start counts)
  overruns_by_value counts = from_marking counts (flags q q.start counts) (flagged q q.start counts)

  pub marked_by_value : (counts : List ℕ) (over : List Bool) → Overruns q counts over → over ≡ flags q q.start counts
  marked_by_value counts over o = same_flags q q.start counts over (to_marking counts over o)
