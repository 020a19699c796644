-- What a call with a sheet comes to again, by the units of its sample.
use Rattle.std.proofs.Common.{◌≡◌, ℕ, ◌*◌, Bool, true, false, cond, not, leb, List, [], ◌∷◌, is_some, Some, None, Ok, Err, Option, Result, refl, ap, ◌∙◌, arith}
use Rattle.std.specs.Result.{result_ok}
use Rattle.inspection.specs.declared.refusal.Refusal.{Refusal}
use Rattle.inspection.specs.declared.refusal.Refusal.TheVariants.{LotAwaits, NoRoom, LotSizeOutOfRange, BookUnsound, SheetLineNotOfForm}
use Rattle.inspection.specs.declared.tally.Tally.{Tally}
use Rattle.inspection.specs.Tallies.{total_of}
use Rattle.entries.specs.declared.entry.Entry.{Entry}
use Rattle.regimes.specs.Rules.{Rules}
use Rattle.runs.specs.declared.standing.Standing.{Standing}
use Rattle.runs.specs.declared.standing.Taken.{Taken}
use Rattle.runs.specs.History.{first, fault, scored, enter_lot}
use Rattle.runs.specs.Lines.{lot_taken, sample, or_zero}
use Rattle.runs.specs.Runs.{showing}
use Rattle.line.specs.Doing.{units_unless, lot_sample, lot_taken_at}
use Rattle.line.specs.declared.sample.Sample.{Sample}
use Rattle.line.proofs.Sheets.{lot_same}
use Rattle.line.specs.Replaying.{sample_showing, taken_unless, retaken_by}

module _ {C : Type 0} (t : Tally) (K : ℕ → Tally → Taken C) where
  -- as the code finds it
  abbrev pub by_sample : Result ℕ Refusal → Option (Taken C)
  by_sample (Err x) = None
  by_sample (Ok u) = cond (leb (total_of t) (9 * u)) (Some (K u t)) None

  -- a test that refuses the sample refuses the call, and the sheet is looked at last
  sheet_last : (xs : List (Bool × Refusal)) (u : ℕ)
      → by_sample (units_unless (first xs None) u) ≡ taken_unless (first xs (fault (showing t u []))) (K u (scored (showing t u [])))
  sheet_last [] u = by (leb (total_of t) (9 * u))
    where
      by : (b : Bool) → cond b (Some (K u t)) None ≡ taken_unless (fault (cond b (Ok t) (Err (SheetLineNotOfForm 1)))) (K u (scored (cond b (Ok t) (Err (SheetLineNotOfForm 1)))))
      by true = refl
      by false = refl
  sheet_last (x ∷ xs) u = by x.0 (sheet_last xs u)
    where
      by : (b : Bool) → by_sample (units_unless (first xs None) u) ≡ taken_unless (first xs (fault (showing t u []))) (K u (scored (showing t u [])))
          → by_sample (units_unless (cond b (Some x.1) (first xs None)) u) ≡ taken_unless (cond b (Some x.1) (first xs (fault (showing t u [])))) (K u (scored (showing t u [])))
      by true ih = refl
      by false ih = ih

  pub retaken_by_sample : (o : Option ℕ) (xs : List (Bool × Refusal)) (u : ℕ)
      → by_sample (units_unless (elim o [ Some k ↦ Some (BookUnsound k) | None ↦ first xs None ]) u)
      ≡ taken_unless (elim o [ Some k ↦ Some (BookUnsound k) | None ↦ first xs (fault (showing t u [])) ]) (K u (scored (showing t u [])))
  retaken_by_sample (Some k) xs u = refl
  retaken_by_sample None xs u = sheet_last xs u

was_ok : (u : ℕ) (found : Result ℕ Refusal) → Some u ≡ result_ok found → Ok u ≡ found
was_ok u (Ok v) e = let same : u ≡ v = cc in ap {B = Result ℕ Refusal} (λ n. Ok n) same
was_ok u (Err x) e = let z : ◌≡◌ {A = ℕ} 0 1 = cc in absurd (omega arith)

sample_shown : (u : ℕ) (t : Tally) (a : Sample) → Some a ≡ sample_showing u t → (true ≡ leb (total_of t) (9 * u)) × (a ≡ record { units = u; tally = t })
sample_shown u t a = by (leb (total_of t) (9 * u))
  where
    by : (b : Bool) → Some a ≡ cond b (Some (record { units = u; tally = t })) None → (true ≡ b) × (a ≡ record { units = u; tally = t })
    by true e = (refl, cc)
    by false e = let z : ◌≡◌ {A = ℕ} 0 1 = cc in absurd (omega arith)

module _ {C : Type 0} (r : Rules C) (st : Standing C) (es : List Entry) (e : Entry) where
  abbrev lot_with : ℕ → Tally → Taken C
  lot_with u t = lot_taken r e.lot_size u t (r.judged st.status e.lot_size t st.carried) st es

  lot_by_sample : by_sample e.tally lot_with (lot_sample r st 1 e.lot_size) ≡ retaken_by r (Some (enter_lot e.lot_size [])) e st es
  lot_by_sample =
      retaken_by_sample e.tally lot_with st.unsound ((is_some st.waiting, LotAwaits) ∷ (leb 1 0, NoRoom) ∷ (not (is_some (sample r st e.lot_size)), LotSizeOutOfRange) ∷ []) (or_zero (sample r st e.lot_size))

  -- a lot whose sample can show the entry's tally
  pub lot_again : (u : ℕ) (found : Result ℕ Refusal) (a : Sample) (taken : Taken C) → found ≡ lot_sample r st 1 e.lot_size → Some u ≡ result_ok found → Some a ≡ sample_showing u e.tally
      → taken ≡ lot_taken_at r e.lot_size a.units a.tally st es → Some taken ≡ retaken_by r (Some (enter_lot e.lot_size [])) e st es
  lot_again u found a taken sampled units shows came =
      let shown = sample_shown u e.tally a shows in
      ap {B = Option (Taken C)} (λ k. Some k) (came ∙ ap (λ (a : Sample). lot_taken_at r e.lot_size a.units a.tally st es) shown.1 ∙ lot_same r e.lot_size u e.tally (r.judged st.status e.lot_size e.tally st.carried).0 (r.judged st.status e.lot_size e.tally st.carried).1 st es)
      ∙ ap (λ b. cond b (Some (lot_with u e.tally)) None) shown.0
      ∙ ap (by_sample e.tally lot_with) (was_ok u found units ∙ sampled)
      ∙ lot_by_sample
