-- What a line writes fits the fields of an entry: its samples are small, and a sheet has at most nine defects to a unit.
use Rattle.std.proofs.Common.{◌≡◌, ℕ, ◌-◌, ◌*◌, ◌≤◌, Bool, true, false, cond, not, ◌&&◌, leb, List, is_some as option_is_some, IfSome, IfOk, Some, None, vec_items, Option, Result, sym, refl, ap, ◌∙◌, subst, arith}
use Rattle.std.proofs.lemmas.Bool.{leb-true, le-leb, and_parts, and_from}
use Rattle.inspection.specs.declared.kind.Kind.{Kind}
use Rattle.inspection.specs.declared.kind.Kind.TheVariants as kind
use Rattle.inspection.specs.declared.refusal.Refusal.{Refusal}
use Rattle.inspection.specs.declared.refusal.Refusal.TheVariants.{NoPeriodOpen, LotAwaits, NoLotAwaits, LotSizeOutOfRange, NoRoom, BookUnsound}
use Rattle.inspection.specs.declared.status.Status.{Status}
use Rattle.inspection.specs.declared.status.Status.TheVariants.{Normal, Tightened, Reduced}
use Rattle.inspection.specs.declared.tally.Tally.{Tally}
use Rattle.inspection.specs.declared.verdict.Verdict.{Verdict}
use Rattle.inspection.specs.Tallies.{total_of}
use Rattle.entries.specs.declared.entry.Entry.{Entry}
use Rattle.entries.specs.Entries.{fits_fields, writable}
use Rattle.plans.specs.declared.plan_book.PlanBook.{PlanBook}
use Rattle.plans.specs.declared.rows.LotRow.{LotRow}
use Rattle.plans.specs.Finding.{row_fits, row_for}
use Rattle.plans.specs.Plans.{lot_row_kept, samples_kept, in_width}
use Rattle.plans.proofs.Found.{last_kept, rows_kept}
use Rattle.worksheet.proofs.Going.{score_few}
use Rattle.worksheet.proofs.Sheets.{some_sheet_shows}
use Rattle.inspection.specs.declared.class.JudgedClass.TheVariants.{Total}
use Rattle.inspection.specs.Classes.{count_of}
use Rattle.regimes.specs.Lots.{row_of_lot, lot_units}
use Rattle.regimes.specs.Portions.{portion_units, on_line_rules}
use Rattle.regimes.specs.Rules.{Rules}
use Rattle.runs.specs.declared.standing.Standing.{Standing}
use Rattle.runs.specs.History.{Call, open_period, enter_portion, end_period, enter_lot, enter_second, hand_in, reissue, grant_relief, report_irregular, fault, scored}
use Rattle.runs.specs.Lines.{or_zero, due_size, has_slip, sample, refuses_sound, refuses}
use Rattle.runs.specs.Runs.{ServedBy, Bounded}
use Rattle.runs.specs.Writing.{sheet_score, plan_rules, WritesOnlyWritable, WritesWritable, ScoresBounded, SheetsShow}
use Rattle.runs.proofs.Small.{passes, is_some, scored_ok}

same_inside : {A : Type 0} (x y : A) → ◌≡◌ {A = Option A} (Some x) (Some y) → x ≡ y
same_inside x y e = cc

nothing_inside : {A B : Type 0} (x : A) → ◌≡◌ {A = Option A} None (Some x) → B
nothing_inside x e = let z : ◌≡◌ {A = ℕ} 0 1 = cc in absurd (omega arith)

is_writable : (x e : Entry) → ◌≡◌ {A = Option Entry} (Some x) (Some e) → writable x ≡ true → writable e ≡ true
is_writable x e q w = ap writable (sym (same_inside x e q)) ∙ w

-- numbers of so many digits
fits : (k : Kind) (s : Status) (v : Verdict) (z u : ℕ) (t : Tally) → z ≤ 9999999 → u ≤ 9999 → count_of Total t ≤ 9 * u → fits_fields (record { kind = k; status = s; verdict = v; lot_size = z; units = u; tally = t }) ≡ true
fits k s v z u t hz hu ht =
    and_from _ _ (and_from _ _ (and_from _ _ (and_from _ _ (le-leb z 9999999 hz) (le-leb u 9999 hu)) (le-leb t.critical 99999 (omega arith))) (le-leb t.major 99999 (omega arith))) (le-leb t.minor 99999 (omega arith))

-- the refusals of a sample that is taken
passes_sample : (q m p : Bool) (x y z : Refusal) (o : Option Refusal) → cond q (Some x) (cond m (Some y) (cond p (Some z) o)) ≡ None → (p ≡ false) × (o ≡ None)
passes_sample q m p x y z o e = passes p z o (passes m y _ (passes q x _ e).1).1

module _ {C : Type 0} (r : Rules C) (score : ℕ → List ℕ → Result Tally Refusal) (bounded : Bounded score) (few : (s : Status) (z : ℕ) (c : C) (u : ℕ) → r.units s z c ≡ Some u → u ≤ 9999) (low : (s : Status) (z : ℕ) (c : C) (u : ℕ) → r.portions ≡ false → r.units s z c ≡ Some u → z ≤ 9999999) where
  on_sound : (c : Call) (st : Standing C) (es : List Entry) (n : ℕ) → refuses r score c st es n ≡ None → refuses_sound r score c st es n ≡ None
  on_sound c st es n = at st.unsound
    where
      at : (o : Option ℕ) → (let y : Option Refusal = elim o [ Some k ↦ Some (BookUnsound k) | None ↦ refuses_sound r score c st es n ] in y) ≡ None → refuses_sound r score c st es n ≡ None
      at None e = e
      at (Some k) e = nothing_inside (BookUnsound k) (sym e)

  -- the units and the tally of a sample that is taken
  units_few : (st : Standing C) (z : ℕ) → not (option_is_some (sample r st z)) ≡ false → or_zero (sample r st z) ≤ 9999
  units_few st z f =
      let u = is_some (sample r st z) f in
      subst (λ o. or_zero o ≤ 9999) (sym u.1) (few st.status z st.carried u.0 u.1)

  size_low : (st : Standing C) (z : ℕ) → r.portions ≡ false → not (option_is_some (sample r st z)) ≡ false → z ≤ 9999999
  size_low st z p f = let u = is_some (sample r st z) f in low st.status z st.carried u.0 p u.1

  tally_few : (u : ℕ) (b : List ℕ) → fault (score u b) ≡ None → count_of Total (scored (score u b)) ≤ 9 * u
  tally_few u b f = bounded u b (scored (score u b)) (scored_ok (score u b) f)

  for_lots : (q : Bool) (c : Call) → (ServedBy true c → ⊥) → ServedBy q c → q ≡ false
  for_lots true c n sv = absurd (n sv)
  for_lots false c n sv = refl

  pub writes_only : WritesOnlyWritable r score
  writes_only open_period st es n e sv er ew = is_writable _ e ew refl
  writes_only (enter_portion b) st es n e sv er ew =
      let u = or_zero (sample r st 0) in
      let t = scored (score u b) in
      let p = passes_sample (not (option_is_some st.period)) (leb n 0) (not (option_is_some (sample r st 0))) NoPeriodOpen NoRoom LotSizeOutOfRange (fault (score u b)) (on_sound (enter_portion b) st es n er) in
      is_writable _ e ew (fits kind.Portion st.status (r.judged st.status 0 t st.carried).0 0 u t (omega arith) (units_few st 0 p.0) (tally_few u b p.1))
  writes_only end_period st es n e sv er ew = is_writable _ e ew refl
  writes_only (enter_lot z b) st es n e sv er ew =
      let u = or_zero (sample r st z) in
      let t = scored (score u b) in
      let p = passes_sample (option_is_some st.waiting) (leb n 0) (not (option_is_some (sample r st z))) LotAwaits NoRoom LotSizeOutOfRange (fault (score u b)) (on_sound (enter_lot z b) st es n er) in
      is_writable _ e ew (fits kind.Lot st.status (r.judged st.status z t st.carried).0 z u t (size_low st z (for_lots r.portions (enter_lot z b) (λ x. x) sv) p.0) (units_few st z p.0) (tally_few u b p.1))
  writes_only (enter_second k b) st es n e sv er ew =
      let z = due_size st.waiting in
      let u = or_zero (sample r st z) in
      let t = scored (score u b) in
      let p = passes_sample (not (has_slip k st.waiting)) (leb n 0) (not (option_is_some (sample r st z))) NoLotAwaits NoRoom LotSizeOutOfRange (fault (score u b)) (on_sound (enter_second k b) st es n er) in
      is_writable _ e ew (fits kind.SecondSample st.status (r.judged st.status z t st.carried).0 z u t (size_low st z (for_lots r.portions (enter_second k b) (λ x. x) sv) p.0) (units_few st z p.0) (tally_few u b p.1))
  writes_only (hand_in k) st es n e sv er ew = nothing_inside e ew
  writes_only reissue st es n e sv er ew = nothing_inside e ew
  writes_only grant_relief st es n e sv er ew = is_writable _ e ew refl
  writes_only report_irregular st es n e sv er ew = is_writable _ e ew refl

pub scores_bounded : ScoresBounded
scores_bounded u b t e = subst (λ x. IfOk x (λ t. total_of t ≤ 9 * u)) e (score_few b u)

-- portions are of 50 units at most
portion_few : (s : Status) → portion_units s ≤ 9999
portion_few Normal = omega arith
portion_few Tightened = omega arith
portion_few Reduced = omega arith

on_line_few : (s : Status) (z : ℕ) (c : _) (u : ℕ) → on_line_rules.units s z c ≡ Some u → u ≤ 9999
on_line_few s z c u e = subst (λ n. n ≤ 9999) (same_inside (portion_units s) u e) (portion_few s)

on_line_low : (s : Status) (z : ℕ) (c : _) (u : ℕ) → on_line_rules.portions ≡ false → on_line_rules.units s z c ≡ Some u → z ≤ 9999999
on_line_low s z c u e f = let z : ◌≡◌ {A = ℕ} 0 1 = cc in absurd (omega arith)

-- the samples of a lot are of 2,000 units at most
row_few : (w : LotRow) → lot_row_kept w ≡ true → w.first_sample ≤ w.total_sample × w.total_sample ≤ 2000
row_few w h =
    let p1 = and_parts (in_width w.lowest_size && samples_kept w) _ h in
    let p2 = and_parts (in_width w.lowest_size) (samples_kept w) p1.0 in
    let p3 = and_parts _ _ p2.1 in
    let p4 = and_parts _ _ p3.0 in
    let p5 = and_parts _ _ p3.1 in
    (leb-true w.first_sample w.total_sample p4.1, leb-true w.total_sample 2000 p5.0)

lot_few : (o : Option LotRow) (c : Option Tally) (u : ℕ) → IfSome o (λ w. lot_row_kept w ≡ true) → lot_units o c ≡ Some u → u ≤ 2000
lot_few None c u k e = nothing_inside u e
lot_few (Some w) None u k e = let f = row_few w k in let q = same_inside w.first_sample u e in omega (arith, f.0, f.1, q)
lot_few (Some w) (Some t) u k e = let f = row_few w k in let q = same_inside (w.total_sample - w.first_sample) u e in omega (arith, f.0, f.1, q)

module _ (p : PlanBook) where
  abbrev rows : List LotRow
  rows = vec_items p.lots

  row_kept : (s : Status) (z : ℕ) → IfSome (row_for s z rows) (λ w. lot_row_kept w ≡ true)
  row_kept s z = last_kept (row_fits s z) lot_row_kept rows (rows_kept rows (vec_items p.limits) p.kept)

  -- a row of the plan book keeps all that is asked of one
  pub plan_kept : (s : Status) (z : ℕ) → IfSome (row_of_lot s z rows) (λ w. lot_row_kept w ≡ true)
  plan_kept s z = by (leb z 9999999)
    where
      by : (b : Bool) → IfSome (cond b (row_for s z rows) None) (λ w. lot_row_kept w ≡ true)
      by true = row_kept s z
      by false = tt

  plan_few : (s : Status) (z : ℕ) (c : Option Tally) (u : ℕ) → (plan_rules p).units s z c ≡ Some u → u ≤ 9999
  plan_few s z c u e = let f = lot_few (row_of_lot s z rows) c u (plan_kept s z) e in omega arith

  plan_low : (s : Status) (z : ℕ) (c : Option Tally) (u : ℕ) → (plan_rules p).portions ≡ false → (plan_rules p).units s z c ≡ Some u → z ≤ 9999999
  plan_low s z c u _ = by (leb z 9999999) refl
    where
      by : (b : Bool) → leb z 9999999 ≡ b → lot_units (cond b (row_for s z rows) None) c ≡ Some u → z ≤ 9999999
      by true q e = leb-true z 9999999 q
      by false q e = nothing_inside u e

pub writes_writable : WritesWritable
writes_writable = (writes_only on_line_rules sheet_score scores_bounded on_line_few on_line_low, λ p. writes_only (plan_rules p) sheet_score scores_bounded (plan_few p) (plan_low p))

pub sheets_show : SheetsShow
sheets_show = (
  λ s z c u t e h. some_sheet_shows u t (on_line_few s z c u e) h,
  λ p s z c u t e h. some_sheet_shows u t (plan_few p s z c u e) h,
)
