-- Calls with a sheet: the tests before the sheet, then the sheet's own fault.
use Rattle.std.proofs.Common.{◌≡◌, ℕ, Bool, true, false, not, leb, List, [], ◌∷◌, is_some, Some, None, Ok, Err, Option, Result, sym, refl, ap, ◌∙◌, arith}
use Rattle.inspection.specs.declared.refusal.Refusal.{Refusal}
use Rattle.inspection.specs.declared.refusal.Refusal.TheVariants.{NoPeriodOpen, LotAwaits, NoLotAwaits, LotSizeOutOfRange, NoRoom, BookUnsound}
use Rattle.inspection.specs.declared.tally.Tally.{Tally}
use Rattle.inspection.specs.declared.verdict.Verdict.{Verdict}
use Rattle.inspection.specs.declared.verdict.Verdict.TheVariants.{Accepted, Rejected, Awaited, Full, Brief, Undecided}
use Rattle.entries.specs.declared.entry.Entry.{Entry}
use Rattle.worksheet.specs.Scores.{score_of}
use Rattle.regimes.specs.Rules.{Rules}
use Rattle.runs.specs.declared.standing.Reply.{Reply}
use Rattle.runs.specs.declared.standing.Standing.{Standing}
use Rattle.runs.specs.declared.standing.Taken.{Taken}
use Rattle.runs.specs.History.{Call, enter_portion, enter_lot, enter_second, first, fault, scored}
use Rattle.runs.specs.Lines.{reading, or_zero, due_size, has_slip, sample, refuses, takes, step, portion_taken, lot_taken, second_taken}
use Rattle.runs.specs.Runs.{Served}
use Rattle.runs.specs.Writing.{sheet_score, WritesOnlyWritable}
use Rattle.line.specs.declared.line.Line.{Line}
use Rattle.line.specs.Doing.{Does, booked, units_unless, portion_sample, lot_sample, second_sample, lot_judged_at, lot_taken_at, second_taken_at}
use Rattle.line.proofs.Calling.{unless_unsound, call_written}

module _ (x y z : Refusal) (v : ℕ) (o : Option Refusal) where
  abbrev unless : Option ℕ → Bool → Bool → Bool → Option Refusal → Option Refusal
  unless u q m p o = unless_unsound u (first ((q, x) ∷ (m, y) ∷ (p, z) ∷ []) o)

  same_refusal : (e f : Refusal) → ◌≡◌ {A = Result ℕ Refusal} (Err e) (Err f) → ◌≡◌ {A = Option Refusal} (Some e) (Some f)
  same_refusal e f h = let same : e ≡ f = cc in ap {B = Option Refusal} (λ t. Some t) same

  ok_err : {P : Type 0} (e : Refusal) (w : ℕ) → ◌≡◌ {A = Result ℕ Refusal} (Ok w) (Err e) → P
  ok_err e w h = let z : ◌≡◌ {A = ℕ} 0 1 = cc in absurd (omega arith)

  -- what refuses the sample refuses the call
  before_sheet : (u : Option ℕ) (q m p : Bool) (e : Refusal) → Err e ≡ units_unless (unless u q m p None) v → Some e ≡ unless u q m p o
  before_sheet (Some k) q m p e h = same_refusal e (BookUnsound k) h
  before_sheet None true m p e h = same_refusal e x h
  before_sheet None false true p e h = same_refusal e y h
  before_sheet None false false true e h = same_refusal e z h
  before_sheet None false false false e h = ok_err e v (sym h)

  -- where nothing does, the rest decides, and there is room
  at_sheet : (u : Option ℕ) (q m p : Bool) (w : ℕ) → Ok w ≡ units_unless (unless u q m p None) v → (w ≡ v) × (o ≡ unless u q m p o) × (m ≡ false)
  at_sheet (Some k) q m p w h = ok_err (BookUnsound k) w h
  at_sheet None true m p w h = ok_err x w h
  at_sheet None false true p w h = ok_err y w h
  at_sheet None false false true w h = ok_err z w h
  at_sheet None false false false w h = (let same : w ≡ v = cc in same, refl, refl)

-- a sheet of w units with a fault, and one with a tally
module _ (b : List ℕ) (w v : ℕ) (same : w ≡ v) where
  faulty : (e : Refusal) → Err e ≡ score_of b w → Some e ≡ fault (sheet_score v b)
  faulty e h = ap {B = Option Refusal} fault (h ∙ ap (score_of b) same)

  sound : (t : Tally) → Ok t ≡ score_of b w → None ≡ fault (sheet_score v b)
  sound t h = ap {B = Option Refusal} fault (h ∙ ap (score_of b) same)

  tally_known : (t : Tally) → Ok t ≡ score_of b w → t ≡ scored (sheet_score v b)
  tally_known t h = ap scored (h ∙ ap (score_of b) same)

-- the calls that are refused before their sheets are looked at, and those that are not
module _ {C : Type 0} (r : Rules C) (st : Standing C) (es : List Entry) (n : ℕ) (b : List ℕ) (room : ℕ) (left : room ≡ n) where
  pub portion_unsampled : (e : Refusal) → Err e ≡ portion_sample r st room → Some e ≡ refuses r sheet_score (enter_portion b) st es n
  portion_unsampled e h =
      let u = or_zero (sample r st 0) in
      before_sheet NoPeriodOpen NoRoom LotSizeOutOfRange u (fault (sheet_score u b)) st.unsound (not (is_some st.period)) (leb n 0) (not (is_some (sample r st 0))) e (h ∙ ap (portion_sample r st) left)

  portion_sampled : (w : ℕ) → Ok w ≡ portion_sample r st room → (w ≡ or_zero (sample r st 0)) × (fault (sheet_score (or_zero (sample r st 0)) b) ≡ refuses r sheet_score (enter_portion b) st es n) × (leb n 0 ≡ false)
  portion_sampled w h =
      let u = or_zero (sample r st 0) in
      at_sheet NoPeriodOpen NoRoom LotSizeOutOfRange u (fault (sheet_score u b)) st.unsound (not (is_some st.period)) (leb n 0) (not (is_some (sample r st 0))) w (h ∙ ap (portion_sample r st) left)

  module _ (z : ℕ) where
    pub lot_unsampled : (e : Refusal) → Err e ≡ lot_sample r st room z → Some e ≡ refuses r sheet_score (enter_lot z b) st es n
    lot_unsampled e h =
        let u = or_zero (sample r st z) in
        before_sheet LotAwaits NoRoom LotSizeOutOfRange u (fault (sheet_score u b)) st.unsound (is_some st.waiting) (leb n 0) (not (is_some (sample r st z))) e (h ∙ ap (λ n. lot_sample r st n z) left)

    lot_sampled : (w : ℕ) → Ok w ≡ lot_sample r st room z → (w ≡ or_zero (sample r st z)) × (fault (sheet_score (or_zero (sample r st z)) b) ≡ refuses r sheet_score (enter_lot z b) st es n) × (leb n 0 ≡ false)
    lot_sampled w h =
        let u = or_zero (sample r st z) in
        at_sheet LotAwaits NoRoom LotSizeOutOfRange u (fault (sheet_score u b)) st.unsound (is_some st.waiting) (leb n 0) (not (is_some (sample r st z))) w (h ∙ ap (λ n. lot_sample r st n z) left)

  module _ (number : ℕ) where
    abbrev due : ℕ
    due = due_size st.waiting

    abbrev no_slip : Bool
    no_slip = not (has_slip number st.waiting)

    pub second_unsampled : (e : Refusal) → Err e ≡ second_sample r st room number → Some e ≡ refuses r sheet_score (enter_second number b) st es n
    second_unsampled e h =
        let u = or_zero (sample r st due) in
        before_sheet NoLotAwaits NoRoom LotSizeOutOfRange u (fault (sheet_score u b)) st.unsound no_slip (leb n 0) (not (is_some (sample r st due))) e (h ∙ ap (λ n. second_sample r st n number) left)

    second_sampled : (w : ℕ) → Ok w ≡ second_sample r st room number
        → (w ≡ or_zero (sample r st due)) × (fault (sheet_score (or_zero (sample r st due)) b) ≡ refuses r sheet_score (enter_second number b) st es n) × (leb n 0 ≡ false)
    second_sampled w h =
        let u = or_zero (sample r st due) in
        at_sheet NoLotAwaits NoRoom LotSizeOutOfRange u (fault (sheet_score u b)) st.unsound no_slip (leb n 0) (not (is_some (sample r st due))) w (h ∙ ap (λ n. second_sample r st n number) left)

    pub second_faulty : (w : ℕ) → Ok w ≡ second_sample r st room number → (e : Refusal) → Err e ≡ score_of b w → Some e ≡ refuses r sheet_score (enter_second number b) st es n
    second_faulty w h e bad =
        let sampled = second_sampled w h in
        faulty b w (or_zero (sample r st due)) sampled.0 e bad ∙ sampled.1

-- a lot, with the question whether it waits asked once
pub lot_same : {C : Type 0} (r : Rules C) (z u : ℕ) (t : Tally) (v : Verdict) (c : C) (st : Standing C) (es : List Entry) → lot_judged_at r z u t (v, c) st es ≡ lot_taken r z u t (v, c) st es
lot_same r z u t Accepted c st es = refl
lot_same r z u t Rejected c st es = refl
lot_same r z u t Awaited c st es = refl
lot_same r z u t Full c st es = refl
lot_same r z u t Brief c st es = refl
lot_same r z u t Undecided c st es = refl

-- the accepted calls of sheets that showed the sample, where `earlier` are the book's entries and `left` its room
module _ {R B C : Type 0} (entries : B → List Entry) (room : B → ℕ) (r : Rules C) (only : WritesOnlyWritable r sheet_score) (before after : Line R B C) (k : Taken C) (a : Result Reply Refusal) (done : Does entries room (booked k) before a after)
    (b : List ℕ) (earlier : List Entry) (whole : earlier ≡ entries before.book) (left : ℕ) (left_is : left ≡ room before.book) (w : ℕ) (t : Tally) (shown : Ok t ≡ score_of b w) where
  abbrev Comes : Call → Type 0
  Comes c = Does entries room (step r sheet_score c) before a after

  pub portion_comes : Served r (enter_portion b) → Ok w ≡ portion_sample r before.standing left → k ≡ portion_taken r w t (r.judged before.standing.status 0 t before.standing.carried) before.standing earlier → Comes (enter_portion b)
  portion_comes served units taken =
      let st = before.standing in
      let es = entries before.book in
      let n = room before.book in
      let u = or_zero (sample r st 0) in
      let sampled = portion_sampled r st es n b left left_is w units in
      let none = sound b w u sampled.0 t shown ∙ sampled.1 in
      let tally = tally_known b w u sampled.0 t shown in
      let judged = r.judged st.status 0 t st.carried in
      let same : k ≡ takes r sheet_score (enter_portion b) st es = taken ∙ ap (portion_taken r w t judged st) whole ∙ (λ i. portion_taken r (sampled.0 i) (tally i) (r.judged st.status 0 (tally i) st.carried) st es) in
      call_written entries room r before after k a done (enter_portion b) _ none same refl sampled.2 (only (enter_portion b) st es n _ served (sym none) refl)

  pub lot_comes : (z : ℕ) → Served r (enter_lot z b) → Ok w ≡ lot_sample r before.standing left z → k ≡ lot_taken_at r z w t before.standing earlier → Comes (enter_lot z b)
  lot_comes z served units taken =
      let st = before.standing in
      let es = entries before.book in
      let n = room before.book in
      let u = or_zero (sample r st z) in
      let sampled = lot_sampled r st es n b left left_is z w units in
      let none = sound b w u sampled.0 t shown ∙ sampled.1 in
      let tally = tally_known b w u sampled.0 t shown in
      let judged = r.judged st.status z t st.carried in
      let same : k ≡ takes r sheet_score (enter_lot z b) st es =
      taken ∙ ap (lot_taken_at r z w t st) whole ∙ lot_same r z w t judged.0 judged.1 st es ∙ (λ i. lot_taken r z (sampled.0 i) (tally i) (r.judged st.status z (tally i) st.carried) st es)
      in
      call_written entries room r before after k a done (enter_lot z b) _ none same refl sampled.2 (only (enter_lot z b) st es n _ served (sym none) refl)

  pub second_comes : (number : ℕ) → Served r (enter_second number b) → Ok w ≡ second_sample r before.standing left number → k ≡ second_taken_at r w t before.standing earlier → Comes (enter_second number b)
  second_comes number served units taken =
      let st = before.standing in
      let es = entries before.book in
      let n = room before.book in
      let z = due_size st.waiting in
      let u = or_zero (sample r st z) in
      let sampled = second_sampled r st es n b left left_is number w units in
      let none = sound b w u sampled.0 t shown ∙ sampled.1 in
      let tally = tally_known b w u sampled.0 t shown in
      let same : k ≡ takes r sheet_score (enter_second number b) st es = taken ∙ ap (second_taken_at r w t st) whole ∙ (λ i. second_taken r z (sampled.0 i) (tally i) (r.judged st.status z (tally i) st.carried) (reading es).first_sample st es) in
      call_written entries room r before after k a done (enter_second number b) _ none same refl sampled.2 (only (enter_second number b) st es n _ served (sym none) refl)
