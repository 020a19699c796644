-- The promise over whole runs: what every list of calls and answers of a line that was set on an empty book keeps to.
use Rattle.std.specs.Prelude.{◌≡◌, ℕ, ◌+◌, ◌-◌, Bool, true, false, cond, ◌↔◌, List, [], ◌∷◌, ◌++◌, map, length, Some, None, Ok, Err, Option, Result, ◌≢◌, nat_le, slice_index_or}
use Rattle.inspection.specs.declared.status.Status.{Status}
use Rattle.inspection.specs.declared.status.Status.TheVariants.{Normal, Reduced}
use Rattle.inspection.specs.declared.verdict.Verdict.{Verdict}
use Rattle.inspection.specs.declared.verdict.Verdict.TheVariants.{Accepted, Rejected, Awaited, Full, Brief, Undecided}
use Rattle.entries.specs.declared.entry.Entry.{Entry}
use Rattle.inspection.specs.declared.refusal.Refusal.{Refusal}
use Rattle.inspection.specs.declared.class.JudgedClass.{JudgedClass}
use Rattle.inspection.specs.Classes.{count_of}
use Rattle.regimes.specs.Portions.{cusum_of}
use Rattle.regimes.specs.Promises.{FirstJudged, BothJudged}
use Rattle.regimes.specs.Rows.{Overruns}
use Rattle.runs.specs.Spells.{Broken, turned}
use Rattle.regimes.specs.Portions.{portion_units}
use Rattle.plans.specs.declared.rows.LotRow.{LotRow}
use Rattle.runs.specs.declared.standing.Reply.{Reply}
use Rattle.runs.specs.History.{Call, open_period, enter_portion, end_period, enter_lot, enter_second, hand_in, reissue, grant_relief, report_irregular, Event, Fixed, Article, Waiting, status, count, waiting, written, article, spell, verdicts, period, stretch, refusal, scored}

abbrev pub refused_with : Result Reply Refusal → Option Refusal
refused_with (Ok r) = None
refused_with (Err e) = Some e

module _ (f : Fixed) where
  -- the answer's verdict and slip, for every call but a portion's
  abbrev pub Ruled : List Event → Call → Reply → Type 0
  Ruled h open_period r = (r.verdict ≡ Undecided) × (r.slip ≡ None)
  Ruled h (enter_portion b) r = r.slip ≡ None
  Ruled h end_period r = (r.slip ≡ None) × ((n : ℕ) → period f h ≡ Some n → r.verdict ≡ cond (nat_le 6 n) Full Brief)
  Ruled h (enter_lot z b) r = (w : LotRow) → f.row (status h) z ≡ Some w →
      FirstJudged w (scored (f.score w.first_sample b)) r.verdict × ((r.verdict ≡ Awaited → r.slip ≡ Some (count h + 1)) × ((r.verdict ≢ Awaited) → r.slip ≡ None))
  Ruled h (enter_second k b) r = (l : Waiting) (w : LotRow) → waiting f h ≡ Some l → f.row (status h) l.size ≡ Some w →
      BothJudged w l.first (scored (f.score (w.total_sample - w.first_sample) b)) r.verdict × (r.slip ≡ None)
  Ruled h (hand_in k) r = (r.verdict ≡ Undecided) × (r.slip ≡ None)
  Ruled h reissue r = (r.verdict ≡ Undecided) × ((l : Waiting) → waiting f h ≡ Some l → r.slip ≡ Some l.number)
  Ruled h grant_relief r = (r.verdict ≡ Undecided) × (r.slip ≡ None)
  Ruled h report_irregular r = (r.verdict ≡ Undecided) × (r.slip ≡ None)

  -- a portion is rejected exactly where some class overruns at it, else accepted
  abbrev pub PortionEarned : List Event → List ℕ → Verdict → Type 0
  PortionEarned h b v =
      (over : JudgedClass → List Bool)
      × ((c : JudgedClass) → Overruns (cusum_of c (status h)) (map (count_of c) (stretch f h ++ scored (f.score (portion_units (status h)) b) ∷ [])) (over c))
      × ((v ≡ Rejected) ↔ ((c : JudgedClass) × (slice_index_or (over c) (length (stretch f h)) false ≡ true)))
      × ((v ≡ Accepted) ↔ ((c : JudgedClass) → slice_index_or (over c) (length (stretch f h)) false ≡ false))

  -- the article is its spell's first to break the rule of the status
  abbrev pub FirstToBreak : List Event → Article → Type 0
  FirstToBreak h a = Broken f.window f.most_rejected (status h) (verdicts (spell f h ++ a ∷ [])) × (Broken f.window f.most_rejected (status h) (verdicts (spell f h)) → ⊥)

  abbrev pub ByArticle : List Event → Status → Option Article → Type 0
  ByArticle h s None = s ≡ status h
  ByArticle h s (Some a) = ((s ≡ turned (status h)) ↔ FirstToBreak h a) × ((s ≡ status h) ↔ (FirstToBreak h a → ⊥))

  -- the status after an accepted call: an article turns it exactly as above, relief and notice always, and nothing else does
  abbrev pub Turned : List Event → Call → Option Article → Status → Type 0
  Turned h open_period a s = s ≡ status h
  Turned h (enter_portion b) a s = ByArticle h s a
  Turned h end_period a s = s ≡ status h
  Turned h (enter_lot z b) a s = ByArticle h s a
  Turned h (enter_second k b) a s = ByArticle h s a
  Turned h (hand_in k) a s = s ≡ status h
  Turned h reissue a s = s ≡ status h
  Turned h grant_relief a s = s ≡ Reduced
  Turned h report_irregular a s = s ≡ Normal

  -- the promise, of a run whose newest event comes first
  pub record Earned (h : List Event) (book : List Entry) (room : ℕ) : Type 0 where
    pub refused_exactly : (later earlier : List Event) (e : Event) → h ≡ later ++ e ∷ earlier → refused_with e.answer ≡ refusal f earlier e.call
    pub answered_as_ruled : (later earlier : List Event) (e : Event) (r : Reply) → h ≡ later ++ e ∷ earlier → e.answer ≡ Ok r → Ruled earlier e.call r
    pub portions_earned : (later earlier : List Event) (e : Event) (r : Reply) (b : List ℕ) → h ≡ later ++ e ∷ earlier → e.call ≡ enter_portion b → e.answer ≡ Ok r → PortionEarned earlier b r.verdict
    pub status_turned_exactly : (later earlier : List Event) (e : Event) (r : Reply) → h ≡ later ++ e ∷ earlier → e.answer ≡ Ok r → Turned earlier e.call (article f e earlier) r.status
    pub book_holds_the_accepted : book ≡ written f h
    pub room_is_what_is_left : room + length book ≡ f.room
