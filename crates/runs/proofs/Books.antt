-- A book is sound exactly where a run wrote it; so a line set on any sound book goes on from where some run left it.
use Rattle.std.proofs.Common.{◌≡◌, ℕ, suc, ◌+◌, ◌*◌, ◌≤◌, Bool, true, false, cond, not, ltb, leb, List, [], ◌∷◌, ◌++◌, length, is_some as option_is_some, Some, None, Ok, Err, Option, Result, sym, refl, ap, ◌∙◌, subst, ap₂, arith}
use Rattle.std.proofs.lemmas.List.{append-nil, append_assoc, length-append}
use Rattle.inspection.specs.declared.tally.Tally.{Tally}
use Rattle.inspection.specs.declared.kind.Kind.{Kind}
use Rattle.inspection.specs.declared.kind.Kind.TheVariants as kind
use Rattle.entries.specs.declared.entry.Entry.{Entry}
use Rattle.inspection.specs.declared.refusal.Refusal.{Refusal}
use Rattle.inspection.specs.declared.refusal.Refusal.TheVariants.{SheetLineNotOfForm, NoPeriodOpen, PeriodOpenAlready, LotAwaits, NoLotAwaits, SlipIsOut, LotSizeOutOfRange, ReliefOffNormal, SpellTooShort, TooManyRejected, TooFewUnits, DefectsAboveLimit, NoticeOffReduced, NoRoom, BookUnsound}
use Rattle.inspection.specs.declared.status.Status.TheVariants.{Normal, Reduced}
use Rattle.inspection.specs.declared.class.JudgedClass.TheVariants.{Total}
use Rattle.inspection.specs.Classes.{count_of}
use Rattle.runs.specs.Spells.{rejections}
use Rattle.std.proofs.lemmas.Bool.{leb-true, lt-leb, eq-eqb, not-false}
use Rattle.inspection.specs.Statuses.{same_status}
use Rattle.runs.specs.History.{Call, open_period, enter_portion, end_period, enter_lot, enter_second, hand_in, reissue, grant_relief, report_irregular, Event, Article, is_awaited, is_rejected, first, fault, scored, verdicts, units_of, above}
use Rattle.regimes.specs.Rules.{Rules}
use Rattle.runs.specs.declared.standing.Standing.{Standing}
use Rattle.runs.specs.declared.standing.Taken.{Taken}
use Rattle.runs.specs.Lines.{reading, or_zero, due_size, due_number, put, left, is_out, has_slip, with_slip, awaiting, settled, sample, in_window, after_article, portion_taken, lot_taken, second_taken, refuses_sound, refuses, takes, step}
use Rattle.runs.specs.Runs.{Run, go, run, fresh, is_entry, call_for, showing, unsound_at, held_to, replayed_by, replay_one, replay_on, replay, ServedBy, Served, Each}
use Rattle.runs.specs.Setting.{Shows, all_refused}
use Rattle.runs.proofs.Small.{passes, is_some}
use Rattle.runs.proofs.Slips.{moved_waits, moved_in, slip_waits, with_again, with_there, lot_unmoved, relief_unmoved, notice_unmoved}
use Rattle.runs.proofs.Keeping.{ev}
use Rattle.runs.proofs.Replay.{quiet_cond, stands_on_its_book, same_entry_exactly}
use Rattle.runs.proofs.Stated.{SoundExactly, SetOnARun, FirstUnsound, UnsoundRefuses, Setting}

some_not_none : {A : Type 0} (a : A) → Some a ≡ None → ⊥
some_not_none a e = let z : ◌≡◌ {A = ℕ} 0 1 = cc in omega arith

-- room and a sheet put back into the refusals
roomy_back : (q m : Bool) (x y : Refusal) (o : Option Refusal) → cond q (Some x) o ≡ None → m ≡ false → cond q (Some x) (cond m (Some y) o) ≡ None
roomy_back q m x y o e f =
    let p = passes q x o e in
    ap₂ (λ a c. cond a (Some x) c) p.0 (ap (λ a. cond a (Some y) o) f ∙ p.1)

sheet_back : (q m p : Bool) (x y z : Refusal) (o o' : Option Refusal) → cond q (Some x) (cond p (Some z) o) ≡ None → m ≡ false → o' ≡ None → cond q (Some x) (cond m (Some y) (cond p (Some z) o')) ≡ None
sheet_back q m p x y z o o' e f g =
    let p1 = passes q x _ e in
    let p2 = passes p z o p1.1 in
    ap₂ (λ a c. cond a (Some x) c) p1.0 (ap₂ (λ a c. cond a (Some y) c) f (ap₂ (λ a c. cond a (Some z) c) p2.0 g))

shown_back : (t : Tally) (u : ℕ) (b : List ℕ) → fault (showing t u b) ≡ None → (count_of Total t ≤ 9 * u) × (showing t u b ≡ Ok t)
shown_back t u b e = by (leb (count_of Total t) (9 * u)) refl
  where
    by : (q : Bool) → leb (count_of Total t) (9 * u) ≡ q → (count_of Total t ≤ 9 * u) × (showing t u b ≡ Ok t)
    by true q = (leb-true (count_of Total t) (9 * u) q, ap (λ (q : Bool). (let x : Result Tally Refusal = cond q (Ok t) (Err (SheetLineNotOfForm 1)) in x)) q)
    by false q = absurd (some_not_none (SheetLineNotOfForm 1) (sym (ap (λ (q : Bool). (let x : Result Tally Refusal = cond q (Ok t) (Err (SheetLineNotOfForm 1)) in fault x)) q) ∙ e))

module _ {C : Type 0} (r : Rules C) where
  -- what a replayed entry that leaves the line sound says
  record Replayed (st : Standing C) (es : List Entry) (e : Entry) (c : Call) : Type 0 where
    passed : refuses r (showing e.tally) c (with_slip true st) es 1 ≡ None
    wrote : (takes r (showing e.tally) c (with_slip true st) es).writes ≡ Some e
    gives : replay_one r st es e ≡ with_slip false (takes r (showing e.tally) c (with_slip true st) es).standing

  entry_is : (e : Entry) (o : Option Entry) → is_entry e o ≡ true → o ≡ Some e
  entry_is e None q = let z : ◌≡◌ {A = ℕ} 0 1 = cc in absurd (omega arith)
  entry_is e (Some x) q = ap {B = Option Entry} (λ y. Some y) ((same_entry_exactly x e).0 q)

  held_sound : (e : Entry) (x : Option Refusal) (k : Taken C) (n : ℕ) (st : Standing C) → (held_to e x k (unsound_at n st)).unsound ≡ None
      → (x ≡ None) × (k.writes ≡ Some e) × (held_to e x k (unsound_at n st) ≡ with_slip false k.standing)
  held_sound e (Some x) k n st h = absurd (some_not_none n h)
  held_sound e None k n st h = by (is_entry e k.writes) refl
    where
      by : (b : Bool) → is_entry e k.writes ≡ b → (◌≡◌ {A = Option Refusal} None None) × (k.writes ≡ Some e) × (held_to e None k (unsound_at n st) ≡ with_slip false k.standing)
      by true q = (refl, entry_is e k.writes q, ap (λ b. cond b (with_slip false k.standing) (unsound_at n st)) q)
      by false q = absurd (some_not_none n (sym (ap (λ b. (let s : Standing C = cond b (with_slip false k.standing) (unsound_at n st) in s.unsound)) q) ∙ h))

  replayed : (st : Standing C) (es : List Entry) (e : Entry) → st.unsound ≡ None → (replay_one r st es e).unsound ≡ None
      → (c : Call) × (call_for r.portions e.kind e.lot_size (due_number st.waiting) ≡ Some c) × Replayed st es e c
  replayed st es e sd h = by (call_for r.portions e.kind e.lot_size (due_number st.waiting)) refl
    where
      open_up : replay_one r st es e ≡ replayed_by r (call_for r.portions e.kind e.lot_size (due_number st.waiting)) e st es
      open_up = ap (λ o. (let y : Standing C = elim o [ Some n ↦ st | None ↦ replayed_by r (call_for r.portions e.kind e.lot_size (due_number st.waiting)) e st es ] in y)) sd

      by : (o : Option Call) → call_for r.portions e.kind e.lot_size (due_number st.waiting) ≡ o
          → (c : Call) × (call_for r.portions e.kind e.lot_size (due_number st.waiting) ≡ Some c) × Replayed st es e c
      by None q = absurd (some_not_none (length es + 1) (sym (ap (λ (s : Standing C). s.unsound) (open_up ∙ ap (λ o. replayed_by r o e st es) q)) ∙ h))
      by (Some c) q =
          let p = open_up ∙ ap (λ o. replayed_by r o e st es) q in
          let x = held_sound e (refuses r (showing e.tally) c (with_slip true st) es 1) (takes r (showing e.tally) c (with_slip true st) es) (length es + 1) st (sym (ap (λ (s : Standing C). s.unsound) p) ∙ h) in
          (c, q, record { passed = x.0; wrote = x.1; gives = p ∙ x.2 })

  -- an unsound line stays so
  stays_unsound : (later : List Entry) (st : Standing C) (es : List Entry) (k : ℕ) → st.unsound ≡ Some k → replay_on r st es later ≡ st
  stays_unsound [] st es k e = refl
  stays_unsound (x ∷ later) st es k e =
      let p : replay_one r st es x ≡ st = ap (λ o. (let y : Standing C = elim o [ Some n ↦ st | None ↦ replayed_by r (call_for r.portions x.kind x.lot_size (due_number st.waiting)) x st es ] in y)) e in
      ap (λ s. replay_on r s (es ++ x ∷ []) later) p ∙ stays_unsound later st (es ++ x ∷ []) k e

  first_sound : (later : List Entry) (st : Standing C) (es : List Entry) → (replay_on r st es later).unsound ≡ None → st.unsound ≡ None
  first_sound later st es h = by st.unsound refl
    where
      by : (o : Option ℕ) → st.unsound ≡ o → st.unsound ≡ None
      by None q = q
      by (Some k) q = absurd (some_not_none k (sym q ∙ sym (ap (λ (s : Standing C). s.unsound) (stays_unsound later st es k q)) ∙ h))

  -- an accepted or refused call leaves the line as sound as it was
  cond_unsound : (b : Bool) (x y : Standing C) (o : Option ℕ) → x.unsound ≡ o → y.unsound ≡ o → (cond b x y).unsound ≡ o
  cond_unsound true x y o p q = p
  cond_unsound false x y o p q = q

  takes_sound : (score : ℕ → List ℕ → Result Tally Refusal) (c : Call) (st : Standing C) (es : List Entry) → (takes r score c st es).standing.unsound ≡ st.unsound
  takes_sound score open_period st es = refl
  takes_sound score (enter_portion b) st es = refl
  takes_sound score end_period st es = refl
  takes_sound score (enter_lot z b) st es =
      let u = or_zero (sample r st z) in
      let t = scored (score u b) in
      let x = r.judged st.status z t st.carried in
      let a : Article = record { rejected = is_rejected x.0; units = u; tally = t } in
      cond_unsound (is_awaited x.0) (awaiting (length es + 1) z x.1 st) (after_article r st es a st.period None x.1) st.unsound refl refl
  takes_sound score (enter_second k b) st es = refl
  takes_sound score (hand_in k) st es = refl
  takes_sound score reissue st es = refl
  takes_sound score grant_relief st es = refl
  takes_sound score report_irregular st es = refl

  step_sound : (score : ℕ → List ℕ → Result Tally Refusal) (c : Call) (st : Standing C) (es : List Entry) (n : ℕ) → (step r score c st es n).standing.unsound ≡ st.unsound
  step_sound score c st es n = by (refuses r score c st es n)
    where
      by : (o : Option Refusal) → (settled o (takes r score c st es) st es n).standing.unsound ≡ st.unsound
      by None = takes_sound score c st es
      by (Some x) = refl

  run_sound : (score : ℕ → List ℕ → Result Tally Refusal) (cs : List Call) (h : List Event) (st : Standing C) (es : List Entry) (n : ℕ) → (go r score cs h st es n).standing.unsound ≡ st.unsound
  run_sound score [] h st es n = refl
  run_sound score (c ∷ cs) h st es n =
      let o = step r score c st es n in
      run_sound score cs (ev c o.answer ∷ h) o.standing o.entries o.room ∙ step_sound score c st es n

  module _ (score : ℕ → List ℕ → Result Tally Refusal) where
    -- from one standing, book and room to others by some calls
    abbrev Reaches : Standing C → List Entry → ℕ → Standing C → List Entry → ℕ → Type 0
    Reaches st es n st' es' n' =
        (cs : List Call) × Each (Served r) cs × ((h : List Event) → ((go r score cs h st es n).standing ≡ st') × ((go r score cs h st es n).entries ≡ es') × ((go r score cs h st es n).room ≡ n'))

    pub go_on : (cs ds : List Call) (h : List Event) (st : Standing C) (es : List Entry) (n : ℕ)
        → go r score (cs ++ ds) h st es n ≡ go r score ds (go r score cs h st es n).events (go r score cs h st es n).standing (go r score cs h st es n).entries (go r score cs h st es n).room
    go_on [] ds h st es n = refl
    go_on (c ∷ cs) ds h st es n =
        let o = step r score c st es n in
        go_on cs ds (ev c o.answer ∷ h) o.standing o.entries o.room

    pub each_on : (P : Call → Type 0) (cs ds : List Call) → Each P cs → Each P ds → Each P (cs ++ ds)
    each_on P [] ds a b = b
    each_on P (c ∷ cs) ds a b = (a.0, each_on P cs ds a.1 b)

    reach_none : (st : Standing C) (es : List Entry) (n : ℕ) → Reaches st es n st es n
    reach_none st es n = ([], tt, λ h. (refl, refl, refl))

    reach_both : {a b c : Standing C} {x y z : List Entry} {i j k : ℕ} → Reaches a x i b y j → Reaches b y j c z k → Reaches a x i c z k
    reach_both {a} {b} {c} {x} {y} {z} {i} {j} {k} p q = (
      p.0 ++ q.0,
      each_on (Served r) p.0 q.0 p.1 q.1,
      λ h.
          let v = go r score p.0 h a x i in
          let e = p.2 h in
          let w = q.2 v.events in
          let s : go r score (p.0 ++ q.0) h a x i ≡ go r score q.0 v.events b y j = go_on p.0 q.0 h a x i ∙ ap₃ (λ s t m. go r score q.0 v.events s t m) e.0 e.1 e.2 in
          (ap (λ (u : Run C). u.standing) s ∙ w.0, ap (λ (u : Run C). u.entries) s ∙ w.1, ap (λ (u : Run C). u.room) s ∙ w.2),
    )
      where
        ap₃ : {A B D E : Type 0} (f : A → B → D → E) {a a' : A} {b b' : B} {d d' : D} → a ≡ a' → b ≡ b' → d ≡ d' → f a b d ≡ f a' b' d'
        ap₃ f p q s = λ i. f (p i) (q i) (s i)

    -- one accepted call
    reach_one : (c : Call) (st : Standing C) (es : List Entry) (n : ℕ) → Served r c → refuses r score c st es n ≡ None
        → Reaches st es n (takes r score c st es).standing (put (takes r score c st es).writes es) (left (takes r score c st es).writes n)
    reach_one c st es n sv e =
        let k = takes r score c st es in (
          c ∷ [],
          (sv, tt),
          λ h. (ap (λ o. (settled o k st es n).standing) e, ap (λ o. (settled o k st es n).entries) e, ap (λ o. (settled o k st es n).room) e),
        )

    reach_as : {a b b' : Standing C} {x y y' : List Entry} {i j j' : ℕ} → Reaches a x i b y j → b ≡ b' → y ≡ y' → j ≡ j' → Reaches a x i b' y' j'
    reach_as p e f g = (p.0, p.1, λ h. ((p.2 h).0 ∙ e, (p.2 h).1 ∙ f, (p.2 h).2 ∙ g))

    refuses_from : (sc : ℕ → List ℕ → Result Tally Refusal) (c : Call) (st : Standing C) (es : List Entry) (n : ℕ) → st.unsound ≡ None → refuses_sound r sc c st es n ≡ None → refuses r sc c st es n ≡ None
    refuses_from sc c st es n sd e = ap (λ o. (let y : Option Refusal = elim o [ Some k ↦ Some (BookUnsound k) | None ↦ refuses_sound r sc c st es n ] in y)) sd ∙ e

    refuses_back : (sc : ℕ → List ℕ → Result Tally Refusal) (c : Call) (st : Standing C) (es : List Entry) (n : ℕ) → st.unsound ≡ None → refuses r sc c st es n ≡ None → refuses_sound r sc c st es n ≡ None
    refuses_back sc c st es n sd e = sym (ap (λ o. (let y : Option Refusal = elim o [ Some k ↦ Some (BookUnsound k) | None ↦ refuses_sound r sc c st es n ] in y)) sd) ∙ e

    -- a slip that is out, if any, is handed in
    handed : (k : ℕ) (st : Standing C) (es : List Entry) (n : ℕ) → Served r (hand_in k) → st.unsound ≡ None → (b : Bool) → is_out st.waiting ≡ b → (b ≡ true → has_slip k st.waiting ≡ true) → Reaches st es n (with_slip false st) es n
    handed k st es n sv sd true q d =
        reach_one (hand_in k) st es n sv (refuses_from score (hand_in k) st es n sd (ap (λ a. first ((not a, NoLotAwaits) ∷ []) None) (d refl)))
    handed k st es n sv sd false q d =
        reach_as (reach_none st es n) (sym (with_there false st q)) refl refl

    module _ (shows : Shows r score) (st : Standing C) (es : List Entry) (n : ℕ) (e : Entry) (sd : st.unsound ≡ None) (sl : is_out st.waiting ≡ false) where
      abbrev Next : Type 0
      Next = Reaches st es (suc n) (replay_one r st es e) (es ++ e ∷ []) n

      roomy_here : leb (suc n) 0 ≡ false
      roomy_here = lt-leb (suc n) 0 (omega arith)

      -- where no slip is out, giving it out and taking it back changes nothing
      still : (s : Standing C) → is_out s.waiting ≡ false → s ≡ with_slip false (with_slip true s)
      still s none = sym (with_again false true s ∙ with_there false s none)

      -- one call that leaves what the replayed one does
      finish : (c c' : Call) → Served r c' → Replayed st es e c → refuses_sound r score c' st es (suc n) ≡ None
          → (takes r score c' st es).writes ≡ (takes r (showing e.tally) c (with_slip true st) es).writes
          → (takes r score c' st es).standing ≡ with_slip false (takes r (showing e.tally) c (with_slip true st) es).standing
          → Next
      finish c c' sv x rs ew es' =
          let w = ew ∙ x.wrote in
          let p = reach_one c' st es (suc n) sv (refuses_from score c' st es (suc n) sd rs) in
          reach_as p (es' ∙ sym x.gives) (ap (λ o. put o es) w) (ap (λ o. left o (suc n)) w ∙ omega arith)

      next_open : Served r open_period → Replayed st es e open_period → Next
      next_open sv x =
          let rs = refuses_back (showing e.tally) open_period (with_slip true st) es 1 sd x.passed in
          finish open_period open_period sv x (roomy_back (option_is_some st.period) (leb (suc n) 0) PeriodOpenAlready NoRoom None rs roomy_here) refl (still (takes r score open_period st es).standing sl)

      next_end : Served r end_period → Replayed st es e end_period → Next
      next_end sv x =
          let rs = refuses_back (showing e.tally) end_period (with_slip true st) es 1 sd x.passed in
          finish end_period end_period sv x (roomy_back (not (option_is_some st.period)) (leb (suc n) 0) NoPeriodOpen NoRoom None rs roomy_here) refl (still (takes r score end_period st es).standing sl)

      next_relief : Served r grant_relief → Replayed st es e grant_relief → Next
      next_relief sv x =
          let rs = sym (relief_unmoved r (showing e.tally) true st es 1) ∙ refuses_back (showing e.tally) grant_relief (with_slip true st) es 1 sd x.passed in
          finish grant_relief grant_relief sv x (roomy_back (option_is_some st.waiting) (leb (suc n) 0) LotAwaits NoRoom (first ((not (same_status st.status Normal), ReliefOffNormal) ∷ (ltb st.spell r.window, SpellTooShort) ∷ (ltb r.most_rejected (rejections (verdicts (in_window r st es))), TooManyRejected) ∷ (not (option_is_some (r.limits (units_of (in_window r st es)))), TooFewUnits) ∷ (above (in_window r st es) (r.limits (units_of (in_window r st es))), DefectsAboveLimit) ∷ []) None) rs roomy_here) refl (still (takes r score grant_relief st es).standing sl)

      next_notice : Served r report_irregular → Replayed st es e report_irregular → Next
      next_notice sv x =
          let rs = sym (notice_unmoved r (showing e.tally) true st es 1) ∙ refuses_back (showing e.tally) report_irregular (with_slip true st) es 1 sd x.passed in
          finish report_irregular report_irregular sv x (roomy_back (option_is_some st.waiting) (leb (suc n) 0) LotAwaits NoRoom (first ((not (same_status st.status Reduced), NoticeOffReduced) ∷ []) None) rs roomy_here) refl (still (takes r score report_irregular st es).standing sl)

      -- the sheet of a replayed sample
      sheet_for : (z : ℕ) → not (option_is_some (sample r st z)) ≡ false → fault (showing e.tally (or_zero (sample r st z)) []) ≡ None
          → (b : List ℕ) × (score (or_zero (sample r st z)) b ≡ Ok e.tally) × (showing e.tally (or_zero (sample r st z)) [] ≡ Ok e.tally)
      sheet_for z f g =
          let u = is_some (sample r st z) f in
          let q : or_zero (sample r st z) ≡ u.0 = ap or_zero u.1 in
          let s = shown_back e.tally (or_zero (sample r st z)) [] g in
          let w = shows st.status z st.carried u.0 e.tally u.1 (subst (λ m. count_of Total e.tally ≤ 9 * m) q s.0) in
          (w.0, ap (λ m. score m w.0) q ∙ w.1, s.1)

      next_portion : ((b : List ℕ) → Served r (enter_portion b)) → Replayed st es e (enter_portion []) → Next
      next_portion sv x =
          let t = e.tally in
          let u = or_zero (sample r st 0) in
          let rs = refuses_back (showing t) (enter_portion []) (with_slip true st) es 1 sd x.passed in
          let p1 = passes (not (option_is_some st.period)) NoPeriodOpen (first ((not (option_is_some (sample r st 0)), LotSizeOutOfRange) ∷ []) (fault (showing t u []))) rs in
          let p2 = passes (not (option_is_some (sample r st 0))) LotSizeOutOfRange (fault (showing t u [])) p1.1 in
          let y = sheet_for 0 p2.0 p2.1 in
          let b = y.0 in
          let A : takes r score (enter_portion b) st es ≡ portion_taken r u t (r.judged st.status 0 t st.carried) st es = ap (λ d. portion_taken r u (scored d) (r.judged st.status 0 (scored d) st.carried) st es) y.1 in
          let B : takes r (showing t) (enter_portion []) (with_slip true st) es ≡ portion_taken r u t (r.judged st.status 0 t st.carried) (with_slip true st) es = ap (λ d. portion_taken r u (scored d) (r.judged st.status 0 (scored d) st.carried) (with_slip true st) es) y.2 in
          finish (enter_portion []) (enter_portion b) (sv b) x
          (sheet_back (not (option_is_some st.period)) (leb (suc n) 0) (not (option_is_some (sample r st 0))) NoPeriodOpen NoRoom LotSizeOutOfRange (fault (showing t u [])) (fault (score u b)) rs roomy_here (ap fault y.1))
          (ap (λ (k : Taken C). k.writes) A ∙ sym (ap (λ (k : Taken C). k.writes) B))
          (ap (λ (k : Taken C). k.standing) A ∙ still (portion_taken r u t (r.judged st.status 0 t st.carried) st es).standing sl ∙ sym (ap (λ (k : Taken C). with_slip false k.standing) B))

      -- a lot's first sample, and its slip handed in if it has one
      next_lot : ((b : List ℕ) → Served r (enter_lot e.lot_size b)) → ((k : ℕ) → Served r (hand_in k)) → Replayed st es e (enter_lot e.lot_size []) → Next
      next_lot sv sh x =
          let z = e.lot_size in
          let t = e.tally in
          let u = or_zero (sample r st z) in
          let rs = sym (lot_unmoved r (showing t) true st es 1 z []) ∙ refuses_back (showing t) (enter_lot z []) (with_slip true st) es 1 sd x.passed in
          let p1 = passes (option_is_some st.waiting) LotAwaits (first ((not (option_is_some (sample r st z)), LotSizeOutOfRange) ∷ []) (fault (showing t u []))) rs in
          let p2 = passes (not (option_is_some (sample r st z))) LotSizeOutOfRange (fault (showing t u [])) p1.1 in
          let y = sheet_for z p2.0 p2.1 in
          let b = y.0 in
          let v = r.judged st.status z t st.carried in
          let a : Article = record { rejected = is_rejected v.0; units = u; tally = t } in
          let A : takes r score (enter_lot z b) st es ≡ lot_taken r z u t v st es = ap (λ d. lot_taken r z u (scored d) (r.judged st.status z (scored d) st.carried) st es) y.1 in
          let B : takes r (showing t) (enter_lot z []) (with_slip true st) es ≡ lot_taken r z u t v (with_slip true st) es = ap (λ d. lot_taken r z u (scored d) (r.judged st.status z (scored d) st.carried) (with_slip true st) es) y.2 in
          let w : (takes r score (enter_lot z b) st es).writes ≡ Some e = ap (λ (k : Taken C). k.writes) A ∙ sym (ap (λ (k : Taken C). k.writes) B) ∙ x.wrote in
          let s1 : Standing C = (lot_taken r z u t v st es).standing in
          let aw : Standing C = awaiting (length es + 1) z v.1 st in
          let af : Standing C = after_article r st es a st.period None v.1 in
          let rs2 = sheet_back (option_is_some st.waiting) (leb (suc n) 0) (not (option_is_some (sample r st z))) LotAwaits NoRoom LotSizeOutOfRange (fault (showing t u [])) (fault (score u b)) rs roomy_here (ap fault y.1) in
          let one : Reaches st es (suc n) s1 (es ++ e ∷ []) n = reach_as (reach_one (enter_lot z b) st es (suc n) (sv b) (refuses_from score (enter_lot z b) st es (suc n) sd rs2)) (ap (λ (k : Taken C). k.standing) A) (ap (λ o. put o es) w) (ap (λ o. left o (suc n)) w ∙ omega arith) in
          let two : Reaches s1 (es ++ e ∷ []) n (with_slip false s1) (es ++ e ∷ []) n = handed (length es + 1) s1 (es ++ e ∷ []) n (sh (length es + 1)) (cond_unsound (is_awaited v.0) aw af None sd sd) (is_out s1.waiting) refl (lot_slip (is_awaited v.0) z a v) in
          let same : with_slip false s1 ≡ replay_one r st es e =
          quiet_cond r (is_awaited v.0) aw af (awaiting (length es + 1) z v.1 (with_slip true st)) (after_article r (with_slip true st) es a st.period None v.1) refl refl
          ∙ sym (ap (λ (k : Taken C). with_slip false k.standing) B) ∙ sym x.gives in
          reach_both one (reach_as two same refl refl)
        where
          lot_slip : (q : Bool) (z : ℕ) (a : Article) (v : Rattle.inspection.specs.declared.verdict.Verdict.Verdict × C)
              → is_out (cond q (awaiting (length es + 1) z v.1 st) (after_article r st es a st.period None v.1)).waiting ≡ true
              → has_slip (length es + 1) (cond q (awaiting (length es + 1) z v.1 st) (after_article r st es a st.period None v.1)).waiting ≡ true
          lot_slip true z a v q = eq-eqb (length es + 1) (length es + 1) refl
          lot_slip false z a v q = q

      -- the second sample of a lot, after its slip is given out again
      next_second : ((b : List ℕ) → Served r (enter_second (due_number st.waiting) b)) → Served r reissue → Replayed st es e (enter_second (due_number st.waiting) []) → Next
      next_second sv sr x =
          let lent = with_slip true st in
          let k = due_number st.waiting in
          let z = due_size lent.waiting in
          let t = e.tally in
          let u = or_zero (sample r st z) in
          let rs = refuses_back (showing t) (enter_second k []) lent es 1 sd x.passed in
          let p1 = passes (not (has_slip k lent.waiting)) NoLotAwaits (first ((not (option_is_some (sample r st z)), LotSizeOutOfRange) ∷ []) (fault (showing t u []))) rs in
          let p2 = passes (not (option_is_some (sample r st z))) LotSizeOutOfRange (fault (showing t u [])) p1.1 in
          let y = sheet_for z p2.0 p2.1 in
          let b = y.0 in
          let v = r.judged st.status z t st.carried in
          let own : has_slip k lent.waiting ≡ true = not-false (has_slip k lent.waiting) p1.0 in
          let A : takes r score (enter_second k b) lent es ≡ second_taken r z u t v (reading es).first_sample lent es = ap (λ d. second_taken r z u (scored d) (r.judged st.status z (scored d) st.carried) (reading es).first_sample lent es) y.1 in
          let B : takes r (showing t) (enter_second k []) lent es ≡ second_taken r z u t v (reading es).first_sample lent es = ap (λ d. second_taken r z u (scored d) (r.judged st.status z (scored d) st.carried) (reading es).first_sample lent es) y.2 in
          let w : (takes r score (enter_second k b) lent es).writes ≡ Some e = ap (λ (k : Taken C). k.writes) A ∙ sym (ap (λ (k : Taken C). k.writes) B) ∙ x.wrote in
          let rs1 : refuses_sound r score reissue st es (suc n) ≡ None = ap₂ (λ q o. first ((not q, NoLotAwaits) ∷ (o, SlipIsOut) ∷ []) None) (sym (moved_waits true st.waiting) ∙ slip_waits k lent.waiting own) sl in
          let rs2 = sheet_back (not (has_slip k lent.waiting)) (leb (suc n) 0) (not (option_is_some (sample r st z))) NoLotAwaits NoRoom LotSizeOutOfRange (fault (showing t u [])) (fault (score u b)) rs roomy_here (ap fault y.1) in
          let one : Reaches st es (suc n) lent es (suc n) = reach_one reissue st es (suc n) sr (refuses_from score reissue st es (suc n) sd rs1) in
          let two = reach_one (enter_second k b) lent es (suc n) (sv b) (refuses_from score (enter_second k b) lent es (suc n) sd rs2) in
          reach_both one (reach_as two (ap (λ (k : Taken C). k.standing) A ∙ sym (ap (λ (k : Taken C). with_slip false k.standing) B) ∙ sym x.gives) (ap (λ o. put o es) w) (ap (λ o. left o (suc n)) w ∙ omega arith))

      -- whatever the entry's kind
      served_as : (q : Bool) (c : Call) → r.portions ≡ q → ServedBy q c → Served r c
      served_as q c p s = subst (λ b. ServedBy b c) (sym p) s

      call_is : (c d : Call) → ◌≡◌ {A = Option Call} (Some d) (Some c) → Replayed st es e c → Replayed st es e d
      call_is c d f x = let g : c ≡ d = cc in subst (λ a. Replayed st es e a) g x

      no_call : (c : Call) → ◌≡◌ {A = Option Call} None (Some c) → ⊥
      no_call c f = some_not_none c (sym f)

      next_by : (q : Bool) (k : Kind) (c : Call) → r.portions ≡ q → call_for q k e.lot_size (due_number st.waiting) ≡ Some c → Replayed st es e c → Next
      next_by true kind.PeriodOpened c p f x = next_open (served_as true open_period p tt) (call_is c open_period f x)
      next_by true kind.Portion c p f x = next_portion (λ b. served_as true (enter_portion b) p tt) (call_is c (enter_portion []) f x)
      next_by true kind.PeriodEnded c p f x = next_end (served_as true end_period p tt) (call_is c end_period f x)
      next_by true kind.Lot c p f x = absurd (no_call c f)
      next_by true kind.SecondSample c p f x = absurd (no_call c f)
      next_by true kind.Relief c p f x = next_relief (served_as true grant_relief p tt) (call_is c grant_relief f x)
      next_by true kind.IrregularNotice c p f x = next_notice (served_as true report_irregular p tt) (call_is c report_irregular f x)
      next_by true kind.Spoiled c p f x = absurd (no_call c f)
      next_by false kind.PeriodOpened c p f x = absurd (no_call c f)
      next_by false kind.Portion c p f x = absurd (no_call c f)
      next_by false kind.PeriodEnded c p f x = absurd (no_call c f)
      next_by false kind.Lot c p f x = next_lot (λ b. served_as false (enter_lot e.lot_size b) p tt) (λ k. served_as false (hand_in k) p tt) (call_is c (enter_lot e.lot_size []) f x)
      next_by false kind.SecondSample c p f x = next_second (λ b. served_as false (enter_second (due_number st.waiting) b) p tt) (served_as false reissue p tt) (call_is c (enter_second (due_number st.waiting) []) f x)
      next_by false kind.Relief c p f x = next_relief (served_as false grant_relief p tt) (call_is c grant_relief f x)
      next_by false kind.IrregularNotice c p f x = next_notice (served_as false report_irregular p tt) (call_is c report_irregular f x)
      next_by false kind.Spoiled c p f x = absurd (no_call c f)

      next : (replay_one r st es e).unsound ≡ None → Next
      next h = let x = replayed st es e sd h in next_by r.portions e.kind x.0 refl x.1 x.2

    -- a whole book, entry by entry
    module _ (shows : Shows r score) where
      reach_book : (later : List Entry) (st : Standing C) (es : List Entry) (n : ℕ) → st.unsound ≡ None → is_out st.waiting ≡ false → (replay_on r st es later).unsound ≡ None
          → Reaches st es (length later + n) (replay_on r st es later) (es ++ later) n
      reach_book [] st es n sd sl h = ([], tt, λ _. (refl, sym (append-nil es), omega arith))
      reach_book (e ∷ later) st es n sd sl h =
          let hd : (replay_one r st es e).unsound ≡ None = first_sound later (replay_one r st es e) (es ++ e ∷ []) h in
          let x = replayed st es e sd hd in
          let one : Reaches st es (suc (length later + n)) (replay_one r st es e) (es ++ e ∷ []) (length later + n) = next shows st es (length later + n) e sd sl hd in
          let rest = reach_book later (replay_one r st es e) (es ++ e ∷ []) n hd (ap (λ (s : Standing C). is_out s.waiting) x.2.gives ∙ moved_in (takes r (showing e.tally) x.0 (with_slip true st) es).standing.waiting) h in
          let m : suc (length later) + n ≡ suc (length later + n) = omega arith in
          reach_as (reach_both (subst (λ i. Reaches st es i (replay_one r st es e) (es ++ e ∷ []) (length later + n)) (sym m) one) rest) refl (append_assoc es (e ∷ []) later) refl

      set_on : (es : List Entry) (n : ℕ) → (replay r es).unsound ≡ None → Reaches (fresh r) [] (length es + n) (replay r es) es n
      set_on es n h = reach_book es (fresh r) [] n refl refl h

  pub set_on_a_run : SetOnARun r
  set_on_a_run score shows es room h =
      let p = set_on score shows es room h in
      let q = p.2 [] in
      (p.0, p.1, q.0, q.1, q.2)

  pub sound_exactly : SoundExactly r
  sound_exactly score bounded shows es = (
    (λ h. let p = set_on_a_run score shows es 0 h in (length es + 0, p.0, p.1, p.3)),
    (λ w.
        let x = run r score w.1 w.0 in
        let e : replay r x.entries ≡ with_slip false x.standing = stands_on_its_book r score bounded w.0 w.1 w.2 in
        sym (ap (λ l. (replay r l).unsound) w.3) ∙ ap (λ (s : Standing C). s.unsound) e ∙ run_sound score w.1 [] (fresh r) [] w.0),
  )

  -- the number that a sound line gets where an entry makes it unsound
  some_same : (a b : ℕ) → ◌≡◌ {A = Option ℕ} (Some a) (Some b) → b ≡ a
  some_same a b e = cc

  held_number : (e : Entry) (x : Option Refusal) (k : Taken C) (n m : ℕ) (st : Standing C) → k.standing.unsound ≡ None → (held_to e x k (unsound_at n st)).unsound ≡ Some m → m ≡ n
  held_number e (Some x) k n m st s h = some_same n m h
  held_number e None k n m st s h = by (is_entry e k.writes) refl
    where
      by : (b : Bool) → is_entry e k.writes ≡ b → m ≡ n
      by true q = absurd (some_not_none m (sym h ∙ ap (λ b. (let z : Standing C = cond b (with_slip false k.standing) (unsound_at n st) in z.unsound)) q ∙ s))
      by false q = some_same n m (sym (ap (λ b. (let z : Standing C = cond b (with_slip false k.standing) (unsound_at n st) in z.unsound)) q) ∙ h)

  number_here : (st : Standing C) (es : List Entry) (e : Entry) (m : ℕ) → st.unsound ≡ None → (replay_one r st es e).unsound ≡ Some m → m ≡ length es + 1
  number_here st es e m sd h = by (call_for r.portions e.kind e.lot_size (due_number st.waiting)) refl
    where
      open_up : replay_one r st es e ≡ replayed_by r (call_for r.portions e.kind e.lot_size (due_number st.waiting)) e st es
      open_up = ap (λ o. (let y : Standing C = elim o [ Some n ↦ st | None ↦ replayed_by r (call_for r.portions e.kind e.lot_size (due_number st.waiting)) e st es ] in y)) sd

      by : (o : Option Call) → call_for r.portions e.kind e.lot_size (due_number st.waiting) ≡ o → m ≡ length es + 1
      by None q = some_same (length es + 1) m (sym (ap (λ (s : Standing C). s.unsound) (open_up ∙ ap (λ o. replayed_by r o e st es) q)) ∙ h)
      by (Some c) q =
          held_number e (refuses r (showing e.tally) c (with_slip true st) es 1) (takes r (showing e.tally) c (with_slip true st) es) (length es + 1) m st
          (takes_sound (showing e.tally) c (with_slip true st) es ∙ sd)
          (sym (ap (λ (s : Standing C). s.unsound) (open_up ∙ ap (λ o. replayed_by r o e st es) q)) ∙ h)

  -- the first entry that makes a book unsound
  first_at : (later : List Entry) (st : Standing C) (es : List Entry) (k : ℕ) → st.unsound ≡ None → (replay_on r st es later).unsound ≡ Some k
      → (a : List Entry) × (e : Entry) × (z : List Entry) × (later ≡ a ++ e ∷ z) × (k ≡ length es + length a + 1) × ((replay_on r st es a).unsound ≡ None) × ((replay_on r st es (a ++ e ∷ [])).unsound ≡ Some k)
  first_at [] st es k sd h = absurd (some_not_none k (sym h ∙ sd))
  first_at (x ∷ later) st es k sd h = by (replay_one r st es x).unsound refl (first_at later (replay_one r st es x) (es ++ x ∷ []) k)
    where
      by : (o : Option ℕ) → (replay_one r st es x).unsound ≡ o
          → ((replay_one r st es x).unsound ≡ None → (replay_on r (replay_one r st es x) (es ++ x ∷ []) later).unsound ≡ Some k
          → (a : List Entry) × (e : Entry) × (z : List Entry) × (later ≡ a ++ e ∷ z) × (k ≡ length (es ++ x ∷ []) + length a + 1) × ((replay_on r (replay_one r st es x) (es ++ x ∷ []) a).unsound ≡ None) × ((replay_on r (replay_one r st es x) (es ++ x ∷ []) (a ++ e ∷ [])).unsound ≡ Some k))
          → (a : List Entry) × (e : Entry) × (z : List Entry) × (x ∷ later ≡ a ++ e ∷ z) × (k ≡ length es + length a + 1) × ((replay_on r st es a).unsound ≡ None) × ((replay_on r st es (a ++ e ∷ [])).unsound ≡ Some k)
      by None q ih =
          let p = ih q h in
          (x ∷ p.0, p.1, p.2, ap {B = List Entry} (λ l. x ∷ l) p.3, omega (arith, p.4, length-append es (x ∷ [])), p.5, p.6)
      by (Some m) q ih =
          let same : (replay_one r st es x).unsound ≡ Some k = sym (ap (λ (s : Standing C). s.unsound) (stays_unsound later (replay_one r st es x) (es ++ x ∷ []) m q)) ∙ h in
          ([], x, later, refl, omega (arith, number_here st es x k sd same), sd, same)

  pub first_unsound : FirstUnsound r
  first_unsound es k h =
      let p = first_at es (fresh r) [] k refl h in
      (p.0, p.1, p.2, p.3, omega (arith, p.4), p.5, p.6)

  -- an unsound line refuses everything
  refuses_on : (score : ℕ → List ℕ → Result Tally Refusal) (calls : List Call) (h : List Event) (st : Standing C) (es : List Entry) (room k : ℕ) → st.unsound ≡ Some k
      → go r score calls h st es room ≡ record { events = all_refused (BookUnsound k) calls h; standing = st; entries = es; room = room }
  refuses_on score [] h st es room k e = refl
  refuses_on score (c ∷ cs) h st es room k e =
      let p : refuses r score c st es room ≡ Some (BookUnsound k) = ap (λ o. (let y : Option Refusal = elim o [ Some k ↦ Some (BookUnsound k) | None ↦ refuses_sound r score c st es room ] in y)) e in
      ap (λ o. (let x = settled o (takes r score c st es) st es room in go r score cs (ev c x.answer ∷ h) x.standing x.entries x.room)) p
      ∙ refuses_on score cs (ev c (Err (BookUnsound k)) ∷ h) st es room k e

  pub unsound_refuses : UnsoundRefuses r
  unsound_refuses score es room k e calls = refuses_on score calls [] (replay r es) es room k e

  pub setting : Setting r
  setting = record { sound_exactly = sound_exactly; set_on_a_run = set_on_a_run; first_unsound = first_unsound; unsound_refuses = unsound_refuses }
