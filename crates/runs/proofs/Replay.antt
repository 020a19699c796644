-- A line set on the book that a run wrote stands as the run left it, but for the slip; so the two go on alike.
use Rattle.std.proofs.Common.{◌≡◌, ℕ, zero, suc, ◌+◌, ◌*◌, ◌≤◌, Bool, true, false, cond, not, eqb, ltb, leb, List, [], ◌∷◌, ◌++◌, length, is_some, Some, None, Ok, Err, Option, Result, sym, refl, ap, ◌∙◌, subst, ap₂, arith}
use Rattle.std.proofs.lemmas.List.{append-nil, append_assoc}
use Rattle.std.proofs.lemmas.Bool.{eqb-true, eq-eqb, and_parts, and_from, le-leb, not-false, not_from_true}
use Rattle.inspection.specs.declared.verdict.Verdict.{Verdict}
use Rattle.inspection.specs.declared.verdict.Verdict.TheVariants.{Accepted, Rejected, Awaited, Full, Brief, Undecided}
use Rattle.inspection.specs.declared.kind.Kind.{Kind}
use Rattle.inspection.specs.declared.kind.Kind.TheVariants as kind
use Rattle.inspection.specs.declared.tally.Tally.{Tally}
use Rattle.entries.specs.declared.entry.Entry.{Entry}
use Rattle.inspection.specs.declared.refusal.Refusal.{Refusal}
use Rattle.inspection.specs.declared.refusal.Refusal.TheVariants.{SheetLineNotOfForm, NoPeriodOpen, PeriodOpenAlready, LotAwaits, NoLotAwaits, LotSizeOutOfRange, ReliefOffNormal, SpellTooShort, TooManyRejected, TooFewUnits, DefectsAboveLimit, NoticeOffReduced, NoRoom, BookUnsound}
use Rattle.inspection.specs.declared.status.Status.TheVariants.{Normal, Reduced}
use Rattle.inspection.specs.declared.class.JudgedClass.TheVariants.{Total}
use Rattle.inspection.specs.Classes.{count_of}
use Rattle.runs.specs.Spells.{rejections}
use Rattle.inspection.specs.Statuses.{same_status}
use Rattle.runs.specs.History.{Call, open_period, enter_portion, end_period, enter_lot, enter_second, hand_in, reissue, grant_relief, report_irregular, Event, Article, is_awaited, is_rejected, no_defects, first, fault, scored, verdicts, units_of, above}
use Rattle.regimes.specs.Rules.{Rules}
use Rattle.runs.specs.declared.standing.Standing.{Standing}
use Rattle.runs.specs.declared.standing.Taken.{Taken}
use Rattle.runs.specs.Lines.{reading, or_zero, due_size, due_number, has_slip, slip_moved, put, with_slip, awaiting, settled, in_window, sample, after_article, portion_taken, lot_taken, second_taken, refuses_sound, refuses, takes, step}
use Rattle.runs.specs.Runs.{go, run, fresh, verdict_code, kind_code, same_entry, is_entry, call_for, showing, unsound_at, held_to, replayed_by, replay_one, replay_on, replay, Bounded, ServedBy, Served, Each}
use Rattle.runs.proofs.Small.{same_refl, same_true, passes, scored_ok}
use Rattle.runs.proofs.Slips.{moved_number, moved_size, slip_own, with_again, with_there, lot_unmoved, relief_unmoved, notice_unmoved}
use Rattle.runs.proofs.Keeping.{ev}
use Rattle.runs.proofs.Stated.{StandsOnItsBook, GoesOnAlike, SameEntryExactly}

-- equal entries
verdict_at : ℕ → Verdict
verdict_at zero = Accepted
verdict_at (suc zero) = Rejected
verdict_at (suc (suc zero)) = Awaited
verdict_at (suc (suc (suc zero))) = Full
verdict_at (suc (suc (suc (suc zero)))) = Brief
verdict_at (suc (suc (suc (suc (suc n))))) = Undecided

verdict_back : (v : Verdict) → verdict_at (verdict_code v) ≡ v
unfolding verdict_at
verdict_back Accepted = refl
verdict_back Rejected = refl
verdict_back Awaited = refl
verdict_back Full = refl
verdict_back Brief = refl
verdict_back Undecided = refl

kind_at : ℕ → Kind
kind_at zero = kind.PeriodOpened
kind_at (suc zero) = kind.Portion
kind_at (suc (suc zero)) = kind.PeriodEnded
kind_at (suc (suc (suc zero))) = kind.Lot
kind_at (suc (suc (suc (suc zero)))) = kind.SecondSample
kind_at (suc (suc (suc (suc (suc zero))))) = kind.Relief
kind_at (suc (suc (suc (suc (suc (suc zero)))))) = kind.IrregularNotice
kind_at (suc (suc (suc (suc (suc (suc (suc n))))))) = kind.Spoiled

kind_back : (k : Kind) → kind_at (kind_code k) ≡ k
unfolding kind_at
kind_back kind.PeriodOpened = refl
kind_back kind.Portion = refl
kind_back kind.PeriodEnded = refl
kind_back kind.Lot = refl
kind_back kind.SecondSample = refl
kind_back kind.Relief = refl
kind_back kind.IrregularNotice = refl
kind_back kind.Spoiled = refl

same_verdict : (a b : Verdict) → eqb (verdict_code a) (verdict_code b) ≡ true → a ≡ b
same_verdict a b e = sym (verdict_back a) ∙ ap verdict_at (eqb-true (verdict_code a) (verdict_code b) e) ∙ verdict_back b

same_kind : (a b : Kind) → eqb (kind_code a) (kind_code b) ≡ true → a ≡ b
same_kind a b e = sym (kind_back a) ∙ ap kind_at (eqb-true (kind_code a) (kind_code b) e) ∙ kind_back b

self : (n : ℕ) → eqb n n ≡ true
self n = eq-eqb n n refl

entry_refl : (a : Entry) → same_entry a a ≡ true
entry_refl a =
    and_from _ _ (self (kind_code a.kind)) (and_from _ _ (same_refl a.status) (and_from _ _ (self (verdict_code a.verdict)) (and_from _ _ (self a.lot_size) (and_from _ _ (self a.units)
    (and_from _ _ (self a.tally.critical) (and_from _ _ (self a.tally.major) (self a.tally.minor)))))))

entry_same : (a b : Entry) → same_entry a b ≡ true → a ≡ b
entry_same a b e =
    let p1 = and_parts (eqb (kind_code a.kind) (kind_code b.kind)) _ e in
    let p2 = and_parts _ _ p1.1 in
    let p3 = and_parts _ _ p2.1 in
    let p4 = and_parts _ _ p3.1 in
    let p5 = and_parts _ _ p4.1 in
    let p6 = and_parts _ _ p5.1 in
    let p7 = and_parts _ _ p6.1 in
    let q1 : a.kind ≡ b.kind = same_kind a.kind b.kind p1.0 in
    let q2 = same_true a.status b.status p2.0 in
    let q3 = same_verdict a.verdict b.verdict p3.0 in
    let q4 = eqb-true a.lot_size b.lot_size p4.0 in
    let q5 = eqb-true a.units b.units p5.0 in
    let q6 = eqb-true a.tally.critical b.tally.critical p6.0 in
    let q7 = eqb-true a.tally.major b.tally.major p7.0 in
    let q8 = eqb-true a.tally.minor b.tally.minor p7.1 in
    λ i. record { kind = q1 i; status = q2 i; verdict = q3 i; lot_size = q4 i; units = q5 i; tally = record { critical = q6 i; major = q7 i; minor = q8 i } }

pub same_entry_exactly : SameEntryExactly
same_entry_exactly a b = (entry_same a b, (λ e. subst (λ x. same_entry a x ≡ true) e (entry_refl a)))

-- a shown tally within its bound is scored
shown : (t : Tally) (u : ℕ) (b : List ℕ) → count_of Total t ≤ 9 * u → showing t u b ≡ Ok t
shown t u b h = ap (λ (q : Bool). (let x : Result Tally Refusal = cond q (Ok t) (Err (SheetLineNotOfForm 1)) in x)) (le-leb (count_of Total t) (9 * u) h)

-- the same refusals with room, and with another sheet that has no fault
roomy : (q m : Bool) (x y : Refusal) (o : Option Refusal) → cond q (Some x) (cond m (Some y) o) ≡ None → cond q (Some x) o ≡ None
roomy q m x y o e =
    let p1 = passes q x _ e in
    let p2 = passes m y _ p1.1 in
    ap₂ (λ a c. cond a (Some x) c) p1.0 p2.1

reslip : (q q' m p : Bool) (x y z : Refusal) (o o' : Option Refusal) → cond q (Some x) (cond m (Some y) (cond p (Some z) o)) ≡ None → q' ≡ false → o' ≡ None → cond q' (Some x) (cond p (Some z) o') ≡ None
reslip q q' m p x y z o o' e f g =
    let p2 = passes m y _ (passes q x _ e).1 in
    let p3 = passes p z _ p2.1 in
    ap₂ (λ a c. cond a (Some x) c) f (ap₂ (λ a c. cond a (Some z) c) p3.0 g)

resheet : (q m p : Bool) (x y z : Refusal) (o o' : Option Refusal) → cond q (Some x) (cond m (Some y) (cond p (Some z) o)) ≡ None → o' ≡ None → cond q (Some x) (cond p (Some z) o') ≡ None
resheet q m p x y z o o' e e' =
    let p1 = passes q x _ e in
    let p2 = passes m y _ p1.1 in
    let p3 = passes p z _ p2.1 in
    ap₂ (λ a c. cond a (Some x) c) p1.0 (ap₂ (λ a c. cond a (Some z) c) p3.0 e')

last_none : (q m p : Bool) (x y z : Refusal) (o : Option Refusal) → cond q (Some x) (cond m (Some y) (cond p (Some z) o)) ≡ None → o ≡ None
last_none q m p x y z o e = (passes p z o (passes m y _ (passes q x _ e).1).1).1

module _ {C : Type 0} (r : Rules C) where
  replay_push : (st : Standing C) (es later : List Entry) (e : Entry) → replay_on r st es (later ++ e ∷ []) ≡ replay_one r (replay_on r st es later) (es ++ later) e
  replay_push st es [] e = ap (λ x. replay_one r st x e) (sym (append-nil es))
  replay_push st es (x ∷ later) e =
      replay_push (replay_one r st es x) (es ++ x ∷ []) later e
      ∙ ap (λ l. replay_one r (replay_on r (replay_one r st es x) (es ++ x ∷ []) later) l e) (append_assoc es (x ∷ []) later)

  -- the refusal of a sound line
  sound_refuses : (score : ℕ → List ℕ → Result Tally Refusal) (c : Call) (st : Standing C) (es : List Entry) (n : ℕ) → refuses r score c st es n ≡ None → (st.unsound ≡ None) × (refuses_sound r score c st es n ≡ None)
  sound_refuses score c st es n = at st.unsound
    where
      at : (o : Option ℕ) → (let y : Option Refusal = elim o [ Some k ↦ Some (BookUnsound k) | None ↦ refuses_sound r score c st es n ] in y) ≡ None → (o ≡ None) × (refuses_sound r score c st es n ≡ None)
      at None e = (refl, e)
      at (Some k) e = (cc, (let z : ◌≡◌ {A = ℕ} 0 1 = cc in absurd (omega arith)))

  module _ (st : Standing C) (es : List Entry) (e : Entry) (c : Call) (sd : st.unsound ≡ None) where
    abbrev lent : Standing C
    lent = with_slip true st

    abbrev bad : Standing C
    bad = unsound_at (length es + 1) (with_slip false st)

    -- one entry that the call c writes, replayed
    replays : call_for r.portions e.kind e.lot_size (due_number st.waiting) ≡ Some c
        → refuses_sound r (showing e.tally) c lent es 1 ≡ None
        → (takes r (showing e.tally) c lent es).writes ≡ Some e
        → replay_one r (with_slip false st) es e ≡ with_slip false (takes r (showing e.tally) c lent es).standing
    replays ec er ew =
        ap (λ o. (let y : Standing C = elim o [ Some n ↦ with_slip false st | None ↦ replayed_by r (call_for r.portions e.kind e.lot_size (due_number (slip_moved false st.waiting))) e (with_slip false st) es ] in y)) sd
        ∙ ap (λ i. replayed_by r (call_for r.portions e.kind e.lot_size i) e (with_slip false st) es) (moved_number false st.waiting)
        ∙ ap (λ o. replayed_by r o e (with_slip false st) es) ec
        ∙ ap (λ s. held_to e (refuses r (showing e.tally) c s es 1) (takes r (showing e.tally) c s es) bad) (with_again true false st)
        ∙ ap (λ o. held_to e o (takes r (showing e.tally) c lent es) bad) (ap (λ o. (let y : Option Refusal = elim o [ Some k ↦ Some (BookUnsound k) | None ↦ refuses_sound r (showing e.tally) c lent es 1 ] in y)) sd ∙ er)
        ∙ ap (λ o. cond (is_entry e o) (with_slip false (takes r (showing e.tally) c lent es).standing) bad) ew
        ∙ ap (λ q. cond q (with_slip false (takes r (showing e.tally) c lent es).standing) bad) (entry_refl e)

  pub quiet_cond : (q : Bool) (a b a' b' : Standing C) → with_slip false a ≡ with_slip false a' → with_slip false b ≡ with_slip false b' → with_slip false (cond q a b) ≡ with_slip false (cond q a' b')
  quiet_cond true a b a' b' x y = x
  quiet_cond false a b a' b' x y = y

  on_line_only : (q : Bool) (c d : Call) (k : Kind) (z i : ℕ) → ServedBy q c → (ServedBy false c → ⊥) → call_for true k z i ≡ Some d → call_for q k z i ≡ Some d
  on_line_only true c d k z i s n e = e
  on_line_only false c d k z i s n e = absurd (n s)

  lots_only : (q : Bool) (c d : Call) (k : Kind) (z i : ℕ) → ServedBy q c → (ServedBy true c → ⊥) → call_for false k z i ≡ Some d → call_for q k z i ≡ Some d
  lots_only true c d k z i s n e = absurd (n s)
  lots_only false c d k z i s n e = e

  either_line : (q : Bool) (d : Call) (k : Kind) (z i : ℕ) → call_for true k z i ≡ Some d → call_for false k z i ≡ Some d → call_for q k z i ≡ Some d
  either_line true d k z i a b = a
  either_line false d k z i a b = b

  module _ (score : ℕ → List ℕ → Result Tally Refusal) (bounded : Bounded score) where
    -- the sheet of an accepted sample, shown again
    again : (u : ℕ) (b : List ℕ) → fault (score u b) ≡ None → showing (scored (score u b)) u [] ≡ Ok (scored (score u b))
    again u b e = shown (scored (score u b)) u [] (bounded u b (scored (score u b)) (scored_ok (score u b) e))

    module _ (st : Standing C) (es : List Entry) (n : ℕ) (sd : st.unsound ≡ None) (at : replay r es ≡ with_slip false st) where
      pushed : (e : Entry) → replay r (es ++ e ∷ []) ≡ replay_one r (with_slip false st) es e
      pushed e = replay_push (fresh r) [] es e ∙ ap (λ s. replay_one r s es e) at

      abbrev Same : Call → Type 0
      Same c = Served r c → refuses_sound r score c st es n ≡ None → replay r (put (takes r score c st es).writes es) ≡ with_slip false (takes r score c st es).standing

      same_portion : (b : List ℕ) → Same (enter_portion b)
      same_portion b sv er =
          let u = or_zero (sample r st 0) in
          let t = scored (score u b) in
          let sh = again u b (last_none (not (is_some st.period)) (leb n 0) (not (is_some (sample r st 0))) NoPeriodOpen NoRoom LotSizeOutOfRange (fault (score u b)) er) in
          let e : Entry = record { kind = kind.Portion; status = st.status; verdict = (r.judged st.status 0 t st.carried).0; lot_size = 0; units = u; tally = t } in
          let eq : takes r (showing t) (enter_portion []) (with_slip true st) es ≡ portion_taken r u t (r.judged st.status 0 t st.carried) (with_slip true st) es = ap (λ x. portion_taken r u (scored x) (r.judged st.status 0 (scored x) st.carried) (with_slip true st) es) sh in
          pushed e
          ∙ replays st es e (enter_portion []) sd (on_line_only r.portions (enter_portion b) (enter_portion []) kind.Portion 0 (due_number st.waiting) sv (λ x. x) refl) (resheet (not (is_some st.period)) (leb n 0) (not (is_some (sample r st 0))) NoPeriodOpen NoRoom LotSizeOutOfRange (fault (score u b)) (fault (showing t u [])) er (ap fault sh)) (ap (λ (k : Taken C). k.writes) eq)
          ∙ ap (λ (k : Taken C). with_slip false k.standing) eq
          ∙ with_again false true (takes r score (enter_portion b) st es).standing

      same_lot : (z : ℕ) (b : List ℕ) → Same (enter_lot z b)
      same_lot z b sv er =
          let u = or_zero (sample r st z) in
          let t = scored (score u b) in
          let x = r.judged st.status z t st.carried in
          let sh = again u b (last_none (is_some st.waiting) (leb n 0) (not (is_some (sample r st z))) LotAwaits NoRoom LotSizeOutOfRange (fault (score u b)) er) in
          let e : Entry = record { kind = kind.Lot; status = st.status; verdict = x.0; lot_size = z; units = u; tally = t } in
          let a : Article = record { rejected = is_rejected x.0; units = u; tally = t } in
          let eq : takes r (showing t) (enter_lot z []) (with_slip true st) es ≡ lot_taken r z u t x (with_slip true st) es = ap (λ d. lot_taken r z u (scored d) (r.judged st.status z (scored d) st.carried) (with_slip true st) es) sh in
          pushed e
          ∙ replays st es e (enter_lot z []) sd (lots_only r.portions (enter_lot z b) (enter_lot z []) kind.Lot z (due_number st.waiting) sv (λ x. x) refl) (lot_unmoved r (showing t) true st es 1 z [] ∙ resheet (is_some st.waiting) (leb n 0) (not (is_some (sample r st z))) LotAwaits NoRoom LotSizeOutOfRange (fault (score u b)) (fault (showing t u [])) er (ap fault sh)) (ap (λ (k : Taken C). k.writes) eq)
          ∙ ap (λ (k : Taken C). with_slip false k.standing) eq
          ∙ quiet_cond (is_awaited x.0) (awaiting (length es + 1) z x.1 (with_slip true st)) (after_article r (with_slip true st) es a st.period None x.1) (awaiting (length es + 1) z x.1 st) (after_article r st es a st.period None x.1) refl refl

      same_second : (i : ℕ) (b : List ℕ) → Same (enter_second i b)
      same_second i b sv er =
          let z = due_size st.waiting in
          let u = or_zero (sample r st z) in
          let t = scored (score u b) in
          let x = r.judged st.status z t st.carried in
          let sh = again u b (last_none (not (has_slip i st.waiting)) (leb n 0) (not (is_some (sample r st z))) NoLotAwaits NoRoom LotSizeOutOfRange (fault (score u b)) er) in
          let e : Entry = record { kind = kind.SecondSample; status = st.status; verdict = x.0; lot_size = z; units = u; tally = t } in
          let eq : takes r (showing t) (enter_second (due_number st.waiting) []) (with_slip true st) es ≡ second_taken r z u t x (reading es).first_sample (with_slip true st) es =
          ap (λ m. second_taken r m (or_zero (sample r st m)) (scored (showing t (or_zero (sample r st m)) [])) (r.judged st.status m (scored (showing t (or_zero (sample r st m)) [])) st.carried) (reading es).first_sample (with_slip true st) es) (moved_size true st.waiting)
          ∙ ap (λ d. second_taken r z u (scored d) (r.judged st.status z (scored d) st.carried) (reading es).first_sample (with_slip true st) es) sh in
          let own = slip_own i st.waiting (not-false (has_slip i st.waiting) (passes (not (has_slip i st.waiting)) NoLotAwaits (first ((leb n 0, NoRoom) ∷ (not (is_some (sample r st z)), LotSizeOutOfRange) ∷ []) (fault (score u b))) er).0) in
          pushed e
          ∙ replays st es e (enter_second (due_number st.waiting) []) sd (lots_only r.portions (enter_second i b) (enter_second (due_number st.waiting) []) kind.SecondSample z (due_number st.waiting) sv (λ x. x) refl) (ap (λ m. first ((not (has_slip (due_number st.waiting) (slip_moved true st.waiting)), NoLotAwaits) ∷ (not (is_some (sample r st m)), LotSizeOutOfRange) ∷ []) (fault (showing t (or_zero (sample r st m)) []))) (moved_size true st.waiting) ∙ reslip (not (has_slip i st.waiting)) (not (has_slip (due_number st.waiting) (slip_moved true st.waiting))) (leb n 0) (not (is_some (sample r st z))) NoLotAwaits NoRoom LotSizeOutOfRange (fault (score u b)) (fault (showing t u [])) er (not_from_true (has_slip (due_number st.waiting) (slip_moved true st.waiting)) own) (ap fault sh)) (ap (λ (k : Taken C). k.writes) eq)
          ∙ ap (λ (k : Taken C). with_slip false k.standing) eq

      same : (c : Call) → Same c
      same open_period sv er = pushed _ ∙ replays st es _ open_period sd (on_line_only r.portions open_period open_period kind.PeriodOpened 0 (due_number st.waiting) sv (λ x. x) refl) (roomy (is_some st.period) (leb n 0) PeriodOpenAlready NoRoom None er) refl ∙ with_again false true (takes r score open_period st es).standing
      same (enter_portion b) sv er = same_portion b sv er
      same end_period sv er = pushed _ ∙ replays st es _ end_period sd (on_line_only r.portions end_period end_period kind.PeriodEnded 0 (due_number st.waiting) sv (λ x. x) refl) (roomy (not (is_some st.period)) (leb n 0) NoPeriodOpen NoRoom None er) refl ∙ with_again false true (takes r score end_period st es).standing
      same (enter_lot z b) sv er = same_lot z b sv er
      same (enter_second i b) sv er = same_second i b sv er
      same (hand_in i) sv er = at ∙ sym (with_again false false st)
      same reissue sv er = at ∙ sym (with_again false true st)
      same grant_relief sv er = pushed _ ∙ replays st es _ grant_relief sd (either_line r.portions grant_relief kind.Relief 0 (due_number st.waiting) refl refl) (relief_unmoved r (showing no_defects) true st es 1 ∙ roomy (is_some st.waiting) (leb n 0) LotAwaits NoRoom (first ((not (same_status st.status Normal), ReliefOffNormal) ∷ (ltb st.spell r.window, SpellTooShort) ∷ (ltb r.most_rejected (rejections (verdicts (in_window r st es))), TooManyRejected) ∷ (not (is_some (r.limits (units_of (in_window r st es)))), TooFewUnits) ∷ (above (in_window r st es) (r.limits (units_of (in_window r st es))), DefectsAboveLimit) ∷ []) None) er) refl ∙ with_again false true (takes r score grant_relief st es).standing
      same report_irregular sv er = pushed _ ∙ replays st es _ report_irregular sd (either_line r.portions report_irregular kind.IrregularNotice 0 (due_number st.waiting) refl refl) (notice_unmoved r (showing no_defects) true st es 1 ∙ roomy (is_some st.waiting) (leb n 0) LotAwaits NoRoom (first ((not (same_status st.status Reduced), NoticeOffReduced) ∷ []) None) er) refl ∙ with_again false true (takes r score report_irregular st es).standing

    one_step : (c : Call) (st : Standing C) (es : List Entry) (n : ℕ) → Served r c → replay r es ≡ with_slip false st
        → replay r (step r score c st es n).entries ≡ with_slip false (step r score c st es n).standing
    one_step c st es n sv at = by (refuses r score c st es n) refl
      where
        by : (o : Option Refusal) → refuses r score c st es n ≡ o → replay r (settled o (takes r score c st es) st es n).entries ≡ with_slip false (settled o (takes r score c st es) st es n).standing
        by None e = let p = sound_refuses score c st es n e in same st es n p.0 at c sv p.1
        by (Some x) e = at

    steps : (cs : List Call) (h : List Event) (st : Standing C) (es : List Entry) (n : ℕ) → Each (Served r) cs → replay r es ≡ with_slip false st
        → replay r (go r score cs h st es n).entries ≡ with_slip false (go r score cs h st es n).standing
    steps [] h st es n sv at = at
    steps (c ∷ cs) h st es n sv at =
        let o = step r score c st es n in
        steps cs (ev c o.answer ∷ h) o.standing o.entries o.room sv.1 (one_step c st es n sv.0 at)

  pub stands_on_its_book : StandsOnItsBook r
  stands_on_its_book score bounded room calls sv = steps score bounded calls [] (fresh r) [] room sv refl

  pub goes_on_alike : GoesOnAlike r
  goes_on_alike score bounded room calls more sv none =
      let x = run r score calls room in
      let e : x.standing ≡ replay r x.entries = sym (with_there false x.standing none) ∙ sym (stands_on_its_book score bounded room calls sv) in
      ap (λ s. go r score more [] s x.entries x.room) e
