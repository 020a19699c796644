-- Every run of an on-line line from an empty book is earned.
use Rattle.std.proofs.Common.{◌≡◌, ℕ, ◌+◌, cond, not, List, [], ◌∷◌, ◌++◌, length, is_some, None, Result, sym, refl, ap, ◌∙◌, subst, arith}
use Rattle.std.proofs.lemmas.List.{append-nil}
use Rattle.inspection.specs.declared.status.Status.TheVariants.{Normal, Reduced}
use Rattle.inspection.specs.declared.verdict.Verdict.TheVariants.{Undecided}
use Rattle.inspection.specs.declared.kind.Kind.TheVariants as kind
use Rattle.inspection.specs.declared.tally.Tally.{Tally}
use Rattle.entries.specs.declared.entry.Entry.{Entry}
use Rattle.inspection.specs.declared.refusal.Refusal.{Refusal}
use Rattle.inspection.specs.declared.refusal.Refusal.TheVariants.{NoPeriodOpen, PeriodOpenAlready, NoRoom}
use Rattle.runs.specs.Spells.{turned}
use Rattle.regimes.specs.Portions.{portion_units}
use Rattle.runs.specs.History.{Call, open_period, enter_portion, end_period, enter_lot, enter_second, hand_in, reissue, grant_relief, report_irregular, Event, Fixed, Article, status, count, waiting, spell, period, stretch, refusal, first, fault, scored, is_rejected}
use Rattle.runs.specs.Earned.{PortionEarned}
use Rattle.runs.specs.declared.standing.Standing.{Standing}
use Rattle.runs.specs.Lines.{told, bare, fullness, turns, settled, refuses, takes, step}
use Rattle.regimes.specs.Portions.{Values}
use Rattle.regimes.specs.Portions.{portion_judged, values_after, on_line_rules}
use Rattle.runs.specs.Regimes.{no_rows}
use Rattle.runs.specs.Runs.{ForPortions, fresh}
use Rattle.regimes.proofs.Stretches.{judged_by_rows}
use Rattle.runs.proofs.Small.{no_portion_open, no_portion_end, same_refl, passes, sheet_same, room_test, room_after, reading_push, length_then}
use Rattle.runs.proofs.Stretch.{newest_verdict, newest_within, carry_then}
use Rattle.runs.proofs.Keeping.{first_of, fair_accepted, Sound, sound_empty, spell_few, one_more_period, by_article, sound_decided, spell_decided, sound_idle, spell_idle, same_standing, fx, book_of, now, Kept, turns_found, kept_step, relief_agrees, notice_agrees, relief_kept, notice_kept, earned_on}
use Rattle.runs.proofs.Stated.{EarnedOnLine}

module _ (score : ℕ → List ℕ → Result Tally Refusal) (room : ℕ) where
  abbrev fo : Fixed
  fo = fx on_line_rules no_rows score room

  abbrev carried : List Event → Values
  carried h = values_after (status h) (stretch fo h)

  abbrev Extra : List Event → Type 0
  Extra h = waiting fo h ≡ None

  abbrev st_of : List Event → Standing Values
  st_of h = now on_line_rules no_rows score room carried h

  abbrev bk_of : List Event → List Entry
  bk_of h = book_of on_line_rules no_rows score room h

  abbrev KeptO : List Event → Call → ℕ → Type 0
  KeptO h c n = Kept on_line_rules no_rows score room carried Extra h c (settled None (takes on_line_rules score c (st_of h) (bk_of h)) (st_of h) (bk_of h) n)

  open_agrees : (h : List Event) (n : ℕ) → n + count h ≡ room → refuses on_line_rules score open_period (st_of h) (bk_of h) n ≡ refusal fo h open_period
  open_agrees h n rm = ap (λ m. first ((is_some (period fo h), PeriodOpenAlready) ∷ (m, NoRoom) ∷ []) None) (room_test n (count h) room rm)

  portion_agrees : (h : List Event) (b : List ℕ) (n : ℕ) → n + count h ≡ room → refuses on_line_rules score (enter_portion b) (st_of h) (bk_of h) n ≡ refusal fo h (enter_portion b)
  portion_agrees h b n rm = ap (λ m. first ((not (is_some (period fo h)), NoPeriodOpen) ∷ (m, NoRoom) ∷ []) (fault (score (portion_units (status h)) b))) (room_test n (count h) room rm)

  end_agrees : (h : List Event) (n : ℕ) → n + count h ≡ room → refuses on_line_rules score end_period (st_of h) (bk_of h) n ≡ refusal fo h end_period
  end_agrees h n rm = ap (λ m. first ((not (is_some (period fo h)), NoPeriodOpen) ∷ (m, NoRoom) ∷ []) None) (room_test n (count h) room rm)

  open_kept : (h : List Event) (n : ℕ) → Sound fo h → Extra h → n + count h ≡ room → refusal fo h open_period ≡ None → KeptO h open_period n
  open_kept h n k x rm e =
      let p1 = passes _ _ _ e in
      let p2 = passes _ _ _ p1.1 in
      let y = told Undecided (status h) None in
      record {
        fair = fair_accepted fo h open_period y e (refl, refl) (λ b q. absurd (no_portion_open b q)) refl;
        stands = same_standing _ _ refl (ap length (sym (spell_idle fo h open_period y refl refl))) refl refl (ap (λ b. values_after (status h) (cond b [] [])) (sym (same_refl (status h)))) refl;
        book = refl;
        room_left = room_after n (count h) room rm (room_test n (count h) room rm ∙ p2.0);
        sound = sound_idle fo h open_period y k refl refl refl (reading_push (record { articles = []; first_sample = None }) (bk_of h) (bare kind.PeriodOpened (status h) Undecided)) refl;
        extra = x;
      }

  end_kept : (h : List Event) (n : ℕ) → Sound fo h → Extra h → n + count h ≡ room → refusal fo h end_period ≡ None → KeptO h end_period n
  end_kept h n k x rm e =
      let p1 = passes _ _ _ e in
      let p2 = passes _ _ _ p1.1 in
      let y = told (fullness (period fo h)) (status h) None in
      record {
        fair = fair_accepted fo h end_period y e (refl, (λ m q. ap fullness q)) (λ b q. absurd (no_portion_end b q)) refl;
        stands = same_standing _ _ refl (ap length (sym (spell_idle fo h end_period y refl refl))) refl refl (ap (values_after (status h)) (sym (append-nil (stretch fo h))) ∙ ap (λ b. values_after (status h) (cond b (stretch fo h ++ []) [])) (sym (same_refl (status h)))) refl;
        book = refl;
        room_left = room_after n (count h) room rm (room_test n (count h) room rm ∙ p2.0);
        sound = sound_idle fo h end_period y k refl refl refl (reading_push (record { articles = []; first_sample = None }) (bk_of h) (bare kind.PeriodEnded (status h) (fullness (period fo h)))) refl;
        extra = x;
      }

  -- the verdict is the overruns'
  portion_earned : (h : List Event) (b : List ℕ) → PortionEarned fo h b (portion_judged (status h) (scored (score (portion_units (status h)) b)) (carried h)).0
  portion_earned h b =
      let s = status h in
      let t = scored (score (portion_units s) b) in
      let xs = stretch fo h in
      let rows = judged_by_rows s (xs ++ t ∷ []) in
      let is = newest_verdict s xs t in
      let here = newest_within xs t in (
        rows.over,
        rows.marks,
        ((λ v. (rows.rejected (length xs) here).0 (is ∙ v)), (λ w. sym is ∙ (rows.rejected (length xs) here).1 w)),
        ((λ v. (rows.accepted (length xs) here).0 (is ∙ v)), (λ w. sym is ∙ (rows.accepted (length xs) here).1 w)),
      )

  portion_kept : (h : List Event) (b : List ℕ) (n : ℕ) → Sound fo h → Extra h → n + count h ≡ room → refusal fo h (enter_portion b) ≡ None → KeptO h (enter_portion b) n
  portion_kept h b n k x rm e =
      let p1 = passes _ _ _ e in
      let p2 = passes _ _ _ p1.1 in
      let s = status h in
      let u = portion_units s in
      let t = scored (score u b) in
      let v = (portion_judged s t (carried h)).0 in
      let a : Article = record { rejected = is_rejected v; units = u; tally = t } in
      let w = turns on_line_rules (st_of h) (bk_of h) a in
      let ew = turns_found on_line_rules no_rows score room carried Extra h a k in
      let y = told v (cond w (turned s) s) None in
      let en : Entry = record { kind = kind.Portion; status = s; verdict = v; lot_size = 0; units = u; tally = t } in
      record {
        fair = fair_accepted fo h (enter_portion b) y e refl (λ d q. subst (λ (l : List ℕ). PortionEarned fo h l v) (sheet_same b d q) (portion_earned h b)) (by_article fo h a w k ew);
        stands = same_standing _ _ refl (length_then w (spell fo h) a (spell_few fo h k p2.0) ∙ ap length (sym (spell_decided fo h (enter_portion b) y a w refl refl))) (one_more_period fo h b k p2.0) refl (carry_then w s (stretch fo h) t) refl;
        book = refl;
        room_left = room_after n (count h) room rm (room_test n (count h) room rm ∙ p2.0);
        sound = sound_decided fo h (enter_portion b) y a en w k ew refl refl refl refl refl (k.sampled ∙ ap (first_of no_rows s) x ∙ ap (first_of no_rows (cond w (turned s) s)) (sym x));
        extra = x;
      }

  by_step : (h : List Event) (c : Call) (n : ℕ) → Sound fo h → Extra h → n + count h ≡ room → refuses on_line_rules score c (st_of h) (bk_of h) n ≡ refusal fo h c
      → (refusal fo h c ≡ None → KeptO h c n) → Kept on_line_rules no_rows score room carried Extra h c (step on_line_rules score c (st_of h) (bk_of h) n)
  by_step h c n k x rm same taken = kept_step on_line_rules no_rows score room carried Extra (λ h c x. refl) (λ h c x e. e) h c n k x rm same taken

  each : (h : List Event) (c : Call) (n : ℕ) → ForPortions c → Sound fo h → Extra h → n + count h ≡ room → Kept on_line_rules no_rows score room carried Extra h c (step on_line_rules score c (st_of h) (bk_of h) n)
  each h open_period n p k x rm = by_step h open_period n k x rm (open_agrees h n rm) (open_kept h n k x rm)
  each h (enter_portion b) n p k x rm = by_step h (enter_portion b) n k x rm (portion_agrees h b n rm) (portion_kept h b n k x rm)
  each h end_period n p k x rm = by_step h end_period n k x rm (end_agrees h n rm) (end_kept h n k x rm)
  each h (enter_lot z b) n p k x rm = absurd p
  each h (enter_second i b) n p k x rm = absurd p
  each h (hand_in i) n p k x rm = absurd p
  each h reissue n p k x rm = absurd p
  each h grant_relief n p k x rm = by_step h grant_relief n k x rm (relief_agrees on_line_rules no_rows score room carried Extra h n k rm)
      (relief_kept on_line_rules no_rows score room carried Extra h n k rm (λ d _. ap (λ b. values_after Reduced (cond b (stretch fo h ++ []) [])) d) (λ w. w))
  each h report_irregular n p k x rm = by_step h report_irregular n k x rm (notice_agrees on_line_rules no_rows score room carried Extra h n rm)
      (notice_kept on_line_rules no_rows score room carried Extra h n k rm (λ d _. ap (λ b. values_after Normal (cond b (stretch fo h ++ []) [])) d) (λ w. w))

pub earned_on_line : EarnedOnLine
earned_on_line score room few calls p =
    earned_on on_line_rules no_rows score room (carried score room) (Extra score room) ForPortions (each score room) calls [] (fresh on_line_rules) [] room p tt (sound_empty (fo score room) (omega arith) few) refl (omega arith) refl refl
