-- Every run of a stationary line from an empty book is earned.
use Rattle.std.proofs.Common.{◌≡◌, ℕ, ◌+◌, ◌-◌, Bool, true, false, cond, not, eqb, leb, List, [], ◌∷◌, ◌++◌, length, is_some as option_is_some, Some, None, Option, Result, sym, refl, ap, ◌∙◌, subst, ap₂, subst₂, arith}
use Rattle.std.proofs.lemmas.List.{append-nil}
use Rattle.std.proofs.lemmas.Bool.{not-false, not_from_true}
use Rattle.inspection.specs.declared.status.Status.{Status}
use Rattle.inspection.specs.declared.status.Status.TheVariants.{Normal, Reduced}
use Rattle.inspection.specs.declared.verdict.Verdict.{Verdict}
use Rattle.inspection.specs.declared.verdict.Verdict.TheVariants.{Accepted, Rejected, Awaited, Undecided}
use Rattle.inspection.specs.declared.kind.Kind.TheVariants as kind
use Rattle.inspection.specs.declared.tally.Tally.{Tally}
use Rattle.entries.specs.declared.entry.Entry.{Entry}
use Rattle.inspection.specs.declared.refusal.Refusal.{Refusal}
use Rattle.inspection.specs.declared.refusal.Refusal.TheVariants.{LotAwaits, NoLotAwaits, SlipIsOut, LotSizeOutOfRange, NoRoom}
use Rattle.runs.specs.Spells.{turned}
use Rattle.regimes.specs.Lots.{added}
use Rattle.plans.specs.declared.rows.LotRow.{LotRow}
use Rattle.runs.specs.declared.standing.Reply.{Reply}
use Rattle.runs.specs.History.{Call, open_period, enter_portion, end_period, enter_lot, enter_second, hand_in, reissue, grant_relief, report_irregular, Event, Fixed, Article, Waiting, status, count, waiting, spell, slip_is_out, refusal, first, fault, scored, first_units, second_units, waited_size, is_number, awaits, is_rejected, entry_of, decided, listed}
use Rattle.plans.specs.Plans.{lot_row_kept}
use Rattle.regimes.proofs.Samples.{judged_by_numbers}
use Rattle.regimes.specs.Promises.{FirstJudged, BothJudged}
use Rattle.regimes.specs.Rules.{Limits}
use Rattle.runs.specs.Earned.{Ruled, ByArticle}
use Rattle.regimes.specs.Rules.{Rules}
use Rattle.runs.specs.declared.standing.Standing.{Standing}
use Rattle.runs.specs.declared.standing.WaitingLot.{WaitingLot}
use Rattle.runs.specs.declared.standing.Taken.{Taken}
use Rattle.runs.specs.Lines.{Sample, Reading, both, articles, reading, told, or_zero, due_size, is_out, has_slip, slip_of, turns, lot_taken, second_taken, settled, refuses, takes, step}
use Rattle.inspection.specs.Classes.{each_class, some_class}
use Rattle.regimes.specs.Lots.{accepts_first, rejects_first, first_judged, both_judged, lot_judged, lot_units}
use Rattle.runs.specs.Regimes.{lots_rules}
use Rattle.runs.specs.Runs.{ForLots, fresh}
use Rattle.runs.proofs.Small.{no_portion_lot, no_portion_second, no_portion_hand, no_portion_reissue, passes, is_some, not_none, room_test, room_after, reading_push, length_then}
use Rattle.runs.proofs.Keeping.{due_of, due_moved, first_of, fair_accepted, Sound, sound_empty, spell_few, by_article, sound_decided, spell_decided, sound_idle, sound_quiet, spell_idle, same_standing, fx, book_of, now, Kept, turns_found, kept_step, relief_agrees, notice_agrees, relief_kept, notice_kept, earned_on}
use Rattle.runs.proofs.Stated.{EarnedLots}

first_fair : (w : LotRow) (t : Tally) → lot_row_kept w ≡ true → FirstJudged w t (first_judged w t).0
first_fair w t kept = (judged_by_numbers w kept).first t

both_fair : (w : LotRow) (a t : Tally) → lot_row_kept w ≡ true → BothJudged w a t (both_judged w (added a t)).0
both_fair w a t kept = (judged_by_numbers w kept).both a t

-- verdicts are told apart
A≢W : Accepted ≡ Awaited → ⊥
A≢W e = let z : ◌≡◌ {A = ℕ} 0 1 = cc in omega arith

R≢W : Rejected ≡ Awaited → ⊥
R≢W e = let z : ◌≡◌ {A = ℕ} 0 1 = cc in omega arith

-- the first sample's tally that a line carries while a lot waits, and the row that the lot has
abbrev tally_of : Option Waiting → Option Tally
tally_of None = None
tally_of (Some l) = Some l.first

abbrev pub rowed : (Status → ℕ → Option LotRow) → Status → Option Waiting → Bool
rowed row s None = true
rowed row s (Some l) = option_is_some (row s l.size)

units_first : (o : Option LotRow) → or_zero (lot_units o None) ≡ first_units o
units_first None = refl
units_first (Some w) = refl

units_second : (o : Option LotRow) (a : Tally) → or_zero (lot_units o (Some a)) ≡ second_units o
units_second None a = refl
units_second (Some w) a = refl

-- refusals, with the waiting lot and its row taken apart
lot_first : (f : Fixed) (out : Bool) (w : Option Waiting) (o : Option LotRow) (m : Bool) (g : ℕ → Option Refusal)
    → first ((option_is_some (due_of out w), LotAwaits) ∷ (m, NoRoom) ∷ (not (option_is_some (lot_units o (tally_of w))), LotSizeOutOfRange) ∷ []) (g (or_zero (lot_units o (tally_of w))))
    ≡ first ((option_is_some w, LotAwaits) ∷ (m, NoRoom) ∷ (not (option_is_some o), LotSizeOutOfRange) ∷ []) (g (first_units o))
lot_first f out None None m g = refl
lot_first f out None (Some w) m g = refl
lot_first f out (Some l) o m g = refl

second_row : (o : Option LotRow) (a : Tally) (q m : Bool) (g : ℕ → Option Refusal) → option_is_some o ≡ true
    → first ((q, NoLotAwaits) ∷ (m, NoRoom) ∷ (not (option_is_some (lot_units o (Some a))), LotSizeOutOfRange) ∷ []) (g (or_zero (lot_units o (Some a))))
    ≡ first ((q, NoLotAwaits) ∷ (m, NoRoom) ∷ []) (g (second_units o))
second_row None a q m g e = let z : ◌≡◌ {A = ℕ} 0 1 = cc in absurd (omega arith)
second_row (Some w) a q m g e = refl

second_first : (f : Fixed) (row : ℕ → Option LotRow) (w : Option Waiting) (out : Bool) (k : ℕ) (m : Bool) (g : ℕ → Option Refusal) (s : Status) → rowed (λ _ z. row z) s w ≡ true
    → first ((not (has_slip k (due_of out w)), NoLotAwaits) ∷ (m, NoRoom) ∷ (not (option_is_some (lot_units (row (due_size (due_of out w))) (tally_of w))), LotSizeOutOfRange) ∷ []) (g (or_zero (lot_units (row (due_size (due_of out w))) (tally_of w))))
    ≡ first ((not (cond out (is_number f k w) false), NoLotAwaits) ∷ (m, NoRoom) ∷ []) (g (second_units (row (waited_size f w))))
second_first f row None true k m g s e = refl
second_first f row None false k m g s e = refl
second_first f row (Some l) out k m g s e = second_row (row l.size) l.first (not (cond out (eqb k l.number) false)) m g e

due_has : (f : Fixed) (out : Bool) (k : ℕ) (w : Option Waiting) → has_slip k (due_of out w) ≡ cond out (is_number f k w) false
due_has f true k None = refl
due_has f false k None = refl
due_has f out k (Some l) = refl

reissue_first : (out : Bool) (w : Option Waiting) → first ((not (option_is_some (due_of out w)), NoLotAwaits) ∷ (is_out (due_of out w), SlipIsOut) ∷ []) None ≡ first ((not (option_is_some w), NoLotAwaits) ∷ (out, SlipIsOut) ∷ []) None
reissue_first out None = refl
reissue_first out (Some l) = refl

pub number_some : (f : Fixed) (out : Bool) (k : ℕ) (w : Option Waiting) → cond out (is_number f k w) false ≡ true → (l : Waiting) × (w ≡ Some l)
number_some f true k None e = let z : ◌≡◌ {A = ℕ} 0 1 = cc in absurd (omega arith)
number_some f false k None e = let z : ◌≡◌ {A = ℕ} 0 1 = cc in absurd (omega arith)
number_some f out k (Some l) e = (l, refl)

cond_same : {A : Type 0} (b : Bool) (x : A) → cond b x x ≡ x
cond_same true x = refl
cond_same false x = refl

module _ (row : Status → ℕ → Option LotRow) (limits : ℕ → Option Limits) (kept : (s : Status) (z : ℕ) (w : LotRow) → row s z ≡ Some w → lot_row_kept w ≡ true)
    (score : ℕ → List ℕ → Result Tally Refusal) (room : ℕ) where
  abbrev rl : Rules (Option Tally)
  rl = lots_rules row limits

  abbrev fl : Fixed
  fl = fx rl row score room

  abbrev carried : List Event → Option Tally
  carried h = tally_of (waiting fl h)

  abbrev Extra : List Event → Type 0
  Extra h = rowed row (status h) (waiting fl h) ≡ true

  abbrev st_of : List Event → Standing (Option Tally)
  st_of h = now rl row score room carried h

  abbrev bk_of : List Event → List Entry
  bk_of h = book_of rl row score room h

  abbrev KeptAs : List Event → Call → ℕ → Taken (Option Tally) → Type 0
  KeptAs h c n k = Kept rl row score room carried Extra h c (settled None k (st_of h) (bk_of h) n)

  abbrev KeptL : List Event → Call → ℕ → Type 0
  KeptL h c n = KeptAs h c n (takes rl score c (st_of h) (bk_of h))

  lot_agrees : (h : List Event) (z : ℕ) (b : List ℕ) (n : ℕ) → n + count h ≡ room → refuses rl score (enter_lot z b) (st_of h) (bk_of h) n ≡ refusal fl h (enter_lot z b)
  lot_agrees h z b n rm =
      lot_first fl (slip_is_out fl h) (waiting fl h) (row (status h) z) (leb n 0) (λ u. fault (score u b))
      ∙ ap (λ m. first ((option_is_some (waiting fl h), LotAwaits) ∷ (m, NoRoom) ∷ (not (option_is_some (row (status h) z)), LotSizeOutOfRange) ∷ []) (fault (score (first_units (row (status h) z)) b))) (room_test n (count h) room rm)

  second_agrees : (h : List Event) (i : ℕ) (b : List ℕ) (n : ℕ) → Extra h → n + count h ≡ room → refuses rl score (enter_second i b) (st_of h) (bk_of h) n ≡ refusal fl h (enter_second i b)
  second_agrees h i b n x rm =
      second_first fl (row (status h)) (waiting fl h) (slip_is_out fl h) i (leb n 0) (λ u. fault (score u b)) (status h) (rowed_at (waiting fl h) x)
      ∙ ap (λ m. first ((not (awaits fl i h), NoLotAwaits) ∷ (m, NoRoom) ∷ []) (fault (score (second_units (row (status h) (waited_size fl (waiting fl h)))) b))) (room_test n (count h) room rm)
    where
      rowed_at : (w : Option Waiting) → rowed row (status h) w ≡ true → rowed (λ _ z. row (status h) z) (status h) w ≡ true
      rowed_at None e = e
      rowed_at (Some l) e = e

  hand_agrees : (h : List Event) (i n : ℕ) → refuses rl score (hand_in i) (st_of h) (bk_of h) n ≡ refusal fl h (hand_in i)
  hand_agrees h i n = ap (λ q. first ((not q, NoLotAwaits) ∷ []) None) (due_has fl (slip_is_out fl h) i (waiting fl h))

  reissue_agrees : (h : List Event) (n : ℕ) → refuses rl score reissue (st_of h) (bk_of h) n ≡ refusal fl h reissue
  reissue_agrees h n = reissue_first (slip_is_out fl h) (waiting fl h)

  hand_kept : (h : List Event) (i n : ℕ) → Sound fl h → Extra h → n + count h ≡ room → refusal fl h (hand_in i) ≡ None → KeptL h (hand_in i) n
  hand_kept h i n k x rm e =
      let y = told Undecided (status h) None in
      record {
        fair = fair_accepted fl h (hand_in i) y e (refl, refl) (λ b q. absurd (no_portion_hand i b q)) refl;
        stands = same_standing _ _ refl (ap length (sym (spell_idle fl h (hand_in i) y refl refl))) refl (due_moved false (slip_is_out fl h) (waiting fl h)) refl refl;
        book = sym (append-nil (bk_of h));
        room_left = omega arith;
        sound = sound_idle fl h (hand_in i) y k refl refl refl (ap reading (append-nil (bk_of h))) refl;
        extra = x;
      }

  reissue_kept : (h : List Event) (n : ℕ) → Sound fl h → Extra h → n + count h ≡ room → refusal fl h reissue ≡ None → KeptL h reissue n
  reissue_kept h n k x rm e =
      let y = told Undecided (status h) (slip_of (due_of (slip_is_out fl h) (waiting fl h))) in
      record {
        fair = fair_accepted fl h reissue y e (refl, (λ l q. ap (λ w. slip_of (due_of (slip_is_out fl h) w)) q)) (λ b q. absurd (no_portion_reissue b q)) refl;
        stands = same_standing _ _ refl (ap length (sym (spell_idle fl h reissue y refl refl))) refl (due_moved true (slip_is_out fl h) (waiting fl h)) refl refl;
        book = sym (append-nil (bk_of h));
        room_left = omega arith;
        sound = sound_idle fl h reissue y k refl refl refl (ap reading (append-nil (bk_of h))) refl;
        extra = x;
      }

  -- a lot's first sample, by its verdict
  module _ (h : List Event) (z : ℕ) (b : List ℕ) (n : ℕ) (k : Sound fl h) (rm : n + count h ≡ room) (e : refusal fl h (enter_lot z b) ≡ None) (rm' : leb room (count h) ≡ false) (has : option_is_some (row (status h) z) ≡ true) where
    abbrev u1 : ℕ
    u1 = first_units (row (status h) z)

    abbrev t1 : Tally
    t1 = scored (score u1 b)

    abbrev Fairly : Verdict → Type 0
    Fairly v = (w : LotRow) → row (status h) z ≡ Some w → FirstJudged w (scored (score w.first_sample b)) v

    abbrev a1 : Verdict → Article
    a1 v = record { rejected = is_rejected v; units = u1; tally = t1 }

    abbrev e1 : Verdict → Entry
    e1 v = record { kind = kind.Lot; status = status h; verdict = v; lot_size = z; units = u1; tally = t1 }

    abbrev w1 : Verdict → Bool
    w1 v = turns rl (st_of h) (bk_of h) (a1 v)

    found : (v : Verdict) → w1 v ≡ Rattle.runs.specs.Spells.breaks 10 0 (status h) (Rattle.runs.specs.History.verdicts (spell fl h)) (a1 v).rejected
    found v = turns_found rl row score room carried Extra h (a1 v) k

    abbrev y1 : Verdict → Reply
    y1 v = told v (cond (w1 v) (turned (status h)) (status h)) None

    lot_accepted : Fairly Accepted → KeptAs h (enter_lot z b) n (lot_taken rl z u1 t1 (Accepted, None) (st_of h) (bk_of h))
    lot_accepted j = record {
      fair = fair_accepted fl h (enter_lot z b) (y1 Accepted) e (λ w q. (j w q, ((λ v. absurd (A≢W v)), (λ _. refl)))) (λ d q. absurd (no_portion_lot z b d q)) (by_article fl h (a1 Accepted) (w1 Accepted) k (found Accepted));
      stands = same_standing _ _ refl (length_then (w1 Accepted) (spell fl h) (a1 Accepted) (spell_few fl h k rm') ∙ ap length (sym (spell_decided fl h (enter_lot z b) (y1 Accepted) (a1 Accepted) (w1 Accepted) refl refl))) refl refl (cond_same (w1 Accepted) None) refl;
      book = refl;
      room_left = room_after n (count h) room rm (room_test n (count h) room rm ∙ rm');
      sound = sound_decided fl h (enter_lot z b) (y1 Accepted) (a1 Accepted) (e1 Accepted) (w1 Accepted) k (found Accepted) refl refl refl refl refl refl;
      extra = refl;
    }

    lot_rejected : Fairly Rejected → KeptAs h (enter_lot z b) n (lot_taken rl z u1 t1 (Rejected, None) (st_of h) (bk_of h))
    lot_rejected j = record {
      fair = fair_accepted fl h (enter_lot z b) (y1 Rejected) e (λ w q. (j w q, ((λ v. absurd (R≢W v)), (λ _. refl)))) (λ d q. absurd (no_portion_lot z b d q)) (by_article fl h (a1 Rejected) (w1 Rejected) k (found Rejected));
      stands = same_standing _ _ refl (length_then (w1 Rejected) (spell fl h) (a1 Rejected) (spell_few fl h k rm') ∙ ap length (sym (spell_decided fl h (enter_lot z b) (y1 Rejected) (a1 Rejected) (w1 Rejected) refl refl))) refl refl (cond_same (w1 Rejected) None) refl;
      book = refl;
      room_left = room_after n (count h) room rm (room_test n (count h) room rm ∙ rm');
      sound = sound_decided fl h (enter_lot z b) (y1 Rejected) (a1 Rejected) (e1 Rejected) (w1 Rejected) k (found Rejected) refl refl refl refl refl refl;
      extra = refl;
    }

    lot_awaited : Fairly Awaited → KeptAs h (enter_lot z b) n (lot_taken rl z u1 t1 (Awaited, Some t1) (st_of h) (bk_of h))
    lot_awaited j =
        let y = told Awaited (status h) (Some (length (bk_of h) + 1)) in
        let c = k.counted in
        let push = reading_push (record { articles = []; first_sample = None }) (bk_of h) (e1 Awaited) in
        record {
          fair = fair_accepted fl h (enter_lot z b) y e (λ w q. (j w q, ((λ _. ap (λ m. Some (m + 1)) c), (λ v. absurd (v refl))))) (λ d q. absurd (no_portion_lot z b d q)) refl;
          stands = same_standing _ _ refl (ap length (sym (spell_idle fl h (enter_lot z b) y refl refl))) refl (ap (λ (m : ℕ). (let d : WaitingLot = record { number = m + 1; size = z; slip_out = true } in Some d)) c) refl refl;
          book = refl;
          room_left = room_after n (count h) room rm (room_test n (count h) room rm ∙ rm');
          sound = sound_quiet fl h (enter_lot z b) y k refl refl (ap (λ (x : Reading). x.articles) push) (ap (λ (x : Reading). x.first_sample) push) refl;
          extra = has;
        }

  by_tests : Tally → Bool → Bool → Verdict × Option Tally
  by_tests t x z = cond x (Accepted, None) (cond z (Rejected, None) (Awaited, Some t))

  lot_kept : (h : List Event) (z : ℕ) (b : List ℕ) (n : ℕ) → Sound fl h → n + count h ≡ room → refusal fl h (enter_lot z b) ≡ None → KeptL h (enter_lot z b) n
  unfolding by_tests
  lot_kept h z b n k rm e =
      subst (λ x. KeptAs h (enter_lot z b) n x) (sym same) (go (each_class (accepts_first w t)) (some_class (rejects_first w t)) refl refl)
    where
      p1 : (option_is_some (waiting fl h) ≡ false) × (first ((leb room (count h), NoRoom) ∷ (not (option_is_some (row (status h) z)), LotSizeOutOfRange) ∷ []) (fault (score (first_units (row (status h) z)) b)) ≡ None)
      p1 = passes _ _ _ e

      p2 : (leb room (count h) ≡ false) × (first ((not (option_is_some (row (status h) z)), LotSizeOutOfRange) ∷ []) (fault (score (first_units (row (status h) z)) b)) ≡ None)
      p2 = passes _ _ _ p1.1

      p3 : (not (option_is_some (row (status h) z)) ≡ false) × (fault (score (first_units (row (status h) z)) b) ≡ None)
      p3 = passes _ _ _ p2.1

      wn : waiting fl h ≡ None
      wn = not_none (waiting fl h) p1.0

      w : LotRow
      w = (is_some (row (status h) z) p3.0).0

      er : row (status h) z ≡ Some w
      er = (is_some (row (status h) z) p3.0).1

      u : ℕ
      u = first_units (row (status h) z)

      t : Tally
      t = scored (score u b)

      same : takes rl score (enter_lot z b) (st_of h) (bk_of h) ≡ lot_taken rl z u t (first_judged w t) (st_of h) (bk_of h)
      same =
          ap (λ m. lot_taken rl z m (scored (score m b)) (lot_judged (row (status h) z) (scored (score m b)) (carried h)) (st_of h) (bk_of h)) (ap (λ q. or_zero (lot_units (row (status h) z) (tally_of q))) wn ∙ units_first (row (status h) z))
          ∙ ap (λ x. lot_taken rl z u t x (st_of h) (bk_of h)) (ap₂ (λ o q. lot_judged o t (tally_of q)) er wn)

      fairly : (v : Verdict) → (first_judged w t).0 ≡ v → (w2 : LotRow) → row (status h) z ≡ Some w2 → FirstJudged w2 (scored (score w2.first_sample b)) v
      fairly v ve w2 q =
          let ws : w ≡ w2 = cc (er, q) in
          subst₂ (λ m d. FirstJudged w2 m d) (ap (λ m. scored (score m b)) (ap first_units q)) (ap (λ r. (first_judged r t).0) (sym ws) ∙ ve) (first_fair w2 t (kept (status h) z w2 q))

      go : (a d : Bool) → each_class (accepts_first w t) ≡ a → some_class (rejects_first w t) ≡ d → KeptAs h (enter_lot z b) n (lot_taken rl z u t (first_judged w t) (st_of h) (bk_of h))
      go true d p q =
          let vx : first_judged w t ≡ (Accepted, None) = ap (λ x. by_tests t x (some_class (rejects_first w t))) p in
          subst (λ x. KeptAs h (enter_lot z b) n (lot_taken rl z u t x (st_of h) (bk_of h))) (sym vx) (lot_accepted h z b n k rm e p2.0 (not-false _ p3.0) (fairly Accepted (ap (λ (x : Verdict × Option Tally). x.0) vx)))
      go false true p q =
          let vx : first_judged w t ≡ (Rejected, None) = ap₂ (λ x z. by_tests t x z) p q in
          subst (λ x. KeptAs h (enter_lot z b) n (lot_taken rl z u t x (st_of h) (bk_of h))) (sym vx) (lot_rejected h z b n k rm e p2.0 (not-false _ p3.0) (fairly Rejected (ap (λ (x : Verdict × Option Tally). x.0) vx)))
      go false false p q =
          let vx : first_judged w t ≡ (Awaited, Some t) = ap₂ (λ x z. by_tests t x z) p q in
          subst (λ x. KeptAs h (enter_lot z b) n (lot_taken rl z u t x (st_of h) (bk_of h))) (sym vx) (lot_awaited h z b n k rm e p2.0 (not-false _ p3.0) (fairly Awaited (ap (λ (x : Verdict × Option Tally). x.0) vx)))

  -- its second sample: the waiting lot l and its row w are known
  module _ (h : List Event) (i : ℕ) (b : List ℕ) (n : ℕ) (k : Sound fl h) (rm : n + count h ≡ room) (e : refusal fl h (enter_second i b) ≡ None) (rm' : leb room (count h) ≡ false)
      (l : Waiting) (wl : waiting fl h ≡ Some l) (w : LotRow) (er : row (status h) l.size ≡ Some w) where
    abbrev u2 : ℕ
    u2 = second_units (row (status h) l.size)

    abbrev t2 : Tally
    t2 = scored (score u2 b)

    abbrev v2 : Verdict
    v2 = (both_judged w (added l.first t2)).0

    abbrev s1 : Sample
    s1 = record { units = first_units (row (status h) l.size); tally = l.first }

    abbrev a2 : Article
    a2 = record { rejected = is_rejected v2; units = first_units (row (status h) l.size) + u2; tally = added l.first t2 }

    abbrev e2 : Entry
    e2 = record { kind = kind.SecondSample; status = status h; verdict = v2; lot_size = l.size; units = u2; tally = t2 }

    abbrev w2 : Bool
    w2 = turns rl (st_of h) (bk_of h) a2

    abbrev y2 : Reply
    y2 = told v2 (cond w2 (turned (status h)) (status h)) None

    abbrev taken2 : Taken (Option Tally)
    taken2 = second_taken rl l.size u2 t2 (both_judged w (added l.first t2)) (Some s1) (st_of h) (bk_of h)

    sampled2 : (reading (bk_of h)).first_sample ≡ Some s1
    sampled2 = k.sampled ∙ ap (first_of row (status h)) wl

    decided2 : decided fl (enter_second i b) y2 (status h) (waiting fl h) ≡ Some a2
    decided2 = ap (λ q. decided fl (enter_second i b) y2 (status h) q) wl

    entry2 : entry_of fl (enter_second i b) y2 (status h) (waiting fl h) ≡ Some e2
    entry2 = ap (λ q. entry_of fl (enter_second i b) y2 (status h) q) wl

    ruled2 : Ruled fl h (enter_second i b) y2
    ruled2 m d p q =
        let lm : l ≡ m = cc (wl, p) in
        let rm2 : row (status h) l.size ≡ Some d = ap (λ (x : Waiting). row (status h) x.size) lm ∙ q in
        let wd : w ≡ d = cc (er, rm2) in
        let tm : t2 ≡ scored (score (d.total_sample - d.first_sample) b) = ap (λ o. scored (score (second_units o) b)) rm2 in
        let fair = both_fair w l.first t2 (kept (status h) l.size w er) in
        (subst₂ (λ r (x : Waiting). BothJudged r x.first (scored (score (d.total_sample - d.first_sample) b)) v2) wd lm (subst (λ t. BothJudged w l.first t v2) tm fair), refl)

    second_taken_kept : KeptAs h (enter_second i b) n taken2
    second_taken_kept =
        let found = turns_found rl row score room carried Extra h a2 k in
        record {
          fair = fair_accepted fl h (enter_second i b) y2 e ruled2 (λ d q. absurd (no_portion_second i b d q)) (subst (λ o. ByArticle fl h (cond w2 (turned (status h)) (status h)) o) (sym decided2) (by_article fl h a2 w2 k found));
          stands = same_standing _ _ refl (length_then w2 (spell fl h) a2 (spell_few fl h k rm') ∙ ap length (sym (spell_decided fl h (enter_second i b) y2 a2 w2 refl decided2))) refl refl (cond_same w2 None) refl;
          book = ap (λ o. bk_of h ++ listed fl o) (sym entry2);
          room_left = room_after n (count h) room rm (room_test n (count h) room rm ∙ rm');
          sound = sound_decided fl h (enter_second i b) y2 a2 e2 w2 k found refl decided2 entry2 refl (ap (λ o. (both o e2 (articles (bk_of h))).articles) sampled2) (ap (λ o. (both o e2 (articles (bk_of h))).first_sample) sampled2);
          extra = refl;
        }

    same2 : takes rl score (enter_second i b) (st_of h) (bk_of h) ≡ taken2
    same2 =
        ap (λ q. second_taken rl (due_size (due_of (slip_is_out fl h) q)) (or_zero (lot_units (row (status h) (due_size (due_of (slip_is_out fl h) q))) (tally_of q))) (scored (score (or_zero (lot_units (row (status h) (due_size (due_of (slip_is_out fl h) q))) (tally_of q))) b)) (lot_judged (row (status h) (due_size (due_of (slip_is_out fl h) q))) (scored (score (or_zero (lot_units (row (status h) (due_size (due_of (slip_is_out fl h) q))) (tally_of q))) b)) (tally_of q)) (reading (bk_of h)).first_sample (st_of h) (bk_of h)) wl
        ∙ ap (λ m. second_taken rl l.size m (scored (score m b)) (lot_judged (row (status h) l.size) (scored (score m b)) (Some l.first)) (reading (bk_of h)).first_sample (st_of h) (bk_of h)) (units_second (row (status h) l.size) l.first)
        ∙ ap₂ (λ o y. second_taken rl l.size u2 t2 (lot_judged o t2 (Some l.first)) y (st_of h) (bk_of h)) er sampled2

    second_kept_at : KeptL h (enter_second i b) n
    second_kept_at = subst (λ x. KeptAs h (enter_second i b) n x) (sym same2) second_taken_kept

  second_kept : (h : List Event) (i : ℕ) (b : List ℕ) (n : ℕ) → Sound fl h → Extra h → n + count h ≡ room → refusal fl h (enter_second i b) ≡ None → KeptL h (enter_second i b) n
  second_kept h i b n k x rm e =
      let p1 = passes _ _ _ e in
      let p2 = passes _ _ _ p1.1 in
      let l = number_some fl (slip_is_out fl h) i (waiting fl h) (not-false _ p1.0) in
      let has : option_is_some (row (status h) l.0.size) ≡ true = ap (rowed row (status h)) (sym l.1) ∙ x in
      let w = is_some (row (status h) l.0.size) (not_from_true _ has) in
      second_kept_at h i b n k rm e p2.0 l.0 l.1 w.0 w.1

  by_step : (h : List Event) (c : Call) (n : ℕ) → Sound fl h → Extra h → n + count h ≡ room → refuses rl score c (st_of h) (bk_of h) n ≡ refusal fl h c
      → (refusal fl h c ≡ None → KeptL h c n) → Kept rl row score room carried Extra h c (step rl score c (st_of h) (bk_of h) n)
  by_step h c n k x rm same taken = kept_step rl row score room carried Extra (λ h c x. refl) (λ h c x e. e) h c n k x rm same taken

  each : (h : List Event) (c : Call) (n : ℕ) → ForLots c → Sound fl h → Extra h → n + count h ≡ room → Kept rl row score room carried Extra h c (step rl score c (st_of h) (bk_of h) n)
  each h open_period n p k x rm = absurd p
  each h (enter_portion b) n p k x rm = absurd p
  each h end_period n p k x rm = absurd p
  each h (enter_lot z b) n p k x rm = by_step h (enter_lot z b) n k x rm (lot_agrees h z b n rm) (lot_kept h z b n k rm)
  each h (enter_second i b) n p k x rm = by_step h (enter_second i b) n k x rm (second_agrees h i b n x rm) (second_kept h i b n k x rm)
  each h (hand_in i) n p k x rm = by_step h (hand_in i) n k x rm (hand_agrees h i n) (hand_kept h i n k x rm)
  each h reissue n p k x rm = by_step h reissue n k x rm (reissue_agrees h n) (reissue_kept h n k x rm)
  each h grant_relief n p k x rm = by_step h grant_relief n k x rm (relief_agrees rl row score room carried Extra h n k rm)
      (relief_kept rl row score room carried Extra h n k rm (λ _ w. ap tally_of w) (λ w. ap (rowed row Reduced) w))
  each h report_irregular n p k x rm = by_step h report_irregular n k x rm (notice_agrees rl row score room carried Extra h n rm)
      (notice_kept rl row score room carried Extra h n k rm (λ _ w. ap tally_of w) (λ w. ap (rowed row Normal) w))

pub earned_lots : EarnedLots
earned_lots row limits kept score room few calls p =
    earned_on (lots_rules row limits) row score room (carried row limits kept score room) (Extra row limits kept score room) ForLots (each row limits kept score room) calls [] (fresh (lots_rules row limits)) [] room p tt (sound_empty (fl row limits kept score room) (omega arith) few) refl (omega arith) refl refl
