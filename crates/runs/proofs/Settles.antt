-- The calls of an earned run settle its answers, its book and its room.
use Rattle.std.proofs.Common.{◌≡◌, ℕ, ◌+◌, ◌-◌, Bool, true, false, cond, not, List, [], ◌∷◌, ◌++◌, map, length, get_or, is_some as option_is_some, Some, None, Ok, Err, Option, Result, sym, refl, ap, ◌∙◌, subst, subst₂, arith}
use Rattle.std.proofs.lemmas.Bool.{both_ways, not-false, not_from_true}
use Rattle.inspection.specs.declared.status.Status.{Status}
use Rattle.inspection.specs.declared.verdict.Verdict.{Verdict}
use Rattle.inspection.specs.declared.verdict.Verdict.TheVariants.{Accepted, Rejected, Awaited, Full, Brief, Undecided}
use Rattle.inspection.specs.declared.tally.Tally.{Tally}
use Rattle.entries.specs.declared.entry.Entry.{Entry}
use Rattle.inspection.specs.declared.refusal.Refusal.{Refusal}
use Rattle.inspection.specs.declared.refusal.Refusal.TheVariants.{NoPeriodOpen, LotAwaits, NoLotAwaits, LotSizeOutOfRange, NoRoom, SlipIsOut}
use Rattle.inspection.specs.declared.class.JudgedClass.{JudgedClass}
use Rattle.inspection.specs.Classes.{count_of}
use Rattle.regimes.specs.Portions.{cusum_of}
use Rattle.runs.specs.Spells.{turned}
use Rattle.inspection.specs.Statuses.{same_status}
use Rattle.regimes.specs.Portions.{portion_units}
use Rattle.plans.specs.declared.rows.LotRow.{LotRow}
use Rattle.runs.specs.declared.standing.Reply.{Reply}
use Rattle.runs.specs.History.{Call, open_period, enter_portion, end_period, enter_lot, enter_second, hand_in, reissue, grant_relief, report_irregular, Event, Fixed, Article, Waiting, status, status_after, count, waiting, waits, written, decided, period, stretch, slip_is_out, refusal, first, fault, scored, first_units, is_awaited, is_rejected, no_room}
use Rattle.runs.specs.Earned.{Ruled, PortionEarned, FirstToBreak, ByArticle, Turned, Earned}
use Rattle.runs.specs.Lines.{told}
use Rattle.inspection.specs.Classes.{some_class}
use Rattle.runs.specs.Regimes.{on_line_fixed, lots_fixed}
use Rattle.runs.specs.Runs.{ForPortions, ForLots, Each}
use Rattle.runs.specs.Settles.{calls_of, SettledByCalls}
use Rattle.regimes.proofs.Overrun.{marked_by_value}
use Rattle.regimes.proofs.Table.{starts_within}
use Rattle.regimes.proofs.Tried.{some_true, none_true}
use Rattle.regimes.specs.Promises.{FirstJudged, BothJudged}
use Rattle.runs.proofs.Small.{same_refl, same_true, passes, is_some, not_none}
use Rattle.runs.proofs.Keeping.{ev, Fair, AllFair}
use Rattle.runs.proofs.Lots.{rowed, number_some}
use Rattle.runs.proofs.Stated.{EarnedSettles}

-- the facts of the promise, event by event
fair_from : (f : Fixed) (h : List Event) → ((later earlier : List Event) (e : Event) → h ≡ later ++ e ∷ earlier → Fair f earlier e) → AllFair f h
fair_from f [] all = tt
fair_from f (e ∷ h) all = (all [] h e refl, fair_from f h (λ later earlier x q. all (e ∷ later) earlier x (ap {B = List Event} (λ l. e ∷ l) q)))

all_fair : (f : Fixed) (h : List Event) (es : List Entry) (n : ℕ) → Earned f h es n → AllFair f h
all_fair f h es n k =
    fair_from f h (λ later earlier e q. record {
      refused = k.refused_exactly later earlier e q;
      ruled = λ y w. k.answered_as_ruled later earlier e y q w;
      portion = λ y b c w. k.portions_earned later earlier e y b q c w;
      turned = λ y w. k.status_turned_exactly later earlier e y q w;
    })

-- verdicts that the same facts settle
portions_agree : (f : Fixed) (h : List Event) (b : List ℕ) (v w : Verdict) → PortionEarned f h b v → PortionEarned f h b w → v ≡ w
portions_agree f h b v w x y = by (some_class p) refl
  where
    n : ℕ
    n = length (stretch f h)

    p : JudgedClass → Bool
    p c = get_or (x.0 c) n false

    same : (c : JudgedClass) → x.0 c ≡ y.0 c
    same c = let counts = map (count_of c) (stretch f h ++ scored (f.score (portion_units (status h)) b) ∷ []) in marked_by_value (cusum_of c (status h)) (starts_within c (status h)) counts (x.0 c) (x.1 c) ∙ sym (marked_by_value (cusum_of c (status h)) (starts_within c (status h)) counts (y.0 c) (y.1 c))

    by : (q : Bool) → some_class p ≡ q → v ≡ w
    by true q = let s = some_true p q in x.2.1 s ∙ sym (y.2.1 (s.0, ap (λ l. get_or l n false) (sym (same s.0)) ∙ s.1))
    by false q = let s = none_true p q in x.3.1 s ∙ sym (y.3.1 (λ c. ap (λ l. get_or l n false) (sym (same c)) ∙ s c))

firsts_agree : (r : LotRow) (t : Tally) (v w : Verdict) → FirstJudged r t v → FirstJudged r t w → v ≡ w
firsts_agree r t Accepted w x y = sym (y.accepts.1 (x.accepts.0 refl))
firsts_agree r t Rejected w x y = sym (y.rejects.1 (x.rejects.0 refl))
firsts_agree r t Awaited w x y = sym (y.awaits.1 (x.awaits.0 refl))
firsts_agree r t Full w x y = let a = x.accepts.1 in let b = x.rejects.1 in let z : Full ≡ Awaited = x.awaits.1 ((λ i. let e = a i in let z : ◌≡◌ {A = ℕ} 0 1 = cc in omega arith), (λ i. let e = b i in let z : ◌≡◌ {A = ℕ} 0 1 = cc in omega arith)) in cc
firsts_agree r t Brief w x y = let a = x.accepts.1 in let b = x.rejects.1 in let z : Brief ≡ Awaited = x.awaits.1 ((λ i. let e = a i in let z : ◌≡◌ {A = ℕ} 0 1 = cc in omega arith), (λ i. let e = b i in let z : ◌≡◌ {A = ℕ} 0 1 = cc in omega arith)) in cc
firsts_agree r t Undecided w x y = let a = x.accepts.1 in let b = x.rejects.1 in let z : Undecided ≡ Awaited = x.awaits.1 ((λ i. let e = a i in let z : ◌≡◌ {A = ℕ} 0 1 = cc in omega arith), (λ i. let e = b i in let z : ◌≡◌ {A = ℕ} 0 1 = cc in omega arith)) in cc

boths_agree : (r : LotRow) (a t : Tally) (v w : Verdict) → BothJudged r a t v → BothJudged r a t w → v ≡ w
boths_agree r f t Accepted w x y = sym (y.accepts.1 (x.accepts.0 refl))
boths_agree r f t Rejected w x y = sym (y.rejects.1 (x.rejects.0 refl))
boths_agree r f t Awaited w x y = let a = x.accepts.1 in let z : Awaited ≡ Rejected = x.rejects.1 (λ i. let e = a i in let z : ◌≡◌ {A = ℕ} 0 1 = cc in omega arith) in cc
boths_agree r f t Full w x y = let a = x.accepts.1 in let z : Full ≡ Rejected = x.rejects.1 (λ i. let e = a i in let z : ◌≡◌ {A = ℕ} 0 1 = cc in omega arith) in cc
boths_agree r f t Brief w x y = let a = x.accepts.1 in let z : Brief ≡ Rejected = x.rejects.1 (λ i. let e = a i in let z : ◌≡◌ {A = ℕ} 0 1 = cc in omega arith) in cc
boths_agree r f t Undecided w x y = let a = x.accepts.1 in let z : Undecided ≡ Rejected = x.rejects.1 (λ i. let e = a i in let z : ◌≡◌ {A = ℕ} 0 1 = cc in omega arith) in cc

-- a status that the same facts settle
statuses_agree : (f : Fixed) (h : List Event) (s t : Status) (o : Option Article) → ByArticle f h s o → ByArticle f h t o → s ≡ t
statuses_agree f h s t None x y = x ∙ sym y
statuses_agree f h s t (Some a) x y = by (same_status s (status h)) (same_status s (turned (status h))) refl refl
  where
    by : (p q : Bool) → same_status s (status h) ≡ p → same_status s (turned (status h)) ≡ q → s ≡ t
    by true q u v = let e = same_true s (status h) u in e ∙ sym (y.1.1 (x.1.0 e))
    by false true u v = let e = same_true s (turned (status h)) v in e ∙ sym (y.0.1 (x.0.0 e))
    by false false u v =
        let n : FirstToBreak f h a → ⊥ = λ k. both_ways (same_status s (turned (status h))) v (ap (same_status s) (sym (x.0.1 k)) ∙ same_refl s) in
        absurd (both_ways (same_status s (status h)) u (ap (same_status s) (sym (x.1.1 n)) ∙ same_refl s))

slips_agree : (v : Verdict) (a b : Option ℕ) (n : ℕ) → ((v ≡ Awaited → a ≡ Some n) × ((v ≡ Awaited → ⊥) → a ≡ None)) → ((v ≡ Awaited → b ≡ Some n) × ((v ≡ Awaited → ⊥) → b ≡ None)) → a ≡ b
slips_agree Awaited a b n x y = x.0 refl ∙ sym (y.0 refl)
slips_agree Accepted a b n x y = let d : Accepted ≡ Awaited → ⊥ = λ e. let z : ◌≡◌ {A = ℕ} 0 1 = cc in omega arith in x.1 d ∙ sym (y.1 d)
slips_agree Rejected a b n x y = let d : Rejected ≡ Awaited → ⊥ = λ e. let z : ◌≡◌ {A = ℕ} 0 1 = cc in omega arith in x.1 d ∙ sym (y.1 d)
slips_agree Full a b n x y = let d : Full ≡ Awaited → ⊥ = λ e. let z : ◌≡◌ {A = ℕ} 0 1 = cc in omega arith in x.1 d ∙ sym (y.1 d)
slips_agree Brief a b n x y = let d : Brief ≡ Awaited → ⊥ = λ e. let z : ◌≡◌ {A = ℕ} 0 1 = cc in omega arith in x.1 d ∙ sym (y.1 d)
slips_agree Undecided a b n x y = let d : Undecided ≡ Awaited → ⊥ = λ e. let z : ◌≡◌ {A = ℕ} 0 1 = cc in omega arith in x.1 d ∙ sym (y.1 d)

same_reply : (a b : Reply) → a.verdict ≡ b.verdict → a.status ≡ b.status → a.slip ≡ b.slip → a ≡ b
same_reply a b p q s = λ i. record { verdict = p i; status = q i; slip = s i }

-- what is asked of an accepted answer
record Told (f : Fixed) (h : List Event) (c : Call) (y : Reply) : Type 0 where
  free : refusal f h c ≡ None
  ruled : Ruled f h c y
  portion : (b : List ℕ) → c ≡ enter_portion b → PortionEarned f h b y.verdict
  turned : Turned f h c (decided f c y (status h) (waiting f h)) y.status

module _ (f : Fixed) (h : List Event) (rw-h : rowed f.row (status h) (waiting f h) ≡ true) where
  decided_second : (n : ℕ) (d : List ℕ) (y z : Reply) (o : Option Waiting) → y.verdict ≡ z.verdict → decided f (enter_second n d) z (status h) o ≡ decided f (enter_second n d) y (status h) o
  decided_second n d y z None v = refl
  decided_second n d y z (Some l) v = ap (λ q. decided f (enter_second n d) (told q y.status y.slip) (status h) (Some l)) (sym v)

  seconds_agree : (n : ℕ) (d : List ℕ) (y z : Reply) → Told f h (enter_second n d) y → Told f h (enter_second n d) z → (l : Waiting) (w : LotRow) → waiting f h ≡ Some l → f.row (status h) l.size ≡ Some w → y ≡ z
  seconds_agree n d y z a b l w p q =
      let x1 = a.ruled l w p q in
      let x2 = b.ruled l w p q in
      let v = boths_agree w l.first (scored (f.score (w.total_sample - w.first_sample) d)) y.verdict z.verdict x1.0 x2.0 in
      same_reply y z v (statuses_agree f h y.status z.status (decided f (enter_second n d) y (status h) (waiting f h)) a.turned (subst (λ o. ByArticle f h z.status o) (decided_second n d y z (waiting f h) v) b.turned)) (x1.1 ∙ sym x2.1)

  replies_agree : (c : Call) (y z : Reply) → Told f h c y → Told f h c z → y ≡ z
  replies_agree open_period y z a b = same_reply y z (a.ruled.0 ∙ sym b.ruled.0) (a.turned ∙ sym b.turned) (a.ruled.1 ∙ sym b.ruled.1)
  replies_agree (enter_portion d) y z a b =
      let v = portions_agree f h d y.verdict z.verdict (a.portion d refl) (b.portion d refl) in
      let o : decided f (enter_portion d) z (status h) (waiting f h) ≡ decided f (enter_portion d) y (status h) (waiting f h) = ap (λ w. decided f (enter_portion d) (told w y.status y.slip) (status h) (waiting f h)) (sym v) in
      same_reply y z v (statuses_agree f h y.status z.status (decided f (enter_portion d) y (status h) (waiting f h)) a.turned (subst (λ q. ByArticle f h z.status q) o b.turned)) (a.ruled ∙ sym b.ruled)
  replies_agree end_period y z a b =
      let p = is_some (period f h) (passes (not (option_is_some (period f h))) NoPeriodOpen (first ((no_room f h, NoRoom) ∷ []) None) a.free).0 in
      same_reply y z (a.ruled.1 p.0 p.1 ∙ sym (b.ruled.1 p.0 p.1)) (a.turned ∙ sym b.turned) (a.ruled.0 ∙ sym b.ruled.0)
  replies_agree (enter_lot n d) y z a b =
      let p1 = passes (option_is_some (waiting f h)) LotAwaits (first ((no_room f h, NoRoom) ∷ (not (option_is_some (f.row (status h) n)), LotSizeOutOfRange) ∷ []) (fault (f.score (first_units (f.row (status h) n)) d))) a.free in
      let p2 = passes (no_room f h) NoRoom (first ((not (option_is_some (f.row (status h) n)), LotSizeOutOfRange) ∷ []) (fault (f.score (first_units (f.row (status h) n)) d))) p1.1 in
      let p3 = passes (not (option_is_some (f.row (status h) n))) LotSizeOutOfRange (fault (f.score (first_units (f.row (status h) n)) d)) p2.1 in
      let w = is_some (f.row (status h) n) p3.0 in
      let x1 = a.ruled w.0 w.1 in
      let x2 = b.ruled w.0 w.1 in
      let v = firsts_agree w.0 (scored (f.score w.0.first_sample d)) y.verdict z.verdict x1.0 x2.0 in
      let o : decided f (enter_lot n d) z (status h) (waiting f h) ≡ decided f (enter_lot n d) y (status h) (waiting f h) = ap (λ q. decided f (enter_lot n d) (told q y.status y.slip) (status h) (waiting f h)) (sym v) in
      same_reply y z v (statuses_agree f h y.status z.status (decided f (enter_lot n d) y (status h) (waiting f h)) a.turned (subst (λ q. ByArticle f h z.status q) o b.turned))
      (slips_agree y.verdict y.slip z.slip (count h + 1) x1.1 ((λ e. x2.1.0 (sym v ∙ e)), (λ e. x2.1.1 (λ q. e (v ∙ q)))))
  replies_agree (enter_second n d) y z a b =
      let p1 = passes _ NoLotAwaits _ a.free in
      let l = number_some f (slip_is_out f h) n (waiting f h) (not-false _ p1.0) in
      let w = is_some (f.row (status h) l.0.size) (not_from_true _ (ap (rowed f.row (status h)) (sym l.1) ∙ rw-h)) in
      seconds_agree n d y z a b l.0 w.0 l.1 w.1
  replies_agree (hand_in n) y z a b = same_reply y z (a.ruled.0 ∙ sym b.ruled.0) (a.turned ∙ sym b.turned) (a.ruled.1 ∙ sym b.ruled.1)
  replies_agree reissue y z a b =
      let p = is_some (waiting f h) (passes (not (option_is_some (waiting f h))) NoLotAwaits (first ((slip_is_out f h, SlipIsOut) ∷ []) None) a.free).0 in
      same_reply y z (a.ruled.0 ∙ sym b.ruled.0) (a.turned ∙ sym b.turned) (a.ruled.1 p.0 p.1 ∙ sym (b.ruled.1 p.0 p.1))
  replies_agree grant_relief y z a b = same_reply y z (a.ruled.0 ∙ sym b.ruled.0) (a.turned ∙ sym b.turned) (a.ruled.1 ∙ sym b.ruled.1)
  replies_agree report_irregular y z a b = same_reply y z (a.ruled.0 ∙ sym b.ruled.0) (a.turned ∙ sym b.turned) (a.ruled.1 ∙ sym b.ruled.1)

  answers_agree : (c : Call) (a b : Result Reply Refusal) → Fair f h (ev c a) → Fair f h (ev c b) → a ≡ b
  answers_agree c (Err x) (Err y) p q = let e = p.refused ∙ sym q.refused in cc
  answers_agree c (Err x) (Ok y) p q = let e = p.refused ∙ sym q.refused in cc
  answers_agree c (Ok x) (Err y) p q = let e = p.refused ∙ sym q.refused in cc
  answers_agree c (Ok x) (Ok y) p q =
      let e = replies_agree c x y
      (record { free = sym p.refused; ruled = p.ruled x refl; portion = λ b k. p.portion x b k refl; turned = p.turned x refl })
      (record { free = sym q.refused; ruled = q.ruled y refl; portion = λ b k. q.portion y b k refl; turned = q.turned y refl }) in
      ap {B = Result Reply Refusal} (λ t. Ok t) e

-- a run of calls of one kind, with what holds of every fair history of such calls
module _ (f : Fixed) (P : Call → Type 0) (rowed-of : (h : List Event) → Each P (calls_of h) → AllFair f h → rowed f.row (status h) (waiting f h) ≡ true) where
  histories_agree : (h k : List Event) → Each P (calls_of h) → calls_of h ≡ calls_of k → AllFair f h → AllFair f k → h ≡ k
  histories_agree [] [] p e a b = refl
  histories_agree [] (y ∷ k) p e a b = cc
  histories_agree (x ∷ h) [] p e a b = cc
  histories_agree (x ∷ h) (y ∷ k) p e a b =
      let c : x.call ≡ y.call = cc in
      let r : calls_of h ≡ calls_of k = cc in
      let t = histories_agree h k p.1 r a.1 b.1 in
      let fy : Fair f h (ev x.call y.answer) = subst₂ (λ l d. Fair f l (ev d y.answer)) (sym t) (sym c) b.0 in
      let s = answers_agree f h (rowed-of h p.1 a.1) x.call x.answer y.answer a.0 fy in
      λ i. (let z : Event = record { call = c i; answer = s i } in z) ∷ t i

  settled_by_calls : SettledByCalls f P
  settled_by_calls h k a b m n p e x y =
      let t = histories_agree h k p e (all_fair f h a m x) (all_fair f k b n y) in
      let s : a ≡ b = x.book_holds_the_accepted ∙ ap (written f) t ∙ sym y.book_holds_the_accepted in
      let l : length a ≡ length b = ap length s in
      (t, s, omega (arith, x.room_is_what_is_left, y.room_is_what_is_left))

-- no lot waits on an on-line line
calm : (f : Fixed) (h : List Event) → Each ForPortions (calls_of h) → waiting f h ≡ None
calm f [] p = refl
calm f (e ∷ h) p = by e.call e.answer p.0 (calm f h p.1)
  where
    by : (c : Call) (a : Result Reply Refusal) → ForPortions c → waiting f h ≡ None → waits f c a (status h) (count h) (waiting f h) ≡ None
    by c (Err x) o w = w
    by open_period (Ok y) o w = w
    by (enter_portion b) (Ok y) o w = w
    by end_period (Ok y) o w = w
    by (enter_lot z b) (Ok y) o w = absurd o
    by (enter_second k b) (Ok y) o w = absurd o
    by (hand_in k) (Ok y) o w = absurd o
    by reissue (Ok y) o w = absurd o
    by grant_relief (Ok y) o w = w
    by report_irregular (Ok y) o w = w

-- a waiting lot has its row, on a stationary line
lot_rowed : (f : Fixed) (h : List Event) (t : Bool) (s : Status) (l : Waiting) (a : Article) → option_is_some (f.row (status h) l.size) ≡ true → ByArticle f h s (cond t None (Some a)) → rowed f.row s (cond t (Some l) None) ≡ true
lot_rowed f h true s l a i x = ap (λ s. option_is_some (f.row s l.size)) x ∙ i
lot_rowed f h false s l a i x = refl

lots_rowed : (f : Fixed) (h : List Event) → Each ForLots (calls_of h) → AllFair f h → rowed f.row (status h) (waiting f h) ≡ true
lots_rowed f [] p a = refl
lots_rowed f (e ∷ h) p a = by e.call e.answer p.0 a.0 (lots_rowed f h p.1 a.1)
  where
    by : (c : Call) (r : Result Reply Refusal) → ForLots c → Fair f h (ev c r) → rowed f.row (status h) (waiting f h) ≡ true → rowed f.row (status_after r (status h)) (waits f c r (status h) (count h) (waiting f h)) ≡ true
    by c (Err x) o q w = w
    by open_period (Ok y) o q w = absurd o
    by (enter_portion b) (Ok y) o q w = absurd o
    by end_period (Ok y) o q w = absurd o
    by (enter_lot z b) (Ok y) o q w =
        let t = scored (f.score (first_units (f.row (status h) z)) b) in
        let l : Waiting = record { number = count h + 1; size = z; first = t } in
        let d : Article = record { rejected = is_rejected y.verdict; units = first_units (f.row (status h) z); tally = t } in
        let p1 = passes (option_is_some (waiting f h)) LotAwaits (first ((no_room f h, NoRoom) ∷ (not (option_is_some (f.row (status h) z)), LotSizeOutOfRange) ∷ []) (fault (f.score (first_units (f.row (status h) z)) b))) (sym q.refused) in
        let p2 = passes (no_room f h) NoRoom (first ((not (option_is_some (f.row (status h) z)), LotSizeOutOfRange) ∷ []) (fault (f.score (first_units (f.row (status h) z)) b))) p1.1 in
        let p3 = passes (not (option_is_some (f.row (status h) z))) LotSizeOutOfRange (fault (f.score (first_units (f.row (status h) z)) b)) p2.1 in
        lot_rowed f h (is_awaited y.verdict) y.status l d (not-false (option_is_some (f.row (status h) z)) p3.0) (q.turned y refl)
    by (enter_second k b) (Ok y) o q w = refl
    by (hand_in k) (Ok y) o q w = ap (λ s. rowed f.row s (waiting f h)) (q.turned y refl) ∙ w
    by reissue (Ok y) o q w = ap (λ s. rowed f.row s (waiting f h)) (q.turned y refl) ∙ w
    by grant_relief (Ok y) o q w = ap (rowed f.row y.status) (not_none (waiting f h) (passes _ LotAwaits _ (sym q.refused)).0)
    by report_irregular (Ok y) o q w = ap (rowed f.row y.status) (not_none (waiting f h) (passes _ LotAwaits _ (sym q.refused)).0)

pub earned_settles : EarnedSettles
earned_settles = (
  (λ score room. settled_by_calls (on_line_fixed score room) ForPortions (λ h p a. ap (rowed (on_line_fixed score room).row (status h)) (calm (on_line_fixed score room) h p))),
  (λ row limits score room. settled_by_calls (lots_fixed row limits score room) ForLots (λ h p a. lots_rowed (lots_fixed row limits score room) h p a)),
)
