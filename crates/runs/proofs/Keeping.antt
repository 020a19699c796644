-- How a line's standing is read off the history of its calls, and what each step keeps of that, for any kind of carried numbers.
use Rattle.std.proofs.Common.{◌≡◌, ℕ, ◌+◌, ◌<◌, ◌≤◌, Bool, true, false, cond, not, ltb, leb, List, [], ◌∷◌, ◌++◌, length, is_some, Some, None, Ok, Err, Option, Result, sym, refl, ap, ◌∙◌, subst, ap₂, subst₂, arith}
use Rattle.std.proofs.lemmas.List.{append-nil, length-append}
use Rattle.std.proofs.lemmas.List.Prefix.{end_rest}
use Rattle.inspection.specs.declared.status.Status.{Status}
use Rattle.inspection.specs.declared.status.Status.TheVariants.{Normal, Reduced}
use Rattle.inspection.specs.declared.verdict.Verdict.TheVariants.{Undecided}
use Rattle.inspection.specs.declared.kind.Kind.TheVariants as kind
use Rattle.inspection.specs.declared.tally.Tally.{Tally}
use Rattle.entries.specs.declared.entry.Entry.{Entry}
use Rattle.inspection.specs.declared.refusal.Refusal.{Refusal}
use Rattle.inspection.specs.declared.refusal.Refusal.TheVariants.{LotAwaits, ReliefOffNormal, SpellTooShort, TooManyRejected, TooFewUnits, DefectsAboveLimit, NoticeOffReduced, NoRoom}
use Rattle.runs.specs.Spells.{Broken, turned, rejections}
use Rattle.runs.specs.Spells.{breaks}
use Rattle.inspection.specs.Statuses.{same_status}
use Rattle.plans.specs.declared.rows.LotRow.{LotRow}
use Rattle.runs.specs.declared.standing.Reply.{Reply}
use Rattle.runs.specs.History.{Call, open_period, enter_portion, end_period, enter_lot, enter_second, hand_in, reissue, grant_relief, report_irregular, period_after, Event, Fixed, Article, Waiting, status, count, waiting, written, article, entry_of, decided, waiting_after, spell, verdicts, units_of, above, period, slip_is_out, refusal, first_units, first, listed, writes, with_article}
use Rattle.runs.specs.Earned.{refused_with, Ruled, PortionEarned, FirstToBreak, ByArticle, Turned, Earned}
use Rattle.regimes.specs.Rules.{Rules}
use Rattle.runs.specs.declared.standing.Standing.{Standing}
use Rattle.runs.specs.declared.standing.WaitingLot.{WaitingLot}
use Rattle.runs.specs.Lines.{is_out, slip_moved, counted_on, one_more, Outcome, Sample, Reading, read_by, reading, articles, last_articles, bare, told, settled, in_spell, turns, refuses, takes, step}
use Rattle.runs.specs.Runs.{go, Each}
use Rattle.std.proofs.lemmas.Bool.{not-false, leb-false}
use Rattle.runs.proofs.Spell.{new_spell_keeps}
use Rattle.runs.proofs.Small.{is_some as there, no_portion_relief, no_portion_notice, same_refl, same_true, turned_differs, passes, not_none, ok_same, err_not_ok, room_test, room_after, reading_push, articles_fit, spell_then, ends_then, keeps_after, broken_where, unbroken_where}

-- the event of a call, and the facts that the promise asks of it after the history h
abbrev pub ev : Call → Result Reply Refusal → Event
ev c a = record { call = c; answer = a }

pub record Fair (f : Fixed) (h : List Event) (e : Event) : Type 0 where
  pub refused : refused_with e.answer ≡ refusal f h e.call
  pub ruled : (y : Reply) → e.answer ≡ Ok y → Ruled f h e.call y
  pub portion : (y : Reply) (b : List ℕ) → e.call ≡ enter_portion b → e.answer ≡ Ok y → PortionEarned f h b y.verdict
  pub turned : (y : Reply) → e.answer ≡ Ok y → Turned f h e.call (article f e h) y.status

pub fair_refused : (f : Fixed) (h : List Event) (c : Call) (x : Refusal) → refusal f h c ≡ Some x → Fair f h (ev c (Err x))
fair_refused f h c x e = record {
  refused = sym e;
  ruled = λ y w. absurd (err_not_ok x y w);
  portion = λ y b _ w. absurd (err_not_ok x y w);
  turned = λ y w. absurd (err_not_ok x y w);
}

pub fair_accepted : (f : Fixed) (h : List Event) (c : Call) (y : Reply) → refusal f h c ≡ None → Ruled f h c y
    → ((b : List ℕ) → c ≡ enter_portion b → PortionEarned f h b y.verdict)
    → Turned f h c (decided f c y (status h) (waiting f h)) y.status → Fair f h (ev c (Ok y))
fair_accepted f h c y e r p t = record {
  refused = sym e;
  ruled = λ z w. subst (λ v. Ruled f h c v) (ok_same y z w) r;
  portion = λ z b k w. subst (λ (v : Reply). PortionEarned f h b v.verdict) (ok_same y z w) (p b k);
  turned = λ z w. subst (λ (v : Reply). Turned f h c (decided f c y (status h) (waiting f h)) v.status) (ok_same y z w) t;
}

-- every event is fair after those before it
abbrev pub AllFair : Fixed → List Event → Type 0
AllFair f [] = Unit {0}
AllFair f (e ∷ h) = Fair f h e × AllFair f h

pub fair_at : (f : Fixed) (h later earlier : List Event) (e : Event) → AllFair f h → h ≡ later ++ e ∷ earlier → Fair f earlier e
fair_at f [] [] earlier e a q = let z : ◌≡◌ {A = ℕ} 0 1 = cc in absurd (omega arith)
fair_at f [] (x ∷ later) earlier e a q = let z : ◌≡◌ {A = ℕ} 0 1 = cc in absurd (omega arith)
fair_at f (y ∷ h) [] earlier e a q =
    let p : h ≡ earlier = cc in
    let w : y ≡ e = cc in
    subst (λ v. Fair f earlier v) w (subst (λ v. Fair f v y) p a.0)
fair_at f (y ∷ h) (x ∷ later) earlier e a q = fair_at f h later earlier e a.1 (cc)

pub earned_from : (f : Fixed) (h : List Event) (es : List Entry) (n : ℕ) → AllFair f h → es ≡ written f h → n + length es ≡ f.room → Earned f h es n
earned_from f h es n a b r = record {
  refused_exactly = λ later earlier e q. (fair_at f h later earlier e a q).refused;
  answered_as_ruled = λ later earlier e y q w. (fair_at f h later earlier e a q).ruled y w;
  portions_earned = λ later earlier e y s q c w. (fair_at f h later earlier e a q).portion y s c w;
  status_turned_exactly = λ later earlier e y q w. (fair_at f h later earlier e a q).turned y w;
  book_holds_the_accepted = b;
  room_is_what_is_left = r;
}

-- the waiting lot as the line has it, and as the entries have it
abbrev pub due_of : Bool → Option Waiting → Option WaitingLot
due_of out None = None
due_of out (Some l) = Some (record { number = l.number; size = l.size; slip_out = out })

abbrev pub first_of : (Status → ℕ → Option LotRow) → Status → Option Waiting → Option Sample
first_of row s None = None
first_of row s (Some l) = Some (record { units = first_units (row s l.size); tally = l.first })

pub due_some : (out : Bool) (w : Option Waiting) → is_some (due_of out w) ≡ is_some w
due_some out None = refl
due_some out (Some l) = refl

pub due_moved : (o out : Bool) (w : Option Waiting) → slip_moved o (due_of out w) ≡ due_of o w
due_moved o out None = refl
due_moved o out (Some l) = refl

-- no period has more portions than there are entries
abbrev PeriodFew : Option ℕ → ℕ → Type 0
PeriodFew None n = Unit {0}
PeriodFew (Some k) n = k ≤ n

period_on : (o : Option ℕ) (n m : ℕ) → PeriodFew o n → PeriodFew o (n + m)
period_on None n m h = tt
period_on (Some k) n m h = omega arith

period_then : (f : Fixed) (c : Call) (o : Option ℕ) (n : ℕ) → PeriodFew o n → PeriodFew (period_after f c o) (n + writes c)
period_then f open_period o n h = omega arith
period_then f (enter_portion b) None n h = tt
period_then f (enter_portion b) (Some k) n h = omega arith
period_then f end_period o n h = tt
period_then f (enter_lot z b) o n h = period_on o n 1 h
period_then f (enter_second k b) o n h = period_on o n 1 h
period_then f (hand_in k) o n h = period_on o n 0 h
period_then f reissue o n h = period_on o n 0 h
period_then f grant_relief o n h = period_on o n 1 h
period_then f report_irregular o n h = period_on o n 1 h

-- the facts of a history that every step keeps
pub record Sound (f : Fixed) (h : List Event) : Type 0 where
  pub keeps : Broken f.window f.most_rejected (status h) (verdicts (spell f h)) → ⊥
  pub ends : (ys : List Article) × (articles (written f h) ≡ ys ++ spell f h)
  pub sampled : (reading (written f h)).first_sample ≡ first_of f.row (status h) (waiting f h)
  pub counted : length (written f h) ≡ count h
  pub windowed : 0 < f.window
  pub bounded : f.room ≤ 9999999
  pub period_few : PeriodFew (period f h) (count h)

pub sound_empty : (f : Fixed) → 0 < f.window → f.room ≤ 9999999 → Sound f []
sound_empty f some few = record { windowed = some; bounded = few; period_few = tt; keeps = new_spell_keeps f.window f.most_rejected Normal; ends = ([], refl); sampled = refl; counted = refl }

-- where there is room, the spell and the open period are short
pub spell_few : (f : Fixed) (h : List Event) → Sound f h → leb f.room (count h) ≡ false → length (spell f h) < 9999999
spell_few f h k e =
    omega (arith, ap length k.ends.1 ∙ length-append k.ends.0 (spell f h), articles_fit (written f h), k.counted, leb-false f.room (count h) e, k.bounded)

pub one_more_period : (f : Fixed) (h : List Event) (b : List ℕ) → Sound f h → leb f.room (count h) ≡ false → one_more (period f h) ≡ period_after f (enter_portion b) (period f h)
one_more_period f h b k e = by (period f h) k.period_few
  where
    by : (o : Option ℕ) → PeriodFew o (count h) → one_more o ≡ period_after f (enter_portion b) o
    by None p = refl
    by (Some n) p = let z : counted_on n ≡ n + 1 = omega (arith, leb-false f.room (count h) e, k.bounded) in ap (λ (x : ℕ). Some x) z

-- a status change as the article makes it
pub by_article : (f : Fixed) (h : List Event) (a : Article) (b : Bool) → Sound f h → b ≡ breaks f.window f.most_rejected (status h) (verdicts (spell f h)) a.rejected → ByArticle f h (cond b (turned (status h)) (status h)) (Some a)
by_article f h a true k e =
    let w : FirstToBreak f h a = (broken_where f.window f.most_rejected (status h) (spell f h) a k.windowed k.keeps (sym e), k.keeps) in
    (((λ _. w), (λ _. refl)), ((λ q. absurd (turned_differs (status h) q)), (λ n. absurd (n w))))
by_article f h a false k e =
    let n : FirstToBreak f h a → ⊥ = λ w. unbroken_where f.window f.most_rejected (status h) (spell f h) a k.windowed k.keeps (sym e) w.0 in
    (((λ q. absurd (turned_differs (status h) (sym q))), (λ w. absurd (n w))), ((λ _. n), (λ _. refl)))

pub spell_decided : (f : Fixed) (h : List Event) (c : Call) (y : Reply) (a : Article) (b : Bool)
    → y.status ≡ cond b (turned (status h)) (status h)
    → decided f c y (status h) (waiting f h) ≡ Some a
    → spell f (ev c (Ok y) ∷ h) ≡ cond b [] (spell f h ++ a ∷ [])
spell_decided f h c y a b es ed =
    ap₂ (λ s o. cond (same_status s (status h)) (with_article f (spell f h) o) []) es ed ∙ spell_then b (status h) (spell f h ++ a ∷ [])

-- the facts after an article
pub sound_decided : (f : Fixed) (h : List Event) (c : Call) (y : Reply) (a : Article) (e : Entry) (b : Bool) → Sound f h
    → b ≡ breaks f.window f.most_rejected (status h) (verdicts (spell f h)) a.rejected
    → y.status ≡ cond b (turned (status h)) (status h)
    → decided f c y (status h) (waiting f h) ≡ Some a
    → entry_of f c y (status h) (waiting f h) ≡ Some e
    → writes c ≡ 1
    → (read_by e.kind e (reading (written f h))).articles ≡ articles (written f h) ++ a ∷ []
    → (read_by e.kind e (reading (written f h))).first_sample ≡ first_of f.row y.status (waiting_after f c y (status h) (count h) (waiting f h))
    → Sound f (ev c (Ok y) ∷ h)
sound_decided f h c y a e b k eb es ed ee ew ea ef =
    let sp = spell_decided f h c y a b es ed in
    let pw : written f (ev c (Ok y) ∷ h) ≡ written f h ++ e ∷ [] = ap (λ o. written f h ++ listed f o) ee in
    let pr : reading (written f (ev c (Ok y) ∷ h)) ≡ read_by e.kind e (reading (written f h)) = ap reading pw ∙ reading_push (record { articles = []; first_sample = None }) (written f h) e in
    let en = ends_then b (articles (written f h)) (spell f h) k.ends.0 a k.ends.1 in
    let pl : length (written f (ev c (Ok y) ∷ h)) ≡ length (written f h ++ e ∷ []) = ap length pw in
    record {
      keeps = subst₂ (λ s xs. Broken f.window f.most_rejected s (verdicts xs) → ⊥) (sym es) (sym sp) (keeps_after f.window f.most_rejected (status h) (spell f h) a k.windowed k.keeps b eb);
      ends = (en.0, ap (λ (x : Reading). x.articles) pr ∙ ea ∙ en.1 ∙ ap (λ t. en.0 ++ t) (sym sp));
      windowed = k.windowed;
      bounded = k.bounded;
      period_few = period_then f c (period f h) (count h) k.period_few;
      sampled = ap (λ (x : Reading). x.first_sample) pr ∙ ef;
      counted = omega (arith, length-append (written f h) (e ∷ []), k.counted);
    }

-- the facts after a call that decides no article and keeps the status and the waiting lot
pub spell_idle : (f : Fixed) (h : List Event) (c : Call) (y : Reply) → y.status ≡ status h → decided f c y (status h) (waiting f h) ≡ None → spell f (ev c (Ok y) ∷ h) ≡ spell f h
spell_idle f h c y es ed =
    ap₂ (λ s o. cond (same_status s (status h)) (with_article f (spell f h) o) []) es ed ∙ ap (λ t. cond t (spell f h) []) (same_refl (status h))

pub sound_quiet : (f : Fixed) (h : List Event) (c : Call) (y : Reply) → Sound f h
    → y.status ≡ status h
    → decided f c y (status h) (waiting f h) ≡ None
    → articles (written f (ev c (Ok y) ∷ h)) ≡ articles (written f h)
    → (reading (written f (ev c (Ok y) ∷ h))).first_sample ≡ first_of f.row y.status (waiting_after f c y (status h) (count h) (waiting f h))
    → length (listed f (entry_of f c y (status h) (waiting f h))) ≡ writes c
    → Sound f (ev c (Ok y) ∷ h)
sound_quiet f h c y k es ed ea ef el =
    let sp = spell_idle f h c y es ed in
    record {
      keeps = subst₂ (λ s xs. Broken f.window f.most_rejected s (verdicts xs) → ⊥) (sym es) (sym sp) k.keeps;
      ends = (k.ends.0, ea ∙ k.ends.1 ∙ ap (λ t. k.ends.0 ++ t) (sym sp));
      windowed = k.windowed;
      bounded = k.bounded;
      period_few = period_then f c (period f h) (count h) k.period_few;
      sampled = ef;
      counted = omega (arith, length-append (written f h) (listed f (entry_of f c y (status h) (waiting f h))), k.counted);
    }

pub sound_idle : (f : Fixed) (h : List Event) (c : Call) (y : Reply) → Sound f h
    → y.status ≡ status h
    → decided f c y (status h) (waiting f h) ≡ None
    → waiting_after f c y (status h) (count h) (waiting f h) ≡ waiting f h
    → reading (written f (ev c (Ok y) ∷ h)) ≡ reading (written f h)
    → length (listed f (entry_of f c y (status h) (waiting f h))) ≡ writes c
    → Sound f (ev c (Ok y) ∷ h)
sound_idle f h c y k es ed ew er el =
    sound_quiet f h c y k es ed (ap (λ (x : Reading). x.articles) er)
    (ap (λ (x : Reading). x.first_sample) er ∙ k.sampled ∙ ap₂ (λ s w. first_of f.row s w) (sym es) (sym ew)) el

-- the facts after relief or notice
pub spell_turned : (f : Fixed) (h : List Event) (c : Call) (y : Reply) → same_status y.status (status h) ≡ false → spell f (ev c (Ok y) ∷ h) ≡ []
spell_turned f h c y es = ap (λ t. cond t (with_article f (spell f h) (decided f c y (status h) (waiting f h))) []) es

pub sound_turned : (f : Fixed) (h : List Event) (c : Call) (y : Reply) → Sound f h
    → same_status y.status (status h) ≡ false
    → waiting f h ≡ None
    → waiting_after f c y (status h) (count h) (waiting f h) ≡ waiting f h
    → reading (written f (ev c (Ok y) ∷ h)) ≡ reading (written f h)
    → length (listed f (entry_of f c y (status h) (waiting f h))) ≡ writes c
    → Sound f (ev c (Ok y) ∷ h)
sound_turned f h c y k es wn ew er el =
    let sp = spell_turned f h c y es in
    record {
      keeps = subst (λ xs. Broken f.window f.most_rejected y.status (verdicts xs) → ⊥) (sym sp) (new_spell_keeps f.window f.most_rejected y.status);
      ends = (articles (written f h), ap (λ (x : Reading). x.articles) er ∙ sym (append-nil (articles (written f h))) ∙ ap (λ t. articles (written f h) ++ t) (sym sp));
      windowed = k.windowed;
      bounded = k.bounded;
      period_few = period_then f c (period f h) (count h) k.period_few;
      sampled = ap (λ (x : Reading). x.first_sample) er ∙ k.sampled ∙ ap (λ w. first_of f.row (status h) w) wn ∙ ap (λ w. first_of f.row y.status w) (sym (ew ∙ wn));
      counted = omega (arith, length-append (written f h) (listed f (entry_of f c y (status h) (waiting f h))), k.counted);
    }

-- the facts after a refused call
pub spell_refused : (f : Fixed) (h : List Event) (c : Call) (x : Refusal) → spell f (ev c (Err x) ∷ h) ≡ spell f h
spell_refused f h c x = ap (λ t. cond t (spell f h) []) (same_refl (status h))

pub written_refused : (f : Fixed) (h : List Event) (c : Call) (x : Refusal) → written f (ev c (Err x) ∷ h) ≡ written f h
written_refused f h c x = append-nil (written f h)

pub sound_refused : (f : Fixed) (h : List Event) (c : Call) (x : Refusal) → Sound f h → Sound f (ev c (Err x) ∷ h)
sound_refused f h c x k =
    let sp = spell_refused f h c x in
    let pw = written_refused f h c x in
    record {
      keeps = subst (λ xs. Broken f.window f.most_rejected (status h) (verdicts xs) → ⊥) (sym sp) k.keeps;
      ends = (k.ends.0, ap articles pw ∙ k.ends.1 ∙ ap (λ t. k.ends.0 ++ t) (sym sp));
      windowed = k.windowed;
      bounded = k.bounded;
      period_few = k.period_few;
      sampled = ap (λ es. (reading es).first_sample) pw ∙ k.sampled;
      counted = ap length pw ∙ k.counted;
    }

-- where nothing waits no slip is out
none_out : (f : Fixed) (h : List Event) → AllFair f h → waiting f h ≡ None → slip_is_out f h ≡ false
none_out f [] a wn = refl
none_out f (e ∷ h) a wn = by e.call e.answer a.0.refused a.0.ruled (none_out f h a.1) wn
  where
    nothing_there : (l : Waiting) → Some l ≡ None → ⊥
    nothing_there l q = let z : ◌≡◌ {A = ℕ} 0 1 = cc in omega arith

    by : (c : Call) (x : Result Reply Refusal) → refused_with x ≡ refusal f h c → ((y : Reply) → x ≡ Ok y → Ruled f h c y) → (waiting f h ≡ None → slip_is_out f h ≡ false)
        → waiting f (ev c x ∷ h) ≡ None → slip_is_out f (ev c x ∷ h) ≡ false
    by c (Err x) free ruled ih w = ih w
    by open_period (Ok y) free ruled ih w = ih w
    by (enter_portion b) (Ok y) free ruled ih w = ih w
    by end_period (Ok y) free ruled ih w = ih w
    by (enter_lot z b) (Ok y) free ruled ih w =
        let p1 = passes _ _ _ (sym free) in
        let p2 = passes _ _ _ p1.1 in
        let p3 = passes _ _ _ p2.1 in
        let row = there (f.row (status h) z) p3.0 in
        let no_slip : y.slip ≡ None = (ruled y refl row.0 row.1).1.1 (λ v. nothing_there _ (sym (ap (λ x. waiting_after f (enter_lot z b) (record y { verdict = x }) (status h) (count h) (waiting f h)) v) ∙ w)) in
        ap (λ o. cond (is_some o) true (slip_is_out f h)) no_slip ∙ ih (not_none (waiting f h) p1.0)
    by (enter_second k b) (Ok y) free ruled ih w = refl
    by (hand_in k) (Ok y) free ruled ih w = refl
    by reissue (Ok y) free ruled ih w =
        let p1 = passes _ _ _ (sym free) in
        let l = there (waiting f h) p1.0 in
        absurd (nothing_there l.0 (sym l.1 ∙ w))
    by grant_relief (Ok y) free ruled ih w = ih w
    by report_irregular (Ok y) free ruled ih w = ih w

due_out : (f : Fixed) (h : List Event) → AllFair f h → is_out (due_of (slip_is_out f h) (waiting f h)) ≡ slip_is_out f h
due_out f h a = by (waiting f h) (none_out f h a)
  where
    by : (w : Option Waiting) → (w ≡ None → slip_is_out f h ≡ false) → is_out (due_of (slip_is_out f h) w) ≡ slip_is_out f h
    by None none = sym (none refl)
    by (Some l) none = refl

-- the standing that a history tells of, given the numbers that it carries
abbrev pub standing_of : {C : Type 0} → Fixed → (List Event → C) → List Event → Standing C
standing_of f carried h = record { status = status h; spell = length (spell f h); period = period f h; waiting = due_of (slip_is_out f h) (waiting f h); carried = carried h; unsound = None }

pub same_standing : {C : Type 0} (a b : Standing C) → a.status ≡ b.status → a.spell ≡ b.spell → a.period ≡ b.period → a.waiting ≡ b.waiting → a.carried ≡ b.carried → a.unsound ≡ b.unsound → a ≡ b
same_standing a b e1 e2 e3 e4 e5 e6 = λ i. record { status = e1 i; spell = e2 i; period = e3 i; waiting = e4 i; carried = e5 i; unsound = e6 i }

module _ {C : Type 0} (r : Rules C) (row : Status → ℕ → Option LotRow) (score : ℕ → List ℕ → Result Tally Refusal) (room : ℕ) where
  abbrev pub fx : Fixed
  fx = record { window = r.window; most_rejected = r.most_rejected; row = row; limits = r.limits; score = score; room = room }

  abbrev pub book_of : List Event → List Entry
  book_of h = written fx h

  module _ (carried : List Event → C) where
    abbrev pub now : List Event → Standing C
    now h = standing_of fx carried h

  module _ (carried : List Event → C) (Extra : List Event → Type 0) where
    -- what a step keeps
    pub record Kept (h : List Event) (c : Call) (o : Outcome C) : Type 0 where
      pub fair : Fair fx h (ev c o.answer)
      pub stands : o.standing ≡ standing_of fx carried (ev c o.answer ∷ h)
      pub book : o.entries ≡ written fx (ev c o.answer ∷ h)
      pub room_left : o.room + count (ev c o.answer ∷ h) ≡ room
      pub sound : Sound fx (ev c o.answer ∷ h)
      pub extra : Extra (ev c o.answer ∷ h)

    -- the standing's spell, found in the entries
    pub spell_found : (h : List Event) → Sound fx h → in_spell r (now carried h) (book_of h) ≡ spell fx h
    spell_found h k = end_rest (articles (book_of h)) (spell fx h) k.ends.0 k.ends.1

    pub turns_found : (h : List Event) (a : Article) → Sound fx h
        → turns r (now carried h) (book_of h) a ≡ breaks r.window r.most_rejected (status h) (verdicts (spell fx h)) a.rejected
    turns_found h a k = ap (λ xs. breaks r.window r.most_rejected (status h) (verdicts xs) a.rejected) (spell_found h k)

    module _ (idle : (h : List Event) (c : Call) (x : Refusal) → carried (ev c (Err x) ∷ h) ≡ carried h) (still : (h : List Event) (c : Call) (x : Refusal) → Extra h → Extra (ev c (Err x) ∷ h)) where
      pub kept_refused : (h : List Event) (c : Call) (x : Refusal) (n : ℕ) → Sound fx h → Extra h → n + count h ≡ room → refusal fx h c ≡ Some x
          → Kept h c (record { answer = Err x; standing = now carried h; entries = written fx h; room = n })
      kept_refused h c x n k ex rm e = record {
        fair = fair_refused fx h c x e;
        stands = same_standing _ _ refl (ap length (sym (spell_refused fx h c x))) refl refl (sym (idle h c x)) refl;
        book = sym (written_refused fx h c x);
        room_left = rm;
        sound = sound_refused fx h c x k;
        extra = still h c x ex;
      }

      -- a step is kept where its refusal is the history's, and where it is kept when not refused
      pub kept_step : (h : List Event) (c : Call) (n : ℕ) → Sound fx h → Extra h → n + count h ≡ room
          → refuses r score c (now carried h) (book_of h) n ≡ refusal fx h c
          → (refusal fx h c ≡ None → Kept h c (settled None (takes r score c (now carried h) (book_of h)) (now carried h) (book_of h) n))
          → Kept h c (step r score c (now carried h) (book_of h) n)
      kept_step h c n k ex rm same taken = go (refuses r score c st es n) refl
        where
          st : Standing C
          st = now carried h

          es : List Entry
          es = written fx h

          go : (o : Option Refusal) → refuses r score c st es n ≡ o → Kept h c (settled (refuses r score c st es n) (takes r score c st es) st es n)
          go None e = subst (λ o. Kept h c (settled o (takes r score c st es) st es n)) (sym e) (taken (sym same ∙ e))
          go (Some x) e = subst (λ o. Kept h c (settled o (takes r score c st es) st es n)) (sym e) (kept_refused h c x n k ex rm (sym same ∙ e))

    -- relief and notice, on either kind of line
    relief_first : List Event → ℕ → Bool → Bool → List Article → Option Refusal
    relief_first h n q m xs =
        first ((q, LotAwaits) ∷ (m, NoRoom) ∷ (not (same_status (status h) Normal), ReliefOffNormal) ∷ (ltb (length (spell fx h)) r.window, SpellTooShort) ∷ (ltb r.most_rejected (rejections (verdicts (last_articles r.window xs))), TooManyRejected) ∷ (not (is_some (r.limits (units_of (last_articles r.window xs)))), TooFewUnits) ∷ (above (last_articles r.window xs) (r.limits (units_of (last_articles r.window xs))), DefectsAboveLimit) ∷ []) None

    pub relief_agrees : (h : List Event) (n : ℕ) → Sound fx h → n + count h ≡ room → refuses r score grant_relief (now carried h) (book_of h) n ≡ refusal fx h grant_relief
    unfolding relief_first
    relief_agrees h n k rm =
        ap (λ q. relief_first h n q (leb n 0) (in_spell r (now carried h) (book_of h))) (due_some (slip_is_out fx h) (waiting fx h))
        ∙ ap (λ m. relief_first h n (is_some (waiting fx h)) m (in_spell r (now carried h) (book_of h))) (room_test n (count h) room rm)
        ∙ ap (λ xs. relief_first h n (is_some (waiting fx h)) (leb room (count h)) xs) (spell_found h k)

    notice_first : List Event → Bool → Bool → Option Refusal
    notice_first h q m = first ((q, LotAwaits) ∷ (m, NoRoom) ∷ (not (same_status (status h) Reduced), NoticeOffReduced) ∷ []) None

    pub notice_agrees : (h : List Event) (n : ℕ) → n + count h ≡ room → refuses r score report_irregular (now carried h) (book_of h) n ≡ refusal fx h report_irregular
    unfolding notice_first
    notice_agrees h n rm = ap (λ q. notice_first h q (leb n 0)) (due_some (slip_is_out fx h) (waiting fx h)) ∙ ap (λ m. notice_first h (is_some (waiting fx h)) m) (room_test n (count h) room rm)

    pub relief_kept : (h : List Event) (n : ℕ) → Sound fx h → n + count h ≡ room
        → (same_status Reduced (status h) ≡ false → waiting fx h ≡ None → carried (ev grant_relief (Ok (told Undecided Reduced None)) ∷ h) ≡ r.starts Reduced)
        → (waiting fx h ≡ None → Extra (ev grant_relief (Ok (told Undecided Reduced None)) ∷ h))
        → refusal fx h grant_relief ≡ None → Kept h grant_relief (settled None (takes r score grant_relief (now carried h) (book_of h)) (now carried h) (book_of h) n)
    relief_kept h n k rm cn xn e =
        let p1 = passes _ _ _ e in
        let p2 = passes _ _ _ p1.1 in
        let p3 = passes _ _ _ p2.1 in
        let y = told Undecided Reduced None in
        let wn = not_none (waiting fx h) p1.0 in
        let sn : status h ≡ Normal = same_true (status h) Normal (not-false _ p3.0) in
        let sd : same_status Reduced (status h) ≡ false = ap (λ t. same_status Reduced t) sn in
        record {
          fair = fair_accepted fx h grant_relief y e (refl, refl) (λ b q. absurd (no_portion_relief b q)) refl;
          stands = same_standing _ _ refl (ap length (sym (spell_turned fx h grant_relief y sd))) refl refl (sym (cn sd wn)) refl;
          book = refl;
          room_left = room_after n (count h) room rm (room_test n (count h) room rm ∙ p2.0);
          sound = sound_turned fx h grant_relief y k sd wn refl (reading_push (record { articles = []; first_sample = None }) (book_of h) (bare kind.Relief (status h) Undecided)) refl;
          extra = xn wn;
        }

    pub notice_kept : (h : List Event) (n : ℕ) → Sound fx h → n + count h ≡ room
        → (same_status Normal (status h) ≡ false → waiting fx h ≡ None → carried (ev report_irregular (Ok (told Undecided Normal None)) ∷ h) ≡ r.starts Normal)
        → (waiting fx h ≡ None → Extra (ev report_irregular (Ok (told Undecided Normal None)) ∷ h))
        → refusal fx h report_irregular ≡ None → Kept h report_irregular (settled None (takes r score report_irregular (now carried h) (book_of h)) (now carried h) (book_of h) n)
    notice_kept h n k rm cn xn e =
        let p1 = passes _ _ _ e in
        let p2 = passes _ _ _ p1.1 in
        let p3 = passes _ _ _ p2.1 in
        let y = told Undecided Normal None in
        let wn = not_none (waiting fx h) p1.0 in
        let sn : status h ≡ Reduced = same_true (status h) Reduced (not-false _ p3.0) in
        let sd : same_status Normal (status h) ≡ false = ap (λ t. same_status Normal t) sn in
        record {
          fair = fair_accepted fx h report_irregular y e (refl, refl) (λ b q. absurd (no_portion_notice b q)) refl;
          stands = same_standing _ _ refl (ap length (sym (spell_turned fx h report_irregular y sd))) refl refl (sym (cn sd wn)) refl;
          book = refl;
          room_left = room_after n (count h) room rm (room_test n (count h) room rm ∙ p2.0);
          sound = sound_turned fx h report_irregular y k sd wn refl (reading_push (record { articles = []; first_sample = None }) (book_of h) (bare kind.IrregularNotice (status h) Undecided)) refl;
          extra = xn wn;
        }

    -- the rest of a run, from a standing that is read off the history so far
    module _ (P : Call → Type 0) (each : (h : List Event) (c : Call) (n : ℕ) → P c → Sound fx h → Extra h → n + count h ≡ room → Kept h c (step r score c (now carried h) (book_of h) n)) where
      pub earned_on : (cs : List Call) (h : List Event) (st : Standing C) (es : List Entry) (n : ℕ) → Each P cs → AllFair fx h → Sound fx h → Extra h → n + count h ≡ room → st ≡ now carried h → es ≡ book_of h
          → Earned fx (go r score cs h st es n).events (go r score cs h st es n).entries (go r score cs h st es n).room × (is_out (go r score cs h st es n).standing.waiting ≡ slip_is_out fx (go r score cs h st es n).events)
      earned_on [] h st es n p a k x rm e1 e2 =
          (earned_from fx h es n a e2 (ap (λ t. n + length t) e2 ∙ ap (λ t. n + t) k.counted ∙ rm), ap (λ (s : Standing C). is_out s.waiting) e1 ∙ due_out fx h a)
      earned_on (c ∷ cs) h st es n p a k x rm e1 e2 =
          let o = step r score c st es n in
          let q : Kept h c o = subst₂ (λ s t. Kept h c (step r score c s t n)) (sym e1) (sym e2) (each h c n p.0 k x rm) in
          earned_on cs (ev c o.answer ∷ h) o.standing o.entries o.room p.1 (q.fair, a) q.sound q.extra q.room_left q.stands q.book
