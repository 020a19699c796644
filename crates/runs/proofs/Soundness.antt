-- A run's book grows entry by entry, each written by a call on the line as the entries before leave it; and such a call goes on a run.
use Rattle.std.proofs.Common.{◌≡◌, ℕ, ◌+◌, ◌<◌, ◌≤◌, Bool, true, false, not, ltb, List, [], ◌∷◌, ◌++◌, length, take, drop, Some, None, Option, Result, sym, refl, ap, ◌∙◌, ap₂, arith}
use Rattle.std.proofs.lemmas.List.{append-nil, append_assoc, length-append, take_at, drop_at}
use Rattle.std.proofs.lemmas.Bool.{ltb-true, ltb-false, not-false}
use Rattle.inspection.specs.declared.refusal.Refusal.{Refusal}
use Rattle.inspection.specs.declared.refusal.Refusal.TheVariants.{NoLotAwaits, SlipIsOut, BookUnsound}
use Rattle.inspection.specs.declared.tally.Tally.{Tally}
use Rattle.entries.specs.declared.entry.Entry.{Entry}
use Rattle.regimes.specs.Portions.{on_line_rules}
use Rattle.regimes.specs.Rules.{Rules}
use Rattle.runs.specs.declared.standing.Standing.{Standing}
use Rattle.runs.specs.History.{Call, open_period, enter_portion, end_period, enter_lot, enter_second, hand_in, reissue, grant_relief, report_irregular, Event, first}
use Rattle.runs.specs.Lines.{is_out, has_slip, slip_moved, put, with_slip, settled, refuses_sound, refuses, takes, step}
use Rattle.runs.specs.Runs.{Run, go, run, fresh, replay, ServedBy, Served, Each, Bounded}
use Rattle.runs.specs.Setting.{Shows}
use Rattle.runs.specs.Soundness.{CouldWrite, EachCouldBeWritten, FirstThatCouldNot, SoundWhereWritten, SoundByEntries, SoundBySheets}
use Rattle.runs.specs.Writing.{sheet_score, plan_rules}
use Rattle.runs.proofs.Small.{passes}
use Rattle.runs.proofs.Slips.{moved_waits, slip_waits, slip_given, with_again, with_there, lot_unmoved, relief_unmoved, notice_unmoved}
use Rattle.runs.proofs.Keeping.{ev}
use Rattle.runs.proofs.Replay.{stands_on_its_book}
use Rattle.runs.proofs.Books.{go_on, each_on, set_on_a_run, sound_exactly, first_unsound}
use Rattle.runs.proofs.Writing.{scores_bounded, sheets_show}

some_not_none : {A B : Type 0} (a : A) → ◌≡◌ {A = Option A} (Some a) None → B
some_not_none a e = let z : ◌≡◌ {A = ℕ} 0 1 = cc in absurd (omega arith)

same_head : (x y : Entry) (xs ys : List Entry) → x ∷ xs ≡ y ∷ ys → x ≡ y
same_head x y xs ys e = cc

same_tail : (x y : Entry) (xs ys : List Entry) → x ∷ xs ≡ y ∷ ys → xs ≡ ys
same_tail x y xs ys e = cc

-- two lists parted at the same place
parts_same : (xs ys m z : List Entry) (x y : Entry) → length xs ≡ length ys → xs ++ x ∷ m ≡ ys ++ y ∷ z → (xs ≡ ys) × (x ≡ y)
parts_same xs ys m z x y n e = (
  sym (take_at xs (x ∷ m) (length ys) n) ∙ ap (take (length ys)) e ∙ take_at ys (y ∷ z) (length ys) refl,
  same_head x y m z (sym (drop_at xs (x ∷ m) (length ys) n) ∙ ap (drop (length ys)) e ∙ drop_at ys (y ∷ z) (length ys) refl),
)

-- of two splits of a list the shorter front goes on into the longer one
part_within : (a b w z : List Entry) (e : Entry) → length a < length b → a ++ e ∷ z ≡ b ++ w → (m : List Entry) × (b ≡ a ++ e ∷ m)
part_within [] [] w z e lt q = absurd (omega arith)
part_within [] (y ∷ b) w z e lt q = (b, ap {B = List Entry} (λ x. x ∷ b) (sym (same_head e y z (b ++ w) q)))
part_within (x ∷ a) [] w z e lt q = absurd (omega arith)
part_within (x ∷ a) (y ∷ b) w z e lt q =
    let p = part_within a b w z e (omega arith) (same_tail x y (a ++ e ∷ z) (b ++ w) q) in
    (p.0, ap₂ {C = List Entry} (λ v l. v ∷ l) (sym (same_head x y (a ++ e ∷ z) (b ++ w) q)) p.1)

module _ {C : Type 0} (r : Rules C) (score : ℕ → List ℕ → Result Tally Refusal) where
  -- a book only grows
  put_grows : (w : Option Entry) (xs : List Entry) → (more : List Entry) × (put w xs ≡ xs ++ more)
  put_grows None xs = ([], sym (append-nil xs))
  put_grows (Some x) xs = (x ∷ [], refl)

  step_grows : (c : Call) (st : Standing C) (xs : List Entry) (n : ℕ) → (more : List Entry) × ((step r score c st xs n).entries ≡ xs ++ more)
  step_grows c st xs n = by (refuses r score c st xs n)
    where
      by : (o : Option Refusal) → (more : List Entry) × ((settled o (takes r score c st xs) st xs n).entries ≡ xs ++ more)
      by None = put_grows (takes r score c st xs).writes xs
      by (Some x) = ([], sym (append-nil xs))

  go_grows : (cs : List Call) (h : List Event) (st : Standing C) (xs : List Entry) (n : ℕ) → (more : List Entry) × ((go r score cs h st xs n).entries ≡ xs ++ more)
  go_grows [] h st xs n = ([], sym (append-nil xs))
  go_grows (c ∷ cs) h st xs n =
      let o = step r score c st xs n in
      let p = step_grows c st xs n in
      let q = go_grows cs (ev c o.answer ∷ h) o.standing o.entries o.room in
      (p.0 ++ q.0, q.1 ∙ ap (λ l. l ++ q.0) p.1 ∙ append_assoc xs p.0 q.0)

  -- the book of a longer run
  run_grows : (ps cs : List Call) (n : ℕ) → (more : List Entry) × ((run r score (ps ++ cs) n).entries ≡ (run r score ps n).entries ++ more)
  run_grows ps cs n =
      let v = run r score ps n in
      let p = go_grows cs v.events v.standing v.entries v.room in
      (p.0, ap (λ (x : Run C). x.entries) (go_on r score ps cs [] (fresh r) [] n) ∙ p.1)

  run_one : (ps : List Call) (c : Call) (n : ℕ) → (run r score (ps ++ c ∷ []) n).entries ≡ (step r score c (run r score ps n).standing (run r score ps n).entries (run r score ps n).room).entries
  run_one ps c n = ap (λ (x : Run C). x.entries) (go_on r score ps (c ∷ []) [] (fresh r) [] n)

  sound_refuses : (c : Call) (st : Standing C) (es : List Entry) (n : ℕ) → refuses r score c st es n ≡ None → (st.unsound ≡ None) × (refuses_sound r score c st es n ≡ None)
  sound_refuses c st es n = at st.unsound
    where
      at : (o : Option ℕ) → (let y : Option Refusal = elim o [ Some k ↦ Some (BookUnsound k) | None ↦ refuses_sound r score c st es n ] in y) ≡ None → (o ≡ None) × (refuses_sound r score c st es n ≡ None)
      at None e = (refl, e)
      at (Some k) e = some_not_none (BookUnsound k) e

  module _ (bounded : Bounded score) (room : ℕ) (es z : List Entry) (e : Entry) where
    -- the call by which the run's book went from es to es and e
    written_here : (ps : List Call) (c : Call) → Each (Served r) ps → Served r c
        → refuses r score c (run r score ps room).standing (run r score ps room).entries (run r score ps room).room ≡ None
        → (takes r score c (run r score ps room).standing (run r score ps room).entries).writes ≡ Some e
        → (run r score ps room).entries ≡ es
        → CouldWrite r score es e
    written_here ps c svs sv er ew at =
        let v = run r score ps room in
        let stands : replay r es ≡ with_slip false v.standing = sym (ap (replay r) at) ∙ stands_on_its_book r score bounded room ps svs in
        let out = is_out v.standing.waiting in
        let same : with_slip out (replay r es) ≡ v.standing = ap (with_slip out) stands ∙ with_again out false v.standing ∙ with_there out v.standing refl in
        record {
          call = c;
          slip_out = out;
          room = v.room;
          served = sv;
          accepted = ap₂ (λ s l. refuses r score c s l v.room) same (sym at) ∙ er;
          written = ap₂ (λ s l. (takes r score c s l).writes) same (sym at) ∙ ew;
        }

    found : (cs ps : List Call) → Each (Served r) cs → Each (Served r) ps → length (run r score ps room).entries ≤ length es → (run r score (ps ++ cs) room).entries ≡ es ++ e ∷ z → CouldWrite r score es e
    found [] ps sc sp le at =
        let q = sym (ap (λ l. (run r score l room).entries) (append-nil ps)) ∙ at in
        absurd (omega (arith, ap length q, length-append es (e ∷ z)))
    found (c ∷ cs) ps sc sp le at = by (refuses r score c st xs n) refl (found cs (ps ++ c ∷ []) sc.1 (each_on r score (Served r) ps (c ∷ []) sp (sc.0, tt)))
      where
        st : Standing C
        st = (run r score ps room).standing

        xs : List Entry
        xs = (run r score ps room).entries

        n : ℕ
        n = (run r score ps room).room

        at_next : (run r score ((ps ++ c ∷ []) ++ cs) room).entries ≡ es ++ e ∷ z
        at_next = ap (λ l. (run r score l room).entries) (append_assoc ps (c ∷ []) cs) ∙ at

        -- the call wrote x, and the book was as long as es
        here : (x : Entry) → refuses r score c st xs n ≡ None → (takes r score c st xs).writes ≡ Some x → length xs ≡ length es → (run r score (ps ++ c ∷ []) room).entries ≡ xs ++ x ∷ [] → CouldWrite r score es e
        here x er ew sz gr =
            let more = run_grows (ps ++ c ∷ []) cs room in
            let whole : xs ++ x ∷ more.0 ≡ es ++ e ∷ z = sym (more.1 ∙ ap (λ l. l ++ more.0) gr ∙ append_assoc xs (x ∷ []) more.0) ∙ at_next in
            let p = parts_same xs es more.0 z x e sz whole in
            written_here ps c sp sc.0 er (ew ∙ ap {B = Option Entry} (λ y. Some y) p.1) p.0

        wrote : (x : Entry) (b : Bool) → ltb (length xs) (length es) ≡ b → refuses r score c st xs n ≡ None → (takes r score c st xs).writes ≡ Some x → (run r score (ps ++ c ∷ []) room).entries ≡ xs ++ x ∷ []
            → (length (run r score (ps ++ c ∷ []) room).entries ≤ length es → (run r score ((ps ++ c ∷ []) ++ cs) room).entries ≡ es ++ e ∷ z → CouldWrite r score es e)
            → CouldWrite r score es e
        wrote x true t er ew gr ih = ih (omega (arith, ltb-true (length xs) (length es) t, ap length gr, length-append xs (x ∷ []))) at_next
        wrote x false t er ew gr ih = here x er ew (omega (arith, ltb-false (length xs) (length es) t, le)) gr

        taken : (w : Option Entry) → (takes r score c st xs).writes ≡ w → refuses r score c st xs n ≡ None
            → (length (run r score (ps ++ c ∷ []) room).entries ≤ length es → (run r score ((ps ++ c ∷ []) ++ cs) room).entries ≡ es ++ e ∷ z → CouldWrite r score es e)
            → CouldWrite r score es e
        taken None ew er ih =
            let same : (run r score (ps ++ c ∷ []) room).entries ≡ xs = run_one ps c room ∙ ap (λ o. (settled o (takes r score c st xs) st xs n).entries) er ∙ ap (λ w. put w xs) ew in
            ih (omega (arith, ap length same, le)) at_next
        taken (Some x) ew er ih =
            let gr : (run r score (ps ++ c ∷ []) room).entries ≡ xs ++ x ∷ [] = run_one ps c room ∙ ap (λ o. (settled o (takes r score c st xs) st xs n).entries) er ∙ ap (λ w. put w xs) ew in
            wrote x (ltb (length xs) (length es)) refl er ew gr ih

        by : (o : Option Refusal) → refuses r score c st xs n ≡ o
            → (length (run r score (ps ++ c ∷ []) room).entries ≤ length es → (run r score ((ps ++ c ∷ []) ++ cs) room).entries ≡ es ++ e ∷ z → CouldWrite r score es e)
            → CouldWrite r score es e
        by None er ih = taken (takes r score c st xs).writes refl er ih
        by (Some x) er ih =
            let same : (run r score (ps ++ c ∷ []) room).entries ≡ xs = run_one ps c room ∙ ap (λ o. (settled o (takes r score c st xs) st xs n).entries) er in
            ih (omega (arith, ap length same, le)) at_next

  -- some calls on a line that stands so write e after es
  abbrev WrittenBy : Standing C → List Entry → ℕ → Entry → Type 0
  WrittenBy st es n e = (cs : List Call) × Each (Served r) cs × ((h : List Event) → (go r score cs h st es n).entries ≡ es ++ e ∷ [])

  module _ (st : Standing C) (es : List Entry) (n : ℕ) (e : Entry) where
    by_one : (c : Call) → Served r c → refuses r score c st es n ≡ None → (takes r score c st es).writes ≡ Some e → WrittenBy st es n e
    by_one c sv er ew = (c ∷ [], (sv, tt), λ h. ap (λ o. (settled o (takes r score c st es) st es n).entries) er ∙ ap (λ w. put w es) ew)

    reissue_too : (q : Bool) (k : ℕ) (b : List ℕ) → ServedBy q (enter_second k b) → ServedBy q reissue
    reissue_too true k b sv = sv
    reissue_too false k b sv = tt

    -- a second sample, its slip given out again where it is not out
    by_second : (k : ℕ) (b : List ℕ) (now out : Bool) → is_out st.waiting ≡ now → Served r (enter_second k b)
        → refuses r score (enter_second k b) (with_slip out st) es n ≡ None → (takes r score (enter_second k b) (with_slip out st) es).writes ≡ Some e → WrittenBy st es n e
    by_second k b true out s sv er ew =
        let p = sound_refuses (enter_second k b) (with_slip out st) es n er in
        let given = slip_given out k st.waiting (not-false _ (passes _ NoLotAwaits _ p.1).0) in
        let same : with_slip out st ≡ st = with_there out st (s ∙ sym given) in
        by_one (enter_second k b) sv (ap (λ t. refuses r score (enter_second k b) t es n) (sym same) ∙ er) (ap (λ t. (takes r score (enter_second k b) t es).writes) (sym same) ∙ ew)
    by_second k b false out s sv er ew =
        let p = sound_refuses (enter_second k b) (with_slip out st) es n er in
        let has = not-false (has_slip k (slip_moved out st.waiting)) (passes _ NoLotAwaits _ p.1).0 in
        let lent = with_slip true st in
        let same : with_slip out st ≡ lent = ap (λ o. with_slip o st) (slip_given out k st.waiting has) in
        let er1 : refuses r score reissue st es n ≡ None =
        ap (λ o. (let y : Option Refusal = elim o [ Some k ↦ Some (BookUnsound k) | None ↦ refuses_sound r score reissue st es n ] in y)) p.0
        ∙ ap₂ (λ q o. first ((not q, NoLotAwaits) ∷ (o, SlipIsOut) ∷ []) None) (sym (moved_waits out st.waiting) ∙ slip_waits k (slip_moved out st.waiting) has) s in
        let er2 : refuses r score (enter_second k b) lent es n ≡ None = ap (λ t. refuses r score (enter_second k b) t es n) (sym same) ∙ er in
        let ew2 : (takes r score (enter_second k b) lent es).writes ≡ Some e = ap (λ t. (takes r score (enter_second k b) t es).writes) (sym same) ∙ ew in (
          reissue ∷ enter_second k b ∷ [],
          (reissue_too r.portions k b sv, (sv, tt)),
          λ h.
              ap (λ o. (let x = settled o (takes r score reissue st es) st es n in (step r score (enter_second k b) x.standing x.entries x.room).entries)) er1
              ∙ ap (λ o. (settled o (takes r score (enter_second k b) lent es) lent es n).entries) er2
              ∙ ap (λ w. put w es) ew2,
        )

    unmoved : (c : Call) (out : Bool) → refuses_sound r score c (with_slip out st) es n ≡ refuses_sound r score c st es n → refuses r score c (with_slip out st) es n ≡ None → refuses r score c st es n ≡ None
    unmoved c out same er = ap (λ o. (let y : Option Refusal = elim st.unsound [ Some k ↦ Some (BookUnsound k) | None ↦ o ] in y)) (sym same) ∙ er

    -- the other calls do not look at the slip, or write nothing
    by_any : (c : Call) (out : Bool) → Served r c → refuses r score c (with_slip out st) es n ≡ None → (takes r score c (with_slip out st) es).writes ≡ Some e → WrittenBy st es n e
    by_any open_period out sv er ew = by_one open_period sv er ew
    by_any (enter_portion b) out sv er ew = by_one (enter_portion b) sv er ew
    by_any end_period out sv er ew = by_one end_period sv er ew
    by_any (enter_lot z b) out sv er ew = by_one (enter_lot z b) sv (unmoved (enter_lot z b) out (lot_unmoved r score out st es n z b) er) ew
    by_any (enter_second k b) out sv er ew = by_second k b (is_out st.waiting) out refl sv er ew
    by_any (hand_in k) out sv er ew = some_not_none e (sym ew)
    by_any reissue out sv er ew = some_not_none e (sym ew)
    by_any grant_relief out sv er ew = by_one grant_relief sv (unmoved grant_relief out (relief_unmoved r score out st es n) er) ew
    by_any report_irregular out sv er ew = by_one report_irregular sv (unmoved report_irregular out (notice_unmoved r score out st es n) er) ew

  module _ (bounded : Bounded score) (shows : Shows r score) where
    each_could : (es : List Entry) → (replay r es).unsound ≡ None → EachCouldBeWritten r score es
    each_could es sd a e z is =
        let p = set_on_a_run r score shows es 0 sd in
        found bounded (length es + 0) a z e p.0 [] p.1 tt (omega arith) (p.3 ∙ is)

    -- what could be written next leaves the book sound
    stays_sound : (es : List Entry) (e : Entry) → CouldWrite r score es e → (replay r (es ++ e ∷ [])).unsound ≡ None
    stays_sound es e w =
        let sd : (replay r es).unsound ≡ None = (sound_refuses w.call (with_slip w.slip_out (replay r es)) es w.room w.accepted).0 in
        let p = set_on_a_run r score shows es w.room sd in
        let m = length es + w.room in
        let q = by_any (replay r es) es w.room e w.call w.slip_out w.served w.accepted w.written in
        let v = run r score p.0 m in
        let whole : (run r score (p.0 ++ q.0) m).entries ≡ es ++ e ∷ [] =
        ap (λ (x : Run C). x.entries) (go_on r score p.0 q.0 [] (fresh r) [] m)
        ∙ ap₃ (λ s l k. (go r score q.0 v.events s l k).entries) p.2 p.3 p.4
        ∙ q.2 v.events in
        (sound_exactly r score bounded shows (es ++ e ∷ [])).1 (m, p.0 ++ q.0, each_on r score (Served r) p.0 q.0 p.1 q.1, whole)
      where
        ap₃ : {A B D E : Type 0} (f : A → B → D → E) {a a' : A} {b b' : B} {d d' : D} → a ≡ a' → b ≡ b' → d ≡ d' → f a b d ≡ f a' b' d'
        ap₃ f p q s = λ i. f (p i) (q i) (s i)

    sound_on : (z a : List Entry) → (replay r a).unsound ≡ None → EachCouldBeWritten r score (a ++ z) → (replay r (a ++ z)).unsound ≡ None
    sound_on [] a sd each = ap (λ l. (replay r l).unsound) (append-nil a) ∙ sd
    sound_on (e ∷ z) a sd each =
        let same = append_assoc a (e ∷ []) z in
        sym (ap (λ l. (replay r l).unsound) same)
        ∙ sound_on z (a ++ e ∷ []) (stays_sound a e (each a e z refl)) (λ b x y is. each b x y (sym same ∙ is))

    first_not : (es : List Entry) (k : ℕ) → (replay r es).unsound ≡ Some k → FirstThatCouldNot r score es k
    first_not es k h =
        let p = first_unsound r es k h in
        (p.0, p.1, p.2, p.3, p.4, each_could p.0 p.5, (λ w. some_not_none k (sym p.6 ∙ stays_sound p.0 p.1 w)))

    -- no other entry is the first
    not_before : (es : List Entry) (j k : ℕ) → FirstThatCouldNot r score es j → FirstThatCouldNot r score es k → j < k → ⊥
    not_before es j k p q lt =
        let m = part_within p.0 q.0 (q.1 ∷ q.2) p.2 p.1 (omega (arith, p.4, q.4)) (sym p.3 ∙ q.3) in
        p.6 (q.5 p.0 p.1 m.0 m.1)

    number_is : (es : List Entry) (j k : ℕ) → FirstThatCouldNot r score es j → FirstThatCouldNot r score es k → j ≡ k
    number_is es j k p q = by (ltb j k) (ltb k j) refl refl
      where
        by : (b c : Bool) → ltb j k ≡ b → ltb k j ≡ c → j ≡ k
        by true c s t = absurd (not_before es j k p q (ltb-true j k s))
        by false true s t = absurd (not_before es k j q p (ltb-true k j t))
        by false false s t = omega (arith, ltb-false j k s, ltb-false k j t)

    unsound_there : (es : List Entry) (k : ℕ) → FirstThatCouldNot r score es k → (replay r es).unsound ≡ Some k
    unsound_there es k p = by (replay r es).unsound refl
      where
        by : (o : Option ℕ) → (replay r es).unsound ≡ o → (replay r es).unsound ≡ Some k
        by None h = absurd (p.6 (each_could es h p.0 p.1 p.2 p.3))
        by (Some j) h = h ∙ ap {B = Option ℕ} (λ i. Some i) (number_is es j k (first_not es j h) p)

    pub sound_where_written : SoundWhereWritten r score
    sound_where_written = ((λ es. (each_could es, sound_on es [] refl)), (λ es k. (first_not es k, unsound_there es k)))

  pub sound_by_entries : SoundByEntries r score
  sound_by_entries bounded shows = sound_where_written bounded shows

pub sound_by_sheets : SoundBySheets
sound_by_sheets = (sound_by_entries on_line_rules sheet_score scores_bounded sheets_show.0, λ p. sound_by_entries (plan_rules p) sheet_score scores_bounded (sheets_show.1 p))
