-- Scoring in one pass: what is left of the sheet gives the score, from the running one.
use Rattle.std.proofs.Common.{◌≡◌, ℕ, ◌+◌, ◌-◌, ◌*◌, ◌<◌, ◌≤◌, Bool, true, false, cond, ◌&&◌, ◌||◌, eqb, ltb, ◌⊎◌, List, [], ◌∷◌, IfOk, Some, None, Ok, Err, Option, Result, sym, refl, ap, ◌∙◌, subst, arith}
use Rattle.std.proofs.lemmas.Bool.{ltb-false, or_from}
use Rattle.std.proofs.lemmas.Bool.Decides.{nat_tests}
use Rattle.std.specs.List.{cons_option}
use Rattle.std.specs.Option.{option_or}
use Rattle.inspection.specs.Tallies.{total_of}
use Rattle.inspection.specs.declared.refusal.Refusal.{Refusal}
use Rattle.inspection.specs.declared.refusal.Refusal.TheVariants.{UnitAboveSample, PairFalls}
use Rattle.inspection.specs.declared.tally.Tally.{Tally}
use Rattle.worksheet.specs.declared.defect.Defect.{Defect}
use Rattle.worksheet.specs.declared.scoring.Running.{Running}
use Rattle.texts.specs.Pieces.{Piece, number_of, pieces}
use Rattle.worksheet.specs.Defects.{Keyed, Pair, pair, same_pair, related, falls, defect_of}
use Rattle.worksheet.specs.Promises.{AtMostNine}
use Rattle.worksheet.specs.Running.{counted, next_line, entered, closed}
use Rattle.worksheet.specs.Scores.{falls_after, fault_of, fault, first_bad, defects, occurs, tally_of, unless, score_of}
use Rattle.worksheet.proofs.Tallying.{clean, plus, plus_clean, counted_plus, counted_clean, total_counted, pair_same, merged, tally_merged, tally_fresh}
use Rattle.worksheet.proofs.Written.{piece_back}

abbrev pub turn : Option Refusal → Option Defect → (Defect → Result Tally Refusal) → Result Tally Refusal
turn (Some r) o k = Err r
turn None None k = Ok clean
turn None (Some d) k = k d

abbrev pub going : ℕ → Running → List Piece → Result Tally Refusal
going units s [] = Ok (closed s.tally s.last)
going units s (p ∷ ps) = turn (fault units s.last p) (defect_of p) (λ d. going units (entered s.tally s.last d) ps)

abbrev pub start : Running
start = record { tally = clean; last = None }

-- the pair q comes before d's
abbrev Below : Pair → Defect → Type 0
Below q d = (q.0 < d.unit) ⊎ ((q.0 ≡ d.unit) × (q.1 < d.cause))

below_later : (q : Pair) (d e : Defect) → Below q d → falls e d ≡ false → Below q e
below_later q d e lt h = grind (arith, nat_tests)

below_apart : (q : Pair) (d : Defect) → Below q d → same_pair (pair d) q ≡ false
below_apart q d lt = grind (arith, nat_tests)

abbrev wrong : ℕ → Bool → Bool → Option Refusal
wrong n x y = cond x (Some (UnitAboveSample n)) (cond y (Some (PairFalls n)) None)

-- what a line without fault says
pub record Sound (units : ℕ) (last o : Option Defect) : Type 0 where
  pub says : Defect
  pub is : o ≡ Some says
  pub within : says.unit ≤ units
  pub on : falls_after last says ≡ false

pub sound : (units : ℕ) (last : Option Defect) (n : ℕ) (o : Option Defect) → fault_of units last n o ≡ None → Sound units last o
sound units last n None h = cc
sound units last n (Some d) h = by (ltb units d.unit) refl (falls_after last d) refl h
  where
    by : (x : Bool) → ltb units d.unit ≡ x → (y : Bool) → falls_after last d ≡ y → wrong n x y ≡ None → Sound units last (Some d)
    by true u y f h = cc
    by false u true f h = cc
    by false u false f h = record { says = d; is = refl; within = ltb-false units d.unit u; on = f }

option_or_none : (a b : Option Refusal) → option_or a b ≡ None → (a ≡ None) × (b ≡ None)
option_or_none a b h = grind arith

-- on lines that do not fall, what comes before a line's pair does not come after it
never_again : (units : ℕ) (d : Defect) (ps : List Piece) (q : Pair) → Below q d → first_bad units (Some d) ps ≡ None → occurs q (defects ps) ≡ false
never_again units d [] q lt h = refl
never_again units d (p ∷ ps) q lt h =
    let parts = option_or_none (fault units (Some d) p) _ h in
    let line = sound units (Some d) (number_of p) (defect_of p) parts.0 in
    let e = line.says in
    let later = below_later q d e lt line.on in
    let rest = never_again units e ps q later (ap (λ o. first_bad units o ps) (sym line.is) ∙ parts.1) in
    ap (λ o. occurs q (cons_option o (defects ps))) line.is ∙ or_from _ _ (below_apart q e later) rest

falls_like : (d b c : Defect) → pair b ≡ pair c → falls d b ≡ falls d c
falls_like d b c e = ap (λ (q : Pair). ltb d.unit q.0 || (eqb d.unit q.0 && ltb d.cause q.1)) e

-- of two lines that are not related and do not fall, the first pair comes before the second
rises : (b d : Defect) → related b d ≡ false → falls d b ≡ false → Below (pair b) d
rises b d r f = grind (arith, nat_tests)

abbrev GoesOn : ℕ → List Piece → Type 0
GoesOn units ps =
    (t : Tally) (b c : Defect) → pair b ≡ pair c → going units (record { tally = t; last = Some b }) ps ≡ unless (first_bad units (Some c) ps) (plus t (tally_of (b ∷ defects ps)))

-- a further line of form, which does not fall
abbrev OneMore : ℕ → List Piece → Type 0
OneMore units ps =
    (t : Tally) (b d : Defect) → falls d b ≡ false → going units (next_line t b d) ps ≡ unless (first_bad units (Some d) ps) (plus t (tally_of (b ∷ d ∷ defects ps)))

one_more : (units : ℕ) (ps : List Piece) → GoesOn units ps → OneMore units ps
one_more units ps ih t b d f = by (related b d) refl
  where
    new : (o : Option Refusal) → first_bad units (Some d) ps ≡ o → related b d ≡ false → unless o (plus (counted t b.class) (tally_of (d ∷ defects ps))) ≡ unless o (plus t (tally_of (b ∷ d ∷ defects ps)))
    new (Some r) e z = refl
    new None e z =
        let before = rises b d z f in
        let fresh : occurs (pair b) (d ∷ defects ps) ≡ false = or_from _ _ (below_apart (pair b) d before) (never_again units d ps (pair b) before e) in
        ap Ok (counted_plus t (tally_of (d ∷ defects ps)) b.class ∙ ap (plus t) (sym (tally_fresh b (d ∷ defects ps) fresh)))

    by : (z : Bool) → related b d ≡ z → going units (cond z (record { tally = t; last = Some (merged b d) }) (record { tally = counted t b.class; last = Some d })) ps ≡ unless (first_bad units (Some d) ps) (plus t (tally_of (b ∷ d ∷ defects ps)))
    by true z =
        let same = pair_same (pair b) (pair d) z in
        ih t (merged b d) d same ∙ ap (λ u. unless (first_bad units (Some d) ps) (plus t u)) (sym (tally_merged b d (defects ps) same))
    by false z = ih (counted t b.class) d d refl ∙ new (first_bad units (Some d) ps) refl z

-- a further line that says o, with the fault x by the running score and y by the rule
abbrev Step : ℕ → List Piece → Tally → Defect → Option Defect → Option Refusal → Option Refusal → Type 0
Step units ps t b o x y =
    turn x o (λ d. going units (next_line t b d) ps) ≡ unless (option_or y (first_bad units o ps)) (plus t (tally_of (b ∷ cons_option o (defects ps))))

goes_on : (units : ℕ) (ps : List Piece) → GoesOn units ps
goes_on units [] t b c e = ap Ok (sym (counted_clean t b.class) ∙ ap (plus t) (sym (tally_fresh b [] refl)))
goes_on units (p ∷ ps) t b c e = by (defect_of p) (one_more units ps (goes_on units ps))
  where
    tests : (d : Defect) → OneMore units ps → (x y : Bool) → falls d b ≡ y → Step units ps t b (Some d) (wrong (number_of p) x y) (wrong (number_of p) x y)
    tests d more true y f = refl
    tests d more false true f = refl
    tests d more false false f = more t b d f

    by : (o : Option Defect) → OneMore units ps → Step units ps t b o (fault_of units (Some b) (number_of p) o) (fault_of units (Some c) (number_of p) o)
    by None more = refl
    by (Some d) more =
        subst (λ y. Step units ps t b (Some d) (wrong (number_of p) (ltb units d.unit) (falls d b)) (wrong (number_of p) (ltb units d.unit) y))
        (falls_like d b c e)
        (tests d more (ltb units d.unit) (falls d b) refl)

-- from the first line on, that is the score
pub goes_whole : (units : ℕ) (ps : List Piece) → going units start ps ≡ unless (first_bad units None ps) (tally_of (defects ps))
goes_whole units [] = refl
goes_whole units (p ∷ ps) = by (defect_of p)
  where
    tests : (d : Defect) (x : Bool) → turn (wrong (number_of p) x false) (Some d) (λ d. going units (record { tally = clean; last = Some d }) ps) ≡ unless (option_or (wrong (number_of p) x false) (first_bad units (Some d) ps)) (tally_of (d ∷ defects ps))
    tests d true = refl
    tests d false = goes_on units ps clean d d refl ∙ ap (unless (first_bad units (Some d) ps)) (plus_clean (tally_of (d ∷ defects ps)))

    by : (o : Option Defect) → turn (fault_of units None (number_of p) o) o (λ d. going units (entered clean None d) ps) ≡ unless (option_or (fault_of units None (number_of p) o) (first_bad units o ps)) (tally_of (cons_option o (defects ps)))
    by None = refl
    by (Some d) = tests d (ltb units d.unit)

-- the pairs up to a defect's, in order: nine to a unit
abbrev pub place : Defect → ℕ
place d = 9 * (d.unit - 1) + (d.cause - 1)

-- what is done is of pairs before the last one, which lies in the sample
abbrev pub Fit : ℕ → Tally → Option Defect → Type 0
Fit units t None = total_of t ≡ 0
Fit units t (Some b) = Keyed b × (b.unit ≤ units) × (total_of t ≤ place b)

abbrev pub Fits : ℕ → Running → Type 0
Fits units s = Fit units s.tally s.last

places_rise : (b d : Defect) → Keyed b → Keyed d → Below (pair b) d → place b + 1 ≤ place d
places_rise b d k l lt = grind arith

pub fit_next : (units : ℕ) (t : Tally) (last : Option Defect) (d : Defect) → Fit units t last → Keyed d → d.unit ≤ units → falls_after last d ≡ false → Fits units (entered t last d)
fit_next units t None d h k within on = (k, within, omega (arith, h))
fit_next units t (Some b) d h k within on = by (related b d) refl
  where
    by : (z : Bool) → related b d ≡ z → Fits units (cond z (record { tally = t; last = Some (merged b d) }) (record { tally = counted t b.class; last = Some d }))
    by true z =
        let keyed = h.0 in
        (record { unit_least = keyed.unit_least; unit_most = keyed.unit_most; cause_least = keyed.cause_least; cause_most = keyed.cause_most }, h.1, h.2)
    by false z = (k, within, omega (arith, total_counted t b.class, h.2, places_rise b d h.0 k (rises b d z on)))

pub fit_closed : (units : ℕ) (t : Tally) (last : Option Defect) → Fit units t last → total_of (closed t last) ≤ 9 * units
fit_closed units t last h = grind (arith, total_counted)

-- one line more, which has no fault
pub going_more : (units : ℕ) (s u : Running) (ps qs : List Piece) (p : Piece) (d : Defect) (r : Result Tally Refusal) → ps ≡ p ∷ qs → fault units s.last p ≡ None → defect_of p ≡ Some d → u ≡ entered s.tally s.last d → Fits units s → going units s ps ≡ r → Fits units u × (going units u qs ≡ r)
going_more units s u ps qs p d r split fine says is fits h =
    let line = sound units s.last (number_of p) (defect_of p) fine in
    let same : line.says ≡ d = cc line.is in
    let keyed = (piece_back p d says).0 in (
      subst (Fits units) (sym is) (fit_next units s.tally s.last d fits keyed (subst (λ e. e.unit ≤ units) same line.within) (subst (λ e. falls_after s.last e ≡ false) same line.on)),
      ap (λ v. going units v qs) is
          ∙ sym (ap (λ o. turn o (defect_of p) (λ d. going units (entered s.tally s.last d) qs)) fine ∙ ap (λ o. turn None o (λ d. going units (entered s.tally s.last d) qs)) says)
          ∙ sym (ap (going units s) split)
          ∙ h,
    )

-- from a running tally that fits, the score has at most nine defects a unit
going_few : (units : ℕ) (s : Running) (ps : List Piece) → Fits units s → IfOk (going units s ps) (λ t. total_of t ≤ 9 * units)
going_few units s [] h = fit_closed units s.tally s.last h
going_few units s (p ∷ ps) h = by (fault units s.last p) refl (defect_of p) refl (λ d k. going_few units (entered s.tally s.last d) ps k)
  where
    by : (x : Option Refusal) → fault units s.last p ≡ x → (o : Option Defect) → defect_of p ≡ o → ((d : Defect) → Fits units (entered s.tally s.last d) → IfOk (going units (entered s.tally s.last d) ps) (λ t. total_of t ≤ 9 * units)) → IfOk (turn x o (λ d. going units (entered s.tally s.last d) ps)) (λ t. total_of t ≤ 9 * units)
    by (Some r) f o e ih = tt
    by None f None e ih = omega arith
    by None f (Some d) e ih =
        let line = sound units s.last (number_of p) (defect_of p) f in
        let same : line.says ≡ d = cc line.is in
        ih d (fit_next units s.tally s.last d h (piece_back p d e).0 (subst (λ e. e.unit ≤ units) same line.within) (subst (λ e. falls_after s.last e ≡ false) same line.on))

pub score_few : (sheet : List ℕ) (units : ℕ) → AtMostNine units (score_of sheet units)
score_few sheet units = subst (AtMostNine units) (goes_whole units (pieces sheet)) (going_few units start (pieces sheet) refl)
