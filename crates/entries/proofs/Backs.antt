-- Lines read back, and nothing else reads as an entry.
use Rattle.std.proofs.Common.{◌≡◌, ℕ, ◌+◌, ◌^◌, ◌<◌, ◌≤◌, Bool, true, false, cond, List, [], ◌∷◌, ◌++◌, length, get_or, take, drop, Some, None, Option, sym, refl, ap, ◌∙◌, subst, append_assoc, arith}
use Rattle.std.proofs.lemmas.List.{append-nil, length-append, length-take-le, take_at, drop_at, get_or_at, take-append-drop, drop_more, drop-drop}
use Rattle.std.proofs.lemmas.Bool.Decides.{nat_tests}
use Rattle.std.proofs.lemmas.Bool.{cond-true}
use Rattle.decimals.specs.Digits.{numeral, padded}
use Rattle.decimals.proofs.Writing.{length_padded, written_back, read_back}
use Rattle.inspection.specs.Letters.{kind_letter, kind_of, status_letter, status_of, verdict_letter, verdict_of}
use Rattle.inspection.proofs.Lettered.{lettered_back}
use Rattle.inspection.specs.declared.kind.Kind.{Kind}
use Rattle.inspection.specs.declared.kind.Kind.TheVariants.{PeriodOpened, Portion, PeriodEnded, Lot, SecondSample, Relief, IrregularNotice, Spoiled}
use Rattle.inspection.specs.declared.status.Status.{Status}
use Rattle.inspection.specs.declared.status.Status.TheVariants.{Normal, Tightened, Reduced}
use Rattle.inspection.specs.declared.verdict.Verdict.{Verdict}
use Rattle.inspection.specs.declared.verdict.Verdict.TheVariants.{Accepted, Rejected, Awaited, Full, Brief, Undecided}
use Rattle.inspection.specs.declared.tally.Tally.{Tally}
use Rattle.entries.specs.declared.entry.Entry.{Entry}
use Rattle.entries.specs.declared.line.Numbers.{Numbers}
use Rattle.entries.specs.Entries.{writable_as, writable, spoiled}
use Rattle.entries.specs.Lines.{number_field, numbers_text, line_of, Read, then, closed_by, with_rest, number_at, ended, numbers_in, joint, tabs, fields_in, read_as, Long, ReadsBack, NoOther, ElseSpoiled}
use Rattle.entries.proofs.Chains.{chained}

-- a number in its field reads back
number_forth : (w n end : ℕ) (rest : List ℕ) → 1 ≤ w → w ≤ 9 → n < 10 ^ w → Some (n, rest) ≡ number_at w end (number_field w n end ++ rest)
number_forth w n end rest some few lt =
    let ds = padded w n in
    let long = length_padded w n in
    let bs = ds ++ end ∷ rest in
    let whole : number_field w n end ++ rest ≡ bs = append_assoc ds (end ∷ []) rest in
    let closed : closed_by w end bs ≡ true = grind (arith, nat_tests, length-append ds (end ∷ rest), get_or_at ds end rest 0 w long, long) in
    let front : numeral (take w bs) ≡ Some n = ap numeral (take_at ds (end ∷ rest) w long) ∙ written_back w n some few lt in
    let back : drop (w + 1) bs ≡ rest = sym (drop-drop 1 w bs) ∙ ap (drop 1) (drop_at ds (end ∷ rest) w long) in
    sym (ap (number_at w end) whole ∙ cond-true _ _ _ closed ∙ ap (with_rest (drop (w + 1) bs)) front ∙ ap (λ r. Some (n, r)) back)

-- what reads as a number is its field
number_back : (w end : ℕ) (bs : List ℕ) (p : ℕ × List ℕ) → number_at w end bs ≡ Some p → bs ≡ number_field w p.0 end ++ p.1
number_back w end bs p e = by (closed_by w end bs) refl (numeral (take w bs)) refl e
  where
    by : (t : Bool) → closed_by w end bs ≡ t → (o : Option ℕ) → numeral (take w bs) ≡ o → cond t (with_rest (drop (w + 1) bs) o) None ≡ Some p → bs ≡ number_field w p.0 end ++ p.1
    by false c o r e = cc
    by true c None r e = cc
    by true c (Some n) r e =
        let same : ◌≡◌ {A = ℕ × List ℕ} (n, drop (w + 1) bs) p = cc in
        let lt : w < length bs = grind (arith, nat_tests, c) in
        let at : get_or bs w 0 ≡ end = grind (arith, nat_tests, c) in
        let long = length-take-le w bs (omega arith) in
        let digits : take w bs ≡ padded w n = (read_back (take w bs) n r).1 ∙ ap (λ k. padded k n) long in
        subst (λ (q : ℕ × List ℕ). bs ≡ number_field w q.0 end ++ q.1) same
        (sym (take-append-drop w bs)
        ∙ ap (λ l. take w bs ++ l) (drop_more bs w 0 lt)
        ∙ (λ j. digits j ++ at j ∷ drop (w + 1) bs)
        ∙ sym (append_assoc (padded w n) (end ∷ []) (drop (w + 1) bs)))

then_some : {X Y : Type 0} (o : Read X) (f : X → List ℕ → Option Y) (y : Y) → then o f ≡ Some y → (p : X × List ℕ) × (o ≡ Some p) × (f p.0 p.1 ≡ Some y)
then_some None f y e = cc
then_some (Some p) f y e = (p, refl, e)

ended_some : {X : Type 0} (x y : X) (bs : List ℕ) → ended x bs ≡ Some y → (bs ≡ []) × (x ≡ y)
ended_some x y [] e = (refl, cc)
ended_some x y (b ∷ bs) e = cc

numbers_back : (bs : List ℕ) (n : Numbers) → numbers_in bs ≡ Some n → bs ≡ numbers_text n.lot_size n.units n.tally
numbers_back bs n e =
    let a = then_some (number_at 7 9 bs) _ n e in
    let b = then_some (number_at 4 9 a.0.1) _ n a.2 in
    let c = then_some (number_at 5 9 b.0.1) _ n b.2 in
    let d = then_some (number_at 5 9 c.0.1) _ n c.2 in
    let f = then_some (number_at 5 10 d.0.1) _ n d.2 in
    let end = ended_some _ n f.0.1 f.2 in
    let last : d.0.1 ≡ number_field 5 f.0.0 10 = number_back 5 10 d.0.1 f.0 f.1 ∙ ap (λ r. number_field 5 f.0.0 10 ++ r) end.0 ∙ append-nil _ in
    subst (λ (n : Numbers). bs ≡ numbers_text n.lot_size n.units n.tally) end.1
    (number_back 7 9 bs a.0 a.1
    ∙ ap (λ r. number_field 7 a.0.0 9 ++ r)
    (number_back 4 9 a.0.1 b.0 b.1
    ∙ ap (λ r. number_field 4 b.0.0 9 ++ r)
    (number_back 5 9 b.0.1 c.0 c.1
    ∙ ap (λ r. number_field 5 c.0.0 9 ++ r)
    (number_back 5 9 c.0.1 d.0 d.1
    ∙ ap (λ r. number_field 5 d.0.0 9 ++ r) last))))

numbers_forth : (lot units : ℕ) (t : Tally) → lot ≤ 9999999 → units ≤ 9999 → t.critical ≤ 99999 → t.major ≤ 99999 → t.minor ≤ 99999 → numbers_in (numbers_text lot units t) ≡ Some (record { lot_size = lot; units = units; tally = t })
numbers_forth lot units t a b c d e =
    let f5 = number_field 5 t.minor 10 in
    let f4 = number_field 5 t.major 9 ++ f5 in
    let f3 = number_field 5 t.critical 9 ++ f4 in
    let f2 = number_field 4 units 9 ++ f3 in
    let last : Some (t.minor, []) ≡ number_at 5 10 f5 = number_forth 5 t.minor 10 [] (omega arith) (omega arith) (omega arith) ∙ ap (number_at 5 10) (append-nil f5) in
    sym (chained lot units t.critical t.major t.minor (number_field 7 lot 9 ++ f2) f2 f3 f4 f5 []
    (number_forth 7 lot 9 f2 (omega arith) (omega arith) (omega arith))
    (number_forth 4 units 9 f3 (omega arith) (omega arith) (omega arith))
    (number_forth 5 t.critical 9 f4 (omega arith) (omega arith) (omega arith))
    (number_forth 5 t.major 9 f5 (omega arith) (omega arith) (omega arith))
    last)

kind_forth : (k : Kind) → kind_of (kind_letter k) ≡ Some k
kind_forth k = grind arith

status_forth : (s : Status) → status_of (status_letter s) ≡ Some s
status_forth s = grind arith

verdict_forth : (v : Verdict) → verdict_of (verdict_letter v) ≡ Some v
verdict_forth v = grind arith

pub record Fits (e : Entry) : Type 0 where
  pub lot : e.lot_size ≤ 9999999
  pub few : e.units ≤ 9999
  pub critical : e.tally.critical ≤ 99999
  pub major : e.tally.major ≤ 99999
  pub minor : e.tally.minor ≤ 99999

writable_fits : (k : Kind) (e : Entry) → writable_as k e ≡ true → Fits e
writable_fits k e h = record { lot = grind (arith, nat_tests); few = grind (arith, nat_tests); critical = grind (arith, nat_tests); major = grind (arith, nat_tests); minor = grind (arith, nat_tests) }

fields_forth : (e : Entry) → Fits e → fields_in (line_of e) ≡ Some e
fields_forth e f = simp (kind_forth, status_forth, verdict_forth, numbers_forth e.lot_size e.units e.tally f.lot f.few f.critical f.major f.minor)

pub reads_back : ReadsBack
reads_back e h = ap read_as (fields_forth e (writable_fits e.kind e h)) ∙ cond-true (writable e) e spoiled h

-- bytes whose fields say an entry are its line
fields_back : (bs : List ℕ) (e : Entry) → fields_in bs ≡ Some e → bs ≡ line_of e
fields_back [] e h = cc
fields_back (k ∷ []) e h = cc
fields_back (k ∷ a ∷ []) e h = cc
fields_back (k ∷ a ∷ s ∷ []) e h = cc
fields_back (k ∷ a ∷ s ∷ b ∷ []) e h = cc
fields_back (k ∷ a ∷ s ∷ b ∷ v ∷ []) e h = cc
fields_back (k ∷ a ∷ s ∷ b ∷ v ∷ c ∷ bs) e h = by (tabs a b c) refl (kind_of k) refl (status_of s) refl (verdict_of v) refl (numbers_in bs) refl h
  where
    by : (t : Bool) → tabs a b c ≡ t → (o : Option Kind) → kind_of k ≡ o → (p : Option Status) → status_of s ≡ p → (q : Option Verdict) → verdict_of v ≡ q → (n : Option Numbers) → numbers_in bs ≡ n → cond t (joint o p q n) None ≡ Some e → k ∷ a ∷ s ∷ b ∷ v ∷ c ∷ bs ≡ line_of e
    by false t o ko p sp q vq n nn h = cc
    by true t None ko p sp q vq n nn h = cc
    by true t (Some x) ko None sp q vq n nn h = cc
    by true t (Some x) ko (Some y) sp None vq n nn h = cc
    by true t (Some x) ko (Some y) sp (Some z) vq None nn h = cc
    by true t (Some x) ko (Some y) sp (Some z) vq (Some m) nn h =
        let same : ◌≡◌ {A = Entry} (record { kind = x; status = y; verdict = z; lot_size = m.lot_size; units = m.units; tally = m.tally }) e = cc in
        let first : a ≡ 9 = grind (arith, nat_tests, t) in
        let second : b ≡ 9 = grind (arith, nat_tests, t) in
        let third : c ≡ 9 = grind (arith, nat_tests, t) in
        let kind = sym (lettered_back kind_letter (PeriodOpened ∷ Portion ∷ PeriodEnded ∷ Lot ∷ SecondSample ∷ Relief ∷ IrregularNotice ∷ Spoiled ∷ []) k x ko) in
        let status = sym (lettered_back status_letter (Normal ∷ Tightened ∷ Reduced ∷ []) s y sp) in
        let verdict = sym (lettered_back verdict_letter (Accepted ∷ Rejected ∷ Awaited ∷ Full ∷ Brief ∷ Undecided ∷ []) v z vq) in
        let numbers = numbers_back bs m nn in
        subst (λ e. k ∷ a ∷ s ∷ b ∷ v ∷ c ∷ bs ≡ line_of e) same
        (λ i. kind i ∷ first i ∷ status i ∷ second i ∷ verdict i ∷ third i ∷ numbers i)

pub no_other : NoOther
no_other bs h = by (fields_in bs) refl h
  where
    by : (o : Option Entry) → fields_in bs ≡ o → writable (read_as o) ≡ true → bs ≡ line_of (read_as o)
    by None f h = cc
    by (Some e) f h = kept (writable e) refl h
      where
        kept : (t : Bool) → writable e ≡ t → writable (cond t e spoiled) ≡ true → bs ≡ line_of (cond t e spoiled)
        kept true w h = fields_back bs e f
        kept false w h = cc

pub else_spoiled : ElseSpoiled
else_spoiled bs n = by (fields_in bs) refl
  where
    by : (o : Option Entry) → fields_in bs ≡ o → read_as o ≡ spoiled
    by None f = refl
    by (Some e) f = kept (writable e) refl
      where
        kept : (t : Bool) → writable e ≡ t → cond t e spoiled ≡ spoiled
        kept true w = absurd (n e w (fields_back bs e f))
        kept false w = refl

pub long : Long
long e = refl
