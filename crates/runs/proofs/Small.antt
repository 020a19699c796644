-- Small facts of the vocabulary: statuses, options, tests and articles.
use Rattle.std.proofs.Common.{◌≡◌, ℕ, ◌+◌, ◌-◌, ◌<◌, ◌≤◌, Bool, true, false, cond, not, leb, List, [], ◌∷◌, ◌++◌, length, is_some as option_is_some, Some, None, Ok, Err, Option, Result, sym, refl, ap, ◌∙◌, subst, arith}
use Rattle.std.proofs.lemmas.List.{append-nil, append_assoc, length-append}
use Rattle.std.proofs.lemmas.Bool.{leb-true, leb-false, le-leb, lt-leb}
use Rattle.inspection.specs.declared.status.Status.{Status}
use Rattle.inspection.specs.declared.status.Status.TheVariants.{Normal, Tightened, Reduced}
use Rattle.inspection.specs.declared.tally.Tally.{Tally}
use Rattle.entries.specs.declared.entry.Entry.{Entry}
use Rattle.inspection.specs.declared.refusal.Refusal.{Refusal}
use Rattle.inspection.specs.declared.kind.Kind.{Kind}
use Rattle.inspection.specs.declared.kind.Kind.TheVariants as kind
use Rattle.runs.specs.Spells.{Broken, turned}
use Rattle.runs.specs.Spells.{breaks}
use Rattle.inspection.specs.Statuses.{same_status}
use Rattle.runs.specs.declared.standing.Reply.{Reply}
use Rattle.runs.specs.History.{is_awaited, Call, open_period, enter_portion, end_period, enter_lot, enter_second, hand_in, reissue, grant_relief, report_irregular, Article, fault, scored, verdicts}
use Rattle.runs.specs.Lines.{Reading, both, read_by, reading_on, articles, counted_on, Sample, sole}
use Rattle.runs.proofs.Spell.{breaks_exactly, kept, new_spell_keeps}

pub same_refl : (s : Status) → same_status s s ≡ true
same_refl Normal = refl
same_refl Tightened = refl
same_refl Reduced = refl

pub same_true : (a b : Status) → same_status a b ≡ true → a ≡ b
same_true Normal Normal e = refl
same_true Normal Tightened e = cc
same_true Normal Reduced e = cc
same_true Tightened Normal e = cc
same_true Tightened Tightened e = refl
same_true Tightened Reduced e = cc
same_true Reduced Normal e = cc
same_true Reduced Tightened e = cc
same_true Reduced Reduced e = refl

pub turned_differs : (s : Status) → turned s ≡ s → ⊥
turned_differs Normal e = let z : ◌≡◌ {A = ℕ} 0 1 = cc in omega arith
turned_differs Tightened e = let z : ◌≡◌ {A = ℕ} 0 1 = cc in omega arith
turned_differs Reduced e = let z : ◌≡◌ {A = ℕ} 0 1 = cc in omega arith

-- the first of two cases does not hold, and what comes after
pub passes : (b : Bool) (x : Refusal) (o : Option Refusal) → cond b (Some x) o ≡ None → (b ≡ false) × (o ≡ None)
passes true x o e = (cc, cc)
passes false x o e = (refl, e)

pub not_none : {A : Type 0} (o : Option A) → option_is_some o ≡ false → o ≡ None
not_none None e = refl
not_none (Some a) e = cc

pub is_some : {A : Type 0} (o : Option A) → not (option_is_some o) ≡ false → (a : A) × (o ≡ Some a)
is_some None e = let z : ◌≡◌ {A = ℕ} 0 1 = cc in absurd (omega arith)
is_some (Some a) e = (a, refl)

pub scored_ok : (o : Result Tally Refusal) → fault o ≡ None → o ≡ Ok (scored o)
scored_ok (Ok t) e = refl
scored_ok (Err x) e = cc

pub ok_same : (a b : Reply) → ◌≡◌ {A = Result Reply Refusal} (Ok a) (Ok b) → a ≡ b
ok_same a b e = cc

pub err_not_ok : (x : Refusal) (b : Reply) → ◌≡◌ {A = Result Reply Refusal} (Err x) (Ok b) → ⊥
err_not_ok x b e = let z : ◌≡◌ {A = ℕ} 0 1 = cc in omega arith

pub sheet_same : (a b : List ℕ) → enter_portion a ≡ enter_portion b → a ≡ b
sheet_same a b e = cc

-- a call that is no portion
abbrev pub NoPortion : Call → Type 0
NoPortion c = (b : List ℕ) → c ≡ enter_portion b → ⊥

pub no_portion_open : NoPortion open_period
no_portion_open b q = let z : ◌≡◌ {A = ℕ} 0 1 = cc in omega arith

pub no_portion_end : NoPortion end_period
no_portion_end b q = let z : ◌≡◌ {A = ℕ} 0 1 = cc in omega arith

pub no_portion_lot : (z : ℕ) (d : List ℕ) → NoPortion (enter_lot z d)
no_portion_lot z d b q = let z : ◌≡◌ {A = ℕ} 0 1 = cc in omega arith

pub no_portion_second : (z : ℕ) (d : List ℕ) → NoPortion (enter_second z d)
no_portion_second z d b q = let z : ◌≡◌ {A = ℕ} 0 1 = cc in omega arith

pub no_portion_hand : (k : ℕ) → NoPortion (hand_in k)
no_portion_hand k b q = let z : ◌≡◌ {A = ℕ} 0 1 = cc in omega arith

pub no_portion_reissue : NoPortion reissue
no_portion_reissue b q = let z : ◌≡◌ {A = ℕ} 0 1 = cc in omega arith

pub no_portion_relief : NoPortion grant_relief
no_portion_relief b q = let z : ◌≡◌ {A = ℕ} 0 1 = cc in omega arith

pub no_portion_notice : NoPortion report_irregular
no_portion_notice b q = let z : ◌≡◌ {A = ℕ} 0 1 = cc in omega arith

-- the room left and the count make up the whole
pub room_test : (n k whole : ℕ) → n + k ≡ whole → leb n 0 ≡ leb whole k
room_test n k whole e = go (leb whole k) refl
  where
    go : (b : Bool) → leb whole k ≡ b → leb n 0 ≡ b
    go true t = let h : whole ≤ k = leb-true whole k t in le-leb n 0 (omega arith)
    go false t = let h : k < whole = leb-false whole k t in lt-leb n 0 (omega arith)

pub room_after : (n k whole : ℕ) → n + k ≡ whole → leb n 0 ≡ false → n - 1 + (k + 1) ≡ whole
room_after n k whole e t = let h : 0 < n = leb-false n 0 t in omega arith

pub verdicts_push : (xs : List Article) (a : Article) → verdicts (xs ++ a ∷ []) ≡ verdicts xs ++ a.rejected ∷ []
verdicts_push [] a = refl
verdicts_push (x ∷ xs) a = ap {B = List Bool} (λ t. x.rejected ∷ t) (verdicts_push xs a)

-- one more entry is read after the others
pub reading_push : (x : Reading) (es : List Entry) (e : Entry) → reading_on x (es ++ e ∷ []) ≡ read_by e.kind e (reading_on x es)
reading_push x [] e = refl
reading_push x (y ∷ es) e = reading_push (read_by y.kind y x) es e

-- no entry tells of more than one article
both_fit : (o : Option Sample) (e : Entry) (xs : List Article) → length (both o e xs).articles ≤ length xs + 1
both_fit None e xs = omega arith
both_fit (Some a) e xs = omega (arith, length-append xs (both (Some a) e []).articles)

lot_fit : (b : Bool) (x y : Reading) (n : ℕ) → length x.articles ≤ n → length y.articles ≤ n → length (cond b x y).articles ≤ n
lot_fit true x y n p q = p
lot_fit false x y n p q = q

read_fit : (k : Kind) (e : Entry) (x : Reading) → length (read_by k e x).articles ≤ length x.articles + 1
read_fit kind.PeriodOpened e x = omega arith
read_fit kind.Portion e x = omega (arith, length-append x.articles (sole e ∷ []))
read_fit kind.PeriodEnded e x = omega arith
read_fit kind.Lot e x = lot_fit (is_awaited e.verdict) _ _ _ (omega arith) (omega (arith, length-append x.articles (sole e ∷ [])))
read_fit kind.SecondSample e x = both_fit x.first_sample e x.articles
read_fit kind.Relief e x = omega arith
read_fit kind.IrregularNotice e x = omega arith
read_fit kind.Spoiled e x = omega arith

reading_fit : (x : Reading) (es : List Entry) → length (reading_on x es).articles ≤ length x.articles + length es
reading_fit x [] = omega arith
reading_fit x (e ∷ es) = omega (arith, reading_fit (read_by e.kind e x) es, read_fit e.kind e x)

pub articles_fit : (es : List Entry) → length (articles es) ≤ length es
articles_fit es = omega (arith, reading_fit (record { articles = []; first_sample = None }) es)

-- the spell after an article that turns the status or not
pub spell_then : (b : Bool) (s : Status) (xs : List Article) → cond (same_status (cond b (turned s) s) s) xs [] ≡ cond b [] xs
spell_then true Normal xs = refl
spell_then true Tightened xs = refl
spell_then true Reduced xs = refl
spell_then false s xs = ap (λ t. cond t xs []) (same_refl s)

pub length_then : (b : Bool) (xs : List Article) (a : Article) → length xs < 9999999 → cond b 0 (counted_on (length xs)) ≡ length (cond b [] (xs ++ a ∷ []))
length_then true xs a few = refl
length_then false xs a few = omega (arith, length-append xs (a ∷ []))

pub ends_then : (b : Bool) (all xs ys : List Article) (a : Article) → all ≡ ys ++ xs → (zs : List Article) × (all ++ a ∷ [] ≡ zs ++ cond b [] (xs ++ a ∷ []))
ends_then true all xs ys a e = (all ++ a ∷ [], sym (append-nil (all ++ a ∷ [])))
ends_then false all xs ys a e = (ys, ap (λ t. t ++ a ∷ []) e ∙ append_assoc ys xs (a ∷ []))

module _ (window most_rejected : ℕ) (s : Status) (xs : List Article) (a : Article) (some : 0 < window) (keeps : Broken window most_rejected s (verdicts xs) → ⊥) where
  -- the article breaks the rule where the test passes, and keeps it where the test fails
  pub broken_where : breaks window most_rejected s (verdicts xs) a.rejected ≡ true → Broken window most_rejected s (verdicts (xs ++ a ∷ []))
  broken_where e =
      subst (λ t. Broken window most_rejected s t) (sym (verdicts_push xs a)) ((breaks_exactly window most_rejected s (verdicts xs) a.rejected some keeps).0 e)

  pub unbroken_where : breaks window most_rejected s (verdicts xs) a.rejected ≡ false → Broken window most_rejected s (verdicts (xs ++ a ∷ [])) → ⊥
  unbroken_where e =
      subst (λ t. Broken window most_rejected s t → ⊥) (sym (verdicts_push xs a)) (kept window most_rejected s (verdicts xs) a.rejected some keeps e)

  pub keeps_after : (b : Bool) → b ≡ breaks window most_rejected s (verdicts xs) a.rejected → Broken window most_rejected (cond b (turned s) s) (verdicts (cond b [] (xs ++ a ∷ []))) → ⊥
  keeps_after true e = new_spell_keeps window most_rejected (turned s)
  keeps_after false e = unbroken_where (sym e)
