-- One entry more or less: what it adds to what is seen, and which first sample awaits its second after it.
use Rattle.std.proofs.Common.{◌≡◌, ℕ, zero, suc, ◌+◌, ◌-◌, ◌<◌, ◌≤◌, Bool, true, false, cond, List, [], ◌∷◌, ◌++◌, length, get_or, take, Some, None, Option, sym, refl, ap, ◌∙◌, subst, arith}
use Rattle.std.proofs.lemmas.List.{length-append, take_more}
use Rattle.inspection.specs.declared.kind.Kind.{Kind}
use Rattle.inspection.specs.declared.kind.Kind.TheVariants as kind
use Rattle.entries.specs.declared.entry.Entry.{Entry}
use Rattle.entries.specs.Entries.{spoiled}
use Rattle.books.specs.Books.{numbered}
use Rattle.books.proofs.Numbering.{numbered_zero, numbered_at}
use Rattle.inspection.specs.Classes.{count_of}
use Rattle.inspection.specs.declared.class.JudgedClass.{JudgedClass}
use Rattle.inspection.specs.declared.class.JudgedClass.TheVariants.{Critical, Major, Total}
use Rattle.runs.specs.History.{Article, is_awaited, verdicts, units_of, defects_of}
use Rattle.runs.specs.Lines.{Sample as Ruled, Reading, sole, both, read_by, reading, articles, last_articles}
use Rattle.runs.specs.LookingBack.{sample_back, with_first, article_back}
use Rattle.runs.specs.Spells.{rejections}
use Rattle.runs.proofs.Small.{reading_push}
use Rattle.runs.proofs.LookingBack.{last_more}
use Rattle.line.specs.declared.sample.Sample.{Sample}
use Rattle.line.specs.declared.seen.Seen.{Seen}
use Rattle.line.specs.Seeing.{seen_of, seen_decided, seen_entry, seen_sample, as_held, first_of_lot, together, Within}

-- the articles after an entry that decides one or none
abbrev then_decided : List Article → Option Article → List Article
then_decided xs None = xs
then_decided xs (Some a) = xs ++ a ∷ []

read_sample : (k : Kind) (e : Entry) (x : Reading) → (read_by k e x).first_sample ≡ sample_back k e x.first_sample
read_sample kind.PeriodOpened e x = refl
read_sample kind.Portion e x = refl
read_sample kind.PeriodEnded e x = refl
read_sample kind.Lot e x = by (is_awaited e.verdict)
  where
    by : (b : Bool)
        → (cond b (let y : Reading = record { articles = x.articles; first_sample = Some (record { units = e.units; tally = e.tally }) } in y) (record { articles = x.articles ++ sole e ∷ []; first_sample = None })).first_sample
        ≡ cond b (Some (record { units = e.units; tally = e.tally })) None
    by true = refl
    by false = refl
read_sample kind.SecondSample e x = by x.first_sample
  where
    by : (o : Option Ruled) → (both o e x.articles).first_sample ≡ None
    by None = refl
    by (Some a) = refl
read_sample kind.Relief e x = refl
read_sample kind.IrregularNotice e x = refl
read_sample kind.Spoiled e x = refl

read_articles : (k : Kind) (e : Entry) (x : Reading) → (read_by k e x).articles ≡ then_decided x.articles (article_back k e x.first_sample)
read_articles kind.PeriodOpened e x = refl
read_articles kind.Portion e x = refl
read_articles kind.PeriodEnded e x = refl
read_articles kind.Lot e x = by (is_awaited e.verdict)
  where
    by : (b : Bool)
        → (cond b (let y : Reading = record { articles = x.articles; first_sample = Some (record { units = e.units; tally = e.tally }) } in y) (record { articles = x.articles ++ sole e ∷ []; first_sample = None })).articles
        ≡ then_decided x.articles (cond b None (Some (sole e)))
    by true = refl
    by false = refl
read_articles kind.SecondSample e x = by x.first_sample
  where
    by : (o : Option Ruled) → (both o e x.articles).articles ≡ then_decided x.articles (with_first o e)
    by None = refl
    by (Some a) = refl
read_articles kind.Relief e x = refl
read_articles kind.IrregularNotice e x = refl
read_articles kind.Spoiled e x = refl

pub some_same : {a b : Entry} → ◌≡◌ {A = Option Entry} (Some a) (Some b) → a ≡ b
some_same e = cc

pub some_not_none : {a : Entry} → ◌≡◌ {A = Option Entry} (Some a) None → ⊥
some_not_none e = let z : ◌≡◌ {A = ℕ} 0 1 = cc in omega arith

-- the last of the first n entries, and those before it
module _ (n : ℕ) (es : List Entry) (within : n ≤ length es) where
  pub none_last : None ≡ numbered n es → take n es ≡ []
  none_last none = by n refl
    where
      by : (m : ℕ) → n ≡ m → take n es ≡ []
      by zero z = ap (λ k. take k es) z
      by (suc m) z = absurd (some_not_none (numbered_at m es spoiled (omega arith) ∙ ap (λ k. numbered k es) (sym z) ∙ sym none))

  pub some_last : (e : Entry) → Some e ≡ numbered n es → take n es ≡ take (n - 1) es ++ e ∷ []
  some_last e found = by n refl
    where
      by : (m : ℕ) → n ≡ m → take n es ≡ take (n - 1) es ++ e ∷ []
      by zero z = absurd (some_not_none (found ∙ ap (λ k. numbered k es) z ∙ sym (numbered_zero es)))
      by (suc m) z =
          let stands : get_or es m e ≡ e = some_same (numbered_at m es e (omega arith) ∙ ap (λ k. numbered k es) (sym z) ∙ sym found) in
          let next : n ≡ m + 1 = omega arith in
          let rest : m ≡ n - 1 = omega arith in
          ap (λ k. take k es) next ∙ take_more es m e (omega arith) ∙ (λ i. take (rest i) es ++ stands i ∷ [])

  pub some_left : (e : Entry) → Some e ≡ numbered n es → 1 ≤ n
  some_left e found = by n refl
    where
      by : (m : ℕ) → n ≡ m → 1 ≤ n
      by zero z = absurd (some_not_none (found ∙ ap (λ k. numbered k es) z ∙ sym (numbered_zero es)))
      by (suc m) z = omega arith

-- the first sample that awaits its second, as the line holds it
abbrev pub held_after : List Entry → Option Sample
held_after es = as_held (reading es).first_sample

-- one entry more
module _ (es : List Entry) (e : Entry) where
  read_one : reading (es ++ e ∷ []) ≡ read_by e.kind e (reading es)
  read_one = reading_push (record { articles = []; first_sample = None }) es e

  sample_more : (reading (es ++ e ∷ [])).first_sample ≡ sample_back e.kind e (reading es).first_sample
  sample_more = ap (λ (x : Reading). x.first_sample) read_one ∙ read_sample e.kind e (reading es)

  articles_more : articles (es ++ e ∷ []) ≡ then_decided (articles es) (article_back e.kind e (reading es).first_sample)
  articles_more = ap (λ (x : Reading). x.articles) read_one ∙ read_articles e.kind e (reading es)

  by_kind : (k : Kind) → e.kind ≡ k → as_held (sample_back k e (reading es).first_sample) ≡ held_after (es ++ e ∷ [])
  by_kind k is = ap as_held (ap (λ k. sample_back k e (reading es).first_sample) (sym is) ∙ sym sample_more)

  -- a lot gives its own first sample, a second sample none, and any other kind the one before it
  module _ (answer : Option Sample) (so_far : held_after (es ++ e ∷ []) ≡ answer) where
    pub first_at_lot : (r : Option Sample) → r ≡ first_of_lot e → e.kind ≡ kind.Lot → r ≡ answer
    first_at_lot r is k = is ∙ by_kind kind.Lot k ∙ so_far

    pub first_at_second : e.kind ≡ kind.SecondSample → None ≡ answer
    first_at_second k = by_kind kind.SecondSample k ∙ so_far

    pub first_passed : (e.kind ≡ kind.Lot → ⊥) → (e.kind ≡ kind.SecondSample → ⊥) → held_after es ≡ answer
    first_passed l s = ap as_held (sym (passed e.kind l s (reading es).first_sample)) ∙ by_kind e.kind refl ∙ so_far
      where
        passed : (k : Kind) → (k ≡ kind.Lot → ⊥) → (k ≡ kind.SecondSample → ⊥) → (o : Option Ruled) → sample_back k e o ≡ o
        passed kind.PeriodOpened l s o = refl
        passed kind.Portion l s o = refl
        passed kind.PeriodEnded l s o = refl
        passed kind.Lot l s o = absurd (l refl)
        passed kind.SecondSample l s o = absurd (s refl)
        passed kind.Relief l s o = refl
        passed kind.IrregularNotice l s o = refl
        passed kind.Spoiled l s o = refl

seen_alike : {a b : Seen} → a.articles ≡ b.articles → a.rejected ≡ b.rejected → a.units ≡ b.units → a.defects.critical ≡ b.defects.critical → a.defects.major ≡ b.defects.major → a.defects.total ≡ b.defects.total → a ≡ b
seen_alike p q r s t u i = record { articles = p i; rejected = q i; units = r i; defects = record { critical = s i; major = t i; total = u i } }

both_seen : (e : Entry) (a : Sample) (o : Option Ruled) → Some a ≡ as_held o → together (seen_sample a) (seen_of (sole e ∷ [])) ≡ seen_decided (with_first o e)
both_seen e a None h = cc
both_seen e a (Some b) h =
    let same : ◌≡◌ {A = Sample} a (record { units = b.units; tally = b.tally }) = cc in
    ap (λ (x : Sample). together (seen_sample x) (seen_of (sole e ∷ []))) same
    ∙ seen_alike (omega arith) (omega arith) (omega arith) (omega arith) (omega arith) (omega arith)

-- a second sample with its first is one article
pub second_seen : (es : List Entry) (e : Entry) (a : Sample) (r s t : Seen) → e.kind ≡ kind.SecondSample → Some a ≡ held_after es → s ≡ seen_sample a → t ≡ seen_of (sole e ∷ []) → r ≡ together s t → r ≡ seen_entry e es
second_seen es e a r s t k held first second is =
    let o = (reading es).first_sample in
    is
    ∙ ap (λ x. together x t) first
    ∙ ap (λ x. together (seen_sample a) x) second
    ∙ both_seen e a o held
    ∙ ap (λ k. seen_decided (article_back k e o)) (sym k)

pub within_together : (n m : ℕ) (r s t : Seen) → r ≡ together s t → Within n s → Within m t → Within (n + m) r
within_together n m r s t is p q = subst (Within (n + m)) (sym is) (record { articles = omega arith; rejected = omega arith; units = omega arith; critical = omega arith; major = omega arith; total = omega arith })

pub within_more : (n m : ℕ) (s : Seen) → n ≤ m → Within n s → Within m s
within_more n m s le p = record { articles = omega arith; rejected = omega arith; units = omega arith; critical = omega arith; major = omega arith; total = omega arith }

-- the newest article can be counted first
rejections_push : (xs : List Article) (a : Article) → rejections (verdicts (xs ++ a ∷ [])) ≡ rejections (verdicts (a ∷ [])) + rejections (verdicts xs)
rejections_push [] a = omega arith
rejections_push (x ∷ xs) a = by x.rejected (rejections_push xs a)
  where
    by : (b : Bool) → rejections (verdicts (xs ++ a ∷ [])) ≡ rejections (verdicts (a ∷ [])) + rejections (verdicts xs) → rejections (b ∷ verdicts (xs ++ a ∷ [])) ≡ rejections (verdicts (a ∷ [])) + rejections (b ∷ verdicts xs)
    by true h = omega arith
    by false h = h

units_push : (xs : List Article) (a : Article) → units_of (xs ++ a ∷ []) ≡ a.units + units_of xs
units_push [] a = omega arith
units_push (x ∷ xs) a = omega (arith, units_push xs a)

defects_push : (c : JudgedClass) (xs : List Article) (a : Article) → defects_of c (xs ++ a ∷ []) ≡ count_of c a.tally + defects_of c xs
defects_push c [] a = omega arith
defects_push c (x ∷ xs) a = omega (arith, defects_push c xs a)

count_newest : (s : Seen) (xs : List Article) (a : Article) → together (together s (seen_of (a ∷ []))) (seen_of xs) ≡ together s (seen_of (xs ++ a ∷ []))
count_newest s xs a =
    seen_alike
    (omega (arith, length-append xs (a ∷ [])))
    (omega (arith, rejections_push xs a))
    (omega (arith, units_push xs a))
    (omega (arith, defects_push Critical xs a))
    (omega (arith, defects_push Major xs a))
    (omega (arith, defects_push Total xs a))

nothing_more : (s : Seen) → together s (seen_of []) ≡ s
nothing_more s = seen_alike (omega arith) (omega arith) (omega arith) (omega arith) (omega arith) (omega arith)

-- what is seen once these entries are read back too, where s is seen already
abbrev pub whole : ℕ → Seen → List Entry → Seen
whole most s es = together s (seen_of (last_articles (most - s.articles) (articles es)))

-- one entry more is read back
pub whole_step : (most : ℕ) (r s x answer : Seen) (es : List Entry) (e : Entry) → s.articles < most → x ≡ seen_entry e es → r ≡ together s x → whole most s (es ++ e ∷ []) ≡ answer → whole most r es ≡ answer
whole_step most r s x answer es e fewer decided is so_far =
    ap (λ y. whole most y es) (is ∙ ap (together s) decided)
    ∙ by (article_back e.kind e (reading es).first_sample)
    ∙ ap (λ xs. together s (seen_of (last_articles (most - s.articles) xs))) (sym (articles_more es e))
    ∙ so_far
  where
    by : (o : Option Article) → whole most (together s (seen_decided o)) es ≡ together s (seen_of (last_articles (most - s.articles) (then_decided (articles es) o)))
    by None = ap (λ y. whole most y es) (nothing_more s)
    by (Some a) =
        let xs = articles es in
        let left : most - s.articles ≡ suc (most - (s.articles + 1)) = omega arith in
        count_newest s (last_articles (most - (s.articles + 1)) xs) a
        ∙ ap (λ l. together s (seen_of l)) (sym (last_more (most - (s.articles + 1)) xs a))
        ∙ ap (λ k. together s (seen_of (last_articles k (xs ++ a ∷ [])))) (sym left)
