-- Reading entries from the newest back gives what reading them forward gives; and the last articles of a list.
use Rattle.std.proofs.Common.{◌≡◌, ℕ, zero, suc, ◌+◌, ◌-◌, ◌≤◌, Bool, true, false, cond, List, [], ◌∷◌, ◌++◌, reverse, length, take, drop, Some, None, Option, sym, refl, ap, ◌∙◌, arith}
use mathlib.Core.List.{reverse-cons}
use Rattle.std.proofs.lemmas.List.{length-append, length-drop, length-reverse, take-append-drop, reverse-append, reverse-reverse, drop_at, drop-append-le, drop_all}
use Rattle.inspection.specs.declared.kind.Kind.{Kind}
use Rattle.inspection.specs.declared.kind.Kind.TheVariants as kind
use Rattle.entries.specs.declared.entry.Entry.{Entry}
use Rattle.regimes.specs.Lots.{added}
use Rattle.runs.specs.History.{Article, is_awaited, is_rejected}
use Rattle.runs.specs.Lines.{Sample, Reading, sole, read_by, reading, last_articles}
use Rattle.runs.specs.LookingBack.{sample_back, first_sample_back, article_back, articles_back, latest_back, ReadBackAsForward}
use Rattle.runs.proofs.Small.{reading_push}

abbrev start : Reading
start = record { articles = []; first_sample = None }

-- what reading back has found, as a reading forward
abbrev turned_round : List Article → Option Sample → Reading
turned_round xs o = record { articles = reverse xs; first_sample = o }

abbrev onto : Option Article → List Article → List Article
onto None xs = xs
onto (Some a) xs = a ∷ xs

-- one entry more, read forward or back
one_back : (k : Kind) (e : Entry) (xs : List Article) (o : Option Sample) → read_by k e (turned_round xs o) ≡ turned_round (onto (article_back k e o) xs) (sample_back k e o)
one_back kind.PeriodOpened e xs o = refl
one_back kind.Portion e xs o = ap (λ l. (let x : Reading = record { articles = l; first_sample = o } in x)) (sym (reverse-cons (sole e) xs))
one_back kind.PeriodEnded e xs o = refl
one_back kind.Lot e xs o = by (is_awaited e.verdict)
  where
    by : (b : Bool)
        → cond b (record { articles = reverse xs; first_sample = Some (record { units = e.units; tally = e.tally }) }) (record { articles = reverse xs ++ sole e ∷ []; first_sample = None })
        ≡ turned_round (onto (cond b None (Some (sole e))) xs) (cond b (Some (record { units = e.units; tally = e.tally })) None)
    by true = refl
    by false = ap (λ l. (let x : Reading = record { articles = l; first_sample = None } in x)) (sym (reverse-cons (sole e) xs))
one_back kind.SecondSample e xs None = refl
one_back kind.SecondSample e xs (Some a) = ap (λ l. (let x : Reading = record { articles = l; first_sample = None } in x)) (sym (reverse-cons (record { rejected = is_rejected e.verdict; units = a.units + e.units; tally = added a.tally e.tally }) xs))
one_back kind.Relief e xs o = refl
one_back kind.IrregularNotice e xs o = refl
one_back kind.Spoiled e xs o = refl

onto_back : (e : Entry) (bs : List Entry) → onto (article_back e.kind e (first_sample_back bs)) (articles_back bs) ≡ articles_back (e ∷ bs)
onto_back e bs = by (article_back e.kind e (first_sample_back bs))
  where
    by : (o : Option Article) → onto o (articles_back bs) ≡ (let x : List Article = elim o [ None ↦ articles_back bs | Some a ↦ a ∷ articles_back bs ] in x)
    by None = refl
    by (Some a) = refl

-- the entries given newest first, read forward
pub reading_back : (bs : List Entry) → reading (reverse bs) ≡ turned_round (articles_back bs) (first_sample_back bs)
reading_back [] = refl
reading_back (e ∷ bs) =
    ap reading (reverse-cons e bs)
    ∙ reading_push start (reverse bs) e
    ∙ ap (read_by e.kind e) (reading_back bs)
    ∙ one_back e.kind e (articles_back bs) (first_sample_back bs)
    ∙ ap (λ xs. turned_round xs (first_sample_back (e ∷ bs))) (onto_back e bs)

-- what is read back up to n articles are the first n of them
pub latest_takes : (n : ℕ) (bs : List Entry) → latest_back n bs ≡ take n (articles_back bs)
latest_takes zero bs = refl
latest_takes (suc n) [] = refl
latest_takes (suc n) (e ∷ bs) = by (article_back e.kind e (first_sample_back bs)) (latest_takes (suc n) bs) (latest_takes n bs)
  where
    by : (o : Option Article) → latest_back (suc n) bs ≡ take (suc n) (articles_back bs) → latest_back n bs ≡ take n (articles_back bs)
        → (let x : List Article = elim o [ None ↦ latest_back (suc n) bs | Some a ↦ a ∷ latest_back n bs ] in x) ≡ take (suc n) (let x : List Article = elim o [ None ↦ articles_back bs | Some a ↦ a ∷ articles_back bs ] in x)
    by None p q = p
    by (Some a) p q = ap {B = List Article} (λ l. a ∷ l) q

-- the last n, from the other end
last_turned : (n : ℕ) (xs : List Article) → reverse (take n xs) ≡ last_articles n (reverse xs)
last_turned n xs =
    let whole : reverse xs ≡ reverse (drop n xs) ++ reverse (take n xs) = ap reverse (sym (take-append-drop n xs)) ∙ reverse-append (take n xs) (drop n xs) in
    let size : length (reverse (drop n xs)) ≡ length (reverse xs) - n = length-reverse (drop n xs) ∙ length-drop n xs ∙ ap (λ m. m - n) (sym (length-reverse xs)) in
    sym (ap (drop (length (reverse xs) - n)) whole ∙ drop_at (reverse (drop n xs)) (reverse (take n xs)) (length (reverse xs) - n) size)

pub read_back_as_forward : ReadBackAsForward
read_back_as_forward es =
    let back : reading es ≡ turned_round (articles_back (reverse es)) (first_sample_back (reverse es)) = ap reading (sym (reverse-reverse es)) ∙ reading_back (reverse es) in
    record {
      all_articles = sym (ap (λ (x : Reading). x.articles) back);
      the_first_sample = sym (ap (λ (x : Reading). x.first_sample) back);
      the_last = λ n. ap reverse (latest_takes n (reverse es)) ∙ last_turned n (articles_back (reverse es)) ∙ ap (last_articles n) (sym (ap (λ (x : Reading). x.articles) back));
    }

-- the last n articles: none of them, and one article longer
pub last_none : (xs : List Article) → last_articles 0 xs ≡ []
last_none xs = drop_all (length xs - 0) xs (omega arith)

pub last_of_none : (n : ℕ) → last_articles n [] ≡ []
last_of_none n = drop_all (0 - n) [] (omega arith)

pub last_more : (m : ℕ) (xs : List Article) (a : Article) → last_articles (suc m) (xs ++ a ∷ []) ≡ last_articles m xs ++ a ∷ []
last_more m xs a =
    let size : length (xs ++ a ∷ []) - suc m ≡ length xs - m = omega (arith, length-append xs (a ∷ [])) in
    ap (λ k. drop k (xs ++ a ∷ [])) size ∙ drop-append-le (length xs - m) xs (a ∷ []) (omega arith)

-- all of them, where there are no more
pub last_all : (n : ℕ) (xs : List Article) → length xs ≤ n → last_articles n xs ≡ xs
last_all n xs le = let none : length xs - n ≡ 0 = omega arith in ap (λ k. drop k xs) none
