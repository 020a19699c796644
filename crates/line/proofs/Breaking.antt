-- The rule of a spell looks at the last few verdicts alone, so that no more articles need be read back.
use Rattle.std.proofs.Common.{◌≡◌, ℕ, zero, suc, ◌+◌, ◌-◌, ◌<◌, ◌≤◌, min, Bool, true, false, ◌&&◌, eqb, ltb, leb, List, [], ◌∷◌, length, drop, sym, refl, ap, ◌∙◌, arith}
use Rattle.std.proofs.lemmas.List.{length-drop, drop-drop}
use Rattle.std.proofs.lemmas.Bool.{leb-true, leb-false, le-leb, lt-leb, lt-ltb, le-ltb}
use Rattle.inspection.specs.declared.status.Status.{Status}
use Rattle.inspection.specs.declared.status.Status.TheVariants.{Normal, Tightened, Reduced}
use Rattle.runs.specs.History.{Article, verdicts}
use Rattle.runs.specs.Lines.{last_articles}
use Rattle.runs.specs.Spells.{rejections, last_of, breaks}
use Rattle.line.specs.declared.seen.Seen.{Seen}
use Rattle.line.specs.Seeing.{seen_of}

length_verdicts : (xs : List Article) → length (verdicts xs) ≡ length xs
length_verdicts [] = refl
length_verdicts (x ∷ xs) = ap suc (length_verdicts xs)

verdicts_drop : (k : ℕ) (xs : List Article) → verdicts (drop k xs) ≡ drop k (verdicts xs)
verdicts_drop zero xs = refl
verdicts_drop (suc k) [] = refl
verdicts_drop (suc k) (x ∷ xs) = verdicts_drop k xs

-- the last n of the last s, where m is the smaller
pub last_verdicts : (s n m : ℕ) (xs : List Article) → m ≡ min s n → last_of n (verdicts (last_articles s xs)) ≡ verdicts (last_articles m xs)
last_verdicts s n m xs e =
    let from = length xs - s in
    let size : length (verdicts (drop from xs)) ≡ length xs - from = length_verdicts (drop from xs) ∙ length-drop from xs in
    let start : from + (length (verdicts (drop from xs)) - n) ≡ length xs - m = omega arith in
    sym (verdicts_drop (length (verdicts (drop from xs)) - n) (drop from xs))
    ∙ ap verdicts (drop-drop (length (verdicts (drop from xs)) - n) from xs ∙ ap (λ k. drop k xs) start)

-- n or more of the last s
pub enough_verdicts : (s n m : ℕ) (xs : List Article) → m ≡ min s n → leb n (length (verdicts (last_articles s xs))) ≡ leb n (length (last_articles m xs))
enough_verdicts s n m xs e =
    let size : length (verdicts (last_articles s xs)) ≡ length xs - (length xs - s) = length_verdicts (last_articles s xs) ∙ length-drop (length xs - s) xs in
    let small : length (last_articles m xs) ≡ length xs - (length xs - m) = length-drop (length xs - m) xs in
    by (leb n (length (last_articles m xs))) refl size small
  where
    by : (b : Bool) → leb n (length (last_articles m xs)) ≡ b → length (verdicts (last_articles s xs)) ≡ length xs - (length xs - s) → length (last_articles m xs) ≡ length xs - (length xs - m)
        → leb n (length (verdicts (last_articles s xs))) ≡ b
    by true t p q = let h : n ≤ length (last_articles m xs) = leb-true n (length (last_articles m xs)) t in le-leb n (length (verdicts (last_articles s xs))) (omega arith)
    by false t p q = let h : length (last_articles m xs) < n = leb-false n (length (last_articles m xs)) t in lt-leb n (length (verdicts (last_articles s xs))) (omega arith)

one_more : (k n : ℕ) → leb k n ≡ ltb k (1 + n)
one_more k n = by (leb k n) refl
  where
    by : (b : Bool) → leb k n ≡ b → b ≡ ltb k (1 + n)
    by true t = let h : k ≤ n = leb-true k n t in sym (lt-ltb k (1 + n) (omega arith))
    by false t = let h : n < k = leb-false k n t in sym (le-ltb k (1 + n) (omega arith))

-- the rule of each status, from what is seen of as many articles as it looks at
module _ (window most_rejected s m : ℕ) (xs : List Article) (st : Status) (rejected : Bool) (x : Seen) (seen : x ≡ seen_of (last_articles m xs)) where
  rejected_of : (n : ℕ) → m ≡ min s n → x.rejected ≡ rejections (last_of n (verdicts (last_articles s xs)))
  rejected_of n e = ap (λ (y : Seen). y.rejected) seen ∙ ap rejections (sym (last_verdicts s n m xs e))

  pub breaks_normal : st ≡ Normal → rejected ≡ true → m ≡ min s 4 → ltb 0 x.rejected ≡ breaks window most_rejected st (verdicts (last_articles s xs)) rejected
  breaks_normal n r e =
      one_more 1 x.rejected
      ∙ ap (λ k. ltb 1 (1 + k)) (rejected_of 4 e)
      ∙ sym (ap (λ t. breaks window most_rejected t (verdicts (last_articles s xs)) rejected) n ∙ ap (λ b. breaks window most_rejected Normal (verdicts (last_articles s xs)) b) r)

  pub breaks_tightened : st ≡ Tightened → rejected ≡ false → m ≡ min s 4 → (leb 4 x.articles && eqb x.rejected 0) ≡ breaks window most_rejected st (verdicts (last_articles s xs)) rejected
  breaks_tightened t r e =
      ap (λ b. b && eqb x.rejected 0) (ap (λ (y : Seen). leb 4 y.articles) seen ∙ sym (enough_verdicts s 4 m xs e))
      ∙ ap (λ k. leb 4 (length (verdicts (last_articles s xs))) && eqb k 0) (rejected_of 4 e)
      ∙ sym (ap (λ t. breaks window most_rejected t (verdicts (last_articles s xs)) rejected) t ∙ ap (λ b. breaks window most_rejected Tightened (verdicts (last_articles s xs)) b) r)

  pub breaks_reduced : st ≡ Reduced → rejected ≡ true → m ≡ min s (window - 1) → leb most_rejected x.rejected ≡ breaks window most_rejected st (verdicts (last_articles s xs)) rejected
  breaks_reduced d r e =
      one_more most_rejected x.rejected
      ∙ ap (λ k. ltb most_rejected (1 + k)) (rejected_of (window - 1) e)
      ∙ sym (ap (λ t. breaks window most_rejected t (verdicts (last_articles s xs)) rejected) d ∙ ap (λ b. breaks window most_rejected Reduced (verdicts (last_articles s xs)) b) r)
