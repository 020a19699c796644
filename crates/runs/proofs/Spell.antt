-- The computed test at the end of a spell's verdicts is the rule of `Broken`.
use Rattle.std.proofs.Common.{◌≡◌, ℕ, zero, suc, ◌+◌, ◌-◌, ◌≤◌, Bool, true, false, cond, ◌&&◌, eqb, ltb, leb, ◌⊎◌, ◌↔◌, List, [], ◌∷◌, ◌++◌, length, take, drop, sym, refl, ap, ◌∙◌, subst, inl, inr, arith}
use Rattle.std.proofs.lemmas.List.{append-nil, append_assoc, length-append, length-drop, take-append-drop, drop-drop, drop-append-le, same_from_push}
use Rattle.std.proofs.lemmas.List.Prefix.{end_rest}
use Rattle.std.proofs.lemmas.Bool.{ltb-true, lt-ltb, leb-true, le-leb, eqb-true, eq-eqb, and_parts, and_from, both_ways}
use Rattle.inspection.specs.declared.status.Status.TheVariants.{Normal, Tightened, Reduced}
use Rattle.runs.specs.Spells.{rejections, Broken}
use Rattle.runs.specs.Spells.{last_of, breaks, BreaksExactly, Kept, NewSpellKeeps}

-- no group has more rejections than articles
rejections_fit : (m : List Bool) → rejections m ≤ length m
rejections_fit [] = omega arith
rejections_fit (true ∷ m) = omega (arith, rejections_fit m)
rejections_fit (false ∷ m) = omega (arith, rejections_fit m)

-- a later end of a list has no more rejections
rejections_drop : (k : ℕ) (xs : List Bool) → rejections (drop k xs) ≤ rejections xs
rejections_drop zero xs = omega arith
rejections_drop (suc k) [] = omega arith
rejections_drop (suc k) (true ∷ xs) = omega (arith, rejections_drop k xs)
rejections_drop (suc k) (false ∷ xs) = rejections_drop k xs

rejections_later : (i j : ℕ) (xs : List Bool) → i ≤ j → rejections (drop j xs) ≤ rejections (drop i xs)
rejections_later i j xs h =
    let e : i + (j - i) ≡ j = omega arith in
    let d : drop (j - i) (drop i xs) ≡ drop j xs = drop-drop (j - i) i xs ∙ ap (λ k. drop k xs) e in
    rw d at (rejections_drop (j - i) (drop i xs))

-- what ends xs and has n articles or fewer has no more rejections than the last n
rejections_end : (n : ℕ) (xs a m : List Bool) → xs ≡ a ++ m → length m ≤ n → rejections m ≤ rejections (last_of n xs)
rejections_end n xs a m e h =
    let d : drop (length xs - length m) xs ≡ m = end_rest xs m a e in
    rw d at (rejections_later (length xs - n) (length xs - length m) xs (omega arith))

-- what is not empty has a last element
unpush : (z : List Bool) → (z ≡ []) ⊎ ((y : List Bool) × (w : Bool) × (z ≡ y ++ w ∷ []))
unpush [] = inl refl
unpush (x ∷ z) = inr (go (unpush z))
  where
    go : (z ≡ []) ⊎ ((y : List Bool) × (w : Bool) × (z ≡ y ++ w ∷ [])) → (y : List Bool) × (w : Bool) × (x ∷ z ≡ y ++ w ∷ [])
    go (inl e) = ([], x, cc)
    go (inr r) = (x ∷ r.0, r.1, ap {B = List Bool} (λ t. x ∷ t) r.2)

-- a group of vs and v that does not end at v stands in vs
before_last : (vs : List Bool) (v : Bool) (b z : List Bool) → vs ++ v ∷ [] ≡ b ++ z → (vs ++ v ∷ [] ≡ b) ⊎ ((y : List Bool) × (vs ≡ b ++ y))
before_last vs v b z e = go (unpush z)
  where
    go : (z ≡ []) ⊎ ((y : List Bool) × (w : Bool) × (z ≡ y ++ w ∷ [])) → (vs ++ v ∷ [] ≡ b) ⊎ ((y : List Bool) × (vs ≡ b ++ y))
    go (inl n) = inl (e ∙ ap (λ t. b ++ t) n ∙ append-nil b)
    go (inr r) = inr (r.0, (same_from_push vs (b ++ r.0) v r.1 (e ∙ ap (λ t. b ++ t) r.2 ∙ sym (append_assoc b r.0 (r.1 ∷ [])))).0)

-- the last n, as a group
ends : (n : ℕ) (xs : List Bool) → xs ≡ take (length xs - n) xs ++ last_of n xs ++ []
ends n xs = sym (append-nil (take (length xs - n) xs ++ last_of n xs) ∙ take-append-drop (length xs - n) xs)

length_last : (n : ℕ) (xs : List Bool) → length (last_of n xs) ≤ n
length_last n xs = omega (arith, length-drop (length xs - n) xs)

length_last_full : (n : ℕ) (xs : List Bool) → n ≤ length xs → length (last_of n xs) ≡ n
length_last_full n xs h = omega (arith, length-drop (length xs - n) xs)

-- more than most-rejected rejected among n neighbours or fewer, after a list where that is nowhere so
module _ (n most_rejected : ℕ) (vs : List Bool) (v : Bool) where
  over_forth : ltb most_rejected (rejections (last_of n (vs ++ v ∷ []))) ≡ true → Broken n most_rejected Reduced (vs ++ v ∷ [])
  over_forth t = (take (length (vs ++ v ∷ []) - n) (vs ++ v ∷ []), last_of n (vs ++ v ∷ []), [], ends n (vs ++ v ∷ []), length_last n (vs ++ v ∷ []), ltb-true _ _ t)

  over_back : (Broken n most_rejected Reduced vs → ⊥) → Broken n most_rejected Reduced (vs ++ v ∷ []) → ltb most_rejected (rejections (last_of n (vs ++ v ∷ []))) ≡ true
  over_back keeps b = go (before_last vs v (b.0 ++ b.1) b.2 b.3)
    where
      go : (vs ++ v ∷ [] ≡ b.0 ++ b.1) ⊎ ((y : List Bool) × (vs ≡ b.0 ++ b.1 ++ y)) → ltb most_rejected (rejections (last_of n (vs ++ v ∷ []))) ≡ true
      go (inl e) = lt-ltb _ _ (omega (arith, rejections_end n (vs ++ v ∷ []) b.0 b.1 e b.4))
      go (inr r) = absurd (keeps (b.0, b.1, r.0, r.1, b.4, b.5))

-- five neighbours accepted, after a list where that is nowhere so
module _ (window most_rejected : ℕ) (vs : List Bool) (v : Bool) where
  five_forth : (leb 5 (length (vs ++ v ∷ [])) && eqb (rejections (last_of 5 (vs ++ v ∷ []))) 0) ≡ true → Broken window most_rejected Tightened (vs ++ v ∷ [])
  five_forth t =
      let p = and_parts (leb 5 (length (vs ++ v ∷ []))) (eqb (rejections (last_of 5 (vs ++ v ∷ []))) 0) t in
      (take (length (vs ++ v ∷ []) - 5) (vs ++ v ∷ []), last_of 5 (vs ++ v ∷ []), [], ends 5 (vs ++ v ∷ []), length_last_full 5 (vs ++ v ∷ []) (leb-true _ _ p.0), eqb-true _ _ p.1)

  five_back : (Broken window most_rejected Tightened vs → ⊥) → Broken window most_rejected Tightened (vs ++ v ∷ []) → (leb 5 (length (vs ++ v ∷ [])) && eqb (rejections (last_of 5 (vs ++ v ∷ []))) 0) ≡ true
  five_back keeps b = go (before_last vs v (b.0 ++ b.1) b.2 b.3)
    where
      go : (vs ++ v ∷ [] ≡ b.0 ++ b.1) ⊎ ((y : List Bool) × (vs ≡ b.0 ++ b.1 ++ y)) → (leb 5 (length (vs ++ v ∷ [])) && eqb (rejections (last_of 5 (vs ++ v ∷ []))) 0) ≡ true
      go (inl e) =
          let l : length (vs ++ v ∷ []) ≡ length b.0 + length b.1 = ap length e ∙ length-append b.0 b.1 in
          let d : drop (length (vs ++ v ∷ []) - length b.1) (vs ++ v ∷ []) ≡ b.1 = end_rest (vs ++ v ∷ []) b.1 b.0 e in
          let m : last_of 5 (vs ++ v ∷ []) ≡ b.1 = rw b.4 at d in
          and_from (leb 5 (length (vs ++ v ∷ []))) (eqb (rejections (last_of 5 (vs ++ v ∷ []))) 0) (le-leb _ _ (omega arith)) (eq-eqb _ _ (ap rejections m ∙ b.5))
      go (inr r) = absurd (keeps (b.0, b.1, r.0, r.1, b.4, b.5))

-- the last of a list with one more
last_push : (n : ℕ) (vs : List Bool) (v : Bool) → last_of (suc n) (vs ++ v ∷ []) ≡ last_of n vs ++ v ∷ []
last_push n vs v =
    let l : length (vs ++ v ∷ []) - suc n ≡ length vs - n = omega (arith, length-append vs (v ∷ [])) in
    ap (λ k. drop k (vs ++ v ∷ [])) l ∙ drop-append-le (length vs - n) vs (v ∷ []) (omega arith)

rejections_push : (vs : List Bool) (v : Bool) → rejections (vs ++ v ∷ []) ≡ rejections vs + cond v 1 0
rejections_push [] true = refl
rejections_push [] false = refl
rejections_push (true ∷ vs) v = omega (arith, rejections_push vs v)
rejections_push (false ∷ vs) v = rejections_push vs v

last_rejections : (n : ℕ) (vs : List Bool) (v : Bool) → rejections (last_of (suc n) (vs ++ v ∷ [])) ≡ rejections (last_of n vs) + cond v 1 0
last_rejections n vs v = ap rejections (last_push n vs v) ∙ rejections_push (last_of n vs) v

-- a rejected article is one more among those that are looked at, and an accepted one breaks no such rule
module _ (n most_rejected : ℕ) (vs : List Bool) (keeps : Broken (suc n) most_rejected Reduced vs → ⊥) where
  more_exactly : (ltb most_rejected (1 + rejections (last_of n vs)) ≡ true) ↔ Broken (suc n) most_rejected Reduced (vs ++ true ∷ [])
  more_exactly = (
    (λ t. over_forth (suc n) most_rejected vs true (lt-ltb _ _ (omega (arith, last_rejections n vs true, ltb-true _ _ t)))),
    (λ b. lt-ltb _ _ (omega (arith, last_rejections n vs true, ltb-true _ _ (over_back (suc n) most_rejected vs true keeps b)))),
  )

  none_more : Broken (suc n) most_rejected Reduced (vs ++ false ∷ []) → ⊥
  none_more b =
      keeps (
        take (length vs - n) vs,
        last_of n vs,
        [],
        ends n vs,
        omega (arith, length_last n vs),
        omega (arith, last_rejections n vs false, ltb-true _ _ (over_back (suc n) most_rejected vs false keeps b)),
      )

module _ (window most_rejected : ℕ) (vs : List Bool) (keeps : Broken window most_rejected Tightened vs → ⊥) where
  fifth_exactly : ((leb 4 (length vs) && eqb (rejections (last_of 4 vs)) 0) ≡ true) ↔ Broken window most_rejected Tightened (vs ++ false ∷ [])
  fifth_exactly = (
    (λ t.
        let p = and_parts (leb 4 (length vs)) (eqb (rejections (last_of 4 vs)) 0) t in
        let long = leb-true 4 (length vs) p.0 in
        let none = eqb-true (rejections (last_of 4 vs)) 0 p.1 in
        let more : 5 ≤ length (vs ++ false ∷ []) = omega (arith, length-append vs (false ∷ [])) in
        let clean : rejections (last_of 5 (vs ++ false ∷ [])) ≡ 0 = omega (arith, last_rejections 4 vs false) in
        five_forth window most_rejected vs false (and_from (leb 5 (length (vs ++ false ∷ []))) (eqb (rejections (last_of 5 (vs ++ false ∷ []))) 0) (le-leb _ _ more) (eq-eqb _ _ clean))),
    (λ b.
        let p = and_parts (leb 5 (length (vs ++ false ∷ []))) (eqb (rejections (last_of 5 (vs ++ false ∷ []))) 0) (five_back window most_rejected vs false keeps b) in
        let long = leb-true 5 (length (vs ++ false ∷ [])) p.0 in
        let none = eqb-true (rejections (last_of 5 (vs ++ false ∷ []))) 0 p.1 in
        let more : 4 ≤ length vs = omega (arith, length-append vs (false ∷ [])) in
        let clean : rejections (last_of 4 vs) ≡ 0 = omega (arith, last_rejections 4 vs false) in
        and_from (leb 4 (length vs)) (eqb (rejections (last_of 4 vs)) 0) (le-leb _ _ more) (eq-eqb _ _ clean)),
  )

  no_fifth : Broken window most_rejected Tightened (vs ++ true ∷ []) → ⊥
  no_fifth b =
      let p = and_parts (leb 5 (length (vs ++ true ∷ []))) (eqb (rejections (last_of 5 (vs ++ true ∷ []))) 0) (five_back window most_rejected vs true keeps b) in
      omega (arith, last_rejections 4 vs true, eqb-true (rejections (last_of 5 (vs ++ true ∷ []))) 0 p.1)

never : {P : Type 0} → false ≡ true → P
never e = let z : ◌≡◌ {A = ℕ} 0 1 = cc in absurd (omega arith)

pub breaks_exactly : BreaksExactly
breaks_exactly window most_rejected Normal vs true some keeps = more_exactly 4 1 vs keeps
breaks_exactly window most_rejected Normal vs false some keeps = ((λ t. never t), (λ b. absurd (none_more 4 1 vs keeps b)))
breaks_exactly window most_rejected Tightened vs true some keeps = ((λ t. never t), (λ b. absurd (no_fifth window most_rejected vs keeps b)))
breaks_exactly window most_rejected Tightened vs false some keeps = fifth_exactly window most_rejected vs keeps
breaks_exactly zero most_rejected Reduced vs true some keeps = absurd (omega arith)
breaks_exactly (suc n) most_rejected Reduced vs true some keeps =
    let e : suc n - 1 ≡ n = omega arith in
    subst (λ k. (ltb most_rejected (1 + rejections (last_of k vs)) ≡ true) ↔ Broken (suc n) most_rejected Reduced (vs ++ true ∷ [])) (sym e) (more_exactly n most_rejected vs keeps)
breaks_exactly zero most_rejected Reduced vs false some keeps = absurd (omega arith)
breaks_exactly (suc n) most_rejected Reduced vs false some keeps = ((λ t. never t), (λ b. absurd (none_more n most_rejected vs keeps b)))

pub kept : Kept
kept window most_rejected s vs v some keeps f b = both_ways (breaks window most_rejected s vs v) f ((breaks_exactly window most_rejected s vs v some keeps).1 b)

-- a group of no articles is empty
none_in : (a m z : List Bool) → [] ≡ a ++ m ++ z → length m ≡ 0
none_in a m z e = omega (arith, ap length e ∙ length-append (a ++ m) z, length-append a m)

pub new_spell_keeps : NewSpellKeeps
new_spell_keeps window most_rejected Normal b = omega (arith, none_in b.0 b.1 b.2 b.3, rejections_fit b.1)
new_spell_keeps window most_rejected Tightened b = omega (arith, none_in b.0 b.1 b.2 b.3)
new_spell_keeps window most_rejected Reduced b = omega (arith, none_in b.0 b.1 b.2 b.3, rejections_fit b.1)
