-- Where a text and its lines are cut, by places.
use Rattle.std.proofs.Common.{◌≡◌, ℕ, zero, suc, ◌+◌, ◌-◌, ◌<◌, ◌≤◌, Bool, true, false, cond, eqb, List, [], ◌∷◌, ◌++◌, length, get_or, take, drop, Some, None, Option, sym, refl, ap, ◌∙◌, subst, inl, inr, ⊎_elim, add-one, arith}
use Rattle.std.proofs.lemmas.List.{take_rest, take_all, drop_all, length-take, length-take-le, get_or-take, take-append-drop, drop_more}
use Rattle.std.proofs.lemmas.Bool.{ne_eqb, eq-eqb, eqb-true, cases_lt}
use Rattle.std.specs.List.{flat_map}
use Rattle.texts.specs.Texts.{onto, lines, before, parted_by, parted, Free, Unmarked, LineEnd}
use Rattle.texts.specs.Pieces.{Piece, fields, bare, number_of, text_of, by_tab, piece, after, Whole, Numbered}

free_tail : (x n b : ℕ) (bs : List ℕ) → Free x (suc n) (b ∷ bs) → Free x n bs
free_tail x n b bs f k lt = f (suc k) (omega arith)

-- the line ends at the first line feed
pub lines_cut : (bs : List ℕ) (i : ℕ) → i < length bs → get_or bs i 0 ≡ 10 → Free 10 i bs → lines bs ≡ take (suc i) bs ∷ lines (drop (suc i) bs)
lines_cut [] i lt at f = absurd (omega arith)
lines_cut (b ∷ bs) zero lt at f = simp (eq-eqb b 10 at)
lines_cut (b ∷ bs) (suc i) lt at f =
    simp (ne_eqb b 10 (f 0 (omega arith)), lines_cut bs i (omega arith) at (free_tail 10 i b bs f))

-- or with the text
pub lines_last : (b : ℕ) (bs : List ℕ) → Free 10 (suc (length bs)) (b ∷ bs) → lines (b ∷ bs) ≡ (b ∷ bs) ∷ []
lines_last b [] f = simp (ne_eqb b 10 (f 0 (omega arith)))
lines_last b (a ∷ bs) f = simp (ne_eqb b 10 (f 0 (omega arith)), lines_last a bs (free_tail 10 _ b (a ∷ bs) f))

pub parted_cut : (x : ℕ) (bs : List ℕ) (i : ℕ) → i < length bs → get_or bs i 0 ≡ x → Free x i bs → parted_by x bs ≡ Some (take i bs, drop (suc i) bs)
parted_cut x [] i lt at f = absurd (omega arith)
parted_cut x (b ∷ bs) zero lt at f = simp (eq-eqb b x at)
parted_cut x (b ∷ bs) (suc i) lt at f =
    simp (ne_eqb b x (f 0 (omega arith)), parted_cut x bs i (omega arith) at (free_tail x i b bs f))

pub parted_none : (x : ℕ) (bs : List ℕ) → Free x (length bs) bs → parted_by x bs ≡ None
parted_none x [] f = refl
parted_none x (b ∷ bs) f = simp (ne_eqb b x (f 0 (omega arith)), parted_none x bs (free_tail x _ b bs f))

-- a parted line is its first field, a tab and the rest
pub parted_whole : (bs first rest : List ℕ) → parted bs ≡ Some (first, rest) → first ++ 9 ∷ rest ≡ bs
parted_whole [] first rest e = cc
parted_whole (b ∷ bs) first rest e = by (eqb b 9) refl (parted bs) (λ q. parted_whole bs q.0 q.1) e
  where
    by : (t : Bool) → eqb b 9 ≡ t → (o : Option (List ℕ × List ℕ)) → ((q : List ℕ × List ℕ) → o ≡ Some (q.0, q.1) → q.0 ++ 9 ∷ q.1 ≡ bs) → cond t (Some ([], bs)) (before b o) ≡ Some (first, rest) → first ++ 9 ∷ rest ≡ b ∷ bs
    by true t o h e =
        let same : ◌≡◌ {A = List ℕ × List ℕ} ([], bs) (first, rest) = cc in
        let n : [] ≡ first = ap (λ p. p.0) same in
        let r : bs ≡ rest = ap (λ p. p.1) same in
        subst (λ l. l ++ 9 ∷ rest ≡ b ∷ bs) n (subst (λ l. 9 ∷ l ≡ b ∷ bs) r (ap (λ x. x ∷ bs) (sym (eqb-true b 9 t))))
    by false t None h e = cc
    by false t (Some q) h e =
        let same : ◌≡◌ {A = List ℕ × List ℕ} (b ∷ q.0, q.1) (first, rest) = cc in
        let n : b ∷ q.0 ≡ first = ap (λ p. p.0) same in
        let r : q.1 ≡ rest = ap (λ p. p.1) same in
        subst (λ l. l ++ 9 ∷ rest ≡ b ∷ bs) n (subst (λ l. (b ∷ q.0) ++ 9 ∷ l ≡ b ∷ bs) r (ap (λ l. b ∷ l) (h q refl)))

-- a field without a tab is parted off
pub parted_field : (ds r : List ℕ) → Free 9 (length ds) ds → parted (ds ++ 9 ∷ r) ≡ Some (ds, r)
parted_field [] r f = refl
parted_field (d ∷ ds) r f =
    simp (ne_eqb d 9 (f 0 (omega arith)), parted_field ds r (free_tail 9 _ d ds f))

-- bytes without a line feed belong to the line that they stand before
pub lines_over : (ds tail l : List ℕ) (ls : List (List ℕ)) → Free 10 (length ds) ds → lines tail ≡ l ∷ ls → lines (ds ++ tail) ≡ (ds ++ l) ∷ ls
lines_over [] tail l ls f e = e
lines_over (d ∷ ds) tail l ls f e =
    simp (ne_eqb d 10 (f 0 (omega arith)), lines_over ds tail l ls (free_tail 10 _ d ds f) e)

-- the first line of bs, and what follows it
abbrev pub Taken : ℕ → List ℕ → Piece → List ℕ → Type 0
Taken n bs p rest = (l : List ℕ) × (lines bs ≡ l ∷ lines rest) × (p ≡ piece n l)

free_front : (x i : ℕ) (bs : List ℕ) → i ≤ length bs → Free x i bs → Free x (length (take i bs)) (take i bs)
free_front x i bs le f k lt at =
    let short = length-take-le i bs le in
    f k (omega arith) (sym (get_or-take i bs k 0 (omega arith)) ∙ at)

pub taken_whole : (n : ℕ) (bs : List ℕ) → 0 < length bs → Unmarked (length bs) bs → Taken n bs (bare n bs) []
taken_whole n [] some f = absurd (omega arith)
taken_whole n (b ∷ bs) some f = (b ∷ bs, lines_last b bs f.1, sym (ap (by_tab n (b ∷ bs)) (parted_none 9 (b ∷ bs) f.0)))

pub taken_bare : (n : ℕ) (bs : List ℕ) (i : ℕ) → i < length bs → Unmarked i bs → get_or bs i 0 ≡ 10 → Taken n bs (bare n (take (i + 1) bs)) (take (length bs - (i + 1)) (drop (i + 1) bs))
taken_bare n bs i lt f at =
    rw (take_rest bs (i + 1), add-one i)
    (take (suc i) bs, lines_cut bs i lt at f.1, sym (ap (by_tab n (take (suc i) bs)) (parted_none 9 (take (suc i) bs) no_tab)))
  where
    no_tab : Free 9 (length (take (suc i) bs)) (take (suc i) bs)
    no_tab k few tab =
        let short = length-take (suc i) bs in
        let same = get_or-take (suc i) bs k 0 (omega arith) in
        ⊎_elim (λ less. f.0 k less (sym same ∙ tab)) (λ last. let is : k ≡ i = omega arith in absurd (omega (arith, same, tab, at, ap (λ j. get_or bs j 0) is))) (cases_lt k i)

-- what follows the tab, up to the end of the line
abbrev pub Rest : List ℕ → ℕ → Type 0
Rest end e = lines (9 ∷ end) ≡ (9 ∷ take e end) ∷ lines (drop e end)

rest_to_end : (end : List ℕ) → Free 10 (length end) end → Rest end (length end)
rest_to_end [] f = refl
rest_to_end (b ∷ bs) f =
    let front = take_all (length (b ∷ bs)) (b ∷ bs) (omega arith) in
    let back = drop_all (length (b ∷ bs)) (b ∷ bs) (omega arith) in
    rw (front, back) (ap (onto 9) (lines_last b bs f))

pub rest_at_end : (end : List ℕ) (e : ℕ) → LineEnd end e → Rest end e
rest_at_end end e (inl h) = subst (Rest end) (sym h.1) (rw (add-one h.0) (ap (onto 9) (lines_cut end h.0 h.2.0 h.2.1 h.2.2)))
rest_at_end end e (inr h) = subst (Rest end) (sym h.0) (rest_to_end end h.1)

pub taken_fields : (n : ℕ) (bs end : List ℕ) (i e : ℕ) → i < length bs → Unmarked i bs → get_or bs i 0 ≡ 9 → end ≡ drop (i + 1) bs → Rest end e → Taken n bs (fields n (take i bs) (take e end)) (take (length end - e) (drop e end))
taken_fields n bs end i e lt f at is h =
    let first = take i bs in
    let split : bs ≡ first ++ 9 ∷ end = sym (take-append-drop i bs) ∙ ap (λ r. first ++ r) (drop_more bs i 0 lt ∙ ap (λ b. b ∷ drop (i + 1) bs) at ∙ ap (λ r. 9 ∷ r) (sym is)) in
    rw (take_rest end e) (
      first ++ 9 ∷ take e end,
      ap lines split ∙ lines_over first (9 ∷ end) (9 ∷ take e end) (lines (drop e end)) (free_front 10 i bs (omega arith) f.1) h,
      sym (ap (by_tab n (first ++ 9 ∷ take e end)) (parted_field first (take e end) (free_front 9 i bs (omega arith) f.0))),
    )

-- the text of a piece is its line
pub text_of_piece : (n : ℕ) (bs : List ℕ) → text_of (piece n bs) ≡ bs
text_of_piece n bs = by (parted bs) refl
  where
    by : (o : Option (List ℕ × List ℕ)) → parted bs ≡ o → text_of (by_tab n bs o) ≡ bs
    by None e = refl
    by (Some p) e = parted_whole bs p.0 p.1 e

joined_onto : (b : ℕ) (ls : List (List ℕ)) → flat_map (λ l. l) (onto b ls) ≡ b ∷ flat_map (λ l. l) ls
joined_onto b ls = grind arith

joined_lines : (bs : List ℕ) → flat_map (λ l. l) (lines bs) ≡ bs
joined_lines [] = refl
joined_lines (b ∷ bs) = by (eqb b 10) (joined_lines bs)
  where
    by : (t : Bool) → flat_map (λ l. l) (lines bs) ≡ bs → flat_map (λ l. l) (cond t ((b ∷ []) ∷ lines bs) (onto b (lines bs))) ≡ b ∷ bs
    by true h = ap (λ l. b ∷ l) h
    by false h = joined_onto b (lines bs) ∙ ap (λ l. b ∷ l) h

joined_after : (n : ℕ) (ls : List (List ℕ)) → flat_map text_of (after n ls) ≡ flat_map (λ l. l) ls
joined_after n [] = refl
joined_after n (l ∷ ls) = rw (text_of_piece (n + 1) l, joined_after (n + 1) ls)

pub whole : (text : List ℕ) → Whole text
whole text = joined_after 0 (lines text) ∙ joined_lines text

number_of_piece : (n : ℕ) (bs : List ℕ) (o : Option (List ℕ × List ℕ)) → number_of (by_tab n bs o) ≡ n
number_of_piece n bs o = grind arith

numbered_after : (n : ℕ) (ls : List (List ℕ)) (k : ℕ) (p : Piece) → k < length (after n ls) → number_of (get_or (after n ls) k p) ≡ n + k + 1
numbered_after n [] k p lt = absurd (omega arith)
numbered_after n (l ∷ ls) zero p lt = number_of_piece (n + 1) l (parted l) ∙ omega arith
numbered_after n (l ∷ ls) (suc k) p lt = numbered_after (n + 1) ls k p (omega arith) ∙ omega arith

pub numbered : (text : List ℕ) → Numbered text
numbered text k p lt = numbered_after 0 (lines text) k p lt ∙ omega arith

-- the first of the pieces that follow n lines has the next number, and the others follow it
pub after_next : (n : ℕ) (ls : List (List ℕ)) (p : Piece) (ps : List Piece) → after n ls ≡ p ∷ ps → (number_of p ≡ n + 1) × ((ms : List (List ℕ)) × (ps ≡ after (n + 1) ms))
after_next n [] p ps e = cc
after_next n (l ∷ ls) p ps e =
    let first : piece (n + 1) l ≡ p = cc in
    (ap number_of (sym first) ∙ number_of_piece (n + 1) l (parted l), (ls, cc))
