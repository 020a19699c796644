-- Tallies of distinct pairs: a related defect and a new one.
use Rattle.std.proofs.Common.{◌≡◌, ℕ, ◌+◌, Bool, true, false, cond, List, [], ◌∷◌, sym, refl, ap, ◌∙◌, subst, arith}
use Rattle.std.proofs.lemmas.List.Sums.{sum_by-cons}
use Rattle.std.proofs.lemmas.Bool.{cond-true, cond-false}
use Rattle.std.proofs.lemmas.Bool.Decides.{nat_tests}
use Rattle.std.specs.List.{AllByRecursion as All}
use Rattle.inspection.specs.Tallies.{worse, total_of}
use Rattle.inspection.specs.declared.class.DefectClass.{DefectClass}
use Rattle.inspection.specs.declared.class.DefectClass.TheVariants.{Minor}
use Rattle.inspection.specs.declared.tally.Tally.{Tally}
use Rattle.worksheet.specs.declared.defect.Defect.{Defect}
use Rattle.worksheet.specs.Defects.{Pair, pair, same_pair}
use Rattle.worksheet.specs.Running.{counted}
use Rattle.worksheet.specs.Scores.{occurs, pairs, worst, is_critical, is_major, is_minor, by_class, tally_of}

abbrev pub clean : Tally
clean = record { critical = 0; major = 0; minor = 0 }

abbrev pub plus : Tally → Tally → Tally
plus t u = record { critical = t.critical + u.critical; major = t.major + u.major; minor = t.minor + u.minor }

same_tally : (a b c x y z : ℕ) → a ≡ x → b ≡ y → c ≡ z → ◌≡◌ {A = Tally} (record { critical = a; major = b; minor = c }) (record { critical = x; major = y; minor = z })
same_tally a b c x y z p q r = λ i. record { critical = p i; major = q i; minor = r i }

pub plus_clean : (t : Tally) → plus clean t ≡ t
plus_clean t = grind arith

pub counted_plus : (t u : Tally) (c : DefectClass) → plus (counted t c) u ≡ plus t (counted u c)
counted_plus t u c = grind arith

pub counted_clean : (t : Tally) (c : DefectClass) → plus t (counted clean c) ≡ counted t c
counted_clean t c = grind arith

pub total_counted : (t : Tally) (c : DefectClass) → total_of (counted t c) ≡ total_of t + 1
total_counted t c = grind arith

one_by_class : (c : DefectClass) (t : Tally) → ◌≡◌ {A = Tally} (record { critical = cond (is_critical c) 1 0 + t.critical; major = cond (is_major c) 1 0 + t.major; minor = cond (is_minor c) 1 0 + t.minor }) (counted t c)
one_by_class c t = grind arith

by_class_cons : (f : Pair → DefectClass) (q : Pair) (qs : List Pair) → by_class f (q ∷ qs) ≡ counted (by_class f qs) (f q)
by_class_cons f q qs =
    same_tally _ _ _ _ _ _
    (sum_by-cons (λ q. cond (is_critical (f q)) 1 0) q qs)
    (sum_by-cons (λ q. cond (is_major (f q)) 1 0) q qs)
    (sum_by-cons (λ q. cond (is_minor (f q)) 1 0) q qs)
    ∙ one_by_class (f q) (by_class f qs)

by_class_agrees : (f g : Pair → DefectClass) (qs : List Pair) → All (λ q. f q ≡ g q) qs → by_class f qs ≡ by_class g qs
by_class_agrees f g [] h = refl
by_class_agrees f g (q ∷ qs) h =
    by_class_cons f q qs
    ∙ ap (λ t. counted t (f q)) (by_class_agrees f g qs h.1)
    ∙ ap (counted (by_class g qs)) h.0
    ∙ sym (by_class_cons g q qs)

worse_minor : (c : DefectClass) → worse c Minor ≡ c
worse_minor c = grind arith

worse_assoc : (a b c : DefectClass) → worse a (worse b c) ≡ worse (worse a b) c
worse_assoc a b c = grind arith

pub pair_same : (p q : Pair) → same_pair p q ≡ true → p ≡ q
pair_same p q e = grind (arith, nat_tests)

pair_refl : (p : Pair) → same_pair p p ≡ true
pair_refl p = grind (arith, nat_tests)

-- two related defects score as one of the worse class
abbrev pub merged : Defect → Defect → Defect
merged b d = record b { class = worse b.class d.class }

worst_merged : (b d : Defect) (ds : List Defect) → pair b ≡ pair d → (q : Pair) → worst (b ∷ d ∷ ds) q ≡ worst (merged b d ∷ ds) q
worst_merged b d ds e q =
    subst (λ r. cond (same_pair q (pair b)) (worse b.class (cond (same_pair q r) (worse d.class (worst ds q)) (worst ds q))) (cond (same_pair q r) (worse d.class (worst ds q)) (worst ds q)) ≡ worst (merged b d ∷ ds) q) e
    (by (same_pair q (pair b)))
  where
    by : (t : Bool) → cond t (worse b.class (cond t (worse d.class (worst ds q)) (worst ds q))) (cond t (worse d.class (worst ds q)) (worst ds q)) ≡ cond t (worse (worse b.class d.class) (worst ds q)) (worst ds q)
    by true = worse_assoc b.class d.class (worst ds q)
    by false = refl

pairs_merged : (b d : Defect) (ds : List Defect) → pair b ≡ pair d → pairs (b ∷ d ∷ ds) ≡ pairs (merged b d ∷ ds)
pairs_merged b d ds e = grind (arith, nat_tests)

pub tally_merged : (b d : Defect) (ds : List Defect) → pair b ≡ pair d → tally_of (b ∷ d ∷ ds) ≡ tally_of (merged b d ∷ ds)
tally_merged b d ds e =
    let same : worst (b ∷ d ∷ ds) ≡ worst (merged b d ∷ ds) = λ i q. worst_merged b d ds e q i in
    λ i. by_class (same i) (pairs_merged b d ds e i)

-- a defect of a new pair counts by its own class
apart_from : (b : Defect) (ds : List Defect) → occurs (pair b) ds ≡ false → All (λ q. same_pair q (pair b) ≡ false) (pairs ds)
apart_from b [] h = tt
apart_from b (d ∷ ds) h = grind (arith, nat_tests, apart_from b ds)

worst_absent : (q : Pair) (ds : List Defect) → occurs q ds ≡ false → worst ds q ≡ Minor
worst_absent q [] h = refl
worst_absent q (d ∷ ds) h = grind (arith, nat_tests, worst_absent q ds)

pub tally_fresh : (b : Defect) (ds : List Defect) → occurs (pair b) ds ≡ false → tally_of (b ∷ ds) ≡ counted (tally_of ds) b.class
tally_fresh b ds h =
    let f = worst (b ∷ ds) in
    let own : f (pair b) ≡ b.class = cond-true (same_pair (pair b) (pair b)) _ _ (pair_refl (pair b)) ∙ ap (worse b.class) (worst_absent (pair b) ds h) ∙ worse_minor b.class in
    ap (by_class f) (cond-false (occurs (pair b) ds) (pairs ds) (pair b ∷ pairs ds) h)
    ∙ by_class_cons f (pair b) (pairs ds)
    ∙ ap (counted (by_class f (pairs ds))) own
    ∙ ap (λ t. counted t b.class) (by_class_agrees f (worst ds) (pairs ds) (all_map (pairs ds) (apart_from b ds h)))
  where
    all_map : (qs : List Pair) → All (λ q. same_pair q (pair b) ≡ false) qs → All (λ q. worst (b ∷ ds) q ≡ worst ds q) qs
    all_map [] a = tt
    all_map (q ∷ qs) a = (cond-false (same_pair q (pair b)) _ _ a.0, all_map qs a.1)
