-- What is seen of articles: how many, how many rejected, their units and defects.
use Rattle.regimes.specs.Rules.{Limits}
use Rattle.regimes.specs.Rules.{Rules}
use Rattle.inspection.specs.declared.refusal.Refusal.TheVariants.{TooManyRejected, TooFewUnits, DefectsAboveLimit}
use Rattle.inspection.specs.declared.refusal.Refusal.{Refusal}
use Rattle.std.specs.Prelude.{ℕ, ◌+◌, ◌*◌, ◌≤◌, Bool, false, not, List, [], ◌∷◌, length, is_some, Some, None, Option, nat_lt}
use Rattle.entries.specs.declared.entry.Entry.{Entry}
use Rattle.inspection.specs.declared.kind.Kind.TheVariants as kind
use Rattle.inspection.specs.Classes.{count_of, some_class, at_class, by_class}
use Rattle.runs.specs.History.{Article, verdicts, units_of, defects_of, first}
use Rattle.runs.specs.Lines.{Sample as Ruled, reading}
use Rattle.runs.specs.LookingBack.{sample_back, article_back}
use Rattle.runs.specs.Spells.{rejections}
use Rattle.line.specs.declared.sample.Sample.{Sample}
use Rattle.line.specs.declared.seen.Seen.{Seen}

abbrev pub seen_of : List Article → Seen
seen_of xs = record { articles = length xs; rejected = rejections (verdicts xs); units = units_of xs; defects = by_class (λ c. defects_of c xs) }

abbrev pub seen_decided : Option Article → Seen
seen_decided None = seen_of []
seen_decided (Some a) = seen_of (a ∷ [])

-- the article that an entry decides after others
abbrev pub seen_entry : Entry → List Entry → Seen
seen_entry e es = seen_decided (article_back e.kind e (reading es).first_sample)

-- a first sample as the line holds it
abbrev pub as_held : Option Ruled → Option Sample
as_held None = None
as_held (Some a) = Some (record { units = a.units; tally = a.tally })

abbrev pub first_of_lot : Entry → Option Sample
first_of_lot e = as_held (sample_back kind.Lot e None)

-- a sample that is no article yet
abbrev pub seen_sample : Sample → Seen
seen_sample a = record { articles = 0; rejected = 0; units = a.units; defects = by_class (λ c. count_of c a.tally) }

abbrev pub together : Seen → Seen → Seen
together a b = record { articles = a.articles + b.articles; rejected = a.rejected + b.rejected; units = a.units + b.units; defects = by_class (λ c. at_class a.defects c + at_class b.defects c) }

-- no more than n samples can show, each number of a sample being below 2^32 and its defects together below 2^34
pub record Within (n : ℕ) (s : Seen) : Type 0 where
  pub articles : s.articles ≤ n
  pub rejected : s.rejected ≤ n
  pub units : s.units ≤ n * 17179869184
  pub critical : s.defects.critical ≤ n * 17179869184
  pub major : s.defects.major ≤ n * 17179869184
  pub total : s.defects.total ≤ n * 17179869184

-- the defects of some class are above its limit
abbrev pub is_above : Seen → Limits → Bool
is_above seen l = some_class (λ c. nat_lt (at_class l c) (at_class seen.defects c))

abbrev pub seen_above : Seen → Option Limits → Bool
seen_above seen None = false
seen_above seen (Some l) = is_above seen l

-- what refuses relief by what is seen of the last window
abbrev pub seen_refusal : {C : Type 0} → Rules C → Seen → Option Refusal
seen_refusal r seen =
    first ((nat_lt r.most_rejected seen.rejected, TooManyRejected) ∷ (not (is_some (r.limits seen.units)), TooFewUnits) ∷ (seen_above seen (r.limits seen.units), DefectsAboveLimit) ∷ []) None
