-- The articles that entries tell of, read from the newest entry back, so that no more is read than is asked for.
use Rattle.std.specs.Prelude.{◌≡◌, ℕ, zero, suc, ◌+◌, cond, List, [], ◌∷◌, reverse, Some, None, Option}
use Rattle.inspection.specs.declared.kind.Kind.{Kind}
use Rattle.inspection.specs.declared.kind.Kind.TheVariants as kind
use Rattle.entries.specs.declared.entry.Entry.{Entry}
use Rattle.regimes.specs.Lots.{added}
use Rattle.runs.specs.History.{Article, is_awaited, is_rejected}
use Rattle.runs.specs.Lines.{Sample, sole, reading, articles, last_articles}

-- the first sample that awaits its second after the entry e, o being the one before it
abbrev pub sample_back : Kind → Entry → Option Sample → Option Sample
sample_back kind.PeriodOpened e o = o
sample_back kind.Portion e o = o
sample_back kind.PeriodEnded e o = o
sample_back kind.Lot e o = cond (is_awaited e.verdict) (Some (record { units = e.units; tally = e.tally })) None
sample_back kind.SecondSample e o = None
sample_back kind.Relief e o = o
sample_back kind.IrregularNotice e o = o
sample_back kind.Spoiled e o = o

-- the nearest lot or second sample back, if that is a lot answered W. The entries here come newest first
abbrev pub first_sample_back : List Entry → Option Sample
first_sample_back [] = None
first_sample_back (e ∷ es) = sample_back e.kind e (first_sample_back es)

-- the second sample e with its first one, if there is one
abbrev pub with_first : Option Sample → Entry → Option Article
with_first None e = None
with_first (Some a) e = Some (record { rejected = is_rejected e.verdict; units = a.units + e.units; tally = added a.tally e.tally })

-- the article that the entry e decides, o being the first sample before it
abbrev pub article_back : Kind → Entry → Option Sample → Option Article
article_back kind.PeriodOpened e o = None
article_back kind.Portion e o = Some (sole e)
article_back kind.PeriodEnded e o = None
article_back kind.Lot e o = cond (is_awaited e.verdict) None (Some (sole e))
article_back kind.SecondSample e o = with_first o e
article_back kind.Relief e o = None
article_back kind.IrregularNotice e o = None
article_back kind.Spoiled e o = None

-- the articles, the newest first
abbrev pub articles_back : List Entry → List Article
articles_back [] = []
articles_back (e ∷ es) = elim (article_back e.kind e (first_sample_back es)) [ None ↦ articles_back es | Some a ↦ a ∷ articles_back es ]

-- the newest n of them; the reading stops at the n-th
abbrev pub latest_back : ℕ → List Entry → List Article
latest_back zero es = []
latest_back (suc n) [] = []
latest_back (suc n) (e ∷ es) = elim (article_back e.kind e (first_sample_back es)) [ None ↦ latest_back (suc n) es | Some a ↦ a ∷ latest_back n es ]

-- the last n articles of the entries of a book, both oldest first
abbrev pub latest : ℕ → List Entry → List Article
latest n es = reverse (latest_back n (reverse es))

-- reading any entries back gives what reading them forward gives
pub record ReadsBackAlike (es : List Entry) : Type 0 where
  pub all_articles : reverse (articles_back (reverse es)) ≡ articles es
  pub the_first_sample : first_sample_back (reverse es) ≡ (reading es).first_sample
  pub the_last : (n : ℕ) → latest n es ≡ last_articles n (articles es)

abbrev pub ReadBackAsForward : Type 0
ReadBackAsForward = (es : List Entry) → ReadsBackAlike es
