use Rattle.std.proofs.Common.{◌≡◌, false, ◌&&◌, eqb, leb, sym, ap, ◌∙◌, rules, arith}
use Rattle.std.proofs.lemmas.Bool.{le-leb, lt-leb}
use Rattle.runs.specs.History.{is_rejected}
use Rattle.runs.specs.Lines.{articles}
use Rattle.line.proofs.Breaking.{breaks_normal, breaks_tightened, breaks_reduced}
use Rattle.line.proofs.line.Line.turns.Goals as goal

pub returns-in-Normal-Rejected : goal.returns-in-Normal-Rejected
returns-in-Normal-Rejected g c =
    let line = c.args.self.now in
    let ruled = g.R.Regime.rules line.regime in
    breaks_normal ruled.window ruled.most_rejected line.standing.spell c.min.result (articles c.args.earlier.now) line.standing.status (is_rejected c.args.verdict) c.look_back.result c.look_back.ensures c.in-Normal-Rejected.is-0 (ap is_rejected c.in-Normal-Rejected.is-1) c.min.ensures

pub returns-then-seen-ge4 : goal.returns-then-seen-ge4
returns-then-seen-ge4 g c =
    let line = c.args.self.now in
    let ruled = g.R.Regime.rules line.regime in
    let other : is_rejected c.args.verdict ≡ false = search rules in
    let seen = c.look_back-seen.result in
    sym (ap (λ b. b && eqb seen.rejected 0) (le-leb 4 seen.articles c.if-seen-ge4.true))
    ∙ breaks_tightened ruled.window ruled.most_rejected line.standing.spell c.min-in-Tightened-default.result (articles c.args.earlier.now) line.standing.status (is_rejected c.args.verdict) seen c.look_back-seen.ensures c.in-Tightened-default.is-0 other c.min-in-Tightened-default.ensures

pub returns-else-seen-ge4 : goal.returns-else-seen-ge4
returns-else-seen-ge4 g c =
    let line = c.args.self.now in
    let ruled = g.R.Regime.rules line.regime in
    let other : is_rejected c.args.verdict ≡ false = search rules in
    let seen = c.look_back-seen.result in
    let few = lt-leb 4 seen.articles c.if-seen-ge4.false in
    few
    ∙ sym (ap (λ b. b && eqb seen.rejected 0) few)
    ∙ breaks_tightened ruled.window ruled.most_rejected line.standing.spell c.min-in-Tightened-default.result (articles c.args.earlier.now) line.standing.status (is_rejected c.args.verdict) seen c.look_back-seen.ensures c.in-Tightened-default.is-0 other c.min-in-Tightened-default.ensures

pub returns-in-Reduced-Rejected : goal.returns-in-Reduced-Rejected
returns-in-Reduced-Rejected g c =
    let line = c.args.self.now in
    let ruled = g.R.Regime.rules line.regime in
    let seen = c.look_back-in-Reduced-Rejected.result in
    ap (λ k. leb k seen.rejected) c.most_rejected.ensures
    ∙ breaks_reduced ruled.window ruled.most_rejected line.standing.spell c.min-in-Reduced-Rejected.result (articles c.args.earlier.now) line.standing.status (is_rejected c.args.verdict) seen c.look_back-in-Reduced-Rejected.ensures c.in-Reduced-Rejected.is-0 (ap is_rejected c.in-Reduced-Rejected.is-1) (omega (arith, c.min-in-Reduced-Rejected.ensures, c.saturating_sub-others.ensures, c.window_length.ensures))
