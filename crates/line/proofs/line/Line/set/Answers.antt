use Rattle.std.proofs.Common.{◌+◌, ◌<◌, [], length, take, drop, None, refl, ap, ◌∙◌, arith}
use Rattle.inspection.specs.declared.status.Status.TheVariants.{Normal}
use Rattle.runs.specs.Runs.{replay, replay_on}
use Rattle.line.specs.declared.line.Line.{Line}
use Rattle.line.proofs.Replayed.{not_missing, replay_more, replay_done}
use Rattle.line.proofs.line.Line.set.Goals.{in-Some, in_default}
use Rattle.line.proofs.line.Line.set.Goals as goal

pub loop-before-init : goal.loop-before-init
loop-before-init g c = (
  ap (λ k. replay_on (g.R.Regime.rules c.args.regime) (record { status = Normal; spell = 0; period = None; waiting = None; carried = k; unsound = None }) [] (g.B.Book.entries c.args.book)) c.starting.ensures,
  refl,
  refl,
)

pub replay_entry-requires : goal.replay_entry-requires
replay_entry-requires g c =
    let same = ap (λ b. length (g.B.Book.entries b)) c.loop-before.invariant.2 in
    omega (arith, same, c.loop-before-test.true, c.count-before-end.ensures)

pub loop-before-preserved : goal.loop-before-preserved
loop-before-preserved g c =
    let line = c.loop-before.line in
    let joined = c.match-entry.line in
    let rules = g.R.Regime.rules line.regime in
    let es = g.B.Book.entries line.book in
    let i = c.loop-before.before in
    let inv = c.loop-before.invariant in
    let same = ap (λ b. length (g.B.Book.entries b)) inv.2 in
    let there : i < length es = omega (arith, same, c.loop-before-test.true, c.count-before-end.ensures) in
    elim c.match-entry.branch [
      | in-Some w ↦
          (let did = w.replay_entry.ensures in
          let standing = ap (λ (l : Line g.row.R.Denot g.row.B.Denot g.row.R-Carried.Denot). l.standing) w.line-is ∙ did.standing in
          let regime = ap (λ (l : Line g.row.R.Denot g.row.B.Denot g.row.R-Carried.Denot). l.regime) w.line-is ∙ did.regime in
          let book = ap (λ (l : Line g.row.R.Denot g.row.B.Denot g.row.R-Carried.Denot). l.book) w.line-is ∙ did.book in (
            (λ j. replay_on (g.R.Regime.rules (regime j)) joined.standing (take (i + 1) (g.B.Book.entries (book j))) (drop (i + 1) (g.B.Book.entries (book j))))
                ∙ replay_more i es there rules line.standing joined.standing (replay (g.R.Regime.rules c.args.regime) (g.B.Book.entries c.args.book)) w.in-Some.entry w.in-Some.ensures standing inv.0,
            regime ∙ inv.1,
            book ∙ inv.2,
          ))
      | in_default w ↦ absurd (not_missing i es there w.in_default.ensures)
    ]

pub returns : goal.returns
returns g c =
    let line = c.loop-before.line in
    let inv = c.loop-before.invariant in
    let same = ap (λ b. length (g.B.Book.entries b)) inv.2 in
    record {
      standing = replay_done (g.R.Regime.rules line.regime) c.loop-before.before line.standing (replay (g.R.Regime.rules c.args.regime) (g.B.Book.entries c.args.book)) (g.B.Book.entries line.book) (omega (arith, same, c.loop-before-test.false, c.count-before-end.ensures)) inv.0;
      regime = inv.1;
      book = inv.2;
    }
