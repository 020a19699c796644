use Rattle.std.proofs.Common.{◌+◌, true, take, sym, refl, ap, ◌∙◌, arith}
use Rattle.std.proofs.lemmas.List.{length-take-le}
use Rattle.runs.specs.Lines.{with_slip}
use Rattle.line.specs.Replaying.{retaken}
use Rattle.line.proofs.Replayed.{replayed}
use Rattle.line.proofs.line.Line.replay_entry.Goals as goal

pub returns : goal.returns
returns g c =
    let line = c.args.self.now in
    let es = g.B.Book.entries line.book in
    let before = c.args.before in
    let rules = g.R.Regime.rules line.regime in
    record {
      standing = c.left_by-self.ensures ∙ replayed rules line.standing (take before es) c.args.entry (before + 1) c.retaken.result c.unsound_at-bad.result c.if-is_some.ensures (ap (λ n. n + 1) (sym (length-take-le before es (omega (arith, c.requires))))) (c.retaken.ensures ∙ ap (λ st. retaken rules c.args.entry st c.of.result) c.with_slip-self.ensures ∙ ap (retaken rules c.args.entry (with_slip true line.standing)) c.of.ensures) c.unsound_at-bad.ensures;
      regime = refl;
      book = refl;
    }
