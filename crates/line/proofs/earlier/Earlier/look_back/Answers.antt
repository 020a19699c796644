use Rattle.std.proofs.Common.{◌+◌, ◌-◌, ◌*◌, ◌∷◌, [], length, sym, ap, ◌∙◌, arith}
use Rattle.std.proofs.lemmas.List.{length-append}
use Rattle.runs.specs.Lines.{articles, last_articles}
use Rattle.line.specs.Seeing.{seen_of}
use Rattle.line.proofs.ReadBack.{whole, whole_step, within_together, within_more}
use Rattle.line.proofs.earlier.Earlier.look_back.Goals as goal

pub loop-seen-preserved : goal.loop-seen-preserved
loop-seen-preserved g c =
    let most = c.args.most in
    let s = c.loop-seen.seen in
    let x = c.article.result in
    let r = c.add-seen.result in
    let e = c.in-Some.entry in
    let es = c.in-Some.earlier in
    let inv = c.loop-seen.invariant in
    let len = ap length c.in-Some.ensures ∙ length-append es (e ∷ []) in
    record {
      answer = whole_step most r s x (seen_of (last_articles most (articles c.args.self.now))) es e c.loop-seen-test.true c.article.ensures.value c.add-seen.ensures (ap (whole most s) (sym c.in-Some.ensures) ∙ inv.answer);
      few = omega (arith, len, inv.few);
      within = within_more (2 * (9999999 - length c.loop-seen.rest) + 2) (2 * (9999999 - length es)) r (omega (arith, len, inv.few)) (within_together (2 * (9999999 - length c.loop-seen.rest)) 2 r s x c.add-seen.ensures inv.within c.article.ensures.within);
    }
