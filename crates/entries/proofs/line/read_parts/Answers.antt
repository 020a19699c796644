use Rattle.std.proofs.Common.{◌≡◌, Some, None, ap, ◌∙◌}
use Rattle.inspection.specs.Letters.{kind_of, status_of, verdict_of}
use Rattle.entries.specs.Lines.{numbers_in, joint}
use Rattle.entries.proofs.Chains.{letter_found}
use Rattle.entries.proofs.line.read_parts.Goals as goal

pub returns-in_err-verdict : goal.returns-in_err-verdict
returns-in_err-verdict c =
    let kind : Some c.in_ok-kind.kind ≡ kind_of c.args.kind = c.in_ok-kind.ensures.value ∙ letter_found _ _ _ _ c.try_from.ensures ∙ ap kind_of c.from.ensures in
    let status : Some c.in_ok-status.status ≡ status_of c.args.status = c.in_ok-status.ensures.value ∙ letter_found _ _ _ _ c.try_from-2.ensures ∙ ap status_of c.from-2.ensures in
    let verdict : None ≡ verdict_of c.args.verdict = c.in_err-verdict.ensures.value ∙ letter_found _ _ _ _ c.try_from-3.ensures ∙ ap verdict_of c.from-3.ensures in
    c.from_residual-in_err-verdict.ensures ∙ (λ i. joint (kind i) (status i) (verdict i) (numbers_in c.args.numbers.now))

pub returns : goal.returns
returns c =
    let kind : Some c.in_ok-kind.kind ≡ kind_of c.args.kind = c.in_ok-kind.ensures.value ∙ letter_found _ _ _ _ c.try_from.ensures ∙ ap kind_of c.from.ensures in
    let status : Some c.in_ok-status.status ≡ status_of c.args.status = c.in_ok-status.ensures.value ∙ letter_found _ _ _ _ c.try_from-2.ensures ∙ ap status_of c.from-2.ensures in
    let verdict : Some c.in_ok-verdict.verdict ≡ verdict_of c.args.verdict = c.in_ok-verdict.ensures.value ∙ letter_found _ _ _ _ c.try_from-3.ensures ∙ ap verdict_of c.from-3.ensures in
    λ i. joint (kind i) (status i) (verdict i) (c.in_ok-lot_size.ensures i)
