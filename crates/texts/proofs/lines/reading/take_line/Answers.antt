use Rattle.std.proofs.Common.{◌+◌, ◌-◌, length, take, drop, ⊎_elim}
use Rattle.std.proofs.lemmas.List.{take_rest}
use Rattle.texts.proofs.Cuts.{taken_whole, taken_bare, taken_fields, rest_at_end}
use Rattle.texts.proofs.lines.reading.take_line.Goals as goal

pub returns-in_default-clause-item : goal.returns-in_default-clause-item
returns-in_default-clause-item c = taken_whole _ _ c.requires c.in_default.ensures

pub returns-then-bytes-mark-eq10-clause-item : goal.returns-then-bytes-mark-eq10-clause-item
returns-then-bytes-mark-eq10-clause-item c =
    let mark = c.in-Some.ensures in
    taken_bare _ _ c.in-Some.mark mark.0 mark.1 c.if-bytes-mark-eq10.true

pub returns-clause-item : goal.returns-clause-item
returns-clause-item c =
    let mark = c.in-Some.ensures in
    let bytes = c.args.bytes.now in
    let from = c.in-Some.mark + 1 in
    let after = take (length bytes - from) (drop from bytes) in
    let end = rest_at_end after c.line_end-end.result c.line_end-end.ensures in
    taken_fields _ bytes after c.in-Some.mark c.line_end-end.result mark.0 mark.1 (⊎_elim (λ tab. tab) (λ feed. absurd (c.if-bytes-mark-eq10.false feed)) mark.2) (take_rest bytes from) end
