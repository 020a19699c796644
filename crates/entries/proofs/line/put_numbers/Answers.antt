use Rattle.std.proofs.Common.{◌≡◌, ◌++◌, arith}
use Rattle.entries.specs.Lines.{number_field}
use Rattle.entries.proofs.line.put_numbers.Goals as goal

pub returns : goal.returns
returns c =
    let lot_size : c.put_number.new.field ≡ number_field 7 c.args.entry.now.lot_size 9 = c.put_number.ensures 7 (omega arith) in
    let units : c.put_number-2.new.field ≡ number_field 4 c.args.entry.now.units 9 = c.put_number-2.ensures 4 (omega arith) in
    let critical : c.put_number-3.new.field ≡ number_field 5 c.args.entry.now.tally.critical 9 = c.put_number-3.ensures 5 (omega arith) in
    let major : c.put_number-4.new.field ≡ number_field 5 c.args.entry.now.tally.major 9 = c.put_number-4.ensures 5 (omega arith) in
    let minor : c.put_number-5.new.field ≡ number_field 5 c.args.entry.now.tally.minor 10 = c.put_number-5.ensures 5 (omega arith) in
    λ i. lot_size i ++ (units i ++ (critical i ++ (major i ++ minor i)))
