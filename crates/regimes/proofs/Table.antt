-- The table's rule, at all of its entries.
use Rattle.std.proofs.Common.{rules}
use Rattle.regimes.specs.Promises.{StartsWithin}

pub starts_within : StartsWithin
starts_within = search rules
