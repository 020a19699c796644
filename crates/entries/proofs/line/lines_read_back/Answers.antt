use Rattle.entries.proofs.Backs as backs
use Rattle.entries.proofs.line.lines_read_back.Goals as goal

pub returns : goal.returns
returns c = record { long = backs.long; back = backs.reads_back; only = backs.no_other; others = backs.else_spoiled }
