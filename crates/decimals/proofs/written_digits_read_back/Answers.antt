use Rattle.decimals.proofs.Writing.{written_back, read_back}
use Rattle.decimals.proofs.written_digits_read_back.Goals as goal

pub returns : goal.returns
returns c = record { written = written_back; read = read_back }
