use Rattle.worksheet.proofs.Written.{reads_back}
use Rattle.worksheet.proofs.promises.a_line_says_what_is_written.Goals as goal

pub returns : goal.returns
returns c = reads_back
