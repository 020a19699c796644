use Rattle.worksheet.proofs.Sheets.{some_sheet_shows}
use Rattle.worksheet.proofs.promises.some_sheet_shows_every_tally.Goals as goal

pub returns : goal.returns
returns c = some_sheet_shows
