-- `sheet_step::report::put_report` meets its contract: the refusal, then the sheet. Assumes nothing.
use Rattle.text.proofs.Wrote.{then}
use Rattle.sheet_step.proofs.report.put_report.Goals as goal

pub returns : goal.returns
returns c = then c.put_refusal.ensures c.put_sheet.ensures
