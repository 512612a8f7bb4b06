use Rattle.frames.proofs.SafeReports.{safe_reports}
use Rattle.frames.proofs.laws.reports_actions.Goals as goal

pub returns : goal.returns
returns c = safe_reports
