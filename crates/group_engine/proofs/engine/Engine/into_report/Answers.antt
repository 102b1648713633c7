use Rattle.engine_core.specs.Reports.{listed}
use Rattle.engine_core.proofs.Clients.{reports_on}
use Rattle.group_engine.proofs.engine.Engine.into_report.Goals as goal

pub returns-clause-reports : goal.returns-clause-reports
returns-clause-reports g c = λ s o e S H. reports_on s o e c.args.self.answers.items (listed c.report_on-report.result) S H.count H.answered H.region c.report_on-report.ensures
