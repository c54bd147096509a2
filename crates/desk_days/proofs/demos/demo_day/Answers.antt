use Rattle.desk_days.proofs.Telling.{tells_report_front}
use Rattle.desk_days.proofs.demos.demo_day.Goals as goal

pub returns-in_err-put_report-clause-front : goal.returns-in_err-put_report-clause-front
returns-in_err-put_report-clause-front g c =
    tells_report_front _ _ _ _ _ c.in_ok-end.ensures.settled c.put_report.ensures.front

pub returns-clause-front : goal.returns-clause-front
returns-clause-front g c =
    tells_report_front _ _ _ _ _ c.in_ok-end.ensures.settled c.in_ok-put_report.ensures.front
