use Rattle.std.proofs.Common.{rules}
use Rattle.desk_days.proofs.Telling.{settled_day, tells_day, tells_line, tells_front}
use Rattle.desk_days.proofs.server.day_of.Goals as goal

-- the line wasn't written whole
pub returns-in_err-put_listening : goal.returns-in_err-put_listening
returns-in_err-put_listening g c = record {
  settled = search rules;
  told = search rules;
  front = tells_line _ _ _ _ _ c.port.ensures c.put_listening.ensures.front;
  counted = search rules;
  failed = search rules;
  limit = search rules;
}

-- no session was served
pub returns-in_err-serve : goal.returns-in_err-serve
returns-in_err-serve g c = record {
  settled = search rules;
  told = search rules;
  front = tells_line _ _ _ _ _ c.port.ensures c.put_listening.ensures.front;
  counted = search rules;
  failed = search rules;
  limit = search rules;
}

-- the day isn't settled
pub returns-in_err-settled : goal.returns-in_err-settled
returns-in_err-settled g c = record {
  settled = search rules;
  told = search rules;
  front = tells_line _ _ _ _ _ c.port.ensures c.put_listening.ensures.front;
  counted = search rules;
  failed = search rules;
  limit = search rules;
}

-- the report wasn't written whole
pub returns-in_err-put_report : goal.returns-in_err-put_report
returns-in_err-put_report g c = record {
  settled = search rules;
  told = search rules;
  front = tells_front _ _ _ _ _ _ _ _ c.port.ensures c.requires.config
      (_, c.in_ok-settled.ensures.settled)
      c.in_ok-put_listening.ensures.written c.put_report.ensures.front;
  counted = search rules;
  failed = search rules;
  limit = search rules;
}

pub returns : goal.returns
returns g c = record {
  settled = settled_day _ _ _ c.requires.config (_, c.in_ok-settled.ensures.settled);
  told = tells_day c.args.config.now _ _ _ _ _ c.in_ok-settled.settled c.port.ensures
      c.in_ok-put_listening.ensures.written c.in_ok-put_report.ensures.written;
  front = tells_front _ _ _ _ _ _ _ _ c.port.ensures c.requires.config
      (_, c.in_ok-settled.ensures.settled)
      c.in_ok-put_listening.ensures.written c.in_ok-put_report.ensures.front;
  counted = search rules;
  failed = search rules;
  limit = search rules;
}
