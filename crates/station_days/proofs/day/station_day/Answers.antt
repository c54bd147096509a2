use Rattle.std.proofs.Common.{refl}
use Rattle.peer_connections.proofs.Reaching.{goes_same}
use Rattle.station_days.proofs.Telling.{same_places, tells_station, tells_station_front}
use Rattle.station_days.proofs.Telling.{tells_station_line}
use Rattle.station_days.proofs.day.station_day.Goals as goal

-- the line wasn't written whole
pub returns-in_err-put_places-clause-front : goal.returns-in_err-put_places-clause-front
returns-in_err-put_places-clause-front g c =
    tells_station_line _ _ _ _ _ _ _ _
    (same_places _ _ _ _ _ _ c.port.ensures c.page_port.ensures c.feed_port.ensures)
    c.requires.alone c.put_places.ensures.front

pub returns-in_err-put_places-clause-journal : goal.returns-in_err-put_places-clause-journal
returns-in_err-put_places-clause-journal g c = goes_same _ _ refl

-- the report wasn't written whole
pub returns-in_err-put_stored_report-clause-front :
    goal.returns-in_err-put_stored_report-clause-front
returns-in_err-put_stored_report-clause-front g c =
    tells_station_front _ _ _ _ _ _ _ _ _ _ _
    (same_places _ _ _ _ _ _ c.port.ensures c.page_port.ensures c.feed_port.ensures)
    c.requires.alone c.serve-served.ensures.moves refl c.in_ok-put_places.ensures.written
    c.put_stored_report.ensures.front

pub returns-in-Ok-clause-told : goal.returns-in-Ok-clause-told
returns-in-Ok-clause-told g c =
    tells_station _ _ _ _ _ _ _ _ _ _ _
    (same_places _ _ _ _ _ _ c.port.ensures c.page_port.ensures c.feed_port.ensures)
    c.requires.alone c.requires.off c.serve-served.ensures.moves c.serve-served.ensures.left refl
    c.in_ok-put_places.ensures.written
    (c.in_ok-put_stored_report.ensures.written c.in-Ok.ensures.stored)

pub returns-in-Ok-clause-front : goal.returns-in-Ok-clause-front
returns-in-Ok-clause-front g c =
    tells_station_front _ _ _ _ _ _ _ _ _ _ _
    (same_places _ _ _ _ _ _ c.port.ensures c.page_port.ensures c.feed_port.ensures)
    c.requires.alone c.serve-served.ensures.moves refl c.in_ok-put_places.ensures.written
    c.in_ok-put_stored_report.ensures.front

-- the server ended before the day did
pub returns-in-Err-clause-front : goal.returns-in-Err-clause-front
returns-in-Err-clause-front g c =
    tells_station_front _ _ _ _ _ _ _ _ _ _ _
    (same_places _ _ _ _ _ _ c.port.ensures c.page_port.ensures c.feed_port.ensures)
    c.requires.alone c.serve-served.ensures.moves refl c.in_ok-put_places.ensures.written
    c.in_ok-put_stored_report.ensures.front

pub returns-in_err-put_stored_report-clause-journal : goal.returns-in_err-put_stored_report-clause-journal
returns-in_err-put_stored_report-clause-journal g c = c.serve-served.ensures.moves.journal

pub returns-in-Ok-clause-journal : goal.returns-in-Ok-clause-journal
returns-in-Ok-clause-journal g c = c.serve-served.ensures.moves.journal

pub returns-in-Err-clause-journal : goal.returns-in-Err-clause-journal
returns-in-Err-clause-journal g c = c.serve-served.ensures.moves.journal
