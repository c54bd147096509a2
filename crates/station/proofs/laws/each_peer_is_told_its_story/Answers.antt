use Rattle.std.proofs.Common.{[]}
use Rattle.station.specs.Moves.{with_arrival}
use Rattle.station.proofs.Courses.{arrives, runs}
use Rattle.station.proofs.laws.each_peer_is_told_its_story.Goals as goal

pub returns : goal.returns
returns c = λ s k door ms free stays.
    runs s.book.config s.book.rows k ms [] [] (with_arrival k door s) stays (arrives k door s)
