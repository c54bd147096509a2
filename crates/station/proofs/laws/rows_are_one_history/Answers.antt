use Rattle.station.specs.Runs.{after, opening_station}
use Rattle.station.proofs.History.{always_legal, books_grow}
use Rattle.station.proofs.laws.rows_are_one_history.Goals as goal

pub returns : goal.returns
returns c = λ g b ms more legal.
    let later = books_grow more (after ms (opening_station g b)) in
    record { legal = always_legal g b ms legal; later = later.more; grows = later.rows }
