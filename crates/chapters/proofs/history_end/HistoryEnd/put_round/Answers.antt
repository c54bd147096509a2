use Rattle.std.proofs.Common.{[]}
use Rattle.chapters.specs.RowText.{kept_behind}
use Rattle.chapters.specs.Rounds.{round_lines}
use Rattle.chapters.proofs.Rounds.{then_sealed}
use Rattle.chapters.proofs.history_end.HistoryEnd.put_round.Goals as goal

pub returns-in_ok-put_seal-clause-written : goal.returns-in_ok-put_seal-clause-written
returns-in_ok-put_seal-clause-written c = λ chapters r ends.
    let rows = kept_behind c.args.from c.args.book.now.rows in
    let one = c.in_ok-put_rows.ensures.first.written chapters r ends in
    then_sealed (round_lines c.args.self.now.time c.args.now rows) rows chapters r
    c.args.self.now _ _ [] _ _ one
    (c.in_ok-put_seal.ensures.written chapters one.reading one.ends)
