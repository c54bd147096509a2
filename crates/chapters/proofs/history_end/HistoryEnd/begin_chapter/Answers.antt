use Rattle.std.proofs.Common.{◌+◌, [], ap, subst, sym}
use Rattle.chapters.specs.HistoryEnds.{EndsAt}
use Rattle.chapters.proofs.history_end.HistoryEnd.begin_chapter.Goals as goal

pub returns-clause-begun : goal.returns-clause-begun
returns-clause-begun c = λ chapters seal lines ends octets some.
    let here = subst (EndsAt chapters seal []) (sym c.self.view_is) ends in
    c.cover.ensures.covers (chapters + 1) seal [] lines
    (record {
      count = ap (λ n. n + 1) here.count;
      last = here.last;
      covers = here.covers;
      sealed = here.sealed;
    })
    octets some
