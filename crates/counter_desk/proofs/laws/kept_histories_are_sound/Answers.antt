use Rattle.written_site.specs.SiteState.{opening}
use Rattle.counter_desk.proofs.laws.kept_histories_are_sound.Goals as goal

pub returns : goal.returns
returns c = λ config book calls kept. record {
  run = c.legal_histories_are_runs.ensures.run (opening config) book.rows kept.legal;
  held = c.books_held_by_one.ensures config book.rows kept.legal;
  locked = c.locked_by_one.ensures.books config book.rows kept.legal;
  cleared = c.cleared_once.ensures.books config book.rows kept.legal;
  counted = c.clears_are_counted.ensures.books config book.rows kept.legal;
  volumes = c.volumes_cleared_are_counted.ensures.books config book.rows kept.legal;
  drawn = c.draws_are_counted.ensures.books config book.rows kept.legal;
  conserved = c.volumes_are_conserved.ensures.books config book.rows kept.legal;
}
