use Rattle.written_site.proofs.Holders.{books_held_by_one}
use Rattle.written_site.proofs.laws.books_held_by_one.Goals as goal

pub returns : goal.returns
returns c = books_held_by_one
