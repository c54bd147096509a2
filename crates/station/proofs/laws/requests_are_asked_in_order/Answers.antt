use Rattle.station.proofs.Adding.{octets_ask, octets_unheard, silent_moves}
use Rattle.station.proofs.laws.requests_are_asked_in_order.Goals as goal

pub returns : goal.returns
returns c = λ s. record {
  heard = λ memory k octets x there read. octets_ask s memory k octets x there read;
  unheard = λ memory k octets unread. octets_unheard s memory k octets unread;
  silent = λ m silent. silent_moves m s silent;
}
