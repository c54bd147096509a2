use Rattle.std.proofs.Common.{◌≡◌, ◌≤◌, length, take}
use Rattle.journal.specs.Stored.{told_at}
use Rattle.peer_connections.specs.Allowed.{IsFollowing}
use Rattle.peer_connections.specs.Reaches.{ReachesBy}
use Rattle.peer_connections.specs.Sending.{AreSentTo}
use Rattle.peer_connections.specs.Streams.{AllContinue, AllGetMore}
use Rattle.peer_connections.proofs.connections.Connections.send_each.Given as goal

abbrev pub invariant-loop-at : goal.invariant-loop-at
invariant-loop-at g l = record {
  moves : ReachesBy IsFollowing l.fn.self.stored l.self.stored;
  journal : l.self.stored.journal ≡ l.fn.self.stored.journal;
  rows : length l.fn.self.stored.station.book.rows ≤ length l.self.stored.station.book.rows;
  due : l.self.due ≡ l.fn.self.due;
  changes : l.self.changes ≡ l.fn.self.changes;
  got : AllGetMore g.S.Write.contents l.fn.self.links.items l.self.links.items
      l.fn.self.stored.station l.self.stored.station;
  sent : length l.self.stored.station.book.rows ≡ length l.fn.self.stored.station.book.rows
      → AreSentTo (take l.at l.self.due) l.self.stored l.self.links.items;
  streams : length l.self.stored.station.book.rows ≡ length l.fn.self.stored.station.book.rows
      → AllContinue g.S.Write.contents l.fn.self.links.items l.self.links.items
      (λ k. told_at l.fn.self.stored k) l.self.stored;
}
