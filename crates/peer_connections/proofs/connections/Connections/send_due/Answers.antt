use Rattle.std.proofs.Common.{ap, ◌∙◌, subst, sym, ◌≡◌, List, length, ℕ}
use Rattle.station.specs.Moves.{StationState}
use Rattle.peer_connections.specs.Allowed.{IsFollowing}
use Rattle.peer_connections.specs.Sending.{AreSentTo}
use Rattle.peer_connections.proofs.Getting.{more_same, more_then}
use Rattle.peer_connections.proofs.Others.{continue_stored, on_ok, on_ok_then, sent_by, sent_stored}
use Rattle.peer_connections.proofs.Reaching.{reaches_kept, reaches_then}
use Rattle.peer_connections.proofs.Seeing.{keeps_same, keeps_then, kept_on, reached_on}
use Rattle.peer_connections.proofs.connections.Connections.send_due.Goals as goal

pub returns-clause-moves : goal.returns-clause-moves
returns-clause-moves g c =
    reaches_then _ _ _ _
    (reaches_kept _ _ _ c.store.ensures.station c.store.ensures.journal)
    (reaches_then _ _ _ _ c.send_each.ensures.moves
    (reaches_kept _ _ _ c.store_and_end.ensures.station c.store_and_end.ensures.journal))

-- nobody is passed over
pub returns-clause-sent : goal.returns-clause-sent
returns-clause-sent g c =
    on_ok c.store_and_end.result _
    (λ few.
    let same : length c.send_each.new.self.stored.station.book.rows
    ≡ length c.store.new.self.stored.station.book.rows =
    sym (ap (λ (s : StationState). length s.book.rows) c.store_and_end.ensures.station) ∙ few
    ∙ sym (ap (λ (s : StationState). length s.book.rows) c.store.ensures.station) in
    let each : AreSentTo c.args.self.now.due c.send_each.new.self.stored
    c.send_each.new.self.links.items =
    subst (λ (due : List ℕ). AreSentTo due c.send_each.new.self.stored
    c.send_each.new.self.links.items) c.store.ensures.due (c.send_each.ensures.sent same) in
    sent_by _ c.store_and_end.new.self.stored _ _ (ap (λ x. x.items) c.store_and_end.ensures.links)
    (sent_stored c.args.self.now.due c.store.new.self.stored c.send_each.new.self.stored
    c.store_and_end.new.self.stored _ c.in_ok-store.ensures.stored c.send_each.ensures.journal
    same c.store_and_end.ensures.station each))

-- each connection goes on with what its peer is owed
pub returns-clause-streams : goal.returns-clause-streams
returns-clause-streams g c =
    on_ok_then c.store_and_end.result _ _
    (λ all few.
    let same : length c.send_each.new.self.stored.station.book.rows
    ≡ length c.store.new.self.stored.station.book.rows =
    sym (ap (λ (s : StationState). length s.book.rows) c.store_and_end.ensures.station) ∙ few
    ∙ sym (ap (λ (s : StationState). length s.book.rows) c.store.ensures.station) in
    continue_stored _ c.args.self.now.stored c.store.new.self.stored c.send_each.new.self.stored
    c.store_and_end.new.self.stored _ _ _ _ c.store.ensures.station
    c.in_ok-store.ensures.stored (ap (λ x. x.items) c.store.ensures.links)
    c.send_each.ensures.journal same c.store_and_end.ensures.station
    all (ap (λ x. x.items) c.store_and_end.ensures.links) (c.send_each.ensures.streams same))
    c.store_and_end.ensures.stored

-- .. or got more than before, at least
pub returns-in_err-store-clause-got : goal.returns-in_err-store-clause-got
returns-in_err-store-clause-got g c =
    more_same _ _ _ _ _ (ap (λ x. x.items) c.store.ensures.links) c.store.ensures.station

pub returns-clause-got : goal.returns-clause-got
returns-clause-got g c =
    more_then _ _ _ _ _ _ _
    (more_same _ _ _ _ _ (ap (λ x. x.items) c.store.ensures.links) c.store.ensures.station)
    (more_then _ _ _ _ _ _ _ c.send_each.ensures.got
    (more_same _ _ _ _ _ (ap (λ x. x.items) c.store_and_end.ensures.links)
    c.store_and_end.ensures.station))

-- .. and a row of which a dispenser is told is noted, or to be looked at
pub returns-clause-noted : goal.returns-clause-noted
returns-clause-noted g c =
    keeps_then c.args.self.now.changes c.send_each.new.self.changes
    c.store_and_end.new.self.changes _ _
    (kept_on _ _ c.store_and_end.ensures.station)
    (keeps_then c.args.self.now.changes c.store.new.self.changes c.send_each.new.self.changes _ _
    (reached_on IsFollowing _ _ c.send_each.ensures.moves) c.store.ensures.noted
    (keeps_same c.store.new.self.changes c.send_each.new.self.changes _
    c.send_each.ensures.changes))
    c.store_and_end.ensures.noted
