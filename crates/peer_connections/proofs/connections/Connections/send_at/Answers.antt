use Rattle.std.proofs.Common.{sym, ◌∙◌, subst, List, ℕ, take, ◌+◌}
use Rattle.peer_connections.specs.Sending.{AreSentTo}
use Rattle.peer_connections.proofs.Getting.{more_followed}
use Rattle.peer_connections.proofs.Others.{continue_to, rows_stay, sent_up_to}
use Rattle.peer_connections.proofs.Reaching.{reaches_following}
use Rattle.peer_connections.proofs.connections.Connections.send_at.Goals as goal

pub returns-in-Some-clause-moves : goal.returns-in-Some-clause-moves
returns-in-Some-clause-moves g c = reaches_following c.in-Some.key _ _ c.send_owed.ensures.moves

pub returns-in-Some-clause-rows : goal.returns-in-Some-clause-rows
returns-in-Some-clause-rows g c = rows_stay _ _ _ c.send_owed.ensures.moves

pub returns-in-Some-clause-sent : goal.returns-in-Some-clause-sent
returns-in-Some-clause-sent g c = λ few before.
    subst (λ (due : List ℕ). AreSentTo (take (c.args.at + 1) due) c.send_owed.new.self.stored
    c.send_owed.new.self.links.items) (sym c.send_owed.ensures.due)
    (sent_up_to c.args.at c.in-Some.key c.args.self.now.due _ _ _ _
    (sym c.get.ensures ∙ c.in-Some.is) c.send_owed.ensures.moves c.send_owed.ensures.journal
    few c.send_owed.ensures.others c.send_owed.ensures.sent before)

pub returns-in-Some-clause-streams : goal.returns-in-Some-clause-streams
returns-in-Some-clause-streams g c = λ few links might.
    continue_to _ c.in-Some.key might links _ _ _ _ c.send_owed.ensures.stream
    c.send_owed.ensures.moves c.send_owed.ensures.journal few c.send_owed.ensures.others

pub returns-in-Some-clause-got : goal.returns-in-Some-clause-got
returns-in-Some-clause-got g c =
    more_followed _ c.in-Some.key _ _ _ _ c.send_owed.ensures.stream c.send_owed.ensures.others
    c.send_owed.ensures.moves
