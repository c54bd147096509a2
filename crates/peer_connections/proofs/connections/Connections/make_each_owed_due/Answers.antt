use Rattle.std.proofs.Common.{ap, arith, ◌∙◌, rules, ◌≡◌, ◌≤◌, ℕ, None}
use Rattle.journal.specs.Stored.{StoredState}
use Rattle.station.specs.declared.sizes.TheConstants.{PEERS}
use Rattle.station.specs.Peers.{peer_at}
use Rattle.peer_connections.proofs.Dues.{all_due, due_up_to, due_up_to_last, stay_then}
use Rattle.peer_connections.proofs.connections.Connections.make_each_owed_due.Goals as goal

-- no peer behind those is owed octets
pub returns-in_default-clause-owed : goal.returns-in_default-clause-owed
returns-in_default-clause-owed g c =
    all_due _ c.loop.self.stored.station _ _ c.loop.invariant.owed (search rules)

pub loop-preserved : goal.loop-preserved
loop-preserved g c = record {
  stored = c.make_one_owed_due.ensures.stored ∙ c.loop.invariant.stored;
  links = c.make_one_owed_due.ensures.links ∙ c.loop.invariant.links;
  due = stay_then _ _ _ c.loop.invariant.due c.make_one_owed_due.ensures.due;
  owed = due_up_to _ _ c.loop.self.stored.station c.make_one_owed_due.new.self.stored.station _ _
      _ _ (search rules)
      (ap (λ (s : StoredState). s.station) c.make_one_owed_due.ensures.stored)
      (ap (λ x. x.items) c.make_one_owed_due.ensures.links) c.make_one_owed_due.ensures.due
      c.loop.invariant.owed c.make_one_owed_due.ensures.owed;
  far = search rules;
}

-- all keys were looked at
pub returns-clause-owed : goal.returns-clause-owed
returns-clause-owed g c =
    let nobody : (k : ℕ) → PEERS ≤ k → peer_at c.loop.self.stored.station.peers k ≡ None =
    λ k above.
    ap (λ (s : StoredState). peer_at s.station.peers k) c.loop.invariant.stored
    ∙ c.book.ensures.keys k above in
    due_up_to_last _ c.loop.self.stored.station _ _
    (omega (arith, c.loop.invariant.far, c.loop-test.false)) nobody
    c.loop.invariant.owed
