use Rattle.std.proofs.Common.{◌∙◌, ◌≤◌, Some, ap, arith, length}
use Rattle.station.specs.declared.sizes.TheConstants.{PEERS}
use Rattle.station.proofs.Peers.{slots_size}
use Rattle.station.proofs.station.Station.arrive_among.Goals as goal

pub invariant_of-self-in-Some : goal.invariant_of-self-in-Some
invariant_of-self-in-Some c =
    let more = c.in_ok-reach-in-Some.ensures in
    let few : length c.reach.new.self ≤ PEERS = more.size c.self.invariant in
    let back =
    ap length c.put.ensures ∙ slots_size c.in-Some.key (Some _) c.reach.new.self more.reached in
    omega (arith, back, few)
