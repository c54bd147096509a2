use Rattle.std.proofs.lemmas.Str.{IsUtf8-from_ascii}
use Rattle.stamps.proofs.Octets.{stamp_ascii}
use Rattle.stamps.proofs.stamp.Stamp.as_str.Goals as goal

pub unreachable-requires : goal.unreachable-requires
unreachable-requires c =
    (c.in-Err.ensures).cases.0
    (IsUtf8-from_ascii c.self.inside.octets (stamp_ascii c.self.inside.octets c.self.invariant))
