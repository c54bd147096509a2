use Rattle.std.proofs.Common.{◌≡◌, ◌≤◌, take}
use Rattle.device_map.specs.declared.ids.TheConstants.{DISPENSER_SUBNET}
use Rattle.site_metrics.specs.Metrics.{sessions_of}
use Rattle.site_metrics.proofs.figures.count_dispensers.Given as goal

abbrev pub invariant-loop-session : goal.invariant-loop-session
invariant-loop-session l = record {
  count : l.count ≡ sessions_of DISPENSER_SUBNET (take l.session-index l.sessions);
  few : l.count ≤ l.session-index;
}
