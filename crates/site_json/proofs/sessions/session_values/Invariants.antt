use Rattle.std.proofs.Common.{◌≡◌, map, take}
use Rattle.serde_json.specs.View.{view}
use Rattle.site_json.specs.Sessions.{session_data}
use Rattle.site_json.proofs.sessions.session_values.Given as goal

abbrev pub invariant-loop-session : goal.invariant-loop-session
invariant-loop-session l =
    map view l.values.items ≡ map session_data (take l.session-index l.sessions)
