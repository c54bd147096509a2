use Rattle.std.proofs.Common.{ap, ◌∙◌}
use Rattle.std.specs.Prelude.{option_copied}
use Rattle.serde_json.specs.Written.{compact_text, has_float}
use Rattle.site_gaps.proofs.NoFloats.{no_float_station}
use Rattle.site_gaps.proofs.station_json.station_text.Goals as goal

pub returns : goal.returns
returns c =
    c.in_ok-to_string.ensures.text
    (ap has_float c.in_ok-station.ensures
    ∙ no_float_station c.args.book.now c.args.unpaid.now c.args.connections c.args.sessions.now
    c.args.at c.args.opened (option_copied c.args.seal) (option_copied c.args.tally) (option_copied c.args.name))
    ∙ ap compact_text c.in_ok-station.ensures
