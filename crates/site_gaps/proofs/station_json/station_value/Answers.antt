use Rattle.std.proofs.Common.{ap, refl, sym, ◌∙◌}
use Rattle.serde_json.specs.Data.{Data, object}
use Rattle.site_json.specs.SiteData.{members_of}
use Rattle.site_gaps.proofs.station_json.station_value.Goals as goal

pub with_told-requires : goal.with_told-requires
with_told-requires c =
    c.in_ok-site.ensures ∙ sym (ap (λ (d : Data). object (members_of d)) c.in_ok-site.ensures)

pub returns : goal.returns
returns c =
    c.in_ok-with_told.ensures
    ∙ rw (
      c.in_ok-calling.ensures,
      c.in_ok-gaps.ensures,
      c.in_ok-jumps.ensures,
      c.in_ok-name.ensures,
      c.in_ok-sold.ensures,
      c.in_ok-site.ensures,
    ) refl
