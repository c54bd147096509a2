use Rattle.std.proofs.Common.{◌∙◌, ap, refl, sym}
use Rattle.serde_json.specs.Data.{Data, object}
use Rattle.site_json.specs.SiteData.{members_of}
use Rattle.site_json.proofs.whole_site.site_value.Goals as goal

pub with_dues-requires : goal.with_dues-requires
with_dues-requires c =
    c.in_ok-site.ensures ∙ sym (ap (λ (d : Data). object (members_of d)) c.in_ok-site.ensures)

pub returns : goal.returns
returns c =
    c.in_ok-with_dues.ensures
    ∙ rw (
      c.in_ok-site.ensures,
      c.in_ok-at.ensures,
      c.in_ok-opened.ensures,
      c.in_ok-seal.ensures,
      c.in_ok-points.ensures,
      c.in_ok-products.ensures,
      c.in_ok-sessions.ensures,
      c.in_ok-shift.ensures,
      c.in_ok-tills.ensures,
      c.in_ok-transactions.ensures,
      c.sum_value-unpaid.ensures,
      c.cents_of.ensures,
      c.sum_value-due.ensures,
      c.dues_of.ensures,
    ) refl
