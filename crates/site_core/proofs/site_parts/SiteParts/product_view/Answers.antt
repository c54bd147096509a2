use Rattle.std.proofs.Common.{refl, arith}
use Rattle.written_site.specs.Volumes.{running_volume}
use Rattle.site_core.specs.SiteParts.{site_of}
use Rattle.site_core.proofs.Reports.{IsRest, rest_told}
use Rattle.site_core.proofs.site_parts.SiteParts.product_view.Goals as goal

-- the figures that were read, as the site's rules have them
abbrev rest : (c : goal.After-drawn_volume-adjusted)
    → IsRest c.product_total-metered.result (running_volume (site_of c.args.self.now) c.args.q)
    c.sum-payable.result
    c.sum-locked.result c.sum-cleared.result c.drawn_volume-adjusted.result
rest c =
    rest_told (site_of c.args.self.now) c.args.q c.product_total-metered.result c.sum-payable.result
    c.sum-locked.result c.sum-cleared.result c.drawn_volume-adjusted.result c.requires
    c.product_total-metered.ensures.total c.sum-payable.ensures.value c.sum-locked.ensures.value
    c.sum-cleared.ensures.value c.drawn_volume-adjusted.ensures

pub overflow_sub-result : goal.overflow_sub-result
overflow_sub-result c = let whole = (rest c).whole in omega (arith, whole)

pub overflow_sub-result-2 : goal.overflow_sub-result-2
overflow_sub-result-2 c = let whole = (rest c).whole in omega (arith, whole)

pub overflow_sub-result-3 : goal.overflow_sub-result-3
overflow_sub-result-3 c = let whole = (rest c).whole in omega (arith, whole)

pub overflow_sub-result-4 : goal.overflow_sub-result-4
overflow_sub-result-4 c = let whole = (rest c).whole in omega (arith, whole)

pub returns : goal.returns
returns c =
    rw (
      (rest c).rest,
      c.product_total-metered.ensures.total,
      c.sum-payable.ensures.value,
      c.sum-locked.ensures.value,
      c.sum-cleared.ensures.value,
      c.drawn_volume-adjusted.ensures,
    ) refl
