-- An event that isn't refused has passed each check.
use Rattle.std.proofs.Common.{◌≡◌, Option, Some, None, refl}
use Rattle.site_base.specs.declared.actor.Actor.{Actor}
use Rattle.site_base.specs.declared.event.Event.{Event}
use Rattle.site_base.specs.declared.refusal.Refusal.{Refusal}
use Rattle.site_base.specs.Checks.{◌or_else◌}
use Rattle.written_site.specs.SiteState.{SiteState}
use Rattle.written_site.specs.SiteChecks.{Passed, first_refusal, may_ask, can_do, signing, numbers}
use Rattle.written_site.specs.SiteChecks.{own_kind, managing, pricing, presets, not_held, at_point}
use Rattle.written_site.specs.SiteChecks.{is_held, sale_room, metering, at_sale, closing}

-- two checks one after the other that refuse nothing: neither does
pub both_pass : (a b : Option Refusal) → a or_else b ≡ None → (a ≡ None) × (b ≡ None)
both_pass None b is = (refl, is)
both_pass (Some refusal) b is = cc

pub passed : (s : SiteState) (a : Actor) (e : Event) → first_refusal s a e ≡ None → Passed s a e
passed s a e accepted =
    let halves = both_pass (may_ask s a e) (can_do s a e) accepted in
    let to_names = both_pass (signing s a e) _ halves.0 in
    let to_asks = both_pass (numbers s e) _ to_names.1 in
    let to_manages = both_pass (own_kind a e) _ to_asks.1 in
    let to_prices = both_pass (managing s a e) _ to_manages.1 in
    let to_limits = both_pass (pricing e) _ to_prices.1 in
    let to_free = both_pass (presets e) (not_held s a e) to_limits.1 in
    let to_holds = both_pass (at_point s e) _ halves.1 in
    let to_sells = both_pass (is_held s e) _ to_holds.1 in
    let to_reads = both_pass (sale_room s e) _ to_sells.1 in
    let to_pays = both_pass (metering s e) _ to_reads.1 in
    let to_closes = both_pass (at_sale s a e) (closing s e) to_pays.1 in
    record {
      signs = to_names.0;
      names = to_asks.0;
      asks = to_manages.0;
      manages = to_prices.0;
      prices = to_limits.0;
      limits = to_free.0;
      free = to_free.1;
      takes = to_holds.0;
      holds = to_sells.0;
      sells = to_reads.0;
      reads = to_pays.0;
      pays = to_closes.0;
      closes = to_closes.1;
    }
