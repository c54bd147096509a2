-- What no accepted event changes no run changes.
use Rattle.std.proofs.Common.{◌≡◌, List, [], ◌∷◌, Option, Some, None, refl, ◌∙◌}
use Rattle.site_base.specs.declared.actor.Actor.{Actor}
use Rattle.site_base.specs.declared.event.Event.{Event}
use Rattle.site_base.specs.declared.refusal.Refusal.{Refusal}
use Rattle.site_base.specs.declared.row.Row.{Row}
use Rattle.site_base.specs.Checks.{value_or}
use Rattle.written_site.specs.SiteState.{SiteState}
use Rattle.written_site.specs.SiteChecks.{first_refusal}
use Rattle.written_site.specs.SiteStep.{accepted_site, site_after}
use Rattle.written_site.specs.SiteRun.{site_of_rows}

abbrev pub IsKept : {A : Type 0} → (SiteState → A) → Type 0
IsKept kept = (s : SiteState) (a : Actor) (e : Event) → kept (accepted_site s a e) ≡ kept s

step_keeps : {A : Type 0} (kept : SiteState → A) → IsKept kept → (s : SiteState) (a : Actor)
    (e : Event) → kept (site_after s a e) ≡ kept s
step_keeps kept keeps s a e = by_refusal (first_refusal s a e)
  where
    by_refusal : (o : Option Refusal) → kept (value_or o (accepted_site s a e) s) ≡ kept s
    by_refusal None = keeps s a e
    by_refusal (Some refusal) = refl

pub rows_keep : {A : Type 0} (kept : SiteState → A) → IsKept kept → (s : SiteState)
    (rows : List Row) → kept (site_of_rows s rows) ≡ kept s
rows_keep kept keeps s [] = refl
rows_keep kept keeps s (r ∷ rows) =
    rows_keep kept keeps (site_after s r.actor r.event) rows
    ∙ step_keeps kept keeps s r.actor r.event
