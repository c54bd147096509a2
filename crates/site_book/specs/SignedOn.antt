-- How many tills are signed on.
use Rattle.std.specs.Prelude.{◌≡◌, ℕ, ◌+◌, ◌-◌, ◌≤◌, true, Option, Some, None}
use Rattle.std.specs.FinSet as set
use Rattle.site_base.specs.declared.actor.Actor.{Actor}
use Rattle.site_base.specs.declared.actor.Actor.TheVariants.{Till, Dispenser}
use Rattle.site_base.specs.declared.limits.TheConstants.{TILLS}
use Rattle.site_base.specs.declared.signing.SignChange.{SignChange}
use Rattle.site_base.specs.declared.signing.SignChange.TheVariants.{On, Off}
use Rattle.written_site.specs.SiteState.{SiteState, is_signed_on}

-- how many tills are signed on
abbrev pub tills_on : SiteState → ℕ
tills_on s = set.len s.signed_on

-- the same after such a change, where it was so many before
abbrev pub tills_with : Option SignChange → ℕ → ℕ
tills_with (Some (On t)) on = on + 1
tills_with (Some (Off t)) on = on - 1
tills_with None on = on

-- a till that acts is one that may be
abbrev pub IsTillActor : Actor → Type 0
IsTillActor (Till t) = (1 ≤ t) × (t ≤ TILLS)
IsTillActor (Dispenser d) = Unit {0}

-- only tills that may be are signed on
abbrev pub AreTills : SiteState → Type 0
AreTills s = (t : ℕ) → is_signed_on s t ≡ true → (1 ≤ t) × (t ≤ TILLS)
