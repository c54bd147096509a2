-- What the counter of a desk owes.
use Rattle.std.specs.Prelude.{ℕ, ◌≤◌, ◌&&◌, Bool, nat_le}
use Rattle.site_base.specs.declared.actor.Actor.{Actor}
use Rattle.site_base.specs.declared.actor.Actor.TheVariants.{Till, Dispenser}
use Rattle.site_base.specs.declared.limits.TheConstants.{TILLS}
use Rattle.counter_desk.specs.Shares.{ShareFacts, owes}

-- the share owes the till of this number a sign-off; tills are numbered from 1
abbrev pub is_owed_by : ShareFacts → ℕ → Bool
is_owed_by share t = nat_le 1 t && owes share t

-- a till is one of the site's tills
abbrev pub IsTill : Actor → Type 0
IsTill (Till t) = (1 ≤ t) × (t ≤ TILLS)
IsTill (Dispenser p) = Unit {0}
