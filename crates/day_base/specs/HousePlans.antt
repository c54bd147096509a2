-- What the words of a command line ask a station to do by itself.
use Rattle.std.specs.Prelude.{ℕ, List, ◌≡◌, Option, Some, None, ⊤}
use Rattle.site_base.specs.declared.limits.TheConstants.{TILLS}
use Rattle.day_base.specs.declared.house_plan.HousePlan.{HousePlan}
use Rattle.day_base.specs.declared.house_plan.TheConstants.{LEAST_RELEASE_SECONDS}
use Rattle.day_base.specs.declared.house_plan.TheConstants.{MOST_LOST_SECONDS, MOST_RELEASE_SECONDS}
use Rattle.day_base.specs.declared.house_plan.TheConstants.{USUAL_LOST_SECONDS}
use Rattle.day_base.specs.declared.house_plan.TheConstants.{USUAL_RELEASE_SECONDS}
use Rattle.day_base.specs.declared.options.OptionFault.{OptionFault}
use Rattle.day_base.specs.declared.options.OptionFault.TheVariants.{House, Lost, ReleaseAge}
use Rattle.day_base.specs.Plans.{TellsNumber}

-- the number of a till; without a word there is no house till
abbrev pub TellsHouse : Option (List ℕ) → Option ℕ → Type 0
TellsHouse None None = ⊤
TellsHouse (Some word) (Some n) = TellsNumber 1 TILLS word n
TellsHouse word n = ⊥

-- after how many seconds a release ends that nobody used, 10 to 3,600; without a word 120
abbrev pub TellsReleaseAge : Option (List ℕ) → ℕ → Type 0
TellsReleaseAge None n = n ≡ USUAL_RELEASE_SECONDS
TellsReleaseAge (Some word) n = TellsNumber LEAST_RELEASE_SECONDS MOST_RELEASE_SECONDS word n

-- after how many seconds a dispenser is lost that is gone, at most 86,400, 0 for never; without a
-- word 60
abbrev pub TellsLost : Option (List ℕ) → ℕ → Type 0
TellsLost None n = n ≡ USUAL_LOST_SECONDS
TellsLost (Some word) n = TellsNumber 0 MOST_LOST_SECONDS word n

-- each of the words tells its part of the plan
abbrev pub TellsHousePlan : Option (List ℕ) → Option (List ℕ) → Option (List ℕ) → HousePlan → Type 0
TellsHousePlan house age lost plan =
    TellsHouse house plan.house × TellsReleaseAge age plan.release_seconds
    × TellsLost lost plan.lost_seconds

-- the first word that tells no number in its range
abbrev pub IsFirstHouseFault : Option (List ℕ) → Option (List ℕ) → Option (List ℕ) → OptionFault
    → Type 0
IsFirstHouseFault house age lost House = (n : Option ℕ) → ¬ TellsHouse house n
IsFirstHouseFault house age lost ReleaseAge =
    ((n : Option ℕ) × TellsHouse house n) × ((n : ℕ) → ¬ TellsReleaseAge age n)
IsFirstHouseFault house age lost Lost =
    ((n : Option ℕ) × TellsHouse house n) × ((n : ℕ) × TellsReleaseAge age n)
    × ((n : ℕ) → ¬ TellsLost lost n)
IsFirstHouseFault house age lost fault = ⊥
