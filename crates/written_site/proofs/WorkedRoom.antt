-- A sound site at which a point sells, and one at which it draws: there the laws of volumes and of
-- room have their premises met, and speak of these figures.
use Rattle.std.proofs.Common.{◌≡◌, ℕ, ◌+◌, ◌^◌, ◌<◌, List, [], ◌∷◌, None, Ok, refl, subst, arith}
use Rattle.site_base.specs.declared.actor.Actor.TheVariants.{Dispenser}
use Rattle.site_base.specs.declared.answer.Answer.TheVariants.{Done, Start, Flowed}
use Rattle.site_base.specs.declared.event.Event.{Event}
use Rattle.site_base.specs.declared.event.Event.TheVariants.{SignOn, Open, TestRelease, Lift, Flow}
use Rattle.site_base.specs.declared.event.Event.TheVariants.{HangUp, Offline}
use Rattle.site_base.specs.declared.row.Row.{Row}
use Rattle.site_base.specs.declared.state.Preset.TheVariants.{Unset}
use Rattle.fuelling_point.specs.declared.event.PointEvent.TheVariants as points
use Rattle.written_site.specs.SiteState.{SiteState, opening}
use Rattle.written_site.specs.SiteChecks.{own_event}
use Rattle.written_site.specs.SiteRun.{events_of, replies_of}
use Rattle.written_site.specs.Sound.{IsFit, Sound}
use Rattle.written_site.specs.SoundRuns.{AreInRange}
use Rattle.written_site.specs.SoundSteps.{IsTaken, FitsOwn, IsSaleFit, IsDrawFit, AddUp}
use Rattle.written_site.specs.SoundSteps.{MovesVolumes, MovesRunning, growth_at, product_at}
use Rattle.written_site.specs.SoundSteps.{sold_at, drawn_at}
use Rattle.written_site.specs.Volumes.{running_volume}
use Rattle.written_site.proofs.SoundRuns.{runs_stay_sound}
use Rattle.written_site.proofs.SoundUses.{volumes_add_up, finds_room}
use Rattle.written_site.proofs.WorkedRows.{known_site, flowing, t1, d1}
use Rattle.written_site.proofs.WorkedReplies.{replies_on, site_on, leads_on, kit}

known_is_fit : IsFit known_site
known_is_fit = record { site = refl; products = refl; prices = refl; readings = refl }

-- the site that rows tell of, which are told the site's replies, is sound
sound_on : (rows : List Row) → replies_on (opening known_site) rows ≡ replies_of rows
    → AreInRange (events_of rows) → Sound (site_on (opening known_site) rows)
sound_on rows told range =
    subst Sound (leads_on (opening known_site) rows told)
    (runs_stay_sound known_site (events_of rows) known_is_fit range)

-- 5,000 ml of diesel have flowed at point 1
abbrev under_way : SiteState
under_way = site_on (opening known_site) flowing

under_way_sound : Sound under_way
under_way_sound =
    sound_on flowing (simp kit) (tt, (tt, (tt, (omega arith, (omega arith, tt)))))

-- the nozzle is hung up at 5,040 ml
abbrev hung_up : Event
hung_up = HangUp 1 1 5040

hung_up_is_taken : IsTaken under_way hung_up
hung_up_is_taken = record { names = refl; takes = refl; reads = refl; range = omega arith }

sells : IsSaleFit under_way hung_up 1 1 5040 1500 None
sells =
    finds_room.sells under_way hung_up 1 (points.HangUp 1 40) 1 5040 1500 None under_way_sound
    hung_up_is_taken refl refl

-- 40 ml more have flowed, and 5,040 ml of diesel are sold, of which 5,000 were under way
grown : growth_at under_way hung_up ≡ 40
grown = refl

of_diesel : product_at under_way hung_up ≡ 1
of_diesel = refl

running_before : running_volume under_way 1 ≡ 5000
running_before = refl

sold : sold_at under_way hung_up ≡ 5040
sold = refl

-- so the laws of volumes speak of it
diesel_adds_up : AddUp under_way 1
diesel_adds_up = volumes_add_up.adds_up under_way 1 under_way_sound

moves_when_sold : (w : ℕ → ℕ) → MovesVolumes w under_way (Dispenser 1) hung_up
moves_when_sold w =
    volumes_add_up.moves w under_way (Dispenser 1) hung_up under_way_sound hung_up_is_taken

runs_when_sold : MovesRunning under_way hung_up 1
runs_when_sold = volumes_add_up.runs under_way hung_up 1 under_way_sound hung_up_is_taken

grows : FitsOwn under_way (own_event under_way hung_up)
grows = finds_room.grows under_way hung_up under_way_sound hung_up_is_taken

has_room : running_volume under_way 1 + 40 < 2 ^ 64
has_room = finds_room.runs under_way hung_up under_way_sound hung_up_is_taken

-- 5,000 ml of diesel have flowed at point 1 in a test
abbrev testing : List Row
testing =
    t1 SignOn (Ok Done)
    ∷ t1 (Open 1) (Ok Done)
    ∷ t1 (TestRelease 1) (Ok Done)
    ∷ d1 (Lift 1 1 0) (Ok (Start Unset 1500))
    ∷ d1 (Flow 1 1 5000) (Ok (Flowed 5000))
    ∷ []

abbrev under_test : SiteState
under_test = site_on (opening known_site) testing

under_test_sound : Sound under_test
under_test_sound =
    sound_on testing (simp kit) (tt, (tt, (tt, (omega arith, (omega arith, tt)))))

-- the dispenser goes offline
gone_is_taken : IsTaken under_test (Offline 1)
gone_is_taken = record { names = refl; takes = refl; reads = refl; range = tt }

draws : IsDrawFit under_test (Offline 1) 1 1 5000
draws =
    finds_room.draws under_test (Offline 1) 1 points.Offline 1 5000 under_test_sound gone_is_taken
    refl refl

drawn : drawn_at under_test (Offline 1) ≡ 5000
drawn = refl

moves_when_drawn : (w : ℕ → ℕ) → MovesVolumes w under_test (Dispenser 1) (Offline 1)
moves_when_drawn w =
    volumes_add_up.moves w under_test (Dispenser 1) (Offline 1) under_test_sound gone_is_taken
