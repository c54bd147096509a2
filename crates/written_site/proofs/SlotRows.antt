-- A word of the site that is a slot of its histories: what is owed for one row gives both halves of
-- its law.
use Rattle.std.proofs.Common.{◌≡◌, ◌≢◌, ◌↔◌, ℕ, Bool, true, false, List, [], ◌∷◌, ◌++◌, Option}
use Rattle.std.proofs.Common.{Some, None, refl, sym, ap, subst, ◌∙◌}
use Rattle.std.specs.List.{list_any}
use Rattle.site_base.specs.declared.row.Row.{Row}
use Rattle.site_base.specs.Configured.{Configured}
use Rattle.written_site.specs.SiteState.{SiteState, opening}
use Rattle.written_site.specs.SiteStep.{reply_to, site_after}
use Rattle.written_site.specs.SiteRun.{site_of_rows, IsLegal}
use Rattle.written_site.specs.Histories.{Moment, moments_after, moments_of}
use Rattle.written_site.specs.Slots.{IsLastTake}
use Rattle.written_site.proofs.Slots.{next, MayTake, standing, Fair, end_between, last_take}

-- what a row does to a slot: the till that takes it, and whose taking it ends
pub record Does (old new : Option ℕ) (take : Option ℕ) (ends : ℕ → Bool) : Type 0 where
  pub holder : new ≡ next take old ends
  pub may : MayTake take old

-- the moment of a row at this site
abbrev pub moment_at : List Row → SiteState → Row → Moment
moment_at earlier s r = record { earlier = earlier; before = s; row = r }

-- the facts of rows and site are kept, and each row does to the slot what it says
pub record IsSlot (word : SiteState → Option ℕ) (takes : Moment → Option ℕ)
    (ends : ℕ → Moment → Bool) (Known : List Row → SiteState → Type 0) : Type 0 where
  pub keeps : (earlier : List Row) (s : SiteState) (r : Row) → Known earlier s
      → r.reply ≡ reply_to s r.actor r.event
      → Known (earlier ++ r ∷ []) (site_after s r.actor r.event)
  pub does : (earlier : List Row) (s : SiteState) (r : Row) → Known earlier s
      → r.reply ≡ reply_to s r.actor r.event
      → Does (word s) (word (site_after s r.actor r.event)) (takes (moment_at earlier s r))
      (λ t. ends t (moment_at earlier s r))

module _ {word : SiteState → Option ℕ} {takes : Moment → Option ℕ} {ends : ℕ → Moment → Bool}
    {Known : List Row → SiteState → Type 0} (slot : IsSlot word takes ends Known) where
  fair_rows : (earlier : List Row) (s : SiteState) (rs : List Row) → Known earlier s → IsLegal s rs
      → Fair takes ends (word s) (moments_after earlier s rs)
  fair_rows earlier s [] known legal = tt
  fair_rows earlier s (r ∷ rs) known legal =
      let next_site : SiteState = site_after s r.actor r.event in
      let later : List Row = earlier ++ r ∷ [] in
      let done = slot.does earlier s r known legal.0 in (
        done.may,
        subst (λ holder. Fair takes ends holder (moments_after later next_site rs)) done.holder
            (fair_rows later next_site rs (slot.keeps earlier s r known legal.0) legal.1),
      )

  stands_rows : (earlier : List Row) (s : SiteState) (rs : List Row) → Known earlier s
      → IsLegal s rs
      → standing takes ends (word s) (moments_after earlier s rs) ≡ word (site_of_rows s rs)
  stands_rows earlier s [] known legal = refl
  stands_rows earlier s (r ∷ rs) known legal =
      let next_site : SiteState = site_after s r.actor r.event in
      let later : List Row = earlier ++ r ∷ [] in
      let done = slot.does earlier s r known legal.0 in
      ap (λ holder. standing takes ends holder (moments_after later next_site rs)) (sym done.holder)
      ∙ stands_rows later next_site rs (slot.keeps earlier s r known legal.0) legal.1

  -- between takes for two different ones stands an end of the first one's
  pub slot_between : (c : Configured) (rows : List Row) → Known [] (opening c)
      → IsLegal (opening c) rows
      → (t u : ℕ) (before between since : List Moment) (first second : Moment)
      → moments_of c rows ≡ before ++ first ∷ between ++ second ∷ since
      → takes first ≡ Some t → takes second ≡ Some u → t ≢ u
      → list_any (ends t) between ≡ true
  slot_between c rows known legal t u before between since first second parts taken taken' differ =
      end_between takes ends _ t u before first between second since
      (subst (Fair takes ends (word (opening c))) parts (fair_rows [] (opening c) rows known legal))
      taken taken' differ

  -- it stands for t at the end exactly where some row took it for t and none has ended that since
  pub slot_unended : (c : Configured) (rows : List Row) → Known [] (opening c)
      → word (opening c) ≡ None → IsLegal (opening c) rows → (t : ℕ)
      → (word (site_of_rows (opening c) rows) ≡ Some t)
      ↔ IsLastTake takes ends t (moments_of c rows)
  slot_unended c rows known free legal t =
      let moments = moments_of c rows in
      let fair = subst (λ holder. Fair takes ends holder moments) free
      (fair_rows [] (opening c) rows known legal) in
      let stands = ap (λ holder. standing takes ends holder moments) (sym free)
      ∙ stands_rows [] (opening c) rows known legal in
      let last = last_take takes ends t moments fair in
      (λ is. last.0 (stands ∙ is), λ taken. sym stands ∙ last.1 taken)

-- nothing is done
pub idle : (holder : Option ℕ) → Does holder holder None (λ t. false)
idle None = record { holder = refl; may = tt }
idle (Some t) = record { holder = refl; may = tt }

-- a slot that is new, and taken or not
pub begins : (o : Option ℕ) → Does None o o (λ t. false)
begins None = record { holder = refl; may = tt }
begins (Some t) = record { holder = refl; may = tt }

-- a slot that is given back, whoever had it
pub given_back : (holder : Option ℕ) → Does holder None None (λ u. true)
given_back None = record { holder = refl; may = tt }
given_back (Some u) = record { holder = refl; may = tt }
