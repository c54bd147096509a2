-- Prices stay in range, and no product loses its price.
use Rattle.std.proofs.Common.{◌≡◌, ℕ, ◌==◌, Bool, true, false, List, [], ◌∷◌, Option, Some, None}
use Rattle.std.proofs.Common.{is_some, refl, sym, ap, ◌∙◌}
use Rattle.std.proofs.lemmas.Bool.{and_parts, and_from}
use Rattle.site_base.specs.declared.event.Event.{Event}
use Rattle.site_base.specs.declared.event.Event.TheVariants.{SetPrice}
use Rattle.site_base.specs.declared.amounts.TheConstants.{GREATEST_PRICE}
use Rattle.site_base.specs.declared.refusal.Refusal.{Refusal}
use Rattle.site_base.specs.declared.refusal.Refusal.TheVariants.{BadPrice}
use Rattle.site_base.specs.Checks.{unless}
use Rattle.site_base.specs.Ranges.{is_between}
use Rattle.site_base.specs.Prices.{are_in_range}
use Rattle.site_base.specs.Table.{row_of, with_row}
use Rattle.written_site.specs.SiteState.{SiteState}
use Rattle.written_site.specs.SiteChecks.{pricing}
use Rattle.written_site.specs.SiteStep.{prices_after}
use Rattle.written_site.proofs.SoundTables.{same, row_of-same, row_of-other}

-- a check that refuses nothing holds
pub holds_unless : (b : Bool) (refusal : Refusal) → unless b refusal ≡ None → b ≡ true
holds_unless true refusal passes = refl
holds_unless false refusal passes = cc

-- a price in the place of another
in_range_with : (q m : ℕ) (prices : List (ℕ × ℕ)) → is_between 1 GREATEST_PRICE m ≡ true
    → are_in_range prices ≡ true → are_in_range (with_row q m prices) ≡ true
in_range_with q m [] fits all = refl
in_range_with q m (e ∷ es) fits all = by_test (e.0 == q) refl (in_range_with q m es fits parts.1)
  where
    parts : (is_between 1 GREATEST_PRICE e.1 ≡ true) × (are_in_range es ≡ true)
    parts = and_parts (is_between 1 GREATEST_PRICE e.1) (are_in_range es) all

    by_test : (b : Bool) → (e.0 == q) ≡ b → are_in_range (with_row q m es) ≡ true
        → are_in_range (with_row q m (e ∷ es)) ≡ true
    by_test true at rest =
        rw at (and_from (is_between 1 GREATEST_PRICE m) (are_in_range es) fits parts.1)
    by_test false at rest =
        rw at (and_from (is_between 1 GREATEST_PRICE e.1) (are_in_range (with_row q m es)) parts.0
        rest)

pub in_range_after : (s : SiteState) (e : Event) → pricing e ≡ None → are_in_range s.prices ≡ true
    → are_in_range (prices_after s e) ≡ true
in_range_after s (SetPrice q price) passes all =
    in_range_with q price s.prices
    (holds_unless (is_between 1 GREATEST_PRICE price) BadPrice passes)
    all
in_range_after s e passes all = all

priced_with : (q r m : ℕ) (prices : List (ℕ × ℕ)) → is_some (row_of r prices) ≡ true
    → is_some (row_of r (with_row q m prices)) ≡ true
priced_with q r m prices there = by_test (r == q) refl
  where
    by_row : (o : Option ℕ) → row_of r prices ≡ o → r ≡ q → is_some o ≡ true
        → is_some (row_of r (with_row q m prices)) ≡ true
    by_row None is one there = cc
    by_row (Some old) is one there =
        let found : row_of q prices ≡ Some old = ap (λ (n : ℕ). row_of n prices) (sym one) ∙ is in
        ap (λ (n : ℕ). is_some (row_of n (with_row q m prices))) one
        ∙ ap is_some (row_of-same q m old prices found)

    by_test : (b : Bool) → (r == q) ≡ b → is_some (row_of r (with_row q m prices)) ≡ true
    by_test true at = by_row (row_of r prices) refl (same r q at) there
    by_test false at = ap is_some (row_of-other q r m prices at) ∙ there

pub priced_after : (s : SiteState) (e : Event) (q : ℕ) → is_some (row_of q s.prices) ≡ true
    → is_some (row_of q (prices_after s e)) ≡ true
priced_after s (SetPrice q price) r there = priced_with q r price s.prices there
priced_after s e r there = there
