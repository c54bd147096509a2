-- A shift that isn't open yet is empty.
use Rattle.std.proofs.Common.{◌≡◌, ℕ, ◌<◌, ◌==◌, ◌&&◌, Bool, false, cond, List, Option, Some, None}
use Rattle.std.proofs.Common.{is_some, unwrap_or, refl, ap, arith}
use Rattle.std.proofs.lemmas.Bool.Decides.{nat_tests}
use Rattle.site_base.specs.Members.{member}
use Rattle.site_base.proofs.Numbering.{numbered_there}
use Rattle.transaction_buffer.specs.declared.standing.Standing.{Standing}
use Rattle.transaction_buffer.specs.declared.standing.Standing.TheVariants.{Payable, LockedBy}
use Rattle.transaction_buffer.specs.declared.standing.Standing.TheVariants.{ClearedBy}
use Rattle.transaction_buffer.specs.Sales.{Key, Sale, sale_of}
use Rattle.transaction_buffer.specs.Sums.{product_cents, volume_in}
use Rattle.written_site.specs.FigureSteps.{IsEmptyShift}
use Rattle.written_site.specs.ShiftFigures.{is_cleared_by, is_cleared_in, is_clear_of, shift_draws}
use Rattle.written_site.specs.SiteState.{SiteState, nothing_drawn, open_shift}
use Rattle.written_site.specs.Sound.{IsStanding, Sound}
use Rattle.written_site.proofs.BoundedSums.{empty_sum}

-- no sale is cleared in a shift to come
not_cleared : (s : SiteState) (h : ℕ) → open_shift s < h → (y : Standing) → IsStanding s y
    → is_cleared_in h y ≡ false
not_cleared s h later Payable is = refl
not_cleared s h later (LockedBy t) is = refl
not_cleared s h later (ClearedBy t g) is = apart (omega (arith, later, is))
  where
    apart : g < h → (g == h) ≡ false
    apart less = grind (arith, nat_tests)

no_draws : (s : SiteState) (h : ℕ) → open_shift s < h → shift_draws s h ≡ nothing_drawn
no_draws s h later = by_row (member h s.drawn) refl
  where
    by_row : (o : Option (List ℕ)) → member h s.drawn ≡ o
        → unwrap_or o nothing_drawn ≡ nothing_drawn
    by_row None is = refl
    by_row (Some row) is =
        let within = numbered_there h s.drawn (omega (arith, later)) (ap is_some is) in
        absurd (omega (arith, within, later))

pub opens_empty : (s : SiteState) (h : ℕ) → Sound s → open_shift s < h → IsEmptyShift s h
opens_empty s h sound later = record {
  clears = λ t. empty_sum (λ x. cond (is_clear_of h t x) 1 0) s.sales (λ k x is.
      ap (λ (b : Bool). cond (b && is_cleared_by t x.standing) 1 0) (none k x is));
  cents = λ t. empty_sum (λ x. cond (is_clear_of h t x) x.cents 0) s.sales (λ k x is.
      ap (λ (b : Bool). cond (b && is_cleared_by t x.standing) x.cents 0) (none k x is));
  cleared = λ q. empty_sum (λ x. cond (is_cleared_in h x.standing) (volume_in q x) 0) s.sales
      (λ k x is. ap (λ (b : Bool). cond b (volume_in q x) 0) (none k x is));
  product_cents = λ q. empty_sum (λ x. cond (is_cleared_in h x.standing) (product_cents q x) 0)
      s.sales (λ k x is. ap (λ (b : Bool). cond b (product_cents q x) 0) (none k x is));
  draws = no_draws s h later;
}
  where
    none : (k : Key) (x : Sale) → sale_of k s.sales ≡ Some x → is_cleared_in h x.standing ≡ false
    none k x is = not_cleared s h later x.standing (sound.standings k x is)
