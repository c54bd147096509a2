-- Reads can be left out of a legal history.
use Rattle.std.proofs.Common.{◌≡◌, Bool, true, false, List, [], ◌∷◌, Option, Some, None, refl, sym}
use Rattle.std.proofs.Common.{ap, subst, ◌∙◌}
use Rattle.std.specs.Prelude.{not, filter, if◌then◌else◌}
use Rattle.site_base.specs.declared.actor.Actor.{Actor}
use Rattle.site_base.specs.declared.actor.Actor.TheVariants.{Till, Dispenser}
use Rattle.site_base.specs.declared.event.Event.{Event}
use Rattle.site_base.specs.declared.event.Event.TheVariants.{ReadPoint, ReadTransaction}
use Rattle.site_base.specs.declared.event.Event.TheVariants.{ReadProduct, ReadSite}
use Rattle.site_base.specs.declared.refusal.Refusal.{Refusal}
use Rattle.site_base.specs.declared.row.Row.{Row}
use Rattle.site_base.specs.Checks.{value_or}
use Rattle.written_site.specs.SiteChecks.{first_refusal}
use Rattle.written_site.specs.SiteState.{SiteState}
use Rattle.written_site.specs.SiteStep.{accepted_site, site_after}
use Rattle.written_site.specs.SiteRun.{site_of_rows, IsLegal}
use Rattle.kept_history.specs.KeptRows.{is_kept, is_read, kept_rows}
use Rattle.kept_history.specs.Laws.{AreEnough, CanLeaveOutReads}

-- an accepted read leaves the site
read_leaves : (s : SiteState) (a : Actor) (e : Event) → is_read e ≡ true → accepted_site s a e ≡ s
read_leaves s (Till t) (ReadPoint p) is = refl
read_leaves s (Till t) (ReadTransaction p id) is = refl
read_leaves s (Till t) (ReadProduct q) is = refl
read_leaves s (Till t) ReadSite is = refl
read_leaves s (Dispenser d) (ReadPoint p) is = refl
read_leaves s (Dispenser d) (ReadTransaction p id) is = refl
read_leaves s (Dispenser d) (ReadProduct q) is = refl
read_leaves s (Dispenser d) ReadSite is = refl
read_leaves s a e is = cc

-- .. and so does one that is refused
row_leaves : (s : SiteState) (r : Row) → is_kept r ≡ false → site_after s r.actor r.event ≡ s
row_leaves s r left = by_refusal (first_refusal s r.actor r.event)
  where
    by_read : (b : Bool) → not b ≡ false → b ≡ true
    by_read true is = refl
    by_read false is = cc

    by_refusal : (o : Option Refusal) → value_or o (accepted_site s r.actor r.event) s ≡ s
    by_refusal None = read_leaves s r.actor r.event (by_read (is_read r.event) left)
    by_refusal (Some refusal) = refl

pub left_out : CanLeaveOutReads
left_out s [] legal = record { legal = tt; leads = refl }
left_out s (r ∷ rows) legal =
    by_test (is_kept r) refl (left_out (site_after s r.actor r.event) rows legal.1)
  where
    chosen : Bool → List Row
    chosen b = if b then r ∷ kept_rows rows else kept_rows rows

    by_test : (b : Bool) → is_kept r ≡ b → AreEnough (site_after s r.actor r.event) rows
        → AreEnough s (r ∷ rows)
    by_test true is rest = record {
      legal = subst (λ (b : Bool). IsLegal s (chosen b)) (sym is) (legal.0, rest.legal);
      leads = ap (λ (b : Bool). site_of_rows s (chosen b)) is ∙ rest.leads;
    }
    by_test false is rest =
        let same : site_after s r.actor r.event ≡ s = row_leaves s r is in
        record {
          legal = subst (λ (b : Bool). IsLegal s (chosen b)) (sym is)
              (subst (λ (x : SiteState). IsLegal x (kept_rows rows)) same rest.legal);
          leads = ap (λ (b : Bool). site_of_rows s (chosen b)) is
              ∙ ap (λ (x : SiteState). site_of_rows x (kept_rows rows)) (sym same)
              ∙ rest.leads;
        }
