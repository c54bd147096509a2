-- No number of a station is a float.
use Rattle.std.proofs.Common.{◌≡◌, ℕ, ◌+◌, Bool, true, false, List, [], ◌∷◌, Option, Some, None}
use Rattle.std.proofs.Common.{codes, nat_lt, refl}
use Rattle.serde_json.specs.Data.{Data, Members, put}
use Rattle.serde_json.specs.View.{items_of}
use Rattle.serde_json.specs.Written.{has_float, items_have_float}
use Rattle.day_report.proofs.NoFloats.{no_float_mapped}
use Rattle.site_book.specs.declared.named_sale.NamedSale.{NamedSale}
use Rattle.site_base.specs.declared.config.PointEntry.{PointEntry}
use Rattle.site_base.specs.declared.view.PointView.{PointView}
use Rattle.written_site.specs.SiteState.{SiteState, view_point}
use Rattle.site_book.specs.Book.{Book, site_of_book}
use Rattle.site_json.specs.declared.sessions.PeerSession.{PeerSession}
use Rattle.site_json.specs.SiteData.{site_data}
use Rattle.site_json.specs.Figures.{text_if}
use Rattle.site_json.proofs.NoFloats.{no_float_put, no_float_site, no_float_text}
use Rattle.row_tally.specs.declared.meter_jumps.MeterJumps.{MeterJumps}
use Rattle.row_tally.specs.declared.refused_run.RefusedRun.{RefusedRun}
use Rattle.row_tally.specs.declared.sold_at.SoldAt.{SoldAt}
use Rattle.row_tally.specs.Moments.{Moments, last_call}
use Rattle.row_tally.specs.Tally.{Tally}
use Rattle.site_gaps.specs.GapData.{gap_data, gaps_data}
use Rattle.site_gaps.specs.JumpData.{jumps_data, jumps_from}
use Rattle.site_gaps.specs.MomentData.{calling_data, calls_data, is_calling, sale_data, sold_data}
use Rattle.site_json.specs.SiteData.{members_of}
use Rattle.site_gaps.specs.StationData.{station_data}

no_float_gap : (x : RefusedRun) → has_float (gap_data x) ≡ false
no_float_gap x = rw (no_float_text x.first.at) refl

no_float_gaps : (tally : Option Tally) → has_float (gaps_data tally) ≡ false
no_float_gaps None = refl
no_float_gaps (Some t) = no_float_mapped gap_data t.runs no_float_gap

no_float_jumps_from : (cell : ℕ) (xs : List MeterJumps)
    → items_have_float (items_of (jumps_from cell xs)) ≡ false
no_float_jumps_from cell [] = refl
no_float_jumps_from cell (x ∷ xs) =
    by_test (nat_lt 0 x.replaced) refl (no_float_jumps_from (cell + 1) xs)
  where
    by_test : (b : Bool) → nat_lt 0 x.replaced ≡ b
        → items_have_float (items_of (jumps_from (cell + 1) xs)) ≡ false
        → items_have_float (items_of (jumps_from cell (x ∷ xs))) ≡ false
    by_test true is rest = rw is rest
    by_test false is rest = rw is rest

no_float_jumps : (tally : Option Tally) → has_float (jumps_data tally) ≡ false
no_float_jumps None = refl
no_float_jumps (Some t) = no_float_jumps_from 0 t.jumps

no_float_calls : (s : SiteState) (m : Moments) (es : List PointEntry)
    → items_have_float (items_of (calls_data s m es)) ≡ false
no_float_calls s m [] = refl
no_float_calls s m (e ∷ es) = by (view_point s e.number) refl (no_float_calls s m es)
  where
    by_test : (v : PointView) (b : Bool) → view_point s e.number ≡ Some v → is_calling v.state ≡ b
        → items_have_float (items_of (calls_data s m es)) ≡ false
        → items_have_float (items_of (calls_data s m (e ∷ es))) ≡ false
    by_test v true is calls rest = rw (is, calls, no_float_text (last_call e.number m)) rest
    by_test v false is calls rest = rw (is, calls) rest

    by : (o : Option PointView) → view_point s e.number ≡ o
        → items_have_float (items_of (calls_data s m es)) ≡ false
        → items_have_float (items_of (calls_data s m (e ∷ es))) ≡ false
    by None is rest = rw is rest
    by (Some v) is rest = by_test v (is_calling v.state) is refl rest

no_float_calling : (b : Book) (tally : Option Tally) → has_float (calling_data b tally) ≡ false
no_float_calling b None = refl
no_float_calling b (Some t) = no_float_calls (site_of_book b) t.moments b.config.points

no_float_sale : (x : SoldAt) → has_float (sale_data x) ≡ false
no_float_sale x = rw (no_float_text x.at) refl

no_float_sold : (tally : Option Tally) → has_float (sold_data tally) ≡ false
no_float_sold None = refl
no_float_sold (Some t) = no_float_mapped sale_data t.moments.sold no_float_sale

pub no_float_station : (b : Book) (unpaid : List NamedSale) (connections : ℕ)
    (sessions : List PeerSession) (at opened seal : Option (List ℕ)) (tally : Option Tally)
    (name : Option (List ℕ))
    → has_float (station_data b unpaid connections sessions at opened seal tally name) ≡ false
no_float_station b unpaid connections sessions at opened seal tally name =
    let site : Data = site_data b unpaid connections sessions at opened seal in
    let calling : Members = put (codes "calling") (calling_data b tally) (members_of site) in
    let gaps : Members = put (codes "gaps") (gaps_data tally) calling in
    let jumps : Members = put (codes "jumps") (jumps_data tally) gaps in
    let named : Members = put (codes "name") (text_if name) jumps in
    no_float_put (codes "sold") (sold_data tally) named (no_float_sold tally)
    (no_float_put (codes "name") (text_if name) jumps (no_float_text name)
    (no_float_put (codes "jumps") (jumps_data tally) gaps (no_float_jumps tally)
    (no_float_put (codes "gaps") (gaps_data tally) calling (no_float_gaps tally)
    (no_float_put (codes "calling") (calling_data b tally) (members_of site)
    (no_float_calling b tally)
    (no_float_site b unpaid connections sessions at opened seal)))))
