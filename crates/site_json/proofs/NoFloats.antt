-- No number of a site is a float.
use Rattle.std.proofs.Common.{◌≡◌, ◌^◌, ℕ, Bool, true, false, List, [], ◌∷◌, Option, Some, None}
use Rattle.std.proofs.Common.{codes, nat_lt, refl, Ordering, Less, Equal, Greater}
use Rattle.std.proofs.lemmas.Bool.{or_parts}
use Rattle.std.specs.Ordering.{match_ordering, nat_cmp}
use Rattle.std.specs.Cmp.Lexicographic.{slice_cmp}
use Rattle.serde_json.specs.Data.{Data, Members, member, no_members, put}
use Rattle.serde_json.specs.View.{items_of}
use Rattle.serde_json.specs.Written.{has_float, items_have_float, members_have_float}
use Rattle.site_base.specs.declared.config.PointEntry.{PointEntry}
use Rattle.site_base.specs.declared.view.PointView.{PointView}
use Rattle.meters.specs.Nozzles.{Nozzle, last_of, nozzles_of_point}
use Rattle.site_base.specs.declared.config.ProductEntry.{ProductEntry}
use Rattle.shift_ledger.specs.declared.row.ShiftRow.{ShiftRow}
use Rattle.site_core.specs.Accounts.{shift_row}
use Rattle.transaction_buffer.specs.Sales.{till_of}
use Rattle.written_site.specs.ShiftFigures.{product_totals, tills}
use Rattle.written_site.specs.SiteState.{SiteState, open_shift, view_point}
use Rattle.site_book.specs.declared.named_sale.NamedSale.{NamedSale}
use Rattle.site_book.specs.Book.{Book, site_of_book}
use Rattle.site_json.specs.Figures.{figure_if, sum_data, text_if}
use Rattle.site_json.specs.Nozzles.{nozzle_data, nozzles_data}
use Rattle.site_json.specs.Points.{cents_so_far, fuelling_data, left_cents, point_data, points_data}
use Rattle.site_json.specs.Points.{preset_cents, preset_millilitres, product_out}
use Rattle.site_json.specs.declared.sessions.PeerSession.{PeerSession}
use Rattle.site_json.specs.Sessions.{is_connected, session_data}
use Rattle.day_report.specs.Figures.{listed}
use Rattle.site_json.specs.ShiftProducts.{open_products, products_in, shift_product, shift_products}
use Rattle.site_json.specs.SiteData.{site_data, site_members}
use Rattle.site_json.specs.Tills.{till_data}
use Rattle.site_json.specs.Transactions.{cents_of, dues_of, sales_at, transaction_data}
use Rattle.site_json.specs.Transactions.{unpaid_data}
use Rattle.day_report.proofs.NoFloats.{no_float_mapped, no_float_products}

no_float_if : (o : Option ℕ) → has_float (figure_if o) ≡ false
no_float_if None = refl
no_float_if (Some n) = refl

pub no_float_text : (o : Option (List ℕ)) → has_float (text_if o) ≡ false
no_float_text None = refl
no_float_text (Some text) = refl

pub no_float_sum : (n : ℕ) → has_float (sum_data n) ≡ false
no_float_sum n = by (nat_lt n (2 ^ 64)) refl
  where
    by : (b : Bool) → nat_lt n (2 ^ 64) ≡ b → has_float (sum_data n) ≡ false
    by true is = rw is refl
    by false is = rw is refl

no_float_fuelling : (v : PointView) → has_float (fuelling_data v) ≡ false
no_float_fuelling v =
    rw (
      no_float_if (cents_so_far v),
      no_float_if (left_cents v),
      no_float_if v.prepaid,
      no_float_if (preset_cents v.preset),
      no_float_if (preset_millilitres v.preset),
    ) refl

no_float_nozzle : (s : SiteState) (x : Nozzle) → has_float (nozzle_data s x) ≡ false
no_float_nozzle s x = rw (no_float_if (last_of x.point x.number s.nozzles)) refl

no_float_point : (connected : Bool) (s : SiteState) (e : PointEntry) (v : PointView)
    → has_float (point_data connected (nozzles_data s e) e v) ≡ false
no_float_point connected s e v =
    rw (
      no_float_fuelling v,
      no_float_if v.holder,
      no_float_if v.out,
      no_float_mapped (nozzle_data s) (nozzles_of_point e) (no_float_nozzle s),
      no_float_if (product_out e.nozzles v.out),
    ) refl

no_float_points : (s : SiteState) (xs : List PeerSession) (es : List PointEntry)
    → items_have_float (items_of (points_data s xs es)) ≡ false
no_float_points s xs [] = refl
no_float_points s xs (e ∷ es) = by (view_point s e.number) refl (no_float_points s xs es)
  where
    by : (o : Option PointView) → view_point s e.number ≡ o
        → items_have_float (items_of (points_data s xs es)) ≡ false
        → items_have_float (items_of (points_data s xs (e ∷ es))) ≡ false
    by None is rest = rw is rest
    by (Some v) is rest =
        rw is (rw (no_float_point (is_connected xs e.number) s e v) rest)

pub no_float_shift_products : (row : ShiftRow) (es : List ProductEntry)
    → items_have_float (items_of (shift_products row es)) ≡ false
no_float_shift_products row es = no_float_mapped (shift_product row) es (λ e. refl)

no_float_shift : (row : Option ShiftRow) (es : List ProductEntry)
    → items_have_float (items_of (products_in row es)) ≡ false
no_float_shift None es = refl
no_float_shift (Some row) es = no_float_shift_products row es

no_float_session : (x : PeerSession) → has_float (session_data x) ≡ false
no_float_session x = rw (no_float_text x.since) refl

no_float_transaction : (x : NamedSale) → has_float (transaction_data x) ≡ false
no_float_transaction x =
    rw (no_float_if x.sale.prepaid, no_float_if (till_of x.sale.standing)) refl

-- a member more
pub no_float_put : (k : List ℕ) (d : Data) (ms : Members) → has_float d ≡ false
    → members_have_float ms ≡ false → members_have_float (put k d ms) ≡ false
no_float_put k d no_members plain none = rw plain refl
no_float_put k d (member l e ms) plain none =
    let parts = or_parts (has_float e) (members_have_float ms) none in
    by (slice_cmp nat_cmp k l) parts.0 parts.1 (no_float_put k d ms plain parts.1)
  where
    by : (o : Ordering) → has_float e ≡ false → members_have_float ms ≡ false
        → members_have_float (put k d ms) ≡ false
        → members_have_float (match_ordering o (member k d (member l e ms)) (member l d ms)
        (member l e (put k d ms))) ≡ false
    by Less first rest behind = rw (plain, first, rest) refl
    by Equal first rest behind = rw (plain, rest) refl
    by Greater first rest behind = rw (first, behind) refl

no_float_figures : (b : Book) (unpaid : List NamedSale) (connections : ℕ)
    (sessions : List PeerSession) (at opened seal : Option (List ℕ))
    → members_have_float (site_members b unpaid connections sessions at opened seal) ≡ false
no_float_figures b unpaid connections sessions at opened seal =
    let s : SiteState = site_of_book b in
    rw (
      no_float_text at,
      no_float_text opened,
      no_float_text seal,
      no_float_points s sessions b.config.points,
      no_float_products b.config.products (product_totals s),
      no_float_mapped session_data sessions no_float_session,
      no_float_mapped (till_data s) tills (λ t. refl),
      no_float_mapped transaction_data unpaid no_float_transaction,
      no_float_sum (cents_of unpaid),
    ) refl

pub no_float_site : (b : Book) (unpaid : List NamedSale) (connections : ℕ)
    (sessions : List PeerSession) (at opened seal : Option (List ℕ))
    → has_float (site_data b unpaid connections sessions at opened seal) ≡ false
no_float_site b unpaid connections sessions at opened seal =
    let s : SiteState = site_of_book b in
    let ms : Members = site_members b unpaid connections sessions at opened seal in
    let shift : Data = listed (open_products s b.config.products) in
    no_float_put (codes "due cents") (sum_data (dues_of unpaid))
    (put (codes "shift products") shift ms) (no_float_sum (dues_of unpaid))
    (no_float_put (codes "shift products") shift ms
    (no_float_shift (shift_row (open_shift s) s.sales s.drawn) b.config.products)
    (no_float_figures b unpaid connections sessions at opened seal))

pub no_float_unpaid : (point : Option ℕ) (unpaid : List NamedSale)
    → has_float (unpaid_data point unpaid) ≡ false
no_float_unpaid point unpaid =
    rw (no_float_mapped transaction_data (sales_at point unpaid) no_float_transaction) refl
