-- The draws of a book, row by row.
use Rattle.std.proofs.Common.{◌≡◌, ℕ, zero, suc, ◌+◌, ◌≤◌, Bool, List, [], ◌∷◌, ◌++◌, length, take}
use Rattle.std.proofs.Common.{slice_get, Option, Some, None, Ok, ap, sym, subst, ◌∙◌}
use Rattle.std.proofs.Common.{if◌then◌else◌}
use Rattle.std.specs.Prelude.{filter_map}
use Rattle.std.specs.List.{cons_option}
use Rattle.site_base.specs.declared.answer.Answer.TheVariants.{Drawn}
use Rattle.site_base.specs.declared.amounts.TheConstants.{GREATEST_READING}
use Rattle.site_base.specs.declared.row.Row.{Row}
use Rattle.site_base.specs.declared.view.PointView.{PointView}
use Rattle.site_base.specs.Configured.{Configured}
use Rattle.site_base.specs.Events.{point_named}
use Rattle.site_core.specs.Views.{lifted_of, product_lifted}
use Rattle.written_site.specs.DrawLaws.{product_read, run_at, tells_drawn}
use Rattle.written_site.specs.RowWords.{open_after}
use Rattle.written_site.specs.SiteRun.{site_of_rows, IsLegal}
use Rattle.written_site.specs.SiteState.{SiteState, open_shift, opening, view_point}
use Rattle.written_site.specs.SiteStep.{reply_to, site_after}
use Rattle.written_site.specs.Sound.{InRange, Sound}
use Rattle.written_site.proofs.DrawnRows.{runs_at, shown}
use Rattle.written_site.proofs.RunRows.{KnowsRuns}
use Rattle.written_site.proofs.SlotRows.{moment_at}
use Rattle.written_site.proofs.SoundTables.{told_once}
use Rattle.site_book.specs.declared.draw.Draw.{Draw}
use Rattle.site_book.specs.Book.{Book}
use Rattle.site_book.specs.BookDraws.{draw_at, draw_made, draw_of, draws_from}
use Rattle.site_book.proofs.BookSales.{moments_more, moments_over, rows_more}

-- the draws from a place on are that of its row, if it tells one, and those behind it
pub draws_more : (b : Book) (i : ℕ) (r : Row) → slice_get b.rows i ≡ Some r
    → draws_from i b
    ≡ cons_option (draw_made b.config (moment_at (take i b.rows)
    (site_of_rows (opening b.config) (take i b.rows)) r))
    (draws_from (i + 1) b)
draws_more b i r found =
    ap (filter_map (draw_made b.config)) (moments_more b.config b.rows i r found)

-- the first rows of a legal history are legal
pub legal_take : (k : ℕ) (s : SiteState) (rows : List Row) → IsLegal s rows
    → IsLegal s (take k rows)
legal_take zero s rows legal = tt
legal_take (suc k) s [] legal = tt
legal_take (suc k) s (r ∷ rows) legal =
    (legal.0, legal_take k (site_after s r.actor r.event) rows legal.1)

-- the last row of a legal history, and the rows before it
pub legal_last : (s : SiteState) (rows : List Row) (r : Row) → IsLegal s (rows ++ r ∷ [])
    → IsLegal s rows × (r.reply ≡ reply_to (site_of_rows s rows) r.actor r.event)
legal_last s [] r legal = (tt, legal.0)
legal_last s (x ∷ rows) r legal =
    let rest = legal_last (site_after s x.actor x.event) rows r legal.1 in
    ((legal.0, rest.0), rest.1)

-- behind the last row there are no draws
pub draws_over : (b : Book) (i : ℕ) → length b.rows ≤ i → draws_from i b ≡ []
draws_over b i over =
    ap (filter_map (draw_made b.config)) (moments_over b.config b.rows i over)

-- what is there isn't missing
pub not_missing : {A : Type 0} (o : Option A) (x : A) → o ≡ Some x → o ≡ None → ⊥
not_missing o x some none = let both : None ≡ Some x = sym none ∙ some in cc

-- what is seen at the site before a row that is answered Drawn
pub record IsSeen (c : Configured) (earlier : List Row) (s : SiteState) (r : Row) (p growth : ℕ)
    : Type 0 where
  pub shift : open_shift s ≡ open_after earlier
  pub there : view_point s p ≡ None → ⊥
  pub volume : (v : PointView) → view_point s p ≡ Some v
      → v.volume + growth ≡ run_at c p (moment_at earlier s r)
  pub within : run_at c p (moment_at earlier s r) ≤ GREATEST_READING
  pub product : product_lifted s p ≡ Some (product_read c p earlier)

pub seen : (c : Configured) (earlier : List Row) (s : SiteState) (r : Row) (p growth : ℕ)
    → IsLegal (opening c) (earlier ++ r ∷ []) → s ≡ site_of_rows (opening c) earlier → Sound s
    → InRange r.event → point_named r.event ≡ Some p → r.reply ≡ Ok (Drawn growth)
    → IsSeen c earlier s r p growth
seen c earlier s r p growth legal led sound range named told =
    let last = legal_last (opening c) earlier r legal in
    let known = subst (KnowsRuns c earlier) (sym led) (runs_at c earlier last.0) in
    let shows = shown c earlier s r p growth known
    (last.1 ∙ ap (λ x. reply_to x r.actor r.event) (sym led)) sound range named told in
    record {
      shift = known.volumes.fuel.known.shift;
      there = λ none. not_missing (view_point s p) shows.view shows.there none;
      volume = λ v is.
          ap (λ (x : PointView). x.volume + growth)
          (told_once v shows.view (sym is ∙ shows.there))
          ∙ shows.volume;
      within = shows.within;
      product =
          ap (lifted_of s p) shows.there ∙ shows.product;
    }

-- the draw of such a row
pub same_draw : (c : Configured) (earlier : List Row) (s : SiteState) (r : Row)
    (p growth h q v : ℕ)
    → point_named r.event ≡ Some p → r.reply ≡ Ok (Drawn growth)
    → h ≡ open_after earlier → q ≡ product_read c p earlier
    → v ≡ run_at c p (moment_at earlier s r)
    → ◌≡◌ {A = Option Draw} (Some (record { shift = h; point = p; product = q; volume = v }))
    (draw_made c (moment_at earlier s r))
same_draw c earlier s r p growth h q v named told shift product volume =
    ap (λ x. Some (record { shift = x; point = p; product = q; volume = v })) shift
    ∙ ap (λ x. Some (record {
      shift = open_after earlier;
      point = p;
      product = x;
      volume = v;
    })) product
    ∙ ap (λ x. Some (record {
      shift = open_after earlier;
      point = p;
      product = product_read c p earlier;
      volume = x;
    })) volume
    ∙ ap (λ (b : Bool). if b then Some (draw_at c p (moment_at earlier s r)) else None)
    (sym (ap tells_drawn told))
    ∙ ap (λ o. draw_of c o (moment_at earlier s r)) (sym named)

-- the rows before a place, with its own, are legal
pub legal_row : (b : Book) (i : ℕ) (r : Row) → IsLegal (opening b.config) b.rows
    → slice_get b.rows i ≡ Some r → IsLegal (opening b.config) (take i b.rows ++ r ∷ [])
legal_row b i r legal found =
    subst (IsLegal (opening b.config)) (rows_more b.rows i r found)
    (legal_take (i + 1) (opening b.config) b.rows legal)

-- the draws from a place on, where this is what its row draws
pub row_draws : (b : Book) (i : ℕ) (r : Row) (s : SiteState) (draw : Option Draw)
    → slice_get b.rows i ≡ Some r → s ≡ site_of_rows (opening b.config) (take i b.rows)
    → draw ≡ draw_made b.config (moment_at (take i b.rows) s r)
    → draws_from i b ≡ cons_option draw (draws_from (i + 1) b)
row_draws b i r s draw found led is =
    draws_more b i r found
    ∙ ap (λ x. cons_option (draw_made b.config (moment_at (take i b.rows) x r))
    (draws_from (i + 1) b)) (sym led)
    ∙ ap (λ x. cons_option x (draws_from (i + 1) b)) (sym is)
