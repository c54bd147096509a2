-- A site that opens with the next configuration has the prices and the last readings of the site
-- that it goes on from.
use Rattle.std.proofs.Common.{◌≡◌, ℕ, ◌+◌, ◌==◌, ◌∙◌, Bool, true, false, List, [], ◌∷◌, ◌++◌}
use Rattle.std.proofs.Common.{map, Option, Some, None, option_map, is_some, unwrap_or, refl, ap, sym}
use Rattle.std.specs.Prelude.{if◌then◌else◌}
use Rattle.std.proofs.lemmas.Bool.{and_parts}
use Rattle.site_base.specs.declared.config.NozzleEntry.{NozzleEntry}
use Rattle.site_base.specs.declared.config.PointEntry.{PointEntry}
use Rattle.site_base.specs.declared.config.ProductEntry.{ProductEntry}
use Rattle.site_base.specs.Prices.{prices_of}
use Rattle.meters.specs.Nozzles.{Nozzle, is_nozzle, nozzle_of, last_of, number_nozzles}
use Rattle.meters.specs.Nozzles.{nozzles_of_points, opening_nozzle, opening_nozzles}
use Rattle.written_site.specs.MeterLaws.{AreMetersRead}
use Rattle.written_site.specs.SiteRun.{IsLegal}
use Rattle.written_site.specs.SiteState.{SiteState, opening}
use Rattle.written_site.proofs.MeterLaws.{meters_read}
use Rattle.written_site.proofs.ProductNumbers.{product_numbers}
use Rattle.written_site.proofs.SoundTables.{same}
use Rattle.site_book.specs.Book.{Book, site_of_book}
use Rattle.next_opening.specs.NextOpening.{GoesOnFrom, next_opening, priced, read_from}
use Rattle.next_opening.specs.NextOpening.{with_last_reading, with_last_readings}

-- ---- prices

first_of_list : List ℕ → ℕ → ℕ
first_of_list [] n = n
first_of_list (x ∷ xs) n = x

rest_of : List ℕ → List ℕ
rest_of [] = []
rest_of (x ∷ xs) = xs

same_prices : (ps : List ProductEntry) (es : List (ℕ × ℕ))
    → map (λ e. e.0) es ≡ map (λ p. p.number) ps
    → prices_of (priced ps (map (λ e. e.1) es)) ≡ es
unfolding first_of_list rest_of
same_prices [] [] numbers = refl
same_prices [] (e ∷ es) numbers = cc
same_prices (p ∷ ps) [] numbers = cc
same_prices (p ∷ ps) (e ∷ es) numbers =
    let first : p.number ≡ e.0 = sym (ap (λ ns. first_of_list ns 0) numbers) in
    ap (λ (n : ℕ). (n, e.1) ∷ prices_of (priced ps (map (λ e. e.1) es))) first
    ∙ ap (λ (rows : List (ℕ × ℕ)). e ∷ rows) (same_prices ps es (ap rest_of numbers))

-- ---- readings

-- a nozzle whose meter begins with its last reading among these
renewed : List Nozzle → Nozzle → Nozzle
renewed xs x = record x {
  began = unwrap_or (last_of x.point x.number xs) x.last;
  last = unwrap_or (last_of x.point x.number xs) x.last;
  replaced = 0;
  earlier = 0;
}

numbered-read : (xs : List Nozzle) (p n : ℕ) (es : List NozzleEntry)
    → number_nozzles p n (read_from xs p n es) ≡ map (renewed xs) (number_nozzles p n es)
unfolding renewed
numbered-read xs p n [] = refl
numbered-read xs p n (e ∷ es) =
    ap (λ (ys : List Nozzle). opening_nozzle p n (with_last_reading xs p n e) ∷ ys)
    (numbered-read xs p (n + 1) es)

map-joined : (f : Nozzle → Nozzle) (xs ys : List Nozzle) → map f (xs ++ ys) ≡ map f xs ++ map f ys
map-joined f [] ys = refl
map-joined f (x ∷ xs) ys = ap (λ (zs : List Nozzle). f x ∷ zs) (map-joined f xs ys)

opened-read : (xs : List Nozzle) (cs : List PointEntry)
    → nozzles_of_points (map (with_last_readings xs) cs)
    ≡ map (renewed xs) (nozzles_of_points cs)
opened-read xs [] = refl
opened-read xs (c ∷ cs) =
    ap (λ (ys : List Nozzle). ys ++ nozzles_of_points (map (with_last_readings xs) cs))
    (numbered-read xs c.number 1 c.nozzles)
    ∙ ap (λ (ys : List Nozzle). map (renewed xs) (number_nozzles c.number 1 c.nozzles) ++ ys)
    (opened-read xs cs)
    ∙ sym (map-joined (renewed xs) (number_nozzles c.number 1 c.nozzles) (nozzles_of_points cs))

last-renewed : (p n : ℕ) (xs ys : List Nozzle)
    → last_of p n (map (renewed xs) ys)
    ≡ option_map (λ v. unwrap_or (last_of p n xs) v) (last_of p n ys)
unfolding renewed
last-renewed p n xs [] = refl
last-renewed p n xs (y ∷ ys) = by_test (is_nozzle p n y) refl (last-renewed p n xs ys)
  where
    by_test : (b : Bool) → is_nozzle p n y ≡ b
        → last_of p n (map (renewed xs) ys)
        ≡ option_map (λ v. unwrap_or (last_of p n xs) v) (last_of p n ys)
        → option_map (λ x. x.last)
        (if b then Some (renewed xs y) else nozzle_of p n (map (renewed xs) ys))
        ≡ option_map (λ v. unwrap_or (last_of p n xs) v)
        (option_map (λ x. x.last) (if b then Some y else nozzle_of p n ys))
    by_test true is rest =
        let parts = and_parts (y.point == p) (y.number == n) is in
        ap (λ (k : ℕ). Some (unwrap_or (last_of k y.number xs) y.last)) (same y.point p parts.0)
        ∙ ap (λ (k : ℕ). Some (unwrap_or (last_of p k xs) y.last)) (same y.number n parts.1)
    by_test false is rest = rest

-- where both are there or neither is, the first is taken
first_taken : (a b : Option ℕ) → is_some a ≡ is_some b
    → option_map (λ v. unwrap_or a v) b ≡ a
first_taken None None is = refl
first_taken None (Some w) is = cc
first_taken (Some v) None is = cc
first_taken (Some v) (Some w) is = refl

there-last : (o : Option Nozzle) → is_some (option_map (λ x. x.last) o) ≡ is_some o
there-last None = refl
there-last (Some x) = refl

-- ---- both

-- a site that opens with the next configuration of a book goes on from its site
pub goes_on : (b : Book) → IsLegal (opening b.config) b.rows
    → GoesOnFrom (site_of_book b) (opening (next_opening b.config (site_of_book b)))
goes_on b legal = record {
  prices = same_prices b.config.products s.prices (product_numbers b.config b.rows);
  readings = λ p n.
      ap (last_of p n) (opened-read s.nozzles b.config.points)
      ∙ last-renewed p n s.nozzles (opening_nozzles b.config)
      ∙ first_taken (last_of p n s.nozzles) (last_of p n (opening_nozzles b.config))
      (there-last (nozzle_of p n s.nozzles) ∙ meters.there p n
      ∙ sym (there-last (nozzle_of p n (opening_nozzles b.config))));
}
  where
    s : SiteState
    s = site_of_book b

    meters : AreMetersRead b.config b.rows s
    meters = meters_read b.config b.rows legal
