-- The nozzles after an event: their names and products stay, and only the reading of the nozzle
-- that is named moves.
use Rattle.std.proofs.Common.{◌≡◌, ℕ, ◌&&◌, ◌==◌, Bool, true, false, List, Option, option_map, Some}
use Rattle.std.proofs.Common.{None, is_some, unwrap_or, refl, sym, ap, ◌∙◌}
use Rattle.std.proofs.lemmas.Bool.{and_parts}
use Rattle.site_base.specs.declared.event.Event.{Event}
use Rattle.site_base.specs.declared.event.Event.TheVariants.{ReplaceMeter, Flow, HangUp}
use Rattle.meters.specs.Nozzles.{Nozzle, nozzle_of, has_nozzle, product_of, reading_of, with_nozzle}
use Rattle.meters.specs.Nozzles.{with_last, read_at, replaced_at}
use Rattle.meters.proofs.Lookups.{KeepsName, nozzle_of-here, nozzle_of-other, there, reading_is}
use Rattle.written_site.specs.SiteState.{SiteState}
use Rattle.written_site.specs.SiteStep.{nozzles_after}
use Rattle.written_site.proofs.SoundTables.{same}

pub read_keeps : (reading : ℕ) → KeepsName (read_at reading)
read_keeps reading = record { point = λ x. refl; number = λ x. refl }

pub replaced_keeps : (reading : ℕ) → KeepsName (replaced_at reading)
replaced_keeps reading = record { point = λ x. refl; number = λ x. refl }

-- ---- what no change of a nozzle changes

mapped : (f : Nozzle → ℕ) (change : Nozzle → Nozzle) → ((x : Nozzle) → f (change x) ≡ f x)
    → (o : Option Nozzle) → option_map f (option_map change o) ≡ option_map f o
mapped f change kept None = refl
mapped f change kept (Some x) = ap (λ (v : ℕ). Some v) (kept x)

figure_kept : (f : Nozzle → ℕ) (p n q m : ℕ) (change : Nozzle → Nozzle) (xs : List Nozzle)
    → KeepsName change → ((x : Nozzle) → f (change x) ≡ f x)
    → option_map f (nozzle_of q m (with_nozzle p n change xs)) ≡ option_map f (nozzle_of q m xs)
figure_kept f p n q m change xs keeps kept = by_test (p == q && n == m) refl
  where
    by_test : (b : Bool) → (p == q && n == m) ≡ b
        → option_map f (nozzle_of q m (with_nozzle p n change xs)) ≡ option_map f (nozzle_of q m xs)
    by_test true is =
        let parts = and_parts (p == q) (n == m) is in
        let point : p ≡ q = same p q parts.0 in
        let number : n ≡ m = same n m parts.1 in
        rw (← point, ← number) (ap (option_map f) (nozzle_of-here p n change xs keeps)
        ∙ mapped f change kept (nozzle_of p n xs))
    by_test false is = ap (option_map f) (nozzle_of-other p n q m change xs is keeps)

pub some_of : (f : Nozzle → ℕ) (o : Option Nozzle) → is_some (option_map f o) ≡ is_some o
some_of f None = refl
some_of f (Some x) = refl

product_with : (p n q m : ℕ) (change : Nozzle → Nozzle) (xs : List Nozzle) → KeepsName change
    → ((x : Nozzle) → (change x).product ≡ x.product)
    → product_of q m (with_nozzle p n change xs) ≡ product_of q m xs
product_with p n q m change xs keeps kept =
    figure_kept (λ x. x.product) p n q m change xs keeps kept

-- ---- after an event

pub product_after : (s : SiteState) (e : Event) (q m : ℕ)
    → product_of q m (nozzles_after s e) ≡ product_of q m s.nozzles
product_after s (Flow p n reading) q m =
    product_with p n q m (read_at reading) s.nozzles (read_keeps reading) (λ x. refl)
product_after s (HangUp p n reading) q m =
    product_with p n q m (read_at reading) s.nozzles (read_keeps reading) (λ x. refl)
product_after s (ReplaceMeter p n reading) q m =
    product_with p n q m (replaced_at reading) s.nozzles (replaced_keeps reading) (λ x. refl)
product_after s e q m = refl

pub nozzle_after : (s : SiteState) (e : Event) (q m : ℕ)
    → has_nozzle q m (nozzles_after s e) ≡ has_nozzle q m s.nozzles
nozzle_after s e q m =
    sym (some_of (λ x. x.product) (nozzle_of q m (nozzles_after s e)))
    ∙ ap is_some (product_after s e q m)
    ∙ some_of (λ x. x.product) (nozzle_of q m s.nozzles)

-- ---- readings

-- the reading that was taken
pub reading_taken : (p n reading : ℕ) (xs : List Nozzle) → has_nozzle p n xs ≡ true
    → reading_of p n (with_last p n reading xs) ≡ reading
reading_taken p n reading xs has =
    let x = there (nozzle_of p n xs) has in
    let read : nozzle_of p n (with_last p n reading xs) ≡ Some (read_at reading x.nozzle) =
    nozzle_of-here p n (read_at reading) xs (read_keeps reading)
    ∙ ap (option_map (read_at reading)) x.is in
    reading_is p n (with_last p n reading xs) (read_at reading x.nozzle) read

pub reading_other : (p n q m : ℕ) (change : Nozzle → Nozzle) (xs : List Nozzle) → (p == q) ≡ false
    → KeepsName change → reading_of q m (with_nozzle p n change xs) ≡ reading_of q m xs
reading_other p n q m change xs other keeps =
    let apart : (p == q && n == m) ≡ false = ap (λ (b : Bool). b && n == m) other in
    ap (λ (o : Option Nozzle). unwrap_or (option_map (λ x. x.last) o) 0)
    (nozzle_of-other p n q m change xs apart keeps)
