-- The volume of the fuellings under way: that of the meters is that of the points, and an event
-- moves that of its own point alone.
use Rattle.std.proofs.Common.{◌≡◌, ℕ, ◌+◌, ◌*◌, ◌==◌, not, Bool, true, false, cond, List, [], ◌∷◌}
use Rattle.std.proofs.Common.{Option, Some, unwrap_or, refl, sym, ap, ◌∙◌, arith}
use Rattle.std.proofs.lemmas.Bool.{and_parts, false≢true}
use Rattle.std.specs.Prelude.{nat_eq}
use Rattle.std.specs.List.{list_any}
use Rattle.site_base.specs.Configured.{none_alike}
use Rattle.site_base.specs.Table.{row_of, with_row}
use Rattle.fuelling_point.specs.KeptPoints.{Facts, volume_of}
use Rattle.meters.specs.Nozzles.{Nozzle, product_of}
use Rattle.written_site.specs.Sound.{numbers_of}
use Rattle.written_site.specs.Volumes.{nozzle_out, product_out, running_at, running_by}
use Rattle.written_site.proofs.SoundTables.{same, turned, itself, told_once}

-- the millilitres of the fuellings under way as the points keep them, each product's weighed by w
abbrev pub flowed_by : (ℕ → ℕ) → List Nozzle → List (ℕ × Facts) → ℕ
flowed_by w nozzles [] = 0
flowed_by w nozzles (e ∷ es) =
    w (product_out nozzles e.0 e.1) * volume_of e.1 + flowed_by w nozzles es

-- ---- row by row

-- a number that stands twice is found twice
not_again : (p : ℕ) (f : Facts) (es : List (ℕ × Facts)) → row_of p es ≡ Some f
    → list_any (λ q. nat_eq p q) (numbers_of es) ≡ true
not_again p f [] is = cc
not_again p f (e ∷ es) is = by_test (e.0 == p) refl (not_again p f es)
  where
    by_test : (b : Bool) → (e.0 == p) ≡ b
        → (row_of p es ≡ Some f → list_any (λ q. nat_eq p q) (numbers_of es) ≡ true)
        → list_any (λ q. nat_eq p q) (numbers_of (e ∷ es)) ≡ true
    by_test true at behind = rw (turned p e.0, at) refl
    by_test false at behind =
        let later : row_of p (e ∷ es) ≡ row_of p es = rw at refl in
        rw (turned p e.0, at) (behind (sym later ∙ is))

-- a later row is found by its number, which no earlier row has
later_row : (p q : ℕ) (f g : Facts) (es : List (ℕ × Facts))
    → none_alike nat_eq (numbers_of ((p, f) ∷ es)) ≡ true → row_of q es ≡ Some g
    → row_of q ((p, f) ∷ es) ≡ Some g
later_row p q f g es alone is = by_test (p == q) refl
  where
    parts : (not (list_any (λ r. nat_eq p r) (numbers_of es)) ≡ true)
        × (none_alike nat_eq (numbers_of es) ≡ true)
    parts = and_parts (not (list_any (λ r. nat_eq p r) (numbers_of es)))
        (none_alike nat_eq (numbers_of es)) alone

    by_test : (b : Bool) → (p == q) ≡ b → cond b (Some f) (row_of q es) ≡ Some g
    by_test true at =
        let again : list_any (λ r. nat_eq p r) (numbers_of es) ≡ true =
        not_again p g es (ap (λ (r : ℕ). row_of r es) (same p q at) ∙ is) in
        absurd (false≢true (sym (ap not again) ∙ parts.0))
    by_test false at = is

-- where each row's volume is what its meter has grown, so is the sum
pub running_is : (w : ℕ → ℕ) (nozzles : List Nozzle) (es : List (ℕ × Facts))
    → none_alike nat_eq (numbers_of es) ≡ true
    → ((p : ℕ) (f : Facts) → row_of p es ≡ Some f → running_at nozzles p f ≡ volume_of f)
    → running_by w nozzles es ≡ flowed_by w nozzles es
running_is w nozzles [] alone each = refl
running_is w nozzles (e ∷ es) alone each =
    let parts = and_parts (not (list_any (λ q. nat_eq e.0 q) (numbers_of es)))
    (none_alike nat_eq (numbers_of es)) alone in
    let first : row_of e.0 (e ∷ es) ≡ Some e.1 = rw (itself e.0) refl in
    let rest : running_by w nozzles es ≡ flowed_by w nozzles es =
    running_is w nozzles es parts.1 (λ q g is. each q g (later_row e.0 q e.1 g es alone is)) in
    ap (λ (v : ℕ). w (product_out nozzles e.0 e.1) * v + running_by w nozzles es)
    (each e.0 e.1 first)
    ∙ ap (λ (v : ℕ). w (product_out nozzles e.0 e.1) * volume_of e.1 + v) rest

-- ---- the points' volumes

-- products that stay weigh the same
pub flowed_products : (w : ℕ → ℕ) (nozzles others : List Nozzle)
    → ((p n : ℕ) → product_of p n others ≡ product_of p n nozzles) → (es : List (ℕ × Facts))
    → flowed_by w others es ≡ flowed_by w nozzles es
flowed_products w nozzles others same_ones [] = refl
flowed_products w nozzles others same_ones (e ∷ es) =
    ap (λ (o : Option ℕ). w (unwrap_or o 0) * volume_of e.1 + flowed_by w others es)
    (same_ones e.0 (nozzle_out e.1))
    ∙ ap (λ (v : ℕ). w (product_out nozzles e.0 e.1) * volume_of e.1 + v)
    (flowed_products w nozzles others same_ones es)

swapped : (new' new stood old rest : ℕ) → new' ≡ new → stood ≡ old
    → (new' + rest) + old ≡ (stood + rest) + new
swapped new' new stood old rest written was = omega arith

behind_one : (first moved old rest new : ℕ) → moved + old ≡ rest + new
    → (first + moved) + old ≡ (first + rest) + new
behind_one first moved old rest new is = omega arith

-- one row in the place of another
pub flowed_with : (w : ℕ → ℕ) (nozzles : List Nozzle) (p : ℕ) (old new : Facts)
    (es : List (ℕ × Facts)) → row_of p es ≡ Some old
    → flowed_by w nozzles (with_row p new es) + w (product_out nozzles p old) * volume_of old
    ≡ flowed_by w nozzles es + w (product_out nozzles p new) * volume_of new
flowed_with w nozzles p old new [] is = cc
flowed_with w nozzles p old new (e ∷ es) is =
    by_test (e.0 == p) refl (flowed_with w nozzles p old new es)
  where
    by_test : (b : Bool) → (e.0 == p) ≡ b
        → (row_of p es ≡ Some old
        → flowed_by w nozzles (with_row p new es) + w (product_out nozzles p old) * volume_of old
        ≡ flowed_by w nozzles es + w (product_out nozzles p new) * volume_of new)
        → flowed_by w nozzles (with_row p new (e ∷ es)) + w (product_out nozzles p old)
        * volume_of old
        ≡ flowed_by w nozzles (e ∷ es) + w (product_out nozzles p new) * volume_of new
    by_test true at behind =
        let first : row_of p (e ∷ es) ≡ Some e.1 = rw at refl in
        let name : e.0 ≡ p = same e.0 p at in
        let facts : e.1 ≡ old = told_once e.1 old (sym first ∙ is) in
        let moved : with_row p new (e ∷ es) ≡ (e.0, new) ∷ es = rw at refl in
        let written : w (product_out nozzles e.0 new) * volume_of new
        ≡ w (product_out nozzles p new) * volume_of new =
        ap (λ (r : ℕ). w (product_out nozzles r new) * volume_of new) name in
        let stood : w (product_out nozzles e.0 e.1) * volume_of e.1
        ≡ w (product_out nozzles p old) * volume_of old =
        ap (λ (r : ℕ). w (product_out nozzles r e.1) * volume_of e.1) name
        ∙ ap (λ (g : Facts). w (product_out nozzles p g) * volume_of g) facts in
        ap (λ (rows : List (ℕ × Facts)). flowed_by w nozzles rows
        + w (product_out nozzles p old) * volume_of old) moved
        ∙ swapped (w (product_out nozzles e.0 new) * volume_of new)
        (w (product_out nozzles p new) * volume_of new)
        (w (product_out nozzles e.0 e.1) * volume_of e.1)
        (w (product_out nozzles p old) * volume_of old) (flowed_by w nozzles es) written stood
    by_test false at behind =
        let later : row_of p (e ∷ es) ≡ row_of p es = rw at refl in
        let moved : with_row p new (e ∷ es) ≡ e ∷ with_row p new es = rw at refl in
        ap (λ (rows : List (ℕ × Facts)). flowed_by w nozzles rows
        + w (product_out nozzles p old) * volume_of old) moved
        ∙ behind_one (w (product_out nozzles e.0 e.1) * volume_of e.1)
        (flowed_by w nozzles (with_row p new es)) (w (product_out nozzles p old) * volume_of old)
        (flowed_by w nozzles es) (w (product_out nozzles p new) * volume_of new)
        (behind (sym later ∙ is))
