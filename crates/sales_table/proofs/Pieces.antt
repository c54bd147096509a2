-- A table that is written piece after piece.
use Rattle.std.proofs.Common.{◌≡◌, ℕ, List, [], ◌∷◌, ◌++◌, Option, Some, None, flat_map, ap, refl}
use Rattle.std.proofs.Common.{append-nil, append_assoc, subst, sym, ◌∙◌}
use Rattle.std.specs.Io.KnownBytes.{Appends}
use Rattle.devices.specs.Devices.{AppendsFront}
use Rattle.devices.proofs.KnownBytes.{Appends-front, Appends-then, AppendsFront-longer}
use Rattle.devices.proofs.KnownBytes.{AppendsFront-so_far}
use Rattle.site_book.specs.Readings.{IsNext}

pub cons_same : {A : Type 0} (x y : A) (xs ys : List A) → x ≡ y → xs ≡ ys
    → ◌≡◌ {A = List A} (x ∷ xs) (y ∷ ys)
cons_same x y xs ys one rest = ap (λ z. z ∷ xs) one ∙ ap (λ zs. y ∷ zs) rest

-- one line more, and then the piece is written
pub piece_written : {A : Type 0} (f : A → List ℕ) (xs left : List A) (x : A)
    (done text new empty whole : List ℕ)
    → IsNext xs (Some x) left → done ++ (text ++ flat_map f xs) ≡ whole
    → new ≡ text ++ f x → empty ≡ []
    → (done ++ new) ++ (empty ++ flat_map f left) ≡ whole
piece_written f xs left x done text new empty whole is rest more none =
    ap (λ l. (done ++ new) ++ (l ++ flat_map f left)) none
    ∙ append_assoc done new (flat_map f left)
    ∙ ap (λ l. done ++ (l ++ flat_map f left)) more
    ∙ ap (λ l. done ++ l) (append_assoc text (f x) (flat_map f left))
    ∙ ap (λ l. done ++ (text ++ flat_map f l)) (sym is)
    ∙ rest

-- no line more, and the last piece is written
pub whole_written : {A : Type 0} (f : A → List ℕ) (xs left : List A) (next : Option A)
    (done text whole : List ℕ) (old mid new : Option (List ℕ))
    → IsNext xs next left → ((x : A) → next ≡ Some x → ⊥)
    → done ++ (text ++ flat_map f xs) ≡ whole
    → Appends old mid done → Appends mid new text → Appends old new whole
whole_written f xs left (Some x) done text whole old mid new is none rest first last =
    absurd (none x refl)
whole_written f xs left None done text whole old mid new is none rest first last =
    subst (Appends old new)
    (ap (λ l. done ++ l) (sym (append-nil text))
    ∙ ap (λ l. done ++ (text ++ flat_map f l)) (sym is.0) ∙ rest)
    (Appends-then old mid new done text first last)

-- where no line more can be made, what is written is a front of the whole
pub front_before : {A : Type 0} (f : A → List ℕ) (xs : List A) (done text whole : List ℕ)
    (old now : Option (List ℕ))
    → done ++ (text ++ flat_map f xs) ≡ whole → Appends old now done → AppendsFront old now whole
front_before f xs done text whole old now rest first =
    subst (AppendsFront old now) rest
    (AppendsFront-so_far old now done (text ++ flat_map f xs) first)

-- where the piece with one line more isn't written whole, too
pub front_within : {A : Type 0} (f : A → List ℕ) (xs left : List A) (x : A)
    (done text new whole : List ℕ) (old mid now : Option (List ℕ))
    → IsNext xs (Some x) left → done ++ (text ++ flat_map f xs) ≡ whole → new ≡ text ++ f x
    → Appends old mid done → AppendsFront mid now new → AppendsFront old now whole
front_within f xs left x done text new whole old mid now is rest more first last =
    subst (AppendsFront old now)
    (piece_written f xs left x done text new [] whole is rest more refl)
    (AppendsFront-longer old now (done ++ new) (flat_map f left)
    (Appends-front old mid now done new first last))

-- and where the last piece isn't
pub front_at_end : {A : Type 0} (f : A → List ℕ) (xs left : List A) (next : Option A)
    (done text whole : List ℕ) (old mid now : Option (List ℕ))
    → IsNext xs next left → ((x : A) → next ≡ Some x → ⊥)
    → done ++ (text ++ flat_map f xs) ≡ whole → Appends old mid done → AppendsFront mid now text
    → AppendsFront old now whole
front_at_end f xs left (Some x) done text whole old mid now is none rest first last =
    absurd (none x refl)
front_at_end f xs left None done text whole old mid now is none rest first last =
    subst (AppendsFront old now)
    (ap (λ l. done ++ l) (sym (append-nil text))
    ∙ ap (λ l. done ++ (text ++ flat_map f l)) (sym is.0) ∙ rest)
    (Appends-front old mid now done text first last)
