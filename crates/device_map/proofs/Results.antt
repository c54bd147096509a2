-- Stages that went on, what a test that passed says, and short lists of octets.
use Rattle.std.specs.Prelude.{slice_index}
use Rattle.std.proofs.Common.{◌≡◌, ℕ, zero, suc, ◌<◌, ◌==◌, Bool, true, false}
use Rattle.std.proofs.Common.{cond, List, [], ◌∷◌, length}
use Rattle.std.proofs.Common.{Result, Ok, Err, refl, arith}
use Rattle.std.proofs.lemmas.Bool.Decides.{nat_tests}
use Rattle.app_message.specs.Telegram.{AreOctets}
use Rattle.device_map.specs.declared.fault.MapFault.{MapFault}
use Rattle.device_map.specs.Stages.{◌>>=◌}

-- the value of a stage that went on
pub bind_ok : {A B : Type 0} (r : Result A MapFault) (f : A → Result B MapFault) (y : B)
    → (r >>= f) ≡ Ok y → (x : A) × (r ≡ Ok x) × (f x ≡ Ok y)
bind_ok (Ok x) f y is = (x, refl, is)
bind_ok (Err e) f y is = absurd cc

abbrev pub went : {A : Type 0} → A → Result A MapFault
went x = Ok x

pub ok_is : {A : Type 0} (x y : A) → went x ≡ went y → x ≡ y
ok_is x y is = cc

-- a test that didn't refuse
pub passed : {A : Type 0} (b : Bool) (e : MapFault) (r : Result A MapFault) (y : A)
    → cond b r (Err e) ≡ Ok y → (b ≡ true) × (r ≡ Ok y)
passed true e r y is = (refl, is)
passed false e r y is = absurd cc

-- the first test that holds tells the value
pub first_that : {A : Type 0} (b : Bool) (x : A) (r : Result A MapFault) (y : A) (Goal : Type 0)
    → cond b (Ok x) r ≡ Ok y
    → (b ≡ true → x ≡ y → Goal) → (b ≡ false → r ≡ Ok y → Goal) → Goal
first_that true x r y Goal is here behind = here refl (ok_is x y is)
first_that false x r y Goal is here behind = behind refl is

pub equal : (a b : ℕ) → (a == b) ≡ true → a ≡ b
equal a b is = grind (arith, nat_tests)

pub none_of : {A : Type 0} (xs : List A) → (length xs == 0) ≡ true → xs ≡ []
none_of [] size = refl
none_of (x ∷ xs) size =
    let none : length (x ∷ xs) ≡ 0 = equal (length (x ∷ xs)) 0 size in absurd (omega (arith, none))

pub one_is : (xs : List ℕ) → length xs ≡ 1 → xs ≡ slice_index xs 0 ∷ []
one_is [] size = absurd (omega (arith, size))
one_is (x ∷ []) size = refl
one_is (x ∷ y ∷ xs) size = absurd (omega (arith, size))

pub one_octet : (a : ℕ) → a < 256 → AreOctets (a ∷ [])
one_octet a small zero = small
one_octet a small (suc i) = omega arith
