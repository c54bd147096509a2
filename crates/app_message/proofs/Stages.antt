-- Stages of the grammar that didn't halt, and octets of parts of a list.
use Rattle.std.proofs.Common.{◌≡◌, ℕ, ◌+◌, Bool, true, false, cond, refl, List, take, drop, Result}
use Rattle.std.proofs.Common.{Ok, Err, arith, inl, inr}
use Rattle.std.proofs.lemmas.Bool.{cases_lt}
use Rattle.std.proofs.lemmas.List.{get_or-drop, get_or-take, get_or_past, length-take}
use Rattle.app_message.specs.Telegram.{AreOctets}
use Rattle.app_message.specs.Grammar.{Halt, ◌>>=◌}

pub AreOctets-drop : (n : ℕ) (s : List ℕ) → AreOctets s → AreOctets (drop n s)
AreOctets-drop n s h i = rw get_or-drop (h (n + i))

pub AreOctets-take : (n : ℕ) (s : List ℕ) → AreOctets s → AreOctets (take n s)
AreOctets-take n s h i =
    elim (cases_lt i n) [
      | inl lt ↦ rw (get_or-take n s i 0 lt) (h i)
      | inr le ↦ rw (get_or_past (take n s) i 0 (omega (arith, length-take n s))) (omega arith)
    ]

-- the value of a stage that went on
pub bind_ok : {A B : Type 0} (r : Result A Halt) (f : A → Result B Halt) (y : B) → (r >>= f) ≡ Ok y
    → (x : A) × (r ≡ Ok x) × (f x ≡ Ok y)
bind_ok (Ok x) f y e = (x, refl, e)
bind_ok (Err d) f y e = absurd cc

-- tests that didn't halt
pub guard_ok : {A : Type 0} (b : Bool) (d : Halt) (r : Result A Halt) (y : A)
    → cond b (Err d) r ≡ Ok y → (b ≡ false) × (r ≡ Ok y)
guard_ok true d r y e = absurd cc
guard_ok false d r y e = (refl, e)

pub guard_else : {A : Type 0} (b : Bool) (d : Halt) (r : Result A Halt) (y : A)
    → cond b r (Err d) ≡ Ok y → (b ≡ true) × (r ≡ Ok y)
guard_else true d r y e = (refl, e)
guard_else false d r y e = absurd cc

abbrev went : {A : Type 0} → A → Result A Halt
went x = Ok x

pub ok_is : {A : Type 0} (x y : A) → went x ≡ went y → x ≡ y
ok_is x y e = cc

-- two ways to go on that agree where the stage went on
pub bind_same : {A B : Type 0} (r : Result A Halt) (f g : A → Result B Halt)
    → ((x : A) → r ≡ Ok x → f x ≡ g x) → (r >>= f) ≡ (r >>= g)
bind_same (Ok x) f g same = same x refl
bind_same (Err d) f g same = refl
