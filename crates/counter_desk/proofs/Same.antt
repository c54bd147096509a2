-- What `==` finds equal is the same.
use Rattle.std.proofs.Common.{◌≡◌, ℕ, ◌==◌, ◌&&◌, Bool, true, false, Option, Some, None, refl, ap}
use Rattle.std.proofs.Common.{◌∙◌}
use Rattle.std.proofs.lemmas.Bool.{eqb-true}
use Rattle.site_base.specs.declared.event.Event.{Event}
use Rattle.site_base.specs.declared.event.Event.TheVariants.{SignOn, SignOff, Open, Close, Assign}
use Rattle.site_base.specs.declared.event.Event.TheVariants.{Unassign, Release, Prepay, TestRelease}
use Rattle.site_base.specs.declared.event.Event.TheVariants.{Suspend, Resume, Terminate}
use Rattle.site_base.specs.declared.event.Event.TheVariants.{ReplaceMeter, ReadPoint, Lock, Unlock}
use Rattle.site_base.specs.declared.event.Event.TheVariants.{Clear, ReadTransaction, SetPrice}
use Rattle.site_base.specs.declared.event.Event.TheVariants.{ReadProduct, CloseShift, ReadSite}
use Rattle.site_base.specs.declared.event.Event.TheVariants.{Online, Offline, Lift, Flow, HangUp}
use Rattle.site_base.specs.declared.state.Preset.{Preset}
use Rattle.site_base.specs.declared.state.Preset.TheVariants.{Unset, Volume, Money}
use Rattle.site_base.specs.declared.sale.SaleId.{SaleId}
use Rattle.site_base.specs.contracts.event.EventPartialEq.TheImpl as events
use Rattle.site_base.specs.contracts.sale.SaleIdPartialEq.TheImpl as sales
use Rattle.site_base.specs.contracts.state.PresetPartialEq.TheImpl as presets

-- what isn't the same isn't found equal
pub clash : {A : Type 0} → false ≡ true → A
clash is = cc

pub both : (a b : Bool) → (a && b) ≡ true → (a ≡ true) × (b ≡ true)
both true true is = (refl, refl)
both true false is = cc
both false b is = cc

pub one : {A : Type 0} (f : ℕ → A) (p q : ℕ) → (p == q) ≡ true → f p ≡ f q
one f p q is = ap f (eqb-true p q is)

two : {A B : Type 0} (f : ℕ → B → A) (p q : ℕ) (x y : B) → p ≡ q → x ≡ y → f p x ≡ f q y
two f p q x y same alike = cc

pub same_presets : (a b : Preset) → presets.ghosts.eq a b ≡ true → a ≡ b
same_presets Unset Unset is = refl
same_presets (Volume n) (Volume m) is = one Volume n m is
same_presets (Money n) (Money m) is = one Money n m is
same_presets a b is = clash is

same_shifts : (a b : Option ℕ) (n m : ℕ)
    → sales.ghosts.eq (record { shift = a; seq = n }) (record { shift = b; seq = m }) ≡ true
    → (a ≡ b) × (n ≡ m)
same_shifts (Some h) (Some k) n m is =
    let parts = both (h == k) (n == m) is in
    (one Some h k parts.0, eqb-true n m parts.1)
same_shifts None None n m is = (refl, eqb-true n m is)
same_shifts a b n m is = clash is

same_sales : (a b : SaleId) → sales.ghosts.eq a b ≡ true → a ≡ b
same_sales a b is =
    let parts = same_shifts a.shift b.shift a.seq b.seq is in
    ap (λ (h : Option ℕ). record { shift = h; seq = a.seq }) parts.0
    ∙ ap (λ (n : ℕ). record { shift = b.shift; seq = n }) parts.1

two_numbers : {A : Type 0} (f : ℕ → ℕ → A) (p q x y : ℕ) → (p == q && x == y) ≡ true
    → f p x ≡ f q y
two_numbers f p q x y is =
    let parts = both (p == q) (x == y) is in
    two f p q x y (eqb-true p q parts.0) (eqb-true x y parts.1)

three_numbers : {A : Type 0} (f : ℕ → ℕ → ℕ → A) (p q n m x y : ℕ)
    → (p == q && (n == m && x == y)) ≡ true → f p n x ≡ f q m y
three_numbers f p q n m x y is =
    let parts = both (p == q) (n == m && x == y) is in
    ap (λ (k : ℕ). f k n x) (eqb-true p q parts.0) ∙ two_numbers (f q) n m x y parts.1

number_and_sale : {A : Type 0} (f : ℕ → SaleId → A) (p q : ℕ) (x y : SaleId)
    → (p == q && sales.ghosts.eq x y) ≡ true → f p x ≡ f q y
number_and_sale f p q x y is =
    let parts = both (p == q) (sales.ghosts.eq x y) is in
    two f p q x y (eqb-true p q parts.0) (same_sales x y parts.1)

pub same_events : (a b : Event) → events.ghosts.eq a b ≡ true → a ≡ b
same_events SignOn SignOn is = refl
same_events SignOff SignOff is = refl
same_events CloseShift CloseShift is = refl
same_events ReadSite ReadSite is = refl
same_events (Open p) (Open q) is = one Open p q is
same_events (Close p) (Close q) is = one Close p q is
same_events (Assign p) (Assign q) is = one Assign p q is
same_events (Unassign p) (Unassign q) is = one Unassign p q is
same_events (Release p x) (Release q y) is =
    let parts = both (p == q) (presets.ghosts.eq x y) is in
    two Release p q x y (eqb-true p q parts.0) (same_presets x y parts.1)
same_events (Prepay p x) (Prepay q y) is = two_numbers Prepay p q x y is
same_events (TestRelease p) (TestRelease q) is = one TestRelease p q is
same_events (Suspend p) (Suspend q) is = one Suspend p q is
same_events (Resume p) (Resume q) is = one Resume p q is
same_events (Terminate p) (Terminate q) is = one Terminate p q is
same_events (ReplaceMeter p n x) (ReplaceMeter q m y) is = three_numbers ReplaceMeter p q n m x y is
same_events (ReadPoint p) (ReadPoint q) is = one ReadPoint p q is
same_events (Lock p x) (Lock q y) is = number_and_sale Lock p q x y is
same_events (Unlock p x) (Unlock q y) is = number_and_sale Unlock p q x y is
same_events (Clear p x) (Clear q y) is = number_and_sale Clear p q x y is
same_events (ReadTransaction p x) (ReadTransaction q y) is =
    number_and_sale ReadTransaction p q x y is
same_events (SetPrice p x) (SetPrice q y) is = two_numbers SetPrice p q x y is
same_events (ReadProduct p) (ReadProduct q) is = one ReadProduct p q is
same_events (Online p) (Online q) is = one Online p q is
same_events (Offline p) (Offline q) is = one Offline p q is
same_events (Lift p n x) (Lift q m y) is = three_numbers Lift p q n m x y is
same_events (Flow p n x) (Flow q m y) is = three_numbers Flow p q n m x y is
same_events (HangUp p n x) (HangUp q m y) is = three_numbers HangUp p q n m x y is
same_events a b is = clash is
