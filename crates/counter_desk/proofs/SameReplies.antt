-- Replies that `==` finds equal are the same.
use Rattle.std.proofs.Common.{◌≡◌, ℕ, ◌==◌, ◌&&◌, Bool, true, false, nat_eq, Option, Some, None}
use Rattle.std.proofs.Common.{Result, Ok, Err, refl, ap}
use Rattle.std.specs.Option.{option_eq}
use Rattle.std.specs.Result.{result_eq}
use Rattle.std.proofs.Math.Bool.{beq}
use Rattle.std.proofs.lemmas.Bool.{eqb-true}
use Rattle.site_base.specs.declared.answer.Answer.{Answer}
use Rattle.site_base.specs.declared.answer.Answer.TheVariants as answers
use Rattle.site_base.specs.declared.refusal.Refusal.{Refusal}
use Rattle.site_base.specs.declared.refusal.Refusal.TheVariants as refusals
use Rattle.site_base.specs.declared.state.PointState.{PointState}
use Rattle.site_base.specs.declared.state.PointState.TheVariants.{Inoperative, Closed, Idle}
use Rattle.site_base.specs.declared.state.PointState.TheVariants.{Calling, Authorised, Started}
use Rattle.site_base.specs.declared.state.PointState.TheVariants.{SuspendedStarted, Fuelling}
use Rattle.site_base.specs.declared.state.PointState.TheVariants.{SuspendedFuelling}
use Rattle.site_base.specs.declared.state.Preset.{Preset}
use Rattle.site_base.specs.declared.state.Status.{Status}
use Rattle.site_base.specs.declared.state.Status.TheVariants.{Cleared, Payable, Locked}
use Rattle.site_base.specs.declared.view.PointView.{PointView}
use Rattle.site_base.specs.declared.view.ProductView.{ProductView}
use Rattle.site_base.specs.declared.view.SiteView.{SiteView}
use Rattle.site_base.specs.declared.view.TransactionView.{TransactionView}
use Rattle.site_base.specs.contracts.answer.AnswerPartialEq.TheImpl as answer
use Rattle.site_base.specs.contracts.refusal.RefusalPartialEq.TheImpl as refusal
use Rattle.site_base.specs.contracts.state.PointStatePartialEq.TheImpl as states
use Rattle.site_base.specs.contracts.state.PresetPartialEq.TheImpl as presets
use Rattle.site_base.specs.contracts.state.StatusPartialEq.TheImpl as statuses
use Rattle.site_base.specs.contracts.view.PointViewPartialEq.TheImpl as points
use Rattle.site_base.specs.contracts.view.ProductViewPartialEq.TheImpl as products
use Rattle.site_base.specs.contracts.view.SiteViewPartialEq.TheImpl as sites
use Rattle.site_base.specs.contracts.view.TransactionViewPartialEq.TheImpl as transactions
use Rattle.counter_desk.proofs.Same.{both, clash, one, same_presets}

same_options : (a b : Option ℕ) → option_eq nat_eq a b ≡ true → a ≡ b
same_options None None is = refl
same_options (Some n) (Some m) is = one Some n m is
same_options a b is = clash is

same_bools : (a b : Bool) → beq a b ≡ true → a ≡ b
same_bools true true is = refl
same_bools false false is = refl
same_bools true false is = clash is
same_bools false true is = clash is

same_states : (a b : PointState) → states.ghosts.eq a b ≡ true → a ≡ b
same_states Inoperative Inoperative is = refl
same_states Closed Closed is = refl
same_states Idle Idle is = refl
same_states Calling Calling is = refl
same_states Authorised Authorised is = refl
same_states Started Started is = refl
same_states SuspendedStarted SuspendedStarted is = refl
same_states Fuelling Fuelling is = refl
same_states SuspendedFuelling SuspendedFuelling is = refl
same_states a b is = clash is

same_statuses : (a b : Status) → statuses.ghosts.eq a b ≡ true → a ≡ b
same_statuses Cleared Cleared is = refl
same_statuses Payable Payable is = refl
same_statuses Locked Locked is = refl
same_statuses a b is = clash is

-- ---- views

point_parts : (s₁ s₂ : PointState) (o₁ o₂ h₁ h₂ : Option ℕ) (e₁ e₂ t₁ t₂ : Bool) (p₁ p₂ : Preset)
    (c₁ c₂ : Option ℕ) (m₁ m₂ v₁ v₂ : ℕ)
    → s₁ ≡ s₂ → o₁ ≡ o₂ → h₁ ≡ h₂ → e₁ ≡ e₂ → t₁ ≡ t₂ → p₁ ≡ p₂ → c₁ ≡ c₂ → m₁ ≡ m₂ → v₁ ≡ v₂
    → ◌≡◌ {A = PointView} (record {
      state = s₁;
      out = o₁;
      holder = h₁;
      ending = e₁;
      test = t₁;
      preset = p₁;
      prepaid = c₁;
      price = m₁;
      volume = v₁;
    })
    (record {
      state = s₂;
      out = o₂;
      holder = h₂;
      ending = e₂;
      test = t₂;
      preset = p₂;
      prepaid = c₂;
      price = m₂;
      volume = v₂;
    })
point_parts s₁ s₂ o₁ o₂ h₁ h₂ e₁ e₂ t₁ t₂ p₁ p₂ c₁ c₂ m₁ m₂ v₁ v₂ s o h e t p c m v = cc

same_points : (a b : PointView) → points.ghosts.eq a b ≡ true → a ≡ b
same_points a b is =
    let r7 : Bool = a.price == b.price && a.volume == b.volume in
    let r6 : Bool = option_eq nat_eq a.prepaid b.prepaid && r7 in
    let r5 : Bool = presets.ghosts.eq a.preset b.preset && r6 in
    let r4 : Bool = beq a.test b.test && r5 in
    let r3 : Bool = beq a.ending b.ending && r4 in
    let r2 : Bool = option_eq nat_eq a.holder b.holder && r3 in
    let r1 : Bool = option_eq nat_eq a.out b.out && r2 in
    let p1 = both (states.ghosts.eq a.state b.state) r1 is in
    let p2 = both (option_eq nat_eq a.out b.out) r2 p1.1 in
    let p3 = both (option_eq nat_eq a.holder b.holder) r3 p2.1 in
    let p4 = both (beq a.ending b.ending) r4 p3.1 in
    let p5 = both (beq a.test b.test) r5 p4.1 in
    let p6 = both (presets.ghosts.eq a.preset b.preset) r6 p5.1 in
    let p7 = both (option_eq nat_eq a.prepaid b.prepaid) r7 p6.1 in
    let p8 = both (a.price == b.price) (a.volume == b.volume) p7.1 in
    point_parts a.state b.state a.out b.out a.holder b.holder a.ending b.ending a.test b.test
    a.preset b.preset a.prepaid b.prepaid a.price b.price a.volume b.volume
    (same_states a.state b.state p1.0) (same_options a.out b.out p2.0)
    (same_options a.holder b.holder p3.0) (same_bools a.ending b.ending p4.0)
    (same_bools a.test b.test p5.0) (same_presets a.preset b.preset p6.0)
    (same_options a.prepaid b.prepaid p7.0) (eqb-true a.price b.price p8.0)
    (eqb-true a.volume b.volume p8.1)

transaction_parts : (m₁ m₂ v₁ v₂ c₁ c₂ : ℕ) (p₁ p₂ : Option ℕ) (s₁ s₂ : Status) (t₁ t₂ : Option ℕ)
    (q₁ q₂ : ℕ)
    → m₁ ≡ m₂ → v₁ ≡ v₂ → c₁ ≡ c₂ → p₁ ≡ p₂ → s₁ ≡ s₂ → t₁ ≡ t₂ → q₁ ≡ q₂
    → ◌≡◌ {A = TransactionView} (record {
      price = m₁;
      volume = v₁;
      cents = c₁;
      prepaid = p₁;
      status = s₁;
      till = t₁;
      product = q₁;
    })
    (record {
      price = m₂;
      volume = v₂;
      cents = c₂;
      prepaid = p₂;
      status = s₂;
      till = t₂;
      product = q₂;
    })
transaction_parts m₁ m₂ v₁ v₂ c₁ c₂ p₁ p₂ s₁ s₂ t₁ t₂ q₁ q₂ m v c p s t q = cc

same_transactions : (a b : TransactionView) → transactions.ghosts.eq a b ≡ true → a ≡ b
same_transactions a b is =
    let r5 : Bool = option_eq nat_eq a.till b.till && a.product == b.product in
    let r4 : Bool = statuses.ghosts.eq a.status b.status && r5 in
    let r3 : Bool = option_eq nat_eq a.prepaid b.prepaid && r4 in
    let r2 : Bool = a.cents == b.cents && r3 in
    let r1 : Bool = a.volume == b.volume && r2 in
    let p1 = both (a.price == b.price) r1 is in
    let p2 = both (a.volume == b.volume) r2 p1.1 in
    let p3 = both (a.cents == b.cents) r3 p2.1 in
    let p4 = both (option_eq nat_eq a.prepaid b.prepaid) r4 p3.1 in
    let p5 = both (statuses.ghosts.eq a.status b.status) r5 p4.1 in
    let p6 = both (option_eq nat_eq a.till b.till) (a.product == b.product) p5.1 in
    transaction_parts a.price b.price a.volume b.volume a.cents b.cents a.prepaid b.prepaid a.status
    b.status a.till b.till a.product b.product
    (eqb-true a.price b.price p1.0) (eqb-true a.volume b.volume p2.0)
    (eqb-true a.cents b.cents p3.0) (same_options a.prepaid b.prepaid p4.0)
    (same_statuses a.status b.status p5.0) (same_options a.till b.till p6.0)
    (eqb-true a.product b.product p6.1)

product_parts : (m₁ m₂ a₁ a₂ b₁ b₂ c₁ c₂ d₁ d₂ e₁ e₂ f₁ f₂ : ℕ)
    → m₁ ≡ m₂ → a₁ ≡ a₂ → b₁ ≡ b₂ → c₁ ≡ c₂ → d₁ ≡ d₂ → e₁ ≡ e₂ → f₁ ≡ f₂
    → ◌≡◌ {A = ProductView} (record {
      price = m₁;
      metered = a₁;
      running = b₁;
      payable = c₁;
      locked = d₁;
      cleared = e₁;
      adjusted = f₁;
    })
    (record {
      price = m₂;
      metered = a₂;
      running = b₂;
      payable = c₂;
      locked = d₂;
      cleared = e₂;
      adjusted = f₂;
    })
product_parts m₁ m₂ a₁ a₂ b₁ b₂ c₁ c₂ d₁ d₂ e₁ e₂ f₁ f₂ m a b c d e f = cc

same_products : (a b : ProductView) → products.ghosts.eq a b ≡ true → a ≡ b
same_products a b is =
    let r5 : Bool = a.cleared == b.cleared && a.adjusted == b.adjusted in
    let r4 : Bool = a.locked == b.locked && r5 in
    let r3 : Bool = a.payable == b.payable && r4 in
    let r2 : Bool = a.running == b.running && r3 in
    let r1 : Bool = a.metered == b.metered && r2 in
    let p1 = both (a.price == b.price) r1 is in
    let p2 = both (a.metered == b.metered) r2 p1.1 in
    let p3 = both (a.running == b.running) r3 p2.1 in
    let p4 = both (a.payable == b.payable) r4 p3.1 in
    let p5 = both (a.locked == b.locked) r5 p4.1 in
    let p6 = both (a.cleared == b.cleared) (a.adjusted == b.adjusted) p5.1 in
    product_parts a.price b.price a.metered b.metered a.running b.running a.payable b.payable
    a.locked b.locked a.cleared b.cleared a.adjusted b.adjusted
    (eqb-true a.price b.price p1.0) (eqb-true a.metered b.metered p2.0)
    (eqb-true a.running b.running p3.0) (eqb-true a.payable b.payable p4.0)
    (eqb-true a.locked b.locked p5.0) (eqb-true a.cleared b.cleared p6.0)
    (eqb-true a.adjusted b.adjusted p6.1)

site_parts : (c₁ c₂ s₁ s₂ : ℕ) → c₁ ≡ c₂ → s₁ ≡ s₂
    → ◌≡◌ {A = SiteView} (record { cents = c₁; shift = s₁ }) (record { cents = c₂; shift = s₂ })
site_parts c₁ c₂ s₁ s₂ c s = cc

same_sites : (a b : SiteView) → sites.ghosts.eq a b ≡ true → a ≡ b
same_sites a b is =
    let p1 = both (a.cents == b.cents) (a.shift == b.shift) is in
    site_parts a.cents b.cents a.shift b.shift (eqb-true a.cents b.cents p1.0)
    (eqb-true a.shift b.shift p1.1)

-- ---- answers and refusals

same_answers : (a b : Answer) → answer.ghosts.eq a b ≡ true → a ≡ b
same_answers answers.Done answers.Done is = refl
same_answers answers.Calling answers.Calling is = refl
same_answers (answers.Start x m) (answers.Start y n) is =
    let parts = both (presets.ghosts.eq x y) (m == n) is in
    let preset = same_presets x y parts.0 in let price = eqb-true m n parts.1 in cc
same_answers (answers.Flowed n) (answers.Flowed m) is = one answers.Flowed n m is
same_answers answers.HungUp answers.HungUp is = refl
same_answers answers.NoSale answers.NoSale is = refl
same_answers (answers.Sold s n) (answers.Sold t m) is =
    let parts = both (s == t) (n == m) is in
    let seq = eqb-true s t parts.0 in let growth = eqb-true n m parts.1 in cc
same_answers answers.Stopped answers.Stopped is = refl
same_answers answers.Ending answers.Ending is = refl
same_answers answers.Locked answers.Locked is = refl
same_answers answers.Unlocked answers.Unlocked is = refl
same_answers (answers.Cleared n) (answers.Cleared m) is = one answers.Cleared n m is
same_answers (answers.ShiftClosed n) (answers.ShiftClosed m) is = one answers.ShiftClosed n m is
same_answers (answers.Drawn n) (answers.Drawn m) is = one answers.Drawn n m is
same_answers (answers.PointIs x) (answers.PointIs y) is = ap answers.PointIs (same_points x y is)
same_answers (answers.TransactionIs x) (answers.TransactionIs y) is =
    ap answers.TransactionIs (same_transactions x y is)
same_answers (answers.ProductIs x) (answers.ProductIs y) is =
    ap answers.ProductIs (same_products x y is)
same_answers (answers.SiteIs x) (answers.SiteIs y) is = ap answers.SiteIs (same_sites x y is)
same_answers a b is = clash is

same_refusals : (a b : Refusal) → refusal.ghosts.eq a b ≡ true → a ≡ b
same_refusals refusals.NotSignedOn refusals.NotSignedOn is = refl
same_refusals refusals.SignedOn refusals.SignedOn is = refl
same_refusals refusals.NoSuchPoint refusals.NoSuchPoint is = refl
same_refusals refusals.NoSuchNozzle refusals.NoSuchNozzle is = refl
same_refusals refusals.NoSuchProduct refusals.NoSuchProduct is = refl
same_refusals refusals.NoSuchTransaction refusals.NoSuchTransaction is = refl
same_refusals refusals.NotManager refusals.NotManager is = refl
same_refusals refusals.BadPrice refusals.BadPrice is = refl
same_refusals refusals.BadPreset refusals.BadPreset is = refl
same_refusals (refusals.WrongState x) (refusals.WrongState y) is =
    ap refusals.WrongState (same_states x y is)
same_refusals (refusals.AssignedToOther t) (refusals.AssignedToOther u) is =
    one refusals.AssignedToOther t u is
same_refusals refusals.NotYours refusals.NotYours is = refl
same_refusals refusals.NotYourPoint refusals.NotYourPoint is = refl
same_refusals (refusals.WrongNozzle t) (refusals.WrongNozzle u) is = one refusals.WrongNozzle t u is
same_refusals refusals.BufferFull refusals.BufferFull is = refl
same_refusals refusals.SequenceSpent refusals.SequenceSpent is = refl
same_refusals (refusals.MeterGap t) (refusals.MeterGap u) is = one refusals.MeterGap t u is
same_refusals (refusals.MeterBack t) (refusals.MeterBack u) is = one refusals.MeterBack t u is
same_refusals refusals.MeterJump refusals.MeterJump is = refl
same_refusals (refusals.LockedByOther t) (refusals.LockedByOther u) is =
    one refusals.LockedByOther t u is
same_refusals refusals.NotLocked refusals.NotLocked is = refl
same_refusals (refusals.AlreadyCleared t) (refusals.AlreadyCleared u) is =
    one refusals.AlreadyCleared t u is
same_refusals refusals.Ending refusals.Ending is = refl
same_refusals refusals.ShiftsSpent refusals.ShiftsSpent is = refl
same_refusals refusals.MeterSpent refusals.MeterSpent is = refl
same_refusals a b is = clash is

pub same_replies : (a b : Result Answer Refusal)
    → result_eq answer.ghosts.eq refusal.ghosts.eq a b ≡ true → a ≡ b
same_replies (Ok x) (Ok y) is = ap Ok (same_answers x y is)
same_replies (Err x) (Err y) is = ap Err (same_refusals x y is)
same_replies a b is = clash is
