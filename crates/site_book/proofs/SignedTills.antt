-- How many tills are signed on, row by row; no more than there may be.
use Rattle.std.proofs.Common.{◌≡◌, ◌≢◌, ℕ, zero, suc, ◌+◌, ◌-◌, ◌≤◌, ◌==◌, ◌&&◌, not, Bool, true}
use Rattle.std.proofs.Common.{false, cond, Option, Some, None, unwrap_or, Ok, Err, refl, sym, ap}
use Rattle.std.proofs.Common.{◌∙◌, if◌then◌else◌, is_ok, subst, arith}
use Rattle.std.proofs.lemmas.Bool.{false≢true}
use Rattle.std.proofs.lemmas.Bool.Decides.{nat_tests}
use Rattle.std.specs.Ordering.{nat_cmp}
use Rattle.std.specs.Cmp.{nat_cmp_total, unsigned_tied}
use Rattle.std.specs.FinSet as set
use Rattle.site_base.specs.declared.actor.Actor.{Actor}
use Rattle.site_base.specs.declared.actor.Actor.TheVariants.{Till, Dispenser}
use Rattle.site_base.specs.declared.event.Event.{Event}
use Rattle.site_base.specs.declared.event.Event.TheVariants.{SignOn, SignOff}
use Rattle.site_base.specs.declared.limits.TheConstants.{TILLS}
use Rattle.site_base.specs.declared.refusal.Refusal.{Refusal}
use Rattle.site_base.specs.declared.refusal.Refusal.TheVariants.{NotSignedOn, SignedOn}
use Rattle.site_base.specs.declared.row.Row.{Row}
use Rattle.site_base.specs.Checks.{unless}
use Rattle.site_base.specs.SignChanges.{sign_change}
use Rattle.written_site.specs.SiteState.{SiteState, is_signed_on}
use Rattle.written_site.specs.SiteChecks.{Passed}
use Rattle.written_site.specs.SiteStep.{accepted_site, reply_to, site_after, site_answer}
use Rattle.written_site.specs.RowWords.{signing_said, signing_of}
use Rattle.written_site.proofs.RowWords.{of_row}
use Rattle.written_site.proofs.SigningLaws.{signed_row}
use Rattle.site_book.specs.SignedOn.{AreTills, IsTillActor, tills_on, tills_with}

-- ---- how many

-- a till that isn't signed on may sign on
isn't_on : (b : Bool) → unless (not b) SignedOn ≡ None → b ≡ false
isn't_on true passes = cc
isn't_on false passes = refl

is_on : (b : Bool) → unless b NotSignedOn ≡ None → b ≡ true
is_on true passes = refl
is_on false passes = cc

-- the same after a row, where it was so many before
abbrev pub tills_after : Row → ℕ → ℕ
tills_after r on = tills_with (sign_change r.actor r.event r.reply) on

counted_accepted : (s : SiteState) (a : Actor) (e : Event) → Passed s a e
    → tills_on (accepted_site s a e)
    ≡ tills_with (sign_change a e (Ok (site_answer s e))) (tills_on s)
counted_accepted s (Till t) SignOn passes =
    set.len-insert nat_cmp_total s.signed_on t
    ∙ ap (λ b. cond b (tills_on s) (tills_on s + 1)) (isn't_on (is_signed_on s t) passes.signs)
counted_accepted s (Till t) SignOff passes =
    set.len-remove nat_cmp_total s.signed_on t
    ∙ ap (λ b. cond b (tills_on s - 1) (tills_on s)) (is_on (is_signed_on s t) passes.signs)
counted_accepted s (Dispenser d) SignOn passes = cc
counted_accepted s (Dispenser d) SignOff passes = cc
counted_accepted s a e passes = refl

counted_refused : (a : Actor) (e : Event) (refusal : Refusal) (on : ℕ)
    → on ≡ tills_with (sign_change a e (Err refusal)) on
counted_refused (Till t) SignOn refusal on = refl
counted_refused (Till t) SignOff refusal on = refl
counted_refused a e refusal on = refl

-- one row more
pub counted_row : (s : SiteState) (r : Row) → r.reply ≡ reply_to s r.actor r.event
    → tills_on (site_after s r.actor r.event) ≡ tills_after r (tills_on s)
counted_row s r replies =
    of_row (λ row new. tills_on new ≡ tills_after row (tills_on s)) s r replies
    (λ refusal. counted_refused r.actor r.event refusal (tills_on s))
    (λ passes. counted_accepted s r.actor r.event passes)

-- ---- which

-- what such a row says, where it was accepted
said_by : (ok : Bool) (said : Option Bool) → (if ok then said else None) ≡ Some true
    → said ≡ Some true
said_by true said is = is
said_by false said is = cc

-- one row more
pub tills_row : (s : SiteState) (r : Row) → r.reply ≡ reply_to s r.actor r.event
    → IsTillActor r.actor → AreTills s → AreTills (site_after s r.actor r.event)
tills_row s r replies actor tills t is =
    by_said (signing_of t r) refl (sym (signed_row t s r replies) ∙ is)
  where
    by_actor : (a : Actor) (e : Event) → IsTillActor a → signing_said t a e ≡ Some true
        → (1 ≤ t) × (t ≤ TILLS)
    by_actor (Till u) SignOn range said = by_test (u == t) refl said
      where
        by_test : (b : Bool) → (u == t) ≡ b
            → (if b then Some true else None) ≡ Some true → (1 ≤ t) × (t ≤ TILLS)
        by_test true same said =
            let alike : u ≡ t = grind (arith, nat_tests) in
            subst (λ x. (1 ≤ x) × (x ≤ TILLS)) alike range
        by_test false same said = cc
    by_actor (Till u) SignOff range said = by_test (u == t) said
      where
        by_test : (b : Bool) → (if b then Some false else None) ≡ Some true
            → (1 ≤ t) × (t ≤ TILLS)
        by_test true said = cc
        by_test false said = cc
    by_actor a e range said = cc

    by_said : (o : Option Bool) → signing_of t r ≡ o
        → unwrap_or o (is_signed_on s t) ≡ true → (1 ≤ t) × (t ≤ TILLS)
    by_said None said on = tills t on
    by_said (Some false) said on = absurd (false≢true on)
    by_said (Some true) said on =
        by_actor r.actor r.event actor
        (said_by (is_ok r.reply) (signing_said t r.actor r.event) said)

-- ---- no more than there may be

nobody : (s : set.FinSet nat_cmp) → ((t : ℕ) → set.contains s t ≡ true → (1 ≤ t) × (t ≤ 0))
    → (t : ℕ) → set.contains s t ≡ false
nobody s members t = by_test (set.contains s t) refl
  where
    by_test : (b : Bool) → set.contains s t ≡ b → b ≡ false
    by_test true is = let within = members t is in absurd (omega (arith, within.0, within.1))
    by_test false is = refl

pub no_more : (n : ℕ) (s : set.FinSet nat_cmp)
    → ((t : ℕ) → set.contains s t ≡ true → (1 ≤ t) × (t ≤ n)) → set.len s ≤ n
no_more zero s members =
    let none : s ≡ set.empty = set.same_set nat_cmp_total set.nat_cmp-IsAntisymmetric s set.empty
    (λ t. nobody s members t ∙ sym (set.contains-empty nat_cmp t)) in
    let count : set.len s ≡ 0 = ap set.len none ∙ set.len-empty nat_cmp in
    omega (arith, count)
no_more (suc n) s members =
    let rest : set.FinSet nat_cmp = set.remove s (suc n) in
    let fewer : set.len rest ≤ n = no_more n rest below in
    by_test (set.contains s (suc n)) (set.len-remove nat_cmp_total s (suc n)) fewer
  where
    by_test : (b : Bool) → set.len (set.remove s (suc n)) ≡ cond b (set.len s - 1) (set.len s)
        → set.len (set.remove s (suc n)) ≤ n → set.len s ≤ suc n
    by_test true counted fewer = omega (arith, counted, fewer)
    by_test false counted fewer = omega (arith, counted, fewer)

    below : (t : ℕ) → set.contains (set.remove s (suc n)) t ≡ true → (1 ≤ t) × (t ≤ n)
    below t is =
        by_same (t == suc n) refl
        (
        ap (λ (b : Bool). not b && set.contains s t) (sym (unsigned_tied t (suc n)))
        ∙ sym (set.contains-remove nat_cmp_total s (suc n) t)
        ∙ is
        )
      where
        by_same : (b : Bool) → (t == suc n) ≡ b → (not b && set.contains s t) ≡ true
            → (1 ≤ t) × (t ≤ n)
        by_same true same both = absurd (false≢true both)
        by_same false same both =
            let within : (1 ≤ t) × (t ≤ suc n) = members t both in
            let apart : t ≢ suc n = grind (arith, nat_tests) in
            (within.0, omega (arith, within.1, apart))

-- who is signed on is counted
pub one_on : (s : SiteState) (t : ℕ) → is_signed_on s t ≡ true → 1 ≤ tills_on s
one_on s t is = by_count (tills_on s) refl
  where
    by_count : (n : ℕ) → tills_on s ≡ n → 1 ≤ tills_on s
    by_count zero none =
        let nobody : s.signed_on ≡ set.empty = set.empty_of_len s.signed_on none in
        absurd (false≢true (sym (set.contains-empty nat_cmp t)
        ∙ ap (λ (x : set.FinSet nat_cmp). set.contains x t) (sym nobody) ∙ is))
    by_count (suc n) some = omega (arith, some)
