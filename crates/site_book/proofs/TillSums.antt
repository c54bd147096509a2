-- The tills' cents add up to those of the rows' Cleared answers.
use Rattle.std.proofs.Common.{◌≡◌, ◌≢◌, ℕ, zero, suc, ◌+◌, ◌<◌, ◌≤◌, ◌==◌, Bool, true, false, List}
use Rattle.std.proofs.Common.{[], ◌∷◌, ◌++◌, Option, Some, None, unwrap_or, Result, Ok, Err, refl}
use Rattle.std.proofs.Common.{sym, ◌∙◌, if◌then◌else◌, arith}
use Rattle.std.proofs.lemmas.Bool.Decides.{nat_tests}
use Rattle.std.specs.List.{range_with_len}
use Rattle.site_base.specs.declared.actor.Actor.{Actor}
use Rattle.site_base.specs.declared.actor.Actor.TheVariants.{Till, Dispenser}
use Rattle.site_base.specs.declared.answer.Answer.{Answer}
use Rattle.site_base.specs.declared.answer.Answer.TheVariants.{Cleared}
use Rattle.site_base.specs.declared.event.Event.{Event}
use Rattle.site_base.specs.declared.event.Event.TheVariants.{Clear, Terminate, ReadTransaction}
use Rattle.site_base.specs.declared.event.Event.TheVariants.{ReadProduct, Lift, Flow, Offline}
use Rattle.site_base.specs.declared.event.Event.TheVariants.{HangUp}
use Rattle.site_base.specs.declared.limits.TheConstants.{TILLS}
use Rattle.site_base.specs.declared.refusal.Refusal.{Refusal}
use Rattle.site_base.specs.declared.row.Row.{Row}
use Rattle.site_base.specs.declared.view.TransactionView.{TransactionView}
use Rattle.site_base.specs.Configured.{Configured}
use Rattle.site_base.specs.Events.{cents_in_reply}
use Rattle.site_base.specs.Table.{row_of}
use Rattle.written_site.specs.Histories.{Moment, moments_after, moments_of}
use Rattle.written_site.specs.RowWords.{total}
use Rattle.written_site.specs.ShiftFigures.{cents_by, clears_by, till_totals, tills}
use Rattle.written_site.specs.ShiftLaws.{AreClearsCounted, cents_cleared, cents_for}
use Rattle.written_site.specs.SiteChecks.{Passed, flow_since}
use Rattle.written_site.specs.SiteRun.{IsLegal}
use Rattle.written_site.specs.SiteState.{SiteState, opening, view_sale}
use Rattle.written_site.specs.SiteStep.{product_told, reply_to, sale_told, site_after, site_answer}
use Rattle.written_site.specs.SiteStep.{step_at}
use Rattle.written_site.proofs.ListSums.{total_map, total_same, total_swapped, total_zero}
use Rattle.written_site.proofs.RowWords.{of_row}
use Rattle.written_site.proofs.ToldCents.{told_step}
use Rattle.site_book.specs.Book.{AreActors, site_at}
use Rattle.site_book.specs.SignedOn.{IsTillActor}

-- ---- one till among all

-- the cents of a Cleared answer, for the till that it is told to
abbrev cents_at : ℕ → ℕ → ℕ → ℕ
cents_at u cents t = unwrap_or (if u == t then Some cents else None) 0

none_later : (u cents from n : ℕ) → u < from → total (cents_at u cents) (range_with_len from n) ≡ 0
none_later u cents from zero below = refl
none_later u cents from (suc n) below =
    let rest = none_later u cents (from + 1) n (omega (arith, below)) in
    let here : cents_at u cents from ≡ 0 = by_test (u == from) refl in
    omega (arith, rest, here)
  where
    by_test : (b : Bool) → (u == from) ≡ b
        → ◌≡◌ {A = ℕ} (unwrap_or (if b then Some cents else None) 0) 0
    by_test true is = let same : u ≡ from =
        grind (arith, nat_tests) in absurd (omega (arith, same, below))
    by_test false is = refl

one_till : (u cents from n : ℕ) → from ≤ u → u < from + n
    → total (cents_at u cents) (range_with_len from n) ≡ cents
one_till u cents from zero low high = absurd (omega (arith, low, high))
one_till u cents from (suc n) low high =
    by_test (u == from) refl (λ above. one_till u cents (from + 1) n above (omega (arith, high)))
  where
    by_test : (b : Bool) → (u == from) ≡ b
        → (from + 1 ≤ u → total (cents_at u cents) (range_with_len (from + 1) n) ≡ cents)
        → unwrap_or (if b then Some cents else None) 0
        + total (cents_at u cents) (range_with_len (from + 1) n) ≡ cents
    by_test true is later =
        let same : u ≡ from = grind (arith, nat_tests) in
        let rest = none_later u cents (from + 1) n (omega (arith, same)) in omega (arith, rest)
    by_test false is later =
        let apart : u ≢ from = grind (arith, nat_tests) in
        let rest = later (omega (arith, low, apart)) in omega (arith, rest)

-- ---- a dispenser is told nothing cleared

told_sale : (view : Option TransactionView) → cents_in_reply (Ok (sale_told view)) ≡ 0
told_sale None = refl
told_sale (Some view) = refl

told_product : (s : SiteState) (q : ℕ) (price : Option ℕ)
    → cents_in_reply (Ok (product_told s q price)) ≡ 0
told_product s q None = refl
told_product s q (Some price) = refl

told_dispenser : (s : SiteState) (d : ℕ) (e : Event) → Passed s (Dispenser d) e
    → cents_in_reply (Ok (site_answer s e)) ≡ 0
told_dispenser s d (Clear p id) passes = (let asks = passes.asks in absurd cc)
told_dispenser s d (Terminate p) passes = told_step s p 0 (step_at s (Terminate p))
told_dispenser s d (Offline p) passes = told_step s p 0 (step_at s (Offline p))
told_dispenser s d (Lift p n reading) passes = told_step s p 0 (step_at s (Lift p n reading))
told_dispenser s d (Flow p n reading) passes =
    told_step s p (flow_since s p n reading) (step_at s (Flow p n reading))
told_dispenser s d (HangUp p n reading) passes =
    told_step s p (flow_since s p n reading) (step_at s (HangUp p n reading))
told_dispenser s d (ReadTransaction p id) passes = told_sale (view_sale s p id)
told_dispenser s d (ReadProduct q) passes = told_product s q (row_of q s.prices)
told_dispenser s d e passes = refl

-- ---- one row

-- what all tills are told cleared by a row
abbrev by_tills : Actor → Result Answer Refusal → ℕ
by_tills a reply = total (λ t. unwrap_or (cents_cleared t a reply) 0) tills

by_till : (u : ℕ) (reply : Result Answer Refusal) → (1 ≤ u) × (u ≤ TILLS)
    → by_tills (Till u) reply ≡ cents_in_reply reply
by_till u (Ok (Cleared cents)) range = one_till u cents 1 TILLS range.0 (omega (arith, range.1))
by_till u reply range = total_zero tills

by_dispenser : (d : ℕ) (reply : Result Answer Refusal) → cents_in_reply reply ≡ 0
    → by_tills (Dispenser d) reply ≡ cents_in_reply reply
by_dispenser d reply none = total_zero tills ∙ sym none

accepted : (s : SiteState) (a : Actor) (e : Event) → IsTillActor a → Passed s a e
    → by_tills a (Ok (site_answer s e)) ≡ cents_in_reply (Ok (site_answer s e))
accepted s (Till u) e range passes = by_till u (Ok (site_answer s e)) range
accepted s (Dispenser d) e range passes =
    by_dispenser d (Ok (site_answer s e)) (told_dispenser s d e passes)

refused : (a : Actor) (refusal : Refusal) → IsTillActor a
    → by_tills a (Err refusal) ≡ cents_in_reply (Err refusal)
refused (Till u) refusal range = by_till u (Err refusal) range
refused (Dispenser d) refusal range = by_dispenser d (Err refusal) refl

one_row : (s : SiteState) (r : Row) → r.reply ≡ reply_to s r.actor r.event → IsTillActor r.actor
    → by_tills r.actor r.reply ≡ cents_in_reply r.reply
one_row s r replies actor =
    of_row (λ row new. by_tills row.actor row.reply ≡ cents_in_reply row.reply) s r replies
    (λ refusal. refused r.actor refusal actor)
    (λ passes. accepted s r.actor r.event actor passes)

-- ---- all rows

all_rows : (earlier : List Row) (s : SiteState) (rows : List Row) → IsLegal s rows → AreActors rows
    → total (λ m. total (λ t. cents_for t m) tills) (moments_after earlier s rows)
    ≡ total (λ r. cents_in_reply r.reply) rows
all_rows earlier s [] legal actors = refl
all_rows earlier s (r ∷ rows) legal actors =
    let rest = all_rows (earlier ++ r ∷ []) (site_after s r.actor r.event) rows legal.1 actors.1 in
    let here = one_row s r legal.0 actors.0 in
    omega (arith, rest, here)

pub cents_of_tills : (c : Configured) (rows : List Row) → IsLegal (opening c) rows → AreActors rows
    → AreClearsCounted c rows (site_at c rows)
    → total (λ t. t.2) (till_totals (site_at c rows)) ≡ total (λ r. cents_in_reply r.reply) rows
cents_of_tills c rows legal actors counted =
    let s : SiteState = site_at c rows in
    let moments : List Moment = moments_of c rows in
    total_map (λ (t : ℕ × ℕ × ℕ). t.2) (λ (t : ℕ). (t, clears_by t s.sales, cents_by t s.sales))
    tills
    ∙ total_same (λ (t : ℕ). cents_by t s.sales) (λ (t : ℕ). total (cents_for t) moments) tills
    counted.all_cents
    ∙ total_swapped cents_for tills moments
    ∙ all_rows [] (opening c) rows legal actors
