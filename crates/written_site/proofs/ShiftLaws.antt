-- What tills cleared is what the rows tell.
use Rattle.std.proofs.Common.{◌≡◌, ℕ, ◌+◌, ◌==◌, ◌&&◌, Bool, true, false, List, Option, Some, None}
use Rattle.std.proofs.Common.{is_some, unwrap_or, Ok, Err, refl, sym, ap, subst, ◌∙◌, if◌then◌else◌}
use Rattle.std.proofs.Common.{arith}
use Rattle.site_base.specs.declared.actor.Actor.{Actor}
use Rattle.site_base.specs.declared.actor.Actor.TheVariants.{Till, Dispenser}
use Rattle.site_base.specs.declared.event.Event.{Event}
use Rattle.site_base.specs.declared.event.Event.TheVariants.{Clear, Terminate, ReadTransaction}
use Rattle.site_base.specs.declared.event.Event.TheVariants.{ReadProduct, Lift, Flow, Offline}
use Rattle.site_base.specs.declared.event.Event.TheVariants.{HangUp}
use Rattle.site_base.specs.declared.refusal.Refusal.{Refusal}
use Rattle.site_base.specs.declared.row.Row.{Row}
use Rattle.site_base.specs.declared.view.TransactionView.{TransactionView}
use Rattle.site_base.specs.Table.{row_of}
use Rattle.fuelling_point.specs.declared.step.PointStep.{PointStep}
use Rattle.fuelling_point.specs.declared.step.PointStep.TheVariants as steps
use Rattle.transaction_buffer.specs.Sales.{Sale, Sales}
use Rattle.transaction_buffer.proofs.Rules.{cleared_by_its_locker}
use Rattle.written_site.specs.FigureSteps.{HasClear, HasSameClears, is_clear}
use Rattle.written_site.specs.RowWords.{OfBooks, open_after}
use Rattle.written_site.specs.ShiftFigures.{clears_in, cents_in, clears_by, cents_by}
use Rattle.written_site.specs.ShiftLaws.{cents_cleared, cleared_cents, clears_for, cents_for}
use Rattle.written_site.specs.ShiftLaws.{clears_while, cents_while, AreClearsCounted}
use Rattle.written_site.specs.SiteChecks.{Passed, flow_since}
use Rattle.written_site.specs.SiteState.{SiteState, key_named, open_shift, view_sale}
use Rattle.written_site.specs.SiteStep.{site_answer, step_at, step_told, sale_told, clear_told}
use Rattle.written_site.specs.SiteStep.{product_told, sales_after, reply_to, site_after}
use Rattle.written_site.proofs.ClearFigures.{nothing_keeps, none_in, none_by}
use Rattle.written_site.proofs.FigureMoves.{keeps_clears, has_clear}
use Rattle.written_site.proofs.RowFacts.{Known, known_more, known_first}
use Rattle.written_site.proofs.RowWords.{of_row}
use Rattle.written_site.proofs.SlotRows.{moment_at}
use Rattle.written_site.proofs.SoldRows.{counted}
use Rattle.written_site.proofs.SoundTables.{turned}

-- ---- only a clear is told so

not_cleared_step : (t : ℕ) (a : Actor) (s : SiteState) (p growth : ℕ) (step : PointStep)
    → cents_cleared t a (Ok (step_told s p growth step)) ≡ None
not_cleared_step t (Till u) s p growth steps.Moved = refl
not_cleared_step t (Till u) s p growth step = refl
not_cleared_step t (Dispenser d) s p growth step = refl

not_cleared_sale : (t : ℕ) (a : Actor) (view : Option TransactionView)
    → cents_cleared t a (Ok (sale_told view)) ≡ None
not_cleared_sale t (Till u) None = refl
not_cleared_sale t (Till u) (Some view) = refl
not_cleared_sale t (Dispenser d) view = refl

not_cleared_product : (t : ℕ) (a : Actor) (s : SiteState) (q : ℕ) (price : Option ℕ)
    → cents_cleared t a (Ok (product_told s q price)) ≡ None
not_cleared_product t (Till u) s q None = refl
not_cleared_product t (Till u) s q (Some price) = refl
not_cleared_product t (Dispenser d) s q price = refl

not_cleared : (t : ℕ) (s : SiteState) (a : Actor) (e : Event) → is_clear e ≡ false
    → cents_cleared t a (Ok (site_answer s e)) ≡ None
not_cleared t s a (Clear p id) other = cc
not_cleared t s a (Terminate p) other = not_cleared_step t a s p 0 (step_at s (Terminate p))
not_cleared t s a (Offline p) other = not_cleared_step t a s p 0 (step_at s (Offline p))
not_cleared t s a (Lift p n reading) other =
    not_cleared_step t a s p 0 (step_at s (Lift p n reading))
not_cleared t s a (Flow p n reading) other =
    not_cleared_step t a s p (flow_since s p n reading) (step_at s (Flow p n reading))
not_cleared t s a (HangUp p n reading) other =
    not_cleared_step t a s p (flow_since s p n reading) (step_at s (HangUp p n reading))
not_cleared t s a (ReadTransaction p id) other = not_cleared_sale t a (view_sale s p id)
not_cleared t s a (ReadProduct q) other = not_cleared_product t a s q (row_of q s.prices)
not_cleared t s (Till u) e other = refl
not_cleared t s (Dispenser d) e other = refl

-- ---- one row

-- what a row adds to the figures
record Adds (old new : Sales) (h : ℕ) (cleared : ℕ → Option ℕ) : Type 0 where
  clears : (g u : ℕ) → clears_in g u new
      ≡ clears_in g u old + (if h == g && is_some (cleared u) then 1 else 0)
  cents : (g u : ℕ) → cents_in g u new
      ≡ cents_in g u old + (if h == g then unwrap_or (cleared u) 0 else 0)
  all_clears : (u : ℕ) → clears_by u new ≡ clears_by u old + (if is_some (cleared u) then 1 else 0)
  all_cents : (u : ℕ) → cents_by u new ≡ cents_by u old + unwrap_or (cleared u) 0

stays_so : (v w : ℕ) → w ≡ v → w ≡ v + 0
stays_so v w is = omega (arith, is)

either_way : (b : Bool) → ◌≡◌ {A = ℕ} (if b && false then 1 else 0) 0
either_way true = refl
either_way false = refl

either_none : (b : Bool) → ◌≡◌ {A = ℕ} (if b then 0 else 0) 0
either_none true = refl
either_none false = refl

-- nothing, where nothing is told to be cleared
adds_none : (old new : Sales) (h : ℕ) (cleared : ℕ → Option ℕ) → HasSameClears old new
    → ((u : ℕ) → cleared u ≡ None) → Adds old new h cleared
adds_none old new h cleared kept none = record {
  clears = λ g u. stays_so (clears_in g u old) (clears_in g u new) (kept.clears g u)
      ∙ ap (λ (v : ℕ). clears_in g u old + v)
      (sym (ap (λ o. if h == g && is_some o then 1 else 0) (none u) ∙ either_way (h == g)));
  cents = λ g u. stays_so (cents_in g u old) (cents_in g u new) (kept.cents g u)
      ∙ ap (λ (v : ℕ). cents_in g u old + v)
      (sym (ap (λ o. if h == g then unwrap_or o 0 else 0) (none u) ∙ either_none (h == g)));
  all_clears = λ u. stays_so (clears_by u old) (clears_by u new) (kept.all_clears u)
      ∙ ap (λ o. clears_by u old + (if is_some o then 1 else 0)) (sym (none u));
  all_cents = λ u. stays_so (cents_by u old) (cents_by u new) (kept.all_cents u)
      ∙ ap (λ o. cents_by u old + unwrap_or o 0) (sym (none u));
}

-- one clear of till t
adds_clear : (old new : Sales) (t h : ℕ) (x : Sale) → HasClear old new t h x
    → Adds old new h (λ u. if t == u then Some x.cents else None)
adds_clear old new t h x clear = record {
  clears = λ g u. clear.clears g u
      ∙ ap (λ (v : ℕ). clears_in g u old + v) (one (g == h) (h == g) (turned g h) (u == t) (t == u)
      (turned u t));
  cents = λ g u. clear.cents g u
      ∙ ap (λ (v : ℕ). cents_in g u old + v) (sum (g == h) (h == g) (turned g h) (u == t) (t == u)
      (turned u t));
  all_clears = λ u. clear.all_clears u
      ∙ ap (λ (v : ℕ). clears_by u old + v) (one_of (u == t) (t == u) (turned u t));
  all_cents = λ u. clear.all_cents u
      ∙ ap (λ (v : ℕ). cents_by u old + v) (sum_of (u == t) (t == u) (turned u t));
}
  where
    one : (a b : Bool) → a ≡ b → (d e : Bool) → d ≡ e
        → ◌≡◌ {A = ℕ} (if a && d then 1 else 0)
        (if b && is_some (if e then Some x.cents else None) then 1 else 0)
    one true true same true true same' = refl
    one true true same false false same' = refl
    one false false same true true same' = refl
    one false false same false false same' = refl
    one a b same d e same' = cc

    sum : (a b : Bool) → a ≡ b → (d e : Bool) → d ≡ e
        → ◌≡◌ {A = ℕ} (if a && d then x.cents else 0)
        (if b then unwrap_or (if e then Some x.cents else None) 0 else 0)
    sum true true same true true same' = refl
    sum true true same false false same' = refl
    sum false false same true true same' = refl
    sum false false same false false same' = refl
    sum a b same d e same' = cc

    one_of : (d e : Bool) → d ≡ e
        → ◌≡◌ {A = ℕ} (if d then 1 else 0) (if is_some
        (if e then Some x.cents else None) then 1 else 0)
    one_of true true same = refl
    one_of false false same = refl
    one_of d e same = cc

    sum_of : (d e : Bool) → d ≡ e
        → ◌≡◌ {A = ℕ} (if d then x.cents else 0) (unwrap_or (if e then Some x.cents else None) 0)
    sum_of true true same = refl
    sum_of false false same = refl
    sum_of d e same = cc

adds_accepted : (s : SiteState) (a : Actor) (e : Event) → Passed s a e
    → Adds s.sales (sales_after s a e) (open_shift s)
    (λ u. cents_cleared u a (Ok (site_answer s e)))
adds_accepted s (Till t) (Clear p id) passes =
    let clear = cleared_by_its_locker t (open_shift s) (key_named s p id) s.sales passes.pays in
    subst (λ (o : Option Sale). Adds s.sales (sales_after s (Till t) (Clear p id)) (open_shift s)
    (λ u. cents_cleared u (Till t) (Ok (clear_told o)))) (sym clear.1.there)
    (adds_clear s.sales (sales_after s (Till t) (Clear p id)) t (open_shift s) clear.0
    (has_clear s t p id clear.0 clear.1.there passes.pays))
adds_accepted s (Dispenser d) (Clear p id) passes = (let asks = passes.asks in absurd cc)
adds_accepted s a e passes =
    adds_none s.sales (sales_after s a e) (open_shift s)
    (λ u. cents_cleared u a (Ok (site_answer s e)))
    (keeps_clears s a e refl) (λ u. not_cleared u s a e refl)

adds_row : (earlier : List Row) (s : SiteState) (r : Row) → Known earlier s
    → r.reply ≡ reply_to s r.actor r.event
    → Adds s.sales (site_after s r.actor r.event).sales (open_after earlier)
    (λ u. cleared_cents u (moment_at earlier s r))
adds_row earlier s r known replies =
    of_row (λ row new. Adds s.sales new.sales (open_after earlier)
    (λ u. cleared_cents u (moment_at earlier s row))) s r replies
    (λ refusal. adds_none s.sales s.sales (open_after earlier) _ (nothing_keeps s.sales)
    (λ u. none_cleared u r.actor refusal))
    (λ passes. subst (λ h. Adds s.sales (sales_after s r.actor r.event) h
    (λ u. cents_cleared u r.actor (Ok (site_answer s r.event)))) known.shift
    (adds_accepted s r.actor r.event passes))
  where
    none_cleared : (u : ℕ) (a : Actor) (refusal : Refusal) → cents_cleared u a (Err refusal) ≡ None
    none_cleared u (Till t) refusal = refl
    none_cleared u (Dispenser d) refusal = refl

-- ---- all rows

pub clears_counted : OfBooks AreClearsCounted
clears_counted c rows legal = record {
  clears = λ h t.
      counted Known known_more (λ s. clears_in h t s.sales)
      (λ m. if clears_while h t m then 1 else 0)
      (λ earlier s r known replies. (adds_row earlier s r known replies).clears h t)
      c rows (known_first c) legal (none_in h t).0;
  cents = λ h t.
      counted Known known_more (λ s. cents_in h t s.sales) (cents_while h t)
      (λ earlier s r known replies. (adds_row earlier s r known replies).cents h t)
      c rows (known_first c) legal (none_in h t).1;
  all_clears = λ t.
      counted Known known_more (λ s. clears_by t s.sales)
      (λ m. if clears_for t m then 1 else 0)
      (λ earlier s r known replies. (adds_row earlier s r known replies).all_clears t)
      c rows (known_first c) legal (none_by t).0;
  all_cents = λ t.
      counted Known known_more (λ s. cents_by t s.sales) (cents_for t)
      (λ earlier s r known replies. (adds_row earlier s r known replies).all_cents t)
      c rows (known_first c) legal (none_by t).1;
}
