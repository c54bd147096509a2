-- What is sold is what the rows tell of its fuelling, and it stands for good.
use Rattle.std.proofs.Common.{◌≡◌, ℕ, ◌+◌, Bool, true, false, cond, List, [], ◌∷◌, ◌++◌, Option}
use Rattle.std.proofs.Common.{option_map, Some, None, unwrap_or, Result, Ok, Err, refl, sym, ap}
use Rattle.std.proofs.Common.{subst, ◌∙◌, if◌then◌else◌}
use Rattle.site_base.specs.declared.actor.Actor.{Actor}
use Rattle.site_base.specs.declared.actor.Actor.TheVariants.{Till}
use Rattle.site_base.specs.declared.answer.Answer.TheVariants.{Cleared}
use Rattle.site_base.specs.declared.event.Event.{Event}
use Rattle.site_base.specs.declared.event.Event.TheVariants.{SignOff, Lock, Unlock, Clear, Offline}
use Rattle.site_base.specs.declared.event.Event.TheVariants.{HangUp}
use Rattle.site_base.specs.declared.refusal.Refusal.{Refusal}
use Rattle.site_base.specs.declared.row.Row.{Row}
use Rattle.site_base.specs.Configured.{Configured}
use Rattle.fuelling_point.specs.declared.step.PointStep.{PointStep}
use Rattle.fuelling_point.specs.declared.step.PointStep.TheVariants.{Sold}
use Rattle.fuelling_point.specs.KeptPoints.{Facts, growth_of}
use Rattle.meters.specs.Nozzles.{Nozzle}
use Rattle.transaction_buffer.specs.declared.request.Request.{Request}
use Rattle.transaction_buffer.specs.declared.request.Request.TheVariants as requests
use Rattle.transaction_buffer.specs.declared.standing.Standing.{Standing}
use Rattle.transaction_buffer.specs.declared.standing.Standing.TheVariants.{Payable}
use Rattle.transaction_buffer.specs.Sales.{Key, Sale, Sales, same_key, next_key, sales_at, sale_of}
use Rattle.transaction_buffer.specs.TransactionTable.{Line, line_for, sale_after}
use Rattle.transaction_buffer.specs.TransactionTable.{sale_after_request, after_request}
use Rattle.transaction_buffer.specs.TransactionTable.{after_sign_off, is_locked_by, unlock_all_of}
use Rattle.transaction_buffer.proofs.Reading.{read_after, one_sale}
use Rattle.transaction_buffer.proofs.InShift.{none_next}
use Rattle.transaction_buffer.proofs.Rules.{cleared_by_its_locker}
use Rattle.written_site.specs.SiteState.{SiteState, opening, facts_of, key_named, open_shift}
use Rattle.written_site.specs.SiteChecks.{Passed}
use Rattle.written_site.specs.SiteStep.{site_answer, clear_told, step_at, nozzles_after}
use Rattle.written_site.specs.SiteStep.{sales_after, sales_by, sale_made, reply_to, site_after}
use Rattle.written_site.specs.SiteRun.{site_of_rows, IsLegal}
use Rattle.written_site.specs.Histories.{Moment, moments_of}
use Rattle.written_site.specs.RowWords.{OfBooks}
use Rattle.written_site.specs.SaleWords.{key_after, release_after, sold_as, clears_sale}
use Rattle.written_site.specs.FuellingWords.{product_at, growth_at, HasFuelling}
use Rattle.written_site.specs.FuellingLaws.{cents_paid, IsSoldAsRead, IsKeptAsRead, AreSalesKept}
use Rattle.written_site.specs.FuellingLaws.{IsPricedAtStart, ArePricedAtStart}
use Rattle.written_site.specs.Volumes.{nozzle_out}
use Rattle.written_site.proofs.FuellingMoves.{growth_moves}
use Rattle.written_site.proofs.FuellingRows.{KnowsFuel, fuel_at}
use Rattle.written_site.proofs.Lockers.{named_so}
use Rattle.written_site.proofs.LockLaws.{known_at}
use Rattle.written_site.proofs.MomentRows.{placed}
use Rattle.written_site.proofs.RowFacts.{Known}
use Rattle.written_site.proofs.RowWords.{told_row, of_row}
use Rattle.written_site.proofs.SlotRows.{moment_at}
use Rattle.written_site.proofs.SoldRows.{SellsHere, sells_here}
use Rattle.written_site.proofs.SoundMachine.{sold_from}
use Rattle.written_site.proofs.SoundMeters.{product_after}
use Rattle.written_site.proofs.SoundReports.{IsRead}
use Rattle.written_site.proofs.SoundSold.{run_read, under_way_released}
use Rattle.written_site.proofs.SoundTables.{itself, told_once}

-- ---- names

one_key : (k : Key) → same_key k k ≡ true
one_key k = rw (itself k.point, itself k.shift, itself k.number) refl

-- a name that has a sale isn't the next one
not_next : (p h : ℕ) (k : Key) (x : Sale) (sales : Sales) → sale_of k sales ≡ Some x
    → same_key k (next_key p h sales) ≡ false
not_next p h k x sales is = by_test (same_key k (next_key p h sales)) refl
  where
    by_test : (b : Bool) → same_key k (next_key p h sales) ≡ b → b ≡ false
    by_test true at =
        let none : Some x ≡ None = sym is ∙ one_sale k (next_key p h sales) sales at
        ∙ none_next h (sales_at p sales) in
        absurd cc
    by_test false at = refl

-- ---- a sale stands for good

-- a sale of this name, which is x but for how it stands
record Stands (k : Key) (x : Sale) (sales : Sales) : Type 0 where
  standing : Standing
  there : sale_of k sales ≡ Some (record x { standing = standing })

-- a request leaves a sale but for how it stands
asked_same : (request : Request) (t : ℕ) (x : Sale) (y : Standing)
    → (z : Standing) × (sale_after_request request t (record x { standing = y })
    ≡ record x { standing = z })
asked_same request t x y = by_line (line_for request t (record x { standing = y }))
  where
    by_line : (l : Result Line Refusal)
        → (z : Standing) × (sale_after l (record x { standing = y }) ≡ record x { standing = z })
    by_line (Ok l) = (l.leaves, refl)
    by_line (Err refusal) = (y, refl)

asked_stands : (request : Request) (t : ℕ) (j k : Key) (x : Sale) (sales : Sales)
    → Stands k x sales → Stands k x (after_request request t j sales)
asked_stands request t j k x sales is = by_name (same_key k j)
    (read_after.asked_for t request j k sales)
  where
    by_name : (b : Bool)
        → sale_of k (after_request request t j sales)
        ≡ cond b (option_map (sale_after_request request t) (sale_of k sales)) (sale_of k sales)
        → Stands k x (after_request request t j sales)
    by_name true read =
        let same_one = asked_same request t x is.standing in
        record {
          standing = same_one.0;
          there = read ∙ ap (option_map (sale_after_request request t)) is.there
              ∙ ap (λ (y : Sale). Some y) same_one.1;
        }
    by_name false read = record { standing = is.standing; there = read ∙ is.there }

signed_off_stands : (t : ℕ) (k : Key) (x : Sale) (sales : Sales)
    → Stands k x sales → Stands k x (after_sign_off t sales)
signed_off_stands t k x sales is =
    by_test (is_locked_by t is.standing) refl
    (read_after.signed_off t k sales ∙ ap (option_map (unlock_all_of t)) is.there)
  where
    by_test : (b : Bool) → is_locked_by t is.standing ≡ b
        → sale_of k (after_sign_off t sales)
        ≡ Some (unlock_all_of t (record x { standing = is.standing }))
        → Stands k x (after_sign_off t sales)
    by_test true at read = record {
      standing = Payable;
      there = read
          ∙ ap (λ (b : Bool). Some (cond b (record x { standing = Payable })
          (record x { standing = is.standing }))) at;
    }
    by_test false at read = record {
      standing = is.standing;
      there = read
          ∙ ap (λ (b : Bool). Some (cond b (record x { standing = Payable })
          (record x { standing = is.standing }))) at;
    }

stepped_stands : (k : Key) (x : Sale) (s : SiteState) (nozzles : List Nozzle) (p : ℕ)
    (step : PointStep) → Stands k x s.sales → Stands k x (sales_by s nozzles p step)
stepped_stands k x s nozzles p (Sold nozzle volume price prepaid) is =
    let y : Sale = sale_made s nozzles p in
    record {
      standing = is.standing;
      there = read_after.sold p y k s.sales
          ∙ ap (λ (b : Bool). cond b (Some y) (sale_of k s.sales))
          (not_next p y.shift k (record x { standing = is.standing }) s.sales is.there)
          ∙ is.there;
    }
stepped_stands k x s nozzles p step is = is

stands_accepted : (k : Key) (x : Sale) (s : SiteState) (a : Actor) (e : Event)
    → Stands k x s.sales → Stands k x (sales_after s a e)
stands_accepted k x s (Till t) SignOff is = signed_off_stands t k x s.sales is
stands_accepted k x s (Till t) (Lock p id) is =
    asked_stands requests.Lock t (key_named s p id) k x s.sales is
stands_accepted k x s (Till t) (Unlock p id) is =
    asked_stands requests.Unlock t (key_named s p id) k x s.sales is
stands_accepted k x s (Till t) (Clear p id) is =
    asked_stands (requests.Clear (open_shift s)) t (key_named s p id) k x s.sales is
stands_accepted k x s a (Offline p) is =
    stepped_stands k x s s.nozzles p (step_at s (Offline p)) is
stands_accepted k x s a (HangUp p n reading) is =
    stepped_stands k x s (nozzles_after s (HangUp p n reading)) p
    (step_at s (HangUp p n reading)) is
stands_accepted k x s a e is = is

stands_rows : (k : Key) (x : Sale) (s : SiteState) (rs : List Row) → IsLegal s rs
    → Stands k x s.sales → Stands k x (site_of_rows s rs).sales
stands_rows k x s [] legal is = is
stands_rows k x s (r ∷ rs) legal is =
    stands_rows k x (site_after s r.actor r.event) rs legal.1
    (of_row (λ row new. Stands k x new.sales) s r legal.0 (λ refusal. is)
    (λ passes. stands_accepted k x s r.actor r.event is))

-- ---- a sale as it is told

-- the sale that a row tells is what the rows before it tell of its fuelling
sale_told : (c : Configured) (k : Key) (earlier : List Row) (s : SiteState) (r : Row)
    → KnowsFuel c earlier s → (new : SiteState) → (here : SellsHere s r k new)
    → IsSoldAsRead c (moments_of c earlier) (moment_at earlier s r) k
    (sale_made s (nozzles_after s r.event) here.point)
sale_told c k earlier s r fuel new here =
    let p : ℕ = here.point in
    let f : Facts = facts_of s p in
    let from = sold_from here.event f here.nozzle here.volume here.price here.prepaid
    (fuel.known.whole p) here.taken here.sells in
    let on = (fuel.points p).fuels from.was in
    let so = fuel.known.released p (under_way_released f.state from.was) in
    let read : IsRead s r.event = record {
      names = here.passes.names;
      takes = here.passes.takes;
      reads = here.passes.reads;
    } in
    let point : p ≡ k.point = ap (λ (j : Key). j.point) (sym here.name) in
    let growth : growth_at p (moment_at earlier s r) ≡ growth_of here.event =
    ap (λ reply. growth_at p (moment_at earlier s (told_row r.actor r.event reply))) here.told
    ∙ growth_moves s r.actor r.event p here.event earlier here.passes here.own in
    record {
      nozzle = nozzle_out f;
      flowed = f.volume;
      fuelling = subst (λ q. HasFuelling c q (moments_of c earlier) (nozzle_out f) f.price f.volume)
          point on.told;
      volume = run_read s r.event p here.event read here.own (fuel.known.whole p) on.meter from.was
          ∙ ap (λ (v : ℕ). f.volume + v) (sym growth)
          ∙ ap (λ q. f.volume + growth_at q (moment_at earlier s r)) point;
      product = ap (λ (o : Option ℕ). unwrap_or o 0)
          (product_after s r.event p (nozzle_out f) ∙ fuel.products p (nozzle_out f))
          ∙ ap (λ q. unwrap_or (product_at c q (nozzle_out f)) 0) point;
      cents = refl;
      prepaid = so.prepaid ∙ ap cents_paid (sym so.is)
          ∙ ap (λ q. cents_paid (release_after q earlier)) point;
    }

-- how it stands isn't read
restood : (c : Configured) (before : List Moment) (m : Moment) (k : Key) (x : Sale) (y : Standing)
    → IsSoldAsRead c before m k x → IsSoldAsRead c before m k (record x { standing = y })
restood c before m k x y is = record {
  nozzle = is.nozzle;
  flowed = is.flowed;
  fuelling = is.fuelling;
  volume = is.volume;
  product = is.product;
  cents = is.cents;
  prepaid = is.prepaid;
}

-- the sale stands once it is told
new_stands : (k : Key) (s : SiteState) (r : Row) (new : SiteState) → (here : SellsHere s r k new)
    → Stands k (sale_made s (nozzles_after s r.event) here.point) new.sales
new_stands k s r new here =
    let x : Sale = sale_made s (nozzles_after s r.event) here.point in
    let named : same_key k (next_key here.point x.shift s.sales) ≡ true =
    ap (same_key k) (sym here.name) ∙ one_key k in
    record {
      standing = x.standing;
      there = ap (λ (y : SiteState). sale_of k y.sales) here.leads
          ∙ ap (sale_of k) here.sales
          ∙ read_after.sold here.point x k s.sales
          ∙ ap (λ (b : Bool). cond b (Some x) (sale_of k s.sales)) named;
    }

-- ---- a clear

-- an accepted clear is answered with the cents of its sale, which stands on
record ClearsSale (k : Key) (s : SiteState) (r : Row) : Type 0 where
  sale : Sale
  there : sale_of k s.sales ≡ Some sale
  told : r.reply ≡ Ok (Cleared sale.cents)

clear_accepted : (k : Key) (t : ℕ) (earlier : List Row) (s : SiteState) (a : Actor) (e : Event)
    → Known earlier s → Passed s a e
    → clears_sale k (moment_at earlier s (told_row a e (Ok (site_answer s e)))) ≡ Some t
    → ClearsSale k s (told_row a e (Ok (site_answer s e)))
clear_accepted k t earlier s (Till u) (Clear p id) known passes is =
    by_test (same_key k (key_after earlier p id)) refl is
  where
    by_test : (b : Bool) → same_key k (key_after earlier p id) ≡ b
        → ◌≡◌ {A = Option ℕ} (if b then Some u else None) (Some t)
        → ClearsSale k s (told_row (Till u) (Clear p id) (Ok (site_answer s (Clear p id))))
    by_test false other is = cc
    by_test true same is =
        let j : Key = key_named s p id in
        let one : same_key k j ≡ true =
        ap (same_key k) (named_so earlier s p id known.shift) ∙ same in
        let clear = cleared_by_its_locker u (open_shift s) j s.sales passes.pays in
        record {
          sale = clear.0;
          there = one_sale k j s.sales one ∙ clear.1.there;
          told = ap (λ (o : Option Sale). Ok (clear_told o)) clear.1.there;
        }
clear_accepted k t earlier s a e known passes is = absurd cc

clear_row : (k : Key) (t : ℕ) (earlier : List Row) (s : SiteState) (r : Row) → Known earlier s
    → r.reply ≡ reply_to s r.actor r.event → clears_sale k (moment_at earlier s r) ≡ Some t
    → ClearsSale k s r
clear_row k t earlier s r known replies =
    of_row (λ row new. clears_sale k (moment_at earlier s row) ≡ Some t → ClearsSale k s row) s r
    replies
    (λ refusal is. absurd (let none : None ≡ Some t = is in cc))
    (λ passes. clear_accepted k t earlier s r.actor r.event known passes)

-- ---- the law

pub sales_kept : OfBooks AreSalesKept
sales_kept c rows legal = record { stands = stands; cleared = cleared }
  where
    stands : (k : Key) (before since : List Moment) (m : Moment)
        → moments_of c rows ≡ before ++ m ∷ since → sold_as m ≡ Some k
        → IsKeptAsRead c before m k (site_of_rows (opening c) rows)
    stands k before since m parts sold =
        let at = placed c rows before since m legal parts in
        let fuel = subst (KnowsFuel c m.earlier) (sym at.led) (fuel_at c m.earlier at.legal) in
        let new : SiteState = site_after m.before m.row.actor m.row.event in
        let here = sells_here k m.earlier m.before m.row fuel.known.shift at.told sold in
        let x : Sale = sale_made m.before (nozzles_after m.before m.row.event) here.point in
        let kept = stands_rows k x new at.rest at.later (new_stands k m.before m.row new here) in
        record {
          sale = record x { standing = kept.standing };
          there = ap (λ (s : SiteState). sale_of k s.sales) at.ends ∙ kept.there;
          as_read = restood c before m k x kept.standing
              (subst (λ ms. IsSoldAsRead c ms m k x) (sym at.moments)
              (sale_told c k m.earlier m.before m.row fuel new here));
        }

    cleared : (k : Key) (t : ℕ) (before since : List Moment) (m : Moment) (x : Sale)
        → moments_of c rows ≡ before ++ m ∷ since → clears_sale k m ≡ Some t
        → sale_of k (site_of_rows (opening c) rows).sales ≡ Some x
        → m.row.reply ≡ Ok (Cleared x.cents)
    cleared k t before since m x parts is there =
        let at = placed c rows before since m legal parts in
        let known = subst (Known m.earlier) (sym at.led) (known_at c m.earlier at.legal) in
        let clear = clear_row k t m.earlier m.before m.row known at.told is in
        let y : Sale = clear.sale in
        let at_end = stands_rows k y m.before (m.row ∷ at.rest) (at.told, at.later)
        (record { standing = y.standing; there = clear.there }) in
        let one : record y { standing = at_end.standing } ≡ x =
        told_once (record y { standing = at_end.standing }) x
        (sym at_end.there ∙ ap (λ (s : SiteState). sale_of k s.sales) (sym at.ends) ∙ there) in
        clear.told ∙ ap (λ (z : Sale). Ok (Cleared z.cents)) one

pub priced_at_start : OfBooks ArePricedAtStart
priced_at_start c rows legal = record {
  priced = λ k before since m x parts sold there.
      let kept = (sales_kept c rows legal).stands k before since m parts sold in
      subst (λ (y : Sale). IsPricedAtStart c k.point before y.price)
      (told_once kept.sale x (sym kept.there ∙ there))
      (record {
        nozzle = kept.as_read.nozzle;
        flowed = kept.as_read.flowed;
        fuelling = kept.as_read.fuelling;
      });
}
