-- A transaction that the site has stays there, and a cleared one stays cleared, whatever rows
-- follow. What a legal row sold is there.
use Rattle.std.proofs.Common.{◌≡◌, ℕ, Bool, true, false, cond, List, [], ◌∷◌, ◌++◌, Option}
use Rattle.std.proofs.Common.{option_map, Some, None, Result, Ok, Err, refl, sym, ap, subst, ◌∙◌}
use Rattle.std.proofs.Common.{arith}
use Rattle.std.specs.List.{AllByRecursion}
use Rattle.std.proofs.lemmas.Bool.{eq-eqb, false≢true}
use Rattle.site_base.specs.declared.actor.Actor.{Actor}
use Rattle.site_base.specs.declared.actor.Actor.TheVariants.{Till}
use Rattle.site_base.specs.declared.event.Event.{Event}
use Rattle.site_base.specs.declared.event.Event.TheVariants.{SignOff, Lock, Unlock, Clear}
use Rattle.site_base.specs.declared.event.Event.TheVariants.{Offline, HangUp}
use Rattle.site_base.specs.declared.refusal.Refusal.{Refusal}
use Rattle.site_base.specs.declared.row.Row.{Row}
use Rattle.site_base.specs.Checks.{value_or}
use Rattle.transaction_buffer.specs.declared.request.Request.{Request}
use Rattle.transaction_buffer.specs.declared.request.Request.TheVariants as requests
use Rattle.transaction_buffer.specs.declared.standing.Standing.{Standing}
use Rattle.transaction_buffer.specs.declared.standing.Standing.TheVariants.{Payable, LockedBy}
use Rattle.transaction_buffer.specs.declared.standing.Standing.TheVariants.{ClearedBy}
use Rattle.transaction_buffer.specs.Sales.{Key, Sale, Sales, is_unpaid, next_key, sale_of, sales_at}
use Rattle.transaction_buffer.specs.Sales.{same_key, with_new}
use Rattle.transaction_buffer.specs.TransactionTable.{Line, after_request, after_sign_off}
use Rattle.transaction_buffer.specs.TransactionTable.{is_locked_by, line_for, sale_after}
use Rattle.transaction_buffer.specs.TransactionTable.{sale_after_request, unlock_all_of}
use Rattle.transaction_buffer.proofs.InShift.{none_next}
use Rattle.transaction_buffer.proofs.Reading.{one_sale, read_after}
use Rattle.transaction_buffer.proofs.Rules.{accepted_unpaid}
use Rattle.written_site.specs.Histories.{Moment, moments_after}
use Rattle.written_site.specs.SaleWords.{sold_as}
use Rattle.written_site.specs.SiteChecks.{first_refusal}
use Rattle.written_site.specs.SiteRun.{site_of_rows, IsLegal}
use Rattle.written_site.specs.SiteState.{SiteState, key_named, open_shift}
use Rattle.written_site.specs.SiteStep.{accepted_site, nozzles_after, reply_to, sale_made}
use Rattle.written_site.specs.SiteStep.{sales_after, sales_by, site_after, step_at}
use Rattle.written_site.proofs.RowFacts.{Known, known_more}
use Rattle.written_site.proofs.SlotRows.{moment_at}
use Rattle.written_site.proofs.SoldRows.{sells_here}
use Rattle.written_site.proofs.SoundSales.{sells}

-- ---- one change of the sales

-- The transaction of this name is there later. If it is cleared now, it is cleared then.
pub record Stays (k : Key) (x : Sale) (later : Sales) : Type 0 where
  pub sale : Sale
  pub there : sale_of k later ≡ Some sale
  pub cleared : is_unpaid x.standing ≡ false → is_unpaid sale.standing ≡ false

-- each transaction stays
abbrev pub AllStay : Sales → Sales → Type 0
AllStay now later = (k : Key) (x : Sale) → sale_of k now ≡ Some x → Stays k x later

-- where nothing changes
all_stay_unchanged : (s : Sales) → AllStay s s
all_stay_unchanged s k x is = record { sale = x; there = is; cleared = λ over. over }

-- through two changes
all_stay_twice : (a b c : Sales) → AllStay a b → AllStay b c → AllStay a c
all_stay_twice a b c first second k x is =
    let one = first k x is in
    let two = second k one.sale one.there in
    record {
      sale = two.sale;
      there = two.there;
      cleared = λ over. two.cleared (one.cleared over);
    }

-- a request changes nothing of a cleared transaction
cleared_when_asked : (request : Request) (t : ℕ) (x : Sale) → is_unpaid x.standing ≡ false
    → is_unpaid (sale_after_request request t x).standing ≡ false
cleared_when_asked request t x over = by_line (line_for request t x) refl
  where
    by_line : (l : Result Line Refusal) → line_for request t x ≡ l
        → is_unpaid (sale_after l x).standing ≡ false
    by_line (Ok l) is = absurd (false≢true (sym over ∙ accepted_unpaid request t x l is))
    by_line (Err refusal) is = over

all_stay_when_asked : (request : Request) (t : ℕ) (j : Key) (s : Sales)
    → AllStay s (after_request request t j s)
all_stay_when_asked request t j s k x is =
    by_name (same_key k j) (read_after.asked_for t request j k s)
  where
    by_name : (b : Bool)
        → sale_of k (after_request request t j s)
        ≡ cond b (option_map (sale_after_request request t) (sale_of k s)) (sale_of k s)
        → Stays k x (after_request request t j s)
    by_name true found = record {
      sale = sale_after_request request t x;
      there = found ∙ ap (option_map (sale_after_request request t)) is;
      cleared = cleared_when_asked request t x;
    }
    by_name false found = record { sale = x; there = found ∙ is; cleared = λ over. over }

-- a sign-off changes only what is locked
locked_is_unpaid : (t : ℕ) (standing : Standing) → is_locked_by t standing ≡ true
    → is_unpaid standing ≡ true
locked_is_unpaid t Payable is = refl
locked_is_unpaid t (LockedBy u) is = refl
locked_is_unpaid t (ClearedBy u shift) is = is

cleared_when_let_go : (t : ℕ) (x : Sale) → is_unpaid x.standing ≡ false
    → is_unpaid (unlock_all_of t x).standing ≡ false
cleared_when_let_go t x over = by_test (is_locked_by t x.standing) refl
  where
    by_test : (b : Bool) → is_locked_by t x.standing ≡ b
        → is_unpaid (cond b (record x { standing = Payable }) x).standing ≡ false
    by_test true locked =
        absurd (false≢true (sym over ∙ locked_is_unpaid t x.standing locked))
    by_test false locked = over

all_stay_when_let_go : (t : ℕ) (s : Sales) → AllStay s (after_sign_off t s)
all_stay_when_let_go t s k x is = record {
  sale = unlock_all_of t x;
  there = read_after.signed_off t k s ∙ ap (option_map (unlock_all_of t)) is;
  cleared = cleared_when_let_go t x;
}

-- a new sale has a name of its own
all_stay_when_sold : (p : ℕ) (y : Sale) (s : Sales) → AllStay s (with_new p y s)
all_stay_when_sold p y s k x is = by_name (same_key k (next_key p y.shift s)) refl
  where
    by_name : (b : Bool) → same_key k (next_key p y.shift s) ≡ b → Stays k x (with_new p y s)
    by_name true at =
        let both : Some x ≡ None =
        sym is ∙ one_sale k (next_key p y.shift s) s at ∙ none_next y.shift (sales_at p s) in
        absurd cc
    by_name false at = record {
      sale = x;
      there = read_after.sold p y k s
          ∙ ap (λ (b : Bool). cond b (Some y) (sale_of k s)) at
          ∙ is;
      cleared = λ over. over;
    }

-- ---- rows

-- A step of a point changes the sales only where it sells. The nozzles and the step are of the
-- types that sales_by takes.
sales_of_step : (s : SiteState) (nozzles : _) (p : ℕ) (step : _)
    → sales_by s nozzles p step
    ≡ cond (sells step) (with_new p (sale_made s nozzles p) s.sales) s.sales
sales_of_step s nozzles p step = grind arith

all_stay_by_step : (s : SiteState) (nozzles : _) (p : ℕ) (step : _)
    → AllStay s.sales (sales_by s nozzles p step)
all_stay_by_step s nozzles p step =
    subst (AllStay s.sales) (sym (sales_of_step s nozzles p step)) (by_test (sells step))
  where
    by_test : (b : Bool)
        → AllStay s.sales (cond b (with_new p (sale_made s nozzles p) s.sales) s.sales)
    by_test true = all_stay_when_sold p (sale_made s nozzles p) s.sales
    by_test false = all_stay_unchanged s.sales

all_stay_accepted : (s : SiteState) (a : Actor) (e : Event) → AllStay s.sales (sales_after s a e)
all_stay_accepted s (Till t) SignOff = all_stay_when_let_go t s.sales
all_stay_accepted s (Till t) (Lock p id) =
    all_stay_when_asked requests.Lock t (key_named s p id) s.sales
all_stay_accepted s (Till t) (Unlock p id) =
    all_stay_when_asked requests.Unlock t (key_named s p id) s.sales
all_stay_accepted s (Till t) (Clear p id) =
    all_stay_when_asked (requests.Clear (open_shift s)) t (key_named s p id) s.sales
all_stay_accepted s a (Offline p) = all_stay_by_step s s.nozzles p (step_at s (Offline p))
all_stay_accepted s a (HangUp p n reading) =
    all_stay_by_step s (nozzles_after s (HangUp p n reading)) p (step_at s (HangUp p n reading))
all_stay_accepted s a e = all_stay_unchanged s.sales

all_stay_after : (s : SiteState) (a : Actor) (e : Event)
    → AllStay s.sales (site_after s a e).sales
all_stay_after s a e = by_refusal (first_refusal s a e)
  where
    by_refusal : (o : Option Refusal)
        → AllStay s.sales (value_or o (accepted_site s a e) s).sales
    by_refusal None = all_stay_accepted s a e
    by_refusal (Some refusal) = all_stay_unchanged s.sales

-- each transaction stays, whatever rows follow
pub all_stay : (s : SiteState) (rows : List Row) → AllStay s.sales (site_of_rows s rows).sales
all_stay s [] = all_stay_unchanged s.sales
all_stay s (r ∷ rows) =
    let next : SiteState = site_after s r.actor r.event in
    all_stay_twice s.sales next.sales (site_of_rows next rows).sales
    (all_stay_after s r.actor r.event) (all_stay next rows)

-- ---- what legal rows sold

-- what follows of each is so of each
pub AllByRecursion-weaker : {X : Type 0} (P Q : X → Type 0) → ((x : X) → P x → Q x) → (xs : List X)
    → AllByRecursion P xs → AllByRecursion Q xs
AllByRecursion-weaker P Q weaker [] all = tt
AllByRecursion-weaker P Q weaker (x ∷ xs) all =
    (weaker x all.0, AllByRecursion-weaker P Q weaker xs all.1)

-- the site has a transaction of this name
abbrev pub Has : SiteState → Key → Type 0
Has s k = (x : Sale) × (sale_of k s.sales ≡ Some x)

pub has_later : (now later : SiteState) (k : Key) → AllStay now.sales later.sales → Has now k
    → Has later k
has_later now later k stay has = let kept = stay k has.0 has.1 in (kept.sale, kept.there)

same_self : (k : Key) → same_key k k ≡ true
same_self k =
    rw (eq-eqb k.point k.point refl, eq-eqb k.shift k.shift refl, eq-eqb k.number k.number refl)
    refl

-- the transaction that a legal row sold is there after it
sold_is_there : (k : Key) (earlier : List Row) (s : SiteState) (r : Row) → Known earlier s
    → r.reply ≡ reply_to s r.actor r.event → sold_as (moment_at earlier s r) ≡ Some k
    → Has (site_after s r.actor r.event) k
sold_is_there k earlier s r known told sold =
    let here = sells_here k earlier s r known.shift told sold in
    let x : Sale = sale_made s (nozzles_after s r.event) here.point in
    let name : same_key k (next_key here.point (open_shift s) s.sales) ≡ true =
    ap (same_key k) (sym here.name) ∙ same_self k in (
      x,
      ap (λ (y : SiteState). sale_of k y.sales) here.leads
          ∙ ap (sale_of k) here.sales
          ∙ read_after.sold here.point x k s.sales
          ∙ ap (λ (b : Bool). cond b (Some x) (sale_of k s.sales)) name,
    )

-- what the moment sold is there
abbrev pub IsSoldThere : SiteState → Moment → Type 0
IsSoldThere s m = (k : Key) → sold_as m ≡ Some k → Has s k

-- what legal rows sold is there after them
pub all_sold_there : (earlier : List Row) (s : SiteState) (rows : List Row) → Known earlier s
    → IsLegal s rows
    → AllByRecursion (IsSoldThere (site_of_rows s rows)) (moments_after earlier s rows)
all_sold_there earlier s [] known legal = tt
all_sold_there earlier s (r ∷ rows) known legal =
    let next : SiteState = site_after s r.actor r.event in (
      λ k sold. has_later next (site_of_rows next rows) k (all_stay next rows)
          (sold_is_there k earlier s r known legal.0 sold),
      all_sold_there (earlier ++ r ∷ []) next rows (known_more earlier s r known legal.0) legal.1,
    )
