-- One locker and one clear, for every legal history.
use Rattle.std.proofs.Common.{◌≡◌, ◌≢◌, ◌↔◌, ℕ, ◌==◌, ◌&&◌, ◌||◌, Bool, true, false, List, [], ◌∷◌}
use Rattle.std.proofs.Common.{◌++◌, Option, option_and_then, Some, None, is_some, Ok, ◌⊎◌, inl, inr}
use Rattle.std.proofs.Common.{refl, sym, ap, subst, ◌∙◌, if◌then◌else◌}
use Rattle.std.specs.List.{list_any}
use Rattle.std.proofs.lemmas.List.{append_assoc}
use Rattle.site_base.specs.declared.actor.Actor.{Actor}
use Rattle.site_base.specs.declared.actor.Actor.TheVariants.{Till}
use Rattle.site_base.specs.declared.event.Event.{Event}
use Rattle.site_base.specs.declared.event.Event.TheVariants.{SignOff, Lock, Unlock, Clear, Offline}
use Rattle.site_base.specs.declared.event.Event.TheVariants.{HangUp}
use Rattle.site_base.specs.declared.row.Row.{Row}
use Rattle.site_base.specs.Configured.{Configured}
use Rattle.fuelling_point.specs.declared.step.PointStep.{PointStep}
use Rattle.fuelling_point.specs.declared.step.PointStep.TheVariants.{Sold}
use Rattle.meters.specs.Nozzles.{Nozzle}
use Rattle.std.specs.Ordering.{nat_cmp}
use Rattle.std.specs.FinMap.{get-empty}
use Rattle.transaction_buffer.specs.declared.request.Request.TheVariants as requests
use Rattle.transaction_buffer.specs.declared.standing.Standing.TheVariants.{ClearedBy}
use Rattle.transaction_buffer.specs.Laws.{asks, signs_off, sells}
use Rattle.transaction_buffer.specs.Sales.{Key, Sale, Sales, same_key, sale_of}
use Rattle.transaction_buffer.specs.TransactionTable.{refusal_of, locker, locker_of, after_request}
use Rattle.transaction_buffer.proofs.Reading.{one_sale}
use Rattle.transaction_buffer.proofs.Rules.{cleared_for_good, cleared_by_its_locker, one_locker}
use Rattle.written_site.specs.SiteState.{SiteState, opening, key_named, open_shift}
use Rattle.written_site.specs.SiteChecks.{Passed}
use Rattle.written_site.specs.SiteStep.{accepted_site, site_answer, step_at, nozzles_after}
use Rattle.written_site.specs.SiteStep.{sales_after, sales_by, sale_made, reply_to, site_after}
use Rattle.written_site.specs.SiteRun.{site_of_rows, IsLegal}
use Rattle.written_site.specs.Histories.{Moment, moments_after, moments_of}
use Rattle.written_site.specs.RowWords.{OfBooks}
use Rattle.written_site.specs.SaleWords.{key_after, locks_sale, lets_go, ends_lock, clears_sale}
use Rattle.written_site.specs.LockLaws.{AreLockedByOne, AreClearedOnce}
use Rattle.written_site.specs.Slots.{IsLastTake}
use Rattle.written_site.proofs.Lockers.{named_so, does_lock}
use Rattle.written_site.proofs.MomentRows.{placed, head_is}
use Rattle.written_site.proofs.RowFacts.{Known, known_more, known_first}
use Rattle.written_site.proofs.RowWords.{told_row, of_row, kept}
use Rattle.written_site.proofs.Slots.{next, MayTake}
use Rattle.written_site.proofs.SlotRows.{Does, IsSlot, moment_at, slot_unended}
use Rattle.written_site.proofs.SoundTables.{itself, told_once}

is_slot : (k : Key)
    → IsSlot (λ s. locker_of k s.sales) (locks_sale k) (ends_lock k) Known
is_slot k = record { keeps = known_more; does = does_lock k }

-- rows that are known lead to a site that is
pub known_at : (c : Configured) (rows : List Row) → IsLegal (opening c) rows
    → Known rows (site_of_rows (opening c) rows)
known_at c rows legal = kept Known known_more [] (opening c) rows (known_first c) legal

pub unended : (c : Configured) (rows : List Row) → IsLegal (opening c) rows → (k : Key) (t : ℕ)
    → (locker_of k (site_of_rows (opening c) rows).sales ≡ Some t)
    ↔ IsLastTake (locks_sale k) (ends_lock k) t (moments_of c rows)
unended c rows legal k t =
    slot_unended (is_slot k) c rows (known_first c) (no_locker k) legal t
  where
    no_locker : (k : Key) → locker_of k (opening c).sales ≡ None
    no_locker k = rw (get-empty nat_cmp k.point) refl

-- ---- cleared for good

-- the transaction is cleared
record IsCleared (k : Key) (sales : Sales) : Type 0 where
  sale : Sale
  till : ℕ
  shift : ℕ
  there : sale_of k sales ≡ Some sale
  cleared : sale.standing ≡ ClearedBy till shift

cleared_by_step : (k : Key) (s : SiteState) (nozzles : List Nozzle) (p : ℕ) (step : PointStep)
    (x : Sale) (t h : ℕ) → sale_of k s.sales ≡ Some x → x.standing ≡ ClearedBy t h
    → sale_of k (sales_by s nozzles p step) ≡ Some x
cleared_by_step k s nozzles p (Sold nozzle volume price prepaid) x t h there is =
    cleared_for_good (sells p (sale_made s nozzles p)) s.sales k x t h there is
cleared_by_step k s nozzles p step x t h there is = there

cleared_after : (k : Key) (s : SiteState) (a : Actor) (e : Event) (x : Sale) (t h : ℕ)
    → sale_of k s.sales ≡ Some x → x.standing ≡ ClearedBy t h
    → sale_of k (sales_after s a e) ≡ Some x
cleared_after k s (Till u) SignOff x t h there is =
    cleared_for_good (signs_off u) s.sales k x t h there is
cleared_after k s (Till u) (Lock p id) x t h there is =
    cleared_for_good (asks u requests.Lock (key_named s p id)) s.sales k x t h there is
cleared_after k s (Till u) (Unlock p id) x t h there is =
    cleared_for_good (asks u requests.Unlock (key_named s p id)) s.sales k x t h there is
cleared_after k s (Till u) (Clear p id) x t h there is =
    cleared_for_good (asks u (requests.Clear (open_shift s)) (key_named s p id)) s.sales k x t h
    there is
cleared_after k s a (Offline p) x t h there is =
    cleared_by_step k s s.nozzles p (step_at s (Offline p)) x t h there is
cleared_after k s a (HangUp p n reading) x t h there is =
    cleared_by_step k s (nozzles_after s (HangUp p n reading)) p
    (step_at s (HangUp p n reading)) x t
    h there is
cleared_after k s a e x t h there is = there

stays_cleared : (k : Key) (s : SiteState) (r : Row) → r.reply ≡ reply_to s r.actor r.event
    → IsCleared k s.sales → IsCleared k (site_after s r.actor r.event).sales
stays_cleared k s r replies is =
    of_row (λ row new. IsCleared k new.sales) s r replies (λ refusal. is)
    (λ passes. record {
      sale = is.sale;
      till = is.till;
      shift = is.shift;
      there = cleared_after k s r.actor r.event is.sale is.till is.shift is.there is.cleared;
      cleared = is.cleared;
    })

-- ---- a clear

-- a row that clears the transaction: the till had locked it, and it is cleared then
record ClearsHere (k : Key) (t : ℕ) (s new : SiteState) : Type 0 where
  locked : locker_of k s.sales ≡ Some t
  cleared : IsCleared k new.sales

cleared_here : (k j : Key) (t : ℕ) (s new : SiteState)
    → refusal_of (requests.Clear (open_shift s)) t j s.sales ≡ None → same_key k j ≡ true
    → new.sales ≡ after_request (requests.Clear (open_shift s)) t j s.sales
    → ClearsHere k t s new
cleared_here k j t s new accepted same leads =
    let clear = cleared_by_its_locker t (open_shift s) j s.sales accepted in
    let x : Sale = clear.0 in
    record {
      locked = ap (λ o. locker_in o) (one_sale k j s.sales same ∙ clear.1.there)
          ∙ ap locker clear.1.locked;
      cleared = record {
        sale = record x { standing = ClearedBy t (open_shift s) };
        till = t;
        shift = open_shift s;
        there = ap (sale_of k) leads
            ∙ one_sale k j (after_request (requests.Clear (open_shift s)) t j s.sales) same
            ∙ clear.1.cleared;
        cleared = refl;
      };
    }
  where
    locker_in : Option Sale → Option ℕ
    locker_in o = option_and_then (λ (x : Sale). locker x.standing) o

clears_accepted : (k : Key) (t : ℕ) (earlier : List Row) (s : SiteState) (a : Actor) (e : Event)
    → Known earlier s → Passed s a e
    → clears_sale k (moment_at earlier s (told_row a e (Ok (site_answer s e)))) ≡ Some t
    → ClearsHere k t s (accepted_site s a e)
clears_accepted k t earlier s (Till u) (Clear p id) known passes is =
    by_test (same_key k (key_after earlier p id)) refl is
  where
    by_test : (b : Bool) → same_key k (key_after earlier p id) ≡ b
        → ◌≡◌ {A = Option ℕ} (if b then Some u else None) (Some t)
        → ClearsHere k t s (accepted_site s (Till u) (Clear p id))
    by_test false other is = cc
    by_test true same is =
        subst (λ v. ClearsHere k v s (accepted_site s (Till u) (Clear p id))) (told_once u t is)
        (cleared_here k (key_named s p id) u s (accepted_site s (Till u) (Clear p id)) passes.pays
        (ap (same_key k) (named_so earlier s p id known.shift) ∙ same) refl)
clears_accepted k t earlier s a e known passes is = absurd cc

clears_row : (k : Key) (t : ℕ) (earlier : List Row) (s : SiteState) (r : Row) → Known earlier s
    → r.reply ≡ reply_to s r.actor r.event → clears_sale k (moment_at earlier s r) ≡ Some t
    → ClearsHere k t s (site_after s r.actor r.event)
clears_row k t earlier s r known replies =
    of_row (λ row new. clears_sale k (moment_at earlier s row) ≡ Some t → ClearsHere k t s new) s r
    replies
    (λ refusal is. absurd (let none : None ≡ Some t = is in cc))
    (λ passes. clears_accepted k t earlier s r.actor r.event known passes)

-- a cleared transaction has no locker
no_locker : (k : Key) (sales : Sales) → IsCleared k sales → locker_of k sales ≡ None
no_locker k sales is =
    ap (λ o. option_and_then (λ (x : Sale). locker x.standing) o) is.there ∙ ap locker is.cleared

-- so no row clears it again
not_again : (k : Key) (earlier : List Row) (s : SiteState) (r : Row) → Known earlier s
    → r.reply ≡ reply_to s r.actor r.event → IsCleared k s.sales
    → is_some (clears_sale k (moment_at earlier s r)) ≡ false
not_again k earlier s r known replies is = by_clear (clears_sale k (moment_at earlier s r)) refl
  where
    by_clear : (o : Option ℕ) → clears_sale k (moment_at earlier s r) ≡ o → is_some o ≡ false
    by_clear None at = refl
    by_clear (Some t) at =
        let here = clears_row k t earlier s r known replies at in
        let both : Some t ≡ None = sym here.locked ∙ no_locker k s.sales is in
        absurd cc

none_after : (k : Key) (earlier : List Row) (s : SiteState) (rs : List Row) → Known earlier s
    → IsLegal s rs → IsCleared k s.sales
    → list_any (λ x. is_some (clears_sale k x)) (moments_after earlier s rs) ≡ false
none_after k earlier s [] known legal is = refl
none_after k earlier s (r ∷ rs) known legal is =
    let rest = none_after k (earlier ++ r ∷ []) (site_after s r.actor r.event) rs
    (known_more earlier s r known legal.0) legal.1 (stays_cleared k s r legal.0 is) in
    ap (λ (b : Bool). b || list_any (λ x. is_some (clears_sale k x))
    (moments_after (earlier ++ r ∷ []) (site_after s r.actor r.event) rs))
    (not_again k earlier s r known legal.0 is) ∙ rest

pub cleared_once : OfBooks AreClearedOnce
cleared_once c rows legal = record { once = once; locked = locked }
  where
    here : (k : Key) (t : ℕ) (before since : List Moment) (m : Moment)
        → moments_of c rows ≡ before ++ m ∷ since → clears_sale k m ≡ Some t
        → ClearsHere k t m.before (site_after m.before m.row.actor m.row.event)
    here k t before since m parts is =
        let at = placed c rows before since m legal parts in
        let known = subst (Known m.earlier) (sym at.led) (known_at c m.earlier at.legal) in
        clears_row k t m.earlier m.before m.row known at.told is

    once : (k : Key) (t : ℕ) (before since : List Moment) (m : Moment)
        → moments_of c rows ≡ before ++ m ∷ since → clears_sale k m ≡ Some t
        → list_any (λ x. is_some (clears_sale k x)) since ≡ false
    once k t before since m parts is =
        let at = placed c rows before since m legal parts in
        let known = subst (Known m.earlier) (sym at.led) (known_at c m.earlier at.legal) in
        ap (list_any (λ x. is_some (clears_sale k x))) at.after
        ∙ none_after k (m.earlier ++ m.row ∷ []) (site_after m.before m.row.actor m.row.event)
        at.rest
        (known_more m.earlier m.before m.row known at.told) at.later
        (here k t before since m parts is).cleared

    locked : (k : Key) (t : ℕ) (before since : List Moment) (m : Moment)
        → moments_of c rows ≡ before ++ m ∷ since → clears_sale k m ≡ Some t
        → IsLastTake (locks_sale k) (ends_lock k) t before
    locked k t before since m parts is =
        let at = placed c rows before since m legal parts in
        subst (IsLastTake (locks_sale k) (ends_lock k) t) (sym at.moments)
        ((unended c m.earlier at.legal k t).0
        (ap (λ s. locker_of k s.sales) (sym at.led) ∙ (here k t before since m parts is).locked))

-- ---- one locker

-- till t has locked the transaction, or it is cleared
abbrev Keeps : Key → ℕ → SiteState → Type 0
Keeps k t s = (locker_of k s.sales ≡ Some t) ⊎ IsCleared k s.sales

-- what doesn't end the lock leaves it, whoever takes it
goes_on : (take : Option ℕ) (t : ℕ) (ends : ℕ → Bool) (old new : Option ℕ)
    → Does old new take ends → old ≡ Some t → ends t ≡ false → new ≡ Some t
goes_on (Some v) t ends old new done is unended =
    let mine : MayTake (Some v) (Some t) = subst (MayTake (Some v)) is done.may in
    done.holder ∙ ap (λ (n : ℕ). Some n) (sym mine)
goes_on None t ends old new done is unended =
    done.holder ∙ ap (λ o. next None o ends) is
    ∙ ap (λ (b : Bool). if b then None else Some t) unended

-- an unlock of what till t has locked is its own
own_unlock : (k j : Key) (t u : ℕ) (sales : Sales) → refusal_of requests.Unlock u j sales ≡ None
    → same_key k j ≡ true → locker_of k sales ≡ Some t → u ≡ t
own_unlock k j t u sales accepted same is =
    let its : locker_of k sales ≡ locker_of j sales =
    ap (λ o. option_and_then (λ (x : Sale). locker x.standing) o) (one_sale k j sales same) in
    told_once u t (sym (one_locker.own u j sales accepted) ∙ sym its ∙ is)

-- what the till that has locked it doesn't let go is kept, by an accepted event
keeps_accepted : (k : Key) (t : ℕ) (earlier : List Row) (s : SiteState) (a : Actor) (e : Event)
    → Known earlier s → Passed s a e → locker_of k s.sales ≡ Some t
    → lets_go k t (moment_at earlier s (told_row a e (Ok (site_answer s e)))) ≡ false
    → (ends_lock k t (moment_at earlier s (told_row a e (Ok (site_answer s e)))) ≡ false)
    ⊎ IsCleared k (accepted_site s a e).sales
keeps_accepted k t earlier s (Till u) (Unlock p id) known passes is stays =
    inl (by_test (same_key k (key_after earlier p id)) refl stays)
  where
    by_test : (b : Bool) → same_key k (key_after earlier p id) ≡ b → (u == t && b) ≡ false
        → b ≡ false
    by_test false other stays = refl
    by_test true same stays =
        let own : u ≡ t = own_unlock k (key_named s p id) t u s.sales passes.pays
        (ap (same_key k) (named_so earlier s p id known.shift) ∙ same) is in
        let one : (u == t) ≡ true = ap (λ (v : ℕ). v == t) own ∙ itself t in
        sym (ap (λ (b : Bool). b && true) one) ∙ stays
keeps_accepted k t earlier s (Till u) (Clear p id) known passes is stays =
    by_test (same_key k (key_after earlier p id)) refl
  where
    by_test : (b : Bool) → same_key k (key_after earlier p id) ≡ b
        → (b ≡ false) ⊎ IsCleared k (accepted_site s (Till u) (Clear p id)).sales
    by_test false other = inl refl
    by_test true same =
        inr (cleared_here k (key_named s p id) u s
        (accepted_site s (Till u) (Clear p id)) passes.pays
        (ap (same_key k) (named_so earlier s p id known.shift) ∙ same) refl).cleared
keeps_accepted k t earlier s (Till u) SignOff known passes is stays = inl stays
keeps_accepted k t earlier s a e known passes is stays = inl refl

keeps_row : (k : Key) (t : ℕ) (earlier : List Row) (s : SiteState) (r : Row) → Known earlier s
    → r.reply ≡ reply_to s r.actor r.event → Keeps k t s
    → lets_go k t (moment_at earlier s r) ≡ false → Keeps k t (site_after s r.actor r.event)
keeps_row k t earlier s r known replies (inr is) stays = inr (stays_cleared k s r replies is)
keeps_row k t earlier s r known replies (inl is) stays =
    by_end (of_row (λ row new. lets_go k t (moment_at earlier s row) ≡ false
    → (ends_lock k t (moment_at earlier s row) ≡ false) ⊎ IsCleared k new.sales) s r replies
    (λ refusal stays. inl refl)
    (λ passes. keeps_accepted k t earlier s r.actor r.event known passes is)
    stays)
  where
    by_end : (ends_lock k t (moment_at earlier s r) ≡ false)
        ⊎ IsCleared k (site_after s r.actor r.event).sales → Keeps k t
        (site_after s r.actor r.event)
    by_end (inl unended) =
        inl (goes_on (locks_sale k (moment_at earlier s r)) t
        (λ u. ends_lock k u (moment_at earlier s r)) (locker_of k s.sales)
        (locker_of k (site_after s r.actor r.event).sales)
        (does_lock k earlier s r known replies) is unended)
    by_end (inr cleared) = inr cleared

-- another till doesn't lock what is kept
mine_alone : (k : Key) (t u : ℕ) (earlier : List Row) (s : SiteState) (r : Row) → Known earlier s
    → r.reply ≡ reply_to s r.actor r.event → Keeps k t s
    → locks_sale k (moment_at earlier s r) ≡ Some u → t ≡ u
mine_alone k t u earlier s r known replies (inl is) taken =
    subst (λ o. MayTake o (Some t)) taken
    (subst (MayTake (locks_sale k (moment_at earlier s r))) is
    (does_lock k earlier s r known replies).may)
mine_alone k t u earlier s r known replies (inr is) taken =
    let now = does_lock k earlier s r known replies in
    let locked : locker_of k (site_after s r.actor r.event).sales ≡ Some u =
    now.holder ∙ ap (λ o. next o (locker_of k s.sales) (λ v. ends_lock k v (moment_at earlier s r)))
    taken in
    let none : Some u ≡ None =
    sym locked ∙ no_locker k (site_after s r.actor r.event).sales
    (stays_cleared k s r replies is) in
    absurd cc

let_go_between : (k : Key) (t u : ℕ) (earlier : List Row) (s : SiteState) (rs : List Row)
    (between since : List Moment) (second : Moment) → Known earlier s → IsLegal s rs → Keeps k t s
    → moments_after earlier s rs ≡ between ++ second ∷ since
    → locks_sale k second ≡ Some u → t ≢ u → list_any (lets_go k t) between ≡ true
let_go_between k t u earlier s [] [] since second known legal keeps parts taken differ = cc
let_go_between k t u earlier s [] (x ∷ between) since second known legal keeps parts taken differ =
    cc
let_go_between k t u earlier s (r ∷ rs) [] since second known legal keeps parts taken differ =
    let both = head_is (moment_at earlier s r) second
    (moments_after (earlier ++ r ∷ []) (site_after s r.actor r.event) rs) since parts in
    absurd (differ (mine_alone k t u earlier s r known legal.0 keeps
    (ap (locks_sale k) both.0 ∙ taken)))
let_go_between k t u earlier s (r ∷ rs) (x ∷ between) since second known legal keeps parts taken
    differ =
    let both = head_is (moment_at earlier s r) x
    (moments_after (earlier ++ r ∷ []) (site_after s r.actor r.event) rs)
    (between ++ second ∷ since)
    parts in
    ap (λ m. list_any (lets_go k t) (m ∷ between)) (sym both.0)
    ∙ by_test (lets_go k t (moment_at earlier s r)) refl
    (λ kept. let_go_between k t u (earlier ++ r ∷ [])
    (site_after s r.actor r.event) rs between since
    second (known_more earlier s r known legal.0) legal.1 kept both.1 taken differ)
  where
    by_test : (b : Bool) → lets_go k t (moment_at earlier s r) ≡ b
        → (Keeps k t (site_after s r.actor r.event) → list_any (lets_go k t) between ≡ true)
        → list_any (lets_go k t) (moment_at earlier s r ∷ between) ≡ true
    by_test true is rest = rw is refl
    by_test false is rest = rw is (rest (keeps_row k t earlier s r known legal.0 keeps is))

locked_then : (k : Key) (t : ℕ) (earlier : List Row) (s : SiteState) (r : Row) → Known earlier s
    → r.reply ≡ reply_to s r.actor r.event → locks_sale k (moment_at earlier s r) ≡ Some t
    → locker_of k (site_after s r.actor r.event).sales ≡ Some t
locked_then k t earlier s r known replies taken =
    (does_lock k earlier s r known replies).holder
    ∙ ap (λ o. next o (locker_of k s.sales) (λ v. ends_lock k v (moment_at earlier s r))) taken

pub locked_by_one : OfBooks AreLockedByOne
locked_by_one c rows legal = record { one = one; unended = unended c rows legal }
  where
    one : (k : Key) (t u : ℕ) (before between since : List Moment) (first second : Moment)
        → moments_of c rows ≡ before ++ first ∷ between ++ second ∷ since
        → locks_sale k first ≡ Some t → locks_sale k second ≡ Some u → t ≢ u
        → list_any (lets_go k t) between ≡ true
    one k t u before between since first second parts taken taken' differ =
        let split : moments_of c rows ≡ before ++ first ∷ (between ++ second ∷ since) =
        parts ∙ append_assoc before (first ∷ between) (second ∷ since) in
        let at = placed c rows before (between ++ second ∷ since) first legal split in
        let known = subst (Known first.earlier) (sym at.led) (known_at c first.earlier at.legal) in
        let_go_between k t u (first.earlier ++ first.row ∷ [])
        (site_after first.before first.row.actor first.row.event) at.rest between since second
        (known_more first.earlier first.before first.row known at.told) at.later
        (inl (locked_then k t first.earlier first.before first.row known at.told taken))
        (sym at.after) taken' differ
