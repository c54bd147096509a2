-- The meters are those that the rows tell.
use Rattle.std.proofs.Common.{◌≡◌, ℕ, ◌+◌, ◌-◌, ◌==◌, Bool, true, false, List, [], ◌∷◌, ◌++◌}
use Rattle.std.proofs.Common.{Option, option_map, Some, None, unwrap_or, Ok, Err, refl, sym, ap}
use Rattle.std.proofs.Common.{subst, ◌∙◌, if◌then◌else◌, arith}
use Rattle.std.proofs.lemmas.Bool.{and_parts}
use Rattle.std.proofs.lemmas.Bool.Decides.{nat_tests}
use Rattle.std.proofs.lemmas.Grind.{common_steps}
use Rattle.site_base.specs.declared.actor.Actor.{Actor}
use Rattle.site_base.specs.declared.config.NozzleEntry.{NozzleEntry}
use Rattle.site_base.specs.declared.event.Event.{Event}
use Rattle.site_base.specs.declared.event.Event.TheVariants.{ReplaceMeter, Lift, Flow, HangUp}
use Rattle.site_base.specs.declared.row.Row.{Row}
use Rattle.site_base.specs.declared.config.PointEntry.{PointEntry}
use Rattle.site_base.specs.Configured.{Configured}
use Rattle.meters.specs.Nozzles.{Nozzle, is_nozzle, number_nozzles, nozzles_of_point}
use Rattle.meters.specs.Nozzles.{nozzles_of_points}
use Rattle.meters.specs.Nozzles.{opening_nozzles, nozzle_of, has_nozzle, reading_of, with_nozzle}
use Rattle.meters.specs.Nozzles.{with_last, read_at, replaced_at}
use Rattle.meters.proofs.Lookups.{KeepsName, nozzle_of-here, nozzle_of-other, reading_is}
use Rattle.written_site.specs.Histories.{Moment, moments_of}
use Rattle.written_site.specs.MeterLaws.{is_its, replace_said, begun_said, read_said, begun_of_row}
use Rattle.written_site.specs.MeterLaws.{read_of_row, replaces_meter, read_after, counted_at}
use Rattle.written_site.specs.MeterLaws.{IsNozzleRead, AreMetersRead}
use Rattle.written_site.specs.RowWords.{OfBooks, latest, total, count}
use Rattle.written_site.specs.SiteChecks.{Passed, metering}
use Rattle.written_site.specs.SiteRun.{site_of_rows}
use Rattle.written_site.specs.SiteState.{SiteState, opening}
use Rattle.written_site.specs.SiteStep.{site_answer, nozzles_after, reply_to, site_after}
use Rattle.written_site.proofs.Histories.{site_of_rows-push}
use Rattle.written_site.proofs.MomentRows.{moments_push}
use Rattle.written_site.proofs.RowWords.{told_row, of_row, kept, said_again, latest_push}
use Rattle.written_site.proofs.RowWords.{total_push}
use Rattle.written_site.proofs.SlotRows.{moment_at}
use Rattle.written_site.proofs.SoundMeters.{read_keeps, replaced_keeps, nozzle_after, product_after}
use Rattle.written_site.proofs.SoundTables.{same, told_once}

-- ---- one event

-- what the event does to the nozzle
record Moved (p n : ℕ) (e : Event) (x y : Nozzle) : Type 0 where
  began : y.began ≡ unwrap_or (begun_said p n e) x.began
  last : y.last ≡ unwrap_or (read_said p n e) x.last
  replaced : y.replaced ≡ x.replaced + (if replace_said p n e then 1 else 0)
  earlier : y.earlier ≡ x.earlier + (if replace_said p n e then x.last - x.began else 0)

-- the nozzle was there before, and this is what the event does to it
record WasThere (p n : ℕ) (e : Event) (xs : List Nozzle) (y : Nozzle) : Type 0 where
  nozzle : Nozzle
  there : nozzle_of p n xs ≡ Some nozzle
  moved : Moved p n e nozzle y

-- a nozzle after one was changed: it is that one, or as it was
pub data Changed (p n q m : ℕ) (change : Nozzle → Nozzle) (xs : List Nozzle)
    (y : Nozzle) : Type 0 where
  mine : is_its p n q m ≡ true → (x : Nozzle) → nozzle_of p n xs ≡ Some x → y ≡ change x
      → Changed p n q m change xs y
  other : is_its p n q m ≡ false → nozzle_of p n xs ≡ Some y → Changed p n q m change xs y

pub changed : (p n q m : ℕ) (change : Nozzle → Nozzle) (xs : List Nozzle) (y : Nozzle)
    → KeepsName change
    → nozzle_of p n (with_nozzle q m change xs) ≡ Some y → Changed p n q m change xs y
changed p n q m change xs y keeps is = by_test (is_its p n q m) refl
  where
    by_old : is_its p n q m ≡ true → (o : Option Nozzle) → nozzle_of p n xs ≡ o
        → option_map change o ≡ Some y → Changed p n q m change xs y
    by_old its None there made = absurd (let none : None ≡ Some y = made in cc)
    by_old its (Some x) there made = mine its x there (sym (told_once (change x) y made))

    by_test : (b : Bool) → is_its p n q m ≡ b → Changed p n q m change xs y
    by_test true its =
        let parts = and_parts (q == p) (m == n) its in
        by_old its (nozzle_of p n xs) refl
        (sym (nozzle_of-here p n change xs keeps)
        ∙ ap (λ (k : ℕ). nozzle_of p n (with_nozzle k n change xs)) (sym (same q p parts.0))
        ∙ ap (λ (k : ℕ). nozzle_of p n (with_nozzle q k change xs)) (sym (same m n parts.1))
        ∙ is)
    by_test false its = other its (sym (nozzle_of-other q m p n change xs its keeps) ∙ is)

stays_so : (v : ℕ) → v ≡ v + 0
stays_so v = omega arith

-- a report that was taken
read_moves : (p n q m reading : ℕ) (e : Event) (xs : List Nozzle) (y : Nozzle)
    → begun_said p n e ≡ None → replace_said p n e ≡ false
    → read_said p n e ≡ (if is_its p n q m then Some reading else None)
    → nozzle_of p n (with_last q m reading xs) ≡ Some y → WasThere p n e xs y
read_moves p n q m reading e xs y begun replaces reads is =
    by_changed (changed p n q m (read_at reading) xs y (read_keeps reading) is)
  where
    by_changed : Changed p n q m (read_at reading) xs y → WasThere p n e xs y
    by_changed (mine its x there made) = record {
      nozzle = x;
      there = there;
      moved = record {
        began = ap (λ (z : Nozzle). z.began) made ∙ ap (λ o. unwrap_or o x.began) (sym begun);
        last = ap (λ (z : Nozzle). z.last) made
            ∙ ap (λ o. unwrap_or o x.last)
            (ap (λ (b : Bool). if b then Some reading else None) (sym its) ∙ sym reads);
        replaced = ap (λ (z : Nozzle). z.replaced) made ∙ stays_so x.replaced
            ∙ ap (λ (b : Bool). x.replaced + (if b then 1 else 0)) (sym replaces);
        earlier = ap (λ (z : Nozzle). z.earlier) made ∙ stays_so x.earlier
            ∙ ap (λ (b : Bool). x.earlier + (if b then x.last - x.began else 0)) (sym replaces);
      };
    }
    by_changed (other its there) = record {
      nozzle = y;
      there = there;
      moved = record {
        began = ap (λ o. unwrap_or o y.began) (sym begun);
        last = ap (λ o. unwrap_or o y.last)
            (ap (λ (b : Bool). if b then Some reading else None) (sym its) ∙ sym reads);
        replaced = stays_so y.replaced
            ∙ ap (λ (b : Bool). y.replaced + (if b then 1 else 0)) (sym replaces);
        earlier = stays_so y.earlier
            ∙ ap (λ (b : Bool). y.earlier + (if b then y.last - y.began else 0)) (sym replaces);
      };
    }

-- a lift reads what was read last
lift_reads : (s : SiteState) (q m reading : ℕ) → metering s (Lift q m reading) ≡ None
    → reading ≡ reading_of q m s.nozzles
lift_reads s q m reading reads = grind (arith, common_steps, nat_tests)

moves : (s : SiteState) (a : Actor) (e : Event) → Passed s a e → (p n : ℕ) (y : Nozzle)
    → nozzle_of p n (nozzles_after s e) ≡ Some y → WasThere p n e s.nozzles y
moves s a (Flow q m reading) passes p n y is =
    read_moves p n q m reading (Flow q m reading) s.nozzles y refl refl refl is
moves s a (HangUp q m reading) passes p n y is =
    read_moves p n q m reading (HangUp q m reading) s.nozzles y refl refl refl is
moves s a (Lift q m reading) passes p n y is = record {
  nozzle = y;
  there = is;
  moved = record {
    began = refl;
    last = by_test (is_its p n q m) refl;
    replaced = stays_so y.replaced;
    earlier = stays_so y.earlier;
  };
}
  where
    by_test : (b : Bool) → is_its p n q m ≡ b
        → y.last ≡ unwrap_or (if b then Some reading else None) y.last
    by_test true its =
        let parts = and_parts (q == p) (m == n) its in
        sym (reading_is p n s.nozzles y is)
        ∙ ap (λ (k : ℕ). reading_of k n s.nozzles) (sym (same q p parts.0))
        ∙ ap (λ (k : ℕ). reading_of q k s.nozzles) (sym (same m n parts.1))
        ∙ sym (lift_reads s q m reading passes.reads)
    by_test false its = refl
moves s a (ReplaceMeter q m reading) passes p n y is =
    by_changed (changed p n q m (replaced_at reading) s.nozzles y (replaced_keeps reading) is)
  where
    by_changed : Changed p n q m (replaced_at reading) s.nozzles y
        → WasThere p n (ReplaceMeter q m reading) s.nozzles y
    by_changed (mine its x there made) = record {
      nozzle = x;
      there = there;
      moved = record {
        began = ap (λ (z : Nozzle). z.began) made
            ∙ ap (λ (b : Bool). unwrap_or (if b then Some reading else None) x.began) (sym its);
        last = ap (λ (z : Nozzle). z.last) made
            ∙ ap (λ (b : Bool). unwrap_or (if b then Some reading else None) x.last) (sym its);
        replaced = ap (λ (z : Nozzle). z.replaced) made
            ∙ ap (λ (b : Bool). x.replaced + (if b then 1 else 0)) (sym its);
        earlier = ap (λ (z : Nozzle). z.earlier) made
            ∙ ap (λ (b : Bool). x.earlier + (if b then x.last - x.began else 0)) (sym its);
      };
    }
    by_changed (other its there) = record {
      nozzle = y;
      there = there;
      moved = record {
        began = ap (λ (b : Bool). unwrap_or (if b then Some reading else None) y.began) (sym its);
        last = ap (λ (b : Bool). unwrap_or (if b then Some reading else None) y.last) (sym its);
        replaced = stays_so y.replaced
            ∙ ap (λ (b : Bool). y.replaced + (if b then 1 else 0)) (sym its);
        earlier = stays_so y.earlier
            ∙ ap (λ (b : Bool). y.earlier + (if b then y.last - y.began else 0)) (sym its);
      };
    }
moves s a e passes p n y is = record {
  nozzle = y;
  there = is;
  moved = record {
    began = refl;
    last = refl;
    replaced = stays_so y.replaced;
    earlier = stays_so y.earlier;
  };
}

-- ---- when the site opens

pub record IsFresh (x : Nozzle) : Type 0 where
  pub began : x.began ≡ x.last
  pub replaced : x.replaced ≡ 0
  pub earlier : x.earlier ≡ 0

abbrev pub EachFresh : List Nozzle → Type 0
EachFresh [] = Unit {0}
EachFresh (x ∷ xs) = IsFresh x × EachFresh xs

fresh_numbered : (p n : ℕ) (es : List NozzleEntry) → EachFresh (number_nozzles p n es)
fresh_numbered p n [] = tt
fresh_numbered p n (e ∷ es) =
    (record { began = refl; replaced = refl; earlier = refl }, fresh_numbered p (n + 1) es)

fresh_both : (xs ys : List Nozzle) → EachFresh xs → EachFresh ys → EachFresh (xs ++ ys)
fresh_both [] ys fresh rest = rest
fresh_both (x ∷ xs) ys fresh rest = (fresh.0, fresh_both xs ys fresh.1 rest)

pub fresh_points : (cs : List PointEntry) → EachFresh (nozzles_of_points cs)
fresh_points [] = tt
fresh_points (c ∷ cs) =
    fresh_both (nozzles_of_point c) (nozzles_of_points cs) (fresh_numbered c.number 1 c.nozzles)
    (fresh_points cs)

pub fresh_found : (p n : ℕ) (xs : List Nozzle) (y : Nozzle) → EachFresh xs → nozzle_of p n xs
    ≡ Some y
    → IsFresh y
fresh_found p n [] y fresh is = absurd (let none : None ≡ Some y = is in cc)
fresh_found p n (x ∷ xs) y fresh is =
    by_test (is_nozzle p n x) refl (fresh_found p n xs y fresh.1)
  where
    by_test : (b : Bool) → is_nozzle p n x ≡ b → (nozzle_of p n xs ≡ Some y → IsFresh y) → IsFresh y
    by_test true at behind =
        let first : nozzle_of p n (x ∷ xs) ≡ Some x = rw at refl in
        subst IsFresh (told_once x y (sym first ∙ is)) fresh.0
    by_test false at behind =
        let later : nozzle_of p n (x ∷ xs) ≡ nozzle_of p n xs = rw at refl in
        behind (sym later ∙ is)

-- ---- rows

-- what is known of the nozzles
record KnowsMeters (c : Configured) (earlier : List Row) (s : SiteState) : Type 0 where
  led : s ≡ site_of_rows (opening c) earlier
  there : (p n : ℕ) → has_nozzle p n s.nozzles ≡ has_nozzle p n (opening_nozzles c)
  nozzles : (p n : ℕ) (x : Nozzle) → nozzle_of p n s.nozzles ≡ Some x → IsNozzleRead c p n earlier x

said_more : (says : Row → Option ℕ) (earlier : List Row) (r : Row) (first v w : ℕ)
    → v ≡ unwrap_or (latest says earlier) first → w ≡ unwrap_or (says r) v
    → w ≡ unwrap_or (latest says (earlier ++ r ∷ [])) first
said_more says earlier r first v w was now =
    now ∙ ap (unwrap_or (says r)) was
    ∙ sym (said_again (latest says earlier) (says r) first)
    ∙ ap (λ (o : Option ℕ). unwrap_or o first) (sym (latest_push says earlier r))

-- what a row is told doesn't matter beyond its being accepted
nozzle_more : (c : Configured) (earlier : List Row) (s : SiteState) (r : Row)
    → s ≡ site_of_rows (opening c) earlier → (p n : ℕ) (x y : Nozzle)
    → IsNozzleRead c p n earlier x
    → y.began ≡ unwrap_or (begun_of_row p n r) x.began
    → y.last ≡ unwrap_or (read_of_row p n r) x.last
    → y.replaced ≡ x.replaced + (if replaces_meter p n (moment_at earlier s r) then 1 else 0)
    → y.earlier ≡ x.earlier
    + (if replaces_meter p n (moment_at earlier s r) then x.last - x.began else 0)
    → y.product ≡ x.product
    → IsNozzleRead c p n (earlier ++ r ∷ []) y
nozzle_more c earlier s r led p n x y was began last replaced earlier_more product = record {
  began = said_more (begun_of_row p n) earlier r
      (reading_of p n (opening_nozzles c)) x.began y.began
      was.began began;
  last = said_more (read_of_row p n) earlier r (reading_of p n (opening_nozzles c)) x.last y.last
      was.last last;
  replaced = (let so_far = was.replaced in
      let sum = total_push (λ k. if replaces_meter p n k then 1 else 0) (moments_of c earlier) m in
      let all : count (replaces_meter p n) (moments_of c (earlier ++ r ∷ []))
      ≡ count (replaces_meter p n) (moments_of c earlier ++ m ∷ []) =
      ap (count (replaces_meter p n)) later in omega (arith, replaced, so_far, sum, all));
  earlier = (let so_far = was.earlier in
      let sum = total_push (counted_at c p n) (moments_of c earlier) m in
      let all : total (counted_at c p n) (moments_of c (earlier ++ r ∷ []))
      ≡ total (counted_at c p n) (moments_of c earlier ++ m ∷ []) =
      ap (total (counted_at c p n)) later in
      let here : (if replaces_meter p n m then x.last - x.began else 0) ≡ counted_at c p n m =
      ap (λ (v : ℕ). if replaces_meter p n m then v - x.began else 0) was.last
      ∙ ap (λ (v : ℕ). if replaces_meter p n m then read_after c p n earlier - v else 0) was.began
      in
      omega (arith, earlier_more, so_far, sum, all, here));
  product = ap (λ (v : ℕ). Some v) product ∙ was.product;
}
  where
    m : Moment
    m = moment_at earlier s r

    later : moments_of c (earlier ++ r ∷ []) ≡ moments_of c earlier ++ m ∷ []
    later = moments_push [] (opening c) earlier r
        ∙ ap (λ y. moments_of c earlier ++ moment_at earlier y r ∷ []) (sym led)

-- the product stays
product_stays : (s : SiteState) (e : Event) (p n : ℕ) (x y : Nozzle)
    → nozzle_of p n s.nozzles ≡ Some x → nozzle_of p n (nozzles_after s e) ≡ Some y
    → y.product ≡ x.product
product_stays s e p n x y old new =
    told_once y.product x.product
    (ap (option_map (λ (z : Nozzle). z.product)) (sym new)
    ∙ product_after s e p n
    ∙ ap (option_map (λ (z : Nozzle). z.product)) old)

meters_more : (c : Configured) (earlier : List Row) (s : SiteState) (r : Row)
    → KnowsMeters c earlier s → r.reply ≡ reply_to s r.actor r.event
    → KnowsMeters c (earlier ++ r ∷ []) (site_after s r.actor r.event)
meters_more c earlier s r known replies = record {
  led = ap (λ y. site_after y r.actor r.event) known.led ∙ sym
      (site_of_rows-push (opening c) earlier r);
  there = λ p n.
      of_row (λ x new. has_nozzle p n new.nozzles ≡ has_nozzle p n (opening_nozzles c)) s r replies
      (λ refusal. known.there p n)
      (λ passes. nozzle_after s r.event p n ∙ known.there p n);
  nozzles =
      of_row (λ row new. (p n : ℕ) (x : Nozzle) → nozzle_of p n new.nozzles ≡ Some x
      → IsNozzleRead c p n (earlier ++ row ∷ []) x) s r replies
      (λ refusal p n x is. nozzle_more c earlier s
      (told_row r.actor r.event (Err refusal)) known.led p
      n x x (known.nozzles p n x is) refl refl (stays_so x.replaced) (stays_so x.earlier) refl)
      (λ passes p n y is.
      let was = moves s r.actor r.event passes p n y is in
      nozzle_more c earlier s (told_row r.actor r.event (Ok (site_answer s r.event))) known.led p n
      was.nozzle y (known.nozzles p n was.nozzle was.there) was.moved.began was.moved.last
      was.moved.replaced was.moved.earlier
      (product_stays s r.event p n was.nozzle y was.there is));
}

meters_first : (c : Configured) → KnowsMeters c [] (opening c)
meters_first c = record {
  led = refl;
  there = λ p n. refl;
  nozzles = λ p n x is.
      let fresh = fresh_found p n (opening_nozzles c) x (fresh_points c.points) is in
      let reads = reading_is p n (opening_nozzles c) x is in
      record {
        began = fresh.began ∙ sym reads;
        last = sym reads;
        replaced = fresh.replaced;
        earlier = fresh.earlier;
        product = ap (option_map (λ (z : Nozzle). z.product)) (sym is);
      };
}

pub meters_read : OfBooks AreMetersRead
meters_read c rows legal =
    let known = kept (KnowsMeters c) (meters_more c) [] (opening c) rows (meters_first c) legal in
    record { there = known.there; nozzles = known.nozzles }
