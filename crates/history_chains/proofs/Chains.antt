-- Over a chain of histories a nozzle's litres add up.
use Rattle.std.proofs.Common.{◌≡◌, ◌∙◌, ℕ, ◌+◌, ◌-◌, ◌&&◌, Bool, true, false, List, [], ◌∷◌, ◌++◌}
use Rattle.std.proofs.Common.{Option, Some, None, option_map, unwrap_or, refl, sym, ap, subst}
use Rattle.std.proofs.Common.{if◌then◌else◌, arith}
use Rattle.std.specs.Prelude.{◌≤◌, is_ok, is_some}
use Rattle.std.proofs.lemmas.List.{append_assoc}
use Rattle.site_base.specs.declared.event.Event.{Event}
use Rattle.site_base.specs.declared.event.Event.TheVariants.{ReplaceMeter}
use Rattle.site_base.specs.declared.row.Row.{Row}
use Rattle.site_base.specs.Configured.{Configured}
use Rattle.meters.specs.Nozzles.{Nozzle, has_nozzle, last_of, nozzle_of, opening_nozzles}
use Rattle.meters.specs.Nozzles.{reading_of}
use Rattle.meters.proofs.Bounds.{each_found}
use Rattle.meters.proofs.Lookups.{reading_is, there}
use Rattle.written_site.specs.FitLaws.{AreReadable}
use Rattle.written_site.specs.Histories.{Moment, moments_of}
use Rattle.written_site.specs.MeterLaws.{began_after, begun_of_row, begun_said, counted_at}
use Rattle.written_site.specs.MeterLaws.{read_after, read_of_row, read_said, replace_said}
use Rattle.written_site.specs.MeterLaws.{replaces_meter}
use Rattle.written_site.specs.MeteredRows.{metered_read}
use Rattle.written_site.specs.RowWords.{latest, total}
use Rattle.written_site.specs.SiteRun.{IsLegal, site_of_rows}
use Rattle.written_site.specs.SiteState.{SiteState, opening}
use Rattle.written_site.specs.SiteStep.{reply_to, site_after}
use Rattle.written_site.specs.Sound.{IsFit, InRange}
use Rattle.written_site.proofs.FitLaws.{sound_rows}
use Rattle.written_site.proofs.Histories.{IsLegal-push, site_of_rows-push}
use Rattle.written_site.proofs.MeterLaws.{meters_read}
use Rattle.written_site.proofs.MomentRows.{moments_push}
use Rattle.written_site.proofs.RowWords.{append_none, latest_push, said_again, total_push}
use Rattle.history_chains.specs.Chains.{History, IsKept, LitresAddUp, end_of}
use Rattle.history_chains.specs.Chains.{first_reading, litres, put_at, put_in}
use Rattle.history_chains.specs.Chains.{taken_at, taken_away}

-- ---- a row

-- an event that puts another meter in place
record SaysNew (p n : ℕ) (e : Event) : Type 0 where
  reading : ℕ
  begun : begun_said p n e ≡ Some reading
  read : read_said p n e ≡ Some reading

says_new : (p n : ℕ) (e : Event) → replace_said p n e ≡ true → SaysNew p n e
says_new p n (ReplaceMeter q m reading) is = record {
  reading = reading;
  begun = ap (λ (b : Bool). if b then Some reading else None) is;
  read = ap (λ (b : Bool). if b then Some reading else None) is;
}
says_new p n e is = cc

says_none : (p n : ℕ) (e : Event) → replace_said p n e ≡ false → begun_said p n e ≡ None
says_none p n (ReplaceMeter q m reading) is =
    ap (λ (b : Bool). if b then Some reading else None) is
says_none p n e is = refl

-- .. of a row, which was accepted or not
record IsNew (p n : ℕ) (accepted : Bool) (e : Event) : Type 0 where
  reading : ℕ
  begun : (if accepted then begun_said p n e else None) ≡ Some reading
  read : (if accepted then read_said p n e else None) ≡ Some reading

row_new : (p n : ℕ) (accepted : Bool) (e : Event) → (accepted && replace_said p n e) ≡ true
    → IsNew p n accepted e
row_new p n true e is =
    let says = says_new p n e is in
    record { reading = says.reading; begun = says.begun; read = says.read }
row_new p n false e is = cc

row_none : (p n : ℕ) (accepted : Bool) (e : Event) → (accepted && replace_said p n e) ≡ false
    → (if accepted then begun_said p n e else None) ≡ None
row_none p n true e is = says_none p n e is
row_none p n false e is = refl

-- ---- one history

-- the meter of a nozzle never reads less than it began with
risen : (c : Configured) (p n : ℕ) (rows : List Row) → IsFit c → IsLegal (opening c) rows
    → AreReadable rows → has_nozzle p n (opening_nozzles c) ≡ true
    → began_after c p n rows ≤ read_after c p n rows
risen c p n rows fit legal readable has =
    let s : SiteState = site_of_rows (opening c) rows in
    let meters = meters_read c rows legal in
    let found = there (nozzle_of p n s.nozzles) (meters.there p n ∙ has) in
    let metered = each_found p n s.nozzles found.nozzle
    (sound_rows c rows legal fit readable).meters.each found.is in
    let read = meters.nozzles p n found.nozzle found.is in
    let up = metered.risen in
    let began = read.began in
    let last = read.last in
    omega (arith, up, began, last)

-- its site shows what its rows tell of the nozzle's last reading
ends_read : (c : Configured) (p n : ℕ) (rows : List Row) → IsLegal (opening c) rows
    → has_nozzle p n (opening_nozzles c) ≡ true
    → reading_of p n (site_of_rows (opening c) rows).nozzles ≡ read_after c p n rows
ends_read c p n rows legal has =
    let s : SiteState = site_of_rows (opening c) rows in
    let meters = meters_read c rows legal in
    let found = there (nozzle_of p n s.nozzles) (meters.there p n ∙ has) in
    reading_is p n s.nozzles found.nozzle found.is
    ∙ (meters.nozzles p n found.nozzle found.is).last

-- the litres of the rows so far
record AddsUp (c : Configured) (p n : ℕ) (earlier : List Row) (s : SiteState) : Type 0 where
  led : s ≡ site_of_rows (opening c) earlier
  legal : IsLegal (opening c) earlier
  readable : AreReadable earlier
  sum :
      reading_of p n (opening_nozzles c) + metered_read c p n earlier
      + total (put_at p n) (moments_of c earlier)
      ≡ read_after c p n earlier + total (taken_at c p n) (moments_of c earlier)

readable_push : (rows : List Row) (r : Row) → AreReadable rows → InRange r.event
    → AreReadable (rows ++ r ∷ [])
readable_push [] r all range = (range, tt)
readable_push (x ∷ rows) r all range = (all.0, readable_push rows r all.1 range)

-- what was said last, of one row more
said_by : (says : Row → Option ℕ) (earlier : List Row) (r : Row) (first : ℕ)
    → unwrap_or (latest says (earlier ++ r ∷ [])) first
    ≡ unwrap_or (says r) (unwrap_or (latest says earlier) first)
said_by says earlier r first =
    ap (λ (o : Option ℕ). unwrap_or o first) (latest_push says earlier r)
    ∙ said_again (latest says earlier) (says r) first

module _ (c : Configured) (p n : ℕ) (fit : IsFit c)
    (has : has_nozzle p n (opening_nozzles c) ≡ true) where
  one_more : (earlier : List Row) (s : SiteState) (r : Row) → AddsUp c p n earlier s
      → r.reply ≡ reply_to s r.actor r.event → InRange r.event
      → AddsUp c p n (earlier ++ r ∷ []) (site_after s r.actor r.event)
  one_more earlier s r adds replies range = record {
    led = ap (λ y. site_after y r.actor r.event) adds.led
        ∙ sym (site_of_rows-push (opening c) earlier r);
    legal = now;
    readable = shown;
    sum = by_test (replaces_meter p n m) refl;
  }
    where
      m : Moment
      m = record { earlier = earlier; before = s; row = r }

      now : IsLegal (opening c) (earlier ++ r ∷ [])
      now = IsLegal-push (opening c) earlier r adds.legal
          (subst (λ y. r.reply ≡ reply_to y r.actor r.event) adds.led replies)

      shown : AreReadable (earlier ++ r ∷ [])
      shown = readable_push earlier r adds.readable range

      later : moments_of c (earlier ++ r ∷ []) ≡ moments_of c earlier ++ m ∷ []
      later = moments_push [] (opening c) earlier r
          ∙ ap (λ y. moments_of c earlier ++ record { earlier = earlier; before = y; row = r } ∷ [])
          (sym adds.led)

      pushed : (figure : Moment → ℕ) → total figure (moments_of c (earlier ++ r ∷ []))
          ≡ total figure (moments_of c earlier) + figure m
      pushed figure = ap (total figure) later ∙ total_push figure (moments_of c earlier) m

      first : ℕ
      first = reading_of p n (opening_nozzles c)

      by_test : (b : Bool) → replaces_meter p n m ≡ b
          → first + metered_read c p n (earlier ++ r ∷ [])
          + total (put_at p n) (moments_of c (earlier ++ r ∷ []))
          ≡ read_after c p n (earlier ++ r ∷ [])
          + total (taken_at c p n) (moments_of c (earlier ++ r ∷ []))
      by_test false is =
          let none = row_none p n (is_ok r.reply) r.event is in
          let began : began_after c p n (earlier ++ r ∷ []) ≡ began_after c p n earlier =
          said_by (begun_of_row p n) earlier r first
          ∙ ap (λ (o : Option ℕ). unwrap_or o (began_after c p n earlier)) none in
          let counted : counted_at c p n m ≡ 0 =
          ap (λ (b : Bool). if b then read_after c p n earlier - began_after c p n earlier else 0) is
          in
          let put : put_at p n m ≡ 0 =
          ap (λ (b : Bool). if b then unwrap_or (begun_of_row p n r) 0 else 0) is in
          let taken : taken_at c p n m ≡ 0 =
          ap (λ (b : Bool). if b then read_after c p n earlier else 0) is in
          let all_counted = pushed (counted_at c p n) in
          let all_put = pushed (put_at p n) in
          let all_taken = pushed (taken_at c p n) in
          let up = risen c p n earlier fit adds.legal adds.readable has in
          let up_now = risen c p n (earlier ++ r ∷ []) fit now shown has in
          let so_far = adds.sum in
          omega (
            arith,
            began,
            counted,
            put,
            taken,
            all_counted,
            all_put,
            all_taken,
            up,
            up_now,
            so_far,
          )
      by_test true is =
          let new = row_new p n (is_ok r.reply) r.event is in
          let began : began_after c p n (earlier ++ r ∷ []) ≡ new.reading =
          said_by (begun_of_row p n) earlier r first
          ∙ ap (λ (o : Option ℕ). unwrap_or o (began_after c p n earlier)) new.begun in
          let last : read_after c p n (earlier ++ r ∷ []) ≡ new.reading =
          said_by (read_of_row p n) earlier r first
          ∙ ap (λ (o : Option ℕ). unwrap_or o (read_after c p n earlier)) new.read in
          let counted : counted_at c p n m ≡ read_after c p n earlier - began_after c p n earlier =
          ap (λ (b : Bool). if b then read_after c p n earlier - began_after c p n earlier else 0) is
          in
          let put : put_at p n m ≡ new.reading =
          ap (λ (b : Bool). if b then unwrap_or (begun_of_row p n r) 0 else 0) is
          ∙ ap (λ (o : Option ℕ). unwrap_or o 0) new.begun in
          let taken : taken_at c p n m ≡ read_after c p n earlier =
          ap (λ (b : Bool). if b then read_after c p n earlier else 0) is in
          let all_counted = pushed (counted_at c p n) in
          let all_put = pushed (put_at p n) in
          let all_taken = pushed (taken_at c p n) in
          let so_far = adds.sum in
          omega (arith, began, last, counted, put, taken, all_counted, all_put, all_taken, so_far)

  all_rows : (earlier : List Row) (s : SiteState) (rows : List Row) → AddsUp c p n earlier s
      → IsLegal s rows → AreReadable rows → AddsUp c p n (earlier ++ rows) (site_of_rows s rows)
  all_rows earlier s [] adds legal readable =
      subst (λ rows. AddsUp c p n rows s) (sym (append_none earlier)) adds
  all_rows earlier s (r ∷ rows) adds legal readable =
      let next : SiteState = site_after s r.actor r.event in
      subst (λ all. AddsUp c p n all (site_of_rows next rows)) (append_assoc earlier (r ∷ []) rows)
      (all_rows (earlier ++ r ∷ []) next rows (one_more earlier s r adds legal.0 readable.0)
      legal.1 readable.1)

  at_opening : AddsUp c p n [] (opening c)
  at_opening = record { led = refl; legal = tt; readable = tt; sum = omega arith }

-- of one history
litres_in : (p n : ℕ) (h : History) → IsKept h → has_nozzle p n (opening_nozzles h.config) ≡ true
    → first_reading p n h + litres p n h + put_in p n h
    ≡ reading_of p n (end_of h).nozzles + taken_away p n h
litres_in p n h kept has =
    let adds = all_rows h.config p n kept.fit has [] (opening h.config) h.rows
    (at_opening h.config p n kept.fit has) kept.legal kept.readable in
    let sum = adds.sum in
    let last = ends_read h.config p n h.rows kept.legal has in
    omega (arith, sum, last)

-- ---- a chain

is_there : (o : Option Nozzle) → is_some (option_map (λ (x : Nozzle). x.last) o) ≡ is_some o
is_there None = refl
is_there (Some x) = refl

-- the next history has the nozzle, too
has_still : (p n : ℕ) (h next : History) → IsKept h
    → last_of p n (opening_nozzles next.config) ≡ last_of p n (end_of h).nozzles
    → has_nozzle p n (opening_nozzles h.config) ≡ true
    → has_nozzle p n (opening_nozzles next.config) ≡ true
has_still p n h next kept goes has =
    sym (is_there (nozzle_of p n (opening_nozzles next.config)))
    ∙ ap is_some goes
    ∙ is_there (nozzle_of p n (end_of h).nozzles)
    ∙ (meters_read h.config h.rows kept.legal).there p n
    ∙ has

pub litres_over : LitresAddUp
litres_over p n h [] chain has =
    let one = litres_in p n h chain has in
    omega (arith, one)
litres_over p n h (next ∷ more) chain has =
    let goes = chain.1.0.readings p n in
    let one = litres_in p n h chain.0 has in
    let rest = litres_over p n next more chain.1.1 (has_still p n h next chain.0 goes has) in
    let same : first_reading p n next ≡ reading_of p n (end_of h).nozzles =
    ap (λ (o : Option ℕ). unwrap_or o 0) goes in
    omega (arith, one, rest, same)
