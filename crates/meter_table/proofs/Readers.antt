-- What the figures always are stays so with each row, and a row that is counted is the row's own.
use Rattle.std.proofs.Common.{◌≡◌, ℕ, ◌+◌, ◌-◌, ◌*◌, ◌^◌, ◌<◌, ◌≤◌, ◌==◌, ◌&&◌, Bool, true, false}
use Rattle.std.proofs.Common.{List, [], ◌∷◌, ◌++◌, length, map, min, Option, Some, None, refl, ap}
use Rattle.std.proofs.Common.{sym, ◌∙◌, add-one, append_assoc, drop, get_or, subst, arith}
use Rattle.std.proofs.Math.Seq.{drop-cons}
use Rattle.std.proofs.lemmas.List.{map-append}
use Rattle.std.specs.Prelude.{if◌then◌else◌, is_none, is_ok, is_some}
use Rattle.std.specs.List.{cons_option}
use Rattle.site_base.specs.declared.amounts.TheConstants.{GREATEST_READING}
use Rattle.site_base.specs.declared.config.PointEntry.{PointEntry}
use Rattle.site_base.specs.declared.row.Row.{Row}
use Rattle.site_base.specs.Configured.{Configured}
use Rattle.site_base.specs.Events.{point_named}
use Rattle.fuelling_point.specs.KeptPoints.{is_under_way}
use Rattle.meters.specs.declared.meter.TheConstants.{REPLACEMENT_LIMIT}
use Rattle.meters.specs.Nozzles.{Nozzle, has_nozzle, is_nozzle, nozzle_of}
use Rattle.meters.specs.Nozzles.{nozzles_of_point, nozzles_of_points, opening_nozzles, reading_of}
use Rattle.meters.specs.Nozzles.{times_replaced}
use Rattle.meters.proofs.Bounds.{each_found}
use Rattle.meters.proofs.Lookups.{reading_is, there, times_is}
use Rattle.written_site.specs.MeterLaws.{read_said, replace_said}
use Rattle.written_site.specs.SiteChecks.{first_refusal}
use Rattle.written_site.specs.SiteRun.{site_of_rows}
use Rattle.written_site.specs.SiteState.{SiteState, facts_of, opening}
use Rattle.written_site.specs.SiteStep.{reply_to, site_after}
use Rattle.written_site.specs.Sound.{InRange, Sound}
use Rattle.written_site.specs.Volumes.{nozzle_out, running_at}
use Rattle.written_site.proofs.Histories.{site_of_rows-push}
use Rattle.written_site.proofs.Sound.{sound_after}
use Rattle.written_site.proofs.SoundTables.{itself, same}
use Rattle.nozzle_figures.specs.Laws.{AddsUp}
use Rattle.nozzle_figures.specs.NozzleMoves.{flowing, of_accepted}
use Rattle.nozzle_figures.specs.NozzleMoves.{running_by_nozzle}
use Rattle.nozzle_figures.proofs.NozzleMoves.{each_nozzle_adds_up}
use Rattle.row_tally.specs.Readings.{is_of_meter}
use Rattle.meter_table.specs.declared.figures.NozzleFigures.{NozzleFigures}
use Rattle.meter_table.specs.Counting.{AreCountable, AreThere, AreWithin, HaveRoom, IsCountable}
use Rattle.meter_table.specs.Counting.{IsWithin, begun, counted, counted_at, flowed, is_of_point}
use Rattle.meter_table.specs.Counting.{is_replaced_in, is_test_at, with_row}
use Rattle.meter_table.specs.Figures.{HasRead, MetersRead, figures_of, greatest}
use Rattle.meter_table.specs.Figures.{refused_reading}
use Rattle.meter_table.proofs.OneRow.{RowMoves, accepted_told, leaves_nozzle, refused_told}
use Rattle.meter_table.proofs.OneRow.{row_moves, stays_there, times_after}
use Rattle.meter_table.proofs.Rows.{figures_next}

-- ---- bounds

pub readable : (p n : ℕ) (s : SiteState) → Sound s → has_nozzle p n s.nozzles ≡ true
    → reading_of p n s.nozzles ≤ GREATEST_READING
readable p n s sound has =
    let x = there (nozzle_of p n s.nozzles) has in
    let metered = each_found p n s.nozzles x.nozzle sound.meters.each x.is in
    omega (arith, reading_is p n s.nozzles x.nozzle x.is, metered.within)

few_times : (p n : ℕ) (s : SiteState) → Sound s → has_nozzle p n s.nozzles ≡ true
    → times_replaced p n s.nozzles ≤ REPLACEMENT_LIMIT
few_times p n s sound has =
    let x = there (nozzle_of p n s.nozzles) has in
    let metered = each_found p n s.nozzles x.nozzle sound.meters.each x.is in
    omega (arith, times_is p n s.nozzles x.nozzle x.is, metered.few)

have_room : (s : SiteState) (x : NozzleFigures) → Sound s → IsWithin s x → HaveRoom x
have_room s x sound within =
    let reads = readable x.point x.nozzle s sound within.there in
    let times = few_times x.point x.nozzle s sound within.there in
    record {
      metered = omega (
        arith,
        reads,
        times,
        within.closing,
        within.counter,
        within.few,
        within.lowered,
      );
      sold = omega (
        arith,
        reads,
        times,
        within.closing,
        within.counter,
        within.few,
        within.lowered,
        within.volumes,
      );
      drawn = omega (
        arith,
        reads,
        times,
        within.closing,
        within.counter,
        within.few,
        within.lowered,
        within.volumes,
      );
      running = omega (
        arith,
        reads,
        times,
        within.closing,
        within.counter,
        within.few,
        within.lowered,
        within.volumes,
      );
      replaced = omega (arith, times, within.few);
      raised = omega (arith, times, within.few, within.raised);
      lowered = omega (arith, times, within.few, within.lowered);
      refused = within.refused;
    }

-- the fuelling under way is a part of what the meter reads
under_way_within : (p n : ℕ) (s : SiteState) → Sound s → has_nozzle p n s.nozzles ≡ true
    → running_by_nozzle p n s ≤ GREATEST_READING
under_way_within p n s sound has = by_test (nozzle_out (facts_of s p) == n) refl
  where
    reads : reading_of p n s.nozzles ≤ GREATEST_READING
    reads = readable p n s sound has

    by_state : (b : Bool) → (if b then reading_of p n s.nozzles - (facts_of s p).start else 0)
        ≤ GREATEST_READING
    by_state true = omega (arith, reads)
    by_state false = omega arith

    by_test : (b : Bool) → (nozzle_out (facts_of s p) == n) ≡ b
        → (if b then running_at s.nozzles p (facts_of s p) else 0) ≤ GREATEST_READING
    by_test true out =
        subst (λ (m : ℕ). (if is_under_way (facts_of s p).state
        then reading_of p m s.nozzles - (facts_of s p).start else 0) ≤ GREATEST_READING)
        (sym (same (nozzle_out (facts_of s p)) n out))
        (by_state (is_under_way (facts_of s p).state))
    by_test false out = omega arith

pub opening_within : (s : SiteState) (xs : List Nozzle) → Sound s → AreThere s.nozzles xs
    → AreWithin s (map (figures_of s []) xs)
opening_within s [] sound are = tt
opening_within s (x ∷ xs) sound are =
    let reads = readable x.point x.number s sound are.0 in
    let under_way = under_way_within x.point x.number s sound are.0 in (
      record {
        there = are.0;
        closing = refl;
        running = refl;
        begun = reads;
        counter = omega arith;
        volumes = omega (arith, under_way);
        few = omega arith;
        raised = omega arith;
        lowered = omega arith;
        refused = omega arith;
      },
      opening_within s xs sound are.1,
    )

pub begun_within : (s : SiteState) (xs : List NozzleFigures) → Sound s → AreWithin s xs
    → AreWithin s (map begun xs)
begun_within s [] sound within = tt
begun_within s (x ∷ xs) sound within =
    let reads = readable x.point x.nozzle s sound within.0.there in
    let under_way = under_way_within x.point x.nozzle s sound within.0.there in (
      record {
        there = within.0.there;
        closing = within.0.closing;
        running = within.0.running;
        begun = omega (arith, reads, within.0.closing);
        counter = omega arith;
        volumes = omega (arith, under_way, within.0.running);
        few = omega arith;
        raised = omega arith;
        lowered = omega arith;
        refused = omega arith;
      },
      begun_within s xs sound within.1,
    )

-- ---- one row

jump_within : (old new : ℕ) (replaced : Bool) → new ≤ GREATEST_READING
    → (if replaced then new - old else 0) ≤ (if replaced then 1 else 0) * GREATEST_READING
jump_within old new true reads = omega (arith, reads)
jump_within old new false reads = omega arith

pub within_next : (s : SiteState) (r : Row) (x : NozzleFigures) → Sound s → InRange r.event
    → IsWithin s x → IsWithin (site_after s r.actor r.event) (with_row s r x)
within_next s r x sound range within =
    let p = x.point in
    let n = x.nozzle in
    let later = site_after s r.actor r.event in
    let law : AddsUp p n s (r ∷ []) =
    each_nozzle_adds_up s (r ∷ []) p n sound (range, tt) within.there in
    let moves = row_moves p n s r _ _ sound range within.there refl refl in
    let has = stays_there p n s r within.there in
    let times = times_after p n s r within.there in
    let old = readable p n s sound within.there in
    let new = readable p n later (sound_after s r.actor r.event range sound) has in
    let rises = jump_within (reading_of p n s.nozzles) (reading_of p n later.nozzles)
    (is_none (first_refusal s r.actor r.event) && replace_said p n r.event) new in
    let falls = jump_within (reading_of p n later.nozzles) (reading_of p n s.nozzles)
    (is_none (first_refusal s r.actor r.event) && replace_said p n r.event) old in
    record {
      there = has;
      closing = refl;
      running = refl;
      begun = within.begun;
      counter = omega (arith, within.counter, within.closing, law.counter);
      volumes = omega (arith, within.volumes, within.running, law.volumes);
      few = omega (arith, within.few, times);
      raised = omega (arith, within.raised, moves.rises, moves.counts, rises);
      lowered = omega (arith, within.lowered, moves.falls, moves.counts, falls);
      refused = omega arith;
    }

is_replaced_told : (p n : ℕ) (s : SiteState) (r : Row) → r.reply ≡ reply_to s r.actor r.event
    → is_replaced_in p n r
    ≡ (is_none (first_refusal s r.actor r.event) && replace_said p n r.event)
is_replaced_told p n s r replies =
    ap (λ (b : Bool). b && replace_said p n r.event)
    (ap is_ok replies ∙ accepted_told s r.actor r.event)

flowed_is : (s : SiteState) (r : Row) (x : NozzleFigures) (b test : Bool)
    → RowMoves x.point x.nozzle s r b test → IsWithin s x
    → flowed b (reading_of x.point x.nozzle (site_after s r.actor r.event).nozzles) x
    ≡ of_accepted (flowing x.point x.nozzle) s r
flowed_is s r x b test moves within =
    ap (λ (v : ℕ). if b then 0 else
    reading_of x.point x.nozzle (site_after s r.actor r.event).nozzles - v) within.closing
    ∙ sym moves.flows

pub is_countable : (s : SiteState) (r : Row) (x : NozzleFigures) → Sound s → InRange r.event
    → r.reply ≡ reply_to s r.actor r.event → IsWithin s x
    → IsCountable (site_after s r.actor r.event) r x
is_countable s r x sound range replies within =
    let p = x.point in
    let n = x.nozzle in
    let moves = row_moves p n s r (is_replaced_in p n r) _ sound range within.there
    (sym (is_replaced_told p n s r replies)) refl in
    let closing = within.closing in
    let running = within.running in
    let flow = flowed_is s r x (is_replaced_in p n r) (facts_of s p).test moves within in
    record {
      room = have_room s x sound within;
      there = stays_there p n s r within.there;
      above = λ kept. subst (λ (v : ℕ).
          v ≤ reading_of p n (site_after s r.actor r.event).nozzles) (sym closing)
          (moves.above kept);
      left = omega (arith, moves.left, running, flow);
    }

-- figures with these parts
put : NozzleFigures → ℕ → ℕ → ℕ → ℕ → ℕ → ℕ → ℕ → ℕ → Option ℕ → NozzleFigures
put x closing metered sold drawn running replaced raised lowered reading = record x {
  closing = closing;
  metered = metered;
  sold = sold;
  drawn = drawn;
  running = running;
  replaced = replaced;
  raised = raised;
  lowered = lowered;
  refused = min (x.refused + length (cons_option reading [])) (2 ^ 64 - 1);
  highest = greatest x.highest (cons_option reading []);
}

same_put : (x : NozzleFigures) (a a' b b' c c' d d' e e' f f' g g' h h' : ℕ) (k k' : Option ℕ)
    → a ≡ a' → b ≡ b' → c ≡ c' → d ≡ d' → e ≡ e' → f ≡ f' → g ≡ g' → h ≡ h' → k ≡ k'
    → put x a b c d e f g h k ≡ put x a' b' c' d' e' f' g' h' k'
unfolding put
same_put x a a' b b' c c' d d' e e' f f' g g' h h' k k' i j l m p q r s t = cc

-- a row that is counted at a nozzle of its point is the row's own
pub counted_is : (s : SiteState) (r : Row) (x : NozzleFigures) → Sound s → InRange r.event
    → r.reply ≡ reply_to s r.actor r.event → IsWithin s x
    → counted (site_after s r.actor r.event) r (facts_of s x.point).test x ≡ with_row s r x
unfolding put
counted_is s r x sound range replies within =
    let p = x.point in
    let n = x.nozzle in
    let b = is_replaced_in p n r in
    let test = (facts_of s p).test in
    let later = site_after s r.actor r.event in
    let new = reading_of p n later.nozzles in
    let left = running_by_nozzle p n later in
    let moves = row_moves p n s r b test sound range within.there
    (sym (is_replaced_told p n s r replies)) refl in
    let closing = within.closing in
    let flow = flowed_is s r x b test moves within in
    let gone : x.running + flowed b new x - left
    ≡ running_by_nozzle p n s + of_accepted (flowing p n) s r - left =
    ap (λ (v : ℕ). v + flowed b new x - left) within.running
    ∙ ap (λ (v : ℕ). running_by_nozzle p n s + v - left) flow in
    same_put x new new _ _ _ _ _ _ left left _ _ _ _ _ _ _ _
    refl
    (ap (λ (v : ℕ). x.metered + v) flow)
    (ap (λ (v : ℕ). x.sold + v) (ap (λ (v : ℕ). if test then 0 else v) gone ∙ sym moves.sells))
    (ap (λ (v : ℕ). x.drawn + v) (ap (λ (v : ℕ). if test then v else 0) gone ∙ sym moves.draws))
    refl
    (ap (λ (v : ℕ). x.replaced + v) (sym moves.counts))
    (ap (λ (v : ℕ). x.raised + v)
    (ap (λ (v : ℕ). if b then new - v else 0) closing ∙ sym moves.rises))
    (ap (λ (v : ℕ). x.lowered + v)
    (ap (λ (v : ℕ). if b then v - new else 0) closing ∙ sym moves.falls))
    (refused_told p n s r replies)

and_false : (b : Bool) → (b && false) ≡ false
and_false true = refl
and_false false = refl

unread_there : (p n : ℕ) (s : SiteState) (r : Row) → read_said p n r.event ≡ None
    → refused_reading p n s r ≡ None
unread_there p n s r unread = by_test (is_of_meter (first_refusal s r.actor r.event))
  where
    by_test : (b : Bool) → (if b then read_said p n r.event else None) ≡ None
    by_test true = unread
    by_test false = refl

all_of : (x : NozzleFigures) → x.refused < 2 ^ 64
    → min (x.refused + 0) (2 ^ 64 - 1) ≡ x.refused
all_of x few = omega (arith, few)

-- a row of another point leaves the figures
pub other_is : (s : SiteState) (r : Row) (x : NozzleFigures) → Sound s → InRange r.event
    → IsWithin s x → is_of_point (point_named r.event) x.point ≡ false → x ≡ with_row s r x
unfolding put
other_is s r x sound range within other =
    let p = x.point in
    let n = x.nozzle in
    let later = site_after s r.actor r.event in
    let leaves = leaves_nozzle p n s r other in
    let law : AddsUp p n s (r ∷ []) =
    each_nozzle_adds_up s (r ∷ []) p n sound (range, tt) within.there in
    let unsaid : (is_none (first_refusal s r.actor r.event) && replace_said p n r.event) ≡ false =
    ap (λ (b : Bool). is_none (first_refusal s r.actor r.event) && b) leaves.unsaid
    ∙ and_false (is_none (first_refusal s r.actor r.event)) in
    let moves = row_moves p n s r false _ sound range within.there unsaid refl in
    let counter = law.counter in
    let volumes = law.volumes in
    let reading = leaves.reading in
    let running = leaves.running in
    let flows : of_accepted (flowing p n) s r ≡ 0 = omega (arith, moves.flows, reading) in
    ap (λ (v : ℕ). record x { refused = v }) (sym (all_of x within.refused))
    ∙ same_put x x.closing _ x.metered _ x.sold _ x.drawn _ x.running _ x.replaced _ x.raised _
    x.lowered _ None _
    (within.closing ∙ sym reading)
    (omega (arith, flows))
    (omega (arith, flows, volumes, running))
    (omega (arith, flows, volumes, running))
    (within.running ∙ sym running)
    (omega (arith, moves.counts))
    (omega (arith, moves.rises))
    (omega (arith, moves.falls))
    (sym (unread_there p n s r leaves.unread))

-- ---- each of the figures

-- which of them is a row's own is decided at its point
counted_one : (s : SiteState) (r : Row) (x : NozzleFigures) → Sound s → InRange r.event
    → r.reply ≡ reply_to s r.actor r.event → IsWithin s x
    → counted_at (point_named r.event) (site_after s r.actor r.event) r
    (is_test_at s (point_named r.event)) x ≡ with_row s r x
counted_one s r x sound range replies within = by_point (point_named r.event) refl
  where
    by_named : (q : ℕ) → point_named r.event ≡ Some q → (b : Bool) → (x.point == q) ≡ b
        → (if b then counted (site_after s r.actor r.event) r (facts_of s q).test x else x)
        ≡ with_row s r x
    by_named q named true is =
        ap (λ (k : ℕ). counted (site_after s r.actor r.event) r (facts_of s k).test x)
        (sym (same x.point q is))
        ∙ counted_is s r x sound range replies within
    by_named q named false is =
        other_is s r x sound range within
        (ap (λ (o : Option ℕ). is_of_point o x.point) named ∙ is)

    by_point : (o : Option ℕ) → point_named r.event ≡ o
        → counted_at o (site_after s r.actor r.event) r (is_test_at s o) x ≡ with_row s r x
    by_point None named =
        other_is s r x sound range within (ap (λ (o : Option ℕ). is_of_point o x.point) named)
    by_point (Some q) named = by_named q named (x.point == q) refl

pub counted_all : (s : SiteState) (r : Row) (xs : List NozzleFigures) → Sound s
    → InRange r.event → r.reply ≡ reply_to s r.actor r.event → AreWithin s xs
    → map (counted_at (point_named r.event) (site_after s r.actor r.event) r
    (is_test_at s (point_named r.event))) xs ≡ map (with_row s r) xs
counted_all s r [] sound range replies within = refl
counted_all s r (x ∷ xs) sound range replies within =
    ap (λ (y : NozzleFigures). y ∷ map (counted_at (point_named r.event)
    (site_after s r.actor r.event) r (is_test_at s (point_named r.event))) xs)
    (counted_one s r x sound range replies within.0)
    ∙ ap (λ (ys : List NozzleFigures). with_row s r x ∷ ys)
    (counted_all s r xs sound range replies within.1)

pub all_within : (s : SiteState) (r : Row) (xs : List NozzleFigures) → Sound s
    → InRange r.event → AreWithin s xs
    → AreWithin (site_after s r.actor r.event) (map (with_row s r) xs)
all_within s r [] sound range within = tt
all_within s r (x ∷ xs) sound range within =
    (within_next s r x sound range within.0, all_within s r xs sound range within.1)

pub all_countable : (s : SiteState) (r : Row) (named : Option ℕ) (xs : List NozzleFigures)
    → Sound s → InRange r.event → r.reply ≡ reply_to s r.actor r.event → AreWithin s xs
    → AreCountable named (site_after s r.actor r.event) r xs
all_countable s r named [] sound range replies within = tt
all_countable s r named (x ∷ xs) sound range replies within = (
  λ own. is_countable s r x sound range replies within.0,
  all_countable s r named xs sound range replies within.1,
)

-- ---- what a reader has read

all_next : (s : SiteState) (rows : List Row) (r : Row) (xs : List Nozzle)
    → map (with_row (site_of_rows s rows) r) (map (figures_of s rows) xs)
    ≡ map (figures_of s (rows ++ r ∷ [])) xs
all_next s rows r [] = refl
all_next s rows r (x ∷ xs) =
    ap (λ (y : NozzleFigures). y ∷ map (with_row (site_of_rows s rows) r)
    (map (figures_of s rows) xs)) (figures_next s rows r x)
    ∙ ap (λ (ys : List NozzleFigures). figures_of s (rows ++ r ∷ []) x ∷ ys)
    (all_next s rows r xs)

pub read_next : (c : Configured) (start : SiteState) (rows : List Row) (r : Row)
    (old new : MetersRead) → new.site ≡ site_after old.site r.actor r.event
    → new.figures ≡ map (with_row old.site r) old.figures
    → HasRead c start rows old → HasRead c start (rows ++ r ∷ []) new
read_next c start rows r old new leads counts read = record {
  site = leads ∙ ap (λ (s : SiteState). site_after s r.actor r.event) read.site
      ∙ sym (site_of_rows-push start rows r);
  figures = counts ∙ ap (λ (s : SiteState). map (with_row s r) old.figures) read.site
      ∙ ap (map (with_row (site_of_rows start rows) r)) read.figures
      ∙ all_next start rows r (opening_nozzles c);
}

-- ---- a reader that begins again

all_begun : (start : SiteState) (rows : List Row) (xs : List Nozzle)
    → map begun (map (figures_of start rows) xs) ≡ map (figures_of (site_of_rows start rows) []) xs
all_begun start rows [] = refl
all_begun start rows (x ∷ xs) =
    ap (λ (ys : List NozzleFigures). figures_of (site_of_rows start rows) [] x ∷ ys)
    (all_begun start rows xs)

pub read_begun : (c : Configured) (start : SiteState) (rows : List Row) (old new : MetersRead)
    → new.site ≡ old.site → new.figures ≡ map begun old.figures → HasRead c start rows old
    → HasRead c old.site [] new
read_begun c start rows old new same_site begins read = record {
  site = same_site;
  figures = begins ∙ ap (map begun) read.figures ∙ all_begun start rows (opening_nozzles c)
      ∙ ap (λ (s : SiteState). map (figures_of s []) (opening_nozzles c)) (sym read.site);
}

-- ---- the nozzles of an opening are there

found_in : (before : List Nozzle) (x : Nozzle) (after : List Nozzle)
    → has_nozzle x.point x.number (before ++ x ∷ after) ≡ true
found_in [] x after = rw (own_name x) refl
  where
    own_name : (y : Nozzle) → is_nozzle y.point y.number y ≡ true
    own_name y = ap (λ (b : Bool). b && y.number == y.number) (itself y.point) ∙ itself y.number
found_in (y ∷ before) x after =
    by_test (is_nozzle x.point x.number y) (found_in before x after)
  where
    by_test : (b : Bool) → has_nozzle x.point x.number (before ++ x ∷ after) ≡ true
        → is_some (if b then Some y else nozzle_of x.point x.number (before ++ x ∷ after)) ≡ true
    by_test true found = refl
    by_test false found = found

pub all_there : (before xs : List Nozzle) → AreThere (before ++ xs) xs
all_there before [] = tt
all_there before (x ∷ xs) = (
  found_in before x xs,
  subst (λ (ys : List Nozzle). AreThere ys xs) (append_assoc before (x ∷ []) xs)
      (all_there (before ++ x ∷ []) xs),
)

pub opening_there : (s : SiteState) (c : Configured) (points : List PointEntry) → s ≡ opening c
    → points ≡ c.points → AreThere s.nozzles (nozzles_of_points points)
opening_there s c points is configured =
    subst (λ (xs : List Nozzle). AreThere xs (nozzles_of_points points))
    (ap nozzles_of_points configured ∙ ap (λ (t : SiteState). t.nozzles) (sym is))
    (all_there [] (nozzles_of_points points))

are_parts : (nozzles xs ys : List Nozzle) → AreThere nozzles (xs ++ ys)
    → AreThere nozzles xs × AreThere nozzles ys
are_parts nozzles [] ys are = (tt, are)
are_parts nozzles (x ∷ xs) ys are =
    let rest = are_parts nozzles xs ys are.1 in
    ((are.0, rest.0), rest.1)

points_left : (i : ℕ) (points : List PointEntry) (d : PointEntry) → i < length points
    → nozzles_of_points (drop i points)
    ≡ nozzles_of_point (get_or points i d) ++ nozzles_of_points (drop (i + 1) points)
points_left i points d within =
    ap nozzles_of_points
    (let left : drop i points ≡ get_or points i d ∷ drop (i + 1) points =
    rw add-one (drop-cons points i d within) in left)

-- the nozzles of the point at this place, and those of the points behind it
pub record ArePartsThere (nozzles : List Nozzle) (i : ℕ) (points : List PointEntry)
    (point : PointEntry) : Type 0 where
  pub here : AreThere nozzles (nozzles_of_point point)
  pub behind : AreThere nozzles (nozzles_of_points (drop (i + 1) points))

pub parts_there : (nozzles : List Nozzle) (i : ℕ) (points : List PointEntry) (point : PointEntry)
    → i < length points → point ≡ get_or points i point
    → AreThere nozzles (nozzles_of_points (drop i points))
    → ArePartsThere nozzles i points point
parts_there nozzles i points point within is are =
    let parts = are_parts nozzles (nozzles_of_point (get_or points i point))
    (nozzles_of_points (drop (i + 1) points))
    (subst (AreThere nozzles) (points_left i points point within) are) in
    record {
      here = subst (λ (e : PointEntry). AreThere nozzles (nozzles_of_point e)) (sym is) parts.0;
      behind = parts.1;
    }

pub parts_added : (s : SiteState) (i : ℕ) (points : List PointEntry) (point : PointEntry)
    (before all : List NozzleFigures) → i < length points → point ≡ get_or points i point
    → before ++ map (figures_of s []) (nozzles_of_points (drop i points)) ≡ all
    → (before ++ map (figures_of s []) (nozzles_of_point point))
    ++ map (figures_of s []) (nozzles_of_points (drop (i + 1) points)) ≡ all
parts_added s i points point before all within is added =
    append_assoc before (map (figures_of s []) (nozzles_of_point point))
    (map (figures_of s []) (nozzles_of_points (drop (i + 1) points)))
    ∙ ap (λ (ys : List NozzleFigures). before ++ ys)
    (sym (map-append (figures_of s []) (nozzles_of_point point)
    (nozzles_of_points (drop (i + 1) points)))
    ∙ ap (map (figures_of s []))
    (ap (λ (e : PointEntry). nozzles_of_point e ++ nozzles_of_points (drop (i + 1) points)) is
    ∙ sym (points_left i points point within)))
    ∙ added
