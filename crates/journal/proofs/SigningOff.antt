-- Tills that are signed off, one after another.
use Rattle.std.proofs.Common.{◌≡◌, ℕ, zero, suc, ◌+◌, ◌-◌, ◌<◌, ◌==◌, Bool, true, false, List, []}
use Rattle.std.proofs.Common.{◌∷◌, ◌++◌}
use Rattle.std.proofs.Common.{length, take}
use Rattle.std.proofs.Common.{Option, Some, None, refl, sym, ap, ◌∙◌}
use Rattle.std.proofs.Common.{arith, subst}
use Rattle.std.specs.Prelude.{◌≤◌, OnSome, if◌then◌else◌, is_some}
use Rattle.std.specs.Ordering.{nat_cmp}
use Rattle.std.specs.FinSet as set
use Rattle.std.proofs.lemmas.Bool.{eq-eqb}
use Rattle.std.proofs.lemmas.Bool.Decides.{nat_tests}
use Rattle.std.proofs.lemmas.List.{length-append}
use Rattle.std.proofs.Math.Seq.{take-append_seam}
use Rattle.site_base.specs.declared.actor.Actor.TheVariants.{Till}
use Rattle.site_base.specs.declared.event.Event.TheVariants.{SignOff}
use Rattle.site_base.specs.declared.limits.TheConstants.{TILLS}
use Rattle.site_base.specs.declared.row.Row.{Row}
use Rattle.site_base.specs.Configured.{Configured}
use Rattle.device_map.proofs.Results.{equal}
use Rattle.written_site.specs.SiteRun.{IsLegal, site_of_rows}
use Rattle.written_site.specs.SiteState.{SiteState, is_signed_on, opening}
use Rattle.written_site.specs.SiteStep.{site_after}
use Rattle.site_book.specs.Book.{AreActors, AreRowsInRange, Book, site_of_book}
use Rattle.site_book.specs.Book.{with_row_of}
use Rattle.site_book.specs.SignedOn.{AreTills}
use Rattle.site_book.specs.Unpaid.{GoesBy, Kept}
use Rattle.site_book.proofs.Growing.{goes_on}
use Rattle.kept_history.specs.KeptRows.{kept_rows}
use Rattle.std.specs.List.{AllByRecursion}
use Rattle.site_book.proofs.SignedTills.{tills_row}
use Rattle.station.specs.Gates.{open_gates}
use Rattle.station.specs.Runs.{opening_station}
use Rattle.station.specs.Sessions.{without_till}
use Rattle.station.proofs.Leaving.{signed_off}
use Rattle.station.proofs.TillSessions.{still_on}
use Rattle.journal.specs.Disks.{DiskFile, Keeps, OfFile, OfFiles}
use Rattle.chapters.specs.History.{empty_book}
use Rattle.journal.specs.Opening.{HasNobodyOn, Resumes, all_off, tills_off}
use Rattle.chapters.specs.declared.chapter_begin.ChapterBegin.{ChapterBegin}
use Rattle.chapters.specs.HistoryEnds.{EndState}
use Rattle.chapters.specs.RowText.{CanBeSpelled, IsSent, kept_behind, kept_first}
use Rattle.chapters.proofs.Lists.{all_both}
use Rattle.journal.specs.Stored.{GrowsByRound, HoldsRows, IsJournalOf, JournalState, StoredState}
use Rattle.journal.proofs.Made.{Adds, adds_same, adds_then}
use Rattle.journal.proofs.Moves.{adds_leaving}

-- sign-offs only add rows
pub off_adds : (n : ℕ) (b : Book) → Adds b (tills_off n b)
off_adds zero b = adds_same b b refl
off_adds (suc n) b =
    adds_then b (tills_off n b) (tills_off (suc n) b) (off_adds n b)
    (adds_leaving (Some (suc n)) (tills_off n b))

-- one till more
pub one_more : (n : ℕ) (a b : Book) → b ≡ tills_off (n - 1) a → 1 ≤ n
    → without_till (Some n) b ≡ tills_off (n + 1 - 1) a
one_more zero a b is least = absurd (omega (arith, least))
one_more (suc n) a b is least =
    let before : suc n - 1 ≡ n = omega arith in
    let after : suc n ≡ suc n + 1 - 1 = omega arith in
    ap (without_till (Some (suc n))) (is ∙ ap (λ (k : ℕ). tills_off k a) before)
    ∙ ap (λ (k : ℕ). tills_off k a) after

-- the tills below a number are off, and then this one too
pub one_more_off : (b : Book) (n : ℕ)
    → ((t : ℕ) → 1 ≤ t → t < n → is_signed_on (site_of_book b) t ≡ false)
    → (t : ℕ) → 1 ≤ t → t < n + 1
    → is_signed_on (site_of_book (without_till (Some n) b)) t ≡ false
one_more_off b n off t least less = by_test (n == t) refl
  where
    by_test : (is : Bool) → (n == t) ≡ is
        → is_signed_on (site_of_book (without_till (Some n) b)) t ≡ false
    by_test true is =
        subst (λ (u : ℕ). is_signed_on (site_of_book (without_till (Some n) b)) u ≡ false)
        (equal n t is) (signed_off b n)
    by_test false is = still_on b n t is ∙ off t least (grind (arith, nat_tests))

-- ---- no other till is signed on

tills_after : (s : SiteState) (rows : List Row) → IsLegal s rows → AreActors rows → AreTills s
    → AreTills (site_of_rows s rows)
tills_after s [] legal actors tills = tills
tills_after s (r ∷ rs) legal actors tills =
    tills_after (site_after s r.actor r.event) rs legal.1 actors.1
    (tills_row s r legal.0 actors.0 tills)

pub nobody_on : (b : Book) → IsLegal (opening b.config) b.rows → AreRowsInRange b.rows
    → ((t : ℕ) → 1 ≤ t → t < TILLS + 1 → is_signed_on (site_of_book b) t ≡ false)
    → HasNobodyOn b
nobody_on b legal ranges off t = by_test (is_signed_on (site_of_book b) t) refl
  where
    none : AreTills (opening b.config)
    none u is =
        let never : false ≡ true = sym (set.contains-empty nat_cmp u) ∙ is in
        absurd (cc never)

    by_test : (on : Bool) → is_signed_on (site_of_book b) t ≡ on
        → is_signed_on (site_of_book b) t ≡ false
    by_test false is = is
    by_test true is =
        let there = tills_after (opening b.config) b.rows legal ranges.actors none t is in
        off t there.0 (omega (arith, there.1))

-- nor is one before the first row
pub nobody_yet : (config : Configured) → HasNobodyOn (empty_book config)
nobody_yet config = λ t. set.contains-empty nat_cmp t

-- ---- the journal of what was recovered

-- each row that was recovered is kept, and stored
pub journal_begun : (site : List ℕ) (recovered b : Book) (e : EndState) (begin : ChapterBegin)
    (clock : Option (List ℕ)) (file : Option DiskFile) (stored : ℕ) → OfFile (HoldsRows site recovered.rows false e) file
    → kept_rows recovered.rows ≡ recovered.rows → CanBeSpelled recovered.rows
    → stored ≡ length recovered.rows → b ≡ all_off recovered
    → IsJournalOf b.rows
    (record {
      site = site;
      stored = stored;
      failed = false;
      end = e;
      begin = begin;
      refused = None;
      clock = clock;
      due = true;
      file = file;
    })
journal_begun site recovered b e begin clock file stored holds kept spelled size off =
    let adds = subst (Adds recovered) (sym off) (off_adds TILLS recovered) in
    let front : kept_first stored b.rows ≡ recovered.rows =
    ap kept_rows (ap (take stored) adds.rows
    ∙ ap (λ (n : ℕ). take n (recovered.rows ++ adds.later)) size
    ∙ take-append_seam recovered.rows adds.later) ∙ kept in
    let all : length b.rows ≡ length recovered.rows + length adds.later =
    ap length adds.rows ∙ length-append recovered.rows adds.later in
    record {
      few = omega (arith, size, all);
      spelled = subst CanBeSpelled (sym front) spelled;
      holds = subst (λ (rs : List Row). OfFile (HoldsRows site rs false e) file) (sym front) holds;
    }

-- what goes by the recovered book goes by it with its sign-offs
pub unpaid_off : (kept : Kept) (recovered b : Book) → b ≡ all_off recovered
    → GoesBy kept recovered → GoesBy kept b
unpaid_off kept recovered b off goes =
    let adds = subst (Adds recovered) (sym off) (off_adds TILLS recovered) in
    goes_on kept recovered b adds.later adds.same adds.rows
    (omega (arith, adds.memory, goes.behind)) goes

pub sent_off : (recovered b : Book) → b ≡ all_off recovered
    → AllByRecursion IsSent recovered.rows → AllByRecursion IsSent b.rows
sent_off recovered b off sent =
    let adds = subst (Adds recovered) (sym off) (off_adds TILLS recovered) in
    subst (AllByRecursion IsSent) (sym adds.rows)
    (all_both IsSent recovered.rows adds.later sent adds.sent)

-- .. and it forgets no more than was recovered
pub behind_off : (recovered b : Book) → b ≡ all_off recovered
    → recovered.forgotten ≤ length recovered.rows → b.forgotten ≤ length recovered.rows
behind_off recovered b off few =
    let adds = subst (Adds recovered) (sym off) (off_adds TILLS recovered) in
    omega (arith, adds.memory, few)

-- .. and is allowed as many
pub allowed_off : (recovered b : Book) → b ≡ all_off recovered → b.config ≡ recovered.config
allowed_off recovered b off =
    let adds = subst (Adds recovered) (sym off) (off_adds TILLS recovered) in
    adds.same

-- a station that begins with it, each row of which is stored
pub resumes : (site : List ℕ) (recovered b : Book) (last clock : Option (List ℕ)) (unpaid : Kept)
    (file : Option DiskFile) (j : JournalState) (s : StoredState)
    → s ≡ record { station = opening_station open_gates b; unpaid = unpaid; journal = Some j }
    → b ≡ all_off recovered → HasNobodyOn b → j.stored ≡ length b.rows → j.site ≡ site
    → j.clock ≡ clock → OfFiles (GrowsByRound last clock (kept_behind (length recovered.rows) b.rows)) file j.file
    → OfFiles Keeps file j.file → Resumes site recovered last clock file s
resumes site recovered b last clock unpaid file j s is signed off all named timed lines keeps =
    subst (Resumes site recovered last clock file) (sym is) (record {
      alone = refl;
      rows = signed;
      off = off;
      stored = eq-eqb j.stored (length b.rows) all;
      journal = j;
      there = refl;
      named = named;
      clock = timed;
      lines = lines;
      moments = keeps;
    })

-- ---- one till

-- what the sign-off of a till answers says whether it was signed on
pub left_by : {X : Type 0} (b new : Book) (t : ℕ) (r : Option X)
    → OnSome r (new ≡ with_row_of b (Till t) SignOff)
    → is_some r ≡ is_signed_on (site_of_book b) t → (is_some r ≡ false → new ≡ b)
    → new ≡ without_till (Some t) b
left_by b new t (Some placed) row on none =
    row ∙ ap (λ (is : Bool). if is then with_row_of b (Till t) SignOff else b) on
left_by b new t None row on none =
    none refl ∙ ap (λ (is : Bool). if is then with_row_of b (Till t) SignOff else b) on
