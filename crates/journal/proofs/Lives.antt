-- What is told stays through a history's life.
use Rattle.std.proofs.Common.{◌≡◌, ◌∙◌, ℕ, suc, Bool, true, false, List, [], ◌∷◌, ◌++◌}
use Rattle.std.proofs.Common.{Option, Some, None, refl, sym, ap, inl, inr, drop, length, subst}
use Rattle.std.specs.Prelude.{◌==◌, ◌&&◌, if◌then◌else◌}
use Rattle.std.specs.List.{AllByRecursion, starts_with}
use Rattle.std.proofs.lemmas.Option.{none-some}
use Rattle.site_base.specs.declared.actor.Actor.{Actor}
use Rattle.site_base.specs.declared.event.Event.{Event}
use Rattle.chapters.specs.ChapterReading.{HistoryRead, and_then, is_none_left, nothing_read}
use Rattle.chapters.specs.ChapterReading.{read_chapter, read_from, read_lines}
use Rattle.chapters.specs.ChapterText.{first_lines, text_of_lines}
use Rattle.chapters.specs.Lines.{unfinished, unfinished_from, whole_lines}
use Rattle.chapters.proofs.FirstLines.{begins_parts}
use Rattle.chapters.proofs.Lines.{unfinished_both}
use Rattle.chapters.proofs.Reading.{lines_keep_torn}
use Rattle.chapters.proofs.ReadingChapters.{none_torn}
use Rattle.journal.specs.Disks.{BeginsWith, GoesOn, Moment, moment_of}
use Rattle.journal.specs.Lives.{CallsAreSteps, IsLife, KeepsLines, end_of}
use Rattle.journal.specs.Readings.{TellsWhole}
use Rattle.journal.proofs.Fronts.{begins_all, goes_then}

-- ---- what is told whole ends with a line

-- what a chapter leaves behind its last line feed
chapter_torn : (site : List ℕ) (n : ℕ) (text : List ℕ) (r s : HistoryRead)
    → read_chapter site n text r ≡ Some s → s.torn ≡ unfinished text
chapter_torn site n text r s =
    by_test (is_none_left r) (starts_with (λ a b. a == b) text first) refl
  where
    lines : List (List ℕ)
    lines = first_lines site n r.seal

    first : List ℕ
    first = text_of_lines lines

    rest : List ℕ
    rest = drop (length first) text

    by_test : (a b : Bool) → starts_with (λ x y. x == y) text first ≡ b
        → (if a && b then read_lines (whole_lines rest)
        (record r { unsealed = lines; torn = unfinished rest }) else None) ≡ Some s
        → s.torn ≡ unfinished text
    by_test true true begins is =
        lines_keep_torn (whole_lines rest) (record r { unsealed = lines; torn = unfinished rest }) s is
        ∙ sym (ap unfinished (begins_parts text first begins)
        ∙ unfinished_both [] first rest
        ∙ ap (λ (left : List ℕ). unfinished_from left rest) (none_torn lines))
    by_test true false begins is = absurd (none-some s is)
    by_test false b begins is = absurd (none-some s is)

-- .. all of them
all_torn : (site : List ℕ) (n : ℕ) (closed : List (List ℕ)) (front : List ℕ) (r s : HistoryRead)
    → read_from site n (closed ++ front ∷ []) r ≡ Some s → s.torn ≡ unfinished front
all_torn site n [] front r s is = by_chapter (read_chapter site n front r) refl is
  where
    by_chapter : (o : Option HistoryRead) → read_chapter site n front r ≡ o
        → and_then o (λ x. Some x) ≡ Some s → s.torn ≡ unfinished front
    by_chapter None read is = absurd (none-some s is)
    by_chapter (Some x) read is = chapter_torn site n front r s (read ∙ is)
all_torn site n (text ∷ closed) front r s is =
    by_chapter (read_chapter site n text r) is (λ x. all_torn site (suc n) closed front x s)
  where
    by_chapter : (o : Option HistoryRead)
        → and_then o (read_from site (suc n) (closed ++ front ∷ [])) ≡ Some s
        → ((x : HistoryRead) → read_from site (suc n) (closed ++ front ∷ []) x ≡ Some s
        → s.torn ≡ unfinished front)
        → s.torn ≡ unfinished front
    by_chapter None is rest = absurd (none-some s is)
    by_chapter (Some x) is rest = rest x is

pub told_whole : (site : List ℕ) (m : Moment) (events : List (Actor × Event))
    → TellsWhole site m events → unfinished m.front ≡ []
told_whole site m events tells =
    sym (all_torn site 1 m.closed m.front nothing_read tells.tells.reading tells.tells.read)
    ∙ tells.whole

-- ---- a life

begins_none : (xs : List ℕ) → BeginsWith [] xs
begins_none xs = record { rest = xs; parts = refl }

-- what goes on from a front that ends with a line still does behind one step more
pub goes_on_step : (at : Moment) → unfinished at.front ≡ [] → (m n : Moment) → GoesOn at m
    → KeepsLines m n → GoesOn at n
goes_on_step at whole m n (inl one) keeps =
    goes_then at (record m { front = at.front }) n
    (inl (record { closed = one.closed; front = begins_all at.front }))
    (keeps at.front whole one.front)
goes_on_step at whole m n (inr one) keeps =
    goes_then at (record m { front = [] }) n
    (inr (record {
      text = one.text;
      more = one.more;
      closed = one.closed;
      front = one.front;
    }))
    (keeps [] refl (begins_none m.front))

pub goes_for_life : (at : Moment) → unfinished at.front ≡ [] → (m : Moment) (life : List Moment)
    → GoesOn at m → IsLife m life → GoesOn at (end_of m life)
goes_for_life at whole m [] goes lives = goes
goes_for_life at whole m (n ∷ life) goes lives =
    goes_for_life at whole n life (goes_on_step at whole m n goes lives.0) lives.1

-- ---- calls

-- what follows the same moments is the same
same_rest : (a b c : List Moment) → a ++ b ≡ a ++ c → b ≡ c
same_rest [] b c is = is
same_rest (x ∷ a) b c is = same_rest a b c (ap behind_first is)
  where
    behind_first : List Moment → List Moment
    behind_first [] = []
    behind_first (y ∷ ys) = ys

-- what goes on from all of a moment keeps its lines
goes_keeps : (m n : Moment) → GoesOn m n → KeepsLines m n
goes_keeps m n goes front whole begins =
    goes_then (record m { front = front }) m n (inl (record { closed = refl; front = begins })) goes

each_keeps : (m : Moment) (more : List Moment) → AllByRecursion (GoesOn m) more
    → AllByRecursion (KeepsLines m) more
each_keeps m [] each = tt
each_keeps m (n ∷ more) each = (goes_keeps m n each.0, each_keeps m more each.1)

each_of_fronts : (m : Moment) (more : List Moment)
    → ((front : List ℕ) → unfinished front ≡ [] → BeginsWith front m.front
    → AllByRecursion (GoesOn (record m { front = front })) more)
    → AllByRecursion (KeepsLines m) more
each_of_fronts m [] each = tt
each_of_fronts m (n ∷ more) each = (
  λ front whole begins. (each front whole begins).0,
  each_of_fronts m more (λ front whole begins. (each front whole begins).1),
)

pub calls_are_steps : CallsAreSteps
calls_are_steps old new more (inl keeps) moments =
    let same = same_rest old.moments keeps.more more (sym keeps.moments ∙ moments) in
    record {
      each = each_keeps (moment_of old) more
          (subst (AllByRecursion (GoesOn (moment_of old))) same keeps.each);
      last = goes_keeps (moment_of old) (moment_of new) keeps.last;
    }
calls_are_steps old new more (inr keeps) moments = record {
  each = each_of_fronts (moment_of old) more
      (λ front whole begins.
      let kept = keeps front whole begins in
      let same = same_rest old.moments kept.more more (sym kept.moments ∙ moments) in
      subst (AllByRecursion (GoesOn (record { closed = old.closed; front = front }))) same kept.each);
  last = λ front whole begins. (keeps front whole begins).last;
}
