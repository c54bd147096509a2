-- What is written of a round, part by part.
use Rattle.std.proofs.Common.{◌≡◌, ℕ, Bool, true, false, List, [], ◌∷◌, ◌++◌, Option, Some, None}
use Rattle.std.proofs.Common.{refl, sym, ap, ◌∙◌, append-nil, append_assoc, arith, drop, inl, inr}
use Rattle.std.proofs.Common.{◌+◌, ◌-◌, length, nat_le, subst, take}
use Rattle.std.specs.Prelude.{◌≢◌, ◌≤◌, ◌&&◌, ◌==◌, not, if◌then◌else◌}
use Rattle.std.proofs.Math.Seq.{drop-append_seam}
use Rattle.std.proofs.lemmas.Bool.{cases_eq, ne_eqb}
use Rattle.std.proofs.lemmas.Bool.Decides.{nat_tests}
use Rattle.std.proofs.lemmas.Grind.{common_steps}
use Rattle.std.proofs.lemmas.List.{length-append, take_all}
use Rattle.std.specs.List.{cons_option}
use Rattle.std.proofs.lemmas.List.Elements.{filter-append}
use Rattle.site_base.specs.declared.actor.Actor.{Actor}
use Rattle.site_base.specs.declared.event.Event.{Event}
use Rattle.site_base.specs.declared.row.Row.{Row}
use Rattle.device_map.specs.Laws.{AsksFor}
use Rattle.hex_lines.specs.Lines.{IsLine}
use Rattle.kept_history.specs.KeptRows.{is_kept, kept_rows}
use Rattle.stamps.specs.Stamps.{are_formed, at_line, is_digit, is_formed, is_later, is_stamp, later_of}
use Rattle.stamps.specs.Stamps.{stamp_form}
use Rattle.written_site.specs.SiteRun.{events_of}
use Rattle.chapters.specs.ChapterReading.{HistoryRead, and_then, is_of_seal, read_lines}
use Rattle.chapters.specs.ChapterReading.{with_comment, with_seal}
use Rattle.chapters.specs.ChapterText.{row_digits, seal_line, seal_mark, seal_of, text_of_lines}
use Rattle.chapters.specs.HistoryEnds.{EndState, EndsAt}
use Rattle.chapters.specs.OpenShift.{first_after, first_behind}
use Rattle.chapters.specs.declared.open_shift.FirstRow.{FirstRow}
use Rattle.chapters.specs.Rounds.{Writes, WritesFirst, WritesRound, round_lines, stamp_lines}
use Rattle.chapters.specs.Rounds.{time_behind, without_seals}
use Rattle.chapters.specs.RowText.{CanBeSpelled, row_line, row_request}
use Rattle.chapters.specs.Times.{Rise, times_in}
use Rattle.chapters.proofs.Chapters.{IsTold, row_asks, rows_plain, rows_read, seal_plain, seal_read}
use Rattle.chapters.proofs.Chapters.{with_rows}
use Rattle.chapters.proofs.FirstLines.{begins_itself, texts_both}
use Rattle.chapters.proofs.Lists.{all_both}
use Rattle.chapters.proofs.Octets.{plain_both}
use Rattle.chapters.proofs.Reading.{read_both}
use Rattle.chapters.proofs.Requests.{events_both}
use Rattle.chapters.proofs.Times.{and_left, and_right, request_tells_none, rise_then, times_both}

-- nothing more
pub writes_nothing : (chapters : ℕ) (r : HistoryRead) (e : EndState) (text : List ℕ)
    → EndsAt chapters r.seal r.unsealed e → Writes [] [] chapters r e e text text
writes_nothing chapters r e text ends = record {
  lines = [];
  grows = sym (append-nil text);
  plain = tt;
  says = refl;
  reading = r;
  read = refl;
  told = sym (append-nil r.events);
  ends = ends;
  time = λ known. known;
  rises = refl;
}

-- one part, and then another
pub writes_then : (said more : List (List ℕ)) (rows others : List Row) (chapters : ℕ)
    (r : HistoryRead) (old mid new : EndState) (a b c : List ℕ)
    → (one : Writes said rows chapters r old mid a b)
    → Writes more others chapters one.reading mid new b c
    → Writes (said ++ more) (rows ++ others) chapters r old new a c
writes_then said more rows others chapters r old mid new a b c one two = record {
  lines = one.lines ++ two.lines;
  grows =
      two.grows ∙ ap (λ (xs : List ℕ). xs ++ text_of_lines two.lines) one.grows
      ∙ append_assoc a (text_of_lines one.lines) (text_of_lines two.lines)
      ∙ ap (λ (xs : List ℕ). a ++ xs) (sym (texts_both one.lines two.lines));
  plain = all_both IsLine one.lines two.lines one.plain two.plain;
  says =
      filter-append (λ line. not (is_of_seal line)) one.lines two.lines
      ∙ ap (λ (ls : List (List ℕ)). ls ++ without_seals two.lines) one.says
      ∙ ap (λ (ls : List (List ℕ)). said ++ ls) two.says;
  reading = two.reading;
  read =
      read_both one.lines two.lines r
      ∙ ap (λ (o : Option HistoryRead). and_then o (read_lines two.lines)) one.read ∙ two.read;
  told =
      two.told ∙ ap (λ (es : List (Actor × Event)). es ++ events_of others) one.told
      ∙ append_assoc r.events (events_of rows) (events_of others)
      ∙ ap (λ (es : List (Actor × Event)). r.events ++ es) (sym (events_both rows others));
  ends = two.ends;
  time = λ known. two.time (one.time known);
  rises =
      subst (λ (times : List (List ℕ)). Rise old.time times new.time)
      (sym (times_both one.lines two.lines))
      (rise_then old.time mid.time new.time (times_in one.lines) (times_in two.lines) one.rises
      two.rises);
}

-- ---- a stamp

not_feed : (form octet : ℕ) → not (form == 10) ≡ true → is_formed form octet ≡ true
    → not (octet == 10) ≡ true
not_feed form octet plain formed = elim (cases_eq octet 10) [
  | inl is ↦ absurd (feed_fits form plain
      (subst (λ (x : ℕ). is_formed form x ≡ true) is formed))
  | inr other ↦ ap not (ne_eqb octet 10 other)
]
  where
    feed_fits : (f : ℕ) → not (f == 10) ≡ true → is_formed f 10 ≡ true → ⊥
    feed_fits f plain fits = by_test (is_digit f) fits
      where
        by_test : (digit : Bool)
            → (if digit then nat_le 48 10 && nat_le 10 f else 10 == f) ≡ true → ⊥
        by_test true fits = cc fits
        by_test false fits = grind (arith, nat_tests, common_steps, plain, fits)

-- octets of a form without a line feed have none
formed_plain : (form octets : List ℕ) → IsLine form → are_formed form octets ≡ true
    → IsLine octets
formed_plain [] [] plain formed = refl
formed_plain [] (b ∷ bs) plain formed = absurd cc
formed_plain (f ∷ form) [] plain formed = refl
formed_plain (f ∷ form) (b ∷ bs) plain formed =
    let no = not_feed f b (and_left _ _ plain) (and_left _ _ formed) in
    rw no (formed_plain form bs (and_right _ _ plain) (and_right _ _ formed))

pub writes_stamp : (time : List ℕ) (chapters : ℕ) (r : HistoryRead) (old new : EndState)
    (text longer : List ℕ) → is_stamp time ≡ true → is_later old.time time ≡ true
    → longer ≡ text ++ text_of_lines (at_line time ∷ [])
    → EndsAt chapters r.seal (r.unsealed ++ at_line time ∷ []) new → new.time ≡ Some time
    → Writes (at_line time ∷ []) [] chapters r old new text longer
writes_stamp time chapters r old new text longer formed later grows ends is = record {
  lines = at_line time ∷ [];
  grows = grows;
  plain = (plain_both (at_line []) time refl (formed_plain stamp_form time refl formed), tt);
  says = refl;
  reading = with_comment (at_line time) r;
  read = refl;
  told = sym (append-nil r.events);
  ends = ends;
  time = λ known.
      is
      ∙ sym (ap (λ (o : Option (List ℕ)). later_of r.time o)
      (ap (λ (t : Bool). if t then Some time else None) formed)
      ∙ ap (λ (t : Bool). if t then Some time else r.time)
      (ap (λ (last : Option (List ℕ)). is_later last time) (sym known) ∙ later));
  rises =
      subst (λ (o : Option (List ℕ)). Rise old.time (cons_option o []) new.time)
      (sym (ap (λ (t : Bool). if t then Some time else None) formed)) (later, is);
}

-- ---- a row

pub writes_row : (row : Row) (chapters : ℕ) (r : HistoryRead) (old new : EndState)
    (text longer : List ℕ) → IsTold row → longer ≡ text ++ row_line row
    → EndsAt chapters r.seal (r.unsealed ++ row_digits row ∷ []) new → new.time ≡ old.time
    → Writes (row_digits row ∷ []) (row ∷ []) chapters r old new text longer
writes_row row chapters r old new text longer told grows ends time = record {
  lines = row_digits row ∷ [];
  grows = grows ∙ ap (λ (xs : List ℕ). text ++ xs) (sym (append-nil (row_line row)));
  plain = rows_plain (row ∷ []) (told, tt);
  says = rw (row_asks row told).0 refl;
  reading = with_rows (row ∷ []) r;
  read = rows_read (row ∷ []) r (told, tt);
  told = refl;
  ends = ends;
  time = λ known. time ∙ known;
  rises =
      subst (λ (o : Option (List ℕ)). Rise old.time (cons_option o []) new.time)
      (sym (request_tells_none (row_digits row) (row_asks row told).1)) time;
}

-- ---- a seal

pub writes_seal : (chapters : ℕ) (r : HistoryRead) (old new : EndState)
    (line text longer : List ℕ)
    → line ≡ text_of_lines (seal_line (seal_of r.seal r.unsealed) ∷ []) → longer ≡ text ++ line
    → EndsAt chapters (seal_of r.seal r.unsealed) [] new → new.time ≡ old.time
    → Writes [] [] chapters r old new text longer
writes_seal chapters r old new line text longer is grows ends time =
    let seal : List ℕ = seal_of r.seal r.unsealed in
    record {
      lines = seal_line seal ∷ [];
      grows = grows ∙ ap (λ (xs : List ℕ). text ++ xs) is;
      plain = (seal_plain r.seal r.unsealed, tt);
      says =
          ap (λ (t : Bool). if not t then seal_line seal ∷ [] else [])
          (begins_itself seal_mark seal);
      reading = with_seal r;
      read = ap (λ (o : Option HistoryRead). and_then o (read_lines [])) (seal_read r);
      told = sym (append-nil r.events);
      ends = ends;
      time = λ known. time ∙ known;
      rises = time;
    }

-- ---- one row, if it is kept

pub keeps_nothing : (row : Row) (last now : Option (List ℕ)) (chapters : ℕ) (r : HistoryRead)
    (e : EndState) (text : List ℕ) → is_kept row ≡ false → EndsAt chapters r.seal r.unsealed e
    → Writes (round_lines last now (kept_rows (row ∷ []))) (kept_rows (row ∷ [])) chapters r e e
    text text
keeps_nothing row last now chapters r e text left ends =
    subst (λ (rows : List Row). Writes (round_lines last now rows) rows chapters r e e text text)
    (sym (ap (λ (t : Bool). if t then row ∷ [] else []) left))
    (writes_nothing chapters r e text ends)

pub keeps_row : (row : Row) (last now : Option (List ℕ)) (chapters : ℕ) (r : HistoryRead)
    (old mid new : EndState) (a b c : List ℕ) → is_kept row ≡ true
    → (one : Writes (stamp_lines last now) [] chapters r old mid a b)
    → Writes (row_digits row ∷ []) (row ∷ []) chapters one.reading mid new b c
    → Writes (round_lines last now (kept_rows (row ∷ []))) (kept_rows (row ∷ [])) chapters r old new
    a c
keeps_row row last now chapters r old mid new a b c kept one two =
    subst (λ (rows : List Row). Writes (round_lines last now rows) rows chapters r old new a c)
    (sym (ap (λ (t : Bool). if t then row ∷ [] else []) kept))
    (writes_then (stamp_lines last now) (row_digits row ∷ []) [] (row ∷ []) chapters r old mid new a
    b c one two)

-- .. and then a seal
pub then_sealed : (said : List (List ℕ)) (rows : List Row) (chapters : ℕ) (r : HistoryRead)
    (old mid new : EndState) (a b c : List ℕ) → (one : Writes said rows chapters r old mid a b)
    → Writes [] [] chapters one.reading mid new b c → Writes said rows chapters r old new a c
then_sealed said rows chapters r old mid new a b c one two =
    subst (λ (ls : List (List ℕ)). Writes ls rows chapters r old new a c) (append-nil said)
    (subst (λ (rs : List Row). Writes (said ++ []) rs chapters r old new a c) (append-nil rows)
    (writes_then said [] rows [] chapters r old mid new a b c one two))

-- ---- row after row

pub time_more : (last now : Option (List ℕ)) (a b : List Row)
    → time_behind last now (a ++ b) ≡ time_behind (time_behind last now a) now b
time_more last now [] b = refl
time_more last now (r ∷ a) b = time_more (later_of last now) now a b

pub first_rows_more : (last now : Option (List ℕ)) (a b : List Row) (first : Option FirstRow)
    → first_behind last now (a ++ b) first
    ≡ first_behind (time_behind last now a) now b (first_behind last now a first)
first_rows_more last now [] b first = refl
first_rows_more last now (r ∷ a) b first =
    first_rows_more (later_of last now) now a b (first_after r (later_of last now) first)

pub lines_more : (last now : Option (List ℕ)) (a b : List Row)
    → round_lines last now (a ++ b)
    ≡ round_lines last now a ++ round_lines (time_behind last now a) now b
lines_more last now [] b = refl
lines_more last now (r ∷ a) b =
    ap (λ (ls : List (List ℕ)). stamp_lines last now ++ (row_digits r ∷ ls))
    (lines_more (later_of last now) now a b)
    ∙ sym (append_assoc (stamp_lines last now)
    (row_digits r ∷ round_lines (later_of last now) now a)
    (round_lines (time_behind (later_of last now) now a) now b))

-- two lists of which one is behind the other have nothing only if neither has
pub none_both : {X : Type 0} (a b : List X) → a ++ b ≡ [] → (a ≡ []) × (b ≡ [])
none_both [] b none = (refl, none)
none_both (x ∷ a) b none = absurd cc

-- ---- a place in a text

pub behind_start : (text more whole : List ℕ) (n : ℕ) → n ≡ length text → whole ≡ text ++ more
    → take (length whole - n) (drop n whole) ≡ more
behind_start text more whole n at is =
    let rest : drop n whole ≡ more =
    ap (λ (k : ℕ). drop k whole) at ∙ ap (drop (length text)) is ∙ drop-append_seam text more in
    let size : length whole ≡ length text + length more = ap length is ∙ length-append text more in
    take_all (length whole - n) (drop n whole) (omega (arith, ap length rest, size, at)) ∙ rest

pub some_line : (line : List ℕ) → line ∷ [] ≢ []
some_line line none = absurd (cc none)

-- how many rows are counted, the last time and the first row of the open shift say nothing of where
-- a text ends
pub same_ends : (chapters : ℕ) (seal : List ℕ) (unsealed : List (List ℕ)) (e new : EndState)
    (rows : ℕ) (time : Option (List ℕ)) (first : Option FirstRow)
    → new ≡ record e { rows = rows; time = time; first = first }
    → EndsAt chapters seal unsealed e → EndsAt chapters seal unsealed new
same_ends chapters seal unsealed e new rows time first is ends =
    subst (EndsAt chapters seal unsealed) (sym is)
    (record { count = ends.count; last = ends.last; covers = ends.covers; sealed = ends.sealed })

-- ---- whether a stamp is due

pub is_none : {X : Type 0} (o : Option X) → ((x : X) → o ≡ Some x → ⊥) → o ≡ None
is_none None some = refl
is_none (Some x) some = absurd (some x refl)

pub no_stamp : (last was now : Option (List ℕ)) (time : List ℕ) → now ≡ Some time → was ≡ last
    → is_later was time ≡ false → stamp_lines last now ≡ []
no_stamp last was now time some same later =
    ap (stamp_lines last) some
    ∙ ap (λ (t : Bool). if t then at_line time ∷ [] else [])
    (ap (λ (l : Option (List ℕ)). is_later l time) (sym same) ∙ later)

pub one_stamp : (last was now : Option (List ℕ)) (time : List ℕ) → now ≡ Some time → was ≡ last
    → is_later was time ≡ true → stamp_lines last now ≡ at_line time ∷ []
one_stamp last was now time some same later =
    ap (stamp_lines last) some
    ∙ ap (λ (t : Bool). if t then at_line time ∷ [] else [])
    (ap (λ (l : Option (List ℕ)). is_later l time) (sym same) ∙ later)

-- ---- the loop

-- nothing yet
pub first_none : (now : Option (List ℕ)) (rows : List Row) (e : EndState) (text : List ℕ)
    → rows ≡ [] → text ≡ [] → WritesFirst now rows e e text
first_none now rows e text none empty =
    subst (λ (rs : List Row). WritesFirst now rs e e text) (sym none)
    (subst (WritesFirst now [] e e) (sym empty) (record {
      written = λ chapters r ends. writes_nothing chapters r e [] ends;
      spelled = tt;
      time = refl;
      first = refl;
      size = omega arith;
      none = λ is. refl;
      still = λ is. refl;
      count = refl;
    }))

-- more rows
pub first_more : (now : Option (List ℕ)) (rows more all : List Row) (old mid new : EndState)
    (text longer : List ℕ) → WritesFirst now rows old mid text
    → WritesRound now more mid new text longer → CanBeSpelled more
    → new.time ≡ time_behind mid.time now more
    → new.first ≡ first_behind mid.time now more mid.first
    → length text + length more ≤ length longer → (more ≡ [] → new ≡ mid)
    → (more ≡ [] → longer ≡ text) → new.chapters ≡ mid.chapters → all ≡ rows ++ more
    → WritesFirst now all old new longer
first_more now rows more all old mid new text longer first writes spelled time opens size none
    still count is =
    subst (λ (rs : List Row). WritesFirst now rs old new longer) (sym is) (record {
      written = λ chapters r ends.
          let one = first.written chapters r ends in
          subst (λ (ls : List (List ℕ)). Writes ls (rows ++ more) chapters r old new [] longer)
          (ap (λ (t : Option (List ℕ)). round_lines old.time now rows ++ round_lines t now more)
          first.time ∙ sym (lines_more old.time now rows more))
          (writes_then (round_lines old.time now rows) (round_lines mid.time now more) rows more
          chapters r old mid new [] text longer one (writes chapters one.reading one.ends));
      spelled =
          all_both (λ (r : Row). AsksFor 0 r.actor r.event (row_request r)) rows more
          first.spelled spelled;
      time =
          time ∙ ap (λ (t : Option (List ℕ)). time_behind t now more) first.time
          ∙ sym (time_more old.time now rows more);
      first =
          opens
          ∙ ap (λ (t : Option (List ℕ)). first_behind t now more mid.first) first.time
          ∙ ap (first_behind (time_behind old.time now rows) now more) first.first
          ∙ sym (first_rows_more old.time now rows more old.first);
      size = omega (arith, length-append rows more, first.size, size);
      none = λ nothing.
          let both = none_both rows more nothing in none both.1 ∙ first.none both.0;
      still = λ nothing.
          let both = none_both rows more nothing in still both.1 ∙ first.still both.0;
      count = count ∙ first.count;
    })
