-- Histories with more chapters, with torn lines, and without them.
use Rattle.std.proofs.Common.{◌≡◌, ℕ, suc, ◌+◌, ◌-◌, ◌≤◌, Bool, true, false, List, [], ◌∷◌, ◌++◌}
use Rattle.std.proofs.Common.{length, take, drop, Option, Some, None, refl, sym, ap, ◌∙◌, subst}
use Rattle.std.proofs.Common.{arith, eqb, inl, inr, append-nil, append_assoc}
use Rattle.std.specs.Prelude.{◌&&◌, if◌then◌else◌}
use Rattle.std.specs.List.{AllByRecursion, starts_with}
use Rattle.std.proofs.lemmas.Bool.{cases_lt}
use Rattle.std.proofs.lemmas.List.{drop-append-le, length-drop, take-append-drop}
use Rattle.std.proofs.lemmas.List.{take-append-le}
use Rattle.std.proofs.lemmas.Option.{none-some, same_Some}
use Rattle.std.proofs.Math.Seq.{drop-append-add, drop-append_seam, drop-length, take-append-add}
use Rattle.hex.specs.Hex.{decode_of}
use Rattle.site_base.specs.declared.actor.Actor.{Actor}
use Rattle.site_base.specs.declared.event.Event.{Event}
use Rattle.kept_history.specs.KeptRows.{kept_rows}
use Rattle.site_book.specs.Book.{Book}
use Rattle.chapters.specs.ChapterReading.{HistoryRead, add_request, and_then, is_comment}
use Rattle.chapters.specs.ChapterReading.{is_none_left, is_of_seal, is_right_seal, nothing_read}
use Rattle.chapters.specs.ChapterReading.{read_chapter, read_from, read_line, read_lines, read_text}
use Rattle.chapters.specs.ChapterReading.{sealed_by, with_comment, with_seal}
use Rattle.chapters.specs.ChapterText.{first_lines, text_of_lines}
use Rattle.chapters.specs.History.{IsMadeOf}
use Rattle.chapters.specs.Lines.{lines_from, request_in, unfinished, unfinished_from, whole_lines}
use Rattle.chapters.specs.Readers.{AreWholeLines, begins_so}
use Rattle.chapters.specs.RowText.{CanBeSpelled, IsSent}
use Rattle.chapters.proofs.Asked.{ReadsNone, SendsOne, line_kept, line_sends, rows_kept, rows_sent}
use Rattle.chapters.proofs.FirstLines.{begins_itself, begins_parts}
use Rattle.chapters.proofs.Lines.{lines_both, unfinished_both}
use Rattle.chapters.proofs.Lists.{all_both, all_each}
use Rattle.chapters.proofs.Made.{made_events}
use Rattle.chapters.proofs.Reading.{lines_behind, lines_keep_torn, read_both}
use Rattle.chapters.proofs.ReadingChapters.{none_torn}
use Rattle.chapters.proofs.Spelled.{IsSpelled, line_spelled, rows_spelled}

-- ---- chapters, and more chapters

pub from_both : (site : List ℕ) (n : ℕ) (a b : List (List ℕ)) (r : HistoryRead)
    → read_from site n (a ++ b) r
    ≡ and_then (read_from site n a r) (read_from site (n + length a) b)
from_both site n [] b r = ap (λ (m : ℕ). read_from site m b r) (omega arith)
from_both site n (t ∷ a) b r = by_first (read_chapter site n t r) (from_both site (suc n) a b)
  where
    next : suc n + length a ≡ n + suc (length a)
    next = omega arith

    by_first : (o : Option HistoryRead)
        → ((s : HistoryRead) → read_from site (suc n) (a ++ b) s
        ≡ and_then (read_from site (suc n) a s) (read_from site (suc n + length a) b))
        → and_then o (read_from site (suc n) (a ++ b))
        ≡ and_then (and_then o (read_from site (suc n) a))
        (read_from site (n + suc (length a)) b)
    by_first None both = refl
    by_first (Some s) both =
        both s
        ∙ ap (λ (m : ℕ). and_then (read_from site (suc n) a s) (read_from site m b)) next

-- where the first chapters are refused all are
pub front_refused : (site : List ℕ) (n : ℕ) (a b : List (List ℕ)) (r : HistoryRead)
    → read_from site n a r ≡ None → read_from site n (a ++ b) r ≡ None
front_refused site n a b r none =
    from_both site n a b r
    ∙ ap (λ (o : Option HistoryRead). and_then o (read_from site (n + length a) b)) none

-- ---- what is read grows

-- the request is that of a line
pub record IsAsked (e : Actor × Event) : Type 0 where
  pub line : List ℕ
  pub asks : request_in line ≡ Some e

-- more requests were read, each of a line
pub record Grows (r s : HistoryRead) : Type 0 where
  pub more : List (Actor × Event)
  pub events : s.events ≡ r.events ++ more
  pub each : AllByRecursion IsAsked more

grows_same : (r s : HistoryRead) → s.events ≡ r.events → Grows r s
grows_same r s is = record { more = []; events = is ∙ sym (append-nil r.events); each = tt }

pub grows_then : (r s t : HistoryRead) → Grows r s → Grows s t → Grows r t
grows_then r s t one two = record {
  more = one.more ++ two.more;
  events =
      two.events ∙ ap (λ (es : List (Actor × Event)). es ++ two.more) one.events
      ∙ append_assoc r.events one.more two.more;
  each = all_both IsAsked one.more two.more one.each two.each;
}

line_grows : (line : List ℕ) (r s : HistoryRead) → read_line line r ≡ Some s → Grows r s
line_grows line r s is = one (is_of_seal line) is
  where
    by_seal : (t : Bool) → sealed_by t r ≡ Some s → Grows r s
    by_seal true is =
        grows_same r s (ap (λ (x : HistoryRead). x.events) (sym (same_Some (with_seal r) s is)))
    by_seal false is = absurd (none-some s is)

    by_request : (o : Option (Actor × Event)) → request_in line ≡ o
        → add_request o line r ≡ Some s → Grows r s
    by_request None asks is = absurd (none-some s is)
    by_request (Some e) asks is = record {
      more = e ∷ [];
      events = ap (λ (x : HistoryRead). x.events) (sym (same_Some _ s is));
      each = (record { line = line; asks = asks }, tt);
    }

    by_text : (t : Bool)
        → (if t then Some (with_comment line r) else add_request (request_in line) line r) ≡ Some s
        → Grows r s
    by_text true is =
        grows_same r s
        (ap (λ (x : HistoryRead). x.events) (sym (same_Some (with_comment line r) s is)))
    by_text false is = by_request (request_in line) refl is

    one : (t : Bool)
        → (if t then sealed_by (is_right_seal line r) r else read_text line r) ≡ Some s
        → Grows r s
    one true is = by_seal (is_right_seal line r) is
    one false is = by_text (is_comment line) is

pub lines_grow : (lines : List (List ℕ)) (r s : HistoryRead) → read_lines lines r ≡ Some s
    → Grows r s
lines_grow [] r s is =
    grows_same r s (ap (λ (x : HistoryRead). x.events) (sym (same_Some r s is)))
lines_grow (line ∷ lines) r s is =
    by_line (read_line line r) refl is (λ mid. lines_grow lines mid s)
  where
    by_line : (o : Option HistoryRead) → read_line line r ≡ o
        → and_then o (read_lines lines) ≡ Some s
        → ((mid : HistoryRead) → read_lines lines mid ≡ Some s → Grows mid s) → Grows r s
    by_line None is all rest = absurd (none-some s all)
    by_line (Some mid) is all rest = grows_then r mid s (line_grows line r mid is) (rest mid all)

pub chapter_grows : (site : List ℕ) (n : ℕ) (text : List ℕ) (r s : HistoryRead)
    → read_chapter site n text r ≡ Some s → Grows r s
chapter_grows site n text r s is =
    by_test (is_none_left r && begins_so text (first_lines site n r.seal)) is
  where
    lines : List (List ℕ)
    lines = first_lines site n r.seal

    rest : List ℕ
    rest = drop (length (text_of_lines lines)) text

    by_test : (t : Bool)
        → (if t then read_lines (whole_lines rest)
        (record r { unsealed = lines; torn = unfinished rest }) else None) ≡ Some s
        → Grows r s
    by_test true is =
        let begun : HistoryRead = record r { unsealed = lines; torn = unfinished rest } in
        let grows = lines_grow (whole_lines rest) begun s is in
        record { more = grows.more; events = grows.events; each = grows.each }
    by_test false is = absurd (none-some s is)

pub from_grows : (site : List ℕ) (n : ℕ) (texts : List (List ℕ)) (r s : HistoryRead)
    → read_from site n texts r ≡ Some s → Grows r s
from_grows site n [] r s is =
    grows_same r s (ap (λ (x : HistoryRead). x.events) (sym (same_Some r s is)))
from_grows site n (text ∷ texts) r s is =
    by_text (read_chapter site n text r) refl is (λ mid. from_grows site (suc n) texts mid s)
  where
    by_text : (o : Option HistoryRead) → read_chapter site n text r ≡ o
        → and_then o (read_from site (suc n) texts) ≡ Some s
        → ((mid : HistoryRead) → read_from site (suc n) texts mid ≡ Some s → Grows mid s)
        → Grows r s
    by_text None is all rest = absurd (none-some s all)
    by_text (Some mid) is all rest =
        grows_then r mid s (chapter_grows site n text r mid is) (rest mid all)

-- ---- the rows that are read

pub events_asked : (site : List ℕ) (texts : List (List ℕ)) (r : HistoryRead)
    → read_from site 1 texts nothing_read ≡ Some r → AllByRecursion IsAsked r.events
events_asked site texts r is =
    let grows = from_grows site 1 texts nothing_read r is in
    subst (AllByRecursion IsAsked) (sym grows.events) grows.each

asked_sends : (e : Actor × Event) → IsAsked e → SendsOne e
asked_sends e a = line_sends (decode_of a.line) e a.asks

asked_kept : (e : Actor × Event) → IsAsked e → ReadsNone e
asked_kept e a = line_kept (decode_of a.line) e a.asks

asked_spelled : (e : Actor × Event) → IsAsked e → IsSpelled e
asked_spelled e a = line_spelled a.line (decode_of a.line) e refl a.asks

pub read_sent : (b : Book) (events : List (Actor × Event)) → IsMadeOf b events
    → AllByRecursion IsAsked events → AllByRecursion IsSent b.rows
read_sent b events made asked =
    rows_sent b.rows (subst (AllByRecursion SendsOne) (sym (made_events b events made))
    (all_each IsAsked SendsOne asked_sends events asked))

pub read_kept : (b : Book) (events : List (Actor × Event)) → IsMadeOf b events
    → AllByRecursion IsAsked events → kept_rows b.rows ≡ b.rows
read_kept b events made asked =
    rows_kept b.rows (subst (AllByRecursion ReadsNone) (sym (made_events b events made))
    (all_each IsAsked ReadsNone asked_kept events asked))

pub read_spelled : (b : Book) (events : List (Actor × Event)) → IsMadeOf b events
    → AllByRecursion IsAsked events → CanBeSpelled b.rows
read_spelled b events made asked =
    rows_spelled b.rows (subst (AllByRecursion IsSpelled) (sym (made_events b events made))
    (all_each IsAsked IsSpelled asked_spelled events asked))

-- ---- without the octets behind the last line feed

abbrev with_torn : List ℕ → HistoryRead → HistoryRead
with_torn torn r = record r { torn = torn }

line_torn : (line torn : List ℕ) (r s : HistoryRead) → read_line line r ≡ Some s
    → read_line line (with_torn torn r) ≡ Some (with_torn torn s)
line_torn line torn r s is = one (is_of_seal line) is
  where
    again : HistoryRead → HistoryRead
    again x = with_torn torn x

    by_seal : (t : Bool) → sealed_by t r ≡ Some s
        → sealed_by t (with_torn torn r) ≡ Some (with_torn torn s)
    by_seal true is =
        ap (λ (x : HistoryRead). Some (with_torn torn x)) (same_Some (with_seal r) s is)
    by_seal false is = absurd (none-some s is)

    by_request : (o : Option (Actor × Event)) → add_request o line r ≡ Some s
        → add_request o line (with_torn torn r) ≡ Some (with_torn torn s)
    by_request None is = absurd (none-some s is)
    by_request (Some e) is =
        ap (λ (x : HistoryRead). Some (with_torn torn x)) (same_Some _ s is)

    by_text : (t : Bool)
        → (if t then Some (with_comment line r) else add_request (request_in line) line r) ≡ Some s
        → (if t then Some (with_comment line (with_torn torn r))
        else add_request (request_in line) line (with_torn torn r)) ≡ Some (with_torn torn s)
    by_text true is =
        ap (λ (x : HistoryRead). Some (with_torn torn x)) (same_Some (with_comment line r) s is)
    by_text false is = by_request (request_in line) is

    one : (t : Bool)
        → (if t then sealed_by (is_right_seal line r) r else read_text line r) ≡ Some s
        → (if t then sealed_by (is_right_seal line r) (with_torn torn r)
        else read_text line (with_torn torn r)) ≡ Some (with_torn torn s)
    one true is = by_seal (is_right_seal line r) is
    one false is = by_text (is_comment line) is

pub lines_torn : (lines : List (List ℕ)) (torn : List ℕ) (r s : HistoryRead)
    → read_lines lines r ≡ Some s
    → read_lines lines (with_torn torn r) ≡ Some (with_torn torn s)
lines_torn [] torn r s is =
    ap (λ (x : HistoryRead). Some (with_torn torn x)) (same_Some r s is)
lines_torn (line ∷ lines) torn r s is =
    by_line (read_line line r) refl is (λ mid. lines_torn lines torn mid s)
  where
    by_line : (o : Option HistoryRead) → read_line line r ≡ o
        → and_then o (read_lines lines) ≡ Some s
        → ((mid : HistoryRead) → read_lines lines mid ≡ Some s
        → read_lines lines (with_torn torn mid) ≡ Some (with_torn torn s))
        → and_then (read_line line (with_torn torn r)) (read_lines lines)
        ≡ Some (with_torn torn s)
    by_line None is all rest = absurd (none-some s all)
    by_line (Some mid) is all rest =
        ap (λ (o : Option HistoryRead). and_then o (read_lines lines))
        (line_torn line torn r mid is)
        ∙ rest mid all

-- octets that end no line go on with the one that is begun
unended : (line xs : List ℕ) → lines_from line xs ≡ [] → unfinished_from line xs ≡ line ++ xs
unended line [] none = sym (append-nil line)
unended line (x ∷ xs) none = by_test (eqb x 10) none (unended (line ++ x ∷ []) xs)
  where
    by_test : (t : Bool)
        → (if t then line ∷ lines_from [] xs else lines_from (line ++ x ∷ []) xs) ≡ []
        → (lines_from (line ++ x ∷ []) xs ≡ [] → unfinished_from (line ++ x ∷ []) xs
        ≡ (line ++ x ∷ []) ++ xs)
        → (if t then unfinished_from [] xs else unfinished_from (line ++ x ∷ []) xs)
        ≡ line ++ x ∷ xs
    by_test true ended on = absurd (cc ended)
    by_test false more on = on more ∙ append_assoc line (x ∷ []) xs

no_lines_left : (ls ms : List (List ℕ)) → ls ++ ms ≡ [] → ls ≡ []
no_lines_left [] ms none = refl
no_lines_left (l ∷ ls) ms none = absurd (cc none)

-- a front of whole lines is within the whole lines
pub short_front : (front rest octets : List ℕ) (whole : ℕ) → AreWholeLines whole octets
    → octets ≡ front ++ rest → unfinished front ≡ [] → length front ≤ whole
short_front front rest octets whole lines parts closed =
    elim (cases_lt whole (length front)) [
      | inr short ↦ short
      | inl longer ↦
          let front_is : take whole octets ≡ take whole front =
          ap (take whole) parts
          ∙ take-append-le whole front rest (omega (arith, longer)) in
          let rest_is : drop whole octets ≡ drop whole front ++ rest =
          ap (drop whole) parts
          ∙ drop-append-le whole front rest (omega (arith, longer)) in
          let quiet : whole_lines (drop whole front) ≡ [] =
          no_lines_left (whole_lines (drop whole front)) _
          (sym (lines_both [] (drop whole front) rest) ∙ ap whole_lines (sym rest_is)
          ∙ lines.behind) in
          let left : drop whole front ≡ [] =
          sym (unended [] (drop whole front) quiet)
          ∙ ap (λ (line : List ℕ). unfinished_from line (drop whole front))
          (sym (ap unfinished (sym front_is) ∙ lines.ended))
          ∙ sym (unfinished_both [] (take whole front) (drop whole front))
          ∙ ap unfinished (take-append-drop whole front) ∙ closed in
          let size : length (drop whole front) ≡ 0 = ap length left in
          absurd (omega (arith, longer, size, length-drop whole front))
    ]

-- the lines of whole lines are all that there are
whole_front : (whole : ℕ) (text : List ℕ) → unfinished (take whole text) ≡ []
    → whole_lines (drop whole text) ≡ [] → whole_lines (take whole text) ≡ whole_lines text
whole_front whole text ended behind =
    sym (lines_behind text (take whole text) (drop whole text)
    (sym (take-append-drop whole text)) ended
    ∙ ap (λ (ls : List (List ℕ)). whole_lines (take whole text) ++ ls) behind
    ∙ append-nil (whole_lines (take whole text)))

-- a chapter's whole lines are read as the chapter is, but for what is torn
pub chapter_cut : (site : List ℕ) (n whole : ℕ) (text : List ℕ) (r s : HistoryRead)
    → AreWholeLines whole text → read_chapter site n text r ≡ Some s
    → read_chapter site n (take whole text) r ≡ Some (record s { torn = [] })
chapter_cut site n whole text r s lines is =
    by_left (is_none_left r) (begins_so text named) refl is
  where
    named : List (List ℕ)
    named = first_lines site n r.seal

    first : List ℕ
    first = text_of_lines named

    rest : List ℕ
    rest = drop (length first) text

    m : ℕ
    m = whole - length first

    cut_is : begins_so text named ≡ true → take whole text ≡ first ++ take m rest
    cut_is begins =
        let parts = begins_parts text first begins in
        let short = short_front first rest text whole lines parts (none_torn named) in
        let here : whole ≡ length first + m = omega (arith, short) in
        ap (λ (k : ℕ). take k text) here ∙ ap (take (length first + m)) parts
        ∙ take-append-add first rest m

    rest_is : begins_so text named ≡ true → drop whole text ≡ drop m rest
    rest_is begins =
        let parts = begins_parts text first begins in
        let short = short_front first rest text whole lines parts (none_torn named) in
        let here : whole ≡ length first + m = omega (arith, short) in
        ap (λ (k : ℕ). drop k text) here ∙ ap (drop (length first + m)) parts
        ∙ drop-append-add first rest m

    ended : begins_so text named ≡ true → unfinished (take m rest) ≡ []
    ended begins =
        ap (λ (line : List ℕ). unfinished_from line (take m rest)) (sym (none_torn named))
        ∙ sym (unfinished_both [] first (take m rest))
        ∙ ap unfinished (sym (cut_is begins)) ∙ lines.ended

    after : HistoryRead
    after = record r { unsealed = named; torn = unfinished rest }

    same_lines : begins_so text named ≡ true → whole_lines (take m rest) ≡ whole_lines rest
    same_lines begins =
        whole_front m rest (ended begins) (ap whole_lines (sym (rest_is begins)) ∙ lines.behind)

    begun : begins_so text named ≡ true
        → read_lines (whole_lines rest) after ≡ Some s
        → (if starts_with (λ a b. eqb a b) (take whole text) first
        then read_lines (whole_lines (drop (length first) (take whole text)))
        (record r { unsealed = named; torn = unfinished (drop (length first) (take whole text)) })
        else None) ≡ Some (with_torn [] s)
    begun begins is =
        let cut = cut_is begins in
        let back : drop (length first) (take whole text) ≡ take m rest =
        ap (drop (length first)) cut ∙ drop-append_seam first (take m rest) in
        let here : starts_with (λ a b. eqb a b) (take whole text) first ≡ true =
        ap (λ (xs : List ℕ). starts_with (λ a b. eqb a b) xs first) cut
        ∙ begins_itself first (take m rest) in
        ap (λ (t : Bool). if t
        then read_lines (whole_lines (drop (length first) (take whole text)))
        (record r { unsealed = named; torn = unfinished (drop (length first) (take whole text)) })
        else None) here
        ∙ ap (λ (xs : List ℕ). read_lines (whole_lines xs)
        (record r { unsealed = named; torn = unfinished xs })) back
        ∙ ap (λ (torn : List ℕ). read_lines (whole_lines (take m rest))
        (record r { unsealed = named; torn = torn })) (ended begins)
        ∙ ap (λ (ls : List (List ℕ)). read_lines ls (with_torn [] after)) (same_lines begins)
        ∙ lines_torn (whole_lines rest) [] after s is

    by_left : (a b : Bool) → begins_so text named ≡ b
        → (if a && b then read_lines (whole_lines rest) after else None) ≡ Some s
        → (if a && starts_with (λ x y. eqb x y) (take whole text) first
        then read_lines (whole_lines (drop (length first) (take whole text)))
        (record r { unsealed = named; torn = unfinished (drop (length first) (take whole text)) })
        else None) ≡ Some (with_torn [] s)
    by_left true true begins is = begun begins is
    by_left true false begins is = absurd (none-some s is)
    by_left false b begins is = absurd (none-some s is)

-- ---- with more lines

pub both_some : (o : Option HistoryRead) (next : HistoryRead → Option HistoryRead) (s : HistoryRead)
    → and_then o next ≡ Some s
    → (mid : HistoryRead) × (o ≡ Some mid) × (next mid ≡ Some s)
both_some None next s is = absurd (none-some s is)
both_some (Some mid) next s is = (mid, refl, is)

-- the first of lines that are read are read
pub lines_front : (a b : List (List ℕ)) (r s : HistoryRead) → read_lines (a ++ b) r ≡ Some s
    → (mid : HistoryRead) × (read_lines a r ≡ Some mid) × (read_lines b mid ≡ Some s)
lines_front a b r s is =
    both_some (read_lines a r) (read_lines b) s (sym (read_both a b r) ∙ is)

-- .. and the first of chapters
pub texts_front : (site : List ℕ) (a b : List (List ℕ)) (s : HistoryRead)
    → read_from site 1 (a ++ b) nothing_read ≡ Some s
    → (mid : HistoryRead) × (read_from site 1 a nothing_read ≡ Some mid)
    × (read_from site (1 + length a) b mid ≡ Some s)
texts_front site a b s is =
    both_some (read_from site 1 a nothing_read) (read_from site (1 + length a) b) s
    (sym (from_both site 1 a b nothing_read) ∙ is)

-- behind a chapter that ends with a line feed more lines are read
chapter_on : (site : List ℕ) (n : ℕ) (front text : List ℕ) (r s : HistoryRead)
    → read_chapter site n front r ≡ Some s → s.torn ≡ []
    → read_chapter site n (front ++ text) r
    ≡ read_lines (whole_lines text) (record s { torn = unfinished text })
chapter_on site n front text r s is whole =
    by_left (is_none_left r) (begins_so front named) refl is
  where
    named : List (List ℕ)
    named = first_lines site n r.seal

    first : List ℕ
    first = text_of_lines named

    rest : List ℕ
    rest = drop (length first) front

    begun : HistoryRead
    begun = record r { unsealed = named; torn = unfinished rest }

    on : begins_so front named ≡ true → read_lines (whole_lines rest) begun ≡ Some s
        → (if begins_so (front ++ text) named
        then read_lines (whole_lines (drop (length first) (front ++ text)))
        (record r { unsealed = named; torn = unfinished (drop (length first) (front ++ text)) })
        else None) ≡ read_lines (whole_lines text) (record s { torn = unfinished text })
    on begins is =
        let parts : front ++ text ≡ first ++ (rest ++ text) =
        ap (λ (xs : List ℕ). xs ++ text) (begins_parts front first begins)
        ∙ append_assoc first rest text in
        let here : begins_so (front ++ text) named ≡ true =
        ap (λ (xs : List ℕ). starts_with (λ a b. eqb a b) xs first) parts
        ∙ begins_itself first (rest ++ text) in
        let back : drop (length first) (front ++ text) ≡ rest ++ text =
        ap (drop (length first)) parts ∙ drop-append_seam first (rest ++ text) in
        let closed : unfinished rest ≡ [] =
        sym (lines_keep_torn (whole_lines rest) begun s is) ∙ whole in
        let left : unfinished (rest ++ text) ≡ unfinished text =
        unfinished_both [] rest text
        ∙ ap (λ (line : List ℕ). unfinished_from line text) closed in
        let lines : whole_lines (rest ++ text) ≡ whole_lines rest ++ whole_lines text =
        lines_behind (rest ++ text) rest text refl closed in
        ap (λ (t : Bool). if t
        then read_lines (whole_lines (drop (length first) (front ++ text)))
        (record r { unsealed = named; torn = unfinished (drop (length first) (front ++ text)) })
        else None) here
        ∙ ap (λ (xs : List ℕ). read_lines (whole_lines xs)
        (record r { unsealed = named; torn = unfinished xs })) back
        ∙ ap (λ (torn : List ℕ). read_lines (whole_lines (rest ++ text))
        (record r { unsealed = named; torn = torn })) left
        ∙ ap (λ (ls : List (List ℕ)). read_lines ls (with_torn (unfinished text) begun)) lines
        ∙ read_both (whole_lines rest) (whole_lines text) (with_torn (unfinished text) begun)
        ∙ ap (λ (o : Option HistoryRead). and_then o (read_lines (whole_lines text)))
        (lines_torn (whole_lines rest) (unfinished text) begun s is)

    by_left : (a b : Bool) → begins_so front named ≡ b
        → (if a && b then read_lines (whole_lines rest) begun else None) ≡ Some s
        → (if a && begins_so (front ++ text) named
        then read_lines (whole_lines (drop (length first) (front ++ text)))
        (record r { unsealed = named; torn = unfinished (drop (length first) (front ++ text)) })
        else None) ≡ read_lines (whole_lines text) (record s { torn = unfinished text })
    by_left true true begins is = on begins is
    by_left true false begins is = absurd (none-some s is)
    by_left false b begins is = absurd (none-some s is)

-- .. of a history whose last chapter ends so
pub history_on : (site : List ℕ) (closed : List (List ℕ)) (front text : List ℕ) (r : HistoryRead)
    → read_from site 1 (closed ++ front ∷ []) nothing_read ≡ Some r → r.torn ≡ []
    → read_from site 1 (closed ++ (front ++ text) ∷ []) nothing_read
    ≡ read_lines (whole_lines text) (record r { torn = unfinished text })
history_on site closed front text r is whole =
    let parts = texts_front site closed (front ∷ []) r is in
    let last = both_some (read_chapter site (1 + length closed) front parts.0) (λ x. Some x) r
    parts.2 in
    let same : last.0 ≡ r = same_Some last.0 r last.2 in
    from_both site 1 closed ((front ++ text) ∷ []) nothing_read
    ∙ ap (λ (o : Option HistoryRead). and_then o
    (read_from site (1 + length closed) ((front ++ text) ∷ []))) parts.1
    ∙ alone (read_chapter site (1 + length closed) (front ++ text) parts.0)
    ∙ chapter_on site (1 + length closed) front text parts.0 r
    (last.1 ∙ ap (λ (x : HistoryRead). Some x) same) whole
  where
    alone : (o : Option HistoryRead) → and_then o (λ x. Some x) ≡ o
    alone None = refl
    alone (Some x) = refl

-- without what is torn
pub history_cut : (site : List ℕ) (closed : List (List ℕ)) (whole : ℕ) (text : List ℕ)
    (r : HistoryRead) → AreWholeLines whole text
    → read_from site 1 (closed ++ text ∷ []) nothing_read ≡ Some r
    → read_from site 1 (closed ++ take whole text ∷ []) nothing_read
    ≡ Some (record r { torn = [] })
history_cut site closed whole text r lines is =
    let parts = texts_front site closed (text ∷ []) r is in
    let last = both_some (read_chapter site (1 + length closed) text parts.0) (λ x. Some x) r
    parts.2 in
    let same : last.0 ≡ r = same_Some last.0 r last.2 in
    from_both site 1 closed (take whole text ∷ []) nothing_read
    ∙ ap (λ (o : Option HistoryRead). and_then o
    (read_from site (1 + length closed) (take whole text ∷ []))) parts.1
    ∙ ap (λ (o : Option HistoryRead). and_then o (λ x. Some x))
    (chapter_cut site (1 + length closed) whole text parts.0 last.0 lines last.1)
    ∙ ap (λ (x : HistoryRead). Some (with_torn [] x)) same

-- a history that nobody has written in
pub first_read : (site : List ℕ)
    → read_from site 1 (text_of_lines (first_lines site 1 nothing_read.seal) ∷ []) nothing_read
    ≡ Some (record nothing_read { unsealed = first_lines site 1 nothing_read.seal })
first_read site =
    let first : List ℕ = text_of_lines (first_lines site 1 nothing_read.seal) in
    let back : drop (length first) first ≡ [] = drop-length first in
    let here : starts_with (λ a b. eqb a b) first first ≡ true =
    ap (λ (xs : List ℕ). starts_with (λ a b. eqb a b) xs first) (sym (append-nil first))
    ∙ begins_itself first [] in
    ap (λ (t : Bool). and_then (if t
    then read_lines (whole_lines (drop (length first) first))
    (record nothing_read {
      unsealed = first_lines site 1 nothing_read.seal;
      torn = unfinished (drop (length first) first);
    })
    else None) (λ x. Some x)) here
    ∙ ap (λ (xs : List ℕ). and_then (read_lines (whole_lines xs)
    (record nothing_read {
      unsealed = first_lines site 1 nothing_read.seal;
      torn = unfinished xs;
    })) (λ x. Some x)) back

-- the first lines of a chapter behind others that end with a seal
pub first_behind : (site : List ℕ) (closed : List (List ℕ)) (text : List ℕ) (n : ℕ)
    (r : HistoryRead) → read_from site 1 closed nothing_read ≡ Some r → r.unsealed ≡ []
    → r.torn ≡ [] → n ≡ length closed + 1 → text ≡ text_of_lines (first_lines site n r.seal)
    → read_from site 1 (closed ++ text ∷ []) nothing_read
    ≡ Some (record r { unsealed = first_lines site n r.seal; torn = [] })
first_behind site closed text n r read unsealed torn count is =
    let lines : List (List ℕ) = first_lines site n r.seal in
    let first : List ℕ = text_of_lines lines in
    let here : 1 + length closed ≡ n = omega (arith, count) in
    let none : is_none_left r ≡ true = rw (unsealed, torn) refl in
    let back : drop (length first) first ≡ [] = drop-length first in
    let begins : begins_so first lines ≡ true =
    ap (λ (xs : List ℕ). starts_with (λ a b. eqb a b) xs first) (sym (append-nil first))
    ∙ begins_itself first [] in
    from_both site 1 closed (text ∷ []) nothing_read
    ∙ ap (λ (o : Option HistoryRead). and_then o
    (read_from site (1 + length closed) (text ∷ []))) read
    ∙ ap (λ (k : ℕ). and_then (read_chapter site k text r) (λ x. Some x)) here
    ∙ ap (λ (xs : List ℕ). and_then (read_chapter site n xs r) (λ x. Some x)) is
    ∙ ap (λ (t : Bool). and_then (if t && begins_so first lines
    then read_lines (whole_lines (drop (length first) first))
    (record r { unsealed = lines; torn = unfinished (drop (length first) first) })
    else None) (λ x. Some x)) none
    ∙ ap (λ (t : Bool). and_then (if t
    then read_lines (whole_lines (drop (length first) first))
    (record r { unsealed = lines; torn = unfinished (drop (length first) first) })
    else None) (λ x. Some x)) begins
    ∙ ap (λ (xs : List ℕ). and_then (read_lines (whole_lines xs)
    (record r { unsealed = lines; torn = unfinished xs })) (λ x. Some x)) back
