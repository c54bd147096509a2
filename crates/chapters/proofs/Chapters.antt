-- Chapters, read back.
use Rattle.std.proofs.Common.{◌≡◌, ℕ, suc, ◌≤◌, Bool, true, false, List, [], ◌∷◌, ◌++◌}
use Rattle.std.proofs.Common.{length, drop, Option, Some, None, refl, sym, ap, ◌∙◌}
use Rattle.std.proofs.Common.{subst, append-nil, append_assoc, arith, eqb, inl, inr}
use Rattle.std.specs.Prelude.{◌&&◌, ◌≢◌, if◌then◌else◌}
use Rattle.std.specs.List.{AllByRecursion, starts_with}
use Rattle.std.proofs.lemmas.Bool.{cases_eq, eq-eqb, ne_eqb}
use Rattle.std.proofs.lemmas.List.{length-append}
use Rattle.std.proofs.lemmas.List.Elements.{recursion_from_All}
use Rattle.hex.specs.Hex.{encode_lower, is_hex_digit, lower_digits}
use Rattle.hex.proofs.HexLemmas.{decode_of-encode_lower, decode_of-ok, length-encode_with}
use Rattle.sha2.specs.Sha256.{sha256}
use Rattle.site_base.specs.declared.actor.Actor.{Actor}
use Rattle.site_base.specs.declared.event.Event.{Event}
use Rattle.site_base.specs.declared.row.Row.{Row}
use Rattle.app_message.specs.Spelling.{body, head_text, spelling}
use Rattle.app_message.specs.Telegram.{Telegram}
use Rattle.device_map.specs.Laws.{AsksFor}
use Rattle.hex_lines.specs.Lines.{IsLine}
use Rattle.kept_history.specs.KeptRows.{is_kept, kept_rows}
use Rattle.kept_history.proofs.LeftOut.{left_out}
use Rattle.written_site.specs.SiteRun.{events_of}
use Rattle.written_site.specs.SiteState.{opening}
use Rattle.chapters.specs.History.{rows_asked}
use Rattle.chapters.specs.Lines.{lines_from, request_in, unfinished, unfinished_from}
use Rattle.chapters.specs.Lines.{whole_lines}
use Rattle.chapters.specs.RowText.{CanBeSpelled, row_line, row_request, rows_text}
use Rattle.chapters.proofs.Kept.{kept_again, kept_apart, no_read}
use Rattle.chapters.proofs.Lines.{line_ends, lines_both, one_line}
use Rattle.chapters.proofs.Made.{asked_again}
use Rattle.chapters.proofs.Octets.{digits_plain, plain_both, spelled_octets}
use Rattle.chapters.proofs.FirstLines.{begins_itself}
use Rattle.chapters.proofs.Reading.{read_both}
use Rattle.chapters.proofs.ReadingChapters.{none_torn}
use Rattle.chapters.proofs.Requests.{events_both, request_read, spelled_plain}
use Rattle.chapters.specs.ChapterReading.{HistoryRead, add_request, and_then, is_comment}
use Rattle.chapters.specs.ChapterReading.{is_of_seal, is_right_seal, is_same_line, nothing_read}
use Rattle.chapters.specs.ChapterReading.{read_chapter, read_from, read_history, read_line}
use Rattle.chapters.specs.ChapterReading.{read_lines, read_text, sealed_by}
use Rattle.chapters.specs.ChapterReading.{with_comment, with_seal}
use Rattle.chapters.specs.ChapterText.{chapter_lines, chapter_text, first_lines, last_seal, no_seal}
use Rattle.chapters.specs.ChapterText.{history_texts, row_digits, row_lines, rows_of_chapters}
use Rattle.chapters.specs.ChapterText.{rows_of_parts}
use Rattle.chapters.specs.ChapterText.{seal_line, seal_mark, seal_of, sealed_lines}
use Rattle.chapters.specs.ChapterText.{text_of_lines, texts_from}
use Rattle.chapters.specs.Laws.{ChaptersTellTheirHistory}

-- ---- octets

behind_front : (a b : List ℕ) → drop (length a) (a ++ b) ≡ b
behind_front [] b = refl
behind_front (x ∷ a) b = behind_front a b

is_itself : (line : List ℕ) → is_same_line line line ≡ true
is_itself line =
    ap (λ (t : Bool). t && starts_with (λ x y. eqb x y) line line)
    (eq-eqb (length line) (length line) refl)
    ∙ ap (λ (xs : List ℕ). starts_with (λ x y. eqb x y) xs line) (sym (append-nil line))
    ∙ begins_itself line []

-- the digits of a SHA-256 have no line feed
digest_plain : (octets : List ℕ) → IsLine (encode_lower (sha256 octets))
digest_plain octets = digits_plain (sha256 octets)

-- ---- lines

-- lines are read again from their text
pub lines_again : (lines : List (List ℕ)) → AllByRecursion IsLine lines
    → whole_lines (text_of_lines lines) ≡ lines
lines_again [] plain = refl
lines_again (line ∷ lines) plain =
    lines_both [] (line ++ 10 ∷ []) (text_of_lines lines)
    ∙ ap (λ (ls : List (List ℕ)). ls ++ lines_from (unfinished_from [] (line ++ 10 ∷ []))
    (text_of_lines lines)) (one_line line plain.0)
    ∙ ap (λ (left : List ℕ). line ∷ lines_from left (text_of_lines lines)) (line_ends [] line)
    ∙ ap (λ (ls : List (List ℕ)). line ∷ ls) (lines_again lines plain.1)

-- ---- rows

-- the lines of rows are their text
pub text_is : (rows : List Row) → rows_text rows ≡ text_of_lines (row_lines rows)
text_is [] = refl
text_is (r ∷ rows) = ap (λ (xs : List ℕ). row_line r ++ xs) (text_is rows)

-- the row is kept, and its request can be spelled
abbrev pub IsTold : Row → Type 0
IsTold r = (is_kept r ≡ true) × AsksFor 0 r.actor r.event (row_request r)

pub told_rows : (rows : List Row) → kept_rows rows ≡ rows → CanBeSpelled rows
    → AllByRecursion IsTold rows
told_rows [] kept spelled = tt
told_rows (r ∷ rows) kept spelled =
    let apart = kept_apart r rows kept in
    ((apart.0, spelled.0), told_rows rows apart.1 spelled.1)

first_told : (a b : List Row) → AllByRecursion IsTold (a ++ b) → AllByRecursion IsTold a
first_told [] b all = tt
first_told (r ∷ a) b all = (all.0, first_told a b all.1)

rest_told : (a b : List Row) → AllByRecursion IsTold (a ++ b) → AllByRecursion IsTold b
rest_told [] b all = all
rest_told (r ∷ a) b all = rest_told a b all.1

-- digits are no seal and no comment
digits_ask : (xs : List ℕ) → AllByRecursion (λ x. is_hex_digit x ≡ true) xs → 1 ≤ length xs
    → (is_of_seal xs ≡ false) × (is_comment xs ≡ false)
digits_ask [] all some = absurd (omega (arith, some))
digits_ask (x ∷ xs) all some = elim (cases_eq x 35) [
  | inl is ↦ absurd (cc (subst (λ (y : ℕ). is_hex_digit y ≡ true) is all.0))
  | inr other ↦
      let no : eqb 35 x ≡ false = ne_eqb 35 x (λ same. other (sym same)) in
      (rw no refl, rw no refl)
]

pub row_asks : (r : Row) → IsTold r
    → (is_of_seal (row_digits r) ≡ false) × (is_comment (row_digits r) ≡ false)
row_asks r told =
    let m : Telegram = row_request r in
    let read = decode_of-encode_lower (spelling m) (spelled_octets m told.1.message) in
    let digits = recursion_from_All (λ x. is_hex_digit x ≡ true) (row_digits r)
    (decode_of-ok (row_digits r) (spelling m) read).1 in
    let size = length-encode_with lower_digits (spelling m) in
    let whole = length-append (head_text m (length (body m))) (body m) in
    digits_ask (row_digits r) digits (omega (arith, size, whole))

-- the reading with these rows
abbrev pub with_rows : List Row → HistoryRead → HistoryRead
with_rows rows r =
    record r { unsealed = r.unsealed ++ row_lines rows; events = r.events ++ events_of rows }

row_read : (row : Row) (r : HistoryRead) → IsTold row
    → read_line (row_digits row) r ≡ Some (with_rows (row ∷ []) r)
row_read row r told =
    let line : List ℕ = row_digits row in
    let asks = row_asks row told in
    let request : request_in line ≡ Some (row.actor, row.event) =
    request_read (row_request row) row.actor row.event told.1.message told.1.asks
    (no_read row told.0) in
    ap (λ (t : Bool). if t then sealed_by (is_right_seal line r) r else read_text line r) asks.0
    ∙ ap (λ (t : Bool). if t then Some (with_comment line r)
    else add_request (request_in line) line r) asks.1
    ∙ ap (λ (o : Option (Actor × Event)). add_request o line r) request

pub rows_read : (rows : List Row) (r : HistoryRead) → AllByRecursion IsTold rows
    → read_lines (row_lines rows) r ≡ Some (with_rows rows r)
rows_read [] r told =
    ap (λ (ls : List (List ℕ)). Some (record r { unsealed = ls; events = r.events }))
    (sym (append-nil r.unsealed))
    ∙ ap (λ (es : List (Actor × Event)). Some (record r {
      unsealed = r.unsealed ++ [];
      events = es;
    }))
    (sym (append-nil r.events))
rows_read (row ∷ rows) r told =
    ap (λ (o : Option HistoryRead). and_then o (read_lines (row_lines rows)))
    (row_read row r told.0)
    ∙ rows_read rows (with_rows (row ∷ []) r) told.1
    ∙ ap (λ (ls : List (List ℕ)). Some (record r {
      unsealed = ls;
      events = (r.events ++ events_of (row ∷ [])) ++ events_of rows;
    })) (append_assoc r.unsealed (row_digits row ∷ []) (row_lines rows))
    ∙ ap (λ (es : List (Actor × Event)). Some (record r {
      unsealed = r.unsealed ++ row_lines (row ∷ rows);
      events = es;
    })) (append_assoc r.events (events_of (row ∷ [])) (events_of rows))

-- ---- seals

-- read up to these lines behind a seal, without a time
abbrev read_to : List ℕ → List (List ℕ) → List ℕ → List (Actor × Event) → HistoryRead
read_to seal lines torn events =
    record { seal = seal; unsealed = lines; torn = torn; time = None; events = events }

pub seal_read : (r : HistoryRead) → read_line (seal_line (seal_of r.seal r.unsealed)) r
    ≡ Some (with_seal r)
seal_read r =
    let seal : List ℕ = seal_of r.seal r.unsealed in
    let line : List ℕ = seal_line seal in
    ap (λ (t : Bool). if t then sealed_by (is_right_seal line r) r else read_text line r)
    (begins_itself seal_mark seal)
    ∙ ap (λ (t : Bool). sealed_by t r) (is_itself line)

-- the lines behind the last seal of these parts
abbrev unsealed_by : List (List ℕ) → List (List Row) → List (List ℕ)
unsealed_by lines [] = lines
unsealed_by lines (part ∷ parts) = unsealed_by [] parts

none_unsealed : (parts : List (List Row)) → unsealed_by [] parts ≡ []
none_unsealed [] = refl
none_unsealed (part ∷ parts) = none_unsealed parts

parts_read : (parts : List (List Row)) (seal : List ℕ) (lines : List (List ℕ)) (torn : List ℕ)
    (events : List (Actor × Event))
    → AllByRecursion IsTold (rows_of_parts parts)
    → read_lines (sealed_lines seal lines parts) (read_to seal lines torn events)
    ≡ Some (read_to (last_seal seal lines parts) (unsealed_by lines parts) torn
    (events ++ events_of (rows_of_parts parts)))
parts_read [] seal lines torn events told =
    ap (λ (es : List (Actor × Event)). Some (read_to seal lines torn es)) (sym (append-nil events))
parts_read (part ∷ parts) seal lines torn events told =
    let rest : List Row = rows_of_parts parts in
    let next : List ℕ = seal_of seal (lines ++ row_lines part) in
    let more : List (List ℕ) = sealed_lines next [] parts in
    let begun : HistoryRead = read_to seal lines torn events in
    let read : HistoryRead = with_rows part begun in
    read_both (row_lines part) (seal_line next ∷ more) begun
    ∙ ap (λ (o : Option HistoryRead). and_then o (read_lines (seal_line next ∷ more)))
    (rows_read part begun (first_told part rest told))
    ∙ ap (λ (o : Option HistoryRead). and_then o (read_lines more)) (seal_read read)
    ∙ parts_read parts next [] torn (events ++ events_of part) (rest_told part rest told)
    ∙ ap (λ (es : List (Actor × Event)). Some (read_to (last_seal next [] parts)
    (unsealed_by [] parts) torn es))
    (append_assoc events (events_of part) (events_of rest)
    ∙ ap (λ (es : List (Actor × Event)). events ++ es) (sym (events_both part rest)))

-- the line of a seal
pub seal_plain : (before : List ℕ) (lines : List (List ℕ))
    → IsLine (seal_line (seal_of before lines))
seal_plain before lines =
    plain_both seal_mark (seal_of before lines) refl
    (digest_plain (before ++ text_of_lines lines))

-- ---- chapters

all_both : (xs ys : List (List ℕ)) → AllByRecursion IsLine xs → AllByRecursion IsLine ys
    → AllByRecursion IsLine (xs ++ ys)
all_both [] ys first second = second
all_both (x ∷ xs) ys first second = (first.0, all_both xs ys first.1 second)

pub rows_plain : (rows : List Row) → AllByRecursion IsTold rows
    → AllByRecursion IsLine (row_lines rows)
rows_plain [] told = tt
rows_plain (r ∷ rows) told =
    (spelled_plain (row_request r) told.0.1.message, rows_plain rows told.1)

parts_plain : (parts : List (List Row)) (seal : List ℕ) (lines : List (List ℕ))
    → AllByRecursion IsTold (rows_of_parts parts)
    → AllByRecursion IsLine (sealed_lines seal lines parts)
parts_plain [] seal lines told = tt
parts_plain (part ∷ parts) seal lines told =
    let rest : List Row = rows_of_parts parts in
    let next : List ℕ = seal_of seal (lines ++ row_lines part) in
    all_both (row_lines part) (seal_line next ∷ sealed_lines next [] parts)
    (rows_plain part (first_told part rest told)) (
      plain_both seal_mark next refl
          (digest_plain (seal ++ text_of_lines (lines ++ row_lines part))),
      parts_plain parts next [] (rest_told part rest told),
    )

-- what is read with a chapter
abbrev behind_chapter : List (List ℕ) → List ℕ → List (List Row) → List Row
    → List (Actor × Event) → HistoryRead
behind_chapter first after sealed behind events =
    read_to (last_seal after first sealed) (unsealed_by first sealed ++ row_lines behind) []
    (events ++ events_of (rows_of_parts sealed ++ behind))

pub chapter_read : (site : List ℕ) (n : ℕ) (after : List ℕ) (sealed : List (List Row))
    (behind : List Row) (events : List (Actor × Event))
    → AllByRecursion IsTold (rows_of_parts sealed ++ behind)
    → read_chapter site n (chapter_text site n after sealed behind)
    (read_to after [] [] events)
    ≡ Some (behind_chapter (first_lines site n after) after sealed behind events)
chapter_read site n after sealed behind events told =
    let named : List (List ℕ) = first_lines site n after in
    let first : List ℕ = text_of_lines named in
    let lines : List (List ℕ) = chapter_lines named after sealed behind in
    let rows : List Row = rows_of_parts sealed in
    let begun : HistoryRead = read_to after named [] events in
    let text : List ℕ = first ++ text_of_lines lines in
    let plain = all_both (sealed_lines after named sealed) (row_lines behind)
    (parts_plain sealed after named (first_told rows behind told))
    (rows_plain behind (rest_told rows behind told)) in
    ap (λ (t : Bool). if t
    then read_lines (whole_lines (drop (length first) text))
    (record begun { torn = unfinished (drop (length first) text) })
    else None) (begins_itself first (text_of_lines lines))
    ∙ ap (λ (rest : List ℕ). read_lines (whole_lines rest)
    (record begun { torn = unfinished rest }))
    (behind_front first (text_of_lines lines))
    ∙ ap (λ (torn : List ℕ). read_lines (whole_lines (text_of_lines lines))
    (record begun { torn = torn })) (none_torn lines)
    ∙ ap (λ (ls : List (List ℕ)). read_lines ls begun) (lines_again lines plain)
    ∙ read_both (sealed_lines after named sealed) (row_lines behind) begun
    ∙ ap (λ (o : Option HistoryRead). and_then o (read_lines (row_lines behind)))
    (parts_read sealed after named [] events (first_told rows behind told))
    ∙ rows_read behind (read_to (last_seal after named sealed) (unsealed_by named sealed) []
    (events ++ events_of rows))
    (rest_told rows behind told)
    ∙ ap (λ (es : List (Actor × Event)). Some (read_to (last_seal after named sealed)
    (unsealed_by named sealed ++ row_lines behind) [] es))
    (append_assoc events (events_of rows) (events_of behind)
    ∙ ap (λ (es : List (Actor × Event)). events ++ es) (sym (events_both rows behind)))

-- a closed chapter ends with a seal
closed_read : (site : List ℕ) (n : ℕ) (after : List ℕ) (c : List (List Row))
    (events : List (Actor × Event)) → c ≢ [] → AllByRecursion IsTold (rows_of_parts c)
    → read_chapter site n (chapter_text site n after c []) (read_to after [] [] events)
    ≡ Some (read_to (last_seal after (first_lines site n after) c) [] []
    (events ++ events_of (rows_of_parts c)))
closed_read site n after [] events some told = absurd (some refl)
closed_read site n after (part ∷ parts) events some told =
    let c : List (List Row) = part ∷ parts in
    let named : List (List ℕ) = first_lines site n after in
    let alone : rows_of_parts c ++ [] ≡ rows_of_parts c = append-nil (rows_of_parts c) in
    chapter_read site n after c [] events (subst (AllByRecursion IsTold) (sym alone) told)
    ∙ ap (λ (ls : List (List ℕ)). Some (read_to (last_seal after named c) ls []
    (events ++ events_of (rows_of_parts c ++ []))))
    (append-nil (unsealed_by [] parts) ∙ none_unsealed parts)
    ∙ ap (λ (rs : List Row). Some (read_to (last_seal after named c) [] []
    (events ++ events_of rs))) alone

-- ---- a history

-- the texts of chapters were read, and so many requests of them
abbrev ReadOf : List ℕ → ℕ → List (List ℕ) → HistoryRead → List (Actor × Event) → Type 0
ReadOf site n texts r events =
    (end : HistoryRead) × (read_from site n texts r ≡ Some end) × (end.events ≡ events)

texts_read : (site : List ℕ) (closed : List (List (List Row))) (sealed : List (List Row))
    (behind : List Row) (n : ℕ) (after : List ℕ) (events : List (Actor × Event))
    → AllByRecursion (λ c. c ≢ []) closed
    → AllByRecursion IsTold (rows_of_chapters closed sealed behind)
    → ReadOf site n (texts_from site n after closed sealed behind)
    (read_to after [] [] events)
    (events ++ events_of (rows_of_chapters closed sealed behind))
texts_read site [] sealed behind n after events ended told = (
  behind_chapter (first_lines site n after) after sealed behind events,
  ap (λ (o : Option HistoryRead). and_then o (read_from site (suc n) []))
      (chapter_read site n after sealed behind events told),
  refl,
)
texts_read site (c ∷ closed) sealed behind n after events ended told =
    let rows : List Row = rows_of_parts c in
    let others : List Row = rows_of_chapters closed sealed behind in
    let next : List ℕ = last_seal after (first_lines site n after) c in
    let texts = texts_from site (suc n) next closed sealed behind in
    let later = texts_read site closed sealed behind (suc n) next
    (events ++ events_of rows) ended.1 (rest_told rows others told) in (
      later.0,
      ap (λ (o : Option HistoryRead). and_then o (read_from site (suc n) texts))
          (closed_read site n after c events ended.0 (first_told rows others told))
          ∙ later.1,
      later.2 ∙ append_assoc events (events_of rows) (events_of others)
          ∙ ap (λ (es : List (Actor × Event)). events ++ es) (sym (events_both rows others)),
    )

-- there is a chapter
some_text : (site : List ℕ) (closed : List (List (List Row))) (sealed : List (List Row))
    (behind : List Row) → read_history site (history_texts site closed sealed behind)
    ≡ read_from site 1 (history_texts site closed sealed behind) nothing_read
some_text site [] sealed behind = refl
some_text site (c ∷ closed) sealed behind = refl

pub chapters_tell_their_history : ChaptersTellTheirHistory
chapters_tell_their_history site config rows closed sealed behind legal spelled ended are =
    let told = subst (AllByRecursion IsTold) (sym are)
    (told_rows (kept_rows rows) (kept_again rows) spelled) in
    let read = texts_read site closed sealed behind 1 no_seal [] ended told in
    record {
      reading = read.0;
      read = some_text site closed sealed behind ∙ read.1;
      made =
          ap (rows_asked (opening config))
          (read.2 ∙ ap (λ (rs : List Row). events_of rs) are)
          ∙ asked_again (opening config) (kept_rows rows)
          (left_out (opening config) rows legal).legal;
    }
