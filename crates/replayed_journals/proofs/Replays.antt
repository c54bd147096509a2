-- A journal's text, read by a replay.
use Rattle.std.proofs.Common.{◌≡◌, ℕ, zero, suc, ◌+◌, ◌-◌, ◌*◌, ◌<◌, ◌≤◌, Bool, true, false}
use Rattle.std.proofs.Common.{List, [], ◌∷◌, ◌++◌, drop, length, take, None, Ok}
use Rattle.std.proofs.Common.{refl, sym, ap, ◌∙◌, append-nil, append_assoc, subst}
use Rattle.std.proofs.Common.{arith, codes, decimal, eqb, inl, inr}
use Rattle.std.specs.Fmt.{digits}
use Rattle.std.specs.Prelude.{◌&&◌, if◌then◌else◌, nat_lt, slice_index}
use Rattle.std.specs.Io.BufRead.{ends_with_byte, strip_last}
use Rattle.std.specs.List.{AllByRecursion}
use Rattle.std.proofs.lemmas.Bool.{cases_eq, cases_lt, le-leb, lt-leb, ne_eqb}
use Rattle.std.proofs.lemmas.List.{length-append, length-take-le, take-append-le, take_all}
use Rattle.std.proofs.lemmas.List.Elements.{recursion_from_All}
use Rattle.hex.specs.Hex.{encode_lower, is_hex_digit, lower_digits}
use Rattle.hex.proofs.HexLemmas.{decode_of-encode_lower, decode_of-ok, length-encode_with}
use Rattle.sha2.specs.Sha256.{sha256}
use Rattle.sha2.proofs.Facts256.{length-sha256}
use Rattle.site_base.specs.declared.row.Row.{Row}
use Rattle.std.specs.Int.{to_be_bytes, w16}
use Rattle.app_message.specs.Spelling.{IsMessage, body, head_text, kind_code, spelling}
use Rattle.app_message.specs.Stream.{held_after, walk}
use Rattle.app_message.specs.Telegram.{Telegram}
use Rattle.hex_lines.specs.declared.line_reading.TheConstants.{LINE_OCTETS}
use Rattle.hex_lines.specs.Lines.{line_of}
use Rattle.forecourt_engines.specs.Answers.{Answerer, after_message, book_meaning}
use Rattle.forecourt_engines.specs.Laws.{between_lines}
use Rattle.hex_lines.specs.Lines.{is_skipped, kept_of}
use Rattle.forecourt_engines.specs.Text.{Effect, State, after, effect, last_fault}
use Rattle.forecourt_engines.specs.Text.{end_input, next_line, next_number}
use Rattle.hex_lines.specs.Lines.{without_spaces}
use Rattle.forecourt_engines.specs.Text.{start, stream_effect}
use Rattle.forecourt_engines.proofs.Lines.{line_says}
use Rattle.forecourt_engines.proofs.Running.{after-append}
use Rattle.site_base.specs.Configured.{Configured}
use Rattle.written_site.specs.SiteRun.{IsLegal, row_to}
use Rattle.written_site.specs.SiteState.{SiteState, opening}
use Rattle.written_site.specs.SiteStep.{reply_to}
use Rattle.written_site.proofs.Histories.{site_of_rows-push}
use Rattle.site_book.specs.Book.{Book, site_at, whole_book, with_row_of}
use Rattle.chapters.specs.History.{empty_book}
use Rattle.chapters.specs.ChapterText.{after_line, chapter_text, first_lines, no_seal}
use Rattle.chapters.specs.ChapterText.{site_line, site_name, text_of_lines, title_line}
use Rattle.chapters.specs.RowText.{CanBeSpelled, row_line, row_request, rows_text}
use Rattle.kept_history.specs.KeptRows.{kept_rows}
use Rattle.kept_history.proofs.LeftOut.{left_out}
use Rattle.replayed_journals.specs.Laws.{IsReplayedTo, JournalsAreReplayed, limited_book}
use Rattle.chapters.proofs.Chapters.{text_is}
use Rattle.chapters.proofs.Octets.{digits_plain, plain_both, spelled_octets}
use Rattle.chapters.proofs.Requests.{alone_read, spelled_plain}
use Rattle.hex_lines.specs.Lines.{IsLine}

-- ---- digits say themselves

abbrev AreDigits : List ℕ → Type 0
AreDigits xs = AllByRecursion (λ x. is_hex_digit x ≡ true) xs

-- no digit is an octet that is none
is_other : (n x : ℕ) → is_hex_digit n ≡ false → is_hex_digit x ≡ true → eqb x n ≡ false
is_other n x none digit = elim (cases_eq x n) [
  | inl is ↦
      let never : false ≡ true = sym none ∙ ap is_hex_digit (sym is) ∙ digit in
      absurd cc
  | inr other ↦ ne_eqb x n other
]

digit_at : (xs : List ℕ) (i : ℕ) → AreDigits xs → i < length xs
    → is_hex_digit (slice_index xs i) ≡ true
digit_at [] i all within = absurd (omega (arith, within))
digit_at (x ∷ xs) zero all within = all.0
digit_at (x ∷ xs) (suc i) all within = digit_at xs i all.1 (omega (arith, within))

without_none : (xs : List ℕ) → AreDigits xs → without_spaces xs ≡ xs
without_none [] all = refl
without_none (x ∷ xs) all =
    rw (is_other 32 x refl all.0) (ap (λ (ys : List ℕ). x ∷ ys) (without_none xs all.1))

strips_none : (xs : List ℕ) → AreDigits xs → strip_last 13 xs ≡ xs
strips_none [] all = refl
strips_none (x ∷ xs) all =
    let last = digit_at (x ∷ xs) (length (x ∷ xs) - 1) all (omega arith) in
    let other = is_other 13 (slice_index (x ∷ xs) (length (x ∷ xs) - 1)) refl last in
    ap (λ (t : Bool). if t then take (length (x ∷ xs) - 1) (x ∷ xs) else x ∷ xs)
    (ap (λ (t : Bool). nat_lt 0 (length (x ∷ xs)) && t) other
    ∙ never (nat_lt 0 (length (x ∷ xs))))
  where
    never : (t : Bool) → (t && false) ≡ false
    never true = refl
    never false = refl

digits_kept : (xs : List ℕ) → AreDigits xs → kept_of xs ≡ xs
digits_kept xs all = ap without_spaces (strips_none xs all) ∙ without_none xs all

digits_said : (xs : List ℕ) → AreDigits xs → 1 ≤ length xs → is_skipped xs ≡ false
digits_said [] all some = absurd (omega (arith, some))
digits_said (x ∷ xs) all some = is_other 35 x refl all.0

-- ---- the line of a row

spelled_digits : (m : Telegram) → IsMessage m → AreDigits (encode_lower (spelling m))
spelled_digits m valid =
    let text = encode_lower (spelling m) in
    recursion_from_All (λ x. is_hex_digit x ≡ true) text
    (decode_of-ok text (spelling m)
    (decode_of-encode_lower (spelling m) (spelled_octets m valid))).1

spelled_size : (m : Telegram) → IsMessage m
    → length (encode_lower (spelling m)) ≡ 2 * (8 + length (body m))
spelled_size m valid =
    let n = length (body m) in
    let last : List ℕ = 0 ∷ (kind_code m.kind * 32 + m.token) ∷ to_be_bytes w16 n in
    let nodes : length (m.to ++ m.from) ≡ length m.to + length m.from =
    length-append m.to m.from in
    let head : length (head_text m n) ≡ length (m.to ++ m.from) + 4 =
    length-append (m.to ++ m.from) last in
    let whole : length (spelling m) ≡ length (head_text m n) + n =
    length-append (head_text m n) (body m) in
    let digits : length (encode_lower (spelling m)) ≡ 2 * length (spelling m) =
    length-encode_with lower_digits (spelling m) in
    omega (arith, nodes, head, whole, digits, valid.head.to_size, valid.head.from_size)

message_effect : (number : ℕ) (a : Answerer) (m : Telegram) → IsMessage m
    → effect number (held_after []) a (kept_of (encode_lower (spelling m)))
    ≡ stream_effect a (record { messages = m ∷ []; rest = []; fault = None })
message_effect number a m valid =
    let text = encode_lower (spelling m) in
    let digits = spelled_digits m valid in
    let some : 1 ≤ length text = omega (arith, spelled_size m valid) in
    rw (
      digits_kept text digits,
      digits_said text digits some,
      decode_of-encode_lower (spelling m) (spelled_octets m valid),
      alone_read m valid,
    ) refl

row_read : (number : ℕ) (a : Answerer) (m : Telegram) → IsMessage m
    → after (between_lines number (held_after []) a) (line_of m)
    ≡ between_lines (next_number number) (held_after []) (after_message a m)
unfolding walk
row_read number a m valid =
    let text = encode_lower (spelling m) in
    let short : length text ≤ LINE_OCTETS =
    omega (arith, spelled_size m valid, valid.most) in
    (line_says number (held_after []) a text (spelled_plain m valid) short).0
    ∙ ap (λ (t : Effect). next_line (between_lines number (held_after []) a) t)
    (message_effect number a m valid)

-- ---- the row that it makes

-- the row of the written step is the one that is there
same_row : (s : SiteState) (r : Row) → r.reply ≡ reply_to s r.actor r.event
    → row_to s r.actor r.event ≡ r
same_row s r is = ap (λ reply. record r { reply = reply }) (sym is)

room_left : (config : Configured) (before : List Row) (r : Row)
    → r.reply ≡ reply_to (site_at config before) r.actor r.event → length before < config.rows
    → book_meaning (limited_book config before) (Ok (r.actor, r.event))
    ≡ limited_book config (before ++ r ∷ [])
room_left config before r replies room =
    let b = whole_book config before in
    let all : limited_book config before ≡ b =
    ap (whole_book config) (take_all config.rows before (omega (arith, room))) in
    let more : length (before ++ r ∷ []) ≤ config.rows =
    omega (arith, room, length-append before (r ∷ [])) in
    ap (λ (x : Book). book_meaning x (Ok (r.actor, r.event))) all
    ∙ ap (λ (full : Bool). if full then b else with_row_of b r.actor r.event)
    (lt-leb (0 + config.rows) (length before) (omega (arith, room)))
    ∙ ap (λ (x : Row). whole_book config (before ++ x ∷ []))
    (same_row (site_at config before) r replies)
    ∙ ap (whole_book config) (sym (take_all config.rows (before ++ r ∷ []) more))

none_left : (config : Configured) (before : List Row) (r : Row) → config.rows ≤ length before
    → book_meaning (limited_book config before) (Ok (r.actor, r.event))
    ≡ limited_book config (before ++ r ∷ [])
none_left config before r full =
    let b = limited_book config before in
    let size : length (take config.rows before) ≡ config.rows =
    length-take-le config.rows before full in
    ap (λ (is : Bool). if is then b else with_row_of b r.actor r.event)
    (le-leb (0 + config.rows) (length (take config.rows before)) (omega (arith, size)))
    ∙ ap (whole_book config) (sym (take-append-le config.rows before (r ∷ []) full))

limit_kept : (config : Configured) (before : List Row) (r : Row)
    → r.reply ≡ reply_to (site_at config before) r.actor r.event
    → book_meaning (limited_book config before) (Ok (r.actor, r.event))
    ≡ limited_book config (before ++ r ∷ [])
limit_kept config before r replies = elim (cases_lt (length before) config.rows) [
  | inl room ↦ room_left config before r replies room
  | inr full ↦ none_left config before r full
]

-- ---- all of them

-- a replay between two lines, behind these rows
abbrev replays : Bool → ℕ → Configured → List Row → State
replays changes number config rows =
    between_lines number (held_after [])
    (record { book = limited_book config rows; changes = changes })

rows_read : (rows : List Row) (changes : Bool) (number : ℕ) (config : Configured)
    (before : List Row) → CanBeSpelled rows → IsLegal (site_at config before) rows
    → (n : ℕ) × (after (replays changes number config before) (rows_text rows)
    ≡ replays changes n config (before ++ rows))
rows_read [] changes number config before spelled legal =
    (number, ap (replays changes number config) (sym (append-nil before)))
rows_read (r ∷ rows) changes number config before spelled legal =
    let next = before ++ r ∷ [] in
    let site = site_of_rows-push (opening config) before r in
    let rest = rows_read rows changes (next_number number) config next spelled.1
    (subst (λ (s : SiteState). IsLegal s rows) (sym site) legal.1) in (
      rest.0,
      after-append (replays changes number config before) (row_line r) (rows_text rows)
          ∙ ap (λ (st : State). after st (rows_text rows)) read
          ∙ rest.1
          ∙ ap (replays changes rest.0 config) (append_assoc before (r ∷ []) rows),
    )
  where
    read : after (replays changes number config before) (row_line r)
        ≡ replays changes (next_number number) config (before ++ r ∷ [])
    read =
        row_read number (record { book = limited_book config before; changes = changes })
        (row_request r) spelled.0.message
        ∙ ap (λ (x : Book).
        between_lines (next_number number) (held_after []) (record { book = x; changes = changes }))
        (ap (book_meaning (limited_book config before)) spelled.0.asks
        ∙ limit_kept config before r legal.0)

-- ---- the first lines

-- a line that begins with a number sign is a comment
comment : (xs : List ℕ) → is_skipped (kept_of (35 ∷ xs)) ≡ true
comment [] = refl
comment (x ∷ xs) = by_test (ends_with_byte 13 (35 ∷ x ∷ xs))
  where
    by_test : (t : Bool)
        → is_skipped (without_spaces (if t then take (length (35 ∷ x ∷ xs) - 1) (35 ∷ x ∷ xs)
        else 35 ∷ x ∷ xs)) ≡ true
    by_test true =
        let size : length (35 ∷ x ∷ xs) - 1 ≡ suc (length xs) = omega arith in
        ap (λ (n : ℕ). is_skipped (without_spaces (take n (35 ∷ x ∷ xs)))) size
    by_test false = refl

comment_read : (number : ℕ) (a : Answerer) (xs : List ℕ) → IsLine (35 ∷ xs)
    → length (35 ∷ xs) ≤ LINE_OCTETS
    → after (between_lines number (held_after []) a) ((35 ∷ xs) ++ 10 ∷ [])
    ≡ between_lines (next_number number) (held_after []) a
comment_read number a xs plain short =
    (line_says number (held_after []) a (35 ∷ xs) plain short).0 ∙ rw (comment xs) refl

one_is : decimal 1 ≡ 49 ∷ []
unfolding digits
one_is = refl

title_plain : IsLine (title_line 1)
title_plain =
    subst (λ (xs : List ℕ). IsLine (codes "# witsomar history 1 chapter " ++ xs)) (sym one_is) refl

title_short : length (title_line 1) ≤ LINE_OCTETS
title_short =
    subst (λ (xs : List ℕ). length (codes "# witsomar history 1 chapter " ++ xs) ≤ LINE_OCTETS)
    (sym one_is) (omega arith)

-- .. so are the first lines of a chapter
first_read : (site_file : List ℕ) (a : Answerer)
    → after (between_lines 1 (held_after []) a)
    (text_of_lines (first_lines (site_name site_file) 1 no_seal))
    ≡ between_lines (next_number (next_number (next_number 1))) (held_after []) a
first_read site_file a =
    let site : List ℕ = site_name site_file in
    let size : length site ≡ 64 =
    length-encode_with lower_digits (sha256 site_file)
    ∙ ap (λ (n : ℕ). 2 * n) (length-sha256 site_file) in
    let st = between_lines 1 (held_after []) a in
    let two = between_lines (next_number 1) (held_after []) a in
    let three = between_lines (next_number (next_number 1)) (held_after []) a in
    let named : List ℕ = site_line site ++ 10 ∷ [] in
    let last : List ℕ = (after_line no_seal ++ 10 ∷ []) ++ [] in
    after-append st (title_line 1 ++ 10 ∷ []) (named ++ last)
    ∙ ap (λ (s : State). after s (named ++ last))
    (comment_read 1 a (drop 1 (codes "# witsomar history 1 chapter ") ++ decimal 1) title_plain
    title_short)
    ∙ after-append two named last
    ∙ ap (λ (s : State). after s last)
    (comment_read (next_number 1) a (drop 1 (codes "# site ") ++ site)
    (plain_both (codes "# site ") site refl (digits_plain (sha256 site_file)))
    (omega (arith, size, length-append (codes "# site ") site)))
    ∙ after-append three (after_line no_seal ++ 10 ∷ []) []
    ∙ comment_read (next_number (next_number 1)) a (drop 1 (after_line no_seal)) refl (omega arith)

-- ---- the end

ended_there : (changes : Bool) (number : ℕ) (config : Configured) (rows : List Row)
    → last_fault (replays changes number config rows) ≡ None
unfolding walk
ended_there changes number config rows = refl

book_there : (changes : Bool) (number : ℕ) (config : Configured) (rows : List Row)
    → (end_input (replays changes number config rows)).answerer.book ≡ limited_book config rows
book_there changes number config rows = refl

text_replayed : (site_file : List ℕ) (config : Configured) (all : List Row) (changes : Bool)
    → IsLegal (opening config) all → CanBeSpelled all
    → IsReplayedTo (limited_book config all)
    (start (record { book = empty_book config; changes = changes }))
    (chapter_text (site_name site_file) 1 no_seal [] all)
text_replayed site_file config all changes legal spelled =
    let st = start (record { book = empty_book config; changes = changes }) in
    let site : List ℕ = site_name site_file in
    let first : List ℕ = text_of_lines (first_lines site 1 no_seal) in
    let text = chapter_text site 1 no_seal [] all in
    let same : text ≡ first ++ rows_text all =
    ap (λ (xs : List ℕ). first ++ xs) (sym (text_is all)) in
    let rows = rows_read all changes (next_number (next_number (next_number 1))) config [] spelled
    legal in
    let none : empty_book config ≡ limited_book config [] =
    ap (whole_book config) (sym (take_all config.rows [] (omega arith))) in
    let begun : st ≡ replays changes 1 config [] =
    ap (λ (x : Book). start (record { book = x; changes = changes })) none in
    let read : after st text ≡ replays changes rows.0 config all =
    ap (after st) same
    ∙ ap (λ (s : State). after s (first ++ rows_text all)) begun
    ∙ after-append (replays changes 1 config []) first (rows_text all)
    ∙ ap (λ (s : State). after s (rows_text all)) (first_read site_file _) ∙ rows.1 in
    record {
      fault = ap last_fault read ∙ ended_there changes rows.0 config all;
      book = ap (λ (s : State). (end_input s).answerer.book) read
          ∙ book_there changes rows.0 config all;
    }

pub journals_are_replayed : JournalsAreReplayed
journals_are_replayed site_file config rows changes legal spelled =
    text_replayed site_file config (kept_rows rows) changes
    (left_out (opening config) rows legal).legal spelled
