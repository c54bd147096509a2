use Rattle.std.proofs.Common.{◌≡◌, ◌≢◌, ◌∙◌, ◌+◌, [], ap, arith, length, refl, sym, subst}
use Rattle.std.proofs.Common.{List}
use Rattle.std.proofs.Common.{ℕ}
use Rattle.std.proofs.lemmas.List.{length-drop}
use Rattle.chapters.specs.ChapterText.{text_of_lines}
use Rattle.chapters.specs.HistoryEnds.{EndState, EndsAt}
use Rattle.chapters.specs.Readers.{ReaderState, begins_so, first_fault}
use Rattle.chapters.proofs.ReadingChapters.{chapter_begins, first_whole, next_first, next_of}
use Rattle.chapters.proofs.ReadingChapters.{other_named, other_refused, unended_named}
use Rattle.chapters.proofs.ReadingChapters.{unended_refused}
use Rattle.chapters.proofs.reader.HistoryReader.begin_chapter.Goals as goal

pub returns-then-not-is_ended-clause-refused : goal.returns-then-not-is_ended-clause-refused
returns-then-not-is_ended-clause-refused c = λ of_text texts h.
    unended_refused texts c.args.text.now c.args.self.now
    (sym c.is_ended.ensures ∙ c.if-not-is_ended.true) h

pub returns-then-not-is_ended-clause-named : goal.returns-then-not-is_ended-clause-named
returns-then-not-is_ended-clause-named c = λ of_text texts h.
    unended_named texts c.args.text.now c.args.self.now (c.chapters-number.result + 1)
    (ap (λ n. n + 1) (c.chapters-number.ensures.count
    ∙ ap (λ (s : ReaderState). s.end.chapters) c.self.view_is))
    (sym c.is_ended.ensures ∙ c.if-not-is_ended.true) h

pub returns-in-Err-clause-refused : goal.returns-in-Err-clause-refused
returns-in-Err-clause-refused c = λ of_text texts h.
    let s = c.args.self.now in
    let lines = next_of s c.as_str-site.result.now c.last_seal-after.result.now
    c.chapters-number.result
    (c.as_str-site.ensures.value ∙ ap (λ (x : ReaderState). x.site) c.self.view_is)
    (c.chapters-number.ensures.count ∙ ap (λ (x : ReaderState). x.end.chapters) c.self.view_is)
    (c.last_seal-after.ensures ∙ ap (λ (x : ReaderState). x.end.seal) c.self.view_is) in
    other_refused texts c.args.text.now s (sym c.is_ended.ensures ∙ c.if-not-is_ended.false)
    (ap (begins_so c.args.text.now) (sym lines) ∙ c.in-Err.ensures.other of_text) h

pub returns-in-Err-clause-named : goal.returns-in-Err-clause-named
returns-in-Err-clause-named c = λ of_text texts h.
    let s = c.args.self.now in
    let lines = next_of s c.as_str-site.result.now c.last_seal-after.result.now
    c.chapters-number.result
    (c.as_str-site.ensures.value ∙ ap (λ (x : ReaderState). x.site) c.self.view_is)
    (c.chapters-number.ensures.count ∙ ap (λ (x : ReaderState). x.end.chapters) c.self.view_is)
    (c.last_seal-after.ensures ∙ ap (λ (x : ReaderState). x.end.seal) c.self.view_is) in
    let count : c.chapters-number.result ≡ s.end.chapters =
    c.chapters-number.ensures.count ∙ ap (λ (x : ReaderState). x.end.chapters) c.self.view_is in
    other_named texts c.args.text.now s c.in-Err.fault
    (sym c.is_ended.ensures ∙ c.if-not-is_ended.false)
    (ap (begins_so c.args.text.now) (sym lines) ∙ c.in-Err.ensures.other of_text)
    (c.in-Err.ensures.named of_text
    ∙ ap (λ (ls : List (List ℕ)). first_fault (c.chapters-number.result + 1) ls c.args.text.now)
    lines
    ∙ ap (λ (n : ℕ). first_fault (n + 1) (next_first s) c.args.text.now) count) h

pub returns-clause-begun : goal.returns-clause-begun
returns-clause-begun c = λ texts h.
    let s = c.args.self.now in
    let lines = next_of s c.as_str-site.result.now c.last_seal-after.result.now
    c.chapters-number.result
    (c.as_str-site.ensures.value ∙ ap (λ (x : ReaderState). x.site) c.self.view_is)
    (c.chapters-number.ensures.count ∙ ap (λ (x : ReaderState). x.end.chapters) c.self.view_is)
    (c.last_seal-after.ensures ∙ ap (λ (x : ReaderState). x.end.seal) c.self.view_is) in
    let octets = c.as_bytes-octets.result.now in
    let first = c.as_bytes-octets.ensures.value ∙ c.in-Ok.ensures.lines ∙ ap text_of_lines lines in
    let begins = ap (begins_so c.args.text.now) (sym lines) ∙ c.in-Ok.ensures.begins in
    let ended = sym c.is_ended.ensures ∙ c.if-not-is_ended.false in
    let met = subst (λ (e : EndState). (chapters : ℕ) (seal : List ℕ) (ls : List (List ℕ))
    → EndsAt chapters seal [] e → octets ≡ text_of_lines ls → ls ≢ []
    → EndsAt (chapters + 1) seal ls c.begin_chapter.new.self)
    (ap (λ (x : ReaderState). x.end) c.self.view_is) c.begin_chapter.ensures.begun in
    chapter_begins texts c.args.text.now octets s _ (length octets) h ended first refl begins met
    (ap (λ (x : ReaderState). x.book) c.self.view_is)
    (c.begin_chapter.ensures.time ∙ ap (λ (x : ReaderState). x.end.time) c.self.view_is)
    (ap (λ (x : ReaderState). x.site) c.self.view_is) refl
    (omega (arith, length-drop (length octets) c.args.text.now, c.type_inv.text))

pub returns-clause-whole : goal.returns-clause-whole
returns-clause-whole c =
    let s = c.args.self.now in
    let lines = next_of s c.as_str-site.result.now c.last_seal-after.result.now
    c.chapters-number.result
    (c.as_str-site.ensures.value ∙ ap (λ (x : ReaderState). x.site) c.self.view_is)
    (c.chapters-number.ensures.count ∙ ap (λ (x : ReaderState). x.end.chapters) c.self.view_is)
    (c.last_seal-after.ensures ∙ ap (λ (x : ReaderState). x.end.seal) c.self.view_is) in
    let octets = c.as_bytes-octets.result.now in
    first_whole c.args.text.now octets (next_first s) (length octets)
    (c.as_bytes-octets.ensures.value ∙ c.in-Ok.ensures.lines ∙ ap text_of_lines lines) refl
    (ap (begins_so c.args.text.now) (sym lines) ∙ c.in-Ok.ensures.begins)
