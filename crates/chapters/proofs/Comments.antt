-- Comments say nothing of rows.
use Rattle.std.proofs.Common.{◌≡◌, ℕ, Bool, true, false, List, [], ◌∷◌, ◌++◌, Option, Some, None}
use Rattle.std.proofs.Common.{refl, sym, ap, ◌∙◌, append-nil, append_assoc, drop}
use Rattle.std.specs.Prelude.{◌&&◌, ◌==◌, filter, if◌then◌else◌, not}
use Rattle.std.specs.List.{filter_map, starts_with}
use Rattle.std.proofs.lemmas.Option.{none-some, same_Some}
use Rattle.site_base.specs.declared.actor.Actor.{Actor}
use Rattle.site_base.specs.declared.event.Event.{Event}
use Rattle.chapters.specs.ChapterReading.{HistoryRead, add_request, is_comment, is_of_seal}
use Rattle.chapters.specs.ChapterReading.{is_right_seal, read_line, read_lines, read_text}
use Rattle.chapters.specs.ChapterReading.{sealed_by, with_comment, with_seal}
use Rattle.chapters.specs.ChapterText.{seal_mark}
use Rattle.chapters.specs.Laws.{CommentsSayNothing, requests_in}
use Rattle.chapters.specs.Lines.{request_in}
use Rattle.chapters.proofs.Histories.{both_some}

-- the line of a seal is a comment
seal_is_comment : (line : List ℕ) → is_of_seal line ≡ true → is_comment line ≡ true
seal_is_comment [] is = absurd cc
seal_is_comment (x ∷ xs) is =
    by_first (35 == x) (starts_with (λ a b. a == b) xs (drop 1 seal_mark)) is
  where
    by_first : (t rest : Bool) → (t && rest) ≡ true → (t && true) ≡ true
    by_first true rest both = refl
    by_first false rest both = absurd cc

-- one line
line_says : (line : List ℕ) (r s : HistoryRead) → read_line line r ≡ Some s
    → s.events ≡ r.events ++ requests_in (line ∷ [])
line_says line r s is = by_mark (is_of_seal line) refl is
  where
    nothing : is_comment line ≡ true → s.events ≡ r.events
        → s.events ≡ r.events ++ requests_in (line ∷ [])
    nothing comment same =
        same ∙ sym (append-nil r.events)
        ∙ ap (λ (t : Bool). r.events ++ filter_map request_in (if not t then line ∷ [] else []))
        (sym comment)

    by_seal : (t : Bool) → is_comment line ≡ true → sealed_by t r ≡ Some s
        → s.events ≡ r.events ++ requests_in (line ∷ [])
    by_seal true comment is =
        nothing comment (ap (λ (x : HistoryRead). x.events) (sym (same_Some (with_seal r) s is)))
    by_seal false comment is = absurd (none-some s is)

    by_request : (o : Option (Actor × Event)) → request_in line ≡ o → is_comment line ≡ false
        → add_request o line r ≡ Some s → s.events ≡ r.events ++ requests_in (line ∷ [])
    by_request None asks text is = absurd (none-some s is)
    by_request (Some e) asks text is =
        ap (λ (x : HistoryRead). x.events) (sym (same_Some _ s is))
        ∙ rw (text, asks) refl

    by_text : (t : Bool) → is_comment line ≡ t
        → (if t then Some (with_comment line r) else add_request (request_in line) line r) ≡ Some s
        → s.events ≡ r.events ++ requests_in (line ∷ [])
    by_text true comment is =
        nothing comment (ap (λ (x : HistoryRead). x.events) (sym (same_Some (with_comment line r) s is)))
    by_text false text is = by_request (request_in line) refl text is

    by_mark : (t : Bool) → is_of_seal line ≡ t
        → (if t then sealed_by (is_right_seal line r) r else read_text line r) ≡ Some s
        → s.events ≡ r.events ++ requests_in (line ∷ [])
    by_mark true mark is = by_seal (is_right_seal line r) (seal_is_comment line mark) is
    by_mark false mark is = by_text (is_comment line) refl is

requests_more : (line : List ℕ) (lines : List (List ℕ))
    → requests_in (line ∷ lines) ≡ requests_in (line ∷ []) ++ requests_in lines
requests_more line lines = by_comment (not (is_comment line))
  where
    by_request : (o : Option (Actor × Event)) → request_in line ≡ o
        → filter_map request_in (line ∷ filter (λ l. not (is_comment l)) lines)
        ≡ filter_map request_in (line ∷ []) ++ requests_in lines
    by_request None is = rw is refl
    by_request (Some e) is = rw is refl

    by_comment : (t : Bool)
        → filter_map request_in (if t then line ∷ filter (λ l. not (is_comment l)) lines
        else filter (λ l. not (is_comment l)) lines)
        ≡ filter_map request_in (if t then line ∷ [] else []) ++ requests_in lines
    by_comment true = by_request (request_in line) refl
    by_comment false = refl

pub comments_say_nothing : CommentsSayNothing
comments_say_nothing [] r s is =
    ap (λ (x : HistoryRead). x.events) (sym (same_Some r s is)) ∙ sym (append-nil r.events)
comments_say_nothing (line ∷ lines) r s is =
    let mid = both_some (read_line line r) (read_lines lines) s is in
    comments_say_nothing lines mid.0 s mid.2
    ∙ ap (λ (es : List (Actor × Event)). es ++ requests_in lines) (line_says line r mid.0 mid.1)
    ∙ append_assoc r.events (requests_in (line ∷ [])) (requests_in lines)
    ∙ ap (λ (es : List (Actor × Event)). r.events ++ es) (sym (requests_more line lines))
