-- The times that lines tell.
use Rattle.std.proofs.Common.{◌≡◌, ℕ, Bool, true, false, List, [], ◌∷◌, ◌++◌, Option, Some, None}
use Rattle.std.proofs.Common.{refl, sym, ap, ◌∙◌, drop, subst}
use Rattle.std.specs.Prelude.{◌&&◌, ◌==◌, if◌then◌else◌}
use Rattle.std.specs.List.{starts_with}
use Rattle.std.proofs.lemmas.Bool.{eqb-true}
use Rattle.std.proofs.lemmas.List.Elements.{filter_map-append}
use Rattle.std.proofs.lemmas.Option.{none-some, same_Some}
use Rattle.site_base.specs.declared.actor.Actor.{Actor}
use Rattle.site_base.specs.declared.event.Event.{Event}
use Rattle.stamps.specs.Stamps.{as_stamp, at_mark, later_of, stamp_in, time_after, time_of_lines}
use Rattle.chapters.specs.ChapterReading.{HistoryRead, add_request, and_then, is_comment}
use Rattle.chapters.specs.ChapterReading.{is_of_seal, is_right_seal, read_line, read_lines}
use Rattle.chapters.specs.ChapterReading.{read_text, sealed_by, with_comment, with_seal}
use Rattle.chapters.specs.Laws.{TimesAreRead}
use Rattle.chapters.specs.Lines.{request_in}
use Rattle.chapters.specs.Times.{Rise, times_in}

-- ---- lines that tell none

and_false : (a : Bool) → (a && false) ≡ false
and_false true = refl
and_false false = refl

pub and_left : (a b : Bool) → (a && b) ≡ true → a ≡ true
and_left true b both = refl
and_left false b both = absurd cc

pub and_right : (a b : Bool) → (a && b) ≡ true → b ≡ true
and_right true b both = both
and_right false b both = absurd cc

unmarked : (line : List ℕ) → starts_with (λ a b. a == b) line at_mark ≡ false
    → stamp_in line ≡ None
unmarked line other = ap (λ (t : Bool). if t then as_stamp (drop 5 line) else None) other

-- one that is no comment
pub request_tells_none : (line : List ℕ) → is_comment line ≡ false → stamp_in line ≡ None
request_tells_none [] other = refl
request_tells_none (c ∷ line) other =
    unmarked (c ∷ line)
    (ap (λ (t : Bool). t && starts_with (λ a b. a == b) line (drop 1 at_mark))
    (alone (35 == c) other))
  where
    alone : (t : Bool) → (t && true) ≡ false → t ≡ false
    alone true both = absurd cc
    alone false both = refl

-- that of a seal
pub seal_tells_none : (line : List ℕ) → is_of_seal line ≡ true → stamp_in line ≡ None
seal_tells_none [] is = refl
seal_tells_none (a ∷ []) is = absurd (none (and_right (35 == a) false is))
  where
    none : false ≡ true → ⊥
    none is = cc is
seal_tells_none (a ∷ b ∷ []) is =
    absurd (none (and_right (32 == b) false (and_right (35 == a) ((32 == b) && false) is)))
  where
    none : false ≡ true → ⊥
    none is = cc is
seal_tells_none (a ∷ b ∷ c ∷ line) is =
    let rest : Bool = starts_with (λ x y. x == y) line (drop 3 at_mark) in
    let third : (115 == c) ≡ true =
    and_left (115 == c) _ (and_right (32 == b) _ (and_right (35 == a) _ is)) in
    let other : (97 == c) ≡ false =
    subst (λ (x : ℕ). (97 == x) ≡ false) (eqb-true 115 c third) refl in
    unmarked (a ∷ b ∷ c ∷ line)
    (ap (λ (t : Bool). (35 == a) && ((32 == b) && (t && rest))) other
    ∙ ap (λ (t : Bool). (35 == a) && t) (and_false (32 == b)) ∙ and_false (35 == a))

pub none_after : (line : List ℕ) (last : Option (List ℕ)) → stamp_in line ≡ None
    → time_after line last ≡ last
none_after line last none = ap (λ (o : Option (List ℕ)). later_of last o) none

-- ---- what is read

line_time : (line : List ℕ) (r s : HistoryRead) → read_line line r ≡ Some s
    → s.time ≡ time_after line r.time
line_time line r s = by_mark (is_of_seal line) refl
  where
    by_seal : (t : Bool) → is_of_seal line ≡ true → sealed_by t r ≡ Some s
        → s.time ≡ time_after line r.time
    by_seal true of_seal is =
        ap (λ (x : HistoryRead). x.time) (sym (same_Some (with_seal r) s is))
        ∙ sym (none_after line r.time (seal_tells_none line of_seal))
    by_seal false of_seal is = absurd (none-some s is)

    by_request : (o : Option (Actor × Event)) → is_comment line ≡ false
        → add_request o line r ≡ Some s → s.time ≡ time_after line r.time
    by_request None comment is = absurd (none-some s is)
    by_request (Some e) comment is =
        ap (λ (x : HistoryRead). x.time) (sym (same_Some _ s is))
        ∙ sym (none_after line r.time (request_tells_none line comment))

    by_comment : (t : Bool) → is_comment line ≡ t
        → (if t then Some (with_comment line r) else add_request (request_in line) line r) ≡ Some s
        → s.time ≡ time_after line r.time
    by_comment true comment is =
        ap (λ (x : HistoryRead). x.time) (sym (same_Some (with_comment line r) s is))
    by_comment false comment is = by_request (request_in line) comment is

    by_mark : (t : Bool) → is_of_seal line ≡ t
        → (if t then sealed_by (is_right_seal line r) r else read_text line r) ≡ Some s
        → s.time ≡ time_after line r.time
    by_mark true of_seal is = by_seal (is_right_seal line r) of_seal is
    by_mark false of_seal is = by_comment (is_comment line) refl is

pub times_are_read : TimesAreRead
times_are_read [] r s is = ap (λ (x : HistoryRead). x.time) (sym (same_Some r s is))
times_are_read (line ∷ lines) r s is =
    by_line (read_line line r) refl is (λ mid. times_are_read lines mid s)
  where
    by_line : (o : Option HistoryRead) → read_line line r ≡ o
        → and_then o (read_lines lines) ≡ Some s
        → ((mid : HistoryRead) → read_lines lines mid ≡ Some s
        → s.time ≡ time_of_lines lines mid.time)
        → s.time ≡ time_of_lines lines (time_after line r.time)
    by_line None read is rest = absurd (none-some s is)
    by_line (Some mid) read is rest =
        rest mid is ∙ ap (time_of_lines lines) (line_time line r mid read)

-- ---- times that rise

pub times_both : (a b : List (List ℕ)) → times_in (a ++ b) ≡ times_in a ++ times_in b
times_both a b = filter_map-append stamp_in a b

pub rise_then : (last mid behind : Option (List ℕ)) (a b : List (List ℕ)) → Rise last a mid
    → Rise mid b behind → Rise last (a ++ b) behind
rise_then last mid behind [] b one two =
    subst (λ (t : Option (List ℕ)). Rise t b behind) one two
rise_then last mid behind (time ∷ a) b one two =
    (one.0, rise_then (Some time) mid behind a b one.1 two)
