-- Walks over a folder's rows.
use Rattle.std.proofs.Common.{◌≡◌, ◌∙◌, ◌+◌, ◌-◌, ◌<◌, ◌≤◌, ℕ, List, [], ◌∷◌, ◌++◌, Option, Some}
use Rattle.std.proofs.Common.{None, Bool, true, false, not, ap, arith, drop, length, refl, subst}
use Rattle.std.proofs.Common.{sym}
use Rattle.std.proofs.Common.{take}
use Rattle.std.specs.Prelude.{IfSome, is_some}
use Rattle.std.specs.List.{cons_option}
use Rattle.std.proofs.lemmas.List.{drop-drop, length-append, length-drop, take_rest}
use Rattle.site_base.specs.declared.row.Row.{Row}
use Rattle.chapters.specs.declared.history_end.TheConstants.{MOST_CHAPTERS}
use Rattle.chapters.specs.Readers.{HasRead, IsReading, ReaderState}
use Rattle.chapters.specs.RowText.{IsSent}
use Rattle.history_folder.specs.declared.place.WalkPlace.{WalkPlace}
use Rattle.history_folder.specs.declared.place.WalkPlace.TheVariants.{Between, Within}
use Rattle.history_folder.specs.Reading.{HasReadBegun, HasReadSome, IsWalking, IsWithin, WalkState}

-- since it was so the walk's book has this row more, if there is one; else each chapter that it has
-- begun has been read
pub record WalksOn (old now : WalkState) (row : Option Row) : Type 0 where
  pub rows : now.reader.book.rows ≡ old.reader.book.rows ++ cons_option row []
  pub sent : IfSome row IsSent
  pub read : row ≡ None → HasReadBegun now.reader
  pub place : row ≡ None → now.place ≡ Between
  pub config : now.reader.book.config ≡ old.reader.book.config
  pub count : now.count ≡ old.count

-- a chapter is begun
pub enters : (s new : ReaderState) (count octets : ℕ) (text : List ℕ) → count ≤ MOST_CHAPTERS
    → s.end.chapters < count → HasReadBegun s → octets ≤ length text
    → ((texts : List (List ℕ)) → HasRead texts s
    → IsReading texts text (drop octets text) new)
    → new.end.chapters ≡ s.end.chapters + 1
    → IsWalking new count text octets Within
enters s new count octets text most more begun ahead reads chapters = record {
  most = most;
  few = omega (arith, more, chapters);
  ahead = ahead;
  inside = λ is. record {
    texts = begun.texts;
    count = omega (arith, chapters, begun.count_is);
    reads = reads begun.texts begun.has;
  };
  between = λ is. absurd (cc is);
}

slice_is : (given text : List ℕ) (octets : ℕ) → given ≡ text
    → take (length given - octets) (drop octets given) ≡ drop octets text
slice_is given text octets same = take_rest given octets ∙ ap (drop octets) same

-- a row of it is read
pub row_within : (s new : ReaderState) (count octets n : ℕ) (text given : List ℕ)
    (place : WalkPlace) → IsWalking s count text octets place → place ≡ Within → given ≡ text
    → n ≤ length (take (length given - octets) (drop octets given))
    → ((texts : List (List ℕ)) (whole : List ℕ)
    → IsReading texts whole (take (length given - octets) (drop octets given)) s
    → IsReading texts whole (drop n (take (length given - octets) (drop octets given))) new)
    → new.end.chapters ≡ s.end.chapters
    → IsWalking new count text (octets + n) place
row_within s new count octets n text given place walks is same within reads chapters =
    let inside = walks.inside is in
    let slice = slice_is given text octets same in
    let size = ap length slice ∙ length-drop octets text in
    let goes : IsReading inside.texts text
    (drop n (take (length given - octets) (drop octets given))) new = reads inside.texts text
    (subst (λ (xs : List ℕ). IsReading inside.texts text xs s) (sym slice) inside.reads) in
    record {
      most = walks.most;
      few = omega (arith, walks.few, chapters);
      ahead = omega (arith, within, size, walks.ahead);
      inside = λ in_it. record {
        texts = inside.texts;
        count = chapters ∙ inside.count;
        reads = subst (λ (xs : List ℕ). IsReading inside.texts text xs new)
            (ap (drop n) slice ∙ drop-drop n octets text) goes;
      };
      between = λ other. absurd (cc (sym is ∙ other));
    }

-- .. or its last lines
pub leaves_chapter : (s new : ReaderState) (count octets : ℕ) (text given : List ℕ)
    (place : WalkPlace) → IsWalking s count text octets place → place ≡ Within → given ≡ text
    → ((texts : List (List ℕ)) (whole : List ℕ)
    → IsReading texts whole (take (length given - octets) (drop octets given)) s
    → HasRead (texts ++ whole ∷ []) new)
    → new.end.chapters ≡ s.end.chapters
    → HasReadBegun new
leaves_chapter s new count octets text given place walks is same ends chapters =
    let inside = walks.inside is in
    record {
      texts = inside.texts ++ text ∷ [];
      count_is =
          length-append inside.texts (text ∷ []) ∙ sym inside.count ∙ sym chapters;
      has = ends inside.texts text
          (subst (λ (xs : List ℕ). IsReading inside.texts text xs s)
          (sym (slice_is given text octets same)) inside.reads);
    }

pub row_between : (s new : ReaderState) (count octets n : ℕ) (text given : List ℕ)
    (place : WalkPlace) → IsWalking s count text octets place → given ≡ text
    → n ≤ length (take (length given - octets) (drop octets given))
    → new.end.chapters ≡ s.end.chapters → HasReadBegun new
    → IsWalking new count text (octets + n) Between
row_between s new count octets n text given place walks same within chapters begun =
    let size = ap length (slice_is given text octets same) ∙ length-drop octets text in
    record {
      most = walks.most;
      few = omega (arith, walks.few, chapters);
      ahead = omega (arith, within, size, walks.ahead);
      inside = λ is. absurd (cc is);
      between = λ is. begun;
    }

pub none_left : (row : Option Row) (t : Bool) → is_some row ≡ not t → t ≡ true → row ≡ None
none_left None t is true_is = refl
none_left (Some row) t is true_is = absurd (cc (is ∙ ap not true_is))
