-- Rows that are kept are the rows that were added.
use Rattle.std.proofs.Common.{◌≡◌, ℕ, ◌<◌, Bool, true, List, [], ◌∷◌, ◌++◌, length}
use Rattle.std.proofs.Common.{Result, Ok}
use Rattle.std.proofs.Common.{refl, ap, ◌∙◌, arith, length-append}
use Rattle.std.specs.List.{list_all}
use Rattle.std.proofs.lemmas.Bool.{and_from, and_parts}
use Rattle.std.proofs.lemmas.List.Folds.{list_all-append}
use Rattle.std.proofs.lemmas.Bool.Decides.{nat_tests}
use Rattle.std.proofs.lemmas.List.{get_or_append_left, map-append}
use Rattle.std.proofs.Math.Seq.{get_or-append_seam}
use Rattle.site_base.specs.declared.actor.Actor.{Actor}
use Rattle.site_base.specs.declared.answer.Answer.{Answer}
use Rattle.site_base.specs.declared.answer.Answer.TheVariants as answers
use Rattle.site_base.specs.declared.event.Event.{Event}
use Rattle.site_book.specs.declared.kept_row.Figures.{Figures}
use Rattle.site_book.specs.declared.kept_row.KeptReply.{KeptReply}
use Rattle.site_book.specs.declared.kept_row.KeptReply.TheVariants.{ProductIs}
use Rattle.site_base.specs.declared.refusal.Refusal.{Refusal}
use Rattle.site_base.specs.declared.row.Row.{Row}
use Rattle.site_book.specs.KeptRows.{RowFacts, figures_in_reply, figures_of, kept_reply, kept_row}
use Rattle.site_book.specs.KeptRows.{reply_of_kept, row_of_kept, rows_of_kept, no_figures}
use Rattle.site_book.specs.KeptRows.{is_within, product_shown}

-- a reply that is kept behind the figures so far is told again
told_again : (fs : List Figures) (reply : Result Answer Refusal)
    → reply_of_kept (fs ++ figures_in_reply reply) (kept_reply (length fs) reply) ≡ reply
told_again fs (Ok (answers.ProductIs v)) =
    ap (λ (f : Figures). Ok (answers.ProductIs (product_shown v.price f)))
    (get_or-append_seam fs (figures_of v) [] no_figures)
told_again fs reply = refl

-- .. and its figures are there
told_within : (fs : List Figures) (reply : Result Answer Refusal)
    → is_within (length (fs ++ figures_in_reply reply)) (kept_reply (length fs) reply) ≡ true
told_within fs (Ok (answers.ProductIs v)) = grind (arith, nat_tests, length-append {A = Figures})
told_within fs reply = refl

-- further figures change no reply whose own are there
same_reply : (fs more : List Figures) (reply : KeptReply) → is_within (length fs) reply ≡ true
    → reply_of_kept (fs ++ more) reply ≡ reply_of_kept fs reply
same_reply fs more (ProductIs price at) within =
    let there : at < length fs = grind (arith, nat_tests) in
    ap (λ (f : Figures). Ok (answers.ProductIs (product_shown price f)))
    (get_or_append_left fs more no_figures at there)
same_reply fs more reply within = refl

still_within : (fs more : List Figures) (reply : KeptReply) → is_within (length fs) reply ≡ true
    → is_within (length (fs ++ more)) reply ≡ true
still_within fs more (ProductIs price at) within =
    grind (arith, nat_tests, length-append {A = Figures})
still_within fs more reply within = refl

-- the figures of every row are among the first n
abbrev pub all_within : ℕ → List RowFacts → Bool
all_within n ks = list_all (λ k. is_within n k.reply) ks

abbrev row_with : Actor → Event → Result Answer Refusal → Row
row_with actor event reply = record { actor = actor; event = event; reply = reply }

same_rows : (fs more : List Figures) (ks : List RowFacts) → all_within (length fs) ks ≡ true
    → rows_of_kept (fs ++ more) ks ≡ rows_of_kept fs ks
same_rows fs more [] within = refl
same_rows fs more (k ∷ ks) within =
    let parts = and_parts (is_within (length fs) k.reply) (all_within (length fs) ks) within in
    let first : row_of_kept (fs ++ more) k ≡ row_of_kept fs k =
    ap (row_with k.actor k.event) (same_reply fs more k.reply parts.0) in
    let others : rows_of_kept (fs ++ more) ks ≡ rows_of_kept fs ks = same_rows fs more ks parts.1 in
    cc

still_all : (fs more : List Figures) (ks : List RowFacts) → all_within (length fs) ks ≡ true
    → all_within (length (fs ++ more)) ks ≡ true
still_all fs more [] within = refl
still_all fs more (k ∷ ks) within =
    let parts = and_parts (is_within (length fs) k.reply) (all_within (length fs) ks) within in
    and_from (is_within (length (fs ++ more)) k.reply) (all_within (length (fs ++ more)) ks)
    (still_within fs more k.reply parts.0)
    (still_all fs more ks parts.1)

-- ---- one row more

row_again : (fs : List Figures) (r : Row)
    → row_of_kept (fs ++ figures_in_reply r.reply) (kept_row (length fs) r) ≡ r
row_again fs r =
    ap (row_with r.actor r.event) (told_again fs r.reply)

rows_push : (fs : List Figures) (ks : List RowFacts) (r : Row) → all_within (length fs) ks ≡ true
    → rows_of_kept (fs ++ figures_in_reply r.reply) (ks ++ kept_row (length fs) r ∷ [])
    ≡ rows_of_kept fs ks ++ r ∷ []
rows_push fs ks r within =
    let all : List Figures = fs ++ figures_in_reply r.reply in
    map-append (λ (k : RowFacts). row_of_kept all k) ks (kept_row (length fs) r ∷ [])
    ∙ ap (λ (rs : List Row). rs ++ row_of_kept all (kept_row (length fs) r) ∷ [])
    (same_rows fs (figures_in_reply r.reply) ks within)
    ∙ ap (λ (x : Row). rows_of_kept fs ks ++ x ∷ []) (row_again fs r)

pub pushed : (fs fs' : List Figures) (ks ks' : List RowFacts) (k : RowFacts) (at : ℕ) (r : Row)
    → all_within (length fs) ks ≡ true → fs' ≡ fs ++ figures_in_reply r.reply → ks' ≡ ks ++ k ∷ []
    → k ≡ kept_row at r → at ≡ length fs → rows_of_kept fs' ks' ≡ rows_of_kept fs ks ++ r ∷ []
pushed fs fs' ks ks' k at r within figures rows kept place =
    rw (figures, rows, kept, place) (rows_push fs ks r within)

within_push : (fs : List Figures) (ks : List RowFacts) (r : Row) → all_within (length fs) ks ≡ true
    → all_within (length (fs ++ figures_in_reply r.reply)) (ks ++ kept_row (length fs) r ∷ [])
    ≡ true
within_push fs ks r within =
    let n : ℕ = length (fs ++ figures_in_reply r.reply) in
    list_all-append (λ (k : RowFacts). is_within n k.reply) ks (kept_row (length fs) r ∷ [])
    ∙ and_from (all_within n ks) (all_within n (kept_row (length fs) r ∷ []))
    (still_all fs (figures_in_reply r.reply) ks within)
    (and_from (is_within n (kept_reply (length fs) r.reply)) true
    (told_within fs r.reply) refl)

pub pushed_within : (fs fs' : List Figures) (ks ks' : List RowFacts) (k : RowFacts) (at : ℕ)
    (r : Row)
    → all_within (length fs) ks ≡ true → fs' ≡ fs ++ figures_in_reply r.reply → ks' ≡ ks ++ k ∷ []
    → k ≡ kept_row at r → at ≡ length fs → all_within (length fs') ks' ≡ true
pushed_within fs fs' ks ks' k at r within figures rows kept place =
    rw (figures, rows, kept, place) (within_push fs ks r within)
