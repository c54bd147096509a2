-- What parts come to.
use Rattle.std.proofs.Common.{◌≡◌, ℕ, zero, suc, ◌+◌, ◌≤◌, List, [], ◌∷◌, ◌++◌, take, drop, length}
use Rattle.std.proofs.Common.{refl, sym, ap, ◌∙◌, arith, append_assoc}
use Rattle.std.proofs.Math.Seq.{take-add}
use Rattle.std.proofs.lemmas.Grind.{flat_map-append}
use Rattle.std.proofs.lemmas.List.{drop-append-le, drop-drop, length-drop, take-append-le}
use Rattle.row_feed.specs.FeedFaults.{alive_line}
use Rattle.row_feed.specs.Feeds.{joined}
use Rattle.row_feed.specs.FeedLaws.{Part, Line, Alive, GoesOnOverACut}
use Rattle.row_feed.specs.FeedLaws.{line_at, next_behind, text_from}

-- ---- parts one after another

pub text-append : (stored : List (List ℕ)) (n : ℕ) (ps qs : List Part)
    → text_from stored n (ps ++ qs)
    ≡ text_from stored n ps ++ text_from stored (next_behind n ps) qs
text-append stored n [] qs = refl
text-append stored n (Line ∷ ps) qs =
    ap (λ t. line_at stored n ++ t) (text-append stored (n + 1) ps qs)
    ∙ sym (append_assoc (line_at stored n) (text_from stored (n + 1) ps)
    (text_from stored (next_behind (n + 1) ps) qs))
text-append stored n (Alive ∷ ps) qs =
    ap (λ t. alive_line n ++ t) (text-append stored n ps qs)
    ∙ sym (append_assoc (alive_line n) (text_from stored n ps)
    (text_from stored (next_behind n ps) qs))

pub goes_on : GoesOnOverACut
goes_on stored n ps qs = sym (text-append stored n ps qs)

pub next-append : (n : ℕ) (ps qs : List Part)
    → next_behind n (ps ++ qs) ≡ next_behind (next_behind n ps) qs
next-append n [] qs = refl
next-append n (Line ∷ ps) qs = next-append (n + 1) ps qs
next-append n (Alive ∷ ps) qs = next-append n ps qs

-- ---- lines alone

-- so many lines
pub lines : ℕ → List Part
lines zero = []
lines (suc count) = Line ∷ lines count

pub lines-next : (n count : ℕ) → next_behind n (lines count) ≡ n + count
unfolding lines
lines-next n zero = omega arith
lines-next n (suc count) =
    let rest : next_behind (n + 1) (lines count) ≡ (n + 1) + count = lines-next (n + 1) count in
    rest ∙ omega arith

pub lines-text : (stored : List (List ℕ)) (n count : ℕ)
    → text_from stored n (lines count) ≡ joined (take count (drop n stored))
unfolding lines
lines-text stored n zero = refl
lines-text stored n (suc count) =
    let one : take (1 + count) (drop n stored) ≡ take 1 (drop n stored)
    ++ take count (drop 1 (drop n stored)) = take-add 1 count (drop n stored) in
    let number : suc count ≡ 1 + count = omega arith in
    ap (λ t. line_at stored n ++ t) (lines-text stored (n + 1) count)
    ∙ ap (λ xs. line_at stored n ++ joined (take count xs)) (sym (drop-drop 1 n stored))
    ∙ sym (flat_map-append (λ line. line) (take 1 (drop n stored))
    (take count (drop 1 (drop n stored))))
    ∙ ap joined (sym one)
    ∙ ap (λ k. joined (take k (drop n stored))) (sym number)

-- ---- one row more

pub next-rises : (n : ℕ) (ps : List Part) → n ≤ next_behind n ps
next-rises n [] = omega arith
next-rises n (Line ∷ ps) =
    let rest : n + 1 ≤ next_behind (n + 1) ps = next-rises (n + 1) ps in omega (arith, rest)
next-rises n (Alive ∷ ps) = next-rises n ps

line-stays : (stored : List (List ℕ)) (r : List ℕ) (n : ℕ) → n + 1 ≤ length stored
    → line_at (stored ++ r ∷ []) n ≡ line_at stored n
line-stays stored r n there =
    let left : 1 ≤ length (drop n stored) = omega (arith, there, length-drop n stored) in
    ap (λ xs. joined (take 1 xs)) (drop-append-le n stored (r ∷ []) (omega (arith, there)))
    ∙ ap joined (take-append-le 1 (drop n stored) (r ∷ []) left)

pub text-stays : (stored : List (List ℕ)) (r : List ℕ) (n : ℕ) (ps : List Part)
    → next_behind n ps ≤ length stored
    → text_from (stored ++ r ∷ []) n ps ≡ text_from stored n ps
text-stays stored r n [] there = refl
text-stays stored r n (Line ∷ ps) there =
    let rises : n + 1 ≤ next_behind (n + 1) ps = next-rises (n + 1) ps in
    ap (λ t. t ++ text_from (stored ++ r ∷ []) (n + 1) ps)
    (line-stays stored r n (omega (arith, there, rises)))
    ∙ ap (λ t. line_at stored n ++ t) (text-stays stored r (n + 1) ps there)
text-stays stored r n (Alive ∷ ps) there =
    ap (λ t. alive_line n ++ t) (text-stays stored r n ps there)
