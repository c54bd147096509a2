-- Lines of octets in two parts.
use Rattle.std.proofs.Common.{◌≡◌, ℕ, Bool, true, false, not, List, [], ◌∷◌, ◌++◌}
use Rattle.std.proofs.Common.{refl, sym, ap, ◌∙◌, append_assoc, append-nil, eqb}
use Rattle.std.specs.Prelude.{if◌then◌else◌, ◌&&◌}
use Rattle.std.specs.List.{list_all}
use Rattle.hex_lines.specs.Lines.{IsLine}
use Rattle.chapters.specs.Lines.{lines_from, unfinished_from}

-- the lines of two parts are those of the first, and then those that the second ends
pub lines_both : (line a b : List ℕ)
    → lines_from line (a ++ b) ≡ lines_from line a ++ lines_from (unfinished_from line a) b
lines_both line [] b = refl
lines_both line (x ∷ a) b =
    by_test (eqb x 10) (lines_both [] a b) (lines_both (line ++ x ∷ []) a b)
  where
    by_test : (t : Bool)
        → lines_from [] (a ++ b) ≡ lines_from [] a ++ lines_from (unfinished_from [] a) b
        → lines_from (line ++ x ∷ []) (a ++ b) ≡ lines_from (line ++ x ∷ []) a
        ++ lines_from (unfinished_from (line ++ x ∷ []) a) b
        → (if t then line ∷ lines_from [] (a ++ b) else lines_from (line ++ x ∷ []) (a ++ b))
        ≡ (if t then line ∷ lines_from [] a else lines_from (line ++ x ∷ []) a)
        ++ lines_from (if t then unfinished_from [] a else unfinished_from (line ++ x ∷ []) a) b
    by_test true ended on = ap (λ (ls : List (List ℕ)). line ∷ ls) ended
    by_test false ended on = on

pub unfinished_both : (line a b : List ℕ)
    → unfinished_from line (a ++ b) ≡ unfinished_from (unfinished_from line a) b
unfinished_both line [] b = refl
unfinished_both line (x ∷ a) b =
    by_test (eqb x 10) (unfinished_both [] a b) (unfinished_both (line ++ x ∷ []) a b)
  where
    by_test : (t : Bool)
        → unfinished_from [] (a ++ b) ≡ unfinished_from (unfinished_from [] a) b
        → unfinished_from (line ++ x ∷ []) (a ++ b)
        ≡ unfinished_from (unfinished_from (line ++ x ∷ []) a) b
        → (if t then unfinished_from [] (a ++ b) else unfinished_from (line ++ x ∷ []) (a ++ b))
        ≡ unfinished_from (if t then unfinished_from [] a else unfinished_from (line ++ x ∷ []) a) b
    by_test true ended on = ended
    by_test false ended on = on

and_both : (a b : Bool) → (a && b) ≡ true → (a ≡ true) × (b ≡ true)
and_both true b e = (refl, e)
and_both false b e = absurd cc

not_true : (a : Bool) → not a ≡ true → a ≡ false
not_true true e = absurd cc
not_true false e = refl

-- octets without a line feed end no line
pub none_ends : (line xs : List ℕ) → IsLine xs → lines_from line xs ≡ []
none_ends line [] plain = refl
none_ends line (x ∷ xs) plain =
    let both = and_both (not (eqb x 10)) (list_all (λ b. not (eqb b 10)) xs) plain in
    rw (not_true (eqb x 10) both.0) (none_ends (line ++ x ∷ []) xs both.1)

-- .. and go on with the one that is begun
pub all_unfinished : (line xs : List ℕ) → IsLine xs → unfinished_from line xs ≡ line ++ xs
all_unfinished line [] plain = sym (append-nil line)
all_unfinished line (x ∷ xs) plain =
    let both = and_both (not (eqb x 10)) (list_all (λ b. not (eqb b 10)) xs) plain in
    rw (not_true (eqb x 10) both.0)
    (all_unfinished (line ++ x ∷ []) xs both.1 ∙ append_assoc line (x ∷ []) xs)

-- with a line feed behind them they are one line
pub one_line : (xs : List ℕ) → IsLine xs → lines_from [] (xs ++ 10 ∷ []) ≡ xs ∷ []
one_line xs plain =
    lines_both [] xs (10 ∷ [])
    ∙ ap (λ (ls : List (List ℕ)). ls ++ lines_from (unfinished_from [] xs) (10 ∷ []))
    (none_ends [] xs plain)
    ∙ ap (λ (line : List ℕ). line ∷ []) (all_unfinished [] xs plain)

pub line_ends : (line xs : List ℕ) → unfinished_from line (xs ++ 10 ∷ []) ≡ []
line_ends line xs = unfinished_both line xs (10 ∷ [])
