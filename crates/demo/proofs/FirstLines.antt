-- The first line of a text.
use Rattle.std.proofs.Common.{◌≡◌, ◌≢◌, ℕ, zero, suc, ◌<◌, ◌==◌, true, false, List, [], ◌∷◌, length}
use Rattle.std.proofs.Common.{take, drop, get_or, refl, ap, arith}
use Rattle.std.proofs.lemmas.Bool.{eq-eqb, ne_eqb}
use Rattle.demo.specs.Lines.{begin_line, lines_of}

pub line_first : (text : List ℕ) (end : ℕ) → end < length text → get_or text end 0 ≡ 10
    → ((k : ℕ) → k < end → get_or text k 0 ≢ 10)
    → lines_of text ≡ take end text ∷ lines_of (drop (suc end) text)
line_first [] end within is before = absurd (omega arith)
line_first (b ∷ bs) zero within is before =
    let e : (b == 10) ≡ true = eq-eqb b 10 is in
    rw e refl
line_first (b ∷ bs) (suc end) within is before =
    let e : (b == 10) ≡ false = ne_eqb b 10 (before 0 (omega arith)) in
    let rest : lines_of bs ≡ take end bs ∷ lines_of (drop (suc end) bs) =
    line_first bs end (omega arith) is (λ k low. before (suc k) (omega arith)) in
    rw (e, rest) refl

pub line_last : (text : List ℕ) → 0 < length text
    → ((k : ℕ) → k < length text → get_or text k 0 ≢ 10)
    → lines_of text ≡ text ∷ []
line_last [] some none = absurd (omega arith)
line_last (b ∷ []) some none =
    let e : (b == 10) ≡ false = ne_eqb b 10 (none 0 (omega arith)) in
    rw e refl
line_last (b ∷ c ∷ bs) some none =
    let e : (b == 10) ≡ false = ne_eqb b 10 (none 0 (omega arith)) in
    let rest : lines_of (c ∷ bs) ≡ (c ∷ bs) ∷ [] =
    line_last (c ∷ bs) (omega arith) (λ k low. none (suc k) (omega arith)) in
    rw e (ap (begin_line b) rest)
