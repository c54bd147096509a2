-- What the receipts of several shares add up to, one share after another.
use Rattle.std.proofs.Common.{◌≡◌, ℕ, zero, suc, ◌+◌, ◌<◌, ◌≤◌, List, [], ◌∷◌, ◌++◌, length, take}
use Rattle.std.proofs.Common.{drop, get_or, sym, ap, ◌∙◌, arith}
use Rattle.std.proofs.lemmas.List.{map-append, take_more}
use Rattle.written_site.specs.RowWords.{total}
use Rattle.counter_desk.specs.declared.receipt.Receipt.{Receipt}
use Rattle.counter_desk.specs.Receipts.{ReceiptList}
use Rattle.counter_desk.specs.Roots.{lists_of}
use Rattle.counter_desk.proofs.Lists.{total_last}

-- the lists of one share more
pub lists_more : (returned : List ReceiptList) (i : ℕ) (r : ReceiptList) → i < length returned
    → r ≡ get_or returned i r
    → lists_of (take (i + 1) returned) ≡ lists_of (take i returned) ++ r.receipts ∷ []
lists_more returned i r within is =
    ap lists_of (take_more returned i r within ∙ ap (λ x. take i returned ++ x ∷ []) (sym is))
    ∙ map-append (λ (l : ReceiptList). l.receipts) (take i returned) (r ∷ [])

pub total_more : (figure : List Receipt → ℕ) (returned : List ReceiptList) (i : ℕ) (r : ReceiptList)
    → i < length returned → r ≡ get_or returned i r
    → total figure (lists_of (take (i + 1) returned))
    ≡ total figure (lists_of (take i returned)) + figure r.receipts
total_more figure returned i r within is =
    ap (total figure) (lists_more returned i r within is)
    ∙ total_last figure (lists_of (take i returned)) r.receipts

-- some shares tell no more than all
pub total_few : (figure : List Receipt → ℕ) (returned : List ReceiptList) (i : ℕ)
    → total figure (lists_of (take i returned)) ≤ total figure (lists_of returned)
total_few figure returned zero = omega arith
total_few figure [] (suc i) = omega arith
total_few figure (r ∷ returned) (suc i) =
    let rest = total_few figure returned i in omega (arith, rest)

-- the lists before one share, its own, and those behind it
pub lists_split : (returned : List ReceiptList) (i : ℕ) (r : ReceiptList) → i < length returned
    → r ≡ get_or returned i r
    → lists_of returned ≡ lists_of (take i returned) ++ r.receipts
    ∷ lists_of (drop (suc i) returned)
lists_split [] i r within is = absurd (omega (arith, within))
lists_split (x ∷ returned) zero r within is =
    ap (λ (l : ReceiptList). l.receipts ∷ lists_of returned) (sym is)
lists_split (x ∷ returned) (suc i) r within is =
    ap (λ ls. x.receipts ∷ ls) (lists_split returned i r (omega (arith, within)) is)
