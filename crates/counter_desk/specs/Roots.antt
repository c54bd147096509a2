-- A root as contracts see it.
use Rattle.std.specs.Prelude.{◌≡◌, ℕ, ◌+◌, ◌^◌, ◌≤◌, List, length, map}
use Rattle.written_site.specs.RowWords.{total}
use Rattle.counter_desk.specs.declared.receipt.Receipt.{Receipt}
use Rattle.counter_desk.specs.Receipts.{ReceiptList}

-- how many shares are out, and the receipts of those that came back, in the order of their return
pub record RootFacts : Type 0 where
  pub out : ℕ
  pub lists : List (List Receipt)

abbrev pub lists_of : List ReceiptList → List (List Receipt)
lists_of returned = map (λ l. l.receipts) returned

-- how many calls these shares tell
abbrev pub calls_in : List (List Receipt) → ℕ
calls_in lists = total length lists

-- What a root always keeps. Of the ledger of calls, cut into 2^63 parts, each share that is out has
-- one, and the root the rest, to the amount of the receipts that came back. The place of each
-- return is reserved.
pub record IsRoot (all parts amount out : ℕ) (lists : List (List Receipt))
    (count capacity : ℕ) : Type 0 where
  pub whole : all ≡ 2 ^ 63
  pub rest : parts + out ≡ all
  pub counted : amount ≡ calls_in lists
  pub reserved : count + out ≤ capacity
