-- Settlement: a history is dealt among lists of receipts, and what makes a receipt strange.
use Rattle.std.specs.Prelude.{◌≡◌, ℕ, ◌+◌, ◌<◌, ◌≤◌, ◌==◌, if◌then◌else◌, List, [], ◌∷◌, ◌++◌}
use Rattle.std.specs.Prelude.{length, ◌⊎◌}
use Rattle.std.specs.List.{AllByRecursion}
use Rattle.site_base.specs.declared.row.Row.{Row}
use Rattle.site_base.specs.Configured.{Configured}
use Rattle.site_base.specs.Events.{cents_in_reply, growth_in_reply}
use Rattle.written_site.specs.RowWords.{total}
use Rattle.written_site.specs.SiteRun.{IsLegal}
use Rattle.written_site.specs.SiteState.{opening}
use Rattle.written_site.specs.Volumes.{all_metered}
use Rattle.site_book.specs.Book.{site_at}
use Rattle.site_book.specs.Figures.{AreFiguresOf, cents_in, metered_in}
use Rattle.counter_desk.specs.declared.receipt.Receipt.{Receipt}
use Rattle.counter_desk.specs.declared.settlement.Settled.{Settled}
use Rattle.counter_desk.specs.declared.settlement.SettleFault.{SettleFault}
use Rattle.counter_desk.specs.declared.settlement.SettleFault.TheVariants.{StrangeReceipt, NoMemory}
use Rattle.site_book.specs.Book.{whole_book}
use Rattle.counter_desk.specs.KeptHistories.{IsSoundHistory}
use Rattle.counter_desk.specs.Receipts.{cents_receipted, growth_receipted, StandsAt}
use Rattle.counter_desk.specs.Roots.{calls_in}

-- these receipts, each weighed by its place
abbrev pub weigh : (ℕ → ℕ) → List Receipt → ℕ
weigh h receipts = total (λ r. h r.place) receipts

-- the receipts of all lists, each weighed by its place
abbrev pub weigh_all : (ℕ → ℕ) → List (List Receipt) → ℕ
weigh_all h lists = total (weigh h) lists

-- 1 at place k, and 0 at any other
abbrev pub one_at : ℕ → ℕ → ℕ
one_at k place = if place == k then 1 else 0

-- how often place k is receipted
abbrev pub times : ℕ → List (List Receipt) → ℕ
times k lists = weigh_all (one_at k) lists

-- the places rise, from low on
abbrev pub Rises : ℕ → List Receipt → Type 0
Rises low [] = Unit {0}
Rises low (r ∷ rs) = (low ≤ r.place) × Rises (r.place + 1) rs

-- the least place that a receipt behind these may have
abbrev pub next_from : ℕ → List Receipt → ℕ
next_from low [] = low
next_from low (r ∷ rs) = next_from (r.place + 1) rs

-- each of these receipts is the row at its place, and their places rise
pub record IsInOrder (history : List Row) (receipts : List Receipt) : Type 0 where
  pub stand : AllByRecursion (StandsAt history) receipts
  pub rise : Rises 0 receipts

-- The history is dealt among the lists: each place is receipted once, each receipt is the row at
-- its place, and in each list the places rise.
pub record IsDealt (history : List Row) (lists : List (List Receipt)) : Type 0 where
  pub once : (k : ℕ) → k < length history → times k lists ≡ 1
  pub in_order : AllByRecursion (IsInOrder history) lists

-- A receipt of this place among these is strange, where earlier lists receipted the place so often:
-- it isn't the row at its place, its place isn't above the one before it, or the place was
-- receipted before.
pub record IsStrangeAmong (history : List Row) (earlier : ℕ) (receipts : List Receipt)
    (place : ℕ) : Type 0 where
  pub done : List Receipt
  pub rest : List Receipt
  pub strange : Receipt
  pub parts : receipts ≡ done ++ strange ∷ rest
  pub at : strange.place ≡ place
  pub why : (StandsAt history strange → ⊥)
      ⊎ ((place < next_from 0 done) ⊎ (1 ≤ earlier + weigh (one_at place) done))

-- a receipt of this place is strange in one of these lists
pub record IsStrange (history : List Row) (lists : List (List Receipt)) (place : ℕ) : Type 0 where
  pub before : List (List Receipt)
  pub after : List (List Receipt)
  pub receipts : List Receipt
  pub parts : lists ≡ before ++ receipts ∷ after
  pub there : IsStrangeAmong history (times place before) receipts place

-- no receipt of these lists is strange
abbrev pub IsNoneStrange : List Row → List (List Receipt) → Type 0
IsNoneStrange history lists = (place : ℕ) → IsStrange history lists place → ⊥

-- The shares add up to the history: it is sound (a run of the written one-thread site with just
-- these replies, in which no fuelling point has two tills at once, no transaction two lockers at
-- once or two clears, and each product's metered volume is somewhere) and dealt among them; there
-- are as many rows as calls; the cents are those of the rows' Cleared answers, of the shares, and
-- of all tills in the book's figures; the millilitres are those that the rows tell, those of the
-- shares, what all meters have counted, and what was metered of all products in the book's figures;
-- and these are the history's figures, with one member for each configured product.
pub record AddsUp (config : Configured) (history : List Row) (lists : List (List Receipt))
    (settled : Settled) : Type 0 where
  pub sound : IsSoundHistory config history
  pub dealt : IsDealt history lists
  pub rows : settled.rows ≡ length history
  pub calls : settled.rows ≡ calls_in lists
  pub cents : settled.cents ≡ total (λ r. cents_in_reply r.reply) history
  pub cents_shared : settled.cents ≡ total cents_receipted lists
  pub cents_booked : settled.cents ≡ cents_in settled.book
  pub millilitres : settled.millilitres ≡ total (λ r. growth_in_reply r.reply) history
  pub millilitres_shared : settled.millilitres ≡ total growth_receipted lists
  pub metered : settled.millilitres ≡ all_metered (site_at config history)
  pub millilitres_booked : settled.millilitres ≡ metered_in settled.book
  pub shares : settled.shares ≡ length lists
  pub book : AreFiguresOf (whole_book config history) settled.book
  pub products : length settled.book.products ≡ length config.products

-- the shares add up to a legal history of this configuration
abbrev pub Settles : Configured → List (List Receipt) → Settled → Type 0
Settles config lists settled =
    (history : List Row) × IsLegal (opening config) history × AddsUp config history lists settled

-- what a fault says: a receipt of this place is strange
abbrev pub IsFaultOf : List Row → List (List Receipt) → SettleFault → Type 0
IsFaultOf history lists (StrangeReceipt place) = IsStrange history lists place
IsFaultOf history lists NoMemory = Unit {0}

-- the same of a legal history of this configuration that has as many rows as the shares made calls
abbrev pub IsFaultIn : Configured → List (List Receipt) → SettleFault → Type 0
IsFaultIn config lists fault =
    (history : List Row) × IsLegal (opening config) history × (calls_in lists ≡ length history)
    × IsFaultOf history lists fault

-- what is told where a share is out: the place behind the last row of a legal history of this
-- configuration, or want of memory
abbrev pub IsFaultOut : Configured → SettleFault → Type 0
IsFaultOut config (StrangeReceipt place) =
    (history : List Row) × IsLegal (opening config) history × (place ≡ length history)
IsFaultOut config NoMemory = Unit {0}

-- its number, as a program tells it
abbrev pub settle_fault_number : SettleFault → ℕ
settle_fault_number (StrangeReceipt place) = 60
settle_fault_number NoMemory = 31
