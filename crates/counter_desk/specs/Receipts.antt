-- Receipts: the row that each tells of, where it stands, and what many add up to.
use Rattle.std.specs.Prelude.{◌≡◌, ℕ, ◌*◌, ◌≤◌, List, [], ◌∷◌, length, Some, slice_get}
use Rattle.site_base.specs.declared.actor.Actor.{Actor}
use Rattle.site_base.specs.declared.event.Event.{Event}
use Rattle.site_base.specs.declared.amounts.TheConstants.{GROWTH_LIMIT}
use Rattle.site_base.specs.declared.amounts.TheConstants.{GREATEST_CENTS}
use Rattle.site_base.specs.declared.row.Placed.{Placed}
use Rattle.site_base.specs.declared.row.Row.{Row}
use Rattle.site_base.specs.Configured.{Configured}
use Rattle.site_book.specs.RowLists.{RowList}
use Rattle.site_base.specs.Events.{cents_in_reply, growth_in_reply}
use Rattle.written_site.specs.RowWords.{total}
use Rattle.written_site.specs.SiteRun.{IsLegal}
use Rattle.written_site.specs.SiteState.{opening}
use Rattle.counter_desk.specs.declared.receipt.Receipt.{Receipt}

-- receipts in their order, and the number of further ones that room is reserved for
pub record ReceiptList : Type 0 where
  pub receipts : List Receipt
  pub room : ℕ

-- the row that a receipt tells of
abbrev pub receipted_row : Receipt → Row
receipted_row r = record { actor = r.actor; event = r.event; reply = r.reply }

-- the receipt of the row at a place
abbrev pub receipt_at : ℕ → Row → Receipt
receipt_at place row =
    record { place = place; actor = row.actor; event = row.event; reply = row.reply }

-- the receipts of these rows, at these places
unfoldable pub receipts_at : List ℕ → List Row → List Receipt
receipts_at [] rows = []
receipts_at (place ∷ places) [] = []
receipts_at (place ∷ places) (row ∷ rows) = receipt_at place row ∷ receipts_at places rows

-- the receipt of an actor's event that was placed and answered so
abbrev pub receipt_of : Placed → Actor → Event → Receipt
receipt_of p actor event =
    record { place = p.place; actor = actor; event = event; reply = p.reply }

-- the receipt is the row at its place in these rows
abbrev pub StandsAt : List Row → Receipt → Type 0
StandsAt rows r = slice_get rows r.place ≡ Some (receipted_row r)

-- the receipt is the row at its place in some legal history of this configuration
abbrev pub StandsInLegal : Configured → Receipt → Type 0
StandsInLegal config r = (rows : List Row) × IsLegal (opening config) rows × StandsAt rows r

-- the cents of their Cleared answers
abbrev pub cents_receipted : List Receipt → ℕ
cents_receipted receipts = total (λ r. cents_in_reply r.reply) receipts

-- the growth in their Flowed, Sold and Drawn answers
abbrev pub growth_receipted : List Receipt → ℕ
growth_receipted receipts = total (λ r. growth_in_reply r.reply) receipts

-- these are the amounts of the receipts, and no more than so many can tell
pub record IsTallied (cents millilitres : ℕ) (receipts : List Receipt) : Type 0 where
  pub cents_are : cents ≡ cents_receipted receipts
  pub millilitres_are : millilitres ≡ growth_receipted receipts
  pub few_cents : cents ≤ length receipts * GREATEST_CENTS
  pub few_millilitres : millilitres ≤ length receipts * GROWTH_LIMIT

-- places and rows are as many; in both lists there is this room; and the amounts are those of the
-- receipts
pub record AreReceiptsKept (places : List ℕ) (list : RowList)
    (room room_of_places cents millilitres : ℕ) : Type 0 where
  pub as_many : length places ≡ length list.rows
  pub room_in_rows : room ≤ list.room
  pub room_in_places : room ≤ room_of_places
  pub tallied : IsTallied cents millilitres (receipts_at places list.rows)
