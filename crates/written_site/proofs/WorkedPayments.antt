-- Worked rows of payments: who locks and clears a sale, and what a price or a shift that changes
-- leaves.
use Rattle.std.proofs.Common.{[], ◌∷◌, Some, Ok, Err}
use Rattle.site_base.specs.declared.answer.Answer.TheVariants.{Done, Start, Sold, Locked, Unlocked}
use Rattle.site_base.specs.declared.answer.Answer.TheVariants.{Cleared, ShiftClosed, TransactionIs}
use Rattle.site_base.specs.declared.answer.Answer.TheVariants.{ProductIs, SiteIs}
use Rattle.site_base.specs.declared.event.Event.TheVariants.{SignOn, SignOff, Open, Release, Lock}
use Rattle.site_base.specs.declared.event.Event.TheVariants.{Unlock, Clear, Prepay, SetPrice}
use Rattle.site_base.specs.declared.event.Event.TheVariants.{CloseShift, Suspend, Resume}
use Rattle.site_base.specs.declared.event.Event.TheVariants.{ReadTransaction, ReadProduct, ReadSite}
use Rattle.site_base.specs.declared.event.Event.TheVariants.{Lift, HangUp}
use Rattle.site_base.specs.declared.refusal.Refusal.TheVariants.{NotSignedOn, NoSuchProduct}
use Rattle.site_base.specs.declared.refusal.Refusal.TheVariants.{NoSuchTransaction, NotManager}
use Rattle.site_base.specs.declared.refusal.Refusal.TheVariants.{BadPrice, BufferFull}
use Rattle.site_base.specs.declared.refusal.Refusal.TheVariants.{AssignedToOther, LockedByOther}
use Rattle.site_base.specs.declared.refusal.Refusal.TheVariants.{NotLocked, AlreadyCleared}
use Rattle.site_base.specs.declared.state.Preset.TheVariants.{Unset, Money}
use Rattle.written_site.proofs.WorkedRows.{known_site, t1, t2, d1, sale, payable, product}
use Rattle.written_site.proofs.WorkedRows.{AreAnswered}
use Rattle.written_site.proofs.WorkedReplies.{answered, kit}

-- one locker: another till neither locks nor clears; its sign-off lets the sale go
locked_by_one : AreAnswered known_site
    (t1 SignOn (Ok Done)
    ∷ t2 SignOn (Ok Done)
    ∷ t1 (Open 1) (Ok Done)
    ∷ t1 (Release 1 Unset) (Ok Done)
    ∷ d1 (Lift 1 1 0) (Ok (Start Unset 1500))
    ∷ d1 (HangUp 1 1 10000) (Ok (Sold 1 10000))
    ∷ t1 (Lock 1 (sale 1)) (Ok Locked)
    ∷ t1 (Lock 1 (sale 1)) (Ok Locked)
    ∷ t2 (Lock 1 (sale 1)) (Err (LockedByOther 1))
    ∷ t2 (Clear 1 (sale 1)) (Err (LockedByOther 1))
    ∷ t1 SignOff (Ok Done)
    ∷ t1 (Lock 1 (sale 1)) (Err NotSignedOn)
    ∷ t2 (Clear 1 (sale 1)) (Err NotLocked)
    ∷ t2 (Lock 1 (sale 1)) (Ok Locked)
    ∷ t2 (Unlock 1 (sale 1)) (Ok Unlocked)
    ∷ [])
locked_by_one = answered (simp kit)

-- one clear
cleared_once : AreAnswered known_site
    (t1 SignOn (Ok Done)
    ∷ t2 SignOn (Ok Done)
    ∷ t1 (Open 1) (Ok Done)
    ∷ t1 (Release 1 Unset) (Ok Done)
    ∷ d1 (Lift 1 1 0) (Ok (Start Unset 1500))
    ∷ d1 (HangUp 1 1 10000) (Ok (Sold 1 10000))
    ∷ t1 (Lock 1 (sale 1)) (Ok Locked)
    ∷ t1 (Clear 1 (sale 1)) (Ok (Cleared 1500))
    ∷ t1 (Clear 1 (sale 1)) (Err (AlreadyCleared 1))
    ∷ t2 (Lock 1 (sale 1)) (Err (AlreadyCleared 1))
    ∷ t1 (ReadProduct 1) (Ok (ProductIs (record (product 1500 10000) { cleared = 10000 })))
    ∷ t1 ReadSite (Ok (SiteIs (record { cents = 1500; shift = 1 })))
    ∷ [])
cleared_once = answered (simp kit)

-- a price that is set is that of the next fuelling; the one under way keeps its own
next_price : AreAnswered known_site
    (t1 SignOn (Ok Done)
    ∷ t2 SignOn (Ok Done)
    ∷ t1 (Open 1) (Ok Done)
    ∷ t1 (Release 1 Unset) (Ok Done)
    ∷ d1 (Lift 1 1 0) (Ok (Start Unset 1500))
    ∷ t1 (Suspend 1) (Ok Done)
    ∷ t1 (SetPrice 1 1600) (Ok Done)
    ∷ t1 (Resume 1) (Ok Done)
    ∷ d1 (HangUp 1 1 10000) (Ok (Sold 1 10000))
    ∷ t1 (ReadTransaction 1 (sale 1)) (Ok (TransactionIs (payable 1500 10000 1500 1)))
    ∷ t1 (Release 1 Unset) (Ok Done)
    ∷ d1 (Lift 1 1 10000) (Ok (Start Unset 1600))
    ∷ d1 (HangUp 1 1 20000) (Ok (Sold 2 10000))
    ∷ t1 (ReadTransaction 1 (sale 2)) (Ok (TransactionIs (payable 1600 10000 1600 1)))
    ∷ t1 (Release 1 Unset) (Err BufferFull)
    ∷ t1 (SetPrice 1 100000) (Err BadPrice)
    ∷ t1 (SetPrice 1 0) (Err BadPrice)
    ∷ t2 (SetPrice 1 1600) (Err NotManager)
    ∷ t1 (SetPrice 3 1) (Err NoSuchProduct)
    ∷ t1 (Lock 1 (sale 1)) (Ok Locked)
    ∷ t1 (Clear 1 (sale 1)) (Ok (Cleared 1500))
    ∷ t1 (Release 1 Unset) (Ok Done)
    ∷ [])
next_price = answered (simp kit)

-- a price of 1 mill: a millilitre is sold and cleared for 0 cents
sold_for_nothing : AreAnswered known_site
    (t1 SignOn (Ok Done)
    ∷ t1 (SetPrice 1 1) (Ok Done)
    ∷ t1 (Open 1) (Ok Done)
    ∷ t1 (Release 1 Unset) (Ok Done)
    ∷ d1 (Lift 1 1 0) (Ok (Start Unset 1))
    ∷ d1 (HangUp 1 1 1) (Ok (Sold 1 1))
    ∷ t1 (Lock 1 (sale 1)) (Ok Locked)
    ∷ t1 (Clear 1 (sale 1)) (Ok (Cleared 0))
    ∷ [])
sold_for_nothing = answered (simp kit)

-- a prepaid fuelling of a till that has signed off is cleared by another
prepaid_cleared : AreAnswered known_site
    (t1 SignOn (Ok Done)
    ∷ t2 SignOn (Ok Done)
    ∷ t2 (Open 1) (Ok Done)
    ∷ t2 (Prepay 1 2000) (Ok Done)
    ∷ t2 SignOff (Ok Done)
    ∷ t1 (Release 1 Unset) (Err (AssignedToOther 2))
    ∷ d1 (Lift 1 1 0) (Ok (Start (Money 2000) 1500))
    ∷ d1 (HangUp 1 1 10000) (Ok (Sold 1 10000))
    ∷ t1 (Lock 1 (sale 1)) (Ok Locked)
    ∷ t1 (Clear 1 (sale 1)) (Ok (Cleared 1500))
    ∷ [])
prepaid_cleared = answered (simp kit)

-- a sale of an earlier shift isn't found where no shift is named; the next sale's number begins
-- again
next_shift : AreAnswered known_site
    (t1 SignOn (Ok Done)
    ∷ t2 SignOn (Ok Done)
    ∷ t1 (Open 1) (Ok Done)
    ∷ t1 (Release 1 Unset) (Ok Done)
    ∷ d1 (Lift 1 1 0) (Ok (Start Unset 1500))
    ∷ d1 (HangUp 1 1 10000) (Ok (Sold 1 10000))
    ∷ t2 CloseShift (Err NotManager)
    ∷ t1 CloseShift (Ok (ShiftClosed 1))
    ∷ t1 (Lock 1 (sale 1)) (Err NoSuchTransaction)
    ∷ t1 (Lock 1 (record { shift = Some 1; seq = 1 })) (Ok Locked)
    ∷ t1 (Clear 1 (record { shift = Some 1; seq = 1 })) (Ok (Cleared 1500))
    ∷ t1 ReadSite (Ok (SiteIs (record { cents = 1500; shift = 2 })))
    ∷ t1 (Release 1 Unset) (Ok Done)
    ∷ d1 (Lift 1 1 10000) (Ok (Start Unset 1500))
    ∷ d1 (HangUp 1 1 20000) (Ok (Sold 1 10000))
    ∷ [])
next_shift = answered (simp kit)
