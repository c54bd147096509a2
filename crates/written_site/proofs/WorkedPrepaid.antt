-- Worked rows of prepaid fuellings: whose their sale is.
use Rattle.std.proofs.Common.{[], ◌∷◌, Some, Ok, Err}
use Rattle.site_base.specs.declared.answer.Answer.TheVariants.{Done, Start, Sold, PointIs}
use Rattle.site_base.specs.declared.answer.Answer.TheVariants.{TransactionIs, ProductIs}
use Rattle.site_base.specs.declared.event.Event.TheVariants.{SignOn, SignOff, Open, Release, Prepay}
use Rattle.site_base.specs.declared.event.Event.TheVariants.{Suspend, ReadPoint, ReadTransaction}
use Rattle.site_base.specs.declared.event.Event.TheVariants.{ReadProduct, Lift, HangUp}
use Rattle.site_base.specs.declared.refusal.Refusal.TheVariants.{AssignedToOther}
use Rattle.site_base.specs.declared.state.PointState.TheVariants.{Authorised}
use Rattle.site_base.specs.declared.state.Preset.TheVariants.{Unset, Money}
use Rattle.site_base.specs.declared.state.Status.TheVariants.{Locked}
use Rattle.site_base.specs.declared.view.TransactionView.{TransactionView}
use Rattle.written_site.proofs.WorkedRows.{known_site, t1, t2, d1, point, sale, payable, product}
use Rattle.written_site.proofs.WorkedRows.{AreAnswered}
use Rattle.written_site.proofs.WorkedReplies.{answered, kit}

-- 10,000 ml of diesel for which 2,000 cents were prepaid: payable, and locked by till 2
abbrev prepaid : TransactionView
prepaid = record (payable 1500 10000 1500 1) { prepaid = Some 2000 }

abbrev locked_by_2 : TransactionView
locked_by_2 = record prepaid { status = Locked; till = Some 2 }

-- a till that has signed off keeps the hold of what it has released; the prepaid sale is payable
signed_off : AreAnswered known_site
    (t1 SignOn (Ok Done)
    ∷ t2 SignOn (Ok Done)
    ∷ t2 (Open 1) (Ok Done)
    ∷ t2 (Prepay 1 2000) (Ok Done)
    ∷ t1 (ReadPoint 1) (Ok (PointIs (record (point Authorised (Some 2)) {
      preset = Money 2000;
      prepaid = Some 2000;
    })))
    ∷ t2 SignOff (Ok Done)
    ∷ t1 (Release 1 Unset) (Err (AssignedToOther 2))
    ∷ d1 (Lift 1 1 0) (Ok (Start (Money 2000) 1500))
    ∷ d1 (HangUp 1 1 10000) (Ok (Sold 1 10000))
    ∷ t1 (ReadTransaction 1 (sale 1)) (Ok (TransactionIs prepaid))
    ∷ [])
signed_off = answered (simp kit)

-- with the till still signed on the sale is locked by it at once, until it signs off
still_signed_on : AreAnswered known_site
    (t1 SignOn (Ok Done)
    ∷ t2 SignOn (Ok Done)
    ∷ t2 (Open 1) (Ok Done)
    ∷ t2 (Prepay 1 2000) (Ok Done)
    ∷ d1 (Lift 1 1 0) (Ok (Start (Money 2000) 1500))
    ∷ d1 (HangUp 1 1 10000) (Ok (Sold 1 10000))
    ∷ t1 (ReadTransaction 1 (sale 1)) (Ok (TransactionIs locked_by_2))
    ∷ t1 (ReadProduct 1) (Ok (ProductIs (record (product 1500 10000) { locked = 10000 })))
    ∷ t1 SignOff (Ok Done)
    ∷ t1 SignOn (Ok Done)
    ∷ t1 (ReadTransaction 1 (sale 1)) (Ok (TransactionIs locked_by_2))
    ∷ t2 SignOff (Ok Done)
    ∷ t1 (ReadTransaction 1 (sale 1)) (Ok (TransactionIs prepaid))
    ∷ t1 (ReadProduct 1) (Ok (ProductIs (record (product 1500 10000) { payable = 10000 })))
    ∷ [])
still_signed_on = answered (simp kit)

-- signed off and on again in between, the till has its hold, and the sale is locked by it
on_again : AreAnswered known_site
    (t2 SignOn (Ok Done)
    ∷ t2 (Open 1) (Ok Done)
    ∷ t2 (Prepay 1 2000) (Ok Done)
    ∷ t2 SignOff (Ok Done)
    ∷ d1 (Lift 1 1 0) (Ok (Start (Money 2000) 1500))
    ∷ t2 SignOn (Ok Done)
    ∷ t2 (Suspend 1) (Ok Done)
    ∷ d1 (HangUp 1 1 10000) (Ok (Sold 1 10000))
    ∷ t2 (ReadTransaction 1 (sale 1)) (Ok (TransactionIs locked_by_2))
    ∷ [])
on_again = answered (simp kit)
