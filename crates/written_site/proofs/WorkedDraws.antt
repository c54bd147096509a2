-- Worked rows of test draws, and of a meter that was replaced.
use Rattle.std.proofs.Common.{◌++◌, [], ◌∷◌, true, Some, None, Ok, Err}
use Rattle.site_base.specs.declared.answer.Answer.TheVariants.{Done, Calling, Start, Flowed, NoSale}
use Rattle.site_base.specs.declared.answer.Answer.TheVariants.{Drawn, PointIs, ProductIs}
use Rattle.site_base.specs.declared.event.Event.TheVariants.{SignOn, Open, Close, Release}
use Rattle.site_base.specs.declared.event.Event.TheVariants.{TestRelease, ReplaceMeter, ReadPoint}
use Rattle.site_base.specs.declared.event.Event.TheVariants.{ReadTransaction, ReadProduct, Offline}
use Rattle.site_base.specs.declared.event.Event.TheVariants.{Lift, Flow, HangUp}
use Rattle.site_base.specs.declared.refusal.Refusal.TheVariants.{NoSuchTransaction, NotManager}
use Rattle.site_base.specs.declared.refusal.Refusal.TheVariants.{WrongState, BufferFull, MeterGap}
use Rattle.site_base.specs.declared.state.PointState.TheVariants.{Idle, Authorised}
use Rattle.site_base.specs.declared.state.Preset.TheVariants.{Unset}
use Rattle.written_site.proofs.WorkedRows.{known_site, sold_twice, t1, t2, d1, point, sale, product}
use Rattle.written_site.proofs.WorkedRows.{AreAnswered}
use Rattle.written_site.proofs.WorkedReplies.{answered, kit}

-- a test draw: managers alone, no sale, and the fuel is adjusted; a replaced meter keeps what was
-- metered
drawn : AreAnswered known_site
    (t1 SignOn (Ok Done)
    ∷ t1 (Open 1) (Ok Done)
    ∷ t2 SignOn (Ok Done)
    ∷ t2 (TestRelease 1) (Err NotManager)
    ∷ t1 (TestRelease 1) (Ok Done)
    ∷ t1 (ReadPoint 1) (Ok (PointIs (record (point Authorised (Some 1)) { test = true })))
    ∷ t1 (Release 1 Unset) (Err (WrongState Authorised))
    ∷ d1 (Lift 1 1 0) (Ok (Start Unset 1500))
    ∷ d1 (HangUp 1 1 20000) (Ok (Drawn 20000))
    ∷ t1 (ReadPoint 1) (Ok (PointIs (point Idle None)))
    ∷ t1 (ReadProduct 1) (Ok (ProductIs (record (product 1500 20000) { adjusted = 20000 })))
    ∷ t1 (ReadTransaction 1 (sale 1)) (Err NoSuchTransaction)
    ∷ t1 (ReplaceMeter 1 1 7) (Err (WrongState Idle))
    ∷ t1 (Close 1) (Ok Done)
    ∷ t1 (ReplaceMeter 1 1 7) (Ok Done)
    ∷ t1 (ReadProduct 1) (Ok (ProductIs (record (product 1500 20000) { adjusted = 20000 })))
    ∷ t1 (Open 1) (Ok Done)
    ∷ d1 (Lift 1 1 20000) (Err (MeterGap 7))
    ∷ d1 (Lift 1 1 7) (Ok Calling)
    ∷ t1 (TestRelease 1) (Ok Done)
    ∷ d1 (HangUp 1 1 7) (Ok NoSale)
    ∷ [])
drawn = answered (simp kit)

-- with two unpaid sales a point isn't released for a sale, and it is for a test
tested_when_full : AreAnswered known_site
    (sold_twice ++
    t1 (Release 1 Unset) (Err BufferFull)
    ∷ t1 (TestRelease 1) (Ok Done)
    ∷ t1 (ReadProduct 1) (Ok (ProductIs (record (product 1500 3000) { payable = 3000 })))
    ∷ [])
tested_when_full = answered (simp kit)

-- a test that goes offline is drawn as far as it was metered
drawn_offline : AreAnswered known_site
    (t1 SignOn (Ok Done)
    ∷ t1 (Open 1) (Ok Done)
    ∷ t1 (TestRelease 1) (Ok Done)
    ∷ d1 (Lift 1 1 0) (Ok (Start Unset 1500))
    ∷ d1 (Flow 1 1 5000) (Ok (Flowed 5000))
    ∷ t1 (ReadProduct 1) (Ok (ProductIs (record (product 1500 5000) { running = 5000 })))
    ∷ d1 (Offline 1) (Ok (Drawn 0))
    ∷ t1 (ReadProduct 1) (Ok (ProductIs (record (product 1500 5000) { adjusted = 5000 })))
    ∷ t1 (ReadTransaction 1 (sale 1)) (Err NoSuchTransaction)
    ∷ t1 (ReplaceMeter 1 1 0) (Ok Done)
    ∷ [])
drawn_offline = answered (simp kit)
