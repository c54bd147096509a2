use Rattle.std.proofs.Common.{refl, subst, sym}
use Rattle.station.specs.Moves.{StationState}
use Rattle.chapters.specs.History.{empty_book}
use Rattle.journal.specs.Opening.{HasNobodyOn}
use Rattle.journal.proofs.SigningOff.{nobody_yet}
use Rattle.journal.proofs.stored_station.StoredStation.open_without.Goals as goal

pub returns-clause-off : goal.returns-clause-off
returns-clause-off g c =
    subst (λ (s : StationState). HasNobodyOn s.book) (sym c.new-2.ensures)
    (subst HasNobodyOn (sym c.in_ok-book.ensures) (nobody_yet c.args.config.now))

pub invariant_of-result : goal.invariant_of-result
invariant_of-result g c =
    rw (c.new-2.ensures, c.new.ensures, c.in_ok-book.ensures) (record {
      legal = tt;
      sent = tt;
      unpaid = c.new-3.ensures (empty_book c.args.config.now) refl;
      journal = tt;
      behind = tt;
      enough = c.requires;
    })
