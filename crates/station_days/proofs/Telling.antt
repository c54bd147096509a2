-- What a station's day tells, from its two writes.
use Rattle.std.proofs.Common.{◌≡◌, ℕ, Bool, true, false, List, [], Option, Some, None, refl, sym}
use Rattle.std.proofs.Common.{ap, subst, ◌∙◌}
use Rattle.std.specs.Io.KnownBytes.{Appends}
use Rattle.devices.specs.Devices.{AppendsFront}
use Rattle.devices.proofs.KnownBytes.{Appends-front, Appends-then}
use Rattle.devices.proofs.KnownBytes.{AppendsFront-longer}
use Rattle.written_site.specs.SiteState.{is_signed_on}
use Rattle.site_book.specs.Book.{Book, site_of_book}
use Rattle.station.specs.Gates.{GateState}
use Rattle.station.specs.Moves.{StationState}
use Rattle.station.specs.Reads.{HasNoPeer}
use Rattle.station.specs.Runs.{Move, after, opening_station}
use Rattle.station.proofs.TillSessions.{tills_have}
use Rattle.journal.specs.Opening.{HasNobodyOn}
use Rattle.journal.specs.Stored.{StoredState}
use Rattle.peer_connections.specs.Reaches.{FindRoom, Reaches}
use Rattle.day_base.specs.declared.plan.ReportForm.{ReportForm}
use Rattle.station_days.specs.StationDays.{TellsDay, TellsFront, day_book, day_station}
use Rattle.day_base.specs.Texts.{places_text, report_in}

-- what a station comes to that was opened at this book
reached_station : (g : GateState) (opens : Book) (s t : StoredState)
    → s.station ≡ opening_station g opens
    → (r : Reaches s t) → t.station ≡ day_station g opens r.moves
reached_station g opens s t begins r = r.lead ∙ ap (after r.moves) begins

-- its book
reached_book : (g : GateState) (opens x : Book) (s t : StoredState)
    → s.station ≡ opening_station g opens
    → (r : Reaches s t) → x ≡ t.station.book → x ≡ day_book g opens r.moves
reached_book g opens x s t begins r is =
    is ∙ ap (λ (u : StationState). u.book) (reached_station g opens s t begins r)

-- where nobody is left, no till is signed on
nobody_signed : (g : GateState) (opens : Book) (moves : List Move) → HasNobodyOn opens
    → HasNoPeer (day_station g opens moves)
    → (t : ℕ) → is_signed_on (site_of_book (day_book g opens moves)) t ≡ false
nobody_signed g opens moves off left t =
    by_test (is_signed_on (site_of_book (day_book g opens moves)) t) refl
  where
    by_test : (on : Bool) → is_signed_on (site_of_book (day_book g opens moves)) t ≡ on
        → is_signed_on (site_of_book (day_book g opens moves)) t ≡ false
    by_test false is = is
    by_test true is =
        let held = tills_have g opens moves off t is in
        absurd (let never : None ≡ Some held.session = sym (left held.key) ∙ held.there in cc)

-- the text of these ports
pub same_places : (port port' page page' feed feed' : Option ℕ) → port ≡ port' → page ≡ page'
    → feed ≡ feed' → places_text port page feed ≡ places_text port' page' feed'
same_places port port' page page' feed feed' one two three =
    ap (λ (n : Option ℕ). places_text n page feed) one
    ∙ ap (λ (n : Option ℕ). places_text port' n feed) two
    ∙ ap (λ (n : Option ℕ). places_text port' page' n) three

-- where it listens was written, and then the report
pub tells_station : (g : GateState) (opens : Book) (u v w : Option (List ℕ)) (said places : List ℕ)
    (form : ReportForm) (x : Book) (s t : StoredState)
    → said ≡ places → s.station ≡ opening_station g opens
    → HasNobodyOn opens
    → Reaches s t → HasNoPeer t.station → x ≡ t.station.book
    → Appends u v said
    → Appends v w (report_in form x) → TellsDay g opens places form u w t.station
tells_station g opens u v w said places form x s t same begins off r left is line
    report =
    record {
      moves = r.moves;
      leads = reached_station g opens s t begins r;
      room = subst (FindRoom r.moves) begins r.room;
      left = subst HasNoPeer (reached_station g opens s t begins r) left;
      off = nobody_signed g opens r.moves off
          (subst HasNoPeer (reached_station g opens s t begins r) left);
      told = Appends-then u v w places (report_in form (day_book g opens r.moves))
          (subst (λ (text : List ℕ). Appends u v text) same line)
          (subst (λ (y : Book). Appends v w (report_in form y))
          (reached_book g opens x s t begins r is) report);
    }

-- .. and then a front of it
pub tells_station_front : (g : GateState) (opens : Book) (u v w : Option (List ℕ))
    (said places : List ℕ)
    (form : ReportForm) (x : Book) (s t : StoredState)
    → said ≡ places → s.station ≡ opening_station g opens
    → Reaches s t → x ≡ t.station.book → Appends u v said
    → AppendsFront v w (report_in form x)
    → TellsFront g opens places form u w t.station
tells_station_front g opens u v w said places form x s t same begins r is line
    report =
    record {
      moves = r.moves;
      leads = reached_station g opens s t begins r;
      told = Appends-front u v w places (report_in form (day_book g opens r.moves))
          (subst (λ (text : List ℕ). Appends u v text) same line)
          (subst (λ (y : Book). AppendsFront v w (report_in form y))
          (reached_book g opens x s t begins r is) report);
    }

-- a front of the lines
pub tells_station_line : (g : GateState) (opens : Book) (u v : Option (List ℕ))
    (said places : List ℕ)
    (form : ReportForm) (s : StationState)
    → said ≡ places → s ≡ opening_station g opens
    → AppendsFront u v said
    → TellsFront g opens places form u v s
tells_station_line g opens u v said places form s same begins line = record {
  moves = [];
  leads = begins;
  told = AppendsFront-longer u v places (report_in form (day_book g opens []))
      (subst (λ (text : List ℕ). AppendsFront u v text) same line);
}
