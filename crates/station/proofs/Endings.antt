-- A session's end signs off what that session signed on last.
use Rattle.std.proofs.Common.{◌≡◌, [], Option, Some, None, ap, sym, subst, ◌∙◌, append-nil}
use Rattle.std.proofs.Common.{refl}
use Rattle.std.specs.Prelude.{◌++◌, if◌then◌else◌, is_none}
use Rattle.station.specs.Adding.{AddsSignOff, till_of}
use Rattle.station.specs.Moves.{with_arrival, with_end, without_peer}
use Rattle.station.specs.Neighbours.{EndsSpareTillsOfOthers}
use Rattle.station.specs.Peers.{peer_at}
use Rattle.station.specs.Runs.{Finishes, Leaves, after}
use Rattle.station.specs.Sessions.{Session}
use Rattle.station.specs.Stories.{is_all_answered, is_whole, messages_in, rows_in}
use Rattle.station.specs.Stories.{signed_in}
use Rattle.station.proofs.Adding.{silent_moves}
use Rattle.station.proofs.Courses.{arrives, runs}

-- the till of a session that lasts
lasting_till : (y : Option Session) (x : Session) → y ≡ Some x → x.end ≡ None
    → till_of y ≡ x.talk.on
lasting_till y x there lasts =
    ap till_of there ∙ ap (λ e. if is_none e then x.talk.on else None) lasts

pub spare_others : EndsSpareTillsOfOthers
spare_others = λ s k door ms x free stays there lasts.
    let start = with_arrival k door s in
    let later = after ms start in
    let run = runs s.book.config s.book.rows k ms [] [] start stays (arrives k door s) in
    let same : run.0 ≡ x = (let both : Some run.0 ≡ Some x = sym run.1 ∙ there in cc) in
    let told = run.2 in
    let over : (run.0).end ≡ None = ap (λ (y : Session). y.end) same ∙ lasts in
    let late = told.lasts over in
    let answered = told.answered (ap is_all_answered over) in
    let till : till_of (peer_at later.peers k) ≡ signed_in None told.story =
    lasting_till (peer_at later.peers k) x there lasts
    ∙ ap (λ (y : Session). y.talk.on) (sym same)
    ∙ told.signed (ap is_whole over) in
    record {
      story = told.story;
      messages =
          told.messages ∙ ap (λ ms. messages_in told.story ++ ms) answered
          ∙ append-nil (messages_in told.story);
      asked = told.asked;
      rows =
          told.rows ∙ ap (λ rs. (s.book.rows ++ rows_in told.story) ++ rs) late
          ∙ append-nil (s.book.rows ++ rows_in told.story);
      ends =
          subst (λ t. AddsSignOff t later.book (with_end k later).book) till
          (silent_moves (Finishes k) later refl);
      leaves =
          subst (λ t. AddsSignOff t later.book (without_peer k later).book) till
          (silent_moves (Leaves k) later refl);
    }
