-- A replay in its course, and how it ends.
use Rattle.std.proofs.Common.{◌≡◌, ℕ, ◌+◌, ◌*◌, ◌<◌, ◌≤◌, length, length-append, arith, take, List}
use Rattle.std.proofs.Common.{[], ◌∷◌, ◌++◌, Option, Some, None, is_some, inl, inr, true, refl, sym}
use Rattle.std.proofs.Common.{ap, ◌∙◌, subst, append_assoc, append-nil}
use Rattle.std.specs.Io.KnownBytes.{Appends, Consumes, IsAtEnd}
use Rattle.std.proofs.lemmas.List.{length-take-le}
use Rattle.devices.specs.Devices.{AppendsFront}
use Rattle.devices.proofs.KnownBytes.{known, Appends-then, Appends-none, Appends-front}
use Rattle.devices.proofs.KnownBytes.{AppendsFront-whole, AppendsFront-longer}
use Rattle.devices.proofs.KnownBytes.{Consumes-none, Consumes-then}
use Rattle.forecourt_engines.specs.declared.fault.TextFault.{TextFault}
use Rattle.forecourt_engines.specs.declared.fault.ReplayFault.{ReplayFault}
use Rattle.forecourt_engines.specs.declared.fault.ReplayFault.TheVariants as faults
use Rattle.devices.specs.declared.transfer.TheConstants.{PIECE_OCTETS}
use Rattle.site_book.specs.Book.{Book}
use Rattle.forecourt_engines.specs.Text.{State, next, octet_text, after, text_from, end_input, ends}
use Rattle.forecourt_engines.specs.Text.{last_text, last_says, last_fault, fault_at_end, text_of}
use Rattle.forecourt_engines.specs.Replay.{is_early, as_fault, Replayed}

-- ---- octets one after another

pub after-append : (st : State) (a b : List ℕ) → after st (a ++ b) ≡ after (after st a) b
after-append st [] b = refl
after-append st (x ∷ a) b = after-append (next st x) a b

pub text_from-append : (st : State) (a b : List ℕ)
    → text_from st (a ++ b) ≡ text_from st a ++ text_from (after st a) b
text_from-append st [] b = refl
text_from-append st (x ∷ a) b =
    ap (λ (t : List ℕ). octet_text st x ++ t) (text_from-append (next st x) a b)
    ∙ sym (append_assoc (octet_text st x) (text_from (next st x) a)
    (text_from (after (next st x) a) b))

-- ---- the course

-- what was read so far led the engine here, and its text is written
pub record Running (turns more : ℕ) (st now : State) (left left' holds holds' : Option (List ℕ)) :
    Type 0 where
  pub read : List ℕ
  pub consumed : Consumes left left' read
  pub few : length read + more * PIECE_OCTETS ≤ turns * PIECE_OCTETS
  pub leads : now ≡ after st read
  pub written : Appends holds holds' (text_from st read)

pub starts : (turns : ℕ) (st : State) (a b : Option (List ℕ)) → Running turns turns st st a a b b
starts turns st a b = record {
  read = [];
  consumed = Consumes-none a;
  few = omega arith;
  leads = refl;
  written = Appends-none b;
}

-- a piece is read, and its text is written
pub goes_on : (turns more less : ℕ) (st now then : State) (a b c x y z : Option (List ℕ))
    (piece text : List ℕ) → Running turns more st now a b x y → Consumes b c piece
    → length piece ≤ PIECE_OCTETS → less < more
    → then ≡ after now piece → text ≡ text_from now piece → Appends y z text
    → Running turns less st then a c x z
goes_on turns more less st now then a b c x y z piece text r p small spent state told q = record {
  read = r.read ++ piece;
  consumed = Consumes-then a b c r.read piece r.consumed p;
  few = omega (arith, r.few, small, spent, length-append r.read piece);
  leads = state ∙ ap (λ (s : State). after s piece) r.leads ∙ sym (after-append st r.read piece);
  written =
      let parts : text_from st r.read ++ text ≡ text_from st (r.read ++ piece) =
      ap (λ (t : List ℕ). text_from st r.read ++ t)
      (told ∙ ap (λ (s : State). text_from s piece) r.leads)
      ∙ sym (text_from-append st r.read piece) in
      subst (Appends x z) parts (Appends-then x y z (text_from st r.read) text r.written q);
}

-- what was taken of a buffer is no longer than it
pub is_small : (n : ℕ) (buf : List ℕ) (most : ℕ) → n ≤ length buf → length buf ≤ most
    → length (take n buf) ≤ most
is_small n buf most within small = omega (arith, length-take-le n buf within, within, small)

-- ---- early ends

pub AppendsFront-none : (u : Option (List ℕ)) (a : List ℕ) → AppendsFront u u a
AppendsFront-none u a = record { front = []; rest = a; parts = refl; written = Appends-none u }

-- the book couldn't be opened
pub ends_unopened : (turns : ℕ) (st : State) (a x : Option (List ℕ)) (f : ReplayFault)
    → is_early (Some f) ≡ true
    → Replayed turns st a a x x (Some f) None
ends_unopened turns st a x f early = record {
  read = [];
  consumed = Consumes-none a;
  few = omega arith;
  front = AppendsFront-none x (last_text st);
  whole = λ late. cc;
  exact = λ late. cc;
  rows = λ late. cc;
  there = λ late. cc;
}

-- a piece was read, and a front of its text was written
pub ends_early : (turns more less : ℕ) (st now : State) (a b c x y z : Option (List ℕ))
    (piece : List ℕ) (f : ReplayFault) (book : Option Book) → is_early (Some f) ≡ true
    → Running turns more st now a b x y → Consumes b c piece → length piece ≤ PIECE_OCTETS
    → less < more → AppendsFront y z (text_from now piece)
    → Replayed turns st a c x z (Some f) book
ends_early turns more less st now a b c x y z piece f book early r p small spent q =
    let parts : text_from st r.read ++ text_from now piece ≡ text_from st (r.read ++ piece) =
    ap (λ (s : State). text_from st r.read ++ text_from s piece) r.leads
    ∙ sym (text_from-append st r.read piece) in
    let front : AppendsFront x z (text_from st (r.read ++ piece)) =
    subst (AppendsFront x z) parts
    (Appends-front x y z (text_from st r.read) (text_from now piece) r.written q) in
    record {
      read = r.read ++ piece;
      consumed = Consumes-then a b c r.read piece r.consumed p;
      few = omega (arith, r.few, small, spent, length-append r.read piece);
      front = AppendsFront-longer x z (text_from st (r.read ++ piece))
          (last_text (after st (r.read ++ piece))) front;
      whole = λ late. cc;
      exact = λ late. cc;
      rows = λ late. cc;
      there = λ late. cc;
    }

-- a piece was read, and there was no memory for its text
pub ends_unsaid : (turns more less : ℕ) (st now : State) (a b c x y : Option (List ℕ))
    (piece : List ℕ) (f : ReplayFault) (book : Option Book) → is_early (Some f) ≡ true
    → Running turns more st now a b x y → Consumes b c piece → length piece ≤ PIECE_OCTETS
    → less < more → Replayed turns st a c x y (Some f) book
ends_unsaid turns more less st now a b c x y piece f book early r p small spent =
    ends_early turns more less st now a b c x y y piece f book early r p small spent
    (AppendsFront-none y (text_from now piece))

-- ---- the end of the input

consumed_none : (a b c : Option (List ℕ)) (read piece : List ℕ) → piece ≡ [] → Consumes a b read
    → Consumes b c piece → Consumes a c read
consumed_none a b c read piece none r p =
    subst (Consumes a c) (append-nil read)
    (Consumes-then a b c read [] r (subst (Consumes b c) none p))

-- the input has ended, and a front of the last text was written
pub ends_late : (turns more : ℕ) (st now : State) (a b c x y z : Option (List ℕ)) (piece : List ℕ)
    (f : ReplayFault) (book : Option Book) → is_early (Some f) ≡ true
    → Running turns more st now a b x y → piece ≡ [] → Consumes b c piece
    → AppendsFront y z (last_text now) → Replayed turns st a c x z (Some f) book
ends_late turns more st now a b c x y z piece f book early r none p q = record {
  read = r.read;
  consumed = consumed_none a b c r.read piece none r.consumed p;
  few = omega (arith, r.few);
  front = Appends-front x y z (text_from st r.read) (last_text (after st r.read)) r.written
      (subst (λ (s : State). AppendsFront y z (last_text s)) r.leads q);
  whole = λ late. cc;
  exact = λ late. cc;
  rows = λ late. cc;
  there = λ late. cc;
}

-- the input has ended, and the last text is written
pub ends_whole : (turns more : ℕ) (st now new : State) (a b c x y z : Option (List ℕ))
    (piece text : List ℕ) (fault : Option TextFault) → Running turns more st now a b x y
    → piece ≡ [] → Consumes b c piece → text ≡ last_text now → Appends y z text
    → fault ≡ last_fault now → new ≡ end_input now → IsAtEnd c
    → Replayed turns st a c x z (as_fault fault) (Some new.answerer.book)
ends_whole turns more st now new a b c x y z piece text fault r none p told q why state done =
    let last : text ≡ last_text (after st r.read) = told ∙ ap last_text r.leads in
    let written : Appends x z (text_of st r.read) =
    Appends-then x y z (text_from st r.read) (last_text (after st r.read)) r.written
    (subst (Appends y z) last q) in
    record {
      read = r.read;
      consumed = consumed_none a b c r.read piece none r.consumed p;
      few = omega (arith, r.few);
      front = AppendsFront-whole x z (text_of st r.read) written;
      whole = λ late. written;
      exact = λ late. ap as_fault (why ∙ ap last_fault r.leads);
      rows = λ late. ap (λ (s : State). Some s.answerer.book) (state ∙ ap end_input r.leads);
      there = λ late. inr done;
    }

-- ---- the end of the text

pub stopped_says : (st : State) (f : TextFault) → st.stop ≡ Some f → last_text st ≡ []
stopped_says st f e = ap (λ (s : Option TextFault). last_says s st) e

pub stopped_ended : (st : State) (f : TextFault) → st.stop ≡ Some f → end_input st ≡ st
stopped_ended st f e = ap (λ (s : Option TextFault). ends s st) e

pub stopped_fault : (st : State) (f : TextFault) → st.stop ≡ Some f → last_fault st ≡ Some f
stopped_fault st f e = ap (λ (s : State). fault_at_end s.stop s) (stopped_ended st f e)
    ∙ ap (λ (s : Option TextFault). fault_at_end s st) e

-- the text has ended
pub ends_stopped : (turns more : ℕ) (st now : State) (a b x y : Option (List ℕ)) (f : TextFault)
    → Running turns more st now a b x y → now.stop ≡ Some f
    → Replayed turns st a b x y (Some (faults.Text f)) (Some now.answerer.book)
ends_stopped turns more st now a b x y f r stop =
    let there : (after st r.read).stop ≡ Some f = ap (λ (s : State). s.stop) (sym r.leads) ∙ stop in
    let all : text_from st r.read ≡ text_of st r.read = sym (append-nil (text_from st r.read))
    ∙ ap (λ (t : List ℕ). text_from st r.read ++ t)
    (sym (stopped_says (after st r.read) f there)) in
    let written : Appends x y (text_of st r.read) = subst (Appends x y) all r.written in
    record {
      read = r.read;
      consumed = r.consumed;
      few = omega (arith, r.few);
      front = AppendsFront-whole x y (text_of st r.read) written;
      whole = λ late. written;
      exact = λ late. ap as_fault (sym (stopped_fault (after st r.read) f there));
      rows = λ late. ap (λ (s : State). Some s.answerer.book)
          (r.leads ∙ sym (stopped_ended (after st r.read) f there));
      there = λ late. inl (ap is_some there);
    }

pub ruleset running = (known, starts)
