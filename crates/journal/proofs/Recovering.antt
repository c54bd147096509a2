-- What recovery makes of a disk's chapters.
use Rattle.std.proofs.Common.{◌≡◌, ℕ, suc, ◌+◌, List, [], ◌∷◌, ◌++◌, length, take, drop}
use Rattle.std.proofs.Common.{Option, Some, None, refl, sym, ap, ◌∙◌, subst, arith, inl, inr}
use Rattle.std.proofs.Common.{append-nil, append_assoc, false}
use Rattle.std.specs.Prelude.{slice_get}
use Rattle.std.specs.List.{AllByRecursion}
use Rattle.std.proofs.lemmas.List.{length-append, nil_from_length, take-append-drop, take_all}
use Rattle.std.proofs.lemmas.Option.{none-some, same_Some}
use Rattle.kept_history.specs.KeptRows.{kept_rows}
use Rattle.site_book.specs.Book.{Book}
use Rattle.chapters.specs.declared.fault.HistoryFault.{HistoryFault}
use Rattle.chapters.specs.ChapterReading.{HistoryRead, nothing_read, read_from}
use Rattle.chapters.specs.ChapterText.{first_lines, text_of_lines}
use Rattle.chapters.specs.History.{IsMadeOf}
use Rattle.chapters.specs.HistoryEnds.{EndsAt}
use Rattle.chapters.specs.Lines.{unfinished}
use Rattle.chapters.specs.Readers.{AreWholeLines, HasRead, IsRefused, Names, ReaderState}
use Rattle.chapters.specs.RowText.{CanBeSpelled, IsSent}
use Rattle.chapters.proofs.Histories.{events_asked, first_read, front_refused, history_cut}
use Rattle.chapters.proofs.Histories.{read_kept, read_sent, read_spelled, short_front}
use Rattle.chapters.proofs.Lists.{all_each}
use Rattle.chapters.proofs.Made.{made_events}
use Rattle.chapters.proofs.Rows.{take_more}
use Rattle.journal.specs.declared.recovery.OpenFault.TheVariants.{Refused}
use Rattle.journal.specs.Disks.{BeginsWith, DiskFile, GoesOn, GoesOnEither, IsUntouched, Keeps}
use Rattle.journal.specs.Disks.{KeepsEither, Moment, OfFile, OfFiles, ReadsClosed, Renews}
use Rattle.journal.specs.Disks.{moment_of, shown_of}
use Rattle.journal.specs.Faults.{NamesIn}
use Rattle.journal.specs.Readings.{texts_of}
use Rattle.journal.specs.Recovering.{AreFirst, HasReadClosed, HasReadTo, IsReadIn}
use Rattle.journal.specs.Recovering.{KeepsWholeLines, StandsFor, TellsNothingIn}
use Rattle.journal.specs.Stored.{HoldsRows}
use Rattle.journal.proofs.Fronts.{begins_then, front_of_cut, goes_then, keeps_none, keeps_on}

-- ---- closed chapters

pub none_closed : (file : Option DiskFile) (s : ReaderState) → HasRead [] s → HasReadTo 0 file s
none_closed None s has = record { texts = []; has = has; count = refl; are = tt }
none_closed (Some f) s has = record { texts = []; has = has; count = refl; are = refl }

more_are : (place : ℕ) (texts : List (List ℕ)) (text : List ℕ) (file : Option DiskFile)
    → OfFile (λ f. take place f.closed ≡ texts) file → OfFile (ReadsClosed place text) file
    → OfFile (λ f. take (place + 1) f.closed ≡ texts ++ text ∷ []) file
more_are place texts text None are reads = tt
more_are place texts text (Some f) are reads =
    let next : place + 1 ≡ suc place = omega arith in
    ap (λ (n : ℕ). take n f.closed) next
    ∙ take_more f.closed place text reads
    ∙ ap (λ (ts : List (List ℕ)). ts ++ text ∷ []) are

pub one_closed : (place : ℕ) (text : List ℕ) (file : Option DiskFile) (s new : ReaderState)
    → (h : HasReadTo place file s) → OfFile (ReadsClosed place text) file
    → ((texts : List (List ℕ)) → HasRead texts s → HasRead (texts ++ text ∷ []) new)
    → HasReadTo (place + 1) file new
one_closed place text file s new h reads next = record {
  texts = h.texts ++ text ∷ [];
  has = next h.texts h.has;
  count = length-append h.texts (text ∷ []) ∙ ap (λ (n : ℕ). n + 1) h.count;
  are = more_are place h.texts text file h.are reads;
}

all_are : (place : ℕ) (texts : List (List ℕ)) (file : Option DiskFile)
    → OfFile (λ f. take place f.closed ≡ texts) file
    → OfFile (λ f. place ≡ length f.closed) file
    → OfFile (λ f. f.closed ≡ texts) file
all_are place texts None are all = tt
all_are place texts (Some f) are all =
    sym (take_all place f.closed (omega (arith, all))) ∙ are

pub all_closed : (place : ℕ) (file : Option DiskFile) (s : ReaderState)
    → HasReadTo place file s → OfFile (λ f. place ≡ length f.closed) file
    → HasReadClosed file s
all_closed place file s h all = record {
  texts = h.texts;
  has = h.has;
  are = all_are place h.texts file h.are all;
}

-- the chapters around one that is closed
closed_parts : (place : ℕ) (texts : List (List ℕ)) (text : List ℕ) (f : DiskFile)
    → take place f.closed ≡ texts → slice_get f.closed place ≡ Some text
    → texts_of (shown_of f)
    ≡ (texts ++ text ∷ []) ++ (drop (suc place) f.closed ++ f.octets ∷ [])
closed_parts place texts text f are reads =
    let front : take (suc place) f.closed ≡ texts ++ text ∷ [] =
    take_more f.closed place text reads ∙ ap (λ (ts : List (List ℕ)). ts ++ text ∷ []) are in
    ap (λ (ts : List (List ℕ)). ts ++ f.octets ∷ [])
    (sym (take-append-drop (suc place) f.closed)
    ∙ ap (λ (ts : List (List ℕ)). ts ++ drop (suc place) f.closed) front)
    ∙ append_assoc (texts ++ text ∷ []) (drop (suc place) f.closed) (f.octets ∷ [])

none_there : (xs : List (List ℕ)) (place : ℕ) (text : List ℕ) → xs ≡ []
    → slice_get xs place ≡ Some text → ⊥
none_there xs place text none is =
    none-some text (ap (λ (ts : List (List ℕ)). slice_get ts place) (sym none) ∙ is)

pub closed_refused : (place : ℕ) (text : List ℕ) (file : Option DiskFile) (s : ReaderState)
    → (h : HasReadTo place file s) → OfFile (ReadsClosed place text) file
    → IsRefused h.texts text s → OfFile (TellsNothingIn s.site) file
closed_refused place text None s h reads refused = tt
closed_refused place text (Some f) s h reads refused =
    let parts = closed_parts place h.texts text f h.are reads in
    record {
      unbegun = λ new. none_there f.closed place text new.closed reads;
      untold = λ events t.
          none-some t.reading
          (sym (front_refused s.site 1 (h.texts ++ text ∷ [])
          (drop (suc place) f.closed ++ f.octets ∷ []) nothing_read refused)
          ∙ ap (λ (ts : List (List ℕ)). read_from s.site 1 ts nothing_read) (sym parts)
          ∙ t.read);
    }

pub closed_named : (place : ℕ) (text : List ℕ) (file : Option DiskFile) (s : ReaderState)
    (fault : HistoryFault) → (h : HasReadTo place file s) → OfFile (ReadsClosed place text) file
    → Names s.site (length h.texts + 1) h.has.reading text fault
    → OfFile (NamesIn s.site (Refused fault)) file
closed_named place text None s fault h reads names = tt
closed_named place text (Some f) s fault h reads names = record {
  before = h.texts;
  text = text;
  others = drop (suc place) f.closed ++ f.octets ∷ [];
  texts =
      closed_parts place h.texts text f h.are reads
      ∙ append_assoc h.texts (text ∷ []) (drop (suc place) f.closed ++ f.octets ∷ []);
  reading = h.has.reading;
  read = h.has.read;
  names = names;
}

-- ---- the open chapter

-- nothing is written: what is read is the first chapter's first lines
record FirstAlone (s : ReaderState) (texts : List (List ℕ)) (octets : List ℕ) : Type 0 where
  none : texts ≡ []
  lines : octets ≡ text_of_lines (first_lines s.site 1 nothing_read.seal)

first_alone : (s : ReaderState) (texts : List (List ℕ)) (octets : List ℕ) (f : DiskFile)
    → HasRead texts s → AreFirst s octets f → FirstAlone s texts octets
first_alone s texts octets f has first =
    let count : length texts ≡ 0 = sym has.keeps.ends.count ∙ first.first in
    let none : texts ≡ [] = nil_from_length texts count in
    let nothing : nothing_read ≡ has.reading =
    same_Some nothing_read has.reading
    (ap (λ (ts : List (List ℕ)). read_from s.site 1 ts nothing_read) (sym none) ∙ has.read) in
    record {
      none = none;
      lines =
          first.lines
          ∙ ap (λ (n : ℕ). text_of_lines (first_lines s.site (n + 1) s.end.seal)) first.first
          ∙ ap (λ (seal : List ℕ). text_of_lines (first_lines s.site 1 seal))
          (has.keeps.ends.last ∙ ap (λ (r : HistoryRead). r.seal) (sym nothing));
    }

-- it is read, and has no rows
first_is_read : (s : ReaderState) (texts : List (List ℕ)) (octets : List ℕ)
    → FirstAlone s texts octets → read_from s.site 1 (texts ++ octets ∷ []) nothing_read
    ≡ Some (record nothing_read { unsealed = first_lines s.site 1 nothing_read.seal })
first_is_read s texts octets alone =
    ap (λ (ts : List (List ℕ)). read_from s.site 1 (ts ++ octets ∷ []) nothing_read) alone.none
    ∙ ap (λ (xs : List ℕ). read_from s.site 1 (xs ∷ []) nothing_read) alone.lines
    ∙ first_read s.site

-- what the reader read is what is shown
texts_are : (s new : ReaderState) (texts : List (List ℕ)) (octets : List ℕ) (f : DiskFile)
    (o : Option HistoryRead) → f.closed ≡ texts → f.octets ≡ octets
    → read_from s.site 1 (texts ++ octets ∷ []) nothing_read ≡ o
    → read_from s.site 1 (texts_of (shown_of f)) nothing_read ≡ o
texts_are s new texts octets f o closed same read =
    ap (λ (ts : List (List ℕ)). read_from s.site 1 (ts ++ f.octets ∷ []) nothing_read) closed
    ∙ ap (λ (xs : List ℕ). read_from s.site 1 (texts ++ xs ∷ []) nothing_read) same ∙ read

pub read_in : (file : Option DiskFile) (s new : ReaderState) (octets : List ℕ)
    (h : HasReadClosed file s) → OfFile (StandsFor s octets) file
    → ((texts : List (List ℕ)) → HasRead texts s → HasRead (texts ++ octets ∷ []) new)
    → new.site ≡ s.site → OfFile (IsReadIn s.site new.book) file
read_in None s new octets h stands reads site = tt
read_in (Some f) s new octets h stands reads site =
    let all = reads h.texts h.has in
    let read : read_from s.site 1 (h.texts ++ octets ∷ []) nothing_read ≡ Some all.reading =
    ap (λ (name : List ℕ). read_from name 1 (h.texts ++ octets ∷ []) nothing_read) (sym site)
    ∙ all.read in
    elim stands.is [
      | inl open_one ↦
          inr (record {
            events = all.reading.events;
            tells = record {
              reading = all.reading;
              read = texts_are s new h.texts octets f _ h.are open_one.same read;
              told = refl;
            };
            made = all.keeps.made;
          })
      | inr first ↦
          let alone = first_alone s h.texts octets f h.has first in
          let none : all.reading.events ≡ [] =
          ap (λ (r : HistoryRead). r.events)
          (same_Some all.reading _ (sym read ∙ first_is_read s h.texts octets alone)) in
          inl (record {
            new = record { closed = h.are ∙ alone.none; front = first.none };
            rows = rows_none new.book all.reading.events none all.keeps.made;
          })
    ]
  where
    rows_none : (b : Book) (events : _) → events ≡ [] → IsMadeOf b events → b.rows ≡ []
    rows_none b events none made = subst (IsMadeOf b) none made

pub tells_nothing : (file : Option DiskFile) (s : ReaderState) (octets : List ℕ)
    (h : HasReadClosed file s) → OfFile (StandsFor s octets) file
    → IsRefused h.texts octets s → OfFile (TellsNothingIn s.site) file
tells_nothing None s octets h stands refused = tt
tells_nothing (Some f) s octets h stands refused = elim stands.is [
  | inl open_one ↦ record {
    unbegun = λ new.
        open_one.begun (sym open_one.same ∙ new.front)
        (h.has.keeps.ends.count ∙ ap length (sym h.are ∙ new.closed));
    untold = λ events t.
        none-some t.reading
        (sym (texts_are s s h.texts octets f None h.are open_one.same refused) ∙ t.read);
  }
  | inr first ↦
      let alone = first_alone s h.texts octets f h.has first in
      absurd (none-some _ (sym refused ∙ first_is_read s h.texts octets alone))
]

pub names_in : (file : Option DiskFile) (s : ReaderState) (octets : List ℕ)
    (fault : HistoryFault) (h : HasReadClosed file s) → OfFile (StandsFor s octets) file
    → IsRefused h.texts octets s
    → Names s.site (length h.texts + 1) h.has.reading octets fault
    → OfFile (NamesIn s.site (Refused fault)) file
names_in None s octets fault h stands refused names = tt
names_in (Some f) s octets fault h stands refused names = elim stands.is [
  | inl open_one ↦ record {
    before = h.texts;
    text = octets;
    others = [];
    texts =
        ap (λ (ts : List (List ℕ)). ts ++ f.octets ∷ []) h.are
        ∙ ap (λ (xs : List ℕ). h.texts ++ xs ∷ []) open_one.same;
    reading = h.has.reading;
    read = h.has.read;
    names = names;
  }
  | inr first ↦
      let alone = first_alone s h.texts octets f h.has first in
      absurd (none-some _ (sym refused ∙ first_is_read s h.texts octets alone))
]

-- ---- the rows

pub rows_sent_in : (texts : List (List ℕ)) (s : ReaderState) → HasRead texts s
    → AllByRecursion IsSent s.book.rows
rows_sent_in texts s has =
    read_sent s.book has.reading.events has.keeps.made
    (events_asked s.site texts has.reading has.read)

pub rows_kept_in : (texts : List (List ℕ)) (s : ReaderState) → HasRead texts s
    → kept_rows s.book.rows ≡ s.book.rows
rows_kept_in texts s has =
    read_kept s.book has.reading.events has.keeps.made
    (events_asked s.site texts has.reading has.read)

pub rows_spelled_in : (texts : List (List ℕ)) (s : ReaderState) → HasRead texts s
    → CanBeSpelled s.book.rows
rows_spelled_in texts s has =
    read_spelled s.book has.reading.events has.keeps.made
    (events_asked s.site texts has.reading has.read)

-- ---- what takes the place

holds_read : (f mid g : DiskFile) (s new : ReaderState) (octets left : List ℕ) (whole : ℕ)
    (h : HasReadClosed (Some f) s)
    → ((texts : List (List ℕ)) → HasRead texts s → HasRead (texts ++ octets ∷ []) new)
    → new.site ≡ s.site → AreWholeLines whole octets → left ≡ take whole octets
    → IsUntouched f mid → Renews left mid g
    → HoldsRows s.site new.book.rows false new.end g
holds_read f mid g s new octets left whole h reads site lines cut stays renewed =
    let all = reads h.texts h.has in
    let front : List ℕ = take whole octets in
    let read : read_from s.site 1 (h.texts ++ octets ∷ []) nothing_read ≡ Some all.reading =
    ap (λ (name : List ℕ). read_from name 1 (h.texts ++ octets ∷ []) nothing_read) (sym site)
    ∙ all.read in
    let closed : g.closed ≡ h.texts = renewed.0 ∙ stays.closed ∙ h.are in
    record {
      at = record { closed = h.texts; front = front };
      tells = record {
        tells = record {
          reading = record all.reading { torn = [] };
          read = history_cut s.site h.texts whole octets all.reading lines read;
          told = sym (made_events new.book all.reading.events all.keeps.made);
        };
        whole = refl;
      };
      there = inl (record {
        closed = closed;
        front = record { rest = []; parts = renewed.1.synced ∙ cut ∙ sym (append-nil front) };
      });
      settled = λ never. record {
        closed = closed;
        open_one = record {
          octets = renewed.1.octets ∙ cut;
          synced = renewed.1.synced ∙ cut;
          sound = renewed.1.sound;
        };
        ends = subst (λ (n : ℕ). EndsAt n all.reading.seal all.reading.unsealed new.end)
            (length-append h.texts (octets ∷ [])) all.keeps.ends;
        time = all.keeps.time;
      };
    }

pub holds_read_in : (old mid g : Option DiskFile) (s new : ReaderState) (octets left : List ℕ)
    (whole : ℕ) (h : HasReadClosed old s)
    → ((texts : List (List ℕ)) → HasRead texts s → HasRead (texts ++ octets ∷ []) new)
    → new.site ≡ s.site → AreWholeLines whole octets → left ≡ take whole octets
    → OfFiles IsUntouched old mid → OfFiles (Renews left) mid g
    → OfFile (HoldsRows s.site new.book.rows false new.end) g
holds_read_in None None None s new octets left whole h reads site lines cut stays renewed = tt
holds_read_in (Some f) (Some mid) (Some g) s new octets left whole h reads site lines cut stays
    renewed = holds_read f mid g s new octets left whole h reads site lines cut stays renewed
holds_read_in None None (Some g) s new octets left whole h reads site lines cut stays renewed =
    absurd renewed
holds_read_in None (Some mid) g s new octets left whole h reads site lines cut stays renewed =
    absurd stays
holds_read_in (Some f) None g s new octets left whole h reads site lines cut stays renewed =
    absurd stays
holds_read_in (Some f) (Some mid) None s new octets left whole h reads site lines cut stays
    renewed = absurd renewed

-- ---- whole lines that stay

-- a front of whole lines is one of what takes the place
front_stays : (s : ReaderState) (octets front : List ℕ) (whole : ℕ) (f : DiskFile)
    → StandsFor s octets f → AreWholeLines whole octets → unfinished front ≡ []
    → BeginsWith front f.synced → BeginsWith front (take whole octets)
front_stays s octets front whole f stands lines closed begins =
    let here : BeginsWith front f.octets =
    begins_then front f.synced f.octets begins stands.front in
    elim stands.is [
      | inl open_one ↦
          let there : BeginsWith front octets = subst (BeginsWith front) open_one.same here in
          front_of_cut whole front octets there
          (short_front front there.rest octets whole lines there.parts closed)
      | inr first ↦
          let none : front ≡ [] = no_front front here.rest (sym here.parts ∙ first.none) in
          subst (λ (xs : List ℕ). BeginsWith xs (take whole octets)) (sym none)
          (record { rest = take whole octets; parts = refl })
    ]
  where
    no_front : (a b : List ℕ) → a ++ b ≡ [] → a ≡ []
    no_front [] b is = refl
    no_front (x ∷ a) b is = absurd (cc is)

lines_stay : (s : ReaderState) (octets left : List ℕ) (whole : ℕ) (f mid g : DiskFile)
    → StandsFor s octets f → AreWholeLines whole octets → left ≡ take whole octets
    → IsUntouched f mid → KeepsEither left mid g → KeepsWholeLines f g
lines_stay s octets left whole f mid g stands lines cut stays keeps front closed begins = record {
  more = keeps.more;
  moments = keeps.moments ∙ ap (λ (ms : List Moment). ms ++ keeps.more) stays.moments;
  each = all_each (GoesOnEither mid left) (GoesOn here) by_either keeps.more keeps.each;
  last = by_either (moment_of g) keeps.last;
}
  where
    here : Moment
    here = record { closed = f.closed; front = front }

    by_either : (x : Moment) → GoesOnEither mid left x → GoesOn here x
    by_either x (inl goes) =
        goes_then here (moment_of mid) x
        (inl (record {
          closed = stays.closed;
          front = subst (BeginsWith front) (sym stays.synced) begins;
        })) goes
    by_either x (inr goes) =
        goes_then here (record { closed = mid.closed; front = left }) x
        (inl (record {
          closed = stays.closed;
          front = subst (BeginsWith front) (sym cut)
              (front_stays s octets front whole f stands lines closed begins);
        })) goes

-- .. where the chapters are read, and then these octets take the place of the open one's
pub lines_stay_in : (s : ReaderState) (octets left : List ℕ) (whole : ℕ)
    (old mid g : Option DiskFile) → OfFile (StandsFor s octets) old → AreWholeLines whole octets
    → left ≡ take whole octets → OfFiles IsUntouched old mid → OfFiles (KeepsEither left) mid g
    → OfFiles KeepsWholeLines old g
lines_stay_in s octets left whole None None None stands lines cut stays keeps = tt
lines_stay_in s octets left whole (Some f) (Some mid) (Some g) stands lines cut stays keeps =
    lines_stay s octets left whole f mid g stands lines cut stays keeps
lines_stay_in s octets left whole None None (Some g) stands lines cut stays keeps = absurd keeps
lines_stay_in s octets left whole None (Some mid) g stands lines cut stays keeps = absurd stays
lines_stay_in s octets left whole (Some f) None g stands lines cut stays keeps = absurd stays
lines_stay_in s octets left whole (Some f) (Some mid) None stands lines cut stays keeps =
    absurd keeps

-- a file to which nothing is done keeps its lines
pub lines_same : (file : Option DiskFile) → OfFiles KeepsWholeLines file file
lines_same None = tt
lines_same (Some file) = λ front closed begins.
    keeps_none _ file (inl (record { closed = refl; front = begins }))

pub lines_read : (old new : Option DiskFile) → OfFiles IsUntouched old new
    → OfFiles KeepsWholeLines old new
lines_read None None stays = tt
lines_read (Some old) (Some new) stays = λ front closed begins. record {
  more = [];
  moments = stays.moments ∙ sym (append-nil old.moments);
  each = tt;
  last = inl (record {
    closed = stays.closed;
    front = subst (BeginsWith front) (sym stays.synced) begins;
  });
}
lines_read None (Some new) stays = absurd stays
lines_read (Some old) None stays = absurd stays

-- .. and through a call that keeps what is synced
pub lines_then : (a b c : Option DiskFile) → OfFiles KeepsWholeLines a b → OfFiles Keeps b c
    → OfFiles KeepsWholeLines a c
lines_then None None None one two = tt
lines_then (Some a) (Some b) (Some c) one two = λ front closed begins.
    keeps_on (record { closed = a.closed; front = front }) a b c (one front closed begins) two
lines_then None None (Some c) one two = absurd two
lines_then None (Some b) c one two = absurd one
lines_then (Some a) None c one two = absurd one
lines_then (Some a) (Some b) None one two = absurd two
