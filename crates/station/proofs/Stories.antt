-- A peer's story in its course: it grows by one happening at a time.
use Rattle.std.proofs.Common.{◌≡◌, ℕ, List, [], ◌∷◌, ◌++◌, map, Option}
use Rattle.std.proofs.Common.{Some, None, refl, ap, sym, ◌∙◌, append_assoc, append-nil}
use Rattle.site_base.specs.declared.row.Row.{Row}
use Rattle.site_base.specs.Configured.{Configured}
use Rattle.app_message.specs.Telegram.{Telegram}
use Rattle.site_book.specs.Book.{Book, whole_book}
use Rattle.peer_talk.specs.Exchanges.{Asked, outcome_given, rows_made, signed_by, signed_on_after}
use Rattle.peer_talk.specs.Talks.{GoesOn}
use Rattle.peer_talk.specs.Text.{messages_text, peer_after}
use Rattle.peer_talk.proofs.Courses.{on_then}
use Rattle.station.specs.Notices.{notices_of, octets_of, row_notice}
use Rattle.station.specs.Peers.{row_off}
use Rattle.station.specs.Sessions.{Session, opening_text}
use Rattle.station.specs.Stories.{AreAsked, Happening, IsAskedBy, Passes, Speaks, asked_in}
use Rattle.station.specs.Stories.{messages_in}
use Rattle.station.specs.Stories.{notices_due, notices_in, peer_in, reply_to_one, rows_in, said_in}
use Rattle.station.specs.Stories.{on_behind, signed_in, told_in}
use Rattle.station.proofs.Notices.{nobody_noticed}

-- ---- one happening more

pub told-more : (c : Configured) (rows : List Row) (peer : Option (List ℕ))
    (story : List Happening) (h : Happening)
    → told_in c rows peer (story ++ h ∷ [])
    ≡ told_in c rows peer story ++ told_in c (rows ++ rows_in story) (peer_in peer story) (h ∷ [])
told-more c rows peer [] h = ap (λ rs. told_in c rs peer (h ∷ [])) (sym (append-nil rows))
told-more c rows peer (Speaks m asked ∷ story) h =
    let behind = rows ++ rows_made asked in
    let q = peer_after peer m.from in
    let front = reply_to_one peer m asked ++ opening_text peer m.from (whole_book c behind) in
    let last = λ (rs : List Row). told_in c rs (peer_in q story) (h ∷ []) in
    ap (λ t. front ++ t) (told-more c behind q story h)
    ∙ sym (append_assoc front (told_in c behind q story) (last (behind ++ rows_in story)))
    ∙ ap (λ rs. (front ++ told_in c behind q story) ++ last rs)
    (append_assoc rows (rows_made asked) (rows_in story))
told-more c rows peer (Passes r ∷ story) h =
    let behind = rows ++ r ∷ [] in
    let front = octets_of (row_notice peer r) in
    let last = λ (rs : List Row). told_in c rs (peer_in peer story) (h ∷ []) in
    ap (λ t. front ++ t) (told-more c behind peer story h)
    ∙ sym (append_assoc front (told_in c behind peer story) (last (behind ++ rows_in story)))
    ∙ ap (λ rs. (front ++ told_in c behind peer story) ++ last rs)
    (append_assoc rows (r ∷ []) (rows_in story))

pub rows-more : (story : List Happening) (h : Happening)
    → rows_in (story ++ h ∷ []) ≡ rows_in story ++ rows_in (h ∷ [])
rows-more [] h = refl
rows-more (Speaks m asked ∷ story) h =
    ap (λ rs. rows_made asked ++ rs) (rows-more story h)
    ∙ sym (append_assoc (rows_made asked) (rows_in story) (rows_in (h ∷ [])))
rows-more (Passes r ∷ story) h = ap (λ rs. r ∷ rs) (rows-more story h)

pub peer-more : (peer : Option (List ℕ)) (story : List Happening) (h : Happening)
    → peer_in peer (story ++ h ∷ []) ≡ peer_in (peer_in peer story) (h ∷ [])
peer-more peer [] h = refl
peer-more peer (Speaks m asked ∷ story) h = peer-more (peer_after peer m.from) story h
peer-more peer (Passes r ∷ story) h = peer-more peer story h

pub asked-more : (story : List Happening) (h : Happening)
    → asked_in (story ++ h ∷ []) ≡ asked_in story ++ asked_in (h ∷ [])
asked-more [] h = refl
asked-more (Speaks m asked ∷ story) h =
    ap (λ a. asked ++ a) (asked-more story h)
    ∙ sym (append_assoc asked (asked_in story) (asked_in (h ∷ [])))
asked-more (Passes r ∷ story) h = asked-more story h

pub messages-more : (story : List Happening) (h : Happening)
    → messages_in (story ++ h ∷ []) ≡ messages_in story ++ messages_in (h ∷ [])
messages-more [] h = refl
messages-more (Speaks m asked ∷ story) h = ap (λ ms. m ∷ ms) (messages-more story h)
messages-more (Passes r ∷ story) h = messages-more story h

pub are_asked-more : (story : List Happening) (h : Happening) → AreAsked story
    → AreAsked (h ∷ []) → AreAsked (story ++ h ∷ [])
are_asked-more [] h each one = one
are_asked-more (Speaks m asked ∷ story) h each one =
    (each.0, are_asked-more story h each.1 one)
are_asked-more (Passes r ∷ story) h each one = are_asked-more story h each one

pub said-more : (peer : Option (List ℕ)) (story : List Happening) (h : Happening)
    → said_in peer (story ++ h ∷ []) ≡ said_in peer story ++ said_in (peer_in peer story) (h ∷ [])
said-more peer [] h = refl
said-more peer (Speaks m asked ∷ story) h =
    let q = peer_after peer m.from in
    ap (λ t. reply_to_one peer m asked ++ t) (said-more q story h)
    ∙ sym (append_assoc (reply_to_one peer m asked) (said_in q story)
    (said_in (peer_in q story) (h ∷ [])))
said-more peer (Passes r ∷ story) h = said-more peer story h

pub signed-append : (on : Option ℕ) (a b : List Asked)
    → signed_on_after on (a ++ b) ≡ signed_on_after (signed_on_after on a) b
signed-append on [] b = refl
signed-append on (x ∷ a) b = signed-append (signed_by x.actor x.event x.outcome on) a b

-- the till that is signed on after one happening more
signed-more : (on : Option ℕ) (story : List Happening) (h : Happening)
    → signed_in on (story ++ h ∷ []) ≡ signed_in (signed_in on story) (h ∷ [])
signed-more on [] h = refl
signed-more on (Speaks m asked ∷ story) h = signed-more (signed_on_after on asked) story h
signed-more on (Passes r ∷ story) h = signed-more (on_behind (row_off r) on) story h

-- ---- own rows are no news to a peer

-- each row that a message of the story made is none that its peer is told
abbrev pub AreOwnQuiet : Option (List ℕ) → List Happening → Type 0
AreOwnQuiet peer [] = Unit {0}
AreOwnQuiet peer (Speaks m asked ∷ story) =
    (notices_of (peer_after peer m.from) (rows_made asked) ≡ [])
    × AreOwnQuiet (peer_after peer m.from) story
AreOwnQuiet peer (Passes r ∷ story) = AreOwnQuiet peer story

pub quiet-more : (peer : Option (List ℕ)) (story : List Happening) (h : Happening)
    → AreOwnQuiet peer story → AreOwnQuiet (peer_in peer story) (h ∷ [])
    → AreOwnQuiet peer (story ++ h ∷ [])
quiet-more peer [] h quiet one = one
quiet-more peer (Speaks m asked ∷ story) h quiet one =
    (quiet.0, quiet-more (peer_after peer m.from) story h quiet.1 one)
quiet-more peer (Passes r ∷ story) h quiet one = quiet-more peer story h quiet one

notices_of-append : (node : Option (List ℕ)) (a b : List Row)
    → notices_of node (a ++ b) ≡ notices_of node a ++ notices_of node b
notices_of-append _ [] b = refl
notices_of-append node (r ∷ a) b =
    ap (λ t. octets_of (row_notice node r) ++ t) (notices_of-append node a b)
    ∙ sym (append_assoc (octets_of (row_notice node r)) (notices_of node a) (notices_of node b))

-- behind its first message a peer is told the notice of each row
all_due : (c : Configured) (rows : List Row) (node : List ℕ) (story : List Happening)
    → AreOwnQuiet (Some node) story
    → notices_in c rows (Some node) story ≡ notices_of (Some node) (rows_in story)
all_due c rows node [] quiet = refl
all_due c rows node (Speaks m asked ∷ story) quiet =
    all_due c (rows ++ rows_made asked) node story quiet.1
    ∙ sym (notices_of-append (Some node) (rows_made asked) (rows_in story)
    ∙ ap (λ t. t ++ notices_of (Some node) (rows_in story)) quiet.0)
all_due c rows node (Passes r ∷ story) quiet =
    ap (λ t. octets_of (row_notice (Some node) r) ++ t)
    (all_due c (rows ++ r ∷ []) node story quiet)

pub notices_are_due : (c : Configured) (rows : List Row) (story : List Happening)
    → AreOwnQuiet None story → notices_in c rows None story ≡ notices_due c rows story
notices_are_due c rows [] quiet = refl
notices_are_due c rows (Speaks m asked ∷ story) quiet =
    let behind = rows ++ rows_made asked in
    ap (λ t. opening_text None m.from (whole_book c behind) ++ t)
    (all_due c behind m.from story quiet.1)
notices_are_due c rows (Passes r ∷ story) quiet =
    ap (λ t. t ++ notices_in c (rows ++ r ∷ []) None story) (ap octets_of (nobody_noticed r))
    ∙ notices_are_due c (rows ++ r ∷ []) story quiet

-- ---- a session in its course

-- a session that lasts: these messages of it were answered, and this is its story so far
pub record IsLiving (c : Configured) (before : List Row) (had : List ℕ) (answered : List Telegram)
    (b : Book) (x : Session) : Type 0 where
  pub story : List Happening
  pub config : b.config ≡ c
  pub rows : b.rows ≡ before ++ rows_in story
  pub told : had ++ x.owed ≡ told_in c before None story
  pub peer : x.talk.peer ≡ peer_in None story
  pub signed : x.talk.on ≡ signed_in None story
  pub said : GoesOn None x.talk.peer answered (asked_in story) (said_in None story)
  pub messages : messages_in story ≡ answered
  pub asked : AreAsked story
  pub quiet : AreOwnQuiet None story
  pub lasts : x.end ≡ None

-- what is owed grows by what a happening tells
grown : (c : Configured) (before : List Row) (had owed text : List ℕ) (story : List Happening)
    (h : Happening)
    → had ++ owed ≡ told_in c before None story
    → text ≡ told_in c (before ++ rows_in story) (peer_in None story) (h ∷ [])
    → had ++ (owed ++ text) ≡ told_in c before None (story ++ h ∷ [])
grown c before had owed text story h told is =
    sym (append_assoc had owed text)
    ∙ ap (λ t. t ++ text) told
    ∙ ap (λ t. told_in c before None story ++ t) is
    ∙ sym (told-more c before None story h)

-- a row passes
pub passes : (c : Configured) (before : List Row) (had : List ℕ) (ms : List Telegram)
    (b b' : Book) (x x' : Session) (r : Row)
    → (l : IsLiving c before had ms b x)
    → b'.config ≡ b.config → b'.rows ≡ b.rows ++ r ∷ []
    → x'.talk.peer ≡ x.talk.peer → x'.talk.on ≡ on_behind (row_off r) x.talk.on
    → x'.end ≡ None → x'.owed ≡ x.owed ++ octets_of (row_notice x.talk.peer r)
    → IsLiving c before had ms b' x'
passes c before had ms b b' x x' r l same more peer on lasts owed =
    let h = Passes r in
    record {
      story = l.story ++ h ∷ [];
      config = same ∙ l.config;
      rows =
          more ∙ ap (λ rs. rs ++ r ∷ []) l.rows
          ∙ append_assoc before (rows_in l.story) (r ∷ [])
          ∙ ap (λ rs. before ++ rs) (sym (rows-more l.story h));
      told =
          ap (λ o. had ++ o) owed
          ∙ grown c before had x.owed (octets_of (row_notice x.talk.peer r)) l.story h l.told
          (ap (λ q. octets_of (row_notice q r)) l.peer
          ∙ sym (append-nil (octets_of (row_notice (peer_in None l.story) r))));
      peer = peer ∙ l.peer ∙ sym (peer-more None l.story h);
      signed = on ∙ ap (on_behind (row_off r)) l.signed ∙ sym (signed-more None l.story h);
      said =
          let asked : asked_in (l.story ++ h ∷ []) ≡ asked_in l.story =
          asked-more l.story h ∙ append-nil (asked_in l.story) in
          let said : said_in None (l.story ++ h ∷ []) ≡ said_in None l.story =
          said-more None l.story h ∙ append-nil (said_in None l.story) in
          rw (asked, said, peer) l.said;
      messages = messages-more l.story h ∙ append-nil (messages_in l.story) ∙ l.messages;
      asked = are_asked-more l.story h l.asked tt;
      quiet = quiet-more None l.story h l.quiet tt;
      lasts = lasts;
    }

-- what is said to one message
one_said : (p q : Option (List ℕ)) (m : Telegram) (asked : List Asked) (text : List ℕ)
    → GoesOn p q (m ∷ []) asked text → text ≡ reply_to_one p m asked
one_said p q m asked text on =
    let whole = on.text [] [] [] in
    sym (ap (λ os. messages_text [] p (m ∷ []) os) (sym (append-nil (map outcome_given asked)))
    ∙ whole ∙ append-nil text)

-- the peer speaks, and goes on
-- what opens a session tells of the site alone, whatever the book has forgotten
opens_alike : (p : Option (List ℕ)) (from : List ℕ) (b : Book)
    → opening_text p from b ≡ opening_text p from (whole_book b.config b.rows)
opens_alike None from b = refl
opens_alike (Some peer) from b = refl

pub speaks : (c : Configured) (before : List Row) (had : List ℕ) (ms : List Telegram)
    (b b' : Book) (x x' : Session) (m : Telegram) (asked : List Asked) (text : List ℕ)
    → (l : IsLiving c before had ms b x)
    → GoesOn x.talk.peer (peer_after x.talk.peer m.from) (m ∷ []) asked text
    → b'.config ≡ b.config → b'.rows ≡ b.rows ++ rows_made asked
    → x'.talk.peer ≡ peer_after x.talk.peer m.from → x'.end ≡ None
    → x'.owed ≡ x.owed ++ (text ++ opening_text x.talk.peer m.from b')
    → notices_of (peer_after x.talk.peer m.from) (rows_made asked) ≡ [] → IsAskedBy m asked
    → x'.talk.on ≡ signed_on_after x.talk.on asked
    → IsLiving c before had (ms ++ m ∷ []) b' x'
speaks c before had ms b b' x x' m asked text l on same more peer lasts owed quiet asks signed =
    let h = Speaks m asked in
    let p = x.talk.peer in
    let behind = (before ++ rows_in l.story) ++ rows_made asked in
    let rows : b'.rows ≡ behind = more ∙ ap (λ rs. rs ++ rows_made asked) l.rows in
    let opening : opening_text p m.from b' ≡ opening_text p m.from (whole_book c behind) =
    opens_alike p m.from b'
    ∙ ap (λ cf. opening_text p m.from (whole_book cf b'.rows)) (same ∙ l.config)
    ∙ ap (λ rs. opening_text p m.from (whole_book c rs)) rows in
    let replied = one_said p (peer_after p m.from) m asked text on in
    record {
      story = l.story ++ h ∷ [];
      config = same ∙ l.config;
      rows =
          rows
          ∙ append_assoc before (rows_in l.story) (rows_made asked)
          ∙ ap (λ rs. before ++ (rows_in l.story ++ rs)) (sym (append-nil (rows_made asked)))
          ∙ ap (λ rs. before ++ rs) (sym (rows-more l.story h));
      told =
          ap (λ o. had ++ o) owed
          ∙ grown c before had x.owed (text ++ opening_text p m.from b') l.story h l.told
          (ap (λ t. text ++ t) opening
          ∙ ap (λ t. t ++ opening_text p m.from (whole_book c behind)) replied
          ∙ ap (λ q. reply_to_one q m asked ++ opening_text q m.from (whole_book c behind)) l.peer
          ∙ sym (append-nil (reply_to_one (peer_in None l.story) m asked
          ++ opening_text (peer_in None l.story) m.from (whole_book c behind))));
      peer =
          peer ∙ ap (λ q. peer_after q m.from) l.peer
          ∙ sym (peer-more None l.story h);
      signed =
          signed ∙ ap (λ o. signed_on_after o asked) l.signed
          ∙ sym (signed-more None l.story h);
      said =
          let all : asked_in (l.story ++ h ∷ []) ≡ asked_in l.story ++ asked =
          asked-more l.story h ∙ ap (λ a. asked_in l.story ++ a) (append-nil asked) in
          let said : said_in None (l.story ++ h ∷ []) ≡ said_in None l.story ++ text =
          said-more None l.story h
          ∙ ap (λ t. said_in None l.story ++ t)
          (append-nil (reply_to_one (peer_in None l.story) m asked)
          ∙ ap (λ q. reply_to_one q m asked) (sym l.peer) ∙ sym replied) in
          rw (all, said, peer)
          (on_then None p (peer_after p m.from) ms (m ∷ []) (asked_in l.story) asked
          (said_in None l.story) text l.said on);
      messages = messages-more l.story h ∙ ap (λ ns. ns ++ m ∷ []) l.messages;
      asked = are_asked-more l.story h l.asked (asks, tt);
      quiet =
          quiet-more None l.story h l.quiet
          (ap (λ q. notices_of (peer_after q m.from) (rows_made asked)) (sym l.peer) ∙ quiet, tt);
      lasts = lasts;
    }
