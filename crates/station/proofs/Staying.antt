-- What a peer was told stays the front of its text.
use Rattle.std.proofs.Common.{◌≡◌, ◌≢◌, ℕ, ◌==◌, Bool, true, false, List, [], ◌∷◌, ◌++◌, Option}
use Rattle.std.proofs.Common.{Some, None, refl, ap, sym, subst, ◌∙◌, append_assoc, append-nil}
use Rattle.std.proofs.Common.{take, drop, take-append-drop}
use Rattle.std.proofs.Math.Seq.{take-nil}
use Rattle.std.specs.Prelude.{if◌then◌else◌, is_none, length, nat_lt, option_map}
use Rattle.site_base.specs.declared.row.Row.{Row}
use Rattle.conversation.specs.Books.{outcome_at, with_outcome}
use Rattle.device_map.proofs.Results.{equal}
use Rattle.site_book.specs.Book.{Book}
use Rattle.peer_talk.specs.Talks.{without_on}
use Rattle.station.specs.declared.peer_end.PeerEnd.{PeerEnd}
use Rattle.station.specs.declared.peer_end.PeerEnd.TheVariants as ends
use Rattle.station.specs.declared.sizes.TheConstants.{NOTICE_LIMIT}
use Rattle.station.specs.Laws.{Begins, WhatWasToldStays}
use Rattle.station.specs.Listening.{listener}
use Rattle.station.specs.Moves.{StationState, admits_at, finish_at, hear_from, rows_since, take_by}
use Rattle.station.specs.Moves.{with_book, with_turn}
use Rattle.station.specs.Notices.{row_notice}
use Rattle.station.specs.Peers.{forget_till, peer_at, row_off, tell_notice, tell_row, tell_rows}
use Rattle.station.specs.Peers.{with_notices, with_peer}
use Rattle.station.specs.Reads.{owed_at, owed_to}
use Rattle.station.specs.Runs.{Arrives, EndsRelease, Finishes, Forgets, Leaves, Loses, Move, Says}
use Rattle.station.specs.Runs.{Stays, Takes, after_move, arrive, stays_with, taken_with}
use Rattle.station.specs.Runs.{text_to}
use Rattle.station.specs.Sessions.{Grants, Session, finish, hear, is_read, opening_session}
use Rattle.station.specs.Sessions.{without_till}
use Rattle.station.proofs.Courses.{key_taken, untaken}
use Rattle.station.proofs.Keeping.{Acts, Input, Keeps, Leads, NoMore, Piece, after_input}
use Rattle.station.proofs.Keeping.{heard_keeps, key_of, lost, moved_keeps, own_acts, read_lasts}
use Rattle.station.proofs.Keeping.{release_ended, turn_at}
use Rattle.station.proofs.Peers.{other_key, peer_at-map, peer_at-other, peer_at-same}

-- ---- fronts

begins_same : (o : List ℕ) → Begins o o
begins_same o = record { rest = []; parts = sym (append-nil o) }

begins_more : (o a more : List ℕ) → Begins o a → Begins o (a ++ more)
begins_more o a more b = record {
  rest = b.rest ++ more;
  parts = ap (λ t. t ++ more) b.parts ∙ append_assoc o b.rest more;
}

begins_then : (a b c : List ℕ) → Begins a b → Begins b c → Begins a c
begins_then a b c one two = record {
  rest = one.rest ++ two.rest;
  parts = two.parts ∙ ap (λ t. t ++ two.rest) one.parts ∙ append_assoc a one.rest two.rest;
}

begins_behind : (front a b : List ℕ) → Begins a b → Begins (front ++ a) (front ++ b)
begins_behind front a b one = record {
  rest = one.rest;
  parts = ap (λ t. front ++ t) one.parts ∙ sym (append_assoc front a one.rest);
}

-- ---- a session

-- a turn only adds to what is owed
owes : (o : List ℕ) → Keeps (λ t. Begins o t.session.owed)
owes o = record {
  serves = λ from t lasts b. b;
  asks = λ memory m actor event t lasts meant spoken b. b;
  tells = λ text t lasts b. begins_more o t.session.owed text b;
  ends = λ end t lasts b. b;
}

-- .. and so do notices
noticed_owed : (o : List ℕ) (n : Option (List ℕ)) (x : Session) → Begins o x.owed
    → Begins o (tell_notice n x).owed
noticed_owed o None x b = b
noticed_owed o (Some octets) x b = by_test (nat_lt NOTICE_LIMIT (length x.owed))
  where
    by_test : (behind : Bool)
        → Begins o (if behind then record x { end = Some ends.Behind }
        else record x { owed = x.owed ++ octets }).owed
    by_test true = b
    by_test false = begins_more o x.owed octets b

forgotten_owed : (off : Option ℕ) (x : Session) → (forget_till off x).owed ≡ x.owed
forgotten_owed None x = refl
forgotten_owed (Some t) x = by_end (is_none x.end)
  where
    by_end : (lasts : Bool)
        → (if lasts
        then record x { talk = record x.talk { on = without_on t x.talk.on } }
        else x).owed ≡ x.owed
    by_end true = refl
    by_end false = refl

told_owed : (o : List ℕ) (rows : List Row) (x : Session) → Begins o x.owed
    → Begins o (tell_rows rows x).owed
told_owed o [] x b = b
told_owed o (r ∷ rows) x b =
    let noticed = tell_notice (row_notice (listener x.end x.talk.peer) r) x in
    told_owed o rows (tell_row r x)
    (subst (Begins o) (sym (forgotten_owed (row_off r) noticed))
    (noticed_owed o (row_notice (listener x.end x.talk.peer) r) x b))

told_slot : (o : List ℕ) (rows : List Row) (y : Option Session) → Begins o (owed_to y)
    → Begins o (owed_to (option_map (tell_rows rows) y))
told_slot o rows None b = b
told_slot o rows (Some x) b = told_owed o rows x b

-- ---- the peer of a key

-- what it is owed begins so
abbrev Owes : ℕ → List ℕ → StationState → Type 0
Owes k o s = Begins o (owed_at s k)

booked_owes : (k : ℕ) (o : List ℕ) (b : Book) (s : StationState) → Owes k o s
    → Owes k o (with_book b s)
booked_owes k o b s owes =
    let rows = rows_since s.book b in
    subst (λ y. Begins o (owed_to y))
    (sym (peer_at-map (option_map (tell_rows rows)) k s.peers refl))
    (told_slot o rows (peer_at s.peers k) owes)

owes_acts : (k : ℕ) (o : List ℕ) (s : StationState) → Owes k o s → Acts (Owes k o) s
owes_acts k o = own_acts (Owes k o) (record {
  asks = λ memory actor event s own owes.
      booked_owes k o (with_outcome actor event (outcome_at memory s.book actor event) s.book) s
      owes;
  leaves = λ t s owes. booked_owes k o (without_till (Some t) s.book) s owes;
})

-- another in another slot
other_owes : (k j : ℕ) (o : List ℕ) (y : Option Session) (peers : List (Option Session)) → k ≢ j
    → Begins o (owed_to (peer_at peers k)) → Begins o (owed_to (peer_at (with_peer j y peers) k))
other_owes k j o y peers other owes =
    subst (λ x. Begins o (owed_to x)) (sym (peer_at-other j k y peers other)) owes

-- a move of another key
other_leads : (k j : ℕ) (o : List ℕ) (s : StationState) → k ≢ j → Owes k o s
    → Leads (Owes k o) j s
other_leads k j o s other owes = record {
  stays = owes;
  comes = λ door none place.
      other_owes k j o (Some (opening_session door)) s.peers other owes;
  turns = λ input x there lasts.
      let t = after_input (admits_at j x.door s) input (turn_at s x) in
      let rows = rows_since s.book t.book in
      other_owes k j o (Some t.session) (with_notices rows s.peers) other
      (subst (λ y. Begins o (owed_to y))
      (sym (peer_at-map (option_map (tell_rows rows)) k s.peers refl))
      (told_slot o rows (peer_at s.peers k) owes));
  takes = λ n x there.
      other_owes k j o (Some (record x { owed = drop n x.owed })) s.peers other owes;
  leaves = λ later x there over still. other_owes k j o None later.peers other still;
}

-- its own turn
own_turn : (k : ℕ) (s : StationState) (x : Session) (input : Input) → peer_at s.peers k ≡ Some x
    → x.end ≡ None
    → Owes k x.owed (with_turn k (after_input (admits_at k x.door s) input (turn_at s x)) s)
own_turn k s x input there lasts =
    let admits = admits_at k x.door s in
    let t = after_input admits input (turn_at s x) in
    subst (λ y. Begins x.owed (owed_to y))
    (sym (peer_at-same k (Some t.session) (with_notices (rows_since s.book t.book) s.peers)))
    (heard_keeps (owes x.owed) admits input (turn_at s x) lasts (begins_same x.owed)
    (λ piece. begins_same x.owed))

own_says : (k : ℕ) (memory : Grants) (octets : List ℕ) (s : StationState) (y : Option Session)
    → peer_at s.peers k ≡ y → Owes k (owed_to y) (hear_from memory k octets y s)
own_says k memory octets s None there = record { rest = owed_at s k; parts = refl }
own_says k memory octets s (Some x) there = by_test (is_read x) refl
  where
    by_test : (b : Bool) → is_read x ≡ b
        → Owes k x.owed (if b
        then with_turn k (hear (admits_at k x.door s) memory octets (turn_at s x)) s
        else s)
    by_test true read = own_turn k s x (Piece memory octets) there (read_lasts x read)
    by_test false read =
        subst (λ y. Begins x.owed (owed_to y)) (sym there) (begins_same x.owed)

own_ends : (k : ℕ) (s : StationState) (y : Option Session) → peer_at s.peers k ≡ y
    → Owes k (owed_to y) (finish_at k y s)
own_ends k s None there = record { rest = owed_at s k; parts = refl }
own_ends k s (Some x) there = by_end x.end refl
  where
    by_end : (e : Option PeerEnd) → x.end ≡ e
        → Owes k x.owed (if is_none e then with_turn k (finish (turn_at s x)) s else s)
    by_end None lasts = own_turn k s x NoMore there lasts
    by_end (Some end) over =
        subst (λ y. Begins x.owed (owed_to y)) (sym there) (begins_same x.owed)

-- it comes, or is there
own_comes : (k : ℕ) (door : Option ℕ) (s : StationState) (y : Option Session)
    → peer_at s.peers k ≡ y → Owes k (owed_to y) (arrive k door s)
own_comes k door s None there = record { rest = owed_at (arrive k door s) k; parts = refl }
own_comes k door s (Some x) there =
    subst (Owes k x.owed) (sym (key_taken k door s x there))
    (subst (λ y. Begins x.owed (owed_to y)) (sym there) (begins_same x.owed))

-- what it takes and is owed then is what it was owed
own_takes : (k n : ℕ) (s : StationState) (y : Option Session) → peer_at s.peers k ≡ y
    → take n (owed_to y) ++ owed_at (take_by k n y s) k ≡ owed_to y
own_takes k n s None there = rw (take-nil {A = ℕ} n) (ap owed_to there)
own_takes k n s (Some x) there =
    ap (λ y. take n x.owed ++ owed_to y)
    (peer_at-same k (Some (record x { owed = drop n x.owed })) s.peers)
    ∙ take-append-drop n x.owed

-- ---- moves

-- what is taken with a move, and owed behind it, begins with what was owed
abbrev GoesOn : ℕ → Move → StationState → Type 0
GoesOn k m s = Begins (owed_at s k) (taken_with k m s ++ owed_at (after_move m s) k)

own_move : (k : ℕ) (m : Move) (s : StationState) → (key_of m == k) ≡ true
    → stays_with k m ≡ true → GoesOn k m s
own_move k (Arrives j door) s own stays =
    rw (equal j k own) (own_comes k door s (peer_at s.peers k) refl)
own_move k (Says memory j octets) s own stays =
    rw (equal j k own) (own_says k memory octets s (peer_at s.peers k) refl)
own_move k (Takes j n) s own stays =
    rw (own, equal j k own)
    (record {
      rest = [];
      parts = own_takes k n s (peer_at s.peers k) refl ∙ sym (append-nil (owed_at s k));
    })
own_move k (Finishes j) s own stays =
    rw (equal j k own) (own_ends k s (peer_at s.peers k) refl)
own_move k (Leaves j) s own stays =
    absurd (let no : false ≡ true = sym (ap (λ b. if b then false else true) own) ∙ stays in cc)
own_move k (EndsRelease on off p) s own stays =
    let o = owed_at s k in
    release_ended s (begins_same o) (owes_acts k o s (begins_same o)) on off p s.gates.house refl
own_move k (Loses memory p) s own stays =
    let o = owed_at s k in
    lost s (begins_same o) (owes_acts k o s (begins_same o)) memory p
own_move k Forgets s own stays = begins_same (owed_at s k)

goes_on : (k : ℕ) (m : Move) (s : StationState) → stays_with k m ≡ true → GoesOn k m s
goes_on k m s stays = by_key (key_of m == k) refl
  where
    by_key : (b : Bool) → (key_of m == k) ≡ b → GoesOn k m s
    by_key true own = own_move k m s own stays
    by_key false other =
        let o = owed_at s k in
        rw (untaken k m s other)
        (moved_keeps (Owes k o) m s
        (other_leads k (key_of m) o s (other_key (key_of m) k other) (begins_same o))
        (owes_acts k o s (begins_same o)) (λ is. begins_same o))

-- .. with moves
owed_stays : (k : ℕ) (more : List Move) (s : StationState) → Stays k more
    → Begins (owed_at s k) (text_to k more s)
owed_stays k [] s stays = begins_same (owed_at s k)
owed_stays k (m ∷ more) s stays =
    begins_then (owed_at s k) (taken_with k m s ++ owed_at (after_move m s) k)
    (taken_with k m s ++ text_to k more (after_move m s)) (goes_on k m s stays.0)
    (begins_behind (taken_with k m s) (owed_at (after_move m s) k)
    (text_to k more (after_move m s)) (owed_stays k more (after_move m s) stays.1))

told_stays : (k : ℕ) (ms more : List Move) (s : StationState) → Stays k more
    → Begins (text_to k ms s) (text_to k (ms ++ more) s)
told_stays k [] more s stays = owed_stays k more s stays
told_stays k (m ∷ ms) more s stays =
    begins_behind (taken_with k m s) (text_to k ms (after_move m s))
    (text_to k (ms ++ more) (after_move m s)) (told_stays k ms more (after_move m s) stays)

pub what_was_told_stays : WhatWasToldStays
what_was_told_stays = λ s k ms more stays. told_stays k ms more s stays
