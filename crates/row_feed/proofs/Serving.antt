-- A peer is served, over any moves.
use Rattle.std.proofs.Common.{◌≡◌, ℕ, ◌+◌, ◌≤◌, ◌==◌, Bool, true, false, List, [], ◌∷◌, ◌++◌, take}
use Rattle.std.proofs.Common.{drop, length, Option, Some, None, refl, sym, ap, ◌∙◌, arith, subst}
use Rattle.std.proofs.Common.{◌-◌, inl, inr, nat_le, nat_lt, append_assoc, append-nil}
use Rattle.std.proofs.Common.{length-append, if◌then◌else◌}
use Rattle.std.proofs.lemmas.Bool.Decides.{nat_tests}
use Rattle.std.proofs.lemmas.List.{length-drop, take-append-drop}
use Rattle.row_feed.specs.declared.fault.FeedFault.{FeedFault}
use Rattle.row_feed.specs.declared.fault.FeedFault.TheVariants.{Ahead, NoFrom}
use Rattle.row_feed.specs.declared.sizes.TheConstants.{LINE_OCTETS}
use Rattle.row_feed.specs.declared.stage.Stage.{Stage}
use Rattle.row_feed.specs.declared.stage.Stage.TheVariants.{Asks, Follows, Over}
use Rattle.row_json.specs.LastRows.{Last, first_of, lines_from, next_line, with_row}
use Rattle.site_base.specs.declared.row.Row.{Row}
use Rattle.row_feed.specs.FeedFaults.{alive_line, fault_line, forgotten_fault}
use Rattle.row_feed.specs.FirstLines.{AsksFrom, IsFrom}
use Rattle.row_feed.specs.Feeds.{AreMade, AsksBy, FeedState, Hears, HearsOctet, MakesBy}
use Rattle.row_feed.specs.Feeds.{alive, answered, joined, with_fault, with_octet, with_taken}
use Rattle.row_feed.specs.Feeds as feeds
use Rattle.row_feed.specs.FeedLaws.{AreAfter, AreLast, IsAfter, IsFed, IsFedSome, IsFedTo, IsFor}
use Rattle.row_feed.specs.FeedLaws.{IsFedWhatItAskedFor, IsServed, Alive, Served}
use Rattle.row_feed.specs.FeedLaws.{next_behind, served_new, text_from}
use Rattle.row_feed.specs.FeedLaws.{Move, Stores, Says, Makes, Lives, Takes}
use Rattle.row_feed.proofs.FedParts.{lines, lines-next, lines-text, next-append, text-append}
use Rattle.row_feed.proofs.FedParts.{text-stays}
use Rattle.row_feed.proofs.LastRows.{from_stored, last_with}

-- a peer of a history, from its parts
abbrev pub at : List (List ℕ) → Last → Stage → List ℕ → List ℕ → List ℕ → List ℕ → Served
at stored fed stage line pending said taken = record {
  stored = stored;
  fed = fed;
  feed = record { stage = stage; line = line; pending = pending };
  said = said;
  taken = taken;
}

-- ---- a row is stored

fed_with_row : (stored : List (List ℕ)) (r : List ℕ) (line : List ℕ) (next : ℕ) (made : List ℕ)
    → IsFedTo stored line next made → IsFedTo (stored ++ r ∷ []) line next made
fed_with_row stored r line next made fed =
    let behind : next_behind fed.from fed.parts ≤ length stored =
    subst (λ n. n ≤ length stored) fed.next_is fed.within in
    record {
      from = fed.from;
      asked = fed.asked;
      parts = fed.parts;
      whole = fed.whole ∙ sym (text-stays stored r fed.from fed.parts behind);
      next_is = fed.next_is;
      within = omega (arith, fed.within, length-append stored (r ∷ []));
    }

some_with_row : (stored : List (List ℕ)) (r : List ℕ) (line made : List ℕ)
    → IsFedSome stored line made → IsFedSome (stored ++ r ∷ []) line made
some_with_row stored r line made (inl none) = inl none
some_with_row stored r line made (inr fed) =
    inr (fed.0, fed_with_row stored r line fed.0 made fed.1)

stored_more : (stored : List (List ℕ)) (fed : Last) (stage : Stage)
    (line pending said taken : List ℕ) (time : Option (List ℕ)) (row : Row)
    → IsServed (at stored fed stage line pending said taken)
    → IsServed (at (stored ++ next_line time row fed ∷ []) (with_row time row fed) stage line
    pending said taken)
stored_more stored fed Asks line pending said taken time row served =
    record { last = last_with fed stored time row served.last; fed = served.fed }
stored_more stored fed (Follows n) line pending said taken time row served = record {
  last = last_with fed stored time row served.last;
  fed = (
    served.fed.0,
    fed_with_row stored (next_line time row fed) line n (taken ++ pending) served.fed.1,
  );
}
stored_more stored fed Over line pending said taken time row served = record {
  last = last_with fed stored time row served.last;
  fed = (
    served.fed.0,
    served.fed.1,
    served.fed.2,
    some_with_row stored (next_line time row fed) line served.fed.0 served.fed.3,
  );
}

-- ---- a fault

ended : (stored : List (List ℕ)) (fed : Last) (line pending said taken : List ℕ) (fault : FeedFault)
    → AreLast fed stored → IsFedSome stored line (taken ++ pending)
    → IsServed (at stored fed Over line (pending ++ fault_line fault) said taken)
ended stored fed line pending said taken fault last some = record {
  last = last;
  fed = (taken ++ pending, fault, sym (append_assoc taken pending (fault_line fault)), some);
}

-- ---- the first line

is_for : (next : ℕ) (line : List ℕ) (n : ℕ) → IsFrom next line n → IsFor line n
is_for next line n (inl end) = inl end.0
is_for next line n (inr named) = inr named.0

-- a whole first line is answered
answers : (stored : List (List ℕ)) (fed : Last) (line pending said taken : List ℕ)
    (asked : Option ℕ) → AreLast fed stored → said ≡ line → taken ++ pending ≡ []
    → AsksFrom fed.next line asked
    → IsServed (record {
      stored = stored;
      fed = fed;
      feed = answered fed.next asked (record { stage = Asks; line = line; pending = pending });
      said = said ++ 10 ∷ [];
      taken = taken;
    })
answers stored fed line pending said taken None last is_line none asks =
    ended stored fed line pending (said ++ 10 ∷ []) taken NoFrom last (inl none)
answers stored fed line pending said taken (Some n) last is_line none asks =
    by (nat_le n fed.next) refl
  where
    by : (c : Bool) → nat_le n fed.next ≡ c → IsServed (record {
      stored = stored;
      fed = fed;
      feed = if c
          then (record { stage = Follows n; line = line; pending = pending })
          else with_fault (Ahead n fed.next)
          (record { stage = Asks; line = line; pending = pending });
      said = said ++ 10 ∷ [];
      taken = taken;
    })
    by true there =
        let low : n ≤ fed.next = grind (arith, nat_tests) in
        record {
          last = last;
          fed = (
            ([], ap (λ l. l ++ 10 ∷ []) is_line),
            record {
              from = n;
              asked = is_for fed.next line n asks;
              parts = [];
              whole = none;
              next_is = refl;
              within = subst (λ m. n ≤ m) last.next low;
            },
          );
        }
    by false there =
        ended stored fed line pending (said ++ 10 ∷ []) taken (Ahead n fed.next) last (inl none)

-- an octet of the first line
asks_octet : (stored : List (List ℕ)) (fed : Last) (line pending said taken : List ℕ) (b : ℕ)
    (mid : FeedState) (c d : Bool) → b == 10 ≡ c → AreLast fed stored → said ≡ line
    → taken ++ pending ≡ []
    → nat_lt (length line) LINE_OCTETS ≡ d
    → AsksBy c fed.next b (record { stage = Asks; line = line; pending = pending }) mid
    → IsServed (record {
      stored = stored;
      fed = fed;
      feed = mid;
      said = said ++ b ∷ [];
      taken = taken;
    })
asks_octet stored fed line pending said taken b mid true d is last is_line none room step =
    let feed_line : b ≡ 10 = grind (arith, nat_tests) in
    let whole = answers stored fed line pending said taken step.0 last is_line none step.1 in
    let heard : FeedState = answered fed.next step.0
    (record { stage = Asks; line = line; pending = pending }) in
    subst (λ f. IsServed (record {
      stored = stored;
      fed = fed;
      feed = f;
      said = said ++ b ∷ [];
      taken = taken;
    })) (sym step.2)
    (subst (λ o. IsServed (record {
      stored = stored;
      fed = fed;
      feed = heard;
      said = said ++ o ∷ [];
      taken = taken;
    })) (sym feed_line) whole)
asks_octet stored fed line pending said taken b mid false true is last is_line none room step =
    let heard : FeedState = record { stage = Asks; line = line ++ b ∷ []; pending = pending } in
    let same : with_octet b (record { stage = Asks; line = line; pending = pending }) ≡ heard =
    rw room refl in
    subst (λ f. IsServed (record {
      stored = stored;
      fed = fed;
      feed = f;
      said = said ++ b ∷ [];
      taken = taken;
    })) (sym (step ∙ same))
    (record { last = last; fed = (ap (λ l. l ++ b ∷ []) is_line, none) })
asks_octet stored fed line pending said taken b mid false false is last is_line none room step =
    let asked : FeedState = record { stage = Asks; line = line; pending = pending } in
    let same : with_octet b asked ≡ with_fault NoFrom asked = rw room refl in
    subst (λ f. IsServed (record {
      stored = stored;
      fed = fed;
      feed = f;
      said = said ++ b ∷ [];
      taken = taken;
    })) (sym (step ∙ same))
    (ended stored fed line pending (said ++ b ∷ []) taken NoFrom last (inl none))

-- an octet
one_octet : (stored : List (List ℕ)) (fed : Last) (stage : Stage)
    (line pending said taken : List ℕ) (b : ℕ) (mid : FeedState)
    → HearsOctet fed.next b (record { stage = stage; line = line; pending = pending }) mid
    → IsServed (at stored fed stage line pending said taken)
    → IsServed (record {
      stored = stored;
      fed = fed;
      feed = mid;
      said = said ++ b ∷ [];
      taken = taken;
    })
one_octet stored fed Asks line pending said taken b mid step served =
    asks_octet stored fed line pending said taken b mid (b == 10)
    (nat_lt (length line) LINE_OCTETS) refl served.last served.fed.0 served.fed.1 refl step
one_octet stored fed (Follows n) line pending said taken b mid step served =
    subst (λ f. IsServed (record {
      stored = stored;
      fed = fed;
      feed = f;
      said = said ++ b ∷ [];
      taken = taken;
    })) (sym step)
    (record {
      last = served.last;
      fed = (
        (
          served.fed.0.0 ++ b ∷ [],
          ap (λ l. l ++ b ∷ []) served.fed.0.1
              ∙ append_assoc line (10 ∷ served.fed.0.0) (b ∷ []),
        ),
        served.fed.1,
      );
    })
one_octet stored fed Over line pending said taken b mid step served =
    subst (λ f. IsServed (record {
      stored = stored;
      fed = fed;
      feed = f;
      said = said ++ b ∷ [];
      taken = taken;
    })) (sym step)
    (record { last = served.last; fed = served.fed })

-- octets
octets_heard : (octets : List ℕ) (stored : List (List ℕ)) (fed : Last) (feed : FeedState)
    (said taken : List ℕ) (later : FeedState) → Hears fed.next octets feed later
    → IsServed (record { stored = stored; fed = fed; feed = feed; said = said; taken = taken })
    → IsServed (record {
      stored = stored;
      fed = fed;
      feed = later;
      said = said ++ octets;
      taken = taken;
    })
octets_heard [] stored fed feed said taken later step served =
    subst (λ f. IsServed (record {
      stored = stored;
      fed = fed;
      feed = f;
      said = said ++ [];
      taken = taken;
    })) (sym step)
    (subst (λ l. IsServed (record {
      stored = stored;
      fed = fed;
      feed = feed;
      said = l;
      taken = taken;
    })) (sym (append-nil said)) served)
octets_heard (b ∷ bs) stored fed feed said taken later step served =
    let first = one_octet stored fed feed.stage feed.line feed.pending said taken b step.0 step.1
    served in
    let rest = octets_heard bs stored fed step.0 (said ++ b ∷ []) taken later step.2 first in
    subst (λ l. IsServed (record {
      stored = stored;
      fed = fed;
      feed = later;
      said = l;
      taken = taken;
    })) (append_assoc said (b ∷ []) bs) rest

-- ---- lines are made

more_parts : (stored : List (List ℕ)) (line : List ℕ) (n count : ℕ) (made text : List ℕ)
    → IsFedTo stored line n made → count ≤ length (drop n stored)
    → text ≡ joined (take count (drop n stored))
    → IsFedTo stored line (n + count) (made ++ text)
more_parts stored line n count made text fed few is =
    let left : length (drop n stored) ≡ length stored - n = length-drop n stored in
    record {
      from = fed.from;
      asked = fed.asked;
      parts = fed.parts ++ lines count;
      whole = ap (λ m. m ++ text) fed.whole
          ∙ ap (λ t. text_from stored fed.from fed.parts ++ t)
          (is ∙ sym (lines-text stored n count))
          ∙ ap (λ m. text_from stored fed.from fed.parts ++ text_from stored m (lines count))
          fed.next_is
          ∙ sym (text-append stored fed.from fed.parts (lines count));
      next_is = sym (lines-next n count)
          ∙ ap (λ m. next_behind m (lines count)) fed.next_is
          ∙ sym (next-append fed.from fed.parts (lines count));
      within = omega (arith, left, few, fed.within);
    }

made_from : (stored : List (List ℕ)) (fed : Last) (n : ℕ) (line said taken starts : List ℕ)
    (later : FeedState) (c : Bool) → nat_le (first_of fed) n ≡ c
    → IsServed (at stored fed (Follows n) line [] said taken)
    → MakesBy c starts fed n (record { stage = Follows n; line = line; pending = [] }) later
    → IsServed (record { stored = stored; fed = fed; feed = later; said = said; taken = taken })
made_from stored fed n line said taken starts later true there served step =
    let rows : lines_from n fed ≡ drop n stored = from_stored fed stored n served.last there in
    let before : IsFedTo stored line n taken =
    subst (λ m. IsFedTo stored line n m) (append-nil taken) served.fed.1 in
    subst (λ f. IsServed (record {
      stored = stored;
      fed = fed;
      feed = f;
      said = said;
      taken = taken;
    })) (sym step.3)
    (record {
      last = served.last;
      fed = (
        served.fed.0,
        more_parts stored line n step.0 taken step.1 before
            (subst (λ xs. step.0 ≤ length xs) rows step.2.within)
            (step.2.whole ∙ ap (λ xs. joined (take step.0 xs)) rows),
      );
    })
made_from stored fed n line said taken starts later false there served step =
    subst (λ f. IsServed (record {
      stored = stored;
      fed = fed;
      feed = f;
      said = said;
      taken = taken;
    })) (sym step)
    (ended stored fed line [] said taken (forgotten_fault starts n) served.last
    (inr (n, served.fed.1)))

made_more : (stored : List (List ℕ)) (fed : Last) (stage : Stage)
    (line pending said taken starts : List ℕ) (later : FeedState)
    → feeds.Makes starts fed (record { stage = stage; line = line; pending = pending }) later
    → IsServed (at stored fed stage line pending said taken)
    → IsServed (record { stored = stored; fed = fed; feed = later; said = said; taken = taken })
made_more stored fed Asks line pending said taken starts later step served =
    subst (λ f. IsServed (record {
      stored = stored;
      fed = fed;
      feed = f;
      said = said;
      taken = taken;
    })) (sym step) served
made_more stored fed Over line pending said taken starts later step served =
    subst (λ f. IsServed (record {
      stored = stored;
      fed = fed;
      feed = f;
      said = said;
      taken = taken;
    })) (sym step) served
made_more stored fed (Follows n) (line) (b ∷ bs) said taken starts later step served =
    subst (λ f. IsServed (record {
      stored = stored;
      fed = fed;
      feed = f;
      said = said;
      taken = taken;
    })) (sym step) served
made_more stored fed (Follows n) line [] said taken starts later step served =
    made_from stored fed n line said taken starts later (nat_le (first_of fed) n) refl served step

-- ---- it is told which row is next

lives : (stored : List (List ℕ)) (fed : Last) (stage : Stage) (line pending said taken : List ℕ)
    → IsServed (at stored fed stage line pending said taken)
    → IsServed (record {
      stored = stored;
      fed = fed;
      feed = alive (record { stage = stage; line = line; pending = pending });
      said = said;
      taken = taken;
    })
lives stored fed Asks line pending said taken served = served
lives stored fed Over line pending said taken served = served
lives stored fed (Follows n) line (b ∷ bs) said taken served = served
lives stored fed (Follows n) line [] said taken served =
    let before : IsFedTo stored line n taken =
    subst (λ m. IsFedTo stored line n m) (append-nil taken) served.fed.1 in
    record {
      last = served.last;
      fed = (
        served.fed.0,
        record {
          from = before.from;
          asked = before.asked;
          parts = before.parts ++ Alive ∷ [];
          whole = ap (λ m. m ++ alive_line n) before.whole
              ∙ ap (λ m. text_from stored before.from before.parts ++ alive_line m) before.next_is
              ∙ ap (λ t. text_from stored before.from before.parts ++ t)
              (sym (append-nil (alive_line (next_behind before.from before.parts))))
              ∙ sym (text-append stored before.from before.parts (Alive ∷ []));
          next_is = before.next_is ∙ sym (next-append before.from before.parts (Alive ∷ []));
          within = before.within;
        },
      );
    }

-- ---- it takes octets

took : (stored : List (List ℕ)) (fed : Last) (stage : Stage) (line pending said taken : List ℕ)
    (n : ℕ) → IsServed (at stored fed stage line pending said taken)
    → IsServed (at stored fed stage line (drop n pending) said (taken ++ take n pending))
took stored fed stage line pending said taken n served =
    let same : taken ++ pending ≡ (taken ++ take n pending) ++ drop n pending =
    ap (λ p. taken ++ p) (sym (take-append-drop n pending))
    ∙ sym (append_assoc taken (take n pending) (drop n pending)) in
    record {
      last = served.last;
      fed = kept stage served.fed same;
    }
  where
    kept : (stage : Stage)
        → IsFed (at stored fed stage line pending said taken) stage (taken ++ pending)
        → taken ++ pending ≡ (taken ++ take n pending) ++ drop n pending
        → IsFed (at stored fed stage line (drop n pending) said (taken ++ take n pending)) stage
        ((taken ++ take n pending) ++ drop n pending)
    kept Asks h same = (h.0, sym same ∙ h.1)
    kept (Follows m) h same = (h.0, subst (λ made. IsFedTo stored line m made) same h.1)
    kept Over h same = (h.0, h.1, sym same ∙ h.2, h.3)

-- ---- all moves

one_move : (m : Move) (s s' : Served) → IsAfter m s s' → IsServed s → IsServed s'
one_move (Stores time row) s s' step served =
    subst IsServed (sym step)
    (stored_more s.stored s.fed s.feed.stage s.feed.line s.feed.pending s.said s.taken time row
    served)
one_move (Says octets) s s' step served =
    subst IsServed (sym step.2)
    (octets_heard octets s.stored s.fed s.feed s.said s.taken step.0 step.1 served)
one_move (Makes starts) s s' step served =
    subst IsServed (sym step.2)
    (made_more s.stored s.fed s.feed.stage s.feed.line s.feed.pending s.said s.taken starts step.0
    step.1 served)
one_move Lives s s' step served =
    subst IsServed (sym step)
    (lives s.stored s.fed s.feed.stage s.feed.line s.feed.pending s.said s.taken served)
one_move (Takes n) s s' step served =
    subst IsServed (sym step)
    (took s.stored s.fed s.feed.stage s.feed.line s.feed.pending s.said s.taken n served)

all_moves : (moves : List Move) (s s' : Served) → AreAfter moves s s' → IsServed s → IsServed s'
all_moves [] s s' step served = subst IsServed (sym step) served
all_moves (m ∷ ms) s s' step served =
    all_moves ms step.0 s' step.2 (one_move m s step.0 step.1 served)

pub served : IsFedWhatItAskedFor
served stored fed moves s last steps =
    all_moves moves (served_new stored fed) s steps (record { last = last; fed = (refl, refl) })
