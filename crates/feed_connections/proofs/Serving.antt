-- Places of the feed that are served, in one step after another.
use Rattle.std.proofs.Common.{◌≡◌, ◌≢◌, ◌==◌, ℕ, Bool, true, false, List, length, Option, Some, None}
use Rattle.std.proofs.Common.{get_or, arith, ap, inl, inr, refl, subst, sym, ◌∙◌}
use Rattle.std.proofs.Math.ListN.{set}
use Rattle.std.proofs.lemmas.Bool.Decides.{nat_tests}
use Rattle.std.proofs.lemmas.List.{get_or-set_other, get_or-set_same, set_past}
use Rattle.std.specs.Prelude.{◌<◌, ◌≤◌, nat_lt}
use Rattle.row_json.specs.LastRows.{Last}
use Rattle.row_feed.specs.Feeds.{FeedState, new_feed}
use Rattle.feed_connections.specs.declared.feed_place.FeedPlace.{FeedPlace}
use Rattle.feed_connections.specs.Served.{AreServed, HasCome, HaveCome, IsServed, feed_of}
use Rattle.feed_connections.specs.Turns.{Turns}
use Rattle.feed_connections.proofs.Turning.{no_turn, then_turn}

served_unchanged : (rows : Last) (f : Option FeedState) → IsServed rows f f
served_unchanged rows None = tt
served_unchanged rows (Some f) = inl (no_turn rows f f refl)

-- nothing was done for whoever is there
pub served_same : (rows : Last) (f g : Option FeedState) → g ≡ f → IsServed rows f g
served_same rows f g same = subst (IsServed rows f) (sym same) (served_unchanged rows f)

-- a turn was
pub served_turn : (rows : Last) (f g : FeedState) → Turns rows f g
    → IsServed rows (Some f) (Some g)
served_turn rows f g turns = inl turns

-- a peer has come
pub served_new : (rows : Last) (f : Option FeedState) (g : FeedState) → g ≡ new_feed
    → IsServed rows f (Some g)
served_new rows None g new = no_turn rows new_feed g new
served_new rows (Some f) g new = inr (no_turn rows new_feed g new)

-- .. and then more was done
pub served_then : (rows : Last) (f g h : Option FeedState) → IsServed rows f g
    → IsServed rows g h → IsServed rows f h
served_then rows f g None one two = tt
served_then rows None None (Some h) one two = two
served_then rows (Some f) None (Some h) one two = inr two
served_then rows None (Some g) (Some h) one (inl turns) =
    then_turn rows new_feed g h one turns
served_then rows None (Some g) (Some h) one (inr turns) = turns
served_then rows (Some f) (Some g) (Some h) (inl one) (inl turns) =
    inl (then_turn rows f g h one turns)
served_then rows (Some f) (Some g) (Some h) (inr one) (inl turns) =
    inr (then_turn rows new_feed g h one turns)
served_then rows (Some f) (Some g) (Some h) one (inr turns) = inr turns

-- ---- each place

-- at this place stands another one, and the others stay
by_place : (P : Option FeedState → Option FeedState → Type 0) (n : ℕ)
    (old : List (Option FeedPlace)) (slot : Option FeedPlace)
    → ((f : Option FeedState) → P f f) → P (feed_of (get_or old n None)) (feed_of slot)
    → (k : ℕ) → P (feed_of (get_or old k None)) (feed_of (get_or (set old n slot) k None))
by_place P n old slot same there k = by_test (k == n) refl (nat_lt n (length old)) refl
  where
    stays : (i : ℕ) → get_or (set old n slot) i None ≡ get_or old i None
        → P (feed_of (get_or old i None)) (feed_of (get_or (set old n slot) i None))
    stays i is =
        subst (λ (s : Option FeedPlace). P (feed_of (get_or old i None)) (feed_of s)) (sym is)
        (same (feed_of (get_or old i None)))

    at_place : (within : Bool) → nat_lt n (length old) ≡ within
        → P (feed_of (get_or old n None)) (feed_of (get_or (set old n slot) n None))
    at_place true is =
        let below : n < length old = grind (arith, nat_tests) in
        subst (λ (s : Option FeedPlace). P (feed_of (get_or old n None)) (feed_of s))
        (sym (get_or-set_same old n slot None below)) there
    at_place false is =
        let beyond : length old ≤ n = grind (arith, nat_tests) in
        stays n (ap (λ (places : List (Option FeedPlace)). get_or places n None)
        (set_past old n slot beyond))

    by_test : (b : Bool) → (k == n) ≡ b → (within : Bool) → nat_lt n (length old) ≡ within
        → P (feed_of (get_or old k None)) (feed_of (get_or (set old n slot) k None))
    by_test true is within lies =
        let one : k ≡ n = grind (arith, nat_tests) in
        subst
        (λ (i : ℕ). P (feed_of (get_or old i None)) (feed_of (get_or (set old n slot) i None)))
        (sym one) (at_place within lies)
    by_test false is within lies =
        let apart : k ≢ n = grind (arith, nat_tests) in
        stays k (get_or-set_other old n k slot None apart)

pub all_same : (rows : Last) (old new : List (Option FeedPlace)) → new ≡ old
    → AreServed rows old new
all_same rows old new same = record {
  each = λ k. served_same rows _ _
      (ap (λ (places : List (Option FeedPlace)). feed_of (get_or places k None)) same);
}

pub all_then : (rows : Last) (a b c : List (Option FeedPlace)) → AreServed rows a b
    → AreServed rows b c → AreServed rows a c
all_then rows a b c one two =
    record { each = λ k. served_then rows _ _ _ (one.each k) (two.each k) }

pub all_set : (rows : Last) (n : ℕ) (old : List (Option FeedPlace)) (slot : Option FeedPlace)
    → IsServed rows (feed_of (get_or old n None)) (feed_of slot)
    → AreServed rows old (set old n slot)
all_set rows n old slot served =
    record { each = by_place (IsServed rows) n old slot (served_unchanged rows) served }

-- ---- peers that have come

pub come_same : (old new : List (Option FeedPlace)) → new ≡ old → HaveCome old new
come_same old new same = record {
  each = λ k. inl (ap (λ (places : List (Option FeedPlace)). feed_of (get_or places k None)) same);
}

come_on : (f g h : Option FeedState) → HasCome f g → HasCome g h → HasCome f h
come_on f g h one (inr new) = inr new
come_on f g h (inl one) (inl two) = inl (two ∙ one)
come_on f g h (inr one) (inl two) = inr (two ∙ one)

pub come_then : (a b c : List (Option FeedPlace)) → HaveCome a b → HaveCome b c → HaveCome a c
come_then a b c one two = record { each = λ k. come_on _ _ _ (one.each k) (two.each k) }

pub come_set : (n : ℕ) (old : List (Option FeedPlace)) (place : FeedPlace)
    → place.link ≡ new_feed → HaveCome old (set old n (Some place))
come_set n old place new = record {
  each = by_place HasCome n old (Some place) (λ f. inl refl) (inr (ap Some new));
}

served_come : (rows : Last) (f g : Option FeedState) → HasCome f g → IsServed rows f g
served_come rows f g (inl same) = served_same rows f g same
served_come rows f g (inr new) =
    subst (IsServed rows f) (sym new) (served_new rows f new_feed refl)

pub all_come : (rows : Last) (old new : List (Option FeedPlace)) → HaveCome old new
    → AreServed rows old new
all_come rows old new come = record { each = λ k. served_come rows _ _ (come.each k) }

pub ruleset serving = (
  served_same,
  served_turn,
  served_new,
  served_then,
  all_same,
  all_then,
  all_set,
  all_come,
  come_same,
  come_then,
  come_set,
)
