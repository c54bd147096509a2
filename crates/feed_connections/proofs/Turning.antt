-- Turns of the connection of a feed's peer, one after another.
use Rattle.std.proofs.Common.{◌≡◌, ℕ, List, [], ◌∷◌, ◌++◌, take, Option, refl, subst, ap, ◌∙◌}
use Rattle.std.proofs.Common.{append_assoc, append-nil}
use Rattle.row_json.specs.LastRows.{Last}
use Rattle.row_feed.specs.Feeds.{FeedState, Hears, alive, with_taken}
use Rattle.row_feed.specs.Feeds as feeds
use Rattle.row_feed.specs.FeedLaws.{AreAfter, IsAfter, Lives, Makes, Move, Says, Served, Takes}
use Rattle.connection_calls.specs.declared.call.Call.{Call}
use Rattle.connection_calls.specs.declared.call.Call.TheVariants as calls
use Rattle.feed_connections.specs.FeedCalls.{HearsFeed, SendsFeed}
use Rattle.feed_connections.specs.Turns.{Turns, served_at}

after_both : (ms ns : List Move) (a b c : Served) → AreAfter ms a b → AreAfter ns b c
    → AreAfter (ms ++ ns) a c
after_both [] ns a b c one two = subst (λ s. AreAfter ns s c) one two
after_both (m ∷ ms) ns a b c one two =
    (one.0, one.1, after_both ms ns one.0 b c one.2 two)

-- one move
one_move : (m : Move) (a b : Served) → IsAfter m a b → AreAfter (m ∷ []) a b
one_move m a b step = (b, step, refl)

-- so much is said and taken, and nothing more
nothing_more : (stored : List (List ℕ)) (rows : Last) (f : FeedState) (said taken : List ℕ)
    → served_at stored rows f (said ++ []) (taken ++ []) ≡ served_at stored rows f said taken
nothing_more stored rows f said taken =
    ap (λ s. served_at stored rows f s (taken ++ [])) (append-nil said)
    ∙ ap (λ t. served_at stored rows f said t) (append-nil taken)

pub no_turn : (rows : Last) (f g : FeedState) → g ≡ f → Turns rows f g
no_turn rows f g same = record {
  moves = [];
  heard = [];
  sent = [];
  goes = λ stored said taken. nothing_more stored rows g said taken
      ∙ ap (λ h. served_at stored rows h said taken) same;
}

pub then_turn : (rows : Last) (f g h : FeedState) → Turns rows f g → Turns rows g h
    → Turns rows f h
then_turn rows f g h one two = record {
  moves = one.moves ++ two.moves;
  heard = one.heard ++ two.heard;
  sent = one.sent ++ two.sent;
  goes = λ stored said taken.
      let first = one.goes stored said taken in
      let second = two.goes stored (said ++ one.heard) (taken ++ one.sent) in
      let whole = after_both one.moves two.moves _ _ _ first second in
      subst (λ t. AreAfter (one.moves ++ two.moves) (served_at stored rows f said taken)
      (served_at stored rows h (said ++ (one.heard ++ two.heard)) t))
      (append_assoc taken one.sent two.sent)
      (subst (λ s. AreAfter (one.moves ++ two.moves) (served_at stored rows f said taken)
      (served_at stored rows h s ((taken ++ one.sent) ++ two.sent)))
      (append_assoc said one.heard two.heard) whole);
}

pub makes_turn : (rows : Last) (starts : List ℕ) (f g : FeedState) → feeds.Makes starts rows f g
    → Turns rows f g
makes_turn rows starts f g makes = record {
  moves = Makes starts ∷ [];
  heard = [];
  sent = [];
  goes = λ stored said taken.
      one_move (Makes starts) _ _ (g, makes, nothing_more stored rows g said taken);
}

pub lives_turn : (rows : Last) (f g : FeedState) → g ≡ alive f → Turns rows f g
lives_turn rows f g is = record {
  moves = Lives ∷ [];
  heard = [];
  sent = [];
  goes = λ stored said taken.
      one_move Lives (served_at stored rows f said taken)
      (served_at stored rows g (said ++ []) (taken ++ [])) (nothing_more stored rows g said taken
      ∙ ap (λ h. served_at stored rows h said taken) is);
}

pub hears_turn : (call : Call) (rows : Last) (left left' : Option (List ℕ)) (f g : FeedState)
    → HearsFeed call rows.next left left' f g → Turns rows f g
hears_turn (calls.Passed n) rows left left' f g hears = record {
  moves = Says hears.octets ∷ [];
  heard = hears.octets;
  sent = [];
  goes = λ stored said taken.
      one_move (Says hears.octets) _ _ (
        g,
        hears.heard,
        ap (λ t. served_at stored rows g (said ++ hears.octets) t) (append-nil taken),
      );
}
hears_turn calls.Ended rows left left' f g hears = no_turn rows f g hears.1
hears_turn calls.Interrupted rows left left' f g hears = no_turn rows f g hears.1
hears_turn calls.Waits rows left left' f g hears = no_turn rows f g hears.1
hears_turn calls.Failed rows left left' f g hears = no_turn rows f g hears.1

pub sends_turn : (call : Call) (rows : Last) (got got' : Option (List ℕ)) (f g : FeedState)
    → SendsFeed call got got' f g → Turns rows f g
sends_turn (calls.Passed n) rows got got' f g sends = record {
  moves = Takes n ∷ [];
  heard = [];
  sent = take n f.pending;
  goes = λ stored said taken.
      one_move (Takes n) _ _
      (ap (λ s. served_at stored rows g s (taken ++ take n f.pending)) (append-nil said)
      ∙ ap (λ h. served_at stored rows h said (taken ++ take n f.pending)) sends.1);
}
sends_turn calls.Ended rows got got' f g sends = absurd sends
sends_turn calls.Interrupted rows got got' f g sends = no_turn rows f g sends.1
sends_turn calls.Waits rows got got' f g sends = no_turn rows f g sends.1
sends_turn calls.Failed rows got got' f g sends = no_turn rows f g sends.1

pub ruleset turning = (
  no_turn,
  then_turn,
  makes_turn,
  lives_turn,
  hears_turn,
  sends_turn,
)
