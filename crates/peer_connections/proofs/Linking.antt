-- The connections of all peers but one stay as they are.
use Rattle.std.proofs.Common.{◌≡◌, ℕ, List, length, Option, None, get_or, ap, ◌∙◌}
use Rattle.std.proofs.Common.{length-set}
use Rattle.std.proofs.lemmas.List.{get_or-set_other}
use Rattle.std.proofs.Math.ListN.{set}
use Rattle.peer_connections.specs.Links.{OthersStay}

-- nothing is changed
pub others_same : {L : Type 0} (key : ℕ) (old new : List (Option L)) → new ≡ old
    → OthersStay key old new
others_same key old new same =
    (ap length same, λ k other. ap (λ (links : List (Option _)). get_or links k None) same)

-- that of this key is another one
pub others_set : {L : Type 0} (key : ℕ) (old : List (Option L)) (link : Option L)
    → OthersStay key old (set old key link)
others_set key old link =
    (length-set old key link, λ k other. get_or-set_other old key k link None other)

-- .. and then more is changed
pub others_then : {L : Type 0} (key : ℕ) (a b c : List (Option L)) → OthersStay key a b
    → OthersStay key b c → OthersStay key a c
others_then key a b c one two = (
  two.0 ∙ one.0,
  λ k other. two.1 k other ∙ one.1 k other,
)

pub ruleset kept = (
  others_same,
  others_set,
)
