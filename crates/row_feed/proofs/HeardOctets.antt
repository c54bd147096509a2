-- Octets that are heard one after another.
use Rattle.std.proofs.Common.{ℕ, List, [], ◌∷◌, ◌++◌, refl, subst}
use Rattle.row_feed.specs.Feeds.{FeedState, Hears, HearsOctet}

pub hears_more : (next : ℕ) (bs : List ℕ) (b : ℕ) (s mid s' : FeedState)
    → Hears next bs s mid → HearsOctet next b mid s' → Hears next (bs ++ b ∷ []) s s'
hears_more next [] b s mid s' none step =
    (s', subst (λ m. HearsOctet next b m s') none step, refl)
hears_more next (x ∷ bs) b s mid s' heard step =
    (heard.0, heard.1, hears_more next bs b heard.0 mid s' heard.2 step)
