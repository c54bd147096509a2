-- Octets of a connection of the page that are read, in one step after another.
use Rattle.std.proofs.Common.{◌≡◌, ℕ, List, [], ◌++◌, take, drop, sym, ap, ◌∙◌}
use Rattle.std.proofs.Common.{append_assoc, append-nil, take-append-drop}
use Rattle.site_page.specs.Connections.{IsHeard, history}
use Rattle.page_connections.specs.declared.page_link.PageLink.{PageLink}
use Rattle.page_connections.specs.Pieces.{ReadsOn, read_of, unheard_of}

-- nothing was read
pub on_same : (a b : PageLink) → (history b.connection).received ≡ (history a.connection).received
    → unheard_of b.piece ≡ unheard_of a.piece → ReadsOn a b
on_same a b heard left = (
  [],
  ap (λ (s : List ℕ). s ++ unheard_of b.piece) heard
      ∙ ap (λ (s : List ℕ). (history a.connection).received ++ s) left
      ∙ sym (append-nil (read_of a)),
)

-- of what was read some was heard
pub on_heard : (a b : PageLink) (n : ℕ)
    → IsHeard (unheard_of a.piece) n (history a.connection) (history b.connection)
    → unheard_of b.piece ≡ drop n (unheard_of a.piece) → ReadsOn a b
on_heard a b n heard left = (
  [],
  ap (λ (s : List ℕ). s ++ unheard_of b.piece) heard.received
      ∙ ap (λ (s : List ℕ). ((history a.connection).received ++ take n (unheard_of a.piece)) ++ s)
      left
      ∙ append_assoc (history a.connection).received (take n (unheard_of a.piece))
      (drop n (unheard_of a.piece))
      ∙ ap (λ (s : List ℕ). (history a.connection).received ++ s)
      (take-append-drop n (unheard_of a.piece))
      ∙ sym (append-nil (read_of a)),
)

-- where each octet was heard, more came
pub on_read : (heard left came : List ℕ) → left ≡ []
    → (more : List ℕ) × (heard ++ came ≡ (heard ++ left) ++ more)
on_read heard left came none = (
  came,
  ap (λ (s : List ℕ). s ++ came)
      (sym (append-nil heard) ∙ ap (λ (s : List ℕ). heard ++ s) (sym none)),
)

-- .. and more after that
pub on_then : (a b c : PageLink) → ReadsOn a b → ReadsOn b c → ReadsOn a c
on_then a b c one two = (
  one.0 ++ two.0,
  two.1 ∙ ap (λ (s : List ℕ). s ++ two.0) one.1 ∙ append_assoc (read_of a) one.0 two.0,
)

pub ruleset read_on = (
  on_same,
  on_heard,
)
