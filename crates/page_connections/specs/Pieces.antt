-- Octets that were read from a connection of the page.
use Rattle.std.specs.Prelude.{◌≡◌, ℕ, List, [], ◌++◌, drop, length, take, Option}
use Rattle.std.specs.Io.KnownBytes.{Consumes, IsAtEnd, Keeps}
use Rattle.connection_calls.specs.declared.call.Call.{Call}
use Rattle.connection_calls.specs.declared.call.Call.TheVariants.{Ended, Passed}
use Rattle.site_page.specs.Connections.{history}
use Rattle.page_connections.specs.declared.page_link.PageLink.{PageLink}
use Rattle.page_connections.specs.declared.piece.Piece.{Piece}

-- what of a piece isn't heard yet
abbrev pub unheard_of : Piece → List ℕ
unheard_of piece = drop piece.from (take piece.to piece.octets.items)

-- a read: what came isn't heard yet; or the peer sent no more, or nothing was read
abbrev pub ReadsPiece : Call → Option (List ℕ) → Option (List ℕ) → List ℕ → Type 0
ReadsPiece (Passed n) left left' unheard = Consumes left left' unheard × (length unheard ≡ n)
ReadsPiece Ended left left' unheard = IsAtEnd left' × (unheard ≡ [])
ReadsPiece call left left' unheard = Keeps left left' × (unheard ≡ [])

-- what of a connection was read: what was heard, and then what isn't yet
abbrev pub read_of : PageLink → List ℕ
read_of link = (history link.connection).received ++ unheard_of link.piece

-- More may have been read: each octet is heard once, in its order, or isn't heard yet
abbrev pub ReadsOn : PageLink → PageLink → Type 0
ReadsOn old new = (more : List ℕ) × (read_of new ≡ read_of old ++ more)
