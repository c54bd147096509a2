-- The first octets of a text, as one number.
use Rattle.std.proofs.Common.{ℕ, ◌+◌, ◌*◌, List, get_or}

-- of a text the octet at a place; 0 behind its end
abbrev pub octet_at : ℕ → List ℕ → ℕ
octet_at k text = get_or text k 0

-- its first four octets
abbrev pub first_four : List ℕ → ℕ
first_four text =
    ((octet_at 0 text * 256 + octet_at 1 text) * 256 + octet_at 2 text) * 256 + octet_at 3 text

-- its fifth and sixth octet
abbrev pub next_two : List ℕ → ℕ
next_two text = octet_at 4 text * 256 + octet_at 5 text
