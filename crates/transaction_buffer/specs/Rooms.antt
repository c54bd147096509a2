-- What contracts see of a buffer: the sales, and the room for more of them.
use Rattle.std.specs.Prelude.{ℕ, ◌-◌, List, unwrap_or}
use Rattle.site_base.specs.Members.{member, with_numbered}
use Rattle.transaction_buffer.specs.Sales.{Sales}

-- the sales of every point, and of each point, from 1 on, how many more there is room for
pub record Buffered : Type 0 where
  pub sales : Sales
  pub rooms : List ℕ

-- how many more sales of point p there is room for
abbrev pub room_at : ℕ → List ℕ → ℕ
room_at p rooms = unwrap_or (member p rooms) 0

-- the rooms once one more sale of point p has taken its place
abbrev pub one_taken : ℕ → List ℕ → List ℕ
one_taken p rooms = with_numbered p (room_at p rooms - 1) rooms
