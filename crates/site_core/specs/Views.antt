-- What contracts see of a site: its state, and the room that is reserved.
use Rattle.std.specs.Prelude.{ℕ, ◌-◌, ◌<◌, List, Option, option_and_then}
use Rattle.std.specs.Prelude.{Some, None, Result, Ok}
use Rattle.site_base.specs.declared.answer.Answer.{Answer}
use Rattle.site_base.specs.declared.answer.Answer.TheVariants.{Sold}
use Rattle.site_base.specs.declared.event.Event.{Event}
use Rattle.site_base.specs.declared.event.Event.TheVariants.{CloseShift, Offline, HangUp}
use Rattle.site_base.specs.declared.refusal.Refusal.{Refusal}
use Rattle.site_base.specs.declared.view.PointView.{PointView}
use Rattle.transaction_buffer.specs.Rooms.{one_taken, room_at}
use Rattle.meters.specs.Nozzles.{product_of}
use Rattle.written_site.specs.SiteState.{SiteState, view_point}

-- how many more sales of each point, from 1 on, there is room for, and how many more shifts to
-- close
pub record Room : Type 0 where
  pub sales : List ℕ
  pub closes : ℕ

-- a site and its room
pub record Seen : Type 0 where
  pub site : SiteState
  pub room : Room

-- there is room for what the event adds: the sale of a fuelling that it ends, or the figures of the
-- shift that it closes
abbrev pub HasRoom : Room → Event → Type 0
HasRoom room CloseShift = 0 < room.closes
HasRoom room (Offline p) = 0 < room_at p room.sales
HasRoom room (HangUp p n reading) = 0 < room_at p room.sales
HasRoom room event = Unit {0}

-- the room once an answer tells a sale of point p, or none: a sale has taken one place
abbrev pub room_sold : ℕ → Answer → Room → Room
room_sold p (Sold seq growth) room =
    record { sales = one_taken p room.sales; closes = room.closes }
room_sold p answer room = room

-- the room that the reply to an event leaves: a sale takes one place of its point, a shift that is
-- closed one of the closes, and nothing else takes any
abbrev pub room_left : Event → Result Answer Refusal → Room → Room
room_left (Offline p) (Ok answer) room = room_sold p answer room
room_left (HangUp p n reading) (Ok answer) room = room_sold p answer room
room_left CloseShift (Ok answer) room = record { sales = room.sales; closes = room.closes - 1 }
room_left event reply room = room

-- the product of the nozzle that is out at the point, where a read shows the point so
abbrev pub lifted_of : SiteState → ℕ → Option PointView → Option ℕ
lifted_of s p None = None
lifted_of s p (Some view) = option_and_then (λ n. product_of p n s.nozzles) view.out

-- the product of the nozzle that is out at the point
abbrev pub product_lifted : SiteState → ℕ → Option ℕ
product_lifted s p = lifted_of s p (view_point s p)
