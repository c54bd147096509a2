-- A site's figures as OpenMetrics text: families of samples, one after another.
use Rattle.std.specs.Prelude.{ℕ, ◌-◌, ◌==◌, Bool, false, List, [], ◌∷◌, ◌++◌, Option, Some, None}
use Rattle.std.specs.Prelude.{codes, count_by, decimal, flat_map, length, slice_index}
use Rattle.site_base.specs.declared.config.PointEntry.{PointEntry}
use Rattle.site_base.specs.declared.numbers.TheConstants.{GREATEST_SHIFT}
use Rattle.site_base.specs.declared.state.PointState.{PointState}
use Rattle.site_base.specs.declared.state.PointState.TheVariants.{Authorised, Calling, Closed}
use Rattle.site_base.specs.declared.state.PointState.TheVariants.{Fuelling, Idle, Inoperative}
use Rattle.site_base.specs.declared.state.PointState.TheVariants.{Started, SuspendedFuelling}
use Rattle.site_base.specs.declared.state.PointState.TheVariants.{SuspendedStarted}
use Rattle.site_base.specs.declared.view.PointView.{PointView}
use Rattle.site_base.specs.States.{state_number}
use Rattle.device_map.specs.declared.ids.TheConstants.{DISPENSER_SUBNET, TILL_SUBNET}
use Rattle.kept_history.specs.KeptRows.{kept_rows}
use Rattle.site_book.specs.Book.{Book, site_of_book}
use Rattle.site_book.specs.declared.named_sale.NamedSale.{NamedSale}
use Rattle.written_site.specs.SiteState.{open_shift, view_point}
use Rattle.site_json.specs.declared.sessions.PeerSession.{PeerSession}
use Rattle.site_json.specs.Points.{state_word}
use Rattle.site_json.specs.Sessions.{is_connected}
use Rattle.site_json.specs.Transactions.{cents_of}
use Rattle.row_tally.specs.Tally.{Tally}
use Rattle.site_metrics.specs.declared.counts.StationCounts.{StationCounts}
use Rattle.site_metrics.specs.Counts.{counts_text}
use Rattle.site_metrics.specs.Families.{gauge, head, sample}
use Rattle.site_metrics.specs.Tallied.{tally_text}

-- how many rows there are, and how many of them aren't those of reads
unfoldable pub rows_lines : ℕ → ℕ → List ℕ
rows_lines rows kept =
    gauge (codes "witsomar_rows") (codes "Rows of the history, and reads since the start.") rows
    ++ gauge (codes "witsomar_kept_rows") (codes "Rows but those of reads.") kept

abbrev pub rows_text : Book → List ℕ
rows_text b = rows_lines (length b.rows) (length (kept_rows b.rows))

-- the sessions of a subnet
abbrev pub is_of : ℕ → PeerSession → Bool
is_of subnet x = slice_index x.node 0 == subnet

abbrev pub sessions_of : ℕ → List PeerSession → ℕ
sessions_of subnet sessions = count_by (is_of subnet) sessions

-- sessions by the kind of their peers
unfoldable pub kinds_lines : ℕ → ℕ → List ℕ
kinds_lines tills dispensers =
    sample (codes "witsomar_sessions") (codes "{kind=\"till\"}") tills
    ++ sample (codes "witsomar_sessions") (codes "{kind=\"dispenser\"}") dispensers

unfoldable pub sessions_lines : ℕ → ℕ → List ℕ
sessions_lines tills dispensers =
    head (codes "witsomar_sessions") (codes "gauge") (codes "Sessions whose node is known.")
    ++ kinds_lines tills dispensers

-- connections of peers, and their sessions
unfoldable pub peers_lines : ℕ → ℕ → ℕ → List ℕ
peers_lines connections tills dispensers =
    gauge (codes "witsomar_connections") (codes "Connections of peers.") connections
    ++ sessions_lines tills dispensers

abbrev pub connections_text : ℕ → List PeerSession → List ℕ
connections_text connections sessions =
    peers_lines connections (sessions_of TILL_SUBNET sessions)
    (sessions_of DISPENSER_SUBNET sessions)

-- a configured point is in this state
abbrev pub shows : PointState → Option PointView → Bool
shows state None = false
shows state (Some v) = state_number v.state == state_number state

abbrev pub points_in : Book → PointState → ℕ
points_in b state =
    count_by (λ (e : PointEntry). shows state (view_point (site_of_book b) e.number))
    b.config.points

-- how many points are in a state
unfoldable pub state_line : List ℕ → ℕ → List ℕ
state_line word count =
    codes "witsomar_points{state=\"" ++ sample word (codes "\"}") count

abbrev pub state_text : Book → PointState → List ℕ
state_text b state = state_line (state_word state) (points_in b state)

-- the states of a point, in the order of their numbers
abbrev pub states : List PointState
states =
    Inoperative ∷ Closed ∷ Idle ∷ Calling ∷ Authorised ∷ Started ∷ SuspendedStarted ∷ Fuelling
    ∷ SuspendedFuelling ∷ []

unfoldable pub points_text : Book → List ℕ
points_text b =
    head (codes "witsomar_points") (codes "gauge") (codes "Fuelling points by state.")
    ++ flat_map (state_text b) states

-- how many configured points have a dispenser among these sessions
abbrev pub points_connected : Book → List PeerSession → ℕ
points_connected b sessions =
    count_by (λ (e : PointEntry). is_connected sessions e.number) b.config.points

unfoldable pub connected_line : ℕ → List ℕ
connected_line count =
    gauge (codes "witsomar_points_connected")
    (codes "Fuelling points whose dispenser is connected.") count

abbrev pub connected_text : Book → List PeerSession → List ℕ
connected_text b sessions = connected_line (points_connected b sessions)

-- the unpaid transactions, and what they come to
unfoldable pub unpaid_lines : ℕ → ℕ → List ℕ
unpaid_lines count cents =
    gauge (codes "witsomar_unpaid_transactions") (codes "Unpaid transactions.") count
    ++ gauge (codes "witsomar_unpaid_cents") (codes "Cents of the unpaid transactions.") cents

abbrev pub unpaid_text : List NamedSale → List ℕ
unpaid_text unpaid = unpaid_lines (length unpaid) (cents_of unpaid)

-- the open shift, and how many more can be opened
unfoldable pub shifts_lines : ℕ → ℕ → List ℕ
shifts_lines shift left =
    gauge (codes "witsomar_shift") (codes "The open shift.") shift
    ++ gauge (codes "witsomar_shifts_left") (codes "Shifts that can still be opened.") left

abbrev pub shifts_text : Book → List ℕ
shifts_text b =
    shifts_lines (open_shift (site_of_book b)) (GREATEST_SHIFT - open_shift (site_of_book b))

-- the end of the text
unfoldable pub end_line : List ℕ
end_line = codes "# EOF\n"

-- all figures of a book with these unpaid transactions, of what the station counts, these sessions,
-- and what the tally of its rows tells, if there is one
unfoldable pub metrics_text : Book → List NamedSale → StationCounts → List PeerSession
    → Option Tally → List ℕ
metrics_text b unpaid counts sessions tally =
    rows_text b
    ++ (connections_text counts.connections sessions
    ++ (points_text b
    ++ (connected_text b sessions
    ++ (unpaid_text unpaid
    ++ (shifts_text b ++ (tally_text tally ++ (counts_text counts ++ end_line)))))))
