-- What the page answers.
use Rattle.std.specs.Prelude.{◌≡◌, ◌≢◌, ◌≤◌, ◌⊎◌, ◌++◌, ℕ, Bool, true, false, List, [], ◌∷◌}
use Rattle.std.specs.Prelude.{Option, Some, None, codes, decimal, ⊤}
use Rattle.http.specs.declared.request.Request.{Request}
use Rattle.http.specs.Request.{head_of}
use Rattle.http1.specs.Fields.{Header}
use Rattle.http_uri.specs.Uri.{uri_path, uri_query}
use Rattle.http_server.specs.declared.response.Response.{Response}
use Rattle.http_server.specs.Response.{IsResponse}
use Rattle.serde_json.specs.Data.{Data}
use Rattle.serde_json.specs.Written.{compact_text}
use Rattle.site_base.specs.declared.limits.TheConstants.{POINTS}
use Rattle.site_base.specs.declared.numbers.TheConstants.{GREATEST_SHIFT}
use Rattle.site_book.specs.Book.{Book, is_full}
use Rattle.site_book.specs.declared.named_sale.NamedSale.{NamedSale}
use Rattle.site_json.specs.declared.sessions.PeerSession.{PeerSession}
use Rattle.site_json.specs.Transactions.{unpaid_data}
use Rattle.site_metrics.specs.declared.counts.StationCounts.{StationCounts}
use Rattle.site_metrics.specs.Metrics.{metrics_text}
use Rattle.row_tally.specs.ShiftTimes.{TimesRead, no_times}
use Rattle.row_tally.specs.Tally.{Tally}
use Rattle.shift_table.specs.declared.form.Form.TheVariants.{Json}
use Rattle.shift_table.specs.ShiftTable.{shifts_from}
use Rattle.site_gaps.specs.StationData.{station_data}
use Rattle.site_page.specs.declared.html.TheConstants.{PAGE}
use Rattle.site_page.specs.declared.query.Asked.{Asked}
use Rattle.site_page.specs.declared.query.Asked.TheVariants.{All, Point, Unknown}
use Rattle.site_page.specs.declared.policy.TheConstants.{POLICY}

-- the fields of an answer with the page: its type, what it may do, and that it isn't kept
abbrev pub page_fields : List Header
page_fields =
    (codes "content-type", codes "text/html; charset=utf-8")
    ∷ (codes "content-security-policy", POLICY.now)
    ∷ (codes "cache-control", codes "no-store")
    ∷ (codes "x-content-type-options", codes "nosniff") ∷ []

-- the fields of an answer that is a text of this type
abbrev pub text_fields : List ℕ → List Header
text_fields kind =
    (codes "content-type", kind)
    ∷ (codes "cache-control", codes "no-store")
    ∷ (codes "x-content-type-options", codes "nosniff") ∷ []

abbrev pub site_fields : List Header
site_fields = text_fields (codes "application/json")

abbrev pub metrics_fields : List Header
metrics_fields =
    text_fields (codes "application/openmetrics-text; version=1.0.0; charset=utf-8")

abbrev pub shifts_fields : List Header
shifts_fields = text_fields (codes "application/x-ndjson")

abbrev pub line_fields : List Header
line_fields = text_fields (codes "text/plain; charset=utf-8")

-- which methods are answered
abbrev pub methods_fields : List Header
methods_fields = (codes "allow", codes "GET, HEAD") ∷ []

-- it is a GET or a HEAD
abbrev pub IsRead : Request (List ℕ) → Type 0
IsRead r = ((head_of r).method ≡ codes "GET") ⊎ ((head_of r).method ≡ codes "HEAD")

abbrev pub path_of : Request (List ℕ) → List ℕ
path_of r = uri_path (head_of r).uri

abbrev pub query_of : Request (List ℕ) → Option (List ℕ)
query_of r = uri_query (head_of r).uri

-- there is no such path
abbrev pub IsNothing : Response → Type 0
IsNothing response = IsResponse 404 [] [] response

-- a line of text, or a JSON text that isn't kept
abbrev pub IsLine : ℕ → List ℕ → Response → Type 0
IsLine status line response = IsResponse status line_fields line response

abbrev pub IsJson : Data → Response → Type 0
IsJson shown response = IsResponse 200 site_fields (compact_text shown) response

-- the line of the last seal; without one there is no such path
abbrev pub IsSealAnswer : Option (List ℕ) → Response → Type 0
IsSealAnswer None response = IsNothing response
IsSealAnswer (Some seal) response = IsLine 200 (seal ++ codes "\n") response

-- What a query asks for: it may be missing, name a number from 1 on behind a word, or say something
-- else.
pub record IsAsked (word : List ℕ) (most : ℕ) (query : Option (List ℕ)) (Every : Type 0)
    (Numbered : ℕ → Type 0) (Other : Type 0) : Type 0 where
  pub all : query ≡ None → Every
  pub some : (p : ℕ) → 1 ≤ p → p ≤ most → query ≡ Some (word ++ decimal p) → Numbered p
  pub other : (q : List ℕ) → query ≡ Some q
      → ((p : ℕ) → 1 ≤ p → p ≤ most → q ≢ word ++ decimal p) → Other

-- that no such transactions can be asked for
abbrev pub IsUnpaidUnknown : Response → Type 0
IsUnpaidUnknown response = IsLine 400 (codes "ask for /unpaid or /unpaid?point=P\n") response

-- The unpaid transactions: all without a query, those of a point for `point=P`. Any other query is
-- refused.
abbrev pub IsUnpaidAnswer : List NamedSale → Option (List ℕ) → Response → Type 0
IsUnpaidAnswer unpaid query response =
    IsAsked (codes "point=") POINTS query (IsJson (unpaid_data None unpaid) response)
    (λ (p : ℕ). IsJson (unpaid_data (Some p) unpaid) response) (IsUnpaidUnknown response)

-- what a query asks for
abbrev pub AsksFor : Option (List ℕ) → Asked → Type 0
AsksFor None All = ⊤
AsksFor (Some q) (Point p) = (1 ≤ p) × (p ≤ POINTS) × (q ≡ codes "point=" ++ decimal p)
AsksFor (Some q) Unknown = (p : ℕ) → 1 ≤ p → p ≤ POINTS → q ≢ codes "point=" ++ decimal p
AsksFor query asked = ⊥

-- the first shift that a query asks for
abbrev pub AsksFrom : Option (List ℕ) → Option ℕ → Type 0
AsksFrom None (Some n) = n ≡ 1
AsksFrom (Some q) (Some n) =
    (1 ≤ n) × (n ≤ GREATEST_SHIFT) × (q ≡ codes "from=" ++ decimal n)
AsksFrom (Some q) None =
    (n : ℕ) → 1 ≤ n → n ≤ GREATEST_SHIFT → q ≢ codes "from=" ++ decimal n
AsksFrom None None = ⊥

-- whether rows can be added: a book without room for one more takes none
abbrev pub IsHealthAnswer : Bool → Response → Type 0
IsHealthAnswer false response = IsLine 200 (codes "ok\n") response
IsHealthAnswer true response = IsLine 503 (codes "the book is full\n") response

-- What requests are answered from: a book at this time, of which these are the unpaid transactions,
-- what the station counts, these sessions, of its history the time of the open shift's first row
-- and the last seal, the tally of its rows, if there is one, and the site's name, if it has one.
pub record Shown : Type 0 where
  pub book : Book
  pub unpaid : List NamedSale
  pub counts : StationCounts
  pub sessions : List PeerSession
  pub at : Option (List ℕ)
  pub opened : Option (List ℕ)
  pub seal : Option (List ℕ)
  pub tally : Option Tally
  pub name : Option (List ℕ)

-- its figures for programs that watch the site
abbrev pub IsMetricsAnswer : Shown → Response → Type 0
IsMetricsAnswer x response =
    IsResponse 200 metrics_fields
    (metrics_text x.book x.unpaid x.counts x.sessions x.tally) response

-- the times of its shifts; without a tally none is known
abbrev pub times_told : Option Tally → TimesRead
times_told None = no_times
times_told (Some t) = t.moments.shifts

-- its shifts from this one on, a line of JSON for each
abbrev pub AreShifts : ℕ → Shown → Response → Type 0
AreShifts n x response =
    IsResponse 200 shifts_fields (shifts_from n Json x.book (times_told x.tally)) response

-- that no such shifts can be asked for
abbrev pub IsShiftsUnknown : Response → Type 0
IsShiftsUnknown response = IsLine 400 (codes "ask for /shifts or /shifts?from=N\n") response

-- The shifts: from shift 1 on without a query, from shift N on for `from=N`. Any other query is
-- refused.
abbrev pub IsShiftsAnswer : Shown → Option (List ℕ) → Response → Type 0
IsShiftsAnswer x query response =
    IsAsked (codes "from=") GREATEST_SHIFT query (AreShifts 1 x response)
    (λ (n : ℕ). AreShifts n x response) (IsShiftsUnknown response)

abbrev pub shown_data : Shown → Data
shown_data x =
    station_data x.book x.unpaid x.counts.connections x.sessions x.at x.opened x.seal x.tally
    x.name

-- none of the paths that are answered
pub record IsUnknown (path : List ℕ) : Type 0 where
  pub html : path ≢ codes "/"
  pub site : path ≢ codes "/site.json"
  pub unpaid : path ≢ codes "/unpaid"
  pub metrics : path ≢ codes "/metrics"
  pub health : path ≢ codes "/healthz"
  pub seal : path ≢ codes "/seal"
  pub shifts : path ≢ codes "/shifts"

-- What a path is answered: / the page, /site.json the site as JSON, /unpaid the unpaid
-- transactions, /metrics the figures, /healthz whether rows can be added, /seal the line of the
-- last seal, /shifts the shifts; any other isn't there.
pub record IsPathAnswer (x : Shown) (path : List ℕ) (query : Option (List ℕ)) (response : Response)
    : Type 0 where
  pub html : path ≡ codes "/" → IsResponse 200 page_fields PAGE.now response
  pub site : path ≡ codes "/site.json" → IsJson (shown_data x) response
  pub unpaid : path ≡ codes "/unpaid" → IsUnpaidAnswer x.unpaid query response
  pub metrics : path ≡ codes "/metrics" → IsMetricsAnswer x response
  pub health : path ≡ codes "/healthz" → IsHealthAnswer (is_full x.book) response
  pub seal : path ≡ codes "/seal" → IsSealAnswer x.seal response
  pub shifts : path ≡ codes "/shifts" → IsShiftsAnswer x query response
  pub nothing : IsUnknown path → IsNothing response

-- The page answers the request: GET and HEAD by its path, and no other method. Whether there is a
-- body to HEAD is the connection's.
pub record IsPageAnswer (x : Shown) (request : Request (List ℕ)) (response : Response)
    : Type 0 where
  pub read : IsRead request → IsPathAnswer x (path_of request) (query_of request) response
  pub refused : (IsRead request → ⊥) → IsResponse 405 methods_fields [] response
