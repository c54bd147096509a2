-- Texts that answer a request.
use Rattle.std.proofs.Common.{◌≡◌, ◌≢◌, ◌≤◌, ◌++◌, ◌∷◌, ℕ, List, Option, Some, None, Result, Ok}
use Rattle.std.proofs.Common.{Err}
use Rattle.std.proofs.Common.{ap, arith, get_or, refl, subst, sym, ◌∙◌}
use Rattle.std.proofs.lemmas.Fmt.{decimal_injective}
use Rattle.std.specs.Prelude.{OnOk, codes, decimal}
use Rattle.http_server.specs.declared.response.Response.{Response}
use Rattle.http_server.specs.Response.{IsResponse}
use Rattle.serde_json.specs.Data.{Data}
use Rattle.serde_json.specs.Written.{compact_text}
use Rattle.site_base.specs.declared.limits.TheConstants.{POINTS}
use Rattle.site_base.specs.declared.numbers.TheConstants.{GREATEST_SHIFT}
use Rattle.site_book.specs.Book.{is_full}
use Rattle.site_book.specs.declared.named_sale.NamedSale.{NamedSale}
use Rattle.site_json.specs.Transactions.{unpaid_data}
use Rattle.site_page.specs.declared.query.Asked.{Asked}
use Rattle.site_page.specs.declared.query.Asked.TheVariants.{All, Point, Unknown}
use Rattle.site_page.specs.declared.html.TheConstants.{PAGE}
use Rattle.site_page.specs.PageAnswers.{AreShifts, AsksFor, AsksFrom, IsAsked, IsHealthAnswer}
use Rattle.site_page.specs.PageAnswers.{IsJson, IsMetricsAnswer, IsNothing, IsShiftsAnswer}
use Rattle.site_page.specs.PageAnswers.{IsShiftsUnknown, IsUnpaidUnknown}
use Rattle.site_page.specs.PageAnswers.{IsPathAnswer, IsSealAnswer, IsUnpaidAnswer, Shown}
use Rattle.site_page.specs.PageAnswers.{page_fields, shown_data, site_fields}

-- a text that is JSON
pub json_sent : {T E : Type 0} (r : Result T E) (text : List ℕ) (shown : Data)
    (response : Response) → text ≡ compact_text shown
    → OnOk r (IsResponse 200 site_fields text response) → OnOk r (IsJson shown response)
json_sent r text shown response is sent =
    subst (λ (t : List ℕ). OnOk r (IsResponse 200 site_fields t response)) is sent

by_ok : {T E : Type 0} (r : Result T E) (P Q : Type 0) → (P → Q) → OnOk r P → OnOk r Q
by_ok (Ok a) P Q then p = then p
by_ok (Err e) P Q then p = tt

-- a query names one point
same_point : (p q : ℕ) → p ≤ POINTS → q ≤ POINTS
    → codes "point=" ++ decimal p ≡ codes "point=" ++ decimal q → p ≡ q
same_point p q r s is =
    let e : decimal p ≡ decimal q = cc in
    decimal_injective p q (omega (arith, r)) (omega (arith, s)) e

-- a query names one shift
same_shift : (p q : ℕ) → p ≤ GREATEST_SHIFT → q ≤ GREATEST_SHIFT
    → codes "from=" ++ decimal p ≡ codes "from=" ++ decimal q → p ≡ q
same_shift p q r s is =
    let e : decimal p ≡ decimal q = cc in
    decimal_injective p q (omega (arith, r)) (omega (arith, s)) e

-- a query behind this word names one number
abbrev NamesOne : List ℕ → ℕ → Type 0
NamesOne word most =
    (p q : ℕ) → p ≤ most → q ≤ most → word ++ decimal p ≡ word ++ decimal q → p ≡ q

-- there is no query
for_all : (word : List ℕ) (most : ℕ) (query : Option (List ℕ)) (Every Other : Type 0)
    (Numbered : ℕ → Type 0) → query ≡ None → Every → IsAsked word most query Every Numbered Other
for_all word most query Every Other Numbered none answer = record {
  all = λ is. answer;
  some = λ p least greatest is.
      absurd (let never : Some (word ++ decimal p) ≡ None = sym is ∙ none in cc);
  other = λ q is unlike. absurd (let never : Some q ≡ None = sym is ∙ none in cc);
}

-- .. it names a number
for_number : (word : List ℕ) (most : ℕ) (query : Option (List ℕ)) (Every Other : Type 0)
    (Numbered : ℕ → Type 0) (p : ℕ) → NamesOne word most → p ≤ most
    → query ≡ Some (word ++ decimal p) → 1 ≤ p → Numbered p
    → IsAsked word most query Every Numbered Other
for_number word most query Every Other Numbered p names_one greatest asks least answer = record {
  all = λ is. absurd (let never : Some (word ++ decimal p) ≡ None = sym asks ∙ is in cc);
  some = λ q low high is.
      let one : Some (word ++ decimal p) ≡ Some (word ++ decimal q) = sym asks ∙ is in
      let texts : word ++ decimal p ≡ word ++ decimal q = cc in
      subst Numbered (names_one p q greatest high texts) answer;
  other = λ q is unlike.
      absurd (unlike p least greatest
      (let one : Some (word ++ decimal p) ≡ Some q = sym asks ∙ is in cc));
}

-- .. it says something else
for_unknown : (word : List ℕ) (most : ℕ) (q : List ℕ) (query : Option (List ℕ))
    (Every Other : Type 0) (Numbered : ℕ → Type 0) → query ≡ Some q
    → ((p : ℕ) → 1 ≤ p → p ≤ most → q ≢ word ++ decimal p) → Other
    → IsAsked word most query Every Numbered Other
for_unknown word most q query Every Other Numbered asks unlike answer = record {
  all = λ is. absurd (let never : Some q ≡ None = sym asks ∙ is in cc);
  some = λ p low high is.
      absurd (unlike p low high
      (let one : Some q ≡ Some (word ++ decimal p) = sym asks ∙ is in cc));
  other = λ r is others. answer;
}

-- the point that is asked for, if it is one
abbrev pub point_of : Asked → Option ℕ
point_of All = None
point_of (Point p) = Some p
point_of Unknown = None

pub asked_all : {T E : Type 0} (r : Result T E) (unpaid : List NamedSale)
    (query : Option (List ℕ)) (asked : Asked) (response : Response) → AsksFor query asked
    → asked ≡ All → OnOk r (IsJson (unpaid_data None unpaid) response)
    → OnOk r (IsUnpaidAnswer unpaid query response)
asked_all r unpaid None All response asks is json =
    by_ok r _ (IsUnpaidAnswer unpaid None response)
    (for_all (codes "point=") POINTS None (IsJson (unpaid_data None unpaid) response)
    (IsUnpaidUnknown response) (λ p. IsJson (unpaid_data (Some p) unpaid) response) refl) json
asked_all r unpaid (Some q) All response asks is json = absurd asks
asked_all r unpaid query (Point p) response asks is json =
    absurd (let never : Point p ≡ All = is in cc)
asked_all r unpaid query Unknown response asks is json =
    absurd (let never : Unknown ≡ All = is in cc)

pub asked_point : {T E : Type 0} (r : Result T E) (unpaid : List NamedSale)
    (query : Option (List ℕ)) (asked : Asked) (p : ℕ) (response : Response) → AsksFor query asked
    → asked ≡ Point p → OnOk r (IsJson (unpaid_data (Some p) unpaid) response)
    → OnOk r (IsUnpaidAnswer unpaid query response)
asked_point r unpaid (Some q) (Point n) p response asks is json =
    let same : n ≡ p = cc in
    by_ok r _ (IsUnpaidAnswer unpaid (Some q) response)
    (for_number (codes "point=") POINTS (Some q) (IsJson (unpaid_data None unpaid) response)
    (IsUnpaidUnknown response) (λ (k : ℕ). IsJson (unpaid_data (Some k) unpaid) response) p
    same_point (omega (arith, same, asks.1))
    (let words : q ≡ codes "point=" ++ decimal n = asks.2 in cc) (omega (arith, same, asks.0))) json
asked_point r unpaid None (Point n) p response asks is json = absurd asks
asked_point r unpaid query All p response asks is json =
    absurd (let never : All ≡ Point p = is in cc)
asked_point r unpaid query Unknown p response asks is json =
    absurd (let never : Unknown ≡ Point p = is in cc)

pub asked_unknown : {T E : Type 0} (r : Result T E) (unpaid : List NamedSale)
    (query : Option (List ℕ)) (asked : Asked) (response : Response) → AsksFor query asked
    → asked ≡ Unknown → OnOk r (IsUnpaidUnknown response)
    → OnOk r (IsUnpaidAnswer unpaid query response)
asked_unknown r unpaid (Some q) Unknown response asks is line =
    by_ok r _ (IsUnpaidAnswer unpaid (Some q) response)
    (for_unknown (codes "point=") POINTS q (Some q) (IsJson (unpaid_data None unpaid) response)
    (IsUnpaidUnknown response) (λ (k : ℕ). IsJson (unpaid_data (Some k) unpaid) response)
    refl asks) line
asked_unknown r unpaid None Unknown response asks is line = absurd asks
asked_unknown r unpaid query All response asks is line =
    absurd (let never : All ≡ Unknown = is in cc)
asked_unknown r unpaid query (Point p) response asks is line =
    absurd (let never : Point p ≡ Unknown = is in cc)

-- the shifts from the one that is asked for
pub asked_shifts : {T E : Type 0} (r : Result T E) (x : Shown) (query : Option (List ℕ))
    (asked : Option ℕ) (n : ℕ) (response : Response) → AsksFrom query asked → asked ≡ Some n
    → OnOk r (AreShifts n x response) → OnOk r (IsShiftsAnswer x query response)
asked_shifts r x None (Some m) n response asks is lines =
    let same : m ≡ n = cc in
    let first : m ≡ 1 = asks in
    by_ok r (AreShifts n x response) (IsShiftsAnswer x None response)
    (λ answer. for_all (codes "from=") GREATEST_SHIFT None (AreShifts 1 x response)
    (IsShiftsUnknown response) (λ (k : ℕ). AreShifts k x response) refl
    (subst (λ (k : ℕ). AreShifts k x response) (sym same ∙ first) answer)) lines
asked_shifts r x (Some q) (Some m) n response asks is lines =
    let same : m ≡ n = cc in
    by_ok r (AreShifts n x response) (IsShiftsAnswer x (Some q) response)
    (for_number (codes "from=") GREATEST_SHIFT (Some q) (AreShifts 1 x response)
    (IsShiftsUnknown response) (λ (k : ℕ). AreShifts k x response) n
    same_shift (omega (arith, same, asks.1))
    (let words : q ≡ codes "from=" ++ decimal m = asks.2 in cc) (omega (arith, same, asks.0))) lines
asked_shifts r x query None n response asks is lines =
    absurd (let never : ◌≡◌ {A = Option ℕ} None (Some n) = is in cc)

pub asked_no_shifts : {T E : Type 0} (r : Result T E) (x : Shown) (query : Option (List ℕ))
    (asked : Option ℕ) (response : Response) → AsksFrom query asked → asked ≡ None
    → OnOk r (IsShiftsUnknown response) → OnOk r (IsShiftsAnswer x query response)
asked_no_shifts r x (Some q) None response asks is line =
    by_ok r (IsShiftsUnknown response) (IsShiftsAnswer x (Some q) response)
    (for_unknown (codes "from=") GREATEST_SHIFT q (Some q) (AreShifts 1 x response)
    (IsShiftsUnknown response) (λ (k : ℕ). AreShifts k x response) refl asks) line
asked_no_shifts r x None None response asks is line = absurd asks
asked_no_shifts r x query (Some m) response asks is line =
    absurd (let never : ◌≡◌ {A = Option ℕ} (Some m) None = is in cc)

-- ---- by the path

-- two paths of one length
metrics_or_health : codes "/metrics" ≡ codes "/healthz" → ⊥
metrics_or_health is =
    let second : get_or (codes "/metrics") 1 0 ≡ get_or (codes "/healthz") 1 0 =
    ap (λ (l : List ℕ). get_or l 1 0) is in
    let never : 109 ≡ 104 = second in omega (arith, never)

shifts_or_unpaid : codes "/shifts" ≡ codes "/unpaid" → ⊥
shifts_or_unpaid is =
    let second : get_or (codes "/shifts") 1 0 ≡ get_or (codes "/unpaid") 1 0 =
    ap (λ (l : List ℕ). get_or l 1 0) is in
    let never : 115 ≡ 117 = second in omega (arith, never)

one_html : (x : Shown) (path : List ℕ) (query : Option (List ℕ)) (response : Response)
    → path ≡ codes "/" → IsResponse 200 page_fields PAGE.now response
    → IsPathAnswer x path query response
one_html x path query response this answer = record {
  html = λ is. answer;
  site = λ is. absurd (let never : codes "/" ≡ codes "/site.json" = sym this ∙ is in cc);
  unpaid = λ is. absurd (let never : codes "/" ≡ codes "/unpaid" = sym this ∙ is in cc);
  metrics = λ is. absurd (let never : codes "/" ≡ codes "/metrics" = sym this ∙ is in cc);
  health = λ is. absurd (let never : codes "/" ≡ codes "/healthz" = sym this ∙ is in cc);
  seal = λ is. absurd (let never : codes "/" ≡ codes "/seal" = sym this ∙ is in cc);
  shifts = λ is. absurd (let never : codes "/" ≡ codes "/shifts" = sym this ∙ is in cc);
  nothing = λ unknown. absurd (unknown.html this);
}

one_site : (x : Shown) (path : List ℕ) (query : Option (List ℕ)) (response : Response)
    → path ≡ codes "/site.json" → IsJson (shown_data x) response
    → IsPathAnswer x path query response
one_site x path query response this answer = record {
  html = λ is. absurd (let never : codes "/site.json" ≡ codes "/" = sym this ∙ is in cc);
  site = λ is. answer;
  unpaid = λ is. absurd (let never : codes "/site.json" ≡ codes "/unpaid" = sym this ∙ is in cc);
  metrics = λ is. absurd (let never : codes "/site.json" ≡ codes "/metrics" = sym this ∙ is in cc);
  health = λ is. absurd (let never : codes "/site.json" ≡ codes "/healthz" = sym this ∙ is in cc);
  seal = λ is. absurd (let never : codes "/site.json" ≡ codes "/seal" = sym this ∙ is in cc);
  shifts = λ is. absurd (let never : codes "/site.json" ≡ codes "/shifts" = sym this ∙ is in cc);
  nothing = λ unknown. absurd (unknown.site this);
}

one_unpaid : (x : Shown) (path : List ℕ) (query : Option (List ℕ)) (response : Response)
    → path ≡ codes "/unpaid" → IsUnpaidAnswer x.unpaid query response
    → IsPathAnswer x path query response
one_unpaid x path query response this answer = record {
  html = λ is. absurd (let never : codes "/unpaid" ≡ codes "/" = sym this ∙ is in cc);
  site = λ is. absurd (let never : codes "/unpaid" ≡ codes "/site.json" = sym this ∙ is in cc);
  unpaid = λ is. answer;
  metrics = λ is. absurd (let never : codes "/unpaid" ≡ codes "/metrics" = sym this ∙ is in cc);
  health = λ is. absurd (let never : codes "/unpaid" ≡ codes "/healthz" = sym this ∙ is in cc);
  seal = λ is. absurd (let never : codes "/unpaid" ≡ codes "/seal" = sym this ∙ is in cc);
  shifts = λ is. absurd (shifts_or_unpaid (sym is ∙ this));
  nothing = λ unknown. absurd (unknown.unpaid this);
}

one_metrics : (x : Shown) (path : List ℕ) (query : Option (List ℕ)) (response : Response)
    → path ≡ codes "/metrics" → IsMetricsAnswer x response
    → IsPathAnswer x path query response
one_metrics x path query response this answer = record {
  html = λ is. absurd (let never : codes "/metrics" ≡ codes "/" = sym this ∙ is in cc);
  site = λ is. absurd (let never : codes "/metrics" ≡ codes "/site.json" = sym this ∙ is in cc);
  unpaid = λ is. absurd (let never : codes "/metrics" ≡ codes "/unpaid" = sym this ∙ is in cc);
  metrics = λ is. answer;
  health = λ is. absurd (metrics_or_health (sym this ∙ is));
  seal = λ is. absurd (let never : codes "/metrics" ≡ codes "/seal" = sym this ∙ is in cc);
  shifts = λ is. absurd (let never : codes "/metrics" ≡ codes "/shifts" = sym this ∙ is in cc);
  nothing = λ unknown. absurd (unknown.metrics this);
}

one_health : (x : Shown) (path : List ℕ) (query : Option (List ℕ)) (response : Response)
    → path ≡ codes "/healthz" → IsHealthAnswer (is_full x.book) response
    → IsPathAnswer x path query response
one_health x path query response this answer = record {
  html = λ is. absurd (let never : codes "/healthz" ≡ codes "/" = sym this ∙ is in cc);
  site = λ is. absurd (let never : codes "/healthz" ≡ codes "/site.json" = sym this ∙ is in cc);
  unpaid = λ is. absurd (let never : codes "/healthz" ≡ codes "/unpaid" = sym this ∙ is in cc);
  metrics = λ is. absurd (metrics_or_health (sym is ∙ this));
  health = λ is. answer;
  seal = λ is. absurd (let never : codes "/healthz" ≡ codes "/seal" = sym this ∙ is in cc);
  shifts = λ is. absurd (let never : codes "/healthz" ≡ codes "/shifts" = sym this ∙ is in cc);
  nothing = λ unknown. absurd (unknown.health this);
}

one_seal : (x : Shown) (path : List ℕ) (query : Option (List ℕ)) (response : Response)
    → path ≡ codes "/seal" → IsSealAnswer x.seal response
    → IsPathAnswer x path query response
one_seal x path query response this answer = record {
  html = λ is. absurd (let never : codes "/seal" ≡ codes "/" = sym this ∙ is in cc);
  site = λ is. absurd (let never : codes "/seal" ≡ codes "/site.json" = sym this ∙ is in cc);
  unpaid = λ is. absurd (let never : codes "/seal" ≡ codes "/unpaid" = sym this ∙ is in cc);
  metrics = λ is. absurd (let never : codes "/seal" ≡ codes "/metrics" = sym this ∙ is in cc);
  health = λ is. absurd (let never : codes "/seal" ≡ codes "/healthz" = sym this ∙ is in cc);
  seal = λ is. answer;
  shifts = λ is. absurd (let never : codes "/seal" ≡ codes "/shifts" = sym this ∙ is in cc);
  nothing = λ unknown. absurd (unknown.seal this);
}

one_shifts : (x : Shown) (path : List ℕ) (query : Option (List ℕ)) (response : Response)
    → path ≡ codes "/shifts" → IsShiftsAnswer x query response
    → IsPathAnswer x path query response
one_shifts x path query response this answer = record {
  html = λ is. absurd (let never : codes "/shifts" ≡ codes "/" = sym this ∙ is in cc);
  site = λ is. absurd (let never : codes "/shifts" ≡ codes "/site.json" = sym this ∙ is in cc);
  unpaid = λ is. absurd (shifts_or_unpaid (sym this ∙ is));
  metrics = λ is. absurd (let never : codes "/shifts" ≡ codes "/metrics" = sym this ∙ is in cc);
  health = λ is. absurd (let never : codes "/shifts" ≡ codes "/healthz" = sym this ∙ is in cc);
  seal = λ is. absurd (let never : codes "/shifts" ≡ codes "/seal" = sym this ∙ is in cc);
  shifts = λ is. answer;
  nothing = λ unknown. absurd (unknown.shifts this);
}

pub path_html : {T E : Type 0} (r : Result T E) (x : Shown) (path : List ℕ)
    (query : Option (List ℕ)) (response : Response) → path ≡ codes "/"
    → OnOk r (IsResponse 200 page_fields PAGE.now response)
    → OnOk r (IsPathAnswer x path query response)
path_html r x path query response this answer =
    by_ok r _ _ (one_html x path query response this) answer

pub path_site : {T E : Type 0} (r : Result T E) (x : Shown) (path : List ℕ)
    (query : Option (List ℕ)) (response : Response) → path ≡ codes "/site.json"
    → OnOk r (IsJson (shown_data x) response)
    → OnOk r (IsPathAnswer x path query response)
path_site r x path query response this answer =
    by_ok r _ _ (one_site x path query response this) answer

pub path_unpaid : {T E : Type 0} (r : Result T E) (x : Shown) (path : List ℕ)
    (query : Option (List ℕ)) (response : Response) → path ≡ codes "/unpaid"
    → OnOk r (IsUnpaidAnswer x.unpaid query response)
    → OnOk r (IsPathAnswer x path query response)
path_unpaid r x path query response this answer =
    by_ok r _ _ (one_unpaid x path query response this) answer

pub path_metrics : {T E : Type 0} (r : Result T E) (x : Shown) (path : List ℕ)
    (query : Option (List ℕ)) (response : Response) → path ≡ codes "/metrics"
    → OnOk r (IsMetricsAnswer x response)
    → OnOk r (IsPathAnswer x path query response)
path_metrics r x path query response this answer =
    by_ok r _ _ (one_metrics x path query response this) answer

pub path_health : {T E : Type 0} (r : Result T E) (x : Shown) (path : List ℕ)
    (query : Option (List ℕ)) (response : Response) → path ≡ codes "/healthz"
    → OnOk r (IsHealthAnswer (is_full x.book) response)
    → OnOk r (IsPathAnswer x path query response)
path_health r x path query response this answer =
    by_ok r _ _ (one_health x path query response this) answer

pub path_seal : {T E : Type 0} (r : Result T E) (x : Shown) (path : List ℕ)
    (query : Option (List ℕ)) (response : Response) → path ≡ codes "/seal"
    → OnOk r (IsSealAnswer x.seal response)
    → OnOk r (IsPathAnswer x path query response)
path_seal r x path query response this answer =
    by_ok r _ _ (one_seal x path query response this) answer

pub path_shifts : {T E : Type 0} (r : Result T E) (x : Shown) (path : List ℕ)
    (query : Option (List ℕ)) (response : Response) → path ≡ codes "/shifts"
    → OnOk r (IsShiftsAnswer x query response)
    → OnOk r (IsPathAnswer x path query response)
path_shifts r x path query response this answer =
    by_ok r _ _ (one_shifts x path query response this) answer

pub path_other : {T E : Type 0} (r : Result T E) (x : Shown) (path : List ℕ)
    (query : Option (List ℕ)) (response : Response) → path ≢ codes "/"
    → path ≢ codes "/site.json" → path ≢ codes "/unpaid" → path ≢ codes "/metrics"
    → path ≢ codes "/healthz" → path ≢ codes "/seal" → path ≢ codes "/shifts"
    → OnOk r (IsNothing response) → OnOk r (IsPathAnswer x path query response)
path_other r x path query response html site unpaid metrics health seal shifts answer =
    by_ok r _ _ (λ none. record {
      html = λ is. absurd (html is);
      site = λ is. absurd (site is);
      unpaid = λ is. absurd (unpaid is);
      metrics = λ is. absurd (metrics is);
      health = λ is. absurd (health is);
      seal = λ is. absurd (seal is);
      shifts = λ is. absurd (shifts is);
      nothing = λ unknown. none;
    }) answer

pub ruleset by_path = (
  path_html,
  path_site,
  path_unpaid,
  path_metrics,
  path_health,
  path_seal,
  path_shifts,
  path_other,
)

pub ruleset asked = (
  asked_all,
  asked_point,
  asked_unknown,
  asked_shifts,
  asked_no_shifts,
)
