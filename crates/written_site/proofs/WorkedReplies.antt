-- How worked rows are computed: each at the site that the rows before it tell of, by the lemmas of
-- the maps and sets in which a site has its holds, its sales and its tills.
use Rattle.std.proofs.Common.{◌≡◌, ℕ, List, [], ◌∷◌, Bool, cond, Option, Some, None, Result, Ok}
use Rattle.std.proofs.Common.{Err, refl, sym, ap, subst, ◌∙◌, length, arith}
use Rattle.std.specs.Ordering.{nat_cmp}
use Rattle.std.specs.FinMap as finite
use Rattle.std.specs.FinMap.{FinMap, entries, entries-insert, len-entries, len-empty}
use Rattle.std.specs.FinMap.{get-retain_keys, nat_cmp-IsAntisymmetric, gets}
use Rattle.std.specs.FinSet.{members}
use Rattle.site_base.specs.declared.actor.Actor.{Actor}
use Rattle.site_base.specs.declared.answer.Answer.{Answer}
use Rattle.site_base.specs.declared.event.Event.{Event}
use Rattle.site_base.specs.declared.refusal.Refusal.{Refusal}
use Rattle.site_base.specs.declared.row.Row.{Row}
use Rattle.site_base.specs.Checks.{reply_or, value_or}
use Rattle.site_base.specs.Configured.{Configured}
use Rattle.written_site.specs.SiteState.{SiteState, opening}
use Rattle.written_site.specs.SiteChecks.{first_refusal}
use Rattle.written_site.specs.SiteStep.{accepted_site, site_answer, reply_to, site_after}
use Rattle.written_site.specs.SiteRun.{site_at_end, IsLegal, events_of, replies_of}
use Rattle.written_site.proofs.Bridge.{legal_histories_are_runs}
use Rattle.written_site.proofs.WorkedRows.{AreAnswered}

-- the site after an event that was told so: a refusal leaves it
abbrev pub site_told : SiteState → Actor → Event → Result Answer Refusal → SiteState
site_told s actor event (Ok answer) = accepted_site s actor event
site_told s actor event (Err refusal) = s

-- the site's replies, each at the site that the rows before it tell of
abbrev pub replies_on : SiteState → List Row → List (Result Answer Refusal)
replies_on s [] = []
replies_on s (r ∷ rs) =
    reply_to s r.actor r.event ∷ replies_on (site_told s r.actor r.event r.reply) rs

-- a row that is told the site's reply tells of the site that its event leads to
pub leads : (s : SiteState) (r : Row) → r.reply ≡ reply_to s r.actor r.event
    → site_told s r.actor r.event r.reply ≡ site_after s r.actor r.event
leads s r is =
    ap (site_told s r.actor r.event) is ∙ by_refusal (first_refusal s r.actor r.event)
  where
    by_refusal : (refusal : Option Refusal)
        → site_told s r.actor r.event (reply_or refusal (site_answer s r.event))
        ≡ value_or refusal (accepted_site s r.actor r.event) s
    by_refusal None = refl
    by_refusal (Some refusal) = refl

-- rows that are told these replies are a legal history
pub legal : (s : SiteState) (rows : List Row) → replies_on s rows ≡ replies_of rows → IsLegal s rows
legal s [] all = tt
legal s (r ∷ rs) all =
    let here : r.reply ≡ reply_to s r.actor r.event = cc in
    let rest : replies_on (site_told s r.actor r.event r.reply) rs ≡ replies_of rs = cc in (
      here,
      subst (λ x. IsLegal x rs) (leads s r here)
          (legal (site_told s r.actor r.event r.reply) rs rest),
    )

-- the site that rows tell of, one after another
abbrev pub site_on : SiteState → List Row → SiteState
site_on s [] = s
site_on s (r ∷ rs) = site_on (site_told s r.actor r.event r.reply) rs

-- rows that are told the site's replies tell of the site that their events lead to
pub leads_on : (s : SiteState) (rows : List Row) → replies_on s rows ≡ replies_of rows
    → site_at_end s (events_of rows) ≡ site_on s rows
leads_on s [] all = refl
leads_on s (r ∷ rs) all =
    let here : r.reply ≡ reply_to s r.actor r.event = cc in
    let rest : replies_on (site_told s r.actor r.event r.reply) rs ≡ replies_of rs = cc in
    ap (λ x. site_at_end x (events_of rs)) (sym (leads s r here))
    ∙ leads_on (site_told s r.actor r.event r.reply) rs rest

-- rows from the opening site on that are a legal history are told the site's replies
pub answered_when_legal : {c : Configured} {rows : List Row} → IsLegal (opening c) rows
    → AreAnswered c rows
answered_when_legal {c} {rows} legal =
    record { replies = sym (legal_histories_are_runs.run (opening c) rows legal).replies }

-- so are rows that are computed
pub answered : {c : Configured} {rows : List Row} → replies_on (opening c) rows ≡ replies_of rows
    → AreAnswered c rows
answered {c} {rows} all = answered_when_legal (legal (opening c) rows all)

-- what is found under a number in what outlives a sign-off
pub get_kept : {X : Type 0} (m : FinMap nat_cmp X) (keeps : ℕ → Bool) (q : ℕ)
    → finite.get (finite.retain_keys m keeps) q ≡ cond (keeps q) (finite.get m q) None
get_kept m keeps q =
    get-retain_keys m keeps q (λ x tied. ap keeps (sym (nat_cmp-IsAntisymmetric q x tied)))

-- a map without entries has an empty list of them
nothing : {A : Type 0} (xs : List A) → length xs ≡ 0 → xs ≡ []
nothing [] none = refl
nothing (x ∷ xs) none = absurd (omega arith)

pub no_entries : {X : Type 0} → entries (finite.empty {X = X} {R = nat_cmp}) ≡ []
no_entries {X} = nothing (entries (finite.empty {X = X} {R = nat_cmp}))
    (sym (len-entries (finite.empty {X = X} {R = nat_cmp})) ∙ len-empty nat_cmp X)

-- what computes the holds, the tills that are signed on, and the sales
pub ruleset kit = (gets, members, get_kept, no_entries, entries-insert)
