-- Legal histories are the runs.
use Rattle.std.proofs.Common.{List, [], ◌∷◌, refl, ap, ◌∙◌}
use Rattle.site_base.specs.declared.actor.Actor.{Actor}
use Rattle.site_base.specs.declared.event.Event.{Event}
use Rattle.site_base.specs.declared.row.Row.{Row}
use Rattle.written_site.specs.SiteState.{SiteState}
use Rattle.written_site.specs.SiteStep.{reply_to, site_after}
use Rattle.written_site.specs.SiteRun.{rows_of, IsLegal, events_of, replies_of}
use Rattle.written_site.specs.Bridge.{IsRunOf, IsLegalRun, AreLegalHistoriesRuns}

run : (s : SiteState) (history : List Row) → IsLegal s history → IsRunOf s history
run s [] legal = record { rows = refl; replies = refl; leads = refl }
run s (r ∷ rs) legal =
    let rest = run (site_after s r.actor r.event) rs legal.1 in
    let later = rows_of (site_after s r.actor r.event) (events_of rs) in
    record {
      rows =
          ap (λ x. record { actor = r.actor; event = r.event; reply = x } ∷ rs) legal.0
          ∙ ap (λ xs. record {
            actor = r.actor;
            event = r.event;
            reply = reply_to s r.actor r.event;
          } ∷ xs) rest.rows;
      replies =
          ap (λ x. x ∷ replies_of rs) legal.0
          ∙ ap (λ xs. reply_to s r.actor r.event ∷ xs) rest.replies;
      leads = rest.leads;
    }

legal_run : (s : SiteState) (events : List (Actor × Event)) → IsLegalRun s events
legal_run s [] = record { legal = tt; same = refl }
legal_run s (e ∷ es) =
    let rest = legal_run (site_after s e.0 e.1) es in
    record { legal = (refl, rest.legal); same = ap (λ xs. e ∷ xs) rest.same }

pub legal_histories_are_runs : AreLegalHistoriesRuns
legal_histories_are_runs = record { run = run; legal = legal_run }
