-- One more row of a history, and values that agree with the site's from row to row.
use Rattle.std.proofs.Common.{◌≡◌, List, [], ◌∷◌, ◌++◌, refl, ap, ◌∙◌}
use Rattle.site_base.specs.declared.row.Row.{Row}
use Rattle.written_site.specs.SiteState.{SiteState}
use Rattle.written_site.specs.SiteStep.{reply_to, site_after}
use Rattle.written_site.specs.SiteRun.{site_of_rows, IsLegal}
use Rattle.written_site.specs.Histories.{fold_rows}

-- one more row leads on from where the rows before it led
pub site_of_rows-push : (s : SiteState) (rs : List Row) (r : Row)
    → site_of_rows s (rs ++ r ∷ []) ≡ site_after (site_of_rows s rs) r.actor r.event
site_of_rows-push s [] r = refl
site_of_rows-push s (x ∷ rs) r = site_of_rows-push (site_after s x.actor x.event) rs r

-- a legal history with one more row of the written step is legal
pub IsLegal-push : (s : SiteState) (rs : List Row) (r : Row) → IsLegal s rs
    → r.reply ≡ reply_to (site_of_rows s rs) r.actor r.event → IsLegal s (rs ++ r ∷ [])
IsLegal-push s [] r legal replies = (replies, tt)
IsLegal-push s (x ∷ rs) r legal replies =
    (legal.0, IsLegal-push (site_after s x.actor x.event) rs r legal.1 replies)

-- What each legal row changes as the written step changes a word of the site: over a legal history
-- the rows lead it to that word of the site reached.
pub folds : {A : Type 0} (word : SiteState → A) (change : A → Row → A)
    → ((s : SiteState) (r : Row) → r.reply ≡ reply_to s r.actor r.event
    → word (site_after s r.actor r.event) ≡ change (word s) r)
    → (s : SiteState) (rs : List Row) → IsLegal s rs
    → word (site_of_rows s rs) ≡ fold_rows change (word s) rs
folds word change agrees s [] legal = refl
folds word change agrees s (r ∷ rs) legal =
    folds word change agrees (site_after s r.actor r.event) rs legal.1
    ∙ ap (λ x. fold_rows change x rs) (agrees s r legal.0)
