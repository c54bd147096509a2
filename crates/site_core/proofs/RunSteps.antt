-- One more event of a run.
use Rattle.std.proofs.Common.{◌≡◌, ℕ, ◌+◌, ◌<◌, List, [], ◌∷◌, ◌++◌, length, get_or, take, drop}
use Rattle.std.proofs.Common.{Result, refl, sym, ap, ◌∙◌}
use Rattle.std.proofs.lemmas.List.{append_assoc, drop_more, take_more}
use Rattle.site_base.specs.declared.actor.Actor.{Actor}
use Rattle.site_base.specs.declared.answer.Answer.{Answer}
use Rattle.site_base.specs.declared.event.Event.{Event}
use Rattle.site_base.specs.declared.refusal.Refusal.{Refusal}
use Rattle.written_site.specs.SiteState.{SiteState}
use Rattle.written_site.specs.SiteStep.{reply_to, site_after}
use Rattle.written_site.specs.SiteRun.{replies_to, site_at_end}

site_at_end-push : (s : SiteState) (es : List (Actor × Event)) (e : Actor × Event)
    → site_at_end s (es ++ e ∷ []) ≡ site_after (site_at_end s es) e.0 e.1
site_at_end-push s [] e = refl
site_at_end-push s (x ∷ es) e = site_at_end-push (site_after s x.0 x.1) es e

-- e is the next of the events, and what is left begins with it
abbrev pub IsNext : List (Actor × Event) → ℕ → Actor × Event → Type 0
IsNext events i e = (i < length events) × (e ≡ get_or events i e)

split : (events : List (Actor × Event)) (i : ℕ) (e : Actor × Event) → IsNext events i e
    → e ∷ drop (i + 1) events ≡ drop i events
split events i e is = ap (λ x. x ∷ drop (i + 1) events) is.1 ∙ sym (drop_more events i e is.0)

pub told_more : (replies : List (Result Answer Refusal)) (s new : SiteState)
    (events : List (Actor × Event)) (i : ℕ) (e : Actor × Event) (reply : Result Answer Refusal)
    → IsNext events i e → reply ≡ reply_to s e.0 e.1 → new ≡ site_after s e.0 e.1
    → (replies ++ reply ∷ []) ++ replies_to new (drop (i + 1) events) ≡ replies
    ++ replies_to s (drop i events)
told_more replies s new events i e reply is replied leads =
    append_assoc replies (reply ∷ []) (replies_to new (drop (i + 1) events))
    ∙ ap (λ r. replies ++ r ∷ replies_to new (drop (i + 1) events)) replied
    ∙ ap (λ n. replies ++ reply_to s e.0 e.1 ∷ replies_to n (drop (i + 1) events)) leads
    ∙ ap (λ rest. replies ++ replies_to s rest) (split events i e is)

pub end_more : (s new : SiteState) (events : List (Actor × Event)) (i : ℕ) (e : Actor × Event)
    → IsNext events i e → new ≡ site_after s e.0 e.1
    → site_at_end new (drop (i + 1) events) ≡ site_at_end s (drop i events)
end_more s new events i e is leads =
    ap (λ n. site_at_end n (drop (i + 1) events)) leads ∙ ap (site_at_end s) (split events i e is)

pub so_far_more : (first s new : SiteState) (events : List (Actor × Event)) (i : ℕ)
    (e : Actor × Event)
    → IsNext events i e → s ≡ site_at_end first (take i events) → new ≡ site_after s e.0 e.1
    → new ≡ site_at_end first (take (i + 1) events)
so_far_more first s new events i e is so_far leads =
    leads
    ∙ ap (λ x. site_after x e.0 e.1) so_far
    ∙ sym (site_at_end-push first (take i events) e)
    ∙ ap (λ x. site_at_end first (take i events ++ x ∷ [])) is.1
    ∙ ap (site_at_end first) (sym (take_more events i e is.0))
