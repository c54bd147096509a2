-- Words read from rows agree with words of the site: what is owed for one row gives it for every
-- history.
use Rattle.std.proofs.Common.{◌≡◌, ℕ, ◌+◌, List, [], ◌∷◌, ◌++◌, Option, Some, None, unwrap_or}
use Rattle.std.proofs.Common.{Result, Ok, Err, refl, sym, ap, subst, ◌∙◌, arith}
use Rattle.std.proofs.lemmas.List.{append_assoc}
use Rattle.site_base.specs.declared.actor.Actor.{Actor}
use Rattle.site_base.specs.declared.answer.Answer.{Answer}
use Rattle.site_base.specs.declared.event.Event.{Event}
use Rattle.site_base.specs.declared.refusal.Refusal.{Refusal}
use Rattle.site_base.specs.declared.row.Row.{Row}
use Rattle.site_base.specs.Checks.{reply_or, value_or}
use Rattle.site_base.specs.Configured.{Configured}
use Rattle.written_site.specs.SiteState.{SiteState, opening}
use Rattle.written_site.specs.SiteChecks.{Passed, first_refusal}
use Rattle.written_site.specs.SiteStep.{accepted_site, site_answer, reply_to, site_after}
use Rattle.written_site.specs.SiteRun.{rows_of, site_at_end, site_of_rows, IsLegal}
use Rattle.written_site.specs.Histories.{fold_rows}
use Rattle.written_site.specs.RowWords.{OfEvents, OfBooks, last_said, latest, total}
use Rattle.written_site.proofs.Bridge.{legal_histories_are_runs}
use Rattle.written_site.proofs.Histories.{folds}
use Rattle.written_site.proofs.PassedChecks.{passed}

-- ---- laws of books are laws of events

pub of_events : (Law : Configured → List Row → SiteState → Type 0) → OfBooks Law → OfEvents Law
of_events Law books c events =
    let history : List Row = rows_of (opening c) events in
    let made = legal_histories_are_runs.legal (opening c) events in
    let run = legal_histories_are_runs.run (opening c) history made.legal in
    subst (Law c history) (run.leads ∙ ap (site_at_end (opening c)) made.same)
    (books c history made.legal)

-- ---- one row

-- a row that is told so
abbrev pub told_row : Actor → Event → Result Answer Refusal → Row
told_row a e reply = record { actor = a; event = e; reply = reply }

-- a legal row is refused, and the site stays, or it is told the site's answer and leads to the site
-- after it
pub of_row : (P : Row → SiteState → Type 0) (s : SiteState) (r : Row)
    → r.reply ≡ reply_to s r.actor r.event
    → ((refusal : Refusal) → P (told_row r.actor r.event (Err refusal)) s)
    → (Passed s r.actor r.event
    → P (told_row r.actor r.event (Ok (site_answer s r.event))) (accepted_site s r.actor r.event))
    → P r (site_after s r.actor r.event)
of_row P s r replies refused accepted =
    subst (λ reply. P (told_row r.actor r.event reply) (site_after s r.actor r.event)) (sym replies)
    (by_refusal (first_refusal s r.actor r.event) refl)
  where
    by_refusal : (o : Option Refusal) → first_refusal s r.actor r.event ≡ o
        → P (told_row r.actor r.event (reply_or o (site_answer s r.event)))
        (value_or o (accepted_site s r.actor r.event) s)
    by_refusal None is = accepted (passed s r.actor r.event is)
    by_refusal (Some refusal) is = refused refusal

-- ---- a fact of the rows so far and the site that they led to

pub append_none : {A : Type 0} (xs : List A) → xs ++ [] ≡ xs
append_none [] = refl
append_none (x ∷ xs) = ap (λ ys. x ∷ ys) (append_none xs)

-- what each legal row keeps is so at the end
pub kept : (I : List Row → SiteState → Type 0)
    → ((earlier : List Row) (s : SiteState) (r : Row) → I earlier s
    → r.reply ≡ reply_to s r.actor r.event
    → I (earlier ++ r ∷ []) (site_after s r.actor r.event))
    → (earlier : List Row) (s : SiteState) (rs : List Row) → I earlier s → IsLegal s rs
    → I (earlier ++ rs) (site_of_rows s rs)
kept I step earlier s [] holds legal = subst (λ rows. I rows s) (sym (append_none earlier)) holds
kept I step earlier s (r ∷ rs) holds legal =
    let next : SiteState = site_after s r.actor r.event in
    subst (λ rows. I rows (site_of_rows next rs)) (append_assoc earlier (r ∷ []) rs)
    (kept I step (earlier ++ r ∷ []) next rs (step earlier s r holds legal.0) legal.1)

-- ---- the last that rows say

pub said_again : {A : Type 0} (o l : Option A) (x : A)
    → unwrap_or (last_said o l) x ≡ unwrap_or l (unwrap_or o x)
said_again o None x = refl
said_again o (Some y) x = refl

folded_latest : {A : Type 0} (says : Row → Option A) (x : A) (rs : List Row)
    → fold_rows (λ y r. unwrap_or (says r) y) x rs ≡ unwrap_or (latest says rs) x
folded_latest says x [] = refl
folded_latest says x (r ∷ rs) =
    folded_latest says (unwrap_or (says r) x) rs ∙ sym (said_again (says r) (latest says rs) x)

-- a word of the site that is what the last row says that says anything
pub latest_word : {A : Type 0} (word : SiteState → A) (says : Row → Option A)
    → ((s : SiteState) (r : Row) → r.reply ≡ reply_to s r.actor r.event
    → word (site_after s r.actor r.event) ≡ unwrap_or (says r) (word s))
    → (s : SiteState) (rs : List Row) → IsLegal s rs
    → word (site_of_rows s rs) ≡ unwrap_or (latest says rs) (word s)
latest_word word says agrees s rs legal =
    folds word (λ y r. unwrap_or (says r) y) agrees s rs legal ∙ folded_latest says (word s) rs

after_none : {A : Type 0} (o : Option A) → last_said None o ≡ o
after_none None = refl
after_none (Some x) = refl

pub said_last : {A : Type 0} (a b c : Option A)
    → last_said a (last_said b c) ≡ last_said (last_said a b) c
said_last a b None = refl
said_last a b (Some x) = refl

-- one row more
pub latest_push : {A : Type 0} (says : Row → Option A) (rs : List Row) (r : Row)
    → latest says (rs ++ r ∷ []) ≡ last_said (latest says rs) (says r)
latest_push says [] r = sym (after_none (says r))
latest_push says (x ∷ rs) r =
    ap (last_said (says x)) (latest_push says rs r)
    ∙ said_last (says x) (latest says rs) (says r)

-- ---- what rows add up to

pub total_push : {A : Type 0} (figure : A → ℕ) (xs : List A) (x : A)
    → total figure (xs ++ x ∷ []) ≡ total figure xs + figure x
total_push figure [] x = omega arith
total_push figure (y ∷ xs) x = let rest = total_push figure xs x in omega (arith, rest)

-- a word of the site to which each row adds
pub total_word : (word : SiteState → ℕ) (figure : Row → ℕ)
    → ((s : SiteState) (r : Row) → r.reply ≡ reply_to s r.actor r.event
    → word (site_after s r.actor r.event) ≡ word s + figure r)
    → (s : SiteState) (rs : List Row) → IsLegal s rs
    → word (site_of_rows s rs) ≡ word s + total figure rs
total_word word figure agrees s [] legal = omega arith
total_word word figure agrees s (r ∷ rs) legal =
    let rest = total_word word figure agrees (site_after s r.actor r.event) rs legal.1 in
    let here = agrees s r legal.0 in
    omega (arith, rest, here)

folded_said : {A : Type 0} (says : Row → Option A) (o : Option A) (rs : List Row)
    → fold_rows (λ x r. last_said x (says r)) o rs ≡ last_said o (latest says rs)
folded_said says o [] = refl
folded_said says o (r ∷ rs) =
    folded_said says (last_said o (says r)) rs ∙ sym (said_last o (says r) (latest says rs))

-- a word of the site that may be none
pub said_word : {A : Type 0} (word : SiteState → Option A) (says : Row → Option A)
    → ((s : SiteState) (r : Row) → r.reply ≡ reply_to s r.actor r.event
    → word (site_after s r.actor r.event) ≡ last_said (word s) (says r))
    → (s : SiteState) (rs : List Row) → IsLegal s rs
    → word (site_of_rows s rs) ≡ last_said (word s) (latest says rs)
said_word word says agrees s rs legal =
    folds word (λ x r. last_said x (says r)) agrees s rs legal ∙ folded_said says (word s) rs
