-- The tills that are signed on, and the open shift, are those that the rows say.
use Rattle.std.proofs.Common.{◌≡◌, ℕ, ◌+◌, ◌==◌, ◌||◌, ◌&&◌, not, Bool, true, false, ◌∷◌, []}
use Rattle.std.proofs.Common.{length-append, Some, None, unwrap_or, refl, ap, ◌∙◌, if◌then◌else◌}
use Rattle.std.proofs.Common.{arith}
use Rattle.std.specs.Ordering.{nat_cmp}
use Rattle.std.specs.Cmp.{nat_cmp_total, unsigned_tied}
use Rattle.std.specs.FinSet as set
use Rattle.site_base.specs.declared.actor.Actor.{Actor}
use Rattle.site_base.specs.declared.actor.Actor.TheVariants.{Till}
use Rattle.site_base.specs.declared.event.Event.{Event}
use Rattle.site_base.specs.declared.event.Event.TheVariants.{SignOn, SignOff, CloseShift, Offline}
use Rattle.site_base.specs.declared.event.Event.TheVariants.{HangUp}
use Rattle.site_base.specs.declared.row.Row.{Row}
use Rattle.written_site.specs.SiteState.{SiteState, opening, is_signed_on, nothing_drawn}
use Rattle.written_site.specs.SiteState.{open_shift}
use Rattle.written_site.specs.SiteStep.{accepted_site, step_at, nozzles_after, reply_to, site_after}
use Rattle.written_site.specs.RowWords.{OfBooks, signing_said, signing_of, is_close, closes_shift}
use Rattle.written_site.specs.RowWords.{latest}
use Rattle.written_site.specs.SigningLaws.{AreSignedOnByRows, IsShiftByRows}
use Rattle.written_site.proofs.RowWords.{of_row, latest_word, total_word}
use Rattle.written_site.proofs.SoundDraws.{by_length}
use Rattle.written_site.proofs.SoundTables.{turned}

-- ---- who is signed on

signs_on : (tills : set.FinSet nat_cmp) (u t : ℕ)
    → set.contains (set.insert tills u) t
    ≡ unwrap_or (if u == t then Some true else None) (set.contains tills t)
signs_on tills u t =
    set.contains-insert nat_cmp_total tills u t
    ∙ ap (λ (b : Bool). b || set.contains tills t) (unsigned_tied t u ∙ turned t u)
    ∙ by_test (u == t)
  where
    by_test : (b : Bool)
        → (b || set.contains tills t)
        ≡ unwrap_or (if b then Some true else None) (set.contains tills t)
    by_test true = refl
    by_test false = refl

signs_off : (tills : set.FinSet nat_cmp) (u t : ℕ)
    → set.contains (set.remove tills u) t
    ≡ unwrap_or (if u == t then Some false else None) (set.contains tills t)
signs_off tills u t =
    set.contains-remove nat_cmp_total tills u t
    ∙ ap (λ (b : Bool). not b && set.contains tills t) (unsigned_tied t u ∙ turned t u)
    ∙ by_test (u == t)
  where
    by_test : (b : Bool)
        → (not b && set.contains tills t)
        ≡ unwrap_or (if b then Some false else None) (set.contains tills t)
    by_test true = refl
    by_test false = refl

signed_accepted : (t : ℕ) (s : SiteState) (a : Actor) (e : Event)
    → is_signed_on (accepted_site s a e) t ≡ unwrap_or (signing_said t a e) (is_signed_on s t)
signed_accepted t s (Till u) SignOn = signs_on s.signed_on u t
signed_accepted t s (Till u) SignOff = signs_off s.signed_on u t
signed_accepted t s a e = refl

-- one row more
pub signed_row : (t : ℕ) (s : SiteState) (r : Row) → r.reply ≡ reply_to s r.actor r.event
    → is_signed_on (site_after s r.actor r.event) t
    ≡ unwrap_or (signing_of t r) (is_signed_on s t)
signed_row t s r replies =
    of_row (λ row new. is_signed_on new t ≡ unwrap_or (signing_of t row) (is_signed_on s t)) s r
    replies
    (λ refusal. refl)
    (λ passes. signed_accepted t s r.actor r.event)

pub signed_on_by_rows : OfBooks AreSignedOnByRows
signed_on_by_rows c rows legal = record {
  each = λ t. latest_word (λ s. is_signed_on s t) (signing_of t) (signed_row t)
      (opening c) rows legal
      ∙ ap (unwrap_or (latest (signing_of t) rows)) (set.contains-empty nat_cmp t);
}

-- ---- the open shift

shift_accepted : (s : SiteState) (a : Actor) (e : Event)
    → open_shift (accepted_site s a e) ≡ open_shift s + (if is_close e then 1 else 0)
shift_accepted s a (Offline p) = omega (arith, by_length s s.nozzles p (step_at s (Offline p)))
shift_accepted s a (HangUp p n reading) =
    omega (
      arith,
      by_length s (nozzles_after s (HangUp p n reading)) p (step_at s (HangUp p n reading)),
    )
shift_accepted s a CloseShift = length-append s.drawn (nothing_drawn ∷ [])
shift_accepted s a e = omega arith

pub shift_row : (s : SiteState) (r : Row) → r.reply ≡ reply_to s r.actor r.event
    → open_shift (site_after s r.actor r.event)
    ≡ open_shift s + (if closes_shift r then 1 else 0)
shift_row s r replies =
    of_row (λ row new. open_shift new ≡ open_shift s + (if closes_shift row then 1 else 0)) s r
    replies
    (λ refusal. omega arith)
    (λ passes. shift_accepted s r.actor r.event)

pub shift_by_rows : OfBooks IsShiftByRows
shift_by_rows c rows legal = record {
  shift = total_word open_shift (λ r. if closes_shift r then 1 else 0) shift_row
      (opening c) rows legal;
}
