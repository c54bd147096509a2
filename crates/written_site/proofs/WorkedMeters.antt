-- Worked rows of a meter that is replaced as often as it may be.
use Rattle.std.proofs.Common.{◌≡◌, ℕ, zero, suc, ◌+◌, ◌<◌, ◌≤◌, List, [], ◌∷◌, ◌++◌, true, Ok, Err}
use Rattle.std.proofs.Common.{sym, subst, arith}
use Rattle.std.proofs.lemmas.Bool.Decides.{nat_tests}
use Rattle.std.specs.Prelude.{replicate, nat_lt}
use Rattle.std.specs.FinSet as set
use Rattle.site_base.specs.declared.actor.Actor.TheVariants.{Till}
use Rattle.site_base.specs.declared.answer.Answer.TheVariants.{Done}
use Rattle.site_base.specs.declared.event.Event.TheVariants.{SignOn, Open, ReplaceMeter}
use Rattle.site_base.specs.declared.refusal.Refusal.TheVariants.{WrongState, MeterSpent}
use Rattle.site_base.specs.declared.row.Row.{Row}
use Rattle.site_base.specs.declared.state.PointState.TheVariants.{Idle}
use Rattle.meters.specs.Nozzles.{with_nozzle}
use Rattle.written_site.specs.SiteState.{SiteState, opening}
use Rattle.written_site.specs.SiteStep.{reply_to, site_after}
use Rattle.written_site.specs.SiteRun.{IsLegal}
use Rattle.written_site.proofs.WorkedRows.{known_site, t1, AreAnswered}
use Rattle.written_site.proofs.WorkedReplies.{answered_when_legal, legal, kit}

-- the meter of nozzle 1 of point 1 is replaced by one that reads 7 ml
abbrev replaced : Row
replaced = t1 (ReplaceMeter 1 1 7) (Ok Done)

-- the rows once it was replaced as often as it may be
abbrev spent : List Row
spent =
    t1 (ReplaceMeter 1 1 7) (Err MeterSpent)
    ∷ t1 (ReplaceMeter 1 2 7) (Ok Done)
    ∷ t1 (Open 1) (Ok Done)
    ∷ t1 (ReplaceMeter 1 1 7) (Err (WrongState Idle))
    ∷ []

-- the known site with till 1 signed on, once it was replaced k times
abbrev after : ℕ → SiteState
after k = record (opening known_site) {
  signed_on = set.insert set.empty 1;
  nozzles = with_nozzle 1 1 (λ x. record x { began = 7; last = 7; replaced = k })
      (opening known_site).nozzles;
}

-- below 99 replacements one more is answered Done, and leads on
is_fewer : (k n : ℕ) → k < n → nat_lt k n ≡ true
is_fewer k n few = grind (arith, nat_tests)

is_done : (k : ℕ) → k < 99 → reply_to (after k) replaced.actor replaced.event ≡ Ok Done
is_done k few = let fewer : nat_lt k 99 ≡ true = is_fewer k 99 few in simp (kit, fewer)

leads : (k : ℕ) → k < 99 → site_after (after k) replaced.actor replaced.event ≡ after (k + 1)
leads k few = let fewer : nat_lt k 99 ≡ true = is_fewer k 99 few in simp (kit, fewer)

-- once more, and once more
again : (n k : ℕ) (rest : List Row) → k + n ≤ 99 → IsLegal (after (k + n)) rest
    → IsLegal (after k) (replicate n replaced ++ rest)
again zero k rest few later = subst (λ (i : ℕ). IsLegal (after i) rest) (omega arith) later
again (suc n) k rest few later = (
  sym (is_done k (omega arith)),
  subst (λ x. IsLegal x (replicate n replaced ++ rest)) (sym (leads k (omega arith)))
      (again n (k + 1) rest (omega arith)
      (subst (λ (i : ℕ). IsLegal (after i) rest) (omega arith) later)),
)

-- till 1 signs on, and replaces it for the first time
abbrev before : SiteState
before = site_after (opening known_site) (Till 1) SignOn

first : (rest : List Row) → IsLegal (after 1) rest
    → IsLegal (opening known_site) (t1 SignOn (Ok Done) ∷ replaced ∷ rest)
first rest later = (simp kit, (simp kit, subst (λ x. IsLegal x rest) leads_to_first later))
  where
    leads_to_first : after 1 ≡ site_after before replaced.actor replaced.event
    leads_to_first = simp kit

is_spent : IsLegal (after 99) spent
is_spent = legal (after 99) spent (simp kit)

-- a nozzle's meter is replaced 99 times, no more; its neighbour's is its own
replaced_99_times : AreAnswered known_site
    (t1 SignOn (Ok Done) ∷ replicate 99 replaced ++ spent)
replaced_99_times =
    answered_when_legal
    (first (replicate 98 replaced ++ spent) (again 98 1 spent (omega arith) is_spent))
