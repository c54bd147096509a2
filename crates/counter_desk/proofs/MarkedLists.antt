-- Marking: one receipt after another, one list after another.
use Rattle.std.proofs.Common.{◌≡◌, ℕ, zero, suc, ◌+◌, ◌<◌, ◌≤◌, Bool, true, false, List, [], ◌∷◌}
use Rattle.std.proofs.Common.{◌++◌, length, take, set, get_or, Some, slice_get, drop, replicate}
use Rattle.std.proofs.Common.{refl, sym, ap, subst, ◌∙◌, inl, inr, ◌⊎◌, arith}
use Rattle.std.proofs.lemmas.List.{take_more}
use Rattle.std.proofs.lemmas.Option.{get_or_from_slice_get, slice_get_within}
use Rattle.std.proofs.lemmas.Bool.Decides.{nat_tests}
use Rattle.site_base.specs.declared.row.Row.{Row}
use Rattle.counter_desk.specs.declared.receipt.Receipt.{Receipt}
use Rattle.counter_desk.specs.Receipts.{StandsAt}
use Rattle.counter_desk.specs.Settlement.{weigh, one_at, next_from, Rises, IsInOrder}
use Rattle.counter_desk.specs.Settlement.{IsStrangeAmong}
use Rattle.counter_desk.specs.Marks.{weigh_marks, IsMarked, IsUnmarkable, AreMarked, AreAllMarked}
use Rattle.counter_desk.proofs.Lists.{all_last, total_last}

rises_last : (low : ℕ) (done : List Receipt) (r : Receipt)
    → Rises low done → next_from low done ≤ r.place → Rises low (done ++ r ∷ [])
rises_last low [] r rises above = (above, tt)
rises_last low (x ∷ done) r rises above = (rises.0, rises_last (x.place + 1) done r rises.1 above)

pub next_last : (low : ℕ) (done : List Receipt) (r : Receipt)
    → next_from low (done ++ r ∷ []) ≡ r.place + 1
next_last low [] r = refl
next_last low (x ∷ done) r = next_last (x.place + 1) done r

-- ---- marks

-- nothing is marked
pub unmarked : (h : ℕ → ℕ) (from n : ℕ) → weigh_marks h from (replicate n false) ≡ 0
unmarked h from zero = refl
unmarked h from (suc n) = let rest = unmarked h (suc from) n in omega (arith, rest)

-- one more mark
pub marked_set : (h : ℕ → ℕ) (from : ℕ) (marks : List Bool) (i : ℕ)
    → i < length marks → get_or marks i false ≡ false
    → weigh_marks h from (set marks i true) ≡ weigh_marks h from marks + h (from + i)
marked_set h from [] i within is = absurd (omega (arith, within))
marked_set h from (true ∷ marks) zero within is = cc
marked_set h from (false ∷ marks) zero within is =
    let at : h (from + 0) ≡ h from = ap h (omega arith) in omega (arith, at)
marked_set h from (m ∷ marks) (suc i) within is =
    let rest = marked_set h (suc from) marks i (omega (arith, within)) is in
    let at : h (from + suc i) ≡ h (suc from + i) = ap h (omega arith) in
    omega (arith, rest, at)

-- a place that is marked counts
pub marked_counts : (k from : ℕ) (marks : List Bool) (i : ℕ) → from + i ≡ k
    → get_or marks i false ≡ true → 1 ≤ weigh_marks (one_at k) from marks
marked_counts k from [] i here is = cc
marked_counts k from (false ∷ marks) zero here is = cc
marked_counts k from (true ∷ marks) zero here is =
    let same : from ≡ k = omega (arith, here) in
    let one : one_at k from ≡ 1 = grind (arith, nat_tests) in
    omega (arith, one)
marked_counts k from (m ∷ marks) (suc i) here is =
    let rest = marked_counts k (suc from) marks i (omega (arith, here)) is in omega (arith, rest)

-- ---- one list

-- what holds while one list's receipts are marked, the next of which may have this place at least
pub record Marking (history : List Row) (old new : List Bool) (done : List Receipt) (low : ℕ) : Type
    0 where
  pub marked : AreMarked history old new done
  pub next : next_from 0 done ≡ low

pub marking_none : (history : List Row) (marks : List Bool) → Marking history marks marks [] 0
marking_none history marks = record {
  marked = record { in_order = record { stand = tt; rise = tt }; weighed = λ h. omega arith };
  next = refl;
}

pub marking_more : (history : List Row) (old now new : List Bool) (receipts : List Receipt)
    (i low : ℕ) (r : Receipt)
    → Marking history old now (take i receipts) low → slice_get receipts i ≡ Some r
    → IsMarked history now new low r → Marking history old new (take (i + 1) receipts) (r.place + 1)
marking_more history old now new receipts i low r so_far found here =
    subst (λ done. Marking history old new done (r.place + 1))
    (
    ap (λ x. take i receipts ++ x ∷ []) (sym (get_or_from_slice_get receipts i r r found))
    ∙ sym (take_more receipts i r (slice_get_within receipts i r found))
    )
    (record {
      marked = record {
        in_order = record {
          stand = all_last (StandsAt history) (take i receipts) r so_far.marked.in_order.stand
              here.stands;
          rise = rises_last 0 (take i receipts) r so_far.marked.in_order.rise
              (omega (arith, so_far.next, here.above));
        };
        weighed = λ h. omega (
          arith,
          here.weighed h,
          so_far.marked.weighed h,
          total_last (λ (x : Receipt). h x.place) (take i receipts) r,
        );
      };
      next = next_last 0 (take i receipts) r;
    })

-- the receipt at this place of the list can't be marked
pub strange_here : (history : List Row) (old now : List Bool) (receipts : List Receipt) (i low : ℕ)
    (r : Receipt)
    → Marking history old now (take i receipts) low → slice_get receipts i ≡ Some r
    → IsUnmarkable history now low r
    → IsStrangeAmong history (weigh_marks (one_at r.place) 0 old) receipts r.place
strange_here history old now receipts i low r so_far found why = record {
  done = take i receipts;
  rest = drop (suc i) receipts;
  strange = r;
  parts = split_at receipts i r found;
  at = refl;
  why = by_cause why;
}
  where
    split_at : (xs : List Receipt) (k : ℕ) (x : Receipt) → slice_get xs k ≡ Some x
        → xs ≡ take k xs ++ x ∷ drop (suc k) xs
    split_at [] k x found = cc
    split_at (y ∷ xs) zero x found = cc
    split_at (y ∷ xs) (suc k) x found = ap (λ zs. y ∷ zs) (split_at xs k x found)

    by_cause : IsUnmarkable history now low r
        → (StandsAt history r → ⊥)
        ⊎ ((r.place < next_from 0 (take i receipts))
        ⊎ (1 ≤ weigh_marks (one_at r.place) 0 old + weigh (one_at r.place) (take i receipts)))
    by_cause (inl other) = inl other
    by_cause (inr (inl below)) = inr (inl (omega (arith, below, so_far.next)))
    by_cause (inr (inr twice)) =
        let counts = marked_counts r.place 0 now r.place (omega arith) twice in
        inr (inr (omega (arith, counts, so_far.marked.weighed (one_at r.place))))

-- ---- all lists

pub all_marked_none : (history : List Row) (n : ℕ) → AreAllMarked history (replicate n false) []
all_marked_none history n = record { in_order = tt; weighed = λ h. unmarked h 0 n }

pub all_marked_more : (history : List Row) (now new : List Bool) (before : List (List Receipt))
    (receipts : List Receipt)
    → AreAllMarked history now before → AreMarked history now new receipts
    → AreAllMarked history new (before ++ receipts ∷ [])
all_marked_more history now new before receipts so_far here = record {
  in_order = all_last (IsInOrder history) before receipts so_far.in_order here.in_order;
  weighed = λ h. omega (
    arith,
    here.weighed h,
    so_far.weighed h,
    total_last (weigh h) before receipts,
  );
}
