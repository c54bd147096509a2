-- A slot that one at a time may take: between takes for two different ones stands an end of the
-- first's, and it stands for t exactly where some moment took it for t and none has ended that
-- since.
use Rattle.std.proofs.Common.{◌≡◌, ◌≢◌, ◌↔◌, ◌⊎◌, inl, inr, ℕ, Bool, true, false, ◌||◌, List, []}
use Rattle.std.proofs.Common.{◌∷◌, ◌++◌, Option, Some, None, if◌then◌else◌, refl, sym, ap, subst}
use Rattle.std.proofs.Common.{◌∙◌}
use Rattle.std.proofs.lemmas.List.{append_assoc}
use Rattle.std.specs.List.{list_any}
use Rattle.written_site.specs.Slots.{IsLastTake}

-- the holder after a moment that takes the slot for some, or for none; ends says whose taking it
-- ends
abbrev pub next : Option ℕ → Option ℕ → (ℕ → Bool) → Option ℕ
next (Some t) holder ends = Some t
next None None ends = None
next None (Some u) ends = if ends u then None else Some u

-- a slot is taken while it is free, or again by its holder
abbrev pub MayTake : Option ℕ → Option ℕ → Type 0
MayTake None holder = Unit {0}
MayTake (Some t) None = Unit {0}
MayTake (Some t) (Some u) = u ≡ t

-- what isn't ended goes on, whether its holder takes it again or not
goes_on : (take : Option ℕ) (t : ℕ) (ends : ℕ → Bool) → MayTake take (Some t) → ends t ≡ false
    → next take (Some t) ends ≡ Some t
goes_on (Some v) t ends may unended = ap (λ (x : ℕ). Some x) (sym may)
goes_on None t ends may unended = rw unended refl

-- where the holder is t after a moment, that moment took the slot for it, or it was so before and
-- isn't ended
comes_from : (take holder : Option ℕ) (t : ℕ) (ends : ℕ → Bool) → next take holder ends ≡ Some t
    → (take ≡ Some t) ⊎ ((holder ≡ Some t) × (ends t ≡ false))
comes_from (Some v) holder t ends is = inl is
comes_from None None t ends is = cc
comes_from None (Some u) t ends is = by_end (ends u) refl is
  where
    by_end : (ended : Bool) → ends u ≡ ended → (if ended then None else Some u) ≡ Some t
        → (None ≡ Some t) ⊎ ((Some u ≡ Some t) × (ends t ≡ false))
    by_end true is' gone = cc
    by_end false is' stays = inr (stays, let same : u ≡ t = cc in ap ends (sym same) ∙ is')

none_isn't : (t : ℕ) → ◌≡◌ {A = Option ℕ} None (Some t) → ⊥
none_isn't t same = cc

or_false : (a b : Bool) → (a || b) ≡ false → (a ≡ false) × (b ≡ false)
or_false true b is = cc
or_false false b is = (refl, is)

module _ {M : Type 0} (takes : M → Option ℕ) (ends : ℕ → M → Bool) where
  -- the holder after these moments
  abbrev pub standing : Option ℕ → List M → Option ℕ
  standing holder [] = holder
  standing holder (m ∷ ms) = standing (next (takes m) holder (λ t. ends t m)) ms

  -- each take is of a free slot, or by its holder
  abbrev pub Fair : Option ℕ → List M → Type 0
  Fair holder [] = Unit {0}
  Fair holder (m ∷ ms) = MayTake (takes m) holder × Fair (next (takes m) holder (λ t. ends t m)) ms

  standing-append : (before ms : List M) (holder : Option ℕ)
      → standing holder (before ++ ms) ≡ standing (standing holder before) ms
  standing-append [] ms holder = refl
  standing-append (m ∷ before) ms holder =
      standing-append before ms (next (takes m) holder (λ t. ends t m))

  Fair-append : (before ms : List M) (holder : Option ℕ) → Fair holder (before ++ ms)
      → Fair (standing holder before) ms
  Fair-append [] ms holder fair = fair
  Fair-append (m ∷ before) ms holder fair =
      Fair-append before ms (next (takes m) holder (λ t. ends t m)) fair.1

  -- what stands for t is taken for another only after an end
  ended_before : (t u : ℕ) (between : List M) (second : M) (since : List M)
      → Fair (Some t) (between ++ second ∷ since)
      → takes second ≡ Some u → t ≢ u → list_any (ends t) between ≡ true
  ended_before t u [] second since fair taken differ =
      absurd (differ (subst (λ take. MayTake take (Some t)) taken fair.0))
  ended_before t u (m ∷ between) second since fair taken differ =
      by_end (λ rest. ended_before t u between second since rest taken differ) (ends t m) refl
    where
      by_end : (Fair (Some t) (between ++ second ∷ since) → list_any (ends t) between ≡ true)
          → (ended : Bool) → ends t m ≡ ended → list_any (ends t) (m ∷ between) ≡ true
      by_end rest true is = rw is refl
      by_end rest false is = rw is (rest
          (subst (λ holder. Fair holder (between ++ second ∷ since))
          (goes_on (takes m) t (λ v. ends v m) fair.0 is) fair.1))

  -- between takes for two different ones stands an end of the first one's
  pub end_between : (holder : Option ℕ) (t u : ℕ) (before : List M) (first : M) (between : List M)
      (second : M) (since : List M)
      → Fair holder (before ++ first ∷ between ++ second ∷ since)
      → takes first ≡ Some t → takes second ≡ Some u → t ≢ u → list_any (ends t) between ≡ true
  end_between holder t u before first between second since fair taken taken' differ =
      let split = subst (Fair holder) (append_assoc before (first ∷ between) (second ∷ since))
      fair in
      let rest = Fair-append before (first ∷ between ++ second ∷ since) holder split in
      ended_before t u between second since
      (subst (λ take. Fair (next take (standing holder before) (λ v. ends v first))
      (between ++ second ∷ since)) taken rest.1)
      taken' differ

  -- a slot that nobody ends goes on standing
  unended_stands : (t : ℕ) (since : List M) → Fair (Some t) since → list_any (ends t) since ≡ false
      → standing (Some t) since ≡ Some t
  unended_stands t [] fair unended = refl
  unended_stands t (m ∷ since) fair unended =
      let ends_none = or_false (ends t m) (list_any (ends t) since) unended in
      let same = goes_on (takes m) t (λ v. ends v m) fair.0 ends_none.0 in
      ap (λ holder. standing holder since) same
      ∙ unended_stands t since (subst (λ holder. Fair holder since) same fair.1) ends_none.1

  more_before : (t : ℕ) (m : M) (ms : List M) → IsLastTake takes ends t ms
      → IsLastTake takes ends t (m ∷ ms)
  more_before t m ms last = record {
    before = m ∷ last.before;
    take = last.take;
    since = last.since;
    parts = ap (λ x. m ∷ x) last.parts;
    taken = last.taken;
    unended = last.unended;
  }

  -- a slot that stands for t at the end has stood for it all the time, or some moment took it last
  stands_since : (t : ℕ) (ms : List M) (holder : Option ℕ) → standing holder ms ≡ Some t
      → ((holder ≡ Some t) × (list_any (ends t) ms ≡ false)) ⊎ IsLastTake takes ends t ms
  stands_since t [] holder is = inl (is, refl)
  stands_since t (m ∷ ms) holder is =
      by_rest (stands_since t ms (next (takes m) holder (λ v. ends v m)) is)
    where
      by_first : list_any (ends t) ms ≡ false → (takes m ≡ Some t)
          ⊎ ((holder ≡ Some t) × (ends t m ≡ false))
          → ((holder ≡ Some t) × (list_any (ends t) (m ∷ ms) ≡ false))
          ⊎ IsLastTake takes ends t (m ∷ ms)
      by_first unended (inl taken) =
          inr (record {
            before = [];
            take = m;
            since = ms;
            parts = refl;
            taken = taken;
            unended = unended;
          })
      by_first unended (inr stood) = inl (stood.0, rw stood.1 unended)

      by_rest : ((next (takes m) holder (λ v. ends v m) ≡ Some t) × (list_any (ends t) ms ≡ false))
          ⊎ IsLastTake takes ends t ms
          → ((holder ≡ Some t) × (list_any (ends t) (m ∷ ms) ≡ false))
          ⊎ IsLastTake takes ends t (m ∷ ms)
      by_rest (inl stood) = by_first stood.1 (comes_from (takes m) holder t (λ v. ends v m) stood.0)
      by_rest (inr last) = inr (more_before t m ms last)

  -- a slot that was free stands for t exactly where some moment took it for t and none has ended
  -- that since
  pub last_take : (t : ℕ) (ms : List M) → Fair None ms → (standing None ms ≡ Some t)
      ↔ IsLastTake takes ends t ms
  last_take t ms fair = (λ is. by_since (stands_since t ms None is), stands)
    where
      by_since : ((None ≡ Some t) × (list_any (ends t) ms ≡ false)) ⊎ IsLastTake takes ends t ms
          → IsLastTake takes ends t ms
      by_since (inl stood) = absurd (none_isn't t stood.0)
      by_since (inr last) = last

      stands : IsLastTake takes ends t ms → standing None ms ≡ Some t
      stands last =
          let here = subst (Fair None) last.parts fair in
          let rest = Fair-append last.before (last.take ∷ last.since) None here in
          let same : next (takes last.take) (standing None last.before) (λ v. ends v last.take)
          ≡ Some t = ap (λ take. next take (standing None last.before) (λ v. ends v last.take))
          last.taken in
          ap (standing None) last.parts
          ∙ standing-append last.before (last.take ∷ last.since) None
          ∙ ap (λ holder. standing holder last.since) same
          ∙ unended_stands t last.since (subst (λ holder. Fair holder last.since) same rest.1)
          last.unended
