-- Fronts of octets, and histories that go on through calls.
use Rattle.std.proofs.Common.{◌≡◌, ℕ, ◌-◌, List, [], ◌∷◌, ◌++◌, length, take, Option, Some}
use Rattle.std.proofs.Common.{None}
use Rattle.std.proofs.Common.{refl, sym, ap, ◌∙◌, append_assoc, append-nil, arith, subst, inl, inr}
use Rattle.std.specs.Prelude.{◌≤◌}
use Rattle.std.proofs.Math.Seq.{take-append-add}
use Rattle.chapters.proofs.Lists.{all_both, all_each}
use Rattle.journal.specs.Disks.{BeginsWith, DiskFile, GoesOn, Keeps, KeepsMoment, Moment, OfFiles}
use Rattle.journal.specs.Disks.{moment_of}

pub begins_all : (xs : List ℕ) → BeginsWith xs xs
begins_all xs = record { rest = []; parts = sym (append-nil xs) }

pub begins_with : (a b c : List ℕ) → c ≡ a ++ b → BeginsWith a c
begins_with a b c is = record { rest = b; parts = is }

pub begins_then : (a b c : List ℕ) → BeginsWith a b → BeginsWith b c → BeginsWith a c
begins_then a b c one two = record {
  rest = one.rest ++ two.rest;
  parts = two.parts ∙ ap (λ (xs : List ℕ). xs ++ two.rest) one.parts
      ∙ append_assoc a one.rest two.rest;
}

-- ---- histories that go on

pub goes_all : (m : Moment) → GoesOn m m
goes_all m = inl (record { closed = refl; front = begins_all m.front })

pub goes_then : (a b c : Moment) → GoesOn a b → GoesOn b c → GoesOn a c
goes_then a b c (inl one) (inl two) =
    inl (record {
      closed = two.closed ∙ one.closed;
      front = begins_then a.front b.front c.front one.front two.front;
    })
goes_then a b c (inl one) (inr two) =
    inr (record {
      text = two.text;
      more = two.more;
      closed = two.closed ∙ ap (λ (ts : List (List ℕ)). ts ++ two.text ∷ two.more) one.closed;
      front = begins_then a.front b.front two.text one.front two.front;
    })
goes_then a b c (inr one) (inl two) =
    inr (record {
      text = one.text;
      more = one.more;
      closed = two.closed ∙ one.closed;
      front = one.front;
    })
goes_then a b c (inr one) (inr two) =
    inr (record {
      text = one.text;
      more = one.more ++ two.text ∷ two.more;
      closed =
          two.closed ∙ ap (λ (ts : List (List ℕ)). ts ++ two.text ∷ two.more) one.closed
          ∙ append_assoc a.closed (one.text ∷ one.more) (two.text ∷ two.more);
      front = one.front;
    })

-- ---- through calls

pub keeps_less : (m n : Moment) (a b : DiskFile) → GoesOn m n → KeepsMoment n a b
    → KeepsMoment m a b
keeps_less m n a b goes keeps = record {
  more = keeps.more;
  moments = keeps.moments;
  each = all_each (GoesOn n) (GoesOn m) (λ x on. goes_then m n x goes on) keeps.more keeps.each;
  last = goes_then m n (moment_of b) goes keeps.last;
}

pub keeps_then : (m : Moment) (a b c : DiskFile) → KeepsMoment m a b → KeepsMoment m b c
    → KeepsMoment m a c
keeps_then m a b c one two = record {
  more = one.more ++ two.more;
  moments = two.moments ∙ ap (λ (x : List Moment). x ++ two.more) one.moments
      ∙ append_assoc a.moments one.more two.more;
  each = all_both (GoesOn m) one.more two.more one.each two.each;
  last = two.last;
}

pub keeps_none : (m : Moment) (a : DiskFile) → GoesOn m (moment_of a) → KeepsMoment m a a
keeps_none m a goes = record {
  more = [];
  moments = sym (append-nil a.moments);
  each = tt;
  last = goes;
}

-- a call that keeps what is on the disk keeps what an earlier one kept
pub keeps_on : (m : Moment) (a b c : DiskFile) → KeepsMoment m a b → Keeps b c → KeepsMoment m a c
keeps_on m a b c one two =
    keeps_then m a b c one (keeps_less m (moment_of b) b c one.last two)

pub files_same : (a b : Option DiskFile) → b ≡ a → OfFiles Keeps a b
files_same None b is = subst (λ (x : Option DiskFile). OfFiles Keeps None x) (sym is) tt
files_same (Some a) b is =
    subst (λ (x : Option DiskFile). OfFiles Keeps (Some a) x) (sym is)
    (keeps_none (moment_of a) a (goes_all (moment_of a)))

pub files_then : (a b c : Option DiskFile) → OfFiles Keeps a b → OfFiles Keeps b c
    → OfFiles Keeps a c
files_then None None None one two = tt
files_then (Some a) (Some b) (Some c) one two = keeps_on (moment_of a) a b c one two
files_then None None (Some c) one two = absurd two
files_then None (Some b) c one two = absurd one
files_then (Some a) None c one two = absurd one
files_then (Some a) (Some b) None one two = absurd two

-- a front no longer than what stays is a front of it
pub front_of_cut : (n : ℕ) (f xs : List ℕ) → BeginsWith f xs → length f ≤ n
    → BeginsWith f (take n xs)
front_of_cut n f xs begins short = record {
  rest = take (n - length f) begins.rest;
  parts = ap (take n) begins.parts
      ∙ ap (λ (m : ℕ). take m (f ++ begins.rest)) (omega (arith, short))
      ∙ take-append-add f begins.rest (n - length f);
}
