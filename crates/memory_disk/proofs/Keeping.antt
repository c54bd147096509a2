-- What the calls of a disk in memory keep.
use Rattle.std.proofs.Common.{◌≡◌, ℕ, ◌+◌, ◌-◌, ◌≤◌, min, List, [], ◌∷◌, ◌++◌, length}
use Rattle.std.proofs.Common.{drop, take, true}
use Rattle.std.proofs.Common.{sym, ap, inl, inr, ◌∙◌, append-nil, arith}
use Rattle.std.proofs.Math.Seq.{take-add}
use Rattle.std.proofs.lemmas.Bool.{cases_lt}
use Rattle.std.proofs.lemmas.List.{length-take-le, take-append-drop, take_all}
use Rattle.journal.specs.Disks.{BeginsWith, DiskFile, GoesOn, Keeps, KeepsEither, moment_of}
use Rattle.journal.proofs.Fronts.{begins_all, begins_with, goes_all}
use Rattle.memory_disk.specs.Files.{IsLeftOf}

pub begins_taken : (n : ℕ) (xs : List ℕ) → BeginsWith (take n xs) xs
begins_taken n xs = begins_with (take n xs) (drop n xs) xs (sym (take-append-drop n xs))

-- a file with what a crash would leave of it behind its moments
abbrev pub with_moment : DiskFile → DiskFile
with_moment a = record a { moments = a.moments ++ moment_of a ∷ [] }

-- the moment before a call is kept, and what is on the disk goes on
keeps_one : (a b : DiskFile) → b.moments ≡ a.moments ++ moment_of a ∷ []
    → GoesOn (moment_of a) (moment_of b) → Keeps a b
keeps_one a b moments goes = record {
  more = moment_of a ∷ [];
  moments = moments;
  each = (goes_all (moment_of a), tt);
  last = goes;
}

-- of the file so many octets were synced, and now all are
pub keeps_synced : (n : ℕ) (a b : DiskFile) → a.synced ≡ take n a.octets
    → b.moments ≡ a.moments ++ moment_of a ∷ [] → b.closed ≡ a.closed → b.synced ≡ a.octets
    → Keeps a b
keeps_synced n a b front moments closed synced =
    keeps_one a b moments (inl (record {
      closed = closed;
      front = rw (front, synced) (begins_taken n a.octets);
    }))

-- .. and now its open chapter is closed
pub keeps_closed : (n : ℕ) (a b : DiskFile) → a.synced ≡ take n a.octets
    → b.moments ≡ a.moments ++ moment_of a ∷ [] → b.closed ≡ a.closed ++ a.octets ∷ []
    → Keeps a b
keeps_closed n a b front moments closed =
    keeps_one a b moments (inr (record {
      text = a.octets;
      more = [];
      closed = closed;
      front = rw front (begins_taken n a.octets);
    }))

-- .. and now it has these octets
pub keeps_renewed : (octets : List ℕ) (a b : DiskFile)
    → b.moments ≡ a.moments ++ moment_of a ∷ [] → b.closed ≡ a.closed → b.synced ≡ octets
    → KeepsEither octets a b
keeps_renewed octets a b moments closed synced = record {
  more = moment_of a ∷ [];
  moments = moments;
  each = (inl (goes_all (moment_of a)), tt);
  last = inr (inl (record { closed = closed; front = rw synced (begins_all octets) }));
}

-- ---- what a crash leaves

-- so many octets more than n, or as many as there are
take_more : (n kept : ℕ) (xs : List ℕ) → n ≤ length xs
    → take (n + min kept (length xs - n)) xs ≡ take (n + kept) xs
take_more n kept xs within =
    elim (cases_lt (length xs - n) kept) [
      | inl less ↦ take_all (n + min kept (length xs - n)) xs (omega (arith, less, within))
          ∙ sym (take_all (n + kept) xs (omega (arith, less, within)))
      | inr more ↦ ap (λ (m : ℕ). take m xs) (omega (arith, more))
    ]

-- a front begins each longer one
begins_longer : (n m : ℕ) (xs : List ℕ) → n ≤ m → BeginsWith (take n xs) (take m xs)
begins_longer n m xs longer =
    begins_with (take n xs) (take (m - n) (drop n xs)) (take m xs)
    (ap (λ (k : ℕ). take k xs) (omega (arith, longer)) ∙ take-add n (m - n) xs)

-- of the file n octets were synced; a crash leaves so many more
pub left_of : (kept n : ℕ) (a b : DiskFile) → n ≤ length a.octets → a.synced ≡ take n a.octets
    → b.moments ≡ a.moments → b.closed ≡ a.closed
    → b.octets ≡ take (n + min kept (length a.octets - n)) a.octets → b.synced ≡ b.octets
    → b.sound ≡ true → IsLeftOf kept a b
left_of kept n a b within front moments closed octets synced sound = record {
  closed = closed;
  open_one = record {
    octets = is;
    synced = synced ∙ is;
    sound = sound;
  };
  keeps = record {
    more = [];
    moments = moments ∙ sym (append-nil a.moments);
    each = tt;
    last = inl (record {
      closed = closed;
      front = rw (front, synced, octets)
          (begins_longer n (n + min kept (length a.octets - n)) a.octets (omega arith));
    });
  };
}
  where
    count : length a.synced ≡ n
    count = ap length front ∙ length-take-le n a.octets within

    is : b.octets ≡ take (length a.synced + kept) a.octets
    is = octets ∙ take_more n kept a.octets within
        ∙ ap (λ (m : ℕ). take (m + kept) a.octets) (sym count)
