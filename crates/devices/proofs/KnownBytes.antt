-- How known octets are read and written one after another, and what a count of failures does.
-- A loop over a device names `known` in its attribute, and joins what it moved before to what it
-- moves now.
use Rattle.std.proofs.Common.{◌≡◌, ℕ, ◌+◌, ◌-◌, List, [], ◌++◌, Option, Some, None, length, take}
use Rattle.std.proofs.Common.{drop, refl, sym, ap, ◌∙◌, append_assoc, append-nil, arith}
use Rattle.std.proofs.Common.{length-drop, subst, take-append-drop}
use Rattle.std.proofs.Math.Seq.{take-add}
use Rattle.std.proofs.lemmas.List.{take_all}
use Rattle.std.specs.Io.KnownBytes.{Appends, Consumes, Keeps}
use Rattle.devices.specs.Devices.{one_more, Rose, AppendsFront}

-- ---- known octets that stay

pub Keeps-refl : (u : Option (List ℕ)) → Keeps u u
Keeps-refl None = tt
Keeps-refl (Some xs) = refl

pub Keeps-then : (u v w : Option (List ℕ)) → Keeps u v → Keeps v w → Keeps u w
Keeps-then None v w x y = tt
Keeps-then (Some xs) None w x y = absurd x
Keeps-then (Some xs) (Some ys) None x y = y
Keeps-then (Some xs) (Some ys) (Some zs) x y = y ∙ x

-- ---- what is read, piece after piece

-- before the first piece nothing is read
pub Consumes-none : (u : Option (List ℕ)) → Consumes u u []
Consumes-none None = tt
Consumes-none (Some xs) = refl

-- a piece, and then another
pub Consumes-then : (u v w : Option (List ℕ)) (a b : List ℕ) → Consumes u v a → Consumes v w b
    → Consumes u w (a ++ b)
Consumes-then None v w a b x y = tt
Consumes-then (Some xs) None w a b x y = absurd x
Consumes-then (Some xs) (Some ys) None a b x y = y
Consumes-then (Some xs) (Some ys) (Some zs) a b x y = x ∙ ap (λ (t : List ℕ). a ++ t) y
    ∙ sym (append_assoc a b zs)

-- a piece, and then a read that gives none
pub Consumes-kept : (u v w : Option (List ℕ)) (a : List ℕ) → Consumes u v a → Keeps v w
    → Consumes u w a
Consumes-kept None v w a x y = tt
Consumes-kept (Some xs) None w a x y = absurd x
Consumes-kept (Some xs) (Some ys) None a x y = y
Consumes-kept (Some xs) (Some ys) (Some zs) a x y = x ∙ ap (λ (t : List ℕ). a ++ t) (sym y)

-- a read that gives none, and then a piece
pub Keeps-Consumes : (u v w : Option (List ℕ)) (a : List ℕ) → Keeps u v → Consumes v w a
    → Consumes u w a
Keeps-Consumes None v w a x y = tt
Keeps-Consumes (Some xs) None w a x y = absurd x
Keeps-Consumes (Some xs) (Some ys) None a x y = y
Keeps-Consumes (Some xs) (Some ys) (Some zs) a x y = sym x ∙ y

-- ---- what is written, text after text

-- before the first text nothing is written
pub Appends-none : (u : Option (List ℕ)) → Appends u u []
Appends-none None = tt
Appends-none (Some xs) = sym (append-nil xs)

-- a text, and then another
pub Appends-then : (u v w : Option (List ℕ)) (a b : List ℕ) → Appends u v a → Appends v w b
    → Appends u w (a ++ b)
Appends-then None v w a b x y = tt
Appends-then (Some xs) None w a b x y = absurd x
Appends-then (Some xs) (Some ys) None a b x y = y
Appends-then (Some xs) (Some ys) (Some zs) a b x y = y ∙ ap (λ (t : List ℕ). t ++ b) x
    ∙ append_assoc xs a b

-- a text, and then a call that writes nothing
pub Appends-kept : (u v w : Option (List ℕ)) (a : List ℕ) → Appends u v a → Keeps v w
    → Appends u w a
Appends-kept None v w a x y = tt
Appends-kept (Some xs) None w a x y = absurd x
Appends-kept (Some xs) (Some ys) None a x y = y
Appends-kept (Some xs) (Some ys) (Some zs) a x y = y ∙ x

-- ---- a front of a text

-- a whole text is a front of itself
pub AppendsFront-whole : (u v : Option (List ℕ)) (a : List ℕ) → Appends u v a → AppendsFront u v a
AppendsFront-whole u v a x = record {
  front = a;
  rest = [];
  parts = sym (append-nil a);
  written = x;
}

-- what was written so far is a front of all that is to be written
pub AppendsFront-so_far : (u v : Option (List ℕ)) (a b : List ℕ) → Appends u v a
    → AppendsFront u v (a ++ b)
AppendsFront-so_far u v a b x = record { front = a; rest = b; parts = refl; written = x }

-- a text, and then a front of another
pub Appends-front : (u v w : Option (List ℕ)) (a b : List ℕ) → Appends u v a → AppendsFront v w b
    → AppendsFront u w (a ++ b)
Appends-front u v w a b x y = record {
  front = a ++ y.front;
  rest = y.rest;
  parts = ap (λ (t : List ℕ). a ++ t) y.parts ∙ sym (append_assoc a y.front y.rest);
  written = Appends-then u v w a y.front x y.written;
}

-- a front of a text is a front of any longer one
pub AppendsFront-longer : (u v : Option (List ℕ)) (a b : List ℕ) → AppendsFront u v a
    → AppendsFront u v (a ++ b)
AppendsFront-longer u v a b x = record {
  front = x.front;
  rest = x.rest ++ b;
  parts = ap (λ (t : List ℕ). t ++ b) x.parts ∙ append_assoc x.front x.rest b;
  written = x.written;
}

-- what was written so far, where it is the text up to n
pub AppendsFront-taken : (u v : Option (List ℕ)) (n : ℕ) (a : List ℕ) → Appends u v (take n a)
    → AppendsFront u v a
AppendsFront-taken u v n a x =
    record { front = take n a; rest = drop n a; parts = sym (take-append-drop n a); written = x }

-- the text up to n, and then m octets of the rest of it, as a call with that rest writes them
pub Appends-taken : (u v w : Option (List ℕ)) (n m : ℕ) (a : List ℕ) → Appends u v (take n a)
    → Appends v w (take m (take (length a - n) (drop n a))) → Appends u w (take (n + m) a)
Appends-taken u v w n m a x y =
    let rest : take (length a - n) (drop n a) ≡ drop n a =
    take_all (length a - n) (drop n a) (omega (arith, length-drop {A = ℕ} n a)) in
    let joined : take n a ++ take m (take (length a - n) (drop n a)) ≡ take (n + m) a =
    ap (λ (t : List ℕ). take n a ++ take m t) rest ∙ sym (take-add n m a) in
    subst (Appends u w) joined (Appends-then u v w _ _ x y)

-- ---- the count of failures

-- one more failed call raises a count, or leaves it at its greatest value
pub Rose-one_more : (n m : ℕ) → m ≡ one_more n → Rose n m
Rose-one_more n m e = grind arith

pub ruleset known = (
  Keeps-refl,
  Keeps-then,
  Consumes-none,
  Consumes-then,
  Consumes-kept,
  Keeps-Consumes,
  Appends-none,
  Appends-then,
  Appends-kept,
  AppendsFront-whole,
  AppendsFront-so_far,
  Appends-front,
  AppendsFront-longer,
  AppendsFront-taken,
  Rose-one_more,
)
