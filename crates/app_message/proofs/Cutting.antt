-- However a stream is cut, its messages are the same.
use Rattle.std.proofs.Common.{◌≡◌, ℕ, zero, suc, ◌+◌, ◌<◌, ◌≤◌, cond, ltb, refl, sym, ap, subst}
use Rattle.std.proofs.Common.{◌∙◌, List, [], ◌∷◌, ◌++◌, length, get_or, take, drop, Option}
use Rattle.std.proofs.Common.{Some, None, Result, Ok, Err, append_assoc, arith, inl, inr, false}
use Rattle.std.specs.Borrow.{Bor}
use Rattle.std.specs.Prelude.{is_some}
use Rattle.std.proofs.lemmas.Bool.{lt-ltb, le-ltb, cases_lt}
use Rattle.std.proofs.lemmas.List.{append-nil, length-append, length-drop, get_or_append_left}
use Rattle.std.proofs.lemmas.List.{take-append-le, drop-append-le}
use Rattle.app_message.specs.declared.fault.GrammarFault.{GrammarFault}
use Rattle.app_message.specs.declared.fault.StreamFault.{StreamFault}
use Rattle.app_message.specs.Telegram.{Telegram, AreOctets}
use Rattle.app_message.specs.Grammar.{Halt, short, fault, ◌>>=◌, Header, header_at, body_at}
use Rattle.app_message.specs.Grammar.{front_at}
use Rattle.app_message.specs.Stream.{Stream, stream, fault_of, with_messages, stream_on, walk}
use Rattle.app_message.specs.Stream.{stream_of}
use Rattle.app_message.specs.Stream.{Held, IsHeld, held_part, held_after, fed_by}
use Rattle.app_message.specs.Fronts.{IsFront}
use Rattle.app_message.proofs.Stages.{AreOctets-drop, bind_ok, guard_ok, ok_is}
use Rattle.app_message.proofs.Taking.{header_takes}
use Rattle.app_message.proofs.Ending.{short_bound}

-- ---- the front of a stream

-- a message leaves fewer octets: it takes eight at least
pub record FrontTaken (s : List ℕ) (x : Telegram × List ℕ) : Type 0 where
  pub len : ℕ
  pub rest : x.1 ≡ drop len (drop 8 s)
  pub eight : length x.1 + 8 ≤ length s
  pub shorter : length x.1 < length s

pub front_taken : (s : List ℕ) (x : Telegram × List ℕ) → front_at s ≡ Ok x → FrontTaken s x
unfolding front_at
front_taken s x e =
    let h =
    bind_ok (header_at s) (λ h. cond (ltb (length (drop 8 s)) h.len) (Err short)
    (body_at h (take h.len (drop 8 s)) >>= λ m. Ok (m, drop h.len (drop 8 s)))) x e in
    let long = (header_takes s h.0 h.1).long in
    let g = guard_ok (ltb (length (drop 8 s)) h.0.len) short _ x h.2 in
    let m =
    bind_ok (body_at h.0 (take h.0.len (drop 8 s))) (λ m. Ok (m, drop h.0.len (drop 8 s))) x g.1 in
    let left : drop h.0.len (drop 8 s) ≡ x.1 =
    ap (λ (y : Telegram × List ℕ). y.1) (ok_is (m.0, drop h.0.len (drop 8 s)) x m.2) in
    record {
      len = h.0.len;
      rest = sym left;
      eight = rw (← left)
          (omega (arith, long, length-drop 8 s, length-drop h.0.len (drop 8 s)));
      shorter = rw (← left)
          (omega (arith, long, length-drop 8 s, length-drop h.0.len (drop 8 s)));
    }

-- a fault has its eight octets
pub fault_long : (s : List ℕ) (f : GrammarFault) → front_at s ≡ Err (fault f) → 8 ≤ length s
unfolding front_at header_at
fault_long s f e =
    elim (cases_lt (length s) 8) [
      | inl few ↦ let e2 = rw (lt-ltb (length s) 8 few) at e in absurd cc
      | inr enough ↦ enough
    ]

-- what stands at the front stays there when octets follow
abbrev pub Stays : List ℕ → Result (Telegram × List ℕ) Halt → Result (Telegram × List ℕ) Halt
    → Type 0
Stays b (Ok x) later = later ≡ Ok (x.0, x.1 ++ b)
Stays b (Err short) later = Unit {0}
Stays b (Err (fault f)) later = later ≡ Err (fault f)

stays_halted : (b : List ℕ) (d : Halt) → Stays b (Err d) (Err d)
stays_halted b short = tt
stays_halted b (fault f) = refl

stays_made : (b t : List ℕ) (r : Result Telegram Halt)
    → Stays b (r >>= λ m. Ok (m, t)) (r >>= λ m. Ok (m, t ++ b))
stays_made b t (Ok m) = refl
stays_made b t (Err d) = stays_halted b d

-- the header and what follows it
abbrev behind : List ℕ → Header → Result (Telegram × List ℕ) Halt
behind s h = cond (ltb (length (drop 8 s)) h.len) (Err short)
    (body_at h (take h.len (drop 8 s)) >>= λ m. Ok (m, drop h.len (drop 8 s)))

stays_behind : (a b : List ℕ) (h : Header) → 8 ≤ length a → Stays b (behind a h) (behind (a ++ b) h)
stays_behind a b h long =
    elim (cases_lt (length (drop 8 a)) h.len) [
      | inl few ↦ rw (lt-ltb (length (drop 8 a)) h.len few) tt
      | inr enough ↦
          let longer : drop 8 (a ++ b) ≡ drop 8 a ++ b = drop-append-le 8 a b long in
          let still : h.len ≤ length (drop 8 a ++ b) =
          omega (arith, enough, length-append (drop 8 a) b) in
          rw (
            longer,
            le-ltb (length (drop 8 a)) h.len enough,
            le-ltb (length (drop 8 a ++ b)) h.len still,
            take-append-le h.len (drop 8 a) b enough,
            drop-append-le h.len (drop 8 a) b enough,
          )
          (stays_made b (drop h.len (drop 8 a)) (body_at h (take h.len (drop 8 a))))
    ]

header_stays : (a b : List ℕ) → 8 ≤ length a → header_at (a ++ b) ≡ header_at a
unfolding header_at
header_stays a b long =
    let at : (i : ℕ) → i < 8 → get_or (a ++ b) i 0 ≡ get_or a i 0 =
    λ i lt. get_or_append_left a b 0 i (omega arith) in
    let longer : 8 ≤ length (a ++ b) = omega (arith, length-append a b) in
    rw (
      le-ltb (length (a ++ b)) 8 longer,
      le-ltb (length a) 8 long,
      at 0 (omega arith),
      at 1 (omega arith),
      at 2 (omega arith),
      at 3 (omega arith),
      at 4 (omega arith),
      at 5
          (omega arith),
      at 6 (omega arith),
      at 7 (omega arith),
    ) refl

stays_on : (a b : List ℕ) (r : Result Header Halt) → 8 ≤ length a
    → Stays b (r >>= behind a) (r >>= behind (a ++ b))
stays_on a b (Ok h) long = stays_behind a b h long
stays_on a b (Err d) long = stays_halted b d

pub front_stays : (a b : List ℕ) → Stays b (front_at a) (front_at (a ++ b))
unfolding front_at header_at
front_stays a b =
    elim (cases_lt (length a) 8) [
      | inl few ↦ rw (lt-ltb (length a) 8 few) tt
      | inr long ↦ subst (λ (r : Result Header Halt). Stays b (header_at a >>= behind a)
          (r >>= behind (a ++ b))) (sym (header_stays a b long)) (stays_on a b (header_at a) long)
    ]

-- ---- steps of the walk

on_same : (s : List ℕ) (f g : List ℕ → Stream) (r : Result (Telegram × List ℕ) Halt)
    → ((x : Telegram × List ℕ) → r ≡ Ok x → f x.1 ≡ g x.1) → stream_on s f r ≡ stream_on s g r
on_same s f g (Ok x) same = ap (with_messages (x.0 ∷ [])) (same x refl)
on_same s f g (Err short) same = refl
on_same s f g (Err (fault d)) same = refl

-- more steps than octets change nothing
pub walk_same : (n m : ℕ) (s : List ℕ) → length s ≤ n → length s ≤ m → walk n s ≡ walk m s
unfolding walk front_at header_at
walk_same zero zero s p q = refl
walk_same zero (suc m) [] p q = refl
walk_same zero (suc m) (a ∷ s) p q = absurd (omega arith)
walk_same (suc n) zero [] p q = refl
walk_same (suc n) zero (a ∷ s) p q = absurd (omega arith)
walk_same (suc n) (suc m) s p q = on_same s (walk n) (walk m) (front_at s)
    (λ x e. let t = (front_taken s x e).shorter in walk_same n m x.1 (omega arith) (omega arith))

-- the message at the front, and then the stream behind it
pub stream_step : (s : List ℕ) → stream_of s ≡ stream_on s stream_of (front_at s)
unfolding walk
stream_step s =
    let more : walk (length s) s ≡ walk (suc (length s)) s =
    walk_same (length s) (suc (length s)) s (omega arith) (omega arith) in
    more ∙ on_same s (walk (length s)) stream_of (front_at s)
    (λ x e. let t = (front_taken s x e).shorter in walk_same (length s) (length x.1) x.1
    (omega arith) (omega arith))

-- ---- any cutting

-- a stream by what stands at its front
abbrev Cut : List ℕ → List ℕ → Type 0
Cut a b = stream_of (a ++ b) ≡ with_messages (stream_of a).messages (fed_by (held_after a) b)

cut_on : (a b : List ℕ) (r later : Result (Telegram × List ℕ) Halt) → front_at a ≡ r
    → front_at (a ++ b) ≡ later → Stays b r later → ((x : Telegram × List ℕ) → r ≡ Ok x → Cut x.1 b)
    → Cut a b
cut_on a b (Ok x) later here there stay cut =
    let first : stream_of a ≡ with_messages (x.0 ∷ []) (stream_of x.1) =
    stream_step a ∙ ap (stream_on a stream_of) here in
    let whole : stream_of (a ++ b) ≡ with_messages (x.0 ∷ []) (stream_of (x.1 ++ b)) =
    stream_step (a ++ b) ∙ ap (stream_on (a ++ b) stream_of) (there ∙ stay) in
    let both : stream_of (a ++ b) ≡ with_messages (x.0 ∷ [])
    (with_messages (stream_of x.1).messages (fed_by (held_after x.1) b)) =
    whole ∙ ap (with_messages (x.0 ∷ [])) (cut x refl) in
    both ∙ ap (λ (t : Stream). with_messages t.messages (fed_by (held_part t) b)) (sym first)
cut_on a b (Err short) later here there stay cut =
    let first : stream_of a ≡ record { messages = []; rest = a; fault = None } =
    stream_step a ∙ ap (stream_on a stream_of) here in
    ap (λ (t : Stream). with_messages t.messages (fed_by (held_part t) b)) (sym first)
cut_on a b (Err (fault f)) later here there stay cut =
    let first : stream_of a ≡ record { messages = []; rest = []; fault = Some (fault_of f a) } =
    stream_step a ∙ ap (stream_on a stream_of) here in
    let whole : stream_of (a ++ b) ≡ record {
      messages = [];
      rest = [];
      fault = Some (fault_of f (a ++ b));
    } =
    stream_step (a ++ b) ∙ ap (stream_on (a ++ b) stream_of) (there ∙ stay) in
    let long = fault_long a f here in
    let at : (i : ℕ) → i < 8 → get_or (a ++ b) i 0 ≡ get_or a i 0 =
    λ i lt. get_or_append_left a b 0 i (omega arith) in
    let same : fault_of f (a ++ b) ≡ fault_of f a =
    rw (at 2 (omega arith), at 3 (omega arith), at 5 (omega arith)) refl in
    let end : Stream = record { messages = []; rest = []; fault = Some (fault_of f a) } in
    let ended : stream_of (a ++ b) ≡ end =
    whole ∙ ap (λ (g : StreamFault). record { messages = []; rest = []; fault = Some g }) same in
    ended ∙ ap (λ (t : Stream). with_messages t.messages (fed_by (held_part t) b)) (sym first)

cut_in : (n : ℕ) (a b : List ℕ) → length a ≤ n → Cut a b
cut_in zero a b p = cut_on a b (front_at a) (front_at (a ++ b)) refl refl (front_stays a b)
    (λ x e. let t = (front_taken a x e).shorter in absurd (omega arith))
cut_in (suc n) a b p = cut_on a b (front_at a) (front_at (a ++ b)) refl refl (front_stays a b)
    (λ x e. let t = (front_taken a x e).shorter in cut_in n x.1 b (omega arith))

pub any_cut : (a b : List ℕ) → Cut a b
any_cut a b = cut_in (length a) a b (omega arith)

-- ---- what is kept

held_on : (s : List ℕ) (r : Result (Telegram × List ℕ) Halt) → AreOctets s → front_at s ≡ r
    → ((x : Telegram × List ℕ) → r ≡ Ok x → IsHeld (held_after x.1))
    → IsHeld (held_part (stream_on s stream_of r))
held_on s (Ok x) fits here kept = kept x refl
held_on s (Err short) fits here kept = record { few = short_bound s fits here; quiet = tt }
held_on s (Err (fault f)) fits here kept = record { few = omega arith; quiet = refl }

held_in : (n : ℕ) (s : List ℕ) → AreOctets s → length s ≤ n → IsHeld (held_after s)
held_in zero s fits p = rw (stream_step s) (held_on s (front_at s) fits refl
    (λ x e. let t = (front_taken s x e).shorter in absurd (omega arith)))
held_in (suc n) s fits p =
    rw (stream_step s) (held_on s (front_at s) fits refl (λ x e.
    let t = front_taken s x e in
    let less = t.shorter in
    let inside : AreOctets x.1 =
    rw t.rest (AreOctets-drop t.len (drop 8 s) (AreOctets-drop 8 s fits)) in
    held_in n x.1 inside (omega arith)))

-- what is kept of octets is a short rest, or a fault and nothing else
pub is_held : (s : List ℕ) → AreOctets s → IsHeld (held_after s)
is_held s fits = held_in (length s) s fits (omega arith)

-- ---- what stands at the front

pub front_message : (s : List ℕ) (h : Held) (x : Telegram × Bor (List ℕ))
    → front_at s ≡ Ok (x.0, x.1.now) → IsFront s h h (Some x)
front_message s h x e = (
  stream_step s ∙ ap (stream_on s stream_of) e,
  (front_taken s (x.0, x.1.now) e).shorter,
  refl,
)

pub front_short : (s : List ℕ) (old new : Held) → front_at s ≡ Err short
    → new ≡ record { rest = s; fault = None } → IsFront s old new None
front_short s old new e kept =
    let is : stream_of s ≡ stream [] s None = stream_step s ∙ ap (stream_on s stream_of) e in
    (ap (λ (t : Stream). t.messages) is, kept ∙ ap held_part (sym is))

pub front_fault : (s : List ℕ) (old new : Held) (f : GrammarFault) → front_at s ≡ Err (fault f)
    → new ≡ record { rest = []; fault = Some (fault_of f s) } → IsFront s old new None
front_fault s old new f e kept =
    let is : stream_of s ≡ stream [] [] (Some (fault_of f s)) =
    stream_step s ∙ ap (stream_on s stream_of) e in
    (ap (λ (t : Stream). t.messages) is, kept ∙ ap held_part (sym is))

-- octets without a whole message have few
pub few_left : (s : List ℕ) → AreOctets s → front_at s ≡ Err short → length s ≤ 1031
few_left s fits e = short_bound s fits e

-- a decoder that keeps nothing
pub is_at_start : (rest : List ℕ) (f : Option StreamFault) → length rest ≡ 0
    → is_some f ≡ false → record { rest = rest; fault = f } ≡ held_after []
unfolding walk
is_at_start [] None empty none = refl
is_at_start [] (Some f) empty none = cc
is_at_start (b ∷ rest) f empty none = absurd (omega arith)

-- ---- the loop over messages

pub walk_on : (ms : List Telegram) (s : List ℕ) (m : Telegram) (t : List ℕ) (total : Stream)
    → stream_of s ≡ with_messages (m ∷ []) (stream_of t) → with_messages ms (stream_of s) ≡ total
    → with_messages (ms ++ m ∷ []) (stream_of t) ≡ total
walk_on ms s m t total first so_far =
    let regroup : with_messages (ms ++ m ∷ []) (stream_of t)
    ≡ with_messages ms (with_messages (m ∷ []) (stream_of t)) =
    ap (λ (all : List Telegram). record {
      messages = all;
      rest = (stream_of t).rest;
      fault = (stream_of t).fault;
    }) (append_assoc ms (m ∷ []) (stream_of t).messages) in
    regroup ∙ ap (with_messages ms) (sym first) ∙ so_far

-- no message follows
pub walk_ends : (ms : List Telegram) (s rest : List ℕ) (f : Option StreamFault) (total : Stream)
    → stream_of s ≡ stream [] rest f → with_messages ms (stream_of s) ≡ total → stream ms rest f
    ≡ total
walk_ends ms s rest f total first so_far =
    let regroup : stream ms rest f ≡ with_messages ms (stream [] rest f) =
    ap (λ (all : List Telegram). stream all rest f) (sym (append-nil ms)) in
    regroup ∙ ap (with_messages ms) (sym first) ∙ so_far

pub kept_is : (s : List ℕ) (ms : List Telegram) (rest : List ℕ) (g : Option StreamFault)
    → AreOctets s → stream ms rest g ≡ stream_of s → IsHeld (record { rest = rest; fault = g })
kept_is s ms rest g fits same =
    subst (λ (t : Stream). IsHeld (held_part t)) (sym same) (is_held s fits)
