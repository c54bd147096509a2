-- Every stream is spellings of messages that can be spelled, and then what is left.
use Rattle.std.proofs.Common.{◌≡◌, ℕ, zero, suc, ◌+◌, ◌*◌, ◌≤◌, cond, ltb, refl, sym, ap, subst}
use Rattle.std.proofs.Common.{◌∙◌, List, [], ◌∷◌, ◌++◌, length, get_or, take, drop, Result, Ok}
use Rattle.std.proofs.Common.{Err, append_assoc, arith}
use Rattle.std.specs.Int.{w16, to_be_bytes}
use Rattle.std.specs.List.{flat_map}
use Rattle.std.proofs.lemmas.Bool.{ltb-false}
use Rattle.std.proofs.lemmas.List.{length-take, take-append-drop}
use Rattle.std.proofs.lemmas.Nat.{be_bytes_2}
use Rattle.app_message.specs.Telegram.{Entry, Telegram, telegram, AreOctets}
use Rattle.app_message.specs.Spelling.{kind_code, body_text, spelling, IsHead, IsMessage}
use Rattle.app_message.specs.Grammar.{Halt, short, fault, ◌>>=◌, Header, header_at, items_at}
use Rattle.app_message.specs.Grammar.{address_at, body_at, front_at}
use Rattle.app_message.specs.Stream.{stream_on, stream_of}
use Rattle.app_message.specs.Laws.{IsStream}
use Rattle.app_message.proofs.Stages.{AreOctets-drop, AreOctets-take, bind_ok, guard_ok, ok_is}
use Rattle.app_message.proofs.Taking.{header_takes, body_takes}
use Rattle.app_message.proofs.Ending.{front_halts}
use Rattle.app_message.proofs.Cutting.{front_taken, stream_step}

-- ---- the header

eight : (s : List ℕ) → 8 ≤ length s
    → s ≡ get_or s 0 0 ∷ get_or s 1 0 ∷ get_or s 2 0 ∷ get_or s 3 0 ∷ get_or s 4 0 ∷ get_or s 5 0 ∷
    get_or s 6 0 ∷ get_or s 7 0 ∷ drop 8 s
eight [] h = absurd (omega arith)
eight (a ∷ []) h = absurd (omega arith)
eight (a ∷ b ∷ []) h = absurd (omega arith)
eight (a ∷ b ∷ c ∷ []) h = absurd (omega arith)
eight (a ∷ b ∷ c ∷ d ∷ []) h = absurd (omega arith)
eight (a ∷ b ∷ c ∷ d ∷ e ∷ []) h = absurd (omega arith)
eight (a ∷ b ∷ c ∷ d ∷ e ∷ f ∷ []) h = absurd (omega arith)
eight (a ∷ b ∷ c ∷ d ∷ e ∷ f ∷ g ∷ []) h = absurd (omega arith)
eight (a ∷ b ∷ c ∷ d ∷ e ∷ f ∷ g ∷ i ∷ s) h = refl

-- the octets of a header
abbrev head_text : Header → List ℕ
head_text h = h.to ++ h.from ++ (0 ∷ (kind_code h.kind * 32 + h.token) ∷ to_be_bytes w16 h.len)

record HeadSpelled (s : List ℕ) (h : Header) : Type 0 where
  pub parts : s ≡ head_text h ++ drop 8 s
  pub head : IsHead h.to h.from h.token

pair_octets : (s : List ℕ) (i j : ℕ) → AreOctets s → AreOctets (get_or s i 0 ∷ get_or s j 0 ∷ [])
pair_octets s i j fits zero = fits i
pair_octets s i j fits (suc zero) = fits j
pair_octets s i j fits (suc (suc k)) = omega arith

head_spelled : (s : List ℕ) (h : Header) → AreOctets s → header_at s ≡ Ok h → HeadSpelled s h
head_spelled s h fits e =
    let t = header_takes s h e in
    let status : kind_code h.kind * 32 + h.token ≡ get_or s 5 0 = omega (arith, t.kind, t.token) in
    let size : to_be_bytes w16 h.len ≡ get_or s 6 0 ∷ get_or s 7 0 ∷ [] =
    be_bytes_2 (get_or s 6 0 ∷ get_or s 7 0 ∷ []) h.len refl (pair_octets s 6 7 fits)
    (omega (arith, t.len)) in
    let octets : List ℕ → List ℕ → ℕ → ℕ → List ℕ → List ℕ =
    λ to from code st bytes. to ++ from ++ (code ∷ st ∷ bytes) ++ drop 8 s in
    record {
      parts = eight s t.long
          ∙ ap (λ (x : List ℕ). octets x (get_or s 2 0 ∷ get_or s 3 0 ∷ []) (get_or s 4 0)
          (get_or s 5 0) (get_or s 6 0 ∷ get_or s 7 0 ∷ [])) (sym t.to)
          ∙ ap (λ (x : List ℕ). octets h.to x (get_or s 4 0) (get_or s 5 0)
          (get_or s 6 0 ∷ get_or s 7 0 ∷ [])) (sym t.from)
          ∙ ap (λ (x : ℕ). octets h.to h.from x (get_or s 5 0) (get_or s 6 0 ∷ get_or s 7 0 ∷ []))
          t.code
          ∙ ap (λ (x : ℕ). octets h.to h.from 0 x (get_or s 6 0 ∷ get_or s 7 0 ∷ [])) (sym status)
          ∙ ap (λ (x : List ℕ). octets h.to h.from 0 (kind_code h.kind * 32 + h.token) x)
          (sym size);
      head = record {
        to_size = ap (λ (x : List ℕ). length x) t.to;
        to_octets = rw t.to (pair_octets s 0 1 fits);
        from_size = ap (λ (x : List ℕ). length x) t.from;
        from_octets = rw t.from (pair_octets s 2 3 fits);
        in_range = omega (arith, t.token);
      };
    }

-- ---- a message

pub record FrontSpelled (s : List ℕ) (x : Telegram × List ℕ) : Type 0 where
  pub valid : IsMessage x.0
  pub parts : s ≡ spelling x.0 ++ x.1

-- a header, a body as long as it says, and what is left
joined : (s : List ℕ) (h : Header) (address : List ℕ) (items : List Entry) (text left : List ℕ)
    → s ≡ head_text h ++ drop 8 s → drop 8 s ≡ text ++ left → text ≡ body_text address items
    → length text ≡ h.len
    → s ≡ spelling (telegram h.to h.from h.kind h.token address items) ++ left
joined s h address items text left parts behind is size =
    let made : List ℕ = body_text address items in
    let head : List ℕ → List ℕ =
    λ b. h.to ++ h.from ++ (0 ∷ (kind_code h.kind * 32 + h.token) ∷ b) in
    let len : h.len ≡ length made = sym size ∙ ap (λ (b : List ℕ). length b) is in
    let tail : drop 8 s ≡ made ++ left = behind ∙ ap (λ (b : List ℕ). b ++ left) is in
    let whole : s ≡ head (to_be_bytes w16 h.len) ++ (made ++ left) =
    parts ∙ ap (λ (b : List ℕ). head (to_be_bytes w16 h.len) ++ b) tail in
    let counted : s ≡ head (to_be_bytes w16 (length made)) ++ (made ++ left) =
    whole ∙ ap (λ (k : ℕ). head (to_be_bytes w16 k) ++ (made ++ left)) len in
    counted ∙ sym (append_assoc (head (to_be_bytes w16 (length made))) made left)

spelled_as : (s : List ℕ) (made m : Telegram) (left : List ℕ) (x : Telegram × List ℕ)
    → IsMessage made → s ≡ spelling made ++ left → made ≡ m → (m, left) ≡ x → FrontSpelled s x
spelled_as s made m left x valid parts is pair =
    let here : (made, left) ≡ x = ap (λ (y : Telegram). (y, left)) is ∙ pair in
    subst (λ (y : Telegram × List ℕ). FrontSpelled s y) here
    (record { valid = valid; parts = parts })

pub front_spelled : (s : List ℕ) (x : Telegram × List ℕ) → AreOctets s → front_at s ≡ Ok x
    → FrontSpelled s x
unfolding front_at body_at
front_spelled s x fits e =
    let h =
    bind_ok (header_at s) (λ h. cond (ltb (length (drop 8 s)) h.len) (Err short)
    (body_at h (take h.len (drop 8 s)) >>= λ m. Ok (m, drop h.len (drop 8 s)))) x e in
    let t = header_takes s h.0 h.1 in
    let spelled = head_spelled s h.0 fits h.1 in
    let g = guard_ok (ltb (length (drop 8 s)) h.0.len) short _ x h.2 in
    let enough : h.0.len ≤ length (drop 8 s) = ltb-false _ _ g.0 in
    let text : List ℕ = take h.0.len (drop 8 s) in
    let m = bind_ok (body_at h.0 text) (λ m. Ok (m, drop h.0.len (drop 8 s))) x g.1 in
    let n =
    bind_ok (address_at text) (λ n. items_at (length (drop n (drop 1 text))) 0
    (drop n (drop 1 text)) >>= λ items. Ok (telegram h.0.to h.0.from h.0.kind h.0.token
    (take n (drop 1 text)) items)) m.0 m.1 in
    let items =
    bind_ok (items_at (length (drop n.0 (drop 1 text))) 0 (drop n.0 (drop 1 text)))
    (λ items. Ok (telegram h.0.to h.0.from h.0.kind h.0.token (take n.0 (drop 1 text)) items)) m.0
    n.2 in
    let size : length text ≡ h.0.len = omega (arith, enough, length-take h.0.len (drop 8 s)) in
    let least : 2 ≤ length text = omega (arith, size, t.least) in
    let most : length text ≤ 1024 = omega (arith, size, t.most) in
    let inside : AreOctets text = AreOctets-take h.0.len (drop 8 s) (AreOctets-drop 8 s fits) in
    let taken =
    body_takes h.0.to h.0.from h.0.kind h.0.token text n.0 items.0 spelled.head inside least most
    n.1 items.1 in
    let made : Telegram =
    telegram h.0.to h.0.from h.0.kind h.0.token (take n.0 (drop 1 text)) items.0 in
    let left : List ℕ = drop h.0.len (drop 8 s) in
    let behind : drop 8 s ≡ text ++ left = sym (take-append-drop h.0.len (drop 8 s)) in
    let whole =
    joined s h.0 (take n.0 (drop 1 text)) items.0 text left spelled.parts behind taken.parts size in
    let made_is : made ≡ m.0 = ok_is made m.0 items.2 in
    let pair : (m.0, left) ≡ x = ok_is (m.0, left) x m.2 in
    spelled_as s made m.0 left x taken.valid whole made_is pair

-- ---- the stream

spelled_on : (s : List ℕ) (r : Result (Telegram × List ℕ) Halt) → AreOctets s → front_at s ≡ r
    → ((x : Telegram × List ℕ) → r ≡ Ok x → IsStream x.1 (stream_of x.1))
    → IsStream s (stream_on s stream_of r)
spelled_on s (Ok x) fits here behind =
    let first = front_spelled s x fits here in
    let others = behind x refl in
    record {
      left = others.left;
      valid = (first.valid, others.valid);
      parts = first.parts ∙ ap (λ (t : List ℕ). spelling x.0 ++ t) others.parts ∙ sym
          (append_assoc (spelling x.0) (flat_map spelling (stream_of x.1).messages) others.left);
      ends = others.ends;
    }
spelled_on s (Err short) fits here behind = record {
  left = s;
  valid = tt;
  parts = refl;
  ends = (refl, front_halts s short fits here);
}
spelled_on s (Err (fault f)) fits here behind = record {
  left = s;
  valid = tt;
  parts = refl;
  ends = (refl, front_halts s (fault f) fits here, refl, refl);
}

spelled_in : (n : ℕ) (s : List ℕ) → AreOctets s → length s ≤ n → IsStream s (stream_of s)
spelled_in zero s fits p = rw (stream_step s) (spelled_on s (front_at s) fits refl
    (λ x e. let t = (front_taken s x e).shorter in absurd (omega arith)))
spelled_in (suc n) s fits p =
    rw (stream_step s) (spelled_on s (front_at s) fits refl (λ x e.
    let t = front_taken s x e in
    let less = t.shorter in
    let inside : AreOctets x.1 =
    rw t.rest (AreOctets-drop t.len (drop 8 s) (AreOctets-drop 8 s fits)) in
    spelled_in n x.1 inside (omega arith)))

pub octets_are_spelled : (s : List ℕ) → AreOctets s → IsStream s (stream_of s)
octets_are_spelled s fits = spelled_in (length s) s fits (omega arith)
