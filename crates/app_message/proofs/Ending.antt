-- Where reading halts, the octets are short or begin with that very fault.
use Rattle.std.proofs.Common.{◌≡◌, ◌≢◌, ℕ, zero, suc, ◌+◌, ◌%◌, ◌<◌, ◌≤◌, ◌⊎◌, Bool, true, false}
use Rattle.std.proofs.Common.{cond, eqb, ltb, refl, sym, ap, subst, ◌∙◌, List, [], ◌∷◌, ◌++◌}
use Rattle.std.proofs.Common.{length, get_or, take, drop, Result, Ok, Err, append_assoc, arith}
use Rattle.std.proofs.Common.{inl, inr}
use Rattle.std.specs.List.{flat_map}
use Rattle.std.proofs.lemmas.Bool.{ltb-true, ltb-false, eqb-true, eqb-false, eq-eqb, ne_eqb}
use Rattle.std.proofs.lemmas.Bool.{cases_eq}
use Rattle.std.proofs.lemmas.List.{length-drop, length-take, get_or-drop, get_or-take}
use Rattle.app_message.specs.declared.fault.GrammarFault.TheVariants.{BadCode, BadKind, BadLength}
use Rattle.app_message.specs.declared.fault.GrammarFault.TheVariants.{BadItem}
use Rattle.app_message.specs.declared.kind.Kind.{Kind}
use Rattle.app_message.specs.declared.kind.Kind.TheVariants.{Read, Answer, Write, Report, Notice}
use Rattle.app_message.specs.declared.kind.Kind.TheVariants.{Ack}
use Rattle.app_message.specs.Telegram.{Entry, entry, telegram, AreOctets}
use Rattle.app_message.specs.Spelling.{kind_code, item_text}
use Rattle.app_message.specs.Grammar.{Halt, short, fault, ◌>>=◌, Header, kind_at, length_at}
use Rattle.app_message.specs.Grammar.{header_at, item_at, items_at, address_at, body_at, front_at}
use Rattle.app_message.specs.Faults.{code_in, bits_in, size_in, address_size_in, items_in}
use Rattle.app_message.specs.Faults.{HasHeader, IsWhole, IsShort, IsBadAddress, IsBadItem}
use Rattle.app_message.specs.Faults.{HasBadItem, BeginsWith}
use Rattle.app_message.proofs.Stages.{AreOctets-drop, AreOctets-take}
use Rattle.app_message.proofs.Taking.{item_takes, address_takes, kind_takes, header_takes}

-- the stage that halted
bind_err : {A B : Type 0} (r : Result A Halt) (f : A → Result B Halt) (e : Halt) → (r >>= f) ≡ Err e
    → (r ≡ Err e) ⊎ ((x : A) × (r ≡ Ok x) × (f x ≡ Err e))
bind_err (Ok x) f e h = inr (x, refl, h)
bind_err (Err d) f e h = inl (cc)

guard_err : {A : Type 0} (b : Bool) (d : Halt) (r : Result A Halt) (e : Halt)
    → cond b (Err d) r ≡ Err e → ((b ≡ true) × (d ≡ e)) ⊎ ((b ≡ false) × (r ≡ Err e))
guard_err true d r e h = inl (refl, cc)
guard_err false d r e h = inr (refl, h)

else_err : {A : Type 0} (b : Bool) (d : Halt) (r : Result A Halt) (e : Halt)
    → cond b r (Err d) ≡ Err e → ((b ≡ false) × (d ≡ e)) ⊎ ((b ≡ true) × (r ≡ Err e))
else_err true d r e h = inr (refl, h)
else_err false d r e h = inl (refl, cc)

never : {A P : Type 0} (x : A) (e : Halt) → (let r : Result A Halt = Ok x in r ≡ Err e) → P
never x e h = absurd cc

-- ---- items

item_fails : (low : ℕ) (s : List ℕ) (e : Halt) → item_at low s ≡ Err e
    → (e ≡ fault BadItem) × IsBadItem low s
unfolding item_at
item_fails low s e h =
    elim (guard_err (ltb (length s) 2) (fault BadItem) _ e h) [
      | inl t ↦ (sym t.1, inl (ltb-true _ _ t.0))
      | inr g0 ↦ elim (guard_err (ltb (get_or s 0 0) low) (fault BadItem) _ e g0.1) [
        | inl t ↦ (sym t.1, inr (inl (ltb-true _ _ t.0)))
        | inr g1 ↦ elim (guard_err (eqb (get_or s 1 0) 255) (fault BadItem) _ e g1.1) [
          | inl t ↦ (sym t.1, inr (inr (inl (eqb-true _ _ t.0))))
          | inr g2 ↦ elim (guard_err (ltb (length (drop 2 s)) (get_or s 1 0)) (fault BadItem) _ e
              g2.1) [
                | inl t ↦
                    let over : length (drop 2 s) < get_or s 1 0 = ltb-true _ _ t.0 in
                    (sym t.1, inr (inr (inr (omega (arith, over, length-drop 2 s)))))
                | inr g3 ↦ never (
                  entry (get_or s 0 0) (take (get_or s 1 0) (drop 2 s)),
                  drop (get_or s 1 0) (drop 2 s),
                ) e g3.1
              ]
        ]
      ]
    ]

items_fail : (n low : ℕ) (s : List ℕ) (e : Halt) → AreOctets s → items_at n low s ≡ Err e
    → (e ≡ fault BadItem) × HasBadItem low s
unfolding items_at
items_fail zero low s e fits h = never [] e h
items_fail (suc n) low s e fits h =
    elim (cases_eq (length s) 0) [
      | inl none ↦ never [] e (rw (eq-eqb (length s) 0 none) at h)
      | inr some ↦
          let on : Entry × List ℕ → Result (List Entry) Halt =
          λ x. items_at n (x.0.id + 1) x.1 >>= λ es. Ok (x.0 ∷ es) in
          elim (bind_err (item_at low s) on e (rw (ne_eqb (length s) 0 some) at h)) [
            | inl here ↦
                let bad = item_fails low s e here in (
                  bad.0,
                  record {
                    sound = [];
                    left = s;
                    parts = refl;
                    rises = tt;
                    some = omega (arith, some);
                    faulty = bad.1;
                  },
                )
            | inr x ↦
                let first = item_takes low s x.0 fits x.1 in
                elim (bind_err (items_at n (x.0.0.id + 1) x.0.1) (λ es. Ok (x.0.0 ∷ es)) e x.2) [
                  | inl later ↦
                      let bad = items_fail n (x.0.0.id + 1) x.0.1 e first.rest later in
                      let text : s ≡ flat_map item_text (x.0.0 ∷ bad.1.sound) ++ bad.1.left =
                      first.parts ∙ ap (λ (t : List ℕ). item_text x.0.0 ++ t) bad.1.parts ∙ sym
                      (append_assoc (item_text x.0.0) (flat_map item_text bad.1.sound) bad.1.left)
                      in (
                        bad.0,
                        record {
                          sound = x.0.0 ∷ bad.1.sound;
                          left = bad.1.left;
                          parts = text;
                          rises = (first.order, first.valid, bad.1.rises);
                          some = bad.1.some;
                          faulty = bad.1.faulty;
                        },
                      )
                  | inr es ↦ never (x.0.0 ∷ es.0) e es.2
                ]
          ]
    ]

-- ---- the address

address_fails : (s : List ℕ) (e : Halt) → address_at s ≡ Err e
    → (e ≡ fault BadLength) × IsBadAddress (get_or s 0 0) (length s)
unfolding address_at
address_fails s e h =
    elim (guard_err (eqb (get_or s 0 0) 0) (fault BadLength) _ e h) [
      | inl t ↦ (sym t.1, inl (eqb-true _ _ t.0))
      | inr g0 ↦ elim (guard_err (ltb 8 (get_or s 0 0)) (fault BadLength) _ e g0.1) [
        | inl t ↦ (sym t.1, inr (inl (ltb-true _ _ t.0)))
        | inr g1 ↦ elim (guard_err (ltb (length s) (get_or s 0 0 + 1)) (fault BadLength) _ e g1.1) [
          | inl t ↦ (sym t.1, inr (inr (ltb-true _ _ t.0)))
          | inr g2 ↦ never (get_or s 0 0) e g2.1
        ]
      ]
    ]

-- ---- the header

kind_else : (b n : ℕ) (k : Kind) (r : Result Kind Halt) (e : Halt) → cond (eqb b n) (Ok k) r ≡ Err e
    → (b ≢ n) × (r ≡ Err e)
kind_else b n k r e h =
    elim (cases_eq b n) [
      | inl same ↦ never k e (rw (eq-eqb b n same) at h)
      | inr other ↦ (other, rw (ne_eqb b n other) at h)
    ]

kind_fails : (b : ℕ) (e : Halt) → b < 8 → kind_at b ≡ Err e
    → (e ≡ fault BadKind) × ((b ≡ 5) ⊎ (b ≡ 6))
kind_fails b e low h =
    let k0 = kind_else b 0 Read _ e h in
    let k1 = kind_else b 1 Answer _ e k0.1 in
    let k2 = kind_else b 2 Write _ e k1.1 in
    let k3 = kind_else b 3 Report _ e k2.1 in
    let k4 = kind_else b 4 Notice _ e k3.1 in
    let k7 = kind_else b 7 Ack _ e k4.1 in
    let same : fault BadKind ≡ e = elim (guard_err {A = Kind} true (fault BadKind) (Ok Read) e k7.1)
    [ inl t ↦ t.1 | inr t ↦ never Read e t.1 ] in (
      sym same,
      elim (cases_eq b 5) [
        | inl five ↦ inl five
        | inr not_five ↦ inr (omega (arith, k0.0, k1.0, k2.0, k3.0, k4.0, k7.0))
      ],
    )

not_five : (k : Kind) → kind_code k ≢ 5
not_five Read = λ e. omega arith
not_five Answer = λ e. omega arith
not_five Write = λ e. omega arith
not_five Report = λ e. omega arith
not_five Notice = λ e. omega arith
not_five Ack = λ e. omega arith

not_six : (k : Kind) → kind_code k ≢ 6
not_six Read = λ e. omega arith
not_six Answer = λ e. omega arith
not_six Write = λ e. omega arith
not_six Report = λ e. omega arith
not_six Notice = λ e. omega arith
not_six Ack = λ e. omega arith

-- what a halt says of the octets
abbrev pub Halted : Halt → List ℕ → Type 0
Halted short s = IsShort s
Halted (fault f) s = BeginsWith f s

at_halt : (s : List ℕ) (d e : Halt) → d ≡ e → Halted d s → Halted e s
at_halt s d e same h = subst (λ (x : Halt). Halted x s) same h

header_fails : (s : List ℕ) (e : Halt) → AreOctets s → header_at s ≡ Err e → Halted e s
unfolding header_at
header_fails s e fits h =
    elim (guard_err (ltb (length s) 8) short _ e h) [
      | inl t ↦ at_halt s short e t.1 (inl (ltb-true _ _ t.0))
      | inr g0 ↦
          let long : 8 ≤ length s = ltb-false _ _ g0.0 in
          elim (else_err (eqb (get_or s 4 0) 0) (fault BadCode) _ e g0.1) [
            | inl t ↦ at_halt s (fault BadCode) e t.1 (long, eqb-false _ _ t.0)
            | inr g1 ↦
                let code : code_in s ≡ 0 = eqb-true _ _ g1.0 in
                let octet : get_or s 5 0 < 256 = fits 5 in
                let made : Kind → ℕ → Header =
                λ k n. record {
                  to = get_or s 0 0 ∷ get_or s 1 0 ∷ [];
                  from = get_or s 2 0 ∷ get_or s 3 0 ∷ [];
                  kind = k;
                  token = get_or s 5 0 % 32;
                  len
                      = n;
                } in
                elim (bind_err (kind_at (bits_in s))
                (λ k. length_at (size_in s) >>= λ n. Ok (made k n)) e g1.1) [
                  | inl t ↦
                      let bad = kind_fails (bits_in s) e (omega (arith, octet)) t in
                      at_halt s (fault BadKind) e (sym bad.0) (long, code, bad.1)
                  | inr k ↦
                      let bits = kind_takes (bits_in s) k.0 k.1 in
                      let five : bits_in s ≢ 5 = λ b. not_five k.0 (bits ∙ b) in
                      let six : bits_in s ≢ 6 = λ b. not_six k.0 (bits ∙ b) in
                      elim (bind_err (length_at (size_in s)) (λ n. Ok (made k.0 n)) e k.2) [
                        | inl t ↦ elim (guard_err (ltb (size_in s) 2) (fault BadLength) _ e t) [
                          | inl l ↦ at_halt s (fault BadLength) e l.1
                              (inl (record {
                                long = long;
                                code = code;
                                not_five = five;
                                not_six = six;
                                size = inl (ltb-true _ _ l.0);
                              }))
                          | inr l0 ↦ elim (guard_err (ltb 1024 (size_in s)) (fault BadLength) _ e
                              l0.1) [
                                | inl l ↦ at_halt s (fault BadLength) e l.1
                                    (inl (record {
                                      long = long;
                                      code = code;
                                      not_five = five;
                                      not_six = six;
                                      size = inr (ltb-true _ _ l.0);
                                    }))
                                | inr l1 ↦ never (size_in s) e l1.1
                              ]
                        ]
                        | inr n ↦ never (made k.0 n.0) e n.2
                      ]
                ]
          ]
    ]

pub has_header : (s : List ℕ) (h : Header) → header_at s ≡ Ok h → HasHeader s × (h.len ≡ size_in s)
has_header s h e =
    let t = header_takes s h e in (
      record {
        long = t.long;
        code = t.code;
        not_five = λ b. not_five h.kind (t.kind ∙ b);
        not_six = λ b. not_six h.kind (t.kind ∙ b);
        least = omega (arith, t.len, t.least);
        most = omega (arith, t.len, t.most);
      },
      t.len,
    )

-- ---- the body

body_fails : (h : Header) (s : List ℕ) (e : Halt) → AreOctets s → IsWhole s
    → body_at h (take (size_in s) (drop 8 s)) ≡ Err e → Halted e s
unfolding body_at
body_fails h s e fits whole b =
    let body : List ℕ = take (size_in s) (drop 8 s) in
    let inside : AreOctets body = AreOctets-take (size_in s) (drop 8 s) (AreOctets-drop 8 s fits) in
    let long : length body ≡ size_in s =
    omega (arith, whole.all, length-drop 8 s, length-take (size_in s) (drop 8 s)) in
    let least = whole.header.least in
    let first : get_or body 0 0 ≡ address_size_in s =
    get_or-take (size_in s) (drop 8 s) 0 0 (omega arith) ∙ get_or-drop 8 s 0 0 in
    elim (bind_err (address_at body) (λ n. items_at (length (drop n (drop 1 body))) 0
    (drop n (drop 1 body)) >>= λ items. Ok (telegram h.to h.from h.kind h.token
    (take n (drop 1 body)) items)) e b) [
      | inl t ↦
          let bad = address_fails body e t in
          let same : IsBadAddress (address_size_in s) (size_in s) =
          subst (λ (n : ℕ). IsBadAddress (address_size_in s) n) long
          (subst (λ (n : ℕ). IsBadAddress n (length body)) first bad.1) in
          at_halt s (fault BadLength) e (sym bad.0) (inr (whole, same))
      | inr n ↦
          let address = address_takes body n.0 n.1 in
          let is : n.0 ≡ address_size_in s = sym address.size ∙ first in
          elim (bind_err (items_at (length (drop n.0 (drop 1 body))) 0 (drop n.0 (drop 1 body)))
          (λ items. Ok (telegram h.to h.from h.kind h.token (take n.0 (drop 1 body)) items)) e
          n.2) [
            | inl t ↦
                let bad =
                items_fail (length (drop n.0 (drop 1 body))) 0 (drop n.0 (drop 1 body)) e
                (AreOctets-drop n.0 (drop 1 body) (AreOctets-drop 1 body inside)) t in
                let items : HasBadItem 0 (items_in s) =
                subst (λ (k : ℕ). HasBadItem 0 (drop k (drop 1 body))) is bad.1 in
                at_halt s (fault BadItem) e (sym bad.0)
                (record {
                  whole = whole;
                  least = omega (arith, is, address.least);
                  most = omega (arith, is, address.most);
                  within = omega
                      (arith, is, long, address.within);
                  items = items;
                })
            | inr items ↦ never (telegram h.to h.from h.kind h.token (take n.0 (drop 1 body))
                items.0) e items.2
          ]
    ]

pub front_halts : (s : List ℕ) (e : Halt) → AreOctets s → front_at s ≡ Err e → Halted e s
unfolding front_at
front_halts s e fits f =
    elim (bind_err (header_at s) (λ h. cond (ltb (length (drop 8 s)) h.len) (Err short)
    (body_at h (take h.len (drop 8 s)) >>= λ m. Ok (m, drop h.len (drop 8 s)))) e f) [
      | inl t ↦ header_fails s e fits t
      | inr h ↦
          let header = has_header s h.0 h.1 in
          elim (guard_err (ltb (length (drop 8 s)) h.0.len) short _ e h.2) [
            | inl t ↦
                let few : length (drop 8 s) < h.0.len = ltb-true _ _ t.0 in
                let is = header.1 in
                at_halt s short e t.1 (inr (header.0, omega (arith, few, is, length-drop 8 s)))
            | inr g ↦
                let enough : h.0.len ≤ length (drop 8 s) = ltb-false _ _ g.0 in
                let is = header.1 in
                let long = header.0.long in
                let whole : IsWhole s =
                record { header = header.0; all = omega (arith, enough, is, long, length-drop 8 s) }
                in
                elim (bind_err (body_at h.0 (take h.0.len (drop 8 s)))
                (λ m. Ok (m, drop h.0.len (drop 8 s))) e g.1) [
                  | inl t ↦
                      let at_size : body_at h.0 (take (size_in s) (drop 8 s)) ≡ Err e =
                      ap (λ (n : ℕ). body_at h.0 (take n (drop 8 s))) (sym is) ∙ t in
                      body_fails h.0 s e fits whole at_size
                  | inr m ↦ never (m.0, drop h.0.len (drop 8 s)) e m.2
                ]
          ]
    ]

-- octets of a message to come are at most 1,031
pub short_bound : (s : List ℕ) → AreOctets s → front_at s ≡ Err short → length s ≤ 1031
short_bound s fits e =
    elim (front_halts s short fits e) [
      | inl few ↦ omega arith
      | inr t ↦ let most = t.0.most in omega (arith, most, t.1)
    ]
