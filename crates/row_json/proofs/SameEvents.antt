-- Events in the same words are the same.
use Rattle.std.proofs.Common.{◌≡◌, ℕ, List, ◌∷◌, ◌++◌, Option, Some, None, codes, decimal}
use Rattle.std.proofs.Common.{ap, arith, refl, sym, ◌∙◌, append_assoc}
use Rattle.std.proofs.lemmas.Fmt.{decimal_injective}
use Rattle.site_base.specs.declared.event.Event.{Event}
use Rattle.site_base.specs.declared.event.Event.TheVariants as events
use Rattle.site_base.specs.declared.sale.SaleId.{SaleId}
use Rattle.site_base.specs.declared.state.Preset.{Preset}
use Rattle.site_base.specs.declared.state.Preset.TheVariants as presets
use Rattle.site_base.specs.Words.{event_words, id_word, join_words, meter_word, sale_word}
use Rattle.forecourt_engines.proofs.TextParts.{digits_above, unparted}
use Rattle.row_json.proofs.TextKeys.{first_four, next_two, octet_at}
use Rattle.row_json.proofs.TextNumbers.{cut, cut_above}
use Rattle.row_json.specs.RowLaws.{IsInBits, IsToldDetail, IsToldEvent, IsToldPreset, IsToldSale}

-- ---- one number

same_number : (f : ℕ → Event) (n m : ℕ) → IsInBits n → IsInBits m → decimal n ≡ decimal m
    → f n ≡ f m
same_number f n m r s e = ap f (decimal_injective n m r s e)

-- ---- two numbers

two : {A B C : Type 0} (f : A → B → C) (p q : A) (x y : B) → p ≡ q → x ≡ y → f p x ≡ f q y
two f p q x y same alike = cc

same_amount : (f : ℕ → ℕ → Event) (n x m y : ℕ) → IsInBits n × IsInBits x
    → IsInBits m × IsInBits y → decimal n ++ (32 ∷ decimal x) ≡ decimal m ++ (32 ∷ decimal y)
    → f n x ≡ f m y
same_amount f n x m y r s e =
    let parts = cut 32 n m (decimal x) (decimal y) (omega arith) r.0 s.0 e in
    two f n m x y parts.0 (decimal_injective x y r.1 s.1 parts.1)

-- ---- a nozzle

same_meter : (f : ℕ → ℕ → ℕ → Event) (p n x q m y : ℕ) → IsInBits p × IsInBits n × IsInBits x
    → IsInBits q × IsInBits m × IsInBits y
    → decimal p ++ (32 ∷ meter_word n x) ≡ decimal q ++ (32 ∷ meter_word m y)
    → f p n x ≡ f q m y
same_meter f p n x q m y r s e =
    let parts = cut 32 p q (meter_word n x) (meter_word m y) (omega arith) r.0 s.0 e in
    let whole = sym (append_assoc (decimal n) (codes "@") (decimal x)) ∙ parts.1
    ∙ append_assoc (decimal m) (codes "@") (decimal y) in
    let meters = cut_above 64 n m (decimal x) (decimal y) (omega arith) r.1 s.1 whole in
    ap (λ (k : ℕ). f k n x) parts.0
    ∙ two (f q) n m x y meters.0 (decimal_injective x y r.2 s.2 meters.1)

-- ---- a sale

abbrev pub a_sale : Option ℕ → ℕ → SaleId
a_sale shift n = record { shift = shift; seq = n }

same_ids : (shift other : Option ℕ) (n m : ℕ) → IsToldDetail shift → IsToldDetail other
    → IsInBits n → IsInBits m → id_word (a_sale shift n) ≡ id_word (a_sale other m)
    → a_sale shift n ≡ a_sale other m
same_ids None None n m h k r s e = ap (λ (j : ℕ). a_sale None j) (decimal_injective n m r s e)
same_ids (Some g) None n m h k r s e =
    let whole = sym e ∙ append_assoc (decimal g) (codes "/") (decimal n) in
    absurd (unparted 47 (decimal g) (decimal n) (decimal m) whole
    (digits_above 47 m (omega arith) s))
same_ids None (Some g) n m h k r s e =
    let whole = e ∙ append_assoc (decimal g) (codes "/") (decimal m) in
    absurd (unparted 47 (decimal g) (decimal m) (decimal n) whole
    (digits_above 47 n (omega arith) r))
same_ids (Some g) (Some j) n m h k r s e =
    let whole = sym (append_assoc (decimal g) (codes "/") (decimal n)) ∙ e
    ∙ append_assoc (decimal j) (codes "/") (decimal m) in
    let parts = cut 47 g j (decimal n) (decimal m) (omega arith) h k whole in
    let f : ℕ → ℕ → SaleId = λ a b. a_sale (Some a) b in
    two f g j n m parts.0 (decimal_injective n m r s parts.1)

same_sale : (f : ℕ → SaleId → Event) (p : ℕ) (x : SaleId) (q : ℕ) (y : SaleId)
    → IsInBits p × IsToldSale x → IsInBits q × IsToldSale y → sale_word p x ≡ sale_word q y
    → f p x ≡ f q y
same_sale f p x q y r s e =
    let whole = sym (append_assoc (decimal p) (codes "/") (id_word x)) ∙ e
    ∙ append_assoc (decimal q) (codes "/") (id_word y) in
    let parts = cut 47 p q (id_word x) (id_word y) (omega arith) r.0 s.0 whole in
    let sales : x ≡ y =
    same_ids x.shift y.shift x.seq y.seq r.1.0 s.1.0 r.1.1 s.1.1 parts.1 in
    two f p q x y parts.0 sales

-- ---- a release

-- what stands behind the name of a release
abbrev pub release_text : ℕ → Preset → List ℕ
release_text p presets.Unset = decimal p
release_text p (presets.Volume n) =
    decimal p ++ (32 ∷ (codes "volume" ++ (32 ∷ decimal n)))
release_text p (presets.Money n) =
    decimal p ++ (32 ∷ (codes "money" ++ (32 ∷ decimal n)))

same_release : (p : ℕ) (x : Preset) (q : ℕ) (y : Preset) → IsInBits p × IsToldPreset x
    → IsInBits q × IsToldPreset y → release_text p x ≡ release_text q y
    → events.Release p x ≡ events.Release q y
same_release p presets.Unset q presets.Unset r s e =
    ap (λ (k : ℕ). events.Release k presets.Unset) (decimal_injective p q r.0 s.0 e)
same_release p (presets.Volume n) q (presets.Volume m) r s e =
    let parts = cut 32 p q (codes "volume" ++ (32 ∷ decimal n))
    (codes "volume" ++ (32 ∷ decimal m)) (omega arith) r.0 s.0 e in
    let last : decimal n ≡ decimal m = cc in
    two events.Release p q (presets.Volume n) (presets.Volume m) parts.0
    (ap presets.Volume (decimal_injective n m r.1 s.1 last))
same_release p (presets.Money n) q (presets.Money m) r s e =
    let parts = cut 32 p q (codes "money" ++ (32 ∷ decimal n))
    (codes "money" ++ (32 ∷ decimal m)) (omega arith) r.0 s.0 e in
    let last : decimal n ≡ decimal m = cc in
    two events.Release p q (presets.Money n) (presets.Money m) parts.0
    (ap presets.Money (decimal_injective n m r.1 s.1 last))
same_release p (presets.Volume n) q (presets.Money m) r s e =
    let parts = cut 32 p q (codes "volume" ++ (32 ∷ decimal n))
    (codes "money" ++ (32 ∷ decimal m)) (omega arith) r.0 s.0 e in
    let other : 118 ≡ 109 = ap (octet_at 0) parts.1 in absurd (omega (arith, other))
same_release p (presets.Money n) q (presets.Volume m) r s e =
    let parts = cut 32 p q (codes "money" ++ (32 ∷ decimal n))
    (codes "volume" ++ (32 ∷ decimal m)) (omega arith) r.0 s.0 e in
    let other : 109 ≡ 118 = ap (octet_at 0) parts.1 in absurd (omega (arith, other))
same_release p presets.Unset q (presets.Volume m) r s e =
    absurd (unparted 32 (decimal q) _ (decimal p) e (digits_above 32 p (omega arith) r.0))
same_release p presets.Unset q (presets.Money m) r s e =
    absurd (unparted 32 (decimal q) _ (decimal p) e (digits_above 32 p (omega arith) r.0))
same_release p (presets.Volume n) q presets.Unset r s e =
    absurd (unparted 32 (decimal p) _ (decimal q) (sym e) (digits_above 32 q (omega arith) s.0))
same_release p (presets.Money n) q presets.Unset r s e =
    absurd (unparted 32 (decimal p) _ (decimal q) (sym e) (digits_above 32 q (omega arith) s.0))

release_is : (p : ℕ) (x : Preset)
    → join_words (event_words (events.Release p x)) ≡ codes "Release " ++ release_text p x
release_is p presets.Unset = refl
release_is p (presets.Volume n) = refl
release_is p (presets.Money n) = refl

-- ---- events

pub same_events : (a b : Event) → IsToldEvent a → IsToldEvent b
    → join_words (event_words a) ≡ join_words (event_words b) → a ≡ b
same_events events.SignOn events.SignOn r s e = refl
same_events events.SignOff events.SignOff r s e = refl
same_events events.CloseShift events.CloseShift r s e = refl
same_events events.ReadSite events.ReadSite r s e = refl
same_events (events.Open n) (events.Open m) r s e =
    let last : decimal n ≡ decimal m = cc in same_number events.Open n m r s last
same_events (events.Close n) (events.Close m) r s e =
    let last : decimal n ≡ decimal m = cc in same_number events.Close n m r s last
same_events (events.Assign n) (events.Assign m) r s e =
    let last : decimal n ≡ decimal m = cc in same_number events.Assign n m r s last
same_events (events.Unassign n) (events.Unassign m) r s e =
    let last : decimal n ≡ decimal m = cc in same_number events.Unassign n m r s last
same_events (events.TestRelease n) (events.TestRelease m) r s e =
    let last : decimal n ≡ decimal m = cc in same_number events.TestRelease n m r s last
same_events (events.Suspend n) (events.Suspend m) r s e =
    let last : decimal n ≡ decimal m = cc in same_number events.Suspend n m r s last
same_events (events.Resume n) (events.Resume m) r s e =
    let last : decimal n ≡ decimal m = cc in same_number events.Resume n m r s last
same_events (events.Terminate n) (events.Terminate m) r s e =
    let last : decimal n ≡ decimal m = cc in same_number events.Terminate n m r s last
same_events (events.ReadPoint n) (events.ReadPoint m) r s e =
    let last : decimal n ≡ decimal m = cc in same_number events.ReadPoint n m r s last
same_events (events.ReadProduct n) (events.ReadProduct m) r s e =
    let last : decimal n ≡ decimal m = cc in same_number events.ReadProduct n m r s last
same_events (events.Online n) (events.Online m) r s e =
    let last : decimal n ≡ decimal m = cc in same_number events.Online n m r s last
same_events (events.Offline n) (events.Offline m) r s e =
    let last : decimal n ≡ decimal m = cc in same_number events.Offline n m r s last
same_events (events.Prepay n x) (events.Prepay m y) r s e =
    let last : decimal n ++ (32 ∷ decimal x) ≡ decimal m ++ (32 ∷ decimal y) = cc in
    same_amount events.Prepay n x m y r s last
same_events (events.SetPrice n x) (events.SetPrice m y) r s e =
    let last : decimal n ++ (32 ∷ decimal x) ≡ decimal m ++ (32 ∷ decimal y) = cc in
    same_amount events.SetPrice n x m y r s last
same_events (events.ReplaceMeter p n x) (events.ReplaceMeter q m y) r s e =
    let last : decimal p ++ (32 ∷ meter_word n x) ≡ decimal q ++ (32 ∷ meter_word m y) = cc in
    same_meter events.ReplaceMeter p n x q m y r s last
same_events (events.Lift p n x) (events.Lift q m y) r s e =
    let last : decimal p ++ (32 ∷ meter_word n x) ≡ decimal q ++ (32 ∷ meter_word m y) = cc in
    same_meter events.Lift p n x q m y r s last
same_events (events.Flow p n x) (events.Flow q m y) r s e =
    let last : decimal p ++ (32 ∷ meter_word n x) ≡ decimal q ++ (32 ∷ meter_word m y) = cc in
    same_meter events.Flow p n x q m y r s last
same_events (events.HangUp p n x) (events.HangUp q m y) r s e =
    let last : decimal p ++ (32 ∷ meter_word n x) ≡ decimal q ++ (32 ∷ meter_word m y) = cc in
    same_meter events.HangUp p n x q m y r s last
same_events (events.Lock p x) (events.Lock q y) r s e =
    let last : sale_word p x ≡ sale_word q y = cc in same_sale events.Lock p x q y r s last
same_events (events.Unlock p x) (events.Unlock q y) r s e =
    let last : sale_word p x ≡ sale_word q y = cc in same_sale events.Unlock p x q y r s last
same_events (events.Clear p x) (events.Clear q y) r s e =
    let last : sale_word p x ≡ sale_word q y = cc in same_sale events.Clear p x q y r s last
same_events (events.ReadTransaction p x) (events.ReadTransaction q y) r s e =
    let last : sale_word p x ≡ sale_word q y = cc in
    same_sale events.ReadTransaction p x q y r s last
same_events (events.Release p x) (events.Release q y) r s e =
    let whole : codes "Release " ++ release_text p x ≡ codes "Release " ++ release_text q y =
    sym (release_is p x) ∙ e ∙ release_is q y in
    let last : release_text p x ≡ release_text q y = cc in same_release p x q y r s last
same_events events.SignOn events.SignOff r s e =
    let other : next_two (join_words (event_words events.SignOn))
    ≡ next_two (join_words (event_words events.SignOff)) = ap next_two e in
    absurd (omega (arith, other))
same_events events.SignOff events.SignOn r s e =
    let other : next_two (join_words (event_words events.SignOff))
    ≡ next_two (join_words (event_words events.SignOn)) = ap next_two e in
    absurd (omega (arith, other))
same_events (events.ReadPoint n) (events.ReadTransaction m y) r s e =
    let other : next_two (join_words (event_words (events.ReadPoint n)))
    ≡ next_two (join_words (event_words (events.ReadTransaction m y))) = ap next_two e in
    absurd (omega (arith, other))
same_events (events.ReadPoint n) (events.ReadProduct m) r s e =
    let other : next_two (join_words (event_words (events.ReadPoint n)))
    ≡ next_two (join_words (event_words (events.ReadProduct m))) = ap next_two e in
    absurd (omega (arith, other))
same_events (events.ReadPoint n) events.ReadSite r s e =
    let other : next_two (join_words (event_words (events.ReadPoint n)))
    ≡ next_two (join_words (event_words events.ReadSite)) = ap next_two e in
    absurd (omega (arith, other))
same_events (events.ReadTransaction n z) (events.ReadPoint m) r s e =
    let other : next_two (join_words (event_words (events.ReadTransaction n z)))
    ≡ next_two (join_words (event_words (events.ReadPoint m))) = ap next_two e in
    absurd (omega (arith, other))
same_events (events.ReadTransaction n z) (events.ReadProduct m) r s e =
    let other : next_two (join_words (event_words (events.ReadTransaction n z)))
    ≡ next_two (join_words (event_words (events.ReadProduct m))) = ap next_two e in
    absurd (omega (arith, other))
same_events (events.ReadTransaction n z) events.ReadSite r s e =
    let other : next_two (join_words (event_words (events.ReadTransaction n z)))
    ≡ next_two (join_words (event_words events.ReadSite)) = ap next_two e in
    absurd (omega (arith, other))
same_events (events.ReadProduct n) (events.ReadPoint m) r s e =
    let other : next_two (join_words (event_words (events.ReadProduct n)))
    ≡ next_two (join_words (event_words (events.ReadPoint m))) = ap next_two e in
    absurd (omega (arith, other))
same_events (events.ReadProduct n) (events.ReadTransaction m y) r s e =
    let other : next_two (join_words (event_words (events.ReadProduct n)))
    ≡ next_two (join_words (event_words (events.ReadTransaction m y))) = ap next_two e in
    absurd (omega (arith, other))
same_events (events.ReadProduct n) events.ReadSite r s e =
    let other : next_two (join_words (event_words (events.ReadProduct n)))
    ≡ next_two (join_words (event_words events.ReadSite)) = ap next_two e in
    absurd (omega (arith, other))
same_events events.ReadSite (events.ReadPoint m) r s e =
    let other : next_two (join_words (event_words events.ReadSite))
    ≡ next_two (join_words (event_words (events.ReadPoint m))) = ap next_two e in
    absurd (omega (arith, other))
same_events events.ReadSite (events.ReadTransaction m y) r s e =
    let other : next_two (join_words (event_words events.ReadSite))
    ≡ next_two (join_words (event_words (events.ReadTransaction m y))) = ap next_two e in
    absurd (omega (arith, other))
same_events events.ReadSite (events.ReadProduct m) r s e =
    let other : next_two (join_words (event_words events.ReadSite))
    ≡ next_two (join_words (event_words (events.ReadProduct m))) = ap next_two e in
    absurd (omega (arith, other))
same_events (events.Close n) events.CloseShift r s e =
    let other : next_two (join_words (event_words (events.Close n)))
    ≡ next_two (join_words (event_words events.CloseShift)) = ap next_two e in
    absurd (omega (arith, other))
same_events events.CloseShift (events.Close m) r s e =
    let other : next_two (join_words (event_words events.CloseShift))
    ≡ next_two (join_words (event_words (events.Close m))) = ap next_two e in
    absurd (omega (arith, other))
same_events a b r s e =
    let other : first_four (join_words (event_words a)) ≡ first_four (join_words (event_words b)) =
    ap first_four e in
    absurd (omega (arith, other))
