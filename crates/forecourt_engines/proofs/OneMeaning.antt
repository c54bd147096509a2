-- A line in words asks for one thing.
use Rattle.std.proofs.Common.{◌≡◌, ℕ, ◌<◌, ◌≤◌, ◌^◌, ◌&&◌, Bool, true, false, List, [], ◌∷◌, ◌++◌}
use Rattle.std.proofs.Common.{Option, Some, None, unwrap_or, get_or, refl, sym, subst, ap, ◌∙◌}
use Rattle.std.proofs.Common.{arith}
use Rattle.std.proofs.Common.{decimal, codes, nat_le, nat_lt}
use Rattle.std.proofs.lemmas.Bool.{and_parts}
use Rattle.std.proofs.lemmas.Bool.Decides.{nat_tests}
use Rattle.std.proofs.lemmas.Fmt.{decimal_injective}
use Rattle.site_base.specs.declared.actor.Actor.{Actor}
use Rattle.site_base.specs.declared.actor.Actor.TheVariants.{Till, Dispenser}
use Rattle.site_base.specs.declared.event.Event.{Event}
use Rattle.site_base.specs.declared.event.Event.TheVariants as events
use Rattle.site_base.specs.declared.numbers.TheConstants.{GREATEST_SEQ}
use Rattle.site_base.specs.declared.amounts.TheConstants.{GREATEST_READING}
use Rattle.site_base.specs.declared.limits.TheConstants.{NOZZLES, POINTS}
use Rattle.site_base.specs.declared.numbers.TheConstants.{GREATEST_SHIFT}
use Rattle.site_base.specs.declared.limits.TheConstants.{PRODUCTS, TILLS}
use Rattle.site_base.specs.declared.sale.SaleId.{SaleId}
use Rattle.site_base.specs.declared.state.Preset.{Preset}
use Rattle.site_base.specs.declared.state.Preset.TheVariants.{Unset, Volume, Money}
use Rattle.site_base.specs.Ranges.{is_between}
use Rattle.site_base.specs.Words.{actor_word, event_words, id_word, limit_words, meter_word}
use Rattle.site_base.specs.Words.{sale_word}
use Rattle.app_message.specs.Telegram.{Telegram}
use Rattle.device_map.proofs.OneRequest.{alone}
use Rattle.device_map.specs.Laws.{AsksFor, is_in_range, is_meter, is_preset, is_sale}
use Rattle.hex_lines.specs.Lines.{line_of}
use Rattle.forecourt_engines.specs.AskedText.{IsTokenText}
use Rattle.forecourt_engines.specs.EventNames.{IsRequestText, behind_first, name_said, name_word}
use Rattle.forecourt_engines.specs.LineWords.{is_comment, words_in}
use Rattle.forecourt_engines.specs.Said.{is_actor}
use Rattle.forecourt_engines.specs.SpelledLines.{SpellsAs, token_then}
use Rattle.forecourt_engines.specs.WordLaws.{AsksForOneThing, IsSpelledInOneWay}
use Rattle.forecourt_engines.proofs.OneName.{one_name}
use Rattle.forecourt_engines.proofs.TextParts.{a_sale, digits_above, digits_below, id_parts, joined}
use Rattle.forecourt_engines.proofs.TextParts.{meter_parts, parts_are, sale_parts, unparted}
use Rattle.forecourt_engines.proofs.Unsaid.{four, name_first, within}

-- ---- numbers

below : (most n : ℕ) → is_between 1 most n ≡ true → most < 2 ^ 16 → n < 2 ^ 64
below most n range small = omega (arith, (within most n range).1)

same_number : (most p q : ℕ) → most < 2 ^ 16 → is_between 1 most p ≡ true
    → is_between 1 most q ≡ true → decimal p ≡ decimal q → p ≡ q
same_number most p q small r s e =
    decimal_injective p q (below most p r small) (below most q s small) e

same_amount : (n m : ℕ) → nat_lt n (2 ^ 32) ≡ true → nat_lt m (2 ^ 32) ≡ true
    → decimal n ≡ decimal m → n ≡ m
same_amount n m r s e =
    decimal_injective n m (omega (arith, four n r)) (omega (arith, four m s)) e

-- ---- events of one name, by what stands behind it

of_point : (f : ℕ → Event) (p q : ℕ) → ◌≡◌ {A = List (List ℕ)} (decimal p ∷ []) (decimal q ∷ [])
    → (is_between 1 POINTS p && true) ≡ true → (is_between 1 POINTS q && true) ≡ true
    → f p ≡ f q
of_point f p q w r s =
    let e : decimal p ≡ decimal q = cc in
    ap f (same_number POINTS p q (omega arith) (and_parts (is_between 1 POINTS p) true r).0
    (and_parts (is_between 1 POINTS q) true s).0 e)

pair : {A B C : Type 0} (f : A → B → C) (p q : A) (x y : B) → p ≡ q → x ≡ y → f p x ≡ f q y
pair f p q x y same alike = cc

same_reading : (x y : ℕ) → nat_le x GREATEST_READING ≡ true → nat_le y GREATEST_READING ≡ true
    → decimal x ≡ decimal y → x ≡ y
same_reading x y r s e =
    let far : x ≤ GREATEST_READING = grind (arith, nat_tests) in
    let wide : y ≤ GREATEST_READING = grind (arith, nat_tests) in
    decimal_injective x y (omega arith) (omega arith) e

same_meter : (n x m y : ℕ) → meter_word n x ≡ meter_word m y → is_meter n x ≡ true
    → is_meter m y ≡ true → (n ≡ m) × (x ≡ y)
same_meter n x m y e r s =
    let one = and_parts (is_between 1 NOZZLES n) (nat_le x GREATEST_READING) r in
    let two = and_parts (is_between 1 NOZZLES m) (nat_le y GREATEST_READING) s in
    let parts = meter_parts (meter_word n x) (decimal m) (decimal y) n x
    (e ∙ joined 64 (decimal m) (decimal y))
    (digits_below 64 m (omega arith) (below NOZZLES m two.0 (omega arith))) (refl, r) in (
      same_number NOZZLES n m (omega arith) one.0 two.0 (sym parts.0.0),
      same_reading x y one.1 two.1 (sym parts.1.0),
    )

metered : (f : ℕ → ℕ → ℕ → Event) (p n x q m y : ℕ)
    → ◌≡◌ {A = List (List ℕ)} (decimal p ∷ meter_word n x ∷ []) (decimal q ∷ meter_word m y ∷ [])
    → (is_between 1 POINTS p && is_meter n x) ≡ true
    → (is_between 1 POINTS q && is_meter m y) ≡ true → f p n x ≡ f q m y
metered f p n x q m y w r s =
    let first : decimal p ≡ decimal q = cc in
    let last : meter_word n x ≡ meter_word m y = cc in
    let one = and_parts (is_between 1 POINTS p) (is_meter n x) r in
    let two = and_parts (is_between 1 POINTS q) (is_meter m y) s in
    let meters = same_meter n x m y last one.1 two.1 in
    ap (λ (k : ℕ). f k n x) (same_number POINTS p q (omega arith) one.0 two.0 first)
    ∙ pair (f q) n m x y meters.0 meters.1

same_ids : (shift other : Option ℕ) (n m : ℕ)
    → id_word (a_sale shift n) ≡ id_word (a_sale other m) → is_sale (a_sale shift n) ≡ true
    → is_sale (a_sale other m) ≡ true → a_sale shift n ≡ a_sale other m
same_ids None None n m e r s =
    ap (λ (k : ℕ). a_sale None k)
    (same_number GREATEST_SEQ n m (omega arith) (and_parts true (is_between 1 GREATEST_SEQ n) r).1
    (and_parts true (is_between 1 GREATEST_SEQ m) s).1 e)
same_ids (Some h) None n m e r s =
    let one = and_parts (is_between 1 GREATEST_SHIFT h) (is_between 1 GREATEST_SEQ n) r in
    absurd (id_parts (id_word (a_sale (Some h) n)) (decimal h) (decimal n) None m
    (joined 47 (decimal h) (decimal n))
    (digits_above 47 h (omega arith) (below GREATEST_SHIFT h one.0 (omega arith))) (e, s))
same_ids None (Some k) n m e r s =
    let two = and_parts (is_between 1 GREATEST_SHIFT k) (is_between 1 GREATEST_SEQ m) s in
    absurd (id_parts (id_word (a_sale (Some k) m)) (decimal k) (decimal m) None n
    (joined 47 (decimal k) (decimal m))
    (digits_above 47 k (omega arith) (below GREATEST_SHIFT k two.0 (omega arith))) (sym e, r))
same_ids (Some h) (Some k) n m e r s =
    let one = and_parts (is_between 1 GREATEST_SHIFT h) (is_between 1 GREATEST_SEQ n) r in
    let two = and_parts (is_between 1 GREATEST_SHIFT k) (is_between 1 GREATEST_SEQ m) s in
    let parts = id_parts (id_word (a_sale (Some h) n)) (decimal h) (decimal n) (Some k) m
    (joined 47 (decimal h) (decimal n))
    (digits_above 47 h (omega arith) (below GREATEST_SHIFT h one.0 (omega arith))) (e, s) in
    ap (λ (g : ℕ). a_sale (Some g) n)
    (same_number GREATEST_SHIFT h k (omega arith) one.0 two.0 parts.0.0)
    ∙ ap (λ (g : ℕ). a_sale (Some k) g)
    (same_number GREATEST_SEQ n m (omega arith) one.1 two.1 parts.1.0)

at_sale : (f : ℕ → SaleId → Event) (p : ℕ) (x : SaleId) (q : ℕ) (y : SaleId)
    → ◌≡◌ {A = List (List ℕ)} (sale_word p x ∷ []) (sale_word q y ∷ [])
    → (is_between 1 POINTS p && is_sale x) ≡ true → (is_between 1 POINTS q && is_sale y) ≡ true
    → f p x ≡ f q y
at_sale f p x q y w r s =
    let e : sale_word p x ≡ sale_word q y = cc in
    let one = and_parts (is_between 1 POINTS p) (is_sale x) r in
    let two = and_parts (is_between 1 POINTS q) (is_sale y) s in
    let parts = sale_parts (sale_word p x) (decimal q) (id_word y) p x
    (e ∙ joined 47 (decimal q) (id_word y))
    (digits_above 47 q (omega arith) (below POINTS q two.0 (omega arith))) (refl, one) in
    let sales : x ≡ y =
    same_ids x.shift y.shift x.seq y.seq (sym parts.1.0) one.1 two.1 in
    pair f p q x y (same_number POINTS p q (omega arith) one.0 two.0 (sym parts.0.0)) sales

same_limits : (x y : Preset) → limit_words x ≡ limit_words y → is_preset x ≡ true
    → is_preset y ≡ true → x ≡ y
same_limits Unset Unset e r s = refl
same_limits (Volume n) (Volume m) e r s =
    let last : decimal n ≡ decimal m = cc in ap Volume (same_amount n m r s last)
same_limits (Money n) (Money m) e r s =
    let last : decimal n ≡ decimal m = cc in ap Money (same_amount n m r s last)
same_limits x y e r s = cc

released : (p : ℕ) (x : Preset) (q : ℕ) (y : Preset)
    → decimal p ∷ limit_words x ≡ decimal q ∷ limit_words y
    → (is_between 1 POINTS p && is_preset x) ≡ true
    → (is_between 1 POINTS q && is_preset y) ≡ true → events.Release p x ≡ events.Release q y
released p x q y w r s =
    let first : decimal p ≡ decimal q = cc in
    let behind : limit_words x ≡ limit_words y = cc in
    let one = and_parts (is_between 1 POINTS p) (is_preset x) r in
    let two = and_parts (is_between 1 POINTS q) (is_preset y) s in
    pair events.Release p q x y (same_number POINTS p q (omega arith) one.0 two.0 first)
    (same_limits x y behind one.1 two.1)

amounts : (f : ℕ → ℕ → Event) (most p n q m : ℕ) → most < 2 ^ 16
    → ◌≡◌ {A = List (List ℕ)} (decimal p ∷ decimal n ∷ []) (decimal q ∷ decimal m ∷ [])
    → (is_between 1 most p && nat_lt n (2 ^ 32)) ≡ true
    → (is_between 1 most q && nat_lt m (2 ^ 32)) ≡ true → f p n ≡ f q m
amounts f most p n q m small w r s =
    let first : decimal p ≡ decimal q = cc in
    let last : decimal n ≡ decimal m = cc in
    let one = and_parts (is_between 1 most p) (nat_lt n (2 ^ 32)) r in
    let two = and_parts (is_between 1 most q) (nat_lt m (2 ^ 32)) s in
    pair f p q n m (same_number most p q small one.0 two.0 first)
    (same_amount n m one.1 two.1 last)

products : (q r : ℕ) → ◌≡◌ {A = List (List ℕ)} (decimal q ∷ []) (decimal r ∷ [])
    → is_between 1 PRODUCTS q ≡ true → is_between 1 PRODUCTS r ≡ true
    → events.ReadProduct q ≡ events.ReadProduct r
products q r w s t =
    let e : decimal q ≡ decimal r = cc in
    ap events.ReadProduct (same_number PRODUCTS q r (omega arith) s t e)

same_said : (a b : Event) → name_said a ≡ name_said b
    → behind_first (event_words a) ≡ behind_first (event_words b) → is_in_range a ≡ true
    → is_in_range b ≡ true → a ≡ b
same_said events.SignOn events.SignOn n w r s = refl
same_said events.SignOff events.SignOff n w r s = refl
same_said events.CloseShift events.CloseShift n w r s = refl
same_said events.ReadSite events.ReadSite n w r s = refl
same_said (events.Open p) (events.Open q) n w r s = of_point events.Open p q w r s
same_said (events.Close p) (events.Close q) n w r s = of_point events.Close p q w r s
same_said (events.Assign p) (events.Assign q) n w r s = of_point events.Assign p q w r s
same_said (events.Unassign p) (events.Unassign q) n w r s = of_point events.Unassign p q w r s
same_said (events.TestRelease p) (events.TestRelease q) n w r s =
    of_point events.TestRelease p q w r s
same_said (events.Suspend p) (events.Suspend q) n w r s = of_point events.Suspend p q w r s
same_said (events.Resume p) (events.Resume q) n w r s = of_point events.Resume p q w r s
same_said (events.Terminate p) (events.Terminate q) n w r s = of_point events.Terminate p q w r s
same_said (events.ReadPoint p) (events.ReadPoint q) n w r s = of_point events.ReadPoint p q w r s
same_said (events.Online p) (events.Online q) n w r s = of_point events.Online p q w r s
same_said (events.Offline p) (events.Offline q) n w r s = of_point events.Offline p q w r s
same_said (events.Release p x) (events.Release q y) n w r s = released p x q y w r s
same_said (events.Prepay p x) (events.Prepay q y) n w r s =
    amounts events.Prepay POINTS p x q y (omega arith) w r s
same_said (events.SetPrice p x) (events.SetPrice q y) n w r s =
    amounts events.SetPrice PRODUCTS p x q y (omega arith) w r s
same_said (events.ReadProduct p) (events.ReadProduct q) n w r s = products p q w r s
same_said (events.ReplaceMeter p k x) (events.ReplaceMeter q m y) n w r s =
    metered events.ReplaceMeter p k x q m y w r s
same_said (events.Lift p k x) (events.Lift q m y) n w r s =
    metered events.Lift p k x q m y w r s
same_said (events.Flow p k x) (events.Flow q m y) n w r s =
    metered events.Flow p k x q m y w r s
same_said (events.HangUp p k x) (events.HangUp q m y) n w r s =
    metered events.HangUp p k x q m y w r s
same_said (events.Lock p x) (events.Lock q y) n w r s = at_sale events.Lock p x q y w r s
same_said (events.Unlock p x) (events.Unlock q y) n w r s = at_sale events.Unlock p x q y w r s
same_said (events.Clear p x) (events.Clear q y) n w r s = at_sale events.Clear p x q y w r s
same_said (events.ReadTransaction p x) (events.ReadTransaction q y) n w r s =
    at_sale events.ReadTransaction p x q y w r s
same_said a b n w r s = cc

-- ---- requests

same_actor : (a b : Actor) → actor_word a ≡ actor_word b → is_actor a ≡ true → is_actor b ≡ true
    → a ≡ b
same_actor (Till t) (Till u) e r s =
    let digits : decimal t ≡ decimal u = cc in
    ap Till (same_number TILLS t u (omega arith) r s digits)
same_actor (Dispenser p) (Dispenser q) e r s =
    let digits : decimal p ≡ decimal q = cc in
    ap Dispenser (same_number POINTS p q (omega arith) r s digits)
same_actor (Till t) (Dispenser q) e r s =
    let first : 116 ≡ 100 = ap (λ (w : List ℕ). get_or w 0 0) e in absurd (omega (arith, first))
same_actor (Dispenser p) (Till u) e r s =
    let first : 100 ≡ 116 = ap (λ (w : List ℕ). get_or w 0 0) e in absurd (omega (arith, first))

same_request : (words : List (List ℕ)) (a b : Actor) (x y : Event) → IsRequestText words a x
    → IsRequestText words b y → (a ≡ b) × (x ≡ y)
same_request words a b x y one two =
    let whole : actor_word a ∷ event_words x ≡ actor_word b ∷ event_words y =
    sym one.words_are ∙ two.words_are in
    let first : actor_word a ≡ actor_word b = cc in
    let said : event_words x ≡ event_words y = cc in
    let named : name_word (name_said x) ∷ behind_first (event_words x)
    ≡ name_word (name_said y) ∷ behind_first (event_words y) =
    sym (name_first x) ∙ said ∙ name_first y in
    let name : name_word (name_said x) ≡ name_word (name_said y) = cc in (
      same_actor a b first one.who two.who,
      same_said x y (one_name (name_said x) (name_said y) name) (ap behind_first said) one.what
          two.what,
    )

same_token : (words : List (List ℕ)) (n m : ℕ) → IsTokenText words n → IsTokenText words m → n ≡ m
same_token words n m one two =
    let whole : codes "token" ∷ decimal n ∷ [] ≡ codes "token" ∷ decimal m ∷ [] =
    sym one.0 ∙ two.0 in
    let digits : decimal n ≡ decimal m = cc in
    decimal_injective n m (omega (arith, one.1)) (omega (arith, two.1)) digits

pub one_thing : AsksForOneThing
one_thing line a b x y None None one two =
    let same = same_request (words_in line) a b x y one.1 two.1 in (same.0, same.1, refl)
one_thing line a b x y None (Some m) one two =
    absurd (unparted 44 two.front two.back line two.parts one.0)
one_thing line a b x y (Some n) None one two =
    absurd (unparted 44 one.front one.back line one.parts two.0)
one_thing line a b x y (Some n) (Some m) one two =
    let parts = parts_are 44 one.front one.back two.front two.back one.first two.first
    (sym one.parts ∙ two.parts) in
    let request = subst (λ (t : List ℕ). IsRequestText (words_in t) a x) parts.0 one.request in
    let told = subst (λ (t : List ℕ). IsTokenText (words_in t) n) parts.1 one.told in
    let same = same_request (words_in two.front) a b x y request two.request in
    (same.0, same.1, ap Some (same_token (words_in two.back) n m told two.told))

spelled_alike : (comment : Bool) (line : List ℕ) (next after later : ℕ) (old new other : List ℕ)
    → SpellsAs comment line next after old new → SpellsAs comment line next later old other
    → (new ≡ other) × (after ≡ later)
spelled_alike true line next after later old new other one two =
    (one.text ∙ sym two.text, one.stays ∙ sym two.stays)
spelled_alike false line next after later old new other one two =
    let same = one_thing line one.actor two.actor one.event two.event one.token two.token one.said
    two.said in
    let by_actor = subst (λ (a : Actor). AsksFor (unwrap_or two.token next) a two.event two.request)
    (sym same.0) two.asks in
    let by_event =
    subst (λ (x : Event). AsksFor (unwrap_or two.token next) one.actor x two.request)
    (sym same.1) by_actor in
    let by_token =
    subst (λ (t : Option ℕ). AsksFor (unwrap_or t next) one.actor one.event two.request)
    (sym same.2) by_event in
    let request : one.request ≡ two.request =
    alone _ _ _ one.request one.asks ∙ sym (alone _ _ _ two.request by_token) in (
      one.text ∙ ap (λ (r : Telegram). old ++ line_of r) request ∙ sym two.text,
      one.rises ∙ ap (λ (t : Option ℕ). token_then t next) same.2 ∙ sym two.rises,
    )

pub one_way : IsSpelledInOneWay
one_way line = spelled_alike (is_comment line) line
