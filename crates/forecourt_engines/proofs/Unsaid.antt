-- What no event is said by.
use Rattle.std.proofs.Common.{◌≡◌, ◌≢◌, ℕ, ◌≤◌, ◌^◌, true, List, [], ◌∷◌, refl, sym, subst, ap}
use Rattle.std.proofs.Common.{◌∙◌, ◌&&◌, arith, decimal, nat_lt}
use Rattle.std.proofs.lemmas.Bool.{and_parts}
use Rattle.std.proofs.lemmas.Bool.Decides.{nat_tests}
use Rattle.site_base.specs.declared.event.Event.{Event}
use Rattle.site_base.specs.declared.event.Event.TheVariants as events
use Rattle.site_base.specs.declared.limits.TheConstants.{POINTS, PRODUCTS}
use Rattle.site_base.specs.declared.sale.SaleId.{SaleId}
use Rattle.site_base.specs.declared.state.Preset.{Preset}
use Rattle.site_base.specs.declared.state.Preset.TheVariants.{Unset, Volume, Money}
use Rattle.site_base.specs.Ranges.{is_between}
use Rattle.site_base.specs.declared.actor.Actor.{Actor}
use Rattle.site_base.specs.Words.{actor_word, event_words, limit_words, meter_word, sale_word}
use Rattle.forecourt_engines.specs.declared.words.event_name.EventName.{EventName}
use Rattle.forecourt_engines.specs.declared.words.event_name.EventName.TheVariants as names
use Rattle.forecourt_engines.specs.declared.words.parts.TheConstants.{GREATEST_AMOUNT}
use Rattle.forecourt_engines.specs.EventNames.{IsRequestText, IsSaid, behind_first}
use Rattle.forecourt_engines.specs.EventNames.{name_said, name_word}
use Rattle.device_map.specs.Laws.{is_in_range, is_meter, is_preset, is_sale}
use Rattle.forecourt_engines.specs.Said.{AreMeter, ArePoint, ArePointAmount, AreProduct}
use Rattle.forecourt_engines.specs.Said.{AreProductAmount, AreRelease, AreSale, IsActorWord}
use Rattle.forecourt_engines.specs.Said.{IsLimit}
use Rattle.forecourt_engines.proofs.OneName.{one_name}

-- what stands behind a name doesn't say its event
abbrev pub Unread : EventName → List (List ℕ) → Type 0
Unread (names.Alone name) words = words ≢ []
Unread (names.OfPoint name) words = (p : ℕ) → ¬ ArePoint words p
Unread (names.OfMeter name) words = (p n reading : ℕ) → ¬ AreMeter words p n reading
Unread (names.OfSale name) words = (p : ℕ) (sale : SaleId) → ¬ AreSale words p sale
Unread names.Release words = (p : ℕ) (preset : Preset) → ¬ AreRelease words p preset
Unread names.Prepay words = (p cents : ℕ) → ¬ ArePointAmount words p cents
Unread names.SetPrice words = (q mills : ℕ) → ¬ AreProductAmount words q mills
Unread names.ReadProduct words = (q : ℕ) → ¬ AreProduct words q

pub within : (most n : ℕ) → is_between 1 most n ≡ true → (1 ≤ n) × (n ≤ most)
within most n range = (grind (arith, nat_tests), grind (arith, nat_tests))

pub four : (n : ℕ) → nat_lt n (2 ^ 32) ≡ true → n ≤ GREATEST_AMOUNT
four n range = grind (arith, nat_tests)

limit : (preset : Preset) → is_preset preset ≡ true → IsLimit (limit_words preset) preset
limit Unset range = refl
limit (Volume n) range = (refl, four n range)
limit (Money n) range = (refl, four n range)

-- ---- what stands behind the name of an event in range is read

point_read : (words : List (List ℕ)) (p : ℕ) → ((q : ℕ) → ¬ ArePoint words q)
    → (is_between 1 POINTS p && true) ≡ true → words ≢ decimal p ∷ []
point_read words p none range same =
    let low = within POINTS p (and_parts (is_between 1 POINTS p) true range).0 in
    none p (same, low.0, low.1)

meter_read : (words : List (List ℕ)) (p n reading : ℕ)
    → ((q m r : ℕ) → ¬ AreMeter words q m r) → (is_between 1 POINTS p && is_meter n reading) ≡ true
    → words ≢ decimal p ∷ meter_word n reading ∷ []
meter_read words p n reading none range same =
    let both = and_parts (is_between 1 POINTS p) (is_meter n reading) range in
    none p n reading
    (record { words_are = same; point = within POINTS p both.0; meter = both.1 })

sale_read : (words : List (List ℕ)) (p : ℕ) (sale : SaleId)
    → ((q : ℕ) (other : SaleId) → ¬ AreSale words q other)
    → (is_between 1 POINTS p && is_sale sale) ≡ true → words ≢ sale_word p sale ∷ []
sale_read words p sale none range same =
    none p sale (same, and_parts (is_between 1 POINTS p) (is_sale sale) range)

unsaid_event : (words : List (List ℕ)) (event : Event) → Unread (name_said event) words
    → is_in_range event ≡ true → words ≢ behind_first (event_words event)
unsaid_event words events.SignOn none range = none
unsaid_event words events.SignOff none range = none
unsaid_event words (events.Open p) none range = point_read words p none range
unsaid_event words (events.Close p) none range = point_read words p none range
unsaid_event words (events.Assign p) none range = point_read words p none range
unsaid_event words (events.Unassign p) none range = point_read words p none range
unsaid_event words (events.Release p preset) none range = λ same.
    let both = and_parts (is_between 1 POINTS p) (is_preset preset) range in
    none p preset (record {
      behind = limit_words preset;
      words_are = same;
      point = within POINTS p both.0;
      limit = limit preset both.1;
    })
unsaid_event words (events.Prepay p cents) none range = λ same.
    let both = and_parts (is_between 1 POINTS p) (nat_lt cents (2 ^ 32)) range in
    none p cents
    (record { words_are = same; point = within POINTS p both.0; amount_fits = four cents both.1 })
unsaid_event words (events.TestRelease p) none range = point_read words p none range
unsaid_event words (events.Suspend p) none range = point_read words p none range
unsaid_event words (events.Resume p) none range = point_read words p none range
unsaid_event words (events.Terminate p) none range = point_read words p none range
unsaid_event words (events.ReplaceMeter p n reading) none range =
    meter_read words p n reading none range
unsaid_event words (events.ReadPoint p) none range = point_read words p none range
unsaid_event words (events.Lock p sale) none range = sale_read words p sale none range
unsaid_event words (events.Unlock p sale) none range = sale_read words p sale none range
unsaid_event words (events.Clear p sale) none range = sale_read words p sale none range
unsaid_event words (events.ReadTransaction p sale) none range = sale_read words p sale none range
unsaid_event words (events.SetPrice q mills) none range = λ same.
    let both = and_parts (is_between 1 PRODUCTS q) (nat_lt mills (2 ^ 32)) range in
    none q mills
    (record {
      words_are = same;
      product = within PRODUCTS q both.0;
      amount_fits = four mills both.1;
    })
unsaid_event words (events.ReadProduct q) none range = λ same.
    let low = within PRODUCTS q range in none q (same, low.0, low.1)
unsaid_event words events.CloseShift none range = none
unsaid_event words events.ReadSite none range = none
unsaid_event words (events.Online p) none range = point_read words p none range
unsaid_event words (events.Offline p) none range = point_read words p none range
unsaid_event words (events.Lift p n reading) none range = meter_read words p n reading none range
unsaid_event words (events.Flow p n reading) none range = meter_read words p n reading none range
unsaid_event words (events.HangUp p n reading) none range = meter_read words p n reading none range

-- so of a name that they don't say
pub unsaid : (name : EventName) (words : List (List ℕ)) → Unread name words → (event : Event)
    → ¬ IsSaid name words event
unsaid name words none event said =
    unsaid_event words event (subst (λ (x : EventName). Unread x words) (sym said.named) none)
    said.range said.words_are

-- ---- a request's words

pub name_first : (event : Event)
    → event_words event ≡ name_word (name_said event) ∷ behind_first (event_words event)
name_first events.SignOn = refl
name_first event = refl

-- the words behind the actor's say the event by its name and what stands behind it
pub said_by : (first second : List ℕ) (behind : List (List ℕ)) (actor : Actor) (event : Event)
    → IsRequestText (first ∷ second ∷ behind) actor event
    → IsActorWord first actor × (second ≡ name_word (name_said event))
    × IsSaid (name_said event) behind event
said_by first second behind actor event said =
    let whole : first ∷ second ∷ behind
    ≡ actor_word actor ∷ name_word (name_said event) ∷ behind_first (event_words event) =
    said.words_are ∙ ap (λ (ws : List (List ℕ)). actor_word actor ∷ ws) (name_first event) in
    let one : first ≡ actor_word actor = cc in
    let two : second ≡ name_word (name_said event) = cc in
    let rest : behind ≡ behind_first (event_words event) = cc in (
      (one, said.who),
      two,
      record { named = refl; words_are = rest; range = said.what },
    )

-- so where the second word is no name, or what stands behind it doesn't say its event, it is none
pub no_name : (first second : List ℕ) (behind : List (List ℕ))
    → ((name : EventName) → second ≢ name_word name) → (actor : Actor) (event : Event)
    → ¬ IsRequestText (first ∷ second ∷ behind) actor event
no_name first second behind none actor event said =
    none (name_said event) (said_by first second behind actor event said).1

pub no_event : (first second : List ℕ) (behind : List (List ℕ)) (name : EventName)
    → second ≡ name_word name → ((event : Event) → ¬ IsSaid name behind event) → (actor : Actor)
    (event : Event) → ¬ IsRequestText (first ∷ second ∷ behind) actor event
no_event first second behind name is none actor event said =
    let parts = said_by first second behind actor event said in
    let same : name_said event ≡ name = one_name (name_said event) name (sym parts.1 ∙ is) in
    none event (subst (λ (x : EventName). IsSaid x behind event) same parts.2)
