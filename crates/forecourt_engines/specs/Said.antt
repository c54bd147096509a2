-- What the words of a request say.
use Rattle.std.specs.Prelude.{◌≡◌, ◌≤◌, ℕ, true, List, [], ◌∷◌, Bool, codes, decimal}
use Rattle.site_base.specs.declared.limits.TheConstants.{TILLS, POINTS, PRODUCTS}
use Rattle.site_base.specs.declared.actor.Actor.{Actor}
use Rattle.site_base.specs.declared.actor.Actor.TheVariants.{Till, Dispenser}
use Rattle.site_base.specs.declared.sale.SaleId.{SaleId}
use Rattle.site_base.specs.declared.state.Preset.{Preset}
use Rattle.site_base.specs.declared.state.Preset.TheVariants.{Unset, Volume, Money}
use Rattle.site_base.specs.Ranges.{is_between}
use Rattle.site_base.specs.Words.{actor_word, id_word, meter_word, sale_word}
use Rattle.device_map.specs.Laws.{is_meter, is_sale}
use Rattle.forecourt_engines.specs.declared.words.parts.TheConstants.{GREATEST_AMOUNT}

-- an actor with a number in its range
abbrev pub is_actor : Actor → Bool
is_actor (Till t) = is_between 1 TILLS t
is_actor (Dispenser p) = is_between 1 POINTS p

-- the word of an actor
abbrev pub IsActorWord : List ℕ → Actor → Type 0
IsActorWord word actor = (word ≡ actor_word actor) × (is_actor actor ≡ true)

-- the word of a number from the least to the greatest
abbrev pub IsNumberWord : ℕ → ℕ → List ℕ → ℕ → Type 0
IsNumberWord least most word n = (word ≡ decimal n) × (least ≤ n) × (n ≤ most)

-- the word of a nozzle and its meter's reading
abbrev pub IsMeterWord : List ℕ → ℕ → ℕ → Type 0
IsMeterWord word n reading = (word ≡ meter_word n reading) × (is_meter n reading ≡ true)

-- the word of a transaction behind its point
abbrev pub IsIdWord : List ℕ → SaleId → Type 0
IsIdWord word sale = (word ≡ id_word sale) × (is_sale sale ≡ true)

-- the word of a transaction of a point
abbrev pub IsSaleWord : List ℕ → ℕ → SaleId → Type 0
IsSaleWord word p sale =
    (word ≡ sale_word p sale) × ((is_between 1 POINTS p ≡ true) × (is_sale sale ≡ true))

-- ---- what stands behind the name of an event

-- a fuelling point
abbrev pub ArePoint : List (List ℕ) → ℕ → Type 0
ArePoint words p = (words ≡ decimal p ∷ []) × (1 ≤ p) × (p ≤ POINTS)

-- a product
abbrev pub AreProduct : List (List ℕ) → ℕ → Type 0
AreProduct words q = (words ≡ decimal q ∷ []) × (1 ≤ q) × (q ≤ PRODUCTS)

-- a transaction of a fuelling point
abbrev pub AreSale : List (List ℕ) → ℕ → SaleId → Type 0
AreSale words p sale =
    (words ≡ sale_word p sale ∷ []) × ((is_between 1 POINTS p ≡ true) × (is_sale sale ≡ true))

-- a fuelling point, and a nozzle with its meter's reading
pub record AreMeter (words : List (List ℕ)) (p n reading : ℕ) : Type 0 where
  pub words_are : words ≡ decimal p ∷ meter_word n reading ∷ []
  pub point : (1 ≤ p) × (p ≤ POINTS)
  pub meter : is_meter n reading ≡ true

-- a fuelling point, and a number of four octets
pub record ArePointAmount (words : List (List ℕ)) (p amount : ℕ) : Type 0 where
  pub words_are : words ≡ decimal p ∷ decimal amount ∷ []
  pub point : (1 ≤ p) × (p ≤ POINTS)
  pub amount_fits : amount ≤ GREATEST_AMOUNT

-- a product, and a number of four octets
pub record AreProductAmount (words : List (List ℕ)) (q amount : ℕ) : Type 0 where
  pub words_are : words ≡ decimal q ∷ decimal amount ∷ []
  pub product : (1 ≤ q) × (q ≤ PRODUCTS)
  pub amount_fits : amount ≤ GREATEST_AMOUNT

-- what a release is limited by
abbrev pub IsLimit : List (List ℕ) → Preset → Type 0
IsLimit words Unset = words ≡ []
IsLimit words (Volume millilitres) =
    (words ≡ codes "volume" ∷ decimal millilitres ∷ []) × (millilitres ≤ GREATEST_AMOUNT)
IsLimit words (Money cents) =
    (words ≡ codes "money" ∷ decimal cents ∷ []) × (cents ≤ GREATEST_AMOUNT)

-- a fuelling point, and what its release is limited by
pub record AreRelease (words : List (List ℕ)) (p : ℕ) (preset : Preset) : Type 0 where
  pub behind : List (List ℕ)
  pub words_are : words ≡ decimal p ∷ behind
  pub point : (1 ≤ p) × (p ≤ POINTS)
  pub limit : IsLimit behind preset
