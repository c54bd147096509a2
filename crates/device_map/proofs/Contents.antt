-- What a command carries, in it and behind it, is spelled by one list of items, and read from no
-- other.
use Rattle.std.specs.Prelude.{◌&&◌, ◌≤◌, ◌^◌, ◌/◌, nat_lt, nat_le, slice_index, Option, Some, None}
use Rattle.std.specs.Int.{w32, w64, byte_at, bytes_high_first, to_be_bytes, from_be_bytes}
use Rattle.std.specs.List.{flat_map}
use Rattle.std.proofs.Common.{◌≡◌, ℕ, zero, suc, ◌+◌, ◌<◌, ◌==◌, Bool, true, false, List, [], ◌∷◌}
use Rattle.std.proofs.Common.{◌++◌, length, Result, Ok, refl, sym, ap, subst, cond, ◌∙◌, arith}
use Rattle.std.proofs.Common.{lit≤}
use Rattle.std.proofs.lemmas.Bool.{and_parts}
use Rattle.std.proofs.lemmas.Bool.Decides.{nat_tests}
use Rattle.std.proofs.lemmas.Nat.{be_bytes_4, be_bytes_8, mod_below}
use Rattle.std.proofs.lemmas.Nat.{from_be_bytes-to_be_bytes_4, from_be_bytes-to_be_bytes_8}
use Rattle.site_base.specs.declared.limits.TheConstants.{NOZZLES}
use Rattle.site_base.specs.declared.amounts.TheConstants.{GREATEST_READING}
use Rattle.site_base.specs.declared.state.Preset.{Preset}
use Rattle.site_base.specs.declared.state.Preset.TheVariants.{Unset, Volume, Money}
use Rattle.site_base.specs.Ranges.{is_between}
use Rattle.app_message.specs.Telegram.{Entry, entry, IsEntry, Rises, AreOctets}
use Rattle.app_message.specs.Spelling.{item_text}
use Rattle.device_map.specs.declared.fault.MapFault.{MapFault}
use Rattle.device_map.specs.declared.fault.MapFault.TheVariants.{UnknownItem, BadNumber}
use Rattle.device_map.specs.declared.ids.TheConstants as ids
use Rattle.device_map.specs.declared.way.Content.{Content}
use Rattle.device_map.specs.declared.way.Content.TheVariants.{Nothing, Limit, Payment, Meter}
use Rattle.device_map.specs.declared.way.Content.TheVariants.{Price}
use Rattle.device_map.specs.Stages.{◌>>=◌}
use Rattle.device_map.specs.Further.{items_end, take_item, expect_item, four_octets_in, nozzle_in}
use Rattle.device_map.specs.Further.{reading_in, preset_of, preset_in, money_in, meter_in}
use Rattle.device_map.specs.Items.{octet, four_octets, eight_octets}
use Rattle.device_map.specs.Laws.{is_preset, is_meter}
use Rattle.device_map.specs.Replies.{preset_items}
use Rattle.device_map.specs.Ways.{content_inside, content_items}
use Rattle.device_map.proofs.Results.{bind_ok, went, ok_is, passed, equal, none_of, one_is}
use Rattle.device_map.proofs.Results.{one_octet}

-- each number is in its range
abbrev pub is_content : Content → Bool
is_content Nothing = true
is_content (Limit preset) = is_preset preset
is_content (Payment cents) = nat_lt cents (2 ^ 32)
is_content (Meter nozzle reading) = is_meter nozzle reading
is_content (Price mills) = nat_lt mills (2 ^ 32)

-- ---- what was spelled is read

pub four_there : (n : ℕ) → nat_lt n (2 ^ 32) ≡ true → four_octets_in (to_be_bytes w32 n) ≡ Ok n
four_there n small =
    let below : n < 2 ^ 32 = grind (arith, nat_tests) in
    ap (λ (x : ℕ). Ok x) (from_be_bytes-to_be_bytes_4 n below)

pub preset_there : (preset : Preset) → is_preset preset ≡ true
    → preset_in (preset_items preset) ≡ Ok preset
unfolding preset_in four_octets
preset_there Unset own = refl
preset_there (Volume n) own =
    ap (λ (r : Result ℕ MapFault). r >>= λ x. Ok (Volume x)) (four_there n own)
preset_there (Money n) own =
    ap (λ (r : Result ℕ MapFault). r >>= λ x. Ok (Money x)) (four_there n own)

pub money_there : (cents : ℕ) → nat_lt cents (2 ^ 32) ≡ true
    → money_in (content_items (Payment cents)) ≡ Ok cents
unfolding money_in four_octets
money_there cents own = four_there cents own

pub meter_there : (n reading : ℕ) → is_meter n reading ≡ true
    → meter_in (content_items (Meter n reading)) ≡ Ok (n, reading)
unfolding meter_in octet eight_octets
meter_there n reading own =
    let both = and_parts (is_between 1 NOZZLES n) (nat_le reading GREATEST_READING) own in
    let below : reading < 2 ^ 64 = grind (arith, nat_tests) in
    let spelled = from_be_bytes-to_be_bytes_8 reading below in
    rw (both.0, spelled, both.1) refl

-- ---- its items can be spelled

octet_below : (k n i : ℕ) → slice_index (bytes_high_first k n) i < 256
octet_below zero n i = omega arith
octet_below (suc k) n zero = byte_below k
  where
    byte_below : (k : ℕ) → byte_at k n < 256
    byte_below zero = omega arith
    byte_below (suc k) = mod_below (n / 256 ^ suc k) 256 (omega arith)
octet_below (suc k) n (suc i) = octet_below k n i

is_four : (id n : ℕ) → id < 256 → IsEntry (entry id (to_be_bytes w32 n))
is_four id n small = record { id = small; size = lit≤ tt; octets = octet_below 4 n }

is_eight : (id n : ℕ) → id < 256 → IsEntry (entry id (to_be_bytes w64 n))
is_eight id n small = record { id = small; size = lit≤ tt; octets = octet_below 8 n }

is_one : (id n : ℕ) → id < 256 → n < 256 → IsEntry (entry id (n ∷ []))
is_one id n small octet = record { id = small; size = lit≤ tt; octets = one_octet n octet }

pub no_octets : AreOctets []
no_octets i = omega arith

pub inside_octets : (content : Content) → AreOctets (content_inside content)
inside_octets (Price mills) = octet_below 4 mills
inside_octets Nothing = no_octets
inside_octets (Limit preset) = no_octets
inside_octets (Payment cents) = no_octets
inside_octets (Meter nozzle reading) = no_octets

pub inside_short : (content : Content) → length (content_inside content) ≤ 4
inside_short (Price mills) = lit≤ tt
inside_short Nothing = lit≤ tt
inside_short (Limit preset) = lit≤ tt
inside_short (Payment cents) = lit≤ tt
inside_short (Meter nozzle reading) = lit≤ tt

-- below the identifiers of its items
abbrev pub is_below : ℕ → Content → Bool
is_below id Nothing = nat_lt id 256
is_below id (Limit preset) = nat_lt id ids.PRESET_VOLUME
is_below id (Payment cents) = nat_lt id ids.PRESET_MONEY
is_below id (Meter nozzle reading) = nat_lt id ids.NOZZLE
is_below id (Price mills) = nat_lt id 256

pub contents_rise : (id : ℕ) (content : Content) → is_content content ≡ true
    → is_below id content ≡ true → Rises (id + 1) (content_items content)
unfolding octet four_octets eight_octets
contents_rise id Nothing own below = tt
contents_rise id (Price mills) own below = tt
contents_rise id (Limit Unset) own below = tt
contents_rise id (Limit (Volume n)) own below =
    (grind (arith, nat_tests), is_four ids.PRESET_VOLUME n (omega arith), tt)
contents_rise id (Limit (Money n)) own below =
    (grind (arith, nat_tests), is_four ids.PRESET_MONEY n (omega arith), tt)
contents_rise id (Payment n) own below =
    (grind (arith, nat_tests), is_four ids.PRESET_MONEY n (omega arith), tt)
contents_rise id (Meter n r) own below =
    let both = and_parts (is_between 1 NOZZLES n) (nat_le r GREATEST_READING) own in
    let number : is_between 1 NOZZLES n ≡ true = both.0 in
    let small : n < 256 = grind (arith, nat_tests) in (
      grind (arith, nat_tests),
      is_one ids.NOZZLE n (omega arith) small,
      (omega arith, is_eight ids.READING r (omega arith), tt),
    )

pub contents_short : (content : Content) → length (flat_map item_text (content_items content)) ≤ 100
unfolding octet four_octets eight_octets
contents_short Nothing = lit≤ tt
contents_short (Price mills) = lit≤ tt
contents_short (Limit Unset) = lit≤ tt
contents_short (Limit (Volume n)) = lit≤ tt
contents_short (Limit (Money n)) = lit≤ tt
contents_short (Payment n) = lit≤ tt
contents_short (Meter n r) = lit≤ tt

-- ---- what is read was spelled

-- four octets are the spelling of their number
pub inside_back : (content : List ℕ) (n : ℕ) → AreOctets content → four_octets_in content ≡ Ok n
    → content ≡ to_be_bytes w32 n
inside_back content n octets is =
    let test = passed (length content == 4) BadNumber (Ok (from_be_bytes w32 content)) n is in
    let number : n ≡ from_be_bytes w32 content =
    sym (ok_is (from_be_bytes w32 content) n test.1) in
    sym (be_bytes_4 content n (equal _ _ test.0) octets number)

four_back : (e : Entry) (id n : ℕ) → (e.id == id) ≡ true → IsEntry e
    → four_octets_in e.content ≡ Ok n → e ∷ [] ≡ four_octets id n
unfolding four_octets
four_back e id n named entry_is is =
    ap (λ (x : ℕ). entry x e.content ∷ []) (equal e.id id named)
    ∙ ap (λ (x : List ℕ). entry id x ∷ []) (inside_back e.content n entry_is.octets is)

nozzle_back : (e : Entry) (n : ℕ) → (e.id == ids.NOZZLE) ≡ true → nozzle_in e ≡ Ok n
    → e ∷ [] ≡ octet ids.NOZZLE n
unfolding octet
nozzle_back e n named is =
    let test =
    passed (length e.content == 1 && is_between 1 NOZZLES (slice_index e.content 0)) BadNumber
    (Ok (slice_index e.content 0)) n is in
    let size = equal _ _ (and_parts _ _ test.0).0 in
    let number : slice_index e.content 0 ≡ n = ok_is (slice_index e.content 0) n test.1 in
    ap (λ (x : ℕ). entry x e.content ∷ []) (equal e.id ids.NOZZLE named)
    ∙ ap (λ (x : List ℕ). entry ids.NOZZLE x ∷ []) (one_is e.content size)
    ∙ ap (λ (x : ℕ). entry ids.NOZZLE (x ∷ []) ∷ []) number

reading_back : (e : Entry) (n : ℕ) → (e.id == ids.READING) ≡ true → IsEntry e
    → reading_in e ≡ Ok n → e ∷ [] ≡ eight_octets ids.READING n
unfolding eight_octets
reading_back e n named entry_is is =
    let test =
    passed (length e.content == 8 && nat_le (from_be_bytes w64 e.content) GREATEST_READING)
    BadNumber (Ok (from_be_bytes w64 e.content)) n is in
    let size = equal _ _ (and_parts _ _ test.0).0 in
    let number : n ≡ from_be_bytes w64 e.content =
    sym (ok_is (from_be_bytes w64 e.content) n test.1) in
    let content : to_be_bytes w64 n ≡ e.content =
    be_bytes_8 e.content n size entry_is.octets number in
    ap (λ (x : ℕ). entry x e.content ∷ []) (equal e.id ids.READING named)
    ∙ ap (λ (x : List ℕ). entry ids.READING x ∷ []) (sym content)

-- ---- which items were taken

abbrev with_item : Option Entry → List Entry → List Entry
with_item None items = items
with_item (Some e) items = e ∷ items

abbrev IsNamed : ℕ → Option Entry → Type 0
IsNamed id None = Unit {0}
IsNamed id (Some e) = (e.id == id) ≡ true

-- what is taken is the next item, of this identifier, or none
record IsTaken (id : ℕ) (items : List Entry) (found : Option Entry × List Entry) : Type 0 where
  parts : items ≡ with_item found.0 found.1
  named : IsNamed id found.0

picked : (id : ℕ) (e : Entry) (es : List Entry) (b : Bool) → (e.id == id) ≡ b
    → IsTaken id (e ∷ es) (cond b (Some e, es) (None, e ∷ es))
picked id e es true is = record { parts = refl; named = is }
picked id e es false is = record { parts = refl; named = tt }

taken_is : (id : ℕ) (items : List Entry) → IsTaken id items (take_item id items)
taken_is id [] = record { parts = refl; named = tt }
taken_is id (e ∷ es) = picked id e es (e.id == id) refl

pub nothing_back : (items : List Entry) (u : Unit {0}) → items_end items ≡ Ok u → items ≡ []
nothing_back items u is =
    none_of items (passed (length items == 0) UnknownItem (Ok tt) u is).0

preset_told : (low : ℕ) (volume money : Option Entry) (preset : Preset)
    → IsNamed ids.PRESET_VOLUME volume → IsNamed ids.PRESET_MONEY money
    → Rises low (with_item volume (with_item money [])) → preset_of volume money ≡ Ok preset
    → with_item volume (with_item money []) ≡ preset_items preset
preset_told low None None preset first second rise is = ap preset_items (ok_is Unset preset is)
preset_told low (Some e) None preset first second rise is =
    let number = bind_ok (four_octets_in e.content) _ preset is in
    four_back e ids.PRESET_VOLUME number.0 first rise.1 number.1
    ∙ ap preset_items (ok_is (Volume number.0) preset number.2)
preset_told low None (Some e) preset first second rise is =
    let number = bind_ok (four_octets_in e.content) _ preset is in
    four_back e ids.PRESET_MONEY number.0 second rise.1 number.1
    ∙ ap preset_items (ok_is (Money number.0) preset number.2)
preset_told low (Some v) (Some e) preset first second rise is = absurd cc

pub preset_back : (low : ℕ) (items : List Entry) (preset : Preset) → Rises low items
    → preset_in items ≡ Ok preset → items ≡ preset_items preset
unfolding preset_in
preset_back low items preset rise is =
    let left = (take_item ids.PRESET_VOLUME items).1 in
    let volume = taken_is ids.PRESET_VOLUME items in
    let money = taken_is ids.PRESET_MONEY left in
    let ended = bind_ok (items_end (take_item ids.PRESET_MONEY left).1) _ preset is in
    let parts : items ≡ with_item (take_item ids.PRESET_VOLUME items).0
    (with_item (take_item ids.PRESET_MONEY left).0 []) =
    volume.parts
    ∙ ap (with_item (take_item ids.PRESET_VOLUME items).0)
    (money.parts
    ∙ ap (with_item (take_item ids.PRESET_MONEY left).0)
    (nothing_back (take_item ids.PRESET_MONEY left).1 ended.0 ended.1)) in
    parts
    ∙ preset_told low (take_item ids.PRESET_VOLUME items).0 (take_item ids.PRESET_MONEY left).0
    preset
    volume.named money.named (subst (λ (x : List Entry). Rises low x) parts rise) ended.2

money_told : (low : ℕ) (found : Option Entry) (money : Entry) (cents : ℕ)
    → IsNamed ids.PRESET_MONEY found → Rises low (with_item found []) → expect_item found ≡ Ok money
    → four_octets_in money.content ≡ Ok cents → with_item found [] ≡ content_items (Payment cents)
money_told low None money cents named rise there is = absurd cc
money_told low (Some e) money cents named rise there is =
    four_back e ids.PRESET_MONEY cents named rise.1
    (ap (λ (x : Entry). four_octets_in x.content) (ok_is e money there) ∙ is)

pub money_back : (low : ℕ) (items : List Entry) (cents : ℕ) → Rises low items
    → money_in items ≡ Ok cents → items ≡ content_items (Payment cents)
unfolding money_in
money_back low items cents rise is =
    let found = (take_item ids.PRESET_MONEY items).0 in
    let money = taken_is ids.PRESET_MONEY items in
    let ended = bind_ok (items_end (take_item ids.PRESET_MONEY items).1) _ cents is in
    let there = bind_ok (expect_item found) _ cents ended.2 in
    let parts : items ≡ with_item found [] =
    money.parts
    ∙ ap (with_item found) (nothing_back (take_item ids.PRESET_MONEY items).1 ended.0 ended.1) in
    parts
    ∙ money_told low found there.0 cents money.named
    (subst (λ (x : List Entry). Rises low x) parts rise) there.1 there.2

meter_told : (low : ℕ) (first second : Option Entry) (nozzle reading : Entry) (n r : ℕ)
    → IsNamed ids.NOZZLE first → IsNamed ids.READING second
    → Rises low (with_item first (with_item second []))
    → expect_item first ≡ Ok nozzle → expect_item second ≡ Ok reading
    → nozzle_in nozzle ≡ Ok n → reading_in reading ≡ Ok r
    → with_item first (with_item second []) ≡ content_items (Meter n r)
unfolding octet
meter_told low None second nozzle reading n r named named' rise there there' is is' = absurd cc
meter_told low (Some e) None nozzle reading n r named named' rise there there' is is' = absurd cc
meter_told low (Some e) (Some f) nozzle reading n r named named' rise there there' is is' =
    let first = nozzle_back e n named (ap nozzle_in (ok_is e nozzle there) ∙ is) in
    let second =
    reading_back f r named' rise.2.1 (ap reading_in (ok_is f reading there') ∙ is') in
    ap (λ (x : List Entry). x ++ f ∷ []) first
    ∙ ap (λ (x : List Entry). octet ids.NOZZLE n ++ x) second

pub meter_back : (low : ℕ) (items : List Entry) (n r : ℕ) → Rises low items
    → meter_in items ≡ Ok (n, r) → items ≡ content_items (Meter n r)
unfolding meter_in
meter_back low items n r rise is =
    let left = (take_item ids.NOZZLE items).1 in
    let first = (take_item ids.NOZZLE items).0 in
    let second = (take_item ids.READING left).0 in
    let nozzle = taken_is ids.NOZZLE items in
    let reading = taken_is ids.READING left in
    let ended = bind_ok (items_end (take_item ids.READING left).1) _ (n, r) is in
    let there = bind_ok (expect_item first) _ (n, r) ended.2 in
    let there' = bind_ok (expect_item second) _ (n, r) there.2 in
    let number = bind_ok (nozzle_in there.0) _ (n, r) there'.2 in
    let reads = bind_ok (reading_in there'.0) _ (n, r) number.2 in
    let pair : (number.0, reads.0) ≡ (n, r) = ok_is (number.0, reads.0) (n, r) reads.2 in
    let parts : items ≡ with_item first (with_item second []) =
    nozzle.parts
    ∙ ap (with_item first)
    (reading.parts
    ∙ ap (with_item second) (nothing_back (take_item ids.READING left).1 ended.0 ended.1)) in
    parts
    ∙ meter_told low first second there.0 there'.0 n r nozzle.named reading.named
    (subst (λ (x : List Entry). Rises low x) parts rise) there.1 there'.1
    (number.1 ∙ ap (λ (x : ℕ × ℕ). went x.0) pair) (reads.1 ∙ ap (λ (x : ℕ × ℕ). went x.1) pair)
