-- The lists and tables of a tree, as the code has them.
use Rattle.std.proofs.Common.{◌≡◌, ℕ, Bool, true, false, not, List, [], ◌∷◌, length, Option, Some}
use Rattle.std.proofs.Common.{None, option_map, String, Global, Less, Greater, string_bytes}
use Rattle.std.proofs.Common.{nat_cmp, find, refl, ap, ◌∙◌, inl, inr, arith}
use Rattle.std.proofs.lemmas.Bool.{cases_Bool}
use Rattle.std.proofs.lemmas.Cmp.{nat_list_cmp_total}
use Rattle.std.specs.Cmp.Lexicographic.{slice_cmp}
use Rattle.std.specs.List.{AllByRecursion}
use Rattle.std.specs.List.Sorted.{IsStrictlySortedBy}
use Rattle.std.specs.Map.{keys_of}
use Rattle.std.specs.Ordering.{ordering_reverse, is_lt}
use Rattle.std.specs.String.{string_cmp}
use Rattle.toml.specs.declared.value.Value.{Value}
use Rattle.toml.specs.View.{items_view, members_view}
use Rattle.site_file.specs.declared.key.Key.{Key}
use Rattle.site_file.specs.Keys.{is_known, least, least_with, lesser}
use Rattle.site_file.specs.SiteFile.{count, unknown_keys}

abbrev Entry : Type 0
Entry = String Global × Value

-- a list's members are counted by its length
pub item_count : (values : List Value) → count (items_view values) ≡ length values
item_count [] = refl
item_count (v ∷ vs) = grind (arith, item_count vs)

-- ---- the least unknown key is the first one, since a table's keys ascend

abbrev IsBelow : List ℕ → String Global → Type 0
IsBelow key other = slice_cmp nat_cmp key (string_bytes other) ≡ Less

-- of two keys above a third one the lesser is above it too
lesser_above : (key a b : List ℕ) → slice_cmp nat_cmp key a ≡ Less → slice_cmp nat_cmp key b ≡ Less
    → slice_cmp nat_cmp key (lesser a b) ≡ Less
lesser_above key a b below_a below_b = by (is_lt (slice_cmp nat_cmp b a)) refl
  where
    by : (o : Bool) → is_lt (slice_cmp nat_cmp b a) ≡ o → slice_cmp nat_cmp key (lesser a b) ≡ Less
    by true is = rw is below_b
    by false is = rw is below_a

lesser_below : (key other : List ℕ) → slice_cmp nat_cmp key other ≡ Less → lesser key other ≡ key
lesser_below key other below =
    let above : slice_cmp nat_cmp other key ≡ Greater = nat_list_cmp_total.antisymm other key
    ∙ ap ordering_reverse below in
    rw above refl

-- a key is below the least of some
abbrev IsBelowLeast : List ℕ → Option (List ℕ) → Type 0
IsBelowLeast key None = Unit {0}
IsBelowLeast key (Some other) = slice_cmp nat_cmp key other ≡ Less

IsBelowLeast-with : (key first : List ℕ) (others : Option (List ℕ))
    → slice_cmp nat_cmp key first ≡ Less → IsBelowLeast key others
    → IsBelowLeast key (least_with first others)
IsBelowLeast-with key first None below rest = below
IsBelowLeast-with key first (Some other) below rest = lesser_above key first other below rest

IsBelowLeast-unknown : (known : List Key) (key : List ℕ) (es : List Entry)
    → AllByRecursion (IsBelow key) (keys_of es)
    → IsBelowLeast key (least (unknown_keys known (members_view es)))
IsBelowLeast-unknown known key [] above = tt
IsBelowLeast-unknown known key (e ∷ es) above =
    elim (cases_Bool (is_known known (string_bytes e.0))) [
      | inl is ↦ rw is (IsBelowLeast-unknown known key es above.1)
      | inr not_is ↦
          let rest = IsBelowLeast-unknown known key es above.1 in
          rw not_is (IsBelowLeast-with key (string_bytes e.0) _ above.0 rest)
    ]

least_with-below : (key : List ℕ) (others : Option (List ℕ)) → IsBelowLeast key others
    → least_with key others ≡ Some key
least_with-below key None below = refl
least_with-below key (Some other) below = ap Some (lesser_below key other below)

pub is_first : (known : List Key) (es : List Entry)
    → IsStrictlySortedBy string_cmp (keys_of es)
    → least (unknown_keys known (members_view es))
    ≡ option_map string_bytes (find (λ key. not (is_known known (string_bytes key))) (keys_of es))
unfolding IsStrictlySortedBy
is_first known [] sorted = refl
is_first known (e ∷ es) sorted =
    elim (cases_Bool (is_known known (string_bytes e.0))) [
      | inl is ↦ rw is (is_first known es sorted.1)
      | inr not_is ↦
          let rest = IsBelowLeast-unknown known (string_bytes e.0) es sorted.0 in
          rw not_is (least_with-below (string_bytes e.0) _ rest)
    ]
