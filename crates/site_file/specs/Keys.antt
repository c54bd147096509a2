-- The keys of a site file: how they are spelled, and how an unknown one is printed.
use Rattle.std.specs.Prelude.{ℕ, Bool, List, [], ◌∷◌, Option, Some, None, if◌then◌else◌, codes}
use Rattle.std.specs.Prelude.{take, map}
use Rattle.std.specs.List.{list_any}
use Rattle.std.specs.Str.{bytes_eq}
use Rattle.std.specs.Ordering.{nat_cmp, is_lt}
use Rattle.std.specs.Cmp.Lexicographic.{slice_cmp}
use Rattle.site_base.specs.Ranges.{is_between}
use Rattle.site_file.specs.declared.key.Key.{Key}
use Rattle.site_file.specs.declared.key.Key.TheVariants.{Rows, Managers, Product, Point, Number}
use Rattle.site_file.specs.declared.key.Key.TheVariants.{Name, Price, Nozzles, Reading}
use Rattle.site_file.specs.declared.printable.TheConstants.{PRINTED_OCTETS}

-- a key as the file has it
abbrev pub key_text : Key → List ℕ
key_text Rows = codes "rows"
key_text Managers = codes "managers"
key_text Product = codes "product"
key_text Point = codes "point"
key_text Number = codes "number"
key_text Name = codes "name"
key_text Price = codes "price"
key_text Nozzles = codes "nozzles"
key_text Reading = codes "reading"

-- an octet as it is printed: one outside 21 to 7E, in hexadecimal, is a question mark
abbrev pub printed_octet : ℕ → ℕ
printed_octet octet = if is_between 0x21 0x7E octet then octet else 0x3F

-- an unknown key as it is printed: its first 20 octets
unfoldable pub printed_key : List ℕ → List ℕ
printed_key key = map printed_octet (take PRINTED_OCTETS key)

-- the text is that of one of these keys
abbrev pub is_known : List Key → List ℕ → Bool
is_known known text = list_any (λ key. bytes_eq text (key_text key)) known

-- the lesser of two keys, by their octets
abbrev pub lesser : List ℕ → List ℕ → List ℕ
lesser a b = if is_lt (slice_cmp nat_cmp b a) then b else a

-- the least of some keys, by their octets
abbrev pub least_with : List ℕ → Option (List ℕ) → Option (List ℕ)
least_with key None = Some key
least_with key (Some other) = Some (lesser key other)

abbrev pub least : List (List ℕ) → Option (List ℕ)
least [] = None
least (key ∷ keys) = least_with key (least keys)
