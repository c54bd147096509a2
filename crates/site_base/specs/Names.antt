-- The names of products.
use Rattle.std.specs.Prelude.{ℕ, Bool, List, length, ◌&&◌, ◌||◌, ◌==◌}
use Rattle.std.specs.List.{list_all}
use Rattle.site_base.specs.declared.product_name.TheConstants.{NAME_OCTETS}
use Rattle.site_base.specs.Ranges.{is_between}

-- a to z, 0 to 9, or a hyphen
abbrev pub is_name_octet : ℕ → Bool
is_name_octet b = is_between 97 122 b || is_between 48 57 b || b == 45

-- 1 to 20 such octets
abbrev pub is_name : List ℕ → Bool
is_name name = is_between 1 NAME_OCTETS (length name) && list_all is_name_octet name
