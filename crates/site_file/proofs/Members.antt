-- The members of a list, read one after another.
use Rattle.std.proofs.Common.{◌≡◌, ◌<◌, ℕ, List, [], ◌∷◌, ◌++◌, ◌+◌, Ok, length, drop, get_or, refl}
use Rattle.std.proofs.Common.{sym}
use Rattle.std.proofs.Math.Numerals.{suc-eq-add-one}
use Rattle.std.proofs.Math.Seq.{drop-cons}
use Rattle.toml.specs.declared.value.Value.{Value}
use Rattle.toml.specs.View.{view, items_view}
use Rattle.site_base.specs.declared.config.NozzleEntry.{NozzleEntry}
use Rattle.site_base.specs.declared.config.ProductEntry.{ProductEntry}
use Rattle.site_file.specs.SiteFile.{nozzle_of, nozzles_from}

-- one nozzle more is taken from the front of the rest
pub nozzles-more : (products : List ProductEntry) (taken : List NozzleEntry)
    (members : List Value) (i : ℕ) (value : Value) (nozzle : NozzleEntry) → i < length members
    → value ≡ get_or members i value → nozzle_of products (view value) ≡ Ok nozzle
    → nozzles_from products taken (items_view (drop i members))
    ≡ nozzles_from products (taken ++ nozzle ∷ []) (items_view (drop (i + 1) members))
nozzles-more products taken members i value nozzle within is said =
    rw (drop-cons members i value within, sym is, said, ← suc-eq-add-one i) refl
