-- No two names of events are one word.
use Rattle.std.proofs.Common.{◌≡◌, ℕ, ◌+◌, ◌*◌, ◌==◌, List, [], ◌∷◌, ◌++◌, map, Option, Some}
use Rattle.std.proofs.Common.{None, refl, sym, ap, ◌∙◌}
use Rattle.std.specs.Prelude.{if◌then◌else◌}
use Rattle.forecourt_engines.specs.declared.words.event_name.EventName.{EventName}
use Rattle.forecourt_engines.specs.declared.words.event_name.EventName.TheVariants as names
use Rattle.forecourt_engines.specs.declared.words.event_name.LoneName.TheVariants as lone
use Rattle.forecourt_engines.specs.declared.words.event_name.PointName.TheVariants as point
use Rattle.forecourt_engines.specs.declared.words.event_name.MeterName.TheVariants as meter
use Rattle.forecourt_engines.specs.declared.words.event_name.SaleName.TheVariants as sale
use Rattle.forecourt_engines.specs.EventNames.{name_word}

-- all names, by what stands behind them
abbrev all_names : List EventName
all_names =
    names.Release ∷ names.Prepay ∷ names.SetPrice ∷ names.ReadProduct
    ∷ map names.Alone (lone.SignOn ∷ lone.SignOff ∷ lone.CloseShift ∷ lone.ReadSite ∷ [])
    ++ map names.OfPoint (point.Open ∷ point.Close ∷ point.Assign ∷ point.Unassign
    ∷ point.TestRelease ∷ point.Suspend ∷ point.Resume ∷ point.Terminate ∷ point.ReadPoint
    ∷ point.Online ∷ point.Offline ∷ [])
    ++ map names.OfMeter (meter.ReplaceMeter ∷ meter.Lift ∷ meter.Flow ∷ meter.HangUp ∷ [])
    ++ map names.OfSale (sale.Lock ∷ sale.Unlock ∷ sale.Clear ∷ sale.ReadTransaction ∷ [])

-- the word as a number, an octet a digit
abbrev number : List ℕ → ℕ
number [] = 0
number (octet ∷ rest) = octet + 256 * number rest

-- the first of these names whose word is this number
abbrev first_named : ℕ → List EventName → Option EventName
first_named n [] = None
first_named n (name ∷ rest) = if n == number (name_word name) then Some name else first_named n rest

-- each name is the first of the list with its word; naming one variant has the prover compute the
-- others apart
found : (name : EventName) → first_named (number (name_word name)) all_names ≡ Some name
found (names.Alone lone.SignOn) = refl
found (names.Alone name) = refl
found (names.OfPoint point.Open) = refl
found (names.OfPoint name) = refl
found (names.OfMeter meter.Lift) = refl
found (names.OfMeter name) = refl
found (names.OfSale sale.Lock) = refl
found (names.OfSale name) = refl
found name = refl

pub one_name : (first second : EventName) → name_word first ≡ name_word second → first ≡ second
one_name first second same =
    let both : Some first ≡ Some second =
    sym (found first) ∙ ap (λ word. first_named (number word) all_names) same ∙ found second in
    cc
