-- What a function that judges a part of a site file answers.
use Rattle.std.specs.Prelude.{◌≡◌, Bool, true, false, Result, Ok, Err}
use Rattle.site_file.specs.declared.fault.ConfigFault.{ConfigFault}
use Rattle.site_file.specs.declared.fault.ConfigFault.TheVariants.{NoMemory}

-- the fault is want of memory
abbrev pub is_memory : ConfigFault → Bool
is_memory NoMemory = true
is_memory fault = false

-- What was answered, seen by view, is what the file says, unless memory ran out.
abbrev pub Gives : {X Y : Type 0} → (X → Y) → Result X ConfigFault → Result Y ConfigFault → Type 0
Gives view (Ok x) said = said ≡ Ok (view x)
Gives view (Err fault) said = is_memory fault ≡ false → said ≡ Err fault
