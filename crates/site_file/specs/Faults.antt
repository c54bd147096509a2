-- How a fault of a site file is printed.
use Rattle.std.specs.Prelude.{ℕ, List, ◌++◌, codes}
use Rattle.site_file.specs.declared.fault.ConfigFault.{ConfigFault}
use Rattle.site_file.specs.declared.fault.ConfigFault.TheVariants.{NoMemory, NotToml, UnknownKey}
use Rattle.site_file.specs.declared.fault.ConfigFault.TheVariants.{MissingKey, WrongKind}
use Rattle.site_file.specs.declared.fault.ConfigFault.TheVariants.{OutOfRange, Repeated}
use Rattle.site_file.specs.declared.fault.ConfigFault.TheVariants.{UnknownProduct}
use Rattle.site_file.specs.Keys.{key_text}

-- the text of a fault: its number, and its key where it has one
abbrev pub fault_text : ConfigFault → List ℕ
fault_text NoMemory = codes "fault 31"
fault_text NotToml = codes "fault 70"
fault_text (UnknownKey printed) = codes "fault 71 " ++ printed
fault_text (MissingKey key) = codes "fault 72 " ++ key_text key
fault_text (WrongKind key) = codes "fault 73 " ++ key_text key
fault_text (OutOfRange key) = codes "fault 74 " ++ key_text key
fault_text (Repeated key) = codes "fault 75 " ++ key_text key
fault_text UnknownProduct = codes "fault 76"
