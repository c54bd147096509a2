-- How a function that reads meets a stage of the grammar.
use Rattle.std.specs.Prelude.{◌≡◌, Result, Ok, Err}
use Rattle.app_message.specs.declared.reading.Stop.{Stop}
use Rattle.app_message.specs.declared.reading.Stop.TheVariants as stops
use Rattle.app_message.specs.declared.reading.Head.{Head}
use Rattle.app_message.specs.Grammar.{Halt, short, fault, Header}

abbrev pub Fails : {Y : Type 0} → Stop → Result Y Halt → Type 0
Fails stops.Short read = read ≡ Err short
Fails (stops.Fault f) read = read ≡ Err (fault f)

-- What a function returned, seen by view, is what the stage gives.
abbrev pub Gives : {X Y : Type 0} → (X → Y) → Result X Stop → Result Y Halt → Type 0
Gives view (Ok x) read = read ≡ Ok (view x)
Gives view (Err e) read = Fails e read

abbrev pub header : Head → Header
header h = record { to = h.to; from = h.from; kind = h.kind; token = h.token; len = h.len }
