-- Checks one after another: the first that fails gives the refusal.
use Rattle.std.specs.Prelude.{Bool, true, false, Option, Some, None, Result, Ok, Err}
use Rattle.site_base.specs.declared.refusal.Refusal.{Refusal}

-- the first check that fails decides
infixr 20 ◌or_else◌
abbrev pub ◌or_else◌ : Option Refusal → Option Refusal → Option Refusal
None or_else next = next
(Some refusal) or_else next = Some refusal

-- a check that fails where this isn't so
abbrev pub unless : Bool → Refusal → Option Refusal
unless true refusal = None
unless false refusal = Some refusal

-- the reply: the refusal, or without one the answer
abbrev pub reply_or : {A : Type 0} → Option Refusal → A → Result A Refusal
reply_or None answer = Ok answer
reply_or (Some refusal) answer = Err refusal

-- what stands afterwards: after a refusal what stood before
abbrev pub value_or : {A : Type 0} → Option Refusal → A → A → A
value_or None new old = new
value_or (Some refusal) new old = old
