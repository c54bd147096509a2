-- A connection of the page.
use Rattle.std.specs.Prelude.{◌≡◌, ◌≤◌, ℕ, List, ◌++◌, length, take, All}
use Rattle.http_server.specs.declared.state.Config.{Config}
use Rattle.http_server.specs.Connection as server
use Rattle.http_server.specs.Exchange.{Call}
use Rattle.http_server.specs.History.{History}
use Rattle.site_page.specs.declared.connection.PageConnection.{PageConnection}
use Rattle.site_page.specs.PageAnswers.{IsPageAnswer, Shown}

-- what came, what was answered, and what waits to be sent
abbrev pub history : PageConnection → History
history c = server.history c.connection

-- its limits
abbrev pub limits_of : PageConnection → Config
limits_of c = server.config_of c.connection

-- of these octets so many were heard, the first ones
pub record IsHeard (octets : List ℕ) (count : ℕ) (old new : History) : Type 0 where
  pub within : count ≤ length octets
  pub received : new.received ≡ old.received ++ take count octets

-- The calls that came since those before were each answered from this
abbrev pub AreAnswered : Shown → List Call → List Call → Type 0
AreAnswered shown before after =
    (calls : List Call) × (after ≡ before ++ calls) × All (λ c. IsPageAnswer shown c.0 c.1) calls
