-- Requests of the page that are answered, in one step after another.
use Rattle.std.proofs.Common.{◌≡◌, List, ◌++◌, ap, ◌∙◌, append_assoc, subst, sym}
use Rattle.std.proofs.lemmas.List.Elements.{All-append}
use Rattle.http_server.specs.Exchange.{Call}
use Rattle.site_page.specs.Connections.{AreAnswered}
use Rattle.site_page.specs.PageAnswers.{IsPageAnswer, Shown}
use Rattle.site_page.proofs.Calls.{none_answered}

-- no request came
pub answered_same : (page : Shown) (before after : List Call) → after ≡ before
    → AreAnswered page before after
answered_same page before after same =
    subst (AreAnswered page before) (sym same) (none_answered page before)

-- some were answered, and then more
pub answered_then : (page : Shown) (a b c : List Call) → AreAnswered page a b
    → AreAnswered page b c → AreAnswered page a c
answered_then page a b c one two = (
  one.0 ++ two.0,
  two.1 ∙ ap (λ (calls : List Call). calls ++ two.0) one.1 ∙ append_assoc a one.0 two.0,
  All-append (λ (call : Call). IsPageAnswer page call.0 call.1) one.0 two.0 one.2 two.2,
)
