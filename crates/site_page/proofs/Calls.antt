-- Each call of a chain is answered by the page that it began with.
use Rattle.std.proofs.Common.{◌≡◌, ℕ, List, [], ◌∷◌, ◌++◌, All, Some, length, take, subst, sym}
use Rattle.std.proofs.Common.{ap, ◌∙◌, append-nil, arith, length-append}
use Rattle.std.proofs.lemmas.List.Elements.{All-nil, All-cons}
use Rattle.std.proofs.Math.Seq.{take-append_seam}
use Rattle.std.specs.Io.KnownBytes.{Consumes}
use Rattle.http.specs.declared.request.Request.{Request}
use Rattle.http_server.specs.declared.response.Response.{Response}
use Rattle.http_server.specs.Exchange.{Call, Calls, Chain}
use Rattle.http_server.specs.History.{History, after_read}
use Rattle.site_page.specs.Connections.{AreAnswered, IsHeard}
use Rattle.site_page.specs.PageAnswers.{IsPageAnswer, Shown}

-- how a page answers: it stays as it was
abbrev pub answers : Shown → Request (List ℕ) → Response → Shown → Type 0
answers old request response new = IsPageAnswer old request response × (new ≡ old)

all_answered : (calls : List Call) (old new : Shown) → Chain answers old calls new
    → All (λ c. IsPageAnswer old c.0 c.1) calls
all_answered [] old new chain = All-nil (λ (c : Call). IsPageAnswer old c.0 c.1)
all_answered (c ∷ calls) old new chain =
    All-cons (λ (k : Call). IsPageAnswer old k.0 k.1) c calls chain.1.0
    (subst (λ (p : Shown). All (λ (k : Call). IsPageAnswer p k.0 k.1) calls) chain.1.1
    (all_answered calls chain.0 new chain.2))

calls_answered : (old new : Shown) (before after : List Call)
    → Calls answers old new before after → AreAnswered old before after
calls_answered old new before after calls =
    (calls.0, calls.1, all_answered calls.0 old new calls.2)

-- where there are no more calls, all are answered
pub none_answered : (page : Shown) (calls : List Call) → AreAnswered page calls calls
none_answered page calls =
    ([], sym (append-nil calls), All-nil (λ (c : Call). IsPageAnswer page c.0 c.1))

-- where nothing came, nothing is heard
pub none_heard : (octets : List ℕ) (h : History) → IsHeard octets 0 h h
none_heard octets h = record {
  within = omega arith;
  received = sym (append-nil h.received);
}

-- what a read took of these octets is heard
pub read_heard : (octets rest more : List ℕ) (count : ℕ) (old new : History)
    → Consumes (Some octets) (Some rest) more → length more ≡ count → new ≡ after_read old more
    → IsHeard octets count old new
read_heard octets rest more count old new parts long after = record {
  within = omega (arith, long, ap length parts, length-append more rest);
  received =
      ap (λ (h : History). h.received) after
      ∙ ap (λ (xs : List ℕ). old.received ++ xs)
      (sym (take-append_seam more rest)
      ∙ ap (λ (n : ℕ). take n (more ++ rest)) long
      ∙ ap (take count) (sym parts));
}

-- each call is answered by this page, of which the one that answers is a copy
pub answered_by : (page old new : Shown) (before after : List Call) → old ≡ page
    → Calls answers old new before after → AreAnswered page before after
answered_by page old new before after is calls =
    subst (λ (p : Shown). AreAnswered p before after) is
    (calls_answered old new before after calls)
