use Rattle.std.proofs.Common.{◌≡◌, ◌∷◌, List, ℕ, map, rules, subst}
use Rattle.forecourt_engines.specs.EventNames.{IsRequestText}
use Rattle.forecourt_engines.proofs.Unsaid.{no_event, no_name}
use Rattle.forecourt_engines.proofs.words.asked.read_request.Goals as goal

pub returns-in_default-name_of-clause-other : goal.returns-in_default-name_of-clause-other
returns-in_default-name_of-clause-other c = λ actor event said.
    let first = c.in_ok-first.first.now in
    let second = c.in_ok-second.second.now in
    let behind = map (λ w. w.now) c.in_ok-second.behind.now in
    let whole : map (λ w. w.now) c.args.words.now ≡ first ∷ second ∷ behind = search rules in
    no_name first second behind c.in_default-name_of.ensures.other actor event
    (subst (λ (ws : List (List ℕ)). IsRequestText ws actor event) whole said)

pub returns-in-Err-clause-other : goal.returns-in-Err-clause-other
returns-in-Err-clause-other c = λ actor event said.
    let first = c.in_ok-first.first.now in
    let second = c.in_ok-second.second.now in
    let behind = map (λ w. w.now) c.in_ok-second.behind.now in
    let whole : map (λ w. w.now) c.args.words.now ≡ first ∷ second ∷ behind = search rules in
    no_event first second behind c.in-Some-name_of.name c.in-Some-name_of.ensures.found
    c.in-Err.ensures.other actor event
    (subst (λ (ws : List (List ℕ)). IsRequestText ws actor event) whole said)
