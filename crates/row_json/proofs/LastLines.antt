-- The last of some lines.
use Rattle.std.proofs.Common.{◌≡◌, ℕ, ◌-◌, List, [], ◌∷◌, ◌++◌, drop, length, map, String, Global}
use Rattle.std.proofs.Common.{string_bytes, sym, ap, ◌∙◌}
use Rattle.std.proofs.lemmas.List.{drop-map, length-map, map-append}
use Rattle.circular_buffer.specs.Buffer.{keep_last}
use Rattle.written_site.specs.SiteState.{SiteState}
use Rattle.row_json.specs.LastRows.{Last}

pub kept : (n : ℕ) (xs : List (String Global)) (x : String Global)
    → map string_bytes (keep_last n (xs ++ x ∷ []))
    ≡ keep_last n (map string_bytes xs ++ string_bytes x ∷ [])
kept n xs x =
    sym (drop-map string_bytes (length (xs ++ x ∷ []) - n) (xs ++ x ∷ []))
    ∙ ap (λ k. drop (k - n) (map string_bytes (xs ++ x ∷ [])))
    (sym (length-map (xs ++ x ∷ []) string_bytes))
    ∙ ap (λ zs. drop (length zs - n) zs) (map-append string_bytes xs (x ∷ []))

pub same_last : (s t : SiteState) (ls ms : List (List ℕ)) (n : ℕ) → s ≡ t → ls ≡ ms
    → ◌≡◌ {A = Last} (record { site = s; lines = ls; next = n })
    (record { site = t; lines = ms; next = n })
same_last s t ls ms n sites lines =
    let one : List (List ℕ) → SiteState → Last =
    λ l x. record { site = x; lines = l; next = n } in
    ap (one ls) sites ∙ ap (λ l. one l t) lines
