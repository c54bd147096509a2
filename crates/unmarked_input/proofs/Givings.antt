-- What is left of a text, as its octets are given.
use Rattle.std.proofs.Common.{◌≡◌, ℕ, ◌<◌, Bool, true, false, List, [], ◌++◌, length, take}
use Rattle.std.proofs.Common.{Option, Some, None, Result, Ok, Err, sym, ap, ◌∙◌, subst}
use Rattle.std.proofs.KnownBytes.{prepend_known-read}
use Rattle.std.specs.Prelude.{IfOk, IsOk, if◌then◌else◌, option_map}
use Rattle.std.specs.Io.KnownBytes.{Consumes, IsAtEnd, Keeps, ReadConsumes}
use Rattle.unmarked_input.specs.Mark.{without_mark}
use Rattle.unmarked_input.proofs.Beginnings.{without_mark-short}

-- what is left, where these octets are held
abbrev pub left_of : Bool → List ℕ → Option (List ℕ) → Option (List ℕ)
left_of is_looking held input = option_map
    (λ octets. if is_looking then without_mark (held ++ octets) else (held ++ octets)) input

-- the input ends before it is known whether it begins with the mark: what is held is its text
pub left_of-ended : (start old new : Option (List ℕ)) (held : List ℕ) → length held < 3
    → Keeps start (left_of true held old) → Consumes old new [] → IsAtEnd new
    → Keeps start (left_of false held new)
left_of-ended None old new held short kept read end = tt
left_of-ended (Some xs) None new held short kept read end = absurd kept
left_of-ended (Some xs) (Some ys) None held short kept read end = absurd read
left_of-ended (Some xs) (Some ys) (Some zs) held short kept read end =
    ap (λ (t : List ℕ). held ++ t) end ∙ sym (without_mark-short held short)
    ∙ ap (λ (t : List ℕ). without_mark (held ++ t)) (sym (read ∙ end)) ∙ kept

-- a front of what is held is given
pub left_of-given : {E : Type 0} (start input : Option (List ℕ)) (is_looking : Bool)
    (held rest buf : List ℕ) (r : Result ℕ E) → Keeps start (left_of false held input)
    → is_looking ≡ false → IsOk r → IfOk r (λ n. held ≡ take n buf ++ rest)
    → IfOk r (λ n. n ≡ 0 → 0 < length buf → held ≡ []) → (held ≡ [] → IsAtEnd input)
    → ReadConsumes start (left_of is_looking rest input) r buf
left_of-given start input is_looking held rest buf (Err e) kept known ok given none end =
    absurd (cc)
left_of-given start input true held rest buf (Ok n) kept known ok given none end = absurd (cc)
left_of-given start input false held rest buf (Ok n) kept known ok given none end =
    let same : n ≡ 0 → held ≡ rest = λ zero. subst (λ k. held ≡ take k buf ++ rest) zero given in
    let read = prepend_known-read start input held rest (take n buf) ((n ≡ 0) × (0 < length buf))
    kept given (λ p. (sym (same p.0) ∙ none p.0 p.1, end (none p.0 p.1))) in
    (read.0, λ zero room. read.1 (zero, room))
