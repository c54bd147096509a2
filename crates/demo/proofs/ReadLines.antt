-- Lines that were read, one behind the other.
use Rattle.std.proofs.Common.{◌≡◌, ℕ, ◌+◌, ◌-◌, List, [], ◌∷◌, ◌++◌, length, take, get_or, refl}
use Rattle.std.proofs.Common.{sym, ap, subst, ◌∙◌, arith}
use Rattle.std.proofs.lemmas.List.{append-nil, append_assoc, length-append}
use Rattle.std.proofs.Math.Seq.{take-append_seam}
use Rattle.demo.specs.declared.fault.ScriptFault.{ScriptFault}
use Rattle.demo.specs.declared.fault.ScriptFault.TheVariants as faults
use Rattle.demo.specs.declared.line.Line.{Line}
use Rattle.demo.specs.Lines.{lines_of}
use Rattle.demo.specs.Reading.{IsFaultyLine, IsReadBy, IsReadTo, IsRefusedBy}
use Rattle.demo.specs.Script.{AreRead, DraftFacts, IsFirstFaulty, Says, nothing_read}
use Rattle.demo.specs.Script.{with_line}

pub reached_none : (text : List ℕ) → IsReadTo text text 0 nothing_read
reached_none text = record { done = []; parts = refl; counted = refl; read = refl }

read_append : (d e f : DraftFacts) (xs ys : List (List ℕ)) → AreRead d xs e → AreRead e ys f
    → AreRead d (xs ++ ys) f
read_append d e f [] ys one two = subst (λ x. AreRead x ys f) (sym one) two
read_append d e f (x ∷ xs) ys one two =
    (one.0, one.1, read_append (with_line one.0 d) e f xs ys one.2 two)

read_one : (d e : DraftFacts) (octets : List ℕ) → IsReadBy d octets e → AreRead d (octets ∷ []) e
read_one d e octets by = (by.line, by.says, sym by.read)

-- one line more
pub reached_more : (text rest line others : List ℕ) (number : ℕ) (d e : DraftFacts)
    → IsReadTo text rest number d → lines_of rest ≡ line ∷ lines_of others → IsReadBy d line e
    → IsReadTo text others (number + 1) e
reached_more text rest line others number d e reached is by = record {
  done = reached.done ++ line ∷ [];
  parts =
      reached.parts ∙ ap (λ x. reached.done ++ x) is
      ∙ sym (append_assoc reached.done (line ∷ []) (lines_of others));
  counted = omega (arith, reached.counted, length-append reached.done (line ∷ []));
  read = read_append nothing_read d e reached.done (line ∷ []) reached.read (read_one d e line by);
}

at_seam : (xs : List (List ℕ)) (y : List ℕ) (ys : List (List ℕ))
    → get_or (xs ++ y ∷ ys) (length xs) [] ≡ y
at_seam [] y ys = refl
at_seam (x ∷ xs) y ys = at_seam xs y ys

-- a line that says nothing is the first faulty one
pub reached_faulty : (text rest line others : List ℕ) (number : ℕ) (d : DraftFacts)
    → IsReadTo text rest number d → lines_of rest ≡ line ∷ lines_of others
    → ((said : Line) → ¬ Says d line said) → IsFirstFaulty text (number + 1)
reached_faulty text rest line others number d reached is faulty =
    let parts : lines_of text ≡ reached.done ++ line ∷ lines_of others =
    reached.parts ∙ ap (λ x. reached.done ++ x) is in
    let before : number + 1 - 1 ≡ length reached.done = omega (arith, reached.counted) in
    let front : take (number + 1 - 1) (lines_of text) ≡ reached.done =
    ap (λ n. take n (lines_of text)) before
    ∙ ap (take (length reached.done)) parts
    ∙ take-append_seam reached.done (line ∷ lines_of others) in
    let there : get_or (lines_of text) (number + 1 - 1) [] ≡ line =
    ap (λ n. get_or (lines_of text) n []) before
    ∙ ap (λ xs. get_or xs (length reached.done) []) parts
    ∙ at_seam reached.done line (lines_of others) in
    record {
      draft = d;
      least = omega arith;
      there = omega (
        arith,
        reached.counted,
        ap length parts,
        length-append reached.done (line ∷ lines_of others),
      );
      read = subst (λ xs. AreRead nothing_read xs d) (sym front) reached.read;
      faulty = λ said says. faulty said (subst (λ x. Says d x said) there says);
    }

-- all lines were read
pub reached_all : (text rest : List ℕ) (number : ℕ) (d : DraftFacts) → IsReadTo text rest number d
    → rest ≡ [] → AreRead nothing_read (lines_of text) d × (number ≡ length (lines_of text))
reached_all text rest number d reached is =
    let none : lines_of rest ≡ [] = ap lines_of is in
    let parts : lines_of text ≡ reached.done ++ [] = reached.parts
    ∙ ap (λ x. reached.done ++ x) none in
    let all : lines_of text ≡ reached.done = simp append-nil at parts in (
      subst (λ xs. AreRead nothing_read xs d) (sym all) reached.read,
      reached.counted
          ∙ ap length (sym all),
    )

-- a line that was refused, so or for want of memory
pub reached_refused : (text rest line others : List ℕ) (number : ℕ) (d : DraftFacts)
    (fault : ScriptFault)
    → IsReadTo text rest number d → lines_of rest ≡ line ∷ lines_of others
    → IsRefusedBy d line (number + 1) fault → IsFaultyLine text fault
reached_refused text rest line others number d (faults.Line n) reached is refused =
    subst (IsFirstFaulty text) (sym refused.0)
    (reached_faulty text rest line others number d reached is refused.1)
reached_refused text rest line others number d faults.NoMemory reached is refused = tt
