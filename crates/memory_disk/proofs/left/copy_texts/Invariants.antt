use Rattle.std.proofs.Common.{◌≡◌, ◌++◌, drop, map}
use Rattle.memory_disk.proofs.left.copy_texts.Given as goal

abbrev pub invariant-loop-text : goal.invariant-loop-text
invariant-loop-text l =
    map (λ t. t.items) l.copies.items ++ map (λ t. t.items) (drop l.text-index l.texts)
    ≡ map (λ t. t.items) l.texts
