use Rattle.std.proofs.Common.{[], ◌∷◌, ◌++◌, arith, length-append}
use Rattle.history_folder.proofs.reading.read_chapters.Goals as goal

pub loop-place-preserved : goal.loop-place-preserved
loop-place-preserved g c =
    let before = c.loop-place.invariant in
    let text = c.deref.result.now in
    record {
      texts = before.texts ++ text ∷ [];
      count_is = omega (arith, length-append before.texts (text ∷ []), before.count_is);
      has = c.in-Ok.ensures.read before.texts before.has;
    }
