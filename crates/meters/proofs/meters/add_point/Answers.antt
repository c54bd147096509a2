use Rattle.std.proofs.Common.{◌≡◌, ◌+◌, ◌++◌, ◌∷◌, [], List, drop, get_or, length, sym, ap, subst}
use Rattle.std.proofs.Common.{◌∙◌, append_assoc, add-one, arith}
use Rattle.std.proofs.Math.Seq.{drop-cons}
use Rattle.site_base.specs.declared.config.NozzleEntry.{NozzleEntry}
use Rattle.meters.specs.Nozzles.{Nozzle, opening_nozzle, number_nozzles, EachMetered}
use Rattle.meters.proofs.Bounds.{each_joined}
use Rattle.meters.proofs.meters.add_point.Goals as goal

pub loop-place-preserved : goal.loop-place-preserved
loop-place-preserved c =
    let p = c.args.entry.now.number in
    let i = c.loop-place.place in
    let es : List NozzleEntry = c.args.entry.now.nozzles in
    let e : NozzleEntry = c.nozzle-item.result in
    let items : List Nozzle = c.loop-place.meters.items in
    let same = c.as_slice-nozzle-items.ensures in
    let kept = c.loop-place.invariant in
    let left : drop i es ≡ get_or es i e ∷ drop (i + 1) es =
    rw add-one (drop-cons es i e (omega (arith, ap length same))) in
    let first : c.at_opening.result ≡ opening_nozzle p (i + 1) (get_or es i e) =
    c.at_opening.ensures.value ∙ ap (λ n. opening_nozzle p n e) c.in-Some.ensures.value
    ∙ ap (opening_nozzle p (i + 1)) (c.nozzle-item.is ∙ ap (λ xs. get_or xs i e) same) in
    let step : c.at_opening.result ∷ number_nozzles p (i + 1 + 1) (drop (i + 1) es)
    ≡ number_nozzles p (i + 1) (drop i es) =
    ap (λ x. x ∷ number_nozzles p (i + 1 + 1) (drop (i + 1) es)) first
    ∙ sym (ap (number_nozzles p (i + 1)) left) in
    record {
      added = ap (λ xs. xs ++ number_nozzles p (i + 1 + 1) (drop (i + 1) es))
          c.in_ok-push.ensures.items
          ∙ append_assoc items (c.at_opening.result ∷ [])
          (number_nozzles p (i + 1 + 1) (drop (i + 1) es))
          ∙ ap (λ xs. items ++ xs) step ∙ kept.added;
      few = omega (arith, c.in_ok-push.ensures.len, c.loop-place.invariant.few);
      bounds = subst EachMetered (sym c.in_ok-push.ensures.items)
          (each_joined items (c.at_opening.result ∷ []) c.loop-place.invariant.bounds
          (c.at_opening.ensures.bounds, tt));
    }
