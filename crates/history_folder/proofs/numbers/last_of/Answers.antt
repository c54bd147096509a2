use Rattle.std.proofs.Common.{◌+◌, refl, subst, sym}
use Rattle.history_folder.proofs.Counting.{IsSortOf, all_before, are_all, counts_more, in_order}
use Rattle.history_folder.proofs.Counting.{is_left_out, left_out_before}
use Rattle.history_folder.proofs.numbers.last_of.Goals as goal

pub returns-then-number-last-clause-missing : goal.returns-then-number-last-clause-missing
returns-then-number-last-clause-missing c =
    let numbers = c.args.numbers.items in
    let sorted = c.deref-number-items.result.now in
    let is : IsSortOf numbers sorted =
    subst (IsSortOf numbers) (sym c.deref-number-items.ensures.value)
    (record {
      moved = c.sort_unstable.ensures.permutation;
      order = c.sort_unstable.ensures.sorted;
    })
    in
    left_out_before numbers sorted (c.loop-number.last + 1) is
    (is_left_out sorted c.loop-number.number-index c.loop-number.last
    (in_order numbers sorted is c.requires) c.loop-number.invariant c.loop-number-test.true
    c.if-number-last.true)

pub loop-number-preserved : goal.loop-number-preserved
loop-number-preserved c =
    let numbers = c.args.numbers.items in
    let sorted = c.deref-number-items.result.now in
    let is : IsSortOf numbers sorted =
    subst (IsSortOf numbers) (sym c.deref-number-items.ensures.value)
    (record {
      moved = c.sort_unstable.ensures.permutation;
      order = c.sort_unstable.ensures.sorted;
    })
    in
    counts_more sorted c.loop-number.number-index c.loop-number.last _
    (in_order numbers sorted is c.requires) c.loop-number.invariant c.loop-number-test.true refl
    c.if-number-last.false

pub returns-clause-all : goal.returns-clause-all
returns-clause-all c =
    let numbers = c.args.numbers.items in
    let sorted = c.deref-number-items.result.now in
    let is : IsSortOf numbers sorted =
    subst (IsSortOf numbers) (sym c.deref-number-items.ensures.value)
    (record {
      moved = c.sort_unstable.ensures.permutation;
      order = c.sort_unstable.ensures.sorted;
    })
    in
    all_before numbers sorted c.loop-number.last is
    (are_all sorted c.loop-number.number-index c.loop-number.last
    (in_order numbers sorted is c.requires) c.loop-number.invariant c.loop-number-test.false)
