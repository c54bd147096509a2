use Rattle.std.proofs.Common.{◌++◌, ℕ, ap, ◌∙◌, decimal}
use Rattle.day_report.specs.People.{money}
use Rattle.day_report.proofs.JoinedTexts.{put_both}
use Rattle.day_report.proofs.people.put_clears.Goals as goal

pub returns : goal.returns
returns c =
    let before = c.args.text.now.items in
    let words = c.extend_from_slice.new.self.items in
    put_both before _ _ _ _
    (c.in_ok-put_number.ensures
    ∙ ap (λ (n : ℕ). before ++ decimal n) c.of-takings.ensures.clears)
    (put_both _ _ _ _ _ c.in_ok-extend_from_slice.ensures.items
    (put_both words _ _ _ _
    (c.in_ok-put_money.ensures ∙ ap (λ (n : ℕ). words ++ money n) c.of-takings.ensures.cents)
    c.in_ok-extend_from_slice-2.ensures.items))
