use Rattle.std.proofs.Common.{◌≡◌, ℕ, ◌+◌, Bool, if◌then◌else◌, ap, sym, ◌∙◌, arith}
use Rattle.std.proofs.lemmas.Bool.{false≢true}
use Rattle.written_site.specs.RowWords.{closes_shift}
use Rattle.written_site.proofs.SigningLaws.{shift_by_rows}
use Rattle.site_book.proofs.BookSales.{open_more, open_most}
use Rattle.site_book.proofs.unpaid_sales.shift_after.Goals as goal

pub returns-then-not-closes_shift : goal.returns-then-not-closes_shift
returns-then-not-closes_shift c = λ before.
    let more = open_more c.args.book.now.rows c.args.place c.args.row.now c.requires in
    let none : ◌≡◌ {A = ℕ} (if closes_shift c.args.row.now then 1 else 0) 0 =
    ap (λ (b : Bool). if b then 1 else 0)
    (sym c.closes_shift.ensures ∙ c.if-not-closes_shift.true) in
    omega (arith, more, none, before)

pub returns-in-None : goal.returns-in-None
returns-in-None c = λ before.
    let b = c.args.book.now in
    let more = open_more b.rows c.args.place c.args.row.now c.requires in
    let one : ◌≡◌ {A = ℕ} (if closes_shift c.args.row.now then 1 else 0) 1 =
    ap (λ (b : Bool). if b then 1 else 0)
    (sym c.closes_shift.ensures ∙ c.if-not-closes_shift.false) in
    let most = open_most (c.args.place + 1) b.rows in
    let by_rows = (shift_by_rows b.config b.rows c.len.ensures.legal).shift in
    let shown = c.open_shift.ensures in
    let last = c.get.ensures.value in
    let range = c.get.ensures.range in
    let value = c.get-2.ensures.value in
    absurd (false≢true (c.in-None.ensures.valid.1
    (omega arith, omega (arith, more, one, most, by_rows, shown, last, range.1, value, before))))

pub returns-in-Some : goal.returns-in-Some
returns-in-Some c = λ before.
    let more = open_more c.args.book.now.rows c.args.place c.args.row.now c.requires in
    let one : ◌≡◌ {A = ℕ} (if closes_shift c.args.row.now then 1 else 0) 1 =
    ap (λ (b : Bool). if b then 1 else 0)
    (sym c.closes_shift.ensures ∙ c.if-not-closes_shift.false) in
    omega (arith, more, one, c.in-Some.ensures.value, c.get-2.ensures.value, before)
