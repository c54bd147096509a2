use Rattle.std.proofs.Common.{◌≡◌, ℕ, ◌+◌, Bool, if◌then◌else◌, ap, sym, ◌∙◌, arith}
use Rattle.std.proofs.lemmas.Bool.{false≢true}
use Rattle.written_site.specs.RowWords.{closes_shift}
use Rattle.site_book.proofs.BookSales.{open_more, open_most}
use Rattle.site_book.proofs.book.SiteBook.shift_after.Goals as goal

pub returns-then-not-closes_shift : goal.returns-then-not-closes_shift
returns-then-not-closes_shift c =
    let more = open_more c.args.self.now.rows c.args.place c.args.row.now c.requires.row in
    let none : ◌≡◌ {A = ℕ} (if closes_shift c.args.row.now then 1 else 0) 0 =
    ap (λ (b : Bool). if b then 1 else 0)
    (sym c.closes_shift.ensures ∙ c.if-not-closes_shift.true) in
    omega (arith, more, none, c.requires.shift)

pub unreachable-requires : goal.unreachable-requires
unreachable-requires c =
    let more = open_more c.args.self.now.rows c.args.place c.args.row.now c.requires.row in
    let one : ◌≡◌ {A = ℕ} (if closes_shift c.args.row.now then 1 else 0) 1 =
    ap (λ (b : Bool). if b then 1 else 0)
    (sym c.closes_shift.ensures ∙ c.if-not-closes_shift.false) in
    let most = open_most (c.args.place + 1) c.args.self.now.rows in
    let few = c.has_shifts.ensures in
    let value = c.get.ensures.value in
    let shift = c.requires.shift in
    false≢true (c.in-None.ensures.valid.1
    (omega arith, omega (arith, more, one, most, few, value, shift)))

pub returns : goal.returns
returns c =
    let more = open_more c.args.self.now.rows c.args.place c.args.row.now c.requires.row in
    let one : ◌≡◌ {A = ℕ} (if closes_shift c.args.row.now then 1 else 0) 1 =
    ap (λ (b : Bool). if b then 1 else 0)
    (sym c.closes_shift.ensures ∙ c.if-not-closes_shift.false) in
    omega (arith, more, one, c.in-Some.ensures.value, c.get.ensures.value, c.requires.shift)
