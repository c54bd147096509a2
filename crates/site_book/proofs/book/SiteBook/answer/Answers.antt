use Rattle.std.proofs.Common.{◌≡◌, ◌≤◌, ℕ, Result, ap, ◌∙◌, arith, refl, sym}
use Rattle.std.proofs.lemmas.Bool.Decides.{nat_tests}
use Rattle.site_base.specs.declared.actor.Actor.{Actor}
use Rattle.site_base.specs.declared.answer.Answer.{Answer}
use Rattle.site_base.specs.declared.event.Event.{Event}
use Rattle.site_base.specs.declared.refusal.Refusal.{Refusal}
use Rattle.site_base.specs.declared.row.Row.{Row}
use Rattle.site_base.specs.declared.limits.TheConstants.{TILLS}
use Rattle.site_base.specs.SignChanges.{sign_change}
use Rattle.written_site.specs.SiteStep.{reply_to}
use Rattle.site_book.specs.Book.{IsBook, book_reply}
use Rattle.site_book.specs.RowLists.{rows_forgotten}
use Rattle.site_book.specs.SignedOn.{tills_on}
use Rattle.site_book.proofs.Books.{IsBook-push, kept_fits, tills_with-most}
use Rattle.written_site.proofs.Growths.{growth_fits}
use Rattle.site_book.proofs.SignedTills.{no_more}
use Rattle.site_book.proofs.book.SiteBook.answer.Goals as goal

pub tills_with-self-inside-requires : goal.tills_with-self-inside-requires
tills_with-self-inside-requires c =
    let most : tills_on c.self.inside.site.site ≤ TILLS =
    no_more TILLS c.self.inside.site.site.signed_on c.self.invariant.tills in
    omega (arith, most, c.self.invariant.counted)

pub invariant_of-self-2 : goal.invariant_of-self-2
invariant_of-self-2 c =
    let on : ℕ = c.self.inside.on in
    let earlier = rows_forgotten c.self.inside.earlier.items in
    let book : IsBook c.self.inside.config earlier c.reserve.new.self.rows c.prepare.new.self.site
    on c.self.inside.rows.room c.self.inside.forgotten c.self.inside.kept =
    rw (c.in_ok-reserve.ensures.rows, c.in_ok-prepare.ensures.site) c.self.invariant in
    let row : Row = c.add_row.new.row in
    rw (
      c.add_row.ensures.rows,
      c.tills_with-self-inside.ensures,
      c.sign_change.ensures,
      c.kept_with-self-inside.ensures,
    )
    (
    IsBook-push c.self.inside.config earlier c.reserve.new.self.rows c.prepare.new.self.site
    c.add_row.new.site.site on c.self.inside.rows.room c.add_row.new.rows.room
    c.self.inside.forgotten c.self.inside.kept row
    book c.add_row.ensures.step c.add_row.ensures.range
    c.add_row.ensures.till
    (omega (
      arith,
      tills_with-most (sign_change row.actor row.event row.reply) on,
      c.add_row.ensures.room,
      c.in_ok-reserve.ensures.room,
    ))
    (λ most. rw c.in_ok-reserve.ensures.rows (grind (arith, nat_tests)))
    )

-- a row of these parts
row_is : (row : Row) (actor : Actor) (event : Event) (reply : Result Answer Refusal)
    → row.actor ≡ actor → row.event ≡ event → row.reply ≡ reply
    → row ≡ record { actor = actor; event = event; reply = reply }
row_is row actor event reply a e r = rw (sym a, sym e, sym r) refl

pub returns-clause-answered : goal.returns-clause-answered
returns-clause-answered c =
    let actor : Actor = c.args.row.now.actor in
    let event : Event = c.args.row.now.event in
    let site = c.prepare.new.self.site in
    row_is c.add_row.new.row actor event _ c.add_row.ensures.actor c.add_row.ensures.event
    (c.add_row.ensures.step.replies
    ∙ ap (λ actor. reply_to site actor c.add_row.new.row.event) c.add_row.ensures.actor
    ∙ ap (reply_to site actor) c.add_row.ensures.event
    ∙ ap (λ s. reply_to s actor event) (c.in_ok-prepare.ensures.site ∙ c.self.invariant.leads)
    ∙ ap (λ b. book_reply b actor event) c.self.view_is)

pub returns-clause-growth : goal.returns-clause-growth
returns-clause-growth c =
    rw c.add_row.ensures.step.replies
    (growth_fits c.prepare.new.self.site c.add_row.new.row.actor c.add_row.new.row.event)

pub kept_with-self-inside-requires : goal.kept_with-self-inside-requires
kept_with-self-inside-requires c =
    let inside = c.self.inside in
    let fits = kept_fits inside.config (rows_forgotten inside.earlier.items) inside.rows.rows
    inside.site.site inside.on inside.rows.room inside.forgotten inside.kept c.self.invariant in
    omega (arith, fits, c.self.invariant.countable, c.rows.ensures.value, c.rows.ensures.range)
