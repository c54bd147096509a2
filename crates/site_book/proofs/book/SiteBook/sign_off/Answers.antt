use Rattle.std.proofs.Common.{◌≡◌, ◌≤◌, ◌+◌, ◌-◌, ℕ, ap, refl, sym, arith}
use Rattle.site_base.specs.declared.actor.Actor.{Actor}
use Rattle.site_base.specs.declared.event.Event.{Event}
use Rattle.site_base.specs.declared.row.Row.{Row}
use Rattle.site_base.specs.declared.limits.TheConstants.{TILLS}
use Rattle.site_book.specs.RowLists.{rows_forgotten}
use Rattle.site_book.specs.SignedOn.{tills_on}
use Rattle.site_book.specs.Book.{Book}
use Rattle.site_book.proofs.Books.{IsBook-push, kept_fits}
use Rattle.site_book.proofs.SignedTills.{no_more, one_on, tills_after}
use Rattle.site_book.proofs.book.SiteBook.sign_off.Goals as goal

pub add_sign_off-reply-requires-clause-row : goal.add_sign_off-reply-requires-clause-row
add_sign_off-reply-requires-clause-row c =
    let one : 1 ≤ tills_on c.self.inside.site.site =
    one_on c.self.inside.site.site c.args.t (sym c.if-not-signed_on.ensures) in
    omega (arith, one, c.self.invariant.counted, c.self.invariant.reserved)

pub tills_with-self-inside-requires : goal.tills_with-self-inside-requires
tills_with-self-inside-requires c =
    let most : tills_on c.self.inside.site.site ≤ TILLS =
    no_more TILLS c.self.inside.site.site.signed_on c.self.invariant.tills in
    omega (arith, most, c.self.invariant.counted)

pub invariant_of-self : goal.invariant_of-self
invariant_of-self c =
    let on : ℕ = c.self.inside.on in
    let left = c.add_sign_off-reply.new.rows.room in
    let row : Row = record {
      actor = Actor.Till c.args.t;
      event = Event.SignOff;
      reply = c.add_sign_off-reply.result;
    } in
    let one : 1 ≤ tills_on c.self.inside.site.site =
    one_on c.self.inside.site.site c.args.t (sym c.if-not-signed_on.ensures) in
    let off : tills_after row on ≡ on - 1 = rw c.add_sign_off-reply.ensures.reply refl in
    let fewer : tills_after row on + 1 ≤ on = omega (arith, off, one, c.self.invariant.counted) in
    rw (
      c.add_sign_off-reply.ensures.rows,
      c.tills_with-self-inside.ensures,
      sym off,
      c.kept_with-self-inside.ensures,
    )
    (
    IsBook-push c.self.inside.config (rows_forgotten c.self.inside.earlier.items)
    c.self.inside.rows.rows c.self.inside.site.site
    c.add_sign_off-reply.new.site.site on c.self.inside.rows.room left c.self.inside.forgotten
    c.self.inside.kept row
    c.self.invariant c.add_sign_off-reply.ensures.step tt c.add_sign_off-reply.ensures.till
    (omega (arith, fewer, c.add_sign_off-reply.ensures.room, c.self.invariant.reserved))
    (λ most. omega (arith, fewer, c.self.invariant.few))
    )

pub kept_with-self-inside-requires : goal.kept_with-self-inside-requires
kept_with-self-inside-requires c =
    let inside = c.self.inside in
    let fits = kept_fits inside.config (rows_forgotten inside.earlier.items) inside.rows.rows
    inside.site.site inside.on inside.rows.room inside.forgotten inside.kept c.self.invariant in
    let same = ap (λ (b : Book). b.config.rows) c.self.view_is in
    omega (arith, fits, c.self.invariant.countable, same, c.len-place.ensures.allowed)
