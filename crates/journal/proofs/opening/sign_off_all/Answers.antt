use Rattle.std.proofs.Common.{◌≡◌, ◌∙◌, ◌-◌, ℕ, Some, ap, arith, false, refl, rules, subst, sym}
use Rattle.site_base.specs.declared.limits.TheConstants.{TILLS}
use Rattle.written_site.specs.SiteState.{is_signed_on}
use Rattle.site_book.specs.Book.{Book, site_of_book}
use Rattle.station.specs.Sessions.{without_till}
use Rattle.journal.specs.Opening.{tills_off}
use Rattle.journal.proofs.SigningOff.{nobody_on, one_more, one_more_off}
use Rattle.journal.proofs.opening.sign_off_all.Goals as goal

pub loop-number-init : goal.loop-number-init
loop-number-init c = record {
  least = omega arith;
  most = omega arith;
  rows = refl;
  off = λ t least less. absurd (omega (arith, least, less));
}

pub loop-number-preserved : goal.loop-number-preserved
loop-number-preserved c =
    let book = c.loop-number.book in
    let number = c.loop-number.number in
    let till : c.in-Some.till ≡ number = search rules in
    let left = subst (λ (t : ℕ). c.leave.new.book ≡ without_till (Some t) book) till
    c.leave.ensures in
    record {
      least = omega (arith, c.loop-number.invariant.least);
      most = omega (arith, c.loop-number-test.true);
      rows = left
          ∙ one_more number c.args.book.now book c.loop-number.invariant.rows
          c.loop-number.invariant.least;
      off = λ t least less.
          subst (λ (b : Book). is_signed_on (site_of_book b) t ≡ false) (sym left)
          (one_more_off book number c.loop-number.invariant.off t least less);
    }

pub returns-clause-rows : goal.returns-clause-rows
returns-clause-rows c =
    c.loop-number.invariant.rows
    ∙ ap (λ (n : ℕ). tills_off n c.args.book.now)
    (let all : c.loop-number.number - 1 ≡ TILLS =
    omega (arith, c.loop-number.invariant.most, c.loop-number-test.false) in all)

pub returns-clause-off : goal.returns-clause-off
returns-clause-off c =
    nobody_on c.loop-number.book c.len.ensures.legal c.len.ensures.ranges
    (λ t least less. c.loop-number.invariant.off t least
    (omega (arith, less, c.loop-number-test.false)))
