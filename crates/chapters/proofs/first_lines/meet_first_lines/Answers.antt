use Rattle.std.proofs.Common.{◌∙◌, [], ◌∷◌, List, ℕ, ◌≤◌, false, length, subst, sym, true}
use Rattle.chapters.specs.ChapterText.{after_line, first_lines, site_line, title_line}
use Rattle.chapters.proofs.FirstLines.{begins_within, begun, last_fault, more_put}
use Rattle.chapters.proofs.FirstLines.{not_begun, one_put, second_fault}
use Rattle.chapters.proofs.first_lines.meet_first_lines.Goals as goal

pub returns-then-not-starts_with-clause-other : goal.returns-then-not-starts_with-clause-other
returns-then-not-starts_with-clause-other c = λ of_text.
    let title : List ℕ = title_line c.args.number in
    let one = one_put _ _ title c.new-first.ensures.bytes c.in_ok-put_title.ensures in
    not_begun c.args.text.now (title ∷ [])
    (site_line c.args.site.now ∷ after_line c.args.after.now ∷ [])
    (begun c.args.text.now c.as_bytes.result.now (title ∷ []) false
    (c.as_bytes.ensures.value ∙ one)
    (sym c.starts_with.ensures.value ∙ c.if-not-starts_with.true))

pub returns-then-not-starts_with-2-clause-other : goal.returns-then-not-starts_with-2-clause-other
returns-then-not-starts_with-2-clause-other c = λ of_text.
    let title : List ℕ = title_line c.args.number in
    let site : List ℕ = site_line c.args.site.now in
    let one = one_put _ _ title c.new-first.ensures.bytes c.in_ok-put_title.ensures in
    let two = more_put _ _ site (title ∷ []) one c.in_ok-put_site.ensures in
    not_begun c.args.text.now (title ∷ site ∷ []) (after_line c.args.after.now ∷ [])
    (begun c.args.text.now c.as_bytes-2.result.now (title ∷ site ∷ []) false
    (c.as_bytes-2.ensures.value ∙ two)
    (sym c.starts_with-2.ensures.value ∙ c.if-not-starts_with-2.true))

pub returns-then-not-starts_with-2-clause-named : goal.returns-then-not-starts_with-2-clause-named
returns-then-not-starts_with-2-clause-named c = λ of_text.
    let title : List ℕ = title_line c.args.number in
    let site : List ℕ = site_line c.args.site.now in
    let one = one_put _ _ title c.new-first.ensures.bytes c.in_ok-put_title.ensures in
    let two = more_put _ _ site (title ∷ []) one c.in_ok-put_site.ensures in
    second_fault c.args.number (first_lines c.args.site.now c.args.number c.args.after.now)
    c.args.text.now
    (begun c.args.text.now c.as_bytes.result.now (title ∷ []) true
    (c.as_bytes.ensures.value ∙ one)
    (sym c.starts_with.ensures.value ∙ c.if-not-starts_with.false))
    (begun c.args.text.now c.as_bytes-2.result.now (title ∷ site ∷ []) false
    (c.as_bytes-2.ensures.value ∙ two)
    (sym c.starts_with-2.ensures.value ∙ c.if-not-starts_with-2.true))

pub returns-then-not-starts_with-3-clause-other : goal.returns-then-not-starts_with-3-clause-other
returns-then-not-starts_with-3-clause-other c = λ of_text.
    let title : List ℕ = title_line c.args.number in
    let site : List ℕ = site_line c.args.site.now in
    let after : List ℕ = after_line c.args.after.now in
    let one = one_put _ _ title c.new-first.ensures.bytes c.in_ok-put_title.ensures in
    let two = more_put _ _ site (title ∷ []) one c.in_ok-put_site.ensures in
    let three = more_put _ _ after (title ∷ site ∷ []) two c.in_ok-put_after.ensures in
    begun c.args.text.now c.as_bytes-3.result.now (title ∷ site ∷ after ∷ []) false
    (c.as_bytes-3.ensures.value ∙ three)
    (sym c.starts_with-3.ensures.value ∙ c.if-not-starts_with-3.true)

pub returns-then-not-starts_with-3-clause-named : goal.returns-then-not-starts_with-3-clause-named
returns-then-not-starts_with-3-clause-named c = λ of_text.
    let title : List ℕ = title_line c.args.number in
    let site : List ℕ = site_line c.args.site.now in
    let one = one_put _ _ title c.new-first.ensures.bytes c.in_ok-put_title.ensures in
    let two = more_put _ _ site (title ∷ []) one c.in_ok-put_site.ensures in
    c.third_fault.ensures
    ∙ last_fault c.args.number (first_lines c.args.site.now c.args.number c.args.after.now)
    c.args.text.now
    (begun c.args.text.now c.as_bytes.result.now (title ∷ []) true
    (c.as_bytes.ensures.value ∙ one)
    (sym c.starts_with.ensures.value ∙ c.if-not-starts_with.false))
    (begun c.args.text.now c.as_bytes-2.result.now (title ∷ site ∷ []) true
    (c.as_bytes-2.ensures.value ∙ two)
    (sym c.starts_with-2.ensures.value ∙ c.if-not-starts_with-2.false))

pub returns-clause-lines : goal.returns-clause-lines
returns-clause-lines c =
    let title : List ℕ = title_line c.args.number in
    let site : List ℕ = site_line c.args.site.now in
    let after : List ℕ = after_line c.args.after.now in
    let one = one_put _ _ title c.new-first.ensures.bytes c.in_ok-put_title.ensures in
    let two = more_put _ _ site (title ∷ []) one c.in_ok-put_site.ensures in
    more_put _ _ after (title ∷ site ∷ []) two c.in_ok-put_after.ensures

pub returns-clause-begins : goal.returns-clause-begins
returns-clause-begins c =
    let title : List ℕ = title_line c.args.number in
    let site : List ℕ = site_line c.args.site.now in
    let after : List ℕ = after_line c.args.after.now in
    let one = one_put _ _ title c.new-first.ensures.bytes c.in_ok-put_title.ensures in
    let two = more_put _ _ site (title ∷ []) one c.in_ok-put_site.ensures in
    let three = more_put _ _ after (title ∷ site ∷ []) two c.in_ok-put_after.ensures in
    begun c.args.text.now c.as_bytes-3.result.now (title ∷ site ∷ after ∷ []) true
    (c.as_bytes-3.ensures.value ∙ three)
    (sym c.starts_with-3.ensures.value ∙ c.if-not-starts_with-3.false)

pub returns-clause-within : goal.returns-clause-within
returns-clause-within c =
    let within = begins_within c.args.text.now c.as_bytes-3.result.now
    (sym c.starts_with-3.ensures.value ∙ c.if-not-starts_with-3.false) in
    subst (λ (xs : List ℕ). length xs ≤ length c.args.text.now) c.as_bytes-3.ensures.value within
