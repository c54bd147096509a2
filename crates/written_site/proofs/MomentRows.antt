-- Where a moment stands in a history: the rows before it led to its site, and its reply is the
-- written step's.
use Rattle.std.proofs.Common.{◌≡◌, List, [], ◌∷◌, ◌++◌, refl, sym, ap, subst, ◌∙◌}
use Rattle.std.proofs.lemmas.List.{append_assoc}
use Rattle.site_base.specs.declared.row.Row.{Row}
use Rattle.site_base.specs.Configured.{Configured}
use Rattle.written_site.specs.SiteState.{SiteState, opening}
use Rattle.written_site.specs.SiteStep.{reply_to, site_after}
use Rattle.written_site.specs.SiteRun.{site_of_rows, IsLegal}
use Rattle.written_site.specs.Histories.{Moment, moments_after, moments_of}
use Rattle.written_site.proofs.Histories.{site_of_rows-push, IsLegal-push}
use Rattle.written_site.proofs.RowWords.{append_none}

-- the rows before the moment are legal and led to its site; its reply is told there; the moments
-- before it are those of its earlier rows, and the rows after it go on from its site
pub record IsPlaced (c : Configured) (before : List Moment) (m : Moment) (since : List Moment)
    (end : SiteState) : Type 0 where
  pub legal : IsLegal (opening c) m.earlier
  pub led : m.before ≡ site_of_rows (opening c) m.earlier
  pub told : m.row.reply ≡ reply_to m.before m.row.actor m.row.event
  pub moments : before ≡ moments_of c m.earlier
  pub rest : List Row
  pub later : IsLegal (site_after m.before m.row.actor m.row.event) rest
  pub after : since
      ≡ moments_after (m.earlier ++ m.row ∷ []) (site_after m.before m.row.actor m.row.event) rest
  pub ends : end ≡ site_of_rows (site_after m.before m.row.actor m.row.event) rest

-- one moment more
pub moments_push : (earlier : List Row) (s : SiteState) (rs : List Row) (r : Row)
    → moments_after earlier s (rs ++ r ∷ [])
    ≡ moments_after earlier s rs
    ++ record { earlier = earlier ++ rs; before = site_of_rows s rs; row = r } ∷ []
moments_push earlier s [] r =
    ap (λ rows. record { earlier = rows; before = s; row = r } ∷ []) (sym (append_none earlier))
moments_push earlier s (x ∷ rs) r =
    let next : SiteState = site_after s x.actor x.event in
    ap (λ ms. record { earlier = earlier; before = s; row = x } ∷ ms)
    (moments_push (earlier ++ x ∷ []) next rs r
    ∙ ap (λ rows. moments_after (earlier ++ x ∷ []) next rs
    ++ record { earlier = rows; before = site_of_rows next rs; row = r } ∷ [])
    (append_assoc earlier (x ∷ []) rs))

pub head_is : {A : Type 0} (x y : A) (xs ys : List A) → ◌≡◌ {A = List A} (x ∷ xs) (y ∷ ys)
    → (x ≡ y) × (xs ≡ ys)
head_is x y xs ys is = (cc, cc)

-- from rows so far that led to this site
placed_after : (c : Configured) (earlier : List Row) (s : SiteState) (rows : List Row)
    (before since : List Moment) (m : Moment) → IsLegal (opening c) earlier
    → s ≡ site_of_rows (opening c) earlier → IsLegal s rows
    → moments_after earlier s rows ≡ before ++ m ∷ since
    → IsPlaced c (moments_of c earlier ++ before) m since (site_of_rows s rows)
placed_after c earlier s [] [] since m legal led rest parts = cc
placed_after c earlier s [] (x ∷ before) since m legal led rest parts = cc
placed_after c earlier s (r ∷ rs) [] since m legal led rest parts =
    let next : SiteState = site_after s r.actor r.event in
    let both = head_is (record { earlier = earlier; before = s; row = r }) m
    (moments_after (earlier ++ r ∷ []) next rs) since parts in
    subst (λ x. IsPlaced c (moments_of c earlier ++ []) x since (site_of_rows s (r ∷ rs))) both.0
    (record {
      legal = legal;
      led = led;
      told = rest.0;
      moments = append_none (moments_of c earlier);
      rest = rs;
      later = rest.1;
      after = sym both.1;
      ends = refl;
    })
placed_after c earlier s (r ∷ rs) (x ∷ before) since m legal led rest parts =
    let next : SiteState = site_after s r.actor r.event in
    let later : List Row = earlier ++ r ∷ [] in
    let told : r.reply ≡ reply_to (site_of_rows (opening c) earlier) r.actor r.event =
    rest.0 ∙ ap (λ y. reply_to y r.actor r.event) led in
    let both = head_is (record { earlier = earlier; before = s; row = r }) x
    (moments_after later next rs) (before ++ m ∷ since) parts in
    let so_far : moments_of c later ≡ moments_of c earlier ++ x ∷ [] =
    moments_push [] (opening c) earlier r
    ∙ ap (λ y. moments_of c earlier ++ record { earlier = earlier; before = y; row = r } ∷ [])
    (sym led)
    ∙ ap (λ y. moments_of c earlier ++ y ∷ []) both.0 in
    subst (λ ms. IsPlaced c ms m since (site_of_rows next rs))
    (ap (λ ms. ms ++ before) so_far ∙ append_assoc (moments_of c earlier) (x ∷ []) before)
    (placed_after c later next rs before since m
    (IsLegal-push (opening c) earlier r legal told)
    (ap (λ y. site_after y r.actor r.event) led ∙ sym (site_of_rows-push (opening c) earlier r))
    rest.1 both.1)

pub placed : (c : Configured) (rows : List Row) (before since : List Moment) (m : Moment)
    → IsLegal (opening c) rows → moments_of c rows ≡ before ++ m ∷ since
    → IsPlaced c before m since (site_of_rows (opening c) rows)
placed c rows before since m legal parts =
    placed_after c [] (opening c) rows before since m tt refl legal parts
