-- Two rows whose JSON is the same are told alike.
use Rattle.std.proofs.Common.{◌≡◌, ℕ, List, Option, Some, None, codes, decimal, refl}
use Rattle.std.proofs.Common.{ap, arith, get_or}
use Rattle.std.proofs.lemmas.Fmt.{decimal_injective}
use Rattle.serde_json.specs.Data.{Data, Members, member, number, object, string, unsigned}
use Rattle.site_base.specs.declared.actor.Actor.{Actor}
use Rattle.site_base.specs.declared.actor.Actor.TheVariants.{Till, Dispenser}
use Rattle.site_base.specs.Events.{point_named}
use Rattle.site_base.specs.Words.{actor_word}
use Rattle.site_json.specs.Figures.{text_if}
use Rattle.row_json.specs.RowLaws.{IsToldActor, TellsTheRow}
use Rattle.row_json.specs.RowObjects.{member_if, point_data}
use Rattle.row_json.proofs.SameEvents.{same_events}
use Rattle.row_json.proofs.SameReplies.{same_replies}

-- ---- members

-- the members that every row has, of which one may be missing before the last two
same_parts : (a b t u e f : Data) (ms ns : Members)
    → object (member (codes "actor") a (member (codes "at") t (member (codes "event") e ms)))
    ≡ object (member (codes "actor") b (member (codes "at") u (member (codes "event") f ns)))
    → (a ≡ b) × (t ≡ u) × (e ≡ f) × (ms ≡ ns)
same_parts a b t u e f ms ns same = (cc, cc, cc, cc)

same_last : (r q n m : Data) (ms ns : Members)
    → member (codes "reply") r (member (codes "row") n ms)
    ≡ member (codes "reply") q (member (codes "row") m ns) → (r ≡ q) × (n ≡ m)
same_last r q n m ms ns same = (cc, cc)

-- the last members, where a point may stand before them
behind_point : (point other : Option ℕ) (r q n m : Data) (ms ns : Members)
    → member_if (codes "point") (point_data point)
    (member (codes "reply") r (member (codes "row") n ms))
    ≡ member_if (codes "point") (point_data other)
    (member (codes "reply") q (member (codes "row") m ns)) → (r ≡ q) × (n ≡ m)
behind_point None None r q n m ms ns same = same_last r q n m ms ns same
behind_point (Some p) (Some o) r q n m ms ns same = same_last r q n m ms ns cc
behind_point None (Some o) r q n m ms ns same =
    let name : codes "reply" ≡ codes "point" = cc in
    let first : 114 ≡ 112 = ap (λ (w : List ℕ). get_or w 0 0) name in
    absurd (omega (arith, first))
behind_point (Some p) None r q n m ms ns same =
    let name : codes "point" ≡ codes "reply" = cc in
    let first : 112 ≡ 114 = ap (λ (w : List ℕ). get_or w 0 0) name in
    absurd (omega (arith, first))

-- ---- what they tell

same_text : (s t : List ℕ) → string s ≡ string t → s ≡ t
same_text s t same = cc

same_number : (n m : ℕ) → number (unsigned n) ≡ number (unsigned m) → n ≡ m
same_number n m same = cc

same_time : (t u : Option (List ℕ)) → text_if t ≡ text_if u → t ≡ u
same_time None None same = refl
same_time (Some t) (Some u) same = ap Some (same_text t u same)
same_time None (Some u) same = cc
same_time (Some t) None same = cc

same_actor : (a b : Actor) → IsToldActor a → IsToldActor b → actor_word a ≡ actor_word b → a ≡ b
same_actor (Till t) (Till u) r s e =
    let digits : decimal t ≡ decimal u = cc in ap Till (decimal_injective t u r s digits)
same_actor (Dispenser p) (Dispenser q) r s e =
    let digits : decimal p ≡ decimal q = cc in ap Dispenser (decimal_injective p q r s digits)
same_actor (Till t) (Dispenser q) r s e =
    let first : 116 ≡ 100 = ap (λ (w : List ℕ). get_or w 0 0) e in absurd (omega (arith, first))
same_actor (Dispenser p) (Till u) r s e =
    let first : 100 ≡ 116 = ap (λ (w : List ℕ). get_or w 0 0) e in absurd (omega (arith, first))

pub told_alike : TellsTheRow
told_alike x y r s same =
    let parts = same_parts _ _ _ _ _ _ _ _ same in
    let last = behind_point (point_named x.row.event) (point_named y.row.event) _ _ _ _ _ _
    parts.3 in
    record {
      actor = same_actor x.row.actor y.row.actor r.actor s.actor (same_text _ _ parts.0);
      event = same_events x.row.event y.row.event r.event s.event (same_text _ _ parts.2);
      reply = same_replies x.row.reply y.row.reply r.reply s.reply (same_text _ _ last.0);
      number = same_number _ _ last.1;
      time = same_time x.time y.time parts.1;
    }
