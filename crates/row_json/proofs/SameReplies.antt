-- Replies in the same words are the same.
use Rattle.std.proofs.Common.{◌≡◌, ℕ, ◌<◌, List, [], ◌∷◌, ◌++◌, codes}
use Rattle.std.proofs.Common.{ap, arith, lit<, decimal, length, refl, sym, ◌∙◌}
use Rattle.std.proofs.Common.{Result, Ok, Err, append_assoc}
use Rattle.std.proofs.lemmas.Fmt.{decimal_is_IsNumeral}
use Rattle.site_base.specs.declared.answer.Answer.{Answer}
use Rattle.site_base.specs.declared.answer.Answer.TheVariants as answers
use Rattle.site_base.specs.declared.refusal.Refusal.{Refusal}
use Rattle.site_base.specs.declared.refusal.Refusal.TheVariants as refusals
use Rattle.site_base.specs.declared.state.PointState.{PointState}
use Rattle.site_base.specs.declared.state.PointState.TheVariants as points
use Rattle.site_base.specs.declared.state.Preset.TheVariants as presets
use Rattle.site_base.specs.Refusals.{refusal_number}
use Rattle.site_json.specs.Points.{state_word}
use Rattle.forecourt_engines.specs.Numbers.{IsWithout}
use Rattle.forecourt_engines.proofs.TextParts.{digits_below}
use Rattle.row_json.proofs.TextKeys.{first_four, octet_at}
use Rattle.row_json.proofs.TextNumbers.{cut, cut_above}
use Rattle.row_json.specs.ReplyWords.{answer_words, detail_behind, refusal_name}
use Rattle.row_json.specs.ReplyWords.{refusal_words, reply_words}
use Rattle.row_json.specs.RowLaws.{IsInBits, IsToldAnswer, IsToldReply}

-- ---- numbers

in_brackets : (n m : ℕ) → IsInBits n → IsInBits m
    → decimal n ++ codes ")" ≡ decimal m ++ codes ")" → n ≡ m
in_brackets n m r s e = (cut 41 n m [] [] (omega arith) r s e).0

in_braces : (n m : ℕ) → IsInBits n → IsInBits m
    → decimal n ++ codes "}" ≡ decimal m ++ codes "}" → n ≡ m
in_braces n m r s e = (cut_above 125 n m [] [] (omega arith) r s e).0

-- ---- answers

two : {A B C : Type 0} (f : A → B → C) (p q : A) (x y : B) → p ≡ q → x ≡ y → f p x ≡ f q y
two f p q x y same alike = cc

sold : (n g m h : ℕ) → IsInBits n → IsInBits g → IsInBits m → IsInBits h
    → decimal n ++ (codes ", " ++ (decimal g ++ codes "}"))
    ≡ decimal m ++ (codes ", " ++ (decimal h ++ codes "}")) → (n ≡ m) × (g ≡ h)
sold n g m h r s t u e =
    let parts = cut 44 n m (32 ∷ (decimal g ++ codes "}")) (32 ∷ (decimal h ++ codes "}"))
    (omega arith) r t e in
    let last : decimal g ++ codes "}" ≡ decimal h ++ codes "}" = cc in
    (parts.0, in_braces g h s u last)

-- a limit in brackets, and a price behind it
limited : (n g m h : ℕ) → IsInBits n → IsInBits g → IsInBits m → IsInBits h
    → (decimal n ++ codes ")") ++ (codes ", " ++ (decimal g ++ codes "}"))
    ≡ (decimal m ++ codes ")") ++ (codes ", " ++ (decimal h ++ codes "}"))
    → (n ≡ m) × (g ≡ h)
limited n g m h r s t u e =
    let whole = sym (append_assoc (decimal n) (codes ")") (codes ", " ++ (decimal g ++ codes "}")))
    ∙ e ∙ append_assoc (decimal m) (codes ")") (codes ", " ++ (decimal h ++ codes "}")) in
    let parts = cut 41 n m (codes ", " ++ (decimal g ++ codes "}"))
    (codes ", " ++ (decimal h ++ codes "}")) (omega arith) r t whole in
    let last : decimal g ++ codes "}" ≡ decimal h ++ codes "}" = cc in
    (parts.0, in_braces g h s u last)

same_answers : (a b : Answer) → IsToldAnswer a → IsToldAnswer b → answer_words a ≡ answer_words b
    → a ≡ b
same_answers answers.Done answers.Done r s e = refl
same_answers answers.Calling answers.Calling r s e = refl
same_answers answers.HungUp answers.HungUp r s e = refl
same_answers answers.NoSale answers.NoSale r s e = refl
same_answers answers.Stopped answers.Stopped r s e = refl
same_answers answers.Ending answers.Ending r s e = refl
same_answers answers.Locked answers.Locked r s e = refl
same_answers answers.Unlocked answers.Unlocked r s e = refl
same_answers (answers.Flowed g) (answers.Flowed h) r s e =
    let last : decimal g ++ codes ")" ≡ decimal h ++ codes ")" = cc in
    ap answers.Flowed (in_brackets g h r s last)
same_answers (answers.Cleared g) (answers.Cleared h) r s e =
    let last : decimal g ++ codes ")" ≡ decimal h ++ codes ")" = cc in
    ap answers.Cleared (in_brackets g h r s last)
same_answers (answers.ShiftClosed g) (answers.ShiftClosed h) r s e =
    let last : decimal g ++ codes ")" ≡ decimal h ++ codes ")" = cc in
    ap answers.ShiftClosed (in_brackets g h r s last)
same_answers (answers.Drawn g) (answers.Drawn h) r s e =
    let last : decimal g ++ codes "}" ≡ decimal h ++ codes "}" = cc in
    ap answers.Drawn (in_braces g h r s last)
same_answers (answers.Sold n g) (answers.Sold m h) r s e =
    let last : decimal n ++ (codes ", " ++ (decimal g ++ codes "}"))
    ≡ decimal m ++ (codes ", " ++ (decimal h ++ codes "}")) = cc in
    let parts = sold n g m h r.0 r.1 s.0 s.1 last in two answers.Sold n m g h parts.0 parts.1
same_answers (answers.Start presets.Unset g) (answers.Start presets.Unset h) r s e =
    let last : decimal g ++ codes "}" ≡ decimal h ++ codes "}" = cc in
    ap (answers.Start presets.Unset) (in_braces g h r.1 s.1 last)
same_answers (answers.Start (presets.Volume n) g) (answers.Start (presets.Volume m) h) r s e =
    let last : (decimal n ++ codes ")") ++ (codes ", " ++ (decimal g ++ codes "}"))
    ≡ (decimal m ++ codes ")") ++ (codes ", " ++ (decimal h ++ codes "}")) = cc in
    let parts = limited n g m h r.0 r.1 s.0 s.1 last in
    two answers.Start (presets.Volume n) (presets.Volume m) g h (ap presets.Volume parts.0) parts.1
same_answers (answers.Start (presets.Money n) g) (answers.Start (presets.Money m) h) r s e =
    let last : (decimal n ++ codes ")") ++ (codes ", " ++ (decimal g ++ codes "}"))
    ≡ (decimal m ++ codes ")") ++ (codes ", " ++ (decimal h ++ codes "}")) = cc in
    let parts = limited n g m h r.0 r.1 s.0 s.1 last in
    two answers.Start (presets.Money n) (presets.Money m) g h (ap presets.Money parts.0) parts.1
same_answers (answers.Start presets.Unset g) (answers.Start (presets.Volume m) h) r s e =
    let other : octet_at 6 (answer_words (answers.Start presets.Unset g))
    ≡ octet_at 6 (answer_words (answers.Start (presets.Volume m) h)) = ap (octet_at 6) e in
    absurd (omega (arith, other))
same_answers (answers.Start presets.Unset g) (answers.Start (presets.Money m) h) r s e =
    let other : octet_at 6 (answer_words (answers.Start presets.Unset g))
    ≡ octet_at 6 (answer_words (answers.Start (presets.Money m) h)) = ap (octet_at 6) e in
    absurd (omega (arith, other))
same_answers (answers.Start (presets.Volume n) g) (answers.Start presets.Unset h) r s e =
    let other : octet_at 6 (answer_words (answers.Start (presets.Volume n) g))
    ≡ octet_at 6 (answer_words (answers.Start presets.Unset h)) = ap (octet_at 6) e in
    absurd (omega (arith, other))
same_answers (answers.Start (presets.Volume n) g) (answers.Start (presets.Money m) h) r s e =
    let other : octet_at 6 (answer_words (answers.Start (presets.Volume n) g))
    ≡ octet_at 6 (answer_words (answers.Start (presets.Money m) h)) = ap (octet_at 6) e in
    absurd (omega (arith, other))
same_answers (answers.Start (presets.Money n) g) (answers.Start presets.Unset h) r s e =
    let other : octet_at 6 (answer_words (answers.Start (presets.Money n) g))
    ≡ octet_at 6 (answer_words (answers.Start presets.Unset h)) = ap (octet_at 6) e in
    absurd (omega (arith, other))
same_answers (answers.Start (presets.Money n) g) (answers.Start (presets.Volume m) h) r s e =
    let other : octet_at 6 (answer_words (answers.Start (presets.Money n) g))
    ≡ octet_at 6 (answer_words (answers.Start (presets.Volume m) h)) = ap (octet_at 6) e in
    absurd (omega (arith, other))
same_answers a b r s e =
    let other : first_four (answer_words a) ≡ first_four (answer_words b) = ap first_four e in
    absurd (omega (arith, other))

-- ---- refusals

-- a state in brackets
same_states : (a b : PointState) → state_word a ++ codes ")" ≡ state_word b ++ codes ")" → a ≡ b
same_states points.Inoperative points.Inoperative e = refl
same_states points.Closed points.Closed e = refl
same_states points.Idle points.Idle e = refl
same_states points.Calling points.Calling e = refl
same_states points.Authorised points.Authorised e = refl
same_states points.Started points.Started e = refl
same_states points.SuspendedStarted points.SuspendedStarted e = refl
same_states points.Fuelling points.Fuelling e = refl
same_states points.SuspendedFuelling points.SuspendedFuelling e = refl
same_states points.SuspendedStarted points.SuspendedFuelling e =
    let other : 115 ≡ 102 = ap (octet_at 10) e in absurd (omega (arith, other))
same_states points.SuspendedFuelling points.SuspendedStarted e =
    let other : 102 ≡ 115 = ap (octet_at 10) e in absurd (omega (arith, other))
same_states a b e =
    let other : first_four (state_word a ++ codes ")") ≡ first_four (state_word b ++ codes ")") =
    ap first_four e in
    absurd (omega (arith, other))

same_refusals : (a b : Refusal) → IsToldReply (Err a) → IsToldReply (Err b)
    → refusal_number a ≡ refusal_number b
    → refusal_name a ++ detail_behind a ≡ refusal_name b ++ detail_behind b → a ≡ b
same_refusals refusals.NotSignedOn refusals.NotSignedOn r s n e = refl
same_refusals refusals.SignedOn refusals.SignedOn r s n e = refl
same_refusals refusals.NoSuchPoint refusals.NoSuchPoint r s n e = refl
same_refusals refusals.NoSuchNozzle refusals.NoSuchNozzle r s n e = refl
same_refusals refusals.NoSuchProduct refusals.NoSuchProduct r s n e = refl
same_refusals refusals.NoSuchTransaction refusals.NoSuchTransaction r s n e = refl
same_refusals refusals.NotManager refusals.NotManager r s n e = refl
same_refusals refusals.BadPrice refusals.BadPrice r s n e = refl
same_refusals refusals.BadPreset refusals.BadPreset r s n e = refl
same_refusals refusals.NotYours refusals.NotYours r s n e = refl
same_refusals refusals.NotYourPoint refusals.NotYourPoint r s n e = refl
same_refusals refusals.BufferFull refusals.BufferFull r s n e = refl
same_refusals refusals.SequenceSpent refusals.SequenceSpent r s n e = refl
same_refusals refusals.MeterJump refusals.MeterJump r s n e = refl
same_refusals refusals.NotLocked refusals.NotLocked r s n e = refl
same_refusals refusals.Ending refusals.Ending r s n e = refl
same_refusals refusals.ShiftsSpent refusals.ShiftsSpent r s n e = refl
same_refusals refusals.MeterSpent refusals.MeterSpent r s n e = refl
same_refusals (refusals.WrongState x) (refusals.WrongState y) r s n e =
    let last : state_word x ++ codes ")" ≡ state_word y ++ codes ")" = cc in
    ap refusals.WrongState (same_states x y last)
same_refusals (refusals.AssignedToOther x) (refusals.AssignedToOther y) r s n e =
    let last : decimal x ++ codes ")" ≡ decimal y ++ codes ")" = cc in
    ap refusals.AssignedToOther (in_brackets x y r s last)
same_refusals (refusals.WrongNozzle x) (refusals.WrongNozzle y) r s n e =
    let last : decimal x ++ codes ")" ≡ decimal y ++ codes ")" = cc in
    ap refusals.WrongNozzle (in_brackets x y r s last)
same_refusals (refusals.MeterGap x) (refusals.MeterGap y) r s n e =
    let last : decimal x ++ codes ")" ≡ decimal y ++ codes ")" = cc in
    ap refusals.MeterGap (in_brackets x y r s last)
same_refusals (refusals.MeterBack x) (refusals.MeterBack y) r s n e =
    let last : decimal x ++ codes ")" ≡ decimal y ++ codes ")" = cc in
    ap refusals.MeterBack (in_brackets x y r s last)
same_refusals (refusals.LockedByOther x) (refusals.LockedByOther y) r s n e =
    let last : decimal x ++ codes ")" ≡ decimal y ++ codes ")" = cc in
    ap refusals.LockedByOther (in_brackets x y r s last)
same_refusals (refusals.AlreadyCleared x) (refusals.AlreadyCleared y) r s n e =
    let last : decimal x ++ codes ")" ≡ decimal y ++ codes ")" = cc in
    ap refusals.AlreadyCleared (in_brackets x y r s last)
same_refusals a b r s n e = absurd (omega (arith, n))

-- the number of a refusal is small
small : (a : Refusal) → IsInBits (refusal_number a)
small refusals.NotSignedOn = lit< tt
small refusals.SignedOn = lit< tt
small refusals.NoSuchPoint = lit< tt
small refusals.NoSuchNozzle = lit< tt
small refusals.NoSuchProduct = lit< tt
small refusals.NoSuchTransaction = lit< tt
small refusals.NotManager = lit< tt
small refusals.BadPrice = lit< tt
small refusals.BadPreset = lit< tt
small (refusals.WrongState x) = lit< tt
small (refusals.AssignedToOther x) = lit< tt
small refusals.NotYours = lit< tt
small refusals.NotYourPoint = lit< tt
small (refusals.WrongNozzle x) = lit< tt
small refusals.BufferFull = lit< tt
small refusals.SequenceSpent = lit< tt
small (refusals.MeterGap x) = lit< tt
small (refusals.MeterBack x) = lit< tt
small refusals.MeterJump = lit< tt
small (refusals.LockedByOther x) = lit< tt
small refusals.NotLocked = lit< tt
small (refusals.AlreadyCleared x) = lit< tt
small refusals.Ending = lit< tt
small refusals.ShiftsSpent = lit< tt
small refusals.MeterSpent = lit< tt

same_words : (a b : Refusal) → IsToldReply (Err a) → IsToldReply (Err b)
    → refusal_words a ≡ refusal_words b → a ≡ b
same_words a b r s e =
    let parts = cut 32 (refusal_number a) (refusal_number b) (refusal_name a ++ detail_behind a)
    (refusal_name b ++ detail_behind b) (omega arith) (small a) (small b) e in
    same_refusals a b r s parts.0 parts.1

-- ---- an answer is no refusal

-- an answer's words begin with a letter
pub record HasLetter (text : List ℕ) : Type 0 where
  pub letter : ℕ
  pub rest : List ℕ
  pub high : 57 < letter
  pub parts : text ≡ letter ∷ rest

begins : (a : Answer) → IsToldAnswer a → HasLetter (answer_words a)
begins answers.Done r = record { letter = 68; rest = _; high = omega arith; parts = refl }
begins answers.Calling r = record { letter = 67; rest = _; high = omega arith; parts = refl }
begins (answers.Start p n) r = record { letter = 83; rest = _; high = omega arith; parts = refl }
begins (answers.Flowed n) r = record { letter = 70; rest = _; high = omega arith; parts = refl }
begins answers.HungUp r = record { letter = 72; rest = _; high = omega arith; parts = refl }
begins answers.NoSale r = record { letter = 78; rest = _; high = omega arith; parts = refl }
begins (answers.Sold n g) r = record { letter = 83; rest = _; high = omega arith; parts = refl }
begins answers.Stopped r = record { letter = 83; rest = _; high = omega arith; parts = refl }
begins answers.Ending r = record { letter = 69; rest = _; high = omega arith; parts = refl }
begins answers.Locked r = record { letter = 76; rest = _; high = omega arith; parts = refl }
begins answers.Unlocked r = record { letter = 85; rest = _; high = omega arith; parts = refl }
begins (answers.Cleared n) r = record { letter = 67; rest = _; high = omega arith; parts = refl }
begins (answers.ShiftClosed n) r =
    record { letter = 83; rest = _; high = omega arith; parts = refl }
begins (answers.Drawn n) r = record { letter = 68; rest = _; high = omega arith; parts = refl }
begins (answers.PointIs view) r = absurd r
begins (answers.TransactionIs view) r = absurd r
begins (answers.ProductIs view) r = absurd r
begins (answers.SiteIs view) r = absurd r

-- digits don't
no_letter : (digits rest : List ℕ) (letter : ℕ) (more : List ℕ) → 0 < length digits
    → IsWithout letter digits → digits ++ rest ≡ letter ∷ more → ⊥
no_letter [] rest letter more some none e = absurd (omega (arith, some))
no_letter (d ∷ ds) rest letter more some none e =
    let first : d ≡ letter = cc in none 0 (omega arith) first

apart : (a : Answer) (b : Refusal) → IsToldAnswer a → answer_words a ≡ refusal_words b → ⊥
apart a b r e =
    let told = begins a r in
    let digits = decimal_is_IsNumeral (refusal_number b) (small b) in
    no_letter (decimal (refusal_number b)) _ told.letter told.rest digits.0.0
    (digits_below told.letter (refusal_number b) told.high (small b))
    (sym e ∙ told.parts)

pub same_replies : (a b : Result Answer Refusal) → IsToldReply a → IsToldReply b
    → reply_words a ≡ reply_words b → a ≡ b
same_replies (Ok a) (Ok b) r s e = ap Ok (same_answers a b r s e)
same_replies (Err a) (Err b) r s e = ap Err (same_words a b r s e)
same_replies (Ok a) (Err b) r s e = absurd (apart a b r e)
same_replies (Err a) (Ok b) r s e = absurd (apart b a s (sym e))
