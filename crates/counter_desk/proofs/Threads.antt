-- The threads of a crew, started one after another and joined one after another.
use Rattle.std.proofs.Common.{◌≡◌, List, [], ◌∷◌, ◌++◌, Option, Some, None, inl, inr, refl, sym}
use Rattle.std.proofs.Common.{subst, ◌∙◌}
use Rattle.std.proofs.lemmas.List.{append-nil, append_assoc}
use Rattle.std.specs.declared.thread.PromisedHandle.{PromisedHandle}
use Rattle.site_base.specs.declared.actor.Actor.{Actor}
use Rattle.site_base.specs.declared.event.Event.{Event}
use Rattle.counter_desk.specs.declared.crews.EndOf.{EndOf}
use Rattle.counter_desk.specs.declared.worker.ListEnd.{ListEnd}
use Rattle.counter_desk.specs.Crews.{AreJoining, EachStarted, IsJoined, IsStartOf}
use Rattle.counter_desk.specs.Work.{EachEnds, IsListEnd, IsWorkersEnd}

pub started_push : (lists : List (List (Actor × Event)))
    (started : List (Option (PromisedHandle ListEnd EndOf)))
    (calls : List (Actor × Event)) (s : Option (PromisedHandle ListEnd EndOf))
    → EachStarted lists started → IsStartOf calls s
    → EachStarted (lists ++ calls ∷ []) (started ++ s ∷ [])
started_push [] [] calls s each one = (one, tt)
started_push [] (x ∷ started) calls s each one = absurd each
started_push (l ∷ lists) [] calls s each one = absurd each
started_push (l ∷ lists) (x ∷ started) calls s each one =
    (each.0, started_push lists started calls s each.1 one)

ends_push : (lists : List (List (Actor × Event))) (ends : List ListEnd)
    (calls : List (Actor × Event)) (end : ListEnd)
    → EachEnds lists ends → IsListEnd calls end → EachEnds (lists ++ calls ∷ []) (ends ++ end ∷ [])
ends_push [] [] calls end each one = (one, tt)
ends_push [] (x ∷ ends) calls end each one = absurd each
ends_push (l ∷ lists) [] calls end each one = absurd each
ends_push (l ∷ lists) (x ∷ ends) calls end each one =
    (each.0, ends_push lists ends calls end each.1 one)

pub joining_start : (lists : List (List (Actor × Event)))
    (started : List (Option (PromisedHandle ListEnd EndOf)))
    → EachStarted lists started → AreJoining lists started []
joining_start lists started each = record {
  before = [];
  after = lists;
  parts = refl;
  ended = tt;
  running = each;
}

-- a thread that is joined ends what it was to do
joined : (calls : List (Actor × Event)) (s : Option (PromisedHandle ListEnd EndOf)) (end : ListEnd)
    → IsStartOf calls s → IsJoined s end → IsListEnd calls end
joined calls None end start join = inr join
joined calls (Some handle) end start join = inl (subst (λ cs. IsWorkersEnd cs end) start join)

pub joining_more : (lists : List (List (Actor × Event))) (s : Option (PromisedHandle ListEnd EndOf))
    (started : List (Option (PromisedHandle ListEnd EndOf))) (ends : List ListEnd) (end : ListEnd)
    → AreJoining lists (s ∷ started) ends → IsJoined s end
    → AreJoining lists started (ends ++ end ∷ [])
joining_more lists s started ends end joining join =
    by_after joining.after joining.parts joining.running
  where
    by_after : (after : List (List (Actor × Event))) → lists ≡ joining.before ++ after
        → EachStarted after (s ∷ started) → AreJoining lists started (ends ++ end ∷ [])
    by_after [] parts running = absurd running
    by_after (calls ∷ after) parts running = record {
      before = joining.before ++ calls ∷ [];
      after = after;
      parts = parts ∙ sym (append_assoc joining.before (calls ∷ []) after);
      ended = ends_push joining.before ends calls end joining.ended
          (joined calls s end running.0 join);
      running = running.1;
    }

pub joining_end : (lists : List (List (Actor × Event))) (ends : List ListEnd)
    → AreJoining lists [] ends → EachEnds lists ends
joining_end lists ends joining = by_after joining.after joining.parts joining.running
  where
    by_after : (after : List (List (Actor × Event))) → lists ≡ joining.before ++ after
        → EachStarted after [] → EachEnds lists ends
    by_after [] parts running =
        subst (λ ls. EachEnds ls ends) (sym (parts ∙ append-nil joining.before)) joining.ended
    by_after (calls ∷ after) parts running = absurd running
