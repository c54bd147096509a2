-- A talk's course: one message after another, and how it ends.
use Rattle.std.proofs.Common.{◌≡◌, ℕ, false, true, List, [], ◌∷◌, ◌++◌, map, Option}
use Rattle.std.proofs.Common.{Ok, Err, refl, sym, ap, ◌∙◌, append_assoc, append-nil}
use Rattle.std.proofs.lemmas.List.{map-append}
use Rattle.app_message.specs.Telegram.{Telegram}
use Rattle.device_map.specs.declared.fault.MapFault.{MapFault}
use Rattle.device_map.specs.Faults.{map_number}
use Rattle.device_map.specs.Requests.{request_at}
use Rattle.peer_talk.specs.declared.fault.TheConstants.{ORIGINATOR_CHANGED}
use Rattle.peer_talk.specs.Exchanges.{Asked, Outcome, outcome_given, request_asked}
use Rattle.peer_talk.specs.Talks.{GoesOn, IsCut, IsOver}
use Rattle.peer_talk.specs.Text.{is_another, messages_text, number_text, outcome_text}
use Rattle.peer_talk.specs.Text.{peer_after, requests_in}

pub on_none : (p : Option (List ℕ)) → GoesOn p p [] [] []
on_none p = record {
  text = λ last later more. refl;
  requests = λ later. refl;
  changes = λ later. refl;
}

-- the answers of two parts, and more
answers_joined : (a b : List Asked) (more : List Outcome)
    → map outcome_given (a ++ b) ++ more ≡ map outcome_given a ++ (map outcome_given b ++ more)
answers_joined a b more =
    ap (λ os. os ++ more) (map-append outcome_given a b)
    ∙ append_assoc (map outcome_given a) (map outcome_given b) more

pub on_then : (p q r : Option (List ℕ)) (ms ns : List Telegram) (a b : List Asked) (s t : List ℕ)
    → GoesOn p q ms a s → GoesOn q r ns b t → GoesOn p r (ms ++ ns) (a ++ b) (s ++ t)
on_then p q r ms ns a b s t one two = record {
  text = λ last later more.
      rw (append_assoc ms ns later, answers_joined a b more)
      (one.text last (ns ++ later) (map outcome_given b ++ more)
      ∙ ap (λ (x : List ℕ). s ++ x) (two.text last later more)
      ∙ sym (append_assoc s t (messages_text last r later more)));
  requests = λ later.
      rw (append_assoc ms ns later, map-append request_asked a b)
      (one.requests (ns ++ later)
      ∙ ap (λ x. map request_asked a ++ x) (two.requests later)
      ∙ sym (append_assoc (map request_asked a) (map request_asked b) (requests_in r later)));
  changes = λ later. rw (append_assoc ms ns later) (one.changes (ns ++ later) ∙ two.changes later);
}

pub over_then : (p q : Option (List ℕ)) (ms ns : List Telegram) (a b : List Asked) (s t : List ℕ)
    → GoesOn p q ms a s → IsOver q ns b t → IsOver p (ms ++ ns) (a ++ b) (s ++ t)
over_then p q ms ns a b s t one two = record {
  text = λ last later more.
      rw (append_assoc ms ns later, answers_joined a b more)
      (one.text last (ns ++ later) (map outcome_given b ++ more)
      ∙ ap (λ (x : List ℕ). s ++ x) (two.text last later more));
  requests = λ later.
      rw (append_assoc ms ns later, map-append request_asked a b)
      (one.requests (ns ++ later) ∙ ap (λ x. map request_asked a ++ x) (two.requests later));
  changes = λ later. rw (append_assoc ms ns later) (one.changes (ns ++ later) ∙ two.changes later);
}

pub cut_then : (p q : Option (List ℕ)) (ms ns : List Telegram) (a b : List Asked) (s t : List ℕ)
    → GoesOn p q ms a s → IsCut q ns b t → IsCut p (ms ++ ns) (a ++ b) (s ++ t)
cut_then p q ms ns a b s t one two = record {
  text = λ last later.
      let rest = two.text last later in (
        rest.0,
        rw (append_assoc ms ns later, map-append outcome_given a b)
            (one.text last (ns ++ later) (map outcome_given b)
            ∙ ap (λ (x : List ℕ). s ++ x) rest.1
            ∙ sym (append_assoc s t rest.0)),
      );
  requests = λ later.
      let rest = two.requests later in (
        rest.0,
        rw (append_assoc ms ns later, map-append request_asked a b)
            (one.requests (ns ++ later)
            ∙ ap (λ x. map request_asked a ++ x) rest.1
            ∙ sym (append_assoc (map request_asked a) (map request_asked b) rest.0)),
      );
}

-- what ended in some messages ended in all of them
pub over_longer : (p : Option (List ℕ)) (ms ns : List Telegram) (a : List Asked) (s : List ℕ)
    → IsOver p ms a s → IsOver p (ms ++ ns) a s
over_longer p ms ns a s over = record {
  text = λ last later more. rw (append_assoc ms ns later) (over.text last (ns ++ later) more);
  requests = λ later. rw (append_assoc ms ns later) (over.requests (ns ++ later));
  changes = λ later. rw (append_assoc ms ns later) (over.changes (ns ++ later));
}

pub cut_longer : (p : Option (List ℕ)) (ms ns : List Telegram) (a : List Asked) (s : List ℕ)
    → IsCut p ms a s → IsCut p (ms ++ ns) a s
cut_longer p ms ns a s cut = record {
  text = λ last later. rw (append_assoc ms ns later) (cut.text last (ns ++ later));
  requests = λ later. rw (append_assoc ms ns later) (cut.requests (ns ++ later));
}

-- a front of what goes on, or is over, is cut there
pub on_cut : (p q : Option (List ℕ)) (ms : List Telegram) (a : List Asked) (s t : List ℕ)
    → GoesOn p q ms a (s ++ t) → IsCut p ms a s
on_cut p q ms a s t on = record {
  text = λ last later. (
    t ++ messages_text last q later [],
    ap (messages_text last p (ms ++ later)) (sym (append-nil (map outcome_given a)))
        ∙ on.text last later [] ∙ append_assoc s t (messages_text last q later []),
  );
  requests = λ later. (requests_in q later, on.requests later);
}

pub over_cut : (p : Option (List ℕ)) (ms : List Telegram) (a : List Asked) (s t : List ℕ)
    → IsOver p ms a (s ++ t) → IsCut p ms a s
over_cut p ms a s t over = record {
  text = λ last later. (
    t,
    ap (messages_text last p (ms ++ later)) (sym (append-nil (map outcome_given a)))
        ∙ over.text last later [],
  );
  requests = λ later. ([], over.requests later ∙ sym (append-nil (map request_asked a)));
}

pub another_over : (p : Option (List ℕ)) (m : Telegram) → is_another p m.from ≡ true
    → IsOver p (m ∷ []) [] (number_text m ORIGINATOR_CHANGED)
another_over p m other = record {
  text = λ last later more. rw other refl;
  requests = λ later. rw other refl;
  changes = λ later. rw other refl;
}

pub refused_on : (p : Option (List ℕ)) (m : Telegram) (f : MapFault) → is_another p m.from ≡ false
    → request_at m ≡ Err f → GoesOn p (peer_after p m.from) (m ∷ []) []
    (number_text m (map_number f))
refused_on p m f same is = record {
  text = λ last later more. rw (same, is) refl;
  requests = λ later. rw (same, is) refl;
  changes = λ later. rw same refl;
}

pub answered_on : (p : Option (List ℕ)) (m : Telegram) (a : Asked) → is_another p m.from ≡ false
    → request_at m ≡ Ok (a.actor, a.event)
    → GoesOn p (peer_after p m.from) (m ∷ []) (a ∷ []) (outcome_text m a.outcome)
answered_on p m a same is = record {
  text = λ last later more. rw (same, is) refl;
  requests = λ later. rw (same, is) refl;
  changes = λ later. rw same refl;
}
