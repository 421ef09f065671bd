-- What one more event does to the tables of a walk.
use Rattle.std.proofs.Common.{◌≡◌, ℕ, Bool, true, false, ◌==◌, cond, List, [], ◌∷◌, ◌++◌, Option, Some, None, refl, sym, ap, ◌∙◌}
use Rattle.indexmap.specs.IndexMap.{IndexMap, Updates}
use Rattle.std.specs.Cmp.Lexicographic.{same_text as text_same}
use Rattle.std.proofs.lemmas.Bool.{and_parts, eqb-true}
use Rattle.inst_settings.specs.Settings.{same_text}
use Rattle.inst_journal.specs.declared.event.Event.{Event}
use Rattle.inst_journal.specs.declared.event.Event.TheVariants.{Taken, Forwarded}
use Rattle.inst_journal.specs.Booked.{or_else, first_some, is_taken, is_forwarded, same_transfer}
use Rattle.inst_journal.proofs.OneMoreElement.{first_some_push, or_else-none}
use Rattle.inst_statement.specs.inner.Movement.{came, sent}
use Rattle.inst_statement.specs.inner.Kept.{AreKept, is_same_transfer}
use Rattle.inst_statement.proofs.AmountAndTermsInHistory.{unsent, not_come}

pub put_first : {V : Type 0} (b : Bool) (o : Option V) (v : V) → (b ≡ true → o ≡ None) → or_else o (cond b (Some v) None) ≡ cond b (Some v) o
put_first true o v absent = ap (λ p. or_else p (Some v)) (absent refl)
put_first false o v absent = or_else-none o

-- an event that gives nothing
kept_first : {V : Type 0} (f : Event → Option V) (front : List Event) (event : Event) → f event ≡ None → first_some f front ≡ first_some f (front ++ event ∷ [])
kept_first f front event none = sym (first_some_push f front event ∙ ap (or_else (first_some f front)) none ∙ or_else-none (first_some f front))

-- an event that neither takes nor forwards
pub kept_other : {S : Type 0} (front : List Event) (event : Event) (taken : IndexMap (List ℕ) (ℕ × ℕ) S) (forwarded : IndexMap (ℕ × List ℕ) ℕ S) → ((id : List ℕ) → sent id event ≡ None) → ((from : ℕ) (id : List ℕ) → came from id event ≡ None)
    → AreKept front taken forwarded → AreKept (front ++ event ∷ []) taken forwarded
kept_other front event taken forwarded none_sent none_came kept = record {
  sent_terms = λ q. kept.sent_terms q ∙ kept_first (sent q) front event (none_sent q);
  came_amount = λ q. kept.came_amount q ∙ kept_first (came q.0 q.1) front event (none_came q.0 q.1);
}

pub kept_taken : {S : Type 0} (front : List Event) (id : List ℕ) (to cents stamp : ℕ) (taken new : IndexMap (List ℕ) (ℕ × ℕ) S) (forwarded : IndexMap (ℕ × List ℕ) ℕ S) → is_taken id front ≡ false → Updates same_text taken new id (Some (to, cents))
    → AreKept front taken forwarded → AreKept (front ++ Taken id to cents stamp ∷ []) new forwarded
kept_taken front id to cents stamp taken new forwarded is_new updates kept = record {
  sent_terms = λ q.
      let before : Option (ℕ × ℕ) = first_some (sent q) front in
      updates.0 q ∙ ap (cond (same_text id q) (Some (to, cents))) (kept.sent_terms q)
      ∙ sym (put_first (same_text id q) before (to, cents) (λ same. unsent q front (ap (λ (i : List ℕ). is_taken i front) (sym (text_same id q (sym same))) ∙ is_new)))
      ∙ sym (first_some_push (sent q) front (Taken id to cents stamp));
  came_amount = λ q. kept.came_amount q ∙ kept_first (came q.0 q.1) front (Taken id to cents stamp) refl;
}

pub kept_forwarded : {S : Type 0} (front : List Event) (from : ℕ) (id : List ℕ) (cents deadline : ℕ) (taken : IndexMap (List ℕ) (ℕ × ℕ) S) (forwarded new : IndexMap (ℕ × List ℕ) ℕ S) → is_forwarded from id front ≡ false → Updates is_same_transfer forwarded new (from, id) (Some cents)
    → AreKept front taken forwarded → AreKept (front ++ Forwarded from id cents deadline ∷ []) taken new
kept_forwarded front from id cents deadline taken forwarded new is_new updates kept = record {
  sent_terms = λ q. kept.sent_terms q ∙ kept_first (sent q) front (Forwarded from id cents deadline) refl;
  came_amount = λ q.
      let before : Option ℕ = first_some (came q.0 q.1) front in
      updates.0 q ∙ ap (cond (same_transfer q.0 q.1 from id) (Some cents)) (kept.came_amount q)
      ∙ sym (put_first (same_transfer q.0 q.1 from id) before cents (λ same.
      let parts = and_parts (from == q.0) (same_text id q.1) same in
      not_come q.0 q.1 front
      (ap (λ f. is_forwarded f q.1 front) (sym (eqb-true from q.0 parts.0)) ∙ ap (λ (i : List ℕ). is_forwarded from i front) (sym (text_same id q.1 (sym parts.1))) ∙ is_new)))
      ∙ sym (first_some_push (came q.0 q.1) front (Forwarded from id cents deadline));
}
