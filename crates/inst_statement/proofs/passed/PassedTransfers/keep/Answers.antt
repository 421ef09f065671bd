use Rattle.std.proofs.Common.{◌≡◌, ◌∷◌, [], ◌++◌, List, ℕ, None, refl, sym, subst}
use Rattle.inst_journal.specs.declared.event.Event.TheVariants.{Funded, Defunded, Taken, Forwarded, Booked, Fetched, Opened}
use Rattle.inst_journal.specs.declared.event.Event.{Event}
use Rattle.inst_statement.specs.inner.Movement.{sent, came}
use Rattle.inst_statement.specs.inner.Kept.{AreKept, IsNewTransfer}
use Rattle.inst_statement.proofs.Tables.{kept_taken, kept_forwarded, kept_other}
use Rattle.inst_statement.proofs.passed.PassedTransfers.keep.Goals as goal

none_sent : (event : Event) → ((id : List ℕ) (to cents stamp : ℕ) → event ≡ Taken id to cents stamp → ⊥) → (id : List ℕ) → sent id event ≡ None
none_sent (Taken other to cents stamp) other_kind id = absurd (other_kind other to cents stamp refl)
none_sent (Funded funding) other_kind id = refl
none_sent (Defunded funding) other_kind id = refl
none_sent (Forwarded from other cents deadline) other_kind id = refl
none_sent (Booked from other outcome) other_kind id = refl
none_sent (Fetched count) other_kind id = refl
none_sent Opened other_kind id = refl

none_came : (event : Event) → ((from : ℕ) (id : List ℕ) (cents deadline : ℕ) → event ≡ Forwarded from id cents deadline → ⊥) → (from : ℕ) (id : List ℕ) → came from id event ≡ None
none_came (Forwarded other_from other cents deadline) other_kind from id = absurd (other_kind other_from other cents deadline refl)
none_came (Funded funding) other_kind from id = refl
none_came (Defunded funding) other_kind from id = refl
none_came (Taken other to cents stamp) other_kind from id = refl
none_came (Booked other_from other outcome) other_kind from id = refl
none_came (Fetched count) other_kind from id = refl
none_came Opened other_kind from id = refl

pub returns-in_ok-insert-in-Taken : goal.returns-in_ok-insert-in-Taken
returns-in_ok-insert-in-Taken c = record {
  kept = λ front new kept.
      let e = c.in-Taken in
      subst (λ event. AreKept (front ++ event ∷ []) c.insert.new.self c.args.self.now.forwarded) (sym e.is)
      (kept_taken front e.id e.to e.cents e.stamp c.args.self.now.taken c.insert.new.self c.args.self.now.forwarded (subst (IsNewTransfer front) e.is new) c.in_ok-insert-in-Taken.ensures.updates kept);
}

pub returns-in_ok-insert-in-Forwarded : goal.returns-in_ok-insert-in-Forwarded
returns-in_ok-insert-in-Forwarded c = record {
  kept = λ front new kept.
      let e = c.in-Forwarded in
      subst (λ event. AreKept (front ++ event ∷ []) c.args.self.now.taken c.insert-in-Forwarded.new.self) (sym e.is)
      (kept_forwarded front e.from e.id e.cents e.deadline c.args.self.now.taken c.args.self.now.forwarded c.insert-in-Forwarded.new.self (subst (IsNewTransfer front) e.is new) c.in_ok-insert-in-Forwarded.ensures.updates kept);
}

pub returns-in_default : goal.returns-in_default
returns-in_default c = record {
  kept = λ front new kept.
      kept_other front c.args.event.now c.args.self.now.taken c.args.self.now.forwarded
      (λ id. none_sent c.args.event.now c.in_default.not-Taken id) (λ from id. none_came c.args.event.now c.in_default.not-Forwarded from id) kept;
}
