use Rattle.std.proofs.Common.{Bool, true, false, Option, IsSome, IfSome, ◌↔◌, IsTrue, refl, sym, subst}
use Rattle.std.specs.Bool.{then_some}
use Rattle.inst_journal.specs.Sound.{IsSound}
use Rattle.inst_ledger.specs.Book.{LedgerBook}
use Rattle.inst_books.proofs.audit.replayed.Goals as goal

some_where : {T : Type 0} (can : Bool) (x : T) → IsSome (then_some can x) ↔ IsTrue can
some_where true x = (λ _. refl, λ _. refl)
some_where false x = (λ is. is, λ is. is)

some_if : {T : Type 0} (can : Bool) (x : T) (P : T → Type 0) → (IsTrue can → P x) → IfSome (then_some can x) P
some_if true x P is = is refl
some_if false x P is = tt

pub returns-clause-sound : goal.returns-clause-sound
returns-clause-sound c =
    let is_sound : IsTrue c.in_ok-is_sound.is_sound ↔ IsSound c.args.settings.now c.args.who c.args.journal.now.events =
    subst (λ (b : LedgerBook). IsTrue c.in_ok-is_sound.is_sound ↔ IsSound b.settings b.who c.args.journal.now.events) c.in_ok-replay.ensures.ok c.in_ok-is_sound.ensures.sound in
    let some : IsSome c.then_some.result ↔ IsTrue c.in_ok-is_sound.is_sound =
    subst (λ (kept : Option LedgerBook). IsSome kept ↔ IsTrue c.in_ok-is_sound.is_sound) (sym c.then_some.ensures) (some_where c.in_ok-is_sound.is_sound _) in
    (λ kept. is_sound.0 (some.0 kept), λ book. some.1 (is_sound.1 book))
