use Rattle.std.proofs.Common.{◌≡◌, ◌<◌, ℕ, arith, sym, ap, ◌∙◌, subst, List, inl, inr, Some}
use Rattle.std.specs.Global.{Box}
use Rattle.std.proofs.lemmas.Bool.{cases_eq}
use mathlib.Core.Option.{some-injective}
use Rattle.inst_journal.specs.declared.event.Event.{Event}
use Rattle.inst_journal.specs.Sound.{IsSound}
use Rattle.inst_row.specs.declared.ended.EndedRow.{EndedRow}
use Rattle.inst_row.specs.Ended.{Lies, IsOut}
use Rattle.inst_row.specs.Row.{key_of, size}
use Rattle.inst_row.specs.Seated.{HasSeen, GoesOn}
use Rattle.inst_hub.specs.Founding.{IsSince}
use Rattle.inst_hub.specs.inner.Closing.{IsTakenOut}
use Rattle.inst_participant.specs.declared.participant.Participant.{Participant}
use Rattle.inst_hub.proofs.JoinedSeatsOfTellers.{one_out}
use Rattle.inst_hub.proofs.hub.closing.empty.Goals as goal

same_value : {T : Type 0} (p : ℕ) (x y : T) (e : EndedRow T) → Lies p x e → Lies p y e → x ≡ y
same_value p x y e one two = let is : Some x ≡ Some y = some-injective (Some x) (Some y) (sym one.value ∙ two.value) in cc

pub take-requires : goal.take-requires
take-requires c =
    let inv = c.loop-lock.invariant in
    let p : ℕ = c.loop-lock.lock in
    let below : p < size c.args.row = omega (arith, c.loop-lock-test.true, c.len-lock-end.ensures, c.take_apart-ended.ensures.enough) in
    let v = c.take_apart-ended.ensures.values p below in
    record { lock = omega (arith, below, inv.locks); lies = (v.0, inv.left p v.0 (omega arith) v.1) }

pub loop-lock-preserved : goal.loop-lock-preserved
loop-lock-preserved c =
    let inv = c.loop-lock.invariant in
    let took = c.take.ensures in
    let p : ℕ = c.loop-lock.lock in
    let below : p < size c.args.row = omega (arith, c.loop-lock-test.true, c.len-lock-end.ensures, c.take_apart-ended.ensures.enough) in
    let v = c.take_apart-ended.ensures.values p below in
    let same = same_value p v.0 c.take.result c.loop-lock.ended (inv.left p v.0 (omega arith) v.1) took.value in
    let inner = c.into_inner-slot.ensures in
    let x = c.into_inner-slot.result in
    let value : v.0.value ≡ x = ap (λ (b : Box Participant). b.value) same ∙ sym inner in
    let since : IsSince (key_of c.args.row) p x = subst (λ (z : Participant). IsSince (key_of c.args.row) p z) value v.2 in
    let goes_on : GoesOn p x.slot.events c.args.seat = subst (λ (z : Participant). GoesOn p z.slot.events c.args.seat) value v.3 in
    let seen : HasSeen p x.slot.events c.args.seat = subst (λ (z : Participant). HasSeen p z.slot.events c.args.seat) value v.4 in
    let sound : IsSound x.slot.settings x.slot.who x.slot.events = subst (λ (J : List Event). IsSound x.slot.settings x.slot.who J) c.journal.ensures.events c.journal.ensures.sound in
    let new : IsTakenOut (key_of c.args.row) c.args.seat p x.slot x.board = record { since = since; sound = sound; goes_on = goes_on; seen = seen } in
    record {
      locks = took.others.locks ∙ inv.locks;
      left = λ k y from lies. took.others.there k y (λ here. absurd (omega (arith, from, here))) (inv.left k y (omega (arith, from)) lies);
      out = λ k small. elim (cases_eq k p) [
        | inl here ↦ subst (λ i. IsOut i c.take.new.self) (sym here) took.out
        | inr other ↦ took.others.out k (inv.out k (omega (arith, small, other)))
      ];
      room = (omega (arith, inv.room.0, c.push_reserved.ensures.capacity), omega (arith, inv.room.1, c.push_reserved-in-loop-lock.ensures.capacity));
      taken = one_out (key_of c.args.row) p c.args.seat c.loop-lock.slots.items c.push_reserved.new.self.items c.loop-lock.boards.items c.push_reserved-in-loop-lock.new.self.items x.slot x.board inv.taken new c.push_reserved.ensures.items c.push_reserved-in-loop-lock.ensures.items;
    }
