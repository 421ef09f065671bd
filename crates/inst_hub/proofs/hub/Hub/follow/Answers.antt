use Rattle.std.proofs.Common.{◌≡◌, ◌∙◌, ℕ, Option, sym, subst}
use Rattle.inst_row.specs.Row.{key_of}
use Rattle.inst_row.specs.Seated.{GoesOn, Sees}
use Rattle.inst_participant.specs.declared.follow_up.FollowUp.{FollowUp}
use Rattle.inst_hub.specs.declared.teller.Teller.{Teller}
use Rattle.inst_hub.specs.Founding.{IsSince}
use Rattle.inst_hub.specs.inner.Calls.{Follows}
use Rattle.inst_hub.proofs.CallUnderLock.{out_of_box, seen_still, follows_one}
use Rattle.inst_participant.proofs.LaterParticipant.{behind_later}
use Rattle.inst_participant.proofs.HistoryAfterServedAsk.{told_grows}
use Rattle.inst_hub.proofs.CarriedHistoryStays.{since_later, told_carries}
use Rattle.inst_hub.proofs.hub.Hub.follow.Goals as goal

pub give-requires-clause-has : goal.give-requires-clause-has
give-requires-clause-has g c =
    let x = c.deref_mut.result.now in
    let found = out_of_box (key_of c.args.self.now.row) c.from-lock.result c.args.teller.now.seat c.take-participant.new.seat c.take-participant.result x c.deref_mut.ensures.value
    c.take-participant.ensures.found.lawful c.take-participant.ensures.found.goes_on c.take-participant.ensures.taken.has c.take-participant.ensures.taken.sees in
    (x.slot.events, found.has, told_grows _ _ c.follow.ensures.told)

pub give-requires-clause-law : goal.give-requires-clause-law
give-requires-clause-law g c =
    let x = c.deref_mut.result.now in
    let found = out_of_box (key_of c.args.self.now.row) c.from-lock.result c.args.teller.now.seat c.take-participant.new.seat c.take-participant.result x c.deref_mut.ensures.value
    c.take-participant.ensures.found.lawful c.take-participant.ensures.found.goes_on c.take-participant.ensures.taken.has c.take-participant.ensures.taken.sees in
    since_later (key_of c.args.self.now.row) c.from-lock.result c.take-participant.result x c.follow.new.self c.deref_mut.ensures.value c.take-participant.ensures.found.lawful
    (behind_later (key_of c.args.self.now.row).words.value c.from-lock.result x c.follow.new.self found.law.behind c.follow.ensures.later c.follow.ensures.ready)
    (told_carries x.slot.events c.follow.new.self.slot.events c.follow.ensures.told)

pub returns-clause-knows : goal.returns-clause-knows
returns-clause-knows g c = record {
  facts = λ f k. k;
  fronts = λ p J seen. seen_still _ p _ J _ _ c.give.ensures.sees (seen_still _ p _ J _ _ c.take-participant.ensures.taken.sees seen);
  parts = c.give.ensures.sees.parts ∙ c.take-participant.ensures.taken.sees.parts;
}

pub returns-clause-follows : goal.returns-clause-follows
returns-clause-follows g c =
    let f : FollowUp = c.in-Some.field-0 in
    let at : c.from-lock.result ≡ f.who = c.from-lock.ensures in
    let h = c.args.self.now in
    let t = c.args.teller.now in
    let u : Teller = record { sight = t.sight; seat = c.give.new.seat } in
    let x = c.deref_mut.result.now in
    let found = out_of_box (key_of c.args.self.now.row) c.from-lock.result c.args.teller.now.seat c.take-participant.new.seat c.take-participant.result x c.deref_mut.ensures.value
    c.take-participant.ensures.found.lawful c.take-participant.ensures.found.goes_on c.take-participant.ensures.taken.has c.take-participant.ensures.taken.sees in
    let y = c.follow.new.self in
    subst (λ (o : Option FollowUp). Follows h o t u) (sym c.in-Some.is)
    (follows_one h f t c.take-participant.new.seat c.give.new.seat x y c.follow.result (subst (λ (n : ℕ). IsSince (key_of h.row) n x) at found.law)
    (subst (λ (n : ℕ). GoesOn n x.slot.events t.seat) at found.goes_on)
    (subst (λ (n : ℕ). Sees n x.slot.events t.seat c.take-participant.new.seat) at found.sees)
    (subst (λ (n : ℕ). Sees n y.slot.events c.take-participant.new.seat c.give.new.seat) at c.give.ensures.sees) c.follow.ensures.does)
