use Rattle.std.proofs.Common.{◌≡◌, sym, refl, subst, arith, ℕ, List, ◌+◌, true, false}
use Rattle.inst_journal.specs.declared.event.Event.{Event}
use Rattle.inst_journal.specs.Opened.{is_opening}
use Rattle.inst_journal.proofs.EventsCarriedOverOpening.{LastOpened, last_opened, last_before, carried_all, current_all}
use Rattle.inst_journal.proofs.opened.carried_length.Goals as goal
use Rattle.inst_journal.proofs.opened.carried_length.Goals.{then-is_opening, else-is_opening}

pub loop-index-init : goal.loop-index-init
loop-index-init c = record { within = omega arith; carried_is = refl }

pub loop-index-preserved : goal.loop-index-preserved
loop-index-preserved c =
    let J : List Event = c.args.events.now in
    let i : ℕ = c.loop-index.index in
    let x : Event = c.index-events-index.result in
    elim c.if-is_opening.branch [
      | then-is_opening w ↦
          let opened : is_opening x ≡ true = cc in
          subst (LastOpened J (i + 1)) (sym w.carried-is) (last_opened J i 0 x (omega arith) c.index-events-index.is opened)
      | else-is_opening w ↦
          let other : is_opening x ≡ false = cc in
          subst (LastOpened J (i + 1)) (sym w.carried-is) (last_before J i c.loop-index.carried x (omega arith) c.index-events-index.is other c.loop-index.invariant)
    ]

pub returns-clause-within : goal.returns-clause-within
returns-clause-within c = omega (arith, c.loop-index.invariant.within, c.loop-index.auto.index-end)

pub returns-clause-carried : goal.returns-clause-carried
returns-clause-carried c = carried_all c.args.events.now c.loop-index.index c.loop-index.carried (omega arith) c.loop-index.invariant

pub returns-clause-current : goal.returns-clause-current
returns-clause-current c =
    current_all c.args.events.now c.loop-index.carried (omega (arith, c.loop-index.invariant.within, c.loop-index.auto.index-end))
    (carried_all c.args.events.now c.loop-index.index c.loop-index.carried (omega arith) c.loop-index.invariant)
