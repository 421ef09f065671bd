use Rattle.std.proofs.Common.{◌≡◌, ◌++◌, ◌∷◌, [], true, false, not, take, length, ℕ, ◌+◌, List, Option, None, arith, sym, ap, subst, ◌∙◌}
use Rattle.std.proofs.lemmas.Grind.{common_steps}
use Rattle.std.specs.List.{cons_option}
use Rattle.inst_command.specs.declared.entry.Entry.{Entry}
use Rattle.inst_journal.specs.declared.event.Event.{Event}
use Rattle.inst_journal.specs.Booked.{booked}
use Rattle.inst_journal.specs.Reply.{entry_of}
use Rattle.inst_transfers.specs.State.{row_of}
use Rattle.inst_slot.specs.declared.arrivals.Spot.{Spot}
use Rattle.inst_ledger.proofs.HistoryEventByEvent.{one_more}
use Rattle.inst_slot.proofs.SlotOpensAgain.{arrived_still, arrived_settled, arrived_live, live_of, forwards_none}
use Rattle.inst_slot.proofs.SpotsOfCarriedTransfers.{AreWalked, walked_by, walked_to, rows_none, row_here}
use Rattle.inst_slot.proofs.arrivals.carried_arrivals.Goals as goal
use Rattle.inst_slot.proofs.arrivals.carried_arrivals.Goals.{in-Taken, in-Forwarded, then-is_none+in_ok-push-in-Forwarded, else-is_none, in_default}

pub loop-event-preserved : goal.loop-event-preserved
loop-event-preserved c =
    let who : ℕ = c.args.ledger.now.book.who in
    let J : List Event = c.args.ledger.now.book.events in
    let i : ℕ = c.loop-event.event-index in
    let x : Event = c.event-item.result in
    let S : List Spot = c.loop-event.spots.items in
    let n : ℕ = c.loop-event.position in
    let more : take (i + 1) J ≡ take i J ++ x ∷ [] = one_more J c.events-event-items.result.now i x (c.events-event-items.ensures ∙ c.journal.ensures.events) c.loop-event-test.true c.event-item.is in
    let before = c.loop-event.invariant.0 in
    elim c.match-event.branch [
      | in-Taken w ↦ (
        subst (λ (l : List Spot). AreWalked who J (take (i + 1) J) l c.match-event.position) (λ j. (sym w.spots-is j).items)
            (walked_by who J (take i J) (take (i + 1) J) x S n c.match-event.position more (arrived_still J (take i J) (take (i + 1) J) x more (ap entry_of w.in-Taken.is))
            (w.position-is ∙ ap (λ (y : Event). n + length (cons_option (row_of who y) [])) (sym w.in-Taken.is)) before),
        omega (arith, w.position-is, c.loop-event.invariant.1),
      )
      | in-Forwarded w ↦
          let f = w.in-Forwarded in
          let e : Entry = record { from = f.from; id = f.id; cents = f.cents; deadline = f.deadline } in
          let here = (row_here who J i x e n more (ap (row_of who) f.is) before.2).0 in
          let known = w.booked_at.ensures ∙ ap (λ (e : Entry). booked e.from e.id J) here in
          elim w.if-is_none.branch [
            | then-is_none+in_ok-push-in-Forwarded v ↦
                let live = live_of J f.from f.id w.booked_at.result false c.requires known (w.is_none.ensures ∙ ap not v.if-is_none.true) in
                let spots : c.match-event.spots.items ≡ S ++ record { position = n; index = None } ∷ [] = (λ j. ((w.spots-is ∙ v.spots-is) j).items) ∙ v.in_ok-push-in-Forwarded.ensures.items in (
                  subst (λ (l : List Spot). AreWalked who J (take (i + 1) J) l c.match-event.position) (sym spots)
                      (subst (λ (m : ℕ). AreWalked who J (take (i + 1) J) (S ++ record { position = n; index = None } ∷ []) m) (sym w.position-is)
                      (walked_to who J (take i J) (take (i + 1) J) x e S n more (ap (row_of who) f.is) (arrived_live J (take i J) (take (i + 1) J) x e more (ap entry_of f.is) live) before)),
                  omega (arith, w.position-is, c.loop-event.invariant.1),
                )
            | else-is_none v ↦
                let settled = live_of J f.from f.id w.booked_at.result true c.requires known (w.is_none.ensures ∙ ap not v.if-is_none.false) in (
                  subst (λ (l : List Spot). AreWalked who J (take (i + 1) J) l c.match-event.position) (λ j. (sym (w.spots-is ∙ v.spots-is) j).items)
                      (walked_by who J (take i J) (take (i + 1) J) x S n c.match-event.position more (arrived_settled J (take i J) (take (i + 1) J) x e more (ap entry_of f.is) settled)
                      (w.position-is ∙ ap (λ (y : Event). n + length (cons_option (row_of who y) [])) (sym f.is)) before),
                  omega (arith, w.position-is, c.loop-event.invariant.1),
                )
          ]
      | in_default w ↦
          let none = forwards_none x (λ from id cents deadline e. w.in_default.not-Forwarded from id cents deadline e) in
          let no_row = rows_none who x (λ id to cents stamp e. w.in_default.not-Taken id to cents stamp e) (λ from id cents deadline e. w.in_default.not-Forwarded from id cents deadline e) in (
            subst (λ (l : List Spot). AreWalked who J (take (i + 1) J) l c.match-event.position) (λ j. (sym w.spots-is j).items)
                (walked_by who J (take i J) (take (i + 1) J) x S n c.match-event.position more (arrived_still J (take i J) (take (i + 1) J) x more none)
                (omega (arith, w.position-is, ap (λ (o : Option Entry). length (cons_option o [])) no_row)) before),
            omega (arith, w.position-is, c.loop-event.invariant.1),
          )
    ]

pub booked_at-requires : goal.booked_at-requires
booked_at-requires c =
    let who : ℕ = c.args.ledger.now.book.who in
    let J : List Event = c.args.ledger.now.book.events in
    let i : ℕ = c.loop-event.event-index in
    let x : Event = c.event-item.result in
    let f = c.in-Forwarded in
    let e : Entry = record { from = f.from; id = f.id; cents = f.cents; deadline = f.deadline } in
    let more : take (i + 1) J ≡ take i J ++ x ∷ [] = one_more J c.events-event-items.result.now i x (c.events-event-items.ensures ∙ c.journal.ensures.events) c.loop-event-test.true c.event-item.is in
    (row_here who J i x e c.loop-event.position more (ap (row_of who) f.is) c.loop-event.invariant.0.2).1

pub returns-clause-ok : goal.returns-clause-ok
returns-clause-ok c = grind (arith, common_steps)

pub returns-clause-spots : goal.returns-clause-spots
returns-clause-spots c = grind (arith, common_steps)
