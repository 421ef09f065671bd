use Rattle.std.proofs.Common.{◌≡◌, ◌++◌, ◌∷◌, [], ◌||◌, false, true, not, take, take_all, length, ℕ, ◌+◌, Bool, List, sym, ap, subst, ◌∙◌, arith}
use Rattle.std.specs.Prelude.{map, slice_get}
use Rattle.std.specs.List.{filter}
use Rattle.std.proofs.lemmas.List.{map-append, length-map}
use Rattle.inst_base.specs.Moment.{is_moment}
use Rattle.inst_base.specs.TimeLimit.{deadline_of}
use Rattle.inst_due.specs.Due.{has, is_of}
use Rattle.inst_settings.specs.Settings.{HubSettings}
use Rattle.inst_journal.specs.declared.event.Event.{Event}
use Rattle.inst_journal.specs.Booked.{booked}
use Rattle.inst_journal.specs.Opened.{takes_live}
use Rattle.inst_journal.specs.Sound.{Fits}
use Rattle.inst_slot.specs.Waiting.{deadline_in, own_deadlines, takes_waiting}
use Rattle.inst_slot.proofs.OwnTransfersThatWait.{at_deadline, deadline_more, carried_waits}
use Rattle.inst_ledger.proofs.HistoryEventByEvent.{fits_at_place, one_more}
use Rattle.inst_slot.proofs.SlotOpensAgain.{taken_of, taken_next, taken_still, takes_of, takes_none, next_within}
use Rattle.inst_slot.proofs.waiting.carried_waiting.Goals as goal
use Rattle.inst_slot.proofs.waiting.carried_waiting.Goals.{in-Taken+then-is_none+in_ok-add, in-Taken+else-is_none, in_default}

pub deadline-requires : goal.deadline-requires
deadline-requires c =
    let book = c.args.ledger.now.book in
    let i : ℕ = c.loop-event.event-index in
    let fits = subst (λ (x : Event). Fits book.settings book.who (take i book.events) x) c.in-Taken.is
    (fits_at_place book.settings book.who book.events c.events-event-items.result.now i c.event-item.result (c.events-event-items.ensures ∙ c.journal.ensures.events) c.journal.ensures.sound c.loop-event-test.true c.event-item.is) in
    subst (λ (n : ℕ). is_moment (deadline_of n c.in-Taken.stamp) ≡ true) (sym (c.limit.ensures.value ∙ ap (λ (s : HubSettings). s.limit) c.settings.ensures.value)) fits.deadline

pub add-requires : goal.add-requires
add-requires c =
    let book = c.args.ledger.now.book in
    let J : List Event = book.events in
    let i : ℕ = c.loop-event.event-index in
    let x : Event = c.event-item.result in
    let more = one_more J c.events-event-items.result.now i x (c.events-event-items.ensures ∙ c.journal.ensures.events) c.loop-event-test.true c.event-item.is in
    let here = takes_of book.who J x c.in-Taken.id c.in-Taken.to c.in-Taken.cents c.in-Taken.stamp c.booked.result false c.in-Taken.is
    (c.booked.ensures ∙ ap (λ (n : ℕ). booked n c.in-Taken.id J) c.who.ensures) c.if-is_none.ensures in
    let below = next_within book.settings book.who J i x c.requires c.journal.ensures.sound more here in
    let long : length c.loop-event.waiting.deadlines ≡ length (taken_of book.who J (take i J)) = ap length c.loop-event.invariant.0 ∙ length-map (taken_of book.who J (take i J)) (deadline_in book.settings) in
    omega (arith, below, long, c.journal.ensures.lawful.places_most)

pub loop-event-preserved : goal.loop-event-preserved
loop-event-preserved c =
    let book = c.args.ledger.now.book in
    let s : HubSettings = book.settings in
    let J : List Event = book.events in
    let i : ℕ = c.loop-event.event-index in
    let x : Event = c.event-item.result in
    let before : List Event = taken_of book.who J (take i J) in
    let D : List ℕ = c.loop-event.waiting.deadlines in
    let more : take (i + 1) J ≡ take i J ++ x ∷ [] = one_more J c.events-event-items.result.now i x (c.events-event-items.ensures ∙ c.journal.ensures.events) c.loop-event-test.true c.event-item.is in
    elim c.match-event.branch [
      | in-Taken+then-is_none+in_ok-add w ↦
          let t = w.in-Taken in
          let here = takes_of book.who J x t.id t.to t.cents t.stamp w.booked.result false t.is (w.booked.ensures ∙ ap (λ (n : ℕ). booked n t.id J) w.who.ensures) w.if-is_none.ensures in
          let next = taken_next book.who J (take i J) (take (i + 1) J) x more here in
          let due : w.deadline.result ≡ deadline_in s x =
          w.deadline.ensures ∙ ap (λ (n : ℕ). deadline_of n t.stamp) (w.limit.ensures.value ∙ ap (λ (s : HubSettings). s.limit) w.settings.ensures.value) ∙ ap (deadline_in s) (sym t.is) in
          let added = w.in_ok-add.ensures.deadlines in (
            ap (λ v. v.deadlines) w.waiting-is ∙ added ∙ ap (λ (l : List ℕ). l ++ w.deadline.result ∷ []) c.loop-event.invariant.0 ∙ ap (λ (n : ℕ). map (deadline_in s) before ++ n ∷ []) due
                ∙ sym (ap (map (deadline_in s)) next ∙ map-append (deadline_in s) before (x ∷ [])),
            λ d k. ap (λ v. has v.pairs d k) w.waiting-is ∙ w.in_ok-add.ensures.pairs d k ∙ ap (λ (b : Bool). b || is_of w.deadline.result (length D) (d, k)) (c.loop-event.invariant.1 d k)
                ∙ sym (deadline_more d w.deadline.result D k) ∙ ap (λ (l : List ℕ). at_deadline d (slice_get l k)) (sym added) ∙ ap (λ v. at_deadline d (slice_get v.deadlines k)) (sym w.waiting-is),
          )
      | in-Taken+else-is_none w ↦
          let t = w.in-Taken in
          let here = takes_of book.who J x t.id t.to t.cents t.stamp w.booked.result true t.is (w.booked.ensures ∙ ap (λ (n : ℕ). booked n t.id J) w.who.ensures) (w.is_none.ensures ∙ ap not w.if-is_none.false) in (
            ap (λ v. v.deadlines) w.waiting-is ∙ c.loop-event.invariant.0 ∙ ap (map (deadline_in s)) (sym (taken_still book.who J (take i J) (take (i + 1) J) x more here)),
            λ d k. ap (λ v. has v.pairs d k) w.waiting-is ∙ c.loop-event.invariant.1 d k ∙ ap (λ v. at_deadline d (slice_get v.deadlines k)) (sym w.waiting-is),
          )
      | in_default w ↦
          let here = takes_none book.who J x (λ id to cents stamp e. w.in_default.not-Taken id to cents stamp e) in (
            ap (λ v. v.deadlines) w.waiting-is ∙ c.loop-event.invariant.0 ∙ ap (map (deadline_in s)) (sym (taken_still book.who J (take i J) (take (i + 1) J) x more here)),
            λ d k. ap (λ v. has v.pairs d k) w.waiting-is ∙ c.loop-event.invariant.1 d k ∙ ap (λ v. at_deadline d (slice_get v.deadlines k)) (sym w.waiting-is),
          )
    ]

pub returns : goal.returns
returns c =
    let book = c.args.ledger.now.book in
    let s : HubSettings = book.settings in
    let J : List Event = book.events in
    let i : ℕ = c.loop-event.event-index in
    let same = c.events-event-items.ensures ∙ c.journal.ensures.events in
    let whole : take i J ≡ J = take_all i J (omega (arith, ap length same)) in
    let all : map (deadline_in s) (taken_of book.who J (take i J)) ≡ own_deadlines s book.who J =
    ap (λ (l : List Event). map (deadline_in s) (taken_of book.who J l)) whole ∙ ap (λ (C : List Event). map (deadline_in s) (filter (takes_live book.who C) J)) (sym c.requires) in
    let D = c.loop-event.invariant.0 ∙ all in
    record {
      ok = record {
        deadlines = D;
        pairs = λ d k. c.loop-event.invariant.1 d k ∙ ap (λ (l : List ℕ). at_deadline d (slice_get l k)) (c.loop-event.invariant.0 ∙ ap (λ (l : List Event). map (deadline_in s) (taken_of book.who J l)) whole)
            ∙ carried_waits s book.who J d J k ∙ ap (λ (C : List Event). takes_waiting s book.who J d (slice_get (filter (takes_live book.who C) J) k)) (sym c.requires);
      };
    }
