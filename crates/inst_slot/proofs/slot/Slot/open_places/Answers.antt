use Rattle.std.proofs.Common.{◌≡◌, ◌++◌, ◌∷◌, [], true, false, not, length, length-append, take, ℕ, ◌+◌, List, arith, sym, ap, subst, ◌∙◌}
use Rattle.std.specs.Prelude.{IsTrue}
use Rattle.std.specs.List.{filter}
use Rattle.std.proofs.lemmas.List.{take_all}
use Rattle.inst_base.specs.Moment.{is_moment}
use Rattle.inst_base.specs.TimeLimit.{deadline_of}
use Rattle.inst_settings.specs.Settings.{HubSettings, is_participant}
use Rattle.inst_settings.specs.Lawful.{IsSettings}
use Rattle.inst_journal.specs.Booked.{booked}
use Rattle.inst_journal.specs.declared.event.Event.{Event}
use Rattle.inst_journal.specs.declared.event.Event.TheVariants.{Taken}
use Rattle.inst_journal.specs.Opened.{live_taken, takes_live}
use Rattle.inst_journal.specs.Sound.{Fits, IsSound}
use Rattle.inst_board.specs.Learning.{Learns}
use Rattle.inst_board.specs.Standing.{pending}
use Rattle.inst_slot.specs.Book.{Book, place_at, terms_to}
use Rattle.inst_slot.specs.Opening.{OpensPlaces}
use Rattle.inst_ledger.proofs.HistoryEventByEvent.{fits_at_place, one_more}
use Rattle.inst_slot.proofs.SlotOpensAgain.{taken_of, taken_still, taken_next, takes_of, takes_none, next_within, next_place, next_unopened, opened_more, OpenedSoFar}
use Rattle.inst_slot.proofs.slot.Slot.open_places.Goals as goal
use Rattle.inst_slot.proofs.slot.Slot.open_places.Goals.{in-Taken+then-is_none, in-Taken+else-is_none, in_default}

pub open_place-requires-clause-place : goal.open_place-requires-clause-place
open_place-requires-clause-place g c =
    let b = g.B.Board in
    let book : Book = c.args.self.now in
    let same = c.events-event-items.ensures ∙ c.journal.ensures.events ∙ ap (λ (x : Book). x.events) c.self.view_is in
    let sound = subst (λ (x : Book). IsSound x.settings x.who x.events) c.self.view_is c.self.invariant.0.1 in
    let here = takes_of book.who book.events c.event-item.result c.in-Taken.id c.in-Taken.to c.in-Taken.cents c.in-Taken.stamp c.booked.result false c.in-Taken.is
    (c.booked.ensures ∙ ap (λ (n : ℕ). booked n c.in-Taken.id c.self.inside.ledger.book.events) c.who.ensures ∙ ap (λ (x : Book). booked book.who c.in-Taken.id x.events) c.self.view_is) c.if-is_none.ensures in
    let more = one_more book.events c.events-event-items.result.now c.loop-event.event-index c.event-item.result same c.loop-event-test.true c.event-item.is in
    let below = next_within book.settings book.who book.events c.loop-event.event-index c.event-item.result c.requires.opened sound more here in
    let o = c.loop-event.invariant.0 in
    next_place (b.settings c.loop-event.board) book.settings book.who c.loop-event.index
    (g.met.B.Board.stays_settings c.args.board.now c.loop-event.board o.same_holder ∙ c.requires.board.same_settings) c.requires.participant (omega (arith, c.loop-event.invariant.1, below))

pub open_place-requires-clause-beneficiary : goal.open_place-requires-clause-beneficiary
open_place-requires-clause-beneficiary g c =
    let b = g.B.Board in
    let book : Book = c.args.self.now in
    let same = c.events-event-items.ensures ∙ c.journal.ensures.events ∙ ap (λ (x : Book). x.events) c.self.view_is in
    let sound = subst (λ (x : Book). IsSound x.settings x.who x.events) c.self.view_is c.self.invariant.0.1 in
    let fits = subst (λ (x : Event). Fits book.settings book.who (take c.loop-event.event-index book.events) x) c.in-Taken.is
    (fits_at_place book.settings book.who book.events c.events-event-items.result.now c.loop-event.event-index c.event-item.result same sound c.loop-event-test.true c.event-item.is) in
    let o = c.loop-event.invariant.0 in
    let hub = g.met.B.Board.stays_settings c.args.board.now c.loop-event.board o.same_holder ∙ c.requires.board.same_settings in
    subst (λ (s : HubSettings). IsTrue (is_participant s c.in-Taken.to)) (sym hub) fits.beneficiary

pub open_place-requires-clause-own : goal.open_place-requires-clause-own
open_place-requires-clause-own g c =
    let o = c.loop-event.invariant.0 in
    (g.met.B.Board.stays_roles c.args.board.now c.loop-event.board c.args.self.now.who o.same_holder).0 c.requires.board.role

pub open_place-requires-clause-unused : goal.open_place-requires-clause-unused
open_place-requires-clause-unused g c =
    let b = g.B.Board in
    let book : Book = c.args.self.now in
    next_unopened b.settings b.knows b.has_role b.stood b.stays (λ x y. g.met.B.Board.stays_settings x y) (λ x y p. g.met.B.Board.stays_roles x y p) (λ x k t o. g.met.B.Board.stood_seldom x k t o) (λ x y z. g.met.B.Board.stays_on x y z)
    c.args.board.now c.loop-event.board book.settings book.who (taken_of book.who book.events (take c.loop-event.event-index book.events)) c.requires.board c.loop-event.invariant.0 c.loop-event.index c.loop-event.invariant.1

pub deadline-deadline-requires : goal.deadline-deadline-requires
deadline-deadline-requires g c =
    let book : Book = c.args.self.now in
    let same = c.events-event-items.ensures ∙ c.journal.ensures.events ∙ ap (λ (x : Book). x.events) c.self.view_is in
    let sound = subst (λ (x : Book). IsSound x.settings x.who x.events) c.self.view_is c.self.invariant.0.1 in
    let fits = subst (λ (x : Event). Fits book.settings book.who (take c.loop-event.event-index book.events) x) c.in-Taken.is
    (fits_at_place book.settings book.who book.events c.events-event-items.result.now c.loop-event.event-index c.event-item.result same sound c.loop-event-test.true c.event-item.is) in
    subst (λ (n : ℕ). is_moment (deadline_of n c.in-Taken.stamp) ≡ true) (sym (c.limit.ensures.value ∙ ap (λ (s : HubSettings). s.limit) c.settings.ensures.settings)) fits.deadline

pub overflow_add-index : goal.overflow_add-index
overflow_add-index g c =
    let book : Book = c.args.self.now in
    let same = c.events-event-items.ensures ∙ c.journal.ensures.events ∙ ap (λ (x : Book). x.events) c.self.view_is in
    let sound = subst (λ (x : Book). IsSound x.settings x.who x.events) c.self.view_is c.self.invariant.0.1 in
    let lawful = subst (λ (x : Book). IsSettings x.settings) c.self.view_is c.self.invariant.0.0 in
    let here = takes_of book.who book.events c.event-item.result c.in-Taken.id c.in-Taken.to c.in-Taken.cents c.in-Taken.stamp c.booked.result false c.in-Taken.is
    (c.booked.ensures ∙ ap (λ (n : ℕ). booked n c.in-Taken.id c.self.inside.ledger.book.events) c.who.ensures ∙ ap (λ (x : Book). booked book.who c.in-Taken.id x.events) c.self.view_is) c.if-is_none.ensures in
    let more = one_more book.events c.events-event-items.result.now c.loop-event.event-index c.event-item.result same c.loop-event-test.true c.event-item.is in
    let below = next_within book.settings book.who book.events c.loop-event.event-index c.event-item.result c.requires.opened sound more here in
    omega (arith, c.loop-event.invariant.1, below, lawful.places_most)

pub loop-event-preserved : goal.loop-event-preserved
loop-event-preserved g c =
    let b = g.B.Board in
    let book : Book = c.args.self.now in
    let first = c.args.board.now in
    let J : List Event = book.events in
    let i : ℕ = c.loop-event.event-index in
    let x : Event = c.event-item.result in
    let before : List Event = taken_of book.who J (take i J) in
    let after : List Event = taken_of book.who J (take (i + 1) J) in
    let same = c.events-event-items.ensures ∙ c.journal.ensures.events ∙ ap (λ (x : Book). x.events) c.self.view_is in
    let more : take (i + 1) J ≡ take i J ++ x ∷ [] = one_more J c.events-event-items.result.now i x same c.loop-event-test.true c.event-item.is in
    elim c.match-event.branch [
      | in-Taken+then-is_none w ↦
          let here = takes_of book.who J x w.in-Taken.id w.in-Taken.to w.in-Taken.cents w.in-Taken.stamp w.booked.result false w.in-Taken.is
          (w.booked.ensures ∙ ap (λ (n : ℕ). booked n w.in-Taken.id c.self.inside.ledger.book.events) w.who.ensures ∙ ap (λ (x : Book). booked book.who w.in-Taken.id x.events) c.self.view_is) w.if-is_none.ensures in
          let next : after ≡ before ++ x ∷ [] = taken_next book.who J (take i J) (take (i + 1) J) x more here in
          let e : Event = Taken w.in-Taken.id w.in-Taken.to w.in-Taken.cents w.in-Taken.stamp in
          let long : length after ≡ length before + 1 = ap length next ∙ length-append before (x ∷ []) in
          let due = w.deadline-deadline.ensures ∙ ap (λ (n : ℕ). deadline_of n w.in-Taken.stamp) (w.limit.ensures.value ∙ ap (λ (s : HubSettings). s.limit) w.settings.ensures.settings) in
          let so_far = opened_more b.settings b.knows b.has_role b.stood b.stays (λ x y. g.met.B.Board.stays_settings x y) (λ x y p. g.met.B.Board.stays_roles x y p) (λ x k t o. g.met.B.Board.stood_seldom x k t o) (λ x y z. g.met.B.Board.stays_on x y z)
          first c.loop-event.board book.settings book.who before c.requires.board c.loop-event.invariant.0 w.open_place.new.board c.loop-event.index w.in-Taken.id w.in-Taken.to w.in-Taken.cents w.in-Taken.stamp c.loop-event.invariant.1
          w.open_place.ensures.stays (subst (λ (d : ℕ). Learns (b.settings c.loop-event.board).margin b.knows c.loop-event.board (place_at book.who c.loop-event.index) (pending (terms_to w.in-Taken.to w.in-Taken.cents w.in-Taken.id) d) w.open_place.new.board) due w.open_place.ensures.opens) in
          let here_taken : before ++ e ∷ [] ≡ after = ap (λ (y : Event). before ++ y ∷ []) (sym w.in-Taken.is) ∙ sym next in
          let all = subst (λ (l : List Event). OpenedSoFar b.settings b.knows b.has_role b.stays first w.open_place.new.board book.settings book.who l) here_taken so_far in
          (subst (λ y. OpenedSoFar b.settings b.knows b.has_role b.stays first y book.settings book.who after) (sym w.board-is) all, w.index-is ∙ omega (arith, long, c.loop-event.invariant.1))
      | in-Taken+else-is_none w ↦
          let here = takes_of book.who J x w.in-Taken.id w.in-Taken.to w.in-Taken.cents w.in-Taken.stamp w.booked.result true w.in-Taken.is
          (w.booked.ensures ∙ ap (λ (n : ℕ). booked n w.in-Taken.id c.self.inside.ledger.book.events) w.who.ensures ∙ ap (λ (x : Book). booked book.who w.in-Taken.id x.events) c.self.view_is) (w.is_none.ensures ∙ ap not w.if-is_none.false) in
          let still : after ≡ before = taken_still book.who J (take i J) (take (i + 1) J) x more here in
          let all = subst (λ (l : List Event). OpenedSoFar b.settings b.knows b.has_role b.stays first c.loop-event.board book.settings book.who l) (sym still) c.loop-event.invariant.0 in
          (subst (λ y. OpenedSoFar b.settings b.knows b.has_role b.stays first y book.settings book.who after) (sym w.board-is) all, w.index-is ∙ c.loop-event.invariant.1 ∙ ap length (sym still))
      | in_default w ↦
          let here = takes_none book.who J x (λ id to cents stamp e. w.in_default.not-Taken id to cents stamp e) in
          let still : after ≡ before = taken_still book.who J (take i J) (take (i + 1) J) x more here in
          let all = subst (λ (l : List Event). OpenedSoFar b.settings b.knows b.has_role b.stays first c.loop-event.board book.settings book.who l) (sym still) c.loop-event.invariant.0 in
          (subst (λ y. OpenedSoFar b.settings b.knows b.has_role b.stays first y book.settings book.who after) (sym w.board-is) all, w.index-is ∙ c.loop-event.invariant.1 ∙ ap length (sym still))
    ]

pub returns-clause-opens : goal.returns-clause-opens
returns-clause-opens g c =
    let b = g.B.Board in
    let book : Book = c.args.self.now in
    let J : List Event = book.events in
    let i : ℕ = c.loop-event.event-index in
    let same = c.events-event-items.ensures ∙ c.journal.ensures.events ∙ ap (λ (x : Book). x.events) c.self.view_is in
    let whole : take i J ≡ J = take_all i J (omega (arith, ap length same)) in
    let all : taken_of book.who J (take i J) ≡ live_taken book.who J = ap (taken_of book.who J) whole ∙ ap (λ (C : List Event). filter (takes_live book.who C) J) (sym c.requires.opened) in
    subst (λ (l : List Event). OpensPlaces b.knows book.settings book.who l c.args.board.now c.loop-event.board) all c.loop-event.invariant.0.places

pub returns-clause-rest : goal.returns-clause-rest
returns-clause-rest g c = record { others = c.loop-event.invariant.0.others; holder = c.loop-event.invariant.0.same_holder }
