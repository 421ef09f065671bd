use Rattle.std.proofs.Common.{List, Option, refl, ◌≢◌, ◌∙◌, sym, ap, subst}
use Rattle.std.proofs.lemmas.Bool.{and_parts}
use Rattle.inst_base.specs.declared.fault.Fault.{Fault}
use Rattle.inst_base.specs.declared.fault.Fault.TheVariants.{Memory}
use Rattle.inst_board.specs.Learning.{KnowTheSame}
use Rattle.inst_settings.specs.Settings.{is_participant}
use Rattle.inst_command.specs.Ask.{command_fits}
use Rattle.inst_journal.specs.Sound.{IsSound}
use Rattle.inst_slot.specs.inner.Answering.{book_with_spots}
use Rattle.inst_command.specs.declared.place.Place.{Place}
use Rattle.inst_board.specs.declared.wish.Wish.{Wish}
use Rattle.inst_slot.specs.declared.arrivals.Spot.{Spot}
use Rattle.inst_slot.specs.Asking.{request, Settles, AppliesTo}
use Rattle.inst_slot.specs.Book.{Book}
use Rattle.inst_slot.proofs.SlotMayDecideWhatIsAsked.{asks_where_it_decides}
use Rattle.inst_slot.proofs.DecisionKeepsLawfulBoard.{settles_keep}
use Rattle.inst_slot.proofs.CommandsThatDecideNothing.{enters_keep}
use Rattle.inst_slot.proofs.RefusalsChangeNothing.{on_error, settles_left, settles_unknown, enters_left, enters_unknown}
use Rattle.inst_slot.proofs.CallsKeepWhoAndArrivals.{settles_same, enters_same}
use Rattle.inst_slot.proofs.BooksOfOthersStay.{others_settle, others_enter}
use Rattle.inst_slot.proofs.slot.Slot.apply.Goals as goal

pub returns-in-Some-clause-applies : goal.returns-in-Some-clause-applies
returns-in-Some-clause-applies g c = record {
  applies =
      let b = g.B.Board in
      let book : Book = c.args.self.now in
      let r = c.in-Some.request in
      let new = book_with_spots c.settle.new.ledger.book c.self.inside.arrivals.items in
      let old = c.self.inside.ledger.book in
      let is = ap (λ (x : Book). request x c.args.ask.now.command) (sym c.self.view_is) ∙ ap (λ (S : List Spot). request (book_with_spots old S) c.args.ask.now.command) (sym c.as_slice-spots.ensures.value) ∙ c.in-Some.ensures.is in
      let seen = subst (λ (S : List Spot). Settles (b.settings c.args.board.now).margin b.knows b.has_role b.stood b.stays c.args.board.now (book_with_spots old S) c.args.ask.now r.place r.wish c.settle.result c.settle.new.board (book_with_spots c.settle.new.ledger.book S)) c.as_slice-spots.ensures.value c.settle.ensures.settles in
      let settles = subst (λ (x : Book). Settles (b.settings c.args.board.now).margin b.knows b.has_role b.stood b.stays c.args.board.now x c.args.ask.now r.place r.wish c.settle.result c.settle.new.board new) c.self.view_is seen in
      subst (λ (o : Option (Place × Wish)). AppliesTo (b.settings c.args.board.now).margin b.knows b.has_role b.stood b.stays c.args.board.now book c.args.ask.now o c.settle.result c.settle.new.board new) (sym is) settles;
  sound = subst (λ (x : Book). IsSound x.settings x.who x.events) c.self.view_is c.self.invariant.0.1;
  decides =
      let b = g.B.Board in
      asks_where_it_decides b.settings b.knows b.has_role c.args.board.now c.args.self.now c.args.ask.now.command c.requires.lawful c.requires.adopted;
  left =
      let b = g.B.Board in
      let book : Book = c.args.self.now in
      let r = c.in-Some.request in
      let new = book_with_spots c.settle.new.ledger.book c.self.inside.arrivals.items in
      let old = c.self.inside.ledger.book in
      let is = ap (λ (x : Book). request x c.args.ask.now.command) (sym c.self.view_is) ∙ ap (λ (S : List Spot). request (book_with_spots old S) c.args.ask.now.command) (sym c.as_slice-spots.ensures.value) ∙ c.in-Some.ensures.is in
      let seen = subst (λ (S : List Spot). Settles (b.settings c.args.board.now).margin b.knows b.has_role b.stood b.stays c.args.board.now (book_with_spots old S) c.args.ask.now r.place r.wish c.settle.result c.settle.new.board (book_with_spots c.settle.new.ledger.book S)) c.as_slice-spots.ensures.value c.settle.ensures.settles in
      let settles = subst (λ (x : Book). Settles (b.settings c.args.board.now).margin b.knows b.has_role b.stood b.stays c.args.board.now x c.args.ask.now r.place r.wish c.settle.result c.settle.new.board new) c.self.view_is seen in
      settles_left b.settings b.knows b.has_role (b.settings c.args.board.now).margin c.args.board.now c.settle.new.board book b.stood b.stays c.requires.lawful c.args.ask.now (r.place, r.wish) c.settle.result new settles;
  unknown =
      let b = g.B.Board in
      let book : Book = c.args.self.now in
      let r = c.in-Some.request in
      let new = book_with_spots c.settle.new.ledger.book c.self.inside.arrivals.items in
      let old = c.self.inside.ledger.book in
      let is = ap (λ (x : Book). request x c.args.ask.now.command) (sym c.self.view_is) ∙ ap (λ (S : List Spot). request (book_with_spots old S) c.args.ask.now.command) (sym c.as_slice-spots.ensures.value) ∙ c.in-Some.ensures.is in
      let seen = subst (λ (S : List Spot). Settles (b.settings c.args.board.now).margin b.knows b.has_role b.stood b.stays c.args.board.now (book_with_spots old S) c.args.ask.now r.place r.wish c.settle.result c.settle.new.board (book_with_spots c.settle.new.ledger.book S)) c.as_slice-spots.ensures.value c.settle.ensures.settles in
      let settles = subst (λ (x : Book). Settles (b.settings c.args.board.now).margin b.knows b.has_role b.stood b.stays c.args.board.now x c.args.ask.now r.place r.wish c.settle.result c.settle.new.board new) c.self.view_is seen in
      on_error (λ (fault : Fault). fault ≢ Memory → KnowTheSame b.knows c.args.board.now c.settle.new.board) c.settle.result
      (λ fault is_err other. settles_unknown b.settings b.knows b.has_role (b.settings c.args.board.now).margin c.args.board.now c.settle.new.board book b.stood b.stays c.requires.lawful c.args.ask.now (r.place, r.wish)
      c.settle.result new fault is settles is_err other);
}

pub returns-in-None-clause-applies : goal.returns-in-None-clause-applies
returns-in-None-clause-applies g c = record {
  applies =
      let b = g.B.Board in
      let book : Book = c.args.self.now in
      let none = ap (λ (x : Book). request x c.args.ask.now.command) (sym c.self.view_is) ∙ ap (λ (S : List Spot). request (book_with_spots c.self.inside.ledger.book S) c.args.ask.now.command) (sym c.as_slice-spots.ensures.value) ∙ c.in-None.ensures in
      subst (λ (o : Option (Place × Wish)). AppliesTo (b.settings c.args.board.now).margin b.knows b.has_role b.stood b.stays c.args.board.now book c.args.ask.now o c.enter.result c.enter.new.board c.enter.new.self) (sym none) c.enter.ensures.enters;
  sound = subst (λ (x : Book). IsSound x.settings x.who x.events) c.self.view_is c.self.invariant.0.1;
  decides =
      let b = g.B.Board in
      asks_where_it_decides b.settings b.knows b.has_role c.args.board.now c.args.self.now c.args.ask.now.command c.requires.lawful c.requires.adopted;
  left = enters_left (g.B.Board.settings c.args.board.now).margin g.B.Board.knows c.args.board.now c.enter.new.board c.args.self.now c.args.ask.now c.enter.result c.enter.new.self c.enter.ensures.enters;
  unknown =
      let b = g.B.Board in
      on_error (λ (fault : Fault). fault ≢ Memory → KnowTheSame b.knows c.args.board.now c.enter.new.board) c.enter.result
      (λ fault is_err other. enters_unknown (g.B.Board.settings c.args.board.now).margin g.B.Board.knows c.args.board.now c.enter.new.board c.args.self.now c.args.ask.now c.enter.result c.enter.new.self fault c.enter.ensures.enters is_err other);
}

pub returns-in-Some-clause-law : goal.returns-in-Some-clause-law
returns-in-Some-clause-law g c = record {
  lawful =
      let b = g.B.Board in
      let book : Book = c.args.self.now in
      let r = c.in-Some.request in
      let new = book_with_spots c.settle.new.ledger.book c.self.inside.arrivals.items in
      let old = c.self.inside.ledger.book in
      let is = ap (λ (x : Book). request x c.args.ask.now.command) (sym c.self.view_is) ∙ ap (λ (S : List Spot). request (book_with_spots old S) c.args.ask.now.command) (sym c.as_slice-spots.ensures.value) ∙ c.in-Some.ensures.is in
      let seen = subst (λ (S : List Spot). Settles (b.settings c.args.board.now).margin b.knows b.has_role b.stood b.stays c.args.board.now (book_with_spots old S) c.args.ask.now r.place r.wish c.settle.result c.settle.new.board (book_with_spots c.settle.new.ledger.book S)) c.as_slice-spots.ensures.value c.settle.ensures.settles in
      let settles = subst (λ (x : Book). Settles (b.settings c.args.board.now).margin b.knows b.has_role b.stood b.stays c.args.board.now x c.args.ask.now r.place r.wish c.settle.result c.settle.new.board new) c.self.view_is seen in
      settles_keep b.settings b.knows b.has_role (b.settings c.args.board.now).margin b.stood b.stays (λ x y. g.met.B.Board.stays_settings x y) (λ x y p. g.met.B.Board.stays_roles x y p)
      c.args.board.now c.settle.new.board c.settle.ensures.stays book c.requires.lawful refl c.args.ask.now (r.place, r.wish) c.settle.result new
      is settles;
  others =
      let b = g.B.Board in
      let book : Book = c.args.self.now in
      let r = c.in-Some.request in
      let new = book_with_spots c.settle.new.ledger.book c.self.inside.arrivals.items in
      let old = c.self.inside.ledger.book in
      let is = ap (λ (x : Book). request x c.args.ask.now.command) (sym c.self.view_is) ∙ ap (λ (S : List Spot). request (book_with_spots old S) c.args.ask.now.command) (sym c.as_slice-spots.ensures.value) ∙ c.in-Some.ensures.is in
      let seen = subst (λ (S : List Spot). Settles (b.settings c.args.board.now).margin b.knows b.has_role b.stood b.stays c.args.board.now (book_with_spots old S) c.args.ask.now r.place r.wish c.settle.result c.settle.new.board (book_with_spots c.settle.new.ledger.book S)) c.as_slice-spots.ensures.value c.settle.ensures.settles in
      let settles = subst (λ (x : Book). Settles (b.settings c.args.board.now).margin b.knows b.has_role b.stood b.stays c.args.board.now x c.args.ask.now r.place r.wish c.settle.result c.settle.new.board new) c.self.view_is seen in
      others_settle b.settings b.knows b.has_role (b.settings c.args.board.now).margin b.stood b.stays (λ x y. g.met.B.Board.stays_settings x y) (λ x y p. g.met.B.Board.stays_roles x y p) (λ x k t o. g.met.B.Board.stood_seldom x k t o)
      c.args.board.now c.settle.new.board c.settle.ensures.stays refl book c.args.ask.now (r.place, r.wish) c.settle.result new c.requires.lawful
      is settles;
  same =
      let b = g.B.Board in
      let old = c.self.inside.ledger.book in
      let seen = subst (λ (S : List Spot). Settles (b.settings c.args.board.now).margin b.knows b.has_role b.stood b.stays c.args.board.now (book_with_spots old S) c.args.ask.now c.in-Some.request.place c.in-Some.request.wish c.settle.result c.settle.new.board (book_with_spots c.settle.new.ledger.book S)) c.as_slice-spots.ensures.value c.settle.ensures.settles in
      let settles = subst (λ (x : Book). Settles (b.settings c.args.board.now).margin b.knows b.has_role b.stood b.stays c.args.board.now x c.args.ask.now c.in-Some.request.place c.in-Some.request.wish c.settle.result c.settle.new.board (book_with_spots c.settle.new.ledger.book c.self.inside.arrivals.items)) c.self.view_is seen in
      (settles_same (b.settings c.args.board.now).margin b.knows b.has_role b.stood b.stays c.args.board.now c.settle.new.board c.args.self.now (book_with_spots c.settle.new.ledger.book c.self.inside.arrivals.items) c.args.ask.now c.in-Some.request.place c.in-Some.request.wish c.settle.result settles).same;
  adopted =
      let b = g.B.Board in
      let old = c.self.inside.ledger.book in
      let seen = subst (λ (S : List Spot). Settles (b.settings c.args.board.now).margin b.knows b.has_role b.stood b.stays c.args.board.now (book_with_spots old S) c.args.ask.now c.in-Some.request.place c.in-Some.request.wish c.settle.result c.settle.new.board (book_with_spots c.settle.new.ledger.book S)) c.as_slice-spots.ensures.value c.settle.ensures.settles in
      let settles = subst (λ (x : Book). Settles (b.settings c.args.board.now).margin b.knows b.has_role b.stood b.stays c.args.board.now x c.args.ask.now c.in-Some.request.place c.in-Some.request.wish c.settle.result c.settle.new.board (book_with_spots c.settle.new.ledger.book c.self.inside.arrivals.items)) c.self.view_is seen in
      (settles_same (b.settings c.args.board.now).margin b.knows b.has_role b.stood b.stays c.args.board.now c.settle.new.board c.args.self.now (book_with_spots c.settle.new.ledger.book c.self.inside.arrivals.items) c.args.ask.now c.in-Some.request.place c.in-Some.request.wish c.settle.result settles).adopted;
  holder = c.settle.ensures.stays;
}

pub returns-in-None-clause-law : goal.returns-in-None-clause-law
returns-in-None-clause-law g c = record {
  lawful =
      let b = g.B.Board in
      let book : Book = c.args.self.now in
      enters_keep b.settings b.knows b.has_role (b.settings c.args.board.now).margin c.args.board.now c.enter.new.board book c.args.ask.now c.enter.result c.enter.new.self
      (g.met.B.Board.stays_settings c.args.board.now c.enter.new.board c.enter.ensures.stays) refl (λ r. (g.met.B.Board.stays_roles c.args.board.now c.enter.new.board book.who c.enter.ensures.stays).0 r)
      (subst (λ (x : Book). IsSound x.settings x.who x.events) c.self.view_is c.self.invariant.0.1) (and_parts (is_participant book.settings c.args.ask.now.who) (command_fits book.settings c.args.ask.now.command) c.requires.fits).1 c.enter.ensures.enters c.requires.lawful;
  others =
      let b = g.B.Board in
      let book : Book = c.args.self.now in
      others_enter b.settings b.knows b.has_role (b.settings c.args.board.now).margin b.stood b.stays (λ x y. g.met.B.Board.stays_settings x y) (λ x y p. g.met.B.Board.stays_roles x y p) (λ x k t o. g.met.B.Board.stood_seldom x k t o)
      c.args.board.now c.enter.new.board c.enter.ensures.stays refl book c.args.ask.now c.enter.result c.enter.new.self c.enter.ensures.enters;
  same = (enters_same (g.B.Board.settings c.args.board.now).margin g.B.Board.knows g.B.Board.has_role g.B.Board.stood g.B.Board.stays c.args.board.now c.enter.new.board c.args.self.now c.enter.new.self c.args.ask.now c.enter.result c.enter.ensures.enters).same;
  adopted = (enters_same (g.B.Board.settings c.args.board.now).margin g.B.Board.knows g.B.Board.has_role g.B.Board.stood g.B.Board.stays c.args.board.now c.enter.new.board c.args.self.now c.enter.new.self c.args.ask.now c.enter.result c.enter.ensures.enters).adopted;
  holder = c.enter.ensures.stays;
}

pub enter-requires-clause-request : goal.enter-requires-clause-request
enter-requires-clause-request g c = ap (λ (x : Book). request x c.args.ask.now.command) (sym c.self.view_is) ∙ ap (λ (S : List Spot). request (book_with_spots c.self.inside.ledger.book S) c.args.ask.now.command) (sym c.as_slice-spots.ensures.value) ∙ c.in-None.ensures
