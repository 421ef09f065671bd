use Rattle.std.proofs.Common.{refl, subst, List}
use Rattle.inst_slot.specs.declared.arrivals.Spot.{Spot}
use Rattle.inst_slot.specs.inner.Answering.{book_with_spots}
use Rattle.inst_slot.specs.Book.{Book}
use Rattle.inst_slot.specs.inner.Resolutions.{LearnsOutcome}
use Rattle.inst_slot.specs.Telling.{resolution}
use Rattle.inst_slot.proofs.ResolutionsOfGlances.{learns_keep, keeps_adopted, keeps_same}
use Rattle.inst_slot.proofs.BooksOfOthersStay.{others_look}
use Rattle.inst_slot.proofs.slot.Slot.learn.Goals as goal

pub returns-in-Some-clause-learns : goal.returns-in-Some-clause-learns
returns-in-Some-clause-learns g c =
    let b = g.B.Board in
    let told = subst (λ (l : List Spot). LearnsOutcome (b.settings c.args.board.now).margin b.knows b.has_role b.stood c.args.board.now (book_with_spots c.self.inside.ledger.book l) c.args.place c.learn_own.result c.learn_own.new.board (book_with_spots c.learn_own.new.ledger.book l))
    c.as_slice.ensures.value c.learn_own.ensures.learns in
    subst (λ (x : Book). LearnsOutcome (b.settings c.args.board.now).margin b.knows b.has_role b.stood c.args.board.now x c.args.place c.learn_own.result c.learn_own.new.board (book_with_spots c.learn_own.new.ledger.book c.self.inside.arrivals.items)) c.self.view_is told

pub returns-in-Some-clause-law : goal.returns-in-Some-clause-law
returns-in-Some-clause-law g c = record {
  lawful =
      let b = g.B.Board in
      let book : Book = c.args.self.now in
      let told = subst (λ (l : List Spot). LearnsOutcome (b.settings c.args.board.now).margin b.knows b.has_role b.stood c.args.board.now (book_with_spots c.self.inside.ledger.book l) c.args.place c.learn_own.result c.learn_own.new.board (book_with_spots c.learn_own.new.ledger.book l))
      c.as_slice.ensures.value c.learn_own.ensures.learns in
      let learns = subst (λ (x : Book). LearnsOutcome (b.settings c.args.board.now).margin b.knows b.has_role b.stood c.args.board.now x c.args.place c.learn_own.result c.learn_own.new.board (book_with_spots c.learn_own.new.ledger.book c.self.inside.arrivals.items)) c.self.view_is told in
      learns_keep b.settings b.knows b.has_role (b.settings c.args.board.now).margin b.stood c.args.board.now c.learn_own.new.board c.args.place learns.0 learns.1 book c.requires.lawful
      (g.met.B.Board.stays_settings c.args.board.now c.learn_own.new.board c.learn_own.ensures.stays) refl (λ r. (g.met.B.Board.stays_roles c.args.board.now c.learn_own.new.board book.who c.learn_own.ensures.stays).0 r)
      c.learn_own.result (book_with_spots c.learn_own.new.ledger.book c.self.inside.arrivals.items) learns.2;
  others =
      let b = g.B.Board in
      let e = c.learn_own.ensures in
      others_look b.settings b.knows b.has_role (b.settings c.args.board.now).margin b.stood b.stays (λ x y. g.met.B.Board.stays_settings x y) (λ x y p. g.met.B.Board.stays_roles x y p) (λ x k t o. g.met.B.Board.stood_seldom x k t o)
      c.args.board.now c.learn_own.new.board e.stays refl c.args.place e.learns.0 c.args.self.now.who e.learns.1;
  same =
      let b = g.B.Board in
      let book : Book = c.args.self.now in
      let told = subst (λ (l : List Spot). LearnsOutcome (b.settings c.args.board.now).margin b.knows b.has_role b.stood c.args.board.now (book_with_spots c.self.inside.ledger.book l) c.args.place c.learn_own.result c.learn_own.new.board (book_with_spots c.learn_own.new.ledger.book l))
      c.as_slice.ensures.value c.learn_own.ensures.learns in
      let learns = subst (λ (x : Book). LearnsOutcome (b.settings c.args.board.now).margin b.knows b.has_role b.stood c.args.board.now x c.args.place c.learn_own.result c.learn_own.new.board (book_with_spots c.learn_own.new.ledger.book c.self.inside.arrivals.items)) c.self.view_is told in
      keeps_same _ book (book_with_spots c.learn_own.new.ledger.book c.self.inside.arrivals.items) (resolution book c.args.place learns.0) c.learn_own.result learns.2;
  adopted = λ all.
      let b = g.B.Board in
      let book : Book = c.args.self.now in
      let told = subst (λ (l : List Spot). LearnsOutcome (b.settings c.args.board.now).margin b.knows b.has_role b.stood c.args.board.now (book_with_spots c.self.inside.ledger.book l) c.args.place c.learn_own.result c.learn_own.new.board (book_with_spots c.learn_own.new.ledger.book l))
      c.as_slice.ensures.value c.learn_own.ensures.learns in
      let learns = subst (λ (x : Book). LearnsOutcome (b.settings c.args.board.now).margin b.knows b.has_role b.stood c.args.board.now x c.args.place c.learn_own.result c.learn_own.new.board (book_with_spots c.learn_own.new.ledger.book c.self.inside.arrivals.items)) c.self.view_is told in
      keeps_adopted _ book (book_with_spots c.learn_own.new.ledger.book c.self.inside.arrivals.items) (resolution book c.args.place learns.0) c.learn_own.result learns.2 all;
  holder = c.learn_own.ensures.stays;
}
