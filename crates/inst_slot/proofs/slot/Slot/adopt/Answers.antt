use Rattle.std.proofs.Common.{refl, sym, ap, ◌∙◌, subst}
use Rattle.inst_slot.specs.Book.{Book}
use Rattle.inst_slot.specs.LawfulBoard.{IsLawfulBoard, AllAreAdopted}
use Rattle.inst_slot.proofs.EffectOfLookAndDecision.{looked_on, saw_pending}
use Rattle.inst_slot.proofs.ArrivalGetsItsPlace.{found_keeps, found_adopted, found_same}
use Rattle.inst_slot.proofs.BooksOfOthersStay.{others_look}
use Rattle.inst_slot.proofs.slot.Slot.adopt.Goals as goal

pub returns-clause-law : goal.returns-clause-law
returns-clause-law g c = record {
  lawful =
      let b = g.B.Board in
      let e = c.look-look.ensures in
      let book : Book = c.args.self.now in
      let now = c.look-look.new.self in
      let margin = (b.settings c.args.board.now).margin in
      let seen = looked_on b.settings b.knows b.has_role margin b.stood c.args.board.now now c.args.place c.look-look.result e.look book
      (g.met.B.Board.stays_settings c.args.board.now now e.stays) refl (λ r. (g.met.B.Board.stays_roles c.args.board.now now book.who e.stays).0 r) c.requires.lawful in
      subst (λ (x : Book). IsLawfulBoard b.settings b.knows b.has_role now x) (sym c.find.ensures.kept)
      (found_keeps b.settings b.knows b.has_role now book c.find.ensures.sound c.args.place c.look-look.result
      (λ t d is. saw_pending b.settings b.knows b.has_role margin b.stood c.args.board.now now c.args.place c.look-look.result e.look t d is) seen);
  others =
      let b = g.B.Board in
      others_look b.settings b.knows b.has_role (b.settings c.args.board.now).margin b.stood b.stays (λ x y. g.met.B.Board.stays_settings x y) (λ x y p. g.met.B.Board.stays_roles x y p) (λ x k t o. g.met.B.Board.stood_seldom x k t o)
      c.args.board.now c.look-look.new.self c.look-look.ensures.stays refl c.args.place c.look-look.result c.args.self.now.who c.look-look.ensures.look;
  same = (ap (λ (x : Book). x.settings) c.find.ensures.kept ∙ (found_same c.args.self.now c.args.place c.look-look.result).0, ap (λ (x : Book). x.who) c.find.ensures.kept ∙ (found_same c.args.self.now c.args.place c.look-look.result).1);
  adopted = λ all. subst AllAreAdopted (sym c.find.ensures.kept) (found_adopted c.args.self.now c.args.place c.look-look.result all);
  holder = c.look-look.ensures.stays;
}
