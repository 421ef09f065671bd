use Rattle.std.proofs.Common.{refl, ◌∙◌, sym, ap, subst, arith}
use Rattle.std.proofs.lemmas.Grind.{common_steps}
use Rattle.inst_slot.specs.Book.{Book}
use Rattle.inst_slot.specs.LawfulBoard.{IsLawfulBoard, AllAreAdopted}
use Rattle.inst_slot.proofs.EffectOfLookAndDecision.{looked_on}
use Rattle.inst_slot.proofs.DeliveryFitsBooks.{delivery_keeps, delivery_fits}
use Rattle.inst_slot.proofs.BooksOfOthersStay.{others_look}
use Rattle.inst_slot.proofs.slot.Slot.deliver.Goals as goal

pub returns-in-None-clause-law : goal.returns-in-None-clause-law
returns-in-None-clause-law g c = record {
  lawful =
      let b = g.B.Board in
      let e = c.look-look.ensures in
      let book : Book = c.args.self.now in
      looked_on b.settings b.knows b.has_role (b.settings c.args.board.now).margin b.stood c.args.board.now c.look-look.new.self c.args.place c.look-look.result e.look book
      (g.met.B.Board.stays_settings c.args.board.now c.look-look.new.self e.stays) refl (λ r. (g.met.B.Board.stays_roles c.args.board.now c.look-look.new.self book.who e.stays).0 r) c.requires.lawful;
  others =
      let b = g.B.Board in
      others_look b.settings b.knows b.has_role (b.settings c.args.board.now).margin b.stood b.stays (λ x y. g.met.B.Board.stays_settings x y) (λ x y p. g.met.B.Board.stays_roles x y p) (λ x k t o. g.met.B.Board.stood_seldom x k t o)
      c.args.board.now c.look-look.new.self c.look-look.ensures.stays refl c.args.place c.look-look.result c.args.self.now.who c.look-look.ensures.look;
  same = (refl, refl);
  adopted = λ all. all;
  holder = c.look-look.ensures.stays;
}

pub returns-in_err-forward-in-Some-clause-law : goal.returns-in_err-forward-in-Some-clause-law
returns-in_err-forward-in-Some-clause-law g c = record {
  lawful =
      let b = g.B.Board in
      let e = c.look-look.ensures in
      let book : Book = c.args.self.now in
      subst (λ (x : Book). IsLawfulBoard b.settings b.knows b.has_role c.look-look.new.self x) (sym c.in_err-forward-in-Some.ensures.err)
      (looked_on b.settings b.knows b.has_role (b.settings c.args.board.now).margin b.stood c.args.board.now c.look-look.new.self c.args.place c.look-look.result e.look book
      (g.met.B.Board.stays_settings c.args.board.now c.look-look.new.self e.stays) refl (λ r. (g.met.B.Board.stays_roles c.args.board.now c.look-look.new.self book.who e.stays).0 r) c.requires.lawful);
  others =
      let b = g.B.Board in
      others_look b.settings b.knows b.has_role (b.settings c.args.board.now).margin b.stood b.stays (λ x y. g.met.B.Board.stays_settings x y) (λ x y p. g.met.B.Board.stays_roles x y p) (λ x k t o. g.met.B.Board.stood_seldom x k t o)
      c.args.board.now c.look-look.new.self c.look-look.ensures.stays refl c.args.place c.look-look.result c.args.self.now.who c.look-look.ensures.look;
  same = (ap (λ (x : Book). x.settings) c.in_err-forward-in-Some.ensures.err, ap (λ (x : Book). x.who) c.in_err-forward-in-Some.ensures.err);
  adopted = λ all. subst AllAreAdopted (sym c.in_err-forward-in-Some.ensures.err) all;
  holder = c.look-look.ensures.stays;
}

pub returns-in_ok-forward-in-Some-clause-law : goal.returns-in_ok-forward-in-Some-clause-law
returns-in_ok-forward-in-Some-clause-law g c = record {
  lawful =
      let b = g.B.Board in
      let e = c.look-look.ensures in
      let book : Book = c.args.self.now in
      subst (λ (x : Book). IsLawfulBoard b.settings b.knows b.has_role c.look-look.new.self x) (sym c.in_ok-forward-in-Some.ensures.ok)
      (delivery_keeps b.settings b.knows b.has_role (b.settings c.args.board.now).margin b.stood c.args.board.now c.look-look.new.self c.args.place c.look-look.result e.look book c.requires.lawful c.delivery.ensures.sound c.in-Some.entry (sym c.delivery.ensures.entry ∙ c.in-Some.is)
      (g.met.B.Board.stays_settings c.args.board.now c.look-look.new.self e.stays) refl (λ r. (g.met.B.Board.stays_roles c.args.board.now c.look-look.new.self book.who e.stays).0 r));
  others =
      let b = g.B.Board in
      others_look b.settings b.knows b.has_role (b.settings c.args.board.now).margin b.stood b.stays (λ x y. g.met.B.Board.stays_settings x y) (λ x y p. g.met.B.Board.stays_roles x y p) (λ x k t o. g.met.B.Board.stood_seldom x k t o)
      c.args.board.now c.look-look.new.self c.look-look.ensures.stays refl c.args.place c.look-look.result c.args.self.now.who c.look-look.ensures.look;
  same = (ap (λ (x : Book). x.settings) c.in_ok-forward-in-Some.ensures.ok, ap (λ (x : Book). x.who) c.in_ok-forward-in-Some.ensures.ok);
  adopted = grind (arith, common_steps);
  holder = c.look-look.ensures.stays;
}

pub forward-requires : goal.forward-requires
forward-requires g c =
    let b = g.B.Board in
    let now = c.look-look.new.self in
    record {
      fits = delivery_fits b.settings b.knows b.has_role (b.settings c.args.board.now).margin b.stood c.args.board.now now c.args.place c.look-look.result c.look-look.ensures.look c.args.self.now c.requires.lawful c.delivery.ensures.sound c.in-Some.entry (sym c.delivery.ensures.entry ∙ c.in-Some.is) c.requires.adopted
          (λ j. g.met.B.Board.knows_one now j) (λ j a k. g.met.B.Board.knows_places now j a k) (g.met.B.Board.stays_settings c.args.board.now now c.look-look.ensures.stays);
    }
