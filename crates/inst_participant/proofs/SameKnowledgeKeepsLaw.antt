-- What a participant's board and books have to do with one another stays where the board's holder knows the same.
use Rattle.std.proofs.Common.{◌≡◌, ◌↔◌, ◌∙◌, ℕ}
use Rattle.inst_settings.specs.Settings.{HubSettings}
use Rattle.inst_board.specs.declared.about.Fact.{Fact}
use Rattle.inst_slot.specs.Book.{Book}
use Rattle.inst_slot.specs.LawfulBoard.{IsLawfulBoard}

module _ {B : Type 0} (settings : B → HubSettings) (knows : B → Fact → Type 0) (has_role : B → ℕ → Type 0) where
  pub still_lawful : (b c : B) (book : Book) → settings c ≡ settings b → (has_role b book.who → has_role c book.who)
      → ((f : Fact) → knows c f ↔ knows b f) → IsLawfulBoard settings knows has_role b book → IsLawfulBoard settings knows has_role c book
  still_lawful b c book settled role same was = record {
    same_settings = settled ∙ was.same_settings;
    role = role was.role;
    truly = λ k. let t = was.truly k in (t.0, t.1, λ a h. t.2 a ((same _).0 h));
    taken_known = λ index id to cents stamp there. let k = was.taken_known index id to cents stamp there in
        record { opened = (same _).1 k.opened; terms = (same _).1 k.terms; due = (same _).1 k.due };
    only_taken = λ index h. was.only_taken index ((same _).0 h);
    arrived = was.arrived;
    forwarded_known = λ x index there at. let k = was.forwarded_known x index there at in
        record { opened = (same _).1 k.opened; terms = (same _).1 k.terms; due = (same _).1 k.due };
    booked_known = λ from id outcome booked live. let e = was.booked_known from id outcome booked live in
        record { index = e.index; lies = e.lies; known = (same _).1 e.known };
    answered = λ k t outcome to is h g. was.answered k t outcome to is ((same _).0 h) ((same _).0 g);
  }
