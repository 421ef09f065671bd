-- What was taken out of the locks of a hub makes its parts.
use Rattle.std.proofs.Common.{◌≡◌, ℕ, zero, suc, ◌<◌, arith, List, [], ◌∷◌, length, refl, sym, ap, ◌∙◌, subst, Some}
use Rattle.std.specs.Prelude.{slice_get, map}
use Rattle.std.proofs.lemmas.Option.{slice_get_within}
use mathlib.Core.List.{IsPrefix}
use Rattle.inst_settings.specs.Settings.{HubSettings, participants}
use Rattle.inst_cell.specs.declared.shared_board.SharedBoard.{SharedBoard}
use Rattle.inst_cell.specs.declared.sight.Sight.{Sight}
use Rattle.inst_cell.specs.Held.{AtOneTable}
use Rattle.inst_cell.specs.Seen.{board_of_sight}
use Rattle.inst_journal.specs.declared.event.Event.{Event}
use Rattle.inst_journal.specs.Sound.{IsSound}
use Rattle.inst_model.specs.Opening.{Opening, IsOpening}
use Rattle.inst_row.specs.Row.{key_of, size}
use Rattle.inst_row.specs.Seated.{HasSeen}
use Rattle.inst_slot.specs.Book.{events_of, Book}
use Rattle.inst_slot.proofs.LiveTransfersAfterEvent.{slice_get_at}
use Rattle.inst_participant.specs.Together.{histories}
use Rattle.inst_participant.specs.Uniting.{AreSeparate, AreAtOne, AreSights}
use Rattle.inst_hub.specs.declared.hub.Hub.{Hub}
use Rattle.inst_hub.specs.declared.teller.Teller.{Teller}
use Rattle.inst_hub.specs.Calls.{AreOf}
use Rattle.inst_hub.specs.inner.Closing.{AreTakenOut}
use Rattle.inst_hub.specs.Founding.{HasOpenedHub}
use Rattle.inst_hub.proofs.JoinedSeatsOfTellers.{Seat, sight_of}

pub got_map : {A B : Type 0} (f : A → B) (xs : List A) (i : ℕ) (y : B) → slice_get (map f xs) i ≡ Some y → (x : A) × (slice_get xs i ≡ Some x) × (f x ≡ y)
got_map f [] i y e = let no : ⊥ = cc in absurd no
got_map f (x ∷ xs) zero y e = let is : f x ≡ y = cc in (x, refl, is)
got_map f (x ∷ xs) (suc i) y e = got_map f xs i y e

pub map_got : {A B : Type 0} (f : A → B) (xs : List A) (i : ℕ) (x : A) → slice_get xs i ≡ Some x → slice_get (map f xs) i ≡ Some (f x)
map_got f [] i x e = let no : ⊥ = cc in absurd no
map_got f (y ∷ ys) zero x e = let is : y ≡ x = cc in ap (λ z. Some (f z)) is
map_got f (y ∷ ys) (suc i) x e = map_got f ys i x e

module _ (h : Hub) (seat : Seat) (slots : List Book) (boards : List SharedBoard) (taken : AreTakenOut (key_of h.row) (size h.row) seat slots boards) where
  abbrev words : SharedBoard
  words = (key_of h.row).words.value

  pub at_one : AreAtOne words h.settings slots boards
  at_one = record {
    one_each = taken.enough.0 ∙ h.sized;
    enough = taken.enough.1 ∙ h.sized;
    each = λ p b on.
        let below : p < length slots = omega (arith, slice_get_within boards p b on, taken.enough.0, taken.enough.1) in
        let x = slice_get_at slots p below in
        (taken.each p x.0 b x.1 on).since.behind.one;
  }

  pub sights_of_words : (tellers : List Teller) (sights : List Sight) → AreOf h tellers → sights ≡ map sight_of tellers → AreSights words sights
  sights_of_words tellers sights of are i s at =
      let g = got_map sight_of tellers i s (ap (λ (l : List Sight). slice_get l i) (sym are) ∙ at) in
      subst (λ (t : Sight). AtOneTable words (board_of_sight t)) g.2 (of i g.0 g.1).one

  pub separate : (O : Opening) → IsOpening h.settings O → HasOpenedHub O h → AreSeparate words O h.settings slots boards
  separate O opened from = record {
    settings_are = h.same;
    opening = opened;
    one_each = taken.enough.0 ∙ h.sized;
    enough = taken.enough.1 ∙ h.sized;
    each = λ p x b at on.
        let t = taken.each p x b at on in
        let r = t.since.behind.ready in
        let s_is : x.settings ≡ h.settings = sym r.lawful.same_settings ∙ (t.since.behind.one.1 ∙ h.same) in
        let below : p < participants h.settings = omega (arith, slice_get_within slots p x at, taken.enough.0, h.sized) in
        record {
          one = t.since.behind.one;
          member = record {
            settings_are = s_is;
            who_is = t.since.behind.who;
            sound = subst (λ (q : ℕ). IsSound h.settings q x.events) t.since.behind.who (subst (λ (s : HubSettings). IsSound s x.who x.events) s_is t.sound);
            since = t.since.carries ∙ from p below;
            lawful = r.lawful;
            adopted = r.adopted;
          };
        };
  }

  -- the history of the participant p is the last one that the seat has seen
  pub goes_on : (p : ℕ) → p < size h.row → (x : Book) × (histories slots p ≡ x.events) × ((seen : List Event) → HasSeen p seen seat → IsPrefix seen x.events) × HasSeen p x.events seat
  goes_on p below =
      let x = slice_get_at slots p (omega (arith, below, taken.enough.0)) in
      let b = slice_get_at boards p (omega (arith, below, taken.enough.1)) in
      let out = taken.each p x.0 b.0 x.1 b.1 in
      (x.0, ap events_of x.1, out.goes_on, out.seen)
