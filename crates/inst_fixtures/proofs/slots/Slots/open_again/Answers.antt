use Rattle.std.proofs.Common.{◌≡◌, ℕ, ◌<◌, List, length, get_or, Some, sym, ap, subst, ◌∙◌, arith}
use Rattle.std.specs.Prelude.{slice_get}
use Rattle.std.proofs.lemmas.Option.{slice_get-get_or}
use Rattle.inst_settings.specs.Settings.{HubSettings}
use Rattle.inst_board.specs.Plain.{Contents, plain_knows}
use Rattle.inst_journal.specs.declared.event.Event.{Event}
use Rattle.inst_journal.specs.Sound.{IsSound}
use Rattle.inst_slot.specs.Book.{Book}
use Rattle.inst_fixtures.proofs.SlotsOverOneBoard.{AreBooks}
use Rattle.inst_fixtures.proofs.slots.Slots.open_again.Goals.{then-is_first_new, else-is_first_new}
use Rattle.inst_fixtures.proofs.slots.Slots.open_again.Goals as goal

-- the history of a slot of a hub is sound by a copy of the hub's settings
sound : (b : Contents) (s copy : HubSettings) (books lent : List Book) (who : ℕ) (book : Book) (J : List Event) → AreBooks (λ (x : Contents). x.settings) plain_knows (λ _ _. Unit {0}) b s books
    → lent ≡ books → who < length lent → book ≡ get_or lent who book → copy ≡ s → IsSound book.settings book.who J → IsSound copy who J
sound b s copy books lent who book J are same below is copied was =
    let there : slice_get books who ≡ Some book = ap (λ (l : List Book). slice_get l who) (sym same) ∙ slice_get-get_or lent who book below ∙ ap (λ (x : Book). Some x) (sym is) in
    let stands = are who book there in
    subst (λ (t : HubSettings). IsSound t who J) (stands.2 ∙ sym copied) (subst (λ (w : ℕ). IsSound book.settings w J) stands.1 was)

pub open_from-requires-clause-first : goal.open_from-requires-clause-first
open_from-requires-clause-first c =
    let s = c.in_ok-settings.settings in
    elim c.if-is_first_new.branch [
      | then-is_first_new w ↦ subst (λ (J : List Event). IsSound s 0 J) (sym (ap (λ r. r.now.events) w.first-is ∙ c.new-none.ensures)) tt
      | else-is_first_new w ↦ subst (λ (J : List Event). IsSound s 0 J) (sym (ap (λ r. r.now.events) w.first-is))
          (sound c.self.inside.board c.self.inside.settings s c.self.inside.slots.items c.as_slice.result.now 0 c.first-item.result w.journal-first.result.now.events
          c.self.invariant c.as_slice.ensures.value (omega (arith, c.in-len3.len_at_least)) c.first-item.is c.in_ok-settings.ensures.ok w.journal-first.ensures.sound)
    ]

pub open_from-requires-clause-second : goal.open_from-requires-clause-second
open_from-requires-clause-second c =
    sound c.self.inside.board c.self.inside.settings c.in_ok-settings.settings c.self.inside.slots.items c.as_slice.result.now 1 c.second-item.result c.journal.result.now.events
    c.self.invariant c.as_slice.ensures.value (omega (arith, c.in-len3.len_at_least)) c.second-item.is c.in_ok-settings.ensures.ok c.journal.ensures.sound

pub open_from-requires-clause-third : goal.open_from-requires-clause-third
open_from-requires-clause-third c =
    sound c.self.inside.board c.self.inside.settings c.in_ok-settings.settings c.self.inside.slots.items c.as_slice.result.now 2 c.third-item.result c.journal-2.result.now.events
    c.self.invariant c.as_slice.ensures.value (omega (arith, c.in-len3.len_at_least)) c.third-item.is c.in_ok-settings.ensures.ok c.journal-2.ensures.sound
