use Rattle.std.proofs.Common.{◌≡◌, ℕ, List, Option, Some, IfSome, ap, subst, sym, ◌∙◌}
use Rattle.inst_settings.specs.Settings.{HubSettings}
use Rattle.inst_journal.specs.declared.event.Event.{Event}
use Rattle.inst_journal.specs.Sound.{IsSound}
use Rattle.inst_command.specs.declared.step.Step.{Step}
use Rattle.inst_command.specs.declared.place.Place.{Place}
use Rattle.inst_model.specs.Opening.{Opening}
use Rattle.inst_model.specs.Transfer.{Transfer, at_place}
use Rattle.inst_model.specs.Hub.{history}
use Rattle.inst_model.proofs.AllHistoriesTogether.{together}
use Rattle.inst_slot.specs.Book.{place_at}
use Rattle.inst_world.specs.HasRun.{World, HasRun}
use Rattle.inst_world.proofs.BooksAsOneSlotActs.{leads_to}
use Rattle.inst_world.specs.Places.{IsPlaceOf}
use Rattle.inst_world.proofs.PlaceOfNamedTransfer.{place_found_by_name, name_found_at_place}
use Rattle.inst_world.proofs.world.World.place_of.Goals as goal

pub returns-clause-place : goal.returns-clause-place
returns-clause-place c =
    let l = leads_to _ _ _ _ _ c.self.invariant.0 c.self.view_is c.requires.participant c.from.ensures c.index.ensures in
    subst (λ (h : World). (O : _) (L : _) → HasRun O L h → (index : ℕ) (x : Transfer) → at_place c.args.from (history h.board.settings O L c.args.from) index ≡ Some x → x.id ≡ c.args.id.now
    → c.place_of.result ≡ Some (place_at c.args.from index)) c.self.view_is
    (λ O L was index x there same.
    let s : HubSettings = c.self.inside.board.settings in
    let events = was.histories c.args.from c.index.result.now l.there in
    c.place_of.ensures
    ∙ place_found_by_name s c.index.result.now c.args.from index x c.args.id.now l.member.who_is
    (subst (λ (E : List Event). IsSound s c.args.from E) (sym events) ((together s O was.opening L was.steps).sound c.args.from))
    (ap (λ (E : List Event). at_place c.args.from E index) events ∙ there) same)

pub returns-clause-named : goal.returns-clause-named
returns-clause-named c =
    let l = leads_to _ _ _ _ _ c.self.invariant.0 c.self.view_is c.requires.participant c.from.ensures c.index.ensures in
    subst (λ (h : World). (O : Opening) (L : List Step) → HasRun O L h → IfSome c.place_of.result (IsPlaceOf h.board.settings O L c.args.from c.args.id.now)) c.self.view_is
    (λ O L was.
    let events = was.histories c.args.from c.index.result.now l.there in
    let P : Option Place → List Event → Type 0 =
    λ found E. IfSome found (λ place. (x : Transfer) × (at_place c.args.from E place.index ≡ Some x) × (x.id ≡ c.args.id.now)) in
    subst (λ (E : List Event). P c.place_of.result E) events
    (subst (λ (found : Option Place). P found c.index.result.now.events) (sym c.place_of.ensures)
    (name_found_at_place c.index.result.now c.args.from c.args.id.now l.member.who_is)))
