-- A closing opens nothing: what the books carry is what the hub carried.
use Rattle.std.proofs.Common.{◌≡◌, ℕ, ◌<◌, true, false, List, [], ◌∷◌, ◌++◌, append_assoc, append-nil, refl, sym, ap, ◌∙◌, subst}
use Rattle.std.specs.List.{AllByRecursion}
use Rattle.inst_settings.specs.Settings.{HubSettings, participants}
use Rattle.inst_cell.specs.Held.{settings_of}
use Rattle.inst_journal.specs.declared.event.Event.{Event}
use Rattle.inst_journal.specs.declared.event.Event.TheVariants.{Funded, Defunded, Taken, Forwarded, Booked, Fetched, Opened}
use Rattle.inst_journal.specs.Opened.{is_opening, carried}
use Rattle.inst_journal.proofs.EventsCarriedOverOpening.{carried_push}
use Rattle.inst_model.specs.Closing.{is_told, OnlyTold}
use Rattle.inst_model.specs.Opening.{Opening, beginning}
use Rattle.inst_slot.proofs.LiveTransfersAfterEvent.{slice_get_at}
use Rattle.inst_slot.specs.Book.{events_of}
use Rattle.inst_participant.specs.Together.{histories}
use Rattle.inst_participant.specs.declared.parts.Parts.{Parts}
use Rattle.inst_participant.specs.Apart.{IsPartsOf, histories_of, hub_of}
use Rattle.inst_hub.specs.declared.hub.Hub.{Hub}
use Rattle.inst_hub.specs.declared.teller.Teller.{Teller}
use Rattle.inst_close.specs.ClosedHub.{ClosedHub}
use Rattle.inst_close.specs.Closing.{IsOpenedSo, HaveOpened, AreOfHub}

no_opening : (e : Event) → is_told e ≡ true → is_opening e ≡ false
no_opening (Forwarded from id cents deadline) t = refl
no_opening (Booked from id outcome) t = refl
no_opening (Funded funding) t = refl
no_opening (Defunded funding) t = refl
no_opening (Taken id to cents stamp) t = refl
no_opening (Fetched count) t = refl
no_opening Opened t = let no : ⊥ = cc in absurd no

more_carry : (J events : List Event) → AllByRecursion (λ event. is_told event ≡ true) events → carried (J ++ events) ≡ carried J
more_carry J [] told = ap carried (append-nil J)
more_carry J (e ∷ es) told =
    ap carried (sym (append_assoc J (e ∷ []) es)) ∙ (more_carry (J ++ e ∷ []) es told.1 ∙ carried_push J e (no_opening e told.0))

told_carry : (J K : List Event) → OnlyTold J K → carried K ≡ carried J
told_carry J K told = ap carried told.appended ∙ more_carry J told.events told.told

-- the histories of the parts carry what the hub began with
parts_carry : (O : Opening) (parts : Parts) (p : ℕ) → IsPartsOf O parts → p < participants (hub_of parts) → carried (histories_of parts p) ≡ beginning O p
parts_carry O parts p of small =
    let together = of.books.together in
    let number : participants (settings_of parts.board) ≡ participants (hub_of parts) = ap participants of.settings_are in
    let found = slice_get_at parts.slots.items p (subst (λ (n : ℕ). p < n) (sym (together.one_each ∙ number)) small) in
    ap carried (ap events_of found.1) ∙ (together.member p found.0 found.1).since

pub have_opened : (h : Hub) (tellers : List Teller) (parts : Parts) (books : ClosedHub) (O : Opening) → AreOfHub h tellers parts → books.settings ≡ h.settings → ((q : ℕ) → OnlyTold (histories_of parts q) (histories books.books q)) → IsOpenedSo O h → HaveOpened O books
have_opened h tellers parts books O of same told so p small =
    told_carry (histories_of parts p) (histories books.books p) (told p)
    ∙ parts_carry O parts p (of.opened O so) (subst (λ (s : HubSettings). p < participants s) (same ∙ sym of.settings) small)
