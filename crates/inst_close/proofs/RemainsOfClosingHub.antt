-- What is left of a hub that closes goes on from what its tellers have seen, and tells what they knew: its books too.
use Rattle.std.proofs.Common.{◌≡◌, ◌++◌, append_assoc, sym, ap, ◌∙◌, subst, ℕ, List, Some}
use Rattle.std.specs.Prelude.{slice_get, Result, Ok, Err, IfOk, IfErr}
use mathlib.Core.List.{IsPrefix}
use Rattle.inst_settings.specs.Settings.{participants}
use Rattle.inst_command.specs.declared.place.Place.{Place}
use Rattle.inst_board.specs.declared.about.About.TheVariants.{Opened}
use Rattle.inst_board.specs.declared.about.Fact.{Fact}
use Rattle.inst_board.specs.Standing.{about}
use Rattle.inst_cell.specs.Held.{knows}
use Rattle.inst_journal.specs.declared.event.Event.{Event}
use Rattle.inst_model.specs.Closing.{OnlyTold}
use Rattle.inst_participant.specs.Together.{histories}
use Rattle.inst_participant.specs.InTheBooks.{IsInTheBooks}
use Rattle.inst_participant.proofs.SettlementPlaceByPlace.{told_on}
use Rattle.inst_participant.specs.declared.parts.Parts.{Parts}
use Rattle.inst_participant.specs.Apart.{IsPartsOf, AreLater, histories_of, board_of, hub_of}
use Rattle.inst_hub.specs.declared.hub.Hub.{Hub}
use Rattle.inst_hub.specs.declared.teller.Teller.{Teller}
use Rattle.inst_hub.specs.Calls.{knows_of}
use Rattle.inst_close.specs.declared.closing.Rest.{Rest}
use Rattle.inst_close.specs.declared.closing.Rest.TheVariants.{Whole, Apart}
use Rattle.inst_close.specs.declared.closing.CloseFault.{CloseFault}
use Rattle.inst_close.specs.ClosedHub.{ClosedHub}
use Rattle.inst_close.proofs.BooksCarryWhatHubCarried.{have_opened}
use Rattle.inst_model.specs.Opening.{Opening}
use Rattle.inst_close.specs.Closing.{GoOnFrom, AreOnlyTold, TellAll, AreOfHub, IsLeftOf, MayClose, IsClosedFrom, rest_of}
use Rattle.inst_close.specs.inner.Closing.{IsPartly}

pub further : (H J K : List Event) → IsPrefix H J → OnlyTold J K → IsPrefix H K
further H J K front told = (front.0 ++ told.events, sym (append_assoc H front.0 told.events) ∙ (ap (λ l. l ++ told.events) front.1 ∙ sym told.appended))

pub go_on : (tellers : List Teller) (n : ℕ) (J K : ℕ → List Event) → GoOnFrom tellers n J → ((p : ℕ) → OnlyTold (J p) (K p)) → GoOnFrom tellers n K
go_on tellers n J K on told i t p h at below seen = further h (J p) (K p) (on i t p h at below seen) (told p)

-- what was only told since stays so while more is told
pub tell_on : (tellers : List Teller) (n : ℕ) (J K : ℕ → List Event) → AreOnlyTold tellers n J → ((p : ℕ) → OnlyTold (J p) (K p)) → AreOnlyTold tellers n K
tell_on tellers n J K only told p below = let o = only p below in (o.0, o.1, told_on o.0 (J p) (K p) o.2 (told p))

pub tell_all : (tellers : List Teller) (parts : Parts) (K : ℕ → List Event)
    → ((i : ℕ) (t : Teller) (f : Fact) → slice_get tellers i ≡ Some t → knows_of t f → knows (board_of parts) f)
    → ((k : Place) → knows (board_of parts) (about k Opened) → IsInTheBooks knows (board_of parts) K k) → TellAll tellers K
tell_all tellers parts K known books i t k at opened =
    let b = books k (known i t (about k Opened) at opened) in
    record {
      used = b.used;
      terms = λ x has. b.terms x (known i t _ at has);
      outcome = λ o has. b.outcome o (known i t _ at has);
    }

pub still_of : (h : Hub) (tellers : List Teller) (p q : Parts) → AreOfHub h tellers p → AreLater p q → AreOfHub h tellers q
still_of h tellers p q of later = record {
  settings = later.settings_are ∙ of.settings;
  opened = λ O o. later.parts O (of.opened O o);
  goes_on = go_on tellers (participants h.settings) (histories_of p) (histories_of q) of.goes_on later.books.told;
  only_told = tell_on tellers (participants h.settings) (histories_of p) (histories_of q) of.only_told later.books.told;
  knows = λ i t f at has. (later.books.known f).1 (of.knows i t f at has);
}

pub left_partly : (h : Hub) (tellers : List Teller) (p : Parts) (rest : Rest) → AreOfHub h tellers p → IsPartly p rest → IsLeftOf h tellers rest
left_partly h tellers p (Whole hub handed) of later = absurd later
left_partly h tellers p (Apart parts) of later = still_of h tellers p parts of later

may_partly : (p : Parts) (rest : Rest) → ((O : Opening) × IsPartsOf O p) → IsPartly p rest → MayClose rest
may_partly p (Whole hub handed) parts later = absurd later
may_partly p (Apart q) parts later = (parts.0, later.parts parts.0 parts.1)

-- where memory was refused to the parts
pub left_then : (h : Hub) (tellers : List Teller) (p : Parts) (r : Result ClosedHub CloseFault) → AreOfHub h tellers p → ((O : Opening) × IsPartsOf O p) → IfErr r (λ e. IsPartly p (rest_of e))
    → IfErr r (λ e. IsLeftOf h tellers (rest_of e) × MayClose (rest_of e))
left_then h tellers p (Ok books) of parts later = tt
left_then h tellers p (Err e) of parts later = (left_partly h tellers p (rest_of e) of later, may_partly p (rest_of e) parts later)

-- and where it was not
pub books_of_parts : (p : Parts) (r : Result ClosedHub CloseFault) → IfOk r (λ books. books.settings ≡ hub_of p) → IfOk r (λ books. (q : ℕ) → OnlyTold (histories_of p q) (histories books.books q))
    → IfOk r (λ books. (k : Place) → knows (board_of p) (about k Opened) → IsInTheBooks knows (board_of p) (histories books.books) k)
    → IfOk r (λ books. (h : Hub) (tellers : List Teller) → AreOfHub h tellers p → IsClosedFrom h tellers books)
books_of_parts p (Ok books) same further told = λ h tellers of. record {
  settings = same ∙ of.settings;
  opened = λ O so. have_opened h tellers p books O of (same ∙ of.settings) further so;
  goes_on = go_on tellers (participants h.settings) (histories_of p) (histories books.books) of.goes_on further;
  only_told = tell_on tellers (participants h.settings) (histories_of p) (histories books.books) of.only_told further;
  told = tell_all tellers p (histories books.books) of.knows told;
}
books_of_parts p (Err e) same further told = tt

-- the books that a hub's closing gives, of what is left of the hub where that is the hub
pub books_of_whole : (hub : Hub) (handed : List Teller) (r : Result ClosedHub CloseFault) → IfOk r (λ books. IsClosedFrom hub handed books)
    → IfOk r (λ books. (h : Hub) (tellers : List Teller) → (hub ≡ h) × (handed ≡ tellers) → IsClosedFrom h tellers books)
books_of_whole hub handed (Ok books) closed = λ h tellers left.
    subst (λ (l : List Teller). IsClosedFrom h l books) left.1 (subst (λ (x : Hub). IsClosedFrom x handed books) left.0 closed)
books_of_whole hub handed (Err e) closed = tt

pub if_err : {A E : Type 0} (r : Result A E) (P Q : E → Type 0) → ((e : E) → P e → Q e) → IfErr r P → IfErr r Q
if_err (Ok v) P Q f h = tt
if_err (Err e) P Q f h = f e h
