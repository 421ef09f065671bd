-- What the state of a place of the participant's own teaches, and what a resolution leaves of the books.
use Rattle.std.proofs.Common.{◌≡◌, ℕ, Bool, ◌||◌, ◌&&◌, cond, List, ⊎_elim, refl, sym, ap, ◌∙◌, subst, Option, Some, None, is_none, is_some}
use Rattle.std.specs.Prelude.{Result}
use Rattle.std.specs.declared.alloc.AllocError.{AllocError}
use Rattle.std.proofs.lemmas.Bool.{eq-eqb}
use Rattle.inst_settings.specs.Settings.{HubSettings}
use Rattle.inst_command.specs.declared.outcome.Outcome.{Outcome}
use Rattle.inst_terms.specs.declared.terms.Terms.{Terms}
use Rattle.inst_command.specs.declared.place.Place.{Place}
use Rattle.inst_board.specs.declared.place_state.PlaceState.TheVariants.{Unused as GlanceUnused, Pending as GlancePending, Decided as GlanceDecided}
use Rattle.inst_board.specs.declared.look.Look.{Look}
use Rattle.inst_board.specs.declared.look.Look.TheVariants.{Unused, Pending as LookPending, Decided as LookDecided}
use Rattle.inst_board.specs.declared.about.Fact.{Fact}
use Rattle.inst_board.specs.Standing.{place_state_of}
use Rattle.inst_board.specs.Learning.{Looks}
use Rattle.inst_journal.specs.declared.event.Event.{Event}
use Rattle.inst_journal.specs.declared.event.Event.TheVariants.{Taken, Booked}
use Rattle.inst_journal.specs.Booked.{booked}
use Rattle.inst_slot.specs.Book.{Book, arrived_at, is_at}
use Rattle.inst_slot.specs.LawfulBoard.{IsTakenAt, IsLawfulBoard, AllAreAdopted}
use Rattle.inst_slot.specs.Telling.{resolution, with_event, Keeps}
use Rattle.inst_slot.proofs.ResolutionFitsBooks.{own_lies, resolution_keeps}
use Rattle.inst_slot.proofs.EffectOfLookAndDecision.{looked_on}

pub unused_no_resolution : (book : Book) (k : Place) (look : Look) → GlanceUnused ≡ place_state_of look → resolution book k look ≡ None
unused_no_resolution book k Unused e = refl
unused_no_resolution book k (LookPending t d) e = refl
unused_no_resolution book k (LookDecided t o) e = let no : ⊥ = cc in absurd no

pub pending_no_resolution : (book : Book) (k : Place) (look : Look) (d : ℕ) → GlancePending d ≡ place_state_of look → resolution book k look ≡ None
pending_no_resolution book k Unused d e = refl
pending_no_resolution book k (LookPending t c) d e = refl
pending_no_resolution book k (LookDecided t o) d e = let no : ⊥ = cc in absurd no

-- an own transfer with nothing booked that is shown decided
pub own_resolution : (book : Book) (k : Place) (look : Look) (id : List ℕ) (o : Outcome) → k.owner ≡ book.who → booked k.owner id book.events ≡ None
    → ((t : Terms) (z : Outcome) → look ≡ LookDecided t z → t.id ≡ id) → GlanceDecided o ≡ place_state_of look → resolution book k look ≡ Some (Booked k.owner id o)
own_resolution book k Unused id o mine none same e = let no : ⊥ = cc in absurd no
own_resolution book k (LookPending t d) id o mine none same e = let no : ⊥ = cc in absurd no
own_resolution book k (LookDecided t z) id o mine none same e =
    let ended : z ≡ o = cc in
    let name : t.id ≡ id = same t z refl in
    let unbooked : booked k.owner t.id book.events ≡ None = ap (λ (x : List ℕ). booked k.owner x book.events) name ∙ none in
    ap (λ (b : Bool). cond {A = Option Event} ((b || is_at k.index (arrived_at k.owner t.id book.arrivals)) && is_none (booked k.owner t.id book.events)) (Some (Booked k.owner t.id z)) None) (eq-eqb k.owner book.who mine)
    ∙ ap (λ (x : Option Outcome). cond {A = Option Event} (is_none x) (Some (Booked k.owner t.id z)) None) unbooked
    ∙ ap (λ (x : List ℕ). Some (Booked k.owner x z)) name
    ∙ ap (λ (x : Outcome). Some (Booked k.owner id x)) ended

-- one transfer lies at an index
pub one_taken : (book : Book) (i j : List ℕ) (index : ℕ) → IsTakenAt book i index → IsTakenAt book j index → i ≡ j
one_taken book i j index x y =
    let e : Some (Taken i x.to x.cents x.stamp) ≡ Some (Taken j y.to y.cents y.stamp) = sym x.there ∙ y.there in
    cc

-- a resolution leaves the arrivals
adopted_on : (book : Book) (l : Option Event) → AllAreAdopted book → AllAreAdopted (with_event book l)
adopted_on book None all = all
adopted_on book (Some e) all = all

pub keeps_adopted : (b : Bool) (book new : Book) (l : Option Event) (r : Result Bool AllocError) → Keeps b book (with_event book l) r new → AllAreAdopted book → AllAreAdopted new
keeps_adopted b book new l r k all = ⊎_elim
    (λ kept. subst (λ (x : Book). AllAreAdopted x) (sym kept.1) (adopted_on book l all))
    (λ refused. subst (λ (x : Book). AllAreAdopted x) (sym refused.1) all)
    k

same_on : (book : Book) (l : Option Event) → ((with_event book l).settings ≡ book.settings) × ((with_event book l).who ≡ book.who)
same_on book None = (refl, refl)
same_on book (Some e) = (refl, refl)

pub keeps_same : (b : Bool) (book new : Book) (l : Option Event) (r : Result Bool AllocError) → Keeps b book (with_event book l) r new → (new.settings ≡ book.settings) × (new.who ≡ book.who)
keeps_same b book new l r k = ⊎_elim
    (λ kept. (ap (λ (x : Book). x.settings) kept.1 ∙ (same_on book l).0, ap (λ (x : Book). x.who) kept.1 ∙ (same_on book l).1))
    (λ refused. (ap (λ (x : Book). x.settings) refused.1, ap (λ (x : Book). x.who) refused.1))
    k

module _ {B : Type 0} (settings : B → HubSettings) (knows : B → Fact → Type 0) (has_role : B → ℕ → Type 0) (margin : ℕ) (stood : B → Place → Outcome → Type 0)
    (b c : B) (k : Place) (look : Look) (h : Looks margin knows has_role stood b k look c) (book : Book) (was : IsLawfulBoard settings knows has_role b book) where
  -- what is shown decided at the place of a live transfer of the participant's own is that transfer
  pub own_shown : (id : List ℕ) → k.owner ≡ book.who → IsTakenAt book id k.index → (t : Terms) (z : Outcome) → look ≡ LookDecided t z → t.id ≡ id
  own_shown id mine there t z e = one_taken book t.id id k.index (own_lies settings knows has_role margin stood b c k look h book was t z e mine) there

  module _ (same : settings c ≡ settings b) (fits : margin ≡ (settings b).margin) (role : has_role b book.who → has_role c book.who) where
    lawful_on : (l : Option Event) → resolution book k look ≡ l → IsLawfulBoard settings knows has_role c (with_event book l)
    lawful_on None e = looked_on settings knows has_role margin stood b c k look h book same fits role was
    lawful_on (Some x) e = resolution_keeps settings knows has_role margin stood b c k look h book was x e same fits role

    pub learns_keep : (r : Result Bool AllocError) (new : Book) → Keeps (is_some (resolution book k look)) book (with_event book (resolution book k look)) r new → IsLawfulBoard settings knows has_role c new
    learns_keep r new keeps = ⊎_elim
        (λ kept. subst (λ (x : Book). IsLawfulBoard settings knows has_role c x) (sym kept.1) (lawful_on (resolution book k look) refl))
        (λ refused. subst (λ (x : Book). IsLawfulBoard settings knows has_role c x) (sym refused.1) (looked_on settings knows has_role margin stood b c k look h book same fits role was))
        keeps
