-- A hub opens: the boards of its participants, one by one, and its tellers.
use Rattle.std.proofs.Common.{◌≡◌, ℕ, suc, ◌<◌, ◌+◌, zero, List, [], ◌∷◌, ◌++◌, length, append_assoc, length-append, sym, ap, ◌∙◌, subst, refl, arith, Some, None, ⊎_elim}
use Rattle.std.specs.Prelude.{slice_get, Option, Contains, is_some, true}
use Rattle.std.specs.Global.{Box}
use Rattle.inst_base.proofs.Lists.{last_at, snoc_cases}
use Rattle.inst_hub.specs.declared.initial_state.InitialState.{InitialState}
use Rattle.atomic_table.specs.Seated.{TableId}
use Rattle.inst_settings.specs.Settings.{HubSettings, participants}
use Rattle.inst_cell.specs.declared.shared_board.SharedBoard.{SharedBoard}
use Rattle.inst_cell.specs.Held.{settings_of, knows, has_role, AtOneTable}
use Rattle.inst_cell.specs.Opening.{IsOpened, AreOpened}
use Rattle.inst_cell.specs.declared.sight.Sight.{Sight}
use Rattle.inst_row.specs.Row.{row_id, key_of}
use Rattle.inst_journal.specs.declared.event.Event.{Event}
use Rattle.inst_row.specs.declared.view.Front.{Front}
use Rattle.inst_row.specs.View.{front, fronts_of}
use Rattle.inst_row.specs.Seated.{view_of}
use Rattle.inst_slot.specs.declared.arrival.Arrival.{Arrival}
use Rattle.inst_slot.specs.Book.{Book}
use Rattle.inst_journal.proofs.OneMoreElement.{sum_by_push}
use Rattle.inst_slot.proofs.ForwardedTransfersHavePlaces.{begins}
use Rattle.inst_slot.proofs.LiveTransfersAfterEvent.{slice_get_left, slice_get_at}
use Rattle.inst_participant.specs.declared.participant.Participant.{Participant}
use Rattle.inst_hub.specs.declared.hub.Hub.{Hub}
use Rattle.inst_participant.specs.LockLaw.{IsBehind}
use Rattle.inst_hub.specs.Calls.{AreOf}
use Rattle.inst_hub.specs.declared.teller.Teller.{Teller}
use Rattle.inst_hub.specs.Opening.{IsBlank, fronts_from, first_fronts, IsNew, AreNew, row_parts}
use Rattle.inst_hub.specs.inner.Opening.{AreBoards, unboxed, AreBehind, AreParticipants, AreBlank}

none_arrived : (x : Arrival) → Contains [] x → is_some x.index ≡ true
none_arrived x (i, below, is) = absurd (omega arith)

-- a participant begins with its board
pub begins_behind : (s : HubSettings) (table : TableId) (who : ℕ) (b : SharedBoard) (book : Book) → IsOpened s table who b
    → (book.settings ≡ s) × (book.who ≡ who) × (book.events ≡ []) × (book.arrivals ≡ []) → IsBehind b who record { slot = book; board = b }
begins_behind s table who b book o new = record {
  one = (refl, refl);
  who = new.1;
  ready = record {
    lawful = begins settings_of knows has_role b book (o.settings ∙ sym new.0) ((o.role book.who).1 new.1) (λ f. (o.known f).0) new.2 new.3;
    adopted = λ x h. none_arrived x (subst (λ (l : List Arrival). Contains l x) new.3 h);
  };
}

at_seam : {A : Type 0} (xs : List A) (x : A) (ys : List A) → slice_get (xs ++ x ∷ ys) (length xs) ≡ Some x
at_seam [] x ys = refl
at_seam (y ∷ xs) x ys = at_seam xs x ys

module _ (s : HubSettings) (id : TableId) (boards : List SharedBoard) (are : AreBoards s id boards) where
  -- the next board is that of the next participant
  pub next_board : (before rest : List SharedBoard) (b : SharedBoard) (n : ℕ) → n ≡ length before → before ++ b ∷ rest ≡ boards → IsOpened s id n b
  next_board before rest b n is e =
      are.each n b (ap (λ (i : ℕ). slice_get boards i) is ∙ (ap (λ (l : List SharedBoard). slice_get l (length before)) (sym e) ∙ at_seam before b rest))

  pub few_boards : (before rest : List SharedBoard) (b : SharedBoard) (n : ℕ) → n ≡ length before → before ++ b ∷ rest ≡ boards → n < participants s
  few_boards before rest b n is e =
      let enough = are.enough in
      let whole : length (before ++ b ∷ rest) ≡ length boards = ap length e in
      let parts : length (before ++ b ∷ rest) ≡ length before + length (b ∷ rest) = length-append before (b ∷ rest) in
      omega arith

  pub byte_of : (before rest : List SharedBoard) (b : SharedBoard) (n : ℕ) → n ≡ length before → before ++ b ∷ rest ≡ boards → n < 256
  byte_of before rest b n is e =
      let few = few_boards before rest b n is e in
      let most = b.most.0 in
      let here : b.participants ≡ participants (settings_of b) = b.participants_is in
      let same : participants (settings_of b) ≡ participants s = ap participants (next_board before rest b n is e).settings in
      omega arith

  pub next_left : (before rest after : List SharedBoard) (b : SharedBoard) → before ++ rest ≡ boards → rest ≡ b ∷ after → before ++ b ∷ after ≡ boards
  next_left before rest after b e is = ap (λ (l : List SharedBoard). before ++ l) (sym is) ∙ e

-- one more participant
pub one_more : (boards : List SharedBoard) (all : List (Option Participant)) (b : SharedBoard) (n : ℕ) (x : Participant) → AreParticipants boards all
    → n ≡ length boards → IsBehind b n x → x.slot.events ≡ [] → AreParticipants (boards ++ b ∷ []) (all ++ Some x ∷ [])
one_more boards all b n x are is behind new = record {
  enough = length-append all (Some x ∷ []) ∙ (ap (λ (i : ℕ). i + 1) are.enough ∙ sym (length-append boards (b ∷ [])));
  each = λ p c e. ⊎_elim
      (λ old. let o = are.each p c old in (o.0, slice_get_left all (Some x) (Some o.0) p o.1, o.2, o.3))
      (λ last. (
        x,
        ap (λ (i : ℕ). slice_get (all ++ Some x ∷ []) i) (last.0 ∙ sym are.enough) ∙ last_at all (Some x),
        subst (λ (d : SharedBoard). IsBehind d p x) last.1 (subst (λ (i : ℕ). IsBehind b i x) (is ∙ sym last.0) behind),
        new,
      ))
      (snoc_cases boards b c p e);
}

-- the sights are given to tellers in their order, the last one last
pub next_sight : (before rest after all : List Sight) (t last : Sight) → before ++ (rest ++ last ∷ []) ≡ all → rest ≡ t ∷ after
    → (before ++ t ∷ []) ++ (after ++ last ∷ []) ≡ all
next_sight before rest after all t last e is =
    append_assoc before (t ∷ []) (after ++ last ∷ []) ∙ (ap (λ (l : List Sight). before ++ (l ++ last ∷ [])) (sym is) ∙ e)

pub blank_at : (words : SharedBoard) (before rest all : List Sight) (t : Sight) → AreBlank words all → before ++ t ∷ rest ≡ all → IsBlank words t
blank_at words before rest all t blank e = blank (length before) t (ap (λ (l : List Sight). slice_get l (length before)) (sym e) ∙ at_seam before t rest)

pub blank_next : (words : SharedBoard) (before rest after all : List Sight) (t last : Sight) → AreBlank words all → before ++ (rest ++ last ∷ []) ≡ all → rest ≡ t ∷ after → IsBlank words t
blank_next words before rest after all t last blank e is =
    blank_at words before (after ++ last ∷ []) all t blank (ap (λ (l : List Sight). before ++ (l ++ last ∷ [])) (sym is) ∙ e)

pub blank_last : (words : SharedBoard) (before rest all : List Sight) (last : Sight) → AreBlank words all → before ++ (rest ++ last ∷ []) ≡ all → rest ≡ [] → IsBlank words last
blank_last words before rest all last blank e none =
    blank_at words before [] all last blank (ap (λ (l : List Sight). before ++ (l ++ last ∷ [])) (sym none) ∙ e)

pub few_before : (before rest all : List Sight) (last : Sight) → before ++ (rest ++ last ∷ []) ≡ all → rest ≡ [] → length before + 1 ≡ length all
few_before before rest all last e none =
    sym (length-append before (last ∷ [])) ∙ ap length (ap (λ (l : List Sight). before ++ (l ++ last ∷ [])) (sym none) ∙ e)

pub one_teller : (id : TableId) (key : InitialState) (fronts : List (Front Event)) (tellers : List Teller) (t : Teller) → AreNew id key fronts tellers → IsNew id key fronts t → AreNew id key fronts (tellers ++ t ∷ [])
one_teller id key fronts tellers t are new i u e = ⊎_elim
    (λ old. are i u old)
    (λ last. subst (λ (x : Teller). IsNew id key fronts x) last.1 new)
    (snoc_cases tellers t u i e)

pub parts_more : (tellers : List Teller) (t : Teller) → row_parts (tellers ++ t ∷ []) ≡ row_parts tellers + (view_of t.seat).parts
parts_more tellers t = sum_by_push (λ (u : Teller). (view_of u.seat).parts) tellers t

pub nothing_left : {A : Type 0} (l : List A) → length l ≡ 0 → l ≡ []
nothing_left [] e = refl
nothing_left (x ∷ l) e = absurd (omega arith)

-- the boards of a hub that opens are over the words of the first of them
pub one_table : (s : HubSettings) (id : TableId) (p q : ℕ) (a b : SharedBoard) → IsOpened s id p a → IsOpened s id q b → AtOneTable a b
one_table s id p q a b first second = (second.table ∙ sym first.table, second.settings ∙ sym first.settings)

-- the tellers' eyes know of no place as it opens
pub blank_opened : (s : HubSettings) (n : ℕ) (boards : List SharedBoard) (sights : List Sight) (first w : SharedBoard) → AreOpened s n boards sights → slice_get boards 0 ≡ Some first → w ≡ first → AreBlank w sights
blank_opened s n boards sights first w are at e i t is =
    let a = are.sight i t is in
    let o = are.board 0 first at in
    subst (λ (b : SharedBoard). IsBlank b t) (sym e) (record { one = (a.table ∙ sym o.table, a.settings ∙ sym o.settings); nothing = a.nothing })

pub opened_behind : (s : HubSettings) (n : ℕ) (boards : List SharedBoard) (sights : List Sight) (all : List (Option Participant)) (first w : SharedBoard) → AreOpened s n boards sights → AreParticipants boards all
    → slice_get boards 0 ≡ Some first → w ≡ first → AreBehind w (participants s) (λ p. []) all
opened_behind s n boards sights all first w opened are at is = record { enough = are.enough ∙ opened.participants; each = each }
  where
    each : (p : ℕ) → p < participants s → (x : Participant) × (slice_get all p ≡ Some (Some x)) × IsBehind w p x × (x.slot.events ≡ [])
    each p below =
        let enough = opened.participants in
        let there = slice_get_at boards p (omega arith) in
        let o = are.each p there.0 there.1 in
        let one = one_table s opened.table 0 p first there.0 (opened.board 0 first at) (opened.board p there.0 there.1) in
        let behind : IsBehind first p o.0 = record { one = (o.2.one.0 ∙ one.0, o.2.one.1 ∙ one.1); who = o.2.who; ready = o.2.ready } in
        (o.0, o.1, subst (λ (b : SharedBoard). IsBehind b p o.0) (sym is) behind, o.3)

abbrev Boxed : Type 0
Boxed = Box Participant

pub unboxed_push : (all : List (Option Boxed)) (x : Boxed) → unboxed (all ++ Some x ∷ []) ≡ unboxed all ++ Some x.value ∷ []
unboxed_push [] x = refl
unboxed_push (None ∷ all) x = ap (λ (l : List (Option Participant)). None ∷ l) (unboxed_push all x)
unboxed_push (Some y ∷ all) x = ap (λ (l : List (Option Participant)). Some y.value ∷ l) (unboxed_push all x)

pub unboxed_length : (all : List (Option Boxed)) → length (unboxed all) ≡ length all
unboxed_length [] = refl
unboxed_length (None ∷ all) = ap suc (unboxed_length all)
unboxed_length (Some y ∷ all) = ap suc (unboxed_length all)

first_is : {A : Type 0} (y x : A) (xs : List (Option A)) → slice_get (Some y ∷ xs) 0 ≡ Some (Some x) → y ≡ x
first_is y x xs e = cc

first_not : {A : Type 0} (x : A) (xs : List (Option A)) → slice_get (None ∷ xs) 0 ≡ Some (Some x) → ⊥
first_not x xs e = cc

none_there : {A : Type 0} (p : ℕ) (x : A) → slice_get {X = A} [] p ≡ Some x → ⊥
none_there p x e = cc

boxed_at : (all : List (Option Boxed)) (p : ℕ) (x : Participant) → slice_get (unboxed all) p ≡ Some (Some x) → (b : Boxed) × (slice_get all p ≡ Some (Some b)) × (b.value ≡ x)
boxed_at [] p x e = absurd (none_there p (Some x) e)
boxed_at (None ∷ all) zero x e = absurd (first_not x (unboxed all) e)
boxed_at (None ∷ all) (suc p) x e = boxed_at all p x e
boxed_at (Some y ∷ all) zero x e = (y, refl, first_is y.value x (unboxed all) e)
boxed_at (Some y ∷ all) (suc p) x e = boxed_at all p x e

-- the values behind the locks are those of the participants
pub behind_values : (w : SharedBoard) (n : ℕ) (histories : ℕ → List Event) (all : List (Option Boxed)) → AreBehind w n histories (unboxed all)
    → (p : ℕ) → p < length all → (b : Boxed) × (slice_get all p ≡ Some (Some b)) × IsBehind w p b.value × (b.value.slot.events ≡ histories p)
behind_values w n histories all are p below =
    let enough = are.enough in
    let many = unboxed_length all in
    let x = are.each p (omega arith) in
    let b = boxed_at all p x.0 x.1 in
    (b.0, b.1, subst (λ (y : Participant). IsBehind w p y) (sym b.2) x.2, ap (λ (y : Participant). y.slot.events) b.2 ∙ x.3)

shifted : (a p : ℕ) → a + suc p ≡ suc a + p
shifted a p = omega arith

not_shifted : (a : ℕ) → a + 0 ≡ a
not_shifted a = omega arith

next_below : {A : Type 0} (y : A) (xs : List A) (p : ℕ) → p < length xs → suc p < length (y ∷ xs)
next_below y xs p below = omega arith

-- what is seen of values with these histories
sights_match : {A : Type 0} (history : A → List Event) (histories : ℕ → List Event) (a : ℕ) (xs : List (Option A))
    → ((p : ℕ) → p < length xs → (x : A) × (slice_get xs p ≡ Some (Some x)) × (history x ≡ histories (a + p))) → fronts_of history a xs ≡ fronts_from histories a (length xs)
sights_match history histories a [] has = refl
sights_match history histories a (None ∷ xs) has = let h = has 0 (omega arith) in absurd (first_not h.0 xs h.1)
sights_match history histories a (Some y ∷ xs) has =
    let h = has 0 (omega arith) in
    let here : history y ≡ histories a = ap history (first_is y h.0 xs h.1) ∙ (h.2 ∙ ap histories (not_shifted a)) in
    let rest = sights_match history histories (suc a) xs (λ p below. let g = has (suc p) (next_below (Some y) xs p below) in (g.0, g.1, g.2 ∙ ap histories (shifted a p))) in
    λ i. front a (here i) ∷ rest i

pub behind_fronts : (w : SharedBoard) (n : ℕ) (histories : ℕ → List Event) (all : List (Option Boxed)) → AreBehind w n histories (unboxed all)
    → fronts_of (λ (x : Boxed). x.value.slot.events) 0 all ≡ first_fronts n histories
behind_fronts w n histories all are =
    sights_match (λ (x : Boxed). x.value.slot.events) histories 0 all (λ p below. let x = behind_values w n histories all are p below in (x.0, x.1, x.3 ∙ ap histories (sym (zero_first p))))
    ∙ ap (λ (k : ℕ). first_fronts k histories) (sym (unboxed_length all) ∙ are.enough)
  where
    zero_first : (p : ℕ) → 0 + p ≡ p
    zero_first p = omega arith

pub new_are_of : (h : Hub) (fronts : List (Front Event)) (tellers : List Teller) → AreNew (row_id h.row) (key_of h.row) fronts tellers → AreOf h tellers
new_are_of h fronts tellers new i t at = let n = new i t at in record { on = n.on; free = n.free; one = n.blank.one }
