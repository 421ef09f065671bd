-- The seats of all tellers are joined to one, and what lay behind the locks is taken out, one after the other.
use Rattle.std.proofs.Common.{◌≡◌, ℕ, ◌+◌, arith, List, [], ◌∷◌, ◌++◌, length, length-append, append_assoc, append-nil, inl, inr, ◌⊎◌, ⊎_elim, refl, sym, ap, ◌∙◌, subst, Some}
use Rattle.std.specs.Prelude.{◌↔◌, slice_get, map}
use Rattle.std.specs.Global.{Box}
use Rattle.std.proofs.lemmas.List.{map-append}
use Rattle.std.proofs.lemmas.Option.{slice_get_within}
use Rattle.atomic_table.specs.Seated.{TableId}
use Rattle.inst_base.proofs.Lists.{last_at, snoc_cases}
use Rattle.inst_hub.specs.declared.initial_state.InitialState.{InitialState}
use Rattle.inst_cell.specs.declared.shared_board.SharedBoard.{SharedBoard}
use Rattle.inst_cell.specs.declared.sight.Sight.{Sight}
use Rattle.inst_journal.specs.declared.event.Event.{Event}
use Rattle.inst_row.specs.declared.seat.RowSeat.{RowSeat}
use Rattle.inst_row.specs.Seated.{IsOn, IsIdle, HasAll, HasSeen, SeesBoth, view_of}
use Rattle.inst_slot.specs.Book.{Book}
use Rattle.inst_participant.specs.declared.participant.Participant.{Participant}
use Rattle.inst_hub.specs.declared.teller.Teller.{Teller}
use Rattle.inst_hub.specs.Closing.{OneHasSeen}
use Rattle.inst_hub.specs.inner.Closing.{IsSeated, AreSeated, IsTakenOut, AreTakenOut}
use Rattle.inst_hub.specs.Opening.{row_parts}
use Rattle.inst_hub.proofs.BoardsAndTellersOfNewHub.{parts_more}
use Rattle.inst_participant.proofs.BooksLawfulOverJoinedBoard.{got_last, got_more, got_only}

abbrev pub Seat : Type 0
Seat = RowSeat (Box Participant) Event InitialState

abbrev pub sight_of : Teller → Sight
sight_of t = t.sight

-- what is gathered so far
pub record Gathered (id : TableId) (key : InitialState) (all done rest : List Teller) (seat : Seat) (sights : List Sight) : Type 0 where
  pub split : done ++ rest ≡ all
  pub on : IsOn id key seat
  pub idle : IsIdle seat
  pub parts : (view_of seat).parts ≡ row_parts done
  pub seen : (p : ℕ) (h : List Event) → HasSeen p h seat ↔ OneHasSeen done p h
  pub sights_are : sights ≡ map sight_of done

pub first_gathered : (id : TableId) (key : InitialState) (all rest : List Teller) (t : Teller) (sights new : List Sight) → AreSeated id key all → all ≡ t ∷ rest → sights ≡ [] → new ≡ sights ++ t.sight ∷ [] → Gathered id key all (t ∷ []) rest t.seat new
first_gathered id key all rest t sights new seated e none pushed =
    let s = seated 0 t (ap (λ (l : List Teller). slice_get l 0) e) in
    record {
      split = sym e;
      on = s.on;
      idle = s.free.idle;
      parts = (let p = parts_more [] t in let none : row_parts [] ≡ 0 = refl in omega (arith, p, none));
      seen = λ p h. (
        λ seen. (0, t, refl, seen),
        λ one. subst (λ (v : Teller). HasSeen p h v.seat) (sym (got_only t one.1 one.0 one.2)) one.3,
      );
      sights_are = pushed ∙ ap (λ (l : List Sight). l ++ t.sight ∷ []) none;
    }

pub its_seat : (id : TableId) (key : InitialState) (all done rest left : List Teller) (t : Teller) (seat : Seat) (sights : List Sight) → AreSeated id key all → Gathered id key all done rest seat sights → rest ≡ t ∷ left → IsSeated id key t
its_seat id key all done rest left t seat sights seated so e =
    seated (length done) t (got_last done left t all (ap (λ (l : List Teller). done ++ l) (sym e) ∙ so.split))

pub more_gathered : (id : TableId) (key : InitialState) (all done rest left : List Teller) (t : Teller) (seat new : Seat) (sights more : List Sight) → rest ≡ t ∷ left → Gathered id key all done rest seat sights → IsOn id key new → IsIdle new
    → (view_of new).parts ≡ (view_of seat).parts + (view_of t.seat).parts → SeesBoth seat t.seat new → more ≡ sights ++ t.sight ∷ [] → Gathered id key all (done ++ t ∷ []) left new more
more_gathered id key all done rest left t seat new sights more e so on idle parts sees pushed = record {
  split = append_assoc done (t ∷ []) left ∙ (ap (λ (l : List Teller). done ++ l) (sym e) ∙ so.split);
  on = on;
  idle = idle;
  parts = parts ∙ (ap (λ (n : ℕ). n + (view_of t.seat).parts) so.parts ∙ sym (parts_more done t));
  seen = λ p h. (
    λ seen. ⊎_elim
        (λ old. let o = (so.seen p h).0 old in (o.0, o.1, got_more done t o.1 o.0 o.2, o.3))
        (λ last. (length done, t, last_at done t, last))
        ((sees p h).0 seen),
    λ o. ⊎_elim
        (λ old. (sees p h).1 (inl ((so.seen p h).1 (o.0, o.1, old, o.3))))
        (λ last. (sees p h).1 (inr (subst (λ (v : Teller). HasSeen p h v.seat) (sym last.1) o.3)))
        (snoc_cases done t o.1 o.0 o.2),
  );
  sights_are = pushed ∙ (ap (λ (l : List Sight). l ++ t.sight ∷ []) so.sights_are ∙ sym (map-append sight_of done (t ∷ [])));
}

whole : (id : TableId) (key : InitialState) (all done rest : List Teller) (seat : Seat) (sights : List Sight) → rest ≡ [] → Gathered id key all done rest seat sights → done ≡ all
whole id key all done rest seat sights none so = sym (append-nil done) ∙ (ap (λ (l : List Teller). done ++ l) (sym none) ∙ so.split)

pub all_gathered : (id : TableId) (key : InitialState) (all done rest : List Teller) (seat : Seat) (sights : List Sight) → rest ≡ [] → row_parts all ≡ 16 → Gathered id key all done rest seat sights → HasAll seat
all_gathered id key all done rest seat sights none parts so =
    let sixteen : (view_of seat).parts ≡ 16 = so.parts ∙ (ap row_parts (whole id key all done rest seat sights none so) ∙ parts) in
    record { free = record { idle = so.idle; part = omega (arith, sixteen) }; parts = sixteen }

pub all_seen : (id : TableId) (key : InitialState) (all done rest : List Teller) (seat : Seat) (sights : List Sight) → rest ≡ [] → Gathered id key all done rest seat sights
    → (p : ℕ) (h : List Event) → HasSeen p h seat ↔ OneHasSeen all p h
all_seen id key all done rest seat sights none so p h = subst (λ (l : List Teller). HasSeen p h seat ↔ OneHasSeen l p h) (whole id key all done rest seat sights none so) (so.seen p h)

pub all_sights : (id : TableId) (key : InitialState) (all done rest : List Teller) (seat : Seat) (sights : List Sight) → rest ≡ [] → Gathered id key all done rest seat sights → sights ≡ map sight_of all
all_sights id key all done rest seat sights none so = so.sights_are ∙ ap (map sight_of) (whole id key all done rest seat sights none so)

-- one slot and its board more were taken out
pub one_out : (words : InitialState) (n : ℕ) (seat : Seat) (slots more : List Book) (boards others : List SharedBoard) (x : Book) (b : SharedBoard) → AreTakenOut words n seat slots boards → IsTakenOut words seat n x b → more ≡ slots ++ x ∷ [] → others ≡ boards ++ b ∷ []
    → AreTakenOut words (n + 1) seat more others
one_out words n seat slots more boards others x b so new e f = record {
  enough = (
    ap length e ∙ (length-append slots (x ∷ []) ∙ ap (λ (k : ℕ). k + 1) so.enough.0),
    ap length f ∙ (length-append boards (b ∷ []) ∙ ap (λ (k : ℕ). k + 1) so.enough.1),
  );
  each = λ p y c at on. at_each p y c (snoc_cases slots x y p (ap (λ (l : List Book). slice_get l p) (sym e) ∙ at)) (snoc_cases boards b c p (ap (λ (l : List SharedBoard). slice_get l p) (sym f) ∙ on));
}
  where
    at_each : (p : ℕ) (y : Book) (c : SharedBoard) → (slice_get slots p ≡ Some y) ⊎ ((p ≡ length slots) × (x ≡ y)) → (slice_get boards p ≡ Some c) ⊎ ((p ≡ length boards) × (b ≡ c)) → IsTakenOut words seat p y c
    at_each p y c (inl old) (inl had) = so.each p y c old had
    at_each p y c (inl old) (inr last) = absurd (omega (arith, slice_get_within slots p y old, so.enough.0, so.enough.1, last.0))
    at_each p y c (inr last) (inl had) = absurd (omega (arith, slice_get_within boards p c had, so.enough.0, so.enough.1, last.0))
    at_each p y c (inr last) (inr end) =
        subst (λ (q : ℕ). IsTakenOut words seat q y c) (sym (last.0 ∙ so.enough.0))
        (subst (λ (d : SharedBoard). IsTakenOut words seat n y d) end.1 (subst (λ (z : Book). IsTakenOut words seat n z b) last.1 new))
