-- The positions of what was forwarded stay right through one event more, and so does how much of it was handed out.
use Rattle.std.proofs.Common.{◌≡◌, ℕ, zero, suc, ◌+◌, ◌<◌, ◌≤◌, arith, false, List, [], ◌∷◌, ◌++◌, length, length-append, get_or, take, drop, Option, Some, None, Result, Ok, Err, IfOk, is_some, true, refl, sym, ap, ◌∙◌, subst}
use Rattle.std.specs.List.{cons_option}
use Rattle.std.proofs.lemmas.List.{map-append, take_more, length-map}
use Rattle.std.proofs.lemmas.Option.{get_or_from_slice_get}
use Rattle.std.specs.Prelude.{slice_get}
use Rattle.inst_command.specs.declared.entry.Entry.{Entry}
use Rattle.inst_journal.specs.declared.event.Event.{Event}
use Rattle.inst_journal.specs.declared.event.Event.TheVariants.{Forwarded, Fetched}
use Rattle.inst_journal.specs.Booked.{is_forwarding}
use Rattle.inst_journal.specs.Reply.{inbox, handed_out}
use Rattle.inst_journal.proofs.PagesOfInboxAndStatement.{in_order_of_arrival}
use Rattle.inst_journal.proofs.OneMoreElement.{sum_by_push}
use Rattle.inst_transfers.specs.State.{row_of, rows_of}
use Rattle.inst_transfers.specs.declared.transfer.Found.{Found}
use Rattle.inst_transfers.specs.Held.{Held, state_in, row_in, AreWithin, FindsAt}
use Rattle.inst_transfers.proofs.Rows.{within_more, within_last, row_there}
use Rattle.inst_ledger.specs.Inbox.{no_entry, entries_at, IsRead}
use Rattle.inst_ledger.specs.Right.{IsRight}
use Rattle.inst_ledger.proofs.TableStaysRight.{rows_push}

pub get_still : (xs ys : List Entry) (p : ℕ) (d : Entry) → p < length xs → get_or (xs ++ ys) p d ≡ get_or xs p d
get_still [] ys p d below = absurd (omega (arith, below))
get_still (x ∷ xs) ys zero d below = refl
get_still (x ∷ xs) ys (suc p) d below = get_still xs ys p d (omega (arith, below))

pub get_next : (xs : List Entry) (y d : Entry) → get_or (xs ++ y ∷ []) (length xs) d ≡ y
get_next [] y d = refl
get_next (x ∷ xs) y d = get_next xs y d

entries_still : (rows more : List Entry) (ps : List ℕ) → AreWithin (length rows) ps → entries_at (rows ++ more) ps ≡ entries_at rows ps
entries_still rows more [] within = refl
entries_still rows more (p ∷ ps) within =
    let here : get_or (rows ++ more) p no_entry ≡ get_or rows p no_entry = get_still rows more p no_entry within.0 in
    let rest : entries_at (rows ++ more) ps ≡ entries_at rows ps = entries_still rows more ps within.1 in
    λ i. here i ∷ rest i

longer : (who : ℕ) (J : List Event) (event : Event) → length (rows_of who J) ≤ length (rows_of who (J ++ event ∷ []))
longer who J event = omega (arith, ap length (rows_push who J event), length-append (rows_of who J) (cons_option (row_of who event) []))

same_within : (who : ℕ) (J : List Event) (event : Event) (ps : List ℕ) → AreWithin (length (rows_of who J)) ps → AreWithin (length (rows_of who (J ++ event ∷ []))) ps
same_within who J event ps within = within_more (length (rows_of who J)) (length (rows_of who (J ++ event ∷ []))) ps (longer who J event) within

same_entries : (who : ℕ) (J : List Event) (event : Event) (ps : List ℕ) → AreWithin (length (rows_of who J)) ps → entries_at (rows_of who (J ++ event ∷ [])) ps ≡ entries_at (rows_of who J) ps
same_entries who J event ps within = ap (λ (rows : List Entry). entries_at rows ps) (rows_push who J event) ∙ entries_still (rows_of who J) (cons_option (row_of who event) []) ps within

-- an event that forwards nothing and hands out nothing
pub read_same : (who : ℕ) (J : List Event) (event : Event) (ps : List ℕ) (read : ℕ) → is_forwarding event ≡ false → handed_out event ≡ 0 → IsRead who J ps read → IsRead who (J ++ event ∷ []) ps read
read_same who J event ps read other none is = record {
  within = same_within who J event ps is.within;
  came = same_entries who J event ps is.within ∙ is.came ∙ sym ((in_order_of_arrival J).others event other);
  were_read = omega (arith, is.were_read, sum_by_push handed_out J event, none);
}

-- one that hands out more
pub read_on : (who : ℕ) (J : List Event) (count : ℕ) (ps : List ℕ) (read : ℕ) → IsRead who J ps read → IsRead who (J ++ Fetched count ∷ []) ps (read + count)
read_on who J count ps read is =
    let event : Event = Fetched count in
    record {
      within = same_within who J event ps is.within;
      came = same_entries who J event ps is.within ∙ is.came ∙ sym ((in_order_of_arrival J).others event refl);
      were_read = omega (arith, is.were_read, sum_by_push handed_out J event);
    }

-- one that forwards a transfer, which stands last in the table
pub read_more : (who : ℕ) (J : List Event) (from : ℕ) (id : List ℕ) (cents deadline : ℕ) (position : ℕ) (ps : List ℕ) (read : ℕ) → position ≡ length (rows_of who J) → IsRead who J ps read
    → IsRead who (J ++ Forwarded from id cents deadline ∷ []) (ps ++ position ∷ []) read
read_more who J from id cents deadline position ps read last is =
    let event : Event = Forwarded from id cents deadline in
    let entry : Entry = record { from = from; id = id; cents = cents; deadline = deadline } in
    let rows : List Entry = rows_of who J in
    let more : rows_of who (J ++ event ∷ []) ≡ rows ++ entry ∷ [] = rows_push who J event in
    let here : get_or (rows_of who (J ++ event ∷ [])) position no_entry ≡ entry = ap (λ (l : List Entry). get_or l position no_entry) more ∙ ap (λ (n : ℕ). get_or (rows ++ entry ∷ []) n no_entry) last ∙ get_next rows entry no_entry in
    record {
      within = subst (λ (n : ℕ). AreWithin (length (rows_of who (J ++ event ∷ []))) (ps ++ n ∷ [])) (sym last)
          (within_last (length rows) (length (rows_of who (J ++ event ∷ []))) ps (omega (arith, ap length more, length-append rows (entry ∷ []))) is.within);
      came = map-append (λ (p : ℕ). get_or (rows_of who (J ++ event ∷ [])) p no_entry) ps (position ∷ []) ∙ ap (λ (l : List Entry). l ++ get_or (rows_of who (J ++ event ∷ [])) position no_entry ∷ []) (same_entries who J event ps is.within ∙ is.came)
          ∙ ap (λ (e : Entry). inbox J ++ e ∷ []) here ∙ sym ((in_order_of_arrival J).arrival from id cents deadline);
      were_read = omega (arith, is.were_read, sum_by_push handed_out J event);
    }

-- the entries of a front of the positions, and of what is left of them
pub entries_front : (rows : List Entry) (n : ℕ) (ps : List ℕ) → entries_at rows (take n ps) ≡ take n (entries_at rows ps)
entries_front rows zero ps = refl
entries_front rows (suc n) [] = refl
entries_front rows (suc n) (p ∷ ps) = ap (λ (l : List Entry). get_or rows p no_entry ∷ l) (entries_front rows n ps)

pub entries_rest : (rows : List Entry) (n : ℕ) (ps : List ℕ) → entries_at rows (drop n ps) ≡ drop n (entries_at rows ps)
entries_rest rows zero ps = refl
entries_rest rows (suc n) [] = refl
entries_rest rows (suc n) (p ∷ ps) = entries_rest rows n ps

pub within_rest : (m n : ℕ) (ps : List ℕ) → AreWithin m ps → AreWithin m (drop n ps)
within_rest m zero ps within = within
within_rest m (suc n) [] within = tt
within_rest m (suc n) (p ∷ ps) within = within_rest m n ps within.1

pub within_front : (m n : ℕ) (ps : List ℕ) → AreWithin m ps → AreWithin m (take n ps)
within_front m zero ps within = tt
within_front m (suc n) [] within = tt
within_front m (suc n) (p ∷ ps) within = (within.0, within_front m n ps within.1)

-- what stands at a position of the table
pub within_get : (m : ℕ) (ps : List ℕ) (i : ℕ) → AreWithin m ps → i < length ps → get_or ps i 0 < m
within_get m [] i within below = absurd (omega (arith, below))
within_get m (p ∷ ps) zero within below = within.0
within_get m (p ∷ ps) (suc i) within below = within_get m ps i within.1 (omega (arith, below))

pub finds_there : (who : ℕ) (J : List Event) (held : Held) (p : ℕ) (r : Option Found) → IsRight who J (state_in held) → p < length (rows_of who J) → FindsAt held p r → is_some r ≡ true
finds_there who J held p None right below past = absurd (omega (arith, past, below, ap length right.rows, length-map held.entries row_in))
finds_there who J held p (Some f) right below found = refl

pub found_entry : (who : ℕ) (J : List Event) (held : Held) (p : ℕ) (f : Found) → IsRight who J (state_in held) → FindsAt held p (Some f) → get_or (rows_of who J) p no_entry ≡ row_in ((f.from, f.id), f.transfer)
found_entry who J held p f right found =
    get_or_from_slice_get (rows_of who J) p (row_in ((f.from, f.id), f.transfer)) no_entry
    (ap (slice_get (rows_of who J)) (sym found.0) ∙ ap (λ (rows : List Entry). slice_get rows f.position) (sym right.rows) ∙ row_there held.entries f.position ((f.from, f.id), f.transfer) found.1.row)

-- one position more
pub entries_more : (rows : List Entry) (ps : List ℕ) (i : ℕ) → i < length ps → entries_at rows (take (i + 1) ps) ≡ entries_at rows (take i ps) ++ get_or rows (get_or ps i 0) no_entry ∷ []
entries_more rows ps i below = ap (entries_at rows) (take_more ps i 0 below) ∙ map-append (λ (p : ℕ). get_or rows p no_entry) (take i ps) (get_or ps i 0 ∷ [])

pub if_ok : {A E : Type 0} {P Q : A → Type 0} (r : Result A E) → ((x : A) → P x → Q x) → IfOk r P → IfOk r Q
if_ok (Ok x) all here = all x here
if_ok (Err e) all here = here
