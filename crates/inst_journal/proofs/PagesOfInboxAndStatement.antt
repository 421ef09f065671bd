-- A page is the next of the arrivals, and keeping it moves the mark past it; a part of a statement is the next of its
-- lines.
use Rattle.std.proofs.Common.{◌≡◌, ℕ, zero, suc, ◌+◌, ◌≤◌, false, List, [], ◌∷◌, ◌++◌, length, take, drop, sum_by, Option, None, Ok, refl, sym, ap, ◌∙◌, arith, append-nil, take-append-drop}
use Rattle.std.specs.List.{filter_map}
use Rattle.std.proofs.Math.Seq.{take-add}
use Rattle.std.proofs.lemmas.Bool.{false≢true}
use Rattle.std.proofs.lemmas.List.{length-take}
use Rattle.std.proofs.lemmas.List.Elements.{filter_map-append}
use Rattle.inst_settings.specs.Settings.{HubSettings}
use Rattle.inst_command.specs.declared.outcome.Outcome.{Outcome}
use Rattle.inst_journal.specs.declared.event.Event.{Event}
use Rattle.inst_journal.specs.declared.event.Event.TheVariants.{Funded, Defunded, Taken, Forwarded, Booked, Fetched, Opened}
use Rattle.inst_command.specs.declared.entry.Entry.{Entry}
use Rattle.inst_command.specs.declared.reply.Reply.TheVariants.{Inbox}
use Rattle.inst_journal.specs.Booked.{is_forwarding}
use Rattle.inst_journal.specs.Lines.{NextPart}
use Rattle.inst_journal.specs.Pages.{IsInOrderOfArrival, read_so_far, NextPage}
use Rattle.inst_journal.specs.Reply.{entry_of, inbox, handed_out, unread, hand_out, reply_result, kept_events}
use Rattle.inst_journal.specs.Statement.{statement, statement_part}
use Rattle.inst_journal.proofs.OneMoreElement.{sum_by_push}

no_entry : (event : Event) → is_forwarding event ≡ false → entry_of event ≡ None
no_entry (Forwarded from id cents deadline) other = absurd (false≢true (sym other))
no_entry (Taken id to cents stamp) other = refl
no_entry (Funded funding) other = refl
no_entry (Defunded funding) other = refl
no_entry (Booked from id outcome) other = refl
no_entry (Fetched count) other = refl
no_entry Opened other = refl

nothing_more : (xs : List Entry) → xs ++ [] ≡ xs
nothing_more xs = append-nil xs

entries_of : (event : Event) → entry_of event ≡ None → filter_map entry_of (event ∷ []) ≡ []
entries_of event none = rw none refl

inbox_same : (J : List Event) (event : Event) → is_forwarding event ≡ false → inbox (J ++ event ∷ []) ≡ inbox J
inbox_same J event other =
    filter_map-append entry_of J (event ∷ []) ∙ ap (λ rest. inbox J ++ rest) (entries_of event (no_entry event other)) ∙ nothing_more (inbox J)

-- a forwarded transfer comes to the end of the inbox
pub in_order_of_arrival : (J : List Event) → IsInOrderOfArrival J
in_order_of_arrival J = record {
  arrival = λ from id cents deadline. filter_map-append entry_of J (Forwarded from id cents deadline ∷ []);
  others = λ event other. inbox_same J event other;
}

told_page : (entries : List Entry) → reply_result (hand_out entries) ≡ Ok (Inbox entries)
told_page [] = refl
told_page (entry ∷ entries) = refl

inbox_kept : (J : List Event) (entries : List Entry) → inbox (J ++ kept_events (hand_out entries)) ≡ inbox J
inbox_kept J [] = ap inbox (append-nil J)
inbox_kept J (entry ∷ entries) = inbox_same J (Fetched (length (entry ∷ entries))) refl

handed_kept : (J : List Event) (entries : List Entry) → sum_by handed_out (J ++ kept_events (hand_out entries)) ≡ sum_by handed_out J + length entries
handed_kept J [] = ap (sum_by handed_out) (append-nil J) ∙ add-nothing (sum_by handed_out J)
  where
    add-nothing : (n : ℕ) → n ≡ n + 0
    add-nothing n = omega arith
handed_kept J (entry ∷ entries) = sum_by_push handed_out J (Fetched (length (entry ∷ entries)))

-- the front of a list that is as long as a front of it
take_same : (m : ℕ) (xs : List Entry) → take (length (take m xs)) xs ≡ take m xs
take_same zero xs = refl
take_same (suc m) [] = refl
take_same (suc m) (x ∷ xs) = ap (λ ys. x ∷ ys) (take_same m xs)

none_left : (max : ℕ) (xs : List Entry) → 1 ≤ max → take max xs ≡ [] → xs ≡ []
none_left zero xs one none = absurd (omega arith)
none_left (suc max) [] one none = refl
none_left (suc max) (x ∷ xs) one none = cc

-- a fetch hands out the next page
pub next_page : (s : HubSettings) (who : ℕ) (J : List Event) (max at : ℕ) (found : Option Outcome) → NextPage s who J max at found
next_page s who J max at found =
    let page : List Entry = take max (unread J) in
    let mark : ℕ = sum_by handed_out J in
    let K : List Event = J ++ kept_events (hand_out page) in
    let front : take (mark + length page) (inbox J) ≡ read_so_far J ++ page =
    take-add mark (length page) (inbox J) ∙ ap (λ ys. read_so_far J ++ ys) (take_same max (unread J)) in
    let after : read_so_far K ≡ take (mark + length page) (inbox J) =
    ap (λ n. take n (inbox K)) (handed_kept J page) ∙ ap (take (mark + length page)) (inbox_kept J page) in
    record {
      page = page;
      replied = told_page page;
      short = omega (arith, length-take max (unread J));
      next = sym (after ∙ front);
      same_inbox = inbox_kept J page;
      none_only_at_the_end = λ one none.
          sym (sym (take-append-drop mark (inbox J)) ∙ ap (λ rest. read_so_far J ++ rest) (none_left max (unread J) one none) ∙ nothing_more (read_so_far J));
    }

-- a part of a statement is what comes after the lines that are skipped
pub next_part : (s : HubSettings) (who : ℕ) (J : List Event) (skip count at : ℕ) (found : Option Outcome) → NextPart s who J skip count at found
next_part s who J skip count at found = record {
  part = statement_part J skip count;
  replied = refl;
  short = omega (arith, length-take count (drop skip (statement J)));
  next = sym (take-add skip count (statement J));
  same_history = append-nil J;
}
