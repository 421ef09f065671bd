-- Journals that are kept again by ledgers, and what their agreement says of the journals.
use Rattle.std.proofs.Common.{◌≡◌, ℕ, zero, suc, ◌+◌, ◌<◌, ◌≤◌, List, [], ◌∷◌, ◌++◌, length, length-append, take, get_or, Bool, Option, Some, is_some, IsSome, IfSome, ◌⊎◌, inl, inr, ◌↔◌, IsTrue, refl, sym, ap, ◌∙◌, subst, arith}
use Rattle.std.specs.Prelude.{slice_get}
use Rattle.std.specs.List.{All}
use Rattle.std.proofs.lemmas.Option.{slice_get_past}
use Rattle.inst_base.proofs.Lists.{last_at}
use Rattle.inst_settings.specs.Settings.{HubSettings, participants}
use Rattle.inst_journal.specs.declared.event.Event.{Event}
use Rattle.inst_journal.specs.History.{History}
use Rattle.inst_journal.specs.Opened.{HasOpeningsLeft}
use Rattle.inst_journal.specs.Sound.{Fits, IsSound}
use Rattle.inst_journal.proofs.Soundness.{sound_push}
use Rattle.inst_ledger.specs.Book.{LedgerBook, BookAndRoom, ledger_with_event}
use Rattle.inst_ledger.proofs.HistoryEventByEvent.{fits_at_place, one_more}
use Rattle.inst_world.specs.NextOpening.{kept_by, books_of, CanOpenFrom}
use Rattle.inst_world.proofs.BoardOfReopenedHub.{book_at}
use Rattle.inst_books.specs.inner.Agreeing.{Agrees, kept_in, ledger_histories}
use Rattle.inst_books.specs.inner.Replaying.{CanBeBook, AreKeptJournals, AreAllKept}
use Rattle.inst_books.proofs.BooksCloseWhereSidesAgree.{agreement_closes, closed_agree}

abbrev pub book_with : HubSettings → ℕ → List Event → LedgerBook
book_with s who J = record { settings = s; who = who; events = J }

-- the next event of a sound history fits what was kept of it
pub next_fits : (s : HubSettings) (who : ℕ) (J items : List Event) (i : ℕ) (x : Event) (b : LedgerBook) → items ≡ J → IsSound s who J → i < length items → x ≡ get_or items i x → b ≡ book_with s who (take i J) → Fits b.settings b.who b.events x
next_fits s who J items i x b same sound below here kept =
    subst (λ (b : LedgerBook). Fits b.settings b.who b.events x) (sym kept) (fits_at_place s who J items i x same sound below here)

-- an event that fits was kept
pub kept_more : (s : HubSettings) (who : ℕ) (J items : List Event) (i : ℕ) (x : Event) (b after : LedgerBook) → items ≡ J → i < length items → x ≡ get_or items i x → b ≡ book_with s who (take i J) → after ≡ ledger_with_event b x
    → after ≡ book_with s who (take (i + 1) J)
kept_more s who J items i x b after same below here kept more =
    more ∙ ap (λ (b : LedgerBook). ledger_with_event b x) kept ∙ ap (book_with s who) (sym (one_more J items i x same below here))

pub sound_more : (s : HubSettings) (who : ℕ) (J items : List Event) (i : ℕ) (x : Event) (b : LedgerBook) → items ≡ J → i < length items → x ≡ get_or items i x → b ≡ book_with s who (take i J) → IsSound s who (take i J) → Fits b.settings b.who b.events x
    → IsSound s who (take (i + 1) J)
sound_more s who J items i x b same below here kept sound fits =
    subst (IsSound s who) (sym (one_more J items i x same below here))
    (sound_push s who (take i J) x sound (subst (λ (b : LedgerBook). Fits b.settings b.who b.events x) kept fits))

pub get_before : {A : Type 0} (xs : List A) (x : A) (i : ℕ) → i < length xs → slice_get (xs ++ x ∷ []) i ≡ slice_get xs i
get_before [] x i below = absurd (omega (arith, below))
get_before (y ∷ ys) x zero below = refl
get_before (y ∷ ys) x (suc i) below = get_before ys x i (omega (arith, below))

pub below_or_last : (p n : ℕ) → p < n + 1 → (p < n) ⊎ (n ≡ p)
below_or_last p n below = grind arith

-- one journal more
pub one_ledger_more : (s : HubSettings) (journals : List History) (ledgers : List BookAndRoom) (ledger : BookAndRoom) → AreKeptJournals s journals ledgers → CanBeBook s (length ledgers) (books_of journals (length ledgers))
    → ledger.book.events ≡ books_of journals (length ledgers) → AreKeptJournals s journals (ledgers ++ ledger ∷ [])
one_ledger_more s journals ledgers ledger are can same = record {
  can = λ p below. can_at p (below_or_last p (length ledgers) (omega (arith, below, long)));
  same = λ p below. same_at p (below_or_last p (length ledgers) (omega (arith, below, long)));
}
  where
    long : length (ledgers ++ ledger ∷ []) ≡ length ledgers + 1
    long = length-append ledgers (ledger ∷ [])

    can_at : (p : ℕ) → (p < length ledgers) ⊎ (length ledgers ≡ p) → CanBeBook s p (books_of journals p)
    can_at p (inl before) = are.can p before
    can_at p (inr last) = subst (λ (p : ℕ). CanBeBook s p (books_of journals p)) last can

    same_at : (p : ℕ) → (p < length ledgers) ⊎ (length ledgers ≡ p) → ledger_histories (ledgers ++ ledger ∷ []) p ≡ books_of journals p
    same_at p (inl before) = ap kept_in (get_before ledgers ledger p before) ∙ are.same p before
    same_at p (inr last) = ap (ledger_histories (ledgers ++ ledger ∷ [])) (sym last) ∙ ap kept_in (last_at ledgers ledger) ∙ same ∙ ap (books_of journals) last

module _ (s : HubSettings) (journals : List History) (ledgers : List BookAndRoom) (one_each : length journals ≡ participants s) (all : AreAllKept s journals ledgers) where
  within : (p : ℕ) → (p < length ledgers) ⊎ (length ledgers ≤ p)
  within p = grind arith

  none : (p : ℕ) → length ledgers ≤ p → books_of journals p ≡ []
  none p past = ap kept_by (slice_get_past journals p (omega (arith, past, all.one_each)))

  same_at : (p : ℕ) → (p < length ledgers) ⊎ (length ledgers ≤ p) → ledger_histories ledgers p ≡ books_of journals p
  same_at p (inl before) = all.kept.same p before
  same_at p (inr past) = ap kept_in (slice_get_past ledgers p past) ∙ sym (none p past)

  same : ledger_histories ledgers ≡ books_of journals
  same = λ i p. same_at p (within p) i

  sound_at : (p : ℕ) → (p < length ledgers) ⊎ (length ledgers ≤ p) → IsSound s p (books_of journals p)
  sound_at p (inl before) = (all.kept.can p before).sound
  sound_at p (inr past) = subst (IsSound s p) (sym (none p past)) tt

  few_at : (p : ℕ) → (p < length ledgers) ⊎ (length ledgers ≤ p) → HasOpeningsLeft (books_of journals p)
  few_at p (inl before) = (all.kept.can p before).few
  few_at p (inr past) = subst (λ (J : List Event). HasOpeningsLeft J) (sym (none p past)) (omega arith)

  sound : (p : ℕ) → IsSound s p (books_of journals p)
  sound p = sound_at p (within p)

  abbrev AgreeIn : (ℕ → List Event) → Type 0
  AgreeIn J = (p : ℕ) → All (Agrees s.limit J p) (J p)

  -- a hub can open from journals that are kept exactly where they agree
  pub agreement_opens : AgreeIn (ledger_histories ledgers) ↔ CanOpenFrom s journals
  agreement_opens = (
    λ agree. record {
      one_each = one_each;
      books = record {
        sound = sound;
        closed = agreement_closes s (books_of journals) sound (subst AgreeIn same agree);
        few = λ p. few_at p (within p);
      };
    },
    λ can. subst AgreeIn (sym same) (closed_agree s (books_of journals) sound can.books.closed),
  )

-- what tells of ledgers whether they agree tells whether a hub can open from the journals
pub agreement_tells : (s : HubSettings) (journals : List History) (ledgers seen : List BookAndRoom) (limit : ℕ) (r : Bool) → length journals ≡ participants s → AreAllKept s journals ledgers → limit ≡ s.limit → seen ≡ ledgers
    → IsTrue r ↔ ((p : ℕ) → All (Agrees limit (ledger_histories seen) p) (ledger_histories seen p)) → IsTrue r ↔ CanOpenFrom s journals
agreement_tells s journals ledgers seen limit r one_each all same_limit same_ledgers tells =
    let opens = agreement_opens s journals ledgers one_each all in
    let at_limit : IsTrue r ↔ ((p : ℕ) → All (Agrees s.limit (ledger_histories seen) p) (ledger_histories seen p)) =
    subst (λ (n : ℕ). IsTrue r ↔ ((p : ℕ) → All (Agrees n (ledger_histories seen) p) (ledger_histories seen p))) same_limit tells in
    let decided : IsTrue r ↔ ((p : ℕ) → All (Agrees s.limit (ledger_histories ledgers) p) (ledger_histories ledgers p)) =
    subst (λ (xs : List BookAndRoom). IsTrue r ↔ ((p : ℕ) → All (Agrees s.limit (ledger_histories xs) p) (ledger_histories xs p))) same_ledgers at_limit in
    (λ yes. opens.0 (decided.0 yes), λ can. decided.1 (opens.1 can))

-- one journal more is kept again
pub one_kept : (s : HubSettings) (journals : List History) (ledgers after : List BookAndRoom) (ledger : BookAndRoom) (journal : History) (o : Option BookAndRoom) (n : ℕ) → length ledgers ≡ n → n < length journals
    → journal ≡ get_or journals n journal → o ≡ Some ledger → IsSome o ↔ CanBeBook s n journal.events → IfSome o (λ l. l.book.events ≡ journal.events) → after ≡ ledgers ++ ledger ∷ [] → AreKeptJournals s journals ledgers → AreKeptJournals s journals after
one_kept s journals ledgers after ledger journal o n count below here is can same more kept =
    let its : books_of journals (length ledgers) ≡ journal.events = ap (books_of journals) count ∙ book_at journals n n journal below refl here in
    let may : CanBeBook s n journal.events = can.0 (ap is_some is) in
    let at_last : CanBeBook s (length ledgers) (books_of journals (length ledgers)) =
    subst (λ (J : List Event). CanBeBook s (length ledgers) J) (sym its) (subst (λ (p : ℕ). CanBeBook s p journal.events) (sym count) may) in
    let events : ledger.book.events ≡ journal.events = subst (λ (o : Option BookAndRoom). IfSome o (λ l. l.book.events ≡ journal.events)) is same in
    subst (λ (xs : List BookAndRoom). AreKeptJournals s journals xs) (sym more) (one_ledger_more s journals ledgers ledger kept at_last (events ∙ sym its))
