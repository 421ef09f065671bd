-- The books that a hub can open from can be written.
use Rattle.std.proofs.Common.{◌≡◌, ℕ, suc, ◌+◌, true, ◌&&◌, List, [], ◌∷◌, length, refl, ap₂, subst, arith}
use Rattle.std.proofs.lemmas.Bool.{lt-ltb}
use Rattle.inst_settings.specs.Settings.{HubSettings, participants, is_participant}
use Rattle.inst_journal.specs.History.{History}
use Rattle.inst_journal.specs.Sound.{IsSound}
use Rattle.inst_books.specs.Books.{all_events, AreWritable}
use Rattle.inst_books.proofs.SoundHistoryCanBeWritten.{sound_writable}
use Rattle.inst_world.specs.NextOpening.{books_of, CanOpenFrom}

books_written : (s : HubSettings) (n : ℕ) (journals : List History) → n + length journals ≡ participants s → ((p : ℕ) → IsSound s (n + p) (books_of journals p))
    → AreWritable s (all_events journals)
books_written s n [] all sound = refl
books_written s n (journal ∷ journals) all sound =
    let here : n + 0 ≡ n = omega arith in
    let one : is_participant s n ≡ true = lt-ltb n (participants s) (omega (arith, all)) in
    let rest = books_written s (n + 1) journals (omega (arith, all)) (λ p. let next : n + suc p ≡ (n + 1) + p = omega arith in subst (λ q. IsSound s q (books_of journals p)) next (sound (suc p))) in
    ap₂ (λ a b. a && b) (sound_writable s n journal.events one (subst (λ q. IsSound s q journal.events) here (sound 0))) rest

pub can_be_written : (s : HubSettings) (journals : List History) → CanOpenFrom s journals → AreWritable s (all_events journals)
can_be_written s journals can =
    books_written s 0 journals (omega (arith, can.one_each)) (λ p. let same : p ≡ 0 + p = omega arith in subst (λ q. IsSound s q (books_of journals p)) same (can.books.sound p))
