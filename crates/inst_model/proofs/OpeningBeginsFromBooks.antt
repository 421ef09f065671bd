-- At the opening nothing is untold, statements are empty, and the money is that of the books.
use Rattle.std.proofs.Common.{◌≡◌, ℕ, zero, suc, [], Option, Some, None, refl, arith}
use Rattle.inst_settings.specs.Settings.{HubSettings, participants}
use Rattle.inst_command.specs.declared.outcome.Outcome.{Outcome}
use Rattle.inst_journal.specs.Booked.{booked}
use Rattle.inst_journal.specs.Living.{SameMoney}
use Rattle.inst_journal.specs.Statement.{statement}
use Rattle.inst_journal.proofs.StatementLeadsToPosition.{begins_a_statement}
use Rattle.inst_journal.proofs.EffectsOfAnOpening.{same_money}
use Rattle.inst_model.specs.AtTheOpening.{AnOpeningBeginsFromItsBooks}
use Rattle.inst_model.specs.Opening.{Opening, beginning, book}
use Rattle.inst_model.specs.Opening.Opening.{First, FromBooks}
use Rattle.inst_model.specs.Transfer.{Transfer, transfers}
use Rattle.inst_model.specs.Untold.{sum_below, if_untold, untold_by}
use Rattle.inst_model.proofs.Sums.{sum_by_zeros, each_of}

-- what is booked as it was decided isn't untold
pub none_untold : (o : Option Outcome) (cents : ℕ) → if_untold o o cents ≡ 0
none_untold None cents = refl
none_untold (Some o) cents = refl

pub zeros_below : (n : ℕ) (f : ℕ → ℕ) → ((p : ℕ) → f p ≡ 0) → sum_below n f ≡ 0
zeros_below zero f none = refl
zeros_below (suc n) f none = omega (arith, zeros_below n f none, none n)

told_by : (s : HubSettings) (O : Opening) (p : ℕ) → untold_by s O [] p ≡ 0
told_by s O p =
    let weight : Transfer → ℕ = λ x. if_untold (booked p x.id (beginning O p)) (booked p x.id (beginning O p)) x.cents in
    sum_by_zeros weight (transfers (beginning O p)) (each_of (λ (x : Transfer). weight x ≡ 0) (transfers (beginning O p)) (λ x. none_untold (booked p x.id (beginning O p)) x.cents))

empty_statement : (O : Opening) (p : ℕ) → statement (beginning O p) ≡ []
empty_statement First p = refl
empty_statement (FromBooks books) p = begins_a_statement (books p)

money_of_the_book : (O : Opening) (p : ℕ) → SameMoney (book O p) (beginning O p)
money_of_the_book First p = record { position = refl; reserved = refl; available = refl }
money_of_the_book (FromBooks books) p = same_money (books p)

pub begins_from_its_books : AnOpeningBeginsFromItsBooks
begins_from_its_books s O = record {
  all_told = zeros_below (participants s) (untold_by s O []) (told_by s O);
  empty_statement = empty_statement O;
  same_money = money_of_the_book O;
}
