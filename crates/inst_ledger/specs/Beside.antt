-- The invariant of a ledger: its totals, tables, inbox and statement agree with its history. A
-- choice of this hub.
use Rattle.std.specs.Prelude.{◌≡◌, ℕ, ◌+◌, ◌*◌, ◌≤◌, List, length, Option, Some, None, sum_by}
use Rattle.std.specs.Prelude.{if◌then◌else◌, true, false}
use Rattle.inst_settings.specs.Settings.{HubSettings, same_text}
use Rattle.inst_journal.specs.declared.event.Event.{Event}
use Rattle.inst_journal.specs.declared.event.Event.TheVariants.{Funded, Defunded, Forwarded}
use Rattle.inst_journal.specs.Keys.{is_funding, fundings}
use Rattle.inst_journal.specs.Booked.{is_forwarding}
use Rattle.inst_base.specs.declared.cents.TheConstants.{MOST_CENTS}
use Rattle.inst_ledger.specs.declared.references.KeptFunding.{KeptFunding}
use Rattle.inst_ledger.specs.declared.totals.Totals.{Totals}
use Rattle.inst_ledger.specs.Inbox.{IsRead}
use Rattle.inst_ledger.specs.Kept.{IsTable}
use Rattle.inst_ledger.specs.Right.{IsRight}
use Rattle.inst_settings.specs.Lawful.{IsSettings}
use Rattle.inst_journal.specs.Sound.{IsSound}
use Rattle.inst_journal.specs.Sums.{funded, defunded}
use Rattle.inst_transfers.specs.Held.{Held, state_in}
use Rattle.inst_statement.specs.KeptStatement.{Stated, IsStatementOf}

-- The funding that the event keeps under this reference.
abbrev pub funding_of : List ℕ → Event → Option KeptFunding
funding_of reference (Funded funding) =
    if same_text funding.reference reference
    then Some (record { is_defunding = false; cents = funding.cents }) else None
funding_of reference (Defunded funding) =
    if same_text funding.reference reference
    then Some (record { is_defunding = true; cents = funding.cents }) else None
funding_of reference _ = None

-- The most that the event can add to the position.
abbrev pub amount_of : Event → ℕ
amount_of (Funded funding) = funding.cents
amount_of (Forwarded from id cents deadline) = cents
amount_of _ = 0

-- The sum over fundings and forwarded transfers, each counted as the maximum amount.
abbrev pub most_of : List Event → ℕ
most_of J = sum_by (λ event. if is_funding event then MOST_CENTS else 0) J
    + sum_by (λ event. if is_forwarding event then MOST_CENTS else 0) J

-- Everything but the statement agrees with the history.
--
-- - within: the length of the history bounds the money that came in, so no sum overflows
pub record IsBeside (s : HubSettings) (who : ℕ) (J : List Event) (t : Totals) (table : Held)
    (references : List ℕ → Option KeptFunding)
    (since : ℕ) (positions : List ℕ) (read : ℕ) : Type 0 where
  pub lawful : IsSettings s
  pub sound : IsSound s who J
  pub whose : table.who ≡ who
  pub right : IsRight who J (state_in table)
  pub funded : t.funded ≡ funded J
  pub defunded : t.defunded ≡ defunded J
  pub within : t.funded + table.credits ≤ length J * MOST_CENTS
  pub referred : IsTable funding_of J references
  pub fundings : since ≡ fundings J
  pub inboxed : IsRead who J positions read
  pub amounts : sum_by amount_of J ≤ most_of J

-- The statement agrees with the history too.
pub record IsLedger (s : HubSettings) (who : ℕ) (J : List Event) (t : Totals) (table : Held)
    (references : List ℕ → Option KeptFunding)
    (since : ℕ) (positions : List ℕ) (read : ℕ) (stated : Stated) : Type 0 where
  pub beside : IsBeside s who J t table references since positions read
  pub lines : IsStatementOf J stated
