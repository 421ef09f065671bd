-- What a ledger keeps beside a history with no events.
use Rattle.std.proofs.Common.{◌≡◌, ℕ, List, [], Option, None, refl, sym, ap, subst, arith}
use Rattle.inst_settings.specs.Settings.{HubSettings}
use Rattle.inst_settings.specs.Lawful.{IsSettings}
use Rattle.inst_journal.specs.declared.event.Event.{Event}
use Rattle.inst_transfers.specs.State.{State, empty_table}
use Rattle.inst_transfers.specs.Held.{Held, state_in}
use Rattle.inst_ledger.specs.declared.references.KeptFunding.{KeptFunding}
use Rattle.inst_ledger.specs.declared.totals.Totals.{Totals}
use Rattle.inst_ledger.specs.Beside.{IsBeside}
use Rattle.inst_ledger.specs.Inbox.{IsRead}
use Rattle.inst_ledger.specs.Right.{IsRight}
use Rattle.inst_ledger.proofs.TableStaysRight.{right_begun}

pub begun : (s : HubSettings) (who : ℕ) (J : List Event) (t : Totals) (table : Held) (R : List ℕ → Option KeptFunding) (positions : List ℕ) → IsSettings s → J ≡ [] → t ≡ record { funded = 0; defunded = 0 } → table.who ≡ who → state_in table ≡ empty_table
    → ((reference : List ℕ) → R reference ≡ None) → positions ≡ [] → IsBeside s who J t table R 0 positions 0
begun s who J t table R positions lawful no_event no_money whose no_transfer no_reference no_entry =
    subst (λ (K : List Event). IsBeside s who K t table R 0 positions 0) (sym no_event)
    (subst (λ (u : Totals). IsBeside s who [] u table R 0 positions 0) (sym no_money)
    (record {
      lawful = lawful;
      sound = tt;
      whose = whose;
      right = subst (λ (st : State). IsRight who [] st) (sym no_transfer) (right_begun who);
      funded = refl;
      defunded = refl;
      within = omega (arith, ap (λ (st : State). st.credits) no_transfer);
      referred = no_reference;
      fundings = refl;
      inboxed = subst (λ (l : List ℕ). IsRead who [] l 0) (sym no_entry) (record { within = tt; came = refl; were_read = refl });
      amounts = omega arith;
    }))
