use Rattle.std.proofs.Common.{ℕ, Option, IfSome, sym, ap, subst, ◌∙◌}
use Rattle.std.specs.Prelude.{IsTrue}
use Rattle.inst_settings.specs.Settings.{is_participant}
use Rattle.inst_journal.specs.Sound.{IsSound}
use Rattle.inst_ledger.specs.Beneficiary.{beneficiary_of}
use Rattle.inst_ledger.proofs.Beneficiary.{beneficiary_participates}
use Rattle.inst_slot.specs.Book.{Book}
use Rattle.inst_slot.proofs.slot.Slot.beneficiary_of.Goals as goal

pub returns-clause-value : goal.returns-clause-value
returns-clause-value c = c.beneficiary_of.ensures ∙ ap (λ (x : Book). beneficiary_of c.args.id.now x.events) c.self.view_is

pub returns-clause-participant : goal.returns-clause-participant
returns-clause-participant c =
    let book : Book = c.args.self.now in
    let value = c.beneficiary_of.ensures ∙ ap (λ (x : Book). beneficiary_of c.args.id.now x.events) c.self.view_is in
    let sound = subst (λ (x : Book). IsSound x.settings x.who x.events) c.self.view_is c.self.invariant.0.1 in
    subst (λ (o : Option ℕ). IfSome o (λ (to : ℕ). IsTrue (is_participant book.settings to))) (sym value) (beneficiary_participates book.settings book.who c.args.id.now book.events sound)
