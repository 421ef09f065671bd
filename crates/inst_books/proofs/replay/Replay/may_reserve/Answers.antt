use Rattle.std.proofs.Common.{◌≡◌, ℕ, arith, sym, ap, ◌∙◌}
use Rattle.std.proofs.lemmas.Bool.{false≢true}
use Rattle.inst_settings.specs.Settings.{HubSettings, is_within_ceiling}
use Rattle.inst_journal.specs.Opened.{live_submissions}
use Rattle.inst_ledger.specs.Book.{LedgerBook}
use Rattle.inst_books.proofs.replay.Replay.may_reserve.Goals as goal
use Rattle.inst_books.proofs.replay.Replay.may_reserve.Goals.{then-live_submissions-from, else-live_submissions-from}

pub returns-else-allows : goal.returns-else-allows
returns-else-allows c =
    let same : c.settings-settings.result.now ≡ c.args.self.now.settings = c.settings-settings.ensures.value ∙ ap (λ (b : LedgerBook). b.settings) c.self.view_is in
    let live : c.live_submissions.result ≡ live_submissions c.args.self.now.who c.args.self.now.events = c.live_submissions.ensures ∙ ap (λ (b : LedgerBook). live_submissions b.who b.events) c.self.view_is in (
      λ yes. absurd (false≢true (sym c.if-allows.false ∙ yes)),
      λ may.
          elim c.if-live_submissions-from.branch [
            | then-live_submissions-from w ↦
                w.value-is ∙ w.allows.ensures.value ∙ ap (λ (s : HubSettings). is_within_ceiling s w.get.result) same
                ∙ ap (λ (n : ℕ). is_within_ceiling c.args.self.now.settings n) w.get.ensures.value ∙ may.1
            | else-live_submissions-from w ↦
                absurd (omega (arith, may.0, w.if-live_submissions-from.false, c.from.ensures, c.places.ensures.value, ap (λ (s : HubSettings). s.places) same, live))
          ],
    )
