use Rattle.std.proofs.Common.{◌≡◌, ℕ, Bool, List, Option, is_some, sym, ap, ◌∙◌, rules}
use Rattle.inst_settings.specs.Settings.{HubSettings}
use Rattle.inst_command.specs.declared.submission.Submission.{Submission}
use Rattle.inst_journal.specs.declared.event.Event.{Event}
use Rattle.inst_journal.specs.Booked.{first_some, is_taken}
use Rattle.inst_journal.specs.Keys.{is_submission_repeat}
use Rattle.inst_journal.specs.Sound.{IsSound}
use Rattle.inst_ledger.specs.declared.sending.Sending.{Sending}
use Rattle.inst_ledger.specs.Kept.{sending_of}
use Rattle.inst_ledger.specs.inner.Kept.{is_sending}
use Rattle.inst_ledger.proofs.Amounts.{repeat_found}
use Rattle.inst_ledger.proofs.Tables.{taken_found}
use Rattle.inst_ledger.proofs.ledger.Ledger.is_new_submission.Goals as goal

repeats : (s : HubSettings) (who : ℕ) (x : Submission) (J : List Event) {found : Option Sending} {is : Bool} → IsSound s who J → found ≡ first_some (sending_of x.id) J
    → is ≡ is_sending x found → is ≡ is_submission_repeat x J
repeats s who x J sound sent same = same ∙ ap (is_sending x) sent ∙ sym (repeat_found s who x J sound)

takes : (id : List ℕ) (J : List Event) {found : Option Sending} {is : Bool} → found ≡ first_some (sending_of id) J → is ≡ is_some found → is ≡ is_taken id J
takes id J sent same = same ∙ ap is_some sent ∙ sym (taken_found id J)

pub returns-then-is_sending-clause-answer : goal.returns-then-is_sending-clause-answer
returns-then-is_sending-clause-answer c =
    let repeat = repeats _ _ _ _ c.settings-settings.ensures.sound c.sending-sending.ensures c.is_sending.ensures in
    search (rules, repeat)

pub returns-then-is_some-clause-answer : goal.returns-then-is_some-clause-answer
returns-then-is_some-clause-answer c =
    let repeat = repeats _ _ _ _ c.settings-settings.ensures.sound c.sending-sending.ensures c.is_sending.ensures in
    let taken = takes c.args.submission.now.id c.args.self.now.book.events c.sending-sending.ensures c.is_some.ensures in
    search (rules, repeat, taken)

pub returns-then-is_ahead-clause-answer : goal.returns-then-is_ahead-clause-answer
returns-then-is_ahead-clause-answer c =
    let repeat = repeats _ _ _ _ c.settings-settings.ensures.sound c.sending-sending.ensures c.is_sending.ensures in
    let taken = takes c.args.submission.now.id c.args.self.now.book.events c.sending-sending.ensures c.is_some.ensures in
    search (rules, repeat, taken)

pub returns-then-is_due-clause-answer : goal.returns-then-is_due-clause-answer
returns-then-is_due-clause-answer c =
    let repeat = repeats _ _ _ _ c.settings-settings.ensures.sound c.sending-sending.ensures c.is_sending.ensures in
    let taken = takes c.args.submission.now.id c.args.self.now.book.events c.sending-sending.ensures c.is_some.ensures in
    search (rules, repeat, taken)

pub returns-then-live_submissions-from-clause-answer : goal.returns-then-live_submissions-from-clause-answer
returns-then-live_submissions-from-clause-answer c =
    let repeat = repeats _ _ _ _ c.settings-settings.ensures.sound c.sending-sending.ensures c.is_sending.ensures in
    let taken = takes c.args.submission.now.id c.args.self.now.book.events c.sending-sending.ensures c.is_some.ensures in
    search (rules, repeat, taken)

pub returns-then-from-available-clause-answer : goal.returns-then-from-available-clause-answer
returns-then-from-available-clause-answer c =
    let repeat = repeats _ _ _ _ c.settings-settings.ensures.sound c.sending-sending.ensures c.is_sending.ensures in
    let taken = takes c.args.submission.now.id c.args.self.now.book.events c.sending-sending.ensures c.is_some.ensures in
    search (rules, repeat, taken)

pub returns-clause-answer : goal.returns-clause-answer
returns-clause-answer c =
    let repeat = repeats _ _ _ _ c.settings-settings.ensures.sound c.sending-sending.ensures c.is_sending.ensures in
    let taken = takes c.args.submission.now.id c.args.self.now.book.events c.sending-sending.ensures c.is_some.ensures in
    search (rules, repeat, taken)

pub returns-clause-fits : goal.returns-clause-fits
returns-clause-fits c =
    let repeat = repeats _ _ _ _ c.settings-settings.ensures.sound c.sending-sending.ensures c.is_sending.ensures in
    let taken = takes c.args.submission.now.id c.args.self.now.book.events c.sending-sending.ensures c.is_some.ensures in
    search (rules, repeat, taken)
