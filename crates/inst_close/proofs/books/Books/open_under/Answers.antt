use Rattle.std.proofs.Common.{◌≡◌, ◌∙◌, ◌-◌, ℕ, length, sym, ap, subst, List}
use Rattle.std.proofs.lemmas.Bool.{false≢true}
use Rattle.inst_settings.specs.Settings.{HubSettings, participants}
use Rattle.inst_settings.specs.Lawful.{IsSettings}
use Rattle.inst_cell.specs.Opening.{MayOpen}
use Rattle.inst_journal.specs.History.{History}
use Rattle.inst_world.specs.NextOpening.{CanOpenFrom, books_of}
use Rattle.inst_participant.proofs.OneBookSettlesOthersStay.{if_ok}
use Rattle.inst_close.specs.Closing.{AreNextTellers}
use Rattle.inst_close.specs.NextOpening.{KeepsBaseAndCodes, MayOpenUnder}
use Rattle.inst_close.proofs.NextHubFromCopies.{all_there, books_can, copies_can, next_tellers, seats_if_ok}
use Rattle.inst_close.proofs.books.Books.open_under.Goals as goal

pub returns-then-not-branch-clause-bad : goal.returns-then-not-branch-clause-bad
returns-then-not-branch-clause-bad c = λ _ may.
    let s : HubSettings = c.args.settings in
    let closed = c.args.self.now in
    let joined = c.from.ensures ∙ (ap (λ (n : ℕ). n - c.participants-2.result) c.participants.ensures.value ∙ ap (λ (n : ℕ). participants s - n) (c.participants-2.ensures.value ∙ ap participants c.settings-3.ensures.settings)) in
    let many = all_there closed.settings s closed.books c.from.result c.settings.ensures.one_each may.keeps.codes joined in
    let can = copies_can s closed.books c.from.result c.in_ok-journals.journals.items c.in_ok-journals.ensures.ok many may.can in
    false≢true (sym c.if-not-branch.true ∙ c.in_ok-can_open.ensures.can.1 (subst (λ (l : List History). CanOpenFrom s l) (sym c.deref.ensures.value) can))

pub returns-clause-tellers : goal.returns-clause-tellers
returns-clause-tellers c =
    let books = c.args.self.now.books in
    let journals = c.deref-2.result.now in
    if_ok c.open_from.result _ (λ r. (length r.1.items ≡ c.args.tellers) × AreNextTellers books r.0 r.1.items)
    (λ r first. (first.enough, next_tellers books journals r.0 c.args.tellers r.1.items (λ p. ap (λ (l : List History). books_of l p) c.deref-2.ensures.value ∙ c.in_ok-journals.ensures.ok.same p) first))
    c.open_from.ensures.tellers

pub returns-clause-may : goal.returns-clause-may
returns-clause-may c =
    let s : HubSettings = c.args.settings in
    let closed = c.args.self.now in
    let can = subst (λ (l : List History). CanOpenFrom s l) c.deref.ensures.value (c.in_ok-can_open.ensures.can.0 c.if-not-branch.false) in
    if_ok c.open_from.result (λ r. MayOpen c.args.tellers) (λ r. MayOpenUnder closed s c.args.tellers)
    (λ r seats. record {
      keeps = subst (λ (t : HubSettings). KeepsBaseAndCodes t s) c.settings.ensures.settings (c.keeps_base_and_codes.ensures.0 c.if-not-keeps_base_and_codes.false);
      settings = subst (λ (t : HubSettings). IsSettings t) c.settings-2.view_is c.settings-2.invariant.0;
      can = books_can s closed.books c.from.result c.in_ok-journals.journals.items c.in_ok-journals.ensures.ok can;
      seats = seats;
    })
    (seats_if_ok c.open_from.result c.args.tellers c.open_from.ensures.bad.1)
