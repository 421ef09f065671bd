use Rattle.std.proofs.Common.{◌≡◌, ◌∙◌, ℕ, length, sym, ap, subst, List}
use Rattle.inst_base.specs.declared.code.Code.{Code}
use Rattle.inst_settings.specs.Settings.{HubSettings}
use Rattle.inst_settings.specs.Lawful.{IsSettings}
use Rattle.inst_cell.specs.Opening.{MayOpen}
use Rattle.inst_journal.specs.History.{History}
use Rattle.inst_world.specs.NextOpening.{CanOpenFrom, books_of}
use Rattle.inst_participant.specs.Together.{histories}
use Rattle.inst_participant.proofs.OneBookSettlesOthersStay.{if_ok}
use Rattle.inst_participant.specs.Wider.{widened}
use Rattle.inst_close.specs.Closing.{IsNextOf, AreNextTellers}
use Rattle.inst_close.specs.NextOpening.{MayOpenWider}
use Rattle.inst_close.proofs.NextHubFromCopies.{if_both, widened_as, can_open_as, next_is, next_tellers, seats_if_ok}
use Rattle.inst_close.proofs.books.Books.open_wider.Goals as goal
use Rattle.inst_close.proofs.books.Books.open_wider.Goals.{After-deref-2}

wide : (c : After-deref-2) → c.in_ok-settings.settings ≡ widened c.args.self.now.settings c.args.codes.items
wide c =
    widened_as c.args.self.now c.args.codes.items c.deref.result.now c.settings.result.now c.in_ok-settings.settings c.settings.ensures.settings c.deref.ensures.value c.in_ok-settings.ensures.ok.0

can_open : (c : After-deref-2) → CanOpenFrom c.in_ok-settings.settings c.deref-2.result.now
can_open c =
    let many : c.len.result ≡ length c.args.codes.items = c.len.ensures ∙ (sym c.deref.ensures.len ∙ ap (λ (l : List Code). length l) c.deref.ensures.value) in
    can_open_as c.args.self.now c.args.codes.items c.in_ok-settings.settings c.len.result c.deref-2.result.now c.in_ok-journals.journals.items (wide c) many c.deref-2.ensures.value
    (record { lawful = c.settings.ensures.lawful; one_each = c.settings.ensures.one_each; numbered = c.settings.ensures.numbered; closed = c.settings.ensures.closed }) (c.may_open.ensures.few c.if-not-may_open.false) c.in_ok-journals.ensures.ok

pub open_from-requires : goal.open_from-requires
open_from-requires c = record { journals = can_open c }

copied : (c : After-deref-2) (p : ℕ) → books_of c.deref-2.result.now p ≡ histories c.args.self.now.books p
copied c p = ap (λ (l : List History). books_of l p) c.deref-2.ensures.value ∙ c.in_ok-journals.ensures.ok.same p

pub returns-clause-tellers : goal.returns-clause-tellers
returns-clause-tellers c =
    let here = (goal.at.returns-clause-tellers c).After-deref-2 in
    if_ok c.open_from.result _ (λ r. (length r.1.items ≡ c.args.tellers) × AreNextTellers c.args.self.now.books r.0 r.1.items)
    (λ r first. (first.enough, next_tellers c.args.self.now.books c.deref-2.result.now r.0 c.args.tellers r.1.items (copied here) first)) c.open_from.ensures.tellers

pub returns-clause-opened : goal.returns-clause-opened
returns-clause-opened c =
    let books = c.args.self.now.books in
    let journals = c.deref-2.result.now in
    let same = copied (goal.at.returns-clause-opened c).After-deref-2 in
    if_both c.open_from.result _ _ (λ r. IsNextOf books r.0)
    (λ r settings_are opened. next_is books journals c.in_ok-settings.settings r.0 (can_open (goal.at.returns-clause-opened c).After-deref-2) same settings_are opened)
    c.open_from.ensures.settings c.open_from.ensures.opened

pub returns-clause-may : goal.returns-clause-may
returns-clause-may c =
    if_ok c.open_from.result (λ r. MayOpen c.args.tellers) (λ r. MayOpenWider c.args.self.now c.args.codes.items c.args.tellers)
    (λ r seats. record {
      few = c.may_open.ensures.few c.if-not-may_open.false;
      settings = subst (λ (s : HubSettings). IsSettings s) (wide (goal.at.returns-clause-may c).After-deref-2) c.in_ok-settings.ensures.ok.1;
      seats = seats;
    })
    (seats_if_ok c.open_from.result c.args.tellers c.open_from.ensures.bad.1)
