use Rattle.std.proofs.Common.{◌≡◌, sym, ◌∙◌, [], subst}
use Rattle.inst_settings.specs.Settings.{HubSettings, participants}
use Rattle.inst_settings.specs.Lawful.{IsSettings}
use Rattle.inst_model.specs.Opening.{BooksCanOpen}
use Rattle.inst_world.specs.HasRun.{World}
use Rattle.inst_world.specs.NextOpening.{books_of, opening_from}
use Rattle.inst_world.specs.inner.NextOpening.{HaveFoundBefore, OnlyFinds}
use Rattle.inst_world.proofs.NothingRunSinceOpening.{has_run_none, is_world_again}
use Rattle.inst_world.proofs.world.World.open_from.Goals as goal

pub adopt_all-requires : goal.adopt_all-requires
adopt_all-requires c = record { settings = c.in_ok-opened.ensures.ok.settings_are }

pub invariant_of-result : goal.invariant_of-result
invariant_of-result c =
    let s = c.in_ok-settings.settings in
    let can = subst (λ (t : HubSettings). BooksCanOpen t (books_of c.args.journals.now)) (sym c.in_ok-settings.ensures.ok) c.requires.journals.books in
    let first : World = c.in_ok-opened.opened in
    let opened = c.in_ok-opened.ensures.ok in
    let world : World = record { books = c.opened.inside.slots.items; board = c.opened.inside.board } in
    let finds = subst (λ (w : World). OnlyFinds first w) (sym c.opened.view_is) c.adopt_all.ensures.finds in
    let found = subst (λ (w : World). HaveFoundBefore (participants s) 0 w) (sym c.opened.view_is) c.adopt_all.ensures.found in
    let same : world.board.settings ≡ s = finds.settings_are ∙ opened.settings_are in (
      is_world_again s (books_of c.args.journals.now) can first opened world finds c.opened.invariant found,
      same,
      subst IsSettings (sym (same ∙ c.in_ok-settings.ensures.ok)) c.copy.ensures.lawful,
      (opening_from c.args.journals.now, [], has_run_none s (books_of c.args.journals.now) can first opened world finds c.opened.invariant),
    )

pub returns : goal.returns
returns c =
    let s = c.in_ok-settings.settings in
    let can = subst (λ (t : HubSettings). BooksCanOpen t (books_of c.args.journals.now)) (sym c.in_ok-settings.ensures.ok) c.requires.journals.books in
    let first : World = c.in_ok-opened.opened in
    let opened = c.in_ok-opened.ensures.ok in
    let world : World = record { books = c.opened.inside.slots.items; board = c.opened.inside.board } in
    let finds = subst (λ (w : World). OnlyFinds first w) (sym c.opened.view_is) c.adopt_all.ensures.finds in
    record {
      ok = (finds.settings_are ∙ opened.settings_are ∙ c.in_ok-settings.ensures.ok, has_run_none s (books_of c.args.journals.now) can first opened world finds c.opened.invariant);
    }
