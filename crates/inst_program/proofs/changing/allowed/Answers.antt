use Rattle.std.proofs.Common.{◌≡◌, ◌∙◌, sym, subst, IfSome, take}
use Rattle.std.specs.Prelude.{bytes_eq}
use Rattle.std.proofs.lemmas.Bool.{false≢true}
use Rattle.std.proofs.lemmas.Slice.Eq.{bytes_eq-Decides}
use mathlib.Core.List.{IsPrefix}
use Rattle.inst_settings.specs.Settings.{HubSettings, participants}
use Rattle.inst_world.specs.NextOpening.{CanOpenFrom}
use Rattle.inst_program.specs.inner.Changing.{Allows}
use Rattle.inst_program.proofs.BooksUnderChanges.{begins_so, begins_then, some_if}
use Rattle.inst_program.proofs.changing.allowed.Goals as goal

pub returns-then-not-starts_with-clause-none : goal.returns-then-not-starts_with-clause-none
returns-then-not-starts_with-clause-none c = λ none allows.
    let begins = rw (c.codes.ensures, c.codes-2.ensures) at c.starts_with.ensures.value in
    let codes : IsPrefix c.args.settings.now.codes c.in-Ok.next.codes = subst (λ (s : HubSettings). IsPrefix c.args.settings.now.codes s.codes) (sym c.in-Ok.ensures.settings) allows.codes in
    false≢true (sym c.if-not-starts_with.true ∙ begins ∙ begins_then bytes_eq bytes_eq-Decides c.in-Ok.next.codes c.args.settings.now.codes codes)

pub returns-clause-allows : goal.returns-clause-allows
returns-clause-allows c =
    let begins = rw (c.codes.ensures, c.codes-2.ensures) at c.starts_with.ensures.value in
    let next = c.in-Ok.next in
    let journals = c.args.journals.now in
    let count : c.from-participants.result ≡ participants next = c.from-participants.ensures ∙ c.participants.ensures.value in
    let P : HubSettings → Type 0 = Allows c.args.changes.now c.args.settings.now journals in
    subst (λ o. IfSome o P) (sym c.then_some.ensures) (some_if c.in_ok-can.can next P (λ can. record {
      settings = c.in-Ok.ensures.settings;
      base = sym c.base.ensures.value ∙ c.if-base.false ∙ c.base-2.ensures.value;
      lawful = c.in-Ok.ensures.lawful;
      codes = begins_so bytes_eq bytes_eq-Decides next.codes c.args.settings.now.codes (sym begins ∙ c.if-not-starts_with.false);
      can = subst (λ n. CanOpenFrom next (take n journals)) count (c.in_ok-can.ensures.can.0 can);
    }))
