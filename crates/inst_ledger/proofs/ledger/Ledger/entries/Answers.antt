use Rattle.std.proofs.Common.{◌≡◌, ℕ, ◌<◌, ◌++◌, ◌∷◌, [], List, Option, Some, length, get_or, take, sym, ap, ◌∙◌, subst, refl}
use Rattle.std.proofs.lemmas.Option.{same_Some, slice_get-get_or}
use Rattle.std.specs.Prelude.{slice_get, IsSome}
use Rattle.inst_command.specs.declared.entry.Entry.{Entry}
use Rattle.inst_transfers.specs.State.{rows_of}
use Rattle.inst_ledger.specs.Book.{BookAndRoom}
use Rattle.inst_ledger.specs.Inbox.{no_entry, entries_at}
use Rattle.inst_ledger.proofs.Inbox.{within_get, entries_more}
use Rattle.inst_ledger.proofs.ledger.Ledger.entries.Goals as goal

there : {rows held : List Entry} {p : ℕ} {found : Option Entry} → held ≡ rows → p < length rows → found ≡ slice_get held p → found ≡ Some (get_or rows p no_entry)
there {rows} {held} {p} same within is = is ∙ ap (λ (l : List Entry). slice_get l p) same ∙ slice_get-get_or rows p no_entry within

pub unwrap-requires : goal.unwrap-requires
unwrap-requires c =
    let b = c.args.self.now.book in
    let rows = c.self.invariant.beside.right.rows ∙ ap (λ (k : BookAndRoom). rows_of k.book.who k.book.events) c.self.view_is in
    let below = within_get (length (rows_of b.who b.events)) c.args.positions.now c.loop-position.position-index c.requires.within c.loop-position-test.true in
    subst IsSome (sym (there rows below c.entry_at.ensures)) refl

pub loop-position-preserved : goal.loop-position-preserved
loop-position-preserved c =
    let b = c.args.self.now.book in
    let ps = c.args.positions.now in
    let i = c.loop-position.position-index in
    let rows = c.self.invariant.beside.right.rows ∙ ap (λ (k : BookAndRoom). rows_of k.book.who k.book.events) c.self.view_is in
    let below = within_get (length (rows_of b.who b.events)) ps i c.requires.within c.loop-position-test.true in
    let entry = sym c.unwrap.ensures ∙ there rows below c.entry_at.ensures in
    c.in_ok-push.ensures.items ∙ ap (λ (l : List Entry). l ++ c.unwrap.result ∷ []) c.loop-position.invariant
    ∙ ap (λ (e : Entry). entries_at (rows_of b.who b.events) (take i ps) ++ e ∷ []) (same_Some _ _ entry) ∙ sym (entries_more (rows_of b.who b.events) ps i c.loop-position-test.true)
