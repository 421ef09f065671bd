use Rattle.std.proofs.Common.{◌∙◌, sym, subst, List, inl, inr, ⊎_elim}
use Rattle.inst_slot.specs.Book.{Book}
use Rattle.inst_cell.specs.Held.{settings_of, knows, has_role}
use Rattle.inst_participant.specs.Parts.{AreParts}
use Rattle.inst_participant.specs.Uniting.{AreSeparate, AreAtOne}
use Rattle.inst_participant.proofs.BooksLawfulOverJoinedBoard.{parts_made}
use Rattle.inst_participant.proofs.parts.Parts.unite.Goals as goal

pub join_all-requires : goal.join_all-requires
join_all-requires c =
    let s = c.requires.one in
    record { some = c.requires.some; one = (s.0, subst (λ (l : List Book). AreAtOne s.0 c.args.settings l c.args.boards.items) (sym c.deref.ensures.value) s.1) }

pub tell_all-board-requires : goal.tell_all-board-requires
tell_all-board-requires c =
    let s = c.requires.one in
    let one = c.join_all.ensures.one s.0 (subst (λ (l : List Book). AreAtOne s.0 c.args.settings l c.args.boards.items) (sym c.deref.ensures.value) s.1) in
    record { sights = λ i t at. let u = s.2 i t at in (u.0 ∙ sym one.0, u.1 ∙ sym one.1) }

pub returns-clause-parts : goal.returns-clause-parts
returns-clause-parts c = λ words O sep.
    let sep_too = subst (λ (l : List Book). AreSeparate words O c.args.settings l c.args.boards.items) (sym c.deref.ensures.value) sep in
    let joined = c.join_all.ensures.joined words O sep_too in
    let m = parts_made words O c.args.settings c.deref.result.now c.args.boards.items c.join_all.result c.tell_all-board.result sep_too joined c.tell_all-board.ensures.told in
    record { settings_are = m.0; books = subst (λ (l : List Book). AreParts settings_of knows has_role c.tell_all-board.result O l) c.deref.ensures.value m.1 }

pub returns-clause-known : goal.returns-clause-known
returns-clause-known c = λ f. (
  λ kn. ⊎_elim (λ one. inl ((c.join_all.ensures.known f).0 one)) (λ seen. inr seen) ((c.tell_all-board.ensures.known f).0 kn),
  λ one. (c.tell_all-board.ensures.known f).1 (⊎_elim (λ had. inl ((c.join_all.ensures.known f).1 had)) (λ seen. inr seen) one),
)
