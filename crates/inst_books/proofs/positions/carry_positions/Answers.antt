use Rattle.std.proofs.Common.{◌≡◌, ◌<◌, ℕ, List, [], length, get_or, Option, None, IfSome, Vec, Global, sym, subst}
use Rattle.inst_settings.specs.Codes.{index_of}
use Rattle.inst_settings.specs.Settings.{participants}
use Rattle.inst_journal.specs.History.{History}
use Rattle.inst_books.specs.inner.Carrying.{AreAllPositions, AreFunded}
use Rattle.inst_books.proofs.CarriedPositions.{all_settled, only_funds, same_position}
use Rattle.inst_books.proofs.positions.carry_positions.Goals as goal

pub returns-clause-carried : goal.returns-clause-carried
returns-clause-carried c =
    let old = c.args.old.now in
    let new = c.args.new.now in
    let books = c.args.books.now in
    let next = c.in-Some.next.items in
    let positions = c.in_ok-positions.positions.items in
    let are : AreAllPositions books positions = c.in_ok-positions.ensures in
    let left : (p : ℕ) → p < length positions → index_of (get_or old.codes p []) new.codes ≡ None → get_or positions p 0 ≡ 0 =
    subst (λ (xs : List ℕ). (p : ℕ) → p < length xs → index_of (get_or old.codes p []) new.codes ≡ None → get_or xs p 0 ≡ 0) c.deref.ensures.value (c.leaves_with_money.ensures c.if-leaves_with_money.false) in
    let made : (length next ≡ participants new) × AreFunded old books new.codes next =
    subst (λ (o : Option (Vec History Global)). IfSome o (λ next. (books : List History) → AreAllPositions books c.deref-2.result.now → (length next.items ≡ participants new) × AreFunded old books new.codes next.items)) c.in-Some.is c.in_ok-next.ensures
    books (subst (AreAllPositions books) (sym c.deref-2.ensures.value) are) in
    record {
      settled = all_settled books positions are;
      same = λ code. same_position old new books next positions c.requires.one_each are made.0 made.1 left code;
      only = only_funds next made.1.only;
    }
