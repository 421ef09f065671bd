use Rattle.std.proofs.Common.{◌≡◌, ◌∙◌, ◌<◌, [], ◌∷◌, length, length-append, sym, ap, subst, arith}
use Rattle.inst_journal.specs.Sound.{IsSound}
use Rattle.inst_world.specs.NextOpening.{books_of}
use Rattle.inst_world.proofs.BoardOfReopenedHub.{book_at}
use Rattle.inst_books.specs.inner.Carrying.{ArePositionsOf}
use Rattle.inst_books.proofs.CarriedPositions.{one_position}
use Rattle.inst_books.proofs.positions.settled_positions.Goals as goal

pub settled_position-requires : goal.settled_position-requires
settled_position-requires c =
    let books = c.args.books.now in
    let who = c.loop-who.who in
    let within : c.from.result < length books = omega (arith, c.from.ensures, c.loop-who-test.true, c.participants-who-end.ensures.value, c.requires.one_each) in
    let here : books_of books who ≡ c.index-books-from.result.events = book_at books c.from.result who c.index-books-from.result within c.from.ensures c.index-books-from.is in
    subst (IsSound c.args.settings.now who) here (c.requires.closed.sound who)

pub loop-who-preserved : goal.loop-who-preserved
loop-who-preserved c =
    let books = c.args.books.now in
    let who = c.loop-who.who in
    let old = c.loop-who.positions.items in
    let within : c.from.result < length books = omega (arith, c.from.ensures, c.loop-who-test.true, c.participants-who-end.ensures.value, c.requires.one_each) in
    let here : books_of books who ≡ c.index-books-from.result.events = book_at books c.from.result who c.index-books-from.result within c.from.ensures c.index-books-from.is in
    let pushed = c.in-Ok.ensures.items in
    record {
      count = omega (arith, ap length pushed, length-append old (c.in_ok-position.position ∷ []), c.loop-who.invariant.count);
      are = subst (ArePositionsOf books) (sym pushed)
          (one_position books old c.index-books-from.result c.in_ok-position.position (ap (books_of books) c.loop-who.invariant.count ∙ here)
          c.in_ok-position.ensures.0 c.in_ok-position.ensures.1 c.loop-who.invariant.are);
    }
