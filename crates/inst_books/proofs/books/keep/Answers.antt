use Rattle.std.proofs.Common.{◌<◌, length, ap, ◌∙◌, arith}
use Rattle.inst_books.specs.Books.{all_events, books_with_event}
use Rattle.inst_books.proofs.Journals.{kept_in}
use Rattle.inst_books.proofs.books.keep.Goals as goal

pub returns : goal.returns
returns c =
    let low : c.from.result < length c.args.journals.now = omega (arith, c.from.ensures) in
    kept_in c.args.journals.now c.from.result c.args.event c.index-journals-from.result c.push.new.self low c.in_ok-push.ensures.ok
    ∙ ap (λ n. books_with_event n c.args.event (all_events c.args.journals.now)) c.from.ensures
