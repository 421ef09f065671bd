use Rattle.std.proofs.Common.{[], ◌∷◌, refl, codes, List, ℕ}
use Rattle.std.proofs.lemmas.Result.{on_ok_weaker}
use Rattle.json.specs.Print.{escape_byte}
use Rattle.inst_json.proofs.TextsWithoutEscapes.{escape-code}
use Rattle.inst_books.specs.Events.{event_member}
use Rattle.inst_books.proofs.ObjectTextByMembers.{begun, text_next, ended}
use Rattle.inst_books.proofs.write.append_opened.Goals as goal

pub returns : goal.returns
unfolding escape_byte
returns c =
    let old : List ℕ = c.args.out.now.items in
    let book = c.args.book.now in
    let begin = begun old book (escape-code book c.requires) c.in_ok-push_book.ensures in
    let all = text_next old book [] (codes "event") (codes "opened") refl refl begin c.in_ok-push_text_member.ensures in
    on_ok_weaker c.push_end.result (λ h. ended old book (event_member (codes "opened") ∷ []) all h) c.push_end.ensures
