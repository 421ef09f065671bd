use Rattle.std.proofs.Common.{[], ◌∷◌, ◌++◌, ap, ◌∙◌, refl, codes, List, ℕ}
use Rattle.std.proofs.lemmas.Result.{on_ok_weaker}
use Rattle.json.specs.Print.{escape_byte}
use Rattle.serde_json.specs.Written.{compact_text}
use Rattle.inst_json.specs.Replies.{whole}
use Rattle.inst_json.proofs.TextsWithoutEscapes.{escape-code}
use Rattle.inst_books.specs.Events.{event_member, fetched_data}
use Rattle.inst_books.proofs.ObjectTextByMembers.{begun, text_next, whole_next, ended}
use Rattle.inst_books.proofs.write.append_fetched.Goals as goal

pub returns : goal.returns
unfolding escape_byte
returns c =
    let old : List ℕ = c.args.out.now.items in
    let book = c.args.book.now in
    let number = c.from.result in
    let begin = begun old book (escape-code book c.requires) c.in_ok-push_book.ensures in
    let count = whole_next old book [] (codes "count") number refl begin c.in_ok-push_whole_member.ensures in
    let all = text_next old book ((codes "count", whole number) ∷ []) (codes "event") (codes "fetched") refl refl count c.in_ok-push_text_member.ensures in
    let same = ap (λ n. old ++ compact_text (fetched_data book n)) c.from.ensures in
    on_ok_weaker c.push_end.result (λ h. ended old book ((codes "count", whole number) ∷ event_member (codes "fetched") ∷ []) all h ∙ same) c.push_end.ensures
