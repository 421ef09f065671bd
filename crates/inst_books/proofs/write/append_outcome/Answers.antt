use Rattle.std.proofs.Common.{[], ◌∷◌, ◌++◌, ap, ◌∙◌, refl, codes, List, ℕ}
use Rattle.std.proofs.lemmas.Result.{on_ok_weaker}
use Rattle.json.specs.Print.{escape_byte}
use Rattle.serde_json.specs.Data.{string}
use Rattle.serde_json.specs.Written.{compact_text}
use Rattle.inst_json.proofs.TextsWithoutEscapes.{escape-code, escape-identifier}
use Rattle.inst_books.specs.Events.{event_member, booked_data}
use Rattle.inst_books.proofs.ObjectTextByMembers.{escape-name, begun, text_next, ended}
use Rattle.inst_books.proofs.write.append_outcome.Goals as goal

pub returns-clause-text : goal.returns-clause-text
unfolding escape_byte
returns-clause-text c =
    let old : List ℕ = c.args.out.now.items in
    let book = c.args.book.now in
    let id = c.text-id.result.now in
    let from = c.args.from.now in
    let name = c.args.name.now in
    let begin = begun old book (escape-code book c.requires.book) c.in_ok-push_book.ensures in
    let event = text_next old book [] (codes "event") (codes "booked") refl refl begin c.in_ok-push_text_member.ensures in
    let from_put = text_next old book (event_member (codes "booked") ∷ []) (codes "from") from refl (escape-code from c.requires.from) event c.in_ok-push_text_member-2.ensures in
    let id_put = text_next old book (event_member (codes "booked") ∷ (codes "from", string from) ∷ []) (codes "id") id refl (escape-identifier id c.text-id.ensures.form) from_put c.in_ok-push_text_member-3.ensures in
    let all = text_next old book (event_member (codes "booked") ∷ (codes "from", string from) ∷ (codes "id", string id) ∷ []) (codes "outcome") name refl (escape-name name c.requires.name) id_put c.in_ok-push_text_member-4.ensures in
    let same = ap (λ i. old ++ compact_text (booked_data book from i name)) c.text-id.ensures.value in
    on_ok_weaker c.push_end.result (λ h. ended old book (event_member (codes "booked") ∷ (codes "from", string from) ∷ (codes "id", string id) ∷ (codes "outcome", string name) ∷ []) all h ∙ same) c.push_end.ensures
