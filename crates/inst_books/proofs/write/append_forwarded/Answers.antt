use Rattle.std.proofs.Common.{[], ◌∷◌, ◌++◌, ap₂, ◌∙◌, refl, codes, List, ℕ}
use Rattle.std.proofs.lemmas.Result.{on_ok_weaker}
use Rattle.json.specs.Print.{escape_byte}
use Rattle.serde_json.specs.Data.{string}
use Rattle.serde_json.specs.Written.{compact_text}
use Rattle.inst_json.specs.Replies.{whole}
use Rattle.inst_json.proofs.TextsWithoutEscapes.{escape-code, escape-identifier}
use Rattle.inst_books.specs.Events.{event_member, forwarded_data}
use Rattle.inst_books.proofs.ObjectTextByMembers.{begun, text_next, whole_next, ended}
use Rattle.inst_books.proofs.write.append_forwarded.Goals as goal

pub returns-clause-text : goal.returns-clause-text
unfolding escape_byte
returns-clause-text c =
    let old : List ℕ = c.args.out.now.items in
    let book = c.args.book.now in
    let id = c.text-id.result.now in
    let from = c.args.from.now in
    let amount = c.get.result in
    let ms = c.args.deadline in
    let begin = begun old book (escape-code book c.requires.book) c.in_ok-push_book.ensures in
    let cents = whole_next old book [] (codes "cents") amount refl begin c.in_ok-push_whole_member.ensures in
    let deadline = whole_next old book ((codes "cents", whole amount) ∷ []) (codes "deadline") ms refl cents c.in_ok-push_whole_member-2.ensures in
    let event = text_next old book ((codes "cents", whole amount) ∷ (codes "deadline", whole ms) ∷ []) (codes "event") (codes "forwarded") refl refl deadline c.in_ok-push_text_member.ensures in
    let from_put = text_next old book ((codes "cents", whole amount) ∷ (codes "deadline", whole ms) ∷ event_member (codes "forwarded") ∷ []) (codes "from") from refl (escape-code from c.requires.from) event c.in_ok-push_text_member-2.ensures in
    let all = text_next old book ((codes "cents", whole amount) ∷ (codes "deadline", whole ms) ∷ event_member (codes "forwarded") ∷ (codes "from", string from) ∷ []) (codes "id") id refl (escape-identifier id c.text-id.ensures.form) from_put c.in_ok-push_text_member-3.ensures in
    let same = ap₂ (λ i n. old ++ compact_text (forwarded_data book from i n ms)) c.text-id.ensures.value c.get.ensures.value in
    on_ok_weaker c.push_end.result (λ h. ended old book ((codes "cents", whole amount) ∷ (codes "deadline", whole ms) ∷ event_member (codes "forwarded") ∷ (codes "from", string from) ∷ (codes "id", string id) ∷ []) all h ∙ same) c.push_end.ensures
