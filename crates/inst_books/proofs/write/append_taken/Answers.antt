use Rattle.std.proofs.Common.{[], ◌∷◌, ◌++◌, ap₂, ◌∙◌, refl, codes, List, ℕ}
use Rattle.std.proofs.lemmas.Result.{on_ok_weaker}
use Rattle.json.specs.Print.{escape_byte}
use Rattle.serde_json.specs.Data.{string}
use Rattle.serde_json.specs.Written.{compact_text}
use Rattle.inst_json.specs.Replies.{whole}
use Rattle.inst_json.proofs.TextsWithoutEscapes.{escape-code, escape-identifier}
use Rattle.inst_books.specs.Events.{event_member, taken_event_data}
use Rattle.inst_books.proofs.ObjectTextByMembers.{begun, text_next, whole_next, ended}
use Rattle.inst_books.proofs.write.append_taken.Goals as goal

pub returns-clause-text : goal.returns-clause-text
unfolding escape_byte
returns-clause-text c =
    let old : List ℕ = c.args.out.now.items in
    let book = c.args.book.now in
    let id = c.text-id.result.now in
    let to = c.args.to.now in
    let amount = c.get.result in
    let ms = c.args.stamp in
    let begin = begun old book (escape-code book c.requires.book) c.in_ok-push_book.ensures in
    let cents = whole_next old book [] (codes "cents") amount refl begin c.in_ok-push_whole_member.ensures in
    let event = text_next old book ((codes "cents", whole amount) ∷ []) (codes "event") (codes "taken") refl refl cents c.in_ok-push_text_member.ensures in
    let id_put = text_next old book ((codes "cents", whole amount) ∷ event_member (codes "taken") ∷ []) (codes "id") id refl (escape-identifier id c.text-id.ensures.form) event c.in_ok-push_text_member-2.ensures in
    let stamp = whole_next old book ((codes "cents", whole amount) ∷ event_member (codes "taken") ∷ (codes "id", string id) ∷ []) (codes "stamp") ms refl id_put c.in_ok-push_whole_member-2.ensures in
    let all = text_next old book ((codes "cents", whole amount) ∷ event_member (codes "taken") ∷ (codes "id", string id) ∷ (codes "stamp", whole ms) ∷ []) (codes "to") to refl (escape-code to c.requires.to) stamp c.in_ok-push_text_member-3.ensures in
    let same = ap₂ (λ i n. old ++ compact_text (taken_event_data book i to n ms)) c.text-id.ensures.value c.get.ensures.value in
    on_ok_weaker c.push_end.result (λ h. ended old book ((codes "cents", whole amount) ∷ event_member (codes "taken") ∷ (codes "id", string id) ∷ (codes "stamp", whole ms) ∷ (codes "to", string to) ∷ []) all h ∙ same) c.push_end.ensures
