use Rattle.std.proofs.Common.{[], ◌∷◌, ◌++◌, ap₂, ◌∙◌, refl, codes, List, ℕ}
use Rattle.std.proofs.lemmas.Result.{on_ok_weaker}
use Rattle.json.specs.Print.{escape_byte}
use Rattle.serde_json.specs.Data.{string}
use Rattle.serde_json.specs.Written.{compact_text}
use Rattle.inst_json.specs.Replies.{whole}
use Rattle.inst_json.proofs.TextsWithoutEscapes.{escape-code, escape-identifier}
use Rattle.inst_books.specs.Events.{event_member, funding_data}
use Rattle.inst_books.proofs.ObjectTextByMembers.{escape-name, begun, text_next, whole_next, ended}
use Rattle.inst_books.proofs.write.append_funding.Goals as goal

pub returns-clause-text : goal.returns-clause-text
unfolding escape_byte
returns-clause-text c =
    let old : List ℕ = c.args.out.now.items in
    let book = c.args.book.now in
    let name = c.args.name.now in
    let reference = c.text-reference.result.now in
    let amount = c.get-cents.result in
    let begin = begun old book (escape-code book c.requires.book) c.in_ok-push_book.ensures in
    let cents = whole_next old book [] (codes "cents") amount refl begin c.in_ok-push_whole_member.ensures in
    let event = text_next old book ((codes "cents", whole amount) ∷ []) (codes "event") name refl (escape-name name c.requires.name) cents c.in_ok-push_text_member.ensures in
    let all = text_next old book ((codes "cents", whole amount) ∷ event_member name ∷ []) (codes "ref") reference refl (escape-identifier reference c.text-reference.ensures.form) event c.in_ok-push_text_member-2.ensures in
    let same = ap₂ (λ r n. old ++ compact_text (funding_data book name (record { reference = r; cents = n }))) c.text-reference.ensures.value c.get-cents.ensures.value in
    on_ok_weaker c.push_end.result (λ h. ended old book ((codes "cents", whole amount) ∷ event_member name ∷ (codes "ref", string reference) ∷ []) all h ∙ same) c.push_end.ensures
