use Rattle.std.proofs.Common.{[], ◌∷◌, ◌++◌, ap₂, ◌∙◌, refl, codes, List, ℕ}
use Rattle.std.proofs.lemmas.Result.{on_ok_weaker}
use Rattle.json.specs.Print.{escape_byte}
use Rattle.serde_json.specs.Data.{string}
use Rattle.serde_json.specs.Written.{compact_text}
use Rattle.inst_json.proofs.TextsWithoutEscapes.{escape-code, escape-identifier, escape-reason}
use Rattle.inst_books.specs.Events.{event_member, rejected_event_data}
use Rattle.inst_books.proofs.ObjectTextByMembers.{begun, text_next, ended}
use Rattle.inst_books.proofs.write.append_rejected.Goals as goal

pub returns-clause-text : goal.returns-clause-text
unfolding escape_byte
returns-clause-text c =
    let old : List ℕ = c.args.out.now.items in
    let book = c.args.book.now in
    let id = c.text-id.result.now in
    let from = c.args.from.now in
    let reason = c.text-reason.result.now in
    let begin = begun old book (escape-code book c.requires.book) c.in_ok-push_book.ensures in
    let event = text_next old book [] (codes "event") (codes "booked") refl refl begin c.in_ok-push_text_member.ensures in
    let from_put = text_next old book (event_member (codes "booked") ∷ []) (codes "from") from refl (escape-code from c.requires.from) event c.in_ok-push_text_member-2.ensures in
    let id_put = text_next old book (event_member (codes "booked") ∷ (codes "from", string from) ∷ []) (codes "id") id refl (escape-identifier id c.text-id.ensures.form) from_put c.in_ok-push_text_member-3.ensures in
    let outcome = text_next old book (event_member (codes "booked") ∷ (codes "from", string from) ∷ (codes "id", string id) ∷ []) (codes "outcome") (codes "rejected") refl refl id_put c.in_ok-push_text_member-4.ensures in
    let all = text_next old book (event_member (codes "booked") ∷ (codes "from", string from) ∷ (codes "id", string id) ∷ (codes "outcome", string (codes "rejected")) ∷ []) (codes "reason") reason refl (escape-reason reason c.text-reason.ensures.form) outcome c.in_ok-push_text_member-5.ensures in
    let same = ap₂ (λ i r. old ++ compact_text (rejected_event_data book from i r)) c.text-id.ensures.value c.text-reason.ensures.value in
    on_ok_weaker c.push_end.result (λ h. ended old book (event_member (codes "booked") ∷ (codes "from", string from) ∷ (codes "id", string id) ∷ (codes "outcome", string (codes "rejected")) ∷ (codes "reason", string reason) ∷ []) all h ∙ same) c.push_end.ensures
