use Rattle.std.proofs.Common.{map, string_bytes, refl}
use Rattle.inst_options.specs.Asking.{IsNoWish, IsWished}
use Rattle.inst_program.proofs.ChangesByExitStatus.{ends_done, ends_undone, ends_wrong}
use Rattle.inst_program.proofs.LogAfterVisit.{nothing_happened}
use Rattle.inst_program.proofs.tasks.program.Goals as goal

pub returns-in-Ok-serve-clause-ends : goal.returns-in-Ok-serve-clause-ends
returns-in-Ok-serve-clause-ends g c =
    let words = map string_bytes c.args.words.items in
    let wished : IsWished words c.in-Ok.wish = rw c.deref.ensures.value at c.in-Ok.ensures.ok in
    ends_done words _ _ _ (c.in-Ok-serve.ensures.ok words wished)

pub returns-in-Ok-clause-ends : goal.returns-in-Ok-clause-ends
returns-in-Ok-clause-ends g c =
    let words = map string_bytes c.args.words.items in
    let wished : IsWished words c.in-Ok.wish = rw c.deref.ensures.value at c.in-Ok.ensures.ok in
    ends_undone words _ _ _ c.in-Err-serve.ending _ c.tell_ending.ensures (c.in-Err-serve.ensures.err words wished)

pub returns-clause-ends : goal.returns-clause-ends
returns-clause-ends g c =
    let words = map string_bytes c.args.words.items in
    let none : IsNoWish words c.in-Err.error = rw c.deref.ensures.value at c.in-Err.ensures.err in
    ends_wrong words _ _ _ c.in-Err.error _ (nothing_happened (g.L.Logs.files c.args.logs.now)) refl c.tell_error.ensures.written none c.tell_error.ensures.status
