use Rattle.std.proofs.Common.{◌∙◌, length, drop, sym}
use Rattle.std.proofs.lemmas.Slice.Eq.{bytes_eq-Decides, starts_is}
use Rattle.inst_close.proofs.widening.keeps_base_and_codes.Goals as goal

pub returns-then-base : goal.returns-then-base
returns-then-base c =
    let old = c.args.old.now.codes in
    let new = c.args.new.now.codes in
    let begins = rw (c.codes.ensures, c.codes-then-base.ensures) at c.starts_with.ensures.value in
    let is = starts_is bytes_eq-Decides new old c.starts_with.result begins in (
      λ yes. record {
        base = sym c.base.ensures.value ∙ c.if-base.true ∙ c.base-2.ensures.value;
        codes = (drop (length old) new, sym (is.0 yes));
      },
      λ keeps. is.1 keeps.codes.0 (sym keeps.codes.1),
    )
