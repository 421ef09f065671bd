use Rattle.std.proofs.Common.{◌≡◌, ◌++◌, false, nat_lt, drop, string_bytes}
use Rattle.inst_logged.specs.Header.{quoted_codes}
use Rattle.inst_logged.proofs.header.push_codes.Given as goal

abbrev pub invariant-loop-number : goal.invariant-loop-number
invariant-loop-number l =
    string_bytes l.text ++ quoted_codes (nat_lt 0 l.number) (drop l.number l.settings.codes) ≡ string_bytes l.fn.text ++ quoted_codes false l.settings.codes
